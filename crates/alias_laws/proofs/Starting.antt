-- Where the parts of a loop's first value begin: the same by the checker's sets and by whole ones.
use Rattle.std.proofs.Common.{◌≡◌, ℕ, ◌+◌, ◌∷◌, [], ◌++◌, List, refl, ap, ap₂}
use Rattle.fut_ast.specs.Sorts.{Text}
use Rattle.fut_scalar.specs.declared.place.BindId.{BindId}
use Rattle.fut_flat.specs.declared.prim.Ref.{Ref}
use Rattle.fut_flat.specs.Terms.{Integer, Truth, Tuple_of, Record_of, Array_of, Binary, Negate, Complement, Index, Project, Update, Replace, Ascribe, Coerce, Declared, Assert, Range, Use, Strict, Lambda, Apply, Let, If, Loop, Terms, no_term, term_and}
use Rattle.fut_flat.specs.Numbers.{numbers}
use Rattle.fut_flat.specs.Erased.{FlatTerm}
use Rattle.fut_types.specs.declared.Head.TheVariants as head
use Rattle.fut_typing.specs.Names.{Names}
use Rattle.fut_aliases.specs.Aliases.{Set}
use Rattle.fut_aliases.specs.Values.{Value, Values}
use Rattle.fut_aliases.specs.Loops.{each_at, with_label, in_order, starts, all_starts, fields_start}
use Rattle.alias_laws.proofs.Worlds.{World}
use Rattle.alias_laws.proofs.Values.{ValueR, scalars, arrays, functions_are, parts_are, ValuesR, no_values, more_values, SetsR, no_sets, more_sets, components_are, part_named_is}

each_same : {w : World} (n : ℕ) {ss ss' : List Set} → SetsR w ss ss' → each_at n ss' ≡ each_at n ss
each_same n no_sets = refl
each_same n (more_sets p ps) = ap (λ x. n ∷ x) (each_same n ps)

module _ (N : Names) {w : World} where
  mutual
    unfolding starts all_starts fields_start

    pub starts_same : (e : FlatTerm) (n : ℕ) {v v' : Value} → ValueR w v v' → starts N e n v' ≡ starts N e n v
    starts_same (Use r at k) n p = each_same n (components_are p)
    starts_same (Lambda ps e) n p = each_same n (components_are p)
    starts_same (Apply f e) n p = each_same n (components_are p)
    starts_same (Let b x e) n p = each_same n (components_are p)
    starts_same (If c t e) n p = each_same n (components_are p)
    starts_same (Loop mark sizes q first turns body) n p = each_same n (components_are p)
    starts_same (Strict Tuple_of mark ts) n (parts_are ps) = all_starts_same ts (1 + n) ps
    starts_same (Strict Tuple_of mark ts) n scalars = refl
    starts_same (Strict Tuple_of mark ts) n (arrays p) = each_same n (components_are (arrays p))
    starts_same (Strict Tuple_of mark ts) n (functions_are {u = u} p) = each_same n (components_are (functions_are {u = u} p))
    starts_same (Strict (Record_of fs) mark ts) n (parts_are {h = head.Record r} ps) = ap (in_order (N.shapes.fields r)) (fields_start_same fs ts (1 + n) (parts_are {h = head.Record r} ps))
    starts_same (Strict (Record_of fs) mark ts) n (parts_are {h = head.Scalar k} ps) = each_same n (components_are (parts_are {h = head.Scalar k} ps))
    starts_same (Strict (Record_of fs) mark ts) n (parts_are {h = head.Array} ps) = each_same n (components_are (parts_are {h = head.Array} ps))
    starts_same (Strict (Record_of fs) mark ts) n (parts_are {h = head.Tuple} ps) = each_same n (components_are (parts_are {h = head.Tuple} ps))
    starts_same (Strict (Record_of fs) mark ts) n (parts_are {h = head.Fun} ps) = each_same n (components_are (parts_are {h = head.Fun} ps))
    starts_same (Strict (Record_of fs) mark ts) n (parts_are {h = head.Rigid m k} ps) = each_same n (components_are (parts_are {h = head.Rigid m k} ps))
    starts_same (Strict (Record_of fs) mark ts) n (parts_are {h = head.Abstract m b} ps) = each_same n (components_are (parts_are {h = head.Abstract m b} ps))
    starts_same (Strict (Record_of fs) mark ts) n scalars = refl
    starts_same (Strict (Record_of fs) mark ts) n (arrays p) = each_same n (components_are (arrays p))
    starts_same (Strict (Record_of fs) mark ts) n (functions_are {u = u} p) = each_same n (components_are (functions_are {u = u} p))
    starts_same (Strict (Integer c k) mark ts) n p = each_same n (components_are p)
    starts_same (Strict (Truth b) mark ts) n p = each_same n (components_are p)
    starts_same (Strict Array_of mark ts) n p = each_same n (components_are p)
    starts_same (Strict (Binary op) mark ts) n p = each_same n (components_are p)
    starts_same (Strict Negate mark ts) n p = each_same n (components_are p)
    starts_same (Strict Complement mark ts) n p = each_same n (components_are p)
    starts_same (Strict (Index is) mark ts) n p = each_same n (components_are p)
    starts_same (Strict (Project f) mark ts) n p = each_same n (components_are p)
    starts_same (Strict Update mark ts) n p = each_same n (components_are p)
    starts_same (Strict (Replace f) mark ts) n p = each_same n (components_are p)
    starts_same (Strict (Ascribe t) mark ts) n p = each_same n (components_are p)
    starts_same (Strict (Coerce t) mark ts) n p = each_same n (components_are p)
    starts_same (Strict (Declared t) mark ts) n p = each_same n (components_are p)
    starts_same (Strict Assert mark ts) n p = each_same n (components_are p)
    starts_same (Strict (Range stepped end) mark ts) n p = each_same n (components_are p)

    all_starts_same : (ts : Terms Ref BindId) (n : ℕ) {vs vs' : Values} → ValuesR w vs vs' → all_starts N ts n vs' ≡ all_starts N ts n vs
    all_starts_same no_term n ps = refl
    all_starts_same (term_and t ts) n no_values = refl
    all_starts_same (term_and t ts) n (more_values p ps) = ap₂ (λ x y. x ++ y) (starts_same t n p) (all_starts_same ts (n + numbers t) ps)

    fields_start_same : (fs : List Text) (ts : Terms Ref BindId) (n : ℕ) {v v' : Value} → ValueR w v v' → fields_start N fs ts n v' ≡ fields_start N fs ts n v
    fields_start_same [] ts n p = refl
    fields_start_same (f ∷ fs) no_term n p = refl
    fields_start_same (f ∷ fs) (term_and t ts) n p = ap₂ (λ x y. with_label N f x y) (starts_same t n (part_named_is N f p)) (fields_start_same fs ts (n + numbers t) p)
