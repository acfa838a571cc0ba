-- The own names of what a loop carries: the same by the checker's sets and by whole ones, and names of the loop's pattern.
use Rattle.std.proofs.Common.{◌≡◌, ℕ, zero, ◌≤◌, ◌<◌, suc, ◌+◌, true, List, [], ◌∷◌, ◌++◌, Option, Some, None, refl, sym, ap, ap₂, subst, ◌∙◌, arith}
use Rattle.std.specs.Prelude.{Bool, false, cond, nat_le}
use Rattle.fut_ast.specs.Sorts.{Text}
use Rattle.fut_scalar.specs.declared.place.BindId.{BindId}
use Rattle.fut_flat.specs.declared.prim.Ref.{Ref}
use Rattle.fut_flat.specs.Terms.{Bound_pattern, Wild_pattern, Tuple_pattern, Record_pattern, Typed_pattern, Patterns, no_pattern, pattern_and}
use Rattle.fut_flat.specs.Numbers.{pattern_numbers, all_pattern_numbers}
use Rattle.fut_flat.specs.Erased.{FlatPattern}
use Rattle.fut_types.specs.declared.Head.TheVariants as head
use Rattle.fut_types.specs.Types.{Ty, Var, Made, Tys, none, more, Kinds, level}
use Rattle.fut_types.specs.Shapes.{place}
use Rattle.fut_typing.specs.Names.{Names}
use Rattle.fut_aliases.specs.Aliases.{Set, with_alias, first_name_alone}
use Rattle.fut_aliases.specs.Values.{Value, Scalar, Array, Function, Parts, Values, no_value, value_and, of_kind, of_type, of_types, components, all_components, how_many, named, all_named, part, with_part, part_named, with_part_named}
use Rattle.fut_aliases.specs.Loops.{own_names, all_own_names, fields_own_names}
use Rattle.alias_laws.proofs.Worlds.{node}

-- ---- values whose sets are empty

abbrev mutual
  pub Empty : Value → Type 0
  Empty Scalar = Unit {0}
  Empty (Array s) = s ≡ []
  Empty (Function s u) = s ≡ []
  Empty (Parts h vs) = All_empty vs

  pub All_empty : Values → Type 0
  All_empty no_value = Unit {0}
  All_empty (value_and v vs) = Empty v × All_empty vs

of_kind_empty : (k : ℕ) → Empty (of_kind k [])
of_kind_empty k = at_level (nat_le 2 k)
  where
    at_level : (b : Bool) → Empty (cond b Scalar (Array []))
    at_level true = tt
    at_level false = refl

mutual
  unfolding of_type of_types

  pub of_type_empty : (K : Kinds) (t : Ty) → Empty (of_type K [] t)
  of_type_empty K (Var v) = of_kind_empty (level (K v))
  of_type_empty K (Made (head.Scalar k) ts) = tt
  of_type_empty K (Made head.Array ts) = refl
  of_type_empty K (Made head.Tuple ts) = of_types_empty K ts
  of_type_empty K (Made (head.Record n) ts) = of_types_empty K ts
  of_type_empty K (Made head.Fun ts) = refl
  of_type_empty K (Made (head.Rigid n k) ts) = of_kind_empty (level k)
  of_type_empty K (Made (head.Abstract n b) ts) = refl

  of_types_empty : (K : Kinds) (ts : Tys) → All_empty (of_types K [] ts)
  of_types_empty K none = tt
  of_types_empty K (more t ts) = (of_type_empty K t, of_types_empty K ts)

part_empty : (i : Option ℕ) (vs : Values) → All_empty vs → Empty (part i vs)
part_empty None vs h = tt
part_empty (Some i) no_value h = tt
part_empty (Some zero) (value_and v vs) h = h.0
part_empty (Some (suc i)) (value_and v vs) h = part_empty (Some i) vs h.1

part_named_empty : (N : Names) (f : Text) (v : Value) → Empty v → Empty (part_named N f v)
unfolding part_named
part_named_empty N f Scalar h = tt
part_named_empty N f (Array s) h = h
part_named_empty N f (Function s u) h = h
part_named_empty N f (Parts g vs) h = part_empty (place N.shapes (N.label f) g) vs h

-- ---- values whose sets have names of a part of the text alone

abbrev pub Mine : ℕ → ℕ → Set → Type 0
Mine lo hi [] = Unit {0}
Mine lo hi (a ∷ s) = ((lo ≤ node a) × (node a < hi)) × Mine lo hi s

abbrev pub All_mine : ℕ → ℕ → List Set → Type 0
All_mine lo hi [] = Unit {0}
All_mine lo hi (s ∷ ss) = Mine lo hi s × All_mine lo hi ss

abbrev mutual
  Mine_value : ℕ → ℕ → Value → Type 0
  Mine_value lo hi Scalar = Unit {0}
  Mine_value lo hi (Array s) = Mine lo hi s
  Mine_value lo hi (Function s u) = Mine lo hi s
  Mine_value lo hi (Parts h vs) = Mine_values lo hi vs

  Mine_values : ℕ → ℕ → Values → Type 0
  Mine_values lo hi no_value = Unit {0}
  Mine_values lo hi (value_and v vs) = Mine_value lo hi v × Mine_values lo hi vs

mine_wider : {lo hi lo2 hi2 : ℕ} (s : Set) → lo2 ≤ lo → hi ≤ hi2 → Mine lo hi s → Mine lo2 hi2 s
mine_wider [] l h m = tt
mine_wider (a ∷ s) l h m = let p = m.0.0 in let q = m.0.1 in ((omega arith, omega arith), mine_wider s l h m.1)

mutual
  value_wider : {lo hi lo2 hi2 : ℕ} (v : Value) → lo2 ≤ lo → hi ≤ hi2 → Mine_value lo hi v → Mine_value lo2 hi2 v
  value_wider Scalar l h m = tt
  value_wider (Array s) l h m = mine_wider s l h m
  value_wider (Function s u) l h m = mine_wider s l h m
  value_wider (Parts g vs) l h m = values_wider vs l h m

  values_wider : {lo hi lo2 hi2 : ℕ} (vs : Values) → lo2 ≤ lo → hi ≤ hi2 → Mine_values lo hi vs → Mine_values lo2 hi2 vs
  values_wider no_value l h m = tt
  values_wider (value_and v vs) l h m = (value_wider v l h m.0, values_wider vs l h m.1)

mutual
  empty_mine : (lo hi : ℕ) (v : Value) → Empty v → Mine_value lo hi v
  empty_mine lo hi Scalar e = tt
  empty_mine lo hi (Array s) e = subst (Mine lo hi) (sym e) tt
  empty_mine lo hi (Function s u) e = subst (Mine lo hi) (sym e) tt
  empty_mine lo hi (Parts h vs) e = empties_mine lo hi vs e

  empties_mine : (lo hi : ℕ) (vs : Values) → All_empty vs → Mine_values lo hi vs
  empties_mine lo hi no_value e = tt
  empties_mine lo hi (value_and v vs) e = (empty_mine lo hi v e.0, empties_mine lo hi vs e.1)

mines_together : (lo hi : ℕ) (ss ts : List Set) → All_mine lo hi ss → All_mine lo hi ts → All_mine lo hi (ss ++ ts)
mines_together lo hi [] ts m n = n
mines_together lo hi (s ∷ ss) ts m n = (m.0, mines_together lo hi ss ts m.1 n)

mutual
  unfolding components all_components

  components_mine : (lo hi : ℕ) (v : Value) → Mine_value lo hi v → All_mine lo hi (components v)
  components_mine lo hi Scalar m = tt
  components_mine lo hi (Array s) m = (m, tt)
  components_mine lo hi (Function s u) m = (m, tt)
  components_mine lo hi (Parts h vs) m = all_components_mine lo hi vs m

  all_components_mine : (lo hi : ℕ) (vs : Values) → Mine_values lo hi vs → All_mine lo hi (all_components vs)
  all_components_mine lo hi no_value m = tt
  all_components_mine lo hi (value_and v vs) m = mines_together lo hi (components v) (all_components vs) (components_mine lo hi v m.0) (all_components_mine lo hi vs m.1)

with_part_mine : (lo hi : ℕ) (i : Option ℕ) (w : Value) (vs : Values) → Mine_value lo hi w → Mine_values lo hi vs → Mine_values lo hi (with_part i w vs)
with_part_mine lo hi None w vs m n = n
with_part_mine lo hi (Some i) w no_value m n = n
with_part_mine lo hi (Some zero) w (value_and v vs) m n = (m, n.1)
with_part_mine lo hi (Some (suc i)) w (value_and v vs) m n = (n.0, with_part_mine lo hi (Some i) w vs m n.1)

with_part_named_mine : (lo hi : ℕ) (N : Names) (f : Text) (w v : Value) → Mine_value lo hi w → Mine_value lo hi v → Mine_value lo hi (with_part_named N f w v)
unfolding with_part_named
with_part_named_mine lo hi N f w Scalar m n = n
with_part_named_mine lo hi N f w (Array s) m n = n
with_part_named_mine lo hi N f w (Function s u) m n = n
with_part_named_mine lo hi N f w (Parts h vs) m n = with_part_mine lo hi (place N.shapes (N.label f) h) w vs m n

-- ---- own names

mutual
  unfolding named all_named with_alias

  named_same : (n : ℕ) (b : BindId) (i : ℕ) (v : Value) → Empty v → named first_name_alone true n b i v ≡ named with_alias true n b i v
  named_same n b i Scalar e = refl
  named_same n b i (Array s) e = rw e refl
  named_same n b i (Function s u) e = rw e refl
  named_same n b i (Parts h vs) e = ap (Parts h) (all_named_same n b i vs e)

  all_named_same : (n : ℕ) (b : BindId) (i : ℕ) (vs : Values) → All_empty vs → all_named first_name_alone true n b i vs ≡ all_named with_alias true n b i vs
  all_named_same n b i no_value e = refl
  all_named_same n b i (value_and v vs) e = ap₂ value_and (named_same n b i v e.0) (all_named_same n b (i + how_many v) vs e.1)

mutual
  unfolding named all_named with_alias

  named_mine : (n : ℕ) (b : BindId) (i : ℕ) (v : Value) → Empty v → Mine_value n (n + 1) (named with_alias true n b i v)
  named_mine n b i Scalar e = tt
  named_mine n b i (Array s) e = rw e ((omega arith, omega arith), tt)
  named_mine n b i (Function s u) e = rw e ((omega arith, omega arith), tt)
  named_mine n b i (Parts h vs) e = all_named_mine n b i vs e

  all_named_mine : (n : ℕ) (b : BindId) (i : ℕ) (vs : Values) → All_empty vs → Mine_values n (n + 1) (all_named with_alias true n b i vs)
  all_named_mine n b i no_value e = tt
  all_named_mine n b i (value_and v vs) e = (named_mine n b i v e.0, all_named_mine n b (i + how_many v) vs e.1)

module _ (N : Names) where
  mutual
    unfolding own_names all_own_names fields_own_names

    pub own_same : (p : FlatPattern) (q : ℕ) (v : Value) → Empty v → own_names first_name_alone N p q v ≡ own_names with_alias N p q v
    own_same (Bound_pattern b) q v e = named_same q b 0 v e
    own_same Wild_pattern q v e = refl
    own_same (Tuple_pattern ps) q Scalar e = refl
    own_same (Tuple_pattern ps) q (Array s) e = refl
    own_same (Tuple_pattern ps) q (Function s u) e = refl
    own_same (Tuple_pattern ps) q (Parts h vs) e = ap (Parts h) (all_own_same ps (1 + q) vs e)
    own_same (Record_pattern fs ps) q v e = fields_own_same fs ps (1 + q) v v e
    own_same (Typed_pattern p t) q v e = own_same p q v e

    all_own_same : (ps : Patterns Ref BindId) (q : ℕ) (vs : Values) → All_empty vs → all_own_names first_name_alone N ps q vs ≡ all_own_names with_alias N ps q vs
    all_own_same no_pattern q vs e = refl
    all_own_same (pattern_and p ps) q no_value e = refl
    all_own_same (pattern_and p ps) q (value_and v vs) e = ap₂ value_and (own_same p q v e.0) (all_own_same ps (q + pattern_numbers p) vs e.1)

    fields_own_same : (fs : List Text) (ps : Patterns Ref BindId) (q : ℕ) (v made : Value) → Empty v → fields_own_names first_name_alone N fs ps q v made ≡ fields_own_names with_alias N fs ps q v made
    fields_own_same [] ps q v made e = refl
    fields_own_same (f ∷ fs) no_pattern q v made e = refl
    fields_own_same (f ∷ fs) (pattern_and p ps) q v made e =
        ap (λ z. fields_own_names first_name_alone N fs ps (q + pattern_numbers p) v (with_part_named N f z made)) (own_same p q (part_named N f v) (part_named_empty N f v e)) ∙ fields_own_same fs ps (q + pattern_numbers p) v (with_part_named N f (own_names with_alias N p q (part_named N f v)) made) e

  mutual
    unfolding own_names all_own_names fields_own_names

    own_mine : (p : FlatPattern) (q : ℕ) (v : Value) → Empty v → Mine_value q (q + pattern_numbers p) (own_names with_alias N p q v)
    own_mine (Bound_pattern b) q v e = named_mine q b 0 v e
    own_mine Wild_pattern q v e = empty_mine q _ v e
    own_mine (Tuple_pattern ps) q Scalar e = tt
    own_mine (Tuple_pattern ps) q (Array s) e = empty_mine q _ (Array s) e
    own_mine (Tuple_pattern ps) q (Function s u) e = empty_mine q _ (Function s u) e
    own_mine (Tuple_pattern ps) q (Parts h vs) e = values_wider (all_own_names with_alias N ps (1 + q) vs) (omega arith) (omega arith) (all_own_mine ps (1 + q) vs e)
    own_mine (Record_pattern fs ps) q v e = value_wider (fields_own_names with_alias N fs ps (1 + q) v v) (omega arith) (omega arith) (fields_own_mine (1 + q) fs ps (1 + q) v v (omega arith) e (empty_mine (1 + q) _ v e))
    own_mine (Typed_pattern p t) q v e = own_mine p q v e

    all_own_mine : (ps : Patterns Ref BindId) (q : ℕ) (vs : Values) → All_empty vs → Mine_values q (q + all_pattern_numbers ps) (all_own_names with_alias N ps q vs)
    all_own_mine no_pattern q vs e = empties_mine q _ vs e
    all_own_mine (pattern_and p ps) q no_value e = tt
    all_own_mine (pattern_and p ps) q (value_and v vs) e =
        (value_wider (own_names with_alias N p q v) (omega arith) (omega arith) (own_mine p q v e.0), values_wider (all_own_names with_alias N ps (q + pattern_numbers p) vs) (omega arith) (omega arith) (all_own_mine ps (q + pattern_numbers p) vs e.1))

    fields_own_mine : (lo : ℕ) (fs : List Text) (ps : Patterns Ref BindId) (q : ℕ) (v made : Value) → lo ≤ q → Empty v → Mine_value lo (q + all_pattern_numbers ps) made → Mine_value lo (q + all_pattern_numbers ps) (fields_own_names with_alias N fs ps q v made)
    fields_own_mine lo [] ps q v made l e m = m
    fields_own_mine lo (f ∷ fs) no_pattern q v made l e m = m
    fields_own_mine lo (f ∷ fs) (pattern_and p ps) q v made l e m = let now = with_part_named N f (own_names with_alias N p q (part_named N f v)) made in
        value_wider (fields_own_names with_alias N fs ps (q + pattern_numbers p) v now) (omega arith) (omega arith)
        (fields_own_mine lo fs ps (q + pattern_numbers p) v now (omega arith) e
        (value_wider now (omega arith) (omega arith) (with_part_named_mine lo (q + all_pattern_numbers (pattern_and p ps)) N f (own_names with_alias N p q (part_named N f v)) made (value_wider (own_names with_alias N p q (part_named N f v)) (omega arith) (omega arith) (own_mine p q (part_named N f v) (part_named_empty N f v e))) m)))

  pub owns_mine : (p : FlatPattern) (q : ℕ) (v : Value) → Empty v → All_mine q (q + pattern_numbers p) (components (own_names with_alias N p q v))
  owns_mine p q v e = components_mine q (q + pattern_numbers p) (own_names with_alias N p q v) (own_mine p q v e)
