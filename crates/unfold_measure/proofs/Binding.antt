-- The names of patterns, one part after the other.
use Rattle.std.proofs.Common.{◌≡◌, ℕ, zero, suc, ◌+◌, ◌<◌, ◌≤◌, List, [], ◌∷◌, map, length, get_or, drop, Option, Some, None, true, false, refl, sym, ap, ◌∙◌, subst, arith, Ok, Err}
use Rattle.std.specs.Prelude.{Result, IfOk, IfErr}
use Rattle.unfold_reach.proofs.Lists.{one_more, drop_end}
use Rattle.std.specs.Borrow.{Bor}
use Rattle.fut_scalar.specs.declared.place.BindId.{BindId}
use Rattle.fut_ast.specs.Sorts.{Text}
use Rattle.fut_flat.specs.declared.pat.Pat.{Pat}
use Rattle.fut_flat.specs.declared.pat.PatField.{PatField, fold_out-PatField}
use Rattle.fut_flat.specs.declared.pat.PatForm.TheVariants as form
use Rattle.fut_flat.specs.declared.ty.TypeExp.{TypeExp}
use Rattle.fut_flat.specs.declared.prim.Ref.{Ref}
use Rattle.fut_flat.specs.Terms.{Patterns, no_pattern, pattern_and, Bound_pattern, Wild_pattern, Tuple_pattern, Record_pattern, Typed_pattern}
use Rattle.std.proofs.lemmas.Bool.{eqb-true, eqb-false}
use Rattle.fut_flat.specs.Erased.{FlatPattern, patterns, pattern_of, pattern_form}
use Rattle.fut_flat.proofs.ErasedPatterns.{pattern_field, pattern_bound, pattern_wild, pattern_tuple, pattern_record, pattern_typed}
use Rattle.fut_meaning.specs.Knowns.{Known, Data, Known_tuple, Known_record, Known_function, Known_primitive, Knowns, known_none, known_and, count, Scope, known_as, known_part, data_bound, all_data_bound, known_bound, all_known_bound, fields_bound, with_some}
use Rattle.unfold_measure.specs.Held.{known_of, knowns, scope_of}
use Rattle.unfold_measure.specs.Patterns.{field_patterns, field_names, has_parts, has_fields, one_of, part_at}
use Rattle.unfold_measure.specs.declared.known.Known.{Known as Held_known}
use Rattle.unfold_measure.specs.declared.known.KnownForm.TheVariants as held
use Rattle.unfold_measure.specs.declared.known.Scope.{Scope as Held_scope}
use Rattle.unfold_measure.specs.declared.stop.Stop.{Stop}
use Rattle.unfold_measure.specs.declared.stop.Stop.TheVariants.{Memory}
use Rattle.unfold_measure.specs.Answers.{Bound_to, bound_is, not_bound, no_memory_to_bind, Known_to, known_is, not_known, no_memory_to_know}
use Rattle.unfold_measure.proofs.Mirror.{by_form}

field_is : (f : PatField) → pattern_field f ≡ (f.name.now, pattern_of f.pat)
unfolding pattern_field pattern_of
field_is f = fold_out-PatField FlatPattern FlatPattern (Text × FlatPattern) pattern_form (λ p. p.form) (λ f. (f.name.now, f.pat)) f

patterns_of_fields : (fs : List PatField) → map (λ (f : Text × FlatPattern). f.1) (map pattern_field fs) ≡ map (λ (f : PatField). pattern_of f.pat) fs
patterns_of_fields [] = refl
patterns_of_fields (f ∷ fs) = ap (λ z. z.1 ∷ map (λ (f : Text × FlatPattern). f.1) (map pattern_field fs)) (field_is f) ∙ ap (λ z. pattern_of f.pat ∷ z) (patterns_of_fields fs)

names_of_fields : (fs : List PatField) → map (λ (f : Text × FlatPattern). f.0) (map pattern_field fs) ≡ field_names fs
names_of_fields [] = refl
names_of_fields (f ∷ fs) = ap (λ z. z.0 ∷ map (λ (f : Text × FlatPattern). f.0) (map pattern_field fs)) (field_is f) ∙ ap (λ z. f.name.now ∷ z) (names_of_fields fs)

record_is : (p : Pat) (fs : Bor (List PatField)) → p.form ≡ form.Record fs → pattern_of p ≡ Record_pattern (field_names fs.now) (field_patterns fs.now)
record_is p fs is = pattern_record p fs is ∙ ap (λ z. Record_pattern z (patterns (map (λ (f : Text × FlatPattern). f.1) (map pattern_field fs.now)))) (names_of_fields fs.now) ∙ ap (λ z. Record_pattern (field_names fs.now) (patterns z)) (patterns_of_fields fs.now)

-- ---- patterns of data

pub data_known : (p : FlatPattern) (sc : Scope) → known_bound p Data sc ≡ Some (data_bound p sc)
unfolding known_bound
data_known (Bound_pattern b) sc = refl
data_known Wild_pattern sc = refl
data_known (Tuple_pattern ps) sc = refl
data_known (Record_pattern names ps) sc = refl
data_known (Typed_pattern p t) sc = data_known p sc

same_scope : {a b : Scope} → Some a ≡ Some b → a ≡ b
same_scope {a} {b} e = let z : Some a ≡ Some b = e in cc

as_some : {w : Option Scope} {a : Scope} {r : Result (Bor Held_scope) Stop} → w ≡ Some a → Bound_to w r → IfOk r (λ inner. scope_of inner.now ≡ a)
as_some e (bound_is q) = same_scope (sym q ∙ e)
as_some e (not_bound n) = tt
as_some e no_memory_to_bind = tt

as_memory : {w : Option Scope} {a : Scope} {r : Result (Bor Held_scope) Stop} → w ≡ Some a → Bound_to w r → IfErr r (λ e. e ≡ Memory)
as_memory e (bound_is q) = tt
as_memory {a = a} e (not_bound n) = absurd (let z : None ≡ Some a = sym n ∙ e in cc)
as_memory e no_memory_to_bind = refl

module _ (p : FlatPattern) (sc : Scope) {r : Result (Bor Held_scope) Stop} (s : Held_known) (d : known_of s ≡ Data) (h : Bound_to (known_bound p (known_of s) sc) r) where
  pub data_made : IfOk r (λ inner. scope_of inner.now ≡ data_bound p sc)
  data_made = as_some (ap (λ z. known_bound p z sc) d ∙ data_known p sc) h

  pub data_memory : IfErr r (λ e. e ≡ Memory)
  data_memory = as_memory (ap (λ z. known_bound p z sc) d ∙ data_known p sc) h

-- ---- patterns of known values

-- the same answer, for what is wanted otherwise
pub bound_as : {w w' : Option Scope} {r : Result (Bor Held_scope) Stop} → w' ≡ w → Bound_to w r → Bound_to w' r
bound_as {r = r} e h = subst (λ z. Bound_to z r) (sym e) h

-- the answer of what refuses for want of memory alone
pub bound_made : {w : Option Scope} {a : Scope} {r : Result (Bor Held_scope) Stop} → w ≡ Some a → IfOk r (λ inner. scope_of inner.now ≡ a) → IfErr r (λ e. e ≡ Memory) → Bound_to w r
bound_made {r = Ok inner} e h h' = bound_is (e ∙ ap Some (sym h))
bound_made {w = w} {r = Err s} e h h' = subst (λ z. Bound_to w (Err z)) (sym h') no_memory_to_bind

pub known_name : (p : Pat) (b : BindId) (s : Known) (sc : Scope) → p.form ≡ form.Bound b → known_bound (pattern_of p) s sc ≡ Some (known_as b s sc)
unfolding known_bound
known_name p b s sc is = ap (λ z. known_bound z s sc) (pattern_bound p b is)

pub known_wild : (p : Pat) (s : Known) (sc : Scope) → p.form ≡ form.Wild → known_bound (pattern_of p) s sc ≡ Some sc
unfolding known_bound
known_wild p s sc is = ap (λ z. known_bound z s sc) (pattern_wild p is)

pub known_typed : (p : Pat) (q : Bor Pat) (t : Bor TypeExp) (s : Known) (sc : Scope) → p.form ≡ form.Typed q t → known_bound (pattern_of p) s sc ≡ known_bound (pattern_of q.now) s sc
unfolding known_bound
known_typed p q t s sc is = ap (λ z. known_bound z s sc) (pattern_typed p q t is)

-- the same answer, for what is the same value
pub bound_at : (p : FlatPattern) (sc : Scope) {k k' : Known} {r : Result (Bor Held_scope) Stop} → k' ≡ k → Bound_to (known_bound p k' sc) r → Bound_to (known_bound p k sc) r
bound_at p sc {r = r} e h = subst (λ z. Bound_to (known_bound p z sc) r) e h

pub tuple_as : (p : Pat) (ps : Bor (List Pat)) → p.form ≡ form.Tuple ps → (k : Known) (sc : Scope) → known_bound (pattern_of p) k sc ≡ known_bound (Tuple_pattern (patterns (map pattern_of ps.now))) k sc
tuple_as p ps is k sc = ap (λ z. known_bound z k sc) (pattern_tuple p ps is)

pub record_as : (p : Pat) (fs : Bor (List PatField)) → p.form ≡ form.Record fs → (k : Known) (sc : Scope) → known_bound (pattern_of p) k sc ≡ known_bound (Record_pattern (field_names fs.now) (field_patterns fs.now)) k sc
record_as p fs is k sc = ap (λ z. known_bound z k sc) (record_is p fs is)

-- ---- the parts of a tuple, or of data

abbrev pub knowns_from : ℕ → Knowns → Knowns
knowns_from zero ss = ss
knowns_from (suc i) known_none = known_none
knowns_from (suc i) (known_and s ss) = knowns_from i ss

from_one : (i : ℕ) (ss : Knowns) → i < count ss → knowns_from i ss ≡ known_and (one_of i ss) (knowns_from (suc i) ss)
from_one i known_none lt = absurd (omega (arith, lt))
from_one zero (known_and s ss) lt = refl
from_one (suc i) (known_and s ss) lt = from_one i ss (omega (arith, lt))

from_end : (i : ℕ) (ss : Knowns) → count ss ≤ i → knowns_from i ss ≡ known_none
from_end zero known_none le = refl
from_end (suc i) known_none le = refl
from_end zero (known_and s ss) le = absurd (omega (arith, le))
from_end (suc i) (known_and s ss) le = from_end i ss (omega (arith, le))

-- what is left of them to be bound
abbrev pub parts_left : Known → ℕ → Patterns Ref BindId → Scope → Option Scope
parts_left (Known_tuple ss) i ps sc = all_known_bound ps (knowns_from i ss) sc
parts_left s i ps sc = Some (all_data_bound ps sc)

module _ (ps : List Pat) (k : Known) (is : has_parts (length ps) k ≡ true) where
  pub parts_start : (sc : Scope) → known_bound (Tuple_pattern (patterns (map pattern_of ps))) k sc ≡ parts_left k 0 (patterns (map pattern_of ps)) sc
  unfolding known_bound all_known_bound
  parts_start sc = start k is
    where
      start : (k : Known) → has_parts (length ps) k ≡ true → known_bound (Tuple_pattern (patterns (map pattern_of ps))) k sc ≡ parts_left k 0 (patterns (map pattern_of ps)) sc
      start Data h = refl
      start (Known_tuple ss) h = refl
      start (Known_record gs) h = absurd (let z : false ≡ true = h in cc)
      start (Known_function qs x c) h = absurd (let z : false ≡ true = h in cc)
      start (Known_primitive q ss) h = absurd (let z : false ≡ true = h in cc)

  pub parts_step : (i j : ℕ) → i ≡ j → (p : Pat) (sc : Scope) → i < length ps → parts_left k j (patterns (map pattern_of (drop i ps))) sc ≡ with_some (known_bound (pattern_of (get_or ps i p)) (part_at j k) sc) (λ inner. parts_left k (j + 1) (patterns (map pattern_of (drop (i + 1) ps))) inner)
  unfolding patterns known_bound all_known_bound
  parts_step i j e p sc lt = ap (λ z. parts_left k j (patterns (map pattern_of z)) sc) (one_more ps i p lt) ∙ step k is
    where
      step : (k : Known) → has_parts (length ps) k ≡ true → parts_left k j (pattern_and (pattern_of (get_or ps i p)) (patterns (map pattern_of (drop (i + 1) ps)))) sc ≡ with_some (known_bound (pattern_of (get_or ps i p)) (part_at j k) sc) (λ inner. parts_left k (j + 1) (patterns (map pattern_of (drop (i + 1) ps))) inner)
      step Data h = sym (ap (λ z. with_some z (λ inner. Some (all_data_bound (patterns (map pattern_of (drop (i + 1) ps))) inner))) (data_known (pattern_of (get_or ps i p)) sc))
      step (Known_tuple ss) h = let q : suc j ≡ j + 1 = omega arith in ap (λ z. all_known_bound (pattern_and (pattern_of (get_or ps i p)) (patterns (map pattern_of (drop (i + 1) ps)))) z sc) (from_one j ss (omega (arith, e, lt, eqb-true (count ss) (length ps) h)) ∙ ap (λ z. known_and (one_of j ss) (knowns_from z ss)) q)
      step (Known_record gs) h = absurd (let z : false ≡ true = h in cc)
      step (Known_function qs x c) h = absurd (let z : false ≡ true = h in cc)
      step (Known_primitive q ss) h = absurd (let z : false ≡ true = h in cc)

  pub parts_done : (i j : ℕ) → i ≡ j → (sc : Scope) → length ps ≤ i → parts_left k j (patterns (map pattern_of (drop i ps))) sc ≡ Some sc
  unfolding patterns known_bound all_known_bound
  parts_done i j e sc le = ap (λ z. parts_left k j (patterns (map pattern_of z)) sc) (drop_end i ps le) ∙ done k is
    where
      done : (k : Known) → has_parts (length ps) k ≡ true → parts_left k j no_pattern sc ≡ Some sc
      done Data h = refl
      done (Known_tuple ss) h = ap (λ z. all_known_bound no_pattern z sc) (from_end j ss (omega (arith, e, le, eqb-true (count ss) (length ps) h)))
      done (Known_record gs) h = absurd (let z : false ≡ true = h in cc)
      done (Known_function qs x c) h = absurd (let z : false ≡ true = h in cc)
      done (Known_primitive q ss) h = absurd (let z : false ≡ true = h in cc)

unequal : (ps : List Pat) (ss : Knowns) (sc : Scope) → (count ss ≡ length ps → ⊥) → all_known_bound (patterns (map pattern_of ps)) ss sc ≡ None
unfolding patterns all_known_bound
unequal [] known_none sc h = absurd (h refl)
unequal [] (known_and s ss) sc h = refl
unequal (p ∷ ps) known_none sc h = refl
unequal (p ∷ ps) (known_and s ss) sc h = rest (known_bound (pattern_of p) s sc) (λ inner. unequal ps ss inner (λ e. h (omega (arith, e))))
  where
    rest : (o : Option Scope) → ((inner : Scope) → all_known_bound (patterns (map pattern_of ps)) ss inner ≡ None) → with_some o (λ inner. all_known_bound (patterns (map pattern_of ps)) ss inner) ≡ None
    rest None f = refl
    rest (Some inner) f = f inner

pub no_parts : (ps : List Pat) (k : Known) (sc : Scope) → has_parts (length ps) k ≡ false → known_bound (Tuple_pattern (patterns (map pattern_of ps))) k sc ≡ None
unfolding known_bound all_known_bound
no_parts ps Data sc h = absurd (let z : true ≡ false = h in cc)
no_parts ps (Known_tuple ss) sc h = unequal ps ss sc (eqb-false (count ss) (length ps) h)
no_parts ps (Known_record gs) sc h = refl
no_parts ps (Known_function qs x c) sc h = refl
no_parts ps (Known_primitive q ss) sc h = refl

-- ---- the fields of a record, or of data

-- what is left of them to be bound
abbrev pub fields_left : Known → List PatField → Scope → Option Scope
fields_left (Known_record gs) fs sc = fields_bound (field_names fs) (field_patterns fs) gs sc
fields_left s fs sc = Some (all_data_bound (field_patterns fs) sc)

module _ (fs : List PatField) (k : Known) (is : has_fields k ≡ true) where
  pub fields_start : (sc : Scope) → known_bound (Record_pattern (field_names fs) (field_patterns fs)) k sc ≡ fields_left k fs sc
  unfolding known_bound fields_bound
  fields_start sc = start k is
    where
      start : (k : Known) → has_fields k ≡ true → known_bound (Record_pattern (field_names fs) (field_patterns fs)) k sc ≡ fields_left k fs sc
      start Data h = refl
      start (Known_record gs) h = refl
      start (Known_tuple ss) h = absurd (let z : false ≡ true = h in cc)
      start (Known_function qs x c) h = absurd (let z : false ≡ true = h in cc)
      start (Known_primitive q ss) h = absurd (let z : false ≡ true = h in cc)

  pub fields_step : (i : ℕ) (f : PatField) (sc : Scope) → i < length fs → fields_left k (drop i fs) sc ≡ with_some (known_part (get_or fs i f).name.now k) (λ s. with_some (known_bound (pattern_of (get_or fs i f).pat) s sc) (λ inner. fields_left k (drop (i + 1) fs) inner))
  unfolding patterns known_bound fields_bound
  fields_step i f sc lt = ap (λ z. fields_left k z sc) (one_more fs i f lt) ∙ step k is
    where
      step : (k : Known) → has_fields k ≡ true → fields_left k (get_or fs i f ∷ drop (i + 1) fs) sc ≡ with_some (known_part (get_or fs i f).name.now k) (λ s. with_some (known_bound (pattern_of (get_or fs i f).pat) s sc) (λ inner. fields_left k (drop (i + 1) fs) inner))
      step Data h = sym (ap (λ z. with_some z (λ inner. Some (all_data_bound (field_patterns (drop (i + 1) fs)) inner))) (data_known (pattern_of (get_or fs i f).pat) sc))
      step (Known_record gs) h = refl
      step (Known_tuple ss) h = absurd (let z : false ≡ true = h in cc)
      step (Known_function qs x c) h = absurd (let z : false ≡ true = h in cc)
      step (Known_primitive q ss) h = absurd (let z : false ≡ true = h in cc)

  pub fields_done : (n : ℕ) (sc : Scope) → length fs ≤ n → fields_left k (drop n fs) sc ≡ Some sc
  unfolding patterns known_bound fields_bound
  fields_done n sc le = ap (λ z. fields_left k z sc) (drop_end n fs le) ∙ done k is
    where
      done : (k : Known) → has_fields k ≡ true → fields_left k [] sc ≡ Some sc
      done Data h = refl
      done (Known_record gs) h = refl
      done (Known_tuple ss) h = absurd (let z : false ≡ true = h in cc)
      done (Known_function qs x c) h = absurd (let z : false ≡ true = h in cc)
      done (Known_primitive q ss) h = absurd (let z : false ≡ true = h in cc)

pub no_record : (fs : List PatField) (k : Known) (sc : Scope) → has_fields k ≡ false → known_bound (Record_pattern (field_names fs) (field_patterns fs)) k sc ≡ None
unfolding known_bound
no_record fs Data sc h = absurd (let z : true ≡ false = h in cc)
no_record fs (Known_tuple ss) sc h = refl
no_record fs (Known_record gs) sc h = absurd (let z : true ≡ false = h in cc)
no_record fs (Known_function qs x c) sc h = refl
no_record fs (Known_primitive q ss) sc h = refl

-- ---- what the code asks of values

module _ (s : Held_known) where
  pub neither_parts : (n : ℕ) → (s.form.now ≡ held.Data → ⊥) → ((ss : Bor (List Held_known)) → s.form.now ≡ held.Tuple ss → ⊥) → has_parts n (known_of s) ≡ false
  neither_parts n d t = by_form s (λ k. has_parts n k ≡ false) (λ is. absurd (d is)) (λ ss is. absurd (t ss is)) (λ fs ss is. refl) (λ c is. refl) (λ p ss is. refl)

  pub neither_fields : (s.form.now ≡ held.Data → ⊥) → ((fs : Bor (List (Bor Text))) (ss : Bor (List Held_known)) → s.form.now ≡ held.Record fs ss → ⊥) → has_fields (known_of s) ≡ false
  neither_fields d r = by_form s (λ k. has_fields k ≡ false) (λ is. absurd (d is)) (λ ss is. refl) (λ fs ss is. absurd (r fs ss is)) (λ c is. refl) (λ p ss is. refl)

  pub no_part : (i : ℕ) → ((ss : Bor (List Held_known)) → s.form.now ≡ held.Tuple ss → ⊥) → part_at i (known_of s) ≡ Data
  no_part i t = by_form s (λ k. part_at i k ≡ Data) (λ is. refl) (λ ss is. absurd (t ss is)) (λ fs ss is. refl) (λ c is. refl) (λ p ss is. refl)

pub one_held : (ss : List Held_known) (i : ℕ) (d : Held_known) → i < length ss → one_of i (knowns (map known_of ss)) ≡ known_of (get_or ss i d)
unfolding knowns
one_held [] i d lt = absurd (omega (arith, lt))
one_held (s ∷ ss) zero d lt = refl
one_held (s ∷ ss) (suc i) d lt = one_held ss i d (omega (arith, lt))

pub none_held : (ss : List Held_known) (i : ℕ) → length ss ≤ i → one_of i (knowns (map known_of ss)) ≡ Data
unfolding knowns
none_held [] zero le = refl
none_held [] (suc i) le = refl
none_held (s ∷ ss) zero le = absurd (omega (arith, le))
none_held (s ∷ ss) (suc i) le = none_held ss i (omega (arith, le))

-- one more part of a list that is bound
pub step_none : {w rest o : Option Scope} (k : Scope → Option Scope) {r : Stop} → w ≡ rest → rest ≡ with_some o k → Bound_to o (Err r) → Bound_to w (Err r)
step_none k e q (not_bound n) = not_bound (e ∙ q ∙ ap (λ z. with_some z k) n)
step_none k e q no_memory_to_bind = no_memory_to_bind

pub step_some : {w rest o : Option Scope} (k : Scope → Option Scope) {inner : Bor Held_scope} → w ≡ rest → rest ≡ with_some o k → Bound_to o (Ok inner) → w ≡ k (scope_of inner.now)
step_some k e q (bound_is n) = e ∙ q ∙ ap (λ z. with_some z k) n

-- the field of a name
pub field_stops : {w rest : Option Scope} {o : Option Known} {r : Stop} (k : Known → Option Scope) → w ≡ rest → rest ≡ with_some o k → Known_to o (Err r) → Bound_to w (Err r)
field_stops k e q (not_known n) = not_bound (e ∙ q ∙ ap (λ z. with_some z k) n)
field_stops k e q no_memory_to_know = no_memory_to_bind

pub field_found : {rest : Option Scope} {o : Option Known} {s : Held_known} (k : Known → Option Scope) → rest ≡ with_some o k → Known_to o (Ok s) → rest ≡ k (known_of s)
field_found k q (known_is e) = q ∙ ap (λ z. with_some z k) e
