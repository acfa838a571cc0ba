-- What is known of operations, one part after the other.
use Rattle.std.specs.Borrow.{Bor}
use Rattle.std.specs.Prelude.{Result}
use Rattle.fut_ast.specs.Sorts.{Text}
use Rattle.fut_flat.specs.Erased.{texts}
use Rattle.std.proofs.lemmas.List.{length-map}
use Rattle.unfold_measure.specs.declared.stop.Stop.{Stop}
use Rattle.std.proofs.Common.{◌≡◌, ℕ, suc, ◌+◌, ◌<◌, ◌≤◌, List, [], ◌∷◌, map, length, get_or, drop, Option, Some, None, Bool, true, false, cond, refl, sym, ap, ◌∙◌, subst, arith, Ok, Err}
use Rattle.fut_meaning.specs.Knowns.{Known, Data, Known_tuple, Known_record, Known_function, Known_primitive, Knowns, is_data, all_data, data_of, known_tuple, known_fields, and_known, known_part, known_part_from, known_record, known_replaced, replaced_in, known_result, with_known, known_none, known_and, count, Known_fields, some_record}
use Rattle.std.specs.Prelude.{decimal}
use Rattle.std.specs.Str.{bytes_eq}
use Rattle.std.proofs.Common.{◌++◌}
use Rattle.fut_scalar.specs.declared.place.BindId.{BindId}
use Rattle.fut_flat.specs.declared.prim.Ref.{Ref}
use Rattle.fut_flat.specs.declared.act.Act.{Act}
use Rattle.fut_flat.specs.declared.act.Act.TheVariants as act
use Rattle.fut_flat.specs.declared.ty.TypeExp.{TypeExp}
use Rattle.fut_flat.specs.Erased.{operation_of, type_of}
use Rattle.fut_positions.specs.Positions.{Spelled}
use Rattle.fut_positions.proofs.Taken.{taken, none_taken}
use Rattle.fut_flat.specs.Terms.{Operation, Ascribe, Coerce, Declared, Project, Replace}
use Rattle.unfold_measure.specs.declared.stop.Stop.TheVariants.{Lost, Memory}
use Rattle.unfold_measure.specs.Answers.{one_or_data, Known_to, known_is, not_known, no_memory_to_know}
use Rattle.unfold_measure.specs.Held.{known_of, knowns}
use Rattle.unfold_measure.specs.declared.known.Known.{Known as Held_known}
use Rattle.unfold_measure.specs.declared.known.KnownForm.TheVariants as held
use Rattle.unfold_measure.proofs.Mirror.{by_form}
use Rattle.unfold_reach.proofs.Lists.{one_more, drop_end}

pub data_is : (s : Held_known) (k : Known) → known_of s ≡ k → is_data (known_of s) ≡ is_data k
data_is s k e = ap is_data e

pub all_step : (ss : List Held_known) (i : ℕ) (s : Held_known) → i < length ss → all_data (knowns (map known_of (drop i ss))) ≡ cond (is_data (known_of (get_or ss i s))) (all_data (knowns (map known_of (drop (i + 1) ss)))) false
unfolding knowns
all_step ss i s lt = ap (λ z. all_data (knowns (map known_of z))) (one_more ss i s lt)

pub all_done : (ss : List Held_known) (n : ℕ) → length ss ≤ n → all_data (knowns (map known_of (drop n ss))) ≡ true
unfolding knowns
all_done ss n le = ap (λ z. all_data (knowns (map known_of z))) (drop_end n ss le)

module _ (ss : List Held_known) (i : ℕ) (s : Held_known) (b : Bool) where
  pub all_on : i < length ss → b ≡ all_data (knowns (map known_of (drop i ss))) → is_data (known_of (get_or ss i s)) ≡ true → b ≡ all_data (knowns (map known_of (drop (i + 1) ss)))
  all_on lt e h = e ∙ all_step ss i s lt ∙ ap (λ z. cond z (all_data (knowns (map known_of (drop (i + 1) ss)))) false) h

  pub all_here : i < length ss → b ≡ all_data (knowns (map known_of (drop i ss))) → is_data (known_of (get_or ss i s)) ≡ false → false ≡ b
  all_here lt e h = sym (e ∙ all_step ss i s lt ∙ ap (λ z. cond z (all_data (knowns (map known_of (drop (i + 1) ss)))) false) h)

-- ---- what operations give

abbrev pub Parts_of : List Held_known → Knowns
Parts_of ss = knowns (map known_of ss)

pub all_are : (ss : List Held_known) (s : Held_known) → true ≡ all_data (Parts_of ss) → known_of s ≡ Data → Known_to (data_of (Parts_of ss)) (Ok s)
all_are ss s e d = known_is (ap (λ z. cond z (Some Data) None) (sym e) ∙ ap Some (sym d))

pub not_all : (ss : List Held_known) → false ≡ all_data (Parts_of ss) → Known_to (data_of (Parts_of ss)) (Err Lost)
not_all ss e = not_known (ap (λ z. cond z (Some Data) None) (sym e))

pub tuple_data : (ss : List Held_known) (s : Held_known) → true ≡ all_data (Parts_of ss) → known_of s ≡ Data → known_of s ≡ known_tuple (Parts_of ss)
tuple_data ss s e d = d ∙ ap (λ z. cond z Data (Known_tuple (Parts_of ss))) e

pub tuple_holds : (ss : List Held_known) (s : Held_known) → false ≡ all_data (Parts_of ss) → known_of s ≡ Known_tuple (Parts_of ss) → known_of s ≡ known_tuple (Parts_of ss)
tuple_holds ss s e d = d ∙ ap (λ z. cond z Data (Known_tuple (Parts_of ss))) e

-- ---- one part, and records

pub only_part : (ss : List Held_known) (s : Held_known) → length ss ≡ 1 → Known_to (one_or_data (Parts_of ss)) (Ok (get_or ss 0 s))
unfolding one_or_data knowns
only_part [] s e = absurd (omega (arith, e))
only_part (x ∷ []) s e = known_is refl
only_part (x ∷ y ∷ ss) s e = absurd (omega (arith, e))

pub many_parts : (ss : List Held_known) → (length ss ≡ 1 → ⊥) → one_or_data (Parts_of ss) ≡ data_of (Parts_of ss)
unfolding one_or_data knowns
many_parts [] h = refl
many_parts (x ∷ []) h = absurd (h refl)
many_parts (x ∷ y ∷ ss) h = refl

pub known_as_wanted : {w w' : Option Known} {r : Result Held_known Stop} → w' ≡ w → Known_to w r → Known_to w' r
known_as_wanted {r = r} e h = subst (λ z. Known_to z r) (sym e) h

unequal_fields : (names : List Text) (ss : List Held_known) → (length names ≡ length ss → ⊥) → known_fields names (Parts_of ss) ≡ None
unfolding knowns
unequal_fields [] [] h = absurd (h refl)
unequal_fields [] (s ∷ ss) h = refl
unequal_fields (f ∷ fs) [] h = refl
unequal_fields (f ∷ fs) (s ∷ ss) h = ap (and_known f (known_of s)) (unequal_fields fs ss (λ e. h (omega (arith, e))))

pub unequal_record : (names : List (Bor Text)) (ss : List Held_known) → (length names ≡ length ss → ⊥) → some_record (known_fields (texts names) (Parts_of ss)) ≡ None
unequal_record names ss h = ap some_record (unequal_fields (texts names) ss (λ e. h (sym (length-map names (λ (x : Bor Text). x.now)) ∙ e)))

-- ---- how many they are

pub count_knowns : (ss : List Held_known) → count (knowns (map known_of ss)) ≡ length ss
unfolding knowns
count_knowns [] = refl
count_knowns (s ∷ ss) = ap suc (count_knowns ss)

-- ---- one more argument

pub one_behind : (ss : List Held_known) (s : Held_known) → knowns (map known_of (ss ++ s ∷ [])) ≡ with_known (knowns (map known_of ss)) (known_of s)
unfolding knowns
one_behind [] s = refl
one_behind (x ∷ ss) s = ap (known_and (known_of x)) (one_behind ss s)

-- ---- the parts of a tuple

module _ (name : Text) (ss : List Held_known) where
  abbrev parts_from : ℕ → List Held_known → Option Known
  parts_from k held = known_part_from k name (knowns (map known_of held))

  no_parts : (k : ℕ) → parts_from k [] ≡ None
  unfolding knowns
  no_parts k = refl

  next_part : (k : ℕ) (s : Held_known) (held : List Held_known) → parts_from k (s ∷ held) ≡ cond (bytes_eq (decimal k) name) (Some (known_of s)) (parts_from (suc k) held)
  unfolding knowns
  next_part k s held = refl

  pub part_there : (at : ℕ) (d : Held_known) → Spelled name (length ss) (Some at) → Known_to (parts_from 0 ss) (Ok (get_or ss at d))
  part_there at d s = known_is (taken name known_of parts_from no_parts next_part at ss d s)

  pub part_nowhere : Spelled name (length ss) None → Known_to (parts_from 0 ss) (Err Lost)
  part_nowhere s = not_known (none_taken name known_of parts_from no_parts next_part ss s)

-- ---- what each operation gives

module _ (a : Act) (ss : List Held_known) where
  pub result_is : (b : Act) (w : Option Known) → a ≡ b → known_result (operation_of b) (Parts_of ss) ≡ w → known_result (operation_of a) (Parts_of ss) ≡ w
  result_is b w e h = ap (λ z. known_result (operation_of z) (Parts_of ss)) e ∙ h

  pub result_tuple : a ≡ act.Tuple → known_result (operation_of a) (Parts_of ss) ≡ Some (known_tuple (Parts_of ss))
  unfolding known_result
  result_tuple e = result_is act.Tuple _ e refl

  pub result_record : (fs : Bor (List (Bor Text))) → a ≡ act.Record fs → known_result (operation_of a) (Parts_of ss) ≡ some_record (known_fields (texts fs.now) (Parts_of ss))
  unfolding known_result
  result_record fs e = result_is (act.Record fs) _ e refl

one_part : (o : Operation Ref BindId) → ((s : Known) → known_result o (known_and s known_none) ≡ Some s) → (known_result o known_none ≡ Some Data) → ((s s' : Known) (ss : Knowns) → known_result o (known_and s (known_and s' ss)) ≡ data_of (known_and s (known_and s' ss))) → (ss : List Held_known) → known_result o (Parts_of ss) ≡ one_or_data (Parts_of ss)
unfolding one_or_data knowns
one_part o f g h [] = g
one_part o f g h (x ∷ []) = f (known_of x)
one_part o f g h (x ∷ y ∷ ss) = h (known_of x) (known_of y) (Parts_of ss)

pub result_ascribed : (a : Act) (ss : List Held_known) (t : Bor TypeExp) → a ≡ act.Ascribe t → known_result (operation_of a) (Parts_of ss) ≡ one_or_data (Parts_of ss)
unfolding known_result
result_ascribed a ss t e = result_is a ss (act.Ascribe t) _ e (one_part (Ascribe (type_of t.now)) (λ s. refl) refl (λ s s' ss. refl) ss)

pub result_coerced : (a : Act) (ss : List Held_known) (t : Bor TypeExp) → a ≡ act.Coerce t → known_result (operation_of a) (Parts_of ss) ≡ one_or_data (Parts_of ss)
unfolding known_result
result_coerced a ss t e = result_is a ss (act.Coerce t) _ e (one_part (Coerce (type_of t.now)) (λ s. refl) refl (λ s s' ss. refl) ss)

pub result_declared : (a : Act) (ss : List Held_known) (t : Bor TypeExp) → a ≡ act.Declared t → known_result (operation_of a) (Parts_of ss) ≡ one_or_data (Parts_of ss)
unfolding known_result
result_declared a ss t e = result_is a ss (act.Declared t) _ e (one_part (Declared (type_of t.now)) (λ s. refl) refl (λ s s' ss. refl) ss)

pub result_projected : (a : Act) (ss : List Held_known) (f : Bor Text) → a ≡ act.Project f → known_result (operation_of a) (Parts_of ss) ≡ known_result (Project f.now) (Parts_of ss)
result_projected a ss f e = ap (λ z. known_result (operation_of z) (Parts_of ss)) e

pub projected_one : (ss : List Held_known) (f : Text) (d : Held_known) → length ss ≡ 1 → known_result (Project f) (Parts_of ss) ≡ known_part f (known_of (get_or ss 0 d))
unfolding known_result knowns
projected_one [] f d n = absurd (omega (arith, n))
projected_one (x ∷ []) f d n = refl
projected_one (x ∷ y ∷ ss) f d n = absurd (omega (arith, n))

pub projected_other : (ss : List Held_known) (f : Text) → (length ss ≡ 1 → ⊥) → known_result (Project f) (Parts_of ss) ≡ data_of (Parts_of ss)
unfolding known_result knowns
projected_other [] f n = refl
projected_other (x ∷ []) f n = absurd (n refl)
projected_other (x ∷ y ∷ ss) f n = refl

-- ---- every other operation makes data of data

pub result_other : (a : Act) (ss : List Held_known) → (a ≡ act.Tuple → ⊥) → ((fs : Bor (List (Bor Text))) → a ≡ act.Record fs → ⊥) → ((f : Bor Text) → a ≡ act.Project f → ⊥) → ((t : Bor TypeExp) → a ≡ act.Ascribe t → ⊥) → ((t : Bor TypeExp) → a ≡ act.Coerce t → ⊥) → ((t : Bor TypeExp) → a ≡ act.Declared t → ⊥) → ((f : Bor Text) → a ≡ act.Replace f → ⊥) → known_result (operation_of a) (Parts_of ss) ≡ data_of (Parts_of ss)
unfolding known_result
result_other act.Tuple ss t r p a c d u = absurd (t refl)
result_other (act.Record fs) ss t r p a c d u = absurd (r fs refl)
result_other (act.Project f) ss t r p a c d u = absurd (p f refl)
result_other (act.Ascribe v) ss t r p a c d u = absurd (a v refl)
result_other (act.Coerce v) ss t r p a c d u = absurd (c v refl)
result_other (act.Declared v) ss t r p a c d u = absurd (d v refl)
result_other act.Assert ss t r p a c d u = refl
result_other (act.Replace f) ss t r p a c d u = absurd (u f refl)
result_other (act.Int n v) ss t r p a c d u = refl
result_other (act.Truth b) ss t r p a c d u = refl
result_other act.Array ss t r p a c d u = refl
result_other (act.Binary op) ss t r p a c d u = refl
result_other act.Negate ss t r p a c d u = refl
result_other act.Complement ss t r p a c d u = refl
result_other (act.Index ps) ss t r p a c d u = refl
result_other act.Update ss t r p a c d u = refl
result_other (act.Range b e) ss t r p a c d u = refl

-- ---- a field that is replaced

pub result_replaced : (a : Act) (ss : List Held_known) (f : Bor Text) → a ≡ act.Replace f → known_result (operation_of a) (Parts_of ss) ≡ known_result (Replace f.now) (Parts_of ss)
result_replaced a ss f e = ap (λ z. known_result (operation_of z) (Parts_of ss)) e

pub replaced_two : (ss : List Held_known) (f : Text) (d d' : Held_known) → length ss ≡ 2 → known_result (Replace f) (Parts_of ss) ≡ replaced_in f (known_of (get_or ss 0 d)) (known_of (get_or ss 1 d'))
unfolding known_result knowns
replaced_two [] f d d' n = absurd (omega (arith, n))
replaced_two (x ∷ []) f d d' n = absurd (omega (arith, n))
replaced_two (x ∷ y ∷ []) f d d' n = refl
replaced_two (x ∷ y ∷ w ∷ ss) f d d' n = absurd (omega (arith, n))

pub replaced_otherwise : (ss : List Held_known) (f : Text) → (length ss ≡ 2 → ⊥) → known_result (Replace f) (Parts_of ss) ≡ data_of (Parts_of ss)
unfolding known_result knowns
replaced_otherwise [] f n = refl
replaced_otherwise (x ∷ []) f n = refl
replaced_otherwise (x ∷ y ∷ []) f n = absurd (n refl)
replaced_otherwise (x ∷ y ∷ w ∷ ss) f n = refl

data_in : (f : Text) (k : Known) → is_data k ≡ true → replaced_in f Data k ≡ Some Data
data_in f Data h = refl
data_in f (Known_tuple ss) h = absurd (let z : false ≡ true = h in cc)
data_in f (Known_record fs) h = absurd (let z : false ≡ true = h in cc)
data_in f (Known_function ps e sc) h = absurd (let z : false ≡ true = h in cc)
data_in f (Known_primitive p ss) h = absurd (let z : false ≡ true = h in cc)

function_in : (f : Text) (k : Known) → is_data k ≡ false → replaced_in f Data k ≡ None
function_in f Data h = absurd (let z : true ≡ false = h in cc)
function_in f (Known_tuple ss) h = refl
function_in f (Known_record fs) h = refl
function_in f (Known_function ps e sc) h = refl
function_in f (Known_primitive p ss) h = refl

module _ (f : Text) (u k : Known) where
  pub replaced_data : (s : Held_known) → known_of s ≡ u → u ≡ Data → is_data k ≡ true → Known_to (replaced_in f u k) (Ok s)
  replaced_data s e q h = known_is (ap (λ z. replaced_in f z k) q ∙ data_in f k h ∙ ap Some (sym (e ∙ q)))

  pub replaced_by_function : u ≡ Data → is_data k ≡ false → Known_to (replaced_in f u k) (Err Lost)
  replaced_by_function q h = not_known (ap (λ z. replaced_in f z k) q ∙ function_in f k h)

  pub replaced_field : {r : Result Held_known Stop} (fs gs : Known_fields) → u ≡ Known_record fs → gs ≡ known_replaced f k fs → Known_to (Some (known_record gs)) r → Known_to (replaced_in f u k) r
  replaced_field fs gs q e h = known_as_wanted (ap (λ z. replaced_in f z k) q ∙ sym (ap (λ z. Some (known_record z)) e)) h

pub replaced_neither : (f : Text) (s : Held_known) (k : Known) → (s.form.now ≡ held.Data → ⊥) → ((fs : Bor (List (Bor Text))) (ss : Bor (List Held_known)) → s.form.now ≡ held.Record fs ss → ⊥) → Known_to (replaced_in f (known_of s) k) (Err Lost)
replaced_neither f s k d r = by_form s (λ u. Known_to (replaced_in f u k) (Err Lost)) (λ is. absurd (d is)) (λ ss is. not_known refl) (λ fs ss is. absurd (r fs ss is)) (λ c is. not_known refl) (λ p ss is. not_known refl)

-- ---- a part of what has parts

pub part_neither : (f : Text) (s : Held_known) → (s.form.now ≡ held.Data → ⊥) → ((ss : Bor (List Held_known)) → s.form.now ≡ held.Tuple ss → ⊥) → ((fs : Bor (List (Bor Text))) (ss : Bor (List Held_known)) → s.form.now ≡ held.Record fs ss → ⊥) → Known_to (known_part f (known_of s)) (Err Lost)
part_neither f s d t r = by_form s (λ u. Known_to (known_part f u) (Err Lost)) (λ is. absurd (d is)) (λ ss is. absurd (t ss is)) (λ fs ss is. absurd (r fs ss is)) (λ c is. not_known refl) (λ p ss is. not_known refl)

pub no_memory_for : (o : Option Known) (r : Stop) → r ≡ Memory → Known_to o (Err r)
no_memory_for o r e = subst (λ z. Known_to o (Err z)) (sym e) no_memory_to_know
