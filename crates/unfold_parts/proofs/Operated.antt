-- Operations, each by its form.
use Rattle.std.proofs.Common.{◌≡◌, ℕ, suc, ◌+◌, ◌*◌, ◌<◌, ◌^◌, ◌%◌, ◌++◌, List, [], ◌∷◌, map, length, get_or, Bool, true, false, nat_lt, Option, Some, None, Ok, Err, pos, refl, sym, ap, ◌∙◌, subst, append_assoc, append-nil, le_refl, lt-ltb, le-ltb, arith}
use Rattle.std.specs.Borrow.{Bor}
use Rattle.std.specs.Prelude.{Result, unsigned_abs}
use Rattle.std.specs.Int.{int_rem_euclid}
use Rattle.std.proofs.Math.IntN.{pos-+ℤ-pos}
use Rattle.std.proofs.lemmas.Int.{int_rem_euclid_is}
use Rattle.std.proofs.lemmas.List.{map-append, length-map}
use Rattle.std.proofs.lemmas.Nat.{pow_pos}
use mathlib.Core.List.{head-eq_of_cons-eq, tail-eq_of_cons-eq}
use Rattle.fut_scalar.specs.Integers.{width_of}
use Rattle.fut_scalar.specs.declared.operator.BinOp.{BinOp}
use Rattle.fut_scalar.specs.declared.operator.BinOp.TheVariants as binary
use Rattle.fut_scalar.specs.declared.operator.UnOp.{UnOp}
use Rattle.fut_scalar.specs.declared.operator.UnOp.TheVariants as unary
use Rattle.fut_scalar.specs.declared.place.BindId.{BindId}
use Rattle.fut_scalar.specs.declared.place.Place.{Place}
use Rattle.fut_scalar.specs.declared.scalar.IntType.{IntType}
use Rattle.fut_scalar.specs.declared.scalar.Scalar.{Scalar}
use Rattle.fut_scalar.specs.declared.scalar.Scalar.TheVariants as scalar
use Rattle.fut_scalar.specs.declared.scalar.ScalarType.{ScalarType}
use Rattle.fut_ast.specs.Sorts.{Text}
use Rattle.fut_ast.specs.declared.node.End.{End}
use Rattle.fut_flat.specs.declared.act.Part.{Part}
use Rattle.fut_flat.specs.declared.act.Act.{Act}
use Rattle.fut_flat.specs.declared.act.Act.TheVariants as flat
use Rattle.fut_flat.specs.declared.prim.Primitive.{Primitive}
use Rattle.fut_flat.specs.declared.prim.Primitive.TheVariants as prim
use Rattle.fut_flat.specs.declared.prim.Ref.{Ref}
use Rattle.fut_flat.specs.declared.ty.TypeExp.{TypeExp}
use Rattle.fut_flat.specs.Erased.{operation_of, texts, type_of}
use Rattle.fut_flat.specs.Terms.{Operation, Integer, Truth, Tuple_of, Record_of, Binary, Negate, Complement, Project, Replace, Ascribe, Coerce, Declared, Assert, Array_of, Index, Update, Range}
use Rattle.fut_blocks.proofs.Layers.{binding_of-made, action_of-Operate, action_of-Make}
use Rattle.fut_blocks.specs.declared.block.Act.TheVariants as act
use Rattle.fut_blocks.specs.declared.block.Atom.{Atom}
use Rattle.fut_blocks.specs.declared.block.Atom.TheVariants as atom
use Rattle.fut_blocks.specs.declared.block.Making.{Making as Held_making}
use Rattle.fut_blocks.specs.declared.block.Making.TheVariants as make
use Rattle.fut_blocks.specs.declared.block.Operation.TheVariants as operation
use Rattle.fut_blocks.specs.declared.row.RowShape.{RowShape}
use Rattle.fut_blocks.specs.declared.block.Step.{roll-Step}
use Rattle.fut_blocks.specs.Meaning.{fitted}
use Rattle.fut_blocks.specs.Rows.{Row, Unknown_row, row_of, test_of}
use Rattle.fut_blocks.specs.Plain.{Action, Operate, Make, Read, Part_at, Replace_at, making_form, action_of, binding_of}
use Rattle.fut_meaning.specs.Arrays.{Making, Make_array, Make_index, Make_update, Make_range}
use Rattle.fut_meaning.specs.Operations.{arity, making, is_of_scalars}
use Rattle.fut_meaning.specs.Operators.{integer}
use Rattle.unfold.proofs.Mirror.{known_scalar, known_tuple, known_record, known_primitive}
use Rattle.unfold.specs.Held.{known_of, field_of, fields_known}
use Rattle.unfold.specs.Knowns.{Known, Scalar_known, Record_known, Primitive_known, Knowns, Scope, listed, knowns, replaced, part}
use Rattle.unfold.specs.Stuck.{No_operation, No_primitive, No_scalar, no_primitive}
use Rattle.unfold.specs.Unfolding.{Bindings, step, named, constant, literal_type, Equals, o_integer, o_truth, o_tuple, o_record, o_binary, o_equal, o_unequal, o_negate, o_complement, o_project, o_part, o_changed, o_made, o_replace, o_ascribe, o_coerce, o_declared, o_assert, Primitive_operates, p_convert, p_min, p_max, p_abs, p_popc, Packs, Packs_all, a_primitive_waits, a_primitive}
use Rattle.unfold.specs.Unfolding.{made_row}
use Rattle.fut_blocks.specs.Plain as plain
use Rattle.fut_blocks.specs.declared.row.SizeTest.{SizeTest}
use Rattle.fut_meaning.specs.Found.{Sizing, Told}
use Rattle.told_rows.specs.Calls.{maybe_test}
use Rattle.told_rows.specs.Tables.{Told_by}
use Rattle.unfold.specs.Telling.{known_row, literal_row, test_at}
use Rattle.unfold.specs.Unfolding as rules
use Rattle.unfold_parts.specs.Tables.{integer_at}
use Rattle.unfold_parts.specs.Told.{Operates, Tell}
use Rattle.unfold_parts.specs.declared.told.Told.{Told as Held_told}
use Rattle.unfold.specs.declared.known.Field.{Field}
use Rattle.unfold.specs.declared.known.Known.{Known as Held_known}
use Rattle.unfold.specs.declared.known.KnownForm.TheVariants as form
use Rattle.unfold_parts.specs.Answers.{Answered, answered, unanswered, Pushed, pushed, not_pushed, Computed, computed, not_computed, Is_step, is_step, On_one, on_one, On_two, on_two, At_once, at_once, not_at_once, Made, made, Made_to, Changed, changed, Changed_to, Packed_to, All_packed_to, Operated, Operated_at, Coerced_at, Is_tested, is_tested, Tested_to, Operated_primitive, Applied_primitive, primitive_applied, primitive_ready, primitive_refused, Equal_to, both_equal, Both_equal_to}
use Rattle.unfold_parts.specs.Parts.{Not_one, Not_one_scalar, Not_two_scalars, Is_scalar, a_scalar, no_scalar, Is_one_scalar, one_scalar, not_one_scalar, Is_two_scalars, two_scalars, not_two_scalars, Constant_to, constant_to, not_constant, One_to, one_to, not_one_to, is_record, Recorded_to, recorded_to, not_recorded}
use Rattle.unfold_parts.specs.Refused.{lost, no_memory, Not_all_packed, Not_compared}
use Rattle.unfold_parts.specs.declared.primitives.Applied.{Applied}
use Rattle.unfold_parts.specs.declared.parts.Scalars.{Scalars}
use Rattle.unfold_parts.proofs.Parting.{not_one, one_is, two_are}
use Rattle.unfold_parts.specs.declared.refusal.Refusal.{Refusal}
use Rattle.unfold_parts.specs.declared.refusal.Refusal.TheVariants.{Lost, Memory}
use Rattle.unfold_parts.proofs.Lacking.{No_record}
use Rattle.unfold_parts.proofs.Operands.{integer_lacks, truth_lacks, record_lacks, project_lacks, project_one, replace_two, replace_lacks, changed_lacks, negate_lacks, complement_lacks, ascribe_lacks, coerce_lacks, declared_lacks, assert_one, assert_lacks, array_lacks, index_lacks, update_lacks, range_lacks, binary_lacks, equal_lacks, unequal_lacks, convert_lacks, min_lacks, max_lacks, abs_lacks, popc_lacks, other_lacks}
use Rattle.unfold_parts.proofs.Refusing.{refused_as, only_memory, answered_as}

-- ---- answers

no_steps : {A : Type 0} (Gives : Bindings → A → ℕ → Type 0) (Lacks : Type 0) (before : Bindings) (n : ℕ) (a : A) → Gives [] a n → Answered Gives Lacks before before n (Ok a)
no_steps Gives Lacks before n a h = answered [] (sym (append-nil before)) h

-- an answer without steps
at_once_is : (t : IntType) (o : Operation Ref BindId) (at : Place) (ss : List Known) (n : ℕ) (before : Bindings) (r : Result Held_known Refusal) → At_once o ss r → Operated t o at ss n before before n r
at_once_is t o at ss n before (Ok s) (at_once h) = no_steps (λ bs (s : Held_known) next. Operates t o at ss n bs (known_of s) next) (No_operation t o at ss) before n s (h t at n)
at_once_is t o at ss n before (Err r) (not_at_once h) = unanswered (refused_as (λ lacks. lacks t at) h)

-- ---- single steps

pub computed_known : (a : Action) (n next : ℕ) (before after : Bindings) (u : Atom) (s : Held_known) → Computed a n before after next (Ok u) → s.form ≡ form.Scalar u → Answered (λ bs (s : Held_known) next. Is_step a n bs (known_of s) next) ⊥ before after next (Ok s)
computed_known a n next before after _ s (computed e q) i = answered (step (n ∷ []) a) e (subst (λ z. Is_step a n (step (n ∷ []) a) (known_of s) z) (sym q) (subst (λ z. Is_step a n (step (n ∷ []) a) z (suc n)) (sym (known_scalar s (atom.Name n) i)) is_step))

pub computed_err : (a : Action) (n next : ℕ) (before after : Bindings) (x : Refusal) → Computed a n before after next (Err x) → Answered (λ bs (s : Held_known) next. Is_step a n bs (known_of s) next) ⊥ before after next (Err x)
computed_err a n next before after _ not_computed = unanswered no_memory

module _ (ss : List Known) (n next : ℕ) (before after : Bindings) where
  pub unary_none : (op : UnOp) → Is_one_scalar ss None → Answered (λ bs (s : Held_known) next. On_one op ss n bs (known_of s) next) (Not_one_scalar ss) before after next (Err Lost)
  unary_none op (not_one_scalar lacks) = unanswered (lost lacks)

  pub binary_none : (op : BinOp) (at : Place) → Is_two_scalars ss None → Answered (λ bs (s : Held_known) next. On_two op at ss n bs (known_of s) next) (Not_two_scalars ss) before after next (Err Lost)
  binary_none op at (not_two_scalars lacks) = unanswered (lost lacks)

  pub convert_none : (to from : ScalarType) (at : Place) → Is_one_scalar ss None → Operated_primitive (prim.Convert to from) at ss n before after next (Err Lost)
  convert_none to from at (not_one_scalar lacks) = unanswered (lost (convert_lacks at to from ss lacks))

module _ (ss : List Known) (n next : ℕ) (before after : Bindings) (r : Result Held_known Refusal) where
  abbrev pub Steps : Action → Type 0
  Steps a = Answered (λ bs (s : Held_known) next. Is_step a n bs (known_of s) next) ⊥ before after next r

  pub unary_ok : (op : UnOp) (u : Atom) → Is_one_scalar ss (Some u) → Steps (Operate (operation.Unary op u)) → Answered (λ bs (s : Held_known) next. On_one op ss n bs (known_of s) next) (Not_one_scalar ss) before after next r
  unary_ok op u (one_scalar e) h = answered_as (λ bs s m x. on_one e x) (λ never. absurd never) h

  pub binary_ok : (op : BinOp) (at : Place) (p : Scalars) → Is_two_scalars ss (Some p) → Steps (Operate (operation.Binary op at p.first p.second)) → Answered (λ bs (s : Held_known) next. On_two op at ss n bs (known_of s) next) (Not_two_scalars ss) before after next r
  binary_ok op at p (two_scalars e) h = answered_as (λ bs s m x. on_two e x) (λ never. absurd never) h

  pub convert_ok : (to from : ScalarType) (at : Place) (u : Atom) → Is_one_scalar ss (Some u) → Steps (Operate (operation.Convert to u)) → Operated_primitive (prim.Convert to from) at ss n before after next r
  convert_ok to from at u (one_scalar e) h = answered_as (λ bs s m x. by_step bs (known_of s) m e x) (λ never. absurd never) h
    where
      by_step : (bs : Bindings) (s : Known) (m : ℕ) → ss ≡ Scalar_known u ∷ [] → Is_step (Operate (operation.Convert to u)) n bs s m → Primitive_operates (prim.Convert to from) at ss n bs s m
      by_step _ _ _ e is_step = subst (λ z. Primitive_operates (prim.Convert to from) at z n (step (n ∷ []) (Operate (operation.Convert to u))) (named n) (suc n)) (sym e) (p_convert (le_refl n))

-- ---- operations on one scalar and on two

on_one_as : (Q : List Known → ℕ → Bindings → Known → ℕ → Type 0) (op : UnOp) → ((u : Atom) (n : ℕ) → Q (Scalar_known u ∷ []) n (step (n ∷ []) (Operate (operation.Unary op u))) (named n) (suc n)) → (ss : List Known) (n : ℕ) (bs : Bindings) (s : Known) (m : ℕ) → On_one op ss n bs s m → Q ss n bs s m
on_one_as Q op q ss n _ _ _ (on_one {u} e is_step) = subst (λ z. Q z n (step (n ∷ []) (Operate (operation.Unary op u))) (named n) (suc n)) (sym e) (q u n)

on_two_as : (Q : List Known → ℕ → Bindings → Known → ℕ → Type 0) (op : BinOp) (at : Place) → ((u w : Atom) (n : ℕ) → Q (Scalar_known u ∷ Scalar_known w ∷ []) n (step (n ∷ []) (Operate (operation.Binary op at u w))) (named n) (suc n)) → (ss : List Known) (n : ℕ) (bs : Bindings) (s : Known) (m : ℕ) → On_two op at ss n bs s m → Q ss n bs s m
on_two_as Q op at q ss n _ _ _ (on_two {u} {w} e is_step) = subst (λ z. Q z n (step (n ∷ []) (Operate (operation.Binary op at u w))) (named n) (suc n)) (sym e) (q u w n)

module _ (ss : List Known) (n next : ℕ) (before after : Bindings) (r : Result Held_known Refusal) where
  abbrev pub One : UnOp → Type 0
  One op = Answered (λ bs (s : Held_known) next. On_one op ss n bs (known_of s) next) (Not_one_scalar ss) before after next r

  abbrev pub Two : BinOp → Place → Type 0
  Two op at = Answered (λ bs (s : Held_known) next. On_two op at ss n bs (known_of s) next) (Not_two_scalars ss) before after next r

  pub negated : (t : IntType) (at : Place) → One unary.Neg → Operated t Negate at ss n before after next r
  negated t at h = answered_as (λ bs s m x. on_one_as (Operates t Negate at) unary.Neg (λ u k row test. o_negate (le_refl k)) ss n bs (known_of s) m x) (negate_lacks t at ss) h

  pub complemented : (t : IntType) (at : Place) → One unary.Not → Operated t Complement at ss n before after next r
  complemented t at h = answered_as (λ bs s m x. on_one_as (Operates t Complement at) unary.Not (λ u k row test. o_complement (le_refl k)) ss n bs (known_of s) m x) (complement_lacks t at ss) h

  pub abs_ok : (t : IntType) (at : Place) → One unary.Abs → Operated_primitive (prim.Abs t) at ss n before after next r
  abs_ok t at h = answered_as (λ bs s m x. on_one_as (Primitive_operates (prim.Abs t) at) unary.Abs (λ u k. p_abs (le_refl k)) ss n bs (known_of s) m x) (abs_lacks at t ss) h

  pub popc_ok : (t : IntType) (at : Place) → One unary.Popc → Operated_primitive (prim.Popc t) at ss n before after next r
  popc_ok t at h = answered_as (λ bs s m x. on_one_as (Primitive_operates (prim.Popc t) at) unary.Popc (λ u k. p_popc (le_refl k)) ss n bs (known_of s) m x) (popc_lacks at t ss) h

  pub binary_is : (t : IntType) (op : BinOp) (at : Place) → (op ≡ binary.Eq → ⊥) → (op ≡ binary.Ne → ⊥) → Two op at → Operated t (Binary op) at ss n before after next r
  binary_is t op at e e' h = answered_as (λ bs s m x. on_two_as (Operates t (Binary op) at) op at (λ u w k row test. o_binary (le_refl k)) ss n bs (known_of s) m x) (binary_lacks t at op ss e e') h

  pub min_ok : (t : IntType) (at : Place) → Two binary.Min at → Operated_primitive (prim.Min t) at ss n before after next r
  min_ok t at h = answered_as (λ bs s m x. on_two_as (Primitive_operates (prim.Min t) at) binary.Min at (λ u w k. p_min (le_refl k)) ss n bs (known_of s) m x) (min_lacks at t ss) h

  pub max_ok : (t : IntType) (at : Place) → Two binary.Max at → Operated_primitive (prim.Max t) at ss n before after next r
  max_ok t at h = answered_as (λ bs s m x. on_two_as (Primitive_operates (prim.Max t) at) binary.Max at (λ u w k. p_max (le_refl k)) ss n bs (known_of s) m x) (max_lacks at t ss) h

-- ---- equality and assertions

module _ (at : Place) (ss : List Held_known) (n next : ℕ) (before after : Bindings) where
  pub both_is : (c d : Held_known) (r : Result Atom Refusal) → length ss ≡ 2 → Equal_to at (known_of (get_or ss 0 c)) (known_of (get_or ss 1 d)) n before after next r → Both_equal_to at (map known_of ss) n before after next r
  both_is c d r i2 h = answered_as (λ bs u m x. both_equal (two_are ss c d i2) x) (λ lacks s t e. as_two s t (sym (two_are ss c d i2) ∙ e) lacks) h
    where
      as_two : (s t : Known) → known_of (get_or ss 0 c) ∷ known_of (get_or ss 1 d) ∷ [] ≡ s ∷ t ∷ [] → Not_compared at (known_of (get_or ss 0 c)) (known_of (get_or ss 1 d)) → Not_compared at s t
      as_two s t e lacks = subst (λ z. Not_compared at z t) (head-eq_of_cons-eq e) (subst (Not_compared at (known_of (get_or ss 0 c))) (head-eq_of_cons-eq (tail-eq_of_cons-eq e)) lacks)

  pub both_many : (length ss ≡ 2 → ⊥) → Both_equal_to at (map known_of ss) n before after next (Err Lost)
  both_many h = unanswered (lost (λ s t e. absurd (h (sym (length-map ss known_of) ∙ ap length e))))

module _ (at : Place) (op : BinOp) (ss : List Known) (n next : ℕ) (before after : Bindings) where
  -- what is said of one operation is said of what equals it
  as_binary : (t : IntType) (o : BinOp) (r : Result Held_known Refusal) → op ≡ o → Operated t (Binary o) at ss n before after next r → Operated t (Binary op) at ss n before after next r
  as_binary t o r e h = subst (λ z. Operated t (Binary z) at ss n before after next r) (sym e) h

  pub equal_is : (t : IntType) (u : Atom) (s : Held_known) → op ≡ binary.Eq → Both_equal_to at ss n before after next (Ok u) → s.form ≡ form.Scalar u → Operated t (Binary op) at ss n before after next (Ok s)
  equal_is t u s e h i = as_binary t binary.Eq (Ok s) e (ok h)
    where
      ok : Both_equal_to at ss n before after next (Ok u) → Operated t (Binary binary.Eq) at ss n before after next (Ok s)
      ok (answered bs q (both_equal {s = c} {t = d} f x)) = answered bs q (subst (λ z. Operates t (Binary binary.Eq) at z n bs (known_of s) next) (sym f) (subst (λ z. Operates t (Binary binary.Eq) at (c ∷ d ∷ []) n bs z next) (sym (known_scalar s u i)) (λ row test. o_equal x)))

  pub equal_err : (t : IntType) (mid : ℕ) (between : Bindings) (x : Refusal) → op ≡ binary.Eq → Both_equal_to at ss n before between mid (Err x) → Operated t (Binary op) at ss n before after next (Err x)
  equal_err t mid between x e (unanswered h) = as_binary t binary.Eq (Err x) e (unanswered (refused_as (equal_lacks t at ss) h))

  pub unequal_err : (t : IntType) (mid : ℕ) (between : Bindings) (x : Refusal) → op ≡ binary.Ne → Both_equal_to at ss n before between mid (Err x) → Operated t (Binary op) at ss n before after next (Err x)
  unequal_err t mid between x e (unanswered h) = as_binary t binary.Ne (Err x) e (unanswered (refused_as (unequal_lacks t at ss) h))

  pub unequal_is : (t : IntType) (mid : ℕ) (between : Bindings) (u : Atom) (r : Result Held_known Refusal) → op ≡ binary.Ne → Both_equal_to at ss n before between mid (Ok u) → Answered (λ bs (s : Held_known) m. Is_step (Operate (operation.Unary unary.Not u)) mid bs (known_of s) m) ⊥ between after next r → Operated t (Binary op) at ss n before after next r
  unequal_is t mid between u r e h k = as_binary t binary.Ne r e (both r h k)
    where
      by_step : (c d : Known) (bs cs : Bindings) (s : Known) (m : ℕ) → ss ≡ c ∷ d ∷ [] → Equals at c d n bs u mid → Is_step (Operate (operation.Unary unary.Not u)) mid cs s m → Operates t (Binary binary.Ne) at ss n (bs ++ cs) s m
      by_step c d bs _ _ _ f x is_step = subst (λ z. Operates t (Binary binary.Ne) at z n (bs ++ step (mid ∷ []) (Operate (operation.Unary unary.Not u))) (named mid) (suc mid)) (sym f) (λ row test. o_unequal x (le_refl mid))

      both : (r : Result Held_known Refusal) → Both_equal_to at ss n before between mid (Ok u) → Answered (λ bs (s : Held_known) m. Is_step (Operate (operation.Unary unary.Not u)) mid bs (known_of s) m) ⊥ between after next r → Operated t (Binary binary.Ne) at ss n before after next r
      both (Ok s) (answered bs q (both_equal {s = c} {t = d} f x)) (answered cs k y) = answered (bs ++ cs) (k ∙ ap (λ z. z ++ cs) q ∙ append_assoc before bs cs) (by_step c d bs cs (known_of s) next f x y)
      both (Err e) h (unanswered y) = unanswered (refused_as (λ never. absurd never) y)

same_first : (ss : List Held_known) (c d : Held_known) → length ss ≡ 1 → get_or ss 0 d ≡ get_or ss 0 c
same_first [] c d i = absurd (omega (arith, i))
same_first (s ∷ ss) c d i = refl

pub assert_ok : (t : IntType) (at : Place) (ss : List Held_known) (c d : Held_known) (n : ℕ) (before after : Bindings) (u : Atom) (none : Bor (List ℕ)) (x : Unit {0}) → length ss ≡ 1 → Is_scalar (known_of (get_or ss 0 c)) (Some u) → none.now ≡ [] → Pushed (binding_of (roll-Step record { names = none; act = act.Operate (operation.Assert at u) })) before after (Ok x) → Operated t Assert at (map known_of ss) n before after n (Ok (get_or ss 0 d))
assert_ok t at ss c d n before after u none x i (a_scalar q) k (pushed h) =
    answered (step [] (Operate (operation.Assert at u))) (h ∙ ap (λ z. before ++ z ∷ []) (binding_of-made (record { names = none; act = act.Operate (operation.Assert at u) }) ∙ ap (λ z. (z, action_of (act.Operate (operation.Assert at u)))) k ∙ ap (λ z. ([], z)) (action_of-Operate (operation.Assert at u))))
    (subst (λ z. Operates t Assert at z n (step [] (Operate (operation.Assert at u))) (known_of (get_or ss 0 d)) n) (sym (one_is ss c i ∙ ap (λ z. z ∷ []) q))
    (subst (λ z. Operates t Assert at (Scalar_known u ∷ []) n (step [] (Operate (operation.Assert at u))) z n) (sym (ap known_of (same_first ss c d i) ∙ q)) (λ row test. o_assert)))

module _ (t : IntType) (at : Place) (ss : List Held_known) (n next : ℕ) (before after : Bindings) where
  pub assert_many : (length ss ≡ 1 → ⊥) → Operated t Assert at (map known_of ss) n before after next (Err Lost)
  assert_many h = unanswered (lost (assert_one t at (map known_of ss) (λ e. h (sym (length-map ss known_of) ∙ e))))

  pub assert_none : (c : Held_known) → length ss ≡ 1 → Is_scalar (known_of (get_or ss 0 c)) None → Operated t Assert at (map known_of ss) n before after next (Err Lost)
  assert_none c i (no_scalar lacks) = unanswered (lost (subst (No_operation t Assert at) (sym (one_is ss c i)) (assert_lacks t at (known_of (get_or ss 0 c)) lacks)))

  pub assert_err : {s : List ℕ × Action} {between later : Bindings} (x : Refusal) → Pushed s between later (Err x) → Operated t Assert at (map known_of ss) n before after next (Err x)
  assert_err _ not_pushed = unanswered no_memory

-- ---- operations without steps

at_zero : (m k : ℕ) → 0 < k → unsigned_abs (int_rem_euclid (pos m) (pos k)) ≡ m % k
at_zero m k some = let e : m + 0 * k ≡ m = omega arith in ap unsigned_abs (int_rem_euclid_is (pos m) (pos k) k 0 m some refl (pos-+ℤ-pos m (0 * k) ∙ ap pos e))

fitted_integer : (t : IntType) (m : ℕ) → fitted (scalar.Int t m) ≡ integer t (pos m)
fitted_integer t m = ap (scalar.Int t) (sym (at_zero m (2 ^ width_of t) (pow_pos (width_of t))))

no_parts : (ss : List Held_known) → length ss ≡ 0 → map known_of ss ≡ []
no_parts [] e = refl
no_parts (s ∷ ss) e = absurd (omega (arith, e))

module _ (c : Scalar) (ss : List Held_known) where
  pub constant_is : (s : Held_known) → length ss ≡ 0 → s.form ≡ form.Scalar (atom.Constant c) → Constant_to c (map known_of ss) (Ok s)
  constant_is s e i = constant_to (no_parts ss e) (known_scalar s (atom.Constant c) i)

  pub constant_many : (length ss ≡ 0 → ⊥) → Constant_to c (map known_of ss) (Err Lost)
  constant_many h = not_constant (λ e. h (sym (length-map ss known_of) ∙ ap length e))

module _ (t : IntType) (at : Place) (f : Text) (ss : List Held_known) (n : ℕ) (before : Bindings) where
  pub project_ok : (c s : Held_known) → length ss ≡ 1 → Some (known_of s) ≡ part f (known_of (get_or ss 0 c)) → Operated t (Project f) at (map known_of ss) n before before n (Ok s)
  project_ok c s i h = no_steps (λ bs (s : Held_known) next. Operates t (Project f) at (map known_of ss) n bs (known_of s) next) (No_operation t (Project f) at (map known_of ss)) before n s (subst (λ z. Operates t (Project f) at z n [] (known_of s) n) (sym (one_is ss c i)) (λ row test. o_project (sym h)))

  module _ (after : Bindings) (next : ℕ) where
    pub project_read : (c : Held_known) (u : Atom) (r : Result Held_known Refusal) → length ss ≡ 1 → Is_scalar (known_of (get_or ss 0 c)) (Some u) → Answered (λ bs (s : Held_known) m. Is_step (Read (Part_at f) (u ∷ [])) n bs (known_of s) m) ⊥ before after next r → Operated t (Project f) at (map known_of ss) n before after next r
    project_read c u r i (a_scalar e) h = answered_as (λ bs s m x. by_step bs (known_of s) m x) (λ never. absurd never) h
      where
        by_step : (bs : Bindings) (s : Known) (m : ℕ) → Is_step (Read (Part_at f) (u ∷ [])) n bs s m → Operates t (Project f) at (map known_of ss) n bs s m
        by_step _ _ _ is_step = subst (λ z. Operates t (Project f) at z n (step (n ∷ []) (Read (Part_at f) (u ∷ []))) (named n) (suc n)) (sym (one_is ss c i ∙ ap (λ z. z ∷ []) e)) (λ row test. o_part (le_refl n))

    pub project_none : (c d : Held_known) → length ss ≡ 1 → Is_scalar (known_of (get_or ss 0 c)) None → None ≡ part f (known_of (get_or ss 0 d)) → Operated t (Project f) at (map known_of ss) n before after next (Err Lost)
    project_none c d i (no_scalar lacks) h = unanswered (lost (subst (No_operation t (Project f) at) (sym (one_is ss d i)) (project_lacks t at f (known_of (get_or ss 0 d)) (sym h) (subst (λ z. No_scalar (known_of z)) (sym (same_first ss c d i)) lacks))))

    pub project_many : (length ss ≡ 1 → ⊥) → Operated t (Project f) at (map known_of ss) n before after next (Err Lost)
    project_many h = unanswered (lost (project_one t at f (map known_of ss) (not_one ss h)))

pub replace_ok : (t : IntType) (at : Place) (f : Text) (ss : List Held_known) (n : ℕ) (before : Bindings) (c d : Held_known) (fs gs : Bor (List Field)) (s : Held_known) → length ss ≡ 2 → (get_or ss 0 c).form ≡ form.Record fs → s.form ≡ form.Record gs → fields_known (map field_of gs.now) ≡ replaced f (known_of (get_or ss 1 d)) (fields_known (map field_of fs.now)) → Operated t (Replace f) at (map known_of ss) n before before n (Ok s)
replace_ok t at f ss n before c d fs gs s i2 i j q =
    no_steps (λ bs (s : Held_known) next. Operates t (Replace f) at (map known_of ss) n bs (known_of s) next) (No_operation t (Replace f) at (map known_of ss)) before n s
    (subst (λ z. Operates t (Replace f) at z n [] (known_of s) n) (sym (two_are ss c d i2 ∙ ap (λ z. z ∷ known_of (get_or ss 1 d) ∷ []) (known_record (get_or ss 0 c) fs i))) (subst (λ z. Operates t (Replace f) at (Record_known (fields_known (map field_of fs.now)) ∷ known_of (get_or ss 1 d) ∷ []) n [] z n) (sym (known_record s gs j ∙ ap Record_known q)) (λ row test. o_replace)))

module _ (t : IntType) (at : Place) (f : Text) (ss : List Held_known) (n : ℕ) (before after : Bindings) (next : ℕ) where
  pub replace_many : (length ss ≡ 2 → ⊥) → Operated t (Replace f) at (map known_of ss) n before after next (Err Lost)
  replace_many h = unanswered (lost (replace_two t at f (map known_of ss) (λ e. h (sym (length-map ss known_of) ∙ e))))

  pub replace_other : (c : Held_known) → length ss ≡ 2 → No_record (known_of (get_or ss 0 c)) → No_scalar (known_of (get_or ss 0 c)) → Operated t (Replace f) at (map known_of ss) n before after next (Err Lost)
  replace_other c i2 lacks none = unanswered (lost (subst (No_operation t (Replace f) at) (sym (two_are ss c c i2)) (replace_lacks t at f (known_of (get_or ss 0 c)) (known_of (get_or ss 1 c)) lacks none)))

  pub replace_changed : (c d : Held_known) (u : Atom) (r : Result Held_known Refusal) → length ss ≡ 2 → (get_or ss 0 c).form ≡ form.Scalar u → Changed_to f u (known_of (get_or ss 1 d)) n before after next r → Operated t (Replace f) at (map known_of ss) n before after next r
  replace_changed c d u r i2 is h = subst (λ z. Operated t (Replace f) at z n before after next r) (sym (two_are ss c d i2 ∙ ap (λ z. z ∷ known_of (get_or ss 1 d) ∷ []) (known_scalar (get_or ss 0 c) u is)))
      (answered_as (λ bs s m x. by_steps bs (known_of s) m x) (changed_lacks t at f u (known_of (get_or ss 1 d))) h)
    where
      by_steps : (bs : Bindings) (s : Known) (m : ℕ) → Changed f u (known_of (get_or ss 1 d)) n bs s m → Operates t (Replace f) at (Scalar_known u ∷ known_of (get_or ss 1 d) ∷ []) n bs s m
      by_steps bs s m (changed {m = k} {cs = cs} {w = w} p x e) = subst (λ z. Operates t (Replace f) at (Scalar_known u ∷ known_of (get_or ss 1 d) ∷ []) n z s m) (sym e) (one p x)
        where
          one : {ds : Bindings} {s : Known} {m : ℕ} → Packs (known_of (get_or ss 1 d)) n cs w k → Is_step (Read (Replace_at f) (u ∷ w ∷ [])) k ds s m → Operates t (Replace f) at (Scalar_known u ∷ known_of (get_or ss 1 d) ∷ []) n (cs ++ ds) s m
          one p is_step = λ row test. o_changed p (le_refl k)

  pub replace_err : (x : Refusal) → x ≡ Memory → Operated t (Replace f) at (map known_of ss) n before after next (Err x)
  replace_err x e = unanswered (only_memory e)

-- a step behind those that pack the parts
pub changed_is : (f : Text) (u w : Atom) (s : Known) (n mid next : ℕ) (before between after : Bindings) (both : Bor (List Atom)) (name : Bor Text) (at : Place) (r : Result Held_known Refusal) → both.now ≡ u ∷ w ∷ [] → name.now ≡ f → Packed_to s n before between mid (Ok w) → Answered (λ bs (t : Held_known) m. Is_step (action_of (act.Make (make.Replace name) at both)) mid bs (known_of t) m) ⊥ between after next r → Changed_to f u s n before after next r
unfolding making_form
changed_is f u w s n mid next before between after both name at _ i j (answered bs e p) (answered {a = t} cs q x) = answered (bs ++ cs) (q ∙ ap (λ z. z ++ cs) e ∙ append_assoc before bs cs) (changed p (subst (λ z. Is_step z mid cs (known_of t) next) (action_of-Make (make.Replace name) at both ∙ ap (λ z. Read (Replace_at z) both.now) j ∙ ap (Read (Replace_at f)) i) x) refl)
changed_is f u w s n mid next before between after both name at _ i j h (unanswered x) = unanswered (refused_as (λ never. absurd never) x)

pub changed_err : (f : Text) (u : Atom) (s : Known) (n mid next : ℕ) (before between after : Bindings) (x : Refusal) → Packed_to s n before between mid (Err x) → Changed_to f u s n before after next (Err x)
changed_err f u s n mid next before between after x (unanswered h) = unanswered h

pub part_is : (f : Bor Text) (u : Atom) (n next : ℕ) (before after : Bindings) (whole : Bor (List Atom)) (at : Place) (r : Result Held_known Refusal) → whole.now ≡ u ∷ [] → Answered (λ bs (t : Held_known) m. Is_step (action_of (act.Make (make.Part f) at whole)) n bs (known_of t) m) ⊥ before after next r → Answered (λ bs (t : Held_known) m. Is_step (Read (Part_at f.now) (u ∷ [])) n bs (known_of t) m) ⊥ before after next r
unfolding making_form
part_is f u n next before after whole at r i h = answered_as (λ bs t m x. subst (λ z. Is_step z n bs (known_of t) m) (action_of-Make (make.Part f) at whole ∙ ap (Read (Part_at f.now)) i) x) (λ never. never) h

module _ (m : Held_making) (at : Place) (ss : List Known) (n mid next : ℕ) (before between after : Bindings) where
  pub made_is : (us : Bor (List Atom)) (r : Result Held_known Refusal) → All_packed_to ss n before between mid (Ok us) → Answered (λ bs (t : Held_known) k. Is_step (action_of (act.Make m at us)) mid bs (known_of t) k) ⊥ between after next r → Made_to (making_form m at) ss n before after next r
  made_is us _ (answered bs e p) (answered {a = t} cs q x) = answered (bs ++ cs) (q ∙ ap (λ z. z ++ cs) e ∙ append_assoc before bs cs) (made p (subst (λ z. Is_step z mid cs (known_of t) next) (action_of-Make m at us) x) refl)
  made_is us _ h (unanswered x) = unanswered (refused_as (λ never. absurd never) x)

  pub made_err : (x : Refusal) → All_packed_to ss n before between mid (Err x) → Made_to (making_form m at) ss n before after next (Err x)
  made_err x (unanswered h) = unanswered h

pub at_once_err : (o : Operation Ref BindId) (ss : List Known) (x : Refusal) → x ≡ Memory → At_once o ss (Err x)
at_once_err o ss x e = not_at_once (only_memory e)

pub same_one : (ss : List Held_known) (c : Held_known) → length ss ≡ 1 → One_to (map known_of ss) (Ok (get_or ss 0 c))
same_one ss c i = one_to (one_is ss c i)

pub same_many : (ss : List Held_known) → (length ss ≡ 1 → ⊥) → One_to (map known_of ss) (Err Lost)
same_many ss h = not_one_to (not_one ss h)

-- ---- by act

module _ (t : IntType) (a : Act) (at : Place) (n : ℕ) (before : Bindings) where
  module _ (ss : List Known) (next : ℕ) (after : Bindings) (r : Result Held_known Refusal) where
    as_act : (o : Operation Ref BindId) → operation_of a ≡ o → Operated t o at ss n before after next r → Operated t (operation_of a) at ss n before after next r
    as_act o e h = subst (λ z. Operated t z at ss n before after next r) (sym e) h

    pub act_binary : (op : BinOp) → a ≡ flat.Binary op → Operated t (Binary op) at ss n before after next r → Operated t (operation_of a) at ss n before after next r
    act_binary op e h = as_act (Binary op) (ap operation_of e) h

    pub act_negate : a ≡ flat.Negate → One ss n next before after r unary.Neg → Operated t (operation_of a) at ss n before after next r
    act_negate e h = as_act Negate (ap operation_of e) (negated ss n next before after r t at h)

    pub act_complement : a ≡ flat.Complement → One ss n next before after r unary.Not → Operated t (operation_of a) at ss n before after next r
    act_complement e h = as_act Complement (ap operation_of e) (complemented ss n next before after r t at h)

    pub act_project : (f : Bor Text) → a ≡ flat.Project f → Operated t (Project f.now) at ss n before after next r → Operated t (operation_of a) at ss n before after next r
    act_project f e h = as_act (Project f.now) (ap operation_of e) h

    pub act_replace : (f : Bor Text) → a ≡ flat.Replace f → Operated t (Replace f.now) at ss n before after next r → Operated t (operation_of a) at ss n before after next r
    act_replace f e h = as_act (Replace f.now) (ap operation_of e) h

    -- what is made of the parts
    made_as : (o : Operation Ref BindId) (k : Making) (f : List Atom → Action) → operation_of a ≡ o → making o ≡ Some k → ((row : Row) → made_row row k ≡ Unknown_row) → ((us : List Atom) → f us ≡ Make Unknown_row k at us) → (Not_all_packed ss → No_operation t o at ss) → Made_to f ss n before after next r → Operated t (operation_of a) at ss n before after next r
    made_as o k f e q none same lacks h = as_act o e (answered_as (λ bs s m x. by_steps bs (known_of s) m x) lacks h)
      where
        one : {us : List Atom} {k' m : ℕ} {cs ds : Bindings} {s : Known} → Packs_all ss n cs us k' → Is_step (f us) k' ds s m → Operates t o at ss n (cs ++ ds) s m
        one {us} {k'} {cs = cs} p is_step row test = subst (λ z. rules.Operates row test t o at ss n (cs ++ step (k' ∷ []) z) (named k') (suc k')) (ap (λ z. Make z k at us) (none row) ∙ sym (same us)) (o_made q p (le_refl k'))

        by_steps : (bs : Bindings) (s : Known) (m : ℕ) → Made f ss n bs s m → Operates t o at ss n bs s m
        by_steps bs s m (made p x e) = subst (λ z. Operates t o at ss n z s m) (sym e) (one p x)

    pub act_index : (ps : Bor (List Part)) → a ≡ flat.Index ps → Made_to (making_form (make.Index ps) at) ss n before after next r → Operated t (operation_of a) at ss n before after next r
    unfolding making_form
    act_index ps e h = made_as (Index ps.now) (Make_index ps.now) (making_form (make.Index ps) at) (ap operation_of e) refl (λ row. refl) (λ us. refl) (index_lacks t at ps.now ss) h

    pub act_update : a ≡ flat.Update → Made_to (making_form make.Update at) ss n before after next r → Operated t (operation_of a) at ss n before after next r
    unfolding making_form
    act_update e h = made_as Update Make_update (making_form make.Update at) (ap operation_of e) refl (λ row. refl) (λ us. refl) (update_lacks t at ss) h

    pub act_range : (stepped : Bool) (end : End) → a ≡ flat.Range stepped end → Made_to (making_form (make.Range stepped end) at) ss n before after next r → Operated t (operation_of a) at ss n before after next r
    unfolding making_form
    act_range stepped end e h = made_as (Range stepped end) (Make_range stepped end) (making_form (make.Range stepped end) at) (ap operation_of e) refl (λ row. refl) (λ us. refl) (range_lacks t at stepped end ss) h

    pub act_assert : a ≡ flat.Assert → Operated t Assert at ss n before after next r → Operated t (operation_of a) at ss n before after next r
    act_assert e h = as_act Assert (ap operation_of e) h

  module _ (ss : List Known) (r : Result Held_known Refusal) where
    now_as : (o : Operation Ref BindId) → operation_of a ≡ o → At_once o ss r → Operated t (operation_of a) at ss n before before n r
    now_as o e h = as_act ss n before r o e (at_once_is t o at ss n before r h)

    constant_as : (o : Operation Ref BindId) (c : Scalar) → operation_of a ≡ o → (ss ≡ [] → Operates t o at ss n [] (Scalar_known (atom.Constant c)) n) → ((ss ≡ [] → ⊥) → No_operation t o at ss) → Constant_to c ss r → Operated t (operation_of a) at ss n before before n r
    constant_as o c e f g h = as_act ss n before r o e (is r h)
      where
        is : (r : Result Held_known Refusal) → Constant_to c ss r → Operated t o at ss n before before n r
        is (Ok s) (constant_to q i) = no_steps (λ bs (s : Held_known) next. Operates t o at ss n bs (known_of s) next) (No_operation t o at ss) before n s (subst (λ z. Operates t o at ss n [] z n) (sym i) (f q))
        is _ (not_constant lacks) = unanswered (lost (g lacks))

    pub act_integer : (m : ℕ) (suffix : Option IntType) (u : IntType) → a ≡ flat.Int m suffix → u ≡ literal_type t suffix → Constant_to (scalar.Int u m) ss r → Operated t (operation_of a) at ss n before before n r
    act_integer m suffix u e q h = constant_as (Integer m suffix) (scalar.Int u m) (ap operation_of e) (λ i. subst (λ z. Operates t (Integer m suffix) at z n [] (constant (scalar.Int u m)) n) (sym i) (λ row test. o_integer (fitted_integer u m ∙ ap (λ z. integer z (pos m)) q))) (integer_lacks t at m suffix ss) h

    pub act_truth : (b : Bool) → a ≡ flat.Truth b → Constant_to (scalar.Bool b) ss r → Operated t (operation_of a) at ss n before before n r
    act_truth b e h = constant_as (Truth b) (scalar.Bool b) (ap operation_of e) (λ i. subst (λ z. Operates t (Truth b) at z n [] (constant (scalar.Bool b)) n) (sym i) (λ row test. o_truth)) (truth_lacks t at b ss) h

    pub act_record : (fs : Bor (List (Bor Text))) → a ≡ flat.Record fs → Recorded_to (texts fs.now) ss r → Operated t (operation_of a) at ss n before before n r
    act_record fs e h = now_as (Record_of (texts fs.now)) (ap operation_of e) (is_made r h)
      where
        is_made : (r : Result Held_known Refusal) → Recorded_to (texts fs.now) ss r → At_once (Record_of (texts fs.now)) ss r
        is_made (Ok s) (recorded_to (is_record q i)) = at_once (λ u at n. subst (λ z. Operates u (Record_of (texts fs.now)) at ss n [] z n) (sym i) (λ row test. o_record q))
        is_made (Err r) (not_recorded h) = not_at_once (refused_as (λ lacks u at. record_lacks u at (texts fs.now) ss lacks) h)

    -- what has one part is as that part
    same_as : (o : Operation Ref BindId) → ((u : IntType) (at : Place) (n : ℕ) (s : Known) → Operates u o at (s ∷ []) n [] s n) → ((u : IntType) (at : Place) → Not_one ss → No_operation u o at ss) → (r : Result Held_known Refusal) → One_to ss r → At_once o ss r
    same_as o f g (Ok s) (one_to e) = at_once (λ u at n. subst (λ z. Operates u o at z n [] (known_of s) n) (sym e) (f u at n (known_of s)))
    same_as o f g _ (not_one_to lacks) = not_at_once (lost (λ u at. g u at lacks))

    pub act_ascribe : (u : Bor TypeExp) → a ≡ flat.Ascribe u → One_to ss r → Operated t (operation_of a) at ss n before before n r
    act_ascribe u e h = now_as (Ascribe (type_of u.now)) (ap operation_of e) (same_as (Ascribe (type_of u.now)) (λ v at n s row test. o_ascribe) (λ v at. ascribe_lacks v at (type_of u.now) ss) r h)

    pub act_declared : (u : Bor TypeExp) → a ≡ flat.Declared u → One_to ss r → Operated t (operation_of a) at ss n before before n r
    act_declared u e h = now_as (Declared (type_of u.now)) (ap operation_of e) (same_as (Declared (type_of u.now)) (λ v at n s row test. o_declared) (λ v at. declared_lacks v at (type_of u.now) ss) r h)

  pub act_tuple : (ss : Bor (List Held_known)) (s : Held_known) → a ≡ flat.Tuple → s.form ≡ form.Tuple ss → Operated t (operation_of a) at (map known_of ss.now) n before before n (Ok s)
  act_tuple ss s e i = now_as (map known_of ss.now) (Ok s) Tuple_of (ap operation_of e) (at_once (λ u at n. subst (λ z. Operates u Tuple_of at (map known_of ss.now) n [] z n) (sym (known_tuple s ss i)) (λ row test. o_tuple)))

-- ---- at a node, under the names of a scope

module _ (T : Held_told) (sc : Scope) (lo : ℕ) (at : Place) (n : ℕ) (before : Bindings) where
  -- what is done whatever is told of rows and sizes
  pub plainly : (t : IntType) (o : Operation Ref BindId) (ss : List Known) (after : Bindings) (next : ℕ) (r : Result Held_known Refusal) → t ≡ integer_at T.types.now lo → Operated t o at ss n before after next r → Operated_at T sc lo o at ss n before after next r
  plainly t o ss after next (Ok s) e (answered bs g h) = answered bs g (λ told i. subst (λ z. rules.Operates (literal_row told.sizes sc lo) (test_at told.sizes sc lo) z o at ss n bs (known_of s) next) (e ∙ sym (i.integers lo)) (h (literal_row told.sizes sc lo) (test_at told.sizes sc lo)))
  plainly t o ss after next (Err x) e (unanswered h) = unanswered (refused_as (subst (λ z. No_operation z o at ss) e) h)

  module _ (a : Act) (ss : List Known) (after : Bindings) (next : ℕ) (r : Result Held_known Refusal) where
    pub act_array : a ≡ flat.Array → Operated_at T sc lo Array_of at ss n before after next r → Operated_at T sc lo (operation_of a) at ss n before after next r
    act_array e h = subst (λ z. Operated_at T sc lo z at ss n before after next r) (sym (ap operation_of e)) h

    pub act_coerce : (u : Bor TypeExp) → a ≡ flat.Coerce u → Coerced_at T sc lo at ss n before after next r → Operated_at T sc lo (operation_of a) at ss n before after next r
    act_coerce u e h = subst (λ z. Operated_at T sc lo z at ss n before after next r) (sym (ap operation_of e)) (h (type_of u.now))

  -- an array literal, of whose rows the shape is told
  pub literal_is : (row : Bor RowShape) (ss : List Known) (after : Bindings) (next : ℕ) (r : Result Held_known Refusal) → ((Z : Option Sizing) → Told_by T.sizes Z → row_of row.now ≡ literal_row Z sc lo) → Made_to (making_form (make.Array row) at) ss n before after next r → Operated_at T sc lo Array_of at ss n before after next r
  unfolding making_form
  literal_is row ss after next r e h = answered_as (λ bs s m x told i. by_steps told i bs (known_of s) m x) (array_lacks (integer_at T.types.now lo) at ss) h
    where
      one : (told : Told) → Tell T told → {us : List Atom} {k m : ℕ} {cs ds : Bindings} {s : Known} → Packs_all ss n cs us k → Is_step (Make (row_of row.now) Make_array at us) k ds s m → rules.Operates (literal_row told.sizes sc lo) (test_at told.sizes sc lo) (told.integer_at lo) Array_of at ss n (cs ++ ds) s m
      one told i {us} {k} {cs = cs} p is_step = subst (λ z. rules.Operates (literal_row told.sizes sc lo) (test_at told.sizes sc lo) (told.integer_at lo) Array_of at ss n (cs ++ step (k ∷ []) (Make z Make_array at us)) (named k) (suc k)) (sym (e told.sizes i.sizes)) (o_made refl p (le_refl k))

      by_steps : (told : Told) → Tell T told → (bs : Bindings) (s : Known) (m : ℕ) → Made (making_form (make.Array row) at) ss n bs s m → rules.Operates (literal_row told.sizes sc lo) (test_at told.sizes sc lo) (told.integer_at lo) Array_of at ss n bs s m
      by_steps told i bs s m (made p x q) = subst (λ z. rules.Operates (literal_row told.sizes sc lo) (test_at told.sizes sc lo) (told.integer_at lo) Array_of at ss n z s m) (sym q) (one told i p x)

  module _ (ss : List Held_known) (after : Bindings) (next : ℕ) where
    -- data of a written type
    pub coerced_many : (length ss ≡ 1 → ⊥) → Coerced_at T sc lo at (map known_of ss) n before after next (Err Lost)
    coerced_many h t = unanswered (lost (coerce_lacks (integer_at T.types.now lo) at t (map known_of ss) (not_one ss h)))

    pub coerced_test : (o : Option (Bor SizeTest)) (test : Bor SizeTest) (c : Held_known) (r : Result Held_known Refusal) → length ss ≡ 1 → o ≡ Some test → ((Z : Option Sizing) → Told_by T.sizes Z → maybe_test o ≡ test_at Z sc lo) → Tested_to (test_of test.now) at (known_of (get_or ss 0 c)) n before after next r → Coerced_at T sc lo at (map known_of ss) n before after next r
    coerced_test o test c r i q e h t = answered_as (λ bs s m x told j. by_step told j bs (known_of s) m x) (λ never. absurd never) h
      where
        by_step : (told : Told) → Tell T told → (bs : Bindings) (s : Known) (m : ℕ) → Is_tested (test_of test.now) at (known_of (get_or ss 0 c)) n bs s m → rules.Operates (literal_row told.sizes sc lo) (test_at told.sizes sc lo) (told.integer_at lo) (Coerce t) at (map known_of ss) n bs s m
        by_step told j _ _ _ is_tested = subst (λ z. rules.Operates (literal_row told.sizes sc lo) (test_at told.sizes sc lo) (told.integer_at lo) (Coerce t) at z n (step [] (plain.Coerce at (test_of test.now) (known_row (known_of (get_or ss 0 c))))) (known_of (get_or ss 0 c)) n) (sym (one_is ss c i))
            (subst (λ z. rules.Operates (literal_row told.sizes sc lo) z (told.integer_at lo) (Coerce t) at (known_of (get_or ss 0 c) ∷ []) n (step [] (plain.Coerce at (test_of test.now) (known_row (known_of (get_or ss 0 c))))) (known_of (get_or ss 0 c)) n) (sym (ap maybe_test q) ∙ e told.sizes j.sizes) o_coerce)

  pub coerced_same : (ss : List Held_known) (o : Option (Bor SizeTest)) (c : Held_known) → length ss ≡ 1 → o ≡ None → ((Z : Option Sizing) → Told_by T.sizes Z → maybe_test o ≡ test_at Z sc lo) → Coerced_at T sc lo at (map known_of ss) n before before n (Ok (get_or ss 0 c))
  coerced_same ss o c i q e t = answered [] (sym (append-nil before)) (λ told j. subst (λ z. rules.Operates (literal_row told.sizes sc lo) (test_at told.sizes sc lo) (told.integer_at lo) (Coerce t) at z n [] (known_of (get_or ss 0 c)) n) (sym (one_is ss c i))
      (subst (λ z. rules.Operates (literal_row told.sizes sc lo) z (told.integer_at lo) (Coerce t) at (known_of (get_or ss 0 c) ∷ []) n [] (known_of (get_or ss 0 c)) n) (sym (ap maybe_test q) ∙ e told.sizes j.sizes) o_coerce))

-- ---- primitives

pub primitive_other : (p : Primitive) (at : Place) (ss : List Known) (n next : ℕ) (before after : Bindings) → ((to from : ScalarType) → p ≡ prim.Convert to from → ⊥) → ((t : IntType) → p ≡ prim.Min t → ⊥) → ((t : IntType) → p ≡ prim.Max t → ⊥) → ((t : IntType) → p ≡ prim.Abs t → ⊥) → ((t : IntType) → p ≡ prim.Popc t → ⊥) → Operated_primitive p at ss n before after next (Err Lost)
primitive_other p at ss n next before after c i a b o = unanswered (lost (other_lacks at p ss c i a b o))

module _ (p : Primitive) (at : Place) (ss : List Known) (n next : ℕ) (before after : Bindings) (r : Result Held_known Refusal) where
  as_primitive : (q : Primitive) → p ≡ q → Operated_primitive q at ss n before after next r → Operated_primitive p at ss n before after next r
  as_primitive q e h = subst (λ z. Operated_primitive z at ss n before after next r) (sym e) h

  pub primitive_convert : (to from : ScalarType) → p ≡ prim.Convert to from → Operated_primitive (prim.Convert to from) at ss n before after next r → Operated_primitive p at ss n before after next r
  primitive_convert to from e h = as_primitive (prim.Convert to from) e h

  pub primitive_min : (t : IntType) → p ≡ prim.Min t → Two ss n next before after r binary.Min at → Operated_primitive p at ss n before after next r
  primitive_min t e h = as_primitive (prim.Min t) e (min_ok ss n next before after r t at h)

  pub primitive_max : (t : IntType) → p ≡ prim.Max t → Two ss n next before after r binary.Max at → Operated_primitive p at ss n before after next r
  primitive_max t e h = as_primitive (prim.Max t) e (max_ok ss n next before after r t at h)

  pub primitive_abs : (t : IntType) → p ≡ prim.Abs t → One ss n next before after r unary.Abs → Operated_primitive p at ss n before after next r
  primitive_abs t e h = as_primitive (prim.Abs t) e (abs_ok ss n next before after r t at h)

  pub primitive_popc : (t : IntType) → p ≡ prim.Popc t → One ss n next before after r unary.Popc → Operated_primitive p at ss n before after next r
  primitive_popc t e h = as_primitive (prim.Popc t) e (popc_ok ss n next before after r t at h)

-- ---- primitives applied

listed_knowns : (ss : List Known) → listed (knowns ss) ≡ ss
listed_knowns [] = refl
listed_knowns (s ∷ ss) = ap (λ z. s ∷ z) (listed_knowns ss)

module _ (p : Primitive) (at : Place) (given : List Held_known) (s : Held_known) (arguments : List Held_known) (n : ℕ) (e : arguments ≡ given ++ s ∷ []) where
  all_are : map known_of arguments ≡ listed (knowns (map known_of given)) ++ known_of s ∷ []
  all_are = ap (map known_of) e ∙ map-append known_of given (s ∷ []) ∙ ap (λ z. z ++ known_of s ∷ []) (sym (listed_knowns (map known_of given)))

  as_many : length (listed (knowns (map known_of given)) ++ known_of s ∷ []) ≡ length arguments
  as_many = ap length (sym all_are) ∙ length-map arguments known_of

  waiting : length arguments < arity p → nat_lt (length (listed (knowns (map known_of given)) ++ known_of s ∷ [])) (arity p) ≡ true
  waiting lt = ap (λ z. nat_lt z (arity p)) as_many ∙ lt-ltb _ _ lt

  full : (length arguments < arity p → ⊥) → nat_lt (length (listed (knowns (map known_of given)) ++ known_of s ∷ [])) (arity p) ≡ false
  full ge = ap (λ z. nat_lt z (arity p)) as_many ∙ le-ltb _ _ (omega (arith, ge))

  pub primitive_waits : (row : Bor (List Held_known)) (before : Bindings) (w : Held_known) → row.now ≡ arguments → length arguments < arity p → w.form ≡ form.Primitive p at row → Applied_primitive p at (knowns (map known_of given)) (known_of s) n before before n (Ok (Applied.Known w))
  primitive_waits row before w q lt i = primitive_applied [] (sym (append-nil before)) (λ told tops.
      subst (λ z. rules.Applies told tops (Primitive_known p at (knowns (map known_of given))) (known_of s) n [] z n)
      (sym (known_primitive w p at row i ∙ ap (λ z. Primitive_known p at (knowns (map known_of z))) q ∙ ap (λ z. Primitive_known p at (knowns z)) all_are))
      (a_primitive_waits (waiting lt)))

  pub primitive_is_ready : (row : Bor (List Held_known)) (before : Bindings) → row.now ≡ arguments → (length arguments < arity p → ⊥) → is_of_scalars p ≡ false → Applied_primitive p at (knowns (map known_of given)) (known_of s) n before before n (Ok (Applied.Ready row))
  primitive_is_ready row before q ge o = primitive_ready (ap (map known_of) q ∙ all_are) record { full = full ge; arrays = o } refl refl

  pub primitive_runs : (before after : Bindings) (next : ℕ) (w : Held_known) → (length arguments < arity p → ⊥) → is_of_scalars p ≡ true → Operated_primitive p at (map known_of arguments) n before after next (Ok w) → Applied_primitive p at (knowns (map known_of given)) (known_of s) n before after next (Ok (Applied.Known w))
  primitive_runs before after next w ge o (answered bs q x) = primitive_applied bs q (λ told tops. a_primitive (full ge) o (subst (λ z. Primitive_operates p at z n bs (known_of w) next) all_are x))

  pub primitive_lost : (before after between behind : Bindings) (next later : ℕ) (x : Refusal) → (length arguments < arity p → ⊥) → is_of_scalars p ≡ true → Operated_primitive p at (map known_of arguments) n before between later (Err x) → Applied_primitive p at (knowns (map known_of given)) (known_of s) n behind after next (Err x)
  primitive_lost before after between behind next later x ge o (unanswered h) = primitive_refused (refused_as (λ lacks told tops. no_primitive (full ge) o (subst (No_primitive p at) all_are lacks)) h)

pub primitive_err : (p : Primitive) (at : Place) (ss : Knowns) (s : Known) (n next : ℕ) (before after : Bindings) (x : Refusal) → x ≡ Memory → Applied_primitive p at ss s n before after next (Err x)
primitive_err p at ss s n next before after x e = primitive_refused (only_memory e)
