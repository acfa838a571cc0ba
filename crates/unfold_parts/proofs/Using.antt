-- What is known of a use.
use Rattle.std.proofs.Common.{◌≡◌, ℕ, suc, List, [], ◌∷◌, map, Option, Some, None, Ok, Err, refl, sym, ap, ◌∙◌, subst, append-nil, le_refl}
use Rattle.std.specs.Borrow.{Bor}
use Rattle.std.specs.Prelude.{Result}
use Rattle.fut_scalar.specs.Integers.{width_of}
use Rattle.fut_scalar.specs.declared.place.BindId.{BindId}
use Rattle.fut_scalar.specs.declared.place.Place.{Place}
use Rattle.fut_scalar.specs.declared.scalar.IntType.{IntType}
use Rattle.fut_scalar.specs.declared.scalar.IntType.TheVariants.{I8, I16, I32, I64, U8, U16, U32, U64}
use Rattle.fut_scalar.specs.declared.scalar.Scalar.TheVariants as scalar
use Rattle.fut_scalar.specs.declared.scalar.ScalarType.{ScalarType}
use Rattle.fut_flat.specs.declared.prim.Primitive.{Primitive}
use Rattle.fut_flat.specs.declared.prim.Folding.TheVariants as folding
use Rattle.fut_flat.specs.declared.prim.Primitive.TheVariants as prim
use Rattle.fut_flat.specs.declared.prim.Ref.{Ref}
use Rattle.fut_flat.specs.declared.prim.Ref.TheVariants as ref
use Rattle.fut_flat.specs.Terms.{Use}
use Rattle.fut_blocks.proofs.Layers.{action_of-Size}
use Rattle.fut_blocks.specs.declared.block.Act.TheVariants as act
use Rattle.fut_blocks.specs.declared.block.Atom.TheVariants as atom
use Rattle.fut_blocks.specs.declared.row.Extent.{Extent as Held_extent}
use Rattle.fut_blocks.specs.Plain.{action_of}
use Rattle.fut_meaning.specs.Found.{Sizing, Told}
use Rattle.told_rows.specs.Calls.{maybe_extent}
use Rattle.told_rows.specs.Tables.{Told_by}
use Rattle.fut_blocks.specs.Meaning.{look, fitted}
use Rattle.fut_meaning.specs.Knowns.{or_else}
use Rattle.fut_meaning.specs.Operators.{lowest, highest}
use Rattle.unfold.proofs.Mirror.{known_primitive}
use Rattle.unfold.specs.Held.{known_of}
use Rattle.unfold.specs.Knowns.{Known, Scalar_known, Primitive_known, knowns, Scope, Tops, local, find}
use Rattle.unfold.specs.Stuck.{no_such_name, type_name}
use Rattle.unfold.specs.Telling.{size_used}
use Rattle.unfold.specs.Unfolding as rules
use Rattle.unfold.specs.Unfolding.{Bindings, step, named, u_name, u_size, u_primitive, u_constant, constant_of}
use Rattle.unfold.specs.declared.known.Known.{Known as Held_known}
use Rattle.unfold.specs.declared.known.KnownForm.TheVariants as form
use Rattle.unfold_parts.specs.Answers.{Answered, answered, unanswered, Is_step, is_step, Name_known, name_known, name_unknown, Used_to, Primitive_used}
use Rattle.unfold_parts.specs.Refused.{lost}
use Rattle.unfold_parts.specs.Told.{Held_sizes}
use Rattle.unfold_parts.proofs.Refusing.{refused_as, answered_as}
use Rattle.unfold_parts.specs.declared.refusal.Refusal.{Refusal}
use Rattle.unfold_parts.specs.declared.refusal.Refusal.TheVariants.{Lost}

found : (tops : Tops) (sc : Scope) (k : ℕ) → find tops sc k ≡ or_else (local sc k) (look tops k)
unfolding find
found tops sc k = refl

module _ (tops : Tops) (sc : Scope) (k : ℕ) where
  pub known_local : (s : Held_known) → Some (known_of s) ≡ local sc k → Name_known tops sc k (Ok s)
  known_local s e = name_known (found tops sc k ∙ ap (λ z. or_else z (look tops k)) (sym e))

  pub known_top : (s : Held_known) → None ≡ local sc k → Some (known_of s) ≡ look tops k → Name_known tops sc k (Ok s)
  known_top s e q = name_known (found tops sc k ∙ ap (λ z. or_else z (look tops k)) (sym e) ∙ sym q)

  -- a name that is neither local nor defined
  pub known_nowhere : None ≡ local sc k → None ≡ look tops k → Name_known tops sc k (Err Lost)
  known_nowhere e q = name_unknown (lost (found tops sc k ∙ ap (λ z. or_else z (look tops k)) (sym e) ∙ sym q))

pub ruleset known_names = (known_local, known_top, known_nowhere)

module _ (S : Held_sizes) (tops : Tops) (sc : Scope) (at : Place) (n : ℕ) (before : Bindings) where
  module _ (b : BindId) where
    -- what a size is worth, by a step
    pub used_size : (o : Option Held_extent) (worth : Held_extent) (next : ℕ) (after : Bindings) (r : Result Held_known Refusal) → o ≡ Some worth → ((Z : Option Sizing) → Told_by S Z → maybe_extent o ≡ size_used Z sc b.0) → Answered (λ bs (s : Held_known) m. Is_step (action_of (act.Size worth)) n bs (known_of s) m) ⊥ before after next r → Used_to S tops sc (ref.Bound b) at n before after next r
    used_size o worth next after r e h x = answered_as (λ bs s m i told t lo k. by_step told t lo k bs (known_of s) m i) (λ never. absurd never) x
      where
        by_step : (told : Told) → Told_by S told.sizes → (lo k : ℕ) (bs : Bindings) (s : Known) (m : ℕ) → Is_step (action_of (act.Size worth)) n bs s m → rules.Unfolds told tops sc lo (Use (ref.Bound b) at k) n bs s m
        by_step told t lo k _ _ _ is_step = subst (λ z. rules.Unfolds told tops sc lo (Use (ref.Bound b) at k) n (step (n ∷ []) z) (named n) (suc n)) (sym (action_of-Size worth)) (u_size (sym (h told.sizes t) ∙ ap maybe_extent e) (le_refl n))

    pub used_name : (o : Option Held_extent) (r : Result Held_known Refusal) → o ≡ None → ((Z : Option Sizing) → Told_by S Z → maybe_extent o ≡ size_used Z sc b.0) → Name_known tops sc b.0 r → Used_to S tops sc (ref.Bound b) at n before before n r
    used_name o (Ok s) i h (name_known e) = answered [] (sym (append-nil before)) (λ told t lo k. u_name (sym (h told.sizes t) ∙ ap maybe_extent i) e)
    used_name o (Err x) i h (name_unknown e) = unanswered (refused_as (λ q told t lo k. no_such_name (sym (h told.sizes t) ∙ ap maybe_extent i) q) e)

  module _ (name : Ref) where
    pub used_as : (other : Ref) (next : ℕ) (after : Bindings) (r : Result Held_known Refusal) → name ≡ other → Used_to S tops sc other at n before after next r → Used_to S tops sc name at n before after next r
    used_as other next after r e h = subst (λ z. Used_to S tops sc z at n before after next r) (sym e) h

    pub used_primitive : (p : Primitive) (s : Held_known) → name ≡ ref.Prim p → Primitive_used p at (known_of s) → Used_to S tops sc name at n before before n (Ok s)
    used_primitive p s e h = used_as (ref.Prim p) n before (Ok s) e (answered [] (sym (append-nil before)) (λ told t lo k. h told tops sc lo k n))

    pub used_type : (t : ScalarType) → name ≡ ref.Scalar t → Used_to S tops sc name at n before before n (Err Lost)
    used_type t e = used_as (ref.Scalar t) n before (Err Lost) e (unanswered (lost (λ told i lo k. type_name)))

-- ---- primitives

fitted_lowest : (t : IntType) → fitted (scalar.Int t (lowest t)) ≡ scalar.Int t (lowest t)
fitted_lowest I8 = refl
fitted_lowest I16 = refl
fitted_lowest I32 = refl
fitted_lowest I64 = refl
fitted_lowest U8 = refl
fitted_lowest U16 = refl
fitted_lowest U32 = refl
fitted_lowest U64 = refl

fitted_highest : (t : IntType) → fitted (scalar.Int t (highest t)) ≡ scalar.Int t (highest t)
fitted_highest I8 = refl
fitted_highest I16 = refl
fitted_highest I32 = refl
fitted_highest I64 = refl
fitted_highest U8 = refl
fitted_highest U16 = refl
fitted_highest U32 = refl
fitted_highest U64 = refl

fitted_width : (t : IntType) → fitted (scalar.Int I32 (width_of t)) ≡ scalar.Int I32 (width_of t)
fitted_width I8 = refl
fitted_width I16 = refl
fitted_width I32 = refl
fitted_width I64 = refl
fitted_width U8 = refl
fitted_width U16 = refl
fitted_width U32 = refl
fitted_width U64 = refl

module _ (at : Place) (s : Known) (t : IntType) (n : ℕ) where
  pub used_lowest : n ≡ lowest t → s ≡ Scalar_known (atom.Constant (scalar.Int t n)) → Primitive_used (prim.Lowest t) at s
  used_lowest e q told tops sc lo k m = subst (λ z. rules.Unfolds told tops sc lo (Use (ref.Prim (prim.Lowest t)) at k) m [] z m) (sym (q ∙ ap (λ z. Scalar_known (atom.Constant (scalar.Int t z))) e)) (u_constant (ap Some (sym (fitted_lowest t))))

  pub used_highest : n ≡ highest t → s ≡ Scalar_known (atom.Constant (scalar.Int t n)) → Primitive_used (prim.Highest t) at s
  used_highest e q told tops sc lo k m = subst (λ z. rules.Unfolds told tops sc lo (Use (ref.Prim (prim.Highest t)) at k) m [] z m) (sym (q ∙ ap (λ z. Scalar_known (atom.Constant (scalar.Int t z))) e)) (u_constant (ap Some (sym (fitted_highest t))))

  pub used_width : n ≡ width_of t → s ≡ Scalar_known (atom.Constant (scalar.Int I32 n)) → Primitive_used (prim.NumBits t) at s
  used_width e q told tops sc lo k m = subst (λ z. rules.Unfolds told tops sc lo (Use (ref.Prim (prim.NumBits t)) at k) m [] z m) (sym (q ∙ ap (λ z. Scalar_known (atom.Constant (scalar.Int I32 z))) e)) (u_constant (ap Some (sym (fitted_width t))))

-- all but the numbers of a type are functions
pub no_constant : (p : Primitive) → ((t : IntType) → p ≡ prim.Lowest t → ⊥) → ((t : IntType) → p ≡ prim.Highest t → ⊥) → ((t : IntType) → p ≡ prim.NumBits t → ⊥) → constant_of p ≡ None
no_constant prim.Map l h b = refl
no_constant prim.Map2 l h b = refl
no_constant prim.Map3 l h b = refl
no_constant prim.Map4 l h b = refl
no_constant prim.Map5 l h b = refl
no_constant prim.Reduce l h b = refl
no_constant prim.ReduceComm l h b = refl
no_constant prim.Scan l h b = refl
no_constant prim.Filter l h b = refl
no_constant prim.Partition l h b = refl
no_constant prim.Scatter l h b = refl
no_constant prim.ReduceByIndex l h b = refl
no_constant prim.Zip l h b = refl
no_constant prim.Zip3 l h b = refl
no_constant prim.Unzip l h b = refl
no_constant prim.Unzip3 l h b = refl
no_constant prim.Iota l h b = refl
no_constant prim.Replicate l h b = refl
no_constant prim.Tabulate l h b = refl
no_constant prim.Indices l h b = refl
no_constant prim.Length l h b = refl
no_constant prim.Null l h b = refl
no_constant prim.Head l h b = refl
no_constant prim.Last l h b = refl
no_constant prim.Init l h b = refl
no_constant prim.Tail l h b = refl
no_constant prim.Take l h b = refl
no_constant prim.Drop l h b = refl
no_constant prim.Reverse l h b = refl
no_constant prim.Rotate l h b = refl
no_constant prim.Concat l h b = refl
no_constant prim.Flatten l h b = refl
no_constant prim.Unflatten l h b = refl
no_constant prim.Transpose l h b = refl
no_constant prim.Copy l h b = refl
no_constant (prim.Convert to from) l h b = refl
no_constant (prim.Min t) l h b = refl
no_constant (prim.Max t) l h b = refl
no_constant (prim.Abs t) l h b = refl
no_constant (prim.Popc t) l h b = refl
no_constant (prim.Lowest t) l h b = absurd (l t refl)
no_constant (prim.Highest t) l h b = absurd (h t refl)
no_constant (prim.NumBits t) l h b = absurd (b t refl)
no_constant (prim.Fold folding.Sum t) l h b = refl
no_constant (prim.Fold folding.Product t) l h b = refl
no_constant (prim.Fold folding.Minimum t) l h b = refl
no_constant (prim.Fold folding.Maximum t) l h b = refl

pub used_function : (p : Primitive) (at : Place) (s : Held_known) (none : Bor (List Held_known)) → ((t : IntType) → p ≡ prim.Lowest t → ⊥) → ((t : IntType) → p ≡ prim.Highest t → ⊥) → ((t : IntType) → p ≡ prim.NumBits t → ⊥) → none.now ≡ [] → s.form ≡ form.Primitive p at none → Primitive_used p at (known_of s)
used_function p at s none l h b e i told tops sc lo k m = subst (λ z. rules.Unfolds told tops sc lo (Use (ref.Prim p) at k) m [] z m) (sym (known_primitive s p at none i ∙ ap (λ z. Primitive_known p at (knowns (map known_of z))) e)) (u_primitive (no_constant p l h b))

pub ruleset primitives_used = (used_lowest, used_highest, used_width, used_function)
