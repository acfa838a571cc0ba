-- What code holds, and what it stands for.
use Rattle.std.proofs.Common.{◌≡◌, ℕ, zero, suc, List, [], ◌∷◌, ◌++◌, length, get_or, take, drop, slice_set, refl, sym, ap, ◌∙◌}
use Rattle.fut_scalar.specs.declared.scalar.Scalar.{Scalar}
use Rattle.fut_scalar.specs.declared.scalar.Scalar.TheVariants as scalar
use Rattle.fut_meaning.specs.Accessors.{truth_of_scalar}
use Rattle.fut_meaning.specs.Arrays.{truth_of_datum}
use Rattle.array_data.specs.declared.data.Data.{Data}
use Rattle.array_data.specs.declared.data.Data.TheVariants as hold
use Rattle.array_data.specs.Held.{fitted, held, held_all}
use Rattle.array_data.proofs.Holding.{held_scalar}
use Rattle.fut_value.specs.Data.{Scalar_datum}

pub held_length : (ds : List Data) → length (held_all ds) ≡ length ds
unfolding held_all
held_length [] = refl
held_length (d ∷ ds) = ap suc (held_length ds)

pub held_set : (ds : List Data) (i : ℕ) (d : Data) → held_all (slice_set ds i d) ≡ slice_set (held_all ds) i (held d)
unfolding held_all
held_set [] i d = refl
held_set (e ∷ ds) zero d = refl
held_set (e ∷ ds) (suc i) d = ap (λ z. held e ∷ z) (held_set ds i d)

pub held_get : (ds : List Data) (i : ℕ) (d : Data) → get_or (held_all ds) i (held d) ≡ held (get_or ds i d)
unfolding held_all
held_get [] i d = refl
held_get (e ∷ ds) zero d = refl
held_get (e ∷ ds) (suc i) d = held_get ds i d

pub held_append : (ds : List Data) (d : Data) → held_all (ds ++ d ∷ []) ≡ held_all ds ++ held d ∷ []
unfolding held_all
held_append [] d = refl
held_append (e ∷ ds) d = ap (λ z. held e ∷ z) (held_append ds d)

pub held_take : (n : ℕ) (ds : List Data) → held_all (take n ds) ≡ take n (held_all ds)
unfolding held_all
held_take zero ds = refl
held_take (suc n) [] = refl
held_take (suc n) (d ∷ ds) = ap (λ z. held d ∷ z) (held_take n ds)

pub held_drop : (n : ℕ) (ds : List Data) → held_all (drop n ds) ≡ drop n (held_all ds)
unfolding held_all
held_drop zero ds = refl
held_drop (suc n) [] = refl
held_drop (suc n) (d ∷ ds) = held_drop n ds

pub held_truth : (v : Scalar) → truth_of_scalar v ≡ truth_of_datum (held (hold.Scalar v))
held_truth v = by_form v ∙ sym (ap truth_of_datum (held_scalar v))
  where
    by_form : (v : Scalar) → truth_of_scalar v ≡ truth_of_datum (Scalar_datum (fitted v))
    by_form (scalar.Int t n) = refl
    by_form (scalar.Bool b) = refl
