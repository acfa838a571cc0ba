-- What primitives may choose, and which reports they may have, by small derivations.
use Rattle.std.proofs.Common.{◌≡◌, inl, inr, ℕ, List, [], ◌∷◌, true, false, cond, nat_lt, refl, map}
use Rattle.fut_scalar.specs.declared.place.Place.{Place}
use Rattle.fut_scalar.specs.declared.report.FailKind.TheVariants as kind
use Rattle.fut_scalar.specs.declared.scalar.Scalar.TheVariants as scalar
use Rattle.fut_meaning.specs.Outcomes.{Out, Val, Wrong, exact, the, goes_on, stops, both, stops_left, stops_right, element, neutral, node, bracket}
use Rattle.fut_value.specs.Data.{Datum, Scalar_datum}
use Rattle.fut_meaning.specs.Arrays.{failure, i64, shared}
use Rattle.fut_meaning.specs.Jobs.{Applied, Job, Apply_each, Reduce_each, Choose_each, job_means, order_swapped, reduces, some_of, shown, alone}
use Rattle.fut_meaning.specs.Lawful.{No_twice}
use Rattle.fut_meaning.proofs.Agree.{agree_exact, agree_then, agree_each_of}
use Rattle.fut_meaning.proofs.Array_examples.{ints}

abbrev Means : Applied → Job → Out Datum → ℕ → Type 0
Means f j = job_means false (λ any ne ds. Unit {0}) (λ ws. Unit {0}) f j

abbrev at_column : ℕ → Place
at_column n = record { file = 0; line = 1; column = n }

-- a function that fails on numbers from 5 on, each with a report of its own
abbrev small : Datum → Out Datum
small (Scalar_datum (scalar.Int t n)) = cond (nat_lt n 5) (Val (i64 n)) (failure kind.Division (at_column n))
small d = Wrong

abbrev first_small : Applied
first_small (a ∷ []) = the (small a)
first_small ds = the Wrong

abbrev second_small : Applied
second_small (a ∷ b ∷ []) = the (small b)
second_small ds = the Wrong

abbrev ends : List Datum → Out (ℕ × Datum)
ends ds = shared (ints [])

abbrev each : Job
each = Apply_each (alone (map i64 (1 ∷ 7 ∷ 9 ∷ []))) ends

-- a function that is applied to each reports of the first element that fails
first_that_fails : Means first_small each (failure kind.Division (at_column 7)) 0
first_that_fails = stops (goes_on exact (stops (stops exact)))

-- and of no other
no_other : (o : Out Datum) (n : ℕ) → Means first_small each o n → o ≡ failure kind.Division (at_column 7)
no_other o n x = agree_then _ _ _ _ (agree_each_of first_small first_small one (alone (map i64 (1 ∷ 7 ∷ 9 ∷ [])))) (λ ds. agree_then _ _ _ _ (agree_exact 0 _) (λ r. agree_exact r.0 _)) o (failure kind.Division (at_column 7)) n 0 x first_that_fails
  where
    one : (ds : List Datum) (o o' : Out Datum) (f f' : ℕ) → first_small ds o f → first_small ds o' f' → o ≡ o'
    one [] o o' f f' y z = agree_exact 0 _ o o' f f' y z
    one (a ∷ []) o o' f f' y z = agree_exact 0 _ o o' f f' y z
    one (a ∷ b ∷ ds) o o' f f' y z = agree_exact 0 _ o o' f f' y z

abbrev reduction : Job
reduction = Reduce_each false (i64 0) (map i64 (1 ∷ 7 ∷ 9 ∷ []) ∷ []) ends

-- a reduction reports of any application in any of its trees
left_tree_fails : Means second_small reduction (failure kind.Division (at_column 7)) 0
left_tree_fails = stops (stops_left (reduces tt refl (bracket (node (node (element (i64 1)) (element (i64 7))) (element (i64 9))) refl tt (stops_left (both exact exact exact)))))

right_tree_fails : Means second_small reduction (failure kind.Division (at_column 9)) 0
right_tree_fails = stops (stops_left (reduces tt refl (bracket (node (element (i64 1)) (node (element (i64 7)) (element (i64 9)))) refl tt (stops_right (both exact exact exact)))))

-- without elements a reduction has the neutral one, and one may stand anywhere
neutral_alone : Means second_small (Reduce_each false (i64 3) ([] ∷ []) ends) (Val (ints [])) 0
neutral_alone = goes_on (both (reduces tt refl (bracket neutral refl tt exact)) exact exact) (goes_on exact exact)

neutral_between : Means second_small (Reduce_each false (i64 3) ((i64 4 ∷ []) ∷ []) ends) (Val (ints [])) 0
neutral_between = goes_on (both (reduces tt refl (bracket (node (element (i64 4)) neutral) refl tt (both exact exact exact))) exact exact) (goes_on exact exact)

-- where any order is taken, the element that is not small may stand first, and nothing fails
in_other_order : Means second_small (Reduce_each true (i64 3) ((i64 4 ∷ i64 7 ∷ []) ∷ []) ends) (Val (ints [])) 0
in_other_order = goes_on (both (reduces tt order_swapped (bracket (node (element (i64 7)) (element (i64 4))) refl tt (both exact exact exact))) exact exact) (goes_on exact exact)

-- a place that is written twice holds either row
abbrev twice : List (ℕ × Datum)
twice = (1, i64 7) ∷ (1, i64 10) ∷ []

abbrev chosen : List Datum → Out (ℕ × Datum)
chosen [] = Wrong
chosen (d ∷ []) = Wrong
chosen (d ∷ e ∷ ds) = shared e

earlier_row : Means second_small (Choose_each twice (i64 4 ∷ i64 5 ∷ []) chosen) (Val (i64 7)) 0
earlier_row = goes_on (shown tt (both (some_of (inl refl)) (both (some_of (inl refl)) exact exact) exact)) (goes_on exact exact)

later_row : Means second_small (Choose_each twice (i64 4 ∷ i64 5 ∷ []) chosen) (Val (i64 10)) 0
later_row = goes_on (shown tt (both (some_of (inl refl)) (both (some_of (inr (inl refl))) exact exact) exact)) (goes_on exact exact)

-- which is not lawful
not_lawful : No_twice twice → ⊥
not_lawful h = h.0 (inl refl)
