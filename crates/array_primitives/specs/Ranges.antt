-- Ranges: integers in the order of their type, the steps between them, and how many there are.
use Rattle.std.specs.Prelude.{◌≡◌, ℕ, ◌+◌, ◌-◌, ◌/◌, ◌<◌, nat_le, true, false, ℤ, pos, ◌+ℤ◌, neg_ℤ, Option, Some, None, Result, Ok, Err}
use Rattle.fut_scalar.specs.Integers.{integer_of}
use Rattle.fut_scalar.specs.declared.place.Place.{Place}
use Rattle.fut_scalar.specs.declared.report.FailKind.TheVariants as kind
use Rattle.fut_scalar.specs.declared.scalar.IntType.{IntType}
use Rattle.fut_scalar.specs.declared.scalar.Scalar.TheVariants as scalar
use Rattle.fut_arithmetic.specs.Words.{lowest}
use Rattle.fut_ast.specs.declared.node.End.{End}
use Rattle.fut_ast.specs.declared.node.End.TheVariants as end
use Rattle.fut_value.specs.Data.{Datum, Scalar_datum}
use Rattle.fut_meaning.specs.Arrays.{most_words, range_count}
use Rattle.array_primitives.specs.declared.ranges.Integer.{Integer}
use Rattle.array_primitives.specs.declared.ranges.Stride.{Stride}
use Rattle.array_primitives.specs.declared.ranges.Stride.TheVariants as stride
use Rattle.array_primitives.specs.declared.ranges.Way.{Way}
use Rattle.array_data.specs.declared.stop.Stop.{Stop}
use Rattle.array_data.specs.declared.stop.Stop.TheVariants.{Failed, Memory}

-- the integer that is so far above the lowest of a type
abbrev pub over_lowest : IntType → ℕ → ℤ
over_lowest t n = pos n +ℤ lowest t

-- an exact step
unfoldable pub step_held : Stride → ℤ
step_held (stride.Up n) = pos n
step_held (stride.Down n) = neg_ℤ (pos n)

-- data is this integer
pub data Integer_is (d : Datum) : Result Integer Stop → Type 0 where
  integer_is : {k : Integer} (n : ℕ) → d ≡ Scalar_datum (scalar.Int k.ty n) → integer_of k.ty n ≡ over_lowest k.ty k.above → Integer_is d (Ok k)
  no_memory_integer : Integer_is d (Err Memory)

-- how many elements there are on the way to the end, by the step and how far it is
abbrev pub many : End → (step far : ℕ) → ℕ
many end.Through step far = far / step + 1
many e step far = (far + step - 1) / step

-- how far it is from a number up to another, by steps
pub data Spans (step low high : ℕ) : Option Way → Type 0 where
  spans : {w : Way} → 0 < step → w.step ≡ step → w.far + low ≡ high → Spans step low high (Some w)
  no_step : step ≡ 0 → Spans step low high None
  not_up : high < low → Spans step low high None

-- a range leads to its end; or it does not
pub data Leads (e : End) (from step to : ℤ) : Option Way → Type 0 where
  leads : {w : Way} → 0 < w.step → range_count e from step to ≡ Some (many e w.step w.far) → Leads e from step to (Some w)
  leads_away : range_count e from step to ≡ None → Leads e from step to None

-- how many elements there are, where these are not too many
pub data Long_is (at : Place) (o : Option ℕ) : Result ℕ Stop → Type 0 where
  long_is : {n : ℕ} → o ≡ Some n → nat_le n most_words ≡ true → Long_is at o (Ok n)
  too_long : (n : ℕ) → o ≡ Some n → nat_le n most_words ≡ false → Long_is at o (Err (Failed (record { kind = kind.TooLarge; place = at })))
  no_way : o ≡ None → Long_is at o (Err (Failed (record { kind = kind.Range; place = at })))
