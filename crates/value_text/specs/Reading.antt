-- Reading a text as values of given types, in order; and the first reason why it is none.
use Rattle.std.specs.Prelude.{◌≡◌, ◌+◌, ◌-◌, ◌^◌, ℕ, suc, Bool, true, false, cond, nat_lt, nat_eq, ℤ, pos, negsuc, neg_ℤ, List, [], ◌∷◌, drop, Option, Some, None, Result, Ok, Err}
use Rattle.fut_scalar.specs.Integers.{width_of}
use Rattle.fut_scalar.specs.declared.scalar.IntType.{IntType}
use Rattle.fut_scalar.specs.declared.scalar.IntType.TheVariants.{I8, I16, I32, I64, U8, U16, U32, U64}
use Rattle.fut_scalar.specs.declared.scalar.Scalar.{Scalar}
use Rattle.fut_scalar.specs.declared.scalar.Scalar.TheVariants as scalar
use Rattle.fut_scalar.specs.declared.scalar.ScalarType.{ScalarType}
use Rattle.fut_scalar.specs.declared.scalar.ScalarType.TheVariants as sort
use Rattle.fut_arithmetic.specs.Words.{below_zero_count}
use Rattle.value_text.specs.Gaps.{gap_at}
use Rattle.value_text.specs.Spelled.{spelled_at}
use Rattle.value_text.specs.declared.reading.TextErr.{TextErr}
use Rattle.value_text.specs.declared.reading.TextErr.TheVariants as text
use Rattle.value_text.specs.declared.spelled.Form.{Form}
use Rattle.value_text.specs.declared.spelled.Form.TheVariants as form
use Rattle.value_text.specs.declared.spelled.Spelled.{Spelled}

-- the exact integer of a spelling
abbrev pub signed : Bool → ℕ → ℤ
signed true magnitude = neg_ℤ (pos magnitude)
signed false magnitude = pos magnitude

-- the value of a type that stands for this integer, where it has one; the bits of an integer below zero are that much below 2
-- to the width
abbrev pub value_in : IntType → ℤ → Option Scalar
value_in ty (pos n) = cond (nat_lt n (2 ^ width_of ty - below_zero_count ty)) (Some (scalar.Int ty n)) None
value_in ty (negsuc n) = cond (nat_lt n (below_zero_count ty)) (Some (scalar.Int ty (2 ^ width_of ty - suc n))) None

abbrev pub type_number : IntType → ℕ
type_number I8 = 0
type_number I16 = 1
type_number I32 = 2
type_number I64 = 3
type_number U8 = 4
type_number U16 = 5
type_number U32 = 6
type_number U64 = 7

-- an integer without a type behind it may be of each type
abbrev pub may_be : IntType → Option IntType → Bool
may_be ty None = true
may_be ty (Some named) = nat_eq (type_number ty) (type_number named)

abbrev pub in_range : (position : ℕ) → Option Scalar → Result Scalar TextErr
in_range position (Some value) = Ok value
in_range position None = Err (text.OutOfRange position)

-- what a spelling gives where a value of this type is wanted
abbrev pub value_as : ScalarType → (position : ℕ) → Form → Result Scalar TextErr
value_as (sort.Int ty) position (form.Integer negative magnitude suffix) =
    cond (may_be ty suffix) (in_range position (value_in ty (signed negative magnitude))) (Err (text.WrongType position))
value_as sort.Bool position (form.Truth b) = Ok (scalar.Bool b)
value_as ty position other = Err (text.WrongType position)

abbrev pub Values : Type 0
Values = Result (List Scalar) TextErr

abbrev pub with_front : Scalar → Values → Values
with_front value (Ok values) = Ok (value ∷ values)
with_front value (Err err) = Err err

-- behind the last value nothing stands
abbrev pub nothing_at : (position : ℕ) → List ℕ → Values
nothing_at position [] = Ok []
nothing_at position (b ∷ bs) = Err (text.Extra position)

abbrev pub with_value : Result Scalar TextErr → (Scalar → Values) → Values
with_value (Ok value) next = next value
with_value (Err err) next = Err err

abbrev pub with_spelled : (position : ℕ) → Result Spelled ℕ → (Spelled → Values) → Values
with_spelled position (Ok spelled) next = next spelled
with_spelled position (Err offset) next = Err (text.BadText (position + offset))

-- what reads the values of further parameters: the number of the first, the position, the text there
abbrev pub Reader : Type 0
Reader = ℕ → ℕ → List ℕ → Values

-- a value at the front of a text, and then the others
abbrev pub value_at : ScalarType → Reader → (param position : ℕ) → List ℕ → Values
value_at ty others param position [] = Err (text.Missing param)
value_at ty others param position (b ∷ bs) =
    with_spelled position (spelled_at (b ∷ bs)) (λ spelled.
    with_value (value_as ty position spelled.form) (λ value.
    with_front value (others (param + 1) (position + spelled.length) (drop spelled.length (b ∷ bs)))))

-- the values of parameters of these types, of which the first has this number, in the text that begins at this position,
-- or the first refusal
abbrev pub values_on : List ScalarType → Reader
values_on [] param position bytes = nothing_at (position + gap_at bytes) (drop (gap_at bytes) bytes)
values_on (ty ∷ types) param position bytes = value_at ty (values_on types) param (position + gap_at bytes) (drop (gap_at bytes) bytes)

-- the text reads as these values, one for each type
abbrev pub Reads : List ScalarType → List ℕ → List Scalar → Type 0
Reads types bytes values = values_on types 1 0 bytes ≡ Ok values

-- the text is refused as values of these types, first for this reason
abbrev pub Refuses : List ScalarType → List ℕ → TextErr → Type 0
Refuses types bytes err = values_on types 1 0 bytes ≡ Err err

-- why no values were given: memory ran out, or the text is refused
abbrev pub Explains : List ScalarType → List ℕ → TextErr → Type 0
Explains types bytes text.Memory = Unit {0}
Explains types bytes err = Refuses types bytes err
