-- Reading a text as the arguments of a program, scalars and arrays; and the first reason why it is none.
use Rattle.std.specs.Prelude.{◌≡◌, ◌+◌, ℕ, List, [], ◌∷◌, length, drop, Result, Ok, Err}
use Rattle.fut_scalar.specs.declared.sizes.ArgType.{ArgType}
use Rattle.fut_value.specs.declared.value.Value.{Value}
use Rattle.value_text.specs.Arrays.{Read, and_then, read_at}
use Rattle.value_text.specs.Gaps.{gap_at}
use Rattle.value_text.specs.Sizes.{Known, values_for}
use Rattle.value_text.specs.declared.reading.TextErr.{TextErr}
use Rattle.value_text.specs.declared.reading.TextErr.TheVariants as text

abbrev pub Values : Type 0
Values = Result (List Value) TextErr

-- the value of a parameter's type that was read
abbrev pub value_of : ArgType → Read → Value
value_of wanted read = record { shape = record { elem = wanted.elem; sizes = read.sizes }; words = read.words }

abbrev pub with_front : Value → Values → Values
with_front value (Ok values) = Ok (value ∷ values)
with_front value (Err err) = Err err

-- behind the last value nothing stands
abbrev pub nothing_at : (position : ℕ) → List ℕ → Values
nothing_at position [] = Ok []
nothing_at position (b ∷ bs) = Err (text.Extra position)

-- what reads the values of further parameters: the number of the first, the position, the text there
abbrev pub Reader : Type 0
Reader = ℕ → ℕ → List ℕ → Values

-- a value at the front of a text, and then the others
abbrev pub value_at : ArgType → Reader → (param position : ℕ) → List ℕ → Values
value_at wanted others param position [] = Err (text.Missing param)
value_at wanted others param position (b ∷ bs) =
    and_then (read_at wanted.elem (length wanted.dims) position (b ∷ bs)) (λ read.
    with_front (value_of wanted read) (others (param + 1) (position + read.length) (drop read.length (b ∷ bs))))

-- the values of parameters of these types, of which the first has this number, in the text that begins at this position,
-- or the first refusal
abbrev pub values_on : List ArgType → Reader
values_on [] param position bytes = nothing_at (position + gap_at bytes) (drop (gap_at bytes) bytes)
values_on (t ∷ ts) param position bytes = value_at t (values_on ts) param (position + gap_at bytes) (drop (gap_at bytes) bytes)

-- values whose sizes agree
abbrev pub in_agreement : List ArgType → List Value → Result Known TextErr → Values
in_agreement types values (Ok known) = Ok values
in_agreement types values (Err err) = Err err

-- sizes are compared after all values are read
abbrev pub arguments_in : List ArgType → List ℕ → Values
arguments_in types bytes = and_then (values_on types 1 0 bytes) (λ values. in_agreement types values (values_for 1 types values []))

-- the text reads as these values, one for each parameter
abbrev pub Reads : List ArgType → List ℕ → List Value → Type 0
Reads types bytes values = arguments_in types bytes ≡ Ok values

-- the text is refused as values of these parameters, first for this reason
abbrev pub Refuses : List ArgType → List ℕ → TextErr → Type 0
Refuses types bytes err = arguments_in types bytes ≡ Err err

-- why no values were given: memory ran out, or the text is refused
abbrev pub Explains : List ArgType → List ℕ → TextErr → Type 0
Explains types bytes text.Memory = Unit {0}
Explains types bytes err = Refuses types bytes err
