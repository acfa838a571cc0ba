-- What is proved of the text of values.
use Rattle.std.specs.Prelude.{◌≡◌, ℕ, ◌<◌, ◌^◌, ℤ, true, List, length, Ok, [], ◌∷◌, ◌++◌, map, All, Some}
use Rattle.std.specs.Char.{encode_utf8, IsScalar}
use Rattle.fut_scalar.specs.Integers.{FitsType, integer_of, width_of}
use Rattle.fut_scalar.specs.declared.scalar.IntType.{IntType}
use Rattle.fut_scalar.specs.declared.scalar.Scalar.{Scalar}
use Rattle.fut_scalar.specs.declared.scalar.Scalar.TheVariants as scalar
use Rattle.fut_scalar.specs.declared.scalar.ScalarType.{ScalarType}
use Rattle.fut_arithmetic.specs.Types.{type_of}
use Rattle.fut_scalar.specs.declared.sizes.ArgType.{ArgType}
use Rattle.fut_value.specs.declared.value.Value.{Value}
use Rattle.name_characters.specs.Names.{goes_on_name}
use Rattle.fut_value.specs.Values.{IsWellFormed, datum_of}
use Rattle.value_text.specs.Arguments as arguments
use Rattle.value_text.specs.Gives.{HaveTypes, IsLight}
use Rattle.value_text.specs.Sizes.{Known, values_for}
use Rattle.value_text.specs.Values as arrays
use Rattle.value_text.specs.Grammar.{Text}
use Rattle.value_text.specs.Printing.{data_output, data_text, text_of, output_of}
use Rattle.value_text.specs.Reading.{Reads, value_in}
use Rattle.value_text.specs.Words.{name_goes_on}

-- a character that continues a name does so at the front of a text
abbrev pub NamesGoOn : Type 0
NamesGoOn = (c : ℕ) (rest : List ℕ) → IsScalar c → goes_on_name c ≡ true → name_goes_on (encode_utf8 c ++ rest) ≡ true

-- and nothing else does
abbrev pub NothingElseGoesOn : Type 0
NothingElseGoesOn = (bytes : List ℕ) → name_goes_on bytes ≡ true → (c : ℕ) × (rest : List ℕ) × IsScalar c × (goes_on_name c ≡ true) × (bytes ≡ encode_utf8 c ++ rest)

-- a text of the grammar reads as its values
abbrev pub TextsAreRead : Type 0
TextsAreRead = (types : List ScalarType) (bytes : List ℕ) (values : List Scalar) → Text types bytes values → Reads types bytes values

-- and nothing else reads as values
abbrev pub OnlyTextsAreRead : Type 0
OnlyTextsAreRead = (types : List ScalarType) (bytes : List ℕ) (values : List Scalar) → Reads types bytes values → Text types bytes values

-- the text of a value reads as that value
abbrev pub TextReadsBack : Type 0
TextReadsBack = (value : Scalar) → FitsType value → Reads (type_of value ∷ []) (text_of value) (value ∷ [])

-- what is printed reads as the values that were printed
abbrev pub OutputReadsBack : Type 0
OutputReadsBack = (values : List Scalar) → All FitsType values → Reads (map type_of values) (output_of values) values

-- the value that is found for an integer stands for it
abbrev pub FoundIntegersStand : Type 0
FoundIntegersStand = (ty : IntType) (z : ℤ) (value : Scalar) → value_in ty z ≡ Some value → (bits : ℕ) × (value ≡ scalar.Int ty bits) × (bits < 2 ^ width_of ty) × (integer_of ty bits ≡ z)

-- and each value of the type is found
abbrev pub IntegersAreFound : Type 0
IntegersAreFound = (ty : IntType) (bits : ℕ) → bits < 2 ^ width_of ty → value_in ty (integer_of ty bits) ≡ Some (scalar.Int ty bits)

-- a text of the grammar of scalars and arrays reads as its values
abbrev pub ArgumentsAreRead : Type 0
ArgumentsAreRead = (types : List ArgType) (bytes : List ℕ) (values : List Value) → arrays.Text types bytes values → arguments.Reads types bytes values

-- the text of a value reads as that value, as a parameter of its type whose sizes it has
abbrev pub ValuesReadBack : Type 0
ValuesReadBack =
    (t : ArgType) (value : Value) (known : Known) → value.shape.elem ≡ t.elem → length value.shape.sizes ≡ length t.dims → IsWellFormed value → IsLight value → values_for 1 (t ∷ []) (value ∷ []) [] ≡ Ok known
    → arguments.Reads (t ∷ []) (data_text (datum_of value)) (value ∷ [])

-- what is printed reads as the values that were printed
abbrev pub LinesReadBack : Type 0
LinesReadBack =
    (types : List ArgType) (values : List Value) (known : Known) → HaveTypes types values → All IsWellFormed values → All IsLight values → values_for 1 types values [] ≡ Ok known → arguments.Reads types (data_output (map datum_of values)) values

-- and nothing else reads as values
abbrev pub OnlyArgumentsAreRead : Type 0
OnlyArgumentsAreRead = (types : List ArgType) (bytes : List ℕ) (values : List Value) → arguments.Reads types bytes values → arrays.Text types bytes values

-- values that are read are of their parameters' types
abbrev pub ArgumentsHaveTypes : Type 0
ArgumentsHaveTypes = (types : List ArgType) (bytes : List ℕ) (values : List Value) → arguments.Reads types bytes values → HaveTypes types values

-- and well formed
abbrev pub ArgumentsAreFormed : Type 0
ArgumentsAreFormed = (types : List ArgType) (bytes : List ℕ) (values : List Value) → arguments.Reads types bytes values → All IsWellFormed values

-- and pass no greatest weight
abbrev pub ArgumentsAreLight : Type 0
ArgumentsAreLight = (types : List ArgType) (bytes : List ℕ) (values : List Value) → arguments.Reads types bytes values → All IsLight values
