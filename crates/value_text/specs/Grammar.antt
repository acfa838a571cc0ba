-- The grammar of a text: a value for each type, with blanks and comments before it, and behind the last one. No character
-- that continues a name stands directly behind a value.
use Rattle.std.specs.Prelude.{◌≡◌, ◌^◌, ◌<◌, ◌++◌, ℕ, Bool, true, false, ◌==◌, List, [], ◌∷◌, Option, Some, None, codes}
use Rattle.fut_scalar.specs.declared.scalar.IntType.{IntType}
use Rattle.fut_scalar.specs.declared.scalar.Scalar.{Scalar}
use Rattle.fut_scalar.specs.declared.scalar.Scalar.TheVariants as scalar
use Rattle.fut_scalar.specs.declared.scalar.ScalarType.{ScalarType}
use Rattle.fut_scalar.specs.declared.scalar.ScalarType.TheVariants as sort
use Rattle.value_text.specs.Gaps.{is_blank}
use Rattle.value_text.specs.Numbers.{ends_in_underscore, is_in_number, starts_digit, value_on}
use Rattle.value_text.specs.Reading.{may_be, signed, value_in}
use Rattle.value_text.specs.Words.{name_of, name_goes_on}
use Rattle.value_text.specs.declared.numbers.Base.{Base}
use Rattle.value_text.specs.declared.numbers.Base.TheVariants.{Decimal, Hexadecimal, Binary}

abbrev pub IsLine : List ℕ → Type 0
IsLine [] = Unit {0}
IsLine (b ∷ bs) = ((b == 10) ≡ false) × IsLine bs

-- blanks, and comments with the ends of their lines
pub data Gap : List ℕ → Type 0 where
  nothing : Gap []
  blank : {b : ℕ} {bs : List ℕ} → is_blank b ≡ true → Gap bs → Gap (b ∷ bs)
  comment : (line bs : List ℕ) → IsLine line → Gap bs → Gap (45 ∷ 45 ∷ (line ++ 10 ∷ bs))

-- the text may end in a comment
pub data Last_gap : List ℕ → Type 0 where
  closed : {bs : List ℕ} → Gap bs → Last_gap bs
  in_comment : (bs line : List ℕ) → Gap bs → IsLine line → Last_gap (bs ++ 45 ∷ 45 ∷ line)

abbrev pub All_in_number : Base → List ℕ → Type 0
All_in_number base [] = Unit {0}
All_in_number base (b ∷ bs) = (is_in_number base b ≡ true) × All_in_number base bs

-- digits with underscores between them, whose value is below 2^64
pub record IsNumber (base : Base) (bytes : List ℕ) : Type 0 where
  pub starts : starts_digit base bytes ≡ true
  pub all : All_in_number base bytes
  pub ends : ends_in_underscore bytes ≡ false
  pub below : value_on base 0 bytes < 2 ^ 64

abbrev pub sign : Bool → List ℕ
sign true = codes "-"
sign false = []

abbrev pub prefix : Base → List ℕ
prefix Decimal = []
prefix Hexadecimal = codes "0x"
prefix Binary = codes "0b"

abbrev pub suffix : Option IntType → List ℕ
suffix None = []
suffix (Some ty) = name_of ty

-- the spellings of a value of a type
pub data Spells : ScalarType → List ℕ → Scalar → Type 0 where
  truth : Spells sort.Bool (codes "true") (scalar.Bool true)
  falsehood : Spells sort.Bool (codes "false") (scalar.Bool false)
  integer : {ty : IntType} {value : Scalar} (negative : Bool) (base : Base) (digits : List ℕ) (named : Option IntType) → IsNumber base digits → may_be ty named ≡ true
      → value_in ty (signed negative (value_on base 0 digits)) ≡ Some value → Spells (sort.Int ty) (sign negative ++ (prefix base ++ (digits ++ suffix named))) value

pub data Text : List ScalarType → List ℕ → List Scalar → Type 0 where
  ended : {bytes : List ℕ} → Last_gap bytes → Text [] bytes []
  value_and : {ty : ScalarType} {types : List ScalarType} {value : Scalar} {values : List Scalar} (gap word rest : List ℕ) → Gap gap → Spells ty word value → name_goes_on rest ≡ false → Text types rest values
      → Text (ty ∷ types) (gap ++ (word ++ rest)) (value ∷ values)
