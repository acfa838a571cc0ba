-- The grammar of a text whose values are scalars and arrays: a value for each parameter, with blanks and comments before it, and
-- behind the last one. A value is told by its sizes, the outermost first, and the words of its scalars in order.
use Rattle.std.specs.Prelude.{◌≡◌, ◌≤◌, ◌<◌, ◌++◌, ℕ, suc, true, false, List, [], ◌∷◌, length, Ok, codes}
use Rattle.fut_scalar.specs.declared.scalar.Scalar.{Scalar}
use Rattle.fut_scalar.specs.declared.scalar.ScalarType.{ScalarType}
use Rattle.fut_scalar.specs.declared.sizes.ArgType.{ArgType}
use Rattle.fut_arithmetic.specs.Words.{word_of}
use Rattle.fut_value.specs.Values.{greatest_weight, weight_of}
use Rattle.fut_value.specs.declared.value.Value.{Value}
use Rattle.value_text.specs.Grammar.{Gap, Last_gap, Spells}
use Rattle.value_text.specs.Numbers.{value_on}
use Rattle.value_text.specs.Printing.{type_text}
use Rattle.value_text.specs.Sizes.{Known, values_for}
use Rattle.value_text.specs.Words.{is_digit, name_goes_on}
use Rattle.value_text.specs.Written.{has_zero, size_limit}
use Rattle.value_text.specs.declared.numbers.Base.TheVariants.{Decimal}

-- ---- empty arrays

abbrev pub All_digits : List ℕ → Type 0
All_digits [] = Unit {0}
All_digits (b ∷ bs) = (is_digit b ≡ true) × All_digits bs

-- sizes in brackets, each below 2^63
pub data Brackets : List ℕ → List ℕ → Type 0 where
  no_bracket : Brackets [] []
  bracket_and : {n : ℕ} {ns : List ℕ} (before inside digits behind rest : List ℕ) → Gap before → Gap inside → 0 < length digits → All_digits digits → value_on Decimal 0 digits ≡ n → n < size_limit → Gap behind → Brackets ns rest
      → Brackets (n ∷ ns) (before ++ (91 ∷ (inside ++ (digits ++ (behind ++ 93 ∷ rest)))))

-- `empty`, `(`, the sizes, of which one is 0, the name of the type, `)`
pub record Spells_empty (ty : ScalarType) (sizes word : List ℕ) : Type 0 where
  pub opening : List ℕ
  pub brackets : List ℕ
  pub before : List ℕ
  pub behind : List ℕ
  pub is : word ≡ codes "empty" ++ (opening ++ (40 ∷ (brackets ++ (before ++ (type_text ty ++ (behind ++ 41 ∷ []))))))
  pub opening_gap : Gap opening
  pub sized : Brackets sizes brackets
  pub before_gap : Gap before
  pub behind_gap : Gap behind
  pub zero : has_zero sizes ≡ true
  pub light : weight_of sizes ≤ greatest_weight

-- ---- arrays

-- how rows of one kind are spelled
abbrev pub Row : Type 1
Row = (words word : List ℕ) → Type 0

-- rows with commas between them, up to the bracket that closes the array
pub data Rows (row : Row) : ℕ → List ℕ → List ℕ → Type 0 where
  last_row : {words : List ℕ} (before word behind : List ℕ) → Gap before → row words word → Gap behind → Rows row 1 words (before ++ (word ++ (behind ++ 93 ∷ [])))
  row_and : {count : ℕ} {words more : List ℕ} (before word behind rest : List ℕ) → Gap before → row words word → Gap behind → Rows row count more rest → Rows row (suc count) (words ++ more) (before ++ (word ++ (behind ++ 44 ∷ rest)))

-- an array of so many rows of these sizes: its rows in brackets, or, where it has one dimension and none, nothing in brackets, or
-- an empty array
pub data Spells_array (ty : ScalarType) (row : Row) (count : ℕ) (sizes words : List ℕ) : List ℕ → Type 0 where
  rows : {body : List ℕ} → Rows row count words body → weight_of (count ∷ sizes) ≤ greatest_weight → Spells_array ty row count sizes words (91 ∷ body)
  no_rows : (gap : List ℕ) → Gap gap → count ≡ 0 → sizes ≡ [] → words ≡ [] → Spells_array ty row count sizes words (91 ∷ (gap ++ 93 ∷ []))
  empty : {word : List ℕ} → Spells_empty ty (count ∷ sizes) word → words ≡ [] → Spells_array ty row count sizes words word

pub record Spells_scalar (ty : ScalarType) (words word : List ℕ) : Type 0 where
  pub value : Scalar
  pub spells : Spells ty word value
  pub is : words ≡ word_of value ∷ []

-- the spellings of a value of these sizes and words
abbrev pub Spells_value : ScalarType → (sizes : List ℕ) → Row
Spells_value ty [] words word = Spells_scalar ty words word
Spells_value ty (n ∷ ns) words word = Spells_array ty (Spells_value ty ns) n ns words word

-- no character that continues a name stands directly behind a scalar
abbrev pub Ends : (sizes rest : List ℕ) → Type 0
Ends [] rest = name_goes_on rest ≡ false
Ends (n ∷ ns) rest = Unit {0}

-- ---- the whole text

pub data Spelled_all : List ArgType → List ℕ → List Value → Type 0 where
  ended : {bytes : List ℕ} → Last_gap bytes → Spelled_all [] bytes []
  value_and : {t : ArgType} {types : List ArgType} {value : Value} {values : List Value} (gap word rest : List ℕ) → Gap gap → value.shape.elem ≡ t.elem → length value.shape.sizes ≡ length t.dims
      → Spells_value t.elem value.shape.sizes value.words word → Ends value.shape.sizes rest → Spelled_all types rest values → Spelled_all (t ∷ types) (gap ++ (word ++ rest)) (value ∷ values)

-- values for all parameters, whose sizes agree
pub record Text (types : List ArgType) (bytes : List ℕ) (values : List Value) : Type 0 where
  pub spelled : Spelled_all types bytes values
  pub known : Known
  pub agree : values_for 1 types values [] ≡ Ok known
