-- What the code answers where the definition reads.
use Rattle.std.specs.Prelude.{◌≡◌, ◌≤◌, ◌+◌, ℕ, List, [], ◌∷◌, ◌++◌, length, drop, Result, Ok, Err}
use Rattle.fut_scalar.specs.declared.sizes.ArgType.{ArgType}
use Rattle.fut_value.specs.Values.{greatest_weight, weight_of}
use Rattle.fut_value.specs.declared.value.Value.{Value}
use Rattle.value_text.specs.Arguments.{Reader, value_at, with_front}
use Rattle.value_text.specs.Arrays.{Read, counted}
use Rattle.value_text.specs.declared.reading.TextErr.{TextErr}
use Rattle.value_text.specs.declared.reading.TextErr.TheVariants as text

-- so many bytes were read, and their words and sizes stand behind those from before
pub record Gives (result : Result Read TextErr) (words_before words sizes_before sizes : List ℕ) (n : ℕ) : Type 0 where
  pub read : Read
  pub is : result ≡ Ok read
  pub long : n ≡ read.length
  pub words_behind : words ≡ words_before ++ read.words
  pub sizes_behind : sizes ≡ sizes_before ++ read.sizes

-- a row of so many bytes was read, and counts; its words stand behind those from before
pub record Gives_row (result : Result Read TextErr) (position count : ℕ) (first_before first words_before words : List ℕ) (n : ℕ) : Type 0 where
  pub read : Read
  pub is : result ≡ Ok read
  pub counts : counted position count first_before read.sizes ≡ Ok first
  pub long : n ≡ read.length
  pub words_behind : words ≡ words_before ++ read.words

-- memory ran out, or this is the refusal
abbrev pub Refused_so : {A : Type 0} → Result A TextErr → TextErr → Type 0
Refused_so read text.Memory = Unit {0}
Refused_so read err = read ≡ Err err

-- a value of so many bytes was read, whatever follows
abbrev pub Value_gives : ArgType → (param position : ℕ) → List ℕ → Value → (n : ℕ) → Type 0
Value_gives wanted param position bytes value n = (others : Reader) → value_at wanted others param position bytes ≡ with_front value (others (param + 1) (position + n) (drop n bytes))

-- each value is of its parameter's type
abbrev pub HaveTypes : List ArgType → List Value → Type 0
HaveTypes [] [] = Unit {0}
HaveTypes [] (v ∷ vs) = ⊥
HaveTypes (t ∷ ts) [] = ⊥
HaveTypes (t ∷ ts) (v ∷ vs) = (v.shape.elem ≡ t.elem) × (length v.shape.sizes ≡ length t.dims) × HaveTypes ts vs

-- a value passes no greatest weight
abbrev pub IsLight : Value → Type 0
IsLight value = weight_of value.shape.sizes ≤ greatest_weight
