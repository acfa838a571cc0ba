-- Values in a store: a scalar, or an array of scalars that a view shows.
use Rattle.std.specs.Prelude.{◌≡◌, ℕ, List, ◌∷◌, [], map}
use Rattle.fut_scalar.specs.Integers.{FitsType}
use Rattle.fut_scalar.specs.declared.scalar.ScalarType.{ScalarType}
use Rattle.fut_arithmetic.specs.Types.{type_of}
use Rattle.fut_arithmetic.specs.Words.{scalar_of_word, word_of}
use Rattle.fut_value.specs.declared.value.Value.{Value}
use Rattle.block_store.specs.declared.held.Held.{Held}
use Rattle.block_store.specs.declared.held.Held.TheVariants as held
use Rattle.block_store.specs.Blocks.{Blocks, In, IsFree, with_block}
use Rattle.block_store.specs.Views.{IsWithin, IsSized, cells}

-- the low bits of a word, as many as the type has
abbrev pub low_bits : ScalarType → ℕ → ℕ
low_bits ty word = word_of (scalar_of_word ty word)

-- the value that stands in the store
abbrev pub value_held : Blocks → Held → Value
value_held s (held.Scalar a) = record { shape = record { elem = type_of a; sizes = [] }; words = word_of a ∷ [] }
value_held s (held.Array view elem) = record { shape = record { elem = elem; sizes = view.shape }; words = map (low_bits elem) (cells s view) }

-- a scalar of its type, or cells of a block of sizes that a value may have
abbrev pub IsHeld : Blocks → Held → Type 0
IsHeld s (held.Scalar a) = FitsType a
IsHeld s (held.Array view elem) = IsWithin s view × IsSized view

-- a scalar takes no block, and an array's words are a block that is apart from all others
abbrev pub IsPut : Blocks → Blocks → List ℕ → Held → Type 0
IsPut old new words (held.Scalar a) = new ≡ old
IsPut old new words (held.Array view elem) = IsFree old view.block × (new ≡ with_block old view.block (In words))
