-- Where the tokens stand in the bytes of a text.
use Rattle.std.specs.Prelude.{◌≡◌, ℕ, ◌-◌, ◌<◌, ◌≤◌, true, List, [], ◌∷◌, ◌++◌, take, drop, length, codes, Option, Some, None}
use Rattle.std.specs.List.{list_all}
use Rattle.std.specs.Str.{encode_utf8_all}
use Rattle.fut_scalar.specs.declared.scalar.IntType.{IntType}
use Rattle.fut_scalar.specs.declared.scalar.IntType.TheVariants as int
use Rattle.fut_token.specs.Spelling.{text_of}
use Rattle.fut_token.specs.declared.token.Lift.{Lift}
use Rattle.fut_token.specs.declared.token.Lift.TheVariants as lift
use Rattle.fut_token.specs.declared.token.Token.{Token}
use Rattle.fut_token.specs.declared.token.TokenKind.{TokenKind}
use Rattle.fut_token.specs.declared.token.TokenKind.TheVariants as kind
use Rattle.fut_lexer.specs.declared.number.Base.{Base}
use Rattle.fut_lexer.specs.declared.number.Base.TheVariants as base
use Rattle.fut_lexer.specs.Numbers.{is_in_number, value}

abbrev pub prefix_text : Base → List ℕ
prefix_text base.Decimal = []
prefix_text base.Hexadecimal = codes "0x"
prefix_text base.Binary = codes "0b"

abbrev pub suffix_text : Option IntType → List ℕ
suffix_text None = []
suffix_text (Some int.I8) = codes "i8"
suffix_text (Some int.I16) = codes "i16"
suffix_text (Some int.I32) = codes "i32"
suffix_text (Some int.I64) = codes "i64"
suffix_text (Some int.U8) = codes "u8"
suffix_text (Some int.U16) = codes "u16"
suffix_text (Some int.U32) = codes "u32"
suffix_text (Some int.U64) = codes "u64"

abbrev pub lift_text : Lift → List ℕ
lift_text lift.Plain = []
lift_text lift.Lifted = codes "^"
lift_text lift.SizeLifted = codes "~"

-- digits and underscores with this value
pub record Counts (b : Base) (digits : List ℕ) (v : ℕ) : Type 0 where
  pub all : list_all (is_in_number b) digits ≡ true
  pub counted : value b digits ≡ v

-- The bytes spell a token of this kind.
unfoldable pub SpelledBy : TokenKind → List ℕ → Type 0
SpelledBy (kind.Fixed f) bytes = bytes ≡ text_of f
SpelledBy (kind.Name name) bytes = bytes ≡ name
SpelledBy (kind.Int v s) bytes = (b : Base) × (digits : List ℕ) × Counts b digits v × (bytes ≡ encode_utf8_all (prefix_text b ++ (digits ++ suffix_text s)))
SpelledBy (kind.TypeVar l name) bytes = bytes ≡ codes "'" ++ (lift_text l ++ name)
SpelledBy (kind.Char c) bytes = bytes ≡ encode_utf8_all (39 ∷ c ∷ 39 ∷ [])
SpelledBy (kind.Text inner) bytes = bytes ≡ codes "\"" ++ (inner ++ codes "\"")
SpelledBy (kind.Field digits) bytes = bytes ≡ codes "." ++ digits
SpelledBy (kind.Constructor name) bytes = bytes ≡ codes "#" ++ name

-- From the byte `from` of the text on, the tokens stand one behind the other, none is empty, and the bytes between the ends of each spell it.
unfoldable pub InOrder : (text : List ℕ) → (from : ℕ) → List Token → Type 0
InOrder text from [] = from ≤ length text
InOrder text from (t ∷ ts) = (from ≤ t.start) × (t.start < t.end) × SpelledBy t.kind (take (t.end - t.start) (drop t.start text)) × InOrder text t.end ts
