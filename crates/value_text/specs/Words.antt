-- Words: names of types, and truth values.
use Rattle.std.specs.Prelude.{ℕ, ◌+◌, Bool, false, not, cond, nat_le, max, ◌==◌, ◌&&◌, List, [], ◌∷◌, length, drop, Option, Some, None, Result, Ok, Err, codes}
use Rattle.bstr.specs.Utf8.{decoded}
use Rattle.fut_scalar.specs.declared.scalar.IntType.{IntType}
use Rattle.fut_scalar.specs.declared.scalar.IntType.TheVariants.{I8, I16, I32, I64, U8, U16, U32, U64}
use Rattle.name_characters.specs.Names.{goes_on_name}
use Rattle.value_text.specs.declared.words.Suffix.{Suffix}

abbrev pub is_digit : ℕ → Bool
is_digit b = nat_le 48 b && nat_le b 57

abbrev pub continues_name : Option ℕ → Bool
continues_name None = false
continues_name (Some c) = goes_on_name c

-- a character that continues a name stands at the front, in UTF-8: it makes what is before it part of a longer name
unfoldable pub name_goes_on : List ℕ → Bool
name_goes_on bytes = continues_name (decoded bytes).char

-- how many bytes two texts have in common at their front
abbrev pub common : List ℕ → List ℕ → ℕ
common [] word = 0
common (b ∷ bs) [] = 0
common (b ∷ bs) (c ∷ cs) = cond (b == c) (1 + common bs cs) 0

-- this word stands at the front, and is no part of a longer name
unfoldable pub is_word : List ℕ → List ℕ → Bool
is_word bytes word = common bytes word == length word && not (name_goes_on (drop (length word) bytes))

abbrev pub name_of : IntType → List ℕ
name_of I8 = codes "i8"
name_of I16 = codes "i16"
name_of I32 = codes "i32"
name_of I64 = codes "i64"
name_of U8 = codes "u8"
name_of U16 = codes "u16"
name_of U32 = codes "u32"
name_of U64 = codes "u64"

-- the integer type whose name is the word at the front
unfoldable pub type_at : List ℕ → Option IntType
type_at bytes =
    cond (is_word bytes (name_of I8)) (Some I8)
    (cond (is_word bytes (name_of I16)) (Some I16)
    (cond (is_word bytes (name_of I32)) (Some I32)
    (cond (is_word bytes (name_of I64)) (Some I64)
    (cond (is_word bytes (name_of U8)) (Some U8)
    (cond (is_word bytes (name_of U16)) (Some U16)
    (cond (is_word bytes (name_of U32)) (Some U32)
    (cond (is_word bytes (name_of U64)) (Some U64) None)))))))

-- how many bytes at the front begin the name of a signed type, of an unsigned one, or of any
unfoldable pub signed_front : List ℕ → ℕ
signed_front bytes = max (max (common bytes (name_of I8)) (common bytes (name_of I16))) (max (common bytes (name_of I32)) (common bytes (name_of I64)))

unfoldable pub unsigned_front : List ℕ → ℕ
unsigned_front bytes = max (max (common bytes (name_of U8)) (common bytes (name_of U16))) (max (common bytes (name_of U32)) (common bytes (name_of U64)))

unfoldable pub type_front : List ℕ → ℕ
type_front bytes = max (signed_front bytes) (unsigned_front bytes)

abbrev pub suffix_of : Option IntType → List ℕ → Result Suffix ℕ
suffix_of (Some ty) bytes = Ok (record { ty = Some ty; length = length (name_of ty) })
suffix_of None bytes = cond (name_goes_on bytes) (Err (type_front bytes)) (Ok (record { ty = None; length = 0 }))

-- what stands behind the digits of an integer: the name of a type, or nothing that continues a name; or how many bytes begin such a name
unfoldable pub suffix_at : List ℕ → Result Suffix ℕ
suffix_at bytes = suffix_of (type_at bytes) bytes
