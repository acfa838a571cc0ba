-- Classes of characters, and the spellings of keywords, symbols and suffixes. A character is its code.
use Rattle.std.specs.Prelude.{ℕ, Bool, true, false, not, ◌&&◌, ◌||◌, ◌==◌, List, [], ◌∷◌, codes, Option, Some, None, nat_le, if◌then◌else◌}
use Rattle.std.specs.List.{list_all, list_any}
use Rattle.std.specs.Str.{bytes_eq, chars}
use Rattle.name_characters.specs.Names.{goes_on_name, starts_name}
use Rattle.fut_scalar.specs.declared.scalar.IntType.{IntType}
use Rattle.fut_scalar.specs.declared.scalar.IntType.TheVariants as int
use Rattle.fut_token.specs.declared.token.Fixed.{Fixed}
use Rattle.fut_token.specs.declared.token.Fixed.TheVariants as fixed
use Rattle.fut_token.specs.Spelling.{text_of}

-- space, tab, line feed and carriage return
abbrev pub is_blank : ℕ → Bool
is_blank c = c == 32 || c == 9 || c == 10 || c == 13

abbrev pub is_digit : ℕ → Bool
is_digit c = nat_le 48 c && nat_le c 57

-- what may stand in a text: no double quote and no line feed
abbrev pub is_in_text : ℕ → Bool
is_in_text c = not (c == 34 || c == 10)

-- the class of the first character, or the character itself
abbrev pub begins : (ℕ → Bool) → List ℕ → Bool
begins p [] = false
begins p (c ∷ cs) = p c

abbrev pub begins_with : ℕ → List ℕ → Bool
begins_with c [] = false
begins_with c (d ∷ cs) = d == c

-- the same characters
abbrev pub same : List ℕ → List ℕ → Bool
same [] [] = true
same [] (d ∷ ds) = false
same (c ∷ cs) [] = false
same (c ∷ cs) (d ∷ ds) = c == d && same cs ds

-- the first of these keywords that the characters spell
abbrev pub first_spelled : List ℕ → List Fixed → Option Fixed
first_spelled cs [] = None
first_spelled cs (f ∷ fs) = if same cs (text_of f) then Some f else first_spelled cs fs

-- The words that are no names. The underscore alone is the wildcard.
abbrev pub keywords : List Fixed
keywords =
    fixed.KeyDef ∷ fixed.KeyLet ∷ fixed.KeyEntry ∷ fixed.KeyIn ∷ fixed.KeyIf ∷ fixed.KeyThen ∷ fixed.KeyElse ∷ fixed.KeyLoop ∷ fixed.KeyFor
    ∷ fixed.KeyWhile ∷ fixed.KeyDo ∷ fixed.KeyWith ∷ fixed.KeyAssert ∷ fixed.KeyType ∷ fixed.KeyModule ∷ fixed.KeyOpen ∷ fixed.KeyLocal
    ∷ fixed.KeyInclude ∷ fixed.KeyImport ∷ fixed.KeyVal ∷ fixed.KeyTrue ∷ fixed.KeyFalse ∷ fixed.KeyMatch ∷ fixed.KeyCase ∷ fixed.Wildcard ∷ []

unfoldable pub keyword : List ℕ → Option Fixed
keyword cs = first_spelled cs keywords

-- a text that is a name: one may be bound by it
abbrev pub begins_name : List ℕ → Bool
begins_name text = begins starts_name (chars text)

abbrev pub is_keyword : List ℕ → Bool
is_keyword text = list_any (λ f. bytes_eq (text_of f) text) keywords

abbrev pub is_name : List ℕ → Bool
is_name text = begins_name text && (list_all goes_on_name (chars text) && not (is_keyword text))

-- the integer type that a word behind an integer names
unfoldable pub suffix_of : List ℕ → Option IntType
suffix_of cs =
    if same cs (codes "i8") then Some int.I8
    else if same cs (codes "i16") then Some int.I16
    else if same cs (codes "i32") then Some int.I32
    else if same cs (codes "i64") then Some int.I64
    else if same cs (codes "u8") then Some int.U8
    else if same cs (codes "u16") then Some int.U16
    else if same cs (codes "u32") then Some int.U32
    else if same cs (codes "u64") then Some int.U64
    else None

-- ---- symbols, by how many characters they have

abbrev pub symbols_1 : List Fixed
symbols_1 =
    fixed.Plus ∷ fixed.Minus ∷ fixed.Star ∷ fixed.Slash ∷ fixed.Percent ∷ fixed.Less ∷ fixed.Greater ∷ fixed.And ∷ fixed.Or ∷ fixed.Caret
    ∷ fixed.Equal ∷ fixed.Backslash ∷ fixed.OpenParen ∷ fixed.CloseParen ∷ fixed.OpenBracket ∷ fixed.CloseBracket ∷ fixed.OpenBrace
    ∷ fixed.CloseBrace ∷ fixed.Comma ∷ fixed.Colon ∷ fixed.Dot ∷ fixed.Bang ∷ fixed.Question ∷ fixed.Tilde ∷ fixed.Backtick ∷ []

abbrev pub symbols_2 : List Fixed
symbols_2 =
    fixed.SlashSlash ∷ fixed.PercentPercent ∷ fixed.StarStar ∷ fixed.EqualEqual ∷ fixed.BangEqual ∷ fixed.LessEqual ∷ fixed.GreaterEqual
    ∷ fixed.AndAnd ∷ fixed.OrOr ∷ fixed.ShiftLeft ∷ fixed.ShiftRight ∷ fixed.PipeRight ∷ fixed.PipeLeft ∷ fixed.Arrow ∷ fixed.ColonGreater
    ∷ fixed.DotDot ∷ []

abbrev pub symbols_3 : List Fixed
symbols_3 = fixed.ComposeRight ∷ fixed.ComposeLeft ∷ fixed.DotDotLess ∷ fixed.DotDotGreater ∷ fixed.DotDotDot ∷ []

unfoldable pub symbol_1 : ℕ → Option Fixed
symbol_1 a = first_spelled (a ∷ []) symbols_1

unfoldable pub symbol_2 : ℕ → ℕ → Option Fixed
symbol_2 a b = first_spelled (a ∷ b ∷ []) symbols_2

unfoldable pub symbol_3 : ℕ → ℕ → ℕ → Option Fixed
symbol_3 a b c = first_spelled (a ∷ b ∷ c ∷ []) symbols_3
