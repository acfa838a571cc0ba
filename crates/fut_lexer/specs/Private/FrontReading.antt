-- What is read at the front of a text, by its first character. It is what stands there by the rules, or it is bad.
use Rattle.std.specs.Prelude.{ℕ, zero, suc, ◌^◌, ◌+◌, Bool, true, false, not, ◌&&◌, ◌==◌, List, [], ◌∷◌, take, drop, Option, Some, None, nat_lt, if◌then◌else◌}
use Rattle.std.specs.List.{prefix_len}
use Rattle.std.specs.Str.{encode_utf8_all}
use Rattle.fut_scalar.specs.declared.scalar.IntType.{IntType}
use Rattle.fut_token.specs.declared.token.Fixed.{Fixed}
use Rattle.fut_token.specs.declared.token.Lift.{Lift}
use Rattle.fut_token.specs.declared.token.Lift.TheVariants as lift
use Rattle.fut_token.specs.declared.token.TokenKind.{TokenKind}
use Rattle.fut_token.specs.declared.token.TokenKind.TheVariants as kind
use Rattle.name_characters.specs.Names.{goes_on_name, starts_name}
use Rattle.fut_lexer.specs.declared.front.Front.{Front}
use Rattle.fut_lexer.specs.declared.front.Front.TheVariants as front
use Rattle.fut_lexer.specs.declared.number.Base.{Base}
use Rattle.fut_lexer.specs.declared.number.Base.TheVariants as base
use Rattle.fut_lexer.specs.Words.{is_blank, is_digit, is_in_text, begins_with, keyword, suffix_of, symbol_1, symbol_2, symbol_3}
use Rattle.fut_lexer.specs.Numbers.{is_in_number, value, ends_in_underscore, starts_digit, begins_in, is_float}
use Rattle.fut_lexer.specs.Rules.{close_len}

-- ---- names

-- A name or keyword is as long as its characters go on: its length, or 0 where none begins.
abbrev pub word_len : List ℕ → ℕ
word_len [] = 0
word_len (c ∷ cs) = if starts_name c then 1 + prefix_len goes_on_name cs else 0

abbrev pub word_kind : Option Fixed → List ℕ → TokenKind
word_kind None letters = kind.Name (encode_utf8_all letters)
word_kind (Some f) letters = kind.Fixed f

abbrev pub is_none : Option Fixed → Bool
is_none None = true
is_none (Some f) = false

-- Behind a quote or a `#` a keyword and the wildcard are no names.
unfoldable pub name_len : List ℕ → ℕ
name_len text = if is_none (keyword (take (word_len text) text)) then word_len text else 0

-- ---- integers

-- An integer whose digits end at n: a word directly behind it is its suffix, or the integer is bad.
abbrev pub with_suffix : ℕ → ℕ → ℕ → Option IntType → Front
with_suffix v n zero s = front.Token (kind.Int v None) n
with_suffix v n (suc w) None = front.Bad
with_suffix v n (suc w) (Some s) = front.Token (kind.Int v (Some s)) (n + suc w)

-- An integer of a base, whose digits begin behind `skip` characters. An underscore behind the last digit is a name directly behind it.
unfoldable pub integer_in : Base → (skip : ℕ) → List ℕ → Front
integer_in b skip text =
    let run = prefix_len (is_in_number b) (drop skip text) in
    let digits = take run (drop skip text) in
    let rest = drop run (drop skip text) in
    if ends_in_underscore digits then front.Bad
    else if is_float b rest then front.Float
    else if nat_lt (value b digits) (2 ^ 64) then with_suffix (value b digits) (skip + run) (word_len rest) (suffix_of (take (word_len rest) rest))
    else front.Bad

unfoldable pub integer_at : List ℕ → Front
integer_at text =
    if begins_in 120 base.Hexadecimal text then integer_in base.Hexadecimal 2 text
    else if begins_in 98 base.Binary text then integer_in base.Binary 2 text
    else integer_in base.Decimal 0 text

-- ---- tokens that a quote, a `#` or a double quote begins

abbrev pub type_variable : Lift → ℕ → List ℕ → Front
type_variable l before text = if nat_lt 0 (name_len text) then front.Token (kind.TypeVar l (encode_utf8_all (take (name_len text) text))) (before + name_len text) else front.Bad

-- behind the quote of a type variable
unfoldable pub type_variable_at : List ℕ → Front
type_variable_at [] = front.Bad
type_variable_at (c ∷ cs) = if c == 94 then type_variable lift.Lifted 2 cs else if c == 126 then type_variable lift.SizeLifted 2 cs else type_variable lift.Plain 1 (c ∷ cs)

-- behind a quote: one character and a quote go before a type variable
unfoldable pub quote_at : List ℕ → Front
quote_at [] = front.Bad
quote_at (c ∷ []) = type_variable_at (c ∷ [])
quote_at (c ∷ d ∷ cs) = if d == 39 then front.Token (kind.Char c) 3 else type_variable_at (c ∷ d ∷ cs)

abbrev pub attribute : Option ℕ → Front
attribute None = front.Bad
attribute (Some n) = front.Attribute (1 + n)

-- behind a `#`: an attribute, whose brackets are counted whatever else stands in it, or a constructor's name
unfoldable pub hash_at : List ℕ → Front
hash_at [] = front.Bad
hash_at (c ∷ cs) =
    if c == 91 then attribute (close_len 0 0 (c ∷ cs))
    else if nat_lt 0 (name_len (c ∷ cs)) then front.Token (kind.Constructor (encode_utf8_all (take (name_len (c ∷ cs)) (c ∷ cs)))) (1 + name_len (c ∷ cs))
    else front.Bad

-- behind a double quote
unfoldable pub text_at : List ℕ → Front
text_at cs =
    let n = prefix_len is_in_text cs in
    if begins_with 34 (drop n cs) then front.Token (kind.Text (encode_utf8_all (take n cs))) (2 + n) else front.Bad

-- ---- symbols: the longest that is there

abbrev pub symbol_or : ℕ → Option Fixed → Front → Front
symbol_or n None other = other
symbol_or n (Some f) other = front.Token (kind.Fixed f) n

unfoldable pub symbol_at : List ℕ → Front
symbol_at [] = front.Bad
symbol_at (a ∷ []) = symbol_or 1 (symbol_1 a) front.Bad
symbol_at (a ∷ b ∷ []) = symbol_or 2 (symbol_2 a b) (symbol_or 1 (symbol_1 a) front.Bad)
symbol_at (a ∷ b ∷ c ∷ cs) = symbol_or 3 (symbol_3 a b c) (symbol_or 2 (symbol_2 a b) (symbol_or 1 (symbol_1 a) front.Bad))

-- ---- all of them

-- the rest of the line
abbrev pub line_len : List ℕ → ℕ
line_len text = prefix_len (λ c. not (c == 10)) text

-- behind the point of a field: its digits
unfoldable pub field_at : List ℕ → Front
field_at cs = front.Token (kind.Field (encode_utf8_all (take (prefix_len is_digit cs) cs))) (1 + prefix_len is_digit cs)

-- Where neither a blank, a letter, a digit nor a quote stands first. `joined`: a name, a field or a closing bracket stands directly before, so that a point and digits are a field.
unfoldable pub sign_at : Bool → List ℕ → Front
sign_at joined [] = front.Bad
sign_at joined (c ∷ cs) =
    if c == 45 && begins_with 45 cs then front.Gap (line_len (c ∷ cs))
    else if c == 46 && joined && starts_digit base.Decimal cs then field_at cs
    else symbol_at (c ∷ cs)

unfoldable pub front_at : Bool → List ℕ → Front
front_at joined [] = front.Bad
front_at joined (c ∷ cs) =
    if is_blank c then front.Gap (1 + prefix_len is_blank cs)
    else if starts_name c then (let n = word_len (c ∷ cs) in front.Token (word_kind (keyword (take n (c ∷ cs))) (take n (c ∷ cs))) n)
    else if is_digit c then integer_at (c ∷ cs)
    else if c == 39 then quote_at cs
    else if c == 35 then hash_at cs
    else if c == 34 then text_at cs
    else sign_at joined (c ∷ cs)
