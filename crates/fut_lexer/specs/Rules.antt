-- What stands at the front of a text, rule by rule. A text is the list of its characters, each by its code, and n and m count characters.
use Rattle.std.specs.Prelude.{◌≡◌, ℕ, ◌^◌, ◌+◌, ◌-◌, ◌<◌, ◌≤◌, Bool, true, false, not, ◌&&◌, ◌==◌, List, [], ◌∷◌, length, take, drop, Option, Some, None, nat_le, if◌then◌else◌}
use Rattle.std.specs.List.{list_all}
use Rattle.std.specs.Str.{encode_utf8_all}
use Rattle.fut_scalar.specs.declared.scalar.IntType.{IntType}
use Rattle.fut_token.specs.declared.token.Fixed.{Fixed}
use Rattle.fut_token.specs.declared.token.Lift.TheVariants as lift
use Rattle.fut_token.specs.declared.token.TokenKind.TheVariants as kind
use Rattle.name_characters.specs.Names.{goes_on_name, starts_name}
use Rattle.fut_lexer.specs.declared.front.Front.{Front}
use Rattle.fut_lexer.specs.declared.front.Front.TheVariants as front
use Rattle.fut_lexer.specs.declared.number.Base.{Base}
use Rattle.fut_lexer.specs.declared.number.Base.TheVariants as base
use Rattle.fut_lexer.specs.Words.{is_blank, is_digit, is_in_text, begins, begins_with, keyword, suffix_of, symbol_1, symbol_2, symbol_3}
use Rattle.fut_lexer.specs.Numbers.{is_in_number, value, ends_in_underscore, begins_in, is_float}

-- The next n characters are of the class, and the one behind them is not.
pub record Run (p : ℕ → Bool) (n : ℕ) (text : List ℕ) : Type 0 where
  pub within : n ≤ length text
  pub all : list_all p (take n text) ≡ true
  pub ends : begins p (drop n text) ≡ false

-- A name or a keyword, as far as it goes.
pub data Word : ℕ → List ℕ → Type 0 where
  word : {c n : ℕ} {cs : List ℕ} → starts_name c ≡ true → Run goes_on_name n cs → Word (1 + n) (c ∷ cs)

-- A name: a word that is no keyword, and not the underscore alone.
pub record Named (n : ℕ) (text : List ℕ) : Type 0 where
  pub spelled : Word n text
  pub own : keyword (take n text) ≡ None

-- How many characters stand before an integer's digits: `0x` before hexadecimal ones, `0b` before binary ones.
pub data Prefix : Base → ℕ → List ℕ → Type 0 where
  hexadecimal : {text : List ℕ} → begins_in 120 base.Hexadecimal text ≡ true → Prefix base.Hexadecimal 2 text
  binary : {text : List ℕ} → begins_in 98 base.Binary text ≡ true → Prefix base.Binary 2 text
  decimal : {text : List ℕ} → begins is_digit text ≡ true → begins_in 120 base.Hexadecimal text ≡ false → begins_in 98 base.Binary text ≡ false → Prefix base.Decimal 0 text

-- The digits of an integer, as far as they go. Underscores may stand between them.
pub record Digits (b : Base) (skip n : ℕ) (text : List ℕ) : Type 0 where
  pub prefix : Prefix b skip text
  pub run : Run (is_in_number b) n (drop skip text)
  pub last : ends_in_underscore (take n (drop skip text)) ≡ false

-- `x'`: a character and a quote, behind a quote
abbrev pub is_character : List ℕ → Bool
is_character [] = false
is_character (c ∷ []) = false
is_character (c ∷ d ∷ cs) = d == 39

-- where the first of `depth` open brackets closes, `seen` characters on
abbrev pub close_len : (seen depth : ℕ) → List ℕ → Option ℕ
close_len seen depth [] = None
close_len seen depth (c ∷ cs) =
    if c == 93 then (if nat_le depth 1 then Some (seen + 1) else close_len (seen + 1) (depth - 1) cs)
    else close_len (seen + 1) (if c == 91 then depth + 1 else depth) cs

abbrev pub begins_comment : List ℕ → Bool
begins_comment [] = false
begins_comment (c ∷ cs) = c == 45 && begins_with 45 cs

-- `joined`: a name, a field or a closing bracket stands directly before
abbrev pub begins_field : Bool → List ℕ → Bool
begins_field joined [] = false
begins_field joined (c ∷ cs) = c == 46 && joined && begins is_digit cs

abbrev pub symbol_of : List ℕ → Option Fixed
symbol_of [] = None
symbol_of (a ∷ []) = symbol_1 a
symbol_of (a ∷ b ∷ []) = symbol_2 a b
symbol_of (a ∷ b ∷ c ∷ []) = symbol_3 a b c
symbol_of (a ∷ b ∷ c ∷ d ∷ cs) = None

-- The longest symbol that the text begins with.
pub record Longest (f : Fixed) (n : ℕ) (text : List ℕ) : Type 0 where
  pub within : n ≤ length text
  pub spelled : symbol_of (take n text) ≡ Some f
  pub most : (m : ℕ) (g : Fixed) → m ≤ length text → symbol_of (take m text) ≡ Some g → m ≤ n

pub data Stands (joined : Bool) : List ℕ → Front → Type 0 where
  -- Blanks are spaces, tabs, line feeds and carriage returns.
  blanks : {c n : ℕ} {cs : List ℕ} → is_blank c ≡ true → Run is_blank n cs → Stands joined (c ∷ cs) (front.Gap (1 + n))
  -- A comment begins with two hyphens and is the rest of its line.
  comment : {n : ℕ} {cs : List ℕ} → Run (λ c. not (c == 10)) n (45 ∷ 45 ∷ cs) → Stands joined (45 ∷ 45 ∷ cs) (front.Gap n)
  -- An attribute begins with `#[` and ends where that bracket closes.
  attribute : {n : ℕ} {cs : List ℕ} → close_len 0 0 (91 ∷ cs) ≡ Some n → Stands joined (35 ∷ 91 ∷ cs) (front.Attribute (1 + n))
  name : {n : ℕ} {text : List ℕ} → Named n text → Stands joined text (front.Token (kind.Name (encode_utf8_all (take n text))) n)
  -- Keywords, and the underscore alone.
  keyword_or_wildcard : {f : Fixed} {n : ℕ} {text : List ℕ} → Word n text → keyword (take n text) ≡ Some f → Stands joined text (front.Token (kind.Fixed f) n)
  -- One character between quotes, whichever it is.
  character : {c : ℕ} {cs : List ℕ} → Stands joined (39 ∷ c ∷ 39 ∷ cs) (front.Token (kind.Char c) 3)
  -- A quote and a name, with `^` or `~` between them or not. A character between quotes goes before it.
  variable : {n : ℕ} {cs : List ℕ} → is_character cs ≡ false → Named n cs → Stands joined (39 ∷ cs) (front.Token (kind.TypeVar lift.Plain (encode_utf8_all (take n cs))) (1 + n))
  lifted : {n : ℕ} {cs : List ℕ} → is_character (94 ∷ cs) ≡ false → Named n cs → Stands joined (39 ∷ 94 ∷ cs) (front.Token (kind.TypeVar lift.Lifted (encode_utf8_all (take n cs))) (2 + n))
  size_lifted : {n : ℕ} {cs : List ℕ} → is_character (126 ∷ cs) ≡ false → Named n cs → Stands joined (39 ∷ 126 ∷ cs) (front.Token (kind.TypeVar lift.SizeLifted (encode_utf8_all (take n cs))) (2 + n))
  -- `#` and a name.
  constructed : {n : ℕ} {cs : List ℕ} → Named n cs → Stands joined (35 ∷ cs) (front.Token (kind.Constructor (encode_utf8_all (take n cs))) (1 + n))
  -- What stands between double quotes on one line.
  text : {n : ℕ} {cs : List ℕ} → Run is_in_text n cs → begins_with 34 (drop n cs) ≡ true → Stands joined (34 ∷ cs) (front.Token (kind.Text (encode_utf8_all (take n cs))) (2 + n))
  -- A point and digits, where joined. It goes before a float.
  field : {n : ℕ} {cs : List ℕ} → joined ≡ true → begins is_digit cs ≡ true → Run is_digit n cs → Stands joined (46 ∷ cs) (front.Token (kind.Field (encode_utf8_all (take n cs))) (1 + n))
  -- An integer is below 2^64, and no name follows it directly.
  integer : {b : Base} {skip n : ℕ} {text : List ℕ} → Digits b skip n text → is_float b (drop n (drop skip text)) ≡ false → value b (take n (drop skip text)) < 2 ^ 64
      → begins starts_name (drop n (drop skip text)) ≡ false → Stands joined text (front.Token (kind.Int (value b (take n (drop skip text))) None) (skip + n))
  -- Or the whole name that follows it is the suffix of a type.
  suffixed : {b : Base} {skip n m : ℕ} {s : IntType} {text : List ℕ} → Digits b skip n text → is_float b (drop n (drop skip text)) ≡ false → value b (take n (drop skip text)) < 2 ^ 64
      → Word m (drop n (drop skip text)) → suffix_of (take m (drop n (drop skip text))) ≡ Some s → Stands joined text (front.Token (kind.Int (value b (take n (drop skip text))) (Some s)) ((skip + n) + m))
  -- A decimal integer with a fraction, an exponent or the suffix of a float directly behind it.
  float : {b : Base} {skip n : ℕ} {text : List ℕ} → Digits b skip n text → is_float b (drop n (drop skip text)) ≡ true → Stands joined text front.Float
  -- The longest symbol, where neither a comment nor a field begins.
  symbol : {f : Fixed} {n : ℕ} {text : List ℕ} → Longest f n text → begins_comment text ≡ false → begins_field joined text ≡ false → Stands joined text (front.Token (kind.Fixed f) n)
