-- What the lexer answers.
use Rattle.std.specs.Prelude.{◌≡◌, ◌⊎◌, ℕ, List, true, false, take}
use Rattle.std.specs.Str.{is_utf8, chars}
use Rattle.std.specs.Str.Lossy.{utf8_valid_len}
use Rattle.fut_token.specs.declared.token.Token.{Token}
use Rattle.fut_lexer.specs.declared.lexer.LexErr.{LexErr}
use Rattle.fut_lexer.specs.declared.lexer.LexErr.TheVariants.{NotUtf8, Memory}
use Rattle.fut_lexer.specs.Positions.{text_start, moved, place_of}
use Rattle.fut_lexer.specs.Scanned.{Tokens, Refused}

-- The text is UTF-8, and its characters are these tokens, which stand in the file of this number.
unfoldable pub HasTokens : (file : ℕ) → (text : List ℕ) → List Token → Type 0
HasTokens file text tokens = (is_utf8 text ≡ true) × Tokens file text_start true false (chars text) tokens

-- The text is refused for this reason: it is no UTF-8, and the place is that of its first bad byte, or its characters are refused.
unfoldable pub RefusesText : (file : ℕ) → (text : List ℕ) → LexErr → Type 0
RefusesText file text (NotUtf8 at) = (is_utf8 text ≡ false) × (at ≡ place_of file (moved text_start (chars (take (utf8_valid_len text) text))))
RefusesText file text err = (is_utf8 text ≡ true) × Refused file text_start false (chars text) err

-- why no tokens were given: memory ran out, or the text is refused
abbrev pub ExplainsText : (file : ℕ) → (text : List ℕ) → LexErr → Type 0
ExplainsText file text Memory = Unit {0}
ExplainsText file text err = RefusesText file text err

-- a text has a list of tokens or a refusal, one alone, and never both
pub record OneReading : Type 0 where
  pub some : (file : ℕ) (text : List ℕ) → ((tokens : List Token) × HasTokens file text tokens) ⊎ ((err : LexErr) × RefusesText file text err)
  pub one_list : (file : ℕ) (text : List ℕ) (a b : List Token) → HasTokens file text a → HasTokens file text b → a ≡ b
  pub one_refusal : (file : ℕ) (text : List ℕ) (a b : LexErr) → RefusesText file text a → RefusesText file text b → a ≡ b
  pub not_both : (file : ℕ) (text : List ℕ) (tokens : List Token) (err : LexErr) → HasTokens file text tokens → RefusesText file text err → ⊥
