-- The tokens of a text, and the first place where it is refused.
use Rattle.std.specs.Prelude.{ℕ, ◌<◌, Bool, true, false, List, [], ◌∷◌, take, drop, length, Result, Ok, Err}
use Rattle.fut_token.specs.declared.token.Fixed.TheVariants as fixed
use Rattle.fut_token.specs.declared.token.Token.{Token}
use Rattle.fut_token.specs.declared.token.TokenKind.{TokenKind}
use Rattle.fut_token.specs.declared.token.TokenKind.TheVariants as kind
use Rattle.fut_lexer.specs.declared.lexer.LexErr.{LexErr}
use Rattle.fut_lexer.specs.declared.lexer.LexErr.TheVariants as errors
use Rattle.fut_lexer.specs.declared.front.Front.{Front}
use Rattle.fut_lexer.specs.declared.front.Front.TheVariants as front
use Rattle.fut_lexer.specs.declared.position.Position.{Position}
use Rattle.fut_lexer.specs.Rules.{Stands}
use Rattle.fut_lexer.specs.Positions.{moved, place_of, text_start}

-- A point and digits directly behind such a token are a field.
unfoldable pub joins : TokenKind → Bool
joins (kind.Name n) = true
joins (kind.Field n) = true
joins (kind.Fixed fixed.CloseParen) = true
joins (kind.Fixed fixed.CloseBracket) = true
joins (kind.Fixed fixed.CloseBrace) = true
joins k = false

abbrev pub token_at : (file : ℕ) → (from to : Position) → Bool → TokenKind → Token
token_at file from to tight k = record { kind = k; start = from.at; end = to.at; place = place_of file from; tight = tight }

-- Tokens file p tight joined text ts: from the position p on, the text has these tokens.
-- A blank or a comment makes the next token loose, an attribute alone does not; a token that follows another one directly, or begins the text, is tight.
pub data Tokens (file : ℕ) : Position → Bool → Bool → List ℕ → List Token → Type 0 where
  finish : {p : Position} {tight joined : Bool} → Tokens file p tight joined [] []
  gap : {p : Position} {tight joined : Bool} {text : List ℕ} {ts : List Token} {n : ℕ}
      → Stands joined text (front.Gap n) → Tokens file (moved p (take n text)) false false (drop n text) ts → Tokens file p tight joined text ts
  attribute : {p : Position} {tight joined : Bool} {text : List ℕ} {ts : List Token} {n : ℕ}
      → Stands joined text (front.Attribute n) → Tokens file (moved p (take n text)) tight false (drop n text) ts → Tokens file p tight joined text ts
  token : {p : Position} {tight joined : Bool} {text : List ℕ} {ts : List Token} {k : TokenKind} {n : ℕ}
      → Stands joined text (front.Token k n) → Tokens file (moved p (take n text)) true (joins k) (drop n text) ts
      → Tokens file p tight joined text (token_at file p (moved p (take n text)) tight k ∷ ts)

-- Refused file p joined text err: behind blanks, comments, attributes and tokens this is the first place where no token stands, or a float.
pub data Refused (file : ℕ) : Position → Bool → List ℕ → LexErr → Type 0 where
  bad : {p : Position} {joined : Bool} {text : List ℕ} → 0 < length text → ((f : Front) → Stands joined text f → ⊥) → Refused file p joined text (errors.BadToken (place_of file p))
  float : {p : Position} {joined : Bool} {text : List ℕ} → Stands joined text front.Float → Refused file p joined text (errors.Float (place_of file p))
  behind_gap : {p : Position} {joined : Bool} {text : List ℕ} {err : LexErr} {n : ℕ}
      → Stands joined text (front.Gap n) → Refused file (moved p (take n text)) false (drop n text) err → Refused file p joined text err
  behind_attribute : {p : Position} {joined : Bool} {text : List ℕ} {err : LexErr} {n : ℕ}
      → Stands joined text (front.Attribute n) → Refused file (moved p (take n text)) false (drop n text) err → Refused file p joined text err
  behind_token : {p : Position} {joined : Bool} {text : List ℕ} {err : LexErr} {k : TokenKind} {n : ℕ}
      → Stands joined text (front.Token k n) → Refused file (moved p (take n text)) (joins k) (drop n text) err → Refused file p joined text err

-- The answer for characters: their tokens, or why they have none, unless memory ran out.
abbrev pub IsRead : (file : ℕ) → List ℕ → Result (List Token) LexErr → Type 0
IsRead file text (Ok ts) = Tokens file text_start true false text ts
IsRead file text (Err errors.Memory) = Unit {0}
IsRead file text (Err (errors.NotUtf8 at)) = ⊥
IsRead file text (Err (errors.BadToken at)) = Refused file text_start false text (errors.BadToken at)
IsRead file text (Err (errors.Float at)) = Refused file text_start false text (errors.Float at)
