-- From the characters of a text to its bytes.
use Rattle.std.proofs.Common.{◌≡◌, ℕ, Bool, true, false, List, [], take, Result, Ok, Err, refl, ap, subst, ◌∙◌}
use Rattle.std.specs.Prelude.{IfOk, IfErr}
use Rattle.std.specs.Str.{IsUtf8, is_utf8, chars, encode_utf8_all}
use Rattle.std.specs.Str.Lossy.{utf8_valid_len}
use Rattle.std.proofs.lemmas.Str.{IsUtf8-from_is_utf8, is_utf8-from_IsUtf8, encodes-chars}
use Rattle.fut_scalar.specs.declared.place.Place.{Place}
use Rattle.fut_token.specs.declared.token.Token.{Token}
use Rattle.fut_lexer.specs.declared.lexer.LexErr.{LexErr}
use Rattle.fut_lexer.specs.declared.lexer.LexErr.TheVariants as errors
use Rattle.fut_lexer.specs.Positions.{text_start, moved, place_of}
use Rattle.fut_lexer.specs.Scanned.{IsRead}
use Rattle.fut_lexer.specs.Lexing.{HasTokens, RefusesText, ExplainsText}
use Rattle.fut_lexer.specs.Spans.{InOrder}
use Rattle.fut_lexer.proofs.Spans.{in_order}

module _ (file : ℕ) (bytes cs : List ℕ) (utf8 : IsUtf8 bytes) (same : cs ≡ chars bytes) where
  pub read_found : (r : Result (List Token) LexErr) → IsRead file cs r → IfOk r (λ tokens. HasTokens file bytes tokens)
  unfolding HasTokens
  read_found (Ok ts) t = (is_utf8-from_IsUtf8 bytes utf8, rw (← same) t)
  read_found (Err e) t = tt

  pub read_refused : (r : Result (List Token) LexErr) → IsRead file cs r → IfErr r (λ err. ExplainsText file bytes err)
  unfolding RefusesText
  read_refused (Ok ts) t = tt
  read_refused (Err errors.Memory) t = tt
  read_refused (Err (errors.NotUtf8 at)) t = absurd t
  read_refused (Err (errors.BadToken at)) t = (is_utf8-from_IsUtf8 bytes utf8, rw (← same) t)
  read_refused (Err (errors.Float at)) t = (is_utf8-from_IsUtf8 bytes utf8, rw (← same) t)

pub read_in_order : (file : ℕ) (bytes cs : List ℕ) → IsUtf8 bytes → cs ≡ chars bytes → (r : Result (List Token) LexErr) → IsRead file cs r → IfOk r (λ tokens. InOrder bytes 0 tokens)
read_in_order file bytes cs utf8 same (Ok ts) t =
    let P : List ℕ → Type 0 = λ us. InOrder us 0 ts in
    subst P (ap encode_utf8_all same ∙ encodes-chars bytes utf8) (in_order file t [] refl)
read_in_order file bytes cs utf8 same (Err e) t = tt

pub bad_bytes : (file : ℕ) (bytes front : List ℕ) (n : ℕ) (at : Place) → (IsUtf8 bytes → ⊥) → n ≡ utf8_valid_len bytes → front ≡ take n bytes → at ≡ place_of file (moved text_start (chars front)) → RefusesText file bytes (errors.NotUtf8 at)
unfolding RefusesText
bad_bytes file bytes front n at bad e g p = (none (is_utf8 bytes) refl, p ∙ ap (λ (us : List ℕ). place_of file (moved text_start (chars us))) (g ∙ ap (λ (m : ℕ). take m bytes) e))
  where
    none : (b : Bool) → is_utf8 bytes ≡ b → is_utf8 bytes ≡ false
    none true h = absurd (bad (IsUtf8-from_is_utf8 bytes h))
    none false h = h
