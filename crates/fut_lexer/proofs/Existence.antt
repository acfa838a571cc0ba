-- A text has a list of tokens, or a refusal.
use Rattle.std.proofs.Common.{◌≡◌, ℕ, zero, suc, ◌≤◌, ◌<◌, ◌+◌, Bool, true, false, List, [], ◌∷◌, length, take, drop, refl, arith, ◌⊎◌, inl, inr}
use Rattle.std.specs.Str.{is_utf8, chars}
use Rattle.fut_scalar.specs.declared.place.Place.{Place}
use Rattle.fut_token.specs.declared.token.Token.{Token}
use Rattle.fut_lexer.specs.declared.lexer.LexErr.{LexErr}
use Rattle.fut_lexer.specs.declared.lexer.LexErr.TheVariants as errors
use Rattle.fut_lexer.specs.declared.front.Front.{Front}
use Rattle.fut_lexer.specs.declared.front.Front.TheVariants as front
use Rattle.fut_lexer.specs.declared.position.Position.{Position}
use Rattle.fut_lexer.specs.Positions.{moved, place_of, text_start}
use Rattle.fut_lexer.specs.Private.FrontReading.{front_at}
use Rattle.fut_lexer.specs.Scanned.{joins, Tokens, finish, gap, attribute, token, Refused, bad, float, behind_gap, behind_attribute, behind_token}
use Rattle.fut_lexer.specs.Lexing.{HasTokens, RefusesText}
use Rattle.fut_lexer.proofs.Fronts.{a_gap, an_attribute, a_token, a_float, no_rule}
use Rattle.fut_lexer.proofs.LexerTurns.{cut_gap, cut_attribute, cut_token}

module _ (file : ℕ) where
  -- from the position on the text has tokens, or it is refused at a place
  abbrev Read : Position → Bool → Bool → List ℕ → Type 0
  Read p tight joined text =
      ((ts : List Token) × Tokens file p tight joined text ts)
      ⊎ (((at_ : Place) × Refused file p joined text (errors.BadToken at_)) ⊎ ((at_ : Place) × Refused file p joined text (errors.Float at_)))

  past_gap : (p : Position) (tight joined : Bool) (text : List ℕ) (n : ℕ) → front_at joined text ≡ front.Gap n → Read (moved p (take n text)) false false (drop n text) → Read p tight joined text
  past_gap p tight joined text n e (inl r) = inl (r.0, gap (a_gap joined text n e) r.1)
  past_gap p tight joined text n e (inr (inl r)) = inr (inl (r.0, behind_gap (a_gap joined text n e) r.1))
  past_gap p tight joined text n e (inr (inr r)) = inr (inr (r.0, behind_gap (a_gap joined text n e) r.1))

  past_attribute : (p : Position) (tight joined : Bool) (text : List ℕ) (n : ℕ) → front_at joined text ≡ front.Attribute n → Read (moved p (take n text)) tight false (drop n text) → Read p tight joined text
  past_attribute p tight joined text n e (inl r) = inl (r.0, attribute (an_attribute joined text n e) r.1)
  past_attribute p tight joined text n e (inr (inl r)) = inr (inl (r.0, behind_attribute (an_attribute joined text n e) r.1))
  past_attribute p tight joined text n e (inr (inr r)) = inr (inr (r.0, behind_attribute (an_attribute joined text n e) r.1))

  past_token : (p : Position) (tight joined : Bool) (text : List ℕ) (k : _) (n : ℕ) → front_at joined text ≡ front.Token k n → Read (moved p (take n text)) true (joins k) (drop n text) → Read p tight joined text
  past_token p tight joined text k n e (inl r) = inl (_, token (a_token joined text k n e) r.1)
  past_token p tight joined text k n e (inr (inl r)) = inr (inl (r.0, behind_token (a_token joined text k n e) r.1))
  past_token p tight joined text k n e (inr (inr r)) = inr (inr (r.0, behind_token (a_token joined text k n e) r.1))

  -- what is read at the front, and then the rest, which is shorter
  turn : (most : ℕ) → ((p : Position) (tight joined : Bool) (text : List ℕ) → length text ≤ most → Read p tight joined text) →
      (p : Position) (tight joined : Bool) (text : List ℕ) → 0 < length text → length text ≤ most + 1 → (f : Front) → front_at joined text ≡ f → Read p tight joined text
  turn most rest p tight joined text some le (front.Gap n) e =
      let shorter = cut_gap joined text 0 (most + 1) some (omega arith) n e in
      past_gap p tight joined text n e (rest _ false false (drop n text) (omega arith))
  turn most rest p tight joined text some le (front.Attribute n) e =
      let shorter = cut_attribute joined text 0 (most + 1) some (omega arith) n e in
      past_attribute p tight joined text n e (rest _ tight false (drop n text) (omega arith))
  turn most rest p tight joined text some le (front.Token k n) e =
      let shorter = cut_token joined text 0 (most + 1) some (omega arith) k n e in
      past_token p tight joined text k n e (rest _ true (joins k) (drop n text) (omega arith))
  turn most rest p tight joined text some le front.Bad e = inr (inl (place_of file p, bad some (no_rule joined text e)))
  turn most rest p tight joined text some le front.Float e = inr (inr (place_of file p, float (a_float joined text e)))

  -- a text of at most so many characters
  read : (most : ℕ) (p : Position) (tight joined : Bool) (text : List ℕ) → length text ≤ most → Read p tight joined text
  read most p tight joined [] le = inl ([], finish)
  read zero p tight joined (c ∷ cs) le = absurd (omega arith)
  read (suc most) p tight joined (c ∷ cs) le = turn most (read most) p tight joined (c ∷ cs) (omega arith) (omega arith) (front_at joined (c ∷ cs)) refl

  whole : (text : List ℕ) → is_utf8 text ≡ true → Read text_start true false (chars text) → ((ts : List Token) × HasTokens file text ts) ⊎ ((err : LexErr) × RefusesText file text err)
  unfolding HasTokens RefusesText
  whole text good (inl r) = inl (r.0, (good, r.1))
  whole text good (inr (inl r)) = inr (errors.BadToken r.0, (good, r.1))
  whole text good (inr (inr r)) = inr (errors.Float r.0, (good, r.1))

  pub some_reading : (text : List ℕ) → ((ts : List Token) × HasTokens file text ts) ⊎ ((err : LexErr) × RefusesText file text err)
  unfolding HasTokens RefusesText
  some_reading text = go (is_utf8 text) refl
    where
      go : (b : Bool) → is_utf8 text ≡ b → ((ts : List Token) × HasTokens file text ts) ⊎ ((err : LexErr) × RefusesText file text err)
      go true good = whole text good (read (length (chars text)) text_start true false (chars text) (omega arith))
      go false bad_text = inr (errors.NotUtf8 _, (bad_text, refl))
