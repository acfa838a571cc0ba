-- A text has one list of tokens, or one refusal.
use Rattle.std.proofs.Common.{◌≡◌, ℕ, Bool, true, false, List, ◌∷◌, take, drop, refl, sym, ap, subst, ◌∙◌, arith}
use Rattle.fut_scalar.specs.declared.place.Place.{Place}
use Rattle.fut_token.specs.declared.token.Token.{Token}
use Rattle.fut_token.specs.declared.token.TokenKind.{TokenKind}
use Rattle.fut_lexer.specs.declared.lexer.LexErr.{LexErr}
use Rattle.fut_lexer.specs.declared.lexer.LexErr.TheVariants as errors
use Rattle.fut_lexer.specs.declared.front.Front.TheVariants as front
use Rattle.fut_lexer.specs.declared.position.Position.{Position}
use Rattle.fut_lexer.proofs.Fronts.{same_front, none_at_end}
use Rattle.fut_lexer.proofs.Existence.{some_reading}
use Rattle.fut_lexer.specs.Positions.{moved}
use Rattle.fut_lexer.specs.Scanned.{joins, token_at, Tokens, finish, gap, attribute, token, Refused, bad, float, behind_gap, behind_attribute, behind_token}
use Rattle.fut_lexer.specs.Lexing.{HasTokens, RefusesText, OneReading}

module _ (file : ℕ) where
  gap_is : {n m : ℕ} → front.Gap n ≡ front.Gap m → n ≡ m
  gap_is e = cc

  attribute_is : {n m : ℕ} → front.Attribute n ≡ front.Attribute m → n ≡ m
  attribute_is e = cc

  kind_is : {k l : TokenKind} {n m : ℕ} → front.Token k n ≡ front.Token l m → k ≡ l
  kind_is e = cc

  token_is : {k l : TokenKind} {n m : ℕ} → front.Token k n ≡ front.Token l m → n ≡ m
  token_is e = cc

  one_list : {p : Position} {tight joined : Bool} {text : List ℕ} {a b : List Token} → Tokens file p tight joined text a → Tokens file p tight joined text b → a ≡ b
  one_list finish finish = refl
  one_list finish (gap e s) = absurd (none_at_end e)
  one_list finish (attribute e s) = absurd (none_at_end e)
  one_list finish (token e s) = absurd (none_at_end e)
  one_list (gap e r) finish = absurd (none_at_end e)
  one_list (gap {p = p} {text = text} {ts} e r) (gap {ts = us} g s) =
      let P : ℕ → Type 0 = λ i. Tokens file (moved p (take i text)) false false (drop i text) us in
      one_list r (subst P (gap_is (same_front g e)) s)
  one_list (gap e r) (attribute g s) = let h = same_front e g in absurd cc
  one_list (gap e r) (token g s) = let h = same_front e g in absurd cc
  one_list (attribute e r) finish = absurd (none_at_end e)
  one_list (attribute e r) (gap g s) = let h = same_front e g in absurd cc
  one_list (attribute {p = p} {tight} {text = text} {ts} e r) (attribute {ts = us} g s) =
      let P : ℕ → Type 0 = λ i. Tokens file (moved p (take i text)) tight false (drop i text) us in
      one_list r (subst P (attribute_is (same_front g e)) s)
  one_list (attribute e r) (token g s) = let h = same_front e g in absurd cc
  one_list (token e r) finish = absurd (none_at_end e)
  one_list (token e r) (gap g s) = let h = same_front e g in absurd cc
  one_list (token e r) (attribute g s) = let h = same_front e g in absurd cc
  one_list (token {p = p} {tight} {text = text} {ts} {k} {n} e r) (token {ts = us} {k = l} {n = m} g s) =
      let P : ℕ → Type 0 = λ i. Tokens file (moved p (take i text)) true (joins l) (drop i text) us in
      let Q : TokenKind → Type 0 = λ j. Tokens file (moved p (take n text)) true (joins j) (drop n text) us in
      let same : ts ≡ us = one_list r (subst Q (kind_is (same_front g e)) (subst P (token_is (same_front g e)) s)) in
      ap (λ (vs : List Token). token_at file p (moved p (take n text)) tight k ∷ vs) same
      ∙ ap (λ (j : TokenKind). token_at file p (moved p (take n text)) tight j ∷ us) (kind_is (same_front e g))
      ∙ ap (λ (i : ℕ). token_at file p (moved p (take i text)) tight l ∷ us) (token_is (same_front e g))

  one_refusal : {p : Position} {joined : Bool} {text : List ℕ} {a b : LexErr} → Refused file p joined text a → Refused file p joined text b → a ≡ b
  one_refusal (bad lt e) (bad lu g) = refl
  one_refusal (bad lt e) (float g) = absurd (e _ g)
  one_refusal (bad lt e) (behind_gap g s) = absurd (e _ g)
  one_refusal (bad lt e) (behind_attribute g s) = absurd (e _ g)
  one_refusal (bad lt e) (behind_token g s) = absurd (e _ g)
  one_refusal (float e) (bad lu g) = absurd (g _ e)
  one_refusal (float e) (float g) = refl
  one_refusal (float e) (behind_gap g s) = let h = same_front e g in absurd cc
  one_refusal (float e) (behind_attribute g s) = let h = same_front e g in absurd cc
  one_refusal (float e) (behind_token g s) = let h = same_front e g in absurd cc
  one_refusal (behind_gap e r) (bad lu g) = absurd (g _ e)
  one_refusal (behind_gap e r) (float g) = let h = same_front e g in absurd cc
  one_refusal (behind_gap {p = p} {text = text} e r) (behind_gap {err = b} g s) =
      let P : ℕ → Type 0 = λ i. Refused file (moved p (take i text)) false (drop i text) b in
      one_refusal r (subst P (gap_is (same_front g e)) s)
  one_refusal (behind_gap e r) (behind_attribute g s) = let h = same_front e g in absurd cc
  one_refusal (behind_gap e r) (behind_token g s) = let h = same_front e g in absurd cc
  one_refusal (behind_attribute e r) (bad lu g) = absurd (g _ e)
  one_refusal (behind_attribute e r) (float g) = let h = same_front e g in absurd cc
  one_refusal (behind_attribute e r) (behind_gap g s) = let h = same_front e g in absurd cc
  one_refusal (behind_attribute {p = p} {text = text} e r) (behind_attribute {err = b} g s) =
      let P : ℕ → Type 0 = λ i. Refused file (moved p (take i text)) false (drop i text) b in
      one_refusal r (subst P (attribute_is (same_front g e)) s)
  one_refusal (behind_attribute e r) (behind_token g s) = let h = same_front e g in absurd cc
  one_refusal (behind_token e r) (bad lu g) = absurd (g _ e)
  one_refusal (behind_token e r) (float g) = let h = same_front e g in absurd cc
  one_refusal (behind_token e r) (behind_gap g s) = let h = same_front e g in absurd cc
  one_refusal (behind_token e r) (behind_attribute g s) = let h = same_front e g in absurd cc
  one_refusal (behind_token {p = p} {text = text} {k = k} {n} e r) (behind_token {err = b} {k = l} {n = m} g s) =
      let P : ℕ → Type 0 = λ i. Refused file (moved p (take i text)) (joins l) (drop i text) b in
      let Q : TokenKind → Type 0 = λ j. Refused file (moved p (take n text)) (joins j) (drop n text) b in
      one_refusal r (subst Q (kind_is (same_front g e)) (subst P (token_is (same_front g e)) s))

  not_both : {p : Position} {tight joined : Bool} {text : List ℕ} {a : List Token} {b : LexErr} → Tokens file p tight joined text a → Refused file p joined text b → ⊥
  not_both finish (bad lu g) = absurd (omega arith)
  not_both finish (float g) = absurd (none_at_end g)
  not_both finish (behind_gap g s) = absurd (none_at_end g)
  not_both finish (behind_attribute g s) = absurd (none_at_end g)
  not_both finish (behind_token g s) = absurd (none_at_end g)
  not_both (gap e r) (bad lu g) = absurd (g _ e)
  not_both (gap e r) (float g) = let h = same_front e g in absurd cc
  not_both (gap {p = p} {text = text} e r) (behind_gap {err = b} g s) =
      let P : ℕ → Type 0 = λ i. Refused file (moved p (take i text)) false (drop i text) b in
      not_both r (subst P (gap_is (same_front g e)) s)
  not_both (gap e r) (behind_attribute g s) = let h = same_front e g in absurd cc
  not_both (gap e r) (behind_token g s) = let h = same_front e g in absurd cc
  not_both (attribute e r) (bad lu g) = absurd (g _ e)
  not_both (attribute e r) (float g) = let h = same_front e g in absurd cc
  not_both (attribute e r) (behind_gap g s) = let h = same_front e g in absurd cc
  not_both (attribute {p = p} {text = text} e r) (behind_attribute {err = b} g s) =
      let P : ℕ → Type 0 = λ i. Refused file (moved p (take i text)) false (drop i text) b in
      not_both r (subst P (attribute_is (same_front g e)) s)
  not_both (attribute e r) (behind_token g s) = let h = same_front e g in absurd cc
  not_both (token e r) (bad lu g) = absurd (g _ e)
  not_both (token e r) (float g) = let h = same_front e g in absurd cc
  not_both (token e r) (behind_gap g s) = let h = same_front e g in absurd cc
  not_both (token e r) (behind_attribute g s) = let h = same_front e g in absurd cc
  not_both (token {p = p} {text = text} {k = k} {n} e r) (behind_token {err = b} {k = l} {n = m} g s) =
      let P : ℕ → Type 0 = λ i. Refused file (moved p (take i text)) (joins l) (drop i text) b in
      let Q : TokenKind → Type 0 = λ j. Refused file (moved p (take n text)) (joins j) (drop n text) b in
      not_both r (subst Q (kind_is (same_front g e)) (subst P (token_is (same_front g e)) s))

-- ---- the same of whole texts

true_false : {b : Bool} → b ≡ true → b ≡ false → ⊥
true_false e g = cc

whole_refusal : (file : ℕ) (text : List ℕ) (a b : LexErr) → RefusesText file text a → RefusesText file text b → a ≡ b
unfolding RefusesText
whole_refusal file text (errors.NotUtf8 p) (errors.NotUtf8 q) r s = ap (λ (x : Place). errors.NotUtf8 x) (r.1 ∙ sym s.1)
whole_refusal file text (errors.NotUtf8 p) (errors.BadToken q) r s = absurd (true_false s.0 r.0)
whole_refusal file text (errors.NotUtf8 p) (errors.Float q) r s = absurd (true_false s.0 r.0)
whole_refusal file text (errors.NotUtf8 p) errors.Memory r s = absurd (true_false s.0 r.0)
whole_refusal file text (errors.BadToken p) (errors.NotUtf8 q) r s = absurd (true_false r.0 s.0)
whole_refusal file text (errors.BadToken p) (errors.BadToken q) r s = one_refusal file r.1 s.1
whole_refusal file text (errors.BadToken p) (errors.Float q) r s = one_refusal file r.1 s.1
whole_refusal file text (errors.BadToken p) errors.Memory r s = one_refusal file r.1 s.1
whole_refusal file text (errors.Float p) (errors.NotUtf8 q) r s = absurd (true_false r.0 s.0)
whole_refusal file text (errors.Float p) (errors.BadToken q) r s = one_refusal file r.1 s.1
whole_refusal file text (errors.Float p) (errors.Float q) r s = one_refusal file r.1 s.1
whole_refusal file text (errors.Float p) errors.Memory r s = one_refusal file r.1 s.1
whole_refusal file text errors.Memory (errors.NotUtf8 q) r s = absurd (true_false r.0 s.0)
whole_refusal file text errors.Memory (errors.BadToken q) r s = one_refusal file r.1 s.1
whole_refusal file text errors.Memory (errors.Float q) r s = one_refusal file r.1 s.1
whole_refusal file text errors.Memory errors.Memory r s = refl

never_both : (file : ℕ) (text : List ℕ) (ts : List Token) (b : LexErr) → HasTokens file text ts → RefusesText file text b → ⊥
unfolding HasTokens RefusesText
never_both file text ts (errors.NotUtf8 q) r s = true_false r.0 s.0
never_both file text ts (errors.BadToken q) r s = not_both file r.1 s.1
never_both file text ts (errors.Float q) r s = not_both file r.1 s.1
never_both file text ts errors.Memory r s = not_both file r.1 s.1

pub one_reading : OneReading
unfolding HasTokens
one_reading = record { some = some_reading; one_list = λ file text a b r s. one_list file r.1 s.1; one_refusal = whole_refusal; not_both = never_both }
