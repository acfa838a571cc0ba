-- A turn of the lexer's loop is a rule of the tokens.
use Rattle.std.proofs.Common.{◌≡◌, ℕ, ◌+◌, ◌≤◌, ◌<◌, Bool, true, false, List, [], ◌∷◌, ◌++◌, take, drop, length, arith, length-drop, append_assoc}
use Rattle.std.proofs.lemmas.List.{append-nil}
use Rattle.fut_token.specs.declared.token.Token.{Token}
use Rattle.fut_token.specs.declared.token.TokenKind.{TokenKind}
use Rattle.fut_lexer.specs.declared.front.Front.{Front}
use Rattle.fut_lexer.specs.declared.front.Front.TheVariants as front
use Rattle.fut_lexer.specs.declared.position.Position.{Position}
use Rattle.fut_lexer.specs.Private.FrontReading.{front_at}
use Rattle.fut_lexer.specs.Positions.{moved}
use Rattle.fut_lexer.specs.Scanned.{joins, token_at, Tokens, finish, gap, attribute, token}
use Rattle.fut_lexer.proofs.Fronts.{a_gap, an_attribute, a_token}
use Rattle.fut_lexer.proofs.Moves as moves
use Rattle.fut_lexer.proofs.Moves.{Moves, front_moves}

module _ (file : ℕ) (p : Position) (tight joined : Bool) (rest : List ℕ) where
  -- the rest has these tokens, and so the text has them behind the tokens so far
  abbrev pub Goes : (text : List ℕ) (start : Position) (so_far : List Token) → Position → Bool → Bool → List ℕ → Type 0
  Goes text start so_far q t j us = (ts : List Token) → Tokens file q t j us ts → Tokens file start true false text (so_far ++ ts)

  pub goes_gap : (text : List ℕ) (start : Position) (so_far : List Token) (n : ℕ) → Goes text start so_far p tight joined rest → front_at joined rest ≡ front.Gap n → Goes text start so_far (moved p (take n rest)) false false (drop n rest)
  goes_gap text start so_far n h e = λ ts t. h ts (gap (a_gap joined rest n e) t)

  pub goes_attribute : (text : List ℕ) (start : Position) (so_far : List Token) (n : ℕ) → Goes text start so_far p tight joined rest → front_at joined rest ≡ front.Attribute n → Goes text start so_far (moved p (take n rest)) tight false (drop n rest)
  goes_attribute text start so_far n h e = λ ts t. h ts (attribute (an_attribute joined rest n e) t)

  pub goes_token : (text : List ℕ) (start : Position) (so_far : List Token) (k : TokenKind) (n : ℕ) → Goes text start so_far p tight joined rest → front_at joined rest ≡ front.Token k n
      → Goes text start (so_far ++ token_at file p (moved p (take n rest)) tight k ∷ []) (moved p (take n rest)) true (joins k) (drop n rest)
  goes_token text start so_far k n h e = λ ts t. rw (append_assoc so_far (token_at file p (moved p (take n rest)) tight k ∷ []) ts) (h (token_at file p (moved p (take n rest)) tight k ∷ ts) (token (a_token joined rest k n e) t))

-- what is left gets shorter
module _ (joined : Bool) (rest : List ℕ) (i total : ℕ) (lt : 0 < length rest) (le : i + length rest ≤ total) where
  cut : (n : ℕ) → 0 < n → (i + 1) + length (drop n rest) ≤ total
  cut n p = omega (arith, length-drop n rest)

  gap_n : {f : Front} {n : ℕ} → Moves f → f ≡ front.Gap n → 0 < n
  gap_n (moves.gap q) e = let s = gap_is e in omega (arith, s, q)
    where
      gap_is : {a b : ℕ} → front.Gap a ≡ front.Gap b → a ≡ b
      gap_is e = cc
  gap_n (moves.attribute_on q) e = absurd cc
  gap_n (moves.token q) e = absurd cc
  gap_n moves.bad e = absurd cc
  gap_n moves.float e = absurd cc

  attribute_n : {f : Front} {n : ℕ} → Moves f → f ≡ front.Attribute n → 0 < n
  attribute_n (moves.gap q) e = absurd cc
  attribute_n (moves.attribute_on q) e = let s = gap_is e in omega (arith, s, q)
    where
      gap_is : {a b : ℕ} → front.Attribute a ≡ front.Attribute b → a ≡ b
      gap_is e = cc
  attribute_n (moves.token q) e = absurd cc
  attribute_n moves.bad e = absurd cc
  attribute_n moves.float e = absurd cc

  token_n : {f : Front} {k : TokenKind} {n : ℕ} → Moves f → f ≡ front.Token k n → 0 < n
  token_n (moves.gap q) e = absurd cc
  token_n (moves.attribute_on q) e = absurd cc
  token_n (moves.token q) e = let s = token_is e in omega (arith, s, q)
    where
      token_is : {k l : TokenKind} {a b : ℕ} → front.Token k a ≡ front.Token l b → a ≡ b
      token_is e = cc
  token_n moves.bad e = absurd cc
  token_n moves.float e = absurd cc

  pub cut_gap : (n : ℕ) → front_at joined rest ≡ front.Gap n → (i + 1) + length (drop n rest) ≤ total
  cut_gap n e = cut n (gap_n (front_moves joined rest) e)

  pub cut_attribute : (n : ℕ) → front_at joined rest ≡ front.Attribute n → (i + 1) + length (drop n rest) ≤ total
  cut_attribute n e = cut n (attribute_n (front_moves joined rest) e)

  pub cut_token : (k : TokenKind) (n : ℕ) → front_at joined rest ≡ front.Token k n → (i + 1) + length (drop n rest) ≤ total
  cut_token k n e = cut n (token_n (front_moves joined rest) e)

-- where nothing is left
pub ended : (file : ℕ) (start p : Position) (tight joined : Bool) (text rest : List ℕ) (so_far : List Token) → length rest ≡ 0
    → ((ts : List Token) → Tokens file p tight joined rest ts → Tokens file start true false text (so_far ++ ts)) → Tokens file start true false text so_far
ended file start p tight joined text [] so_far z h = rw (← append-nil so_far) (h [] finish)
ended file start p tight joined text (c ∷ cs) so_far z h = absurd (omega arith)
