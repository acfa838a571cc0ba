-- A row of lets, one let after the other.
use Rattle.std.proofs.Common.{◌≡◌, ℕ, suc, ◌+◌, ◌-◌, ◌<◌, max, Bool, true, false, List, [], ◌∷◌, ◌++◌, Result, Ok, Err, if◌then◌else◌, refl, sym, ap, ◌∙◌, append_assoc, arith}
use Rattle.fut_token.specs.declared.token.Fixed.TheVariants as fixed
use Rattle.fut_token.specs.declared.token.Token.{Token}
use Rattle.fut_ast.specs.Sorts.{Sort, Tree, Let_item}
use Rattle.fut_ast.specs.Tokens.{starts}
use Rattle.fut_grammar.specs.declared.fault.Fault.{Fault}
use Rattle.fut_grammar.specs.declared.fault.Stop.{Stop}
use Rattle.fut_grammar.specs.Phrases.{row_of_lets}
use Rattle.fut_grammar.specs.Reading.{◌>>=◌, Fails, Read, expect}
use Rattle.fut_grammar.proofs.Loops.{with_front}
use Rattle.parse_types.proofs.ReadLaws.{fails_as}
use Rattle.parse_atoms.specs.Parts.{behind_let, let_of_row}

-- by the outcome of a test, and of reading
by_test : {C : Type 0} (b : Bool) → (b ≡ true → C) → (b ≡ false → C) → C
by_test true holds fails = holds refl
by_test false holds fails = fails refl

by_read : {A C : Type 0} (r : Result A Fault) → ((y : A) → r ≡ Ok y → C) → ((f : Fault) → r ≡ Err f → C) → C
by_read (Ok y) reads fails = reads y refl
by_read (Err f) reads fails = fails f refl

regroup : {A : Type 0} (xs : List A) (x : A) (r : Read (List A)) → with_front xs (r >>= λ ys. Ok (x ∷ ys.0, ys.1, ys.2)) ≡ with_front (xs ++ x ∷ []) r
regroup xs x (Ok y) = let e : xs ++ (x ∷ y.0) ≡ (xs ++ x ∷ []) ++ y.0 = sym (append_assoc xs (x ∷ []) y.0) in rw e refl
regroup xs x (Err f) = refl

module _ (read : (n : Sort) → List Token → Read (Tree n)) (limit : ℕ) where
  -- a let and those behind it
  abbrev from_let : ℕ → ℕ → (Tree Let_item × Bool) × ℕ × List Token → Read (List (Tree Let_item))
  from_let k g b = if b.0.1 then Ok (b.0.0 ∷ [], max g b.1, b.2) else (row_of_lets read limit k (max g b.1) b.2 >>= λ bs. Ok (b.0.0 ∷ bs.0, bs.1, bs.2))

  row_is : (k g : ℕ) (ts : List Token) → row_of_lets read limit (suc k) g ts ≡ (let_of_row read ts >>= from_let k g)
  unfolding row_of_lets let_of_row behind_let
  row_is k g ts =
      by_read (read Let_item ts)
      (λ b got. by_test (starts fixed.KeyLet b.2) (λ more. rw (got, more) refl) (λ none. by_read (expect fixed.KeyIn b.2) (λ us taken. by_test (starts fixed.KeyLet us) (λ more. rw (got, none, taken, more) refl) (λ last. rw (got, none, taken, last) refl)) (λ f missing. rw (got, none, missing) refl)))
      (λ f failed. rw failed refl)

  module _ (xs : List (Tree Let_item)) (g k i : ℕ) (ts : List Token) (total : Read (List (Tree Let_item))) (so_far : with_front xs (row_of_lets read limit (k - i) g ts) ≡ total) where
    pub row_goes_on : (x : Tree Let_item) (h : ℕ) (us : List Token) → i < k → let_of_row read ts ≡ Ok ((x, false), h, us) → with_front (xs ++ x ∷ []) (row_of_lets read limit (k - (i + 1)) (max g h) us) ≡ total
    row_goes_on x h us lt s =
        let j : k - i ≡ suc (k - (i + 1)) = omega arith in
        let one : with_front xs (row_of_lets read limit (suc (k - (i + 1))) g ts) ≡ with_front (xs ++ x ∷ []) (row_of_lets read limit (k - (i + 1)) (max g h) us) = rw (row_is (k - (i + 1)) g ts, s) (regroup xs x (row_of_lets read limit (k - (i + 1)) (max g h) us)) in
        sym one ∙ ap (λ (m : ℕ). with_front xs (row_of_lets read limit m g ts)) (sym j) ∙ so_far

    pub row_ends : (x : Tree Let_item) (h : ℕ) (us : List Token) → i < k → let_of_row read ts ≡ Ok ((x, true), h, us) → total ≡ Ok (xs ++ x ∷ [], max g h, us)
    row_ends x h us lt s =
        let j : k - i ≡ suc (k - (i + 1)) = omega arith in
        let one : with_front xs (row_of_lets read limit (suc (k - (i + 1))) g ts) ≡ Ok (xs ++ x ∷ [], max g h, us) = rw (row_is (k - (i + 1)) g ts, s) refl in
        sym so_far ∙ ap (λ (m : ℕ). with_front xs (row_of_lets read limit m g ts)) j ∙ one

    pub row_fails : (e : Stop) → i < k → Fails e (let_of_row read ts) → Fails e total
    row_fails e lt s =
        fails_as e s (λ f r.
        let j : k - i ≡ suc (k - (i + 1)) = omega arith in
        let one : with_front xs (row_of_lets read limit (suc (k - (i + 1))) g ts) ≡ Err f = rw (row_is (k - (i + 1)) g ts, r) refl in
        sym so_far ∙ ap (λ (m : ℕ). with_front xs (row_of_lets read limit m g ts)) j ∙ one)
