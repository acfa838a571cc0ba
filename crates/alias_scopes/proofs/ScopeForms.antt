-- Scopes, by the digits of a number.
use Rattle.std.proofs.Common.{◌≡◌, ◌≢◌, ℕ, zero, suc, ◌+◌, ◌*◌, ◌/◌, ◌%◌, ◌-◌, ◌<◌, ◌≤◌, Bool, true, false, cond, Option, Some, None, refl, sym, ap, ◌∙◌, arith}
use Rattle.std.specs.Prelude.{nat_eq}
use Rattle.std.specs.Borrow.{Bor}
use Rattle.std.proofs.lemmas.Bool.{eq-eqb, eqb-true, eqb-false}
use Rattle.fut_aliases.specs.Patterns.{Scope, nothing, with_value}
use Rattle.fut_aliases.specs.Values.{Value}
use Rattle.alias_values.specs.declared.trees.ValueTree.{ValueTree}
use Rattle.alias_values.specs.Trees.{value_of}
use Rattle.alias_scopes.specs.declared.trees.ScopeTree.{ScopeTree, fold-roll-ScopeTree}
use Rattle.alias_scopes.specs.declared.trees.ScopeTree.TheOpen as layer
use Rattle.alias_scopes.specs.declared.trees.ScopeTree.TheVariants as tree
use Rattle.alias_scopes.specs.Scopes.{held, forked, scope_form, scope_of}

not_same : (a b : ℕ) → a ≢ b → nat_eq a b ≡ false
not_same a b h = by_test (nat_eq a b) refl
  where
    by_test : (t : Bool) → nat_eq a b ≡ t → nat_eq a b ≡ false
    by_test true e = absurd (h (eqb-true a b e))
    by_test false e = e

-- ---- a number is 0, odd or even

data Digit (n : ℕ) : Type 0 where
  is_zero : n ≡ 0 → Digit n
  is_odd : (k : ℕ) → n ≡ 2 * k + 1 → Digit n
  is_even : (k : ℕ) → n ≡ 2 * k + 2 → Digit n

digit : (n : ℕ) → Digit n
digit zero = is_zero refl
digit (suc n) = after (digit n)
  where
    after : Digit n → Digit (suc n)
    after (is_zero e) = is_odd 0 (omega (arith, e))
    after (is_odd k e) = is_even k (omega (arith, e))
    after (is_even k e) = is_odd (k + 1) (omega (arith, e))

module _ (own : Option Value) (odd even : Scope) (n : ℕ) where
  at_zero : n ≡ 0 → forked own odd even n ≡ own
  at_zero e = ap (λ z. cond z own (cond (nat_eq (n % 2) 1) (odd (n / 2)) (even (n / 2 - 1)))) (eq-eqb n 0 e)

  past_zero : n ≢ 0 → forked own odd even n ≡ cond (nat_eq (n % 2) 1) (odd (n / 2)) (even (n / 2 - 1))
  past_zero e = ap (λ z. cond z own (cond (nat_eq (n % 2) 1) (odd (n / 2)) (even (n / 2 - 1)))) (not_same n 0 e)

  at_odd_half : n ≢ 0 → n % 2 ≡ 1 → forked own odd even n ≡ odd (n / 2)
  at_odd_half z e = past_zero z ∙ ap (λ t. cond t (odd (n / 2)) (even (n / 2 - 1))) (eq-eqb (n % 2) 1 e)

  at_even_half : n ≢ 0 → n % 2 ≢ 1 → forked own odd even n ≡ even (n / 2 - 1)
  at_even_half z e = past_zero z ∙ ap (λ t. cond t (odd (n / 2)) (even (n / 2 - 1))) (not_same (n % 2) 1 e)

  at_odd : (k : ℕ) → n ≡ 2 * k + 1 → forked own odd even n ≡ odd k
  at_odd k e = let h : n / 2 ≡ k = omega (arith, e) in at_odd_half (λ z. absurd (omega (arith, e, z))) (omega (arith, e)) ∙ ap odd h

  at_even : (k : ℕ) → n ≡ 2 * k + 2 → forked own odd even n ≡ even k
  at_even k e = let h : n / 2 - 1 ≡ k = omega (arith, e) in at_even_half (λ z. absurd (omega (arith, e, z))) (λ z. absurd (omega (arith, e, z))) ∙ ap even h

-- ---- trees

pub empty_scope : scope_of tree.Empty ≡ nothing
unfolding scope_of scope_form
empty_scope = ap scope_of (sym tree.rolls-Empty) ∙ fold-roll-ScopeTree Scope scope_form layer.Empty

pub forks : (own : Option (Bor ValueTree)) (odd even : Bor ScopeTree) → scope_of (tree.Fork own odd even) ≡ forked (held own) (scope_of odd.now) (scope_of even.now)
unfolding scope_of scope_form
forks own odd even = ap scope_of (sym (tree.rolls-Fork own odd even)) ∙ fold-roll-ScopeTree Scope scope_form (layer.Fork own odd even)

pub find_none : (n : ℕ) → scope_of tree.Empty n ≡ None
find_none n = ap (λ f. f n) empty_scope

module _ (own : Option (Bor ValueTree)) (odd even : Bor ScopeTree) (n : ℕ) where
  fork_at : scope_of (tree.Fork own odd even) n ≡ forked (held own) (scope_of odd.now) (scope_of even.now) n
  fork_at = ap (λ f. f n) (forks own odd even)

  pub find_zero : n ≡ 0 → scope_of (tree.Fork own odd even) n ≡ held own
  find_zero e = fork_at ∙ at_zero (held own) (scope_of odd.now) (scope_of even.now) n e

  pub find_odd : n ≢ 0 → n % 2 ≡ 1 → scope_of (tree.Fork own odd even) n ≡ scope_of odd.now (n / 2)
  find_odd z e = fork_at ∙ at_odd_half (held own) (scope_of odd.now) (scope_of even.now) n z e

  pub find_even : n ≢ 0 → n % 2 ≢ 1 → scope_of (tree.Fork own odd even) n ≡ scope_of even.now (n / 2 - 1)
  find_even z e = fork_at ∙ at_even_half (held own) (scope_of odd.now) (scope_of even.now) n z e

pub ruleset find_forms = (find_none, find_zero, find_odd, find_even)

module _ (own : Option (Bor ValueTree)) (odd even : Bor ScopeTree) (n : ℕ) where
  pub odd_fork : scope_of odd.now n ≡ scope_of (tree.Fork own odd even) (2 * n + 1)
  odd_fork = sym (fork_at own odd even (2 * n + 1) ∙ at_odd (held own) (scope_of odd.now) (scope_of even.now) (2 * n + 1) n refl)

  pub even_fork : scope_of even.now n ≡ scope_of (tree.Fork own odd even) (2 * n + 2)
  even_fork = sym (fork_at own odd even (2 * n + 2) ∙ at_even (held own) (scope_of odd.now) (scope_of even.now) (2 * n + 2) n refl)

pub odd_none : (n : ℕ) → scope_of tree.Empty n ≡ scope_of tree.Empty (2 * n + 1)
odd_none n = find_none n ∙ sym (find_none (2 * n + 1))

pub even_none : (n : ℕ) → scope_of tree.Empty n ≡ scope_of tree.Empty (2 * n + 2)
even_none n = find_none n ∙ sym (find_none (2 * n + 2))

pub ruleset odd_forms = (odd_fork, odd_none)

pub ruleset even_forms = (even_fork, even_none)

-- ---- another value at a number

module _ (all odd even : Scope) (x : Value) (number : ℕ) (o : (n : ℕ) → odd n ≡ all (2 * n + 1)) (e : (n : ℕ) → even n ≡ all (2 * n + 2)) where
  same_there : (n : ℕ) → n ≢ number → all n ≡ with_value number x all n
  same_there n h = ap (λ t. cond t (Some x) (all n)) (sym (not_same n number h))

  put_here : (n : ℕ) → n ≡ number → Some x ≡ with_value number x all n
  put_here n h = ap (λ t. cond t (Some x) (all n)) (sym (eq-eqb n number h))

  -- in a part where m stands for the number, and k for n
  moved : (m n k : ℕ) → (n ≡ number → k ≡ m) → (k ≡ m → n ≡ number) → cond (nat_eq k m) (Some x) (all n) ≡ with_value number x all n
  moved m n k to from = by_test (nat_eq k m) refl
    where
      by_test : (t : Bool) → nat_eq k m ≡ t → cond (nat_eq k m) (Some x) (all n) ≡ with_value number x all n
      by_test true h = ap (λ t. cond t (Some x) (all n)) h ∙ put_here n (from (eqb-true k m h))
      by_test false h = ap (λ t. cond t (Some x) (all n)) h ∙ same_there n (λ g. eqb-false k m h (to g))

  pub put_zero : (made : Scope) → number ≡ 0 → made ≡ forked (Some x) odd even → (n : ℕ) → made n ≡ with_value number x all n
  put_zero made z m n = ap (λ f. f n) m ∙ by_digit (digit n)
    where
      by_digit : Digit n → forked (Some x) odd even n ≡ with_value number x all n
      by_digit (is_zero h) = at_zero (Some x) odd even n h ∙ put_here n (omega (arith, h, z))
      by_digit (is_odd k h) = at_odd (Some x) odd even n k h ∙ o k ∙ ap all (sym h) ∙ same_there n (λ g. absurd (omega (arith, h, z, g)))
      by_digit (is_even k h) = at_even (Some x) odd even n k h ∙ e k ∙ ap all (sym h) ∙ same_there n (λ g. absurd (omega (arith, h, z, g)))

  module _ (made part : Scope) (own : Option Value) (w : own ≡ all 0) (p : number ≢ 0) where
    pub put_odd : number % 2 ≡ 1 → ((n : ℕ) → part n ≡ with_value (number / 2) x odd n) → made ≡ forked own part even → (n : ℕ) → made n ≡ with_value number x all n
    put_odd d q m n = ap (λ f. f n) m ∙ by_digit (digit n)
      where
        by_digit : Digit n → forked own part even n ≡ with_value number x all n
        by_digit (is_zero h) = at_zero own part even n h ∙ w ∙ ap all (sym h) ∙ same_there n (λ g. absurd (p (sym g ∙ h)))
        by_digit (is_odd k h) = at_odd own part even n k h ∙ q k ∙ ap (λ t. cond (nat_eq k (number / 2)) (Some x) t) (o k ∙ ap all (sym h)) ∙ moved (number / 2) n k (λ g. omega (arith, h, d, g)) (λ g. omega (arith, h, d, g))
        by_digit (is_even k h) = at_even own part even n k h ∙ e k ∙ ap all (sym h) ∙ same_there n (λ g. absurd (omega (arith, h, d, g)))

    pub put_even : number % 2 ≢ 1 → ((n : ℕ) → part n ≡ with_value (number / 2 - 1) x even n) → made ≡ forked own odd part → (n : ℕ) → made n ≡ with_value number x all n
    put_even d q m n = ap (λ f. f n) m ∙ by_digit (digit n)
      where
        by_digit : Digit n → forked own odd part n ≡ with_value number x all n
        by_digit (is_zero h) = at_zero own odd part n h ∙ w ∙ ap all (sym h) ∙ same_there n (λ g. absurd (p (sym g ∙ h)))
        by_digit (is_odd k h) = at_odd own odd part n k h ∙ o k ∙ ap all (sym h) ∙ same_there n (λ g. absurd (omega (arith, h, d, g)))
        by_digit (is_even k h) = at_even own odd part n k h ∙ q k ∙ ap (λ t. cond (nat_eq k (number / 2 - 1)) (Some x) t) (e k ∙ ap all (sym h)) ∙ moved (number / 2 - 1) n k (λ g. omega (arith, h, d, p, g)) (λ g. omega (arith, h, d, p, g))

pub ruleset putting = (put_zero, put_odd, put_even)

pub same_scope : (f g : Scope) → ((n : ℕ) → f n ≡ g n) → f ≡ g
same_scope f g h = λ i n. h n i
