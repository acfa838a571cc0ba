-- Which types the claims of expressions depend on.
use Rattle.std.proofs.Common.{◌≡◌, ℕ, ◌+◌, ◌≤◌, ◌<◌, arith}
use mathlib.Core.Logic.{◌⊎◌, inl, inr}
use Rattle.fut_scalar.specs.declared.place.BindId.{BindId}
use Rattle.fut_types.specs.declared.Kind.{Kind}
use Rattle.fut_flat.specs.declared.prim.Ref.{Ref}
use Rattle.fut_flat.specs.Terms.{Terms}
use Rattle.fut_flat.specs.Numbers.{pattern_numbers, numbers, all_numbers}
use Rattle.fut_flat.specs.Erased.{FlatTerm, FlatPattern}
use Rattle.fut_typing.specs.Homes.{Needs, scope_of}
use Rattle.fut_typing.proofs.Local.{all_local_more, pattern_same}
use Rattle.fut_typing.proofs.Cong.{cong, cong_all, scope_local}
use Rattle.type_scopes.specs.Scopes.{Depends}
use Rattle.type_constraints.specs.Parts.{Term_claim, Terms_claim, Pattern_claim}

module _ (places : Kind) where
  pub depends_term : (t : FlatTerm) (lo hi : ℕ) → hi ≡ lo + numbers t → Depends places (Term_claim places t lo) lo hi
  depends_term t lo hi e N E K a b same h = cong N places (λ n. Needs E n ⊎ ((lo ≤ n) × (n < hi))) t lo (scope_of N places E) (all_local_more (Needs E) (λ n. Needs E n ⊎ ((lo ≤ n) × (n < hi))) (scope_of N places E) (λ n m. inl m) (scope_local N places E))
      (λ n p q. inr (p, omega arith)) K a b same h

  pub depends_terms : (ts : Terms Ref BindId) (lo hi : ℕ) → hi ≡ lo + all_numbers ts → Depends places (Terms_claim places ts lo) lo hi
  depends_terms ts lo hi e N E K a b same h = cong_all N places (λ n. Needs E n ⊎ ((lo ≤ n) × (n < hi))) ts lo (scope_of N places E) (all_local_more (Needs E) (λ n. Needs E n ⊎ ((lo ≤ n) × (n < hi))) (scope_of N places E) (λ n m. inl m) (scope_local N places E))
      (λ n p q. inr (p, omega arith)) K a b same h

  pub depends_pattern : (p : FlatPattern) (lo hi : ℕ) → hi ≡ lo + pattern_numbers p → Depends places (Pattern_claim places p lo) lo hi
  depends_pattern p lo hi e N E K a b same h = pattern_same (λ n. Needs E n ⊎ ((lo ≤ n) × (n < hi))) N places K a b same p lo (scope_of N places E) (all_local_more (Needs E) (λ n. Needs E n ⊎ ((lo ≤ n) × (n < hi))) (scope_of N places E) (λ n m. inl m) (scope_local N places E))
      (λ n x y. inr (x, omega arith)) h
