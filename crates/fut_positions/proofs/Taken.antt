-- What goes through a list from a position on and takes the element whose position a name spells.
use Rattle.std.proofs.Common.{◌≡◌, ℕ, zero, suc, ◌+◌, ◌<◌, Bool, true, false, cond, List, [], ◌∷◌, length, get_or, Option, Some, None, ◌∙◌, refl, ap, arith}
use Rattle.std.specs.Fmt.{decimal}
use Rattle.std.specs.Str.{bytes_eq}
use Rattle.std.proofs.lemmas.Slice.Eq.{bytes_eq-Decides}
use Rattle.fut_positions.specs.Positions.{Spelled}

module _ {X Y : Type 0} (name : List ℕ) (of : X → Y) (from : ℕ → List X → Option Y) (end : (k : ℕ) → from k [] ≡ None)
    (next : (k : ℕ) (x : X) (xs : List X) → from k (x ∷ xs) ≡ cond (bytes_eq (decimal k) name) (Some (of x)) (from (suc k) xs)) where
  here : (k : ℕ) (x : X) (xs : List X) → decimal k ≡ name → from k (x ∷ xs) ≡ Some (of x)
  here k x xs is = next k x xs ∙ ap (λ b. cond b (Some (of x)) (from (suc k) xs)) ((bytes_eq-Decides (decimal k) name).1 is)

  further : (k : ℕ) (x : X) (xs : List X) → (decimal k ≡ name → ⊥) → from k (x ∷ xs) ≡ from (suc k) xs
  further k x xs other = next k x xs ∙ ap (λ b. cond b (Some (of x)) (from (suc k) xs)) (differs (bytes_eq (decimal k) name) refl)
    where
      differs : (b : Bool) → bytes_eq (decimal k) name ≡ b → bytes_eq (decimal k) name ≡ false
      differs true e = absurd (other ((bytes_eq-Decides (decimal k) name).0 e))
      differs false e = e

  there : (k at : ℕ) (xs : List X) (d : X) → at < length xs → decimal (k + at) ≡ name → ((j : ℕ) → j < length xs → decimal (k + j) ≡ name → j ≡ at) → from k xs ≡ Some (of (get_or xs at d))
  there k at [] d lt is alone = absurd (omega arith)
  there k zero (x ∷ xs) d lt is alone = here k x xs (ap decimal (omega arith) ∙ is)
  there k (suc at) (x ∷ xs) d lt is alone = further k x xs (λ e. omega (arith, alone 0 (omega arith) (ap decimal (omega arith) ∙ e)))
      ∙ there (suc k) at xs d (omega arith) (ap decimal (omega arith) ∙ is) (λ j l e. omega (arith, alone (suc j) (omega arith) (ap decimal (omega arith) ∙ e)))

  nowhere : (k : ℕ) (xs : List X) → ((j : ℕ) → j < length xs → decimal (k + j) ≡ name → ⊥) → from k xs ≡ None
  nowhere k [] absent = end k
  nowhere k (x ∷ xs) absent = further k x xs (λ e. absent 0 (omega arith) (ap decimal (omega arith) ∙ e))
      ∙ nowhere (suc k) xs (λ j l e. absent (suc j) (omega arith) (ap decimal (omega arith) ∙ e))

  -- from the first position on it takes the one that is spelled
  pub taken : (at : ℕ) (xs : List X) (d : X) → Spelled name (length xs) (Some at) → from 0 xs ≡ Some (of (get_or xs at d))
  taken at xs d s = there 0 at xs d s.0 (ap decimal (omega arith) ∙ s.1) (λ j l e. s.2 j l (ap decimal (omega arith) ∙ e))

  pub none_taken : (xs : List X) → Spelled name (length xs) None → from 0 xs ≡ None
  none_taken xs s = nowhere 0 xs (λ j l e. s j l (ap decimal (omega arith) ∙ e))
