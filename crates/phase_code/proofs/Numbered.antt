-- The rows with a number.
use Rattle.std.proofs.Common.{◌≡◌, ℕ, zero, suc, ◌<◌, List, [], ◌∷◌, length, get_or, sym, ap, arith}
use Rattle.phase_code.specs.declared.outcome.Made.{Made}
use Rattle.phase_code.specs.Carries.{rows_at}

module _ {A W : Type 0} (rows : W → List A) where
  pub rows_at_is : (ms : List (Made W)) (k : ℕ) (m : Made W) → k < length ms → m ≡ get_or ms k m → rows_at rows ms k ≡ rows m.words
  rows_at_is [] k m lt e = absurd (omega arith)
  rows_at_is (x ∷ ms) zero m lt e = ap (λ y. rows y.words) (sym e)
  rows_at_is (x ∷ ms) (suc k) m lt e = rows_at_is ms k m (omega arith) e
