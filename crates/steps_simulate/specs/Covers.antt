-- When one relation covers another: each outcome of the one has a related outcome of the other, with a count that is at least
-- as large.
use Rattle.std.specs.Prelude.{ℕ, ◌≤◌}
use Rattle.fut_meaning.specs.Outcomes.{Out, Rel}
use Rattle.fut_meaning.specs.Sames.{Same_out}

-- of an outcome that counts `g`
pub data Covered {A A' : Type 0} (r : A → A' → Type 0) (m' : Rel A') (o : Out A) (g : ℕ) : Type 0 where
  covered : (o' : Out A') (f : ℕ) → m' o' f → g ≤ f → Same_out r o o' → Covered r m' o g

-- m' covers m
pub record Covers {A A' : Type 0} (r : A → A' → Type 0) (m : Rel A) (m' : Rel A') : Type 0 where
  pub each : (o : Out A) (g : ℕ) → m o g → Covered r m' o g
