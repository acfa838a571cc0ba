-- Which sizes stand where none is written.
use Rattle.std.proofs.Common.{◌≡◌, ℕ, ◌+◌, ap, add-one, ◌∙◌}
use Rattle.sized_types.specs.Sizes.{Dim, Bound}
use Rattle.size_written.specs.Blanks.{met_behind}

pub bound_behind : (k i b p : ℕ) → b ≡ k + 1 → p ≡ b + i → (d : Dim) → Bound 0 p ≡ met_behind k i d
bound_behind k i b p e s d = ap (Bound 0) (s ∙ ap (λ z. z + i) (e ∙ add-one k))

pub ruleset blanks = (bound_behind)
