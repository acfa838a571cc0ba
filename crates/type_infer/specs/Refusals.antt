-- Refusals of the graph of a program.
use Rattle.std.specs.Prelude.{◌≡◌, ℕ, ◌<◌, ◌≤◌}
use mathlib.Core.Logic.{◌⊎◌}
use Rattle.type_graph.specs.declared.UnifyErr.{UnifyErr}
use Rattle.type_graph.specs.declared.UnifyErr.TheVariants as err
use Rattle.type_infer.specs.declared.refusals.BuildErr.{BuildErr}
use Rattle.type_infer.specs.declared.refusals.BuildErr.TheVariants as build

-- memory aside, P is the reason
abbrev pub Shows : Type 0 → BuildErr → Type 0
Shows P (build.Untyped n) = P
Shows P build.Memory = Unit {0}

-- a refusal of a step, as one of the whole
abbrev pub Stands_for : BuildErr → UnifyErr → Type 0
Stands_for (build.Untyped n) (err.Clash i j) = Unit {0}
Stands_for (build.Untyped n) (err.BadKind i k) = Unit {0}
Stands_for (build.Untyped n) (err.Infinite i) = Unit {0}
Stands_for (build.Untyped n) err.Memory = ⊥
Stands_for build.Memory (err.Clash i j) = ⊥
Stands_for build.Memory (err.BadKind i k) = ⊥
Stands_for build.Memory (err.Infinite i) = ⊥
Stands_for build.Memory err.Memory = Unit {0}

-- it shows at lo, or at a later one of base numbers
abbrev pub Stands_at : ℕ → ℕ → BuildErr → Type 0
Stands_at lo base (build.Untyped n) = (n ≡ lo) ⊎ ((lo ≤ n) × (n < base))
Stands_at lo base build.Memory = Unit {0}

-- it shows at one of so many numbers, or at the first
abbrev pub At_number : ℕ → BuildErr → Type 0
At_number many (build.Untyped n) = (n ≡ 0) ⊎ (n < many)
At_number many build.Memory = Unit {0}
