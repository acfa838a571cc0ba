-- Counts that never fall, and that stand at their last value, 2^64 - 1.
use Rattle.std.specs.Prelude.{◌+◌, ◌-◌, ◌^◌, ◌≤◌, ℕ, min, max}

-- the count after n more
abbrev pub counted : ℕ → ℕ → ℕ
counted before n = max before (min (before + n) (2 ^ 64 - 1))

-- it rose by n or more, or stands at its last value
abbrev pub RoseBy : ℕ → ℕ → ℕ → Type 0
RoseBy n before now = counted before n ≤ now

-- it rose, or stands at its last value
abbrev pub Rose : ℕ → ℕ → Type 0
Rose before now = RoseBy 1 before now
