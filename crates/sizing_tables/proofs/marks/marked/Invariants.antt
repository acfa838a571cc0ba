use Rattle.std.proofs.Common.{◌≡◌, ℕ, false, get_or, take}
use Rattle.sizing_tables.specs.Bound.{is_among}
use Rattle.sizing_tables.proofs.marks.marked.Given as goal

abbrev pub invariant-loop-number : goal.invariant-loop-number
invariant-loop-number l = (k : ℕ) → get_or l.marks.items k false ≡ is_among k (take l.number-index l.numbers)
