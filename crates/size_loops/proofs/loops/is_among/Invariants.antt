use Rattle.std.proofs.Common.{◌≡◌, drop}
use Rattle.fut_sizes.specs.Agreeing.{is_among}
use Rattle.size_loops.proofs.loops.is_among.Given as goal

abbrev pub invariant-loop-one : goal.invariant-loop-one
invariant-loop-one l = is_among l.levels l.number ≡ is_among (drop l.one-index l.levels) l.number
