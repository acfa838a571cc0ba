use Rattle.std.proofs.Common.{◌≡◌, drop}
use Rattle.fut_sizes.specs.Sizing.{some_open}
use Rattle.size_arena.specs.Trees.{sizes_of}
use Rattle.size_patterns.proofs.opening.+open.Given as goal

abbrev pub invariant-some_open-loop-part : goal.invariant-some_open-loop-part
invariant-some_open-loop-part l = some_open (sizes_of l.parts) ≡ some_open (sizes_of (drop l.part-index l.parts))
