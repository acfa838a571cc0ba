use Rattle.std.proofs.Common.{◌≡◌, drop}
use Rattle.fut_types.specs.Types.{Sub}
use Rattle.fut_typing.specs.Names.{Names}
use Rattle.fut_sizes.specs.Sizing.{all_lacking}
use Rattle.size_arena.specs.Trees.{sizes_of}
use Rattle.size_arena.proofs.Parts.{before}
use Rattle.size_loops.proofs.loops.+lacking.Given as goal

abbrev pub invariant-all_lacking-loop-part : goal.invariant-all_lacking-loop-part
invariant-all_lacking-loop-part l = (N : Names) (types : Sub) → all_lacking N types l.node l.dropped l.first (sizes_of l.parts) ≡ before l.made.items (all_lacking N types l.node l.dropped l.number (sizes_of (drop l.part-index l.parts)))
