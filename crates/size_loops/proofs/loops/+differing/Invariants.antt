use Rattle.std.proofs.Common.{◌≡◌, ◌++◌, drop}
use Rattle.fut_types.specs.Types.{Sub}
use Rattle.fut_typing.specs.Names.{Names}
use Rattle.fut_sizes.specs.Sizing.{all_differing}
use Rattle.size_arena.specs.Trees.{sizes_of}
use Rattle.size_loops.proofs.loops.+differing.Given as goal

abbrev pub invariant-note_all-loop-i : goal.invariant-note_all-loop-i
invariant-note_all-loop-i l = (N : Names) (types : Sub) → l.fn.found ++ all_differing N types l.dropped l.first (sizes_of l.began) (sizes_of l.ended) ≡ l.found ++ all_differing N types l.dropped l.number (sizes_of (drop l.i l.began)) (sizes_of (drop l.i l.ended))
