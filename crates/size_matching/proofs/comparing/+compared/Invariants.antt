use Rattle.std.proofs.Common.{drop}
use Rattle.fut_sizes.specs.Matching.{all_compared}
use Rattle.size_arena.specs.Trees.{sizes_of}
use Rattle.size_slots.specs.Held.{Held, way_of}
use Rattle.size_matching.proofs.Steps.{Reached}
use Rattle.size_matching.proofs.comparing.+compared.Given as goal

abbrev pub invariant-all_compared-loop-i : goal.invariant-all_compared-loop-i
invariant-all_compared-loop-i l = record {
  held : Held l.table;
  reached : Reached l.fn.table (all_compared (way_of l.way) l.at (sizes_of l.taken) (sizes_of l.others)) l.table (all_compared (way_of l.way) l.at (sizes_of (drop l.i l.taken)) (sizes_of (drop l.i l.others)));
}
