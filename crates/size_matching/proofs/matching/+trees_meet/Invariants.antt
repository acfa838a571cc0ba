use Rattle.std.proofs.Common.{drop}
use Rattle.fut_sizes.specs.Matching.{all_meet}
use Rattle.size_arena.specs.Frames.{opened_of}
use Rattle.size_arena.specs.Trees.{sizes_of}
use Rattle.size_slots.specs.Held.{Held, way_of}
use Rattle.size_matching.proofs.Steps.{Reached}
use Rattle.size_matching.proofs.matching.+trees_meet.Given as goal

abbrev pub invariant-all_trees_meet-loop-i : goal.invariant-all_trees_meet-loop-i
invariant-all_trees_meet-loop-i l = record {
  held : Held l.table;
  reached : Reached l.fn.table (all_meet l.site.node (way_of l.way) l.site.at (opened_of l.left_frames) (sizes_of l.lefts) (opened_of l.right_frames) (sizes_of l.rights)) l.table
      (all_meet l.site.node (way_of l.way) l.site.at (opened_of l.left_frames) (sizes_of (drop l.i l.lefts)) (opened_of l.right_frames) (sizes_of (drop l.i l.rights)));
}
