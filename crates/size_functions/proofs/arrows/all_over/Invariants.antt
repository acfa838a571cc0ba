use Rattle.std.proofs.Common.{◌≡◌, ◌<◌, length, drop}
use Rattle.size_arena.specs.Trees.{size_of}
use Rattle.size_functions.specs.Arrows.{all_over, arrows_of}
use Rattle.size_functions.proofs.arrows.all_over.Given as goal

abbrev pub invariant-loop-at : goal.invariant-loop-at
invariant-loop-at l = record {
  within : l.at < length l.arrows;
  made : size_of l.made ≡ all_over l.from l.to (arrows_of (drop l.at l.arrows)) (size_of l.body);
}

abbrev pub decreases-loop-at : goal.decreases-loop-at
decreases-loop-at l = l.at
