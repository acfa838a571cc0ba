use Rattle.std.proofs.Common.{◌-◌, length}
use Rattle.fut_sizes.specs.Matching.{filled}
use Rattle.size_arena.specs.Trees.{variable_of, size_of}
use Rattle.size_slots.proofs.FillForms.{Filling}
use Rattle.size_slots.proofs.taking.fill_all.Given as goal

abbrev pub invariant-loop-at : goal.invariant-loop-at
invariant-loop-at l = Filling (filled l.node (variable_of l.variable) (size_of l.size)) l.fn.chosen l.chosen l.at

abbrev pub decreases-loop-at : goal.decreases-loop-at
decreases-loop-at l = length l.chosen - l.at
