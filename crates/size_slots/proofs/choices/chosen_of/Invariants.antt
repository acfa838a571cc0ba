use Rattle.std.proofs.Common.{◌≡◌, drop}
use Rattle.fut_types.specs.Types.{Ty}
use Rattle.size_arena.specs.Trees.{variable_of}
use Rattle.size_slots.specs.Held.{chosen_size}
use Rattle.size_slots.proofs.choices.chosen_of.Given as goal

abbrev pub invariant-loop-one : goal.invariant-loop-one
invariant-loop-one l = (u : Ty) → chosen_size l.chosen l.node (variable_of l.variable) u ≡ chosen_size (drop l.one-index l.chosen) l.node (variable_of l.variable) u
