use Rattle.std.proofs.Common.{◌≡◌, ◌≤◌, Option}
use Rattle.fut_meaning.specs.Found.{Sizing}
use Rattle.unfold_measure.proofs.Definitions.{Definitions_from}
use Rattle.unfold_reach.specs.Reach.{Reached}
use Rattle.unfold_measure.proofs.program.walk_definitions.Given as goal

abbrev pub invariant-loop-definition : goal.invariant-loop-definition
invariant-loop-definition l = ((z : Option Sizing) → Reached z l.fn.entry.0 l.definitions l.fn.flags → Definitions_from z l.fn.entry.0 l.definitions l.made l.definition-index) × (l.at ≡ l.definition-index) × (l.made.nodes ≤ 1048576) × (l.made.depth ≤ 1000)
