use Rattle.std.proofs.Common.{◌≡◌}
use Rattle.unfold.specs.Held.{scope_of}
use Rattle.unfold_parts.specs.Tables.{Kept}
use Rattle.unfold_program.proofs.Programs.{Definitions_from}
use Rattle.unfold_program.proofs.program.unfold_definitions.Given as goal

abbrev pub invariant-loop-definition : goal.invariant-loop-definition
invariant-loop-definition l = (Definitions_from l.fn.entry.0 l.definitions l.fn.context.told l.fn.state l.state l.made (scope_of l.seen) l.definition-index) × (l.at ≡ l.definition-index) × Kept l.made.context.tops
