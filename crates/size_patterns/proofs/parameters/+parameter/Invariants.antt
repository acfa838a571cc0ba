use Rattle.fut_types.specs.Types.{Sub}
use Rattle.fut_typing.specs.Names.{Names}
use Rattle.alias_parts.specs.Known.{Knows}
use Rattle.size_patterns.proofs.ParameterForms.{Parts_entered}
use Rattle.size_patterns.proofs.parameters.+parameter.Given as goal

abbrev pub invariant-in_patterns-loop-i : goal.invariant-in_patterns-loop-i
invariant-in_patterns-loop-i l = (N : Names) (types : Sub) → Knows l.program.names N → Parts_entered N types l.parts l.row l.i l.made.items
