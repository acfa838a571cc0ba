use Rattle.fut_typing.specs.Names.{Names}
use Rattle.fut_sizes.specs.Sizing.{parameters_noted}
use Rattle.alias_parts.specs.Known.{Knows}
use Rattle.size_functions.specs.Takings.{takings_of}
use Rattle.size_program.specs.Program.{sub_of}
use Rattle.size_patterns.proofs.Chains.{Goes}
use Rattle.size_patterns.proofs.NoteForms.{parameters_from}
use Rattle.size_patterns.proofs.noting.note_parameters.Given as goal

abbrev pub invariant-loop-parameter : goal.invariant-loop-parameter
invariant-loop-parameter l = (N : Names) → Knows l.program.names N → Goes l.fn.tables l.tables (parameters_noted N (sub_of l.program.types.now) (takings_of l.parameters)) (parameters_from N (sub_of l.program.types.now) l.parameters l.parameter-index)
