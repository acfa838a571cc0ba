use Rattle.fut_typing.specs.Names.{Names}
use Rattle.alias_parts.specs.Known.{Knows}
use Rattle.fut_aliases.specs.Aliases.{first_name_alone}
use Rattle.alias_program.specs.Program.{sub_of}
use Rattle.alias_types.specs.Kinds.{kinds_of}
use Rattle.alias_scopes.specs.Scopes.{scope_of}
use Rattle.alias_patterns.proofs.BindForms.{Parameters_bound}
use Rattle.alias_patterns.proofs.binding.with_parameters.Given as goal

abbrev pub invariant-loop-pattern : goal.invariant-loop-pattern
invariant-loop-pattern l = (N : Names) → Knows l.program.names N → Parameters_bound first_name_alone N (kinds_of l.program.kinds.now) (sub_of l.program.types.now) l.parameters l.node (scope_of l.scope) l.pattern-index l.at (scope_of l.inside.scope.now)
