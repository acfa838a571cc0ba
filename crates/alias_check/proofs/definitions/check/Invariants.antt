use Rattle.fut_aliases.specs.Aliases.{first_name_alone}
use Rattle.alias_parts.specs.Known.{Knows}
use Rattle.alias_program.specs.Program.{sub_of}
use Rattle.alias_scopes.specs.Scopes.{scope_of}
use Rattle.alias_types.specs.Kinds.{kinds_of}
use Rattle.alias_check.proofs.DefinitionForms.{Reaching}
use Rattle.alias_check.proofs.definitions.check.Given as goal

abbrev pub invariant-loop-definition : goal.invariant-loop-definition
invariant-loop-definition l = Reaching first_name_alone (kinds_of l.program.kinds.now) (sub_of l.program.types.now) (Knows l.program.names) l.flat.definitions.now l.behind.at (scope_of l.behind.scope.now) l.definition-index
