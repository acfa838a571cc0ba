use Rattle.fut_typing.specs.Names.{Names}
use Rattle.alias_parts.specs.Known.{Knows}
use Rattle.fut_aliases.specs.Aliases.{first_name_alone}
use Rattle.alias_program.specs.Program.{sub_of}
use Rattle.alias_scopes.specs.Scopes.{scope_of}
use Rattle.alias_values.specs.Trees.{value_of}
use Rattle.alias_patterns.proofs.BindForms.{Parts_bound, Fields_bound}
use Rattle.alias_patterns.proofs.binding.+bind.Given as goal

abbrev pub invariant-all_bound-loop-i : goal.invariant-all_bound-loop-i
invariant-all_bound-loop-i l = (N : Names) → Knows l.program.names N → Parts_bound first_name_alone N (sub_of l.program.types.now) l.parameter l.parts l.values l.node (scope_of l.scope) l.i l.at (scope_of l.inside.scope.now)

abbrev pub invariant-fields_bound-loop-field : goal.invariant-fields_bound-loop-field
invariant-fields_bound-loop-field l = (N : Names) → Knows l.program.names N → Fields_bound first_name_alone N (sub_of l.program.types.now) l.parameter l.fields (value_of l.value) l.node (scope_of l.scope) l.field-index l.at (scope_of l.inside.scope.now)
