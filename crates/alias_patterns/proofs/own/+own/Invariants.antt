use Rattle.fut_typing.specs.Names.{Names}
use Rattle.alias_parts.specs.Known.{Knows}
use Rattle.fut_aliases.specs.Aliases.{first_name_alone}
use Rattle.alias_values.specs.Trees.{value_of}
use Rattle.alias_patterns.proofs.OwnForms.{Parts_own, Fields_own}
use Rattle.alias_patterns.proofs.own.+own.Given as goal

abbrev pub invariant-all_own_names-loop-i : goal.invariant-all_own_names-loop-i
invariant-all_own_names-loop-i l = (N : Names) → Knows l.program.names N → Parts_own first_name_alone N l.inner l.values l.node l.i l.at l.made.items

abbrev pub invariant-fields_own_names-loop-field : goal.invariant-fields_own_names-loop-field
invariant-fields_own_names-loop-field l = (N : Names) → Knows l.program.names N → Fields_own first_name_alone N l.fields l.node (value_of l.value) l.field-index l.at (value_of l.made.value.now)
