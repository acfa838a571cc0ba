use Rattle.fut_typing.specs.Names.{Names}
use Rattle.alias_parts.specs.Known.{Knows}
use Rattle.fut_aliases.specs.Aliases.{first_name_alone}
use Rattle.alias_program.specs.Program.{sub_of}
use Rattle.alias_types.specs.Kinds.{kinds_of}
use Rattle.uniqueness.specs.Held.{held_of}
use Rattle.alias_patterns.specs.Ruled.{rule_of}
use Rattle.alias_patterns.proofs.FitForms.{Parts_fit, Fields_fit}
use Rattle.alias_patterns.proofs.fitting.+fit.Given as goal

abbrev pub invariant-all_misfit-loop-i : goal.invariant-all_misfit-loop-i
invariant-all_misfit-loop-i l = (N : Names) → Knows l.program.names N → Parts_fit first_name_alone N (kinds_of l.program.kinds.now) (sub_of l.program.types.now) (rule_of l.rule) l.parts l.values l.node (held_of l.held) l.i l.at

abbrev pub invariant-fields_misfit-loop-field : goal.invariant-fields_misfit-loop-field
invariant-fields_misfit-loop-field l = (N : Names) → Knows l.program.names N → Fields_fit first_name_alone N (kinds_of l.program.kinds.now) (sub_of l.program.types.now) (rule_of l.rule) l.fields l.node (held_of l.held) l.field-index l.at
