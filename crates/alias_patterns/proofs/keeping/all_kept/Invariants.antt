use Rattle.fut_typing.specs.Names.{Names}
use Rattle.alias_parts.specs.Known.{Knows}
use Rattle.fut_aliases.specs.Aliases.{first_name_alone}
use Rattle.alias_program.specs.Program.{sub_of}
use Rattle.alias_types.specs.Kinds.{kinds_of}
use Rattle.alias_patterns.proofs.KeepForms.{Parameters_kept}
use Rattle.alias_patterns.proofs.keeping.all_kept.Given as goal

abbrev pub invariant-loop-pattern : goal.invariant-loop-pattern
invariant-loop-pattern l = (N : Names) → Knows l.program.names N → Parameters_kept first_name_alone N (kinds_of l.program.kinds.now) (sub_of l.program.types.now) l.parameters l.node l.pattern-index l.at l.sets.items
