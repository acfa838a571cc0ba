use Rattle.fut_typing.specs.Names.{Names}
use Rattle.alias_parts.specs.Known.{Knows}
use Rattle.fut_aliases.specs.Values.{Parts, Values}
use Rattle.std.proofs.Common.{◌≡◌}
use Rattle.fut_aliases.specs.Aliases.{first_name_alone}
use Rattle.alias_program.specs.Program.{sub_of}
use Rattle.alias_values.specs.Trees.{row_of, value_of}
use Rattle.alias_patterns.proofs.KeepForms.{Parts_kept, Fields_kept}
use Rattle.alias_patterns.proofs.keeping.+keep.Given as goal

abbrev pub invariant-parts_kept-loop-i : goal.invariant-parts_kept-loop-i
invariant-parts_kept-loop-i l = (N : Names) → Knows l.program.names N → Parts_kept first_name_alone N (sub_of l.program.types.now) l.parts l.row l.values l.node l.i l.at l.sets.items

abbrev pub invariant-fields_kept-loop-field : goal.invariant-fields_kept-loop-field
invariant-fields_kept-loop-field l = (N : Names) → Knows l.program.names N → (vs : Values) → value_of l.value ≡ Parts l.head vs → Fields_kept first_name_alone N (sub_of l.program.types.now) l.fields l.head (row_of l.row) vs l.node l.field-index l.at l.sets.items
