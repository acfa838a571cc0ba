use Rattle.fut_typing.specs.Names.{Names}
use Rattle.alias_parts.specs.Known.{Knows}
use Rattle.alias_patterns.proofs.WrittenForms.{Parts_made, Fields_made}
use Rattle.alias_patterns.proofs.written.+written.Given as goal

abbrev pub invariant-part_stars-loop-i : goal.invariant-part_stars-loop-i
invariant-part_stars-loop-i l = (N : Names) → Knows l.program.names N → Parts_made N l.starred l.parts l.types l.i l.made.items

abbrev pub invariant-field_stars-loop-field : goal.invariant-field_stars-loop-field
invariant-field_stars-loop-field l = (N : Names) → Knows l.program.names N → Fields_made N l.starred l.fields l.head l.types l.fn.row.items l.field-index l.row.items
