use Rattle.fut_typing.specs.Names.{Names}
use Rattle.alias_parts.specs.Known.{Knows}
use Rattle.fut_flat.specs.declared.pat.PatField.{PatField}
use Rattle.fut_flat.specs.Erased.{pattern_of}
use Rattle.alias_program.specs.Program.{sub_of}
use Rattle.alias_patterns.proofs.StarForms.{Stars_made}
use Rattle.alias_patterns.proofs.stars.+stars.Given as goal

abbrev pub invariant-part_stars-loop-part : goal.invariant-part_stars-loop-part
invariant-part_stars-loop-part l = (N : Names) → Knows l.program.names N → Stars_made N (sub_of l.program.types.now) pattern_of l.parts l.node l.part-index l.at l.made.items

abbrev pub invariant-field_stars-loop-field : goal.invariant-field_stars-loop-field
invariant-field_stars-loop-field l = (N : Names) → Knows l.program.names N → Stars_made N (sub_of l.program.types.now) (λ (f : PatField). pattern_of f.pat) l.fields l.node l.field-index l.at l.made.items
