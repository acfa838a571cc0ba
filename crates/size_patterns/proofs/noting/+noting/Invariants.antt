use Rattle.std.proofs.Common.{map}
use Rattle.std.specs.Prelude.{◌+◌}
use Rattle.fut_flat.specs.Erased.{pattern_of, patterns}
use Rattle.fut_typing.specs.Names.{Names}
use Rattle.fut_sizes.specs.Sizing.{fields_noted, patterns_noted}
use Rattle.flat_numbers.specs.Fields.{field_patterns}
use Rattle.alias_parts.specs.Known.{Knows}
use Rattle.size_arena.specs.Trees.{size_of, sizes_of}
use Rattle.size_program.specs.Program.{sub_of}
use Rattle.size_patterns.specs.Fields.{field_names}
use Rattle.size_patterns.proofs.Chains.{Goes}
use Rattle.size_patterns.proofs.NoteForms.{parts_from, fields_from}
use Rattle.size_patterns.proofs.noting.+noting.Given as goal

abbrev pub invariant-note_patterns-loop-i : goal.invariant-note_patterns-loop-i
invariant-note_patterns-loop-i l = (N : Names) → Knows l.program.names N → Goes l.fn.tables l.tables (patterns_noted N (sub_of l.program.types.now) (patterns (map pattern_of l.parts)) (1 + l.node) (sizes_of l.row)) (parts_from N (sub_of l.program.types.now) l.parts l.row l.i l.at)

abbrev pub invariant-note_fields-loop-field : goal.invariant-note_fields-loop-field
invariant-note_fields-loop-field l = (N : Names) → Knows l.program.names N → Goes l.fn.tables l.tables (fields_noted N (sub_of l.program.types.now) (field_names l.fields) (field_patterns l.fields) (1 + l.node) (size_of l.size)) (fields_from N (sub_of l.program.types.now) l.fields (size_of l.size) l.field-index l.at)
