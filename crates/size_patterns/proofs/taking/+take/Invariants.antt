use Rattle.std.proofs.Common.{map}
use Rattle.fut_flat.specs.Erased.{pattern_of, patterns}
use Rattle.fut_typing.specs.Names.{Names}
use Rattle.fut_sizes.specs.Scopes.{Taken, all_taken, fields_taken}
use Rattle.flat_numbers.specs.Fields.{field_patterns}
use Rattle.alias_parts.specs.Known.{Knows}
use Rattle.size_arena.specs.Trees.{size_of, sizes_of}
use Rattle.size_program.specs.Tables.{In_scope}
use Rattle.size_slots.specs.Held.{Held, Holds}
use Rattle.size_patterns.specs.Bound.{Taken_in}
use Rattle.size_patterns.specs.Fields.{field_names}
use Rattle.size_patterns.proofs.Chains.{Reaches}
use Rattle.size_patterns.proofs.TakeForms.{parts_from, fields_from}
use Rattle.size_patterns.proofs.taking.+take.Given as goal

abbrev pub invariant-take_all-loop-i : goal.invariant-take_all-loop-i
invariant-take_all-loop-i l = record {
  holds : Held l.table;
  far : (N : Names) (k : Taken) → Knows l.program.names N → In_scope l.names k.scope → Holds l.fn.table k.found → Reaches (Taken_in l.table l.inside.names) (all_taken N l.sizes l.at (patterns (map pattern_of l.parts)) (sizes_of l.row) k) (parts_from N l.sizes l.at l.parts l.row l.i);
}

abbrev pub invariant-take_fields-loop-field : goal.invariant-take_fields-loop-field
invariant-take_fields-loop-field l = record {
  holds : Held l.table;
  far : (N : Names) (k : Taken) → Knows l.program.names N → In_scope l.names k.scope → Holds l.fn.table k.found → Reaches (Taken_in l.table l.inside.names) (fields_taken N l.sizes l.at (field_names l.fields) (field_patterns l.fields) (size_of l.size) k) (fields_from N l.sizes l.at l.fields (size_of l.size) l.field-index);
}
