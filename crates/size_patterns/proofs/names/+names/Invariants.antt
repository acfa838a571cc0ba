use Rattle.std.proofs.Common.{◌≡◌, ◌++◌, map, drop}
use Rattle.fut_flat.specs.Erased.{pattern_of, patterns}
use Rattle.fut_sizes.specs.Scopes.{all_names}
use Rattle.flat_numbers.specs.Fields.{field_patterns}
use Rattle.size_patterns.proofs.names.+names.Given as goal

abbrev pub invariant-put_all_names-loop-part : goal.invariant-put_all_names-loop-part
invariant-put_all_names-loop-part l = l.fn.made.items ++ all_names (patterns (map pattern_of l.parts)) ≡ l.made.items ++ all_names (patterns (map pattern_of (drop l.part-index l.parts)))

abbrev pub invariant-put_field_names-loop-field : goal.invariant-put_field_names-loop-field
invariant-put_field_names-loop-field l = l.fn.made.items ++ all_names (field_patterns l.fields) ≡ l.made.items ++ all_names (field_patterns (drop l.field-index l.fields))
