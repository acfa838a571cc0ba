use Rattle.std.proofs.Common.{◌≡◌, map, drop}
use Rattle.fut_flat.specs.Erased.{pattern_of, patterns}
use Rattle.fut_flat.specs.Terms.{Record_pattern, Tuple_pattern}
use Rattle.fut_meaning.specs.Knowns.{known_bound}
use Rattle.unfold_measure.specs.Held.{known_of, scope_of}
use Rattle.unfold_measure.specs.Patterns.{field_names, field_patterns}
use Rattle.unfold_measure.proofs.Binding.{parts_left, fields_left}
use Rattle.unfold_measure.proofs.patterns.+known.Given as goal

abbrev pub invariant-bind_all-loop-part : goal.invariant-bind_all-loop-part
invariant-bind_all-loop-part l = (l.part-index ≡ l.at) × (known_bound (Tuple_pattern (patterns (map pattern_of l.parts))) (known_of l.known) (scope_of l.scope) ≡ parts_left (known_of l.known) l.at (patterns (map pattern_of (drop l.part-index l.parts))) (scope_of l.names.scope.now))

abbrev pub invariant-bind_fields-loop-field : goal.invariant-bind_fields-loop-field
invariant-bind_fields-loop-field l = known_bound (Record_pattern (field_names l.fields) (field_patterns l.fields)) (known_of l.known) (scope_of l.scope) ≡ fields_left (known_of l.known) (drop l.field-index l.fields) (scope_of l.names.scope.now)
