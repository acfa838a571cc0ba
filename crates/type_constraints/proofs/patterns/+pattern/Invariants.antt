use Rattle.std.proofs.Common.{◌≡◌, ◌+◌, ◌*◌, ◌++◌, map, take}
use Rattle.fut_flat.specs.Erased.{pattern_of, patterns, texts}
use Rattle.type_scopes.specs.Scopes.{field_pattern}
use Rattle.type_scopes.proofs.Binding.{weigh, weigh_all}
use Rattle.type_constraints.specs.Parts.{pattern_name}
use Rattle.type_constraints.proofs.Tuples.{Row_claimed}
use Rattle.type_constraints.proofs.patterns.+pattern.Given as goal

abbrev pub invariant-constrain_patterns-loop-part : goal.invariant-constrain_patterns-loop-part
invariant-constrain_patterns-loop-part l = Row_claimed l.setting.places l.setting.base l.lo l.at (map pattern_of (take l.part-index l.parts)) l.fn.begins l.begins l.fn.inference l.inference

abbrev pub decreases-constrain_pattern : goal.decreases-constrain_pattern
decreases-constrain_pattern l = 3 * weigh (pattern_of l.pat.now)

abbrev pub decreases-constrain_tuple : goal.decreases-constrain_tuple
decreases-constrain_tuple l = 3 * weigh_all (patterns (map pattern_of l.parts.now)) + 2

abbrev pub decreases-constrain_patterns : goal.decreases-constrain_patterns
decreases-constrain_patterns l = 3 * weigh_all (patterns (map pattern_of l.parts.now)) + 1

abbrev pub invariant-constrain_field_patterns-loop-field : goal.invariant-constrain_field_patterns-loop-field
invariant-constrain_field_patterns-loop-field l = Row_claimed l.setting.places l.setting.base l.lo l.at (map field_pattern (take l.field-index l.fields)) l.fn.begins l.begins l.fn.inference l.inference × (texts l.names ≡ texts l.fn.names ++ map pattern_name (take l.field-index l.fields))

abbrev pub decreases-constrain_record : goal.decreases-constrain_record
decreases-constrain_record l = 3 * weigh_all (patterns (map field_pattern l.fields.now)) + 2

abbrev pub decreases-constrain_field_patterns : goal.decreases-constrain_field_patterns
decreases-constrain_field_patterns l = 3 * weigh_all (patterns (map field_pattern l.fields.now)) + 1

abbrev pub decreases-constrain_typed : goal.decreases-constrain_typed
decreases-constrain_typed l = 3 * weigh (pattern_of l.inner.now) + 1
