use Rattle.std.proofs.Common.{◌+◌, ◌*◌, map, take}
use Rattle.fut_flat.specs.Erased.{pattern_of, patterns}
use Rattle.type_scopes.specs.Scopes.{field_pattern}
use Rattle.type_scopes.proofs.Binding.{Entered, weigh, weigh_all}
use Rattle.type_scopes.proofs.patterns.+pattern.Given as goal

abbrev pub invariant-enter_patterns-loop-part : goal.invariant-enter_patterns-loop-part
invariant-enter_patterns-loop-part l = Entered l.base l.lo l.at (map pattern_of (take l.part-index l.parts)) l.fn.inference l.inference

abbrev pub invariant-enter_fields-loop-field : goal.invariant-enter_fields-loop-field
invariant-enter_fields-loop-field l = Entered l.base l.lo l.at (map field_pattern (take l.field-index l.fields)) l.fn.inference l.inference

abbrev pub decreases-enter_pattern : goal.decreases-enter_pattern
decreases-enter_pattern l = 2 * weigh (pattern_of l.pat.now)

abbrev pub decreases-enter_patterns : goal.decreases-enter_patterns
decreases-enter_patterns l = 2 * weigh_all (patterns (map pattern_of l.parts.now)) + 1

abbrev pub decreases-enter_fields : goal.decreases-enter_fields
decreases-enter_fields l = 2 * weigh_all (patterns (map field_pattern l.fields.now)) + 1
