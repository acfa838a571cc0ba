use Rattle.fut_flat.specs.declared.pat.PatField.{PatField}
use Rattle.fut_flat.specs.Erased.{pattern_of}
use Rattle.flat_numbers.proofs.PatternNumbers.{Parts_passed}
use Rattle.flat_numbers.proofs.patterns.+pattern.Given as goal

abbrev pub invariant-after_patterns-loop-part : goal.invariant-after_patterns-loop-part
invariant-after_patterns-loop-part l = Parts_passed pattern_of l.parts l.at l.next l.part-index

abbrev pub invariant-after_fields-loop-field : goal.invariant-after_fields-loop-field
invariant-after_fields-loop-field l = Parts_passed (λ (f : PatField). pattern_of f.pat) l.fields l.at l.next l.field-index
