use Rattle.std.proofs.Common.{map}
use Rattle.unfold.specs.Held.{field_of, fields_known}
use Rattle.unfold_parts.proofs.Binding.{Fields_lead}
use Rattle.unfold_parts.proofs.patterns.fields_known.Given as goal

abbrev pub invariant-loop-field : goal.invariant-loop-field
invariant-loop-field l = Fields_lead l.fields (fields_known (map field_of l.given)) l.field-index l.knowns.items
