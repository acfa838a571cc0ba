use Rattle.std.proofs.Common.{◌≡◌, map, take}
use Rattle.fut_flat.specs.declared.pat.PatField.{PatField}
use Rattle.unfold_parts.proofs.patterns.patterns_of.Given as goal

abbrev pub invariant-loop-field : goal.invariant-loop-field
invariant-loop-field l = l.pats.items ≡ map (λ (f : PatField). f.pat) (take l.field-index l.fields)
