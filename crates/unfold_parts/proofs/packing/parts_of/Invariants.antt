use Rattle.std.proofs.Common.{◌≡◌, map, take}
use Rattle.unfold.specs.declared.known.Field.{Field}
use Rattle.unfold_parts.proofs.packing.parts_of.Given as goal

abbrev pub invariant-loop-field : goal.invariant-loop-field
invariant-loop-field l = l.parts.items ≡ map (λ (f : Field). f.known) (take l.field-index l.fields)
