use Rattle.std.proofs.Common.{◌≡◌, map, take}
use Rattle.unfold.specs.declared.known.Field.{Field}
use Rattle.unfold_parts.proofs.packing.names_of.Given as goal

abbrev pub invariant-loop-field : goal.invariant-loop-field
invariant-loop-field l = l.names.items ≡ map (λ (f : Field). f.name) (take l.field-index l.fields)
