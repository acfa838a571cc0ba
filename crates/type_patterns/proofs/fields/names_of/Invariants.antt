use Rattle.std.proofs.Common.{◌≡◌, map, take}
use Rattle.fut_flat.specs.Erased.{texts}
use Rattle.type_patterns.specs.Asking.{field_name}
use Rattle.type_patterns.proofs.fields.names_of.Given as goal

abbrev pub invariant-loop-field : goal.invariant-loop-field
invariant-loop-field l = texts l.names ≡ map field_name (take l.field-index l.fields)
