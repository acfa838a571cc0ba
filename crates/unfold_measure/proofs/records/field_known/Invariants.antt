use Rattle.std.proofs.Common.{◌≡◌, map, drop}
use Rattle.fut_flat.specs.Erased.{texts}
use Rattle.fut_meaning.specs.Knowns.{known_field_of}
use Rattle.unfold_measure.specs.Held.{known_of, named}
use Rattle.unfold_measure.proofs.records.field_known.Given as goal

abbrev pub invariant-loop-known : goal.invariant-loop-known
invariant-loop-known l = (l.at ≡ l.known-index) × (known_field_of l.name (named (texts l.names) (map known_of l.parts)) ≡ known_field_of l.name (named (drop l.known-index (texts l.names)) (map known_of (drop l.known-index l.parts))))
