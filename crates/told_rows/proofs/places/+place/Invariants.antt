use Rattle.std.proofs.Common.{◌≡◌, drop, length}
use Rattle.fut_flat.specs.Erased.{texts}
use Rattle.fut_meaning.specs.Found.{Sizing}
use Rattle.fut_meaning.specs.Places.{part_place, field_place}
use Rattle.size_arena.specs.Trees.{sizes_of}
use Rattle.told_rows.specs.Places.{size_sought, type_sought}
use Rattle.told_rows.specs.Tables.{Tells}
use Rattle.told_rows.proofs.places.+place.Given as goal

abbrev pub invariant-part_place-loop-part : goal.invariant-part_place-loop-part
invariant-part_place-loop-part l = (Z : Sizing) → Tells l.sizes Z → part_place Z.fields (size_sought l.sought) (type_sought l.sought) 0 (sizes_of l.parts) ≡ part_place Z.fields (size_sought l.sought) (type_sought l.sought) l.number (sizes_of (drop l.part-index l.parts))

abbrev pub invariant-field_place-loop-i : goal.invariant-field_place-loop-i
invariant-field_place-loop-i l = record {
  many : length l.names ≡ length l.parts;
  found : (Z : Sizing) → Tells l.sizes Z → field_place Z.fields (size_sought l.sought) (type_sought l.sought) (texts l.names) (sizes_of l.parts) ≡ field_place Z.fields (size_sought l.sought) (type_sought l.sought) (texts (drop l.i l.names)) (sizes_of (drop l.i l.parts));
}
