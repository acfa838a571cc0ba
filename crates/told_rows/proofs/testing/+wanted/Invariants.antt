use Rattle.std.proofs.Common.{◌≡◌, drop, length}
use Rattle.fut_flat.specs.Erased.{texts}
use Rattle.fut_meaning.specs.Found.{Sizing}
use Rattle.size_arena.specs.Trees.{sizes_of}
use Rattle.unfold.specs.Held.{entered_of}
use Rattle.unfold.specs.Telling.{found, size_tests, named_tests}
use Rattle.told_rows.specs.Tables.{Tells}
use Rattle.told_rows.proofs.RowLists.{before, put_test, put_named}
use Rattle.told_rows.proofs.testing.+wanted.Given as goal

abbrev pub invariant-size_tests-loop-part : goal.invariant-size_tests-loop-part
invariant-size_tests-loop-part l = (Z : Sizing) → Tells l.sizes Z → size_tests Z.fields (found Z (entered_of l.entered)) (sizes_of l.parts) ≡ before put_test l.made.items (size_tests Z.fields (found Z (entered_of l.entered)) (sizes_of (drop l.part-index l.parts)))

abbrev pub invariant-field_tests-loop-i : goal.invariant-field_tests-loop-i
invariant-field_tests-loop-i l = record {
  many : length l.names ≡ length l.parts;
  made : (Z : Sizing) → Tells l.sizes Z → named_tests Z.fields (found Z (entered_of l.entered)) (texts l.names) (sizes_of l.parts) ≡ before put_named l.made.items (named_tests Z.fields (found Z (entered_of l.entered)) (texts (drop l.i l.names)) (sizes_of (drop l.i l.parts)));
}
