use Rattle.std.proofs.Common.{◌≡◌, drop}
use Rattle.fut_meaning.specs.Found.{Sizing}
use Rattle.size_arena.specs.Trees.{sizes_of}
use Rattle.unfold.specs.Telling.{told_rows}
use Rattle.told_rows.specs.Findings.{number_in, type_in}
use Rattle.told_rows.specs.Tables.{Tells}
use Rattle.told_rows.proofs.RowLists.{before, put_row}
use Rattle.told_rows.proofs.told.+told.Given as goal

abbrev pub invariant-told_rows-loop-part : goal.invariant-told_rows-loop-part
invariant-told_rows-loop-part l = (Z : Sizing) → Tells l.sizes Z → told_rows Z.fields (number_in Z l.findings) (type_in Z l.findings) (sizes_of l.parts) ≡ before put_row l.made.items (told_rows Z.fields (number_in Z l.findings) (type_in Z l.findings) (sizes_of (drop l.part-index l.parts)))
