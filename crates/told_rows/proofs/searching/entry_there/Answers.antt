use Rattle.std.proofs.Common.{ap, ◌∙◌}
use Rattle.fut_blocks.specs.Rows.{row_of}
use Rattle.size_arena.specs.Trees.{size_of}
use Rattle.unfold.specs.Held.{known_of}
use Rattle.unfold.specs.Telling.{at_row, known_row}
use Rattle.told_rows.specs.Places.{path_of, results_there}
use Rattle.told_rows.proofs.SearchForms.{place_found, place_none, row_as}
use Rattle.told_rows.proofs.searching.entry_there.Goals as goal

pub returns-in_ok-part-in-Some : goal.returns-in_ok-part-in-Some
returns-in_ok-part-in-Some c = λ Z w. place_found Z.fields c.args.sought (size_of c.args.tree.now) (known_row (known_of c.args.known.now)) (results_there Z.fields c.args.sought (size_of c.args.tree.now) (row_of c.args.told.now)) c.in_ok-path.field-0 (c.in_ok-path.ensures Z w) c.in-Some.path _ c.in-Some.is (c.in_ok-part-in-Some.ensures ∙ ap (at_row (path_of c.in-Some.path.now)) c.in_ok-row-in-Some.ensures)

pub returns-in-None : goal.returns-in-None
returns-in-None c = λ Z w. row_as c.results_there.result _ _ (c.results_there.ensures Z w) (place_none Z.fields c.args.sought (size_of c.args.tree.now) (known_row (known_of c.args.known.now)) (results_there Z.fields c.args.sought (size_of c.args.tree.now) (row_of c.args.told.now)) c.in_ok-path.field-0 (c.in_ok-path.ensures Z w) c.in-None.is)
