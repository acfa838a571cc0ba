use Rattle.std.proofs.Common.{None}
use Rattle.fut_blocks.specs.Rows.{row_of}
use Rattle.size_arena.specs.Trees.{size_of}
use Rattle.told_rows.proofs.SearchForms.{place_found, place_none}
use Rattle.told_rows.proofs.searching.there.Goals as goal

pub returns-in_ok-part-in-Some : goal.returns-in_ok-part-in-Some
returns-in_ok-part-in-Some c = λ Z w. place_found Z.fields c.args.sought (size_of c.args.tree.now) (row_of c.args.row.now) None c.in_ok-path.field-0 (c.in_ok-path.ensures Z w) c.in-Some.path _ c.in-Some.is c.in_ok-part-in-Some.ensures

pub returns-in-None : goal.returns-in-None
returns-in-None c = λ Z w. place_none Z.fields c.args.sought (size_of c.args.tree.now) (row_of c.args.row.now) None c.in_ok-path.field-0 (c.in_ok-path.ensures Z w) c.in-None.is
