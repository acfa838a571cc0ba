use Rattle.std.proofs.Common.{sym, ◌∙◌}
use Rattle.fut_blocks.specs.Rows.{row_of}
use Rattle.told_rows.proofs.SearchForms.{hole_there, open_there, level_there, built_there, not_known, not_given, given_there}
use Rattle.told_rows.proofs.searching.results_there.Goals as goal

pub returns-then-not-is_known : goal.returns-then-not-is_known
returns-then-not-is_known c = λ Z w. not_known Z.fields c.args.sought (row_of c.args.row.now) c.args.tree.now _ _ _ _ c.in-Fun.is (sym c.if-not-is_known.true ∙ c.is_known.ensures)

pub returns-then-not-gives_chosen : goal.returns-then-not-gives_chosen
returns-then-not-gives_chosen c = λ Z w. not_given Z.fields c.args.sought (row_of c.args.row.now) c.args.tree.now _ _ _ _ c.in-Fun.is (sym c.if-not-is_known.false ∙ c.is_known.ensures) (sym c.if-not-gives_chosen.true ∙ c.gives_chosen.ensures)

pub returns-else-not-gives_chosen : goal.returns-else-not-gives_chosen
returns-else-not-gives_chosen c = λ Z w. given_there Z.fields c.args.sought (row_of c.args.row.now) c.args.tree.now _ _ _ _ c.in-Fun.is (sym c.if-not-is_known.false ∙ c.is_known.ensures) c.there.result (sym c.if-not-gives_chosen.false ∙ c.gives_chosen.ensures) (c.there.ensures Z w)

pub returns-in-Hole : goal.returns-in-Hole
returns-in-Hole c = λ Z w. hole_there Z.fields c.args.sought (row_of c.args.row.now) c.args.tree.now _ c.in-Hole.is

pub returns-in-Open : goal.returns-in-Open
returns-in-Open c = λ Z w. open_there Z.fields c.args.sought (row_of c.args.row.now) c.args.tree.now _ _ _ c.in-Open.is

pub returns-in-Level : goal.returns-in-Level
returns-in-Level c = λ Z w. level_there Z.fields c.args.sought (row_of c.args.row.now) c.args.tree.now _ _ _ c.in-Level.is

pub returns-in-Built : goal.returns-in-Built
returns-in-Built c = λ Z w. built_there Z.fields c.args.sought (row_of c.args.row.now) c.args.tree.now _ _ _ c.in-Built.is
