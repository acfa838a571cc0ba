use Rattle.std.proofs.Common.{sym, ◌∙◌}
use Rattle.unfold.specs.Held.{known_of}
use Rattle.unfold.specs.Telling.{tells}
use Rattle.told_rows.proofs.TellForms.{hole_results, open_results, level_results, built_results, unknown_results, untold_results, told_results}
use Rattle.told_rows.proofs.telling.results_row.Goals as goal

pub returns-then-not-is_known : goal.returns-then-not-is_known
returns-then-not-is_known c = λ Z w. unknown_results Z.fields (tells Z (known_of c.args.known.now)) c.args.tree.now _ _ _ _ c.in-Fun.is c.unknown.result.now c.unknown.ensures (sym c.if-not-is_known.true ∙ c.is_known.ensures)

pub returns-then-not-gives_chosen : goal.returns-then-not-gives_chosen
returns-then-not-gives_chosen c = λ Z w. untold_results Z.fields (tells Z (known_of c.args.known.now)) c.args.tree.now _ _ _ _ c.in-Fun.is (sym c.if-not-is_known.false ∙ c.is_known.ensures) c.unknown-then-not-gives_chosen.result.now c.unknown-then-not-gives_chosen.ensures (sym c.if-not-gives_chosen.true ∙ c.gives_chosen.ensures)

pub returns-in_ok-taken-in-Fun : goal.returns-in_ok-taken-in-Fun
returns-in_ok-taken-in-Fun c = λ Z w. told_results Z.fields (tells Z (known_of c.args.known.now)) c.args.tree.now _ _ _ _ c.in-Fun.is (sym c.if-not-is_known.false ∙ c.is_known.ensures) c.in_ok-taken-in-Fun.taken _ c.tells.result (sym c.if-not-gives_chosen.false ∙ c.gives_chosen.ensures) (c.in_ok-taken-in-Fun.ensures Z w) c.from_ref.ensures.value (c.tells.ensures Z w)

pub returns-in-Hole : goal.returns-in-Hole
returns-in-Hole c = λ Z w. hole_results Z.fields (tells Z (known_of c.args.known.now)) c.args.tree.now c.unknown-in-Hole.result.now c.unknown-in-Hole.ensures _ c.in-Hole.is

pub returns-in-Open : goal.returns-in-Open
returns-in-Open c = λ Z w. open_results Z.fields (tells Z (known_of c.args.known.now)) c.args.tree.now c.unknown-in-Open.result.now c.unknown-in-Open.ensures _ _ _ c.in-Open.is

pub returns-in-Level : goal.returns-in-Level
returns-in-Level c = λ Z w. level_results Z.fields (tells Z (known_of c.args.known.now)) c.args.tree.now c.unknown-in-Level.result.now c.unknown-in-Level.ensures _ _ _ c.in-Level.is

pub returns-in-Built : goal.returns-in-Built
returns-in-Built c = λ Z w. built_results Z.fields (tells Z (known_of c.args.known.now)) c.args.tree.now c.unknown-in-Built.result.now c.unknown-in-Built.ensures _ _ _ c.in-Built.is
