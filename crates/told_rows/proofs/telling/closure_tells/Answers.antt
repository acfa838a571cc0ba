use Rattle.std.proofs.Common.{length, sym, ◌∙◌, le_refl}
use Rattle.std.proofs.lemmas.Slice.{between_to_end}
use Rattle.size_arena.specs.Trees.{size_of}
use Rattle.told_rows.proofs.TellForms.{closure_short, closure_whole}
use Rattle.told_rows.proofs.telling.closure_tells.Goals as goal

pub returns-then-arguments-many : goal.returns-then-arguments-many
returns-then-arguments-many c = λ Z w. c.unknown.ensures ∙ sym (closure_short Z c.args.function.now c.args.arguments.now c.if-arguments-many.true)

pub returns : goal.returns
returns c = λ Z w. closure_whole Z c.args.function.now c.args.arguments.now c.in_ok-given.given.now (size_of c.in_ok-tree.tree.now) _ _ c.result_row.result c.in_ok-node.ensures (c.in_ok-given.ensures Z w) (c.in_ok-tree.ensures ∙ sym (w.nodes c.args.function.now.first)) (between_to_end c.args.arguments.now (length c.args.function.now.parameters.now) (length c.args.arguments.now) (le_refl _)) (c.result_row.ensures Z w)
