use Rattle.unique_programs.proofs.Rows.{first_ok}
use Rattle.unique_programs.proofs.trees.type_trees.Goals as goal

pub returns : goal.returns
returns c = first_ok c.args.nodes.now c.loop-at.made c.loop-at.invariant.made c.args.count c.row_of_made.result c.row_of_made.ensures.trees c.row_of_made.ensures.long
