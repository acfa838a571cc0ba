use Rattle.sized_programs.proofs.Rows.{first_types}
use Rattle.sized_programs.proofs.trees.type_trees.Goals as goal

pub returns : goal.returns
returns c = first_types c.args.nodes.now c.loop-at.made c.loop-at.invariant c.args.count c.in_ok-trees.trees.now c.in_ok-trees.ensures.trees c.in_ok-trees.ensures.long
