use Rattle.sized_programs.proofs.trees.tree_of_row.Goals as goal

pub returns : goal.returns
returns c = record { row = c.in_ok-parts.parts.now; is = c.tree_made.ensures; trees = c.in_ok-parts.ensures.trees; long = c.in_ok-parts.ensures.long }
