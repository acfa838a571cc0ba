use Rattle.unfold_reach.proofs.SizeForms.{Parts_noted}
use Rattle.unfold_reach.proofs.sizes.+tree.Given as goal

abbrev pub invariant-note_trees-loop-tree : goal.invariant-note_trees-loop-tree
invariant-note_trees-loop-tree l = Parts_noted l.trees l.fn.named l.named l.tree-index
