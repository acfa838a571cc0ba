use Rattle.std.proofs.Common.{arith}
use Rattle.unfold_reach.proofs.SizeForms.{tree_hole, tree_open, tree_level, tree_built, tree_fun, parts_more, parts_done}
use Rattle.unfold_reach.proofs.sizes.+tree.Goals as goal

pub note_tree-returns-in-Hole : goal.note_tree-returns-in-Hole
note_tree-returns-in-Hole t c = tree_hole _ _ _ c.in-Hole.is

pub note_tree-returns-in-Open : goal.note_tree-returns-in-Open
note_tree-returns-in-Open t c = tree_open _ _ _ _ _ c.in-Open.is

pub note_tree-returns-in-Built : goal.note_tree-returns-in-Built
note_tree-returns-in-Built t c = tree_built _ _ _ _ _ _ c.in-Built.is c.note_trees.ensures

pub note_tree-returns-in-Level : goal.note_tree-returns-in-Level
note_tree-returns-in-Level t c = tree_level _ _ _ _ _ _ _ c.in-Level.is c.note_dim.ensures c.note_tree.ensures

pub note_tree-returns-in-Fun : goal.note_tree-returns-in-Fun
note_tree-returns-in-Fun t c = tree_fun _ _ _ _ _ _ _ _ c.in-Fun.is c.note_tree-in-Fun.ensures c.note_tree-in-Fun-2.ensures

pub note_trees-loop-tree-preserved : goal.note_trees-loop-tree-preserved
note_trees-loop-tree-preserved t c = parts_more c.args.trees.now _ _ c.loop-tree.tree-index c.tree-item.result _ c.loop-tree-test.true c.loop-tree.invariant (rw (← c.tree-item.is) c.note_tree.ensures)

pub note_trees-returns : goal.note_trees-returns
note_trees-returns t c = parts_done _ _ _ _ (omega (arith, c.loop-tree-test.false)) c.loop-tree.invariant
