use Rattle.std.proofs.Common.{refl}
use Rattle.sized_programs.proofs.Rows.{default_integer, default_variable}
use Rattle.sized_programs.proofs.trees.default_tree.Goals as goal

pub returns-in-Integer : goal.returns-in-Integer
returns-in-Integer c = default_integer c.args.node c.args.kind c.tree_made.result _ c.tree_made.ensures refl c.in-Integer.is

pub returns-in_default : goal.returns-in_default
returns-in_default c = default_variable c.args.node c.args.kind c.in_default.not-Integer
