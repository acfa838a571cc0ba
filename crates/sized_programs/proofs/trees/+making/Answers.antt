use Rattle.std.proofs.Common.{subst, sym}
use Rattle.sized_programs.specs.Trees.{Are_made}
use Rattle.sized_programs.proofs.Rows.{set_types}
use Rattle.sized_programs.proofs.trees.+making.Goals as goal

pub make-returns : goal.make-returns
make-returns t c = subst (Are_made c.args.nodes.now) (sym c.set.ensures) (set_types c.args.nodes.now c.make_parts.new.made c.args.at c.in_ok-tree.tree c.in_ok-make_parts.ensures c.requires.at c.in_ok-tree.ensures)
