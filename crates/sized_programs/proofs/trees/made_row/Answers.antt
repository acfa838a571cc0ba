use Rattle.std.proofs.Common.{ap, length}
use Rattle.sized_programs.proofs.Rows.{long_more, no_row, row_pushed}
use Rattle.sized_programs.proofs.trees.made_row.Goals as goal

pub loop-i-init : goal.loop-i-init
loop-i-init c = record { trees = no_row c.args.made.now c.args.first c.new-row.result.items c.new-row.ensures.items; long = ap length c.new-row.ensures.items }

pub loop-i-preserved : goal.loop-i-preserved
loop-i-preserved c = record {
  trees = row_pushed c.args.made.now c.args.first c.loop-i.i c.in-Some.at c.loop-i.row.items c.push.new.self.items c.in_ok-tree.tree c.loop-i.invariant.trees c.loop-i.invariant.long c.in-Some.ensures.1 c.in_ok-tree.ensures c.in_ok-push.ensures.items;
  long = long_more c.loop-i.i c.loop-i.row.items c.push.new.self.items c.in_ok-tree.tree c.in_ok-push.ensures.items c.loop-i.invariant.long;
}
