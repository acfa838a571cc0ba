use Rattle.std.proofs.Common.{◌-◌, arith}
use Rattle.alias_loops.proofs.TurnForms.{outside_more, outside_start}
use Rattle.alias_loops.proofs.turns.outside_before.Goals as goal

pub members-init : goal.members-init
members-init c = record { all = outside_start c.args.from c.args.set.now c.args.behind.now; within = omega arith }

pub members-preserved : goal.members-preserved
members-preserved c = record {
  all = outside_more c.args.from c.args.set.now c.args.behind.now c.members.i (c.members.i - 1) _ _ _ _ (omega (arith, c.members-test.true)) c.members.invariant.within c.members.invariant.all c.is_outside-counts.ensures c.in_ok-all.ensures;
  within = omega (arith, c.members.invariant.within);
}
