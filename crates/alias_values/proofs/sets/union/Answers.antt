use Rattle.std.proofs.Common.{◌-◌, arith}
use Rattle.alias_values.proofs.SetForms.{union_more}
use Rattle.alias_values.proofs.sets.union.Goals as goal

pub members-preserved : goal.members-preserved
members-preserved c = (
  union_more c.args.left.now c.args.right.now _ c.members.i c.members.invariant.0 (c.members.i - 1) _ _ (omega (arith, c.members-test.true)) c.members.invariant.1 c.in_ok-all.ensures,
  omega (arith, c.members.invariant.1),
)
