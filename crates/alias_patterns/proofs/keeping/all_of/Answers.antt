use Rattle.std.proofs.Common.{◌-◌, arith}
use Rattle.alias_patterns.proofs.KeepForms.{sets_more}
use Rattle.alias_patterns.proofs.keeping.all_of.Goals as goal

pub sets-preserved : goal.sets-preserved
sets-preserved c = (
  sets_more c.args.sets.now c.sets.i (c.sets.i - 1) c.sets.all.now c.in_ok-all.all.now _ (omega (arith, c.sets-test.true)) c.sets.invariant.1 c.sets.invariant.0 c.in_ok-all.ensures,
  omega (arith, c.sets.invariant.1),
)
