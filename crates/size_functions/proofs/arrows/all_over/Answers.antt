use Rattle.std.proofs.Common.{◌-◌, length, arith}
use Rattle.size_arena.specs.Trees.{size_of}
use Rattle.size_functions.proofs.ArrowForms.{last_over, more_over}
use Rattle.size_functions.proofs.arrows.all_over.Goals as goal

pub loop-at-init : goal.loop-at-init
loop-at-init c = record {
  within = omega (arith, c.if-arrows-eq0.false);
  made = last_over c.args.from c.args.to c.args.arrows.now (size_of c.args.body.now) (length c.args.arrows.now - 1) _ _ (omega (arith, c.if-arrows-eq0.false)) c.in_ok-made.ensures;
}

pub loop-at-preserved : goal.loop-at-preserved
loop-at-preserved c = record {
  within = omega (arith, c.loop-at.invariant.within);
  made = more_over c.args.from c.args.to c.args.arrows.now (size_of c.args.body.now) c.loop-at.at (c.loop-at.at - 1) _ _ _ (omega (arith, c.loop-at-test.true)) c.loop-at.invariant.within c.loop-at.invariant.made c.in_ok-made-2.ensures;
}
