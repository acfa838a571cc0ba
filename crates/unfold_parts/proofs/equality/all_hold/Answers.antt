use Rattle.std.proofs.Common.{length, le_refl, arith}
use Rattle.unfold_parts.specs.States.{steps_of}
use Rattle.unfold_parts.proofs.Equating.{held_start, held_on, held_end, held_err}
use Rattle.unfold_parts.proofs.equality.all_hold.Goals as goal

pub loop-at-init : goal.loop-at-init
loop-at-init c = (le_refl _, held_start c.args.truths.now c.args.work.now.next (steps_of c.args.work.now) (length c.args.truths.now) (le_refl _))

pub loop-at-preserved : goal.loop-at-preserved
loop-at-preserved c = (omega (arith, c.loop-at.invariant.0), held_on _ _ _ _ c.loop-at.at _ _ _ _ _ _ _ (omega (arith, c.loop-at.invariant.0, c.loop-at-test.true)) (omega (arith, c.loop-at-test.true)) c.loop-at.invariant.1 c.in-Ok.ensures)

pub returns : goal.returns
returns c = held_end _ _ _ c.loop-at.at _ _ _ (omega (arith, c.loop-at-test.false)) c.loop-at.invariant.1

pub returns-in-Err : goal.returns-in-Err
returns-in-Err c = held_err _ _ _ _ _ _ _ _ _ c.in-Err.ensures
