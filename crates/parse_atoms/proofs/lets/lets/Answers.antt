-- The turns of the loop are those of the reading.
use Rattle.std.proofs.Common.{arith}
use Rattle.fut_tree.proofs.Pushed.{binds_push}
use Rattle.fut_grammar.proofs.Turns.{lets_spent}
use Rattle.parse_atoms.proofs.RowLaws.{row_ends, row_fails, row_goes_on}
use Rattle.parse_atoms.proofs.lets.lets.Goals as goal

pub returns-in-Err-clause-exact : goal.returns-in-Err-clause-exact
returns-in-Err-clause-exact g c = row_fails _ _ _ _ _ _ _ _ c.lets.invariant.0 c.in-Err.stop c.lets-test.true c.in-Err.ensures.exact

pub returns-then-item-clause-exact : goal.returns-then-item-clause-exact
returns-then-item-clause-exact g c =
    let last = rw c.if-item.true at c.in-Ok.ensures.exact in
    let r = row_ends _ _ _ _ _ _ _ _ c.lets.invariant.0 _ _ _ c.lets-test.true last in
    rw (c.into_bump_slice.ensures, c.in-Ok-push.ensures.items, binds_push c.lets.all.items c.in-Ok.item.tree.bind, c.greater-height.ensures) r

pub returns-then-item-clause-low : goal.returns-then-item-clause-low
returns-then-item-clause-low g c = omega (arith, c.greater-height.ensures, c.in-Ok.ensures.low, c.lets.invariant.1)

pub lets-preserved : goal.lets-preserved
lets-preserved g c =
    let more = rw c.if-item.false at c.in-Ok.ensures.exact in
    let r = row_goes_on _ _ _ _ _ _ _ _ c.lets.invariant.0 _ _ _ c.lets-test.true more in
    (rw (c.in-Ok-push.ensures.items, binds_push c.lets.all.items c.in-Ok.item.tree.bind, c.greater-height.ensures) r, omega (arith, c.in-Ok.ensures.low))

pub returns-clause-exact : goal.returns-clause-exact
returns-clause-exact g c = rw c.refused.ensures (lets_spent _ _ _ _ _ _ _ _ c.lets.invariant.0 c.lets-test.false)
