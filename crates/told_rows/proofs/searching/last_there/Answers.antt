use Rattle.std.proofs.Common.{◌-◌, le_refl, arith}
use Rattle.told_rows.proofs.SearchForms.{last_start, last_found, last_on, last_over}
use Rattle.told_rows.proofs.searching.last_there.Goals as goal

pub loop-at-init : goal.loop-at-init
loop-at-init c = (le_refl _, λ Z w. last_start Z.fields c.args.sought c.args.given.now)

pub returns-in-Some : goal.returns-in-Some
returns-in-Some c = λ Z w. last_found Z.fields c.args.sought c.args.given.now c.loop-at.at (c.loop-at.at - 1) _ (omega (arith, c.loop-at.invariant.0, c.loop-at-test.true)) (omega (arith, c.loop-at-test.true)) (c.loop-at.invariant.1 Z w) c.in_ok-found.found (c.in_ok-found.ensures Z w) _ c.in-Some.is

pub loop-at-preserved : goal.loop-at-preserved
loop-at-preserved c = (omega (arith, c.loop-at.invariant.0), λ Z w. last_on Z.fields c.args.sought c.args.given.now c.loop-at.at (c.loop-at.at - 1) _ (omega (arith, c.loop-at.invariant.0, c.loop-at-test.true)) (omega (arith, c.loop-at-test.true)) (c.loop-at.invariant.1 Z w) c.in_ok-found.found (c.in_ok-found.ensures Z w) c.in_default.is)

pub returns : goal.returns
returns c = λ Z w. last_over Z.fields c.args.sought c.args.given.now c.loop-at.at (omega (arith, c.loop-at-test.false)) (c.loop-at.invariant.1 Z w)
