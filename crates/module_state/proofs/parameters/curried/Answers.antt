use Rattle.std.proofs.Common.{◌-◌, length, refl, arith}
use Rattle.fut_tree.specs.Names.{maybe}
use Rattle.module_state.proofs.Currying.{none_behind, one_behind}
use Rattle.module_state.proofs.parameters.curried.Goals as goal

pub loop-left-init : goal.loop-left-init
loop-left-init c =
    let p = none_behind c.args.at c.args.params.now (maybe c.args.seal) c.args.body.now (length c.args.params.now) refl in
    (p.0, p.1, omega arith)

pub loop-left-preserved : goal.loop-left-preserved
loop-left-preserved c =
    let p = one_behind c.args.at c.args.params.now (maybe c.args.seal) c.args.body.now c.loop-left.left (c.loop-left.left - 1) c.index-params-left.result (maybe c.loop-left.behind.seal) c.loop-left.behind.body.now c.in-Ok.made.now
    (omega (arith, c.loop-left-test.true)) c.loop-left.invariant.2 c.loop-left.invariant.0 c.loop-left.invariant.1 (rw (← c.index-params-left.is) c.in-Ok.ensures.ok) in
    (p.0, p.1, omega (arith, c.loop-left.invariant.2))
