use Rattle.std.proofs.Common.{arith}
use Rattle.alias_patterns.proofs.PlaceForms.{spread_more, spread_end}
use Rattle.alias_patterns.proofs.placing.spread_row.Goals as goal

pub loop-ty-preserved : goal.loop-ty-preserved
loop-ty-preserved c = spread_more c.args.starred c.args.types.now c.loop-ty.ty-index c.loop-ty.row.items c.push.new.self.items c.ty-item.result c.in_ok-stars.stars.now c.loop-ty.invariant c.loop-ty-test.true (rw (← c.ty-item.is) c.in_ok-stars.ensures) c.in_ok-push.ensures.items

pub returns : goal.returns
returns c = spread_end c.args.starred c.args.types.now c.loop-ty.ty-index c.loop-ty.row.items c.loop-ty.invariant (omega (arith, c.loop-ty-test.false))
