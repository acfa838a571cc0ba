use Rattle.std.proofs.Common.{arith}
use Rattle.alias_values.specs.Trees.{stars_of}
use Rattle.alias_patterns.proofs.StarForms.{result_more, result_leaf, result_row, result_end}
use Rattle.alias_patterns.proofs.stars.result_stars.Goals as goal

pub loop-i-preserved : goal.loop-i-preserved
loop-i-preserved c = result_more c.args.parameters.now (stars_of c.args.stars.now) c.loop-i.i c.loop-i.rest.now c.loop-i.invariant c.in-Arrow.field-0 c.in-Arrow.field-1 c.in-Arrow.to c.loop-i-test.true c.in-Arrow.is

pub returns-in-Leaf : goal.returns-in-Leaf
returns-in-Leaf c = result_leaf c.args.parameters.now (stars_of c.args.stars.now) c.loop-i.i c.loop-i.rest.now c.loop-i.invariant c.in-Leaf.field-0 _ c.loop-i-test.true c.in-Leaf.is c.in_ok-none-in-Leaf.ensures

pub returns-in-Row : goal.returns-in-Row
returns-in-Row c = result_row c.args.parameters.now (stars_of c.args.stars.now) c.loop-i.i c.loop-i.rest.now c.loop-i.invariant c.in-Row.field-0 _ c.loop-i-test.true c.in-Row.is c.in_ok-none-in-Row.ensures

pub returns : goal.returns
returns c = result_end c.args.parameters.now (stars_of c.args.stars.now) c.loop-i.i c.loop-i.rest.now c.loop-i.invariant (omega (arith, c.loop-i-test.false))
