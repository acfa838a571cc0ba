use Rattle.std.proofs.Common.{arith}
use Rattle.alias_patterns.proofs.PlaceForms.{star_put, star_past, star_nowhere}
use Rattle.alias_patterns.proofs.placing.put_star.Goals as goal

pub returns-then-at-len : goal.returns-then-at-len
returns-then-at-len c = λ p t. star_past c.args.row.now.items c.args.stars.now c.args.place p t c.in-Some.at c.in-Some.is (omega (arith, c.if-at-len.true, c.len-in-Some.ensures))

pub returns-else-at-len : goal.returns-else-at-len
returns-else-at-len c = λ p t. star_put c.args.row.now.items c.args.stars.now c.args.place p t c.in-Some.at c.in-Some.is (omega (arith, c.if-at-len.false, c.len-in-Some.ensures))

pub returns-in-None : goal.returns-in-None
returns-in-None c = λ p t. star_nowhere c.args.row.now.items c.args.stars.now c.args.place p t c.in-None.is (omega (arith, c.in_ok-short.ensures, c.len.ensures))
