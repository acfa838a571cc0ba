use Rattle.std.proofs.Common.{arith}
use Rattle.alias_patterns.proofs.PlaceForms.{type_found, type_short, type_nowhere}
use Rattle.alias_patterns.proofs.placing.type_in.Goals as goal

pub returns-then-at-types : goal.returns-then-at-types
returns-then-at-types c = λ p t. type_found c.args.types.now c.args.place p t c.in-Some.at c.index-types-at.result c.in-Some.is c.if-at-types.true c.index-types-at.is

pub returns-else-at-types : goal.returns-else-at-types
returns-else-at-types c = λ p t. type_short c.args.types.now c.args.place p t c.in-Some.at c.in-Some.is (omega (arith, c.if-at-types.false))

pub returns-in-None : goal.returns-in-None
returns-in-None c = λ p t. type_nowhere c.args.types.now c.args.place p t c.in-None.is c.in_ok-short.ensures
