use Rattle.typed_programs.proofs.Names.{rising}
use Rattle.typed_programs.proofs.definitions.numbers_rise.Goals as goal

pub returns-clause-built : goal.returns-clause-built
returns-clause-built c r = rising c.args.definitions.now c.loop-at.at c.loop-at-test.false c.loop-at.invariant.rising
