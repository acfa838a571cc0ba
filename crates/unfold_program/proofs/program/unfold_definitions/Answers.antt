use Rattle.std.proofs.Common.{false, get_or, refl, ap, arith}
use Rattle.unfold_program.proofs.Programs.{from_start, from_more, from_done, from_err}
use Rattle.unfold_program.proofs.program.unfold_definitions.Goals as goal

pub loop-definition-init : goal.loop-definition-init
loop-definition-init c = (from_start _ _ _ _ _ c.nothing-seen.ensures c.requires.none, refl, c.requires.kept)

pub loop-definition-preserved : goal.loop-definition-preserved
loop-definition-preserved c = (from_more _ _ _ _ _ _ _ _ _ _ _ _ _ _ c.loop-definition-test.true c.requires.flags (ap (λ z. get_or c.args.flags.now z false) c.loop-definition.invariant.1) c.loop-definition.invariant.0 c.in-Ok.ensures.defined, omega (arith, c.loop-definition.invariant.1), c.in-Ok.ensures.kept)

pub returns-clause-defined : goal.returns-clause-defined
returns-clause-defined c = from_done _ _ _ _ _ _ _ _ (omega (arith, c.loop-definition-test.false)) c.loop-definition.invariant.0

pub returns-in-Err-clause-defined : goal.returns-in-Err-clause-defined
returns-in-Err-clause-defined c = from_err _ _ _ _ _ _ _ _ _ _ _ _ _ _ c.loop-definition-test.true c.requires.flags (ap (λ z. get_or c.args.flags.now z false) c.loop-definition.invariant.1) c.loop-definition.invariant.0 c.in-Err.ensures.defined
