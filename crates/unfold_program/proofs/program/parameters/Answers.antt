use Rattle.std.proofs.Common.{refl}
use Rattle.unfold_program.proofs.Programs.{given_ok, given_unnamed, given_err, given_tuple}
use Rattle.unfold_program.proofs.program.parameters.Goals as goal

pub returns-in-Err-clause-given : goal.returns-in-Err-clause-given
returns-in-Err-clause-given c = given_err _ _ _ _ c.in-Err.ensures.err

pub returns-in-Err-fresh-clause-given : goal.returns-in-Err-fresh-clause-given
returns-in-Err-fresh-clause-given c = given_unnamed _ _ c.in-Ok.row c.in-Ok.ensures.ok refl _ _ _ _ _ c.in-Err-fresh.ensures.fresh

pub returns-clause-given : goal.returns-clause-given
returns-clause-given c = given_ok _ _ c.in-Ok.row c.in-Ok.ensures.ok refl _ _ _ _ c.in-Ok-fresh.ensures.fresh c.in-Tuple.is

pub unreachable-requires : goal.unreachable-requires
unreachable-requires c = given_tuple _ _ c.in-Ok.row c.in-Ok.ensures.ok refl _ _ _ c.in-Ok-fresh.ensures.fresh c.in_default.not-Tuple
