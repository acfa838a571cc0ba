use Rattle.std.proofs.Common.{refl}
use Rattle.unfold_parts.specs.Refused.{no_memory}
use Rattle.unfold_program.specs.Whole.{not_defined}
use Rattle.unfold_program.proofs.Programs.{define_passed, define_kept, define_stuck}
use Rattle.unfold_program.proofs.program.unfold_definition.Goals as goal

pub returns-in-Err-clause-defined : goal.returns-in-Err-clause-defined
returns-in-Err-clause-defined c = not_defined no_memory

pub returns-in-Err-after_exp-clause-defined : goal.returns-in-Err-after_exp-clause-defined
returns-in-Err-after_exp-clause-defined c = not_defined no_memory

pub returns-then-not-reached-clause-defined : goal.returns-then-not-reached-clause-defined
returns-then-not-reached-clause-defined c = define_passed _ _ _ _ _ _ _ _ _ c.if-not-reached.true refl c.in-Ok.ensures c.in-Ok-after_exp.ensures

pub returns-in-Ok-walk-clause-defined : goal.returns-in-Ok-walk-clause-defined
returns-in-Ok-walk-clause-defined c = define_kept _ _ _ _ _ _ _ c.if-not-reached.false _ c.in-Ok.ensures _ _ c.keep.result c.in-Ok-walk.ensures c.keep.ensures.ok c.keep.ensures.err

pub returns-clause-defined : goal.returns-clause-defined
returns-clause-defined c = define_stuck _ _ _ _ _ _ _ c.if-not-reached.false _ c.in-Ok.ensures _ _ _ c.in-Err-walk.ensures
