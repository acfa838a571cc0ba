use Rattle.std.proofs.Common.{◌∙◌}
use Rattle.fut_blocks.proofs.Layers.{extent_of-Exactly}
use Rattle.told_rows.proofs.AskForms.{number_const, number_free, number_bound}
use Rattle.told_rows.proofs.findings.number_in.Goals as goal

pub returns-in-Const : goal.returns-in-Const
returns-in-Const c = λ Z w. extent_of-Exactly _ ∙ number_const Z c.args.sizes.now w c.args.findings.now c.args.dim _ _ c.in-At.is c.in-Const.is

pub returns-in_default : goal.returns-in_default
returns-in_default c = λ Z w. number_free Z c.args.sizes.now w c.args.findings.now c.args.dim _ c.free_in.result c.in-At.is c.in_default.not-Const (c.free_in.ensures Z w)

pub returns-in-Bound : goal.returns-in-Bound
returns-in-Bound c = λ Z w. number_bound Z c.args.sizes.now w c.args.findings.now c.args.dim _ _ c.bound_in.result c.in-Bound.is (c.bound_in.ensures Z w)
