use Rattle.std.proofs.Common.{◌∙◌, arith}
use Rattle.fut_blocks.proofs.Layers.{extent_of-Nowhere}
use Rattle.told_rows.proofs.AskForms.{bound_outside, bound_there, bound_nowhere}
use Rattle.told_rows.proofs.findings.bound_in.Goals as goal

pub returns-then-from_last-many : goal.returns-then-from_last-many
returns-then-from_last-many c = λ Z w. extent_of-Nowhere ∙ bound_outside Z c.args.sizes.now w c.args.findings.now c.args.between c.args.position (omega (arith, c.if-from_last-many.true))

pub returns-in-Some : goal.returns-in-Some
returns-in-Some c = λ Z w. bound_there Z c.args.sizes.now w c.args.findings.now c.args.between c.args.position _ (omega (arith, c.if-from_last-many.false)) c.in_ok-row.field-0 (c.in_ok-row.ensures Z w) c.in-Some.row c.length_of.result c.in-Some.is c.length_of.ensures

pub returns-in-None : goal.returns-in-None
returns-in-None c = λ Z w. extent_of-Nowhere ∙ bound_nowhere Z c.args.sizes.now w c.args.findings.now c.args.between c.args.position _ (omega (arith, c.if-from_last-many.false)) c.in_ok-row.field-0 (c.in_ok-row.ensures Z w) c.in-None.is
