use Rattle.told_rows.proofs.AskForms.{var_frame, var_given, var_entered}
use Rattle.told_rows.proofs.findings.type_in.Goals as goal

pub returns-in-Some : goal.returns-in-Some
returns-in-Some c = λ Z w. var_frame Z c.args.sizes.now w c.args.findings.now c.args.variable c.in_ok-row.field-0 (c.in_ok-row.ensures Z w) c.in-Some.row c.in-Some.is

pub returns-in-Some-2 : goal.returns-in-Some-2
returns-in-Some-2 c = λ Z w. var_given Z c.args.sizes.now w c.args.findings.now c.args.variable c.in_ok-row.field-0 (c.in_ok-row.ensures Z w) c.in_default.is c.in_ok-row-2.field-0 (c.in_ok-row-2.ensures Z w) c.in-Some-2.row c.in-Some-2.is

pub returns-in-None : goal.returns-in-None
returns-in-None c = λ Z w. var_entered Z c.args.sizes.now w c.args.findings.now c.args.variable c.in_ok-row.field-0 (c.in_ok-row.ensures Z w) c.in_default.is c.in_ok-row-2.field-0 (c.in_ok-row-2.ensures Z w) c.type_found.result c.in-None.is (c.type_found.ensures Z w)
