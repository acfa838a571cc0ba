use Rattle.told_rows.proofs.AskForms.{free_given, free_entered}
use Rattle.told_rows.proofs.findings.free_in.Goals as goal

pub returns-in-Some : goal.returns-in-Some
returns-in-Some c = λ Z w. free_given Z c.args.sizes.now w c.args.findings.now c.args.size c.in_ok-row.field-0 (c.in_ok-row.ensures Z w) c.in-Some.row c.length_of.result c.in-Some.is c.length_of.ensures

pub returns-in-None : goal.returns-in-None
returns-in-None c = λ Z w. free_entered Z c.args.sizes.now w c.args.findings.now c.args.size c.in_ok-row.field-0 (c.in_ok-row.ensures Z w) c.size_found.result c.in-None.is (c.size_found.ensures Z w)
