use Rattle.told_rows.proofs.testing.number_found.Goals as goal

pub returns : goal.returns
returns c = λ Z w. c.number_in.ensures Z w
