use Rattle.told_rows.proofs.ToldForms.{nothing_told}
use Rattle.told_rows.proofs.told.chosen_row.Goals as goal

pub returns : goal.returns
returns c = λ Z w. nothing_told Z c.nothing.result c.args.tree.now c.told_row.result c.nothing.ensures (c.told_row.ensures Z w)
