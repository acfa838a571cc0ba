use Rattle.std.proofs.Common.{refl}
use Rattle.elab_exps.proofs.ListItems.{listed}
use Rattle.elab_exps.proofs.lists.range_exps.Goals as goal

pub returns-in-None : goal.returns-in-None
returns-in-None c = rw c.in-None.is c.two_exps.ensures

pub returns-in-Some : goal.returns-in-Some
returns-in-Some c = rw c.in-Some.is (listed refl c.held_exps.ensures)
