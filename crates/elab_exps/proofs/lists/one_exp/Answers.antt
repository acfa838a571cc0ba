use Rattle.std.proofs.Common.{refl}
use Rattle.elab_exps.proofs.ListItems.{listed}
use Rattle.elab_exps.proofs.lists.one_exp.Goals as goal

pub returns : goal.returns
returns c = listed refl c.held_exps.ensures
