use Rattle.unfold_reach.proofs.SizeForms.{told_some}
use Rattle.unfold_reach.proofs.sizes.note_told.Goals as goal

pub returns-in-Some : goal.returns-in-Some
returns-in-Some c = told_some _ _ _ _ _ _ c.in-Some.is c.note_nodes.ensures
