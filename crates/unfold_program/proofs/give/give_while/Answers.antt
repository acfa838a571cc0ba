use Rattle.fut_blocks.proofs.Layers.{action_of-While}
use Rattle.unfold_program.proofs.Growing.{stepped_as}
use Rattle.unfold_program.proofs.give.give_while.Goals as goal

pub returns : goal.returns
returns c = stepped_as _ _ _ _ _ _ _ (action_of-While _ _ _ _ _) c.give.ensures
