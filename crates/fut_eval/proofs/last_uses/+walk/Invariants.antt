use Rattle.std.proofs.Common.{◌+◌, ◌*◌, max}
use Rattle.fut_blocks.specs.declared.block.Act.{size-Act}
use Rattle.fut_blocks.specs.declared.block.Block.{size-Block}
use Rattle.fut_blocks.specs.declared.block.Step.{size-Step}
use Rattle.fut_eval.proofs.last_uses.+walk.Given as goal

abbrev pub decreases-walk_block : goal.decreases-walk_block
decreases-walk_block l = 9 * size-Block l.block.now + 2

abbrev pub decreases-walk_step : goal.decreases-walk_step
decreases-walk_step l = 9 * size-Step l.step.now + 1

abbrev pub decreases-walk_act : goal.decreases-walk_act
decreases-walk_act l = 9 * size-Act l.act.now

abbrev pub decreases-walk_branches : goal.decreases-walk_branches
decreases-walk_branches l = 9 * max (size-Block l.yes.now) (size-Block l.no.now) + 3
