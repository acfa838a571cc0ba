use Rattle.unfold_program.specs.Answers.{asked_same}
use Rattle.unfold_program.proofs.Branching.{asked_component}
use Rattle.unfold_program.proofs.give.asked.Goals as goal

pub returns-then-packs : goal.returns-then-packs
returns-then-packs c = asked_component _ _ _ _ c.if-packs.true c.component.ensures

pub returns : goal.returns
returns c = asked_same c.if-packs.false
