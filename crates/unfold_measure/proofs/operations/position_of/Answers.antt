use Rattle.unfold_measure.proofs.Making.{same_known}
use Rattle.unfold_measure.proofs.Parts.{part_there, part_nowhere}
use Rattle.unfold_measure.proofs.operations.position_of.Goals as goal

pub returns-in-Some : goal.returns-in-Some
returns-in-Some c = same_known c.index-parts-at.is (part_there c.args.name.now c.args.parts.now c.in-Some.at _ c.in-Some.ensures)

pub returns-in-None : goal.returns-in-None
returns-in-None c = part_nowhere c.args.name.now c.args.parts.now c.in-None.ensures
