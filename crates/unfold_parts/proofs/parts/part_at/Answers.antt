use Rattle.unfold_parts.proofs.Parting.{part_there, part_nowhere}
use Rattle.unfold_parts.proofs.parts.part_at.Goals as goal

pub returns-in-Some : goal.returns-in-Some
returns-in-Some c = part_there c.args.name.now c.args.parts.now c.in-Some.at _ c.in-Some.ensures

pub returns-in-None : goal.returns-in-None
returns-in-None c = part_nowhere c.args.name.now c.args.parts.now c.in-None.ensures
