use Rattle.alias_applications.proofs.PartForms.{held_done}
use Rattle.alias_applications.proofs.parts.hold.Goals as goal

pub returns : goal.returns
returns c = λ e n. held_done e c.args.told c.args.losses.now n c.args.value c.len.result c.len.ensures
