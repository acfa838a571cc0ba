use Rattle.std.proofs.Common.{◌∙◌}
use Rattle.uniqueness.specs.Answers.{no_memory}
use Rattle.alias_values.specs.Trees.{value_of}
use Rattle.alias_applications.proofs.PartForms.{whole_done}
use Rattle.alias_applications.proofs.parts.whole.Goals as goal

pub returns-in_default : goal.returns-in_default
returns-in_default c = λ naming N K e n. no_memory

pub returns : goal.returns
returns c = λ naming N K e n. whole_done naming N K e c.args.told.node (value_of c.args.value.now) c.args.losses.now c.args.program.now.types.now c.hold.result c.in-Ok.ty c.into_bump_slice.result (c.hold.ensures e n) c.in-Ok.ensures (c.into_bump_slice.ensures ∙ c.new.ensures.items)
