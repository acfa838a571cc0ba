use Rattle.std.proofs.Common.{refl, ap, ◌∙◌}
use Rattle.size_arena.specs.Trees.{variable_of, type_of, size_of}
use Rattle.size_arena.proofs.Forms.{size_hole, size_open, size_level, size_built, size_fun}
use Rattle.size_settling.proofs.SettleLaws.{settled_variable, settled_as_form}
use Rattle.size_settling.proofs.settling.settle_taken.Goals as goal

pub returns-in-Open : goal.returns-in-Open
returns-in-Open c = settled_variable _ _ (size_of c.args.taken.now) c.in-Open.node (variable_of c.in-Open.variable) (type_of c.in-Open.ty.now) _ (ap size_of c.in-Open.is ∙ size_open _ _ _) c.own_type.ensures

pub returns-in-Hole : goal.returns-in-Hole
returns-in-Hole c = settled_as_form _ (size_of c.args.taken.now) _ (ap size_of c.in-Hole.is ∙ size_hole _) refl

pub returns-in-Level : goal.returns-in-Level
returns-in-Level c = settled_as_form _ (size_of c.args.taken.now) _ (ap size_of c.in-Level.is ∙ size_level _ _ _) refl

pub returns-in-Built : goal.returns-in-Built
returns-in-Built c = settled_as_form _ (size_of c.args.taken.now) _ (ap size_of c.in-Built.is ∙ size_built _ _ _) refl

pub returns-in-Fun : goal.returns-in-Fun
returns-in-Fun c = settled_as_form _ (size_of c.args.taken.now) _ (ap size_of c.in-Fun.is ∙ size_fun _ _ _ _) refl
