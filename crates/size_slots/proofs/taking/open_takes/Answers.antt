use Rattle.std.proofs.Common.{refl, ap, ◌∙◌}
use Rattle.size_arena.specs.Trees.{variable_of, type_of, size_of}
use Rattle.size_arena.proofs.Forms.{size_hole, size_open, size_level, size_built, size_fun}
use Rattle.size_slots.specs.Held.{way_of}
use Rattle.size_slots.proofs.TakeLaws.{takes_variable, takes_a_form}
use Rattle.size_slots.proofs.taking.open_takes.Goals as goal

pub returns-in-Open : goal.returns-in-Open
returns-in-Open c = takes_variable _ _ c.args.wanted (way_of c.args.way) c.args.at c.args.node (variable_of c.args.variable) _ c.in-Open.there (variable_of c.in-Open.found) (type_of c.in-Open.ty.now) _ (ap size_of c.in-Open.is ∙ size_open _ _ _) c.take_variable.ensures

pub returns-in-Hole : goal.returns-in-Hole
returns-in-Hole c = takes_a_form _ _ c.args.wanted (way_of c.args.way) c.args.at c.args.node (variable_of c.args.variable) _ _ _ (ap size_of c.in-Hole.is ∙ size_hole _) refl c.take_formed.ensures

pub returns-in-Level : goal.returns-in-Level
returns-in-Level c = takes_a_form _ _ c.args.wanted (way_of c.args.way) c.args.at c.args.node (variable_of c.args.variable) _ _ _ (ap size_of c.in-Level.is ∙ size_level _ _ _) refl c.take_formed-in-Level.ensures

pub returns-in-Built : goal.returns-in-Built
returns-in-Built c = takes_a_form _ _ c.args.wanted (way_of c.args.way) c.args.at c.args.node (variable_of c.args.variable) _ _ _ (ap size_of c.in-Built.is ∙ size_built _ _ _) refl c.take_formed-in-Built.ensures

pub returns-in-Fun : goal.returns-in-Fun
returns-in-Fun c = takes_a_form _ _ c.args.wanted (way_of c.args.way) c.args.at c.args.node (variable_of c.args.variable) _ _ _ (ap size_of c.in-Fun.is ∙ size_fun _ _ _ _) refl c.take_formed-in-Fun.ensures
