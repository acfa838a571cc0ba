use Rattle.std.proofs.Common.{refl, ap, ◌∙◌}
use Rattle.size_arena.specs.Trees.{variable_of, type_of, size_of}
use Rattle.size_arena.proofs.Forms.{size_hole, size_open, size_level, size_built, size_fun}
use Rattle.size_slots.specs.Held.{way_of}
use Rattle.size_matching.proofs.CompareForms.{meets_open, meets_form}
use Rattle.size_matching.proofs.Steps.{as_on}
use Rattle.size_matching.proofs.comparing.meet_variable.Goals as goal

pub returns-in-Open : goal.returns-in-Open
returns-in-Open c = as_on _ _ _ _ _ c.open_takes.ensures (λ σ held. meets_open c.args.wanted (way_of c.args.way) c.args.at _ _ c.in-Open.node (variable_of c.in-Open.variable) (type_of c.in-Open.ty.now) (ap size_of c.in-Open.is ∙ size_open _ _ _) σ)

pub returns-in-Hole : goal.returns-in-Hole
returns-in-Hole c = as_on _ _ _ _ _ c.compared.ensures (λ σ held. meets_form c.args.wanted (way_of c.args.way) c.args.at _ _ _ (ap size_of c.in-Hole.is ∙ size_hole _) refl σ)

pub returns-in-Level : goal.returns-in-Level
returns-in-Level c = as_on _ _ _ _ _ c.compared-in-Level.ensures (λ σ held. meets_form c.args.wanted (way_of c.args.way) c.args.at _ _ _ (ap size_of c.in-Level.is ∙ size_level _ _ _) refl σ)

pub returns-in-Built : goal.returns-in-Built
returns-in-Built c = as_on _ _ _ _ _ c.compared-in-Built.ensures (λ σ held. meets_form c.args.wanted (way_of c.args.way) c.args.at _ _ _ (ap size_of c.in-Built.is ∙ size_built _ _ _) refl σ)

pub returns-in-Fun : goal.returns-in-Fun
returns-in-Fun c = as_on _ _ _ _ _ c.compared-in-Fun.ensures (λ σ held. meets_form c.args.wanted (way_of c.args.way) c.args.at _ _ _ (ap size_of c.in-Fun.is ∙ size_fun _ _ _ _) refl σ)
