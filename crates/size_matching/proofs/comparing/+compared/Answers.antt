use Rattle.std.proofs.Common.{refl, ap, ◌∙◌, get_or}
use Rattle.fut_sizes.specs.Matching.{compared}
use Rattle.size_arena.specs.Trees.{variable_of, type_of, size_of}
use Rattle.size_arena.proofs.Forms.{size_hole, size_open, size_level, size_built, size_fun}
use Rattle.size_matching.proofs.CompareForms.{nothing_compared, left_compared, right_compared, levels_compared, parts_compared, functions_compared, part_compared, parts_end_left, parts_end_right}
use Rattle.size_matching.proofs.Steps.{then_on, stop_on, held_on, as_on, same_on, agree_on, reach_start, reach_more, reach_stop, reach_end}
use Rattle.size_slots.specs.Held.{way_of}
use Rattle.size_matching.proofs.comparing.+compared.Goals as goal

pub compared-returns-in-Open : goal.compared-returns-in-Open
compared-returns-in-Open t c = as_on _ _ _ _ _ c.open_compared.ensures (λ σ held. left_compared _ _ _ _ c.in-Open.node (variable_of c.in-Open.variable) (type_of c.in-Open.ty.now) (ap size_of c.in-Open.is ∙ size_open _ _ _) σ)

pub compared-returns-in-Open-other : goal.compared-returns-in-Open-other
compared-returns-in-Open-other t c = as_on _ _ _ _ _ c.open_compared-in-Open-other.ensures (λ σ held. right_compared _ _ _ _ _ c.in-Open-other.node (variable_of c.in-Open-other.variable) (type_of c.in-Open-other.ty.now) (ap size_of c.in-Hole.is ∙ size_hole _) refl (ap size_of c.in-Open-other.is ∙ size_open _ _ _) σ)

pub compared-returns-in-Hole-other : goal.compared-returns-in-Hole-other
compared-returns-in-Hole-other t c = same_on _ _ (λ σ. nothing_compared _ _ _ _ _ _ (ap size_of c.in-Hole.is ∙ size_hole _) (ap size_of c.in-Hole-other.is ∙ size_hole _) refl σ)

pub compared-returns-in-Level-other : goal.compared-returns-in-Level-other
compared-returns-in-Level-other t c = same_on _ _ (λ σ. nothing_compared _ _ _ _ _ _ (ap size_of c.in-Hole.is ∙ size_hole _) (ap size_of c.in-Level-other.is ∙ size_level _ _ _) refl σ)

pub compared-returns-in-Built-other : goal.compared-returns-in-Built-other
compared-returns-in-Built-other t c = same_on _ _ (λ σ. nothing_compared _ _ _ _ _ _ (ap size_of c.in-Hole.is ∙ size_hole _) (ap size_of c.in-Built-other.is ∙ size_built _ _ _) refl σ)

pub compared-returns-in-Fun-other : goal.compared-returns-in-Fun-other
compared-returns-in-Fun-other t c = same_on _ _ (λ σ. nothing_compared _ _ _ _ _ _ (ap size_of c.in-Hole.is ∙ size_hole _) (ap size_of c.in-Fun-other.is ∙ size_fun _ _ _ _) refl σ)

pub compared-returns-in-Open-other-2 : goal.compared-returns-in-Open-other-2
compared-returns-in-Open-other-2 t c = as_on _ _ _ _ _ c.open_compared-in-Open-other-2.ensures (λ σ held. right_compared _ _ _ _ _ c.in-Open-other-2.node (variable_of c.in-Open-other-2.variable) (type_of c.in-Open-other-2.ty.now) (ap size_of c.in-Level.is ∙ size_level _ _ _) refl (ap size_of c.in-Open-other-2.is ∙ size_open _ _ _) σ)

pub compared-returns-in-Hole-other-2 : goal.compared-returns-in-Hole-other-2
compared-returns-in-Hole-other-2 t c = same_on _ _ (λ σ. nothing_compared _ _ _ _ _ _ (ap size_of c.in-Level.is ∙ size_level _ _ _) (ap size_of c.in-Hole-other-2.is ∙ size_hole _) refl σ)

pub compared-returns-in-Built-other-2 : goal.compared-returns-in-Built-other-2
compared-returns-in-Built-other-2 t c = same_on _ _ (λ σ. nothing_compared _ _ _ _ _ _ (ap size_of c.in-Level.is ∙ size_level _ _ _) (ap size_of c.in-Built-other-2.is ∙ size_built _ _ _) refl σ)

pub compared-returns-in-Fun-other-2 : goal.compared-returns-in-Fun-other-2
compared-returns-in-Fun-other-2 t c = same_on _ _ (λ σ. nothing_compared _ _ _ _ _ _ (ap size_of c.in-Level.is ∙ size_level _ _ _) (ap size_of c.in-Fun-other-2.is ∙ size_fun _ _ _ _) refl σ)

pub compared-returns-in-Open-other-3 : goal.compared-returns-in-Open-other-3
compared-returns-in-Open-other-3 t c = as_on _ _ _ _ _ c.open_compared-in-Open-other-3.ensures (λ σ held. right_compared _ _ _ _ _ c.in-Open-other-3.node (variable_of c.in-Open-other-3.variable) (type_of c.in-Open-other-3.ty.now) (ap size_of c.in-Built.is ∙ size_built _ _ _) refl (ap size_of c.in-Open-other-3.is ∙ size_open _ _ _) σ)

pub compared-returns-in-Hole-other-3 : goal.compared-returns-in-Hole-other-3
compared-returns-in-Hole-other-3 t c = same_on _ _ (λ σ. nothing_compared _ _ _ _ _ _ (ap size_of c.in-Built.is ∙ size_built _ _ _) (ap size_of c.in-Hole-other-3.is ∙ size_hole _) refl σ)

pub compared-returns-in-Level-other-3 : goal.compared-returns-in-Level-other-3
compared-returns-in-Level-other-3 t c = same_on _ _ (λ σ. nothing_compared _ _ _ _ _ _ (ap size_of c.in-Built.is ∙ size_built _ _ _) (ap size_of c.in-Level-other-3.is ∙ size_level _ _ _) refl σ)

pub compared-returns-in-Fun-other-3 : goal.compared-returns-in-Fun-other-3
compared-returns-in-Fun-other-3 t c = same_on _ _ (λ σ. nothing_compared _ _ _ _ _ _ (ap size_of c.in-Built.is ∙ size_built _ _ _) (ap size_of c.in-Fun-other-3.is ∙ size_fun _ _ _ _) refl σ)

pub compared-returns-in-Open-other-4 : goal.compared-returns-in-Open-other-4
compared-returns-in-Open-other-4 t c = as_on _ _ _ _ _ c.open_compared-in-Open-other-4.ensures (λ σ held. right_compared _ _ _ _ _ c.in-Open-other-4.node (variable_of c.in-Open-other-4.variable) (type_of c.in-Open-other-4.ty.now) (ap size_of c.in-Fun.is ∙ size_fun _ _ _ _) refl (ap size_of c.in-Open-other-4.is ∙ size_open _ _ _) σ)

pub compared-returns-in-Hole-other-4 : goal.compared-returns-in-Hole-other-4
compared-returns-in-Hole-other-4 t c = same_on _ _ (λ σ. nothing_compared _ _ _ _ _ _ (ap size_of c.in-Fun.is ∙ size_fun _ _ _ _) (ap size_of c.in-Hole-other-4.is ∙ size_hole _) refl σ)

pub compared-returns-in-Level-other-4 : goal.compared-returns-in-Level-other-4
compared-returns-in-Level-other-4 t c = same_on _ _ (λ σ. nothing_compared _ _ _ _ _ _ (ap size_of c.in-Fun.is ∙ size_fun _ _ _ _) (ap size_of c.in-Level-other-4.is ∙ size_level _ _ _) refl σ)

pub compared-returns-in-Built-other-4 : goal.compared-returns-in-Built-other-4
compared-returns-in-Built-other-4 t c = same_on _ _ (λ σ. nothing_compared _ _ _ _ _ _ (ap size_of c.in-Fun.is ∙ size_fun _ _ _ _) (ap size_of c.in-Built-other-4.is ∙ size_built _ _ _) refl σ)

pub compared-returns-in-Built-other-3 : goal.compared-returns-in-Built-other-3
compared-returns-in-Built-other-3 t c = as_on _ _ _ _ _ c.all_compared.ensures (λ σ held. parts_compared _ _ _ _ _ _ _ _ (ap size_of c.in-Built.is ∙ size_built _ _ _) (ap size_of c.in-Built-other-3.is ∙ size_built _ _ _) σ)

pub compared-returns-in-Fun-other-4 : goal.compared-returns-in-Fun-other-4
compared-returns-in-Fun-other-4 t c = agree_on _ _ _ _ c.agreed.ensures (λ σ. functions_compared _ _ _ _ _ _ _ _ _ _ (ap size_of c.in-Fun.is ∙ size_fun _ _ _ _) (ap size_of c.in-Fun-other-4.is ∙ size_fun _ _ _ _) σ)

pub compared-returns-in-Ok : goal.compared-returns-in-Ok
compared-returns-in-Ok t c = then_on _ _ _ _ _ _ _ _ tt c.in-Ok.is c.sizes_meet.ensures.met c.compared.ensures (λ σ held. levels_compared _ _ _ _ _ _ _ _ (ap size_of c.in-Level.is ∙ size_level _ _ _) (ap size_of c.in-Level-other-2.is ∙ size_level _ _ _) σ)

pub compared-returns-in-Err : goal.compared-returns-in-Err
compared-returns-in-Err t c = stop_on _ _ _ _ _ _ _ c.in-Err.is c.sizes_meet.ensures.met (λ σ held. levels_compared _ _ _ _ _ _ _ _ (ap size_of c.in-Level.is ∙ size_level _ _ _) (ap size_of c.in-Level-other-2.is ∙ size_level _ _ _) σ)

pub all_compared-loop-i-init : goal.all_compared-loop-i-init
all_compared-loop-i-init t c = record { held = c.requires; reached = reach_start _ _ }

pub all_compared-loop-i-preserved : goal.all_compared-loop-i-preserved
all_compared-loop-i-preserved t c = record {
  held = held_on _ _ _ _ tt c.in-Ok.is c.loop-i.invariant.held c.compared.ensures;
  reached = reach_more _ _ _ _ _ c.loop-i.invariant.reached _ _ _ tt c.in-Ok.is (rw (← c.index-taken-i.is, ← c.index-others-i.is) c.compared.ensures) (λ τ. part_compared _ _ _ _ _ c.index-taken-i.result c.index-others-i.result c.loop-i-test.true c.if-i-others.false τ);
}

pub all_compared-returns-in-Err : goal.all_compared-returns-in-Err
all_compared-returns-in-Err t c = reach_stop _ _ c.compared.new.table _ _ c.loop-i.invariant.reached (compared (way_of c.args.way) c.args.at (size_of (get_or c.args.taken.now c.loop-i.i c.index-taken-i.result)) (size_of (get_or c.args.others.now c.loop-i.i c.index-others-i.result)))
    _ c.compared.result c.in-Err.error c.in-Err.is (rw (← c.index-taken-i.is, ← c.index-others-i.is) c.compared.ensures) (λ τ. part_compared _ _ _ _ _ c.index-taken-i.result c.index-others-i.result c.loop-i-test.true c.if-i-others.false τ)

pub all_compared-returns-then-i-others : goal.all_compared-returns-then-i-others
all_compared-returns-then-i-others t c = reach_end _ _ c.args.table.now _ _ c.loop-i.invariant.reached (λ τ. parts_end_right _ _ _ _ _ c.loop-i-test.true c.if-i-others.true τ)

pub all_compared-returns : goal.all_compared-returns
all_compared-returns t c = reach_end _ _ c.args.table.now _ _ c.loop-i.invariant.reached (λ τ. parts_end_left _ _ _ _ _ c.loop-i-test.false τ)
