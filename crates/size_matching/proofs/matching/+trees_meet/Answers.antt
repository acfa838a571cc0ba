use Rattle.std.proofs.Common.{refl, ap, ◌∙◌, get_or}
use Rattle.std.proofs.lemmas.Result.{err_from_is_err_and}
use Rattle.fut_sizes.specs.Matching.{meet}
use Rattle.size_arena.specs.Frames.{opened_of}
use Rattle.size_slots.specs.Held.{way_of}
use Rattle.size_arena.specs.Trees.{variable_of, type_of, size_of}
use Rattle.size_arena.proofs.FrameLaws.{opened_inside}
use Rattle.size_arena.proofs.Forms.{size_hole, size_open, size_level, size_built, size_fun}
use Rattle.size_matching.proofs.MatchForms.{nothing_meets, left_meets, right_meets, levels_meet, parts_meet, arrows_memory, arrows_done, arrows_refused, arrows_stop, meet_same, part_meets, parts_end_left, parts_end_right}
use Rattle.size_matching.proofs.Steps.{then_on, stop_on, held_on, as_on, same_on, reach_start, reach_more, reach_stop, reach_end}
use Rattle.size_matching.proofs.matching.+trees_meet.Goals as goal

pub trees_meet-returns-in-Open : goal.trees_meet-returns-in-Open
trees_meet-returns-in-Open t c = as_on _ _ _ _ _ c.open_meets.ensures (λ σ held. left_meets _ _ _ _ _ _ _ c.in-Open.node (variable_of c.in-Open.variable) (type_of c.in-Open.ty.now) (ap size_of c.in-Open.is ∙ size_open _ _ _) σ)

pub trees_meet-returns-in-Open-right : goal.trees_meet-returns-in-Open-right
trees_meet-returns-in-Open-right t c = as_on _ _ _ _ _ c.open_meets-in-Open-right.ensures (λ σ held. right_meets _ _ _ _ _ _ _ _ c.in-Open-right.node (variable_of c.in-Open-right.variable) (type_of c.in-Open-right.ty.now) (ap size_of c.in-Hole.is ∙ size_hole _) refl (ap size_of c.in-Open-right.is ∙ size_open _ _ _) σ)

pub trees_meet-returns-in-Hole-right : goal.trees_meet-returns-in-Hole-right
trees_meet-returns-in-Hole-right t c = same_on _ _ (λ σ. nothing_meets _ _ _ _ _ _ _ _ _ (ap size_of c.in-Hole.is ∙ size_hole _) (ap size_of c.in-Hole-right.is ∙ size_hole _) refl σ)

pub trees_meet-returns-in-Level-right : goal.trees_meet-returns-in-Level-right
trees_meet-returns-in-Level-right t c = same_on _ _ (λ σ. nothing_meets _ _ _ _ _ _ _ _ _ (ap size_of c.in-Hole.is ∙ size_hole _) (ap size_of c.in-Level-right.is ∙ size_level _ _ _) refl σ)

pub trees_meet-returns-in-Built-right : goal.trees_meet-returns-in-Built-right
trees_meet-returns-in-Built-right t c = same_on _ _ (λ σ. nothing_meets _ _ _ _ _ _ _ _ _ (ap size_of c.in-Hole.is ∙ size_hole _) (ap size_of c.in-Built-right.is ∙ size_built _ _ _) refl σ)

pub trees_meet-returns-in-Fun-right : goal.trees_meet-returns-in-Fun-right
trees_meet-returns-in-Fun-right t c = same_on _ _ (λ σ. nothing_meets _ _ _ _ _ _ _ _ _ (ap size_of c.in-Hole.is ∙ size_hole _) (ap size_of c.in-Fun-right.is ∙ size_fun _ _ _ _) refl σ)

pub trees_meet-returns-in-Open-right-2 : goal.trees_meet-returns-in-Open-right-2
trees_meet-returns-in-Open-right-2 t c = as_on _ _ _ _ _ c.open_meets-in-Open-right-2.ensures (λ σ held. right_meets _ _ _ _ _ _ _ _ c.in-Open-right-2.node (variable_of c.in-Open-right-2.variable) (type_of c.in-Open-right-2.ty.now) (ap size_of c.in-Level.is ∙ size_level _ _ _) refl (ap size_of c.in-Open-right-2.is ∙ size_open _ _ _) σ)

pub trees_meet-returns-in-Hole-right-2 : goal.trees_meet-returns-in-Hole-right-2
trees_meet-returns-in-Hole-right-2 t c = same_on _ _ (λ σ. nothing_meets _ _ _ _ _ _ _ _ _ (ap size_of c.in-Level.is ∙ size_level _ _ _) (ap size_of c.in-Hole-right-2.is ∙ size_hole _) refl σ)

pub trees_meet-returns-in-Built-right-2 : goal.trees_meet-returns-in-Built-right-2
trees_meet-returns-in-Built-right-2 t c = same_on _ _ (λ σ. nothing_meets _ _ _ _ _ _ _ _ _ (ap size_of c.in-Level.is ∙ size_level _ _ _) (ap size_of c.in-Built-right-2.is ∙ size_built _ _ _) refl σ)

pub trees_meet-returns-in-Fun-right-2 : goal.trees_meet-returns-in-Fun-right-2
trees_meet-returns-in-Fun-right-2 t c = same_on _ _ (λ σ. nothing_meets _ _ _ _ _ _ _ _ _ (ap size_of c.in-Level.is ∙ size_level _ _ _) (ap size_of c.in-Fun-right-2.is ∙ size_fun _ _ _ _) refl σ)

pub trees_meet-returns-in-Open-right-3 : goal.trees_meet-returns-in-Open-right-3
trees_meet-returns-in-Open-right-3 t c = as_on _ _ _ _ _ c.open_meets-in-Open-right-3.ensures (λ σ held. right_meets _ _ _ _ _ _ _ _ c.in-Open-right-3.node (variable_of c.in-Open-right-3.variable) (type_of c.in-Open-right-3.ty.now) (ap size_of c.in-Built.is ∙ size_built _ _ _) refl (ap size_of c.in-Open-right-3.is ∙ size_open _ _ _) σ)

pub trees_meet-returns-in-Hole-right-3 : goal.trees_meet-returns-in-Hole-right-3
trees_meet-returns-in-Hole-right-3 t c = same_on _ _ (λ σ. nothing_meets _ _ _ _ _ _ _ _ _ (ap size_of c.in-Built.is ∙ size_built _ _ _) (ap size_of c.in-Hole-right-3.is ∙ size_hole _) refl σ)

pub trees_meet-returns-in-Level-right-3 : goal.trees_meet-returns-in-Level-right-3
trees_meet-returns-in-Level-right-3 t c = same_on _ _ (λ σ. nothing_meets _ _ _ _ _ _ _ _ _ (ap size_of c.in-Built.is ∙ size_built _ _ _) (ap size_of c.in-Level-right-3.is ∙ size_level _ _ _) refl σ)

pub trees_meet-returns-in-Fun-right-3 : goal.trees_meet-returns-in-Fun-right-3
trees_meet-returns-in-Fun-right-3 t c = same_on _ _ (λ σ. nothing_meets _ _ _ _ _ _ _ _ _ (ap size_of c.in-Built.is ∙ size_built _ _ _) (ap size_of c.in-Fun-right-3.is ∙ size_fun _ _ _ _) refl σ)

pub trees_meet-returns-in-Open-right-4 : goal.trees_meet-returns-in-Open-right-4
trees_meet-returns-in-Open-right-4 t c = as_on _ _ _ _ _ c.open_meets-in-Open-right-4.ensures (λ σ held. right_meets _ _ _ _ _ _ _ _ c.in-Open-right-4.node (variable_of c.in-Open-right-4.variable) (type_of c.in-Open-right-4.ty.now) (ap size_of c.in-Fun.is ∙ size_fun _ _ _ _) refl (ap size_of c.in-Open-right-4.is ∙ size_open _ _ _) σ)

pub trees_meet-returns-in-Hole-right-4 : goal.trees_meet-returns-in-Hole-right-4
trees_meet-returns-in-Hole-right-4 t c = same_on _ _ (λ σ. nothing_meets _ _ _ _ _ _ _ _ _ (ap size_of c.in-Fun.is ∙ size_fun _ _ _ _) (ap size_of c.in-Hole-right-4.is ∙ size_hole _) refl σ)

pub trees_meet-returns-in-Level-right-4 : goal.trees_meet-returns-in-Level-right-4
trees_meet-returns-in-Level-right-4 t c = same_on _ _ (λ σ. nothing_meets _ _ _ _ _ _ _ _ _ (ap size_of c.in-Fun.is ∙ size_fun _ _ _ _) (ap size_of c.in-Level-right-4.is ∙ size_level _ _ _) refl σ)

pub trees_meet-returns-in-Built-right-4 : goal.trees_meet-returns-in-Built-right-4
trees_meet-returns-in-Built-right-4 t c = same_on _ _ (λ σ. nothing_meets _ _ _ _ _ _ _ _ _ (ap size_of c.in-Fun.is ∙ size_fun _ _ _ _) (ap size_of c.in-Built-right-4.is ∙ size_built _ _ _) refl σ)

pub trees_meet-returns-in-Built-right-3 : goal.trees_meet-returns-in-Built-right-3
trees_meet-returns-in-Built-right-3 t c = as_on _ _ _ _ _ c.all_trees_meet.ensures (λ σ held. parts_meet _ _ _ _ _ _ _ _ _ _ _ (ap size_of c.in-Built.is ∙ size_built _ _ _) (ap size_of c.in-Built-right-3.is ∙ size_built _ _ _) σ)

pub trees_meet-returns-in-Ok : goal.trees_meet-returns-in-Ok
trees_meet-returns-in-Ok t c = then_on _ _ _ _ _ _ _ _ tt c.in-Ok.is c.levels_meet.ensures.met c.trees_meet.ensures (λ σ held. levels_meet _ _ _ _ _ _ _ _ _ _ _ (ap size_of c.in-Level.is ∙ size_level _ _ _) (ap size_of c.in-Level-right-2.is ∙ size_level _ _ _) σ)

pub trees_meet-returns-in-Err : goal.trees_meet-returns-in-Err
trees_meet-returns-in-Err t c = stop_on _ _ _ _ _ _ _ c.in-Err.is c.levels_meet.ensures.met (λ σ held. levels_meet _ _ _ _ _ _ _ _ _ _ _ (ap size_of c.in-Level.is ∙ size_level _ _ _) (ap size_of c.in-Level-right-2.is ∙ size_level _ _ _) σ)

pub trees_meet-returns-in_err-both-in-Fun-right-4 : goal.trees_meet-returns-in_err-both-in-Fun-right-4
trees_meet-returns-in_err-both-in-Fun-right-4 t c =
    let p = err_from_is_err_and c.from_residual.result c.from_residual.ensures.1 in
    rw (p.1, p.2) (arrows_memory _ _ _ _ _ _ _ _ _ _ _ _ c.in_err-both-in-Fun-right-4.was c.open_arrows.ensures.opened)

pub trees_meet-returns-in_err-trees_meet-in-Fun-right-4 : goal.trees_meet-returns-in_err-trees_meet-in-Fun-right-4
trees_meet-returns-in_err-trees_meet-in-Fun-right-4 t c =
    let p = err_from_is_err_and c.from_residual-in_err-trees_meet-in-Fun-right-4.result c.from_residual-in_err-trees_meet-in-Fun-right-4.ensures.1 in
    rw (p.1, p.2) (arrows_stop _ _ _ _ _ _ _ _ _ _ _ _ _ _ _ (ap size_of c.in-Fun.is ∙ size_fun _ _ _ _) (ap size_of c.in-Fun-right-4.is ∙ size_fun _ _ _ _) c.in_ok-both-in-Fun-right-4.both _ c.in_ok-both-in-Fun-right-4.was
    c.open_arrows.ensures.opened _ _ (opened_inside _ _) (opened_inside _ _) _ _ (as_on _ _ _ _ _ c.trees_meet-in-Fun-right-4.ensures (λ σ held. meet_same _ _ _ _ σ c.turned.ensures refl refl)) _ c.in_err-trees_meet-in-Fun-right-4.was)

pub trees_meet-check_results-requires : goal.trees_meet-check_results-requires
trees_meet-check_results-requires t c = held_on _ _ _ _ _ c.in_ok-trees_meet-in-Fun-right-4.was c.in_ok-both-in-Fun-right-4.ensures.held c.trees_meet-in-Fun-right-4.ensures

pub trees_meet-returns-in_err-check_results-in-Fun-right-4 : goal.trees_meet-returns-in_err-check_results-in-Fun-right-4
trees_meet-returns-in_err-check_results-in-Fun-right-4 t c =
    let p = err_from_is_err_and c.from_residual-in_err-check_results-in-Fun-right-4.result c.from_residual-in_err-check_results-in-Fun-right-4.ensures.1 in
    rw (p.1, p.2) (arrows_refused _ _ _ _ _ _ _ _ _ _ _ _ _ _ _ (ap size_of c.in-Fun.is ∙ size_fun _ _ _ _) (ap size_of c.in-Fun-right-4.is ∙ size_fun _ _ _ _) c.in_ok-both-in-Fun-right-4.both _ c.in_ok-both-in-Fun-right-4.was
    c.open_arrows.ensures.opened _ _ (opened_inside _ _) (opened_inside _ _) _ _ (as_on _ _ _ _ _ c.trees_meet-in-Fun-right-4.ensures (λ σ held. meet_same _ _ _ _ σ c.turned.ensures refl refl)) _ c.in_ok-trees_meet-in-Fun-right-4.was _ c.check_results.ensures.checked _ c.in_err-check_results-in-Fun-right-4.was)

pub trees_meet-returns-in_ok-check_results-in-Fun-right-4 : goal.trees_meet-returns-in_ok-check_results-in-Fun-right-4
trees_meet-returns-in_ok-check_results-in-Fun-right-4 t c = arrows_done _ _ _ _ _ _ _ _ _ _ _ _ _ _ _ (ap size_of c.in-Fun.is ∙ size_fun _ _ _ _) (ap size_of c.in-Fun-right-4.is ∙ size_fun _ _ _ _) c.in_ok-both-in-Fun-right-4.both _ c.in_ok-both-in-Fun-right-4.was
    c.open_arrows.ensures.opened _ _ (opened_inside _ _) (opened_inside _ _) _ _ (as_on _ _ _ _ _ c.trees_meet-in-Fun-right-4.ensures (λ σ held. meet_same _ _ _ _ σ c.turned.ensures refl refl)) _ c.in_ok-trees_meet-in-Fun-right-4.was _ c.check_results.ensures.checked _ c.in_ok-check_results-in-Fun-right-4.was _ _
    (as_on _ _ _ _ _ c.trees_meet-in-Fun-right-4-2.ensures (λ σ held. meet_same _ _ _ _ σ c.to_result.ensures refl refl))

pub all_trees_meet-loop-i-init : goal.all_trees_meet-loop-i-init
all_trees_meet-loop-i-init t c = record { held = c.requires; reached = reach_start _ _ }

pub all_trees_meet-loop-i-preserved : goal.all_trees_meet-loop-i-preserved
all_trees_meet-loop-i-preserved t c = record {
  held = held_on _ _ _ _ tt c.in-Ok.is c.loop-i.invariant.held c.trees_meet.ensures;
  reached = reach_more _ _ _ _ _ c.loop-i.invariant.reached _ _ _ tt c.in-Ok.is (rw (← c.index-lefts-i.is, ← c.index-rights-i.is) c.trees_meet.ensures) (λ τ. part_meets _ _ _ _ _ _ _ _ c.index-lefts-i.result c.index-rights-i.result c.loop-i-test.true c.if-i-rights.false τ);
}

pub all_trees_meet-returns-in-Err : goal.all_trees_meet-returns-in-Err
all_trees_meet-returns-in-Err t c = reach_stop _ _ c.trees_meet.new.table _ _ c.loop-i.invariant.reached (meet c.args.site.node (way_of c.args.way) c.args.site.at (opened_of c.args.left_frames.now) (size_of (get_or c.args.lefts.now c.loop-i.i c.index-lefts-i.result)) (opened_of c.args.right_frames.now) (size_of (get_or c.args.rights.now c.loop-i.i c.index-rights-i.result)))
    _ c.trees_meet.result c.in-Err.error c.in-Err.is (rw (← c.index-lefts-i.is, ← c.index-rights-i.is) c.trees_meet.ensures) (λ τ. part_meets _ _ _ _ _ _ _ _ c.index-lefts-i.result c.index-rights-i.result c.loop-i-test.true c.if-i-rights.false τ)

pub all_trees_meet-returns-then-i-rights : goal.all_trees_meet-returns-then-i-rights
all_trees_meet-returns-then-i-rights t c = reach_end _ _ c.args.table.now _ _ c.loop-i.invariant.reached (λ τ. parts_end_right _ _ _ _ _ _ _ _ c.loop-i-test.true c.if-i-rights.true τ)

pub all_trees_meet-returns : goal.all_trees_meet-returns
all_trees_meet-returns t c = reach_end _ _ c.args.table.now _ _ c.loop-i.invariant.reached (λ τ. parts_end_left _ _ _ _ _ _ _ _ c.loop-i-test.false τ)
