use Rattle.std.proofs.Common.{ap, ◌∙◌}
use Rattle.size_arena.specs.Trees.{variable_of, type_of, size_of}
use Rattle.size_arena.proofs.Forms.{size_hole, size_open, size_level, size_built, size_fun}
use Rattle.size_settling.proofs.SettleForms.{held_behind, hole_settles, variable_settles, level_settles, parts_settle, function_settles, settle_start, settle_more, settle_end}
use Rattle.size_settling.proofs.settling.+settled.Goals as goal

pub settle_all-returns-in-Hole-clause-settled : goal.settle_all-returns-in-Hole-clause-settled
settle_all-returns-in-Hole-clause-settled t c = hole_settles _ c.args.table.now _ _ (ap size_of c.in-Hole.is ∙ size_hole _)

pub settle_all-returns-in-Open-clause-settled : goal.settle_all-returns-in-Open-clause-settled
settle_all-returns-in-Open-clause-settled t c = variable_settles _ _ (size_of c.args.tree.now) c.in-Open.node (variable_of c.in-Open.variable) (type_of c.in-Open.ty.now) _ (ap size_of c.in-Open.is ∙ size_open _ _ _) c.settle_open.ensures.settled

pub settle_all-returns-in-Level-clause-settled : goal.settle_all-returns-in-Level-clause-settled
settle_all-returns-in-Level-clause-settled t c = level_settles _ _ _ _ _ _ (ap size_of c.in-Level.is ∙ size_level _ _ _) c.settle_all.ensures.settled

pub settle_all-returns-in-Built-clause-settled : goal.settle_all-returns-in-Built-clause-settled
settle_all-returns-in-Built-clause-settled t c = parts_settle _ _ _ _ _ _ (ap size_of c.in-Built.is ∙ size_built _ _ _) c.settle_parts.ensures.settled

pub settle_all-returns-in-Ok-clause-settled : goal.settle_all-returns-in-Ok-clause-settled
settle_all-returns-in-Ok-clause-settled t c = function_settles _ _ _ _ _ _ _ _ _ tt (ap size_of c.in-Fun.is ∙ size_fun _ _ _ _) c.in-Ok.is c.settle_all-in-Fun.ensures.settled c.settle_all-in-Ok.ensures.settled

pub settle_parts-loop-part-init : goal.settle_parts-loop-part-init
settle_parts-loop-part-init t c = record { held = c.requires; far = settle_start _ _ }

pub settle_parts-loop-part-preserved : goal.settle_parts-loop-part-preserved
settle_parts-loop-part-preserved t c = record {
  held = held_behind _ _ _ _ tt c.in-Ok.is c.loop-part.invariant.held c.settle_all.ensures.settled;
  far = settle_more _ _ _ _ _ c.part-item.result _ tt c.loop-part-test.true c.loop-part.invariant.far c.in-Ok.is (rw (← c.part-item.is) c.settle_all.ensures.settled);
}

pub settle_parts-returns-clause-settled : goal.settle_parts-returns-clause-settled
settle_parts-returns-clause-settled t c = settle_end _ _ _ _ c.loop-part-test.false c.loop-part.invariant.far
