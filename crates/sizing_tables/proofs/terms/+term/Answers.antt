use Rattle.sizing_tables.specs.Trees.{exp_names, exp_sizes, let_names, let_sizes}
use Rattle.sizing_tables.proofs.Lists.{all_looped, looped, none_yet, then, told_as}
use Rattle.sizing_tables.proofs.Layers.{names_use, sizes_use, names_strict, sizes_strict, names_lambda, sizes_lambda, names_apply, sizes_apply, names_lets, sizes_lets, names_if, sizes_if, names_loop, sizes_loop, let_names_are, let_sizes_are, names_loop_parts, sizes_loop_parts, names_counted, sizes_counted, names_over, sizes_over, names_while, sizes_while}
use Rattle.sizing_tables.proofs.terms.+term.Goals as goal

pub note_exp-returns-in-Use : goal.note_exp-returns-in-Use
note_exp-returns-in-Use t c = told_as (names_use _ _ _ c.in-Use.is) (sizes_use _ _ _ c.in-Use.is) (then (then c.node.ensures c.note.ensures) c.note-in-Use.ensures)

pub note_exp-returns-in-Strict : goal.note_exp-returns-in-Strict
note_exp-returns-in-Strict t c = told_as (names_strict _ _ _ _ _ c.own_numbers_of.ensures c.in-Strict.is) (sizes_strict _ _ _ _ c.in-Strict.is) (then c.note-in-Strict.ensures c.note_parts.ensures)

pub note_exp-returns-in-Lambda : goal.note_exp-returns-in-Lambda
note_exp-returns-in-Lambda t c = told_as (names_lambda _ _ _ c.in-Lambda.is) (sizes_lambda _ _ _ c.in-Lambda.is) (then (then c.node-in-Lambda.ensures c.note_patterns.ensures) c.note_exp.ensures)

pub note_exp-returns-in-Apply : goal.note_exp-returns-in-Apply
note_exp-returns-in-Apply t c = told_as (names_apply _ _ _ c.in-Apply.is) (sizes_apply _ _ _ c.in-Apply.is) (then (then c.node-in-Apply.ensures c.note_exp-in-Apply.ensures) c.note_exp-in-Apply-2.ensures)

pub note_exp-returns-in-Lets : goal.note_exp-returns-in-Lets
note_exp-returns-in-Lets t c = told_as (names_lets _ _ _ c.in-Lets.is) (sizes_lets _ _ _ c.in-Lets.is) (then c.note_lets.ensures c.note_exp-in-Lets.ensures)

pub note_exp-returns-in-If : goal.note_exp-returns-in-If
note_exp-returns-in-If t c = told_as (names_if _ _ _ _ c.in-If.is) (sizes_if _ _ _ _ c.in-If.is) (then (then (then c.node-in-If.ensures c.note_exp-in-If.ensures) c.note_exp-in-If-2.ensures) c.note_exp-in-If-3.ensures)

pub note_exp-returns-in-Loop : goal.note_exp-returns-in-Loop
note_exp-returns-in-Loop t c = told_as (names_loop _ _ c.in-Loop.is) (sizes_loop _ _ c.in-Loop.is) c.note_loop.ensures

pub note_parts-loop-part-init : goal.note_parts-loop-part-init
note_parts-loop-part-init t c = none_yet _

pub note_parts-loop-part-preserved : goal.note_parts-loop-part-preserved
note_parts-loop-part-preserved t c = looped exp_names exp_sizes _ c.loop-part.part-index _ c.loop-part-test.true c.loop-part.invariant c.note_exp.ensures

pub note_parts-returns : goal.note_parts-returns
note_parts-returns t c = all_looped exp_names exp_sizes _ _ c.loop-part-test.false c.loop-part.invariant

pub note_lets-loop-one-init : goal.note_lets-loop-one-init
note_lets-loop-one-init t c = none_yet _

pub note_lets-loop-one-preserved : goal.note_lets-loop-one-preserved
note_lets-loop-one-preserved t c = looped let_names let_sizes _ c.loop-one.one-index _ c.loop-one-test.true c.loop-one.invariant c.note_let.ensures

pub note_lets-returns : goal.note_lets-returns
note_lets-returns t c = all_looped let_names let_sizes _ _ c.loop-one-test.false c.loop-one.invariant

pub note_let-returns : goal.note_let-returns
note_let-returns t c = told_as (let_names_are _) (let_sizes_are _) (then (then (then (then c.node.ensures c.note_sizes.ensures) c.note_heads.ensures) c.note_pattern.ensures) c.note_exp.ensures)

pub note_loop-returns : goal.note_loop-returns
note_loop-returns t c = told_as (names_loop_parts _) (sizes_loop_parts _) (then (then (then (then (then c.node.ensures c.note_sizes.ensures) c.note_pattern.ensures) c.note_exp.ensures) c.note_turns.ensures) c.note_exp-2.ensures)

pub note_turns-returns-in-For : goal.note_turns-returns-in-For
note_turns-returns-in-For t c = told_as (names_counted _ _ _ c.in-For.is) (sizes_counted _ _ _ c.in-For.is) (then c.node.ensures c.note_exp.ensures)

pub note_turns-returns-in-ForIn : goal.note_turns-returns-in-ForIn
note_turns-returns-in-ForIn t c = told_as (names_over _ _ _ c.in-ForIn.is) (sizes_over _ _ _ c.in-ForIn.is) (then c.note_pattern.ensures c.note_exp-in-ForIn.ensures)

pub note_turns-returns-in-While : goal.note_turns-returns-in-While
note_turns-returns-in-While t c = told_as (names_while _ _ c.in-While.is) (sizes_while _ _ c.in-While.is) c.note_exp-in-While.ensures
