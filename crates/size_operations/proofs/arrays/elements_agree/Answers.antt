use Rattle.std.proofs.Common.{refl, ◌∙◌}
use Rattle.std.proofs.lemmas.Result.{err_from_is_err_and}
use Rattle.size_arena.specs.Trees.{size_of}
use Rattle.size_program.specs.Answers.{answers, no_memory}
use Rattle.size_operations.proofs.ArrayForms.{elements_end, elements_more, elements_past, elements_stop}
use Rattle.size_operations.proofs.arrays.elements_agree.Goals as goal

pub returns-then-i-parts : goal.returns-then-i-parts
returns-then-i-parts c = answers (c.loop-i.invariant ∙ elements_past (size_of c.args.first.now) c.loop-i.node c.args.parts.now c.args.sizes.now c.loop-i.i c.if-i-parts.true) refl

pub returns-in_err-agrees : goal.returns-in_err-agrees
returns-in_err-agrees c =
    let p = err_from_is_err_and c.from_residual.result c.from_residual.ensures.1 in
    rw (p.1, p.2) (elements_stop (size_of c.args.first.now) c.loop-i.node c.args.parts.now c.args.sizes.now c.loop-i.i _ c.loop-i.invariant c.index-sizes-i.result c.if-i-parts.false c.loop-i-test.true c.agrees.result (rw (← c.index-sizes-i.is) c.agrees.ensures) _ c.in_err-agrees.was)

pub returns-in_err-node : goal.returns-in_err-node
returns-in_err-node c = let p = err_from_is_err_and c.from_residual-in_err-node.result c.from_residual-in_err-node.ensures.1 in rw (p.1, p.2) no_memory

pub loop-i-preserved : goal.loop-i-preserved
loop-i-preserved c = elements_more (size_of c.args.first.now) c.loop-i.node c.args.parts.now c.args.sizes.now c.loop-i.i _ c.loop-i.invariant c.index-sizes-i.result c.if-i-parts.false c.loop-i-test.true c.agrees.result (rw (← c.index-sizes-i.is) c.agrees.ensures) _ c.in_ok-agrees.field-0 c.in_ok-agrees.was c.in_ok-node.node c.in_ok-node.ensures

pub returns : goal.returns
returns c = answers (c.loop-i.invariant ∙ elements_end (size_of c.args.first.now) c.loop-i.node c.args.parts.now c.args.sizes.now c.loop-i.i c.loop-i-test.false) refl
