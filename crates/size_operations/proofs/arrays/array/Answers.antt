use Rattle.std.proofs.lemmas.List.{take_rest}
use Rattle.std.proofs.lemmas.Result.{err_from_is_err_and}
use Rattle.size_program.specs.Answers.{no_memory}
use Rattle.size_program.specs.Program.{sub_of}
use Rattle.size_operations.proofs.ArrayForms.{array_made, array_none, array_stop}
use Rattle.size_operations.proofs.arrays.array.Goals as goal

pub returns-then-sizes-eq0 : goal.returns-then-sizes-eq0
returns-then-sizes-eq0 c = λ N. rw (array_none N (sub_of c.args.program.now.types.now) c.args.node c.args.first c.args.parts.now c.args.sizes.now c.requires.same c.if-sizes-eq0.true) c.empty.ensures

pub returns-in_err-next : goal.returns-in_err-next
returns-in_err-next c = let p = err_from_is_err_and c.from_residual.result c.from_residual.ensures.1 in rw (p.1, p.2) (λ N. no_memory)

pub returns-in_err-elements_agree : goal.returns-in_err-elements_agree
returns-in_err-elements_agree c =
    let p = err_from_is_err_and c.from_residual-in_err-elements_agree.result c.from_residual-in_err-elements_agree.ensures.1 in
    rw (p.1, p.2) (λ N. array_stop N (sub_of c.args.program.now.types.now) c.args.node c.args.first c.args.parts.now c.args.sizes.now c.index-sizes-0.result c.requires.same c.if-sizes-eq0.false _ c.in_ok-next.next c.in_ok-next.ensures c.elements_agree.result (rw (← c.index-sizes-0.is, ← take_rest c.args.parts.now 1, ← take_rest c.args.sizes.now 1) c.elements_agree.ensures) _ c.in_err-elements_agree.was)

pub returns : goal.returns
returns c = λ N. rw (array_made N (sub_of c.args.program.now.types.now) c.args.node c.args.first c.args.parts.now c.args.sizes.now c.index-sizes-0.result c.requires.same c.if-sizes-eq0.false _ c.in_ok-next.next c.in_ok-next.ensures c.elements_agree.result (rw (← c.index-sizes-0.is, ← take_rest c.args.parts.now 1, ← take_rest c.args.sizes.now 1) c.elements_agree.ensures) c.in_ok-elements_agree.field-0 c.in_ok-elements_agree.was, ← c.index-sizes-0.is) (c.sized.ensures _ c.level.ensures)
