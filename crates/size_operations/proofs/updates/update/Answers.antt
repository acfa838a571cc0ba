use Rattle.std.proofs.Common.{sym, ap}
use Rattle.std.proofs.lemmas.List.{take_rest}
use Rattle.std.proofs.lemmas.Result.{err_from_is_err_and}
use Rattle.size_arena.specs.Trees.{size_of}
use Rattle.size_program.specs.Answers.{answers, no_memory}
use Rattle.size_operations.proofs.UpdateForms.{update_made, update_stop}
use Rattle.size_operations.proofs.updates.update.Goals as goal

pub returns-then-sizes-eq0 : goal.returns-then-sizes-eq0
returns-then-sizes-eq0 c = λ N types. no_memory

pub returns-in_err-next : goal.returns-in_err-next
returns-in_err-next c = let p = err_from_is_err_and c.from_residual.result c.from_residual.ensures.1 in rw (p.1, p.2) (λ N types. no_memory)

pub returns-in_err-updated : goal.returns-in_err-updated
returns-in_err-updated c =
    let p = err_from_is_err_and c.from_residual-in_err-updated.result c.from_residual-in_err-updated.ensures.1 in
    rw (p.1, p.2) (λ N types. update_stop N types c.args.node c.args.first c.args.parts.now c.args.sizes.now _ c.index-sizes-0.result c.requires.same c.if-sizes-eq0.false c.in_ok-next.next c.in_ok-next.ensures c.updated.result (rw (← c.index-sizes-0.is, ← take_rest c.args.parts.now 1, ← take_rest c.args.sizes.now 1) c.updated.ensures) _ c.in_err-updated.was)

pub returns : goal.returns
returns c = λ N types. answers (update_made N types c.args.node c.args.first c.args.parts.now c.args.sizes.now _ c.index-sizes-0.result c.requires.same c.if-sizes-eq0.false c.in_ok-next.next c.in_ok-next.ensures c.updated.result (rw (← c.index-sizes-0.is, ← take_rest c.args.parts.now 1, ← take_rest c.args.sizes.now 1) c.updated.ensures) c.in_ok-updated.field-0 c.in_ok-updated.was) (sym (ap size_of c.index-sizes-0.is))
