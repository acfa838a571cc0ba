use Rattle.std.proofs.lemmas.Result.{err_from_is_err_and}
use Rattle.fut_flat.proofs.ErasedForms.{turns_of}
use Rattle.size_forms.specs.Shown.{brings, map_is}
use Rattle.size_forms.proofs.StepForms.{answer_memory}
use Rattle.size_forms.proofs.TurnForms.{nothing_brought, count_brought, while_brought, row_brought, row_not_brought}
use Rattle.size_forms.proofs.turns.bring.Goals as goal

pub returns-in_err-inside-in-For : goal.returns-in_err-inside-in-For
returns-in_err-inside-in-For c =
    let p = err_from_is_err_and c.from_residual.result c.from_residual.ensures.1 in
    rw (p.1, p.2) (λ N scope knows within. answer_memory map_is (brings N (turns_of c.args.form.now) c.args.at c.args.each.now.size scope))

pub returns-in_err-node-in-ForIn : goal.returns-in_err-node-in-ForIn
returns-in_err-node-in-ForIn c =
    let p = err_from_is_err_and c.from_residual-in_err-node-in-ForIn.result c.from_residual-in_err-node-in-ForIn.ensures.1 in
    rw (p.1, p.2) (λ N scope knows within. answer_memory map_is (brings N (turns_of c.args.form.now) c.args.at c.args.each.now.size scope))

pub returns-in_err-bindings-in-ForIn : goal.returns-in_err-bindings-in-ForIn
returns-in_err-bindings-in-ForIn c =
    let p = err_from_is_err_and c.from_residual-in_err-bindings-in-ForIn.result c.from_residual-in_err-bindings-in-ForIn.ensures.1 in
    rw (p.1, p.2) (λ N scope knows within. row_not_brought c.args.form.now N c.args.at scope c.args.each.now.size c.in-Some.size c.in-Some.is c.in-ForIn.pat c.in-ForIn.field-1 c.in_ok-node-in-ForIn.node c.in-ForIn.is c.in_ok-node-in-ForIn.ensures _ (c.in_err-bindings-in-ForIn.ensures.gives N scope knows within))

pub returns-in_ok-inside-in-For : goal.returns-in_ok-inside-in-For
returns-in_ok-inside-in-For c = λ N scope knows within. count_brought c.args.form.now N c.args.at scope c.args.each.now.size c.in-Some.size c.in-Some.is c.in-For.bind c.in-For.field-1 c.in_ok-inside-in-For.inside c.in-For.is (c.in_ok-inside-in-For.ensures scope within)

pub returns-in_ok-bindings-in-ForIn : goal.returns-in_ok-bindings-in-ForIn
returns-in_ok-bindings-in-ForIn c = λ N scope knows within. row_brought c.args.form.now N c.args.at scope c.args.each.now.size c.in-Some.size c.in-Some.is c.in-ForIn.pat c.in-ForIn.field-1 c.in_ok-node-in-ForIn.node c.in-ForIn.is c.in_ok-node-in-ForIn.ensures c.in_ok-bindings-in-ForIn.bindings (c.in_ok-bindings-in-ForIn.ensures.gives N scope knows within)

pub returns-in-While : goal.returns-in-While
returns-in-While c = λ N scope knows within. while_brought c.args.form.now N c.args.at scope c.args.each.now.size c.in-Some.size c.in-Some.is c.in-While.field-0 c.args.names c.in-While.is within

pub returns-in_default : goal.returns-in_default
returns-in_default c = λ N scope knows within. nothing_brought c.args.form.now N c.args.at scope c.args.each.now.size c.args.names c.in_default.is within
