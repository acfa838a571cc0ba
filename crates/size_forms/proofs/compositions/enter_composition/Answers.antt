use Rattle.std.proofs.lemmas.Result.{err_from_is_err_and}
use Rattle.size_program.specs.Program.{sub_of}
use Rattle.size_forms.proofs.ComposeForms.{first_stops, both_enter}
use Rattle.size_forms.proofs.compositions.enter_composition.Goals as goal

pub returns-in_err-inside : goal.returns-in_err-inside
returns-in_err-inside c =
    let p = err_from_is_err_and c.from_residual.result c.from_residual.ensures.1 in
    rw (p.1, p.2) (λ at. first_stops c.args.left.now c.args.right.now c.args.program.now (sub_of c.args.program.now.types.now) c.args.names.now c.args.node c.args.second c.args.tables.now _ c.args.tables.now _ c.in_err-inside.ensures)

pub returns : goal.returns
returns c = λ at. both_enter c.args.left.now c.args.right.now c.args.program.now (sub_of c.args.program.now.types.now) c.args.names.now c.args.node c.args.second c.args.tables.now _ _ c.in_ok-inside.inside _ at c.in_ok-inside.ensures c.enter_function-2.ensures
