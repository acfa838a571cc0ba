use Rattle.std.proofs.lemmas.Result.{err_from_is_err_and}
use Rattle.fut_flat.proofs.ErasedForms.{row_of}
use Rattle.size_arena.specs.Trees.{size_of}
use Rattle.size_program.specs.Program.{sub_of}
use Rattle.size_forms.specs.Lets.{let_bound}
use Rattle.size_forms.specs.Shown.{bound_is}
use Rattle.size_forms.proofs.StepForms.{memory}
use Rattle.size_forms.proofs.LetForms.{scope_stops, note_stops, let_binds, ending_is}
use Rattle.size_forms.proofs.lets.bind_let.Goals as goal

pub returns-in_err-first-clause-bound : goal.returns-in_err-first-clause-bound
returns-in_err-first-clause-bound c =
    let p = err_from_is_err_and c.from_residual.result c.from_residual.ensures.1 in
    rw (p.1, p.2) (memory bound_is c.args.program.now c.args.names.now (let_bound (sub_of c.args.program.now.types.now) (row_of c.args.one.now) c.args.node (size_of c.args.size.now)) _ _)

pub returns-in_err-value-clause-bound : goal.returns-in_err-value-clause-bound
returns-in_err-value-clause-bound c =
    let p = err_from_is_err_and c.from_residual-in_err-value.result c.from_residual-in_err-value.ensures.1 in
    rw (p.1, p.2) (memory bound_is c.args.program.now c.args.names.now (let_bound (sub_of c.args.program.now.types.now) (row_of c.args.one.now) c.args.node (size_of c.args.size.now)) _ _)

pub returns-in_err-bound-clause-bound : goal.returns-in_err-bound-clause-bound
returns-in_err-bound-clause-bound c =
    let p = err_from_is_err_and c.from_residual-in_err-bound.result c.from_residual-in_err-bound.ensures.1 in
    rw (p.1, p.2) (memory bound_is c.args.program.now c.args.names.now (let_bound (sub_of c.args.program.now.types.now) (row_of c.args.one.now) c.args.node (size_of c.args.size.now)) _ _)

pub returns-in_err-inner-clause-bound : goal.returns-in_err-inner-clause-bound
returns-in_err-inner-clause-bound c =
    let p = err_from_is_err_and c.from_residual-in_err-inner.result c.from_residual-in_err-inner.ensures.1 in
    rw (p.1, p.2) (scope_stops c.args.one.now c.args.node c.args.program.now (sub_of c.args.program.now.types.now) c.args.names.now c.in_ok-value.value c.in_ok-first.first (size_of c.args.size.now) c.args.tables.now c.in_ok-value.ensures c.in_ok-first.ensures _ c.in_err-inner.ensures)

pub returns-in_err-note_pattern-clause-bound : goal.returns-in_err-note_pattern-clause-bound
returns-in_err-note_pattern-clause-bound c =
    let p = err_from_is_err_and c.from_residual-in_err-note_pattern.result c.from_residual-in_err-note_pattern.ensures.1 in
    rw (p.1, p.2) (note_stops c.args.one.now c.args.node c.args.program.now (sub_of c.args.program.now.types.now) c.args.names.now c.in_ok-value.value c.in_ok-first.first (size_of c.args.size.now) c.args.tables.now c.in_ok-value.ensures c.in_ok-first.ensures c.in_ok-inner.inner c.note_pattern.new.tables c.in_ok-inner.ensures _ c.in_err-note_pattern.ensures)

pub returns-clause-bound : goal.returns-clause-bound
returns-clause-bound c = let_binds c.args.one.now c.args.node c.args.program.now (sub_of c.args.program.now.types.now) c.args.names.now c.in_ok-value.value c.in_ok-first.first (size_of c.args.size.now) c.args.tables.now c.in_ok-value.ensures c.in_ok-first.ensures c.in_ok-inner.inner c.note_pattern.new.tables c.in_ok-inner.ensures _ _ c.in_ok-note_pattern.ensures

pub returns-clause-ending : goal.returns-clause-ending
returns-clause-ending c = λ e. ending_is c.args.one.now c.args.node c.args.behind c.in_ok-bound.bound c.in_ok-bound.ensures e
