use Rattle.std.proofs.lemmas.Result.{err_from_is_err_and}
use Rattle.size_arena.specs.Trees.{size_of}
use Rattle.size_program.specs.Program.{sub_of}
use Rattle.size_forms.proofs.TurnForms.{count_noted, count_stops, row_noted, row_stops, while_noted}
use Rattle.size_forms.proofs.loops.note_each.Goals as goal

pub returns-in_err-note-in-For-clause-each : goal.returns-in_err-note-in-For-clause-each
returns-in_err-note-in-For-clause-each c =
    let p = err_from_is_err_and c.from_residual.result c.from_residual.ensures.1 in
    rw (p.1, p.2) (λ N knows. count_stops c.args.form.now N (sub_of c.args.program.now.types.now) c.args.at c.args.whole.now.next c.args.whole.now.size c.args.tables.now c.note.new.tables c.in-For.field-0 c.in-For.field-1 c.in-For.is _ c.in_err-note-in-For.ensures)

pub returns-in_err-note_pattern-in-ForIn-clause-each : goal.returns-in_err-note_pattern-in-ForIn-clause-each
returns-in_err-note_pattern-in-ForIn-clause-each c =
    let p = err_from_is_err_and c.from_residual-in_err-note_pattern-in-ForIn.result c.from_residual-in_err-note_pattern-in-ForIn.ensures.1 in
    rw (p.1, p.2) (λ N knows. row_stops c.args.form.now N (sub_of c.args.program.now.types.now) c.args.at c.args.whole.now.next c.args.whole.now.size c.args.tables.now c.note_pattern.new.tables c.in-ForIn.pat c.in-ForIn.field-1 c.in-ForIn.is c.row_size-row.result (c.row_size-row.ensures N (sub_of c.args.program.now.types.now)) _ (c.in_err-note_pattern-in-ForIn.ensures N knows))

pub returns-in_ok-note-in-For-clause-each : goal.returns-in_ok-note-in-For-clause-each
returns-in_ok-note-in-For-clause-each c = λ N knows. count_noted c.args.form.now N (sub_of c.args.program.now.types.now) c.args.at c.args.whole.now.next c.args.whole.now.size c.args.tables.now c.note.new.tables c.in-For.field-0 c.in-For.field-1 c.in-For.is _ c.in_ok-note-in-For.ensures

pub returns-in_ok-note_pattern-in-ForIn-clause-each : goal.returns-in_ok-note_pattern-in-ForIn-clause-each
returns-in_ok-note_pattern-in-ForIn-clause-each c = λ N knows. row_noted c.args.form.now N (sub_of c.args.program.now.types.now) c.args.at c.args.whole.now.next c.args.whole.now.size c.args.tables.now c.note_pattern.new.tables c.in-ForIn.pat c.in-ForIn.field-1 c.in-ForIn.is c.row_size-row.result (c.row_size-row.ensures N (sub_of c.args.program.now.types.now)) _ (c.in_ok-note_pattern-in-ForIn.ensures N knows)

pub returns-in-While-clause-each : goal.returns-in-While-clause-each
returns-in-While-clause-each c = λ N knows. while_noted c.args.form.now N (sub_of c.args.program.now.types.now) c.args.at c.args.whole.now.next (size_of c.args.whole.now.size.now) c.args.tables.now c.in-While.field-0 c.in-While.is
