use Rattle.std.proofs.lemmas.Result.{err_from_is_err_and}
use Rattle.fut_flat.specs.Erased.{pattern_of}
use Rattle.size_program.specs.Program.{sub_of}
use Rattle.size_forms.specs.Compositions.{function_entered}
use Rattle.size_forms.specs.Shown.{known_is}
use Rattle.size_forms.proofs.StepForms.{memory}
use Rattle.size_forms.proofs.ComposeForms.{function_stops, function_enters}
use Rattle.size_forms.proofs.compositions.enter_function.Goals as goal

pub returns-in_err-first : goal.returns-in_err-first
returns-in_err-first c =
    let p = err_from_is_err_and c.from_residual.result c.from_residual.ensures.1 in
    rw (p.1, p.2) (memory known_is c.args.program.now c.args.names.now (function_entered (sub_of c.args.program.now.types.now) (pattern_of c.args.pat.now) c.args.node) _ _)

pub returns-in_err-value : goal.returns-in_err-value
returns-in_err-value c =
    let p = err_from_is_err_and c.from_residual-in_err-value.result c.from_residual-in_err-value.ensures.1 in
    rw (p.1, p.2) (memory known_is c.args.program.now c.args.names.now (function_entered (sub_of c.args.program.now.types.now) (pattern_of c.args.pat.now) c.args.node) _ _)

pub returns-in_err-size : goal.returns-in_err-size
returns-in_err-size c =
    let p = err_from_is_err_and c.from_residual-in_err-size.result c.from_residual-in_err-size.ensures.1 in
    rw (p.1, p.2) (memory known_is c.args.program.now c.args.names.now (function_entered (sub_of c.args.program.now.types.now) (pattern_of c.args.pat.now) c.args.node) _ _)

pub returns-in_err-inside : goal.returns-in_err-inside
returns-in_err-inside c =
    let p = err_from_is_err_and c.from_residual-in_err-inside.result c.from_residual-in_err-inside.ensures.1 in
    rw (p.1, p.2) (memory known_is c.args.program.now c.args.names.now (function_entered (sub_of c.args.program.now.types.now) (pattern_of c.args.pat.now) c.args.node) _ _)

pub returns-in_err-note_pattern : goal.returns-in_err-note_pattern
returns-in_err-note_pattern c =
    let p = err_from_is_err_and c.from_residual-in_err-note_pattern.result c.from_residual-in_err-note_pattern.ensures.1 in
    rw (p.1, p.2) (function_stops c.args.pat.now c.args.program.now (sub_of c.args.program.now.types.now) c.args.names.now c.args.node c.in_ok-first.first c.in_ok-value.value c.in_ok-size.size c.args.tables.now c.note_pattern.new.tables c.in_ok-first.ensures c.in_ok-value.ensures c.in_ok-size.ensures _ c.in_err-note_pattern.ensures)

pub returns : goal.returns
returns c = function_enters c.args.pat.now c.args.program.now (sub_of c.args.program.now.types.now) c.args.names.now c.args.node c.in_ok-first.first c.in_ok-value.value c.in_ok-size.size c.args.tables.now c.note_pattern.new.tables c.in_ok-first.ensures c.in_ok-value.ensures c.in_ok-size.ensures c.in_ok-inside.inside _ c.in_ok-note_pattern.ensures c.in_ok-inside.ensures
