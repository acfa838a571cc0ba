use Rattle.std.proofs.lemmas.Result.{err_from_is_err_and}
use Rattle.fut_typing.specs.Program.{defined}
use Rattle.size_program.specs.Program.{sub_of}
use Rattle.size_check.proofs.DefinitionLaws.{definition_done, head_refused, note_refused, value_refused}
use Rattle.size_check.proofs.definitions.size_definition.Goals as goal

pub returns-in_err-has_parameters-clause-sized : goal.returns-in_err-has_parameters-clause-sized
returns-in_err-has_parameters-clause-sized c =
    let p = err_from_is_err_and c.from_residual.result c.from_residual.ensures.1 in
    rw (p.1, p.2) (head_refused (sub_of c.args.program.now.types.now) (defined c.args.definition.now) c.args.before.now.at c.args.program.now c.args.before.now.names.now c.in-Ok-head_names.heads.now c.in-Ok.value c.in-Ok-head_names.ensures c.in-Ok.ensures c.args.tables.now _ _ (λ N types. c.in_err-has_parameters.ensures N types))

pub returns-in_err-whole-clause-sized : goal.returns-in_err-whole-clause-sized
returns-in_err-whole-clause-sized c =
    let p = err_from_is_err_and c.from_residual-in_err-whole.result c.from_residual-in_err-whole.ensures.1 in
    rw (p.1, p.2) (value_refused (sub_of c.args.program.now.types.now) (defined c.args.definition.now) c.args.before.now.at c.args.program.now c.args.before.now.names.now c.in-Ok-head_names.heads.now c.in-Ok.value c.in-Ok-head_names.ensures c.in-Ok.ensures c.args.tables.now c.in_ok-has_parameters.field-0 (λ N types. c.in_ok-has_parameters.ensures N types) c.in-Ok-with_head.inside.now (λ N types scope within. c.in-Ok-with_head.ensures N types scope within) _ _ c.in_err-whole.ensures.sized)

pub returns-in_err-note-clause-sized : goal.returns-in_err-note-clause-sized
returns-in_err-note-clause-sized c =
    let p = err_from_is_err_and c.from_residual-in_err-note.result c.from_residual-in_err-note.ensures.1 in
    rw (p.1, p.2) (note_refused (sub_of c.args.program.now.types.now) (defined c.args.definition.now) c.args.before.now.at c.args.program.now c.args.before.now.names.now c.in-Ok-head_names.heads.now c.in-Ok.value c.in-Ok-head_names.ensures c.in-Ok.ensures c.args.tables.now c.in_ok-has_parameters.field-0 (λ N types. c.in_ok-has_parameters.ensures N types) c.in-Ok-with_head.inside.now (λ N types scope within. c.in-Ok-with_head.ensures N types scope within) c.in_ok-whole.whole _ c.in_ok-whole.ensures.sized _ _ c.in_err-note.ensures)

pub returns-clause-sized : goal.returns-clause-sized
returns-clause-sized c = definition_done (sub_of c.args.program.now.types.now) (defined c.args.definition.now) c.args.before.now.at c.args.program.now c.args.before.now.names.now c.in-Ok-head_names.heads.now c.in-Ok.value c.in-Ok-head_names.ensures c.in-Ok.ensures c.args.tables.now c.in_ok-has_parameters.field-0 (λ N types. c.in_ok-has_parameters.ensures N types) c.in-Ok-with_head.inside.now (λ N types scope within. c.in-Ok-with_head.ensures N types scope within) c.in_ok-whole.whole _ c.in_ok-whole.ensures.sized c.in_ok-note.field-0 _ c.in_ok-note.ensures _ (λ N scope within. c.in-Ok-with_general_name.ensures scope within)
