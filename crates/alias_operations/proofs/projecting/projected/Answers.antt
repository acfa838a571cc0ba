use Rattle.std.proofs.Common.{◌∙◌, sym}
use Rattle.std.proofs.lemmas.Result.{err_from_is_err_and}
use Rattle.uniqueness.specs.Answers.{no_memory}
use Rattle.uniqueness.specs.Held.{here_of}
use Rattle.alias_program.specs.Parts.{part_of}
use Rattle.alias_program.specs.Program.{sub_of}
use Rattle.alias_types.specs.Kinds.{kinds_of}
use Rattle.alias_operations.proofs.PathForms.{field_done, field_stop, path_done}
use Rattle.alias_operations.proofs.projecting.projected.Goals as goal

pub returns-in-Ok : goal.returns-in-Ok
returns-in-Ok c = λ naming N k scope e n. path_done naming N (kinds_of c.args.program.now.kinds.now) (sub_of c.args.program.now.types.now) (here_of scope c.args.here.now) e c.args.field.now c.args.told.node (part_of c.args.part.now) c.in-Ok.longer c.args.losses.now (sym c.is_path.ensures ∙ c.if-is_path.true) (c.in-Ok.ensures N k)

pub returns-in-Err : goal.returns-in-Err
returns-in-Err c = λ naming N k scope e n. no_memory

pub returns-in_default : goal.returns-in_default
returns-in_default c = λ naming N k scope e n. no_memory

pub returns-in_err-value : goal.returns-in_err-value
returns-in_err-value c =
    let p = err_from_is_err_and c.from_residual.result c.from_residual.ensures.1 in
    rw (p.1, p.2) (λ naming N k scope e n. field_stop naming N (kinds_of c.args.program.now.kinds.now) (sub_of c.args.program.now.types.now) (here_of scope c.args.here.now) e c.args.field.now c.args.told.node (part_of c.args.part.now) (sym c.is_path.ensures ∙ c.if-is_path.false) c.in-Ok-after.node c.in-Ok-after.ensures c.args.losses.now c.finished.new.losses _ (c.in_err-value.ensures scope))

pub returns-in_default-part_named : goal.returns-in_default-part_named
returns-in_default-part_named c = λ naming N k scope e n. no_memory

pub returns : goal.returns
returns c = λ naming N k scope e n. field_done naming N (kinds_of c.args.program.now.kinds.now) (sub_of c.args.program.now.types.now) (here_of scope c.args.here.now) e c.args.field.now c.args.told.node (part_of c.args.part.now) (sym c.is_path.ensures ∙ c.if-is_path.false) c.in-Ok-after.node c.in-Ok-after.ensures c.args.losses.now c.finished.new.losses c.in_ok-value.value _ _ (c.in_ok-value.ensures scope) (c.in-Ok-part_named.ensures N k)
    (c.whole.ensures naming N (kinds_of c.args.program.now.kinds.now) e n)
