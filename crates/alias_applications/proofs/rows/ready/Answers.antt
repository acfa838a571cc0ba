use Rattle.std.proofs.Common.{rules, refl}
use Rattle.std.proofs.lemmas.Result.{err_from_is_err_and}
use Rattle.uniqueness.specs.Held.{here_of}
use Rattle.alias_types.specs.Kinds.{kinds_of}
use Rattle.alias_values.specs.Trees.{value_of}
use Rattle.alias_program.specs.Program.{sub_of}
use Rattle.alias_applications.specs.Shown.{part_with}
use Rattle.alias_applications.proofs.RowForms.{ready_called, ready_stays, ready_stopped, ready_unused, ready_used, finished_as, wanted_as, whole_alone}
use Rattle.alias_applications.proofs.rows.ready.Goals as goal

pub returns-then-is_empty : goal.returns-then-is_empty
returns-then-is_empty c = λ naming N scope f n. ready_used naming N (kinds_of c.args.program.now.kinds.now) (sub_of c.args.program.now.types.now) (here_of scope c.args.here.now) f c.args.told.node c.args.part.now c.args.arguments.now.items _ c.args.losses.now (search rules) refl (c.in_ok-use_name.ensures (kinds_of c.args.program.now.kinds.now) scope (part_with c.args.part.now c.args.arguments.now.items) refl refl)

pub returns-in_err-use_name : goal.returns-in_err-use_name
returns-in_err-use_name c =
    let p = err_from_is_err_and c.from_residual.result c.from_residual.ensures.1 in
    rw (p.1, p.2) (λ naming N scope f n. ready_unused naming N (kinds_of c.args.program.now.kinds.now) (sub_of c.args.program.now.types.now) (here_of scope c.args.here.now) f c.args.told.node c.args.part.now c.args.arguments.now.items _ c.args.losses.now _ (search rules) (c.in_err-use_name.ensures (kinds_of c.args.program.now.kinds.now) scope (part_with c.args.part.now c.args.arguments.now.items) refl refl))

pub returns-then-is_some : goal.returns-then-is_some
returns-then-is_some c = λ naming N scope f n. ready_stays naming N (kinds_of c.args.program.now.kinds.now) (sub_of c.args.program.now.types.now) (here_of scope c.args.here.now) f c.args.told.node c.args.part.now c.args.arguments.now.items _ c.args.losses.now _ c.wanted_parameter-wanted.result (search rules) (wanted_as c.args.part.now _ c.args.arguments.now.items c.wanted_parameter-wanted.result c.as_slice.ensures.value c.wanted_parameter-wanted.ensures) (search rules) refl

pub returns-in_err-value : goal.returns-in_err-value
returns-in_err-value c =
    let p = err_from_is_err_and c.from_residual-in_err-value.result c.from_residual-in_err-value.ensures.1 in
    rw (p.1, p.2) (λ naming N scope f n. ready_stopped naming N (kinds_of c.args.program.now.kinds.now) (sub_of c.args.program.now.types.now) (here_of scope c.args.here.now) f c.args.told.node c.args.part.now c.args.arguments.now.items _ c.args.losses.now c.wanted_parameter-wanted.result (search rules) (wanted_as c.args.part.now _ c.args.arguments.now.items c.wanted_parameter-wanted.result c.as_slice.ensures.value c.wanted_parameter-wanted.ensures) (search rules) _ _ (finished_as (kinds_of c.args.program.now.kinds.now) (here_of scope c.args.here.now) c.args.told.node c.args.part.now _ c.args.arguments.now.items c.args.losses.now _ _ c.as_slice-2.ensures.value (c.in_err-value.ensures scope)))

pub returns : goal.returns
returns c = λ naming N scope f n. ready_called naming N (kinds_of c.args.program.now.kinds.now) (sub_of c.args.program.now.types.now) (here_of scope c.args.here.now) f c.args.told.node c.args.part.now c.args.arguments.now.items _ c.args.losses.now c.wanted_parameter-wanted.result (search rules) (wanted_as c.args.part.now _ c.args.arguments.now.items c.wanted_parameter-wanted.result c.as_slice.ensures.value c.wanted_parameter-wanted.ensures) (search rules) _ c.in_ok-value.value c.whole.result (finished_as (kinds_of c.args.program.now.kinds.now) (here_of scope c.args.here.now) c.args.told.node c.args.part.now _ c.args.arguments.now.items c.args.losses.now _ _ c.as_slice-2.ensures.value (c.in_ok-value.ensures scope)) (whole_alone naming N (kinds_of c.args.program.now.kinds.now) (sub_of c.args.program.now.types.now) f c.args.told.node (value_of c.in_ok-value.value.now) _ _ _ c.whole.result c.clear.ensures.items (c.whole.ensures naming N (kinds_of c.args.program.now.kinds.now) f n))
