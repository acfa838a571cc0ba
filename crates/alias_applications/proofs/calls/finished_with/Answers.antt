use Rattle.std.proofs.Common.{rules, refl}
use Rattle.std.proofs.lemmas.Result.{err_from_is_err_and}
use Rattle.uniqueness.specs.Held.{here_of}
use Rattle.alias_types.specs.Kinds.{kinds_of}
use Rattle.alias_applications.specs.Shown.{part_with}
use Rattle.alias_applications.proofs.CallForms.{finished_applied, finished_stop, finished_done}
use Rattle.alias_applications.proofs.calls.finished_with.Goals as goal

pub returns-then-not-is_empty : goal.returns-then-not-is_empty
returns-then-not-is_empty c = λ scope. finished_applied (kinds_of c.args.program.now.kinds.now) (here_of scope c.args.here.now) c.args.node c.args.part.now c.args.arguments.now c.args.losses.now _ c.applied.result (search rules) (c.applied.ensures scope)

pub returns-in_err-use_name : goal.returns-in_err-use_name
returns-in_err-use_name c =
    let p = err_from_is_err_and c.from_residual.result c.from_residual.ensures.1 in
    rw (p.1, p.2) (λ scope. finished_stop (kinds_of c.args.program.now.kinds.now) (here_of scope c.args.here.now) c.args.node c.args.part.now c.args.arguments.now c.args.losses.now _ (search rules) (c.in_err-use_name.ensures (kinds_of c.args.program.now.kinds.now) scope (part_with c.args.part.now c.args.arguments.now) refl refl))

pub returns : goal.returns
returns c = λ scope. finished_done (kinds_of c.args.program.now.kinds.now) (here_of scope c.args.here.now) c.args.node c.args.part.now c.args.arguments.now c.args.losses.now (search rules) (c.in_ok-use_name.ensures (kinds_of c.args.program.now.kinds.now) scope (part_with c.args.part.now c.args.arguments.now) refl refl)
