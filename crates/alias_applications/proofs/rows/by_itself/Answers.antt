use Rattle.std.proofs.Common.{Ok}
use Rattle.std.proofs.lemmas.Result.{err_from_is_err_and}
use Rattle.fut_aliases.specs.Calls.{finished}
use Rattle.fut_aliases.specs.Looking.{held}
use Rattle.uniqueness.specs.Held.{held_of, here_of}
use Rattle.alias_types.specs.Kinds.{kinds_of}
use Rattle.alias_program.specs.Parts.{part_of}
use Rattle.alias_applications.specs.Shown.{shown_value}
use Rattle.alias_applications.proofs.StepForms.{bind_ok, bind_stop}
use Rattle.alias_applications.proofs.rows.by_itself.Goals as goal

pub returns-in_err-value : goal.returns-in_err-value
returns-in_err-value c =
    let p = err_from_is_err_and c.from_residual.result c.from_residual.ensures.1 in
    rw (p.1, p.2) (λ scope e n. bind_stop shown_value held_of (finished (kinds_of c.args.program.now.kinds.now) (here_of scope c.args.here.now) c.args.told.node (part_of c.args.part.now)) (λ v. held e c.args.told.node v) c.args.losses.now _ _ _ (c.in_err-value.ensures scope))

pub returns : goal.returns
returns c = λ scope e n. bind_ok shown_value held_of (finished (kinds_of c.args.program.now.kinds.now) (here_of scope c.args.here.now) c.args.told.node (part_of c.args.part.now)) (λ v. held e c.args.told.node v) c.args.losses.now _ _ c.in_ok-value.value (Ok c.hold.result) (c.in_ok-value.ensures scope) (c.hold.ensures e n)
