use Rattle.std.proofs.Common.{Ok, refl}
use Rattle.std.proofs.lemmas.Result.{err_from_is_err_and}
use Rattle.fut_aliases.specs.Calls.{settled}
use Rattle.fut_aliases.specs.Steps.{give}
use Rattle.alias_values.specs.Trees.{value_of}
use Rattle.uniqueness.specs.Held.{helds_of, here_of}
use Rattle.alias_applications.specs.Shown.{shown_value}
use Rattle.alias_applications.proofs.StepForms.{bind_ok, bind_stop, given}
use Rattle.alias_operations.proofs.operations.of_parts.Goals as goal

pub returns-in_err-settle : goal.returns-in_err-settle
returns-in_err-settle c =
    let p = err_from_is_err_and c.from_residual.result c.from_residual.ensures.1 in
    rw (p.1, p.2) (λ N K types scope. bind_stop (λ (u : Unit {0}). tt) shown_value (settled (here_of scope c.args.here.now) (helds_of c.args.parts.now)) (λ z. give (value_of c.args.value.now)) c.args.losses.now c.args.losses.now c.args.losses.now _ (c.in_err-settle.ensures scope))

pub returns : goal.returns
returns c = λ N K types scope. bind_ok (λ (u : Unit {0}). tt) shown_value (settled (here_of scope c.args.here.now) (helds_of c.args.parts.now)) (λ z. give (value_of c.args.value.now)) c.args.losses.now c.args.losses.now c.args.losses.now tt (Ok c.args.value) (c.in_ok-settle.ensures scope) (given shown_value (value_of c.args.value.now) c.args.value c.args.losses.now refl)
