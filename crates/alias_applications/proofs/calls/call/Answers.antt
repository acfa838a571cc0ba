use Rattle.std.proofs.lemmas.Result.{err_from_is_err_and}
use Rattle.uniqueness.specs.Held.{held_of, helds_of, here_of}
use Rattle.alias_types.specs.Kinds.{kinds_of}
use Rattle.alias_values.specs.Trees.{stars_of, type_of}
use Rattle.alias_applications.specs.Givens.{givens_of}
use Rattle.alias_applications.proofs.CallForms.{call_not_allowed, call_not_consumed, call_done}
use Rattle.alias_applications.proofs.calls.call.Goals as goal

pub returns-in_err-call_allowed : goal.returns-in_err-call_allowed
returns-in_err-call_allowed c =
    let p = err_from_is_err_and c.from_residual.result c.from_residual.ensures.1 in
    rw (p.1, p.2) (λ scope. call_not_allowed (kinds_of c.args.program.now.kinds.now) (here_of scope c.args.here.now) c.args.node (held_of c.args.head.now) (helds_of c.args.arguments.now) (stars_of c.args.stars.now) (stars_of c.args.rest.now) (type_of c.args.ty.now) (givens_of c.in-Ok.all.now) c.in-Ok.ensures c.args.losses.now _ _ c.in_err-call_allowed.ensures)

pub returns-in_err-consume_given : goal.returns-in_err-consume_given
returns-in_err-consume_given c =
    let p = err_from_is_err_and c.from_residual-in_err-consume_given.result c.from_residual-in_err-consume_given.ensures.1 in
    rw (p.1, p.2) (λ scope. call_not_consumed (kinds_of c.args.program.now.kinds.now) (here_of scope c.args.here.now) c.args.node (held_of c.args.head.now) (helds_of c.args.arguments.now) (stars_of c.args.stars.now) (stars_of c.args.rest.now) (type_of c.args.ty.now) (givens_of c.in-Ok.all.now) c.in-Ok.ensures c.args.losses.now _ _ c.in_ok-call_allowed.ensures c.in_err-consume_given.ensures)

pub returns : goal.returns
returns c = λ scope. call_done (kinds_of c.args.program.now.kinds.now) (here_of scope c.args.here.now) c.args.node (held_of c.args.head.now) (helds_of c.args.arguments.now) (stars_of c.args.stars.now) (stars_of c.args.rest.now) (type_of c.args.ty.now) (givens_of c.in-Ok.all.now) c.in-Ok.ensures c.args.losses.now _ _ c.in_ok-call_allowed.ensures c.in_ok-consume_given.ensures c.in-Ok-called_value.ensures
