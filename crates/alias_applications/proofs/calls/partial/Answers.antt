use Rattle.std.proofs.lemmas.Result.{err_from_is_err_and}
use Rattle.uniqueness.specs.Held.{held_of, helds_of, here_of}
use Rattle.alias_values.specs.Trees.{stars_of}
use Rattle.alias_applications.specs.Givens.{givens_of}
use Rattle.alias_applications.proofs.CallForms.{partial_not_allowed, partial_done}
use Rattle.alias_applications.proofs.calls.partial.Goals as goal

pub returns-in_err-partial_allowed : goal.returns-in_err-partial_allowed
returns-in_err-partial_allowed c =
    let p = err_from_is_err_and c.from_residual.result c.from_residual.ensures.1 in
    rw (p.1, p.2) (λ K scope. partial_not_allowed K (here_of scope c.args.here.now) (held_of c.args.head.now) (helds_of c.args.arguments.now) (stars_of c.args.stars.now) (stars_of c.args.rest.now) c.requires.stars c.requires.rest (givens_of c.in-Ok.all.now) c.in-Ok.ensures c.args.losses.now _ c.in_err-partial_allowed.ensures)

pub returns : goal.returns
returns c = λ K scope. partial_done K (here_of scope c.args.here.now) (held_of c.args.head.now) (helds_of c.args.arguments.now) (stars_of c.args.stars.now) (stars_of c.args.rest.now) c.requires.stars c.requires.rest (givens_of c.in-Ok.all.now) c.in-Ok.ensures c.args.losses.now _ c.in_ok-partial_allowed.ensures c.in-Ok-partial_value.ensures
