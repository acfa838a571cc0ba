use Rattle.std.proofs.lemmas.Result.{err_from_is_err_and}
use Rattle.uniqueness.specs.Held.{held_of, helds_of}
use Rattle.alias_applications.specs.Rules.{nowhere}
use Rattle.alias_applications.proofs.CallForms.{allowed_before, allowed_head, allowed_arguments, allowed_last, settled_head}
use Rattle.alias_applications.proofs.calls.allowed.Goals as goal

pub returns-in_err-demanded : goal.returns-in_err-demanded
returns-in_err-demanded c =
    let p = err_from_is_err_and c.from_residual.result c.from_residual.ensures.1 in
    rw (p.1, p.2) (allowed_before c.args.here.now.asked c.args.before c.args.behind (held_of c.args.head.now) (helds_of c.args.arguments.now) c.args.losses.now _ (c.in_err-demanded.ensures c.args.losses.now))

pub returns-in_err-settle : goal.returns-in_err-settle
returns-in_err-settle c =
    let p = err_from_is_err_and c.from_residual-in_err-settle.result c.from_residual-in_err-settle.ensures.1 in
    rw (p.1, p.2) (allowed_head c.args.here.now.asked c.args.before c.args.behind (held_of c.args.head.now) (helds_of c.args.arguments.now) c.args.losses.now (c.in_ok-demanded.ensures c.args.losses.now) _
    (settled_head c.args.here.now.asked c.args.head.now c.args.losses.now _ _ c.from_ref.ensures.value (c.in_err-settle.ensures nowhere)))

pub returns-in_err-settle-2 : goal.returns-in_err-settle-2
returns-in_err-settle-2 c =
    let p = err_from_is_err_and c.from_residual-in_err-settle-2.result c.from_residual-in_err-settle-2.ensures.1 in
    rw (p.1, p.2) (allowed_arguments c.args.here.now.asked c.args.before c.args.behind (held_of c.args.head.now) (helds_of c.args.arguments.now) c.args.losses.now (c.in_ok-demanded.ensures c.args.losses.now)
    (settled_head c.args.here.now.asked c.args.head.now c.args.losses.now _ _ c.from_ref.ensures.value (c.in_ok-settle.ensures nowhere)) _ (c.in_err-settle-2.ensures nowhere))

pub returns : goal.returns
returns c = allowed_last c.args.here.now.asked c.args.before c.args.behind (held_of c.args.head.now) (helds_of c.args.arguments.now) c.args.losses.now (c.in_ok-demanded.ensures c.args.losses.now)
    (settled_head c.args.here.now.asked c.args.head.now c.args.losses.now _ _ c.from_ref.ensures.value (c.in_ok-settle.ensures nowhere)) c.demanded-2.result (c.in_ok-settle-2.ensures nowhere) (c.demanded-2.ensures c.args.losses.now)
