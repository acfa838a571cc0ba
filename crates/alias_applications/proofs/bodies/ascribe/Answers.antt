use Rattle.std.proofs.lemmas.Result.{err_from_is_err_and}
use Rattle.uniqueness.specs.Held.{held_of, here_of}
use Rattle.alias_values.specs.Trees.{stars_of}
use Rattle.alias_applications.proofs.ResultForms.{ascribed_done, ascribed_stop}
use Rattle.alias_applications.proofs.bodies.ascribe.Goals as goal

pub returns-in_err-fits : goal.returns-in_err-fits
returns-in_err-fits c =
    let p = err_from_is_err_and c.from_residual.result c.from_residual.ensures.1 in
    rw (p.1, p.2) (λ scope ls. ascribed_stop (here_of scope c.args.here.now) (stars_of c.args.stars.now) (held_of c.args.held.now) ls _ (c.in_err-fits.ensures ls))

pub returns : goal.returns
returns c = λ scope ls. ascribed_done (here_of scope c.args.here.now) (stars_of c.args.stars.now) (held_of c.args.held.now) ls c.in-Ok.made (c.in_ok-fits.ensures ls) c.in-Ok.ensures
