use Rattle.uniqueness.specs.Held.{here_of}
use Rattle.alias_forms.proofs.FunctionForms.{fits_all, fits_not, fits_unasked}
use Rattle.alias_forms.proofs.functions.capture_fits.Goals as goal

pub returns-then-not-here : goal.returns-then-not-here
returns-then-not-here c = λ naming N K types scope. fits_unasked naming N K types (here_of scope c.args.here.now) c.args.at c.args.names.now c.args.losses.now c.if-not-here.true

pub returns-in-Some : goal.returns-in-Some
returns-in-Some c = λ naming N K types scope. fits_not naming N K types (here_of scope c.args.here.now) c.args.at c.args.names.now c.args.losses.now c.if-not-here.false c.lost.ensures c.in-Some.is

pub returns-in-None : goal.returns-in-None
returns-in-None c = λ naming N K types scope. fits_all naming N K types (here_of scope c.args.here.now) c.args.at c.args.names.now c.args.losses.now c.if-not-here.false c.lost.ensures c.in-None.is
