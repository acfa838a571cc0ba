use Rattle.sizing_laws.proofs.Sources.{nothing_open_is_one, sizings_are_one}
use Rattle.sizing_laws.proofs.laws.closed_sizings_are_one.Goals as goal

pub returns-clause-closed : goal.returns-clause-closed
returns-clause-closed c = nothing_open_is_one

pub returns-clause-sizing : goal.returns-clause-sizing
returns-clause-sizing c = sizings_are_one
