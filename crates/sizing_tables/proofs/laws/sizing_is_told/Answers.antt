use Rattle.sizing_tables.proofs.Sizings.{sizing_is_there, sizing_is_told}
use Rattle.sizing_tables.proofs.laws.sizing_is_told.Goals as goal

pub returns-clause-there : goal.returns-clause-there
returns-clause-there c = sizing_is_there

pub returns-clause-told : goal.returns-clause-told
returns-clause-told c = sizing_is_told
