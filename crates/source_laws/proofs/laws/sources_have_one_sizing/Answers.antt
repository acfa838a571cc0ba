use Rattle.source_laws.proofs.Sources.{sizing_is_one, not_refused_too}
use Rattle.source_laws.proofs.laws.sources_have_one_sizing.Goals as goal

pub returns-clause-one : goal.returns-clause-one
returns-clause-one c = sizing_is_one

pub returns-clause-refused : goal.returns-clause-refused
returns-clause-refused c = not_refused_too
