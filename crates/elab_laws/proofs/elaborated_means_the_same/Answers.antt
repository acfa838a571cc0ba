use Rattle.elab_laws.proofs.Programs.{declared_adds_nothing, declared_loses_nothing}
use Rattle.elab_laws.proofs.elaborated_means_the_same.Goals as goal

pub returns-clause-adds_nothing : goal.returns-clause-adds_nothing
returns-clause-adds_nothing c = declared_adds_nothing

pub returns-clause-loses_nothing : goal.returns-clause-loses_nothing
returns-clause-loses_nothing c = declared_loses_nothing
