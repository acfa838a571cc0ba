use Rattle.elab_laws.proofs.Alone.{local_parameters_are_alone, parameters_are_alone, parameters_differ}
use Rattle.elab_laws.proofs.once_laws.type_parameters_are_apart.Goals as goal

pub returns-clause-differ : goal.returns-clause-differ
returns-clause-differ c = parameters_differ

pub returns-clause-alone : goal.returns-clause-alone
returns-clause-alone c = parameters_are_alone

pub returns-clause-within : goal.returns-clause-within
returns-clause-within c = local_parameters_are_alone
