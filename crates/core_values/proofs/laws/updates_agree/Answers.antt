use Rattle.core_values.proofs.Updating.{updates_agree, updated_are_regular}
use Rattle.core_values.proofs.laws.updates_agree.Goals as goal

pub returns-clause-agree : goal.returns-clause-agree
returns-clause-agree c = updates_agree

pub returns-clause-regular : goal.returns-clause-regular
returns-clause-regular c = updated_are_regular
