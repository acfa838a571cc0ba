use Rattle.sized_meaning.proofs.Programs.{definitions_are_entered}
use Rattle.sized_meaning.proofs.laws.definitions_are_entered.Goals as goal

pub returns : goal.returns
returns c = definitions_are_entered
