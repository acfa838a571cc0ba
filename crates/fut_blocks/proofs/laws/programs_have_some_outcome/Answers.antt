use Rattle.fut_blocks.proofs.SomeOutcome.{some_outcome}
use Rattle.fut_blocks.proofs.laws.programs_have_some_outcome.Goals as goal

pub returns : goal.returns
returns c = some_outcome
