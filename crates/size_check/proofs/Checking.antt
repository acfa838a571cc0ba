-- What search finds by itself.
use Rattle.size_program.specs.Answers.{no_memory}
use Rattle.size_program.proofs.StepLaws.{taken_out_of_memory}

pub ruleset nothing = (no_memory, taken_out_of_memory)
