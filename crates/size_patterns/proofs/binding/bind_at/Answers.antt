use Rattle.size_program.specs.Answers.{no_memory}
use Rattle.size_patterns.proofs.binding.bind_at.Goals as goal

pub returns-in-Err-clause-gives : goal.returns-in-Err-clause-gives
returns-in-Err-clause-gives c = λ N scope knows known. no_memory
