use Rattle.std.proofs.lemmas.Result.{err_from_is_err_and}
use Rattle.size_program.specs.Answers.{no_memory}
use Rattle.size_operations.proofs.arrays.empty_row.Goals as goal

pub returns-in_err-levels : goal.returns-in_err-levels
returns-in_err-levels c = let p = err_from_is_err_and c.from_residual.result c.from_residual.ensures.1 in rw (p.1, p.2) no_memory
