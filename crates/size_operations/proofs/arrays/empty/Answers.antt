use Rattle.std.proofs.lemmas.Result.{err_from_is_err_and}
use Rattle.size_program.specs.Answers.{no_memory}
use Rattle.size_operations.proofs.ElementForms.{empty_none, empty_some}
use Rattle.size_operations.proofs.arrays.empty.Goals as goal

pub returns-in_err-ty : goal.returns-in_err-ty
returns-in_err-ty c = let p = err_from_is_err_and c.from_residual.result c.from_residual.ensures.1 in rw (p.1, p.2) no_memory

pub returns-in-Some : goal.returns-in-Some
returns-in-Some c = rw (← c.in_ok-ty.ensures, empty_some _ c.element.result c.element.ensures c.args.node c.in-Some.one c.in-Some.is) c.empty_row.ensures

pub returns-in-None : goal.returns-in-None
returns-in-None c = rw (← c.in_ok-ty.ensures, empty_none _ c.element.result c.element.ensures c.args.node c.in-None.is, c.in_ok-ty.ensures) (c.sized.ensures _ c.plain_size.ensures)
