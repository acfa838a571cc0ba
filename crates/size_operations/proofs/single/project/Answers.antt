use Rattle.std.proofs.Common.{refl}
use Rattle.std.proofs.lemmas.Result.{err_from_is_err_and}
use Rattle.size_program.specs.Answers.{answers, no_memory}
use Rattle.size_program.specs.Program.{sub_of}
use Rattle.size_operations.proofs.SingleForms.{project_none, project_some}
use Rattle.size_operations.proofs.single.project.Goals as goal

pub returns-then-sizes-ne1 : goal.returns-then-sizes-ne1
returns-then-sizes-ne1 c = λ N k at es. no_memory

pub returns-in_err-found : goal.returns-in_err-found
returns-in_err-found c = let p = err_from_is_err_and c.from_residual.result c.from_residual.ensures.1 in rw (p.1, p.2) (λ N k at es. no_memory)

pub returns-in-Some : goal.returns-in-Some
returns-in-Some c = λ N k at es. rw (project_some N (sub_of c.args.program.now.types.now) c.args.node at es c.args.sizes.now c.index-sizes-0.result c.if-sizes-ne1.false c.args.name.now c.in_ok-found.found (rw (← c.index-sizes-0.is) (c.in_ok-found.ensures N k)) c.in-Some.part c.in-Some.is) (answers refl refl)

pub returns-in-None : goal.returns-in-None
returns-in-None c = λ N k at es. rw (project_none N (sub_of c.args.program.now.types.now) c.args.node at es c.args.sizes.now c.index-sizes-0.result c.if-sizes-ne1.false c.args.name.now c.in_ok-found.found (rw (← c.index-sizes-0.is) (c.in_ok-found.ensures N k)) c.in-None.is) (c.sized.ensures _ c.plain_size.ensures)
