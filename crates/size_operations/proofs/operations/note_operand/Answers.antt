use Rattle.std.proofs.lemmas.Result.{err_from_is_err_and}
use Rattle.size_arena.specs.Trees.{sizes_of}
use Rattle.size_program.proofs.StepLaws.{out_of_memory}
use Rattle.size_operations.specs.Plain.{operand_noted}
use Rattle.size_operations.proofs.OperationForms.{Noted, operand_known}
use Rattle.size_operations.proofs.operations.note_operand.Goals as goal

pub returns-in_err-second : goal.returns-in_err-second
returns-in_err-second c = let p = err_from_is_err_and c.from_residual.result c.from_residual.ensures.1 in rw (p.1, p.2) (out_of_memory Noted (operand_noted c.args.node (sizes_of c.args.sizes.now)) c.args.tables.now c.args.tables.now)

pub returns : goal.returns
returns c = operand_known c.args.tables.now c.note.new.tables c.args.node c.args.sizes.now c.index-sizes-0.result c.in_ok-second.second c.note.result c.if-sizes-eq0.false c.in_ok-second.ensures (rw (← c.index-sizes-0.is) c.note.ensures)
