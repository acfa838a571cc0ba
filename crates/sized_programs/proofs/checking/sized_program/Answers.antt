use Rattle.std.proofs.Common.{ap, ◌∙◌}
use Rattle.std.specs.Prelude.{Err}
use Rattle.fut_flat.specs.Erased.{texts}
use Rattle.fut_typing.specs.Program.{program_of}
use Rattle.flat_numbers.specs.Places.{program_places}
use Rattle.sized_programs.specs.Sizings.{Has_sizing}
use Rattle.sized_programs.proofs.Typings.{has_sizing, in_order, misfits, told_by}
use Rattle.sized_programs.proofs.checking.sized_program.Goals as goal

pub returns-in-Ok-check-clause-ok : goal.returns-in-Ok-check-clause-ok
returns-in-Ok-check-clause-ok c =
    told_by (program_of c.args.flat.now) c.args.inference.now c.requires.infers (Has_sizing (program_of c.args.flat.now) c.sizing_of.result)
    (has_sizing (program_of c.args.flat.now) c.args.inference.now c.requires.infers c.in-Ok.program c.in-Ok.ensures c.check.result c.check.ensures c.in-Ok-check.tables c.in-Ok-check.is c.sizing_of.result c.sizing_of.ensures)

pub returns-in-Ok-check-clause-numbered : goal.returns-in-Ok-check-clause-numbered
returns-in-Ok-check-clause-numbered c =
    in_order (program_of c.args.flat.now) c.args.inference.now c.requires.infers (Has_sizing (program_of c.args.flat.now) c.sizing_of.result) c.requires.ordered
    (has_sizing (program_of c.args.flat.now) c.args.inference.now c.requires.infers c.in-Ok.program c.in-Ok.ensures c.check.result c.check.ensures c.in-Ok-check.tables c.in-Ok-check.is c.sizing_of.result c.sizing_of.ensures)

pub returns-in-Err-Refused-clause-err : goal.returns-in-Err-Refused-clause-err
returns-in-Err-Refused-clause-err c =
    misfits (program_of c.args.flat.now) c.args.inference.now c.requires.infers c.in-Ok.program c.in-Ok.ensures c.check.result c.check.ensures c.in-Err-Refused.refusal c.requires.ordered (c.in-Err-Refused.is ∙ ap Err c.in-Err-Refused.field-0-is)
    (texts c.args.flat.now.names.now) (program_places c.args.flat.now.definitions.now) c.misfit_of.result c.misfit_of.ensures
