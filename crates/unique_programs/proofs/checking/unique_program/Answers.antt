use Rattle.std.proofs.Common.{ap, ◌∙◌}
use Rattle.std.specs.Prelude.{Err, None}
use Rattle.fut_flat.specs.Erased.{texts}
use Rattle.fut_typing.specs.Program.{program_of}
use Rattle.flat_numbers.specs.Places.{program_places}
use Rattle.unique_programs.specs.Rules.{Breaks_none}
use Rattle.unique_programs.proofs.Typings.{in_order, misused, told_by}
use Rattle.unique_programs.proofs.checking.unique_program.Goals as goal

pub returns-in-Ok-check-clause-ok : goal.returns-in-Ok-check-clause-ok
returns-in-Ok-check-clause-ok c = told_by c.args.accepted.now c.requires.known c.in-Ok.program c.in-Ok.ensures None c.in-Ok-check.ensures.accepted

pub returns-in-Ok-check-clause-numbered : goal.returns-in-Ok-check-clause-numbered
returns-in-Ok-check-clause-numbered c =
    in_order c.args.accepted.now c.requires.known c.in-Ok.program c.in-Ok.ensures None c.in-Ok-check.ensures.accepted (Breaks_none (program_of c.args.accepted.now.flat)) (λ N w. w)

pub returns-in-Err-Refused-clause-err : goal.returns-in-Err-Refused-clause-err
returns-in-Err-Refused-clause-err c =
    misused c.args.accepted.now c.requires.known c.in-Ok.program c.in-Ok.ensures c.in-Err-Refused.rule (λ N knows. c.check.ensures.refused N knows c.in-Err-Refused.rule (c.in-Err-Refused.is ∙ ap Err c.in-Err-Refused.field-0-is))
    (texts c.args.accepted.now.flat.names.now) (program_places c.args.accepted.now.flat.definitions.now) c.misuse_of.result c.misuse_of.ensures
