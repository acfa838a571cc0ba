use Rattle.command_words.specs.Held.{command_in}
use Rattle.futhark_core.proofs.Ready.{not_entered, unentered_row}
use Rattle.futhark_core.proofs.program.run_program.Goals as goal

pub returns-in-Err-Entry : goal.returns-in-Err-Entry
returns-in-Err-Entry g c = λ source these same resolved.
    unentered_row (command_in c.args.command.now) source _ _ _ c.unentered.ensures
    (not_entered c.requires.known c.requires.sized c.requires.resolved _ _ (rw c.in-Err-Entry.field-0-is at c.in-Err-Entry.ensures.err) source same)
