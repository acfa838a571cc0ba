use Rattle.fut_typing.specs.Program.{program_of}
use Rattle.typed_programs.proofs.typed.typed_program.Goals as goal

pub returns-clause-err : goal.returns-clause-err
returns-clause-err c = c.placed.ensures (program_of c.args.flat) c.in-Err.ensures.err.0 c.in-Err.ensures.err.1
