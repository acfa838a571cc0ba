use Rattle.fut_sizes.specs.Sizing.{own_sizes}
use Rattle.size_program.specs.Answers.{no_memory}
use Rattle.size_program.specs.Program.{sub_of}
use Rattle.size_patterns.proofs.entering.enter_own.Goals as goal

pub returns-in-Ok : goal.returns-in-Ok
returns-in-Ok c = λ N σ E k known. c.enter_sized.ensures N (sub_of c.args.program.now.types.now) (own_sizes N (sub_of c.args.program.now.types.now) c.args.node) σ E k known (c.in-Ok.ensures N k)

pub returns-in-Err : goal.returns-in-Err
returns-in-Err c = λ N σ E k known. no_memory
