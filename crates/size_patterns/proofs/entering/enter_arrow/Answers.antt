use Rattle.fut_flat.specs.Erased.{pattern_of}
use Rattle.size_arena.specs.Trees.{size_of}
use Rattle.size_program.specs.Answers.{no_memory}
use Rattle.size_program.specs.Program.{sub_of}
use Rattle.size_patterns.proofs.EnterForms.{open_enters, wanted_enters}
use Rattle.size_patterns.proofs.entering.enter_arrow.Goals as goal

pub returns-then-is_open-clause-gives : goal.returns-then-is_open-clause-gives
returns-then-is_open-clause-gives c = λ N E k known held. open_enters N (sub_of c.args.program.now.types.now) c.args.lambda (pattern_of c.args.pattern.now) c.args.node E c.args.table.now c.enter_open.result c.args.arrow c.is_open.result c.if-is_open.true c.is_open.ensures held (c.enter_open.ensures N E.found E k known)

pub returns-in-Ok-clause-gives : goal.returns-in-Ok-clause-gives
returns-in-Ok-clause-gives c = λ N E k known held.
    let w = c.in-Ok.ensures N (sub_of c.args.program.now.types.now) k in
    wanted_enters N (sub_of c.args.program.now.types.now) c.args.lambda (pattern_of c.args.pattern.now) c.args.node E c.enter_met.new.table c.enter_met.result c.args.arrow c.is_open.result (size_of c.in-Ok.wanted.given.now) (size_of c.in-Ok.wanted.rest.now) c.if-is_open.false c.is_open.ensures w.given w.rest (c.enter_met.ensures.gives N (sub_of c.args.program.now.types.now) E k known held w.size)

pub returns-in-Err-clause-gives : goal.returns-in-Err-clause-gives
returns-in-Err-clause-gives c = λ N E k known held. no_memory
