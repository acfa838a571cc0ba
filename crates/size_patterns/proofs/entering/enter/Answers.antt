use Rattle.fut_flat.specs.Erased.{pattern_of}
use Rattle.size_program.specs.Program.{sub_of}
use Rattle.size_written.specs.Answers.{held as size_held}
use Rattle.size_patterns.proofs.EnterForms.{arrow_enters, own_enters}
use Rattle.size_patterns.proofs.entering.enter.Goals as goal

pub returns-in-Some-clause-gives : goal.returns-in-Some-clause-gives
returns-in-Some-clause-gives c = λ N E k known held. arrow_enters N (sub_of c.args.program.now.types.now) c.args.lambda (pattern_of c.args.pattern.now) c.args.node E c.enter_arrow.new.table c.enter_arrow.result (size_held c.args.wanted) c.in-Some.arrow c.in-Some.ensures (c.enter_arrow.ensures.gives N E k known held)

pub returns-in-None-clause-gives : goal.returns-in-None-clause-gives
returns-in-None-clause-gives c = λ N E k known held. own_enters N (sub_of c.args.program.now.types.now) c.args.lambda (pattern_of c.args.pattern.now) c.args.node E c.args.table.now c.enter_own.result (size_held c.args.wanted) c.in-None.ensures held (c.enter_own.ensures N E.found E k known)
