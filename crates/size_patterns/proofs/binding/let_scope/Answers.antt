use Rattle.size_arena.specs.Trees.{size_of}
use Rattle.size_program.specs.Answers.{no_memory}
use Rattle.size_program.specs.Program.{sub_of}
use Rattle.size_patterns.proofs.BindForms.{let_general, let_binds, let_stops}
use Rattle.size_patterns.proofs.binding.let_scope.Goals as goal

pub returns-in-Ok : goal.returns-in-Ok
returns-in-Ok c = λ N scope k known. let_general N (sub_of c.args.program.now.types.now) c.args.one.now c.args.at (size_of c.args.size.now) scope c.in-Ok.made c.if-one.true (c.in-Ok.ensures N (sub_of c.args.program.now.types.now) scope known)

pub returns-in-Err : goal.returns-in-Err
returns-in-Err c = λ N scope k known. no_memory

pub returns-in-Ok-bind : goal.returns-in-Ok-bind
returns-in-Ok-bind c = λ N scope k known. let_binds N (sub_of c.args.program.now.types.now) c.args.one.now c.args.at (size_of c.args.size.now) scope c.if-one.false c.bind.result (c.bind.ensures.gives N scope k known) c.in-Ok-bind.made c.in-Ok-bind.is

pub returns-in-Err-bind : goal.returns-in-Err-bind
returns-in-Err-bind c = λ N scope k known. let_stops N (sub_of c.args.program.now.types.now) c.args.one.now c.args.at (size_of c.args.size.now) scope c.if-one.false c.bind.result (c.bind.ensures.gives N scope k known) c.in-Err-bind.error c.in-Err-bind.is
