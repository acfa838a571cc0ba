use Rattle.std.proofs.Common.{arith}
use Rattle.fut_flat.specs.Erased.{type_of}
use Rattle.uniqueness.specs.Answers.{no_memory}
use Rattle.uniqueness.specs.Held.{here_of}
use Rattle.alias_program.specs.Program.{sub_of}
use Rattle.alias_types.specs.Kinds.{kinds_of}
use Rattle.alias_operations.proofs.OperateForms.{ascribed_as}
use Rattle.alias_operations.proofs.operations.ascribed.Goals as goal

pub returns : goal.returns
returns c = λ N k scope mark. ascribed_as N (kinds_of c.args.program.now.kinds.now) (sub_of c.args.program.now.types.now) (here_of scope c.args.here.now) (type_of c.args.written.now) c.args.node mark c.args.held.now _ (omega (arith, c.if-held-ne1.false)) c.args.losses.now _ _ (c.in-Ok.ensures N k) (c.ascribe.ensures scope c.args.losses.now)

pub returns-then-held-ne1 : goal.returns-then-held-ne1
returns-then-held-ne1 c = λ N k scope mark. no_memory

pub returns-in_default : goal.returns-in_default
returns-in_default c = λ N k scope mark. no_memory
