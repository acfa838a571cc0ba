use Rattle.std.proofs.Common.{arith}
use Rattle.uniqueness.specs.Answers.{no_memory}
use Rattle.uniqueness.specs.Held.{here_of}
use Rattle.alias_operations.proofs.OperateForms.{replaced}
use Rattle.alias_operations.proofs.operations.replace.Goals as goal

pub returns : goal.returns
returns c = λ N k K types scope node mark. replaced N K types (here_of scope c.args.here.now) c.args.field.now node mark c.args.held.now _ _ (omega (arith, c.if-held-ne2.false)) c.args.losses.now c.in-Ok-without_part.rest _ _ (c.in-Ok-without_part.ensures N k) (c.in-Ok.ensures N k) (c.of_parts.ensures N K types scope)

pub returns-then-held-ne2 : goal.returns-then-held-ne2
returns-then-held-ne2 c = λ N k K types scope node mark. no_memory

pub returns-in_default : goal.returns-in_default
returns-in_default c = λ N k K types scope node mark. no_memory

pub returns-in_default-without_part : goal.returns-in_default-without_part
returns-in_default-without_part c = λ N k K types scope node mark. no_memory
