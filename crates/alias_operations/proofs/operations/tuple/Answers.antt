use Rattle.std.proofs.Common.{refl}
use Rattle.uniqueness.specs.Answers.{no_memory}
use Rattle.uniqueness.specs.Held.{helds_of, here_of}
use Rattle.alias_operations.proofs.OperateForms.{settled_as}
use Rattle.alias_operations.proofs.operations.tuple.Goals as goal

pub returns-in_default : goal.returns-in_default
returns-in_default c = λ N K types scope node mark. no_memory

pub returns : goal.returns
returns c = λ N K types scope node mark. settled_as N K types (here_of scope c.args.here.now) _ (helds_of c.args.held.now) _ _ c.args.losses.now _ c.in-Ok.ensures (c.of_parts.ensures N K types scope) refl
