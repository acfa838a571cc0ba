use Rattle.std.proofs.Common.{arith}
use Rattle.type_primitives.proofs.Asking.{number_small}
use Rattle.type_primitives.proofs.asked.variable.Goals as goal

pub overflow_add-result : goal.overflow_add-result
overflow_add-result c = omega (arith, number_small c.args.letter, c.number.ensures, c.requires)
