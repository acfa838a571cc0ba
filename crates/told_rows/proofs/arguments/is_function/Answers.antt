use Rattle.std.proofs.Common.{ap, sym}
use Rattle.unfold.proofs.Mirror.{known_scalar, known_tuple, known_record, known_function, known_primitive}
use Rattle.unfold.specs.Telling.{is_function}
use Rattle.told_rows.proofs.arguments.is_function.Goals as goal

pub returns-in-Scalar : goal.returns-in-Scalar
returns-in-Scalar c = sym (ap is_function (known_scalar c.args.known.now _ c.in-Scalar.is))

pub returns-in-Tuple : goal.returns-in-Tuple
returns-in-Tuple c = sym (ap is_function (known_tuple c.args.known.now _ c.in-Tuple.is))

pub returns-in-Record : goal.returns-in-Record
returns-in-Record c = sym (ap is_function (known_record c.args.known.now _ c.in-Record.is))

pub returns-in-Function : goal.returns-in-Function
returns-in-Function c = sym (ap is_function (known_function c.args.known.now _ c.in-Function.is))

pub returns-in-Primitive : goal.returns-in-Primitive
returns-in-Primitive c = sym (ap is_function (known_primitive c.args.known.now _ _ _ c.in-Primitive.is))
