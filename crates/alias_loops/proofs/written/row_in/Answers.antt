use Rattle.alias_loops.proofs.WrittenForms.{row_array, row_function, row_parts, row_scalar}
use Rattle.alias_loops.proofs.written.row_in.Goals as goal

pub returns-in-Parts : goal.returns-in-Parts
returns-in-Parts c = row_parts c.args.value.now _ _ c.in-Parts.is

pub returns-in-Scalar : goal.returns-in-Scalar
returns-in-Scalar c = row_scalar c.args.value.now c.in-Scalar.is

pub returns-in-Array : goal.returns-in-Array
returns-in-Array c = row_array c.args.value.now _ c.in-Array.is

pub returns-in-Function : goal.returns-in-Function
returns-in-Function c = row_function c.args.value.now _ _ c.in-Function.is
