use Rattle.alias_loops.proofs.WrittenForms.{record_array, record_function, record_parts, record_scalar}
use Rattle.alias_loops.proofs.written.record_in.Goals as goal

pub returns-in-Parts : goal.returns-in-Parts
returns-in-Parts c = record_parts c.args.value.now _ _ _ c.in-Parts.is c.record_of.ensures

pub returns-in-Scalar : goal.returns-in-Scalar
returns-in-Scalar c = record_scalar c.args.value.now c.in-Scalar.is

pub returns-in-Array : goal.returns-in-Array
returns-in-Array c = record_array c.args.value.now _ c.in-Array.is

pub returns-in-Function : goal.returns-in-Function
returns-in-Function c = record_function c.args.value.now _ _ c.in-Function.is
