-- Which operation of a table of pairs each operator of a histogram is.
use Rattle.pair_table.specs.declared.operation.Operation.{Operation}
use Rattle.pair_table.specs.declared.operation.Operation.TheVariants as table
use Rattle.hist_table.specs.declared.HistOp.{HistOp}
use Rattle.hist_table.specs.declared.HistOp.TheVariants as op

abbrev pub operation_of : HistOp → Operation
operation_of op.Add = table.Add
operation_of op.And = table.And
operation_of op.Or = table.Or
operation_of op.Xor = table.Xor
operation_of op.Max = table.Max
operation_of op.Min = table.Min
