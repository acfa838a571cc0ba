use Rattle.std.proofs.Common.{sym, ◌∙◌}
use Rattle.told_rows.proofs.TellForms.{scalar_tells, tuple_tells, record_tells, function_tells_as, row_tells, rows_tell, tells_here, tells_on, tells_over}
use Rattle.told_rows.proofs.telling.+tells.Goals as goal

pub tells-returns-in-Scalar : goal.tells-returns-in-Scalar
tells-returns-in-Scalar t c = λ Z w. scalar_tells Z c.args.known.now c.args.arguments.now c.unknown.result.now c.unknown.ensures _ c.in-Scalar.is

pub tells-returns-in-Tuple : goal.tells-returns-in-Tuple
tells-returns-in-Tuple t c = λ Z w. tuple_tells Z c.args.known.now c.args.arguments.now c.unknown-in-Tuple.result.now c.unknown-in-Tuple.ensures _ c.in-Tuple.is

pub tells-returns-in-Record : goal.tells-returns-in-Record
tells-returns-in-Record t c = λ Z w. record_tells Z c.args.known.now c.args.arguments.now c.unknown-in-Record.result.now c.unknown-in-Record.ensures _ c.in-Record.is

pub tells-returns-in-Function : goal.tells-returns-in-Function
tells-returns-in-Function t c = λ Z w. function_tells_as Z c.args.known.now c.args.arguments.now _ c.closure_tells.result c.in-Function.is (c.closure_tells.ensures Z w)

pub tells-returns-in-Row : goal.tells-returns-in-Row
tells-returns-in-Row t c = λ Z w. row_tells Z c.args.known.now c.args.arguments.now _ _ _ c.in-Primitive.is c.in_ok-row-in-Primitive.field-0 c.in_ok-row-in-Primitive.ensures c.in-Row.row c.in-Row.is

pub tells-returns-in_ok-under-in-Rows : goal.tells-returns-in_ok-under-in-Rows
tells-returns-in_ok-under-in-Rows t c = λ Z w. rows_tell Z c.args.known.now c.args.arguments.now _ _ _ c.in-Primitive.is c.in_ok-row-in-Primitive.field-0 c.in_ok-row-in-Primitive.ensures c.in-Rows.many c.in-Rows.rows c.in_ok-under-in-Rows.under c.shape.result c.in-Rows.is (c.in_ok-under-in-Rows.ensures Z w) c.shape.ensures

pub function_tells-returns-then-is_function : goal.function_tells-returns-then-is_function
function_tells-returns-then-is_function t c = λ Z w. tells_here Z c.args.parts.now c.args.arguments.now c.loop-part.part-index _ c.loop-part-test.true (c.loop-part.invariant Z w) c.tells.result (sym c.if-is_function.true ∙ c.is_function.ensures) (c.tells.ensures Z w)

pub function_tells-loop-part-preserved : goal.function_tells-loop-part-preserved
function_tells-loop-part-preserved t c = λ Z w. tells_on Z c.args.parts.now c.args.arguments.now c.loop-part.part-index _ c.loop-part-test.true (c.loop-part.invariant Z w) (sym c.if-is_function.false ∙ c.is_function.ensures)

pub function_tells-returns : goal.function_tells-returns
function_tells-returns t c = λ Z w. c.unknown.ensures ∙ tells_over Z c.args.parts.now c.args.arguments.now c.loop-part.part-index c.loop-part-test.false (c.loop-part.invariant Z w)
