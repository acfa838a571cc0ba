use Rattle.std.proofs.Common.{Ok, sym, ◌∙◌}
use Rattle.size_applying.proofs.MatchingForms.{function_later, function_waits}
use Rattle.size_applying.proofs.matching.function_meets.Goals as goal

pub returns-else-is_function-clause-met : goal.returns-else-is_function-clause-met
returns-else-is_function-clause-met c = λ N types w wants. function_later N types c.args.is_regular c.args.table.now c.args.table.now c.args.wanting.now (Ok tt) w wants c.in-Early.at c.in-Early.value c.in-Early.is_use c.in-Early.size c.in-Early.is (sym c.if-is_function.false ∙ c.is_function.ensures)

pub returns-in-Late-clause-met : goal.returns-in-Late-clause-met
returns-in-Late-clause-met c = λ N types w wants. function_waits N types c.args.is_regular c.args.table.now c.args.table.now c.args.wanting.now (Ok tt) w wants c.in-Late.exp c.in-Late.node c.in-Late.names c.in-Late.is
