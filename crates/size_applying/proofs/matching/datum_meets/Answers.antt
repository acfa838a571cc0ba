use Rattle.std.proofs.Common.{Ok, false, sym, ◌∙◌}
use Rattle.size_applying.proofs.MatchingForms.{datum_later, datum_waits}
use Rattle.size_applying.proofs.matching.datum_meets.Goals as goal

pub returns-then-is_function-clause-met : goal.returns-then-is_function-clause-met
returns-then-is_function-clause-met c = λ N types w wants. datum_later N types false c.args.table.now c.args.table.now c.args.wanting.now (Ok tt) w wants c.in-Early.at c.in-Early.value c.in-Early.is_use c.in-Early.size c.in-Early.is (sym c.if-is_function.true ∙ c.is_function.ensures)

pub returns-in-Late-clause-met : goal.returns-in-Late-clause-met
returns-in-Late-clause-met c = λ N types w wants. datum_waits N types false c.args.table.now c.args.table.now c.args.wanting.now (Ok tt) w wants c.in-Late.exp c.in-Late.node c.in-Late.names c.in-Late.is
