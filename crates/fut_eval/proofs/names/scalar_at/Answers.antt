use Rattle.std.proofs.Common.{sym, ◌∙◌, subst, Ok, arith}
use Rattle.array_data.specs.Held.{held_all}
use Rattle.fut_eval.specs.Answers.{Reads, as_scalar}
use Rattle.fut_eval.proofs.Reading.{scalar_name}
use Rattle.fut_eval.proofs.names.scalar_at.Goals as goal

pub returns-in-Scalar-clause-value : goal.returns-in-Scalar-clause-value
returns-in-Scalar-clause-value c =
    subst (λ u. Reads (held_all c.args.table.now) u (as_scalar (Ok c.fitted.result))) (sym c.in-Name.is)
    (scalar_name c.args.table.now c.in-Name.name _ c.in-Some.value.now c.in-Scalar.scalar c.fitted.result (omega arith) (c.in-Some.ensures ∙ c.index-table-at.is) c.in-Scalar.is c.fitted.ensures.value)
