use Rattle.told_rows.proofs.ArgumentForms.{not_one, one_by}
use Rattle.told_rows.proofs.arguments.told_by.Goals as goal

pub returns-in-Mapped : goal.returns-in-Mapped
returns-in-Mapped c = rw c.in-Mapped.is c.mapped_rows.ensures

pub returns-in-First : goal.returns-in-First
returns-in-First c = rw c.in-First.is c.first_row.ensures

pub returns-in-Last : goal.returns-in-Last
returns-in-Last c = rw c.in-Last.is c.last_row.ensures

pub returns-in-Zipped : goal.returns-in-Zipped
returns-in-Zipped c = rw c.in-Zipped.is c.zipped_row.ensures

pub returns-in-Replicated : goal.returns-in-Replicated
returns-in-Replicated c = rw c.in-Replicated.is c.replicated.ensures

pub returns-in-Unflattened : goal.returns-in-Unflattened
returns-in-Unflattened c = rw c.in-Unflattened.is c.unflattened.ensures

pub returns-then-arguments-eq1 : goal.returns-then-arguments-eq1
returns-then-arguments-eq1 c = one_by c.args.arguments.now _ c.args.rule c.told_by_one.result c.if-arguments-eq1.true c.told_by_one.ensures

pub returns-else-arguments-eq1 : goal.returns-else-arguments-eq1
returns-else-arguments-eq1 c =
    not_one _ c.args.arguments.now c.args.rule c.unknown-else-arguments-eq1.ensures c.if-arguments-eq1.false c.in_default.not-Mapped c.in_default.not-First c.in_default.not-Last c.in_default.not-Zipped c.in_default.not-Replicated c.in_default.not-Unflattened c.in_default.not-Scalar
