use Rattle.told_rows.proofs.ArgumentForms.{none_mapped, mapped_told}
use Rattle.told_rows.proofs.arguments.mapped_rows.Goals as goal

pub returns-then-arguments-eq0 : goal.returns-then-arguments-eq0
returns-then-arguments-eq0 c = none_mapped _ c.unknown.ensures c.args.arguments.now c.if-arguments-eq0.true

pub returns : goal.returns
returns c = mapped_told c.args.arguments.now _ _ _ c.if-arguments-eq0.false c.in_ok-many.ensures c.in_ok-rows.ensures
