use Rattle.core_steps.proofs.Repeating.{column_ok}
use Rattle.core_steps.proofs.copies.repeat_column.Goals as goal

pub returns-clause-told : goal.returns-clause-told
returns-clause-told c =
    column_ok c.args.atom c.args.word c.args.count c.args.arrays.now c.put.new.self c.in_ok-number.number c.in_ok-cells.cells c.in_ok-sizes.sizes c.in_ok-cells.ensures.told c.in_ok-sizes.ensures.told c.in_ok-number.ensures.number c.in_ok-number.ensures.put
