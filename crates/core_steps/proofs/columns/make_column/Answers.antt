use Rattle.std.proofs.Common.{arith}
use Rattle.core_steps.proofs.Gathering.{make_ok}
use Rattle.core_steps.proofs.columns.make_column.Goals as goal

pub returns-clause-told : goal.returns-clause-told
returns-clause-told c =
    make_ok c.args.row.now c.args.c c.args.count c.args.words.now c.args.arrays.now c.put.new.self _ _ c.in_ok-number.number c.in_ok-cells.cells c.in_ok-sizes.sizes
    c.in_ok-cells.ensures.told (omega (arith, c.if-c-row.false)) c.in_ok-sizes.ensures.told c.in_ok-number.ensures.number c.in_ok-number.ensures.put
