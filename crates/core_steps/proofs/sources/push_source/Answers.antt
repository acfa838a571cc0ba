use Rattle.std.proofs.Common.{refl}
use Rattle.core_code.specs.Registers.{state}
use Rattle.core_steps.proofs.Sourcing.{push_over_rows, push_over_count}
use Rattle.core_steps.proofs.sources.push_source.Goals as goal

pub returns-in-Rows-clause-told : goal.returns-in-Rows-clause-told
returns-in-Rows-clause-told c =
    push_over_rows c.args.over c.in-Rows.rows c.args.i (state c.args.arrays.now c.args.table.now c.args.stack.now.items) (state c.push_bundles.new.arrays c.args.table.now c.push_bundles.new.stack.items) c.push_bundles.result c.in-Rows.is c.push_bundles.ensures.told

pub returns-in-Count-clause-told : goal.returns-in-Count-clause-told
returns-in-Count-clause-told c =
    push_over_count c.args.over c.in-Count.field-0 c.args.i (state c.args.arrays.now c.args.table.now c.args.stack.now.items) (state c.args.arrays.now c.args.table.now c.push.new.stack.items) c.push.result
    c.in-Count.is c.ranges.i.fits refl c.push.ensures.told
