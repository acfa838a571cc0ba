use Rattle.core_steps.proofs.Sourcing.{over_rows, over_count}
use Rattle.core_steps.proofs.sources.source_count.Goals as goal

pub returns-in-Rows : goal.returns-in-Rows
returns-in-Rows c = over_rows c.args.table.now c.args.arrays.now.arrays c.args.over c.in-Rows.rows c.args.place c.bundles_count.result c.in-Rows.is c.bundles_count.ensures

pub returns-in-Count : goal.returns-in-Count
returns-in-Count c = over_count c.args.table.now c.args.arrays.now.arrays c.args.over c.in-Count.atom c.args.place c.size_at.result c.in-Count.is c.size_at.ensures
