use Rattle.sizing_tables.proofs.Fielding.{fields_more, fields_so}
use Rattle.sizing_tables.proofs.records.record_fields.Goals as goal

pub loop-row-preserved : goal.loop-row-preserved
loop-row-preserved c = fields_more c.args.labels.now c.args.table.now c.loop-row.fields.items c.push.new.self.items c.loop-row.row-index _ c.as_slice-all.ensures c.as_slice-row-items.ensures c.loop-row-test.true c.in_ok-push.ensures.items c.loop-row.invariant c.in_ok-names.ensures

pub returns : goal.returns
returns c = fields_so c.args.labels.now c.args.table.now c.loop-row.fields.items c.into_bump_slice.result.now c.into_bump_slice.ensures c.loop-row.invariant.1
