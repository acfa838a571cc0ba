use Rattle.array_data.proofs.Depths.{depth_rows, depth_tuple, depth_record}
use Rattle.array_data.proofs.rows.depth.Goals as goal

pub returns-in-Rows : goal.returns-in-Rows
returns-in-Rows c = depth_rows c.args.whole.now c.in-Rows.depth c.in-Rows.field-1 c.in-Rows.field-2 c.in-Rows.is

pub returns-in-Tuple : goal.returns-in-Tuple
returns-in-Tuple c = depth_tuple c.args.whole.now c.in-Tuple.depth c.in-Tuple.field-1 c.in-Tuple.is

pub returns-in-Record : goal.returns-in-Record
returns-in-Record c = depth_record c.args.whole.now c.in-Record.depth c.in-Record.field-1 c.in-Record.field-2 c.in-Record.is
