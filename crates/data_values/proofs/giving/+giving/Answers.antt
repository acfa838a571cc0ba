use Rattle.std.proofs.Common.{rules, arith}
use Rattle.std.proofs.lemmas.Result.{on_ok_weaker}
use Rattle.data_values.proofs.Shapes.{rest_of}
use Rattle.data_values.proofs.FromData.{words_data, rows_data, next_row, last_row}
use Rattle.data_values.proofs.giving.+giving.Goals as goal

pub put_data-returns-else-row-size : goal.put_data-returns-else-row-size
put_data-returns-else-row-size t c = on_ok_weaker c.put_row.result (λ w. words_data c.args.elem c.in-Words-len1.ty c.args.whole.now c.in-Words-len1.row c.as_slice-row.result.now c.args.sizes.now c.args.words.now c.put_row.new.words c.in-Words-len1.is-0 (search rules) (search rules) c.in-Words-len1.len_at_least c.in-Words-len1.len_below (search rules) w) c.put_row.ensures

pub put_data-returns-else-not-has_sizes : goal.put_data-returns-else-not-has_sizes
put_data-returns-else-not-has_sizes t c = on_ok_weaker c.put_rows.result (λ r. rows_data c.args.elem c.args.whole.now c.in-Rows-len1-up.field-0-0 c.in-Rows-len1-up.form c.get-else-rows-size.result.now c.in-Rows-len1-up.rows c.as_slice-rows.result.now c.args.sizes.now _ c.args.words.now c.put_rows.new.words c.in-Rows-len1-up.is-0 (search rules) (search rules) (rest_of c.args.sizes.now) c.in-Rows-len1-up.len_at_least (search rules) (c.has_sizes.ensures (search rules)) r) c.put_rows.ensures

pub put_rows-loop-row-preserved : goal.put_rows-loop-row-preserved
put_rows-loop-row-preserved t c = λ new r. c.loop-row.invariant new (next_row c.args.elem c.args.sizes.now c.args.rows.now c.loop-row.row-index c.row-item.result c.loop-row.words c.put_data.new.words new (omega arith) c.row-item.is c.in_ok-put_data.ensures r)

pub put_rows-returns : goal.put_rows-returns
put_rows-returns t c = c.loop-row.invariant c.loop-row.words (last_row c.args.elem c.args.sizes.now c.args.rows.now c.loop-row.row-index c.loop-row.words (omega arith))
