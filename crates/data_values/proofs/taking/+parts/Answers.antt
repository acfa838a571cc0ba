use Rattle.std.proofs.Common.{arith, map, ◌∙◌, ap}
use Rattle.fut_value.specs.Values.{cut, datum_with}
use Rattle.array_data.specs.Held.{built_rows, held}
use Rattle.data_values.proofs.FromValues.{rows_more}
use Rattle.data_values.proofs.taking.+parts.Goals as goal

pub rows_with-loop-preserved : goal.rows_with-loop-preserved
rows_with-loop-preserved t c =
    let all = map (datum_with c.args.elem c.args.sizes.now) (cut c.args.count c.in-Some.length c.args.words.now) in
    rows_more c.args.elem c.args.sizes.now c.args.count c.loop.counter c.in-Some.length c.min.result c.loop.rest.now c.split_at.result.1.now (built_rows c.loop.built) (built_rows c.push.new.self) all (held c.in_ok-data_with.field-0) c.push.result c.in-Ok.field-0 (omega arith) c.min.ensures c.in-Ok.is c.push.ensures (c.in_ok-data_with.ensures ∙ ap (datum_with c.args.elem c.args.sizes.now) c.split_at.ensures.front) c.split_at.ensures.back c.loop.invariant
