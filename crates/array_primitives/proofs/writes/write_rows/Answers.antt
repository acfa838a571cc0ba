use Rattle.array_data.specs.Held.{held, built_rows, rows_in}
use Rattle.array_primitives.proofs.Scattering.{choose_more}
use Rattle.array_primitives.proofs.writes.write_rows.Goals as goal

pub loop-i-preserved : goal.loop-i-preserved
loop-i-preserved c =
    choose_more (built_rows c.args.rows.now) (held c.args.indices.now) (held c.args.values.now) c.args.m c.loop-i.i (built_rows c.loop-i.rows) c.loop-i.invariant c.in_ok-index.index (held c.in-Ok.value) (built_rows c.put_at.new.rows)
    c.in_ok-index.ensures c.in-Ok.ensures c.in_ok-put_at.ensures
