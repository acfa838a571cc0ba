use Rattle.std.proofs.Common.{arith}
use Rattle.array_data.specs.Held.{built_rows, held, shape_held}
use Rattle.array_primitives.proofs.CutRows.{rows_end, back_end}
use Rattle.array_primitives.proofs.cuts.+cuts.Goals as goal

pub cut_rows-returns : goal.cut_rows-returns
cut_rows-returns t c =
    rows_end c.args.cuts.now (held c.args.whole.now) c.args.from c.loop-i.i c.args.to c.in-Ok.n (shape_held c.in_ok-row_form.field-0) (shape_held c.in_ok-form.form) (built_rows c.loop-i.built) (held c.in_ok-untested.field-0)
    c.in-Ok.ensures (omega arith) (omega arith) c.if-from-to.false c.in_ok-row_form.ensures c.in_ok-form.ensures c.loop-i.invariant c.in_ok-untested.ensures.value

pub cut_backwards-returns : goal.cut_backwards-returns
cut_backwards-returns t c =
    back_end c.args.cuts.now (held c.args.whole.now) c.in-Ok.n c.loop-i.i (shape_held c.in_ok-row_form.field-0) (shape_held c.in_ok-form.form) (built_rows c.loop-i.built) (held c.in_ok-untested.field-0)
    c.in-Ok.ensures (omega arith) c.in_ok-row_form.ensures c.in_ok-form.ensures c.loop-i.invariant c.in_ok-untested.ensures.value
