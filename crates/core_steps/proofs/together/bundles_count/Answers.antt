use Rattle.std.proofs.Common.{arith}
use Rattle.std.proofs.lemmas.Result.{err_from_is_err_and}
use Rattle.core_steps.proofs.Besides.{count_apart, count_end, count_failed, count_first_failed}
use Rattle.core_steps.proofs.together.bundles_count.Goals as goal

pub returns-in_err-count : goal.returns-in_err-count
returns-in_err-count c =
    let p = err_from_is_err_and c.from_residual.result c.from_residual.ensures.1 in
    rw (p.1, p.2) (count_first_failed c.args.table.now c.args.arrays.now.arrays c.args.rows c.args.place _ c.in_err-count.field-0.0 (λ e. absurd (omega (arith, e, c.if-rows-eq0.false))) c.in_err-count.ensures)

pub returns-in_err-other : goal.returns-in_err-other
returns-in_err-other c =
    let p = err_from_is_err_and c.from_residual-in_err-other.result c.from_residual-in_err-other.ensures.1 in
    rw (p.1, p.2) (count_failed c.args.table.now c.args.arrays.now.arrays c.args.rows c.args.place c.in_ok-count.count c.loop-k.k c.loop-k.same c.loop-k.invariant _ c.in_err-other.field-0.0 (omega (arith, c.loop-k-test.true)) c.in_err-other.ensures)

pub returns-then-not-same : goal.returns-then-not-same
returns-then-not-same c =
    count_apart c.args.table.now c.args.arrays.now.arrays c.args.rows c.args.place c.in_ok-count.count c.loop-k.k c.loop-k.same c.loop-k.invariant c.misfit.result (omega (arith, c.loop-k-test.false)) c.if-not-same.true c.misfit.ensures

pub returns : goal.returns
returns c = count_end c.args.table.now c.args.arrays.now.arrays c.args.rows c.args.place c.in_ok-count.count c.loop-k.k c.loop-k.same c.loop-k.invariant (omega (arith, c.loop-k-test.false)) c.if-not-same.false
