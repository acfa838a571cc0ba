use Rattle.std.proofs.Common.{rules, ◌≡◌, ◌+◌, ◌*◌, length, sym, subst, refl, arith}
use Rattle.phase_code.specs.declared.outcome.Made.{Made}
use Rattle.phase_code.specs.declared.outcome.StageFault.{StageFault}
use Rattle.phase_code.specs.Ranges.{Came_to, Folded, Fold_fails}
use Rattle.worker_runtime.proofs.Sifting.{bound, bound_up, bound_none, bound_past, part_at, fault_of_all}
use Rattle.worker_runtime.proofs.Reducing.{one_row, one_long, last_of_one, with_rows, fold_both, fold_broken, folds_behind, folds_before}
use Rattle.worker_runtime.proofs.reduce.together.Goals as goal

pub last-requires : goal.last-requires
last-requires g c =
    let fn = g.C.RangeCode.function c.args.code.now in
    let m = g.O.OperatorCode.monoid c.args.op.now in
    let p = part_at c.args.size c.args.count g.W.Rows.rows fn (Folded m) c.args.parts.now c.requires.tiled c.requires.came 0 c.index-parts-0.result c.requires.some c.index-parts-0.is in
    one_long g.W.Rows.rows fn m (bound c.args.size c.args.count 0) (bound c.args.size c.args.count 1) c.index-parts-0.result p

pub loop-k-init : goal.loop-k-init
loop-k-init g c =
    let fn = g.C.RangeCode.function c.args.code.now in
    let m = g.O.OperatorCode.monoid c.args.op.now in
    let first = c.index-parts-0.result in
    let p = part_at c.args.size c.args.count g.W.Rows.rows fn (Folded m) c.args.parts.now c.requires.tiled c.requires.came 0 first c.requires.some c.index-parts-0.is in
    let v = one_row g.W.Rows.rows fn m (bound c.args.size c.args.count 0) (bound c.args.size c.args.count 1) first p in
    let o : Made _ = record { words = c.in_ok-words.words; handed = first.handed } in
    let e = last_of_one (g.W.Rows.rows first.words) (g.W.Rows.rows c.in_ok-words.words) v.0 v.1 c.in_ok-words.ensures in
    let q = with_rows g.W.Rows.rows fn m (bound c.args.size c.args.count 0) (bound c.args.size c.args.count 1) first o e (omega arith) p in
    record { low = omega arith; came = subst (λ i. Came_to g.W.Rows.rows fn (Folded m) i (bound c.args.size c.args.count 1) o) (bound_none c.args.size c.args.count) q }

pub loop-k-preserved : goal.loop-k-preserved
loop-k-preserved g c =
    let fn = g.C.RangeCode.function c.args.code.now in
    let m = g.O.OperatorCode.monoid c.args.op.now in
    let k = c.loop-k.k in
    let low = c.loop-k.invariant.low in
    let p = part_at c.args.size c.args.count g.W.Rows.rows fn (Folded m) c.args.parts.now c.requires.tiled c.requires.came k c.index-parts-k.result c.loop-k-test.true c.index-parts-k.is in
    let old : Made _ = record { words = c.loop-k.words; handed = c.loop-k.handed } in
    let new : Made _ = record { words = c.in-Gave.made.words; handed = c.saturating_add-handed.result } in
    let s = c.saturating_add.ensures in
    let t = c.saturating_add-handed.ensures in
    record { low = omega arith; came = fold_both g.W.Rows.rows fn m 0 (bound c.args.size c.args.count k) (bound c.args.size c.args.count (k + 1)) old c.index-parts-k.result c.in-Gave.made new (omega arith) (bound_up c.args.size c.args.count k 1) refl (omega arith) (rw c.in-Gave.is at c.in_ok-made.ensures) c.loop-k.invariant.came p }

pub returns-in-Broke : goal.returns-in-Broke
returns-in-Broke g c =
    let fn = g.C.RangeCode.function c.args.code.now in
    let m = g.O.OperatorCode.monoid c.args.op.now in
    let k = c.loop-k.k in
    let p = part_at c.args.size c.args.count g.W.Rows.rows fn (Folded m) c.args.parts.now c.requires.tiled c.requires.came k c.index-parts-k.result c.loop-k-test.true c.index-parts-k.is in
    let old : Made _ = record { words = c.loop-k.words; handed = c.loop-k.handed } in
    let w : StageFault = record { stage = c.stage_count.result; element = k * c.args.size; report = c.in-Broke.report } in
    let lt = c.loop-k-test.true in
    let f = fold_broken g.W.Rows.rows fn m 0 (bound c.args.size c.args.count k) (bound c.args.size c.args.count (k + 1)) old c.index-parts-k.result w (omega arith) (bound_up c.args.size c.args.count k 1) c.stage_count.ensures (rw c.in-Broke.is at c.in_ok-made.ensures) c.loop-k.invariant.came p in
    fault_of_all c.args.size c.args.count g.W.Rows.rows fn (Folded m) c.args.parts.now c.requires.tiled c.requires.came (Fold_fails m) (folds_behind m) (folds_before m) (k + 1) w (omega arith) f

pub returns : goal.returns
returns g c =
    let fn = g.C.RangeCode.function c.args.code.now in
    let m = g.O.OperatorCode.monoid c.args.op.now in
    let o : Made _ = record { words = c.loop-k.words; handed = c.loop-k.handed } in
    subst (λ i. Came_to g.W.Rows.rows fn (Folded m) 0 i o) (bound_past c.args.size c.args.count (length c.args.parts.now) c.loop-k.k c.loop-k-test.false c.requires.tiled.1) c.loop-k.invariant.came
