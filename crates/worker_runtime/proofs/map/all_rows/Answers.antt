use Rattle.std.proofs.Common.{rules, ◌≡◌, ◌++◌, ◌+◌, length, sym, subst, refl, arith}
use Rattle.phase_code.specs.declared.outcome.Made.{Made}
use Rattle.phase_code.specs.Ranges.{Came_to, Kept}
use Rattle.worker_runtime.proofs.Sifting.{bound, bound_up, bound_none, bound_past, part_at}
use Rattle.worker_runtime.proofs.Mapping.{kept_none, kept_both}
use Rattle.worker_runtime.proofs.map.all_rows.Goals as goal

pub loop-part-init : goal.loop-part-init
loop-part-init g c =
    let o : Made _ = record { words = c.in_ok-words.words; handed = 0 } in
    subst (λ i. Came_to g.W.Rows.rows (g.C.RangeCode.function c.args.code.now) Kept 0 i o) (sym (bound_none c.args.size c.args.count)) (kept_none g.W.Rows.rows (g.C.RangeCode.function c.args.code.now) o c.in_ok-words.ensures refl)

pub loop-part-preserved : goal.loop-part-preserved
loop-part-preserved g c =
    let k = c.loop-part.part-index in
    let p = part_at c.args.size c.args.count g.W.Rows.rows (g.C.RangeCode.function c.args.code.now) Kept c.args.parts.now c.requires.tiled c.requires.came k c.part-item.result c.loop-part-test.true c.part-item.is in
    let old : Made _ = record { words = c.loop-part.words; handed = c.loop-part.handed } in
    let new : Made _ = record { words = c.append.new.self; handed = c.saturating_add-handed.result } in
    let e : g.W.Rows.rows c.append.new.self ≡ g.W.Rows.rows c.loop-part.words ++ g.W.Rows.rows c.part-item.result.words = search rules in
    let sum = c.saturating_add-handed.ensures in
    kept_both g.W.Rows.rows (g.C.RangeCode.function c.args.code.now) 0 (bound c.args.size c.args.count k) (bound c.args.size c.args.count (k + 1)) old c.part-item.result new (omega arith) (bound_up c.args.size c.args.count k 1) e (omega arith) c.loop-part.invariant p

pub returns : goal.returns
returns g c =
    let o : Made _ = record { words = c.loop-part.words; handed = c.loop-part.handed } in
    subst (λ i. Came_to g.W.Rows.rows (g.C.RangeCode.function c.args.code.now) Kept 0 i o) (bound_past c.args.size c.args.count (length c.args.parts.now) c.loop-part.part-index c.loop-part-test.false c.requires.tiled.1) c.loop-part.invariant
