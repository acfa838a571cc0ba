use Rattle.std.proofs.Common.{rules, ◌≡◌, ◌∙◌, suc, ◌+◌, ◌-◌, ◌*◌, [], ◌∷◌, ◌++◌, length, sym, subst, refl, arith}
use Rattle.phase_code.specs.declared.outcome.Made.{Made}
use Rattle.phase_code.specs.declared.outcome.StageFault.{StageFault}
use Rattle.phase_code.specs.Ranges.{Came_to, Scanned_to}
use Rattle.phase_code.specs.Carries.{rows_at}
use Rattle.worker_runtime.proofs.Sifting.{bound, chunk_some, part_at}
use Rattle.worker_runtime.proofs.Scanning.{scan_some}
use Rattle.phase_code.proofs.Numbered.{rows_at_is}
use Rattle.worker_runtime.proofs.Carrying.{links_first, links_next, scan_fault, last_fails}
use Rattle.worker_runtime.proofs.carry.carries_of.Goals as goal

pub last-requires : goal.last-requires
last-requires g c =
    let fn = g.C.RangeCode.function c.args.code.now in
    let m = g.O.OperatorCode.monoid c.args.op.now in
    let p = part_at c.args.size c.args.count g.W.Rows.rows fn (Scanned_to m) c.args.parts.now c.requires.tiled c.requires.came 0 c.index-parts-0.result c.requires.some c.index-parts-0.is in
    scan_some g.W.Rows.rows fn m (bound c.args.size c.args.count 0) (bound c.args.size c.args.count 1) c.index-parts-0.result (chunk_some c.args.size c.args.count (length c.args.parts.now) 0 c.requires.some c.requires.tiled) p

pub last-requires-in-loop-k : goal.last-requires-in-loop-k
last-requires-in-loop-k g c =
    let fn = g.C.RangeCode.function c.args.code.now in
    let m = g.O.OperatorCode.monoid c.args.op.now in
    let k = c.loop-k.k in
    let lt = c.loop-k-test.true in
    let p = part_at c.args.size c.args.count g.W.Rows.rows fn (Scanned_to m) c.args.parts.now c.requires.tiled c.requires.came k c.index-parts-k.result (omega arith) c.index-parts-k.is in
    scan_some g.W.Rows.rows fn m (bound c.args.size c.args.count k) (bound c.args.size c.args.count (k + 1)) c.index-parts-k.result (chunk_some c.args.size c.args.count (length c.args.parts.now) k (omega arith) c.requires.tiled) p

pub loop-k-init : goal.loop-k-init
loop-k-init g c =
    let o : Made _ = record { words = c.in_ok-words.words; handed = 0 } in
    let items : c.push.new.self.items ≡ o ∷ [] = search rules in
    let last = c.in_ok-words.ensures in
    let at = rows_at_is g.W.Rows.rows c.args.parts.now 0 c.index-parts-0.result c.requires.some c.index-parts-0.is in
    record {
      low = omega arith;
      long = search rules;
      links = links_first g.W.Rows.rows (g.O.OperatorCode.monoid c.args.op.now).op c.args.parts.now c.push.new.self.items o last.0 last.1 items (at ∙ last.2) last.3 refl;
    }

pub loop-k-preserved : goal.loop-k-preserved
loop-k-preserved g c =
    let m = g.O.OperatorCode.monoid c.args.op.now in
    let i = c.loop-k.invariant in
    let low = i.low in
    let long = i.long in
    let k = c.loop-k.k in
    let lt = c.loop-k-test.true in
    let items : c.push-in-Gave.new.self.items ≡ c.loop-k.carries.items ++ c.in-Gave.made ∷ [] = search rules in
    let at = rows_at_is g.W.Rows.rows c.args.parts.now k c.index-parts-k.result (omega arith) c.index-parts-k.is in
    let here = rows_at_is g.W.Rows.rows c.loop-k.carries.items (k - 1) c.index-carry.result.now (omega arith) (search rules) in
    let last = c.in_ok-last.ensures in
    record {
      low = omega arith;
      long = search rules;
      links = links_next g.W.Rows.rows m c.args.parts.now c.loop-k.carries.items c.push-in-Gave.new.self.items c.in-Gave.made (k - 1) k (g.W.Rows.rows c.index-carry.result.now.words) (g.W.Rows.rows c.in_ok-last.last) items long (omega arith) here (last.0, last.1, at ∙ last.2, last.3) (rw c.in-Gave.is at c.in_ok-made.ensures) i.links;
    }

pub returns-in-Broke : goal.returns-in-Broke
returns-in-Broke g c =
    let fn = g.C.RangeCode.function c.args.code.now in
    let m = g.O.OperatorCode.monoid c.args.op.now in
    let i = c.loop-k.invariant in
    let low = i.low in
    let long = i.long in
    let k = c.loop-k.k in
    let lt = c.loop-k-test.true in
    let at = rows_at_is g.W.Rows.rows c.args.parts.now k c.index-parts-k.result (omega arith) c.index-parts-k.is in
    let here = rows_at_is g.W.Rows.rows c.loop-k.carries.items (k - 1) c.index-carry.result.now (omega arith) (search rules) in
    let last = c.in_ok-last.ensures in
    let w : StageFault = record { stage = c.stage_count.result; element = k * c.args.size; report = c.in-Broke.report } in
    let y : suc (k - 1) ≡ k = omega arith in
    scan_fault g.W.Rows.rows m c.args.parts.now c.loop-k.carries.items i.links fn c.args.size c.args.count c.requires.tiled c.requires.came (omega arith) (k - 1) (omega arith) (omega arith) w c.stage_count.ensures
    (λ v e. last_fails g.W.Rows.rows m (rows_at g.W.Rows.rows c.args.parts.now (suc (k - 1))) (g.W.Rows.rows c.in_ok-last.last) (g.W.Rows.rows c.index-carry.result.now.words) c.in-Broke.report (rw c.in-Broke.is at c.in_ok-made.ensures) (last.0, last.1, subst (λ n. rows_at g.W.Rows.rows c.args.parts.now n ≡ last.0 ++ last.1 ∷ []) (sym y) (at ∙ last.2), last.3) v (sym here ∙ e))
