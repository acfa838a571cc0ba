use Rattle.std.proofs.Common.{rules, ◌≡◌, ◌∙◌, suc, ◌+◌, ◌*◌, ◌++◌, length, sym, subst, refl, arith, ap}
use Rattle.phase_code.specs.declared.outcome.Made.{Made}
use Rattle.phase_code.specs.declared.outcome.StageFault.{StageFault}
use Rattle.phase_code.specs.Ranges.{Came_to, Scanned_to, Carry_gives}
use Rattle.phase_code.specs.Carries.{rows_at}
use Rattle.worker_runtime.proofs.Sifting.{bound, bound_up, bound_none, bound_past, chunk_some, part_at}
use Rattle.worker_runtime.proofs.Scanning.{scan_some}
use Rattle.phase_code.proofs.Numbered.{rows_at_is}
use Rattle.worker_runtime.proofs.Carrying.{Scan_carry, handed_at_is, carried_at, carried_first, carried_step, carried_all, scan_fault}
use Rattle.worker_runtime.proofs.carry.with_carries.Goals as goal

pub loop-j-init : goal.loop-j-init
loop-j-init g c =
    let rows = g.W.Rows.rows in
    let fn = g.C.RangeCode.function c.args.code.now in
    let m = g.O.OperatorCode.monoid c.args.op.now in
    let l = c.requires.long.0 in
    let p = part_at c.args.size c.args.count rows fn (Scanned_to m) c.args.parts.now c.requires.tiled c.requires.came 0 c.index-parts-0.result (omega arith) c.index-parts-0.is in
    let at = rows_at_is rows c.args.parts.now 0 c.index-parts-0.result (omega arith) c.index-parts-0.is in
    let o : Made _ = record { words = c.append.new.self; handed = c.index-parts-0.result.handed } in
    let e : rows c.append.new.self ≡ rows c.index-parts-0.result.words = search rules in
    carried_first rows m c.args.parts.now c.args.carries.now c.requires.links fn (bound c.args.size c.args.count 1) c.index-parts-0.result o at e (omega arith) (subst (λ i. Came_to rows fn (Scanned_to m) i (bound c.args.size c.args.count 1) c.index-parts-0.result) (bound_none c.args.size c.args.count) p)

pub loop-j-preserved : goal.loop-j-preserved
loop-j-preserved g c =
    let rows = g.W.Rows.rows in
    let fn = g.C.RangeCode.function c.args.code.now in
    let m = g.O.OperatorCode.monoid c.args.op.now in
    let j = c.loop-j.j in
    let l = c.requires.long.0 in
    let n = c.requires.long.1 in
    let lt = c.loop-j-test.true in
    let s : suc j ≡ j + 1 = omega arith in
    let whole = c.index-parts-j.result in
    let p = part_at c.args.size c.args.count rows fn (Scanned_to m) c.args.parts.now c.requires.tiled c.requires.came (j + 1) whole (omega arith) c.index-parts-j.is in
    let some = scan_some rows fn m (bound c.args.size c.args.count (j + 1)) (bound c.args.size c.args.count (j + 1 + 1)) whole (chunk_some c.args.size c.args.count (length c.args.parts.now) (j + 1) (omega arith) c.requires.tiled) p in
    let at = rows_at_is rows c.args.parts.now (j + 1) whole (omega arith) c.index-parts-j.is in
    let carry = rows_at_is rows c.args.carries.now j c.index-carries-j.result (omega arith) c.index-carries-j.is in
    let gave = carried_at rows m c.args.parts.now c.args.carries.now c.args.carried.now j c.index-carried-j.result lt c.index-carried-j.is c.requires.carried in
    let old : Made _ = record { words = c.loop-j.words; handed = c.loop-j.handed } in
    let new : Made _ = record { words = c.append-in-Gave.new.self; handed = c.saturating_add-handed.result } in
    let e : rows c.append-in-Gave.new.self ≡ rows c.loop-j.words ++ rows c.in-Gave.more.words = search rules in
    let a1 = c.saturating_add.ensures in
    let a2 = c.saturating_add-in-Gave.ensures in
    let a3 = c.saturating_add-handed.ensures in
    let h = handed_at_is c.args.carries.now j c.index-carries-j.result (omega arith) c.index-carries-j.is in
    let given : Carry_gives rows m (rows_at rows c.args.carries.now j) (rows whole.words) _ = subst (λ ws. Carry_gives rows m (rows_at rows c.args.carries.now j) ws c.index-carried-j.result) at gave in
    let step = carried_step rows m c.args.parts.now c.args.carries.now c.requires.links fn (bound c.args.size c.args.count (j + 1)) (bound c.args.size c.args.count (j + 1 + 1)) j (bound_up c.args.size c.args.count (j + 1) 1) (omega arith) old whole c.in-Gave.more new (ap (rows_at rows c.args.parts.now) s ∙ at) some e (rw c.in-Gave.is at given) (omega arith) c.loop-j.invariant p in
    subst (λ k. Came_to rows fn (Scan_carry rows m c.args.carries.now k) 0 (bound c.args.size c.args.count (j + 1 + 1)) new) s step

pub returns-in-Broke : goal.returns-in-Broke
returns-in-Broke g c =
    let rows = g.W.Rows.rows in
    let fn = g.C.RangeCode.function c.args.code.now in
    let m = g.O.OperatorCode.monoid c.args.op.now in
    let j = c.loop-j.j in
    let l = c.requires.long.0 in
    let n = c.requires.long.1 in
    let lt = c.loop-j-test.true in
    let s : suc j ≡ j + 1 = omega arith in
    let w : StageFault = record { stage = c.stage_count.result; element = (j + 1) * c.args.size; report = c.in-Broke.report } in
    let gave = carried_at rows m c.args.parts.now c.args.carries.now c.args.carried.now j c.index-carried-j.result lt c.index-carried-j.is c.requires.carried in
    let broke = rw c.in-Broke.is at gave in
    scan_fault rows m c.args.parts.now c.args.carries.now c.requires.links fn c.args.size c.args.count c.requires.tiled c.requires.came (omega arith) j (omega arith) (omega arith) w c.stage_count.ensures
    (λ v e. subst (λ i. Rattle.outcomes.specs.Trees.Carry_fails m.op v (rows_at rows c.args.parts.now i) w.report) (sym s) (broke v e))

pub returns : goal.returns
returns g c =
    let rows = g.W.Rows.rows in
    let fn = g.C.RangeCode.function c.args.code.now in
    let m = g.O.OperatorCode.monoid c.args.op.now in
    let l = c.requires.long.0 in
    let n = c.requires.long.1 in
    let past = c.loop-j-test.false in
    let o : Made _ = record { words = c.loop-j.words; handed = c.loop-j.handed } in
    let all = carried_all rows m c.args.parts.now c.args.carries.now c.requires.links fn (bound c.args.size c.args.count (c.loop-j.j + 1)) c.loop-j.j o c.loop-j.invariant in
    subst (λ i. Came_to rows fn (Scanned_to m) 0 i o) (bound_past c.args.size c.args.count (length c.args.parts.now) (c.loop-j.j + 1) (omega arith) c.requires.tiled.1) all
