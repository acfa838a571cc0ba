use Rattle.std.proofs.Common.{rules, ◌≡◌, ℕ, ◌+◌, length, refl, sym, subst}
use Rattle.phase_code.specs.declared.outcome.Made.{Made}
use Rattle.phase_code.specs.Ranges.{Went, Came_to, Scanned_to, Beginning_fails, Carry_gives}
use Rattle.chunk_work.specs.Runs.{InOrder}
use Rattle.phase_code.specs.declared.outcome.Applied.{Applied}
use Rattle.phase_code.specs.Carries.{rows_at}
use Rattle.worker_runtime.specs.Phases.{Is_scan}
use Rattle.worker_runtime.proofs.Joined.{when_ok}
use Rattle.worker_runtime.proofs.Sifting.{tiled_none}
use Rattle.worker_runtime.proofs.Scanning.{is_scan_failed, is_scan_came, is_scan_went, scanned_none}
use Rattle.worker_runtime.proofs.scan.scan_phase.Goals as goal

pub returns-in-Fault : goal.returns-in-Fault
returns-in-Fault g c = is_scan_failed g.W.Rows.rows (g.C.RangeCode.function c.args.code.now) (g.O.OperatorCode.monoid c.args.op.now) c.args.count c.in-Fault.fault (rw c.in-Fault.is at c.in_ok-sifted.ensures)

pub returns-then-is_empty : goal.returns-then-is_empty
returns-then-is_empty g c =
    let rows = g.W.Rows.rows in
    let fn = g.C.RangeCode.function c.args.code.now in
    let m = g.O.OperatorCode.monoid c.args.op.now in
    let sifted = rw c.in-Parts.is at c.in_ok-sifted.ensures in
    let none : length c.in-Parts.parts.items ≡ 0 = search rules in
    let made : Made _ = record { words = c.in_ok-words.words; handed = 0 } in
    let count : c.args.count ≡ 0 = tiled_none c.args.options.now.chunk c.args.count (length c.in-Parts.parts.items) none sifted.0 in
    is_scan_came rows fn m c.args.count made (subst (λ n. Came_to rows fn (Scanned_to m) 0 n made) (sym count) (scanned_none rows fn m made c.in_ok-words.ensures refl))

pub returns-in-Broke : goal.returns-in-Broke
returns-in-Broke g c = is_scan_failed g.W.Rows.rows (g.C.RangeCode.function c.args.code.now) (g.O.OperatorCode.monoid c.args.op.now) c.args.count c.in-Broke.fault (rw c.in-Broke.is at c.in_ok-behind.ensures)

pub with_carries-requires-clause-carried : goal.with_carries-requires-clause-carried
with_carries-requires-clause-carried g c =
    let rows = g.W.Rows.rows in
    let m = g.O.OperatorCode.monoid c.args.op.now in
    let ran : ℕ → Applied _ → Type 0 = λ k o. Carry_gives rows m (rows_at rows c.as_slice-into.result.now k) (rows_at rows c.as_slice-whole.result.now (k + 1)) o in
    let items : c.as_slice-with.result.now ≡ c.in_ok-carried.carried.items = search rules in
    subst (InOrder ran 0) (sym items) c.in_ok-carried.ensures.1

pub returns : goal.returns
returns g c =
    let rows = g.W.Rows.rows in
    let fn = g.C.RangeCode.function c.args.code.now in
    let m = g.O.OperatorCode.monoid c.args.op.now in
    when_ok c.with_carries.result (λ o. Went rows fn (Scanned_to m) (Beginning_fails m) 0 c.args.count o) (λ o. Is_scan rows fn m c.args.count o) c.with_carries.ensures (λ o p. is_scan_went rows fn m c.args.count o p)
