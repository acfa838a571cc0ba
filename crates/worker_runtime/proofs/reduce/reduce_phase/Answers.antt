use Rattle.std.proofs.Common.{rules, ◌≡◌, length, refl}
use Rattle.phase_code.specs.declared.outcome.Made.{Made}
use Rattle.phase_code.specs.Ranges.{Went, Folded, Fold_fails}
use Rattle.worker_runtime.specs.Phases.{Is_reduce}
use Rattle.worker_runtime.proofs.Joined.{when_ok}
use Rattle.worker_runtime.proofs.Sifting.{tiled_none}
use Rattle.worker_runtime.proofs.Reducing.{is_reduce_failed, is_reduce_none, is_reduce_went}
use Rattle.worker_runtime.proofs.reduce.reduce_phase.Goals as goal

pub returns-in-Fault : goal.returns-in-Fault
returns-in-Fault g c = is_reduce_failed g.W.Rows.rows (g.C.RangeCode.function c.args.code.now) (g.O.OperatorCode.monoid c.args.op.now) c.args.count c.in-Fault.fault (rw c.in-Fault.is at c.in_ok-sifted.ensures)

pub returns-then-is_empty : goal.returns-then-is_empty
returns-then-is_empty g c =
    let sifted = rw c.in-Parts.is at c.in_ok-sifted.ensures in
    let none : length c.in-Parts.parts.items ≡ 0 = search rules in
    let made : Made _ = record { words = c.in_ok-words.words; handed = 0 } in
    is_reduce_none g.W.Rows.rows (g.C.RangeCode.function c.args.code.now) (g.O.OperatorCode.monoid c.args.op.now) c.args.count made (tiled_none c.args.options.now.chunk c.args.count (length c.in-Parts.parts.items) none sifted.0) c.in_ok-words.ensures refl

pub returns : goal.returns
returns g c =
    let rows = g.W.Rows.rows in
    let fn = g.C.RangeCode.function c.args.code.now in
    let m = g.O.OperatorCode.monoid c.args.op.now in
    when_ok c.together.result (λ o. Went rows fn (Folded m) (Fold_fails m) 0 c.args.count o) (λ o. Is_reduce rows fn m c.args.count o) c.together.ensures (λ o p. is_reduce_went rows fn m c.args.count o p)
