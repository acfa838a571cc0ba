use Rattle.std.proofs.Common.{refl, arith}
use Rattle.phase_code.specs.declared.outcome.Made.{Made}
use Rattle.phase_code.specs.declared.outcome.StageFault.{StageFault}
use Rattle.phase_code.specs.Ranges.{Fold_fails}
use Rattle.worker_runtime.proofs.Joined.{wider}
use Rattle.worker_runtime.proofs.Reducing.{some_rows, chunk_folds, chunk_breaks}
use Rattle.worker_runtime.proofs.reduce.ReducingPhase.run.Goals as goal

pub returns-in-Failed : goal.returns-in-Failed
returns-in-Failed g c = wider (g.C.RangeCode.function c.args.self.now.code.now) (Fold_fails (g.O.OperatorCode.monoid c.args.self.now.op.now)) c.args.lo c.args.hi c.in-Failed.fault (rw c.in-Failed.is at c.in_ok-fault.ensures)

pub fold-requires : goal.fold-requires
fold-requires g c = some_rows g.W.Rows.rows (g.C.RangeCode.function c.args.self.now.code.now) (g.O.OperatorCode.monoid c.args.self.now.op.now) c.args.lo c.args.hi c.in-Came.kept c.requires.0 (rw c.in-Came.is at c.in_ok-fault.ensures)

pub returns-in-Gave : goal.returns-in-Gave
returns-in-Gave g c =
    let o : Made _ = record { words = c.in-Gave.made.words; handed = c.saturating_add-handed.result } in
    let s = c.saturating_add-handed.ensures in
    chunk_folds g.W.Rows.rows (g.C.RangeCode.function c.args.self.now.code.now) (g.O.OperatorCode.monoid c.args.self.now.op.now) c.args.lo c.args.hi c.in-Came.kept c.in-Gave.made o refl (omega arith) (rw c.in-Gave.is at c.in_ok-made-in-Came.ensures) (rw c.in-Came.is at c.in_ok-fault.ensures)

pub returns : goal.returns
returns g c =
    let w : StageFault = record { stage = c.stage_count.result; element = c.args.lo; report = c.in-Broke.report } in
    chunk_breaks g.W.Rows.rows (g.C.RangeCode.function c.args.self.now.code.now) (g.O.OperatorCode.monoid c.args.self.now.op.now) c.args.lo c.args.hi c.in-Came.kept w c.stage_count.ensures (rw c.in-Broke.is at c.in_ok-made-in-Came.ensures) (rw c.in-Came.is at c.in_ok-fault.ensures)
