use Rattle.std.proofs.Common.{◌≤◌}
use Rattle.phase_code.specs.Ranges.{Came_to, Folded}
use Rattle.worker_runtime.proofs.Sifting.{bound}
use Rattle.worker_runtime.proofs.reduce.together.Given as goal

abbrev pub invariant-loop-k : goal.invariant-loop-k
invariant-loop-k g l = record {
  low : 1 ≤ l.k;
  came : Came_to g.W.Rows.rows (g.C.RangeCode.function l.code) (Folded (g.O.OperatorCode.monoid l.op)) 0 (bound l.size l.count l.k) (record { words = l.words; handed = l.handed });
}
