use Rattle.std.proofs.Common.{◌+◌}
use Rattle.phase_code.specs.Ranges.{Came_to}
use Rattle.worker_runtime.proofs.Sifting.{bound}
use Rattle.worker_runtime.proofs.Carrying.{Scan_carry}
use Rattle.worker_runtime.proofs.carry.with_carries.Given as goal

abbrev pub invariant-loop-j : goal.invariant-loop-j
invariant-loop-j g l = Came_to g.W.Rows.rows (g.C.RangeCode.function l.code) (Scan_carry g.W.Rows.rows (g.O.OperatorCode.monoid l.op) l.carries l.j) 0 (bound l.size l.count (l.j + 1)) (record { words = l.words; handed = l.handed })
