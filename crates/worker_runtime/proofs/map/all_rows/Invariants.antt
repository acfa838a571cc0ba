use Rattle.phase_code.specs.Ranges.{Came_to, Kept}
use Rattle.worker_runtime.proofs.Sifting.{bound}
use Rattle.worker_runtime.proofs.map.all_rows.Given as goal

abbrev pub invariant-loop-part : goal.invariant-loop-part
invariant-loop-part g l = Came_to g.W.Rows.rows (g.C.RangeCode.function l.code) Kept 0 (bound l.size l.count l.part-index) (record { words = l.words; handed = l.handed })
