use Rattle.worker_runtime.proofs.Mapping.{is_map_came, is_map_failed}
use Rattle.worker_runtime.proofs.map.map_phase.Goals as goal

pub returns-in-Fault : goal.returns-in-Fault
returns-in-Fault g c = is_map_failed g.W.Rows.rows (g.C.RangeCode.function c.args.code.now) c.args.count c.in-Fault.fault (rw c.in-Fault.is at c.in_ok-sifted.ensures)

pub returns-in_ok-made-in-Parts : goal.returns-in_ok-made-in-Parts
returns-in_ok-made-in-Parts g c = is_map_came g.W.Rows.rows (g.C.RangeCode.function c.args.code.now) c.args.count c.in_ok-made-in-Parts.made c.in_ok-made-in-Parts.ensures
