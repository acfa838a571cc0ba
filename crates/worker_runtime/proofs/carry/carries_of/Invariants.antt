use Rattle.std.proofs.Common.{◌≡◌, ◌≤◌, length}
use Rattle.phase_code.specs.Carries.{Links}
use Rattle.worker_runtime.proofs.carry.carries_of.Given as goal

abbrev pub invariant-loop-k : goal.invariant-loop-k
invariant-loop-k g l = record {
  low : 1 ≤ l.k;
  long : length l.carries.items ≡ l.k;
  links : Links g.W.Rows.rows (g.O.OperatorCode.monoid l.op).op l.parts l.carries.items;
}
