use Rattle.std.proofs.Common.{◌≡◌, ◌+◌, ◌*◌, length}
use Rattle.chunk_work.specs.Runs.{InOrder}
use Rattle.phase_code.specs.Ranges.{Went, chunk_end}
use Rattle.worker_runtime.proofs.Sifting.{So_far}
use Rattle.worker_runtime.proofs.ranges.sift.Given as goal

abbrev pub invariant-loop-outcome : goal.invariant-loop-outcome
invariant-loop-outcome g l = record {
  so_far : So_far l.size l.count g.W.Rows.rows (g.P.Phase.function l.phase) (g.P.Phase.made l.phase) (g.P.Phase.fails l.phase) (length l.yielded) l.parts.items l.fault;
  left : InOrder (λ c o. Went g.W.Rows.rows (g.P.Phase.function l.phase) (g.P.Phase.made l.phase) (g.P.Phase.fails l.phase) (c * l.size) (chunk_end l.size l.count c) o) (length l.yielded) l.outcome-iterator.rest.items;
  all : length l.yielded + length l.outcome-iterator.rest.items ≡ length l.fn.outcomes.items;
}
