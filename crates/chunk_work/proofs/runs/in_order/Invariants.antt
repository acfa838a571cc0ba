use Rattle.std.proofs.Common.{◌≡◌, flat_map}
use Rattle.chunk_work.specs.Runs.{outcome_at}
use Rattle.chunk_work.proofs.runs.in_order.Given as goal

abbrev pub invariant-loop-place : goal.invariant-loop-place
invariant-loop-place g l = l.all.items ≡ flat_map outcome_at l.yielded
