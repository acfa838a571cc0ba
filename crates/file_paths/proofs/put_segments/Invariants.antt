-- The segments so far.
use Rattle.std.proofs.Common.{◌≡◌, ◌++◌}
use Rattle.file_paths.proofs.put_segments.Given as goal

abbrev pub invariant-loop-segment : goal.invariant-loop-segment
invariant-loop-segment l = l.behind.items ≡ l.fn.behind.items ++ l.yielded
