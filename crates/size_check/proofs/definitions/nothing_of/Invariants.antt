use Rattle.std.proofs.Common.{◌≡◌, None, replicate}
use Rattle.size_check.proofs.definitions.nothing_of.Given as goal

abbrev pub invariant-loop-at : goal.invariant-loop-at
invariant-loop-at g l = l.table ≡ replicate l._at None
