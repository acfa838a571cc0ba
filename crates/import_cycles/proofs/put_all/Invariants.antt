-- The numbers so far.
use Rattle.std.proofs.Common.{◌≡◌, ◌++◌, take}
use Rattle.import_cycles.proofs.put_all.Given as goal

abbrev pub invariant-loop-number : goal.invariant-loop-number
invariant-loop-number l = l.pending ≡ l.fn.pending ++ take l.number-index l.numbers
