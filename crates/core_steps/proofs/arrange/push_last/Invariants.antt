use Rattle.std.proofs.Common.{◌≡◌, ◌++◌, take, drop}
use Rattle.core_steps.proofs.arrange.push_last.Given as goal

abbrev pub invariant-loop-i : goal.invariant-loop-i
invariant-loop-i l = l.stack.items ≡ l.initial.stack.items ++ take l.i (drop l.from l.initial.stack.items)
