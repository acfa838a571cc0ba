use Rattle.std.proofs.Common.{◌≡◌}
use Rattle.alias_loops.proofs.StartForms.{repeated}
use Rattle.alias_loops.proofs.starting.each_at.Given as goal

abbrev pub invariant-loop-i : goal.invariant-loop-i
invariant-loop-i l = l.made.items ≡ repeated l.node l._i
