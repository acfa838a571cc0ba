use Rattle.std.proofs.Common.{◌≡◌, ◌++◌, drop}
use Rattle.fut_aliases.specs.Values.{united}
use Rattle.alias_joins.specs.SetRows.{sets_of}
use Rattle.alias_joins.proofs.uniting.united.Given as goal

abbrev pub invariant-loop-i : goal.invariant-loop-i
invariant-loop-i l = united (sets_of l.left) (sets_of l.right) ≡ sets_of l.made.items ++ united (sets_of (drop l.i l.left)) (sets_of (drop l.i l.right))
