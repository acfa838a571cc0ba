use Rattle.alias_values.proofs.SetForms.{Joined_at}
use Rattle.alias_values.proofs.sets.with_alias.Given as goal

abbrev pub invariant-loop-i : goal.invariant-loop-i
invariant-loop-i l = Joined_at l.alias l.set l.i
