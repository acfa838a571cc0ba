use Rattle.std.proofs.Common.{◌≡◌, ◌+◌, drop}
use Rattle.fut_aliases.specs.Calls.{unstarred}
use Rattle.fut_aliases.specs.Values.{all_starring}
use Rattle.alias_values.specs.Trees.{row_of, values_of}
use Rattle.alias_calls.proofs.counting.+add_unstarred.Given as goal

abbrev pub invariant-add_all_unstarred-loop-i : goal.invariant-add_all_unstarred-loop-i
invariant-add_all_unstarred-loop-i l = l.next + unstarred (all_starring (row_of (drop l.i l.row)) (values_of (drop l.i l.values))) ≡ l.first + unstarred (all_starring (row_of l.row) (values_of l.values))
