use Rattle.std.proofs.Common.{◌≡◌, ◌≤◌, ◌++◌, drop, length}
use Rattle.fut_aliases.specs.Aliases.{shared}
use Rattle.fut_aliases.specs.Loops.{all_sets}
use Rattle.alias_joins.specs.SetRows.{sets_of}
use Rattle.alias_loops.specs.Lowest.{lowest}
use Rattle.alias_loops.proofs.lowest.lowest_shared.Given as goal

abbrev pub invariant-members : goal.invariant-members
invariant-members l = record {
  lowest : l.least ≡ lowest (shared (drop l.i l.set) (all_sets (sets_of l.before ++ sets_of l.behind))) l.fn.one;
  within : l.i ≤ length l.set;
}

abbrev pub decreases-members : goal.decreases-members
decreases-members l = l.i
