use Rattle.std.proofs.Common.{◌≡◌, ◌≤◌, ◌++◌, drop, length}
use Rattle.fut_aliases.specs.Aliases.{shared, union}
use Rattle.fut_aliases.specs.Loops.{firsts}
use Rattle.alias_loops.specs.Carried.{carrieds_of}
use Rattle.alias_loops.specs.Lowest.{lowest}
use Rattle.alias_loops.proofs.lowest.lowest_first.Given as goal

abbrev pub invariant-members : goal.invariant-members
invariant-members l = record {
  lowest : l.least ≡ lowest (shared (drop l.i l.set) (union l.over (firsts (carrieds_of l.before ++ carrieds_of l.behind)))) l.fn.one;
  within : l.i ≤ length l.set;
}

abbrev pub decreases-members : goal.decreases-members
decreases-members l = l.i
