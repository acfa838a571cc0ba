use Rattle.std.proofs.Common.{◌≡◌, ◌≤◌, ◌||◌, drop, length}
use Rattle.fut_aliases.specs.Aliases.{is_in, is_outside, those}
use Rattle.fut_aliases.specs.Loops.{kept_names}
use Rattle.alias_loops.specs.Carried.{carrieds_of}
use Rattle.alias_loops.specs.Lowest.{lowest}
use Rattle.alias_loops.proofs.lowest.lowest_kept.Given as goal

abbrev pub invariant-members : goal.invariant-members
invariant-members l = record {
  lowest : l.least ≡ lowest (those (λ a. is_outside l.from a || is_in a (kept_names (carrieds_of l.carried))) (drop l.i l.set)) l.fn.one;
  within : l.i ≤ length l.set;
}

abbrev pub decreases-members : goal.decreases-members
decreases-members l = l.i
