use Rattle.std.proofs.Common.{◌≡◌, drop}
use Rattle.fut_aliases.specs.Aliases.{is_in}
use Rattle.alias_loops.specs.Carried.{kept_of}
use Rattle.alias_loops.proofs.LowestForms.{union_by}
use Rattle.alias_loops.proofs.lowest.is_kept.Given as goal

abbrev pub invariant-loop-i : goal.invariant-loop-i
invariant-loop-i l = is_in l.alias (union_by kept_of l.carried) ≡ is_in l.alias (union_by kept_of (drop l.i l.carried))
