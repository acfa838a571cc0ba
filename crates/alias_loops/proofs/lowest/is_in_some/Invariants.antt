use Rattle.std.proofs.Common.{◌≡◌, drop}
use Rattle.fut_aliases.specs.Aliases.{is_in}
use Rattle.alias_loops.proofs.LowestForms.{set_of, union_by}
use Rattle.alias_loops.proofs.lowest.is_in_some.Given as goal

abbrev pub invariant-loop-i : goal.invariant-loop-i
invariant-loop-i l = is_in l.alias (union_by set_of l.sets) ≡ is_in l.alias (union_by set_of (drop l.i l.sets))
