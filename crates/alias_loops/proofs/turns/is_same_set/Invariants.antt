use Rattle.std.proofs.Common.{◌≡◌, map, take}
use Rattle.fut_aliases.specs.declared.aliases.Alias.{Alias}
use Rattle.alias_loops.proofs.turns.is_same_set.Given as goal

abbrev pub invariant-loop-i : goal.invariant-loop-i
invariant-loop-i l = map (λ (a : Alias). a) (take l.i l.one) ≡ map (λ (a : Alias). a) (take l.i l.other)
