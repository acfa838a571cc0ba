use Rattle.std.proofs.Common.{◌≡◌, drop}
use Rattle.fut_aliases.specs.Steps.{lose_all}
use Rattle.alias_losses.proofs.losses.Losses.lose_all.Given as goal

abbrev pub invariant-loop-i : goal.invariant-loop-i
invariant-loop-i l = lose_all l.losses l.fn.self ≡ lose_all (drop l.i l.losses) l.self
