use Rattle.std.proofs.Common.{◌≡◌, drop}
use Rattle.fut_aliases.specs.Steps.{lose_all, losses_at}
use Rattle.alias_losses.proofs.losses.Losses.consume.Given as goal

abbrev pub invariant-loop-i : goal.invariant-loop-i
invariant-loop-i l = lose_all (losses_at l.at l.set) l.fn.self ≡ lose_all (losses_at l.at (drop l.i l.set)) l.self
