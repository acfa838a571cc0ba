use Rattle.std.proofs.Common.{◌≡◌, drop}
use Rattle.fut_aliases.specs.Steps.{behind, lost}
use Rattle.alias_losses.specs.Tellings.{told}
use Rattle.alias_losses.proofs.losses.Losses.lost.Given as goal

abbrev pub invariant-loop-i : goal.invariant-loop-i
invariant-loop-i l = lost (behind l.count l.self) (told l.telling) l.used l.set ≡ lost (behind l.count l.self) (told l.telling) l.used (drop l.i l.set)
