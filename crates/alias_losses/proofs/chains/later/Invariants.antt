use Rattle.std.proofs.Common.{◌≡◌, ◌-◌, ◌++◌, length, map}
use Rattle.fut_aliases.specs.Steps.{behind}
use Rattle.alias_losses.proofs.chains.later.Given as goal

abbrev pub invariant-later : goal.invariant-later
invariant-later l = l.losses.items ++ behind l.at (map (λ e. e.loss) l.entries) ≡ behind l.count (map (λ e. e.loss) l.entries)

abbrev pub decreases-later : goal.decreases-later
decreases-later l = length l.entries - l.at
