use Rattle.std.proofs.Common.{◌≡◌, drop}
use Rattle.fut_aliases.specs.Calls.{first_broken, held_loss}
use Rattle.uniqueness.specs.Held.{helds_of}
use Rattle.uniqueness.proofs.rules.first_held_loss.Given as goal

abbrev pub invariant-loop-i : goal.invariant-loop-i
invariant-loop-i l = first_broken (held_loss l.losses) (helds_of l.parts) ≡ first_broken (held_loss l.losses) (helds_of (drop l.i l.parts))
