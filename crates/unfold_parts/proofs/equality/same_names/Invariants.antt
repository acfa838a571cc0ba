use Rattle.std.proofs.Common.{◌≡◌}
use Rattle.unfold_parts.proofs.Pairing.{Names_lead}
use Rattle.unfold_parts.proofs.equality.same_names.Given as goal

abbrev pub invariant-loop-left : goal.invariant-loop-left
invariant-loop-left l = (l.left-index ≡ l.at) × Names_lead l.lefts l.rights l.left-index l.at
