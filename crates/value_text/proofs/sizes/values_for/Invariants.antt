use Rattle.std.proofs.Common.{◌+◌, drop}
use Rattle.std.specs.HashMap as hash
use Rattle.std.specs.Prelude.{nat_eq}
use Rattle.value_text.specs.Agreeing.{Stands}
use Rattle.value_text.specs.Sizes.{Known, values_for}
use Rattle.value_text.proofs.Agreed.{Goes}
use Rattle.value_text.proofs.sizes.values_for.Given as goal

abbrev pub invariant-loop-at : goal.invariant-loop-at
invariant-loop-at l = (list : Known) → Stands (hash.get nat_eq l.initial.known) list → Goes (hash.get nat_eq l.known) (values_for 1 l.types l.values list) (values_for (l.at + 1) (drop l.at l.types) (drop l.at l.values))
