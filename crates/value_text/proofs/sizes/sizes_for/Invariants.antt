use Rattle.std.proofs.Common.{drop}
use Rattle.std.specs.HashMap as hash
use Rattle.std.specs.Prelude.{nat_eq}
use Rattle.value_text.specs.Agreeing.{Stands}
use Rattle.value_text.specs.Sizes.{Known, sizes_for}
use Rattle.value_text.proofs.Agreed.{Goes}
use Rattle.value_text.proofs.sizes.sizes_for.Given as goal

abbrev pub invariant-loop-at : goal.invariant-loop-at
invariant-loop-at l = (list : Known) → Stands (hash.get nat_eq l.initial.known) list → Goes (hash.get nat_eq l.known) (sizes_for l.param l.dims l.sizes list) (sizes_for l.param (drop l.at l.dims) (drop l.at l.sizes))
