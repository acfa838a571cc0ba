-- What was taken so far.
use Rattle.std.proofs.Common.{◌≡◌, map, take}
use Rattle.elab_exps.specs.Lists.{part_of}
use Rattle.elab_exps.proofs.lists.index_kinds.Given as goal

abbrev pub invariant-loop-ix : goal.invariant-loop-ix
invariant-loop-ix l = l.made.items ≡ map part_of (take l.ix-index l.ixs)
