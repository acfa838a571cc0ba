-- What was taken so far, and what is left.
use Rattle.std.proofs.Common.{◌≡◌, ◌++◌, ◌∷◌, drop}
use Rattle.fut_tree.specs.Names.{all}
use Rattle.elab_exps.specs.Lists.{all_exps}
use Rattle.elab_exps.proofs.lists.index_exps.Given as goal

abbrev pub invariant-loop-ix : goal.invariant-loop-ix
invariant-loop-ix l = all l.made.items ++ all_exps (drop l.ix-index l.ixs) ≡ l.array ∷ all_exps l.ixs
