-- What was taken so far.
use Rattle.std.proofs.Common.{◌≡◌, ◌∷◌, take}
use Rattle.fut_tree.specs.Names.{all}
use Rattle.elab_exps.proofs.lists.update_exps.Given as goal

abbrev pub invariant-loop-index : goal.invariant-loop-index
invariant-loop-index l = all l.made.items ≡ l.array ∷ all (take l.index-index l.at)
