-- What was taken so far.
use Rattle.std.proofs.Common.{◌≡◌, map, take}
use Rattle.fut_tree.specs.Names.{all}
use Rattle.elab_exps.proofs.lists.field_exps.Given as goal

abbrev pub invariant-loop-field : goal.invariant-loop-field
invariant-loop-field l = all l.made.items ≡ map (λ f. f.exp.now) (take l.field-index l.fields)
