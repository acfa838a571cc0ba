-- What was taken so far.
use Rattle.std.proofs.Common.{◌≡◌, map, take}
use Rattle.elab_exps.proofs.lists.field_names.Given as goal

abbrev pub invariant-loop-field : goal.invariant-loop-field
invariant-loop-field l = l.made.items ≡ map (λ f. f.name) (take l.field-index l.fields)
