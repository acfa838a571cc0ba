use Rattle.alias_loops.specs.Labels.{labelled_of}
use Rattle.alias_loops.proofs.LabelForms.{Ordering}
use Rattle.alias_loops.proofs.labels.in_order.Given as goal

abbrev pub invariant-loop-i : goal.invariant-loop-i
invariant-loop-i l = Ordering l.labels (labelled_of l.labelled) l.i l.made.items
