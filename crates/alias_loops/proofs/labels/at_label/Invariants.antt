use Rattle.std.proofs.Common.{◌≡◌, drop}
use Rattle.fut_aliases.specs.Loops.{at_label}
use Rattle.alias_loops.specs.Labels.{labelled_of}
use Rattle.alias_loops.proofs.labels.at_label.Given as goal

abbrev pub invariant-loop-i : goal.invariant-loop-i
invariant-loop-i l = at_label l.label (labelled_of l.labelled) ≡ at_label l.label (labelled_of (drop l.i l.labelled))
