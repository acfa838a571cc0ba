use Rattle.std.proofs.Common.{◌≡◌}
use Rattle.fut_flat.specs.Erased.{term_of}
use Rattle.fut_flat.specs.declared.exp.Exp.{size-Exp}
use Rattle.size_walk.specs.Walked.{applied_to, terms_of}
use Rattle.size_walk.proofs.spines.spine_of.Given as goal

abbrev pub invariant-loop-left : goal.invariant-loop-left
invariant-loop-left l = term_of l.fn.exp ≡ applied_to (term_of l.left.exp.now) (terms_of l.arguments.items)

abbrev pub decreases-loop-left : goal.decreases-loop-left
decreases-loop-left l = size-Exp l.left.exp.now
