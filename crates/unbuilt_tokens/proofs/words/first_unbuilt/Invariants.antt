use Rattle.std.proofs.Common.{◌≡◌, length}
use Rattle.unbuilt_tokens.specs.Unbuilt.{first_behind, first_unbuilt}
use Rattle.unbuilt_tokens.proofs.words.first_unbuilt.Given as goal

abbrev pub invariant-loop-left : goal.invariant-loop-left
invariant-loop-left l = first_behind l.behind_module l.left ≡ first_unbuilt l.tokens

abbrev pub decreases-loop-left : goal.decreases-loop-left
decreases-loop-left l = length l.left
