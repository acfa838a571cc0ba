use Rattle.std.proofs.Common.{length}
use Rattle.array_primitives.proofs.cuts.+cut_form.Given as goal

abbrev pub decreases-cut_form : goal.decreases-cut_form
decreases-cut_form l = length l.cuts.now
