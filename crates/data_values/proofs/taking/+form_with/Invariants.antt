use Rattle.std.proofs.Common.{length}
use Rattle.data_values.proofs.taking.+form_with.Given as goal

abbrev pub decreases-form_with : goal.decreases-form_with
decreases-form_with l = length l.sizes.now
