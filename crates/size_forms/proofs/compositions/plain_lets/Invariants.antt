use Rattle.std.proofs.Common.{◌-◌, ◌≤◌, length}
use Rattle.fut_flat.specs.Erased.{term_of}
use Rattle.size_forms.proofs.SplitForms.{Plain_to}
use Rattle.size_forms.proofs.compositions.plain_lets.Given as goal

abbrev pub invariant-loop-count : goal.invariant-loop-count
invariant-loop-count l = Plain_to l.row (term_of l.body) l.count × (l.count ≤ length l.row)

abbrev pub decreases-loop-count : goal.decreases-loop-count
decreases-loop-count l = length l.row - l.count
