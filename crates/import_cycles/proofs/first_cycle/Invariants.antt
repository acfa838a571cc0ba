-- No file so far leads to itself.
use Rattle.std.proofs.Common.{ℕ, ◌-◌, ◌<◌, ◌≤◌, length}
use Rattle.import_cycles.specs.Graphs.{Leads_in}
use Rattle.import_cycles.proofs.first_cycle.Given as goal

abbrev pub invariant-loop-file : goal.invariant-loop-file
invariant-loop-file l = (1 ≤ l.file) × ((k : ℕ) → 1 ≤ k → k < l.file → Leads_in l.imports k k → ⊥)

abbrev pub decreases-loop-file : goal.decreases-loop-file
decreases-loop-file l = length l.imports - l.file
