-- No mark is set.
use Rattle.std.proofs.Common.{◌≡◌, ℕ, length}
use Rattle.import_cycles.specs.Graphs.{Marked}
use Rattle.import_cycles.proofs.unmarked.Given as goal

abbrev pub invariant-loop : goal.invariant-loop
invariant-loop l = (length l.seen ≡ l.counter) × ((k : ℕ) → Marked l.seen k → ⊥)
