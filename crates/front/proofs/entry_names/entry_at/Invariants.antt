use Rattle.std.proofs.Common.{◌≡◌, ◌<◌, ◌-◌, ℕ, false, length}
use Rattle.std.specs.Prelude.{Some, slice_get}
use Rattle.fut_flat.specs.declared.program.Definition.{Definition}
use Rattle.front.specs.EntryNameEntries.{begins}
use Rattle.front.proofs.entry_names.entry_at.Given as goal

abbrev pub invariant-loop-at : goal.invariant-loop-at
invariant-loop-at l = (i : ℕ) (d : Definition) → i < l.at → slice_get l.definitions i ≡ Some d → begins l.flat l.name d ≡ false

abbrev pub decreases-loop-at : goal.decreases-loop-at
decreases-loop-at l = length l.definitions - l.at
