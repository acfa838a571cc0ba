-- What is carried behind all chunks of a scan but the last, or the failure that counts.
use Rattle.std.specs.Prelude.{◌≡◌, ℕ, ◌+◌, List, length}
use Rattle.phase_code.specs.declared.outcome.Made.{Made}
use Rattle.worker_runtime.specs.declared.carry.Carries.{Carries}
use Rattle.worker_runtime.specs.declared.carry.Carries.TheVariants.{All, Broke}
use Rattle.phase_code.specs.Ranges.{Function, Monoid, Fault_of, Beginning_fails}
use Rattle.phase_code.specs.Carries.{Links}

abbrev pub Carries_as : {A W : Type 0} → (W → List A) → Function A → Monoid A → ℕ → List (Made W) → Carries W → Type 0
Carries_as rows fn m count parts (All carries) = (length carries.items + 1 ≡ length parts) × Links rows m.op parts carries.items
Carries_as rows fn m count parts (Broke fault) = Fault_of fn (Beginning_fails m) 0 count fault
