-- What is proved of lowering.
use Rattle.std.specs.Prelude.{◌≡◌, ◌⊎◌, ℕ, List, Bool, true, false}
use Rattle.fut_value.specs.Data.{Shape, Datum}
use Rattle.fut_meaning.specs.Outcomes.{Out, Wrong}
use Rattle.fut_blocks.specs.declared.block.Program.{Program}
use Rattle.fut_blocks.specs.Programs.{Program_means}
use Rattle.steps_simulate.specs.Covers.{Covered, Covers}
use Rattle.core_ir.specs.declared.block.Core.{Core}
use Rattle.core_ir.specs.Bundles.{Row}
use Rattle.core_ir.specs.Programs.{Core_means, WellFormed}
use Rattle.lowering.specs.Programs.{Program_lowers, Are_components}

-- What a Core allows for the components of regular arguments, the blocks allow for the arguments, with a count at least as large: data
-- of the results' types that has those components, or the same report.
abbrev pub AddsNoOutcome : Type 0
AddsNoOutcome =
    (tight : Bool) (budget : ℕ) (hs ks : List Shape) (p : Program) (c : Core) → Program_lowers hs ks p c
    → (cs : Row) (ds : List Datum) → Are_components hs cs ds → Covers (Are_components ks) (Core_means tight false budget c cs) (Program_means tight budget p ds)

-- Where what does not fit is wrong, the same of each outcome but to go wrong.
abbrev pub FittedAddsNoOutcome : Type 0
FittedAddsNoOutcome =
    (tight : Bool) (budget : ℕ) (hs ks : List Shape) (p : Program) (c : Core) → Program_lowers hs ks p c
    → (cs : Row) (ds : List Datum) → Are_components hs cs ds → (o : Out Row) (f : ℕ) → Core_means tight true budget c cs o f → Covered (Are_components ks) (Program_means tight budget p ds) o f ⊎ (o ≡ Wrong)

-- The Core is well formed.
abbrev pub GivesWellFormed : Type 0
GivesWellFormed = (hs ks : List Shape) (p : Program) (c : Core) → Program_lowers hs ks p c → WellFormed c
