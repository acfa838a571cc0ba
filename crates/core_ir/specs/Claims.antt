-- What is proved of Core.
use Rattle.std.specs.Prelude.{◌≡◌, ◌⊎◌, ℕ, Bool, true, false}
use Rattle.fut_meaning.specs.Claims.{Safe, Some_outcome}
use Rattle.fut_meaning.specs.Outcomes.{Out, Wrong}
use Rattle.core_ir.specs.declared.block.Core.{Core}
use Rattle.core_ir.specs.Bundles.{Row}
use Rattle.core_ir.specs.Programs.{Core_means, WellFormed, AreOf, Arguments_fit, Fits}

-- on arguments of its parameters' sorts each outcome of a well-formed Core is a report or results of the sorts that it gives
abbrev pub NeverWrong : Type 0
NeverWrong = (tight : Bool) (budget : ℕ) (core : Core) (w : WellFormed core) (cs : Row) → Arguments_fit core cs → Safe (λ rs. AreOf rs w.results) (Core_means tight false budget core cs)

-- there is some outcome for any arguments, be it that it goes wrong
abbrev pub SomeOutcome : Type 0
SomeOutcome = (tight misfit : Bool) (budget : ℕ) (core : Core) (cs : Row) → Some_outcome (Core_means tight misfit budget core cs)

-- with fewer trees to choose from, no outcome is added
abbrev pub TightAddsNothing : Type 0
TightAddsNothing = (misfit : Bool) (budget : ℕ) (core : Core) (cs : Row) (o : Out Row) (f : ℕ) → Core_means true misfit budget core cs o f → Core_means false misfit budget core cs o f

-- where what does not fit is Wrong, a Core allows nothing else than otherwise, but to go wrong,
abbrev pub FittedAddsNothing : Type 0
FittedAddsNothing = (tight : Bool) (budget : ℕ) (core : Core) (cs : Row) (o : Out Row) (f : ℕ) → Core_means tight true budget core cs o f → Core_means tight false budget core cs o f ⊎ (o ≡ Wrong)

-- and where all sizes fit, it allows all that it allows otherwise
abbrev pub FittedLosesNothing : Type 0
FittedLosesNothing = (tight : Bool) (budget : ℕ) (core : Core) (cs : Row) → Fits budget core cs → (o : Out Row) (f : ℕ) → Core_means tight false budget core cs o f → Core_means tight true budget core cs o f
