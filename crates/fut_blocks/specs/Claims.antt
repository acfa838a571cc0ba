-- What is proved of blocks.
use Rattle.std.specs.Prelude.{ℕ, List, Bool}
use Rattle.fut_meaning.specs.Claims.{Some_outcome}
use Rattle.fut_blocks.specs.declared.block.Program.{Program}
use Rattle.fut_blocks.specs.Meaning.{Component}
use Rattle.fut_blocks.specs.Programs.{Program_means}

-- tight or not, a program has some outcome for any components and any budget of turns, be it that it goes wrong
abbrev pub SomeOutcome : Type 0
SomeOutcome = (tight : Bool) (budget : ℕ) (p : Program) (vs : List Component) → Some_outcome (Program_means tight budget p vs)
