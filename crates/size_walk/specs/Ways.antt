-- An application that has taken one argument more, or could not.
use Rattle.std.specs.Prelude.{ℕ, Bool, true, false, List, Result, Ok, Err}
use Rattle.fut_types.specs.Types.{Sub}
use Rattle.fut_typing.specs.Names.{Names}
use Rattle.fut_sizes.specs.Applications.{Met}
use Rattle.fut_sizes.specs.Steps.{Step}
use Rattle.size_applying.specs.declared.arguments.Argument.{Argument}
use Rattle.size_applying.specs.declared.going.Application.{Application}
use Rattle.size_applying.specs.Going.{Is_met}
use Rattle.size_applying.proofs.WayLaws.{Under_way}
use Rattle.size_arena.specs.declared.agreeing.SizeErr.{SizeErr}
use Rattle.size_program.specs.declared.tables.Tables.{Tables}
use Rattle.size_program.specs.Answers.{Steps}
use Rattle.size_slots.specs.declared.slots.Found.{Found}

-- it is behind the argument, or over, since what it gives is no function
abbrev pub Taken : Names → Sub → ℕ → Bool → Step Met → Tables → List Argument → Application → Found → Tables → Result Bool SizeErr → Type 0
Taken N types n regular whole f rest a table g (Ok true) = Under_way N types n regular whole f g a table rest
Taken N types n regular whole f rest a table g (Ok false) = Steps (Is_met table) whole f g (Ok a)
Taken N types n regular whole f rest a table g (Err x) = Steps {B = Application} (Is_met table) whole f g (Err x)
