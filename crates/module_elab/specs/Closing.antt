-- What is made of all that files declared, as code holds it.
use Rattle.std.specs.Prelude.{◌≡◌}
use Rattle.fut_flat.specs.declared.program.Flat.{Flat}
use Rattle.elab_scopes.specs.Declarations.{State}
use Rattle.elab_scopes.specs.Elaboration.{flat_program}
use Rattle.module_state.specs.declared.state.Declaring.{Declaring}
use Rattle.module_state.specs.Standing.{Stands}
use Rattle.module_elab.specs.Elaborated.{program_of}

-- the flat program of what was declared
abbrev pub Closes : Declaring → Flat → Type 0
Closes d flat = (s : State) → Stands d s → program_of flat ≡ flat_program s
