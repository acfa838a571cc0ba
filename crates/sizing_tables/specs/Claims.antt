-- What is proved of the sizing of a program that elaboration makes.
use Rattle.std.specs.Prelude.{ℕ, List, Some, Ok}
use Rattle.fut_flat.specs.declared.program.Flat.{Flat}
use Rattle.fut_meaning.specs.Found.{Sizing}
use Rattle.fut_meaning.specs.Uses.{is_size_in}
use Rattle.fut_typing.specs.Names.{Names, AreNames}
use Rattle.fut_typing.specs.Program.{program_of}
use Rattle.elab_laws.specs.Sized.{Sizes_are_told}
use Rattle.elab_scopes.specs.Elaboration.{Elaborates}
use Rattle.elab_scopes.specs.Imports.{Source_file}
use Rattle.module_elab.specs.Elaborated.{program_of as flat_of}
use Rattle.sized_types.specs.Sizes.{Size}
use Rattle.type_soundness.specs.Formed.{Definitions_apart}
use Rattle.sizing_tables.specs.Told.{Is_sizing_of, sizing_of}

-- some files come to the flat program
abbrev pub Is_resolved : Flat → Type 0
Is_resolved flat = (files : List Source_file) × Elaborates files (Ok (flat_of flat))

-- it has a sizing, whatever sized types its nodes have
abbrev pub SizingIsThere : Type 0
SizingIsThere = (flat : Flat) → Is_resolved flat → (N : Names) (names : AreNames N) (sizes : ℕ → Size) → Is_sizing_of flat N sizes (sizing_of flat N names sizes)

-- which is right about the names of sizes, and tells them from all others
abbrev pub SizingIsTold : Type 0
SizingIsTold = (flat : Flat) → Is_resolved flat → (N : Names) (sizes : ℕ → Size) (Z : Sizing) → Is_sizing_of flat N sizes Z
    → Sizes_are_told (Some Z) 0 (flat_of flat).definitions × Definitions_apart (is_size_in (Some Z)) (program_of flat)
