-- Programs that have only forms that are built: the meaning and the walk of visits know all of them.
use Rattle.std.specs.Prelude.{◌<◌, List}
use Rattle.std.specs.List.{AllPairs}
use Rattle.fut_flat.specs.declared.program.Definition.{Definition}
use Rattle.fut_flat.specs.declared.program.Flat.{Flat}
use Rattle.fut_typing.specs.Program.{program_of}
use Rattle.type_soundness.specs.Formed.{Definitions_formed}

-- each definition has a higher number than those before it
abbrev pub Numbers_rise : List Definition → Type 0
Numbers_rise ds = AllPairs (λ (d e : Definition). d.bind.0 < e.bind.0) ds

pub record Is_built (flat : Flat) : Type 0 where
  pub formed : Definitions_formed (program_of flat)
  pub rising : Numbers_rise flat.definitions.now
