-- A program that is resolved and typed has a sizing, by some numbering of its names.
use Rattle.fut_meaning.specs.Found.{Sizing}
use Rattle.sized_programs.specs.declared.checking.SizedProgram.{SizedProgram}
use Rattle.sizing_tables.specs.Claims.{Is_resolved}
use Rattle.sizing_tables.specs.Told.{sizing_of}
use Rattle.sizing_tables.proofs.Sizings.{sizing_is_there}
use Rattle.told_rows.specs.Tables.{node_at}
use Rattle.typed_programs.specs.Known.{Is_known}
use Rattle.unfolded_runs.specs.Claims.{Is_told}
use Rattle.unfolded_runs.specs.Prepared.{Is_sizing_told}

module _ (program : SizedProgram) (known : Is_known program.accepted.now) (resolved : Is_resolved program.accepted.now.flat) where
  abbrev pub a_sizing : Sizing
  a_sizing = sizing_of program.accepted.now.flat known.typed.some.0 known.typed.some.1.names (node_at program.sizing.now.nodes)

  pub there : Is_sizing_told program a_sizing
  there = record { names = known.typed.some.0; numbered = known.typed.some.1; is = sizing_is_there program.accepted.now.flat resolved known.typed.some.0 known.typed.some.1.names (node_at program.sizing.now.nodes) }

pub told_so : {program : SizedProgram} {Z : Sizing} → Is_sizing_told program Z → Is_told program.accepted.now.flat Z
told_so {program} is = record { names = is.names; sizes = node_at program.sizing.now.nodes; is = is.is }
