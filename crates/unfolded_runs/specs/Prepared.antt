-- What is known of a program that is ready to be run, and why there is none.
use Rattle.std.specs.Prelude.{List, length, Some, Ok, Err}
use Rattle.fut_scalar.specs.declared.place.BindId.{BindId}
use Rattle.fut_scalar.specs.declared.sizes.DataType.{DataType}
use Rattle.fut_flat.specs.declared.program.Flat.{Flat}
use Rattle.fut_meaning.specs.declared.measured.Measured.{Measured}
use Rattle.fut_meaning.specs.declared.measured.MeasureErr.TheVariants as measure
use Rattle.fut_meaning.specs.Flats.{named_terms, flat_tops}
use Rattle.fut_meaning.specs.Found.{Sizing, Told}
use Rattle.fut_meaning.specs.Measures.{Measures}
use Rattle.fut_typing.specs.Names.{Names}
use Rattle.fut_blocks.specs.declared.block.Program.{Program}
use Rattle.sized_programs.specs.declared.checking.SizedProgram.{SizedProgram}
use Rattle.sizing_tables.specs.Told.{Is_sizing_of}
use Rattle.told_rows.specs.Tables.{node_at}
use Rattle.type_infer.specs.Inferring.{Numbers}
use Rattle.unfold.specs.Programs.{Program_unfolds}
use Rattle.unfold.specs.Shapes.{Shape}
use Rattle.unfold_program.specs.Whole.{scalars}
use Rattle.unfolded_runs.specs.declared.preparing.PrepareErr.{PrepareErr}
use Rattle.unfolded_runs.specs.declared.preparing.PrepareErr.TheVariants as err

-- by some numbering that goes on from that of the program this is its sizing
pub record Is_sizing_told (program : SizedProgram) (Z : Sizing) : Type 0 where
  pub names : Names
  pub numbered : Numbers program.accepted.now.inference names
  pub is : Is_sizing_of program.accepted.now.flat names (node_at program.sizing.now.nodes) Z

-- the program unfolds to these blocks, where this is told of it
pub record Is_blocks (flat : Flat) (told : Told) (entry : BindId) (params : List DataType) (p : Program) : Type 0 where
  pub shape : Shape
  pub unfolds : Program_unfolds told (flat_tops 0 (named_terms flat)) entry.0 (scalars (length params)) shape p

-- its walk is within the limits, and these are its blocks
pub record Is_prepared (flat : Flat) (told : Told) (entry : BindId) (params : List DataType) (p : Program) : Type 0 where
  pub measured : Measured
  pub measures : Measures told.sizes (flat_tops 0 (named_terms flat)) entry.0 (length params) (Ok measured)
  pub blocks : Is_blocks flat told entry params p

-- with its functions unfolded the program passes a limit, where this sizing is told; want of memory says nothing
abbrev pub Is_past : Flat → Sizing → BindId → List DataType → PrepareErr → Type 0
Is_past flat Z entry params err.Nodes = Measures (Some Z) (flat_tops 0 (named_terms flat)) entry.0 (length params) (Err measure.Nodes)
Is_past flat Z entry params err.Depth = Measures (Some Z) (flat_tops 0 (named_terms flat)) entry.0 (length params) (Err measure.Depth)
Is_past flat Z entry params err.Memory = Unit {0}
