-- What a program unfolds to where there is no sizing: nothing is told of rows and sizes.
use Rattle.std.specs.Prelude.{ℕ, List}
use Rattle.fut_scalar.specs.declared.scalar.IntType.{IntType}
use Rattle.fut_meaning.specs.Found.{unsized}
use Rattle.fut_meaning.specs.Flats.{FlatTop}
use Rattle.fut_blocks.specs.declared.block.Program.{Program}
use Rattle.unfold.specs.Programs as programs
use Rattle.unfold.specs.Shapes.{Shape, Shapes}
use Rattle.unfold.specs.Stuck as lacking

module _ (integer_at : ℕ → IntType) where
  abbrev pub Program_unfolds : List FlatTop → ℕ → Shapes → Shape → Program → Type 0
  Program_unfolds ds entry hs h p = programs.Program_unfolds (unsized integer_at) ds entry hs h p

  abbrev pub Program_stuck : List FlatTop → ℕ → Shapes → Type 0
  Program_stuck ds entry hs = lacking.Program_stuck (unsized integer_at) ds entry hs
