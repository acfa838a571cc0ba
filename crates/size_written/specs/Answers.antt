-- What answers say.
use Rattle.std.specs.Prelude.{Option, Some, None, Result}
use Rattle.std.specs.Borrow.{Bor}
use Rattle.sized_types.specs.Sizes.{Dim, Size}
use Rattle.fut_sizes.specs.Agreeing.{Answer}
use Rattle.size_arena.specs.declared.agreeing.SizeErr.{SizeErr}
use Rattle.size_arena.specs.declared.dims.Dim as dims
use Rattle.size_arena.specs.declared.trees.SizeTree.{SizeTree}
use Rattle.size_arena.specs.Trees.{dim_of, size_of}
use Rattle.size_program.specs.Answers.{Answers}

-- a tree that may be there
abbrev pub held : Option (Bor SizeTree) → Option Size
held None = None
held (Some t) = Some (size_of t.now)

-- a size that may be there
abbrev pub dim_held : Option dims.Dim → Option Dim
dim_held None = None
dim_held (Some d) = Some (dim_of d)

-- the definition's answer to a test
abbrev pub Tested : Answer (Unit {0}) → Result (Unit {0}) SizeErr → Type 0
Tested = Answers (λ (u v : Unit {0}). Unit {0})
