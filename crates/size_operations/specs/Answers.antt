-- What answers say.
use Rattle.std.specs.Prelude.{◌≡◌, Result}
use Rattle.std.specs.Borrow.{Bor}
use Rattle.sized_types.specs.Sizes.{Size}
use Rattle.fut_sizes.specs.Agreeing.{Answer}
use Rattle.size_arena.specs.declared.agreeing.SizeErr.{SizeErr}
use Rattle.size_arena.specs.declared.trees.SizeTree.{SizeTree}
use Rattle.size_arena.specs.Trees.{size_of}
use Rattle.size_program.specs.Answers.{Answers}

-- the definition's sized type
abbrev pub Sized : Answer Size → Result (Bor SizeTree) SizeErr → Type 0
Sized = Answers (λ (t : Bor SizeTree) (y : Size). y ≡ size_of t.now)

-- whether sizes agree
abbrev pub Agrees : Answer (Unit {0}) → Result (Unit {0}) SizeErr → Type 0
Agrees = Answers (λ (u v : Unit {0}). v ≡ u)
