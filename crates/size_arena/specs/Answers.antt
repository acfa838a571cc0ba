-- What answers say.
use Rattle.std.specs.Prelude.{◌≡◌, Result, Ok, Err}
use Rattle.std.specs.Borrow.{Bor}
use Rattle.sized_types.specs.Sizes.{Size}
use Rattle.fut_sizes.specs.Agreeing.{Answer, Mismatch, Escapes, Irregular}
use Rattle.fut_sizes.specs.Agreeing as agreeing
use Rattle.size_arena.specs.declared.agreeing.Refusal.{Refusal}
use Rattle.size_arena.specs.declared.agreeing.Refusal.TheVariants as refusal
use Rattle.size_arena.specs.declared.agreeing.SizeErr.{SizeErr}
use Rattle.size_arena.specs.declared.agreeing.SizeErr.TheVariants as size_err
use Rattle.size_arena.specs.declared.trees.SizeTree.{SizeTree}
use Rattle.size_arena.specs.Trees.{dim_of, size_of}

abbrev pub refusal_of : Refusal → agreeing.Refusal
refusal_of (refusal.Mismatch at d e) = Mismatch at (dim_of d) (dim_of e)
refusal_of (refusal.Escapes at) = Escapes at
refusal_of (refusal.Irregular at) = Irregular at

-- the definition's answer
abbrev pub told : Result (Unit {0}) Refusal → Answer (Unit {0})
told (Ok u) = Ok tt
told (Err e) = Err (refusal_of e)

-- the definition's answer, or memory ran out
pub data Gives (a : Answer Size) : Result (Bor SizeTree) SizeErr → Type 0 where
  gives : {t : Bor SizeTree} → a ≡ Ok (size_of t.now) → Gives a (Ok t)
  refuses : {e : Refusal} → a ≡ Err (refusal_of e) → Gives a (Err (size_err.Refused e))
  no_memory : Gives a (Err size_err.Memory)
