-- The type of an array's elements, if a type is one of arrays.
use Rattle.std.specs.Prelude.{ℕ, cond, nat_eq, Option, Some, None, Ok, Err}
use Rattle.std.specs.Borrow.{Bor}
use Rattle.fut_types.specs.declared.Head.TheVariants as head
use Rattle.fut_types.specs.Types.{Ty, Made, none, more}
use Rattle.sized_types.specs.Sizes.{Const, At, Size, Level}
use Rattle.fut_sizes.specs.Agreeing.{Irregular, Answer, no_size_of, type_levels, of_type}
use Rattle.size_arena.specs.declared.types.TypeTree.{TypeTree}
use Rattle.size_arena.specs.Trees.{type_of}

abbrev pub element : Ty → Option Ty
element (Made head.Array (more e none)) = Some e
element t = None

abbrev pub type_held : Option (Bor TypeTree) → Option Ty
type_held None = None
type_held (Some t) = Some (type_of t.now)

-- an array without elements, of elements that are no arrays
abbrev pub empty_row : ℕ → Ty → Answer Size
empty_row n e = cond (nat_eq (type_levels e) 0) (Ok (Level (At (Const 0)) (of_type (no_size_of n) 0 e))) (Err (Irregular n))
