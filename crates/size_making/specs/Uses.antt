-- What a use of a general name chooses for its variables.
use Rattle.std.specs.Prelude.{Bool, true, false, Option, Some, None}
use Rattle.std.specs.Borrow.{Bor}
use Rattle.fut_types.specs.declared.Head.{Head}
use Rattle.fut_types.specs.declared.Head.TheVariants as head
use Rattle.fut_types.specs.Types.{Ty, Tys, none, more}
use Rattle.sized_types.specs.Sizes.{Variable, Size}
use Rattle.fut_sizes.specs.Scopes.{or_variable, type_of as type_there}
use Rattle.size_arena.specs.declared.types.TypeTree.{TypeTree}
use Rattle.size_arena.specs.Trees.{type_of}

abbrev pub found_type : Option (Bor TypeTree) → Option Ty
found_type None = None
found_type (Some t) = Some (type_of t.now)

-- the element of an array
abbrev pub element_in : Head → Tys → Option Ty
element_in head.Array (more t none) = Some t
element_in h ts = None

-- a function from one type to another
abbrev pub is_function_of : Head → Tys → Bool
is_function_of head.Fun (more t (more u none)) = true
is_function_of h ts = false

abbrev pub chooses : Size → Ty → Variable → Ty
chooses t u v = or_variable v (type_there v t u)
