-- The arrows of a function's sized type, one for each parameter.
use Rattle.std.specs.Prelude.{ℕ, List, [], ◌∷◌, length, map, Option}
use Rattle.sized_types.specs.Sizes.{Free, Size, Fun, bound}
use Rattle.fut_sizes.specs.Functions.{Taking, chosen_by, is_met, sizes_in, value_name, without}
use Rattle.size_arena.specs.Trees.{size_of}
use Rattle.size_making.specs.Placing.{arrow_position, frees_of}
use Rattle.size_functions.specs.declared.arrows.Arrow as arrows

-- what the caller chooses, the parameter's node, the name of its value if it has one, and its sized type
pub record Arrow : Type 0 where
  pub chosen : List Free
  pub node : ℕ
  pub name : Option ℕ
  pub size : Size

abbrev pub arrow_of : arrows.Arrow → Arrow
arrow_of a = record { chosen = frees_of a.chosen.now; node = a.node; name = a.name; size = size_of a.size.now }

abbrev pub arrows_of : List arrows.Arrow → List Arrow
arrows_of = map arrow_of

-- those of parameters, where these size names are left to be chosen
abbrev pub arrow_for : List ℕ → Taking → Arrow
arrow_for bs p = record { chosen = chosen_by bs p; node = p.node; name = value_name p.pattern; size = p.size }

abbrev pub arrows_for : List ℕ → List Taking → List Arrow
arrows_for bs [] = []
arrows_for bs (p ∷ ps) = arrow_for bs p ∷ arrows_for (without (chosen_by bs p) bs) ps

-- the function type of one arrow, which meets these sizes, over a result
abbrev pub over : Arrow → List Free → Size → Size
over a met r = Fun (length a.chosen) (bound (arrow_position a.chosen a.node a.name met) a.size) (bound (arrow_position a.chosen a.node a.name met) r)

-- of several, of which the last has what is met at the nodes from one on, up to another
unfoldable pub all_over : ℕ → ℕ → List Arrow → Size → Size
all_over from to [] r = r
all_over from to (a ∷ []) r = over a (sizes_in (is_met from to) r) r
all_over from to (a ∷ rest) r = over a [] (all_over from to rest r)
