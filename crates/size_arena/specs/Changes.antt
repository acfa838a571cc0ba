-- How the sizes of a tree are changed, and what is looked for among them.
use Rattle.std.specs.Prelude.{ℕ, Bool, cond, nat_eq, nat_lt}
use Rattle.sized_types.specs.Sizes.{Free, Own, Unknown, Dim, renaming, given}
use Rattle.fut_sizes.specs.Agreeing.{leave, names_one}
use Rattle.fut_sizes.specs.Matching.{is_unknown, dim_in, any_size}
use Rattle.size_arena.specs.declared.scopes.Change.{Change}
use Rattle.size_arena.specs.declared.scopes.Change.TheVariants as change
use Rattle.size_arena.specs.declared.scopes.Property.{Property}
use Rattle.size_arena.specs.declared.scopes.Property.TheVariants as property
use Rattle.size_arena.specs.Frames.{opened_of}
use Rattle.size_arena.specs.Trees.{free_of}

abbrev pub property_of : Property → Dim → Bool
property_of property.Unknown = is_unknown
property_of (property.Names xs) = names_one xs.now

-- what the positions of a frame stand for at a node, where the argument's value is this
abbrev pub given_at : ℕ → ℕ → Free → ℕ → Free
given_at n k value i = cond (nat_eq i k) value (cond (nat_lt i k) (Own n i) (Unknown n i))

abbrev pub change_of : Change → ℕ → Dim → Dim
change_of (change.Leave n xs) = renaming (leave n xs.now)
change_of (change.Give n k value) = given (given_at n k (free_of value))
change_of (change.Open frames) = dim_in (opened_of frames.now)
change_of change.Any = any_size
