-- How the sizes of a pattern's type are changed.
use Rattle.std.specs.Prelude.{ℕ, Bool, true, false, cond, nat_eq, nat_lt, Option}
use Rattle.sized_types.specs.Sizes.{Own, Slot, Dim, At, renaming}
use Rattle.fut_sizes.specs.Matching.{inside, none_opened, dim_in}
use Rattle.fut_sizes.specs.Scopes.{as_slot}
use Rattle.fut_sizes.specs.Sizing.{value_of_parameter}
use Rattle.size_patterns.specs.declared.changing.Change.{Change}
use Rattle.size_patterns.specs.declared.changing.Change.TheVariants as change

-- inside a lambda, the positions of what is wanted of its parameter at q: own sizes, and the argument's value, which may have a name
abbrev pub own_frame : Option ℕ → ℕ → ℕ → ℕ → Dim
own_frame b q k i = cond (nat_eq i k) (value_of_parameter q k b) (At (Own q i))

-- where what is wanted is still open, those that the caller chooses stay so
abbrev pub entry_frame : Bool → Option ℕ → ℕ → ℕ → ℕ → Dim
entry_frame true b q k i = cond (nat_lt i k) (At (Slot i)) (own_frame b q k i)
entry_frame false b q k i = own_frame b q k i

abbrev pub change_of : Change → ℕ → Dim → Dim
change_of (change.Slots bs) = renaming (as_slot bs.now)
change_of (change.Enter q k b stays_open) = dim_in (inside (entry_frame stays_open b q k) none_opened)
