-- Which sizes have a position in the frame of a function type, and which sizes are sought in a sized type.
use Rattle.std.specs.Prelude.{ℕ, suc, Bool, List, length, map, Option}
use Rattle.sized_types.specs.Sizes.{Free}
use Rattle.fut_sizes.specs.Functions.{is_met, is_own, is_slot, or_position, position_from, value_position}
use Rattle.fut_sizes.specs.WrittenSizes.{argument_place}
use Rattle.size_arena.specs.declared.dims.Free as frees
use Rattle.size_arena.specs.Trees.{free_of}
use Rattle.size_making.specs.declared.positions.Positions.{Positions}
use Rattle.size_making.specs.declared.positions.Positions.TheVariants as positions
use Rattle.size_making.specs.declared.standing.Sought.{Sought}
use Rattle.size_making.specs.declared.standing.Sought.TheVariants as sought

abbrev pub frees_of : List frees.Free → List Free
frees_of = map free_of

-- those that a parameter at a node chooses, its value, and what is met
abbrev pub arrow_position : List Free → ℕ → Option ℕ → List Free → Free → Option ℕ
arrow_position chosen n name met d = or_position (position_from 0 chosen d) (or_position (value_position (length chosen) n name d) (position_from (suc (length chosen)) met d))

abbrev pub position_in : Positions → Free → Option ℕ
position_in (positions.Argument k b) = argument_place k b
position_in (positions.Arrow chosen n name met) = arrow_position (frees_of chosen.now) n name (frees_of met.now)

abbrev pub sought_by : Sought → Free → Bool
sought_by (sought.Own n xs) = is_own xs.now n
sought_by (sought.Met from to) = is_met from to
sought_by sought.Slots = is_slot
