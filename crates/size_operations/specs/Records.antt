-- The parts of a record by their places among those that are written.
use Rattle.std.specs.Prelude.{ℕ, zero, suc, List, [], ◌∷◌, Option, Some, None}
use Rattle.fut_types.specs.declared.Head.TheVariants as head
use Rattle.fut_types.specs.Types.{Ty, Made}
use Rattle.sized_types.specs.Sizes.{Sizes, no_size, size_and}

-- the number of the record that a type is made of
abbrev pub record_number : Ty → Option ℕ
record_number (Made (head.Record n) ts) = Some n
record_number t = None

-- the part at a place, if there is one, before others
abbrev pub at_place : ℕ → Sizes → Sizes → Sizes
at_place i no_size rest = rest
at_place zero (size_and t ts) rest = size_and t rest
at_place (suc i) (size_and t ts) rest = at_place i ts rest

abbrev pub chosen : Sizes → List ℕ → Sizes
chosen ts [] = no_size
chosen ts (p ∷ ps) = at_place p ts (chosen ts ps)
