-- What is noted behind what was noted before.
use Rattle.std.specs.Prelude.{◌≡◌, ◌++◌, true, List}
use Rattle.fut_scalar.specs.declared.place.Place.{Place}
use Rattle.flat_numbers.specs.declared.place_noting.Noting.{Noting}

-- these places, or memory ran out
pub data Noted (s t : Noting) (places : List Place) : Type 0 where
  noted : t.is_full ≡ s.is_full → t.places ≡ s.places ++ places → Noted s t places
  full : t.is_full ≡ true → Noted s t places
