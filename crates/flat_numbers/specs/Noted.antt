-- What is noted behind what was noted before.
use Rattle.std.specs.Prelude.{◌≡◌, ℕ, ◌++◌, true, List}
use Rattle.flat_numbers.specs.declared.home_noting.Noting.{Noting}

-- these homes, or memory ran out
pub data Noted (s t : Noting) (homes : List ℕ) : Type 0 where
  noted : t.is_full ≡ s.is_full → t.homes ≡ s.homes ++ homes → Noted s t homes
  full : t.is_full ≡ true → Noted s t homes
