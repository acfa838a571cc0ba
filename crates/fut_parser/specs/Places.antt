-- Where a fault stands among the tokens of a file.
use Rattle.std.specs.Prelude.{◌≡◌, ℕ, ◌-◌, List, [], ◌∷◌, ◌++◌, length, Option, Some, None, slice_get}
use Rattle.fut_scalar.specs.declared.place.Place.{Place}
use Rattle.fut_token.specs.declared.token.Token.{Token}

-- rest is the tokens from one of them on, or none
abbrev pub Ends : List Token → List Token → Type 0
Ends ts rest = (front : List Token) × (ts ≡ front ++ rest)

-- a token's place, and the beginning of the file where there is none
abbrev pub place_or_start : ℕ → Option Token → Place
place_or_start file None = record { file = file; line = 1; column = 1 }
place_or_start file (Some t) = t.place

abbrev pub last_place : ℕ → List Token → Place
last_place file ts = place_or_start file (slice_get ts (length ts - 1))

-- of the tokens of a file, the place of the first that is left; where none is, of the last of all
abbrev pub place_of : ℕ → List Token → List Token → Place
place_of file ts (t ∷ rest) = t.place
place_of file ts [] = last_place file ts
