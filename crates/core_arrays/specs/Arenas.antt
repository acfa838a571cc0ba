-- Arrays by their numbers, each with its sizes and the words of its cells in row-major order, and how many words were handed out.
use Rattle.std.specs.Prelude.{ℕ, ◌+◌, ◌-◌, ◌^◌, min, List, [], ◌∷◌, ◌++◌, length, take, drop}

pub record Array : Type 0 where
  pub sizes : List ℕ
  pub words : List ℕ

pub record Arena : Type 0 where
  pub arrays : List Array
  pub handed : ℕ

abbrev pub no_arrays : Arena
no_arrays = record { arrays = []; handed = 0 }

abbrev pub array : List ℕ → List ℕ → Array
array sizes words = record { sizes = sizes; words = words }

-- a new array; the count of words stands at its last value
abbrev pub with_array : Arena → List ℕ → List ℕ → Arena
with_array a sizes words = record { arrays = a.arrays ++ array sizes words ∷ []; handed = min (a.handed + length words) (2 ^ 64 - 1) }

-- an array of some words of another one: no word is handed out
abbrev pub with_part : Arena → Array → List ℕ → ℕ → ℕ → Arena
with_part a whole sizes from count = record a { arrays = a.arrays ++ array sizes (take count (drop from whole.words)) ∷ [] }

-- only the first arrays
abbrev pub cut_to : Arena → ℕ → Arena
cut_to a count = record a { arrays = take count a.arrays }
