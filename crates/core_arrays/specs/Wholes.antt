-- How arrays are kept: with words of their own, or as a part of the words of one in front of them.
use Rattle.std.specs.Prelude.{ℕ, List, [], ◌∷◌, ◌++◌, take, drop, slice_get, Option, Some, None}
use Rattle.core_arrays.specs.declared.arrays.Whole.{Whole}
use Rattle.core_arrays.specs.declared.arrays.Cells.{Cells}
use Rattle.core_arrays.specs.declared.arrays.Cells.TheVariants as cells
use Rattle.core_arrays.specs.Arenas.{Array, Arena}

-- the words that an array has of its own
abbrev pub owned : Cells → List ℕ
owned (cells.Own words) = words
owned (cells.Part owner from count) = []

abbrev pub own_words : Option Whole → List ℕ
own_words None = []
own_words (Some w) = owned w.cells

-- its words, with the arrays in front of it
abbrev pub words_of : List Whole → Cells → List ℕ
words_of before (cells.Own words) = words
words_of before (cells.Part owner from count) = take count (drop from (own_words (slice_get before owner)))

abbrev pub array_of : List Whole → Whole → Array
array_of before w = record { sizes = w.sizes; words = words_of before w.cells }

abbrev pub arrays_of : List Whole → List Whole → List Array
arrays_of before [] = []
arrays_of before (w ∷ ws) = array_of before w ∷ arrays_of (before ++ w ∷ []) ws

abbrev pub arena_of : ℕ → List Whole → Arena
arena_of n ws = record { arrays = arrays_of [] ws; handed = n }
