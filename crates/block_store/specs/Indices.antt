-- The indices of an array of any rank, and where its cells stand. Strides are signed, so an array may be read backwards.
use Rattle.std.specs.Prelude.{◌≡◌, ℕ, ◌*◌, ◌<◌, ℤ, pos, ◌+ℤ◌, ◌*ℤ◌, unsigned_abs, List, [], ◌∷◌, map, slice_index}
use Rattle.std.specs.List.{flat_map, range_with_len}

-- one number for each level, below its size
abbrev pub IsIndex : List ℕ → List ℕ → Type 0
IsIndex [] [] = Unit {0}
IsIndex [] (n ∷ ns) = ⊥
IsIndex (i ∷ at) [] = ⊥
IsIndex (i ∷ at) (n ∷ ns) = (i < n) × IsIndex at ns

-- the indices of a shape, those of the first row first
abbrev pub indices : List ℕ → List (List ℕ)
indices [] = [] ∷ []
indices (n ∷ ns) = flat_map (λ i. map (λ at. i ∷ at) (indices ns)) (range_with_len 0 n)

-- from a place on, as many strides of each level as the index says
abbrev pub place_from : ℤ → List ℤ → List ℕ → ℤ
place_from from [] at = from
place_from from (s ∷ ss) [] = from
place_from from (s ∷ ss) (i ∷ at) = place_from (from +ℤ (pos i *ℤ s)) ss at

-- one of the numbers below n
pub record Below (z : ℤ) (n : ℕ) : Type 0 where
  pub number : ℕ
  pub is : z ≡ pos number
  pub below : number < n

-- each index of a shape has a place below n
abbrev pub EachBelow : ℕ → ℤ → List ℤ → List ℕ → Type 0
EachBelow n from ss ns = (at : List ℕ) → IsIndex at ns → Below (place_from from ss at) n

-- the words at all indices, those of the first row first
abbrev pub cells_from : List ℕ → ℤ → List ℤ → List ℕ → List ℕ
cells_from words from ss ns = map (λ at. slice_index words (unsigned_abs (place_from from ss at))) (indices ns)

-- another number for the outermost level
abbrev pub on_first : (ℕ → ℕ) → List ℕ → List ℕ
on_first g [] = []
on_first g (i ∷ at) = g i ∷ at

-- the two outermost levels the other way round
abbrev pub swapped : {A : Type 0} → List A → List A
swapped [] = []
swapped (i ∷ []) = i ∷ []
swapped (i ∷ j ∷ at) = j ∷ i ∷ at
