-- Rows of several words that race for places, as in a scatter of tuples or arrays: all rows claim their places by their
-- numbers, and the row whose number stands at its place then puts its words. Which row wins a place is left open by the
-- language; that a place has one whole row is not (Futhark's prelude, `scatter`).
use Rattle.std.specs.Prelude.{◌≡◌, ◌⊎◌, ℕ, suc, ◌+◌, ◌*◌, ◌<◌, ◌≤◌, ◌++◌, List, [], ◌∷◌, length, replicate, slice_index, nat_lt, nat_eq, if◌then◌else◌, IsPermutation, ◌&&◌}
use Rattle.phase_model.specs.declared.Pair.{Pair}
use Rattle.phase_model.specs.Tables.{pair}
use Rattle.phase_model.specs.Laws.{OldOrStored, LeastClaimed}

pub record Row : Type 0 where
  pub place : ℕ
  pub words : List ℕ

-- the rows in range claim their places by their numbers, from k on
abbrev pub claims : ℕ → ℕ → List Row → List Pair
claims places k [] = []
claims places k (r ∷ rs) = (if nat_lt r.place places then pair r.place k ∷ [] else []) ++ claims places (suc k) rs

-- words from place q on
abbrev pub puts_at : ℕ → List ℕ → List Pair
puts_at q [] = []
puts_at q (x ∷ xs) = pair q x ∷ puts_at (suc q) xs

-- the row whose number stands at its place puts its words
abbrev pub puts : ℕ → ℕ → List ℕ → ℕ → List Row → List Pair
puts places width winners k [] = []
puts places width winners k (r ∷ rs) = (if nat_lt r.place places && nat_eq (slice_index winners r.place) k then puts_at (r.place * width) r.words else []) ++ puts places width winners (suc k) rs

-- the row with this number, counted from 0
abbrev pub Is_row : List Row → ℕ → Row → Type 0
Is_row [] n r = ⊥
Is_row (x ∷ rs) n r = ((n ≡ 0) × (x ≡ r)) ⊎ ((m : ℕ) × (n ≡ suc m) × Is_row rs m r)

-- each row has so many words
abbrev pub Each_wide : ℕ → List Row → Type 0
Each_wide width rows = (n : ℕ) (r : Row) → Is_row rows n r → length r.words ≡ width

-- the words of a place are these
abbrev pub Row_is : ℕ → ℕ → List ℕ → List ℕ → Type 0
Row_is width i words row = (j : ℕ) → j < width → slice_index words (i * width + j) ≡ slice_index row j

-- the old row where no row names the place, else one whole row of those that do
abbrev pub Whole : ℕ → List ℕ → List ℕ → List Row → ℕ → Type 0
Whole width old words rows i =
    (((n : ℕ) (r : Row) → Is_row rows n r → r.place ≡ i → ⊥) × ((j : ℕ) → j < width → slice_index words (i * width + j) ≡ slice_index old (i * width + j)))
    ⊎ ((n : ℕ) × (r : Row) × Is_row rows n r × (r.place ≡ i) × Row_is width i words r.words)

-- whatever the order of the claims was, which leave the least number at each place, and whatever that of the puts
abbrev pub WholeRows : Type 0
WholeRows =
    (places width limit : ℕ) (rows : List Row) (old words winners : List ℕ) (claimed put : List Pair)
    → length old ≡ places * width → length rows ≤ limit → Each_wide width rows
    → IsPermutation (claims places 0 rows) claimed → LeastClaimed (replicate places limit) winners claimed
    → IsPermutation (puts places width winners 0 rows) put → OldOrStored old words put
    → (i : ℕ) → i < places → Whole width old words rows i
