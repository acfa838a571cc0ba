-- Lists of rows: those at some places, side by side, in groups, and what is written among them. The meaning of programs says the
-- same of lists of data.
use Rattle.std.specs.Prelude.{ℕ, zero, suc, Bool, true, false, cond, nat_lt, List, [], ◌∷◌, ◌++◌, length, take, drop, map, flat_map, ℤ, pos, negsuc, unsigned_abs}
use Rattle.std.specs.Int.{int_rem_euclid}
use Rattle.fut_meaning.specs.Meaning.{counts}

-- so many parts of one length
abbrev pub parts : {A : Type 0} → ℕ → ℕ → List A → List (List A)
parts zero k xs = []
parts (suc n) k xs = take k xs ∷ parts n k (drop k xs)

-- a further column beside rows
abbrev pub beside : {A : Type 0} → List A → List (List A) → List (List A)
beside [] rs = []
beside (x ∷ xs) [] = []
beside (x ∷ xs) (r ∷ rs) = (x ∷ r) ∷ beside xs rs

-- rows side by side
abbrev pub paired : {A : Type 0} → List (List A) → List (List A) → List (List A)
paired [] ss = []
paired (r ∷ rs) [] = []
paired (r ∷ rs) (s ∷ ss) = (r ++ s) ∷ paired rs ss

-- element i is the one at i + r, counted around
abbrev pub around : {A : Type 0} → ℤ → List A → List A
around z xs = drop (unsigned_abs (int_rem_euclid z (pos (length xs)))) xs ++ take (unsigned_abs (int_rem_euclid z (pos (length xs)))) xs

abbrev pub joined : {A : Type 0} → List (List A) → List A
joined [] = []
joined (xs ∷ xss) = xs ++ joined xss

-- the elements of each list at a position, for each position below `m`
abbrev pub at_position : {A : Type 0} → ℕ → List (List A) → List A
at_position k xss = flat_map (λ xs. take 1 (drop k xs)) xss

abbrev pub crossed : {A : Type 0} → ℕ → List (List A) → List (List A)
crossed m xss = map (λ k. at_position k xss) (counts m 0)

-- those that pass, or those that do not
abbrev pub sifted : {A : Type 0} → Bool → List A → List Bool → List A
sifted b [] bs = []
sifted b (x ∷ xs) [] = []
sifted true (x ∷ xs) (true ∷ bs) = x ∷ sifted true xs bs
sifted true (x ∷ xs) (false ∷ bs) = sifted true xs bs
sifted false (x ∷ xs) (true ∷ bs) = sifted false xs bs
sifted false (x ∷ xs) (false ∷ bs) = x ∷ sifted false xs bs

-- the prefixes of a list that are not empty, the shortest first
abbrev pub prefixes_on : {A : Type 0} → List A → List A → List (List A)
prefixes_on done [] = []
prefixes_on done (x ∷ xs) = (done ++ x ∷ []) ∷ prefixes_on (done ++ x ∷ []) xs

-- which of these rows are written at places below `n`: their places, and the rows; the others are passed over
abbrev pub and_write : {A : Type 0} → ℕ → ℤ → A → List (ℕ × A) → List (ℕ × A)
and_write n (pos k) x ws = cond (nat_lt k n) ((k, x) ∷ ws) ws
and_write n (negsuc k) x ws = ws

abbrev pub writes : {A : Type 0} → ℕ → List ℤ → List A → List (ℕ × A)
writes n [] xs = []
writes n (z ∷ zs) [] = []
writes n (z ∷ zs) (x ∷ xs) = and_write n z x (writes n zs xs)
