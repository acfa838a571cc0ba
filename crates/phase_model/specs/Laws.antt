-- What each word is after pairs were done once each, whatever their order was.
use Rattle.std.specs.Prelude.{◌≡◌, ◌⊎◌, ℕ, ◌<◌, ◌≤◌, ◌==◌, ◌&&◌, Bool, List, [], ◌∷◌, length, slice_index, flat_map, fold, MatchBool, IsPermutation, if◌then◌else◌, true}
use Rattle.std.specs.List.{list_any}
use Rattle.phase_model.specs.declared.Pair.{Pair}

-- the pair is for the place i
abbrev pub names : ℕ → Pair → Bool
names i p = p.place == i

-- the pair has the word w for the place i
abbrev pub gives : ℕ → ℕ → Pair → Bool
gives i w p = (p.place == i) && (p.word == w)

-- the words of the pairs for the place i
abbrev pub words_at : ℕ → List Pair → List ℕ
words_at i pairs = flat_map (λ p. if names i p then p.word ∷ [] else []) pairs

-- after stores a word is its old value where no pair is for its place, else the word of some pair there
abbrev pub OldOrStored : List ℕ → List ℕ → List Pair → Type 0
OldOrStored old words pairs = (i : ℕ) → i < length old → MatchBool (list_any (names i) pairs) (list_any (gives i (slice_index words i)) pairs ≡ true) (slice_index words i ≡ slice_index old i)

-- after claims a word is the least of its old value and the words of the pairs there
abbrev pub LeastClaimed : List ℕ → List ℕ → List Pair → Type 0
LeastClaimed old words pairs = (i : ℕ) → i < length old
    → (slice_index words i ≤ slice_index old i)
    × ((p : Pair) → list_any (gives i p.word) pairs ≡ true → slice_index words i ≤ p.word)
    × ((slice_index words i ≡ slice_index old i) ⊎ (list_any (gives i (slice_index words i)) pairs ≡ true))

-- after combinations a word is its old value combined with the word of every pair there, each once, in some order
abbrev pub EachCombined : (ℕ → ℕ → ℕ) → List ℕ → List ℕ → List Pair → Type 0
EachCombined op old words pairs = (i : ℕ) → i < length old → (order : List ℕ) × IsPermutation (words_at i pairs) order × (slice_index words i ≡ fold op (slice_index old i) order)
