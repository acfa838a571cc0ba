-- The rule of a running table whose steps do pairs.
use Rattle.std.specs.Prelude.{◌≡◌, ℕ, List, [], ◌∷◌, flat_map}
use Rattle.phase_model.specs.declared.Pair.{Pair}
use Rattle.phase_model.specs.declared.View.{View}
use Rattle.phase_model.specs.Kept.{DoneOnce}
use Rattle.phase_model.specs.Parts.{seen, PartsKept}

abbrev pub pair : ℕ → ℕ → Pair
pair place word = record { place = place; word = word }

-- a table has one word at least: where the destination has none, it is a spare one
abbrev pub padded : List ℕ → List ℕ
padded [] = 0 ∷ []
padded (w ∷ ws) = w ∷ ws

-- the destination is the old words after the pairs of all views, each done once
pub record PairsKept (op : ℕ → ℕ → ℕ) (old : List ℕ) (parts : ℕ) (words : List ℕ) (views : List (View Pair)) : Type 0 where
  pub dest : List ℕ
  pub words_are : words ≡ padded dest
  pub pairs_done : DoneOnce op old dest (flat_map seen views)
  pub shared : PartsKept parts views
