-- The rule of the draw table, whose one word is the number that is drawn next.
use Rattle.std.specs.Prelude.{◌≡◌, ℕ, ◌+◌, ◌<◌, ◌≤◌, ◌^◌, Bool, List, [], ◌∷◌, ◌++◌, flat_map, All, nat_le, if◌then◌else◌}
use Rattle.std.specs.List.{list_any}
use Rattle.atomic_table.specs.Table.{State, Step, Me}
use Rattle.phase_model.specs.declared.View.{View}
use Rattle.phase_model.specs.Kept.{DrawnOnce}
use Rattle.phase_model.specs.Parts.{total, view, seen, PartsKept}

-- a number past the chunks is among them
abbrev pub ends : ℕ → List ℕ → Bool
ends chunks numbers = list_any (λ n. nat_le chunks n) numbers

-- the parts of a seat are used up once it had such a number
abbrev pub used : ℕ → View ℕ → ℕ
used chunks v = if ends chunks v.seen then v.parts else 0

-- the numbers in all views are those below the word, each once. The word is at most the chunks and the parts that are used up, so it never wraps
pub record DrawKept (chunks parts : ℕ) (s : State (Unit {0}) (View ℕ)) : Type 0 where
  pub word : ℕ
  pub words_are : s.words ≡ word ∷ []
  pub drawn : DrawnOnce word (flat_map seen s.views)
  pub shared : PartsKept parts s.views
  pub bound : word ≤ chunks + total (used chunks) s.views
  pub fits : chunks + parts < 2 ^ 63

-- what a draw tells: the number joins the seat's, which are all below it
abbrev pub Draws : Step (Unit {0}) → Me (Unit {0}) (View ℕ) → ℕ → Me (Unit {0}) (View ℕ) → Type 0
Draws st me n after = (after ≡ (view me.0.parts (me.0.seen ++ n ∷ []), me.1)) × All (λ x. x < n) me.0.seen
