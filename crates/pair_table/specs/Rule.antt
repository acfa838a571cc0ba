-- The rule of a running table of pairs, as its kit of atomic steps wants it: that of `phase_model`, over the table's words and views.
use Rattle.std.specs.Prelude.{◌≡◌, ℕ, List, [], ◌∷◌, ◌++◌}
use Rattle.atomic_table.specs.Table.{State, Step, Me}
use Rattle.phase_model.specs.declared.Pair.{Pair}
use Rattle.phase_model.specs.declared.View.{View}
use Rattle.phase_model.specs.Parts.{view}
use Rattle.phase_model.specs.Tables.{pair, PairsKept}

abbrev pub Kept : (ℕ → ℕ → ℕ) → List ℕ → ℕ → State (Unit {0}) (View Pair) → Type 0
Kept op old parts s = PairsKept op old parts s.words s.views

-- what a step tells: its pair joins the seat's
abbrev pub Does : Step (Unit {0}) → Me (Unit {0}) (View Pair) → ℕ → Me (Unit {0}) (View Pair) → Type 0
Does st me found after = after ≡ (view me.0.parts (me.0.seen ++ pair st.word st.first ∷ []), me.1)
