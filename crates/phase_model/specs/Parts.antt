-- The parts that the seats of a table keep in their views. The seat that has them all is the only one left.
use Rattle.std.specs.Prelude.{◌≡◌, ℕ, ◌+◌, List, [], ◌∷◌}
use mathlib.Core.Option.{some}
use lib.ListN.{get_elem?}
use Rattle.phase_model.specs.declared.View.{View}

-- f of each, added up
abbrev pub total : {V : Type 0} → (V → ℕ) → List V → ℕ
total f [] = 0
total f (v ∷ vs) = f v + total f vs

abbrev pub view : {X : Type 0} → ℕ → List X → View X
view n xs = record { parts = n; seen = xs }

abbrev pub seen : {X : Type 0} → View X → List X
seen v = v.seen

-- the parts add up to the number fixed at the opening, and a view with no part is spent: it has nothing
pub record PartsKept {X : Type 0} (parts : ℕ) (views : List (View X)) : Type 0 where
  pub add_up : total (λ v. v.parts) views ≡ parts
  pub spent : (j : ℕ) (v : View X) → get_elem? views j ≡ some v → v.parts ≡ 0 → v.seen ≡ []
