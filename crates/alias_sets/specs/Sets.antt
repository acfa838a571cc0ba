-- A set of numbers is a list in which they rise.
use Rattle.std.specs.Prelude.{◌≡◌, ℕ, suc, ◌≤◌, Bool, false, ◌||◌, ◌&&◌, not, nat_eq, List, [], ◌∷◌}

-- each is greater than those before it, and at least this
abbrev pub Rises : ℕ → List ℕ → Type 0
Rises from [] = Unit {0}
Rises from (x ∷ s) = (from ≤ x) × Rises (suc x) s

abbrev pub IsSet : List ℕ → Type 0
IsSet s = Rises 0 s

abbrev pub is_member : ℕ → List ℕ → Bool
is_member a [] = false
is_member a (x ∷ s) = nat_eq x a || is_member a s

-- the members are those of either
pub record IsUnion (s t u : List ℕ) : Type 0 where
  pub set : IsSet u
  pub members : (a : ℕ) → is_member a u ≡ (is_member a s || is_member a t)

-- where `from` is a member, those of another set stand in its place
pub record IsRenamed (s : List ℕ) (from : ℕ) (to u : List ℕ) : Type 0 where
  pub set : IsSet u
  pub members : (a : ℕ) → is_member a u ≡ ((not (nat_eq from a) && is_member a s) || (is_member from s && is_member a to))
