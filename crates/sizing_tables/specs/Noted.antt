-- What is noted behind what was noted before.
use Rattle.std.specs.Prelude.{◌≡◌, ℕ, ◌++◌, true, false, List, Option}
use Rattle.sizing_tables.specs.declared.noting.Names.{Names}
use Rattle.sizing_tables.specs.declared.noting.Noting.{Noting}

-- the names of these nodes, and these sizes, or memory ran out
pub data Noted (s t : Noting) (names : List (Option ℕ)) (sizes : List ℕ) : Type 0 where
  noted : t.is_full ≡ s.is_full → t.names ≡ s.names ++ names → t.sizes ≡ s.sizes ++ sizes → Noted s t names sizes
  full : t.is_full ≡ true → Noted s t names sizes

-- all that was noted, where memory was there
pub record Noted_of (s : Noting) (all : Names) : Type 0 where
  pub names : all.names ≡ s.names
  pub sizes : all.sizes ≡ s.sizes
  pub kept : s.is_full ≡ false
