-- What the tables and the map of names hold of the definition's state and scope.
use Rattle.std.specs.Prelude.{◌≡◌, ℕ, List, [], Option, Some, None, slice_index_or}
use Rattle.std.specs.Borrow.{Bor}
use Rattle.sized_types.specs.Sizes.{Inferred, Size, Hole}
use Rattle.fut_sizes.specs.Scopes as scopes
use Rattle.fut_sizes.specs.Steps.{State}
use Rattle.size_arena.specs.declared.trees.SizeTree.{SizeTree}
use Rattle.size_arena.specs.Trees.{size_of}
use Rattle.size_program.specs.Maps.{entry_of}
use Rattle.size_program.specs.declared.maps.Known.{Known}
use Rattle.size_program.specs.declared.maps.NumberMap.{NumberMap}
use Rattle.size_program.specs.declared.tables.Tables.{Tables}

-- ---- names

abbrev pub known_of : Option (Bor Known) → Option scopes.Known
known_of None = None
known_of (Some k) = Some (record { size = size_of k.now.size.now; is_general = k.now.is_general })

-- what the map knows of each name is what the scope knows
pub record In_scope (names : NumberMap) (scope : scopes.Scope) : Type 0 where
  pub known : (b : ℕ) → scope b ≡ known_of (entry_of names b)

-- ---- nodes

abbrev pub noted : ℕ → Option (Bor SizeTree) → Size
noted n None = Hole (Inferred n)
noted n (Some t) = size_of t.now

abbrev pub node_at : List (Option (Bor SizeTree)) → ℕ → Size
node_at nodes n = noted n (slice_index_or nodes n None)

-- ---- the levels that loops drop

abbrev pub levels_or_none : Option (Bor (List ℕ)) → List ℕ
levels_or_none None = []
levels_or_none (Some levels) = levels.now

abbrev pub dropped_at : List (Option (Bor (List ℕ))) → ℕ → List ℕ
dropped_at dropped n = levels_or_none (slice_index_or dropped n None)

pub record Stands (t : Tables) (s : State) : Type 0 where
  pub nodes : (n : ℕ) → s.nodes n ≡ node_at t.nodes n
  pub dropped : (n : ℕ) → s.dropped n ≡ dropped_at t.dropped n
