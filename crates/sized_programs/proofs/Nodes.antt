-- The sized types of nodes, read off a table.
use Rattle.std.proofs.Common.{◌≡◌, ℕ, List, get_or, Option, Some, None, sym, ap, Bor}
use Rattle.sized_types.specs.Sizes.{Inferred, Hole}
use Rattle.size_arena.specs.Trees.{size_of}
use Rattle.size_arena.specs.declared.trees.SizeTree.{SizeTree}
use Rattle.size_program.specs.Tables.{node_at, noted}

module _ (nodes : List (Option (Bor SizeTree))) (n : ℕ) where
  pub node_there : (x : Bor SizeTree) → get_or nodes n None ≡ Some x → size_of x.now ≡ node_at nodes n
  node_there x e = sym (ap (noted n) e)

  pub node_nothing : get_or nodes n None ≡ None → Hole (Inferred n) ≡ node_at nodes n
  node_nothing e = sym (ap (noted n) e)

pub ruleset nodes = (node_there, node_nothing)
