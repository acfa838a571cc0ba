-- The tables of a sizing.
use Rattle.std.proofs.Common.{◌≡◌, ℕ, List, get_or, Option, Some, None, slice_get, sym, ap}
use Rattle.std.specs.Borrow.{Bor}
use Rattle.size_arena.specs.declared.trees.SizeTree.{SizeTree}
use Rattle.size_arena.specs.Trees.{size_of}
use Rattle.sized_types.specs.Sizes.{Inferred, Hole}
use Rattle.fut_ast.specs.Sorts.{Text}
use Rattle.fut_flat.specs.Erased.{texts}
use Rattle.fut_meaning.specs.Found.{Sizing}
use Rattle.told_rows.specs.declared.tables.Sizes.{Sizes}
use Rattle.told_rows.specs.Tables.{Tells, noted, node_at}

module _ (nodes : List (Option (Bor SizeTree))) (n : ℕ) where
  pub node_there : (x : Bor SizeTree) → get_or nodes n None ≡ Some x → size_of x.now ≡ node_at nodes n
  node_there x e = sym (ap (noted n) e)

  pub node_nothing : get_or nodes n None ≡ None → Hole (Inferred n) ≡ node_at nodes n
  node_nothing e = sym (ap (noted n) e)

pub ruleset nodes = (node_there, node_nothing)

pub fields_told : (s : Sizes) (Z : Sizing) → Tells s Z → (n : ℕ) (fs : Bor (List (Bor Text))) → slice_get s.fields.now n ≡ Some fs → texts fs.now ≡ Z.fields n
fields_told s Z w n fs e = sym (w.fields n fs e)
