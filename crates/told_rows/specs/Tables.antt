-- What the tables of a program's sizing say of it.
use Rattle.std.specs.Prelude.{◌≡◌, ℕ, Bool, false, nat_eq, get_or, List, Option, Some, None, slice_get, slice_index_or}
use Rattle.std.specs.Borrow.{Bor}
use Rattle.fut_ast.specs.Sorts.{Text}
use Rattle.fut_flat.specs.Erased.{texts}
use Rattle.fut_meaning.specs.Found.{Sizing}
use Rattle.size_arena.specs.declared.trees.SizeTree.{SizeTree}
use Rattle.size_arena.specs.Trees.{size_of}
use Rattle.sized_types.specs.Sizes.{Inferred, Size, Hole}
use Rattle.told_rows.specs.declared.tables.Sizes.{Sizes}

-- a node without a sized type has a type variable of its own
abbrev pub noted : ℕ → Option (Bor SizeTree) → Size
noted n None = Hole (Inferred n)
noted n (Some t) = size_of t.now

abbrev pub node_at : List (Option (Bor SizeTree)) → ℕ → Size
node_at nodes n = noted n (slice_index_or nodes n None)

-- whether a name is the one that a pattern binds
abbrev pub is_bound : Option ℕ → ℕ → Bool
is_bound None b = false
is_bound (Some c) b = nat_eq c b

-- the tables say what the sizing does; it may have names and records beyond them
pub record Tells (s : Sizes) (Z : Sizing) : Type 0 where
  pub nodes : (n : ℕ) → Z.size_at n ≡ node_at s.nodes.now n
  pub names : (q : ℕ) (o : Option ℕ) → slice_get s.names.now q ≡ Some o → (b : ℕ) → nat_eq (Z.home b) q ≡ is_bound o b
  pub fields : (n : ℕ) (fs : Bor (List (Bor Text))) → slice_get s.fields.now n ≡ Some fs → Z.fields n ≡ texts fs.now
  pub sizes : (k : ℕ) → Z.is_size k ≡ get_or s.are_sizes.now k false

-- there are tables where there is a sizing
abbrev pub Told_by : Option (Bor Sizes) → Option Sizing → Type 0
Told_by None None = Unit {0}
Told_by (Some s) (Some Z) = Tells s.now Z
Told_by o p = ⊥
