-- The types of a graph's nodes, and trees of them that were made.
use Rattle.std.specs.Prelude.{◌≡◌, ℕ, suc, List, [], ◌∷◌, Option, Some, None, length, slice_index_or}
use Rattle.fut_types.specs.declared.Head.{Head}
use Rattle.fut_types.specs.Types.{Ty, Made}
use Rattle.type_graph.specs.declared.Node.{Node}
use Rattle.type_infer.specs.Reading.{Comes_to}
use Rattle.size_arena.specs.Trees.{type_of, tys_of}
use Rattle.size_arena.specs.declared.types.TypeTree.{TypeTree}

-- the tree of a node, if it was made
unfoldable pub tree_at : List (Option TypeTree) → ℕ → Option TypeTree
tree_at made i = slice_index_or made i None

-- this is the type of a node, if it has one
abbrev pub Is_type : List Node → ℕ → TypeTree → Type 0
Is_type nodes i tree = (t : Ty) → Comes_to nodes i t → type_of tree ≡ t

-- there is room for the tree of each node, and each that was made is the type of its node
pub record Are_made (nodes : List Node) (made : List (Option TypeTree)) : Type 0 where
  pub long : length made ≡ length nodes
  pub types : (i : ℕ) (tree : TypeTree) → tree_at made i ≡ Some tree → Is_type nodes i tree

-- the trees of the nodes in a row
unfoldable pub Row_made : List (Option TypeTree) → ℕ → List TypeTree → Type 0
Row_made made x [] = Unit {0}
Row_made made x (t ∷ ts) = (tree_at made x ≡ Some t) × Row_made made (suc x) ts

-- a tree that is made by a head of those of the nodes in a row
pub record Is_made_of (made : List (Option TypeTree)) (h : Head) (x n : ℕ) (tree : TypeTree) : Type 0 where
  pub row : List TypeTree
  pub is : type_of tree ≡ Made h (tys_of row)
  pub trees : Row_made made x row
  pub long : length row ≡ n
