-- The types of a graph's nodes, and trees of them that were made.
use Rattle.std.specs.Prelude.{◌≡◌, ℕ, suc, ◌<◌, List, [], ◌∷◌, Option, Some, None, length, slice_index_or}
use Rattle.std.specs.List.{All}
use Rattle.std.specs.Borrow.{Bor}
use Rattle.fut_types.specs.declared.Head.{Head}
use Rattle.fut_types.specs.Types.{Ty}
use Rattle.type_graph.specs.declared.Node.{Node}
use Rattle.type_infer.specs.Reading.{Comes_to}
use Rattle.alias_values.specs.Trees.{type_of}
use Rattle.alias_values.specs.declared.trees.TypeTree.{TypeTree}
use Rattle.alias_values.specs.declared.trees.TypeTree.TheVariants as type
use Rattle.unique_programs.specs.declared.trees.SizedTree.{SizedTree}

-- what was made of a node
unfoldable pub sized_at : List (Option SizedTree) → ℕ → Option SizedTree
sized_at made i = slice_index_or made i None

abbrev pub tree_in : Option SizedTree → Option TypeTree
tree_in (Some sized) = Some sized.tree
tree_in None = None

-- the tree of a node, if it was made
abbrev pub tree_at : List (Option SizedTree) → ℕ → Option TypeTree
tree_at made i = tree_in (sized_at made i)

-- this is the type of a node, if it has one
abbrev pub Is_type : List Node → ℕ → TypeTree → Type 0
Is_type nodes i tree = (t : Ty) → Comes_to nodes i t → type_of tree ≡ t

-- each tree that was made is the type of its node
abbrev pub Are_types : List Node → List (Option SizedTree) → Type 0
Are_types nodes made = (i : ℕ) (tree : TypeTree) → tree_at made i ≡ Some tree → Is_type nodes i tree

-- the trees of the nodes in a row
unfoldable pub Row_made : List (Option SizedTree) → ℕ → List TypeTree → Type 0
Row_made made x [] = Unit {0}
Row_made made x (t ∷ ts) = (tree_at made x ≡ Some t) × Row_made made (suc x) ts

-- a tree that is made by a head of those of the nodes in a row
pub record Is_made_of (made : List (Option SizedTree)) (h : Head) (x n : ℕ) (tree : TypeTree) : Type 0 where
  pub row : Bor (List TypeTree)
  pub is : tree ≡ type.Made h row
  pub trees : Row_made made x row.now
  pub long : length row.now ≡ n

-- these are numbers of nodes that may have a tree
abbrev pub Inside : List (Option SizedTree) → List ℕ → Type 0
Inside made numbers = All (λ n. n < length made) numbers

-- there is room for the tree of each node
pub record Are_made (nodes : List Node) (made : List (Option SizedTree)) : Type 0 where
  pub long : length made ≡ length nodes
  pub types : Are_types nodes made
