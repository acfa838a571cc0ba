-- The substitution that a graph is: each node is a variable, and is bound to what its form says.
use Rattle.std.specs.Prelude.{ℕ, zero, suc, ◌+◌, ◌<◌, ◌^◌, List, [], ◌∷◌, ◌++◌}
use Rattle.type_graph.specs.declared.Form.{Form}
use Rattle.type_graph.specs.declared.Form.TheVariants as form
use Rattle.type_graph.specs.declared.Node.{Node}
use Rattle.type_graph.specs.declared.Entry.{Entry}
use Rattle.type_graph.specs.Graph.{entry_at}
use Rattle.unify.specs.declared.Ty.{Ty as Tree}
use Rattle.unify.specs.declared.Ty.TheVariants as tree
use Rattle.unify.specs.declared.Known.{Known}
use Rattle.unify.specs.declared.Subst.{Subst}

-- the numbers of a row are of 32 bits
abbrev pub HasRow : Form → Type 0
HasRow form.Free = Unit {0}
HasRow (form.Link j) = Unit {0}
HasRow (form.Made h x n) = x + n < 2 ^ 32
HasRow (form.Open e n) = Unit {0}

unfoldable pub variables : ℕ → ℕ → List Tree
variables x zero = []
variables x (suc n) = tree.Var x ∷ variables (suc x) n

unfoldable pub chain_of : List Entry → ℕ → ℕ → List (ℕ × Tree)
chain_of entries e zero = []
chain_of entries e (suc n) = ((entry_at entries e).label, tree.Var (entry_at entries e).child) ∷ chain_of entries (entry_at entries e).next n

abbrev pub parts_read : List Entry → Form → List (ℕ × Tree)
parts_read entries form.Free = []
parts_read entries (form.Link j) = []
parts_read entries (form.Made h x n) = []
parts_read entries (form.Open e n) = chain_of entries e n

abbrev pub known_of : List Entry → Node → Known
known_of entries node = record { kind = node.kind; parts = parts_read entries node.form }

abbrev pub bind_of : ℕ → Form → List (ℕ × Tree)
bind_of i form.Free = []
bind_of i (form.Link j) = (i, tree.Var j) ∷ []
bind_of i (form.Made h x n) = (i, tree.Made h (variables x n)) ∷ []
bind_of i (form.Open e n) = []

unfoldable pub known_from : List Entry → List Node → List Known
known_from entries [] = []
known_from entries (node ∷ nodes) = known_of entries node ∷ known_from entries nodes

unfoldable pub binds_from : ℕ → List Node → List (ℕ × Tree)
binds_from i [] = []
binds_from i (node ∷ nodes) = bind_of i node.form ++ binds_from (suc i) nodes

abbrev pub answer : List Node → List Entry → Subst
answer nodes entries = record { known = known_from entries nodes; binds = binds_from 0 nodes }
