-- Records with all names: what a graph's open nodes need, if their labels are names.
use Rattle.std.specs.Prelude.{ℕ, ◌≡◌, ◌<◌}
use Rattle.fut_ast.specs.Sorts.{Text}
use Rattle.fut_typing.specs.Names.{Names, AreNames}
use Rattle.type_graph.specs.Graph.{Tables}
use Rattle.type_graph.specs.Filling.{Rich}
use Rattle.type_graph.specs.Rereading.{Apart}

-- the labels of the first entries are names, and chains stay within them
abbrev pub Named_labels : Names → Tables → ℕ → Type 0
Named_labels N T last = (e : ℕ) → e < last → ((s : Text) × ((T.entry e).label ≡ N.label s)) × ((T.entry e).next < last)

abbrev pub Names_are_rich : Type 0
Names_are_rich = (N : Names) (T : Tables) (last : ℕ) → AreNames N → T.shapes ≡ N.shapes → Named_labels N T last → Rich T last

-- and two labels that are names name two positions
abbrev pub Names_are_apart : Type 0
Names_are_apart = (N : Names) (m : ℕ) → AreNames N → ((x : ℕ) → x < m → (s : Text) × (x ≡ N.label s)) → Apart N.shapes m
