-- Parts by their labels, in the words of the definition.
use Rattle.std.specs.Prelude.{ℕ, List, map}
use Rattle.alias_loops.specs.declared.labels.Labelled.{Labelled}

abbrev pub labelled_of : List Labelled → List (ℕ × List ℕ)
labelled_of = map (λ (x : Labelled). (x.label, x.nodes.now))
