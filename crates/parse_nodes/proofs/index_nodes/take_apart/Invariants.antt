-- The names of the parts so far, and the parts.
use Rattle.std.proofs.Common.{◌≡◌, map, take}
use Rattle.fut_ast.specs.Nodes.{flat}
use Rattle.parse_nodes.specs.Parts.{named_all}
use Rattle.fut_tree.specs.Exps.{binds_of, ixs_of}
use Rattle.parse_nodes.proofs.index_nodes.take_apart.Given as goal

abbrev pub invariant-parts : goal.invariant-parts
invariant-parts l = (binds_of l.row.items ≡ flat (map (λ i. i.0) (named_all (take l.part-index l.parts)))) × (ixs_of l.indices.items ≡ map (λ i. i.1) (named_all (take l.part-index l.parts)))
