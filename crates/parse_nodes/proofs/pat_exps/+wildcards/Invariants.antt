-- What is left tells whether a `_` stands in the whole.
use Rattle.std.proofs.Common.{◌≡◌, map, drop}
use Rattle.fut_ast.specs.Nodes.{any_wild, has_wild}
use Rattle.fut_tree.specs.Names.{all}
use Rattle.fut_tree.specs.Pats.{pat_fields}
use Rattle.parse_nodes.proofs.pat_exps.+wildcards.Given as goal

abbrev pub invariant-any_wildcard-parts : goal.invariant-any_wildcard-parts
invariant-any_wildcard-parts l = any_wild (map has_wild (all (drop l.part-index l.parts))) ≡ any_wild (map has_wild (all l.parts))

abbrev pub invariant-any_field_wildcard-fields : goal.invariant-any_field_wildcard-fields
invariant-any_field_wildcard-fields l = any_wild (map (λ f. has_wild f.1) (pat_fields (drop l.field-index l.fields))) ≡ any_wild (map (λ f. has_wild f.1) (pat_fields l.fields))
