-- What is made are the expressions of the patterns so far.
use Rattle.std.proofs.Common.{◌≡◌, map, take}
use Rattle.fut_ast.specs.Nodes.{exp_of_pat}
use Rattle.fut_tree.specs.Exps.{exp_fields}
use Rattle.fut_tree.specs.Names.{all}
use Rattle.fut_tree.specs.Pats.{pat_fields}
use Rattle.parse_nodes.proofs.pat_exps.+patexps.Given as goal

abbrev pub invariant-tuple_of-parts : goal.invariant-tuple_of-parts
invariant-tuple_of-parts l = all l.made.items ≡ map exp_of_pat (all (take l.part-index l.parts))

abbrev pub invariant-record_of-fields : goal.invariant-record_of-fields
invariant-record_of-fields l = exp_fields l.made.items ≡ map (λ f. (f.0, exp_of_pat f.1)) (pat_fields (take l.field-index l.fields))
