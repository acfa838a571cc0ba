-- The names of both expressions.
use Rattle.std.proofs.Common.{◌++◌, Some, sym, ap, ◌∙◌, append_assoc}
use Rattle.fut_tree.specs.Exps.{binds_of}
use Rattle.fut_tree.specs.Names.{maybe}
use Rattle.parse_nodes.specs.Parts.{lets_named}
use Rattle.parse_nodes.proofs.NamedLaws.{alone, slice}
use Rattle.parse_nodes.proofs.index_nodes.part_of_names.Goals as goal

pub returns-in-Some-first-clause-part : goal.returns-in-Some-first-clause-part
returns-in-Some-first-clause-part c = sym (ap (λ s. s.1) (alone c.args.part (Some c.in-Some-first.used.now) c.in-None.is (sym (ap maybe c.in-Some-first.is) ∙ c.in-Ok.ensures.used)))

pub returns-in-Some-first-clause-row : goal.returns-in-Some-first-clause-row
returns-in-Some-first-clause-row c = c.in-Ok.ensures.row ∙ ap (λ s. binds_of c.args.row.now.items ++ s.0) (sym (alone c.args.part (Some c.in-Some-first.used.now) c.in-None.is (sym (ap maybe c.in-Some-first.is) ∙ c.in-Ok.ensures.used)))

pub returns-in-Ok-named-clause-part : goal.returns-in-Ok-named-clause-part
returns-in-Ok-named-clause-part c = sym (ap (λ s. s.1) (slice c.args.part c.in-Some.upto (maybe c.in-Ok.first) (maybe c.in-Ok-named.end) c.in-Some.is c.in-Ok.ensures.used c.in-Ok-named.ensures.used))

pub returns-in-Ok-named-clause-row : goal.returns-in-Ok-named-clause-row
returns-in-Ok-named-clause-row c =
    let old = binds_of c.args.row.now.items in
    let first = lets_named c.args.part.at (maybe c.args.part.first) in
    let end = lets_named c.in-Some.upto.colon (maybe c.in-Some.upto.end) in
    c.in-Ok-named.ensures.row ∙ ap (λ bs. bs ++ end) c.in-Ok.ensures.row ∙ append_assoc old first end
    ∙ ap (λ s. old ++ s.0) (sym (slice c.args.part c.in-Some.upto _ _ c.in-Some.is c.in-Ok.ensures.used c.in-Ok-named.ensures.used))
