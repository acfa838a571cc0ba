-- One more part, and all of them.
use Rattle.std.proofs.Common.{List, map, take, ap, ◌∙◌, ◌∷◌, []}
use Rattle.std.proofs.lemmas.List.{map-append}
use Rattle.fut_ast.specs.declared.exp.Bind.{Bind as PlainBind}
use Rattle.fut_ast.specs.declared.exp.Ix.{Ix as PlainIx}
use Rattle.fut_ast.specs.Nodes.{flat}
use Rattle.fut_ast.specs.Sorts.{Path, Text}
use Rattle.fut_tree.specs.Exps.{ix_of, ixs_of}
use Rattle.parse_nodes.specs.Parts.{named_all, named_of}
use Rattle.parse_nodes.proofs.IndexLaws.{row_more}
use Rattle.parse_nodes.proofs.ListLaws.{one_more, so_all, so_many}
use Rattle.parse_nodes.proofs.index_nodes.take_apart.Goals as goal

pub parts-preserved : goal.parts-preserved
parts-preserved c =
    let parts = c.args.parts.now in
    let part = c.part-item.result in
    let more = so_many parts c.parts.part-index part c.parts-test.true c.part-item.is in (
      rw c.in-Ok.ensures.items (row_more c.parts.row.items (take c.parts.part-index parts) part c.parts.invariant.0 ∙ ap (λ ps. flat (map (λ i. i.0) (named_all ps))) more),
      one_more (λ (i : List PlainBind × PlainIx). i.1) named_of parts c.parts.part-index (ixs_of c.parts.indices.items) _ part c.parts-test.true c.parts.invariant.1 c.part-item.is (ap ixs_of c.in-Ok-push.ensures.items ∙ map-append ix_of c.parts.indices.items (part.part ∷ [])),
    )

pub returns-clause-row : goal.returns-clause-row
returns-clause-row c = c.parts.invariant.0 ∙ ap (λ ps. flat (map (λ i. i.0) (named_all ps))) (so_all c.args.parts.now c.parts.part-index c.parts-test.false c.parts.auto.part-index-end)

pub returns-clause-indices : goal.returns-clause-indices
returns-clause-indices c = c.parts.invariant.1 ∙ ap (λ ps. map (λ i. i.1) (named_all ps)) (so_all c.args.parts.now c.parts.part-index c.parts-test.false c.parts.auto.part-index-end)
