-- Both productions are read alike.
use Rattle.std.proofs.Common.{ap, ◌∙◌}
use Rattle.fut_ast.specs.declared.node.Spot.{Spot}
use Rattle.fut_ast.specs.Tokens.{spot_of}
use Rattle.fut_grammar.specs.Phrases.{items, read_at}
use Rattle.parse_module_types.proofs.WithLaws.{path_stops, equal_stops, type_stops, with_is}
use Rattle.parse_module_types.proofs.types.any_with.Goals as goal

pub returns-in-Err : goal.returns-in-Err
returns-in-Err c = record { exact = path_stops (items (read_at c.args.inner)) c.args.tokens.now c.requires.first c.args.arrows c.in-Err.stop (rw c.rest_of-rest.ensures at c.in-Err.ensures); low = tt }

pub returns-in-Err-take : goal.returns-in-Err-take
returns-in-Err-take c = record { exact = equal_stops (items (read_at c.args.inner)) c.args.tokens.now c.requires.first _ _ (rw c.rest_of-rest.ensures at c.in-Ok.ensures) c.args.arrows c.in-Err-take.stop c.in-Err-take.ensures; low = tt }

pub returns-in-Err-type_of_sort : goal.returns-in-Err-type_of_sort
unfolding items
returns-in-Err-type_of_sort c = record { exact = type_stops (items (read_at c.args.inner)) c.args.tokens.now c.requires.first _ _ (rw c.rest_of-rest.ensures at c.in-Ok.ensures) _ c.in-Ok-take.ensures c.args.arrows c.in-Err-type_of_sort.stop c.in-Err-type_of_sort.ensures.exact; low = tt }

pub returns-in-Ok-type_of_sort : goal.returns-in-Ok-type_of_sort
unfolding items
returns-in-Ok-type_of_sort c =
    let at = ap (λ (s : Spot). s.place) (c.next_spot.ensures ∙ ap spot_of c.rest_of-rest.ensures) in
    record { exact = rw at (with_is (items (read_at c.args.inner)) c.args.tokens.now c.requires.first _ _ (rw c.rest_of-rest.ensures at c.in-Ok.ensures) _ c.in-Ok-take.ensures c.args.arrows _ _ _ c.in-Ok-type_of_sort.ensures.exact); low = c.in-Ok-type_of_sort.ensures.low }
