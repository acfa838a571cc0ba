use Rattle.fut_types.specs.declared.shapes.ShapeTable.{ShapeTable}
use Rattle.fut_types.specs.declared.Head.TheVariants as head
use Rattle.fut_types.specs.Shapes.{IsKnown}
use Rattle.type_rules.proofs.Adding.{if_err}
use Rattle.type_rules.proofs.rows.tuple.Goals as goal

known_tuple : (table : ShapeTable) → IsKnown table head.Tuple
unfolding IsKnown
known_tuple table = tt

pub assert_made-requires-clause-head : goal.assert_made-requires-clause-head
assert_made-requires-clause-head c = known_tuple c.args.table.now

pub returns-clause-err : goal.returns-clause-err
returns-clause-err c = if_err c.assert_made.result (λ h T told N places. h T told) c.assert_made.ensures.err
