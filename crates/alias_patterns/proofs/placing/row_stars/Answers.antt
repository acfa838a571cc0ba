use Rattle.std.proofs.Common.{rules}
use Rattle.alias_patterns.proofs.PlaceForms.{leaf_row, arrow_row, row_row}
use Rattle.alias_patterns.proofs.placing.row_stars.Goals as goal

pub returns-in_ok-extend_from_slice-in-Row : goal.returns-in_ok-extend_from_slice-in-Row
returns-in_ok-extend_from_slice-in-Row c = row_row c.args.stars.now c.extend_from_slice.new.self.items c.in-Row.parts c.in-Row.is (search rules)

pub returns-in-Leaf : goal.returns-in-Leaf
returns-in-Leaf c = leaf_row c.args.stars.now c.new-row.result.items c.in-Leaf.field-0 c.in-Leaf.is c.new-row.ensures.items

pub returns-in-Arrow : goal.returns-in-Arrow
returns-in-Arrow c = arrow_row c.args.stars.now c.new-row.result.items c.in-Arrow.field-0 c.in-Arrow.field-1 c.in-Arrow.field-2 c.in-Arrow.is c.new-row.ensures.items
