use Rattle.alias_operations.proofs.WantedForms.{component_arrow, component_leaf, component_row}
use Rattle.alias_operations.proofs.wanted.component.Goals as goal

pub returns-in_ok-found-in-Row : goal.returns-in_ok-found-in-Row
returns-in_ok-found-in-Row c = rw c.in-Some.is (λ o t. component_row c.in-Some.stars.now o c.in-Row.row c.args.place _ c.in-Row.is c.in_ok-found-in-Row.ensures c.if-row-ge4294967296.false t)

pub returns-in-Leaf : goal.returns-in-Leaf
returns-in-Leaf c = rw c.in-Some.is (λ o t. component_leaf c.in-Some.stars.now o c.in-Leaf.field-0 c.in-Leaf.is)

pub returns-in-Arrow : goal.returns-in-Arrow
returns-in-Arrow c = rw c.in-Some.is (λ o t. component_arrow c.in-Some.stars.now o c.in-Arrow.field-0 c.in-Arrow.field-1 c.in-Arrow.field-2 c.in-Arrow.is)
