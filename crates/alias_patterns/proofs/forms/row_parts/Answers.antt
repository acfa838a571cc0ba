use Rattle.alias_patterns.proofs.HeadForms.{parts_made, no_leaf, no_arrow, no_scalar, no_array, no_function}
use Rattle.alias_patterns.proofs.forms.row_parts.Goals as goal

pub returns-in-Parts : goal.returns-in-Parts
returns-in-Parts c = parts_made c.args.stars.now c.args.value.now c.in-Row.row c.in-Parts.head c.in-Parts.values c.in-Row.is c.in-Parts.is

pub returns-in-Scalar : goal.returns-in-Scalar
returns-in-Scalar c = no_scalar c.args.stars.now c.args.value.now c.in-Scalar.is

pub returns-in-Array : goal.returns-in-Array
returns-in-Array c = no_array c.args.stars.now c.args.value.now c.in-Array.field-0 c.in-Array.is

pub returns-in-Function : goal.returns-in-Function
returns-in-Function c = no_function c.args.stars.now c.args.value.now c.in-Function.field-0 c.in-Function.field-1 c.in-Function.is

pub returns-in-Leaf : goal.returns-in-Leaf
returns-in-Leaf c = no_leaf c.args.stars.now c.args.value.now c.in-Leaf.field-0 c.in-Leaf.is

pub returns-in-Arrow : goal.returns-in-Arrow
returns-in-Arrow c = no_arrow c.args.stars.now c.args.value.now c.in-Arrow.field-0 c.in-Arrow.field-1 c.in-Arrow.field-2 c.in-Arrow.is
