-- A list of parts is smaller than the expression.
use Rattle.std.proofs.Common.{arith}
use Rattle.fut_tree.proofs.Sizes.{tuple_parts, array_parts, record_parts, lets_parts, index_parts, update_parts}
use Rattle.test_shown.proofs.shapes.expressions.+expressions.Goals as goal

pub show_exp-show_exps-requires : goal.show_exp-show_exps-requires
show_exp-show_exps-requires t c = (omega (arith, tuple_parts c.exp.inside _ c.exp.view_is c.in-Tuple.parts c.in-Tuple.is), tt)

pub show_exp-show_fields-requires : goal.show_exp-show_fields-requires
show_exp-show_fields-requires t c = (omega (arith, record_parts c.exp.inside _ c.exp.view_is c.in-Record.fields c.in-Record.is), tt)

pub show_exp-show_exps-requires-in-Array : goal.show_exp-show_exps-requires-in-Array
show_exp-show_exps-requires-in-Array t c = (omega (arith, array_parts c.exp.inside _ c.exp.view_is c.in-Array.parts c.in-Array.is), tt)

pub show_access-show_index-requires : goal.show_access-show_index-requires
show_access-show_index-requires t c = (omega (arith, index_parts c.exp.inside _ c.exp.view_is c.in-Index.array c.in-Index.parts c.in-Index.is), tt)

pub show_access-show_exps-requires : goal.show_access-show_exps-requires
show_access-show_exps-requires t c = (omega (arith, update_parts c.exp.inside _ c.exp.view_is c.in-Update.array c.in-Update.indices c.in-Update.value c.in-Update.is), tt)

pub show_longer-show_binds-requires : goal.show_longer-show_binds-requires
show_longer-show_binds-requires t c = (omega (arith, lets_parts c.exp.inside _ c.exp.view_is c.in-Lets.binds c.in-Lets.body c.in-Lets.is), tt)
