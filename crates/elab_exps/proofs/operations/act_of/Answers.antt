-- What each form does.
use Rattle.elab_exps.specs.Plain.{plain_integer, plain_truth, plain_tuple, plain_array, plain_project, plain_update, plain_replace}
use Rattle.elab_exps.proofs.OperationLaws.{plain_stepped, int_acts, bool_acts, unit_acts, tuple_acts, array_acts, unary_acts, field_acts, update_acts, replace_acts, range_acts}
use Rattle.elab_exps.proofs.operations.act_of.Goals as goal

pub returns-in-Int : goal.returns-in-Int
returns-in-Int c = int_acts c.exp.inside _ c.exp.view_is _ _ c.in-Int.is plain_integer

pub returns-in-Bool : goal.returns-in-Bool
returns-in-Bool c = bool_acts c.exp.inside _ c.exp.view_is _ c.in-Bool.is plain_truth

pub returns-in-Unit : goal.returns-in-Unit
returns-in-Unit c = unit_acts c.exp.inside _ c.exp.view_is c.in-Unit.is plain_tuple

pub returns-in-Tuple : goal.returns-in-Tuple
returns-in-Tuple c = tuple_acts c.exp.inside _ c.exp.view_is _ c.in-Tuple.is plain_tuple

pub returns-in-Array : goal.returns-in-Array
returns-in-Array c = array_acts c.exp.inside _ c.exp.view_is _ c.in-Array.is plain_array

pub returns-in-Unary : goal.returns-in-Unary
returns-in-Unary c = unary_acts c.exp.inside _ c.exp.view_is _ _ c.in-Unary.is c.negation.ensures

pub returns-in-Field : goal.returns-in-Field
returns-in-Field c = field_acts c.exp.inside _ c.exp.view_is _ _ c.in-Field.is plain_project

pub returns-in-Update : goal.returns-in-Update
returns-in-Update c = update_acts c.exp.inside _ c.exp.view_is _ _ _ c.in-Update.is plain_update

pub returns-in-Replace : goal.returns-in-Replace
returns-in-Replace c = replace_acts c.exp.inside _ c.exp.view_is _ _ _ c.in-Replace.is plain_replace

pub returns-in-Range : goal.returns-in-Range
returns-in-Range c = range_acts c.exp.inside _ c.exp.view_is _ _ _ _ c.in-Range.is (plain_stepped c.in-Range.next c.is_some.ensures)
