-- The parts of each form.
use Rattle.std.proofs.Common.{refl}
use Rattle.elab_nodes.specs.Built.{built0}
use Rattle.elab_nodes.proofs.Joined.{ended}
use Rattle.elab_exps.proofs.OperationLaws.{int_parted, bool_parted, unit_parted, tuple_parted, array_parted, unary_parted, field_parted, update_parted, replace_parted, range_parted}
use Rattle.elab_exps.proofs.operations.parts_of.Goals as goal

pub returns-in-Int : goal.returns-in-Int
returns-in-Int c = int_parted c.exp.inside _ c.exp.view_is _ _ c.in-Int.is (built0 refl)

pub returns-in-Bool : goal.returns-in-Bool
returns-in-Bool c = bool_parted c.exp.inside _ c.exp.view_is _ c.in-Bool.is (built0 refl)

pub returns-in-Unit : goal.returns-in-Unit
returns-in-Unit c = unit_parted c.exp.inside _ c.exp.view_is c.in-Unit.is (built0 refl)

pub returns-in-Tuple : goal.returns-in-Tuple
returns-in-Tuple c = tuple_parted c.exp.inside _ c.exp.view_is _ c.in-Tuple.is (built0 refl)

pub returns-in-Array : goal.returns-in-Array
returns-in-Array c = array_parted c.exp.inside _ c.exp.view_is _ c.in-Array.is (built0 refl)

pub returns-in-Unary : goal.returns-in-Unary
returns-in-Unary c = unary_parted c.exp.inside _ c.exp.view_is _ _ c.in-Unary.is c.one_exp.ensures

pub returns-in-Field : goal.returns-in-Field
returns-in-Field c = field_parted c.exp.inside _ c.exp.view_is _ _ c.in-Field.is c.one_exp-in-Field.ensures

pub returns-in-Update : goal.returns-in-Update
returns-in-Update c = update_parted c.exp.inside _ c.exp.view_is _ _ _ c.in-Update.is (ended _ c.update_exps.ensures.exps c.update_exps.ensures.memory)

pub returns-in-Replace : goal.returns-in-Replace
returns-in-Replace c = replace_parted c.exp.inside _ c.exp.view_is _ _ _ c.in-Replace.is c.two_exps.ensures

pub returns-in-Range : goal.returns-in-Range
returns-in-Range c = range_parted c.exp.inside _ c.exp.view_is _ _ _ _ c.in-Range.is c.range_exps.ensures
