use Rattle.unfold_measure.proofs.Parts.{known_as_wanted, result_tuple, result_record, result_projected, result_ascribed, result_coerced, result_declared, result_other, result_replaced}
use Rattle.unfold_measure.proofs.operations.result_of.Goals as goal

pub returns-in-Tuple : goal.returns-in-Tuple
returns-in-Tuple c = known_as_wanted (result_tuple _ _ c.in-Tuple.is) c.tuple_of.ensures

pub returns-in-Record : goal.returns-in-Record
returns-in-Record c = known_as_wanted (result_record _ _ _ c.in-Record.is) c.record_of.ensures

pub returns-in-Project : goal.returns-in-Project
returns-in-Project c = known_as_wanted (result_projected _ _ _ c.in-Project.is) c.projected.ensures

pub returns-in-Replace : goal.returns-in-Replace
returns-in-Replace c = known_as_wanted (result_replaced _ _ _ c.in-Replace.is) c.with_replaced.ensures

pub returns-in-Ascribe : goal.returns-in-Ascribe
returns-in-Ascribe c = known_as_wanted (result_ascribed _ _ _ c.in-Ascribe.is) c.same_of.ensures

pub returns-in-Coerce : goal.returns-in-Coerce
returns-in-Coerce c = known_as_wanted (result_coerced _ _ _ c.in-Coerce.is) c.same_of-in-Coerce.ensures

pub returns-in-Declared : goal.returns-in-Declared
returns-in-Declared c = known_as_wanted (result_declared _ _ _ c.in-Declared.is) c.same_of-in-Declared.ensures

pub returns-in_default : goal.returns-in_default
returns-in_default c = known_as_wanted (result_other _ _ c.in_default.not-Tuple c.in_default.not-Record c.in_default.not-Project c.in_default.not-Ascribe c.in_default.not-Coerce c.in_default.not-Declared c.in_default.not-Replace) c.data_of.ensures
