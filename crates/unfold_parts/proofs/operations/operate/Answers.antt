use Rattle.std.proofs.Common.{refl}
use Rattle.unfold_parts.proofs.Operated.{plainly, act_integer, act_truth, act_tuple, act_record, act_binary, act_negate, act_complement, act_project, act_replace, act_ascribe, act_coerce, act_declared, act_assert, act_array, act_index, act_update, act_range}
use Rattle.unfold_parts.proofs.operations.operate.Goals as goal

pub returns-in-Int : goal.returns-in-Int
returns-in-Int c = plainly _ _ _ _ _ _ _ _ _ _ _ _ c.literal_type_at-ty.ensures (act_integer _ _ _ _ _ _ _ _ _ _ c.in-Int.is c.literal_type-ty.ensures c.constant.ensures)

pub returns-in-Truth : goal.returns-in-Truth
returns-in-Truth c = plainly _ _ _ _ _ _ _ _ _ _ _ _ c.literal_type_at-ty.ensures (act_truth _ _ _ _ _ _ _ _ c.in-Truth.is c.constant-in-Truth.ensures)

pub returns-in-Tuple : goal.returns-in-Tuple
returns-in-Tuple c = plainly _ _ _ _ _ _ _ _ _ _ _ _ c.literal_type_at-ty.ensures (act_tuple _ _ _ _ _ _ _ c.in-Tuple.is refl)

pub returns-in-Record : goal.returns-in-Record
returns-in-Record c = plainly _ _ _ _ _ _ _ _ _ _ _ _ c.literal_type_at-ty.ensures (act_record _ _ _ _ _ _ _ _ c.in-Record.is c.record_of.ensures)

pub returns-in-Binary : goal.returns-in-Binary
returns-in-Binary c = plainly _ _ _ _ _ _ _ _ _ _ _ _ c.literal_type_at-ty.ensures (act_binary _ _ _ _ _ _ _ _ _ _ c.in-Binary.is (c.operate_binary.ensures _))

pub returns-in-Negate : goal.returns-in-Negate
returns-in-Negate c = plainly _ _ _ _ _ _ _ _ _ _ _ _ c.literal_type_at-ty.ensures (act_negate _ _ _ _ _ _ _ _ _ c.in-Negate.is c.unary.ensures)

pub returns-in-Complement : goal.returns-in-Complement
returns-in-Complement c = plainly _ _ _ _ _ _ _ _ _ _ _ _ c.literal_type_at-ty.ensures (act_complement _ _ _ _ _ _ _ _ _ c.in-Complement.is c.unary-in-Complement.ensures)

pub returns-in-Project : goal.returns-in-Project
returns-in-Project c = plainly _ _ _ _ _ _ _ _ _ _ _ _ c.literal_type_at-ty.ensures (act_project _ _ _ _ _ _ _ _ _ _ c.in-Project.is c.project.ensures)

pub returns-in-Replace : goal.returns-in-Replace
returns-in-Replace c = plainly _ _ _ _ _ _ _ _ _ _ _ _ c.literal_type_at-ty.ensures (act_replace _ _ _ _ _ _ _ _ _ _ c.in-Replace.is c.replace.ensures)

pub returns-in-Ascribe : goal.returns-in-Ascribe
returns-in-Ascribe c = plainly _ _ _ _ _ _ _ _ _ _ _ _ c.literal_type_at-ty.ensures (act_ascribe _ _ _ _ _ _ _ _ c.in-Ascribe.is c.same.ensures)

pub returns-in-Coerce : goal.returns-in-Coerce
returns-in-Coerce c = act_coerce _ _ _ _ _ _ _ _ _ _ _ _ c.in-Coerce.is c.coerced.ensures

pub returns-in-Declared : goal.returns-in-Declared
returns-in-Declared c = plainly _ _ _ _ _ _ _ _ _ _ _ _ c.literal_type_at-ty.ensures (act_declared _ _ _ _ _ _ _ _ c.in-Declared.is c.same-in-Declared.ensures)

pub returns-in-Assert : goal.returns-in-Assert
returns-in-Assert c = plainly _ _ _ _ _ _ _ _ _ _ _ _ c.literal_type_at-ty.ensures (act_assert _ _ _ _ _ _ _ _ _ c.in-Assert.is c.assert_first.ensures)

pub returns-in-Array : goal.returns-in-Array
returns-in-Array c = act_array _ _ _ _ _ _ _ _ _ _ _ c.in-Array.is c.literal.ensures

pub returns-in-Index : goal.returns-in-Index
returns-in-Index c = plainly _ _ _ _ _ _ _ _ _ _ _ _ c.literal_type_at-ty.ensures (act_index _ _ _ _ _ _ _ _ _ _ c.in-Index.is c.make.ensures)

pub returns-in-Update : goal.returns-in-Update
returns-in-Update c = plainly _ _ _ _ _ _ _ _ _ _ _ _ c.literal_type_at-ty.ensures (act_update _ _ _ _ _ _ _ _ _ c.in-Update.is c.make-in-Update.ensures)

pub returns-in-Range : goal.returns-in-Range
returns-in-Range c = plainly _ _ _ _ _ _ _ _ _ _ _ _ c.literal_type_at-ty.ensures (act_range _ _ _ _ _ _ _ _ _ _ _ c.in-Range.is c.make-in-Range.ensures)
