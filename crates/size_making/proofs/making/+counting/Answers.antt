use Rattle.size_making.proofs.MakingForms.{past_var, past_array, past_function, past_plain, past_more, past_end}
use Rattle.size_making.proofs.making.+counting.Goals as goal

pub past_type-returns-in-Var : goal.past_type-returns-in-Var
past_type-returns-in-Var t c = past_var c.args.ty.now c.args.first c.in-Var.field-0 c.in-Var.is

pub past_type-returns-in-Some : goal.past_type-returns-in-Some
past_type-returns-in-Some t c = past_array c.args.ty.now c.args.first c.in-Made.height c.in-Made.head c.in-Made.parts c.in-Made.is c.in-Some.next c.past_types.result c.in-Array.is c.in-Some.ensures.1 c.past_types.ensures

pub past_type-returns-in-Fun : goal.past_type-returns-in-Fun
past_type-returns-in-Fun t c = past_function c.args.ty.now c.args.first c.in-Made.height c.in-Made.head c.in-Made.parts c.in-Made.is c.in-Fun.is

pub past_type-returns-in_default : goal.past_type-returns-in_default
past_type-returns-in_default t c = past_plain c.args.ty.now c.args.first c.in-Made.height c.in-Made.head c.in-Made.parts c.in-Made.is c.past_types-in_default.result c.in_default.not-Array c.in_default.not-Fun c.past_types-in_default.ensures

pub past_types-loop-part-preserved : goal.past_types-loop-part-preserved
past_types-loop-part-preserved t c = past_more c.args.parts.now c.loop-part.part-index _ c.loop-part.next c.part-item.result c.in_ok-next.next c.loop-part-test.true c.loop-part.invariant (rw (← c.part-item.is) c.in_ok-next.ensures)

pub past_types-returns : goal.past_types-returns
past_types-returns t c = past_end c.args.parts.now c.loop-part.part-index _ c.loop-part.next c.loop-part-test.false c.loop-part.invariant
