use Rattle.std.proofs.Common.{◌∙◌, sym, arith}
use Rattle.core_ir.specs.Plain.{bundle_form}
use Rattle.core_steps.proofs.Indices.{index_ok, index_none, index_far}
use Rattle.core_steps.proofs.views.index_at.Goals as goal

pub returns-else-i-count : goal.returns-else-i-count
returns-else-i-count c =
    index_ok c.args.table.now c.args.arrays.now.arrays (bundle_form c.args.rows) c.args.number c.args.place c.in-Int.ty (sym c.elem_of.ensures ∙ c.in-Int.is) c.in_ok-word.word c.in_ok-word.ensures.told _ (omega (arith, c.if-rows-eq0.false)) c.in_ok-count.count c.in_ok-count.ensures.told
    c.asked.result c.in-Some.i c.asked.ensures c.in-Some.is (omega (arith, c.if-i-count.false))

pub returns-then-i-count : goal.returns-then-i-count
returns-then-i-count c =
    index_far c.args.table.now c.args.arrays.now.arrays (bundle_form c.args.rows) c.args.number c.args.place c.in-Int.ty (sym c.elem_of.ensures ∙ c.in-Int.is) c.in_ok-word.word c.in_ok-word.ensures.told _ (omega (arith, c.if-rows-eq0.false)) c.in_ok-count.count c.in_ok-count.ensures.told
    c.asked.result c.in-Some.i c.out_of_bounds.result c.asked.ensures c.in-Some.is (omega (arith, c.if-i-count.true)) c.out_of_bounds.ensures

pub returns-in-None : goal.returns-in-None
returns-in-None c =
    index_none c.args.table.now c.args.arrays.now.arrays (bundle_form c.args.rows) c.args.number c.args.place c.in-Int.ty (sym c.elem_of.ensures ∙ c.in-Int.is) c.in_ok-word.word c.in_ok-word.ensures.told _ (omega (arith, c.if-rows-eq0.false)) c.in_ok-count.count c.in_ok-count.ensures.told
    c.asked.result c.out_of_bounds-in-None.result c.asked.ensures c.in-None.is c.out_of_bounds-in-None.ensures
