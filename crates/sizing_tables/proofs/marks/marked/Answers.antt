use Rattle.std.proofs.Common.{false, get_or, ap, ◌∙◌, arith}
use Rattle.sizing_tables.proofs.Marking.{marked_more, none_among, none_marked}
use Rattle.sizing_tables.proofs.marks.marked.Goals as goal

pub loop-number-init : goal.loop-number-init
loop-number-init c = λ k. ap (λ l. get_or l k false) (c.in_ok-marks.ensures.items_if_clones_equal (λ y e. e)) ∙ none_marked c.args.count k ∙ none_among k

pub loop-number-preserved : goal.loop-number-preserved
loop-number-preserved c = marked_more c.loop-number.marks.items c.args.numbers.now c.loop-number.number-index c.loop-number-test.true (let h = c.if-at-len.false in let l = c.len.ensures in omega (arith, h, l)) c.loop-number.invariant
