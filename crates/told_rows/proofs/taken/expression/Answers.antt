use Rattle.std.proofs.Common.{refl, sym, ◌∙◌}
use Rattle.fut_blocks.proofs.Layers.{extent_of-Exactly, extent_of-Nowhere}
use Rattle.told_rows.proofs.TakenForms.{dim_other, dim_const, dim_told, dim_nowhere, dim_on, next_lighter}
use Rattle.told_rows.proofs.taken.expression.Goals as goal

pub loop-sought-init : goal.loop-sought-init
loop-sought-init c = λ Z w. refl

pub returns-in-Const : goal.returns-in-Const
returns-in-Const c = λ Z w. extent_of-Exactly _ ∙ dim_const Z c.loop-sought.sought.entered.now c.loop-sought.sought.size _ c.in-At.is _ c.in-Const.is ∙ sym (c.loop-sought.invariant Z w)

pub returns-then-branch : goal.returns-then-branch
returns-then-branch c = λ Z w. dim_told Z c.loop-sought.sought.entered.now c.loop-sought.sought.size _ c.in-At.is c.in_default-size.not-Const c.in_ok-is_told.field-0 (c.in_ok-is_told.ensures Z w) c.size_found.result _ c.if-branch.true (c.size_found.ensures Z w) (sym (c.loop-sought.invariant Z w))

pub returns-in_default-2 : goal.returns-in_default-2
returns-in_default-2 c = λ Z w. extent_of-Nowhere ∙ dim_nowhere Z c.loop-sought.sought.entered.now c.loop-sought.sought.size _ c.in-At.is c.in_default-size.not-Const c.in_ok-is_told.field-0 (c.in_ok-is_told.ensures Z w) c.if-branch.false c.in_ok-next.field-0 (c.in_ok-next.ensures.steps Z w) c.in_default-2.is ∙ sym (c.loop-sought.invariant Z w)

pub loop-sought-smaller : goal.loop-sought-smaller
loop-sought-smaller c = next_lighter _ c.in_ok-next.field-0 c.in-Some.next c.in_ok-next.ensures.lighter c.in-Some.is

pub loop-sought-preserved : goal.loop-sought-preserved
loop-sought-preserved c = λ Z w. c.loop-sought.invariant Z w ∙ dim_on Z c.loop-sought.sought.entered.now c.loop-sought.sought.size _ c.in-At.is c.in_default-size.not-Const c.in_ok-is_told.field-0 (c.in_ok-is_told.ensures Z w) c.if-branch.false c.in_ok-next.field-0 (c.in_ok-next.ensures.steps Z w) c.in-Some.next c.in-Some.is

pub returns : goal.returns
returns c = λ Z w. extent_of-Nowhere ∙ dim_other Z c.loop-sought.sought.entered.now c.loop-sought.sought.size c.in_default.not-At ∙ sym (c.loop-sought.invariant Z w)
