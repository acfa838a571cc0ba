use Rattle.size_arena.specs.Trees.{free_of}
use Rattle.unfold.specs.Held.{entered_of}
use Rattle.unfold.specs.Telling.{taken, told}
use Rattle.told_rows.proofs.TakenForms.{const_outer, told_outer, taken_outer, bound_outer}
use Rattle.told_rows.proofs.taken.is_outer.Goals as goal

pub returns-in-Const : goal.returns-in-Const
returns-in-Const c = λ Z w. const_outer (told Z (entered_of c.args.entered.now)) (taken Z (entered_of c.args.entered.now)) c.args.dim _ _ c.in-At.is c.in-Const.is

pub returns-then-branch : goal.returns-then-branch
returns-then-branch c = λ Z w. told_outer (told Z (entered_of c.args.entered.now)) (taken Z (entered_of c.args.entered.now)) c.args.dim _ c.in_ok-is_told-in_default.field-0 c.in-At.is c.in_default.not-Const (c.in_ok-is_told-in_default.ensures Z w) c.if-branch.true

pub returns-else-branch : goal.returns-else-branch
returns-else-branch c = λ Z w. taken_outer (told Z (entered_of c.args.entered.now)) (taken Z (entered_of c.args.entered.now)) c.args.dim _ c.in_ok-is_told-in_default.field-0 c.is_taken.result c.in-At.is c.in_default.not-Const (c.in_ok-is_told-in_default.ensures Z w) c.if-branch.false (c.is_taken.ensures Z w)

pub returns-in-Bound : goal.returns-in-Bound
returns-in-Bound c = λ Z w. bound_outer (told Z (entered_of c.args.entered.now)) (taken Z (entered_of c.args.entered.now)) c.args.dim _ _ c.in-Bound.is
