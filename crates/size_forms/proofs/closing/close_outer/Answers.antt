use Rattle.std.proofs.Common.{◌-◌, refl, arith}
use Rattle.std.proofs.lemmas.Result.{err_from_is_err_and}
use Rattle.size_arena.specs.Trees.{size_of}
use Rattle.size_forms.proofs.CloseForms.{none_closed, unfinished, escapes, one_closed, all_closed_so}
use Rattle.size_forms.proofs.closing.close_outer.Goals as goal

pub loop-left-init : goal.loop-left-init
loop-left-init c = none_closed c.args.endings.now c.args.tables.now _ c.args.size refl

pub returns-in_err-whole : goal.returns-in_err-whole
returns-in_err-whole c =
    let p = err_from_is_err_and c.from_residual.result c.from_residual.ensures.1 in
    let l = c.loop-left in
    rw (p.1, p.2) (unfinished c.args.endings.now (size_of c.args.size.now) c.args.tables.now l.left (l.left - 1) l.so_far.size l.tables _ l.invariant (omega (arith, c.loop-left-test.true)) _ _ c.in_err-whole.ensures)

pub returns-in_err-size : goal.returns-in_err-size
returns-in_err-size c =
    let p = err_from_is_err_and c.from_residual-in_err-size.result c.from_residual-in_err-size.ensures.1 in
    let l = c.loop-left in
    rw (p.1, p.2) (escapes c.args.endings.now (size_of c.args.size.now) c.args.tables.now l.left (l.left - 1) l.so_far.size l.tables _ l.invariant (omega (arith, c.loop-left-test.true)) _ c.in_ok-whole.whole c.in_ok-whole.ensures _ c.in_err-size.ensures)

pub loop-left-preserved : goal.loop-left-preserved
loop-left-preserved c =
    let l = c.loop-left in
    one_closed c.args.endings.now (size_of c.args.size.now) c.args.tables.now l.left (l.left - 1) l.so_far.size l.tables _ l.invariant (omega (arith, c.loop-left-test.true)) _ c.in_ok-whole.whole c.in_ok-whole.ensures c.in_ok-size.size c.in_ok-size.ensures

pub returns : goal.returns
returns c = all_closed_so c.args.endings.now (size_of c.args.size.now) c.args.tables.now c.loop-left.left c.loop-left.so_far.size c.loop-left.tables c.loop-left.invariant (omega (arith, c.loop-left-test.false))
