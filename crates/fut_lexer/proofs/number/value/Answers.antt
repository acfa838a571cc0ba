use Rattle.std.proofs.Common.{arith, ◌≡◌, false, eqb, get_or}
use Rattle.std.proofs.lemmas.List.{get_or_read}
use Rattle.std.proofs.lemmas.Bool.{ne_eqb}
use Rattle.fut_lexer.proofs.Runs.{value_step}
use Rattle.fut_lexer.proofs.number.value.Goals as goal

pub returns-in-None-clause-none : goal.returns-in-None-clause-none
returns-in-None-clause-none c =
    let r = get_or_read c.args.digits.now c.loop-c.c-index c.c-item.result c.loop-c-test.true c.c-item.is 0 in
    let e : eqb (get_or c.args.digits.now c.loop-c.c-index 0) 95 ≡ false = rw (← r) (ne_eqb _ _ c.if-c-eq95.false) in
    let s = value_step c.args.base c.loop-c.n c.loop-c.c-index c.args.digits.now c.loop-c-test.true e in
    let h = rw r at c.in-None.ensures.none in
    omega (arith, s, h, c.loop-c.invariant)
