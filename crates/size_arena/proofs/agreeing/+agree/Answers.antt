use Rattle.size_arena.proofs.AgreeForms.{level_agrees, fun_agrees, all_more, all_found}
use Rattle.size_arena.proofs.agreeing.+agree.Goals as goal

pub agree-returns-in_ok-compare-in-Level-found : goal.agree-returns-in_ok-compare-in-Level-found
agree-returns-in_ok-compare-in-Level-found t c =
    level_agrees c.args.at c.args.wanted.now c.args.found.now c.in-Level.height c.in-Level-found.height c.compare.result c.agree.result c.in_ok-compare-in-Level-found.field-0 c.in_ok-compare-in-Level-found.was
    c.in-Level.size c.in-Level-found.other c.in-Level.row c.in-Level-found.rest c.in-Level.is c.in-Level-found.is c.compare.ensures c.agree.ensures

pub agree-returns-in_ok-agree-in-Fun-found-3 : goal.agree-returns-in_ok-agree-in-Fun-found-3
agree-returns-in_ok-agree-in-Fun-found-3 t c =
    fun_agrees c.args.at c.args.wanted.now c.args.found.now c.in-Fun.height c.in-Fun-found-3.height c.agree-in-Fun-found-3.result c.agree-in-Fun-found-3-2.result c.in_ok-agree-in-Fun-found-3.field-0 c.in_ok-agree-in-Fun-found-3.was
    c.in-Fun.chosen c.in-Fun-found-3.chosen c.in-Fun.from c.in-Fun.to c.in-Fun-found-3.taken c.in-Fun-found-3.given c.in-Fun.is c.in-Fun-found-3.is c.agree-in-Fun-found-3.ensures c.agree-in-Fun-found-3-2.ensures

pub all_agree-returns-then-i-found : goal.all_agree-returns-then-i-found
all_agree-returns-then-i-found t c = all_found c.args.at c.args.wanted.now c.args.found.now c.loop-i.i c.loop-i-test.true c.if-i-found.true c.loop-i.invariant

pub all_agree-loop-i-preserved : goal.all_agree-loop-i-preserved
all_agree-loop-i-preserved t c =
    all_more c.args.at c.args.wanted.now c.args.found.now c.loop-i.i c.index-wanted-i.result c.index-found-i.result c.agree.result c.in_ok-agree.field-0 c.loop-i-test.true c.if-i-found.false c.in_ok-agree.was
    (rw (← c.index-wanted-i.is, ← c.index-found-i.is) c.agree.ensures) c.loop-i.invariant
