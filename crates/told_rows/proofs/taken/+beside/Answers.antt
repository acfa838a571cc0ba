use Rattle.std.proofs.Common.{refl, sym, ◌∙◌, arith}
use Rattle.size_arena.specs.Trees.{dim_of}
use Rattle.told_rows.proofs.TakenForms.{level_is, level_in, parts_in, parts_here, parts_on, first_over, second_over}
use Rattle.told_rows.proofs.taken.+beside.Goals as goal

pub beside-returns-then-same_dim : goal.beside-returns-then-same_dim
beside-returns-then-same_dim t c = level_is (dim_of c.args.wanted) c.args.tree.now c.args.own.now _ _ _ _ _ _ c.in-Level.is c.in-Level-own.is c.same_dim.result c.same_dim.ensures c.if-same_dim.true

pub beside-returns-else-same_dim : goal.beside-returns-else-same_dim
beside-returns-else-same_dim t c = level_in (dim_of c.args.wanted) c.args.tree.now c.args.own.now _ _ _ _ _ _ c.in-Level.is c.in-Level-own.is c.same_dim.result c.same_dim.ensures c.beside.result c.if-same_dim.false c.beside.ensures

pub beside-returns-in-Built-own-2 : goal.beside-returns-in-Built-own-2
beside-returns-in-Built-own-2 t c = parts_in (dim_of c.args.wanted) c.args.tree.now c.args.own.now _ _ _ _ _ _ c.all_beside.result c.in-Built.is c.in-Built-own-2.is c.all_beside.ensures

pub all_beside-loop-i-preserved : goal.all_beside-loop-i-preserved
all_beside-loop-i-preserved t c = parts_on (dim_of c.args.wanted) c.args.parts.now c.args.own.now c.loop-i.i c.loop-i.invariant c.index-parts-i.result c.index-own-i.result c.loop-i-test.true (omega (arith, c.if-i-own.false)) c.index-parts-i.is c.index-own-i.is _ c.beside.ensures c.in_default.is

pub all_beside-returns-in-Some : goal.all_beside-returns-in-Some
all_beside-returns-in-Some t c = parts_here (dim_of c.args.wanted) c.args.parts.now c.args.own.now c.loop-i.i c.loop-i.invariant c.index-parts-i.result c.index-own-i.result c.loop-i-test.true (omega (arith, c.if-i-own.false)) c.index-parts-i.is c.index-own-i.is _ c.beside.ensures c.in-Some.found c.in-Some.is

pub all_beside-returns-then-i-own : goal.all_beside-returns-then-i-own
all_beside-returns-then-i-own t c = second_over (dim_of c.args.wanted) c.args.parts.now c.args.own.now c.loop-i.i c.loop-i.invariant (omega (arith, c.if-i-own.true))

pub all_beside-returns : goal.all_beside-returns
all_beside-returns t c = first_over (dim_of c.args.wanted) c.args.parts.now c.args.own.now c.loop-i.i c.loop-i.invariant c.loop-i-test.false
