use Rattle.std.proofs.lemmas.List.{take_rest}
use Rattle.size_arena.specs.Trees.{size_of}
use Rattle.size_operations.proofs.IndexForms.{hole_level, open_level, built_level, fun_level, few_operands, level_gone, level_stays, no_level, nothing_asked}
use Rattle.size_operations.proofs.indices.+indexed.Goals as goal

pub returns-then-asked-eq0 : goal.returns-then-asked-eq0
returns-then-asked-eq0 t c = nothing_asked c.args.node c.args.number c.args.asked.now _ (size_of c.args.tree.now) c.if-asked-eq0.true

pub returns-then-operands-taken : goal.returns-then-operands-taken
returns-then-operands-taken t c = few_operands c.args.node c.args.number c.args.asked.now _ c.args.operands.now c.args.tree.now c.in-Level.height c.in-Level.size c.in-Level.row c.in-Level.is c.if-asked-eq0.false c.taken_by-taken.result c.taken_by-taken.ensures c.if-operands-taken.true

pub returns-in_ok-inner-in-Some : goal.returns-in_ok-inner-in-Some
returns-in_ok-inner-in-Some t c =
    rw (level_stays c.args.node c.args.number c.args.asked.now _ c.args.operands.now c.args.tree.now c.in-Level.height c.in-Level.size c.in-Level.row c.in-Level.is c.if-asked-eq0.false c.taken_by-taken.result c.taken_by-taken.ensures c.if-operands-taken.false c.level_left.result c.level_left.ensures c.in-Some.left c.in_ok-next-in-Some.next (size_of c.in_ok-inner-in-Some.inner.now) c.in-Some.is c.in_ok-next-in-Some.ensures
    (rw (← take_rest c.args.asked.now 1, ← take_rest c.args.operands.now c.taken_by-taken.result) c.in_ok-inner-in-Some.ensures)) c.level.ensures

pub returns-in-None : goal.returns-in-None
returns-in-None t c =
    rw (
      level_gone c.args.node c.args.number c.args.asked.now _ c.args.operands.now c.args.tree.now c.in-Level.height c.in-Level.size c.in-Level.row c.in-Level.is c.if-asked-eq0.false c.taken_by-taken.result c.taken_by-taken.ensures c.if-operands-taken.false c.level_left.result c.level_left.ensures c.in-None.is,
      ← take_rest c.args.asked.now 1,
      ← take_rest c.args.operands.now c.taken_by-taken.result,
    ) c.indexed-in-None.ensures

pub returns-in-Hole : goal.returns-in-Hole
returns-in-Hole t c = no_level c.args.node c.args.number c.args.asked.now _ _ (hole_level c.args.tree.now _ c.in-Hole.is)

pub returns-in-Open : goal.returns-in-Open
returns-in-Open t c = no_level c.args.node c.args.number c.args.asked.now _ _ (open_level c.args.tree.now _ _ _ c.in-Open.is)

pub returns-in-Built : goal.returns-in-Built
returns-in-Built t c = no_level c.args.node c.args.number c.args.asked.now _ _ (built_level c.args.tree.now _ _ _ c.in-Built.is)

pub returns-in-Fun : goal.returns-in-Fun
returns-in-Fun t c = no_level c.args.node c.args.number c.args.asked.now _ _ (fun_level c.args.tree.now _ _ _ _ c.in-Fun.is)
