use Rattle.std.proofs.Common.{length, subst, refl}
use Rattle.type_graph.proofs.Loop.{SoFar, told_self, self_tables, so_far_more, so_far_less, last_refused, tasks_within, kept_more, grows_then, so_far_all}
use Rattle.type_graph.proofs.Ends.{tells, told_grows}
use Rattle.type_graph.proofs.solve.Goals as goal

pub loop-task-smaller : goal.loop-task-smaller
loop-task-smaller c = so_far_less c.loop-task.tasks c.pop.new.self c.in-Some.task c.in-Some.ensures _ _ _ c.loop-task.nodes _ _ (c.in-Ok.ensures.ok (self_tables c.args.table.now c.step.new.entries) (told_self c.args.table.now c.step.new.entries))

pub loop-task-preserved : goal.loop-task-preserved
loop-task-preserved c =
    let d = c.in-Ok.ensures.ok (self_tables c.args.table.now c.step.new.entries) (told_self c.args.table.now c.step.new.entries) in record {
      kept = kept_more c.loop-task.tasks c.pop.new.self c.in-Some.task c.in-Some.ensures _ _ _ c.loop-task.nodes _ _ d c.args.nodes.now c.args.entries.now c.loop-task.entries c.step.new.entries c.loop-task.invariant.kept c.step.ensures.entries refl;
      within = tasks_within c.loop-task.tasks c.pop.new.self c.in-Some.task c.in-Some.ensures _ _ _ c.loop-task.nodes _ _ d c.loop-task.invariant.within;
      so_far = λ T told. so_far_more c.loop-task.tasks c.pop.new.self c.in-Some.task c.in-Some.ensures _ _ _ c.loop-task.nodes _ _ (c.in-Ok.ensures.ok T told) _ _ (c.loop-task.invariant.so_far T (told_grows _ _ c.loop-task.entries c.step.new.entries T c.step.ensures.entries told));
    }

pub returns-in-Err-clause-err : goal.returns-in-Err-clause-err
returns-in-Err-clause-err c = tells c.in-Err.error (λ r T told. last_refused c.loop-task.tasks c.pop.new.self c.in-Some.task c.in-Some.ensures T _ _ c.loop-task.nodes (c.loop-task.invariant.so_far T (told_grows _ _ c.loop-task.entries c.step.new.entries T c.step.ensures.entries told)) (r T told)) c.in-Err.ensures.err

pub returns-clause-solved : goal.returns-clause-solved
returns-clause-solved c T told = so_far_all T _ _ _ (subst (SoFar T _ _ c.loop-task.nodes) c.in_default.ensures.0 (c.loop-task.invariant.so_far T told))

pub returns-in-Err-clause-grows : goal.returns-in-Err-clause-grows
returns-in-Err-clause-grows c = grows_then c.args.table.now _ (length c.loop-task.nodes) c.args.entries.now c.loop-task.entries c.step.new.entries c.loop-task.invariant.kept.long c.loop-task.invariant.kept.grows c.step.ensures.entries
