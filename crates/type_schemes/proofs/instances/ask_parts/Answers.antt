use Rattle.std.proofs.Common.{◌++◌, ap, ◌∙◌, arith}
use Rattle.type_schemes.specs.Instances.{asked}
use Rattle.type_schemes.proofs.Pushing.{asked_start, asked_next, all_done}
use Rattle.type_schemes.proofs.instances.ask_parts.Goals as goal

pub loop-at-init : goal.loop-at-init
loop-at-init c = record { so_far = asked_start c.args.tasks.now c.args.store.now c.args.number c.args.row c.args.child; within = omega arith }

pub loop-at-preserved : goal.loop-at-preserved
loop-at-preserved c = record {
  so_far = asked_next c.args.tasks.now c.loop-at.tasks c.push_task.new.tasks c.args.store.now c.args.number c.args.row c.args.child c.loop-at.at c.part_of-label.result c.loop-at.invariant.so_far c.part_of-label.ensures c.in-Ok.ensures.ok;
  within = omega (arith, c.loop-at-test.true);
}

pub returns-clause-ok : goal.returns-clause-ok
returns-clause-ok c = c.loop-at.invariant.so_far ∙ ap (λ n. c.args.tasks.now ++ asked c.args.store.now c.args.number c.args.row c.args.child n) (all_done c.loop-at.at c.args.count c.loop-at.invariant.within c.loop-at-test.false)
