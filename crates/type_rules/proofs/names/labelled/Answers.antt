use Rattle.std.proofs.Common.{arith}
use Rattle.fut_flat.specs.Erased.{texts}
use Rattle.type_rules.proofs.Growing.{on_same, on_then, numbered_none, numbered_step, numbered_all}
use Rattle.type_rules.proofs.names.labelled.Goals as goal

pub loop-at-init : goal.loop-at-init
loop-at-init c = record { is = c.requires; on = on_same c.args.labels.now c.args.table.now; so_far = numbered_none c.args.labels.now (texts c.args.names.now) _ c.new-row.ensures; within = omega arith }

pub loop-at-preserved : goal.loop-at-preserved
loop-at-preserved c = record {
  is = c.in-Ok.ensures.is;
  on = on_then c.args.labels.now c.loop-at.labels c.label.new.labels c.args.table.now c.loop-at.table c.label.new.table c.loop-at.invariant.on c.in-Ok.ensures.on;
  so_far = numbered_step c.loop-at.labels c.label.new.labels c.loop-at.table c.label.new.table c.args.names.now c.loop-at.at _ c.loop-at.row c.push.new.self c.in-Ok.number c.in-Ok.ensures.on c.loop-at-test.true c.loop-at.invariant.so_far c.in-Ok.ensures.number c.in-Ok-push.ensures.ok;
  within = omega (arith, c.loop-at-test.true);
}

pub returns-clause-ok : goal.returns-clause-ok
returns-clause-ok c = numbered_all c.loop-at.labels c.args.names.now c.loop-at.at c.loop-at.row c.loop-at-test.false c.loop-at.invariant.so_far
