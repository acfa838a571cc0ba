use Rattle.std.proofs.Common.{◌+◌, subst, sym, arith}
use Rattle.type_schemes.specs.declared.Part.{Part}
use Rattle.type_schemes.specs.Schemes.{PartKnown}
use Rattle.type_schemes.proofs.Pushing.{uses_none, uses_more, all_done}
use Rattle.type_schemes.specs.Instances.{Pushes, Uses}
use Rattle.type_schemes.proofs.instances.use_parts.Goals as goal

pub overflow_add-first : goal.overflow_add-first
overflow_add-first c = omega (arith, c.requires.region.within, c.requires.region.short, c.loop-at-test.true)

pub loop-at-init : goal.loop-at-init
loop-at-init c = record {
  graph = c.requires.graph;
  longer = omega arith;
  tasks = c.requires.tasks;
  bound = λ table m k b. b;
  labels = λ table k l. l;
  so_far = λ T ins. uses_none T c.args.nodes.now c.args.tasks.now c.args.store.now c.args.first c.args.start c.requires.graph ins;
  within = omega arith;
}

pub loop-at-preserved : goal.loop-at-preserved
loop-at-preserved c = record {
  graph = c.in-Ok.ensures.graph;
  longer = omega (arith, c.in-Ok.ensures.longer, c.loop-at.invariant.longer);
  tasks = c.in-Ok.ensures.tasks;
  bound = λ table m k b. c.in-Ok.ensures.bound table m (subst (λ (p : Part). PartKnown table c.args.store.now p.form) (sym c.part_of-part.ensures) (k (c.args.first + c.loop-at.at) (omega arith) (omega (arith, c.loop-at-test.true)))) (c.loop-at.invariant.bound table m k b);
  labels = λ table k l. c.in-Ok.ensures.labels table (subst (λ (p : Part). PartKnown table c.args.store.now p.form) (sym c.part_of-part.ensures) (k (c.args.first + c.loop-at.at) (omega arith) (omega (arith, c.loop-at-test.true)))) (c.loop-at.invariant.labels table k l);
  so_far = λ T ins. uses_more T c.args.nodes.now c.loop-at.nodes c.use_part.new.nodes c.args.tasks.now c.loop-at.tasks c.use_part.new.tasks c.args.store.now c.args.first c.args.count c.args.start c.loop-at.at c.part_of-part.result c.requires.room c.loop-at-test.true c.requires.region c.part_of-part.ensures (c.loop-at.invariant.so_far T ins) (c.in-Ok.ensures.ok T (c.loop-at.invariant.so_far T ins).grown.inside);
  within = omega (arith, c.loop-at-test.true);
}

pub returns-clause-ok : goal.returns-clause-ok
returns-clause-ok c T ins = subst (λ n. Pushes T c.args.nodes.now c.args.tasks.now (Uses T.shapes c.args.store.now c.args.first c.args.start n) c.loop-at.nodes c.loop-at.tasks) (all_done c.loop-at.at c.args.count c.loop-at.invariant.within c.loop-at-test.false) (c.loop-at.invariant.so_far T ins)
