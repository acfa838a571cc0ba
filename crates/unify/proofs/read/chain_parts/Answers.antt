use Rattle.std.proofs.Common.{◌<◌, length, subst, sym}
use Rattle.type_graph.specs.declared.Entry.{Entry}
use Rattle.unify.proofs.Reading.{chain_step, chain_end}
use Rattle.unify.proofs.read.chain_parts.Goals as goal

pub loop-rest-preserved : goal.loop-rest-preserved
loop-rest-preserved c = record {
  so_far = chain_step c.loop-rest.parts c.push.new.self _ c.args.entries.now c.loop-rest.at c.loop-rest.rest c.entry_of-entry.result c.loop-rest-test.true c.entry_of-entry.ensures c.in-Ok.ensures.ok c.loop-rest.invariant.so_far;
  within = subst (λ (y : Entry). y.next < length c.args.entries.now) (sym c.entry_of-entry.ensures) (c.requires.closed c.loop-rest.at c.loop-rest.invariant.within);
}

pub returns-clause-ok : goal.returns-clause-ok
returns-clause-ok c = chain_end c.loop-rest.parts _ c.args.entries.now c.loop-rest.at c.loop-rest.rest c.loop-rest-test.false c.loop-rest.invariant.so_far
