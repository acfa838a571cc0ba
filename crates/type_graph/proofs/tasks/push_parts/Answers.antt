use Rattle.std.proofs.Common.{◌<◌, ◌++◌, length, ap, subst, sym, ◌∙◌}
use Rattle.type_graph.proofs.Chains.{pushed, all_pushed, chain_step, chain_none}
use Rattle.type_graph.proofs.tasks.push_parts.Goals as goal

pub loop-rest-preserved : goal.loop-rest-preserved
loop-rest-preserved c = record {
  within = subst (λ y. y.next < length c.args.entries.now) (sym c.entry_of-entry.ensures) (c.requires.closed c.loop-rest.at c.loop-rest.invariant.within);
  so_far = λ T t. pushed c.loop-rest.tasks _ _ _ _ c.in_ok-push.ensures.ok (ap (λ l. c.loop-rest.tasks ++ l) (sym (chain_step c.args.entries.now T t c.loop-rest.at c.entry_of-entry.result c.loop-rest.invariant.within c.entry_of-entry.ensures c.args.of c.loop-rest.rest c.loop-rest-test.true)) ∙ c.loop-rest.invariant.so_far T t);
}

pub returns : goal.returns
returns c T t = all_pushed c.loop-rest.tasks _ _ (chain_none T c.args.of c.loop-rest.at c.loop-rest.rest c.loop-rest-test.false) (c.loop-rest.invariant.so_far T t)
