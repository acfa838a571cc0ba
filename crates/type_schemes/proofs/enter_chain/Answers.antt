use Rattle.std.proofs.Common.{◌<◌, length, subst, sym, arith}
use Rattle.type_schemes.specs.Schemes.{Opened, definition, child_at, label_at}
use Rattle.type_schemes.proofs.Parts.{opened_none, opened_more, all_done, chain_none, chain_next, entry_here, entered_as}
use Rattle.type_graph.specs.Graph.{entry_at}
use Rattle.type_schemes.specs.Schemes.{chain}
use Rattle.type_schemes.proofs.enter_chain.Goals as goal

pub loop-at-init : goal.loop-at-init
loop-at-init c = record {
  so_far = opened_none (definition c.args.nodes.now c.args.entries.now c.args.own.now c.args.depth) c.args.store.now c.args.memo.now c.args.first (child_at c.args.entries.now c.args.start) (label_at c.args.entries.now c.args.start);
  here = chain_none c.args.entries.now c.args.start;
  inside = c.requires.start;
  within = omega arith;
}

pub enter-requires-clause-number : goal.enter-requires-clause-number
enter-requires-clause-number c = subst (λ y. y.child < length c.args.nodes.now) (sym c.entry_of-entry.ensures) (c.requires.placed.are.within c.loop-at.place c.loop-at.invariant.inside).0

pub loop-at-preserved : goal.loop-at-preserved
loop-at-preserved c = record {
  so_far = opened_more (definition c.args.nodes.now c.args.entries.now c.args.own.now c.args.depth) c.args.store.now c.args.memo.now c.args.first (child_at c.args.entries.now c.args.start) (label_at c.args.entries.now c.args.start) c.loop-at.at c.loop-at.store c.loop-at.memo c.enter.new.store c.enter.new.memo c.loop-at.invariant.so_far
      (entered_as (definition c.args.nodes.now c.args.entries.now c.args.own.now c.args.depth) c.loop-at.store c.loop-at.memo c.args.first c.entry_of-entry.result (entry_at c.args.entries.now (chain c.args.entries.now c.args.start c.loop-at.at)) c.enter.new.store c.enter.new.memo
      (entry_here c.args.entries.now c.args.start c.loop-at.at c.loop-at.place c.entry_of-entry.result c.loop-at.invariant.here c.entry_of-entry.ensures) (c.in-Ok.ensures.ok c.args.entries.now));
  here = chain_next c.args.entries.now c.args.start c.loop-at.at c.loop-at.place c.entry_of-entry.result c.loop-at.invariant.here c.entry_of-entry.ensures;
  inside = subst (λ y. y.next < length c.args.entries.now) (sym c.entry_of-entry.ensures) (c.requires.placed.are.within c.loop-at.place c.loop-at.invariant.inside).2;
  within = omega (arith, c.loop-at-test.true);
}

pub returns-clause-ok : goal.returns-clause-ok
returns-clause-ok c = subst (λ n. Opened (definition c.args.nodes.now c.args.entries.now c.args.own.now c.args.depth) c.args.store.now c.args.memo.now c.args.first (child_at c.args.entries.now c.args.start) (label_at c.args.entries.now c.args.start) n c.loop-at.store c.loop-at.memo) (all_done c.loop-at.at c.args.count c.loop-at.invariant.within c.loop-at-test.false) c.loop-at.invariant.so_far
