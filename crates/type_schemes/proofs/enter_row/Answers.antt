use Rattle.std.proofs.Common.{◌≡◌, ◌≤◌, [], length, subst, arith}
use Rattle.type_schemes.specs.Schemes.{Opened, definition, next_to, no_label}
use Rattle.type_schemes.proofs.Parts.{opened_none, opened_more, all_done}
use Rattle.type_schemes.proofs.enter_row.Goals as goal

pub loop-at-init : goal.loop-at-init
loop-at-init c = record {
  so_far = λ entries. opened_none (definition c.args.nodes.now entries c.args.own.now c.args.depth) c.args.store.now c.args.memo.now c.args.first (next_to c.args.row) no_label;
  within = omega arith;
}

pub enter-requires-clause-memo : goal.enter-requires-clause-memo
enter-requires-clause-memo c = let l : length c.loop-at.memo ≡ length c.args.memo.now = (c.loop-at.invariant.so_far []).lasts in omega (arith, c.requires.memo)

pub enter-requires-clause-first : goal.enter-requires-clause-first
enter-requires-clause-first c = let l : length c.args.store.now ≤ length c.loop-at.store = (c.loop-at.invariant.so_far []).extends.0 in omega (arith, c.requires.first)

pub loop-at-preserved : goal.loop-at-preserved
loop-at-preserved c = record {
  so_far = λ entries. opened_more (definition c.args.nodes.now entries c.args.own.now c.args.depth) c.args.store.now c.args.memo.now c.args.first (next_to c.args.row) no_label c.loop-at.at c.loop-at.store c.loop-at.memo c.enter.new.store c.enter.new.memo (c.loop-at.invariant.so_far entries) (c.in-Ok.ensures.ok entries);
  within = omega (arith, c.loop-at-test.true);
}

pub returns-clause-ok : goal.returns-clause-ok
returns-clause-ok c entries = subst (λ n. Opened (definition c.args.nodes.now entries c.args.own.now c.args.depth) c.args.store.now c.args.memo.now c.args.first (next_to c.args.row) no_label n c.loop-at.store c.loop-at.memo) (all_done c.loop-at.at c.args.count c.loop-at.invariant.within c.loop-at-test.false) (c.loop-at.invariant.so_far entries)
