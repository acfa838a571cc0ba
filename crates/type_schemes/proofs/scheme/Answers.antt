use Rattle.std.proofs.Common.{◌≡◌, ◌<◌, ◌≤◌, ◌-◌, subst, sym, arith, length}
use Rattle.type_schemes.specs.Schemes.{Copies, definition, memo_at}
use Rattle.type_schemes.proofs.Parts.{first_extends, first_parts, first_alike, first_some, copies_all}
use Rattle.type_schemes.proofs.scheme.Goals as goal

pub loop-at-init : goal.loop-at-init
loop-at-init c = record {
  start = sym c.len-first.ensures;
  extends = first_extends (definition c.args.nodes.now c.args.entries.now c.args.own.now c.args.depth) c.args.store.now c.grow_memo.new.memo c.len-first.result c.args.root c.enter.new.store c.enter.new.memo (sym c.len-first.ensures) (c.in-Ok-enter.ensures.ok c.args.entries.now);
  memo = (let q : length c.enter.new.memo ≡ length c.grow_memo.new.memo = (c.in-Ok-enter.ensures.ok c.args.entries.now).lasts in omega (arith, c.in-Ok.ensures.ok, c.len.ensures));
  parts = first_parts (definition c.args.nodes.now c.args.entries.now c.args.own.now c.args.depth) c.args.store.now c.grow_memo.new.memo c.len-first.result c.args.root c.enter.new.store c.enter.new.memo (sym c.len-first.ensures) (c.in-Ok-enter.ensures.ok c.args.entries.now);
  alike = first_alike (definition c.args.nodes.now c.args.entries.now c.args.own.now c.args.depth) c.args.store.now c.grow_memo.new.memo c.len-first.result c.args.root c.enter.new.store c.enter.new.memo (sym c.len-first.ensures) (c.in-Ok-enter.ensures.ok c.args.entries.now);
  from = omega arith;
  to = (let q : c.len-first.result < length c.enter.new.store = first_some (definition c.args.nodes.now c.args.entries.now c.args.own.now c.args.depth) c.args.store.now c.grow_memo.new.memo c.len-first.result c.args.root c.enter.new.store c.enter.new.memo (sym c.len-first.ensures) (c.in-Ok-enter.ensures.ok c.args.entries.now) in omega arith);
  some = first_some (definition c.args.nodes.now c.args.entries.now c.args.own.now c.args.depth) c.args.store.now c.grow_memo.new.memo c.len-first.result c.args.root c.enter.new.store c.enter.new.memo (sym c.len-first.ensures) (c.in-Ok-enter.ensures.ok c.args.entries.now);
  short = (c.in-Ok-enter.ensures.ok c.args.entries.now).short;
}

pub returns-clause-ok : goal.returns-clause-ok
returns-clause-ok c = subst (λ f. Copies (definition c.args.nodes.now c.args.entries.now c.args.own.now c.args.depth) c.loop-at.store f (c.loop-at.at - c.len-first.result) c.args.root) (sym c.loop-at.invariant.start)
    (copies_all (definition c.args.nodes.now c.args.entries.now c.args.own.now c.args.depth) c.loop-at.store c.len-first.result (c.loop-at.at - c.len-first.result) c.args.root (memo_at c.loop-at.memo) c.loop-at.at c.loop-at.invariant.parts
    (let q : length c.loop-at.store ≤ c.loop-at.at = omega (arith, c.loop-at-test.false, c.len-in-loop-at.ensures) in q) (omega (arith, c.loop-at.invariant.from)) c.loop-at.invariant.to c.loop-at.invariant.some c.loop-at.invariant.alike)
