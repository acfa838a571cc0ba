use Rattle.std.proofs.Common.{◌<◌, length, sym, ◌∙◌, ap, subst, arith}
use Rattle.type_graph.proofs.Ends.{on_ok, not_true}
use Rattle.type_schemes.specs.Schemes.{Copied, Entered, definition, with_memo}
use Rattle.type_schemes.proofs.Parts.{end_low, end_foreign, end_again, end_new}
use Rattle.type_schemes.proofs.enter.Goals.{then-node-depth-via-then-node-depth, then-node-depth-via-else-node-depth+then-is_foreign}
use Rattle.type_schemes.proofs.enter.Goals as goal

pub returns-then-node-depth-clause-ok : goal.returns-then-node-depth-clause-ok
returns-then-node-depth-clause-ok c = on_ok c.push_part.result (λ is entries. elim c.then-node-depth.branch as (λ b. Entered (definition c.args.nodes.now entries c.args.own.now c.args.depth) c.args.store.now c.args.memo.now c.args.first c.args.label c.args.number c.push_part.new.store c.args.memo.now) [
  | then-node-depth-via-then-node-depth w ↦ end_low (definition c.args.nodes.now entries c.args.own.now c.args.depth) c.args.store.now c.args.memo.now c.args.first c.args.label c.args.number c.find-root.result c.node_of-node.result c.requires.first
      (let q : c.find-root.result < length c.args.nodes.now = c.find-root.ensures.within in omega (arith, c.requires.memo)) c.find-root.ensures c.node_of-node.ensures (omega (arith, c.if-at-ge-MOST_PARTS.false, c.len-at.ensures)) c.push_part.new.store is w.if-node-depth.true
  | then-node-depth-via-else-node-depth+then-is_foreign w ↦ end_foreign (definition c.args.nodes.now entries c.args.own.now c.args.depth) c.args.store.now c.args.memo.now c.args.first c.args.label c.args.number c.find-root.result c.node_of-node.result c.requires.first
      (let q : c.find-root.result < length c.args.nodes.now = c.find-root.ensures.within in omega (arith, c.requires.memo)) c.find-root.ensures c.node_of-node.ensures (omega (arith, c.if-at-ge-MOST_PARTS.false, c.len-at.ensures)) c.push_part.new.store is (w.is_foreign.ensures.foreign w.if-is_foreign.true)
]) c.push_part.ensures.ok

pub returns-then-is_copied-clause-ok : goal.returns-then-is_copied-clause-ok
returns-then-is_copied-clause-ok c = on_ok c.push_part-then-is_copied.result (λ is entries. end_again (definition c.args.nodes.now entries c.args.own.now c.args.depth) c.args.store.now c.args.memo.now c.args.first c.args.label c.args.number c.find-root.result c.node_of-node.result c.requires.first
    (let q : c.find-root.result < length c.args.nodes.now = c.find-root.ensures.within in omega (arith, c.requires.memo)) c.find-root.ensures c.node_of-node.ensures (omega (arith, c.if-at-ge-MOST_PARTS.false, c.len-at.ensures)) c.push_part-then-is_copied.new.store c.memo_of-place.result is (c.is_copied.ensures.0 c.if-is_copied.true)) c.push_part-then-is_copied.ensures.ok

pub returns-clause-ok : goal.returns-clause-ok
returns-clause-ok c = on_ok c.push_part-2.result (λ is entries. end_new (definition c.args.nodes.now entries c.args.own.now c.args.depth) c.args.store.now c.args.memo.now c.args.first c.args.label c.args.number c.find-root.result c.node_of-node.result c.requires.first
    (let q : c.find-root.result < length c.args.nodes.now = c.find-root.ensures.within in omega (arith, c.requires.memo)) c.find-root.ensures c.node_of-node.ensures (omega (arith, c.if-at-ge-MOST_PARTS.false, c.len-at.ensures)) c.push_part-2.new.store c.set_memo.new.memo c.kind_of.result is (c.set_memo.ensures ∙ ap (with_memo c.args.memo.now c.find-root.result) c.len-at.ensures) c.kind_of.ensures
    (let lt : c.args.depth < c.node_of-node.result.level = c.if-node-depth.false in lt) (c.is_foreign.ensures.ours c.if-is_foreign.false)
    (λ d. not_true c.is_copied.result c.is_copied.ensures c.if-is_copied.false (subst (λ p. Copied c.args.store.now c.args.first (length c.args.store.now) p c.find-root.result) (sym c.memo_of-place.ensures) d))) c.push_part-2.ensures.ok
