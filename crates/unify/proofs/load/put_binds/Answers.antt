use Rattle.std.proofs.Common.{◌≡◌, ◌<◌, ◌≤◌, ℕ, length, subst, arith}
use Rattle.fut_types.specs.Types.{applied}
use Rattle.unify.specs.declared.Ty.{Ty as Tree}
use Rattle.unify.specs.Substitutions.{type_of, Within, Bound}
use Rattle.unify.specs.Putting.{Puts}
use Rattle.unify.proofs.Trees.{within_more, item_at, next_item, take_whole}
use Rattle.unify.proofs.Outcomes.{tells_both}
use Rattle.unify.proofs.Putting.{extends_then}
use Rattle.unify.proofs.Loading.{all_item, list_next, list_bars, bind_local}
use Rattle.unify.proofs.load.put_binds.Goals as goal

pub put_type-requires-clause-within : goal.put_type-requires-clause-within
put_type-requires-clause-within c = within_more c.args.table.now (length c.args.nodes.now) (length c.loop-bind.nodes) c.loop-bind.invariant.extends.longer (type_of c.bind-item.result.1) (all_item (λ (p : ℕ × Tree). (p.0 < length c.args.nodes.now) × Within c.args.table.now (length c.args.nodes.now) (type_of p.1)) c.as_slice-bind-items.result.now c.args.binds.now c.loop-bind.bind-index c.bind-item.result c.as_slice-bind-items.ensures c.loop-bind-test.true c.bind-item.is c.requires.within).1

pub put_type-requires-clause-number : goal.put_type-requires-clause-number
put_type-requires-clause-number c = let le : length c.args.nodes.now ≤ length c.loop-bind.nodes = c.loop-bind.invariant.extends.longer in let lt : c.bind-item.result.0 < length c.args.nodes.now = (all_item (λ (p : ℕ × Tree). (p.0 < length c.args.nodes.now) × Within c.args.table.now (length c.args.nodes.now) (type_of p.1)) c.as_slice-bind-items.result.now c.args.binds.now c.loop-bind.bind-index c.bind-item.result c.as_slice-bind-items.ensures c.loop-bind-test.true c.bind-item.is c.requires.within).0 in omega arith

pub returns-in-Err-clause-err : goal.returns-in-Err-clause-err
returns-in-Err-clause-err c = tells_both c.in-Err.error (λ before h T told. list_bars T c.args.nodes.now c.loop-bind.nodes (λ p K a. a p.0 ≡ applied a (type_of p.1)) c.args.binds.now c.loop-bind.bind-index c.bind-item.result
    (bind_local c.args.table.now (length c.args.nodes.now) c.bind-item.result (all_item (λ (p : ℕ × Tree). (p.0 < length c.args.nodes.now) × Within c.args.table.now (length c.args.nodes.now) (type_of p.1)) c.as_slice-bind-items.result.now c.args.binds.now c.loop-bind.bind-index c.bind-item.result c.as_slice-bind-items.ensures c.loop-bind-test.true c.bind-item.is c.requires.within).0 (all_item (λ (p : ℕ × Tree). (p.0 < length c.args.nodes.now) × Within c.args.table.now (length c.args.nodes.now) (type_of p.1)) c.as_slice-bind-items.result.now c.args.binds.now c.loop-bind.bind-index c.bind-item.result c.as_slice-bind-items.ensures c.loop-bind-test.true c.bind-item.is c.requires.within).1)
    (c.loop-bind.invariant.so_far T (before T told)) (item_at c.as_slice-bind-items.result.now c.args.binds.now c.loop-bind.bind-index c.bind-item.result c.as_slice-bind-items.ensures c.bind-item.is) (subst (λ l. c.loop-bind.bind-index < length l) c.as_slice-bind-items.ensures c.loop-bind-test.true) (h T told)) c.in-Err.ensures.before c.in-Err.ensures.err

pub loop-bind-preserved : goal.loop-bind-preserved
loop-bind-preserved c = record {
  extends = extends_then c.args.table.now c.args.nodes.now c.loop-bind.nodes c.put_type.new.nodes c.args.entries.now c.loop-bind.entries c.put_type.new.entries c.loop-bind.invariant.extends c.in-Ok.ensures.extends;
  so_far = λ T told. list_next T c.args.nodes.now c.loop-bind.nodes (λ p K a. a p.0 ≡ applied a (type_of p.1)) c.args.binds.now c.loop-bind.bind-index c.bind-item.result
      (bind_local c.args.table.now (length c.args.nodes.now) c.bind-item.result (all_item (λ (p : ℕ × Tree). (p.0 < length c.args.nodes.now) × Within c.args.table.now (length c.args.nodes.now) (type_of p.1)) c.as_slice-bind-items.result.now c.args.binds.now c.loop-bind.bind-index c.bind-item.result c.as_slice-bind-items.ensures c.loop-bind-test.true c.bind-item.is c.requires.within).0 (all_item (λ (p : ℕ × Tree). (p.0 < length c.args.nodes.now) × Within c.args.table.now (length c.args.nodes.now) (type_of p.1)) c.as_slice-bind-items.result.now c.args.binds.now c.loop-bind.bind-index c.bind-item.result c.as_slice-bind-items.ensures c.loop-bind-test.true c.bind-item.is c.requires.within).1)
      (c.loop-bind.invariant.so_far T (c.in-Ok.ensures.extends.told T told)) c.put_type.new.nodes (next_item c.as_slice-bind-items.result.now c.args.binds.now c.loop-bind.bind-index c.bind-item.result c.as_slice-bind-items.ensures c.loop-bind-test.true c.bind-item.is) (c.in-Ok.ensures.ok T told);
}

pub returns-clause-ok : goal.returns-clause-ok
returns-clause-ok c T told = subst (λ xs. Puts T c.args.nodes.now (λ K a. Bound a xs) c.loop-bind.nodes)
    (take_whole c.args.binds.now c.loop-bind.bind-index (subst (λ l. length l ≤ c.loop-bind.bind-index) c.as_slice-bind-items.ensures c.loop-bind-test.false)) (c.loop-bind.invariant.so_far T told)
