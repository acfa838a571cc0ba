use Rattle.std.proofs.Common.{◌<◌, ◌≤◌, ℕ, length, subst}
use Rattle.fut_types.specs.Types.{applied}
use Rattle.fut_types.specs.Shapes.{HasPart}
use Rattle.unify.specs.declared.Ty.{Ty as Tree}
use Rattle.unify.specs.Substitutions.{type_of, Within, Has_parts}
use Rattle.unify.specs.Putting.{Puts}
use Rattle.unify.proofs.Trees.{within_more, item_at, next_item, take_whole}
use Rattle.unify.proofs.Outcomes.{tells_both}
use Rattle.unify.proofs.Putting.{extends_then}
use Rattle.unify.proofs.Loading.{all_item, list_next, list_bars, part_local}
use Rattle.unify.proofs.load.put_parts.Goals as goal

pub put_part-requires-clause-within : goal.put_part-requires-clause-within
put_part-requires-clause-within c = within_more c.args.table.now (length c.args.nodes.now) (length c.loop-part.nodes) c.loop-part.invariant.extends.longer (type_of c.part-item.result.1) (all_item (λ (p : ℕ × Tree). (p.0 < length c.args.table.now.positions) × Within c.args.table.now (length c.args.nodes.now) (type_of p.1)) c.as_slice-part-items.result.now c.args.parts.now c.loop-part.part-index c.part-item.result c.as_slice-part-items.ensures c.loop-part-test.true c.part-item.is c.requires.within).1

pub put_part-requires-clause-label : goal.put_part-requires-clause-label
put_part-requires-clause-label c = (all_item (λ (p : ℕ × Tree). (p.0 < length c.args.table.now.positions) × Within c.args.table.now (length c.args.nodes.now) (type_of p.1)) c.as_slice-part-items.result.now c.args.parts.now c.loop-part.part-index c.part-item.result c.as_slice-part-items.ensures c.loop-part-test.true c.part-item.is c.requires.within).0

pub returns-in-Err-clause-err : goal.returns-in-Err-clause-err
returns-in-Err-clause-err c = tells_both c.in-Err.error (λ before h T told. list_bars T c.args.nodes.now c.loop-part.nodes (λ p K a. HasPart T.shapes p.0 (a c.args.number) (applied a (type_of p.1))) c.args.parts.now c.loop-part.part-index c.part-item.result
    (part_local c.args.table.now T.shapes (length c.args.nodes.now) c.args.number c.part-item.result c.requires.number (all_item (λ (p : ℕ × Tree). (p.0 < length c.args.table.now.positions) × Within c.args.table.now (length c.args.nodes.now) (type_of p.1)) c.as_slice-part-items.result.now c.args.parts.now c.loop-part.part-index c.part-item.result c.as_slice-part-items.ensures c.loop-part-test.true c.part-item.is c.requires.within).1)
    (c.loop-part.invariant.so_far T (before T told)) (item_at c.as_slice-part-items.result.now c.args.parts.now c.loop-part.part-index c.part-item.result c.as_slice-part-items.ensures c.part-item.is) (subst (λ l. c.loop-part.part-index < length l) c.as_slice-part-items.ensures c.loop-part-test.true) (h T told)) c.in-Err.ensures.before c.in-Err.ensures.err

pub loop-part-preserved : goal.loop-part-preserved
loop-part-preserved c = record {
  extends = extends_then c.args.table.now c.args.nodes.now c.loop-part.nodes c.put_part.new.nodes c.args.entries.now c.loop-part.entries c.put_part.new.entries c.loop-part.invariant.extends c.in-Ok.ensures.extends;
  so_far = λ T told. list_next T c.args.nodes.now c.loop-part.nodes (λ p K a. HasPart T.shapes p.0 (a c.args.number) (applied a (type_of p.1))) c.args.parts.now c.loop-part.part-index c.part-item.result
      (part_local c.args.table.now T.shapes (length c.args.nodes.now) c.args.number c.part-item.result c.requires.number (all_item (λ (p : ℕ × Tree). (p.0 < length c.args.table.now.positions) × Within c.args.table.now (length c.args.nodes.now) (type_of p.1)) c.as_slice-part-items.result.now c.args.parts.now c.loop-part.part-index c.part-item.result c.as_slice-part-items.ensures c.loop-part-test.true c.part-item.is c.requires.within).1)
      (c.loop-part.invariant.so_far T (c.in-Ok.ensures.extends.told T told)) c.put_part.new.nodes (next_item c.as_slice-part-items.result.now c.args.parts.now c.loop-part.part-index c.part-item.result c.as_slice-part-items.ensures c.loop-part-test.true c.part-item.is) (c.in-Ok.ensures.ok T told);
}

pub returns-clause-ok : goal.returns-clause-ok
returns-clause-ok c T told = subst (λ xs. Puts T c.args.nodes.now (λ K a. Has_parts T.shapes a (a c.args.number) xs) c.loop-part.nodes)
    (take_whole c.args.parts.now c.loop-part.part-index (subst (λ l. length l ≤ c.loop-part.part-index) c.as_slice-part-items.ensures c.loop-part-test.false)) (c.loop-part.invariant.so_far T told)
