use Rattle.std.proofs.Common.{◌+◌, ◌≤◌, ◌<◌, length, map, take, refl, sym, subst, arith}
use Rattle.fut_types.specs.Types.{Made, all_applied}
use Rattle.type_graph.specs.Graph.{Each}
use Rattle.type_graph.specs.Claims.{types_of}
use Rattle.unify.specs.Substitutions.{Within, type_of, row_of}
use Rattle.unify.specs.Putting.{Planted, Planted_all}
use Rattle.unify.proofs.Trees.{within_var, made_known, made_maker, made_parts, within_at, within_more, below_last, all_below, made_size, item_size, item_at, next_item, take_whole}
use Rattle.unify.proofs.Outcomes.{if_ok, tells_both, both_err}
use Rattle.unify.proofs.Putting.{extends_then, extends_none, planted_var, planted_whole, planted_first, planted_next, bars_always}
use Rattle.unify.proofs.plant.+plant.Goals as goal

pub plant-returns-in-Var-clause-number : goal.plant-returns-in-Var-clause-number
plant-returns-in-Var-clause-number t c = within_var c.args.table.now (length c.args.nodes.now) c.args.tree.now c.in-Var.number c.in-Var.is c.requires.within

pub plant-returns-in-Var-clause-ok : goal.plant-returns-in-Var-clause-ok
plant-returns-in-Var-clause-ok t c T told = planted_var T c.args.nodes.now c.args.tree.now c.in-Var.number c.in-Var.is

pub plant-plant_parts-requires : goal.plant-plant_parts-requires
plant-plant_parts-requires t c = (
  omega (arith, made_size c.args.tree.now c.in-Made.head c.in-Made.parts c.in-Made.is),
  (c.requires.table, (c.requires.sound, made_parts c.args.table.now (length c.args.nodes.now) c.args.tree.now c.in-Made.head c.in-Made.parts c.in-Made.is c.requires.within)),
)

pub plant-plant_made-requires-clause-head : goal.plant-plant_made-requires-clause-head
plant-plant_made-requires-clause-head t c = made_known c.args.table.now (length c.args.nodes.now) c.args.tree.now c.in-Made.head c.in-Made.parts c.in-Made.is c.requires.within

pub plant-plant_made-requires-clause-maker : goal.plant-plant_made-requires-clause-maker
plant-plant_made-requires-clause-maker t c = made_maker c.args.table.now (length c.args.nodes.now) c.args.tree.now c.in-Made.head c.in-Made.parts c.in-Made.is c.requires.within

pub plant-returns-in-Ok-clause-ok : goal.plant-returns-in-Ok-clause-ok
plant-returns-in-Ok-clause-ok t c = if_ok c.plant_made.result (λ number x h T told. planted_whole T c.args.nodes.now c.plant_parts.new.nodes c.plant_made.new.nodes c.args.tree.now c.in-Made.head c.in-Made.parts c.in-Ok.numbers number c.in-Made.is (c.in-Ok.ensures.ok T (x.told T told)) (subst (λ ns. Planted T c.plant_parts.new.nodes (λ a. Made c.in-Made.head (types_of a ns)) number c.plant_made.new.nodes) c.as_slice.ensures (h T told))) c.plant_made.ensures.extends c.plant_made.ensures.ok

pub plant_parts-plant-requires : goal.plant_parts-plant-requires
plant_parts-plant-requires t c = (
  omega (arith, item_size c.as_slice-part-items.result.now c.args.parts.now c.loop-part.part-index c.part-item.result c.as_slice-part-items.ensures c.loop-part-test.true c.part-item.is),
  (
    c.requires.table,
    (
      c.loop-part.invariant.extends.sound,
      within_more c.args.table.now (length c.args.nodes.now) (length c.loop-part.nodes) c.loop-part.invariant.extends.longer (type_of c.part-item.result)
          (subst (λ p. Within c.args.table.now (length c.args.nodes.now) (type_of p)) (sym (item_at c.as_slice-part-items.result.now c.args.parts.now c.loop-part.part-index c.part-item.result c.as_slice-part-items.ensures c.part-item.is))
          (within_at c.args.table.now (length c.args.nodes.now) c.args.parts.now c.requires.within c.loop-part.part-index c.part-item.result (subst (λ l. c.loop-part.part-index < length l) c.as_slice-part-items.ensures c.loop-part-test.true))),
    ),
  ),
)

pub plant_parts-loop-part-init : goal.plant_parts-loop-part-init
plant_parts-loop-part-init t c = record {
  extends = extends_none c.args.table.now c.args.nodes.now c.args.entries.now c.requires.sound;
  numbers = subst (Each (λ number. number < length c.args.nodes.now)) (sym c.new-numbers.ensures) tt;
  so_far = λ T told. planted_first T c.args.nodes.now c.new-numbers.result (take 0 c.args.parts.now) c.new-numbers.ensures refl;
}

pub plant_parts-loop-part-preserved : goal.plant_parts-loop-part-preserved
plant_parts-loop-part-preserved t c = record {
  extends = extends_then c.args.table.now c.args.nodes.now c.loop-part.nodes c.plant.new.nodes c.args.entries.now c.loop-part.entries c.plant.new.entries c.loop-part.invariant.extends c.in-Ok.ensures.extends;
  numbers = subst (Each (λ number. number < length c.plant.new.nodes)) (sym c.in-Ok-push.ensures.ok)
      (below_last (length c.plant.new.nodes) c.loop-part.numbers c.in-Ok.number (all_below (length c.loop-part.nodes) (length c.plant.new.nodes) c.in-Ok.ensures.extends.longer c.loop-part.numbers c.loop-part.invariant.numbers) c.in-Ok.ensures.number);
  so_far = λ T told. planted_next T c.args.nodes.now c.loop-part.nodes c.plant.new.nodes c.loop-part.numbers c.push.new.self c.in-Ok.number (take c.loop-part.part-index c.args.parts.now) (take (c.loop-part.part-index + 1) c.args.parts.now) c.part-item.result c.in-Ok-push.ensures.ok
      (next_item c.as_slice-part-items.result.now c.args.parts.now c.loop-part.part-index c.part-item.result c.as_slice-part-items.ensures c.loop-part-test.true c.part-item.is)
      (c.loop-part.invariant.so_far T (c.in-Ok.ensures.extends.told T told)) (c.in-Ok.ensures.ok T told);
}

pub plant_parts-returns-clause-ok : goal.plant_parts-returns-clause-ok
plant_parts-returns-clause-ok t c T told = subst (λ ps. Planted_all T c.args.nodes.now (λ a. all_applied a (row_of (map type_of ps))) c.loop-part.numbers c.loop-part.nodes)
    (take_whole c.args.parts.now c.loop-part.part-index (subst (λ l. length l ≤ c.loop-part.part-index) c.as_slice-part-items.ensures c.loop-part-test.false)) (c.loop-part.invariant.so_far T told)

pub plant-returns-in-Ok-clause-err : goal.plant-returns-in-Ok-clause-err
plant-returns-in-Ok-clause-err t c = both_err c.plant_made.result (λ before h T told. bars_always T c.args.nodes.now c.plant_parts.new.nodes (c.in-Ok.ensures.ok T (before T told)).puts (h T told)) c.plant_made.ensures.before c.plant_made.ensures.err

pub plant_parts-returns-in-Err-clause-err : goal.plant_parts-returns-in-Err-clause-err
plant_parts-returns-in-Err-clause-err t c = tells_both c.in-Err.error (λ before h T told. bars_always T c.args.nodes.now c.loop-part.nodes (c.loop-part.invariant.so_far T (before T told)).puts (h T told)) c.in-Err.ensures.before c.in-Err.ensures.err
