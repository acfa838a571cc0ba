use Rattle.std.proofs.Common.{◌-◌, arith}
use Rattle.alias_types.proofs.PickForms.{pick_more}
use Rattle.alias_types.proofs.picking.+add_picked.Goals as goal

pub add_all_picked-parts-preserved : goal.add_all_picked-parts-preserved
add_all_picked-parts-preserved t c = (
  pick_more c.args.starred c.args.row.now c.args.values.now c.args.set.now c.parts.i (c.parts.i - 1) c.index-row-i.result c.index-values-i.result c.parts.all.now c.in_ok-all.all.now (omega (arith, c.parts-test.true)) c.parts.invariant.1 c.parts.invariant.2 c.parts.invariant.0 (rw (← c.index-row-i.is, ← c.index-values-i.is) c.in_ok-all.ensures),
  omega (arith, c.parts.invariant.1),
  omega (arith, c.parts.invariant.2),
)
