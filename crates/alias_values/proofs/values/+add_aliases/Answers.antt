use Rattle.std.proofs.Common.{◌-◌, arith}
use Rattle.alias_values.proofs.ValueForms.{onto_more}
use Rattle.alias_values.proofs.values.+add_aliases.Goals as goal

pub add_all_aliases-parts-preserved : goal.add_all_aliases-parts-preserved
add_all_aliases-parts-preserved t c = (
  onto_more c.args.parts.now c.args.set.now c.parts.i (c.parts.i - 1) c.index-parts-i.result _ _ (omega (arith, c.parts-test.true)) c.parts.invariant.1 c.parts.invariant.0 (rw (← c.index-parts-i.is) c.in_ok-all.ensures),
  omega (arith, c.parts.invariant.1),
)
