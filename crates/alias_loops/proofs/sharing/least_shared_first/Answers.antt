use Rattle.std.proofs.Common.{◌-◌, arith}
use Rattle.alias_loops.proofs.SharingForms.{firsts_more}
use Rattle.alias_loops.proofs.sharing.least_shared_first.Goals as goal

pub components-preserved : goal.components-preserved
components-preserved c = record {
  least = firsts_more c.args.over.now c.args.carried.now c.components.i (c.components.i - 1) _ _ _ _ _ (omega (arith, c.components-test.true)) c.components.invariant.within c.split_at.ensures.front c.split_at-in-components.ensures.back c.components.invariant.least c.lowest_of_first-least.ensures;
  within = omega (arith, c.components.invariant.within);
}
