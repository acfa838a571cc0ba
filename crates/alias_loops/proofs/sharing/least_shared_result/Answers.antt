use Rattle.std.proofs.Common.{◌-◌, arith}
use Rattle.alias_loops.proofs.SharingForms.{results_more, results_start}
use Rattle.alias_loops.proofs.sharing.least_shared_result.Goals as goal

pub components-init : goal.components-init
components-init c = record { least = results_start c.args.from c.args.carried.now c.args.carried.now c.args.given.now _ c.min-i.ensures; within = omega (arith, c.min-i.ensures); among = omega (arith, c.min-i.ensures) }

pub components-preserved : goal.components-preserved
components-preserved c = record {
  least = results_more c.args.from c.args.carried.now c.args.carried.now c.args.given.now c.components.i (c.components.i - 1) _ _ _ _ _ _ (omega (arith, c.components-test.true)) c.components.invariant.within c.components.invariant.among c.split_at.ensures.front c.split_at-in-components.ensures.back c.components.invariant.least c.lowest_of_result-least.ensures;
  within = omega (arith, c.components.invariant.within);
  among = omega (arith, c.components.invariant.among);
}
