use Rattle.std.proofs.Common.{refl}
use Rattle.elab_scopes.specs.Declarations.{refined}
use Rattle.fut_tree.specs.ModTypes.{with_of, withs_of}
use Rattle.elab_scopes.specs.Held.{module_ref_of}
use Rattle.module_state.specs.Standing.{here_of}
use Rattle.module_members.specs.Steps.{refined_once}
use Rattle.module_members.proofs.Loops.{from_item, item_next, item_stops, row_ends}
use Rattle.module_members.proofs.RefinedLaws.{refined_left, refined_more, refined_none}
use Rattle.module_members.proofs.refining.refined.Goals as goal

pub loop-with-preserved : goal.loop-with-preserved
loop-with-preserved c = item_next (refined_left (here_of c.args.here)) (λ w. refined_once (here_of c.args.here) (with_of w)) (refined_more (here_of c.args.here)) module_ref_of _ c.args.withs.now c.loop-with.with-index c.with-item.result (from_item c.args.withs.now c.loop-with.with-index c.with-item.result c.loop-with-test.true c.with-item.is) c.loop-with.module c.in-Ok.next c.in-Ok.is c.refined_once.ensures c.loop-with.invariant

pub returns-in-Err : goal.returns-in-Err
returns-in-Err c = item_stops (refined_left (here_of c.args.here)) (λ w. refined_once (here_of c.args.here) (with_of w)) (refined_more (here_of c.args.here)) module_ref_of _ c.args.withs.now c.loop-with.with-index c.with-item.result (from_item c.args.withs.now c.loop-with.with-index c.with-item.result c.loop-with-test.true c.with-item.is) module_ref_of c.loop-with.module c.in-Err.is c.refined_once.ensures c.loop-with.invariant

pub returns : goal.returns
returns c = row_ends (refined_left (here_of c.args.here)) (λ m. m) (refined_none (here_of c.args.here)) module_ref_of module_ref_of _ c.args.withs.now c.loop-with.with-index c.loop-with.module c.loop-with.module c.loop-with-test.false refl c.loop-with.invariant
