use Rattle.std.proofs.Common.{ap}
use Rattle.fut_flat.specs.Erased.{parameters}
use Rattle.elab_types.specs.Bindings.{number_held}
use Rattle.elab_types.proofs.BindLaws.{head_put, head_put_stops, heads_end, numbering_start}
use Rattle.elab_types.proofs.binds.each_head.Goals as goal

pub loop-head-init : goal.loop-head-init
loop-head-init c = numbering_start number_held _ _ _ _ (ap parameters c.requires.made) c.requires.entries

pub loop-head-preserved : goal.loop-head-preserved
loop-head-preserved c = head_put c.args.heads.now _ _ _ c.loop-head.head-index _ _ _ _ _ _ _ c.loop-head-test.true c.numbered_head.ensures c.in-Ok.ensures c.loop-head.invariant

pub returns-in-Err : goal.returns-in-Err
returns-in-Err c = head_put_stops _ _ _ _ _ _ _ _ _ _ _ c.numbered_head.ensures c.in-Err.ensures

pub returns : goal.returns
returns c = heads_end c.args.heads.now _ _ c.loop-head.head-index _ _ _ c.loop-head-test.false c.loop-head.invariant
