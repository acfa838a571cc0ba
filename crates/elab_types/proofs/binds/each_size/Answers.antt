use Rattle.elab_types.specs.Bindings.{number_texts}
use Rattle.elab_types.proofs.BindLaws.{numbering_start, size_put, size_put_stops, sizes_end}
use Rattle.elab_types.proofs.binds.each_size.Goals as goal

pub loop-size-init : goal.loop-size-init
loop-size-init c = numbering_start number_texts _ _ _ _ c.requires.binds c.requires.entries

pub loop-size-preserved : goal.loop-size-preserved
loop-size-preserved c = size_put c.args.sizes.now _ _ _ c.loop-size.size-index _ _ _ _ _ _ _ c.loop-size-test.true c.numbered_entry.ensures.numbers c.numbered_entry.ensures.entry c.in-Ok.ensures c.loop-size.invariant

pub returns-in-Err : goal.returns-in-Err
returns-in-Err c = size_put_stops _ _ _ _ _ _ _ _ _ c.numbered_entry.ensures.numbers c.in-Err.ensures

pub returns : goal.returns
returns c = sizes_end c.args.sizes.now _ _ c.loop-size.size-index _ _ _ c.loop-size-test.false c.loop-size.invariant
