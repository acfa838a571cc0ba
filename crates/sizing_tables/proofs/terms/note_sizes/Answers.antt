use Rattle.sizing_tables.proofs.Heads.{all_sizes_noted, size_noted}
use Rattle.sizing_tables.proofs.Lists.{none_yet}
use Rattle.sizing_tables.proofs.terms.note_sizes.Goals as goal

pub loop-size-init : goal.loop-size-init
loop-size-init c = none_yet _

pub loop-size-preserved : goal.loop-size-preserved
loop-size-preserved c = size_noted _ c.loop-size.size-index _ c.loop-size-test.true c.loop-size.invariant c.size.ensures

pub returns : goal.returns
returns c = all_sizes_noted _ _ c.loop-size-test.false c.loop-size.invariant
