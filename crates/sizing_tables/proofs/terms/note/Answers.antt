use Rattle.sizing_tables.proofs.Lists.{none_yet, one_again}
use Rattle.sizing_tables.proofs.terms.note.Goals as goal

pub loop-init : goal.loop-init
loop-init c = none_yet _

pub loop-preserved : goal.loop-preserved
loop-preserved c = one_again _ c.loop.invariant c.node.ensures
