use Rattle.sizing_tables.proofs.Heads.{all_heads_noted, head_noted, no_heads}
use Rattle.sizing_tables.proofs.terms.note_heads.Goals as goal

pub loop-head-init : goal.loop-head-init
loop-head-init c = no_heads _

pub loop-head-preserved : goal.loop-head-preserved
loop-head-preserved c = head_noted _ c.loop-head.head-index _ c.loop-head-test.true c.loop-head.invariant c.note_head.ensures

pub returns : goal.returns
returns c = all_heads_noted _ _ c.loop-head-test.false c.loop-head.invariant
