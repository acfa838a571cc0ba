use Rattle.told_rows.proofs.ArgumentForms.{parts_more, parts_over}
use Rattle.told_rows.proofs.arguments.add_data.Goals as goal

pub loop-part-preserved : goal.loop-part-preserved
loop-part-preserved c = parts_more c.args.parts.now c.loop-part.part-index _ _ _ _ c.loop-part-test.true c.loop-part.invariant c.in_ok-add_part.ensures

pub returns : goal.returns
returns c = parts_over c.args.parts.now c.loop-part.part-index _ _ c.loop-part-test.false c.loop-part.invariant
