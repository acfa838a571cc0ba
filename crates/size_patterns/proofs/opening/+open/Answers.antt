use Rattle.size_patterns.proofs.OpenForms.{opens_end}
use Rattle.size_patterns.proofs.opening.+open.Goals as goal

pub some_open-returns : goal.some_open-returns
some_open-returns t c = opens_end c.args.parts.now c.loop-part.part-index c.loop-part-test.false c.loop-part.invariant
