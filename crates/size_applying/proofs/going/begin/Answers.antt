use Rattle.size_applying.proofs.GoingForms.{begun}
use Rattle.size_applying.proofs.going.begin.Goals as goal

pub returns : goal.returns
returns c = λ N types. begun N types c.new.result c.in_ok-frames.frames c.args.size c.new-2.result c.in_ok-levels.levels c.new.ensures c.in_ok-frames.ensures c.new-2.ensures c.in_ok-levels.ensures
