use Rattle.std.proofs.Common.{refl, false}
use Rattle.size_applying.proofs.GoingForms.{concluded}
use Rattle.size_applying.proofs.going.conclude.Goals as goal

pub returns : goal.returns
returns c = concluded c.args.application.now record { wantings = c.truncate.new.self; gives = record { frames = c.in_ok-frames.frames; size = c.in_ok-size.size; goes_on = c.args.application.now.gives.goes_on; follows = false; levels = c.in_ok-levels.levels }; later = c.uses_later.new.later }
    c.args.table.now c.as_slice.result.now c.truncate.ensures c.in_ok-frames.ensures refl refl c.in_ok-levels.ensures c.in_ok-size.ensures c.as_slice.ensures c.in_ok-uses_later.ensures.later c.in_ok-uses_later.ensures.chained
