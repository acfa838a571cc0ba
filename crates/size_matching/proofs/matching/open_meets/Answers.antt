use Rattle.fut_sizes.specs.Matching.{meet_variable}
use Rattle.size_matching.proofs.Steps.{as_on, two_same}
use Rattle.size_slots.specs.Held.{no_memory_met, way_of}
use Rattle.size_matching.proofs.matching.open_meets.Goals as goal

pub returns-in-Ok : goal.returns-in-Ok
returns-in-Ok c = as_on _ _ _ _ _ c.meet_variable.ensures (λ σ held. two_same (λ x y. meet_variable c.args.wanted (way_of c.args.way) c.args.site.at x y σ) (c.in-Ok.ensures σ held).0 (c.in-Ok.ensures σ held).1)

pub returns-in-Err : goal.returns-in-Err
returns-in-Err c = λ σ held. no_memory_met
