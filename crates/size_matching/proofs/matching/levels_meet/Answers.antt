use Rattle.fut_sizes.specs.Matching.{meet_dims}
use Rattle.size_matching.proofs.Steps.{as_on, two_same}
use Rattle.size_slots.specs.Held.{no_memory_met, way_of}
use Rattle.size_matching.proofs.matching.levels_meet.Goals as goal

pub returns-in-Ok-clause-met : goal.returns-in-Ok-clause-met
returns-in-Ok-clause-met c = as_on _ _ _ _ _ c.sizes_meet.ensures.met (λ σ held. two_same (λ x y. meet_dims (way_of c.args.way) c.args.site.at x y σ) c.in-Ok.ensures.left c.in-Ok.ensures.right)

pub returns-in-Err-clause-met : goal.returns-in-Err-clause-met
returns-in-Err-clause-met c = λ σ held. no_memory_met
