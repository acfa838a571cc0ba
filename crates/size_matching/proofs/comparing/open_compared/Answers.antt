use Rattle.fut_sizes.specs.Matching.{variable_compared}
use Rattle.size_matching.proofs.Steps.{as_on, two_same}
use Rattle.size_slots.specs.Held.{no_memory_met, way_of}
use Rattle.size_matching.proofs.comparing.open_compared.Goals as goal

pub returns-in-Ok : goal.returns-in-Ok
returns-in-Ok c = as_on _ _ _ _ _ c.variable_compared.ensures (λ σ held. two_same (λ x y. variable_compared c.args.wanted (way_of c.args.way) c.args.at x y σ) (c.in-Ok.ensures σ held).0 (c.in-Ok.ensures σ held).1)

pub returns-in-Err : goal.returns-in-Err
returns-in-Err c = λ σ held. no_memory_met
