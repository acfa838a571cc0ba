use Rattle.type_rules.specs.Demands.{Met, All_met, IsDemand, Are_demands, Allows, All_allow}
use Rattle.type_rules.proofs.operations.assertion.Goals as goal

pub returns-clause-says : goal.returns-clause-says
unfolding All_met Met
returns-clause-says c = λ N places u S K a. ((λ h. (h.0, h.1.0)), (λ h. (h.0, (h.1, tt))))

pub returns-clause-within : goal.returns-clause-within
unfolding Are_demands IsDemand
returns-clause-within c = λ table base w. (w.1.0, (w.0, tt))

pub returns-clause-allowed : goal.returns-clause-allowed
unfolding All_allow Allows
returns-clause-allowed c = λ home. (tt, (tt, tt))
