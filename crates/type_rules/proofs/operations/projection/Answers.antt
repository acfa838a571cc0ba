use Rattle.std.proofs.Common.{subst, sym}
use Rattle.fut_types.specs.Shapes.{HasPart}
use Rattle.type_rules.specs.Demands.{Met, All_met, IsDemand, Are_demands, Allows, All_allow}
use Rattle.type_rules.proofs.operations.projection.Goals as goal

pub returns-clause-says : goal.returns-clause-says
unfolding All_met Met
returns-clause-says c = λ N places f is K a. ((λ h. (h.0, subst (λ l. HasPart N.shapes l (a c.args.whole) (a c.args.id)) (sym is) h.1.0)), (λ h. (h.0, (subst (λ l. HasPart N.shapes l (a c.args.whole) (a c.args.id)) is h.1, tt))))

pub returns-clause-within : goal.returns-clause-within
unfolding Are_demands IsDemand
returns-clause-within c = λ table base w lt. ((w.1.1.0, w.1.0), ((w.1.0, w.0, lt), tt))

pub returns-clause-allowed : goal.returns-clause-allowed
unfolding All_allow Allows
returns-clause-allowed c = λ home. (tt, (tt, tt))
