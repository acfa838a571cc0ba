use Rattle.std.proofs.Common.{subst, sym, Option, [], ◌∷◌}
use Rattle.fut_scalar.specs.declared.scalar.ScalarType.TheVariants as scalar
use Rattle.fut_types.specs.declared.Kind.TheVariants as kind
use Rattle.type_rules.specs.declared.demand.Demand.TheVariants as demand
use Rattle.fut_scalar.specs.declared.scalar.IntType.{IntType}
use Rattle.fut_flat.specs.Terms.{Integer}
use Rattle.fut_types.specs.Types.{none}
use Rattle.fut_typing.specs.Rules.{Rule}
use Rattle.type_rules.specs.Demands.{Met, All_met, IsDemand, Are_demands, Allows, All_allow, Say}
use Rattle.type_rules.proofs.operators.literal.Goals as goal

pub returns-in-None-clause-says : goal.returns-in-None-clause-says
unfolding All_met Met
returns-in-None-clause-says c = λ N places n u. subst (λ (ty : Option IntType). Say (demand.Has c.args.id kind.Integer ∷ []) (λ K a. Rule N places K (Integer n ty) (a c.args.id) u none)) (sym c.in-None.is) (λ S K a. ((λ h. h.0), (λ h. (h, tt))))

pub returns-in-None-clause-within : goal.returns-in-None-clause-within
unfolding Are_demands IsDemand
returns-in-None-clause-within c = λ table base w. (w.0, tt)

pub returns-in-None-clause-allowed : goal.returns-in-None-clause-allowed
unfolding All_allow Allows
returns-in-None-clause-allowed c = λ home. (tt, tt)

pub returns-in-Some-clause-says : goal.returns-in-Some-clause-says
unfolding All_met Met
returns-in-Some-clause-says c = λ N places n u. subst (λ (ty : Option IntType). Say (demand.Is c.args.id (scalar.Int c.in-Some.ty) ∷ []) (λ K a. Rule N places K (Integer n ty) (a c.args.id) u none)) (sym c.in-Some.is) (λ S K a. ((λ h. h.0), (λ h. (h, tt))))

pub returns-in-Some-clause-within : goal.returns-in-Some-clause-within
unfolding Are_demands IsDemand
returns-in-Some-clause-within c = λ table base w. (w.0, tt)

pub returns-in-Some-clause-allowed : goal.returns-in-Some-clause-allowed
unfolding All_allow Allows
returns-in-Some-clause-allowed c = λ home. (tt, tt)
