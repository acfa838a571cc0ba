use Rattle.std.proofs.Common.{subst}
use Rattle.fut_types.specs.Types.{Kinds, Ty}
use Rattle.fut_typing.specs.Rules.{Operator}
use Rattle.type_rules.specs.declared.operators.Class.{Class}
use Rattle.type_rules.specs.Demands.{By_class, Met, All_met, IsDemand, Are_demands, Allows, All_allow}
use Rattle.type_rules.proofs.operators.binary.Goals as goal

pub returns-in-Equality-clause-says : goal.returns-in-Equality-clause-says
unfolding All_met Met
returns-in-Equality-clause-says c = λ N places S K a. let rule = subst (λ (x : Class). (K : Kinds) (t u : Ty) → (By_class x K t u → Operator c.args.op K t u) × (Operator c.args.op K t u → By_class x K t u)) c.in-Equality.is c.class_of.ensures K (a c.args.id) (a c.args.operands) in
    ((λ h. (rule.0 (h.0, h.1.0), h.1.1.0, h.1.1.1.0)), (λ h. let w = rule.1 h.0 in (w.0, (w.1, (h.1, (h.2, tt))))))

pub returns-in-Equality-clause-within : goal.returns-in-Equality-clause-within
unfolding Are_demands IsDemand
returns-in-Equality-clause-within c = λ table base w. (w.0, (w.1.0, ((w.1.1.0, w.1.0), ((w.1.1.1.0, w.1.0), tt))))

pub returns-in-Equality-clause-allowed : goal.returns-in-Equality-clause-allowed
unfolding All_allow Allows
returns-in-Equality-clause-allowed c = λ home. (tt, (tt, (tt, (tt, tt))))

pub returns-in-Comparison-clause-says : goal.returns-in-Comparison-clause-says
unfolding All_met Met
returns-in-Comparison-clause-says c = λ N places S K a. let rule = subst (λ (x : Class). (K : Kinds) (t u : Ty) → (By_class x K t u → Operator c.args.op K t u) × (Operator c.args.op K t u → By_class x K t u)) c.in-Comparison.is c.class_of.ensures K (a c.args.id) (a c.args.operands) in
    ((λ h. (rule.0 (h.0, h.1.0), h.1.1.0, h.1.1.1.0)), (λ h. let w = rule.1 h.0 in (w.0, (w.1, (h.1, (h.2, tt))))))

pub returns-in-Comparison-clause-within : goal.returns-in-Comparison-clause-within
unfolding Are_demands IsDemand
returns-in-Comparison-clause-within c = λ table base w. (w.0, (w.1.0, ((w.1.1.0, w.1.0), ((w.1.1.1.0, w.1.0), tt))))

pub returns-in-Comparison-clause-allowed : goal.returns-in-Comparison-clause-allowed
unfolding All_allow Allows
returns-in-Comparison-clause-allowed c = λ home. (tt, (tt, (tt, (tt, tt))))

pub returns-in-Arithmetic-clause-says : goal.returns-in-Arithmetic-clause-says
unfolding All_met Met
returns-in-Arithmetic-clause-says c = λ N places S K a. let rule = subst (λ (x : Class). (K : Kinds) (t u : Ty) → (By_class x K t u → Operator c.args.op K t u) × (Operator c.args.op K t u → By_class x K t u)) c.in-Arithmetic.is c.class_of.ensures K (a c.args.id) (a c.args.operands) in
    ((λ h. (rule.0 (h.0, h.1.0), h.1.1.0, h.1.1.1.0)), (λ h. let w = rule.1 h.0 in (w.0, (w.1, (h.1, (h.2, tt))))))

pub returns-in-Arithmetic-clause-within : goal.returns-in-Arithmetic-clause-within
unfolding Are_demands IsDemand
returns-in-Arithmetic-clause-within c = λ table base w. ((w.0, w.1.0), (w.1.0, ((w.1.1.0, w.1.0), ((w.1.1.1.0, w.1.0), tt))))

pub returns-in-Arithmetic-clause-allowed : goal.returns-in-Arithmetic-clause-allowed
unfolding All_allow Allows
returns-in-Arithmetic-clause-allowed c = λ home. (tt, (tt, (tt, (tt, tt))))
