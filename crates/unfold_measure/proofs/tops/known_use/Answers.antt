use Rattle.std.proofs.Common.{Some, sym, ap, ◌∙◌}
use Rattle.unfold_measure.specs.Answers.{known_is, not_known}
use Rattle.unfold_measure.proofs.Making.{known_made}
use Rattle.unfold_measure.proofs.Uses.{name_here, name_behind, name_nowhere, use_name, use_primitive, use_scalar}
use Rattle.unfold_measure.proofs.tops.known_use.Goals as goal

pub returns-in-Some : goal.returns-in-Some
returns-in-Some c = known_is (use_name _ _ _ _ c.in-Bound.is ∙ ap Some (name_here _ c.in-Some.ensures))

pub returns-in-Some-find : goal.returns-in-Some-find
returns-in-Some-find c = known_is (use_name _ _ _ _ c.in-Bound.is ∙ ap Some (name_behind c.in-None.ensures c.in-Some-find.ensures))

pub returns-in-None-find : goal.returns-in-None-find
returns-in-None-find c = known_is (use_name _ _ _ _ c.in-Bound.is ∙ ap Some (name_nowhere c.in-None.ensures c.in-None-find.ensures ∙ sym c.known_data.ensures))

pub returns-in-Prim : goal.returns-in-Prim
returns-in-Prim c = known_made (use_primitive _ _ _ _ c.in-Prim.is) c.known_primitive.ensures.ok c.known_primitive.ensures.err

pub returns-in-Scalar : goal.returns-in-Scalar
returns-in-Scalar c = not_known (use_scalar _ _ _ _ c.in-Scalar.is)
