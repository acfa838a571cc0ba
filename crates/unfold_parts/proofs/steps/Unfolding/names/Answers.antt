use Rattle.std.proofs.Common.{◌∷◌, [], length, refl, ap, arith}
use Rattle.std.proofs.lemmas.List.{length-append}
use Rattle.unfold_parts.specs.Answers.{not_newly_named}
use Rattle.unfold_parts.proofs.NewNaming.{names_on, names_end, names_err}
use Rattle.unfold_parts.proofs.steps.Unfolding.names.Goals as goal

pub loop-self-preserved : goal.loop-self-preserved
loop-self-preserved c = (omega (arith, c.loop-self-test.true, ap length c.in-Ok-push.ensures.items, length-append c.loop-self.names.items (c.in-Ok.name ∷ [])), names_on _ _ _ _ _ _ _ _ _ _ _ _ c.loop-self.invariant.1 c.in-Ok.ensures.name c.in-Ok.ensures.steps c.in-Ok-push.ensures.items refl c.in-Ok-push-2.ensures.items)

pub returns-clause-named : goal.returns-clause-named
returns-clause-named c = names_end _ _ _ _ _ _ _ _ c.loop-self.invariant.1 (omega (arith, c.loop-self.invariant.0, c.loop-self-test.false)) c.into_bump_slice.ensures c.into_bump_slice-2.ensures

pub returns-in-Err-clause-named : goal.returns-in-Err-clause-named
returns-in-Err-clause-named c = names_err _ _ _ _ c.in-Err.ensures.name

pub returns-in-Err-push-clause-named : goal.returns-in-Err-push-clause-named
returns-in-Err-push-clause-named c = not_newly_named

pub returns-in-Err-push-2-clause-named : goal.returns-in-Err-push-2-clause-named
returns-in-Err-push-2-clause-named c = not_newly_named
