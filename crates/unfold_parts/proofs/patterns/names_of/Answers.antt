use Rattle.std.proofs.Common.{arith}
use Rattle.fut_flat.specs.declared.pat.PatField.{PatField}
use Rattle.unfold_parts.proofs.Binding.{names_are}
use Rattle.unfold_parts.proofs.Lists.{made_more}
use Rattle.unfold_parts.proofs.patterns.names_of.Goals as goal

pub loop-field-preserved : goal.loop-field-preserved
loop-field-preserved c = made_more (λ (f : PatField). f.name) _ _ _ _ _ c.loop-field-test.true c.loop-field.invariant c.in-Ok.ensures.items

pub returns-clause-ok : goal.returns-clause-ok
returns-clause-ok c = names_are _ _ _ c.into_bump_slice.result (omega (arith, c.loop-field-test.false)) c.loop-field.invariant c.into_bump_slice.ensures
