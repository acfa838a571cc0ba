use Rattle.std.proofs.Common.{◌++◌, ◌∷◌, [], ◌∙◌, ap}
use Rattle.fut_tree.specs.declared.exp.ExpField.{ExpField}
use Rattle.elab_types.proofs.Mapped.{mapped_next, mapped_end}
use Rattle.elab_exps.proofs.lists.field_names.Goals as goal

pub loop-field-preserved : goal.loop-field-preserved
loop-field-preserved c = mapped_next (λ (f : ExpField). f.name) c.args.fields.now c.loop-field.field-index c.field-item.result _ _ c.loop-field-test.true c.loop-field.invariant (c.in-Ok.ensures.items ∙ ap (λ (f : ExpField). c.loop-field.made.items ++ f.name ∷ []) c.field-item.is)

pub returns-clause-names : goal.returns-clause-names
returns-clause-names c = mapped_end (λ (f : ExpField). f.name) c.args.fields.now c.loop-field.field-index _ _ c.loop-field-test.false c.loop-field.invariant c.into_bump_slice.ensures
