use Rattle.std.proofs.Common.{refl, ap, ◌∙◌}
use Rattle.fut_meaning.specs.Arrays.{inner, size}
use Rattle.array_data.specs.Held.{shape_held}
use Rattle.array_primitives.proofs.CutRows.{form_back}
use Rattle.array_primitives.proofs.cuts.+cut_form.Goals as goal

pub returns-in_ok-new-in-Backwards : goal.returns-in_ok-new-in-Backwards
returns-in_ok-new-in-Backwards t c =
    form_back c.args.cuts.now c.args.form.now c.in_ok-inner_form.field-0 c.in_ok-inner.inner c.size_of-size.result _ c.if-cuts-eq0.false (c.in_ok-inner_form.ensures ∙ ap (λ z. inner (shape_held z)) c.get-2.ensures) c.in_ok-inner.ensures
    c.in_ok-new-in-Backwards.field-0 _ (c.size_of-size.ensures ∙ ap (λ z. size (shape_held z)) c.get.ensures) c.in-Backwards.is refl c.in_ok-new-in-Backwards.ensures
