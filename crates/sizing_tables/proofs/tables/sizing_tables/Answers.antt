use Rattle.std.proofs.Common.{◌∙◌, ap, refl}
use Rattle.sizing_tables.specs.Bound.{is_among}
use Rattle.sizing_tables.proofs.Making.{tells}
use Rattle.sizing_tables.proofs.tables.sizing_tables.Goals as goal

pub returns : goal.returns
returns c = λ N names known Z is. tells N names c.args.labels.now c.args.table.now known c.args.flat.now c.args.nodes.now Z _ is refl
    (c.in_ok-names.ensures ∙ c.as_slice.ensures ∙ c.in_ok-bound.ensures.names) c.in_ok-fields.ensures
    (λ k. c.in_ok-are_sizes.ensures k ∙ ap (is_among k) (c.as_slice-2.ensures ∙ c.in_ok-bound.ensures.sizes))
