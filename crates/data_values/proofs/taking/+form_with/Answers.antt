use Rattle.std.proofs.Common.{ap, ◌∙◌}
use Rattle.fut_value.specs.Values.{shape_with}
use Rattle.array_data.specs.Held.{shape_held}
use Rattle.data_values.proofs.Shapes.{rest_of, shaped_more}
use Rattle.data_values.proofs.taking.+form_with.Goals as goal

pub returns-in_ok-row-in-len1-up : goal.returns-in_ok-row-in-len1-up
returns-in_ok-row-in-len1-up t c = shaped_more c.args.elem c.in_ok-row-in-len1-up.row c.args.sizes.now c.in-len1-up.len_at_least (ap shape_held c.in_ok-row-in-len1-up.ensures ∙ c.in_ok-form_with-in-len1-up.ensures ∙ ap (shape_with c.args.elem) (rest_of c.args.sizes.now))
