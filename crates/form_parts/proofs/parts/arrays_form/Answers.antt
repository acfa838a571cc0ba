use Rattle.std.proofs.Common.{◌∙◌, ap, map}
use Rattle.fut_value.specs.Data.{Array_shape}
use Rattle.array_data.specs.Held.{shape_held}
use Rattle.form_parts.proofs.PartForms.{parts_arrays}
use Rattle.form_parts.proofs.parts.arrays_form.Goals as goal

pub returns-in_ok-arrays-in-Tuple : goal.returns-in_ok-arrays-in-Tuple
returns-in_ok-arrays-in-Tuple c = parts_arrays _ _ _ _ c.in-Tuple.is (c.in_ok-arrays-in-Tuple.ensures ∙ ap (λ z. map (Array_shape c.args.many) (map shape_held z)) c.as_slice.ensures)
