use Rattle.std.proofs.Common.{List, get_or, sym, ap, ◌∙◌}
use Rattle.fut_types.specs.declared.shapes.Fields.{Fields}
use Rattle.record_places.proofs.PlaceForms.{fields_long}
use Rattle.record_places.proofs.places.part_count.Goals as goal

pub returns-clause-count : goal.returns-clause-count
returns-clause-count c = fields_long c.args.table.now c.args.number ∙ ap (λ (z : List Fields). (get_or z c.args.number (record { first = 0; count = 0 })).count) (sym c.as_slice-records.ensures)
