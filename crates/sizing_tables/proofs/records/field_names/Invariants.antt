use Rattle.fut_flat.specs.Erased.{texts}
use Rattle.fut_types.specs.Shapes.{labels_from}
use Rattle.type_rules.specs.Fields.{Numbered}
use Rattle.sizing_tables.proofs.records.field_names.Given as goal

abbrev pub invariant-loop-i : goal.invariant-loop-i
invariant-loop-i l = Numbered l.labels (texts l.names.items) (labels_from l.all l.row.first l.i)
