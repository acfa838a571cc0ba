use Rattle.std.proofs.Common.{◌≡◌, ◌<◌, List, length, Bor}
use Rattle.fut_ast.specs.Sorts.{Text}
use Rattle.fut_flat.specs.Erased.{texts}
use Rattle.fut_types.specs.Shapes.{fields_of}
use Rattle.type_rules.specs.Fields.{Numbered}
use Rattle.sizing_tables.proofs.Fielding.{Each}
use Rattle.sizing_tables.proofs.records.record_fields.Given as goal

abbrev pub invariant-loop-row : goal.invariant-loop-row
invariant-loop-row l = (length l.fields.items ≡ l.row-index) × Each (λ n (fs : Bor (List (Bor Text))). (n < length l.table.records) × Numbered l.labels (texts fs.now) (fields_of l.table n)) l.fields.items
