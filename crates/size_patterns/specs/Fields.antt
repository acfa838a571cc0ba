-- The names of the fields of a record's pattern.
use Rattle.std.specs.Prelude.{List, map}
use Rattle.fut_ast.specs.Sorts.{Text}
use Rattle.fut_flat.specs.declared.pat.PatField.{PatField}

abbrev pub field_names : List PatField → List Text
field_names fs = map (λ (f : PatField). f.name.now) fs
