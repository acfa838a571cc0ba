-- The names of a record type's fields, and their types.
use Rattle.std.specs.Prelude.{List, map}
use Rattle.fut_ast.specs.Sorts.{Text}
use Rattle.fut_scalar.specs.declared.place.BindId.{BindId}
use Rattle.fut_flat.specs.declared.prim.Ref.{Ref}
use Rattle.fut_flat.specs.declared.ty.TypeField.{TypeField}
use Rattle.fut_flat.specs.Terms.{Type_terms}
use Rattle.fut_flat.specs.Erased.{types, type_of}

abbrev pub type_names : List TypeField → List Text
type_names fs = map (λ (f : TypeField). f.name.now) fs

abbrev pub field_types : List TypeField → Type_terms Ref BindId
field_types fs = types (map (λ (f : TypeField). type_of f.ty) fs)
