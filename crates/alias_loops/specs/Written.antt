-- How the components of a value follow from the parts that it is written with.
use Rattle.std.specs.Prelude.{◌≡◌, ℕ, Bool, true, false, List, Option, Some, None}
use Rattle.std.specs.Borrow.{Bor}
use Rattle.fut_ast.specs.Sorts.{Text}
use Rattle.fut_scalar.specs.declared.place.BindId.{BindId}
use Rattle.fut_scalar.specs.declared.place.Place.{Place}
use Rattle.fut_flat.specs.declared.act.Act.{Act}
use Rattle.fut_flat.specs.declared.act.Act.TheVariants as act
use Rattle.fut_flat.specs.declared.prim.Ref.{Ref}
use Rattle.fut_flat.specs.Erased.{operation_of, texts}
use Rattle.fut_flat.specs.Terms.{Tuple_of, Record_of, Strict, Terms}
use Rattle.fut_types.specs.declared.Head.{Head}
use Rattle.fut_types.specs.declared.Head.TheVariants as head
use Rattle.fut_typing.specs.Names.{Names}
use Rattle.fut_aliases.specs.Loops.{each_at, starts}
use Rattle.fut_aliases.specs.Values.{Value, Parts, Values, components}
use Rattle.alias_values.specs.declared.trees.ValueTree.{ValueTree}
use Rattle.alias_values.specs.Trees.{values_of}
use Rattle.alias_loops.specs.declared.written.Written.{Written}
use Rattle.alias_loops.specs.declared.written.Written.TheVariants as written

abbrev pub is_tuple : Act → Bool
is_tuple act.Tuple = true
is_tuple a = false

abbrev pub fields_in : Act → Option (List Text)
fields_in (act.Record fs) = Some (texts fs.now)
fields_in a = None

abbrev pub row_in : Value → Option Values
row_in (Parts h vs) = Some vs
row_in v = None

abbrev pub record_of : Head → Option ℕ
record_of (head.Record n) = Some n
record_of h = None

abbrev pub record_in : Value → Option ℕ
record_in (Parts h vs) = record_of h
record_in v = None

abbrev pub texts_held : Option (Bor (List (Bor Text))) → Option (List Text)
texts_held (Some fs) = Some (texts fs.now)
texts_held None = None

abbrev pub values_held : Option (Bor (List ValueTree)) → Option Values
values_held (Some vs) = Some (values_of vs.now)
values_held None = None

-- by a written tuple or record, or as those of any other value, which begin where the whole does
abbrev pub IsWritten : Act → Value → Written → Type 0
IsWritten a v (written.Tuple vs) = (h : Head) × (operation_of a ≡ Tuple_of) × (v ≡ Parts h (values_of vs.now))
IsWritten a v (written.Record fs n) = (vs : Values) × (operation_of a ≡ Record_of (texts fs.now)) × (v ≡ Parts (head.Record n) vs)
IsWritten a v written.Other = (N : Names) (mark : Place) (ts : Terms Ref BindId) (at : ℕ) → starts N (Strict (operation_of a) mark ts) at v ≡ each_at at (components v)
