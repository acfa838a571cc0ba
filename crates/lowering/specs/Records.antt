-- Parts of tuples and fields of records, as what is known of them.
use Rattle.std.specs.Prelude.{ℕ, suc, List, [], ◌∷◌, ◌++◌, cond, decimal, Option, Some, None}
use Rattle.std.specs.Str.{bytes_eq}
use Rattle.fut_ast.specs.Sorts.{Text}
use Rattle.fut_value.specs.Data.{Shape, Named_shapes, no_named_shape, named_shape_and}
use Rattle.fut_meaning.specs.Knowns.{with_some}
use Rattle.core_ir.specs.declared.block.Atom.{Atom}
use Rattle.lowering.specs.Knowns.{Known}

-- the parts of a tuple are named by their positions, from `k` on
abbrev pub part_from : ℕ → Text → List Known → Option Known
part_from k f [] = None
part_from k f (s ∷ ss) = cond (bytes_eq (decimal k) f) (Some s) (part_from (suc k) f ss)

abbrev pub field : Text → Named_shapes → List Known → Option Known
field f no_named_shape ks = None
field f (named_shape_and g h hs) [] = None
field f (named_shape_and g h hs) (k ∷ ks) = cond (bytes_eq g f) (Some k) (field f hs ks)

abbrev pub some_fields : List Text → Named_shapes → List Known → Option (List Known)
some_fields [] hs ks = Some []
some_fields (f ∷ fs) hs ks = with_some (field f hs ks) (λ k. with_some (some_fields fs hs ks) (λ rest. Some (k ∷ rest)))

-- the names of fields, with their types
abbrev pub named_shapes : List Text → List Shape → Named_shapes
named_shapes [] hs = no_named_shape
named_shapes (f ∷ fs) [] = no_named_shape
named_shapes (f ∷ fs) (h ∷ hs) = named_shape_and f h (named_shapes fs hs)

-- with another type for a field, and other atoms
abbrev pub replaced_type : Text → Shape → Named_shapes → Named_shapes
replaced_type f h no_named_shape = no_named_shape
replaced_type f h (named_shape_and g k hs) = cond (bytes_eq g f) (named_shape_and g h hs) (named_shape_and g k (replaced_type f h hs))

abbrev pub all_atoms : List Known → List Atom
all_atoms [] = []
all_atoms (k ∷ ks) = k.atoms ++ all_atoms ks

abbrev pub replaced_atoms : Text → List Atom → Named_shapes → List Known → List Atom
replaced_atoms f us no_named_shape ks = all_atoms ks
replaced_atoms f us (named_shape_and g h hs) [] = []
replaced_atoms f us (named_shape_and g h hs) (k ∷ ks) = cond (bytes_eq g f) (us ++ all_atoms ks) (k.atoms ++ replaced_atoms f us hs ks)
