-- The sized types, and the types, that trees in the arena are.
use Rattle.std.specs.Prelude.{List, [], ◌∷◌, map}
use Rattle.fut_types.specs.Types.{Ty, Var, Made, Tys, none, more}
use Rattle.sized_types.specs.Sizes.{Free, Const, Name, Own, Unknown, Slot, Dim, At, Bound, Variable, Inferred, Written, Size, Hole, Open, Level, Built, Fun, Sizes, no_size, size_and}
use Rattle.size_arena.specs.declared.dims.Free as frees
use Rattle.size_arena.specs.declared.dims.Free.TheVariants as free
use Rattle.size_arena.specs.declared.dims.Dim as dims
use Rattle.size_arena.specs.declared.dims.Dim.TheVariants as dim
use Rattle.size_arena.specs.declared.dims.Variable as variables
use Rattle.size_arena.specs.declared.dims.Variable.TheVariants as variable
use Rattle.size_arena.specs.declared.trees.SizeTree.{SizeTree, SizeTree-F, fold-SizeTree}
use Rattle.size_arena.specs.declared.trees.SizeTree.TheOpen as size
use Rattle.size_arena.specs.declared.types.TypeTree.{TypeTree, TypeTree-F, fold-TypeTree}
use Rattle.size_arena.specs.declared.types.TypeTree.TheOpen as type

-- ---- sizes and variables

abbrev pub free_of : frees.Free → Free
free_of (free.Const c) = Const c
free_of (free.Name b) = Name b
free_of (free.Own n i) = Own n i
free_of (free.Unknown n i) = Unknown n i
free_of (free.Slot i) = Slot i

abbrev pub dim_of : dims.Dim → Dim
dim_of (dim.At d) = At (free_of d)
dim_of (dim.Bound j i) = Bound j i

abbrev pub variable_of : variables.Variable → Variable
variable_of (variable.Inferred v) = Inferred v
variable_of (variable.Written b k) = Written b k

-- ---- types

unfoldable pub tys : List Ty → Tys
tys [] = none
tys (t ∷ ts) = more t (tys ts)

unfoldable pub type_form : TypeTree-F Ty → Ty
type_form (type.Var v) = Var v
type_form (type.Made height h ts) = Made h (tys ts.now)

unfoldable pub type_of : TypeTree → Ty
type_of t = fold-TypeTree Ty type_form t

unfoldable pub tys_of : List TypeTree → Tys
tys_of ts = tys (map type_of ts)

-- ---- sized types

unfoldable pub sizes : List Size → Sizes
sizes [] = no_size
sizes (t ∷ ts) = size_and t (sizes ts)

unfoldable pub size_form : SizeTree-F Size → Size
size_form (size.Hole v) = Hole (variable_of v)
size_form (size.Open n v u) = Open n (variable_of v) (type_of u.now)
size_form (size.Level height d t) = Level (dim_of d) t.now
size_form (size.Built height h ts) = Built h (sizes ts.now)
size_form (size.Fun height k p r) = Fun k p.now r.now

unfoldable pub size_of : SizeTree → Size
size_of t = fold-SizeTree Size size_form t

-- the parts of one
unfoldable pub sizes_of : List SizeTree → Sizes
sizes_of ts = sizes (map size_of ts)
