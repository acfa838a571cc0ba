-- What the form of a node says of its type.
use Rattle.std.specs.Prelude.{ℕ, ◌==◌, Option, Some, None, if◌then◌else◌}
use Rattle.fut_scalar.specs.declared.scalar.IntType.{IntType}
use Rattle.fut_scalar.specs.declared.scalar.IntType.TheVariants as int
use Rattle.fut_scalar.specs.declared.scalar.ScalarType.{ScalarType}
use Rattle.fut_scalar.specs.declared.scalar.ScalarType.TheVariants as scalar
use Rattle.fut_types.specs.declared.Head.TheVariants as head
use Rattle.fut_types.specs.declared.Kind.TheVariants as kind
use Rattle.type_graph.specs.declared.Form.{Form}
use Rattle.type_graph.specs.declared.Form.TheVariants as form

-- the integer type that is made like that, and i32 if none is. No graph that inference makes has an integer type with parts,
-- or a type parameter that stands for integers alone
abbrev pub integer_form : Form → Option IntType
integer_form (form.Made (head.Scalar (scalar.Int t)) x n) = if n == 0 then Some t else None
integer_form (form.Made (head.Rigid b kind.Integer) x n) = None
integer_form f = Some int.I32

-- the scalar type
abbrev pub scalar_form : Form → Option ScalarType
scalar_form (form.Made (head.Scalar s) x n) = if n == 0 then Some s else None
scalar_form f = None

-- of a function, the node of its parameter's type; behind it stands that of its result's
abbrev pub function_form : Form → Option ℕ
function_form (form.Made head.Fun x n) = if n == 2 then Some x else None
function_form f = None

-- of an array, the node of its rows' type
abbrev pub array_form : Form → Option ℕ
array_form (form.Made head.Array x n) = if n == 1 then Some x else None
array_form f = None

-- of a tuple, the first node of its parts, and how many there are
abbrev pub tuple_form : Form → Option (ℕ × ℕ)
tuple_form (form.Made head.Tuple x n) = Some (x, n)
tuple_form f = None
