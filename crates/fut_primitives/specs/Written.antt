-- The types of primitives as the language's table writes them, with sizes and stars, and the notation for them.
use Rattle.std.specs.Prelude.{ℕ, suc, List, [], ◌∷◌}
use Rattle.fut_scalar.specs.declared.scalar.ScalarType.{ScalarType}
use Rattle.fut_scalar.specs.declared.scalar.ScalarType.TheVariants as scalar
use Rattle.fut_scalar.specs.declared.scalar.IntType.TheVariants as int
use Rattle.fut_primitives.specs.declared.written.Letter.{Letter}
use Rattle.fut_primitives.specs.declared.written.Letter.TheVariants as letter
use Rattle.fut_primitives.specs.declared.written.Size.{Size}
use Rattle.fut_primitives.specs.declared.written.Size.TheVariants as size
use Rattle.fut_primitives.specs.declared.written.Written as held

pub data Written : Type 0 where
  Variable : Letter → Written
  Scalar : ScalarType → Written
  -- the scalar type whose member the primitive is, and the one that a conversion is from
  Own : Written
  From : Written
  Array : Size → Written → Written
  -- a fresh result, or a parameter that is consumed
  Unique : Written → Written
  Pair : Written → Written → Written
  Triple : Written → Written → Written → Written
  -- a parameter that is a size of what stands behind it
  Named : Size → Written → Written
  Function : Written → Written → Written

-- ---- notation

infixr 20 ◌⇒◌
abbrev pub ◌⇒◌ : Written → Written → Written
from ⇒ to = Function from to

infixr 30 ⟦◌⟧◌
abbrev pub ⟦◌⟧◌ : Size → Written → Written
⟦ n ⟧ t = Array n t

infixr 30 *◌
abbrev pub *◌ : Written → Written
* t = Unique t

infixr 30 ◌∶◌
abbrev pub ◌∶◌ : Size → Written → Written
n ∶ t = Named n t

abbrev pub pair : Written → Written → Written
pair s t = Pair s t

abbrev pub triple : Written → Written → Written → Written
triple s t u = Triple s t u

abbrev pub a : Written
a = Variable letter.A

abbrev pub b : Written
b = Variable letter.B

abbrev pub c : Written
c = Variable letter.C

abbrev pub d : Written
d = Variable letter.D

abbrev pub e : Written
e = Variable letter.E

abbrev pub f : Written
f = Variable letter.F

abbrev pub t : Written
t = Own

abbrev pub u : Written
u = From

abbrev pub bool : Written
bool = Scalar scalar.Bool

abbrev pub i32 : Written
i32 = Scalar (scalar.Int int.I32)

abbrev pub i64 : Written
i64 = Scalar (scalar.Int int.I64)

abbrev pub n : Size
n = size.N

abbrev pub m : Size
m = size.M

abbrev pub k : Size
k = size.K

abbrev pub unknown : Size
unknown = size.Unknown

-- ---- readings

-- the place of a letter
abbrev pub number : Letter → ℕ
number letter.A = 0
number letter.B = 1
number letter.C = 2
number letter.D = 3
number letter.E = 4
number letter.F = 5

-- how many arguments a function takes; data takes none
abbrev pub arguments : Written → ℕ
arguments (Function _ to) = suc (arguments to)
arguments w = 0

-- the parameters of a function: 0 for data, and for a function how many arguments it takes
abbrev pub parameters : Written → List ℕ
parameters (Function taken to) = arguments taken ∷ parameters to
parameters w = []

-- the type that code holds
abbrev pub written_of : held.Written → Written
written_of (held.Variable x) = Variable x
written_of (held.Scalar s) = Scalar s
written_of held.Own = Own
written_of held.From = From
written_of (held.Array' s p t) = Array s (written_of t)
written_of (held.Unique' p t) = Unique (written_of t)
written_of (held.Pair' p t q u) = Pair (written_of t) (written_of u)
written_of (held.Triple' p t q u r v) = Triple (written_of t) (written_of u) (written_of v)
written_of (held.Named' s p t) = Named s (written_of t)
written_of (held.Function' p t q u) = Function (written_of t) (written_of u)
