-- Sizes that parameters agree on: after reading, the parameters are taken in order. A name has the value of the parameter or
-- size that first gives it, and a written number is read as an i64; the first size that is another one is refused.
use Rattle.std.specs.Prelude.{ℕ, ◌+◌, Bool, false, cond, ◌==◌, ℤ, pos, negsuc, List, [], ◌∷◌, Option, Some, None, Result, Ok, Err}
use Rattle.std.specs.Int.{w64, cast_signed}
use Rattle.fut_scalar.specs.declared.place.BindId.{BindId}
use Rattle.fut_scalar.specs.declared.scalar.IntType.TheVariants.{I64}
use Rattle.fut_scalar.specs.declared.scalar.ScalarType.{ScalarType}
use Rattle.fut_scalar.specs.declared.scalar.ScalarType.TheVariants as sort
use Rattle.fut_scalar.specs.declared.sizes.ArgType.{ArgType}
use Rattle.fut_scalar.specs.declared.sizes.Dim.{Dim}
use Rattle.fut_scalar.specs.declared.sizes.Dim.TheVariants as dim
use Rattle.fut_value.specs.Values.{first_word}
use Rattle.fut_value.specs.declared.value.Value.{Value}
use Rattle.value_text.specs.Arrays.{and_then}
use Rattle.value_text.specs.declared.reading.TextErr.{TextErr}
use Rattle.value_text.specs.declared.reading.TextErr.TheVariants as text

-- what names stand for
abbrev pub Known : Type 0
Known = List (ℕ × ℤ)

abbrev pub found : (name : ℕ) → Known → Option ℤ
found name [] = None
found name (k ∷ known) = cond (k.0 == name) (Some k.1) (found name known)

abbrev pub gives : (name : ℕ) → ℤ → Known → Option ℤ → Known
gives name value known None = (name, value) ∷ known
gives name value known (Some other) = known

abbrev pub is_size : ℤ → ℕ → Bool
is_size (pos n) have = n == have
is_size (negsuc n) have = false

abbrev pub agreed : (param have : ℕ) → ℤ → Known → Result Known TextErr
agreed param have want known = cond (is_size want have) (Ok known) (Err (text.SizeClash param have want))

abbrev pub for_name : (param have name : ℕ) → Known → Option ℤ → Result Known TextErr
for_name param have name known (Some want) = agreed param have want known
for_name param have name known None = Ok ((name, pos have) ∷ known)

-- a size that stands for one of the parameter's
abbrev pub size_for : (param : ℕ) → Dim → (have : ℕ) → Known → Result Known TextErr
size_for param (dim.Const n) have known = agreed param have (cast_signed w64 n) known
size_for param (dim.Name name) have known = for_name param have name.0 known (found name.0 known)
size_for param (dim.Unknown node k) have known = Ok known

abbrev pub sizes_for : (param : ℕ) → List Dim → List ℕ → Known → Result Known TextErr
sizes_for param [] ns known = Ok known
sizes_for param (d ∷ ds) [] known = Ok known
sizes_for param (d ∷ ds) (n ∷ ns) known = and_then (size_for param d n known) (λ more. sizes_for param ds ns more)

-- a scalar of type i64 gives its name its value
abbrev pub named_value : ScalarType → List Dim → Option BindId → ℤ → Known → Known
named_value (sort.Int I64) [] (Some name) value known = gives name.0 value known (found name.0 known)
named_value ty dims name value known = known

abbrev pub value_for : (param : ℕ) → ArgType → Value → Known → Result Known TextErr
value_for param wanted value known =
    and_then (sizes_for param wanted.dims value.shape.sizes known) (λ more. Ok (named_value wanted.elem wanted.dims wanted.name (cast_signed w64 (first_word value.words)) more))

-- the values of parameters, of which the first has this number
abbrev pub values_for : (param : ℕ) → List ArgType → List Value → Known → Result Known TextErr
values_for param [] values known = Ok known
values_for param (t ∷ ts) [] known = Ok known
values_for param (t ∷ ts) (v ∷ vs) known = and_then (value_for param t v known) (λ more. values_for (param + 1) ts vs more)
