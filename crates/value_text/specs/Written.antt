-- What the spelling of an empty array says, behind the word `empty`: the sizes of its dimensions, and the type of its scalars.
use Rattle.std.specs.Prelude.{ℕ, zero, suc, ◌+◌, ◌^◌, Bool, false, cond, min, nat_lt, ◌==◌, ◌||◌, List, [], ◌∷◌, length, map, take, drop, Option, Some, None, Result, Ok, Err, codes}
use Rattle.fut_scalar.specs.declared.scalar.IntType.{IntType}
use Rattle.fut_scalar.specs.declared.scalar.ScalarType.{ScalarType}
use Rattle.fut_scalar.specs.declared.scalar.ScalarType.TheVariants as sort
use Rattle.value_text.specs.Empties.{digit_len, dimension}
use Rattle.value_text.specs.Gaps.{gap_at}
use Rattle.value_text.specs.Numbers.{value_on}
use Rattle.value_text.specs.Reading.{may_be}
use Rattle.value_text.specs.Words.{is_word, type_at}
use Rattle.value_text.specs.declared.numbers.Base.TheVariants.{Decimal}

-- sizes are below this; from it on all count as it
abbrev pub size_limit : ℕ
size_limit = 2 ^ 63

-- the size that the digits at the front stand for
unfoldable pub size_at : List ℕ → ℕ
size_at bytes = min (value_on Decimal 0 (take (digit_len bytes) bytes)) size_limit

-- where the digits of a dimension begin, behind its bracket
unfoldable pub digits_from : List ℕ → ℕ
digits_from bytes = gap_at bytes + 1 + gap_at (drop (gap_at bytes + 1) bytes)

-- a size, and where its digits begin
pub record Dimension : Type 0 where
  pub from : ℕ
  pub size : ℕ

abbrev pub dimension_from : (offset : ℕ) → List ℕ → Dimension
dimension_from offset bytes = record { from = offset + digits_from bytes; size = size_at (drop (digits_from bytes) bytes) }

-- dimensions from this offset on, and where they end
pub record Dimensions : Type 0 where
  pub all : List Dimension
  pub end : ℕ

abbrev pub with_dimension : Dimension → Dimensions → Dimensions
with_dimension d ds = record { all = d ∷ ds.all; end = ds.end }

abbrev pub if_dimension : (offset : ℕ) → Result ℕ ℕ → (ℕ → Dimensions) → Dimensions
if_dimension offset (Ok n) next = next n
if_dimension offset (Err n) next = record { all = []; end = offset }

abbrev pub dimensions_in : (most offset : ℕ) → List ℕ → Dimensions
dimensions_in zero offset bytes = record { all = []; end = offset }
dimensions_in (suc n) offset bytes = if_dimension offset (dimension bytes) (λ k. with_dimension (dimension_from offset bytes) (dimensions_in n (offset + k) (drop k bytes)))

-- no text has more dimensions than bytes
unfoldable pub written : List ℕ → Dimensions
written bytes = dimensions_in (length bytes) 0 bytes

abbrev pub sizes_of : List Dimension → List ℕ
sizes_of = map (λ d. d.size)

-- where the first size stands that is too great
abbrev pub first_beyond : List Dimension → Option ℕ
first_beyond [] = None
first_beyond (d ∷ ds) = cond (nat_lt d.size size_limit) (first_beyond ds) (Some d.from)

-- where it stands, if one of this size is behind those before
abbrev pub beyond_at : Option ℕ → (size from : ℕ) → Option ℕ
beyond_at (Some other) size from = Some other
beyond_at None size from = cond (nat_lt size size_limit) None (Some from)

abbrev pub has_zero : List ℕ → Bool
has_zero [] = false
has_zero (n ∷ ns) = n == 0 || has_zero ns

-- whether the type that is named at the front is this one
abbrev pub is_int : IntType → Option IntType → Bool
is_int ty None = false
is_int ty (Some named) = may_be ty (Some named)

unfoldable pub names_type : ScalarType → List ℕ → Bool
names_type (sort.Int ty) bytes = is_int ty (type_at bytes)
names_type sort.Bool bytes = is_word bytes (codes "bool")
