-- What one part of an index leaves of a level.
use Rattle.std.specs.Prelude.{ℕ, ◌+◌, Bool, true, false, Option, Some, None}
use Rattle.fut_scalar.specs.declared.place.BindId.{BindId}
use Rattle.fut_flat.specs.declared.act.Part.{Part}
use Rattle.fut_flat.specs.declared.act.Part.TheVariants as part
use Rattle.fut_flat.specs.declared.prim.Ref.{Ref}
use Rattle.fut_flat.specs.Terms.{Terms, term_and}
use Rattle.sized_types.specs.Sizes.{Unknown, Dim, At}
use Rattle.fut_sizes.specs.Operations.{is_literal, slice_size, value_of}

abbrev pub one_if : Bool → ℕ
one_if true = 1
one_if false = 0

-- how many operands it takes
abbrev pub taken_by : Part → ℕ
taken_by part.At = 1
taken_by part.Backwards = 0
taken_by (part.Slice from to) = one_if from + one_if to

-- the size of a slice that has the operands that it takes
abbrev pub sliced : ℕ → ℕ → Bool → Bool → Terms Ref BindId → Dim → Dim
sliced n i false false es d = d
sliced n i false true (term_and e es) d = At (value_of n i e)
sliced n i true true (term_and e (term_and f es)) d = At (slice_size n i (is_literal 0 e) f)
sliced n i from to es d = At (Unknown n i)

-- an index leaves no level
abbrev pub level_left : ℕ → ℕ → Part → Terms Ref BindId → Dim → Option Dim
level_left n i part.At es d = None
level_left n i part.Backwards es d = Some d
level_left n i (part.Slice from to) es d = Some (sliced n i from to es d)
