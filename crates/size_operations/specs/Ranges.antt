-- The sizes of ranges, by how many parts are written.
use Rattle.std.specs.Prelude.{ℕ, suc, Bool}
use Rattle.fut_scalar.specs.declared.place.BindId.{BindId}
use Rattle.fut_flat.specs.declared.prim.Ref.{Ref}
use Rattle.fut_flat.specs.Terms.{Terms, no_term, term_and}
use Rattle.sized_types.specs.Sizes.{Free, Unknown}
use Rattle.fut_sizes.specs.Operations.{both, is_literal, range_size}

-- from 0 by one
abbrev pub counted : Bool → ℕ → Terms Ref BindId → Free
counted i64 n (term_and x (term_and z no_term)) = range_size n (both i64 (is_literal 0 x)) z
counted i64 n es = Unknown n 0

-- from a start, and to the next
abbrev pub stepping : Bool → ℕ → ℕ → Terms Ref BindId → Free
stepping i64 n c (term_and x (term_and y (term_and z no_term))) = range_size n (both i64 (both (is_literal c x) (is_literal (suc c) y))) z
stepping i64 n c es = Unknown n 0
