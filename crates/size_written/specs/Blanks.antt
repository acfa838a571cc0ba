-- Which sizes stand where none is written.
use Rattle.std.specs.Prelude.{◌≡◌, ℕ, suc, ◌+◌, Option, Some, None}
use Rattle.sized_types.specs.Sizes.{Unknown, Dim, At, Bound}
use Rattle.fut_sizes.specs.WrittenSizes.{same_dim}
use Rattle.size_written.specs.declared.blanks.Inside.{Inside}
use Rattle.size_written.specs.declared.blanks.Purpose.{Purpose}
use Rattle.size_written.specs.declared.blanks.Purpose.TheVariants as purpose

-- inside of a declared result's function types: they are met when it runs
abbrev pub met_behind : ℕ → ℕ → Dim → Dim
met_behind k i d = Bound 0 (suc k + i)

-- for a level in what a function gives whose caller chooses so many sizes, if function types take written sizes
abbrev pub results_of : Purpose → Option (ℕ → ℕ → Dim → Dim)
results_of purpose.Coercion = None
results_of purpose.Parameter = Some (λ k i d. d)
results_of (purpose.Result n) = Some met_behind
results_of purpose.Taken = Some met_behind
results_of (purpose.Given k) = Some met_behind

-- for a level outside of function types
abbrev pub blank_of : Purpose → ℕ → Dim → Dim
blank_of purpose.Coercion = same_dim
blank_of purpose.Parameter = same_dim
blank_of (purpose.Result n) = λ i d. At (Unknown n i)
blank_of purpose.Taken = same_dim
blank_of (purpose.Given k) = met_behind k

-- inside of a function type whose caller chooses k sizes, where function types take written sizes: for what its parameter
-- and its result are written
pub data Inside_of (p : Purpose) (k : ℕ) : Option Inside → Type 0 where
  left_alone : results_of p ≡ None → Inside_of p k None
  goes_inside : {i : Inside} (g : ℕ → ℕ → Dim → Dim) → results_of p ≡ Some g → results_of i.taken ≡ Some g → blank_of i.taken ≡ same_dim → results_of i.given ≡ Some g → blank_of i.given ≡ g k → Inside_of p k (Some i)
