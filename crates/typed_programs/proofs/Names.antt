-- Numbers that rise.
use Rattle.std.proofs.Common.{ℕ, zero, suc, ◌<◌, ◌≤◌, List, [], ◌∷◌, length, slice_index_or, sym, subst, arith}
use native.Mathlib.Decide.{ℕ_discrete}
use Rattle.std.specs.List.{All}
use Rattle.fut_flat.specs.declared.program.Definition.{Definition}
use Rattle.type_soundness.specs.Programs.{None_has, One_each}
use Rattle.typed_programs.specs.Built.{Numbers_rise}
use Rattle.typed_programs.proofs.FormLaws.{first_of, others}

-- of the first `n` each is below the next
abbrev pub Steps_up : ℕ → List Definition → Type 0
Steps_up n ds = (k : ℕ) (d : Definition) → suc k < n → (slice_index_or ds k d).bind.0 < (slice_index_or ds (suc k) d).bind.0

pub rising : (ds : List Definition) (n : ℕ) → length ds ≤ n → Steps_up n ds → Numbers_rise ds
rising ds n all steps i zero d lt within = absurd (omega arith)
rising ds n all steps i (suc j) d lt within = elim (ℕ_discrete i j) as (λ x. (slice_index_or ds i d).bind.0 < (slice_index_or ds (suc j) d).bind.0) [
  | yes e ↦ subst (λ k. (slice_index_or ds k d).bind.0 < (slice_index_or ds (suc j) d).bind.0) (sym e) (steps j d (omega arith))
  | no ne ↦ let before : (slice_index_or ds i d).bind.0 < (slice_index_or ds j d).bind.0 = rising ds n all steps i j d (omega arith) (omega arith) in let next : (slice_index_or ds j d).bind.0 < (slice_index_or ds (suc j) d).bind.0 = steps j d (omega arith) in omega arith
]

later : (k : ℕ) (ds : List Definition) → All (λ (e : Definition). k < e.bind.0) ds → None_has k ds
later k [] h = tt
later k (d ∷ ds) h = ((λ e. let lt : k < d.bind.0 = first_of (λ (e : Definition). k < e.bind.0) d ds h in omega arith), later k ds (others (λ (e : Definition). k < e.bind.0) d ds h))

-- so each has a number of its own
pub once_each : (ds : List Definition) → Numbers_rise ds → One_each ds
once_each [] h = tt
once_each (d ∷ ds) h = (later d.bind.0 ds (λ k e lt. h 0 (suc k) e (omega arith) (omega arith)), once_each ds (λ i j e lt within. h (suc i) (suc j) e (omega arith) (omega arith)))
