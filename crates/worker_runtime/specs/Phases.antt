-- What a phase over all elements gives, in the words of the copying meaning: `staged` is its function over the whole list, a
-- reduction is a tight tree over the values, and a scan one for each beginning, chosen apart.
use Rattle.std.specs.Prelude.{◌≡◌, ℕ, ◌<◌, ◌≤◌, List, [], ◌∷◌, true}
use Rattle.fut_meaning.specs.Outcomes.{Val, Fail, Then, Bracket}
use Rattle.outcomes.specs.Stages.{staged, Fails_at}
use Rattle.outcomes.specs.Trees.{all_of, beginnings}
use Rattle.phase_code.specs.declared.outcome.Chunk.{Chunk}
use Rattle.phase_code.specs.declared.outcome.Chunk.TheVariants.{Came, Failed}
use Rattle.phase_code.specs.Ranges.{Function, Monoid, range, Fault_of, Never, Fold_fails, Beginning_fails}

-- the rows of all elements in order, or the report of the least failing element of the least failing stage
abbrev pub Is_map : {A W : Type 0} → (W → List A) → Function A → ℕ → Chunk W → Type 0
Is_map rows fn count (Came made) = (f : ℕ) × (made.handed ≤ f) × staged fn.means 0 fn.stages (range fn.row 0 count) (Val (rows made.words)) f
Is_map rows fn count (Failed fault) = Fault_of fn Never 0 count fault × (f : ℕ) × staged fn.means 0 fn.stages (range fn.row 0 count) (Fail fault.report) f

-- one row: a reduction of the values; or a failure of a stage, or of the operator where no stage fails
abbrev pub Is_reduce : {A W : Type 0} → (W → List A) → Function A → Monoid A → ℕ → Chunk W → Type 0
Is_reduce {A} rows fn m count (Came made) = (v : A) × (rows made.words ≡ v ∷ []) × (f : ℕ) × (made.handed ≤ f) × Then (staged fn.means 0 fn.stages (range fn.row 0 count)) (Bracket true m.op m.neutral) (Val v) f
Is_reduce rows fn m count (Failed fault) = Fault_of fn (Fold_fails m) 0 count fault × (f : ℕ) × Then (staged fn.means 0 fn.stages (range fn.row 0 count)) (Bracket true m.op m.neutral) (Fail fault.report) f

-- a row for each value: a reduction of those up to it; or a failure, as of a reduction
abbrev pub Is_scan : {A W : Type 0} → (W → List A) → Function A → Monoid A → ℕ → Chunk W → Type 0
Is_scan rows fn m count (Came made) = (f : ℕ) × (made.handed ≤ f) × Then (staged fn.means 0 fn.stages (range fn.row 0 count)) (λ ys. all_of (Bracket true m.op m.neutral) (beginnings [] ys)) (Val (rows made.words)) f
Is_scan rows fn m count (Failed fault) = Fault_of fn (Beginning_fails m) 0 count fault × (f : ℕ) × Then (staged fn.means 0 fn.stages (range fn.row 0 count)) (λ ys. all_of (Bracket true m.op m.neutral) (beginnings [] ys)) (Fail fault.report) f
