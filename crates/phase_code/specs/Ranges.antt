-- What may come of a range of the elements of a phase, told of the rows that its function gives, whatever words they lie in.
-- `rows` says which rows words have.
use Rattle.std.specs.Prelude.{◌≡◌, ℕ, ◌+◌, ◌-◌, ◌*◌, ◌<◌, ◌≤◌, min, List, [], ◌∷◌, map}
use Rattle.std.specs.List.{range_with_len}
use Rattle.fut_scalar.specs.declared.report.Report.{Report}
use Rattle.fut_meaning.specs.Outcomes.{Rel, Val, Fail}
use Rattle.outcomes.specs.Stages.{Stages, Fails_at, Ends_with}
use Rattle.outcomes.specs.Trees.{Operator, Reduced, Scanned, Scan_fails, Carried, Carry_fails}
use Rattle.phase_code.specs.declared.outcome.Made.{Made}
use Rattle.phase_code.specs.declared.outcome.StageFault.{StageFault}
use Rattle.phase_code.specs.declared.outcome.Chunk.{Chunk}
use Rattle.phase_code.specs.declared.outcome.Chunk.TheVariants.{Came, Failed}
use Rattle.phase_code.specs.declared.outcome.Applied.{Applied}
use Rattle.phase_code.specs.declared.outcome.Applied.TheVariants.{Gave, Broke}

-- a function of one or more stages: for how many elements it may be run, the row that the first stage gets for an element,
-- how many stages there are, and what each may give
pub record Function (A : Type 0) : Type 1 where
  pub count : ℕ
  pub row : ℕ → A
  pub stages : ℕ
  pub means : Stages A

-- an operator with its neutral row
pub record Monoid (A : Type 0) : Type 1 where
  pub op : Operator A
  pub neutral : A

-- what the first stage gets for the elements from lo up to hi
abbrev pub range : {A : Type 0} → (ℕ → A) → ℕ → ℕ → List A
range row lo hi = map row (range_with_len lo (hi - lo))

-- chunk c has the elements from c * size up to the next chunk, or to the end
abbrev pub chunk_end : ℕ → ℕ → ℕ → ℕ
chunk_end size count c = min count (c * size + size)

-- all stages have values, and the words are K of these, by counts that add up to at least what was handed out
abbrev pub Came_to : {A W : Type 0} → (W → List A) → Function A → (List A → List A → ℕ → Type 0) → ℕ → ℕ → Made W → Type 0
Came_to rows fn K lo hi made = (h : ℕ) × (made.handed ≤ h) × Ends_with fn.means (K (rows made.words)) 0 fn.stages (range fn.row lo hi) h

-- the stage is the least that fails, and the report that of its least failing element; or all stages have values, and what is
-- made of these fails as F says, where the element tells nothing
abbrev pub Fault_of : {A : Type 0} → Function A → (List A → Report → Type 0) → ℕ → ℕ → StageFault → Type 0
Fault_of fn F lo hi fault = (e : ℕ) × (fault.stage < fn.stages → fault.element ≡ lo + e) × Fails_at fn.means F 0 fn.stages (range fn.row lo hi) fault.stage e fault.report

abbrev pub Went : {A W : Type 0} → (W → List A) → Function A → (List A → List A → ℕ → Type 0) → (List A → Report → Type 0) → ℕ → ℕ → Chunk W → Type 0
Went rows fn K F lo hi (Came made) = Came_to rows fn K lo hi made
Went rows fn K F lo hi (Failed fault) = Fault_of fn F lo hi fault

-- ---- what is made of the values

-- the rows are the values
abbrev pub Kept : {A : Type 0} → List A → List A → ℕ → Type 0
Kept words ys a = (ys ≡ words) × (a ≡ 0)

abbrev pub Never : {A : Type 0} → List A → Report → Type 0
Never ys r = ⊥

-- one row: that of a slim tree over all values
abbrev pub Folded : {A : Type 0} → Monoid A → List A → List A → ℕ → Type 0
Folded {A} m us ys a = (v : A) × (us ≡ v ∷ []) × (f : ℕ) × (a ≤ f) × Reduced m.op m.neutral ys (Val v) f

-- some slim tree over all values has this report
abbrev pub Fold_fails : {A : Type 0} → Monoid A → List A → Report → Type 0
Fold_fails m ys r = (f : ℕ) × Reduced m.op m.neutral ys (Fail r) f

-- for each value the row of a slim tree over those up to it
abbrev pub Scanned_to : {A : Type 0} → Monoid A → List A → List A → ℕ → Type 0
Scanned_to m words ys a = (f : ℕ) × (a ≤ f) × Scanned m.op m.neutral [] ys words f

-- some slim tree over a beginning of the values has this report
abbrev pub Beginning_fails : {A : Type 0} → Monoid A → List A → Report → Type 0
Beginning_fails m ys r = Scan_fails m.op m.neutral ys r

-- ---- applications of an operator

-- one row, by a count of at least what was handed out, or a report
abbrev pub Gives : {A W : Type 0} → (W → List A) → Rel A → Applied W → Type 0
Gives {A} rows m (Gave made) = (v : A) × (rows made.words ≡ v ∷ []) × (f : ℕ) × (made.handed ≤ f) × m (Val v) f
Gives rows m (Broke r) = (f : ℕ) × m (Fail r) f

-- the operator was applied to the one row of each
abbrev pub Applies_to : {A W : Type 0} → (W → List A) → Monoid A → List A → List A → Applied W → Type 0
Applies_to {A} rows m us vs applied = (u v : A) → us ≡ u ∷ [] → vs ≡ v ∷ [] → Gives rows (m.op u v) applied

-- the row of a slim tree over these rows, or the report of one
abbrev pub Fold_gives : {A W : Type 0} → (W → List A) → Monoid A → List A → Applied W → Type 0
Fold_gives {A} rows m ws (Gave made) = (v : A) × (rows made.words ≡ v ∷ []) × (f : ℕ) × (made.handed ≤ f) × Reduced m.op m.neutral ws (Val v) f
Fold_gives rows m ws (Broke r) = Fold_fails m ws r

-- for each row that of a slim tree over those up to it, or the report of one
abbrev pub Scan_gives : {A W : Type 0} → (W → List A) → Monoid A → List A → Applied W → Type 0
Scan_gives rows m ws (Gave made) = (f : ℕ) × (made.handed ≤ f) × Scanned m.op m.neutral [] ws (rows made.words) f
Scan_gives rows m ws (Broke r) = Beginning_fails m ws r

-- the operator was applied to the one row of the carry and each row
abbrev pub Carry_gives : {A W : Type 0} → (W → List A) → Monoid A → List A → List A → Applied W → Type 0
Carry_gives {A} rows m cs ws (Gave made) = (c : A) → cs ≡ c ∷ [] → (f : ℕ) × (made.handed ≤ f) × Carried m.op c ws (rows made.words) f
Carry_gives {A} rows m cs ws (Broke r) = (c : A) → cs ≡ c ∷ [] → Carry_fails m.op c ws r
