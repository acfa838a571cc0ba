-- The failure that counts among the outcomes of all chunks, or what was made of each.
use Rattle.std.specs.Prelude.{◌≡◌, ℕ, ◌*◌, ◌<◌, ◌≤◌, ◌++◌, List, [], ◌∷◌, length, Option, Some, None}
use Rattle.fut_scalar.specs.declared.report.Report.{Report}
use Rattle.chunk_work.specs.Runs.{InOrder}
use Rattle.phase_code.specs.declared.outcome.Made.{Made}
use Rattle.phase_code.specs.declared.outcome.StageFault.{StageFault}
use Rattle.phase_code.specs.declared.outcome.Chunk.{Chunk}
use Rattle.phase_code.specs.declared.outcome.Chunk.TheVariants.{Came, Failed}
use Rattle.worker_runtime.specs.declared.ranges.AllChunks.{AllChunks}
use Rattle.worker_runtime.specs.declared.ranges.AllChunks.TheVariants.{Parts, Fault}
use Rattle.phase_code.specs.Ranges.{Function, Came_to, Fault_of, chunk_end}

-- of two failures that of the lesser stage counts, and of one stage the first
abbrev pub Fault_with : Option StageFault → StageFault → StageFault → Type 0
Fault_with None b w = w ≡ b
Fault_with (Some a) b w = (a.stage ≤ b.stage → w ≡ a) × (b.stage < a.stage → w ≡ b)

-- one outcome more: what was made joins the parts, and of failures the one that counts is kept
abbrev pub Takes_in : {W : Type 0} → List (Made W) → Option StageFault → Chunk W → List (Made W) → Option StageFault → Type 0
Takes_in old fault (Came made) new f = (new ≡ old ++ made ∷ []) × (f ≡ fault)
Takes_in old fault (Failed b) new f = (new ≡ old) × (w : StageFault) × (f ≡ Some w) × Fault_with fault b w

-- what was made of each chunk, in order
abbrev pub Parts_came : {A W : Type 0} → (W → List A) → Function A → (List A → List A → ℕ → Type 0) → ℕ → ℕ → List (Made W) → Type 0
Parts_came rows fn K size count parts = InOrder (λ c made. Came_to rows fn K (c * size) (chunk_end size count c) made) 0 parts

-- so many chunks cover all elements, and none is empty, so there are no more than elements
abbrev pub Tiled : ℕ → ℕ → ℕ → Type 0
Tiled size count chunks = ((c : ℕ) → c < chunks → c * size < count) × (count ≤ chunks * size) × (chunks ≤ count)

abbrev pub Sifted_as : {A W : Type 0} → (W → List A) → Function A → (List A → List A → ℕ → Type 0) → (List A → Report → Type 0) → ℕ → ℕ → AllChunks W → Type 0
Sifted_as rows fn K F size count (Parts parts) = Tiled size count (length parts.items) × Parts_came rows fn K size count parts.items
Sifted_as rows fn K F size count (Fault fault) = Fault_of fn F 0 count fault
