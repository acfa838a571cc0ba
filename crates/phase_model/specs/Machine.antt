-- The machine: workers that draw chunks and do the pairs of their chunks, one atomic step at a time.
use Rattle.std.specs.Prelude.{◌≡◌, ℕ, ◌+◌, ◌<◌, ◌≤◌, min, Bool, true, false, List, [], ◌∷◌, ◌++◌, length, flat_map, Any, All, set, nat_lt, if◌then◌else◌}
use Rattle.std.specs.List.{range_with_len}
use mathlib.Core.Option.{some}
use lib.ListN.{get_elem?}
use Rattle.phase_model.specs.declared.Pair.{Pair}
use Rattle.phase_model.specs.declared.Event.{Event}
use Rattle.phase_model.specs.declared.Event.TheVariants.{Fork, Join, Draw, Put, Claim, Combine}
use Rattle.phase_model.specs.Kept.{DrawnOnce, EachChunkOnce, DoneOnce, stores, done}
use Rattle.phase_model.specs.Laws.{OldOrStored, LeastClaimed, EachCombined}

-- what the step of a pair is: a store, the least of both words, or a combination of both
pub data Kind : Type 0 where
  puts : Kind
  claims : Kind
  combines : (ℕ → ℕ → ℕ) → Kind

-- what the step makes of a word and the pair's
abbrev pub op_of : Kind → ℕ → ℕ → ℕ
op_of puts = stores
op_of claims = min
op_of (combines f) = f

-- the chunks with their pairs, and the words of the destination at the start
pub record Job : Type 0 where
  pub kind : Kind
  pub chunks : ℕ
  pub pairs : ℕ → List Pair
  pub old : List ℕ

-- a number past the chunks has no pairs
abbrev pub pairs_of : Job → ℕ → List Pair
pairs_of job n = if nat_lt n job.chunks then job.pairs n else []

-- every pair of the job
abbrev pub all_pairs : Job → List Pair
all_pairs job = flat_map job.pairs (range_with_len 0 job.chunks)

-- the numbers drawn, the pairs done, and the pairs of the chunk drawn last that are still to be done
pub record Worker : Type 0 where
  pub numbers : List ℕ
  pub pairs : List Pair
  pub open_pairs : List Pair
  pub spent : Bool

-- the destination, the number that is drawn next, and the workers by number
pub record State : Type 0 where
  pub words : List ℕ
  pub draw : ℕ
  pub workers : List Worker

-- one that has done nothing
abbrev pub fresh : Worker
fresh = record { numbers = []; pairs = []; open_pairs = []; spent = false }

-- one that another took in
abbrev pub gone : Worker
gone = record { numbers = []; pairs = []; open_pairs = []; spent = true }

abbrev pub begins : Job → State
begins job = record { words = job.old; draw = 0; workers = fresh ∷ [] }

-- the worker i is not spent, and is w
abbrev pub Works : State → ℕ → Worker → Type 0
Works s i w = (get_elem? s.workers i ≡ some w) × (w.spent ≡ false)

-- a number at or past the chunks was drawn, and no pair is left
abbrev pub Through : Job → Worker → Type 0
Through job w = (w.open_pairs ≡ []) × Any (λ n. job.chunks ≤ n) w.numbers

-- the next pair of the worker i is done
abbrev pub Does : Job → State → ℕ → State → Type 0
Does job s i t = (w : Worker) × (p : Pair) × (rest : List Pair) × Works s i w × (w.open_pairs ≡ p ∷ rest)
    × (t ≡ record { words = done (op_of job.kind) s.words p; draw = s.draw; workers = set s.workers i (record { numbers = w.numbers; pairs = w.pairs ++ p ∷ []; open_pairs = rest; spent = false }) })

-- one event takes the state s to t; where it takes it to no state it is impossible there.
-- A worker draws when it has no pair left to do and has had no number past the chunks, and is taken in by another when it is through
abbrev pub Steps : Job → State → Event → State → Type 0
Steps job s (Fork i) t = (w : Worker) × Works s i w × (t ≡ record { words = s.words; draw = s.draw; workers = s.workers ++ fresh ∷ [] })
Steps job s (Join i j) t = (w : Worker) × (v : Worker) × Works s i w × Works s j v × (i ≡ j → ⊥) × Through job v
    × (t ≡ record { words = s.words; draw = s.draw; workers = set (set s.workers i (record { numbers = w.numbers ++ v.numbers; pairs = w.pairs ++ v.pairs; open_pairs = w.open_pairs; spent = false })) j gone })
Steps job s (Draw i) t = (w : Worker) × Works s i w × (w.open_pairs ≡ []) × All (λ n. n < job.chunks) w.numbers
    × (t ≡ record { words = s.words; draw = s.draw + 1; workers = set s.workers i (record { numbers = w.numbers ++ s.draw ∷ []; pairs = w.pairs; open_pairs = pairs_of job s.draw; spent = false }) })
Steps job s (Put i) t = (job.kind ≡ puts) × Does job s i t
Steps job s (Claim i) t = (job.kind ≡ claims) × Does job s i t
Steps job s (Combine i) t = ((f : ℕ → ℕ → ℕ) × (job.kind ≡ combines f)) × Does job s i t

-- a list of events, one after the other
abbrev pub Runs : Job → State → List Event → State → Type 0
Runs job s [] t = s ≡ t
Runs job s (e ∷ es) t = (u : State) × Steps job s e u × Runs job u es t

-- the rule. A spent worker's lists are empty: they stand in the worker that took it in
pub record Kept (job : Job) (s : State) : Type 0 where
  pub drawn : DrawnOnce s.draw (flat_map (λ w. w.numbers) s.workers)
  pub pairs_done : DoneOnce (op_of job.kind) job.old s.words (flat_map (λ w. w.pairs) s.workers)

-- one worker is left, and it is through
abbrev pub Ended : Job → State → Type 0
Ended job s = (i : ℕ) × (w : Worker) × Works s i w × Through job w × ((j : ℕ) (v : Worker) → get_elem? s.workers j ≡ some v → (j ≡ i → ⊥) → v.spent ≡ true)

-- each chunk was drawn once, and each pair of the job was done once
pub record Outcome (job : Job) (s : State) : Type 0 where
  pub chunks_once : EachChunkOnce job.chunks (flat_map (λ w. w.numbers) s.workers)
  pub pairs_once : DoneOnce (op_of job.kind) job.old s.words (all_pairs job)

-- every state that a run reaches keeps the rule
abbrev pub AlwaysKept : Job → Type 0
AlwaysKept job = (events : List Event) (s : State) → Runs job (begins job) events s → Kept job s

-- a run that has ended is an outcome
abbrev pub EndedRun : Job → Type 0
EndedRun job = (events : List Event) (s : State) → Runs job (begins job) events s → Ended job s → Outcome job s

abbrev pub EachWord : Kind → List ℕ → List ℕ → List Pair → Type 0
EachWord puts old words pairs = OldOrStored old words pairs
EachWord claims old words pairs = LeastClaimed old words pairs
EachWord (combines f) old words pairs = EachCombined f old words pairs

-- where pairs were done once each, there are as many words as before, and each is what the kind of the steps says
abbrev pub WordsFollow : Kind → Type 0
WordsFollow kind = (old words : List ℕ) (pairs : List Pair) → DoneOnce (op_of kind) old words pairs → (length words ≡ length old) × EachWord kind old words pairs
