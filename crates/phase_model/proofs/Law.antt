-- Each event keeps the rule, and an ended run is an outcome.
use Rattle.std.proofs.Common.{◌≡◌, ◌≢◌, ◌-◌, ℕ, zero, suc, ◌+◌, ◌<◌, ◌≤◌, true, false, true≢false, List, [], ◌∷◌, ◌++◌, set, flat_map, nat_lt, sym, refl, ap, ◌∙◌, subst, append_assoc, append-nil, IsPermutation, arith, if◌then◌else◌}
use Rattle.std.specs.List.{range_with_len}
use Rattle.std.proofs.lemmas.List.Sorted.{IsPermutation-refl, IsPermutation-trans, IsPermutation-append_left, IsPermutation-append_right, IsPermutation-append_comm, IsPermutation-append}
use Rattle.std.proofs.lemmas.Grind.{flat_map-append}
use mathlib.Core.Option.{some, some-injective, some-ne-none}
use lib.ListN.{get_elem?}
use Rattle.phase_model.specs.declared.Pair.{Pair}
use Rattle.phase_model.specs.declared.Event.{Event}
use Rattle.phase_model.specs.declared.Event.TheVariants.{Fork, Join, Draw, Put, Claim, Combine}
use Rattle.phase_model.specs.Kept.{DrawnOnce, DoneOnce}
use Rattle.phase_model.specs.Machine.{Job, Worker, State, Steps, Runs, Kept, Does, Ended, Outcome, AlwaysKept, EndedRun, op_of, begins, fresh, gone, pairs_of, all_pairs}
use Rattle.phase_model.proofs.Together.{grown, kept, added, merged, alone, each_set, each_snoc}
use Rattle.phase_model.proofs.Permutes.{flat_map_permutes}
use Rattle.phase_model.proofs.Ranges.{range_cut, range_above, drawn_below}
use Rattle.phase_model.proofs.Orders.{drawn_more, drawn_along, done_none, done_more, done_along}

abbrev numbers : Worker → List ℕ
numbers w = w.numbers

abbrev pairs : Worker → List Pair
pairs w = w.pairs

module _ (job : Job) where
  does_kept : (s : State) (i : ℕ) (t : State) → Kept job s → Does job s i t → Kept job t
  does_kept s i t h d =
      let w = d.0 in
      let p = d.1 in
      let v : Worker = record { numbers = w.numbers; pairs = w.pairs ++ p ∷ []; open_pairs = d.2; spent = false } in
      subst (Kept job) (sym d.5) (record {
        drawn = subst (DrawnOnce s.draw) (sym (kept numbers s.workers i w v d.3.0 refl)) h.drawn;
        pairs_done = done_more (op_of job.kind) job.old s.words p _ _ h.pairs_done (grown pairs s.workers i w v (p ∷ []) d.3.0 refl);
      })

  pub step_kept : (s : State) (e : Event) (t : State) → Kept job s → Steps job s e t → Kept job t
  step_kept s (Fork i) t h d = subst (Kept job) (sym d.2) (record {
    drawn = subst (DrawnOnce s.draw) (sym (added numbers s.workers fresh refl)) h.drawn;
    pairs_done = subst (DoneOnce (op_of job.kind) job.old s.words) (sym (added pairs s.workers fresh refl)) h.pairs_done;
  })
  step_kept s (Join i j) t h d =
      let w = d.0 in
      let v = d.1 in
      let b : Worker = record { numbers = w.numbers ++ v.numbers; pairs = w.pairs ++ v.pairs; open_pairs = w.open_pairs; spent = false } in
      subst (Kept job) (sym d.6) (record {
        drawn = drawn_along s.draw _ _ h.drawn (merged numbers s.workers i j w v b gone d.2.0 d.3.0 d.4 refl refl);
        pairs_done = done_along (op_of job.kind) job.old s.words _ _ h.pairs_done (merged pairs s.workers i j w v b gone d.2.0 d.3.0 d.4 refl refl);
      })
  step_kept s (Draw i) t h d =
      let w = d.0 in
      let v : Worker = record { numbers = w.numbers ++ s.draw ∷ []; pairs = w.pairs; open_pairs = pairs_of job s.draw; spent = false } in
      subst (Kept job) (sym d.4) (record {
        drawn = drawn_more s.draw _ _ h.drawn (grown numbers s.workers i w v (s.draw ∷ []) d.1.0 refl);
        pairs_done = subst (DoneOnce (op_of job.kind) job.old s.words) (sym (kept pairs s.workers i w v d.1.0 refl)) h.pairs_done;
      })
  step_kept s (Put i) t h d = does_kept s i t h d.1
  step_kept s (Claim i) t h d = does_kept s i t h d.1
  step_kept s (Combine i) t h d = does_kept s i t h d.1

  runs_kept : (s : State) (events : List Event) (t : State) → Kept job s → Runs job s events t → Kept job t
  runs_kept s [] t h r = subst (Kept job) r h
  runs_kept s (e ∷ es) t h r = runs_kept r.0 es t (step_kept s e r.0 h r.1) r.2

  begins_kept : Kept job (begins job)
  begins_kept = record { drawn = IsPermutation-refl []; pairs_done = done_none (op_of job.kind) job.old }

pub always_kept : (job : Job) → AlwaysKept job
always_kept job events s r = runs_kept job (begins job) events s (begins_kept job) r

-- what one worker has done and still has to do is what its numbers give
record Tidy (job : Job) (w : Worker) : Type 0 where
  pub its_pairs : IsPermutation (flat_map (pairs_of job) w.numbers) (w.pairs ++ w.open_pairs)
  pub empty : w.spent ≡ true → w ≡ gone

abbrev AllTidy : Job → State → Type 0
AllTidy job s = (j : ℕ) (v : Worker) → get_elem? s.workers j ≡ some v → Tidy job v

spent_not : (w : Worker) → w.spent ≡ false → w.spent ≡ true → ⊥
spent_not w a b = true≢false (sym b ∙ a)

module _ (job : Job) where
  tidy_gone : Tidy job gone
  tidy_gone = record { its_pairs = IsPermutation-refl []; empty = λ e. refl }

  tidy_fresh : Tidy job fresh
  tidy_fresh = record { its_pairs = IsPermutation-refl []; empty = λ e. absurd (true≢false (sym e)) }

  does_tidy : (s : State) (i : ℕ) (t : State) → AllTidy job s → Does job s i t → AllTidy job t
  does_tidy s i t h d =
      let w = d.0 in
      let p = d.1 in
      let rest = d.2 in
      let v : Worker = record { numbers = w.numbers; pairs = w.pairs ++ p ∷ []; open_pairs = rest; spent = false } in
      let was = (h i w d.3.0).its_pairs in
      let same : (w.pairs ++ p ∷ []) ++ rest ≡ w.pairs ++ w.open_pairs = append_assoc w.pairs (p ∷ []) rest ∙ ap (λ l. w.pairs ++ l) (sym d.4) in
      let mine : Tidy job v = record { its_pairs = subst (IsPermutation (flat_map (pairs_of job) w.numbers)) (sym same) was; empty = λ e. absurd (true≢false (sym e)) } in
      subst (AllTidy job) (sym d.5) (each_set (Tidy job) s.workers i v mine h)

  step_tidy : (s : State) (e : Event) (t : State) → AllTidy job s → Steps job s e t → AllTidy job t
  step_tidy s (Fork i) t h d = subst (AllTidy job) (sym d.2) (each_snoc (Tidy job) s.workers fresh tidy_fresh h)
  step_tidy s (Join i j) t h d =
      let w = d.0 in
      let v = d.1 in
      let b : Worker = record { numbers = w.numbers ++ v.numbers; pairs = w.pairs ++ v.pairs; open_pairs = w.open_pairs; spent = false } in
      let first = (h i w d.2.0).its_pairs in
      let second = (h j v d.3.0).its_pairs in
      let second' : IsPermutation (flat_map (pairs_of job) v.numbers) v.pairs = subst (IsPermutation (flat_map (pairs_of job) v.numbers)) (ap (λ l. v.pairs ++ l) d.5.0 ∙ append-nil v.pairs) second in
      let both : IsPermutation (flat_map (pairs_of job) (w.numbers ++ v.numbers)) ((w.pairs ++ w.open_pairs) ++ v.pairs) =
      rw (flat_map-append (pairs_of job) w.numbers v.numbers) (IsPermutation-append _ _ _ _ first second') in
      let turned : IsPermutation ((w.pairs ++ w.open_pairs) ++ v.pairs) ((w.pairs ++ v.pairs) ++ w.open_pairs) =
      rw (append_assoc w.pairs w.open_pairs v.pairs, append_assoc w.pairs v.pairs w.open_pairs) (IsPermutation-append_right w.pairs _ _ (IsPermutation-append_comm w.open_pairs v.pairs)) in
      let mine : Tidy job b = record { its_pairs = IsPermutation-trans _ _ _ both turned; empty = λ e. absurd (true≢false (sym e)) } in
      subst (AllTidy job) (sym d.6) (each_set (Tidy job) (set s.workers i b) j gone tidy_gone (each_set (Tidy job) s.workers i b mine h))
  step_tidy s (Draw i) t h d =
      let w = d.0 in
      let v : Worker = record { numbers = w.numbers ++ s.draw ∷ []; pairs = w.pairs; open_pairs = pairs_of job s.draw; spent = false } in
      let was = (h i w d.1.0).its_pairs in
      let was' : IsPermutation (flat_map (pairs_of job) w.numbers) w.pairs = subst (IsPermutation (flat_map (pairs_of job) w.numbers)) (ap (λ l. w.pairs ++ l) d.2 ∙ append-nil w.pairs) was in
      let now : IsPermutation (flat_map (pairs_of job) (w.numbers ++ s.draw ∷ [])) (w.pairs ++ pairs_of job s.draw) =
      rw (flat_map-append (pairs_of job) w.numbers (s.draw ∷ []), append-nil (pairs_of job s.draw)) (IsPermutation-append_left (pairs_of job s.draw) _ _ was') in
      let mine : Tidy job v = record { its_pairs = now; empty = λ e. absurd (true≢false (sym e)) } in
      subst (AllTidy job) (sym d.4) (each_set (Tidy job) s.workers i v mine h)
  step_tidy s (Put i) t h d = does_tidy s i t h d.1
  step_tidy s (Claim i) t h d = does_tidy s i t h d.1
  step_tidy s (Combine i) t h d = does_tidy s i t h d.1

  runs_tidy : (s : State) (events : List Event) (t : State) → AllTidy job s → Runs job s events t → AllTidy job t
  runs_tidy s [] t h r = subst (AllTidy job) r h
  runs_tidy s (e ∷ es) t h r = runs_tidy r.0 es t (step_tidy s e r.0 h r.1) r.2

  begins_tidy : AllTidy job (begins job)
  begins_tidy zero v at = subst (Tidy job) (some-injective fresh v at) tidy_fresh
  begins_tidy (suc j) v at = absurd (some-ne-none v (sym at))

module _ (job : Job) where
  pairs_past : (a m : ℕ) → job.chunks ≤ a → flat_map (pairs_of job) (range_with_len a m) ≡ []
  pairs_past a zero h = refl
  pairs_past a (suc m) h =
      let no : nat_lt a job.chunks ≡ false = grind arith in
      let none : pairs_of job a ≡ [] = ap (λ b. if b then job.pairs a else []) no in
      ap (λ ys. ys ++ flat_map (pairs_of job) (range_with_len (a + 1) m)) none ∙ pairs_past (a + 1) m (omega arith)

  pairs_within : (a m : ℕ) → a + m ≤ job.chunks → flat_map (pairs_of job) (range_with_len a m) ≡ flat_map job.pairs (range_with_len a m)
  pairs_within a zero h = refl
  pairs_within a (suc m) h =
      let yes : nat_lt a job.chunks ≡ true = grind arith in
      let all : pairs_of job a ≡ job.pairs a = ap (λ b. if b then job.pairs a else []) yes in
      ap (λ ys. ys ++ flat_map (pairs_of job) (range_with_len (a + 1) m)) all ∙ ap (λ ys. job.pairs a ++ ys) (pairs_within (a + 1) m (omega arith))

  pairs_of_range : (rest : ℕ) → flat_map (pairs_of job) (range_with_len 0 (job.chunks + rest)) ≡ all_pairs job
  pairs_of_range rest =
      ap (flat_map (pairs_of job)) (range_cut 0 job.chunks rest) ∙ flat_map-append (pairs_of job) (range_with_len 0 job.chunks) (range_with_len (0 + job.chunks) rest)
      ∙ ap (λ ys. flat_map (pairs_of job) (range_with_len 0 job.chunks) ++ ys) (pairs_past (0 + job.chunks) rest (omega arith)) ∙ append-nil _ ∙ pairs_within 0 job.chunks (omega arith)

  ended : (s : State) → Kept job s → AllTidy job s → Ended job s → Outcome job s
  ended s h tidy e =
      let i = e.0 in
      let w = e.1 in
      let through = e.3 in
      let others : (j : ℕ) (v : Worker) → get_elem? s.workers j ≡ some v → j ≢ i → v ≡ gone = λ j v at n. (tidy j v at).empty (e.4 j v at n) in
      let ns : flat_map numbers s.workers ≡ w.numbers = alone numbers s.workers i w e.2.0 (λ j v at n. ap numbers (others j v at n)) in
      let ps : flat_map pairs s.workers ≡ w.pairs = alone pairs s.workers i w e.2.0 (λ j v at n. ap pairs (others j v at n)) in
      let drawn : DrawnOnce s.draw w.numbers = subst (DrawnOnce s.draw) ns h.drawn in
      let past = through.1 in
      let below : past.1 < s.draw = subst (λ x. x < s.draw) past.3 (drawn_below s.draw w.numbers drawn past.0 past.1 past.2) in
      let le : job.chunks ≤ past.1 = past.4 in
      let split : job.chunks + (s.draw - job.chunks) ≡ s.draw = omega arith in
      let rest : List ℕ = range_with_len (0 + job.chunks) (s.draw - job.chunks) in
      let whole : range_with_len 0 s.draw ≡ range_with_len 0 job.chunks ++ rest = ap (range_with_len 0) (sym split) ∙ range_cut 0 job.chunks (s.draw - job.chunks) in
      let its : IsPermutation (flat_map (pairs_of job) w.numbers) w.pairs =
      subst (IsPermutation (flat_map (pairs_of job) w.numbers)) (ap (λ l. w.pairs ++ l) through.0 ∙ append-nil w.pairs) (tidy i w e.2.0).its_pairs in
      let jobs : IsPermutation (all_pairs job) (flat_map (pairs_of job) w.numbers) =
      subst (λ l. IsPermutation l (flat_map (pairs_of job) w.numbers)) (ap (λ n. flat_map (pairs_of job) (range_with_len 0 n)) (sym split) ∙ pairs_of_range (s.draw - job.chunks)) (flat_map_permutes (pairs_of job) (range_with_len 0 s.draw) w.numbers drawn) in
      record {
        chunks_once = (rest, (λ k d lt. let r = range_above (0 + job.chunks) (s.draw - job.chunks) k d lt in omega arith), subst (λ l. IsPermutation l (flat_map numbers s.workers)) whole h.drawn);
        pairs_once = done_along (op_of job.kind) job.old s.words _ _ h.pairs_done (subst (IsPermutation (all_pairs job)) (sym ps) (IsPermutation-trans _ _ _ jobs its));
      }

pub ended_run : (job : Job) → EndedRun job
ended_run job events s r e = ended job s (always_kept job events s r) (runs_tidy job (begins job) events s (begins_tidy job) r) e
