-- Lists of drawn chunks.
use Rattle.std.proofs.Common.{◌≢◌, Bool, true, false, true≢false, nat_eq, ◌||◌, set, fold, flat_map, replicate, Option, Some, None, Result, Ok, Err, IfOk, ◌≡◌, ℕ, suc, ◌+◌, ◌<◌, ◌≤◌, max, List, [], ◌∷◌, ◌++◌, length, get_or, map, All, sym, refl, ap, ◌∙◌, subst, arith, append_assoc, IsPermutation}
use Rattle.std.proofs.lemmas.List.Elements.{All-append}
use Rattle.std.proofs.lemmas.List.{map-append}
use Rattle.std.proofs.lemmas.List.Sorted.{IsPermutation-trans, IsPermutation-append, IsPermutation-append_left, IsPermutation-append_right, IsPermutation-append_comm}
use Rattle.std.proofs.lemmas.List.{get_or-set_same, get_or-set_other, length-set, length-replicate}
use Rattle.std.proofs.lemmas.List.Folds.{list_any-append, list_any_at, list_any_none}
use Rattle.std.proofs.lemmas.List.Sorted.{list_any-IsPermutation}
use Rattle.std.proofs.lemmas.List.FromFn.{length-range_with_len, get_or-range_with_len}
use Rattle.std.specs.List.{list_any, range_with_len}
use Rattle.chunk_work.specs.declared.outcome.Done.{Done}
use Rattle.chunk_work.specs.Runs.{top, AllDone, Accounts, EachRan, AllRan, InOrder, chunk_of, placed, outcome_at}

pub top_push : (xs : List ℕ) (c : ℕ) → top (xs ++ c ∷ []) ≡ max (top xs) (suc c)
top_push [] c = omega arith
top_push (x ∷ xs) c = let e = top_push xs c in omega arith

pub top_le : (xs : List ℕ) (c : ℕ) → All (λ x. x < c) xs → top xs ≤ c
top_le [] c h = omega arith
top_le (x ∷ xs) c h = let a : x < c = h 0 0 (omega arith) in let b = top_le xs c (λ k d lt. h (suc k) d (omega arith)) in omega arith

pub accounts_both : {O : Type 0} (chunks : ℕ) (xs ys : List (Done O)) (ns ms : List ℕ) → Accounts chunks xs ns → Accounts chunks ys ms → Accounts chunks (xs ++ ys) (ns ++ ms)
accounts_both chunks xs ys ns ms h k =
    let a : List ℕ = map chunk_of xs in
    let b : List ℕ = map chunk_of ys in
    let m : List ℕ = h.0 in
    let n : List ℕ = k.0 in
    let middle : IsPermutation (b ++ (m ++ n)) (m ++ (b ++ n)) = rw (← append_assoc b m n, ← append_assoc m b n) (IsPermutation-append_left n (b ++ m) (m ++ b) (IsPermutation-append_comm b m)) in
    let turned : IsPermutation ((a ++ b) ++ (m ++ n)) ((a ++ m) ++ (b ++ n)) = rw (append_assoc a b (m ++ n), append_assoc a m (b ++ n)) (IsPermutation-append_right a _ _ middle) in
    let all : IsPermutation ((a ++ m) ++ (b ++ n)) (ns ++ ms) = IsPermutation-append _ _ _ _ h.2 k.2 in
    (m ++ n, All-append (λ x. chunks ≤ x) m n h.1 k.1, rw (map-append chunk_of xs ys) (IsPermutation-trans _ _ _ turned all))

-- what two workers ran
pub both_ran : {O : Type 0} (ran : ℕ → O → Type 0) (chunks : ℕ) (xs ys zs : List (Done O)) (ns ms ls : List ℕ) → zs ≡ xs ++ ys → ls ≡ ns ++ ms
    → EachRan ran chunks xs × Accounts chunks xs ns → EachRan ran chunks ys × Accounts chunks ys ms → EachRan ran chunks zs × Accounts chunks zs ls
both_ran ran chunks xs ys zs ns ms ls e f h k =
    rw (e, f) (All-append (λ d. (d.chunk < chunks) × ran d.chunk d.outcome) xs ys h.0 k.0, accounts_both chunks xs ys ns ms h.1 k.1)

module _ {O : Type 0} (ran : ℕ → O → Type 0) (chunks : ℕ) where
  -- a place has an outcome of chunk k
  abbrev Filled : ℕ → Option O → Type 0
  Filled k o = (w : O) × (o ≡ Some w) × ran k w

  long : (ds : List (Done O)) (places : List (Option O)) → length (fold placed places ds) ≡ length places
  long [] places = refl
  long (d ∷ ds) places = long ds (placed places d) ∙ length-set places d.chunk (Some d.outcome)

  tail_ran : (d : Done O) (ds : List (Done O)) → EachRan ran chunks (d ∷ ds) → EachRan ran chunks ds
  tail_ran d ds h k e lt = h (suc k) e (omega arith)

  at_set : (places : List (Option O)) (d : Done O) (k : ℕ) → k < length places → ran d.chunk d.outcome → d.chunk ≡ k → Filled k (get_or (placed places d) k None)
  at_set places d k lt h e = (d.outcome, ap (λ i. get_or (set places i (Some d.outcome)) k None) e ∙ get_or-set_same places k (Some d.outcome) None lt, subst (λ i. ran i d.outcome) e h)

  stays : (ds : List (Done O)) (places : List (Option O)) (k : ℕ) → k < length places → EachRan ran chunks ds → Filled k (get_or places k None) → Filled k (get_or (fold placed places ds) k None)
  stays [] places k lt each h = h
  stays (d ∷ ds) places k lt each h = stays ds (placed places d) k (let l = length-set places d.chunk (Some d.outcome) in omega arith) (tail_ran d ds each) (go (nat_eq d.chunk k) refl)
    where
      go : (b : Bool) → nat_eq d.chunk k ≡ b → Filled k (get_or (placed places d) k None)
      go true e = at_set places d k lt (each 0 d (omega arith)).1 (grind arith)
      go false e = let apart : k ≢ d.chunk = λ z. (let n : nat_eq d.chunk k ≡ true = grind arith in true≢false (sym n ∙ e)) in (h.0, get_or-set_other places d.chunk k (Some d.outcome) None apart ∙ h.1, h.2)

  comes : (ds : List (Done O)) (places : List (Option O)) (k : ℕ) → k < length places → EachRan ran chunks ds → list_any (λ x. nat_eq x k) (map chunk_of ds) ≡ true → Filled k (get_or (fold placed places ds) k None)
  comes [] places k lt each e = absurd (true≢false (sym e))
  comes (d ∷ ds) places k lt each e = go (comes ds (placed places d) k longer (tail_ran d ds each)) (nat_eq d.chunk k) refl
    where
      longer : k < length (placed places d)
      longer = let l = length-set places d.chunk (Some d.outcome) in omega arith

      go : (list_any (λ x. nat_eq x k) (map chunk_of ds) ≡ true → Filled k (get_or (fold placed (placed places d) ds) k None)) → (b : Bool) → nat_eq d.chunk k ≡ b → Filled k (get_or (fold placed (placed places d) ds) k None)
      go later true f = stays ds (placed places d) k longer (tail_ran d ds each) (at_set places d k lt (each 0 d (omega arith)).1 (grind arith))
      go later false f = later (sym (ap (λ b. b || list_any (λ x. nat_eq x k) (map chunk_of ds)) f) ∙ e)

  -- a chunk is among those that were run
  among : (dones : List (Done O)) (numbers rest : List ℕ) (k : ℕ) → k < chunks → Accounts chunks dones numbers → IsPermutation (range_with_len 0 chunks ++ rest) numbers → list_any (λ x. nat_eq x k) (map chunk_of dones) ≡ true
  among dones numbers rest k lt h p =
      let test : ℕ → Bool = λ x. nat_eq x k in
      let whole : list_any test (range_with_len 0 chunks) ≡ true = list_any_at test (range_with_len 0 chunks) k 0 (let l = length-range_with_len 0 chunks in omega arith)
      (let e = get_or-range_with_len 0 chunks k 0 lt in grind arith) in
      let drawn : list_any test numbers ≡ true = sym (list_any-IsPermutation test _ _ p) ∙ list_any-append test (range_with_len 0 chunks) rest ∙ ap (λ b. b || list_any test rest) whole in
      let none : list_any test h.0 ≡ false = list_any_none test h.0 (λ i d q. let far = h.1 i d q in grind arith) in
      or_false (list_any test (map chunk_of dones)) (sym (list_any-append test (map chunk_of dones) h.0 ∙ ap (λ b. list_any test (map chunk_of dones) || b) none) ∙ list_any-IsPermutation test _ _ h.2 ∙ drawn)
    where
      or_false : (b : Bool) → (b || false) ≡ true → b ≡ true
      or_false true e = refl
      or_false false e = e

  in_turn : (ps : List (Option O)) (j : ℕ) → ((k : ℕ) → k < length ps → Filled (j + k) (get_or ps k None)) → (length (flat_map outcome_at ps) ≡ length ps) × InOrder ran j (flat_map outcome_at ps)
  in_turn [] j h = (refl, tt)
  in_turn (p ∷ ps) j h =
      let first = h 0 (omega arith) in
      let more = in_turn ps (j + 1) (λ k lt. let q : j + suc k ≡ j + 1 + k = omega arith in subst (λ i. Filled i (get_or ps k None)) q (h (suc k) (omega arith))) in
      let z : j + 0 ≡ j = omega arith in
      let here : ran j first.0 = subst (λ i. ran i first.0) z first.2 in
      subst (λ o. (length (outcome_at o ++ flat_map outcome_at ps) ≡ suc (length ps)) × InOrder ran j (outcome_at o ++ flat_map outcome_at ps)) (sym first.1) (ap suc more.0, (here, more.1))

  pub whole : (dones : List (Done O)) (numbers rest : List ℕ) → EachRan ran chunks dones → Accounts chunks dones numbers → IsPermutation (range_with_len 0 chunks ++ rest) numbers
      → AllRan ran chunks (flat_map outcome_at (fold placed (replicate chunks None) dones))
  whole dones numbers rest each h p =
      let start : List (Option O) = replicate chunks None in
      let n : length start ≡ chunks = length-replicate chunks None in
      let places : List (Option O) = fold placed start dones in
      let m : length places ≡ chunks = long dones start ∙ n in
      let all = in_turn places 0 (λ k lt. let z : 0 + k ≡ k = omega arith in subst (λ i. Filled i (get_or places k None)) (sym z) (comes dones start k (omega arith) each (among dones numbers rest k (omega arith) h p))) in
      (all.0 ∙ m, all.1)

pub ok_chunks : {A E : Type 0} (r : Result A E) (P Q : A → Type 0) → IfOk r P → ((a : A) → P a → Q a) → IfOk r Q
ok_chunks (Ok v) P Q e h = h v e
ok_chunks (Err x) P Q e h = tt

pub AllDone-made : {O : Type 0} (chunks : ℕ) (dones : List (Done O)) (numbers : List ℕ) → Accounts chunks dones numbers → (rest : List ℕ) × All (λ n. chunks ≤ n) rest × IsPermutation (range_with_len 0 chunks ++ rest) numbers → AllDone chunks dones
AllDone-made chunks dones numbers h p = (numbers, p.0, h, p.2)
