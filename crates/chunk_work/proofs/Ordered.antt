-- Chunks in the order of their numbers.
use Rattle.std.proofs.Common.{get_or, drop, ◌≡◌, ℕ, zero, suc, ◌+◌, ◌<◌, ◌≤◌, true, false, nat_lt, List, [], ◌∷◌, ◌++◌, length, map, flat_map, All, sym, refl, ap, ◌∙◌, subst, arith, append-nil, IsPermutation, if◌then◌else◌, None, fold, replicate}
use Rattle.std.proofs.lemmas.List.Sorted.{IsPermutation-refl, IsPermutation-sym, IsPermutation-trans, IsPermutation-cons, IsPermutation-append_left, IsPermutation-append_comm, All-permutation}
use Rattle.std.proofs.lemmas.Grind.{flat_map-append}
use Rattle.std.specs.List.{range_with_len}
use Rattle.phase_model.specs.declared.Pair.{Pair}
use Rattle.phase_model.proofs.Permutes.{follows, flat_map_permutes}
use Rattle.phase_model.proofs.Ranges.{range_below}
use Rattle.chunk_work.specs.declared.outcome.Done.{Done}
use Rattle.chunk_work.specs.Runs.{EachRan, Accounts, InOrder, chunk_of, placed, outcome_at}
use Rattle.chunk_work.proofs.Chunks.{whole}
use Rattle.chunk_work.specs.Puts.{EachPut, EachKept, AllPut}

first : {B : Type 0} (x y : B) (xs ys : List B) → x ∷ xs ≡ y ∷ ys → x ≡ y
first x y xs ys e = ap (λ l. get_or l 0 x) e

rest : {B : Type 0} (x y : B) (xs ys : List B) → x ∷ xs ≡ y ∷ ys → xs ≡ ys
rest x y xs ys e = ap (λ l. drop 1 l) e

module _ {A B : Type 0} (f : A → B) where
  abbrev Back : List B → List B → Type 0
  Back bs cs = (us : List A) → map f us ≡ bs → (zs : List A) × IsPermutation us zs × (map f zs ≡ cs)

  back_none : (bs : List B) → Back bs bs
  back_none bs us e = (us, IsPermutation-refl us, e)

  back_under : (x : B) (bs cs : List B) → Back bs cs → Back (x ∷ bs) (x ∷ cs)
  back_under x bs cs h [] e = cc
  back_under x bs cs h (a ∷ us) e =
      let k = h us (rest (f a) x (map f us) bs e) in
      (a ∷ k.0, IsPermutation-cons a us k.0 k.1, ap (λ l. f a ∷ l) k.2 ∙ ap (λ y. y ∷ cs) (first (f a) x (map f us) bs e))

  back_over : (x y : B) (bs : List B) → Back (x ∷ y ∷ bs) (y ∷ x ∷ bs)
  back_over x y bs [] e = cc
  back_over x y bs (a ∷ []) e = let t : [] ≡ y ∷ bs = rest (f a) x [] (y ∷ bs) e in cc
  back_over x y bs (a ∷ b ∷ us) e =
      let t : f b ∷ map f us ≡ y ∷ bs = rest (f a) x (f b ∷ map f us) (y ∷ bs) e in
      let u : f a ≡ x = first (f a) x (f b ∷ map f us) (y ∷ bs) e in
      let v : f b ≡ y = first (f b) y (map f us) bs t in
      let w : map f us ≡ bs = rest (f b) y (map f us) bs t in
      (b ∷ a ∷ us, IsPermutation-append_left us (a ∷ b ∷ []) (b ∷ a ∷ []) (IsPermutation-append_comm (a ∷ []) (b ∷ [])), ap (λ k. k ∷ f a ∷ map f us) v ∙ ap (λ k. y ∷ k ∷ map f us) u ∙ ap (λ l. y ∷ x ∷ l) w)

  back_along : (bs cs ds : List B) → Back bs cs → Back cs ds → Back bs ds
  back_along bs cs ds h k us e = let u = h us e in let v = k u.0 u.2 in (v.0, IsPermutation-trans _ _ _ u.1 v.1, v.2)

  -- a list whose images are in another order can be put into that order
  pub pull_back : (xs : List A) (ys : List B) → IsPermutation (map f xs) ys → (zs : List A) × IsPermutation xs zs × (map f zs ≡ ys)
  pull_back xs ys p = follows Back (record { none = back_none; under = back_under; over = back_over; along = back_along }) (map f xs) ys p xs refl

-- the numbers below n
abbrev low : ℕ → List ℕ → List ℕ
low n xs = flat_map (λ x. if nat_lt x n then x ∷ [] else []) xs

low_all : (n : ℕ) (xs : List ℕ) → All (λ x. x < n) xs → low n xs ≡ xs
low_all n [] h = refl
low_all n (x ∷ xs) h =
    let a : x < n = h 0 0 (omega arith) in
    let yes : nat_lt x n ≡ true = grind arith in
    ap (λ b. (if b then x ∷ [] else []) ++ low n xs) yes ∙ ap (λ l. x ∷ l) (low_all n xs (λ k d lt. h (suc k) d (omega arith)))

low_none : (n : ℕ) (xs : List ℕ) → All (λ x. n ≤ x) xs → low n xs ≡ []
low_none n [] h = refl
low_none n (x ∷ xs) h =
    let a : n ≤ x = h 0 0 (omega arith) in
    let no : nat_lt x n ≡ false = grind arith in
    ap (λ b. (if b then x ∷ [] else []) ++ low n xs) no ∙ low_none n xs (λ k d lt. h (suc k) d (omega arith))

-- the chunks are drawn once each, whatever is past them
pub each_once : (n : ℕ) (xs more ys over : List ℕ) → All (λ x. x < n) xs → All (λ x. n ≤ x) more → All (λ x. n ≤ x) over → IsPermutation (xs ++ more) ys → IsPermutation (range_with_len 0 n ++ over) ys → IsPermutation xs (range_with_len 0 n)
each_once n xs more ys over a b c p q =
    let both : IsPermutation (xs ++ more) (range_with_len 0 n ++ over) = IsPermutation-trans _ _ _ p (IsPermutation-sym _ _ q) in
    let f : ℕ → List ℕ = λ x. if nat_lt x n then x ∷ [] else [] in
    let cut : IsPermutation (low n (xs ++ more)) (low n (range_with_len 0 n ++ over)) = flat_map_permutes f _ _ both in
    let left : low n (xs ++ more) ≡ xs = flat_map-append f xs more ∙ ap (λ l. low n xs ++ l) (low_none n more b) ∙ append-nil (low n xs) ∙ low_all n xs a in
    let right : low n (range_with_len 0 n ++ over) ≡ range_with_len 0 n =
    flat_map-append f (range_with_len 0 n) over ∙ ap (λ l. low n (range_with_len 0 n) ++ l) (low_none n over c) ∙ append-nil (low n (range_with_len 0 n)) ∙ low_all n (range_with_len 0 n) (λ k d lt. let r = range_below 0 n k d lt in omega arith) in
    rw (left, right) at cut

-- a chunk's number, what is kept of its outcome, the outcome, and its pairs
record Entry (O K : Type 0) : Type 0 where
  number : ℕ
  kept : K
  outcome : O
  pairs : List Pair

abbrev number_of : {O K : Type 0} → Entry O K → ℕ
number_of e = e.number

module _ {O K : Type 0} (ran : ℕ → O → Type 0) (keeps : O → K → Type 0) (pairs_of : O → List Pair) (chunks : ℕ) where
  abbrev Good : Entry O K → Type 0
  Good e = (e.number < chunks) × ran e.number e.outcome × keeps e.outcome e.kept × (e.pairs ≡ pairs_of e.outcome)

  -- the entries of what was run
  record Entries (dones : List (Done K)) (ps : List Pair) : Type 0 where
    entries : List (Entry O K)
    good : All Good entries
    numbers : map (λ e. e.number) entries ≡ map chunk_of dones
    kept : map (λ e. e.kept) entries ≡ map (λ d. d.outcome) dones
    pairs : flat_map (λ e. e.pairs) entries ≡ ps

  all_more : (e : Entry O K) (es : List (Entry O K)) → Good e → All Good es → All Good (e ∷ es)
  all_more e es g h zero d lt = g
  all_more e es g h (suc k) d lt = h k d (omega arith)

  entries_of : (ds : List (Done K)) (ps : List Pair) → EachPut ran keeps pairs_of chunks ds ps → Entries ds ps
  entries_of [] ps h = record { entries = []; good = λ k d lt. absurd (omega arith); numbers = refl; kept = refl; pairs = sym h }
  entries_of (d ∷ ds) ps h =
      let more = entries_of ds h.1 h.5 in
      let p = h.4 in
      let e : Entry O K = record { number = d.chunk; kept = d.outcome; outcome = p.outcome; pairs = h.0 } in
      record {
        entries = e ∷ more.entries;
        good = all_more e more.entries (h.3, p.ran_it, p.kept_it, p.pairs_are) more.good;
        numbers = ap (λ l. d.chunk ∷ l) more.numbers;
        kept = ap (λ l. d.outcome ∷ l) more.kept;
        pairs = ap (λ l. h.0 ++ l) more.pairs ∙ sym h.2;
      }

  -- the outcomes in order
  in_line : (zs : List (Entry O K)) (j n : ℕ) → map (λ e. e.number) zs ≡ range_with_len j n → All Good zs → (length (map (λ e. e.outcome) zs) ≡ n) × InOrder ran j (map (λ e. e.outcome) zs)
  in_line [] j zero e h = (refl, tt)
  in_line [] j (suc n) e h = cc
  in_line (z ∷ zs) j zero e h = cc
  in_line (z ∷ zs) j (suc n) e h =
      let is : z.number ≡ j = first z.number j (map (λ y. y.number) zs) (range_with_len (j + 1) n) e in
      let more = in_line zs (j + 1) n (rest z.number j (map (λ y. y.number) zs) (range_with_len (j + 1) n) e) (λ k d lt. h (suc k) d (omega arith)) in
      let here = h 0 z (omega arith) in
      (ap suc more.0, (subst (λ k. ran k z.outcome) is here.1, more.1))

  number_at : (zs : List (Entry O K)) (j n : ℕ) → map (λ e. e.number) zs ≡ range_with_len j n → (i : ℕ) (d : Entry O K) → i < length zs → (get_or zs i d).number ≡ j + i
  number_at [] j n e i d lt = absurd (omega arith)
  number_at (z ∷ zs) j zero e i d lt = cc
  number_at (z ∷ zs) j (suc n) e zero d lt = let is : z.number ≡ j = first z.number j (map (λ y. y.number) zs) (range_with_len (j + 1) n) e in omega arith
  number_at (z ∷ zs) j (suc n) e (suc i) d lt = let q = number_at zs (j + 1) n (rest z.number j (map (λ y. y.number) zs) (range_with_len (j + 1) n) e) i d (omega arith) in omega arith

  each_done : (P : Entry O K → Type 0) (es : List (Entry O K)) (ds : List (Done K)) → map (λ e. e.number) es ≡ map chunk_of ds → map (λ e. e.kept) es ≡ map (λ d. d.outcome) ds → All P es → All (λ d. (e : Entry O K) × P e × (e.number ≡ d.chunk) × (e.kept ≡ d.outcome)) ds
  each_done P [] [] a b h k d lt = absurd (omega arith)
  each_done P [] (d ∷ ds) a b h k x lt = cc
  each_done P (e ∷ es) [] a b h k x lt = cc
  each_done P (e ∷ es) (d ∷ ds) a b h zero x lt = (e, h 0 e (omega arith), first e.number d.chunk (map (λ y. y.number) es) (map chunk_of ds) a, first e.kept d.outcome (map (λ y. y.kept) es) (map (λ y. y.outcome) ds) b)
  each_done P (e ∷ es) (d ∷ ds) a b h (suc k) x lt =
      each_done P es ds (rest e.number d.chunk (map (λ y. y.number) es) (map chunk_of ds) a) (rest e.kept d.outcome (map (λ y. y.kept) es) (map (λ y. y.outcome) ds) b) (λ i y l. h (suc i) y (omega arith)) k x (omega arith)

  module _ (zs : List (Entry O K)) (numbers : map (λ e. e.number) zs ≡ range_with_len 0 chunks) (good : All Good zs) where
    abbrev In : Entry O K → Type 0
    In e = (i : ℕ) × (i < length zs) × (get_or zs i e ≡ e)

    abbrev Ran : ℕ → K → Type 0
    Ran k o = (e : Entry O K) × In e × (e.number ≡ k) × (e.kept ≡ o)

    kept_line : (tail : List (Entry O K)) (k : ℕ) (os : List K) → ((j : ℕ) (d : Entry O K) → j < length tail → get_or zs (k + j) d ≡ get_or tail j d) → k + length tail ≡ length zs → length os ≡ length tail → InOrder Ran k os → EachKept keeps (map (λ e. e.outcome) tail) os
    kept_line [] k [] at l m h = tt
    kept_line [] k (o ∷ os) at l m h = absurd (omega arith)
    kept_line (z ∷ tail) k [] at l m h = absurd (omega arith)
    kept_line (z ∷ tail) k (o ∷ os) at l m h =
        let e : Entry O K = h.0.0 in
        let i = h.0.1 in
        let number : e.number ≡ i.0 = sym (ap (λ y. y.number) i.2) ∙ number_at zs 0 chunks numbers i.0 e i.1 ∙ (let z : 0 + i.0 ≡ i.0 = omega arith in z) in
        let same : i.0 ≡ k + 0 = let a = h.0.2 in omega arith in
        let here : z ≡ e = sym (at 0 e (omega arith)) ∙ ap (λ j. get_or zs j e) (sym same) ∙ i.2 in
        let z_at : get_or zs (k + 0) z ≡ z = at 0 z (omega arith) in
        let kept : keeps z.outcome z.kept = (subst Good z_at (good (k + 0) z (omega arith))).2 in (
          subst (keeps z.outcome) (ap (λ y. y.kept) here ∙ h.0.3) kept,
          kept_line tail (k + 1) os (λ j d lt. let q : k + 1 + j ≡ k + suc j = omega arith in ap (λ a. get_or zs a d) q ∙ at (suc j) d (omega arith)) (omega arith) (omega arith) h.1,
        )

  few_numbers : (es : List (Entry O K)) → All Good es → All (λ x. x < chunks) (map (λ e. e.number) es)
  few_numbers [] q k e lt = absurd (omega arith)
  few_numbers (p ∷ ps) q zero e lt = (q 0 p (omega arith)).0
  few_numbers (p ∷ ps) q (suc k) e lt = few_numbers ps (λ i c w. q (suc i) c (omega arith)) k e (omega arith)

  long_as : {A B : Type 0} (f : A → B) (xs : List A) → length (map f xs) ≡ length xs
  long_as f [] = refl
  long_as f (x ∷ xs) = ap suc (long_as f xs)

  flat_pairs : (zs : List (Entry O K)) → All Good zs → flat_map pairs_of (map (λ e. e.outcome) zs) ≡ flat_map (λ e. e.pairs) zs
  flat_pairs [] h = refl
  flat_pairs (z ∷ zs) h = ap (λ l. l ++ flat_map pairs_of (map (λ e. e.outcome) zs)) (sym (h 0 z (omega arith)).3) ∙ ap (λ l. z.pairs ++ l) (flat_pairs zs (λ k d lt. h (suc k) d (omega arith)))

  pub all_put : (dones : List (Done K)) (ps : List Pair) (drawn over : List ℕ) → EachPut ran keeps pairs_of chunks dones ps → Accounts chunks dones drawn → All (λ n. chunks ≤ n) over → IsPermutation (range_with_len 0 chunks ++ over) drawn
      → AllPut ran keeps pairs_of chunks (flat_map outcome_at (fold placed (replicate chunks None) dones)) ps
  all_put dones ps drawn over h acc past p =
      let es = entries_of dones ps h in
      let ns : List ℕ = map (λ e. e.number) es.entries in
      let acc' : IsPermutation (ns ++ acc.0) drawn = subst (λ l. IsPermutation (l ++ acc.0) drawn) (sym es.numbers) acc.2 in
      let each : IsPermutation ns (range_with_len 0 chunks) = each_once chunks ns acc.0 drawn over (few_numbers es.entries es.good) acc.1 past acc' p in
      let z = pull_back number_of es.entries (range_with_len 0 chunks) each in
      let zs : List (Entry O K) = z.0 in
      let good : All Good zs = All-permutation Good es.entries zs z.1 es.good in
      let line = in_line zs 0 chunks z.2 good in
      let here : All (λ e. In zs z.2 good e) zs = λ k d lt. (k, lt, same_at zs k d lt) in
      let there : All (λ e. In zs z.2 good e) es.entries = All-permutation (λ e. In zs z.2 good e) zs es.entries (IsPermutation-sym _ _ z.1) here in
      let both : All (λ e. In zs z.2 good e × Good e) es.entries = λ k d lt. (there k d lt, es.good k d lt) in
      let each_ran : EachRan (Ran zs z.2 good) chunks dones = λ k d lt. (let q = each_done (λ e. In zs z.2 good e × Good e) es.entries dones es.numbers es.kept both k d lt in (let n = q.2 in let w = q.1.1.0 in omega arith, (q.0, q.1.0, q.2, q.3))) in
      let kept = whole (Ran zs z.2 good) chunks dones drawn over each_ran acc p in
      let long : length zs ≡ chunks = sym (long_as (λ e. e.outcome) zs) ∙ line.0 in
      record {
        outcomes = map (λ e. e.outcome) zs;
        ran_all = line;
        kept_are = kept_line zs z.2 good zs 0 (flat_map outcome_at (fold placed (replicate chunks None) dones)) (λ j d lt. (let q : 0 + j ≡ j = omega arith in ap (λ a. get_or zs a d) q)) (omega arith) (kept.0 ∙ sym long) kept.1;
        pairs_once = subst (λ l. IsPermutation l ps) (sym (flat_pairs zs good)) (subst (λ l. IsPermutation (flat_map (λ e. e.pairs) zs) l) es.pairs (flat_map_permutes (λ e. e.pairs) zs es.entries (IsPermutation-sym _ _ z.1)));
      }
    where
      same_at : (xs : List (Entry O K)) (k : ℕ) (d : Entry O K) → k < length xs → get_or xs k (get_or xs k d) ≡ get_or xs k d
      same_at [] k d lt = absurd (omega arith)
      same_at (x ∷ xs) zero d lt = refl
      same_at (x ∷ xs) (suc k) d lt = same_at xs k d (omega arith)

  pub few_chunks : (ds : List (Done K)) (ps : List Pair) → EachPut ran keeps pairs_of chunks ds ps → All (λ d. d.chunk < chunks) ds
  few_chunks [] ps h k d lt = absurd (omega arith)
  few_chunks (x ∷ ds) ps h zero d lt = h.3
  few_chunks (x ∷ ds) ps h (suc k) d lt = few_chunks ds h.1 h.5 k d (omega arith)
