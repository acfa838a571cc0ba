-- Chunks in order, and the failure that counts among them.
use Rattle.std.proofs.Common.{◌≡◌, ℕ, zero, suc, ◌+◌, ◌*◌, ◌<◌, ◌≤◌, ◌++◌, min, List, [], ◌∷◌, length, Option, Some, None, get_or, refl, sym, ap, ◌∙◌, subst, arith}
use Rattle.std.proofs.lemmas.List.{length-append}
use Rattle.fut_scalar.specs.declared.report.Report.{Report}
use Rattle.chunk_work.specs.Runs.{InOrder}
use Rattle.phase_code.specs.declared.outcome.Made.{Made}
use Rattle.phase_code.specs.declared.outcome.StageFault.{StageFault}
use Rattle.phase_code.specs.declared.outcome.Chunk.{Chunk}
use Rattle.phase_code.specs.declared.outcome.Chunk.TheVariants.{Came, Failed}
use Rattle.phase_code.specs.Ranges.{Function, Came_to, Fault_of, Went, chunk_end}
use Rattle.worker_runtime.specs.Sifting.{Fault_with, Parts_came, Takes_in, Tiled}
use Rattle.worker_runtime.proofs.Joined.{Values, values_none, values_both, values_of, both_fail, fails_then_comes, comes_then_fails}

times_more : (a b s : ℕ) → a ≤ b → a * s ≤ b * s
times_more zero b s le = let z : 0 * s ≡ 0 = omega arith in omega arith
times_more (suc a) zero s le = absurd (omega arith)
times_more (suc a) (suc b) s le =
    let x : suc a * s ≡ s + a * s = grind arith in
    let y : suc b * s ≡ s + b * s = grind arith in
    let z = times_more a b s (omega arith) in
    omega arith

pub in_order_more : {O : Type 0} (ran : ℕ → O → Type 0) (j : ℕ) (os : List O) (o : O) → InOrder ran j os → ran (j + length os) o → InOrder ran j (os ++ o ∷ [])
in_order_more ran j [] o h r = let z : j + 0 ≡ j = omega arith in (subst (λ i. ran i o) z r, tt)
in_order_more ran j (x ∷ os) o h r = let z : j + suc (length os) ≡ j + 1 + length os = omega arith in (h.0, in_order_more ran (j + 1) os o h.1 (subst (λ i. ran i o) z r))

-- no chunks, no elements
pub tiled_none : (size count n : ℕ) → n ≡ 0 → Tiled size count n → count ≡ 0
tiled_none size count n z t = let cover = subst (λ k. count ≤ k * size) z t.1 in let y : 0 * size ≡ 0 = omega arith in omega arith

module _ (size count : ℕ) where
  -- where chunk j begins, or the end
  abbrev pub bound : ℕ → ℕ
  bound j = min count (j * size)

  next_bound : (j : ℕ) → chunk_end size count j ≡ bound (j + 1)
  next_bound j = let n : j * size + size ≡ (j + 1) * size = grind arith in ap (min count) n

  pub bound_up : (j n : ℕ) → bound j ≤ bound (j + n)
  bound_up j n = let m = times_more j (j + n) size (omega arith) in omega arith

  pub bound_all : (n : ℕ) → count ≤ n * size → bound n ≡ count
  bound_all n le = omega arith

  pub bound_past : (n k : ℕ) → n ≤ k → count ≤ n * size → bound k ≡ count
  bound_past n k le cover = let m = times_more n k size le in omega arith

  pub bound_none : bound 0 ≡ 0
  bound_none = let z : 0 * size ≡ 0 = omega arith in omega arith

  -- what is told of chunk j
  pub in_bounds : (P : ℕ → ℕ → Type 0) (j : ℕ) → j * size < count → P (j * size) (chunk_end size count j) → P (bound j) (bound (j + 1))
  in_bounds P j lt p = let low : j * size ≡ bound j = omega arith in subst (λ i. P i (bound (j + 1))) low (subst (λ h. P (j * size) h) (next_bound j) p)

  -- a chunk has elements
  pub chunk_some : (n k : ℕ) → k < n → Tiled size count n → bound k < bound (k + 1)
  chunk_some n k lt tiled = go size refl
    where
      go : (s : ℕ) → size ≡ s → bound k < bound (k + 1)
      go zero e =
          let z : n * size ≡ 0 = ap (λ i. n * i) e ∙ (let y : n * 0 ≡ 0 = omega arith in y) in
          let w = tiled.0 k lt in
          let cover = tiled.1 in
          absurd (omega arith)
      go (suc s) e =
          let w = tiled.0 k lt in
          let next : (k + 1) * size ≡ k * size + size = grind arith in
          omega arith

  module _ {A W : Type 0} (rows : W → List A) (fn : Function A) (K : List A → List A → ℕ → Type 0) where
    abbrev Ran : ℕ → Made W → Type 0
    Ran c made = Came_to rows fn K (c * size) (chunk_end size count c) made

    pub values_from : (j : ℕ) (parts : List (Made W)) → ((c : ℕ) → c < j + length parts → c * size < count) → InOrder Ran j parts → Values fn (bound j) (bound (j + length parts))
    values_from j [] w p = let z : j ≡ j + 0 = omega arith in subst (λ i. Values fn (bound j) (bound i)) z (values_none fn (bound j))
    values_from j (m ∷ ms) w p =
        let here = in_bounds (Values fn) j (w j (omega arith)) (values_of fn rows K (j * size) (chunk_end size count j) m p.0) in
        let z : j + 1 + length ms ≡ j + suc (length ms) = omega arith in
        let more = subst (λ i. Values fn (bound (j + 1)) (bound i)) z (values_from (j + 1) ms (λ c lt. w c (omega arith)) p.1) in
        values_both fn (bound j) (bound (j + 1)) (bound (j + suc (length ms))) (bound_up j 1) (subst (λ i. bound (j + 1) ≤ bound i) z (bound_up (j + 1) (length ms))) here more

    -- all chunks before chunk k
    pub values_before : (k : ℕ) (parts : List (Made W)) → length parts ≡ k → ((c : ℕ) → c < k → c * size < count) → Parts_came rows fn K size count parts → Values fn 0 (bound k)
    values_before k parts e w p =
        let z : 0 + length parts ≡ k = omega arith in
        subst (λ i. Values fn i (bound k)) bound_none (subst (λ i. Values fn (bound 0) (bound i)) z (values_from 0 parts (λ c lt. w c (omega arith)) p))

    -- all chunks from chunk j + k on
    pub values_behind : (j k : ℕ) (parts : List (Made W)) → k ≤ length parts → ((c : ℕ) → c < j + length parts → c * size < count) → InOrder Ran j parts → Values fn (bound (j + k)) (bound (j + length parts))
    values_behind j zero parts le w p = let z : j ≡ j + 0 = omega arith in subst (λ i. Values fn (bound i) (bound (j + length parts))) z (values_from j parts w p)
    values_behind j (suc k) [] le w p = absurd (omega arith)
    values_behind j (suc k) (m ∷ ms) le w p =
        let y : j + 1 + k ≡ j + suc k = omega arith in
        let z : j + 1 + length ms ≡ j + suc (length ms) = omega arith in
        subst (λ i. Values fn (bound (j + suc k)) (bound i)) z (subst (λ i. Values fn (bound i) (bound (j + 1 + length ms))) y (values_behind (j + 1) k ms (omega arith) (λ c lt. w c (omega arith)) p.1))

    at_number : (ran : ℕ → Made W → Type 0) (k j : ℕ) (os : List (Made W)) (o : Made W) → InOrder ran k os → j < length os → o ≡ get_or os j o → ran (k + j) o
    at_number ran k j [] o h lt e = absurd (omega arith)
    at_number ran k zero (x ∷ os) o h lt e = let z : k ≡ k + 0 = omega arith in subst (λ i. ran i o) z (subst (ran k) (sym e) h.0)
    at_number ran k (suc j) (x ∷ os) o h lt e = let z : k + 1 + j ≡ k + suc j = omega arith in subst (λ i. ran i o) z (at_number ran (k + 1) j os o h.1 (omega arith) e)

    module _ (parts : List (Made W)) (tiled : Tiled size count (length parts)) (came : Parts_came rows fn K size count parts) where
      -- what was made of chunk k
      pub part_at : (k : ℕ) (m : Made W) → k < length parts → m ≡ get_or parts k m → Came_to rows fn K (bound k) (bound (k + 1)) m
      part_at k m lt e =
          let z : 0 + k ≡ k = omega arith in
          in_bounds (λ lo hi. Came_to rows fn K lo hi m) k (tiled.0 k lt) (subst (λ i. Ran i m) z (at_number Ran 0 k parts m came lt e))

      -- a failure of the chunks before chunk k is one of all
      pub fault_of_all : (F : List A → Report → Type 0) → ((xs zs : List A) (r : Report) → F xs r → F (xs ++ zs) r) → ((xs zs : List A) (r : Report) → F zs r → F (xs ++ zs) r) → (k : ℕ) (w : StageFault) → k ≤ length parts → Fault_of fn F 0 (bound k) w → Fault_of fn F 0 count w
      fault_of_all F behind before k w le p =
          let v = values_behind 0 k parts le (λ c lt. tiled.0 c (omega arith)) came in
          let a : 0 + k ≡ k = omega arith in
          let b : 0 + length parts ≡ length parts = omega arith in
          let e : bound (0 + length parts) ≡ count = ap bound b ∙ bound_all (length parts) tiled.1 in
          let u = subst (λ i. Values fn (bound k) i) e (subst (λ i. Values fn (bound i) (bound (0 + length parts))) a v) in
          fails_then_comes fn F behind before 0 (bound k) count (omega arith) (omega arith) (λ ys a. Unit {0}) w u.0 p u.1

    module _ (F : List A → Report → Type 0) where
      -- what is known when these outcomes were gone over
      abbrev pub So_far : ℕ → List (Made W) → Option StageFault → Type 0
      So_far k parts None = (length parts ≡ k) × Parts_came rows fn K size count parts
      So_far k parts (Some w) = Fault_of fn F 0 (bound k) w

      module _ (behind : (xs zs : List A) (r : Report) → F xs r → F (xs ++ zs) r) (before : (xs zs : List A) (r : Report) → F zs r → F (xs ++ zs) r) (k : ℕ) (within : (c : ℕ) → c < k + 1 → c * size < count) where
        pub so_far_came : (parts now : List (Made W)) (m : Made W) (fault : Option StageFault) → now ≡ parts ++ m ∷ [] → Ran k m → So_far k parts fault → So_far (k + 1) now fault
        so_far_came parts now m None e r p =
            let n = length-append parts (m ∷ []) in
            let z : k ≡ 0 + length parts = let l = p.0 in omega arith in
            (ap length e ∙ n ∙ (let l = p.0 in omega arith), subst (InOrder Ran 0) (sym e) (in_order_more Ran 0 parts m p.1 (subst (λ i. Ran i m) z r)))
        so_far_came parts now m (Some w) e r p =
            let v = in_bounds (Values fn) k (within k (omega arith)) (values_of fn rows K (k * size) (chunk_end size count k) m r) in
            fails_then_comes fn F behind before 0 (bound k) (bound (k + 1)) (omega arith) (bound_up k 1) (λ ys a. Unit {0}) w v.0 p v.1

        pub so_far_failed : (parts now : List (Made W)) (b w : StageFault) (fault : Option StageFault) → Fault_with fault b w → Fault_of fn F (k * size) (chunk_end size count k) b → So_far k parts fault → So_far (k + 1) now (Some w)
        so_far_failed parts now b w None e r p =
            let q = in_bounds (λ lo hi. Fault_of fn F lo hi b) k (within k (omega arith)) r in
            let v = values_before k parts p.0 (λ c lt. within c (omega arith)) p.1 in
            subst (Fault_of fn F 0 (bound (k + 1))) (sym e) (comes_then_fails fn F behind before 0 (bound k) (bound (k + 1)) (omega arith) (bound_up k 1) (λ ys a. Unit {0}) b v.0 v.1 q)
        so_far_failed parts now b w (Some a) e r p =
            let q = in_bounds (λ lo hi. Fault_of fn F lo hi b) k (within k (omega arith)) r in
            both_fail fn F behind before 0 (bound k) (bound (k + 1)) (omega arith) (bound_up k 1) a b w e p q

        pub so_far_next : (parts now : List (Made W)) (f f' : Option StageFault) (o : Chunk W) → Takes_in parts f o now f' → Went rows fn K F (k * size) (chunk_end size count k) o → So_far k parts f → So_far (k + 1) now f'
        so_far_next parts now f f' (Came m) t r p = subst (So_far (k + 1) now) (sym t.1) (so_far_came parts now m f t.0 r p)
        so_far_next parts now f f' (Failed b) t r p = subst (So_far (k + 1) now) (sym t.2) (so_far_failed parts now b t.1 f t.3 r p)

      -- the same, in the words of what the code knows
      pub so_far_one : ((xs zs : List A) (r : Report) → F xs r → F (xs ++ zs) r) → ((xs zs : List A) (r : Report) → F zs r → F (xs ++ zs) r) → (all : ℕ) → Tiled size count all → (yielded next : List (Chunk W)) (o : Chunk W) (rest : ℕ) → next ≡ yielded ++ o ∷ [] → length yielded + suc rest ≡ all
          → (parts now : List (Made W)) (f f' : Option StageFault) → Takes_in parts f o now f' → Went rows fn K F (length yielded * size) (chunk_end size count (length yielded)) o → So_far (length yielded) parts f → So_far (length next) now f'
      so_far_one behind before all tiled yielded next o rest e l parts now f f' t r p =
          let n : length yielded + 1 ≡ length next = sym (ap length e ∙ length-append yielded (o ∷ [])) in
          subst (λ i. So_far i now f') n (so_far_next behind before (length yielded) (λ c lt. tiled.0 c (omega arith)) parts now f f' o t r p)

      -- when all were gone over
      pub so_far_all : (all : ℕ) → Tiled size count all → (parts : List (Made W)) (w : StageFault) → So_far all parts (Some w) → Fault_of fn F 0 count w
      so_far_all all tiled parts w p = subst (λ i. Fault_of fn F 0 i w) (bound_all all tiled.1) p
