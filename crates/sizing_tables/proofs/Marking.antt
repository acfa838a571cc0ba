-- Marks of numbers, one more at a time.
use Rattle.std.proofs.Common.{◌≡◌, ℕ, zero, suc, ◌+◌, ◌<◌, List, [], ◌∷◌, Bool, true, false, cond, nat_eq, length, replicate, take, get_or, slice_set, refl, sym, ap, ◌∙◌, arith}
use Rattle.sizing_tables.specs.Bound.{is_among}
use Rattle.sizing_tables.proofs.Homes.{suc_is, not_first, not_behind}

pub none_marked : (count k : ℕ) → get_or (replicate count false) k false ≡ false
none_marked zero k = refl
none_marked (suc n) zero = refl
none_marked (suc n) (suc k) = none_marked n k

pub none_among : (k : ℕ) → false ≡ is_among k []
unfolding is_among
none_among k = refl

mark_more : (ms : List Bool) (at k : ℕ) → at < length ms → get_or (slice_set ms at true) k false ≡ cond (nat_eq at k) true (get_or ms k false)
mark_more [] at k lt = absurd (omega (arith, lt))
mark_more (m ∷ ms) zero zero lt = refl
mark_more (m ∷ ms) zero (suc k) lt = ap (λ b. cond b true (get_or ms k false)) (sym (not_behind k))
mark_more (m ∷ ms) (suc at) zero lt = ap (λ b. cond b true m) (sym (not_first at))
mark_more (m ∷ ms) (suc at) (suc k) lt = mark_more ms at k (omega (arith, lt)) ∙ ap (λ b. cond b true (get_or ms k false)) (sym (suc_is at k))

either_first : (a b r : Bool) → cond a true (cond b true r) ≡ cond b true (cond a true r)
either_first true true r = refl
either_first true false r = refl
either_first false b r = refl

among_more : (k : ℕ) (ns : List ℕ) (i : ℕ) → i < length ns → is_among k (take (suc i) ns) ≡ cond (nat_eq (get_or ns i 0) k) true (is_among k (take i ns))
unfolding is_among
among_more k [] i lt = absurd (omega (arith, lt))
among_more k (n ∷ ns) zero lt = refl
among_more k (n ∷ ns) (suc i) lt = ap (λ b. cond (nat_eq n k) true b) (among_more k ns i (omega (arith, lt))) ∙ either_first (nat_eq n k) (nat_eq (get_or ns i 0) k) (is_among k (take i ns))

pub marked_more : (ms : List Bool) (ns : List ℕ) (i : ℕ) → i < length ns → get_or ns i 0 < length ms → ((k : ℕ) → get_or ms k false ≡ is_among k (take i ns)) → (k : ℕ) → get_or (slice_set ms (get_or ns i 0) true) k false ≡ is_among k (take (i + 1) ns)
marked_more ms ns i lt within h k =
    mark_more ms (get_or ns i 0) k within ∙ ap (λ b. cond (nat_eq (get_or ns i 0) k) true b) (h k) ∙ sym (among_more k ns i lt)
    ∙ ap (λ n. is_among k (take n ns)) (let z : suc i ≡ i + 1 = omega arith in z)
