-- Writes at places, one after the other.
use Rattle.std.proofs.Common.{◌≡◌, ℕ, zero, suc, ◌+◌, ◌<◌, ◌≤◌, List, [], ◌∷◌, ◌++◌, length, drop, take, slice_get, Some, None, Bool, true, false, cond, nat_eq, nat_lt, refl, sym, ap, ◌∙◌, arith, lt-ltb, le-ltb}
use Rattle.std.specs.Prelude.{ℤ, pos, negsuc, slice_set}
use Rattle.std.proofs.lemmas.Bool.{ne_eqb, eq-eqb}
use Rattle.std.proofs.lemmas.List.{append-nil}
use Rattle.fut_value.specs.Data.{Datum}
use Rattle.fut_meaning.specs.Jobs.{writes, and_write, written_at}
use Rattle.array_data.proofs.RowsRead.{take_row}

-- ---- rows that are found and replaced

pub get_set : (xs : List Datum) (k : ℕ) (d : Datum) → k < length xs → slice_get (slice_set xs k d) k ≡ Some d
get_set [] k d l = absurd (omega arith)
get_set (x ∷ xs) zero d l = refl
get_set (x ∷ xs) (suc k) d l = get_set xs k d (omega arith)

pub get_other : (xs : List Datum) (k i : ℕ) (d : Datum) → (k ≡ i → ⊥) → slice_get (slice_set xs k d) i ≡ slice_get xs i
get_other [] k i d x = refl
get_other (y ∷ xs) zero zero d x = absurd (x refl)
get_other (y ∷ xs) zero (suc i) d x = refl
get_other (y ∷ xs) (suc k) zero d x = refl
get_other (y ∷ xs) (suc k) (suc i) d x = get_other xs k i d (λ e. x (ap suc e))

pub set_long : (xs : List Datum) (k : ℕ) (d : Datum) → length (slice_set xs k d) ≡ length xs
set_long [] k d = refl
set_long (x ∷ xs) zero d = refl
set_long (x ∷ xs) (suc k) d = ap suc (set_long xs k d)

pub none_past : (xs : List Datum) (k : ℕ) → slice_get xs k ≡ None → length xs ≤ k
none_past [] k e = omega arith
none_past (x ∷ xs) zero e = cc
none_past (x ∷ xs) (suc k) e = let l = none_past xs k e in omega arith

pub some_there : {A : Type 0} (xs : List A) (j : ℕ) → j < length xs → (x : A) × (slice_get xs j ≡ Some x)
some_there [] j l = absurd (omega arith)
some_there (x ∷ xs) zero l = (x, refl)
some_there (x ∷ xs) (suc j) l = some_there xs j (omega arith)

-- the elements in front of one, that one, and those behind it
pub cut_at : {A : Type 0} (xs : List A) (i : ℕ) (x : A) → slice_get xs i ≡ Some x → xs ≡ (take i xs ++ x ∷ []) ++ drop (suc i) xs
cut_at [] i x e = cc
cut_at (y ∷ xs) zero x e = let q : y ≡ x = cc in ap (λ z. z ∷ xs) q
cut_at (y ∷ xs) (suc i) x e = ap (λ z. y ∷ z) (cut_at xs i x e)

pub taken_long : {A : Type 0} (xs : List A) (i : ℕ) (x : A) → slice_get xs i ≡ Some x → length (take i xs) ≡ i
taken_long [] i x e = cc
taken_long (y ∷ xs) zero x e = refl
taken_long (y ∷ xs) (suc i) x e = ap suc (taken_long xs i x e)

taken_more : {A : Type 0} (xs : List A) (i : ℕ) (x : A) → slice_get xs i ≡ Some x → length (take i xs ++ x ∷ []) ≡ suc i
taken_more [] i x e = cc
taken_more (y ∷ xs) zero x e = refl
taken_more (y ∷ xs) (suc i) x e = ap suc (taken_more xs i x e)

-- ---- what is written at a place

pub written_join : (k : ℕ) (ws us : List (ℕ × Datum)) → written_at k (ws ++ us) ≡ written_at k ws ++ written_at k us
written_join k [] us = refl
written_join k (w ∷ ws) us = by_place (nat_eq w.0 k) (written_join k ws us)
  where
    by_place : (b : Bool) → written_at k (ws ++ us) ≡ written_at k ws ++ written_at k us → cond b (w.1 ∷ written_at k (ws ++ us)) (written_at k (ws ++ us)) ≡ cond b (w.1 ∷ written_at k ws) (written_at k ws) ++ written_at k us
    by_place true e = ap (λ z. w.1 ∷ z) e
    by_place false e = e

pub written_there : (k i : ℕ) (v : Datum) (ws : List (ℕ × Datum)) → k ≡ i → written_at i (ws ++ (k, v) ∷ []) ≡ written_at i ws ++ v ∷ []
written_there k i v ws e = written_join i ws ((k, v) ∷ []) ∙ ap (λ b. written_at i ws ++ cond b (v ∷ []) []) (eq-eqb k i e)

pub written_elsewhere : (k i : ℕ) (v : Datum) (ws : List (ℕ × Datum)) → (k ≡ i → ⊥) → written_at i (ws ++ (k, v) ∷ []) ≡ written_at i ws
written_elsewhere k i v ws x = written_join i ws ((k, v) ∷ []) ∙ ap (λ b. written_at i ws ++ cond b (v ∷ []) []) (ne_eqb k i x) ∙ append-nil (written_at i ws)

-- ---- one write more

pub no_write : (n k : ℕ) (v : Datum) → n ≤ k → and_write n (pos k) v [] ≡ []
no_write n k v l = ap (λ b. cond b ((k, v) ∷ []) []) (le-ltb k n l)

pub one_write : (n k : ℕ) (v : Datum) → k < n → and_write n (pos k) v [] ≡ (k, v) ∷ []
one_write n k v l = ap (λ b. cond b ((k, v) ∷ []) []) (lt-ltb k n l)

write_join : (n : ℕ) (z : ℤ) (v : Datum) (ws us : List (ℕ × Datum)) → and_write n z v (ws ++ us) ≡ and_write n z v ws ++ us
write_join n (negsuc k) v ws us = refl
write_join n (pos k) v ws us = by_place (nat_lt k n)
  where
    by_place : (b : Bool) → cond b ((k, v) ∷ (ws ++ us)) (ws ++ us) ≡ cond b ((k, v) ∷ ws) ws ++ us
    by_place true = refl
    by_place false = refl

writes_join : (n : ℕ) (zs ys : List ℤ) (vs us : List Datum) → length zs ≡ length vs → writes n (zs ++ ys) (vs ++ us) ≡ writes n zs vs ++ writes n ys us
writes_join n [] ys [] us e = refl
writes_join n [] ys (v ∷ vs) us e = absurd (omega arith)
writes_join n (z ∷ zs) ys [] us e = absurd (omega arith)
writes_join n (z ∷ zs) ys (v ∷ vs) us e = ap (and_write n z v) (writes_join n zs ys vs us (omega arith)) ∙ write_join n z v (writes n zs vs) (writes n ys us)

module _ (n : ℕ) (zs : List ℤ) (vs : List Datum) (i : ℕ) (z : ℤ) (v : Datum) (e : slice_get zs i ≡ Some z) (q : slice_get vs i ≡ Some v) where
  so_far : writes n (take i zs ++ z ∷ []) (take i vs ++ v ∷ []) ≡ writes n (take i zs) (take i vs) ++ and_write n z v []
  so_far = writes_join n (take i zs) (z ∷ []) (take i vs) (v ∷ []) (taken_long zs i z e ∙ sym (taken_long vs i v q))

  pub writes_more : writes n (take (suc i) zs) (take (suc i) vs) ≡ writes n (take i zs) (take i vs) ++ and_write n z v []
  writes_more = ap (λ t. writes n t (take (suc i) vs)) (take_row zs i z e) ∙ ap (writes n (take i zs ++ z ∷ [])) (take_row vs i v q) ∙ so_far

  pub writes_cut : writes n zs vs ≡ (writes n (take i zs) (take i vs) ++ and_write n z v []) ++ writes n (drop (suc i) zs) (drop (suc i) vs)
  writes_cut = ap (λ t. writes n t vs) (cut_at zs i z e) ∙ ap (writes n ((take i zs ++ z ∷ []) ++ drop (suc i) zs)) (cut_at vs i v q)
      ∙ writes_join n (take i zs ++ z ∷ []) (drop (suc i) zs) (take i vs ++ v ∷ []) (drop (suc i) vs) (taken_more zs i z e ∙ sym (taken_more vs i v q))
      ∙ ap (λ w. w ++ writes n (drop (suc i) zs) (drop (suc i) vs)) so_far
