-- Of the rows that name a place one wins, and it puts all its words there and nowhere else.
use Rattle.std.proofs.Common.{◌≡◌, ◌⊎◌, ℕ, zero, suc, ◌+◌, ◌*◌, ◌<◌, ◌≤◌, ◌++◌, List, [], ◌∷◌, length, replicate, slice_index, nat_lt, nat_eq, Bool, true, false, true≢false, ◌&&◌, ◌||◌, ◌==◌, MatchBool, if◌then◌else◌, IsPermutation, sym, refl, ap, ◌∙◌, subst, inl, inr, ⊎_elim, arith}
use Rattle.std.specs.List.{list_any}
use Rattle.std.proofs.lemmas.List.Folds.{list_any-append}
use Rattle.std.proofs.lemmas.List.Sorted.{list_any-IsPermutation}
use Rattle.std.proofs.lemmas.List.{length-replicate}
use Rattle.std.proofs.lemmas.Bool.Decides.{nat_tests}
use Rattle.phase_model.specs.declared.Pair.{Pair}
use Rattle.phase_model.specs.Tables.{pair}
use Rattle.phase_model.specs.Laws.{names, gives, OldOrStored}
use Rattle.outcomes.specs.Wide.{Row, claims, puts_at, puts, Is_row, Each_wide, WholeRows}

or_cases : (a b : Bool) → (a || b) ≡ true → (a ≡ true) ⊎ (b ≡ true)
or_cases true b e = inl refl
or_cases false b e = inr e

or_left : (a b : Bool) → a ≡ true → (a || b) ≡ true
or_left true b e = refl
or_left false b e = absurd (true≢false (sym e))

or_right : (a b : Bool) → b ≡ true → (a || b) ≡ true
or_right true b e = refl
or_right false b e = e

and_both : (a b : Bool) → (a && b) ≡ true → (a ≡ true) × (b ≡ true)
and_both true b e = (refl, e)
and_both false b e = absurd (true≢false (sym e))

both_and : (a b : Bool) → a ≡ true → b ≡ true → (a && b) ≡ true
both_and true b e f = f
both_and false b e f = absurd (true≢false (sym e))

either_part : (t : Pair → Bool) (xs ys : List Pair) → list_any t (xs ++ ys) ≡ true → (list_any t xs ≡ true) ⊎ (list_any t ys ≡ true)
either_part t xs ys e = or_cases (list_any t xs) (list_any t ys) (sym (list_any-append t xs ys) ∙ e)

first_part : (t : Pair → Bool) (xs ys : List Pair) → list_any t xs ≡ true → list_any t (xs ++ ys) ≡ true
first_part t xs ys e = list_any-append t xs ys ∙ or_left (list_any t xs) (list_any t ys) e

second_part : (t : Pair → Bool) (xs ys : List Pair) → list_any t ys ≡ true → list_any t (xs ++ ys) ≡ true
second_part t xs ys e = list_any-append t xs ys ∙ or_right (list_any t xs) (list_any t ys) e

same : (a b : ℕ) → (a == b) ≡ true → a ≡ b
same a b e = grind (arith, nat_tests)

is_same : (a b : ℕ) → a ≡ b → (a == b) ≡ true
is_same a b e = grind (arith, nat_tests)

below : (a b : ℕ) → nat_lt a b ≡ true → a < b
below a b e = grind arith

is_below : (a b : ℕ) → a < b → nat_lt a b ≡ true
is_below a b e = grind arith

-- a place and a column are told by the word's place
told : (w p i a j : ℕ) → a < w → j < w → p * w + a ≡ i * w + j → (p ≡ i) × (a ≡ j)
told w zero zero a j x y e = (refl, omega arith)
told w zero (suc i) a j x y e = let z : suc i * w ≡ w + i * w = grind arith in absurd (omega arith)
told w (suc p) zero a j x y e = let z : suc p * w ≡ w + p * w = grind arith in absurd (omega arith)
told w (suc p) (suc i) a j x y e =
    let z : suc p * w ≡ w + p * w = grind arith in
    let y' : suc i * w ≡ w + i * w = grind arith in
    let q = told w p i a j x y (omega arith) in
    (ap suc q.0, q.1)

-- what is put from a place on
at_put : (q k x : ℕ) (xs : List ℕ) → list_any (gives q x) (puts_at k xs) ≡ true → (a : ℕ) × (a < length xs) × (k + a ≡ q) × (slice_index xs a ≡ x)
at_put q k x [] e = absurd (true≢false (sym e))
at_put q k x (y ∷ xs) e = ⊎_elim
    (λ h. let p = and_both (k == q) (y == x) h in (0, omega arith, (let s = same k q p.0 in omega arith), same y x p.1))
    (λ h. let r = at_put q (suc k) x xs h in let s = r.2 in let l = r.1 in (suc r.0, omega arith, omega arith, r.3))
    (or_cases ((k == q) && (y == x)) (list_any (gives q x) (puts_at (suc k) xs)) e)

is_put : (q k a : ℕ) (xs : List ℕ) → a < length xs → k + a ≡ q → list_any (names q) (puts_at k xs) ≡ true
is_put q k a [] lt e = absurd (omega arith)
is_put q k zero (y ∷ xs) lt e = or_left (k == q) (list_any (names q) (puts_at (suc k) xs)) (is_same k q (omega arith))
is_put q k (suc a) (y ∷ xs) lt e = or_right (k == q) (list_any (names q) (puts_at (suc k) xs)) (is_put q (suc k) a xs (omega arith) (omega arith))

module _ (places width : ℕ) (winners : List ℕ) where
  claim_of : (k : ℕ) (rs : List Row) (i m : ℕ) → list_any (gives i m) (claims places k rs) ≡ true → (n : ℕ) × (r : Row) × (m ≡ k + n) × Is_row rs n r × (r.place ≡ i)
  claim_of k [] i m e = absurd (true≢false (sym e))
  claim_of k (x ∷ rs) i m e =
      ⊎_elim (λ h. here (nat_lt x.place places) h)
      (λ h. let q = claim_of (suc k) rs i m h in let s = q.2 in (suc q.0, q.1, omega arith, inr (q.0, refl, q.3), q.4))
      (either_part (gives i m) (if nat_lt x.place places then pair x.place k ∷ [] else []) (claims places (suc k) rs) e)
    where
      here : (b : Bool) → list_any (gives i m) (if b then pair x.place k ∷ [] else []) ≡ true → (n : ℕ) × (r : Row) × (m ≡ k + n) × Is_row (x ∷ rs) n r × (r.place ≡ i)
      here false h = absurd (true≢false (sym h))
      here true h = let p = ⊎_elim {C = (x.place ≡ i) × (k ≡ m)} (λ g. let q = and_both (x.place == i) (k == m) g in (same x.place i q.0, same k m q.1)) (λ g. absurd (true≢false (sym g))) (or_cases ((x.place == i) && (k == m)) false h) in
          let s = p.1 in
          (0, x, omega arith, inl (refl, refl), p.0)

  row_claims : (k : ℕ) (rs : List Row) (n : ℕ) (r : Row) → Is_row rs n r → r.place < places → list_any (gives r.place (k + n)) (claims places k rs) ≡ true
  row_claims k [] n r h lt = absurd h
  row_claims k (x ∷ rs) n r h lt =
      ⊎_elim
      (λ p. first_part (gives r.place (k + n)) (if nat_lt x.place places then pair x.place k ∷ [] else []) (claims places (suc k) rs)
      (let e : x.place ≡ r.place = ap (λ y. y.place) p.1 in let yes : nat_lt x.place places ≡ true = is_below x.place places (omega arith) in
      subst (λ b. list_any (gives r.place (k + n)) (if b then pair x.place k ∷ [] else []) ≡ true) (sym yes) (or_left ((x.place == r.place) && (k == k + n)) false (both_and (x.place == r.place) (k == k + n) (is_same x.place r.place e) (is_same k (k + n) (let z = p.0 in omega arith))))))
      (λ p. second_part (gives r.place (k + n)) (if nat_lt x.place places then pair x.place k ∷ [] else []) (claims places (suc k) rs)
      (let z : suc k + p.0 ≡ k + n = let y = p.1 in omega arith in subst (λ m. list_any (gives r.place m) (claims places (suc k) rs) ≡ true) z (row_claims (suc k) rs p.0 r p.2 lt)))
      h

  put_of : (k : ℕ) (rs : List Row) (i j x : ℕ) → ((n : ℕ) (r : Row) → Is_row rs n r → length r.words ≡ width) → j < width → list_any (gives (i * width + j) x) (puts places width winners k rs) ≡ true
      → (n : ℕ) × (r : Row) × Is_row rs n r × (r.place ≡ i) × (slice_index winners i ≡ k + n) × (slice_index r.words j ≡ x)
  put_of k [] i j x wide lt e = absurd (true≢false (sym e))
  put_of k (y ∷ rs) i j x wide lt e =
      ⊎_elim (λ h. here (nat_lt y.place places && nat_eq (slice_index winners y.place) k) refl h)
      (λ h. let q = put_of (suc k) rs i j x (λ n r g. wide (suc n) r (inr (n, refl, g))) lt h in let s = q.4 in (suc q.0, q.1, inr (q.0, refl, q.2), q.3, omega arith, q.5))
      (either_part (gives (i * width + j) x) (if nat_lt y.place places && nat_eq (slice_index winners y.place) k then puts_at (y.place * width) y.words else []) (puts places width winners (suc k) rs) e)
    where
      here : (b : Bool) → (nat_lt y.place places && nat_eq (slice_index winners y.place) k) ≡ b → list_any (gives (i * width + j) x) (if b then puts_at (y.place * width) y.words else []) ≡ true
          → (n : ℕ) × (r : Row) × Is_row (y ∷ rs) n r × (r.place ≡ i) × (slice_index winners i ≡ k + n) × (slice_index r.words j ≡ x)
      here false f h = absurd (true≢false (sym h))
      here true f h =
          let a = at_put (i * width + j) (y.place * width) x y.words h in
          let l = wide 0 y (inl (refl, refl)) in
          let m = a.1 in
          let t = told width y.place i a.0 j (omega arith) lt a.2 in
          let won : slice_index winners y.place ≡ k = same (slice_index winners y.place) k (and_both (nat_lt y.place places) (nat_eq (slice_index winners y.place) k) f).1 in
          let z : k ≡ k + 0 = omega arith in
          (0, y, inl (refl, refl), t.0, ap (slice_index winners) (sym t.0) ∙ won ∙ z, ap (slice_index y.words) (sym t.1) ∙ a.3)

  row_puts : (k : ℕ) (rs : List Row) (n j : ℕ) (r : Row) → Is_row rs n r → r.place < places → slice_index winners r.place ≡ k + n → j < length r.words → list_any (names (r.place * width + j)) (puts places width winners k rs) ≡ true
  row_puts k [] n j r h lt e l = absurd h
  row_puts k (x ∷ rs) n j r h lt e l =
      ⊎_elim
      (λ p. first_part (names (r.place * width + j)) (if nat_lt x.place places && nat_eq (slice_index winners x.place) k then puts_at (x.place * width) x.words else []) (puts places width winners (suc k) rs)
      (subst (λ y. list_any (names (r.place * width + j)) (if nat_lt y.place places && nat_eq (slice_index winners y.place) k then puts_at (y.place * width) y.words else []) ≡ true) (sym p.1)
      (let yes : (nat_lt r.place places && nat_eq (slice_index winners r.place) k) ≡ true = both_and (nat_lt r.place places) (nat_eq (slice_index winners r.place) k) (is_below r.place places lt) (is_same (slice_index winners r.place) k (let z = p.0 in omega arith)) in
      subst (λ b. list_any (names (r.place * width + j)) (if b then puts_at (r.place * width) r.words else []) ≡ true) (sym yes) (is_put (r.place * width + j) (r.place * width) j r.words l refl))))
      (λ p. second_part (names (r.place * width + j)) (if nat_lt x.place places && nat_eq (slice_index winners x.place) k then puts_at (x.place * width) x.words else []) (puts places width winners (suc k) rs)
      (row_puts (suc k) rs p.0 j r p.2 lt (let y = p.1 in omega arith) l))
      h

row_below : (rs : List Row) (n : ℕ) (r : Row) → Is_row rs n r → n < length rs
row_below [] n r h = absurd h
row_below (x ∷ rs) n r h = ⊎_elim (λ p. let e = p.0 in omega arith) (λ p. let e = p.1 in let l = row_below rs p.0 r p.2 in omega arith) h

one_row : (rs : List Row) (n : ℕ) (r s : Row) → Is_row rs n r → Is_row rs n s → r ≡ s
one_row [] n r s h k = absurd h
one_row (x ∷ rs) n r s h k =
    ⊎_elim
    (λ p. ⊎_elim (λ q. sym p.1 ∙ q.1) (λ q. let a = p.0 in let b = q.1 in absurd (omega arith)) k)
    (λ p. ⊎_elim (λ q. let a = p.1 in let b = q.0 in absurd (omega arith)) (λ q. one_row rs p.0 r s p.2 (let a = p.1 in let b = q.1 in let e : q.0 ≡ p.0 = omega arith in subst (λ m. Is_row rs m s) e q.2)) k)
    h

start_at : (n x i : ℕ) → i < n → slice_index (replicate n x) i ≡ x
start_at zero x i lt = absurd (omega arith)
start_at (suc n) x zero lt = refl
start_at (suc n) x (suc i) lt = start_at n x i (omega arith)

by_test : (b : Bool) (A B : Type 0) → MatchBool b A B → ((b ≡ true) × A) ⊎ ((b ≡ false) × B)
by_test true A B m = inl (refl, m)
by_test false A B m = inr (refl, m)

in_row : (i width places j : ℕ) → i < places → j < width → i * width + j < places * width
in_row zero width zero j lt l = absurd (omega arith)
in_row zero width (suc p) j lt l = let z : suc p * width ≡ width + p * width = grind arith in omega arith
in_row (suc i) width zero j lt l = absurd (omega arith)
in_row (suc i) width (suc p) j lt l =
    let a : suc i * width ≡ width + i * width = grind arith in
    let b : suc p * width ≡ width + p * width = grind arith in
    let r = in_row i width p j (omega arith) l in
    omega arith

module _ (places width limit : ℕ) (rows : List Row) (old words winners : List ℕ) (claimed put : List Pair) (long : length old ≡ places * width) (few : length rows ≤ limit) (wide : Each_wide width rows)
    (cp : IsPermutation (claims places 0 rows) claimed) (pp : IsPermutation (puts places width winners 0 rows) put) (stored : OldOrStored old words put) (i : ℕ) (lt : i < places) where
  -- a word of place i is the old one, or of the row whose number stands there
  word : (j : ℕ) → j < width → ((list_any (names (i * width + j)) put ≡ true) × ((n : ℕ) × (r : Row) × Is_row rows n r × (r.place ≡ i) × (slice_index winners i ≡ 0 + n) × (slice_index r.words j ≡ slice_index words (i * width + j)))) ⊎ ((list_any (names (i * width + j)) put ≡ false) × (slice_index words (i * width + j) ≡ slice_index old (i * width + j)))
  word j l =
      let q : ℕ = i * width + j in
      let inside : q < length old = let z = in_row i width places j lt l in omega arith in
      ⊎_elim
      (λ h. inl (h.0, put_of places width winners 0 rows i j (slice_index words q) wide l (list_any-IsPermutation (gives q (slice_index words q)) _ _ pp ∙ h.1)))
      (λ h. inr h)
      (by_test (list_any (names q) put) (list_any (gives q (slice_index words q)) put ≡ true) (slice_index words q ≡ slice_index old q) (stored q inside))

  won : (n : ℕ) (r : Row) → Is_row rows n r → r.place ≡ i → slice_index winners i ≡ n → (j : ℕ) → j < width → slice_index words (i * width + j) ≡ slice_index r.words j
  won n r h e w j l =
      let named : list_any (names (i * width + j)) put ≡ true =
      sym (list_any-IsPermutation (names (i * width + j)) _ _ pp) ∙ subst (λ p. list_any (names (p * width + j)) (puts places width winners 0 rows) ≡ true) e (row_puts places width winners 0 rows n j r h (let z = e in omega arith) (ap (slice_index winners) e ∙ w ∙ (let z : n ≡ 0 + n = omega arith in z)) (let z = wide n r h in omega arith)) in
      ⊎_elim
      (λ g. let f = g.1 in let m : f.0 ≡ n = let y = f.4 in omega arith in let same_row : f.1 ≡ r = one_row rows n f.1 r (subst (λ a. Is_row rows a f.1) m f.2) h in sym f.5 ∙ ap (λ y. slice_index y.words j) same_row)
      (λ g. absurd (true≢false (sym named ∙ g.0))) (word j l)

  lost : slice_index winners i ≡ limit → (j : ℕ) → j < width → slice_index words (i * width + j) ≡ slice_index old (i * width + j)
  lost e j l =
      ⊎_elim (λ g. let f = g.1 in let b = row_below rows f.0 f.1 f.2 in let y = f.4 in absurd (omega arith)) (λ g. g.1) (word j l)

pub rows_stay_whole : WholeRows
rows_stay_whole places width limit rows old words winners claimed put long few wide cp least pp stored i lt =
    let l = length-replicate places limit in
    let c = least i (omega arith) in
    let start : slice_index (replicate places limit) i ≡ limit = start_at places limit i lt in
    ⊎_elim
    (λ e. inl (
      (λ n r h p. (
          let claims_it : list_any (gives i (0 + n)) claimed ≡ true = sym (list_any-IsPermutation (gives i (0 + n)) _ _ cp) ∙ subst (λ q. list_any (gives q (0 + n)) (claims places 0 rows) ≡ true) p (row_claims places width winners 0 rows n r h (let z = p in omega arith)) in
          let at_most = c.1 (pair i (0 + n)) claims_it in
          let b = row_below rows n r h in
          absurd (omega arith))),
      lost places width limit rows old words winners claimed put long few wide cp pp stored i lt (e ∙ start),
    ))
    (λ e. (
    let q = claim_of places width winners 0 rows i (slice_index winners i) (list_any-IsPermutation (gives i (slice_index winners i)) _ _ cp ∙ e) in
    inr (q.0, q.1, q.3, q.4, won places width limit rows old words winners claimed put long few wide cp pp stored i lt q.0 q.1 q.3 q.4 (let z = q.2 in omega arith))))
    c.2
