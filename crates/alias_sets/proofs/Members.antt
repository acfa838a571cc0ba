-- The members of what is merged, left out and found.
use Rattle.std.proofs.Common.{◌≡◌, ◌≢◌, ℕ, zero, suc, ◌<◌, ◌≤◌, List, [], ◌∷◌, length, get_or, Bool, true, false, ◌||◌, ◌&&◌, not, cond, nat_eq, Result, Ok, Err, ◌⊎◌, inl, inr, refl, sym, ap, ◌∙◌, subst, arith}
use Rattle.std.specs.List.Sorted.{IsBinarySearchResult}
use Rattle.std.specs.Prelude.{is_ok}
use Rattle.std.specs.Ordering.{nat_cmp}
use Rattle.std.proofs.lemmas.Bool.{eqb-true, eqb-false, eq-eqb, ne_eqb, cases_lt}
use Rattle.std.proofs.lemmas.List.Sorted.{searched}
use Rattle.alias_sets.specs.Sets.{Rises, IsSet, is_member, IsUnion, IsRenamed}
use Rattle.alias_sets.specs.Merging.{Within, nothing_left, passed, met, Merged, left_ends, right_ends, left_first, right_first, once, without}

-- ---- rising lists

weaker : (n m : ℕ) (s : List ℕ) → n ≤ m → Rises m s → Rises n s
weaker n m [] l h = tt
weaker n m (x ∷ s) l h = (omega (arith, l, h.0), h.1)

merged_rises : {s t u : List ℕ} → Merged s t u → (n : ℕ) → Rises n s → Rises n t → Rises n u
merged_rises left_ends n p q = q
merged_rises right_ends n p q = p
merged_rises (left_first l m) n p q = (p.0, merged_rises m _ p.1 (l, q.1))
merged_rises (right_first l m) n p q = (q.0, merged_rises m _ (l, p.1) q.1)
merged_rises (once m) n p q = (p.0, merged_rises m _ p.1 q.1)

without_rises : (a n : ℕ) (s : List ℕ) → Rises n s → Rises n (without a s)
without_rises a n [] h = tt
without_rises a n (x ∷ s) h = by_test (nat_eq x a) (without_rises a (suc x) s h.1)
  where
    by_test : (b : Bool) → Rises (suc x) (without a s) → Rises n (cond b (without a s) (x ∷ without a s))
    by_test true i = weaker n (suc x) (without a s) (omega (arith, h.0)) i
    by_test false i = (h.0, i)

-- ---- members

or_none : (b : Bool) → b ≡ (b || false)
or_none true = refl
or_none false = refl

or_left : (e s t : Bool) → (e || (s || t)) ≡ ((e || s) || t)
or_left true s t = refl
or_left false s t = refl

or_right : (e s t : Bool) → (e || (s || t)) ≡ (s || (e || t))
or_right true true t = refl
or_right true false t = refl
or_right false s t = refl

or_both : (e s t : Bool) → (e || (s || t)) ≡ ((e || s) || (e || t))
or_both true s t = refl
or_both false s t = refl

merged_members : {s t u : List ℕ} → Merged s t u → (a : ℕ) → is_member a u ≡ (is_member a s || is_member a t)
merged_members left_ends a = refl
merged_members (right_ends {s}) a = or_none (is_member a s)
merged_members (left_first {x} {y} {s} {t} l m) a = ap (λ z. nat_eq x a || z) (merged_members m a) ∙ or_left (nat_eq x a) (is_member a s) (is_member a (y ∷ t))
merged_members (right_first {x} {y} {s} {t} l m) a = ap (λ z. nat_eq y a || z) (merged_members m a) ∙ or_right (nat_eq y a) (is_member a (x ∷ s)) (is_member a t)
merged_members (once {x} {s} {t} m) a = ap (λ z. nat_eq x a || z) (merged_members m a) ∙ or_both (nat_eq x a) (is_member a s) (is_member a t)

pub merged_is_union : (s t u : List ℕ) → IsSet s → IsSet t → Merged s t u → IsUnion s t u
merged_is_union s t u p q m = record { set = merged_rises m 0 p q; members = merged_members m }

-- all members of t are members of s
within_members : {s t : List ℕ} → Within s t → (a : ℕ) → is_member a s ≡ (is_member a s || is_member a t)
within_members (nothing_left {s}) a = or_none (is_member a s)
within_members (passed {x} {s} {t} w) a = ap (λ z. nat_eq x a || z) (within_members w a) ∙ or_left (nat_eq x a) (is_member a s) (is_member a t)
within_members (met {x} {s} {t} w) a = ap (λ z. nat_eq x a || z) (within_members w a) ∙ or_both (nat_eq x a) (is_member a s) (is_member a t)

or_turned : (s t : Bool) → (t || s) ≡ (s || t)
or_turned true true = refl
or_turned true false = refl
or_turned false true = refl
or_turned false false = refl

pub left_is_union : (s t : List ℕ) (b : Bool) → IsSet s → (b ≡ true → Within s t) → b ≡ true → IsUnion s t s
left_is_union s t b p h e = record { set = p; members = within_members (h e) }

pub right_is_union : (s t : List ℕ) (b : Bool) → IsSet t → (b ≡ true → Within t s) → b ≡ true → IsUnion s t t
right_is_union s t b p h e = record { set = p; members = λ a. within_members (h e) a ∙ or_turned (is_member a s) (is_member a t) }

pub ruleset uniting = (merged_is_union, left_is_union, right_is_union)

-- ---- looking for a member

member_at : (s : List ℕ) (i a : ℕ) → i < length s → get_or s i 0 ≡ a → is_member a s ≡ true
member_at [] i a l e = absurd (omega (arith, l))
member_at (x ∷ s) zero a l e = ap (λ z. z || is_member a s) (eq-eqb x a e)
member_at (x ∷ s) (suc i) a l e = ap (λ z. nat_eq x a || z) (member_at s i a (omega (arith, l)) e) ∙ or_true (nat_eq x a)
  where
    or_true : (b : Bool) → (b || true) ≡ true
    or_true true = refl
    or_true false = refl

no_member : (s : List ℕ) (a : ℕ) → ((k : ℕ) → k < length s → get_or s k 0 ≢ a) → is_member a s ≡ false
no_member [] a h = refl
no_member (x ∷ s) a h = ap (λ z. z || is_member a s) (ne_eqb x a (h 0 (omega arith))) ∙ no_member s a (λ k l. h (suc k) (omega (arith, l)))

above : (n : ℕ) (s : List ℕ) (j : ℕ) → Rises n s → j < length s → n ≤ get_or s j 0
above n [] j h l = absurd (omega (arith, l))
above n (x ∷ s) zero h l = h.0
above n (x ∷ s) (suc j) h l = let e = above (suc x) s j h.1 (omega (arith, l)) in omega (arith, e, h.0)

rising_order : (n : ℕ) (s : List ℕ) → Rises n s → (i j : ℕ) → i ≤ j → j < length s → get_or s i 0 ≤ get_or s j 0
rising_order n [] h i j le l = absurd (omega (arith, l))
rising_order n (x ∷ s) h zero zero le l = omega arith
rising_order n (x ∷ s) h zero (suc j) le l = let e = above (suc x) s j h.1 (omega (arith, l)) in omega (arith, e)
rising_order n (x ∷ s) h (suc i) zero le l = absurd (omega (arith, le))
rising_order n (x ∷ s) h (suc i) (suc j) le l = rising_order (suc x) s h.1 i j (omega (arith, le)) (omega (arith, l))

found_apart : (s : List ℕ) (a i k : ℕ) → ((n : ℕ) → n < i → get_or s n 0 < a) → ((n : ℕ) → i ≤ n → n < length s → a < get_or s n 0) → k < length s → get_or s k 0 ≡ a → (k < i) ⊎ (i ≤ k) → ⊥
found_apart s a i k f g l e (inl lt) = let q = f k lt in omega (arith, q, e)
found_apart s a i k f g l e (inr le) = let q = g k le l in omega (arith, q, e)

is_found : (s : List ℕ) (a : ℕ) (r : Result ℕ ℕ) → IsSet s → IsBinarySearchResult (λ y. nat_cmp y a) s r → is_ok r ≡ is_member a s
is_found s a (Ok i) h b = let m = searched s a (Ok i) b (rising_order 0 s h) in sym (member_at s i a (m.0) (m.1))
is_found s a (Err i) h b = let m = searched s a (Err i) b (rising_order 0 s h) in sym (no_member s a (λ k l e. found_apart s a i k (m.1) (m.2) l e (cases_lt k i)))

pub search_finds : (s : List ℕ) (a : ℕ) (r : Result ℕ ℕ) (b : Bool) → IsSet s → IsBinarySearchResult (λ y. nat_cmp y a) s r → b ≡ is_ok r → b ≡ is_member a s
search_finds s a r b h f e = e ∙ is_found s a r h f

-- ---- a member replaced

same_step : (n e m r : Bool) → r ≡ (not n && m) → e ≡ n → r ≡ (not n && (e || m))
same_step true true m r h q = h
same_step false false m r h q = h
same_step true false m r h q = cc
same_step false true m r h q = cc

other_step : (n e m r : Bool) → r ≡ (not n && m) → (e ≡ true → n ≡ true → ⊥) → (e || r) ≡ (not n && (e || m))
other_step true true m r h q = absurd (q refl refl)
other_step true false m r h q = h
other_step false true m r h q = refl
other_step false false m r h q = h

others : (a c : ℕ) (s : List ℕ) → is_member c (without a s) ≡ (not (nat_eq a c) && is_member c s)
others a c [] = and_none (not (nat_eq a c))
  where
    and_none : (b : Bool) → false ≡ (b && false)
    and_none true = refl
    and_none false = refl
others a c (x ∷ s) = by_test (nat_eq x a) refl (others a c s)
  where
    by_test : (b : Bool) → nat_eq x a ≡ b → is_member c (without a s) ≡ (not (nat_eq a c) && is_member c s) → is_member c (cond b (without a s) (x ∷ without a s)) ≡ (not (nat_eq a c) && (nat_eq x c || is_member c s))
    by_test true q i = same_step (nat_eq a c) (nat_eq x c) (is_member c s) (is_member c (without a s)) i (ap (λ z. nat_eq z c) (eqb-true x a q))
    by_test false q i = other_step (nat_eq a c) (nat_eq x c) (is_member c s) (is_member c (without a s)) i (λ e n. eqb-false x a q (eqb-true x c e ∙ sym (eqb-true a c n)))

same_bool : (n m k o : Bool) → k ≡ false → (n ≡ true → m ≡ k) → m ≡ ((not n && m) || (k && o))
same_bool true m false o e h = h refl
same_bool false m false o e h = or_none m
same_bool n m true o e h = cc

pub renamed_same : (s t : List ℕ) (a : ℕ) (b : Bool) → IsSet s → b ≡ is_member a s → b ≡ false → IsRenamed s a t s
renamed_same s t a b h e f = record { set = h; members = λ c. same_bool (nat_eq a c) (is_member c s) (is_member a s) (is_member c t) (sym e ∙ f) (λ n. ap (λ z. is_member z s) (sym (eqb-true a c n))) }

pub renamed_union : (s t u rest : List ℕ) (a : ℕ) (b : Bool) → b ≡ is_member a s → b ≡ true → rest ≡ without a s → IsUnion rest t u → IsRenamed s a t u
renamed_union s t u rest a b h e q i = record { set = i.set; members = λ c. i.members c ∙ ap (λ z. is_member c z || is_member c t) q ∙ ap (λ z. z || is_member c t) (others a c s) ∙ ap (λ z. (not (nat_eq a c) && is_member c s) || (z && is_member c t)) (sym (sym h ∙ e)) }

pub rest_set : (s rest : List ℕ) (a : ℕ) → IsSet s → rest ≡ without a s → IsSet rest
rest_set s rest a h q = subst IsSet (sym q) (without_rises a 0 s h)

pub ruleset renaming = (renamed_same, renamed_union, rest_set)
