-- How often a number stands in a list: at most once in a range, and so in what a range is a permutation of.
use Rattle.std.proofs.Common.{◌≡◌, ℕ, zero, suc, ◌+◌, ◌≤◌, ◌<◌, ◌++◌, List, [], ◌∷◌, Bool, true, false, cond, eqb, refl, sym, ap, ◌∙◌, subst, arith, sum_by, IsPermutation}
use Rattle.std.specs.List.{range_with_len, IsDistinct, AllByRecursion}
use Rattle.std.proofs.lemmas.Bool.Decides.{nat_tests}
use Rattle.std.proofs.lemmas.List.Sums.{sum_by-cons, sum_by-append}
use Rattle.std.proofs.lemmas.List.Sorted.{sum_by-IsPermutation}

abbrev hit : ℕ → ℕ → ℕ
hit n m = cond (eqb n m) 1 0

abbrev pub times : ℕ → List ℕ → ℕ
times n xs = sum_by (hit n) xs

pub times-append : (n : ℕ) (xs ys : List ℕ) → times n (xs ++ ys) ≡ times n xs + times n ys
times-append n = sum_by-append (hit n)

-- ---- ranges

range_past : (n a k : ℕ) → n < a → times n (range_with_len a k) ≡ 0
range_past n a zero lt = refl
range_past n a (suc k) lt =
    let other : eqb n a ≡ false = grind (arith, nat_tests) in
    let first : hit n a ≡ 0 = ap (λ b. cond b 1 0) other in
    sum_by-cons (hit n) a (range_with_len (a + 1) k) ∙ omega (arith, range_past n (a + 1) k (omega arith), first)

range_once : (n a k : ℕ) → times n (range_with_len a k) ≤ 1
range_once n a zero = omega arith
range_once n a (suc k) = subst (λ m. m ≤ 1) (sym (sum_by-cons (hit n) a (range_with_len (a + 1) k))) (either (eqb n a) refl (range_once n (a + 1) k))
  where
    either : (b : Bool) → eqb n a ≡ b → times n (range_with_len (a + 1) k) ≤ 1 → cond b 1 0 + times n (range_with_len (a + 1) k) ≤ 1
    either true t r = let e : n ≡ a = grind (arith, nat_tests) in omega (arith, range_past n (a + 1) k (omega arith))
    either false f r = omega (arith, r)

pub once : (k : ℕ) (xs : List ℕ) → IsPermutation (range_with_len 0 k) xs → (n : ℕ) → times n xs ≤ 1
once k xs each n = omega (arith, sum_by-IsPermutation (hit n) (range_with_len 0 k) xs each, range_once n 0 k)

-- ---- what stands once differs

absent : (n : ℕ) (xs : List ℕ) → times n xs ≡ 0 → AllByRecursion (λ y. eqb n y ≡ false) xs
absent n [] none = tt
absent n (y ∷ ys) none = let both = sum_by-cons (hit n) y ys in (off (eqb n y) (omega (arith, both, none)), absent n ys (omega (arith, both, none)))
  where
    off : (b : Bool) → ◌≡◌ {A = ℕ} (cond b 1 0) 0 → b ≡ false
    off true e = absurd (omega (arith, e))
    off false e = refl

pub distinct : (xs : List ℕ) → ((n : ℕ) → times n xs ≤ 1) → IsDistinct eqb xs
unfolding IsDistinct
distinct [] few = tt
distinct (x ∷ xs) few =
    let self : eqb x x ≡ true = grind (arith, nat_tests) in
    let one : hit x x ≡ 1 = ap (λ b. cond b 1 0) self in
    (absent x xs (omega (arith, sum_by-cons (hit x) x xs, few x, one)), distinct xs (λ n. omega (arith, sum_by-cons (hit n) x xs, few n)))

-- ---- a number that stands in a list

pub record Stands (n : ℕ) (xs : List ℕ) : Type 0 where
  pub some : 1 ≤ times n xs

pub stands_first : (n m : ℕ) (xs : List ℕ) → n ≡ m → Stands n (m ∷ xs)
stands_first n m xs e =
    let same : eqb n m ≡ true = grind (arith, nat_tests) in
    let one : hit n m ≡ 1 = ap (λ b. cond b 1 0) same in
    record { some = omega (arith, sum_by-cons (hit n) m xs, one) }

pub stands_left : (n : ℕ) (xs ys : List ℕ) → Stands n xs → Stands n (xs ++ ys)
stands_left n xs ys s = record { some = omega (arith, times-append n xs ys, s.some) }

pub stands_right : (n : ℕ) (xs ys : List ℕ) → Stands n ys → Stands n (xs ++ ys)
stands_right n xs ys s = record { some = omega (arith, times-append n xs ys, s.some) }

-- in the second of three, and in the third
pub stands_second : (n : ℕ) (xs ys zs : List ℕ) → Stands n ys → Stands n (xs ++ (ys ++ zs))
stands_second n xs ys zs s = stands_right n xs (ys ++ zs) (stands_left n ys zs s)

pub stands_third : (n : ℕ) (xs ys zs : List ℕ) → Stands n zs → Stands n (xs ++ (ys ++ zs))
stands_third n xs ys zs s = stands_right n xs (ys ++ zs) (stands_right n ys zs s)

-- ---- each number stands in one list as often as in another, or less often

pub record Fewer (xs ys : List ℕ) : Type 0 where
  pub most : (n : ℕ) → times n xs ≤ times n ys

pub fewer_same : (xs : List ℕ) → Fewer xs xs
fewer_same xs = record { most = λ n. omega arith }

pub fewer_none : (ys : List ℕ) → Fewer [] ys
fewer_none ys = record { most = λ n. omega arith }

pub fewer_both : {xs ys us vs : List ℕ} → Fewer xs ys → Fewer us vs → Fewer (xs ++ us) (ys ++ vs)
fewer_both {xs} {ys} {us} {vs} f g = record { most = λ n. omega (arith, times-append n xs us, times-append n ys vs, f.most n, g.most n) }

pub fewer_behind : (zs : List ℕ) {xs ys : List ℕ} → Fewer xs ys → Fewer xs (zs ++ ys)
fewer_behind zs {xs} {ys} f = record { most = λ n. omega (arith, times-append n zs ys, f.most n) }
