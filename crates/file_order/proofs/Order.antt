-- Files have one order of load.
use Rattle.std.proofs.Common.{◌≡◌, ℕ, nat_eq, cond, Bool, true, false, List, [], ◌∷◌, ◌++◌, refl, sym, ◌∙◌, subst, eqb-true}
use mathlib.Core.Logic.{◌⊎◌, inl, inr}
use Rattle.elab_scopes.specs.Imports.{Source_file}
use Rattle.file_order.specs.Claims.{OneLoadOrder, ImportsAreLoaded, OneFirstCycle}
use Rattle.file_order.specs.Order.{has_number, imports_of, Loads, no_more, is_loaded, to_load, Among, first, later, First_cycle, itself, behind}

apart : {A : Type 0} (b : Bool) → b ≡ true → b ≡ false → A
apart b t f = absurd (let z : true ≡ false = sym t ∙ f in cc)

-- ---- one order

one_order : (fs : List Source_file) {ks loaded all others : List ℕ} → Loads fs ks loaded all → Loads fs ks loaded others → all ≡ others
one_order fs no_more no_more = refl
one_order fs (is_loaded e l) (is_loaded f m) = one_order fs l m
one_order fs (is_loaded e l) (to_load f below m) = apart _ e f
one_order fs (to_load e below l) (is_loaded f m) = apart _ f e
one_order fs {others = os} (to_load {ks = ks} {below = p} e below l) (to_load {below = q} f under m) = one_order fs l (subst (λ b. Loads fs ks b os) (sym (one_order fs below under)) m)

pub one_load_order : OneLoadOrder
one_load_order fs all others l m = one_order fs l m

-- ---- imports are loaded

among_left : (k : ℕ) (xs ys : List ℕ) → Among k xs → Among k (xs ++ ys)
among_left k [] ys a = elim a [ ]
among_left k (x ∷ xs) ys first = first
among_left k (x ∷ xs) ys (later a) = later (among_left k xs ys a)

last_among : (k : ℕ) (xs : List ℕ) → Among k (xs ++ k ∷ [])
last_among k [] = first
last_among k (x ∷ xs) = later (last_among k xs)

one_of : (k j : ℕ) (xs : List ℕ) → Among k (xs ++ j ∷ []) → Among k xs ⊎ (k ≡ j)
one_of k j [] first = inr refl
one_of k j [] (later a) = elim a [ ]
one_of k j (x ∷ xs) first = inl first
one_of k j (x ∷ xs) (later a) = sooner (one_of k j xs a)
  where
    sooner : Among k xs ⊎ (k ≡ j) → Among k (x ∷ xs) ⊎ (k ≡ j)
    sooner (inl b) = inl (later b)
    sooner (inr e) = inr e

found : (k : ℕ) (xs : List ℕ) → has_number xs k ≡ true → Among k xs
unfolding has_number
found k [] e = absurd (let z : false ≡ true = e in cc)
found k (x ∷ xs) e = at_test (nat_eq x k) refl (found k xs) e
  where
    at_test : (t : Bool) → nat_eq x k ≡ t → (has_number xs k ≡ true → Among k xs) → cond t true (has_number xs k) ≡ true → Among k (x ∷ xs)
    at_test true i f e = subst (λ z. Among k (z ∷ xs)) (sym (eqb-true x k i)) first
    at_test false i f e = later (f e)

-- what is loaded stays so, what is to be loaded is loaded
grows : (fs : List Source_file) (k : ℕ) {ks loaded all : List ℕ} → Loads fs ks loaded all → Among k loaded → Among k all
grows fs k no_more a = a
grows fs k (is_loaded e l) a = grows fs k l a
grows fs k (to_load {k = j} {loaded = loaded} e below l) a = grows fs k l (grows fs k below (among_left k loaded (j ∷ []) a))

reaches : (fs : List Source_file) (k : ℕ) {ks loaded all : List ℕ} → Loads fs ks loaded all → Among k ks → Among k all
reaches fs k no_more a = elim a [ ]
reaches fs k (is_loaded {loaded = loaded} e l) first = grows fs k l (found k loaded e)
reaches fs k (is_loaded e l) (later a) = reaches fs k l a
reaches fs k (to_load {loaded = loaded} e below l) first = grows fs k l (grows fs k below (last_among k loaded))
reaches fs k (to_load e below l) (later a) = reaches fs k l a

-- of each file that is loaded here, or was before with its imports, the imports are loaded in the end
closed : (fs : List Source_file) (k : ℕ) {ks loaded all : List ℕ} → Loads fs ks loaded all → Among k all → Among k loaded ⊎ ((j : ℕ) → Among j (imports_of fs k) → Among j all)
closed fs k no_more a = inl a
closed fs k (is_loaded e l) a = closed fs k l a
closed fs k (to_load {k = i} {loaded = loaded} {below = mid} {all = all} e below l) a = by_rest (λ b. closed fs k below b) (closed fs k l a)
  where
    by_last : Among k loaded ⊎ (k ≡ i) → Among k loaded ⊎ ((j : ℕ) → Among j (imports_of fs k) → Among j all)
    by_last (inl b) = inl b
    by_last (inr e) = inr (λ j b. grows fs j l (reaches fs j below (subst (λ z. Among j (imports_of fs z)) e b)))

    by_below : Among k (loaded ++ i ∷ []) ⊎ ((j : ℕ) → Among j (imports_of fs k) → Among j mid) → Among k loaded ⊎ ((j : ℕ) → Among j (imports_of fs k) → Among j all)
    by_below (inr f) = inr (λ j b. grows fs j l (f j b))
    by_below (inl b) = by_last (one_of k i loaded b)

    by_rest : (Among k mid → Among k (loaded ++ i ∷ []) ⊎ ((j : ℕ) → Among j (imports_of fs k) → Among j mid)) → Among k mid ⊎ ((j : ℕ) → Among j (imports_of fs k) → Among j all) → Among k loaded ⊎ ((j : ℕ) → Among j (imports_of fs k) → Among j all)
    by_rest f (inr g) = inr g
    by_rest f (inl b) = by_below (f b)

pub imports_are_loaded : ImportsAreLoaded
imports_are_loaded fs all k j l a b = done (closed fs k l a)
  where
    done : Among k [] ⊎ ((j : ℕ) → Among j (imports_of fs k) → Among j all) → Among j all
    done (inl b) = elim b [ ]
    done (inr f) = f j b

-- ---- one cycle is first

same_first : (fs : List Source_file) (k j : ℕ) {ks : List ℕ} → First_cycle fs k ks → First_cycle fs j ks → k ≡ j
same_first fs k j (itself c) (itself d) = refl
same_first fs k j (itself c) (behind n g) = absurd (n c)
same_first fs k j (behind n f) (itself d) = absurd (n d)
same_first fs k j (behind n f) (behind m g) = same_first fs k j f g

pub one_first_cycle : OneFirstCycle
one_first_cycle fs all k j f g = same_first fs k j f g
