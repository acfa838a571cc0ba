-- The loops over sets, which look for the least alias.
use Rattle.std.proofs.Common.{◌≡◌, ℕ, ◌+◌, ◌<◌, ◌≤◌, Bool, true, false, ◌||◌, cond, List, [], ◌∷◌, ◌++◌, length, get_or, drop, Option, refl, sym, ap, ◌∙◌, arith}
use Rattle.std.specs.Borrow.{Bor}
use Rattle.fut_aliases.specs.declared.aliases.Alias.{Alias}
use Rattle.fut_aliases.specs.Aliases.{Set, is_in, those, union}
use Rattle.fut_aliases.specs.Loops.{all_sets, firsts, kept_names}
use Rattle.fut_aliases.proofs.Sets.{has_union}
use Rattle.alias_joins.specs.SetRows.{sets_of}
use Rattle.alias_values.proofs.Rows.{drop_past, one_more}
use Rattle.alias_loops.specs.declared.carried.Carried.{Carried}
use Rattle.alias_loops.specs.Carried.{carrieds_of, kept_of}
use Rattle.alias_loops.specs.Lowest.{lesser, lowest}

-- ---- the least that passes a test, and one more

module _ (test : Alias → Bool) (s : Set) (one : Option Alias) where
  pub low_start : one ≡ lowest (those test (drop (length s) s)) one
  unfolding those
  low_start = sym (ap (λ z. lowest (those test z) one) (drop_past s (length s) (omega arith)))

  low_at : (k : ℕ) (d : Alias) → k < length s → lowest (those test (drop k s)) one ≡ cond (test (get_or s k d)) (lesser (get_or s k d) (lowest (those test (drop (k + 1) s)) one)) (lowest (those test (drop (k + 1) s)) one)
  unfolding those
  low_at k d l = ap (λ z. lowest (those test z) one) (one_more s k d l) ∙ by_test (test (get_or s k d)) (get_or s k d) (those test (drop (k + 1) s))
    where
      by_test : (t : Bool) (a : Alias) (r : Set) → lowest (cond t (a ∷ r) r) one ≡ cond t (lesser a (lowest r one)) (lowest r one)
      by_test true a r = refl
      by_test false a r = refl

  pub low_more : (i k : ℕ) (d : Alias) (counts : Bool) (now later : Option Alias) → k + 1 ≡ i → i ≤ length s → now ≡ lowest (those test (drop i s)) one → counts ≡ test (get_or s k d) → later ≡ cond counts (lesser (get_or s k d) now) now → later ≡ lowest (those test (drop k s)) one
  low_more i k d counts now later e l h t m = m ∙ ap (λ z. cond z (lesser (get_or s k d) now) now) t ∙ ap (λ z. cond (test (get_or s k d)) (lesser (get_or s k d) z) z) (h ∙ ap (λ z. lowest (those test (drop z s)) one) (sym e)) ∙ sym (low_at k d (omega (arith, e, l)))

  pub low_end : (i : ℕ) (now : Option Alias) → i ≤ 0 → now ≡ lowest (those test (drop i s)) one → now ≡ lowest (those test s) one
  low_end i now z h = let e : i ≡ 0 = omega (arith, z) in h ∙ ap (λ k. lowest (those test (drop k s)) one) e

-- ---- whether an alias is in one of several sets

module _ {A : Type 0} (f : A → Set) where
  abbrev pub union_by : List A → Set
  union_by [] = []
  union_by (x ∷ xs) = union (f x) (union_by xs)

  module _ (a : Alias) where
    pub in_both : (xs ys : List A) → is_in a (union_by (xs ++ ys)) ≡ (is_in a (union_by xs) || is_in a (union_by ys))
    unfolding is_in
    in_both [] ys = refl
    in_both (x ∷ xs) ys = has_union a (f x) (union_by (xs ++ ys)) ∙ ap (λ z. is_in a (f x) || z) (in_both xs ys) ∙ grouped (is_in a (f x)) (is_in a (union_by xs)) (is_in a (union_by ys)) ∙ ap (λ z. z || is_in a (union_by ys)) (sym (has_union a (f x) (union_by xs)))
      where
        grouped : (r s t : Bool) → (r || (s || t)) ≡ ((r || s) || t)
        grouped true s t = refl
        grouped false s t = refl

    module _ (xs : List A) (i : ℕ) where
      in_at : (d : A) → i < length xs → is_in a (union_by (drop i xs)) ≡ (is_in a (f (get_or xs i d)) || is_in a (union_by (drop (i + 1) xs)))
      in_at d l = ap (λ z. is_in a (union_by z)) (one_more xs i d l) ∙ has_union a (f (get_or xs i d)) (union_by (drop (i + 1) xs))

      pub some_more : (d : A) → i < length xs → false ≡ is_in a (f (get_or xs i d)) → is_in a (union_by xs) ≡ is_in a (union_by (drop i xs)) → is_in a (union_by xs) ≡ is_in a (union_by (drop (i + 1) xs))
      some_more d l h e = e ∙ in_at d l ∙ ap (λ z. z || is_in a (union_by (drop (i + 1) xs))) (sym h)

      pub some_here : (d : A) → i < length xs → true ≡ is_in a (f (get_or xs i d)) → is_in a (union_by xs) ≡ is_in a (union_by (drop i xs)) → true ≡ is_in a (union_by xs)
      some_here d l h e = sym (e ∙ in_at d l ∙ ap (λ z. z || is_in a (union_by (drop (i + 1) xs))) (sym h))

      pub some_end : length xs ≤ i → is_in a (union_by xs) ≡ is_in a (union_by (drop i xs)) → false ≡ is_in a (union_by xs)
      unfolding is_in
      some_end l e = sym (e ∙ ap (λ z. is_in a (union_by z)) (drop_past xs i l))

-- ---- the sets of components

abbrev pub first_of : Carried → Set
first_of c = c.first.now

abbrev pub set_of : Bor Set → Set
set_of s = s.now

pub firsts_are : (cs : List Carried) → firsts (carrieds_of cs) ≡ union_by first_of cs
firsts_are [] = refl
firsts_are (c ∷ cs) = ap (union c.first.now) (firsts_are cs)

firsts_both : (xs ys : List Carried) → firsts (carrieds_of xs ++ carrieds_of ys) ≡ union_by first_of (xs ++ ys)
firsts_both [] ys = firsts_are ys
firsts_both (x ∷ xs) ys = ap (union x.first.now) (firsts_both xs ys)

pub sets_are : (ss : List (Bor Set)) → all_sets (sets_of ss) ≡ union_by set_of ss
sets_are [] = refl
sets_are (s ∷ ss) = ap (union s.now) (sets_are ss)

sets_both : (ss ts : List (Bor Set)) → all_sets (sets_of ss ++ sets_of ts) ≡ union_by set_of (ss ++ ts)
sets_both [] ts = sets_are ts
sets_both (s ∷ ss) ts = ap (union s.now) (sets_both ss ts)

pub kept_are : (cs : List Carried) → kept_names (carrieds_of cs) ≡ union_by kept_of cs
unfolding union
kept_are [] = refl
kept_are (c ∷ cs) = ap (λ z. cond c.is_eaten z (union c.own.now z)) (kept_are cs) ∙ by_eaten c.is_eaten (union_by kept_of cs)
  where
    by_eaten : (t : Bool) (r : Set) → cond t r (union c.own.now r) ≡ union (cond t [] c.own.now) r
    by_eaten true r = refl
    by_eaten false r = refl

-- one of two, where the second is asked only if the first is not so
pub or_then : (r p q x : Bool) → r ≡ true → r ≡ p → (p || q) ≡ x → r ≡ x
or_then r p q x t e h = t ∙ ap (λ z. z || q) (sym t ∙ e) ∙ h

pub or_else : (r p s q x : Bool) → r ≡ false → r ≡ p → s ≡ q → (p || q) ≡ x → s ≡ x
or_else r p s q x f e k h = k ∙ ap (λ z. z || q) (sym f ∙ e) ∙ h

module _ (a : Alias) where
  pub others_are : (xs ys : List Carried) → (is_in a (firsts (carrieds_of xs)) || is_in a (firsts (carrieds_of ys))) ≡ is_in a (firsts (carrieds_of xs ++ carrieds_of ys))
  others_are xs ys = sym (ap (is_in a) (firsts_both xs ys) ∙ in_both first_of a xs ys
      ∙ ap (λ z. z || is_in a (union_by first_of ys)) (ap (is_in a) (sym (firsts_are xs))) ∙ ap (λ z. is_in a (firsts (carrieds_of xs)) || z) (ap (is_in a) (sym (firsts_are ys))))

  pub either_is : (ss ts : List (Bor Set)) → (is_in a (all_sets (sets_of ss)) || is_in a (all_sets (sets_of ts))) ≡ is_in a (all_sets (sets_of ss ++ sets_of ts))
  either_is ss ts = sym (ap (is_in a) (sets_both ss ts) ∙ in_both set_of a ss ts ∙ ap (λ z. z || is_in a (union_by set_of ts)) (ap (is_in a) (sym (sets_are ss))) ∙ ap (λ z. is_in a (all_sets (sets_of ss)) || z) (ap (is_in a) (sym (sets_are ts))))

  pub not_kept : (c : Carried) → c.is_eaten ≡ true → false ≡ is_in a (kept_of c)
  unfolding is_in
  not_kept c e = ap (λ z. is_in a (cond z [] c.own.now)) (sym e)

  pub kept_by : (c : Carried) → c.is_eaten ≡ false → is_in a c.own.now ≡ is_in a (kept_of c)
  kept_by c e = ap (λ z. is_in a (cond z [] c.own.now)) (sym e)

pub ruleset kept_forms = (not_kept, kept_by)
