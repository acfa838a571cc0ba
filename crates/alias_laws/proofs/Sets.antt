-- Sets in order: what unions and parts of them have.
use Rattle.std.proofs.Common.{◌≡◌, Bool, true, false, ◌||◌, ◌&&◌, cond, [], ◌∷◌, refl, sym, ap, ◌∙◌, arith}
use Rattle.std.proofs.lemmas.Bool.{cond_both}
use Rattle.std.proofs.lemmas.Bool.Decides.{nat_tests}
use Rattle.fut_aliases.specs.Aliases.{is_before, is_alias, Set, is_in, with_alias, union, those}
use Rattle.fut_aliases.specs.declared.aliases.Alias.TheVariants.{Part, Own}
use Rattle.fut_aliases.specs.declared.aliases.Alias.{Alias}

-- ---- the order

before_next : (a b c : Alias) → is_before a b ≡ true → is_before b c ≡ true → is_before a c ≡ true
before_next (Part n i x) (Part m j y) (Part k l z) p q = grind (arith, nat_tests)
before_next (Part n i x) (Part m j y) (Own k) p q = refl
before_next (Part n i x) (Own m) (Part k l z) p q = cc
before_next (Part n i x) (Own m) (Own k) p q = refl
before_next (Own n) (Part m j y) c p q = cc
before_next (Own n) (Own m) (Part k l z) p q = cc
before_next (Own n) (Own m) (Own k) p q = grind (arith, nat_tests)

after_others : (a b : Alias) → is_before a b ≡ false → is_alias a b ≡ false → is_before b a ≡ true
after_others (Part n i x) (Part m j y) p q = grind (arith, nat_tests)
after_others (Part n i x) (Own m) p q = cc
after_others (Own n) (Part m j y) p q = refl
after_others (Own n) (Own m) p q = grind (arith, nat_tests)

-- ---- one alias

pub same_itself : (a : Alias) → is_alias a a ≡ true
same_itself (Part n i x) = grind (arith, nat_tests)
same_itself (Own n) = grind (arith, nat_tests)

pub same_turned : (a b : Alias) → is_alias a b ≡ is_alias b a
same_turned (Part n i x) (Part m j y) = grind (arith, nat_tests)
same_turned (Part n i x) (Own m) = refl
same_turned (Own n) (Part m j y) = refl
same_turned (Own n) (Own m) = grind (arith, nat_tests)

-- a test that knows no more of an alias than which one it is
abbrev pub Respects : (Alias → Bool) → Type 0
Respects test = (a b : Alias) → is_alias a b ≡ true → test a ≡ test b

pub alias_respects : (c : Alias) → Respects (is_alias c)
alias_respects (Part k l z) (Part n i x) (Part m j y) h = grind (arith, nat_tests)
alias_respects c (Part n i x) (Own m) h = cc
alias_respects c (Own n) (Part m j y) h = cc
alias_respects (Own k) (Part n i x) (Part m j y) h = refl
alias_respects (Part k l z) (Own n) (Own m) h = refl
alias_respects (Own k) (Own n) (Own m) h = grind (arith, nat_tests)

pub in_respects : (s : Set) → Respects (λ a. is_in a s)
unfolding is_in
in_respects [] a b h = refl
in_respects (c ∷ s) a b h = both (same_turned a c ∙ alias_respects c a b h ∙ same_turned c b) (in_respects s a b h)
  where
    both : {x y z w : Bool} → x ≡ y → z ≡ w → (x || z) ≡ (y || w)
    both p q = cc

-- ---- sets in order

abbrev pub Above : Alias → Set → Type 0
Above a [] = Unit {0}
Above a (b ∷ s) = (is_before a b ≡ true) × Above a s

abbrev pub Ordered : Set → Type 0
Ordered [] = Unit {0}
Ordered (a ∷ s) = Above a s × Ordered s

above_more : (a b : Alias) (s : Set) → is_before a b ≡ true → Above b s → Above a s
above_more a b [] h o = tt
above_more a b (c ∷ s) h o = (before_next a b c h o.0, above_more a b s h o.1)

above_with : (a b : Alias) (s : Set) → is_before b a ≡ true → Above b s → Above b (with_alias a s)
unfolding with_alias
above_with a b [] h o = (h, tt)
above_with a b (c ∷ s) h o = cond_both (is_before a c) (a ∷ c ∷ s) (cond (is_alias a c) (c ∷ s) (c ∷ with_alias a s)) (Above b) (λ p. (h, o))
    (λ p. cond_both (is_alias a c) (c ∷ s) (c ∷ with_alias a s) (Above b) (λ q. o) (λ q. (o.0, above_with a b s h o.1)))

pub ordered_with : (a : Alias) (s : Set) → Ordered s → Ordered (with_alias a s)
unfolding with_alias
ordered_with a [] o = (tt, tt)
ordered_with a (b ∷ s) o = cond_both (is_before a b) (a ∷ b ∷ s) (cond (is_alias a b) (b ∷ s) (b ∷ with_alias a s)) Ordered (λ p. ((p, above_more a b s p o.0), o))
    (λ p. cond_both (is_alias a b) (b ∷ s) (b ∷ with_alias a s) Ordered (λ q. o) (λ q. (above_with a b s (after_others a b p q) o.0, ordered_with a s o.1)))

pub ordered_union : (s t : Set) → Ordered t → Ordered (union s t)
unfolding union
ordered_union [] t o = o
ordered_union (a ∷ s) t o = ordered_with a (union s t) (ordered_union s t o)

pub above_those : (test : Alias → Bool) (a : Alias) (s : Set) → Above a s → Above a (those test s)
unfolding those
above_those test a [] o = tt
above_those test a (b ∷ s) o = cond_both (test b) (b ∷ those test s) (those test s) (Above a) (λ k. (o.0, above_those test a s o.1)) (λ k. above_those test a s o.1)

pub ordered_those : (test : Alias → Bool) (s : Set) → Ordered s → Ordered (those test s)
unfolding those
ordered_those test [] o = tt
ordered_those test (a ∷ s) o = cond_both (test a) (a ∷ those test s) (those test s) Ordered (λ k. (above_those test a s o.0, ordered_those test s o.1)) (λ k. ordered_those test s o.1)

with_above : (a : Alias) (s : Set) → Above a s → with_alias a s ≡ (a ∷ s)
unfolding with_alias
with_above a [] o = refl
with_above a (b ∷ s) o = ap (λ x. cond x (a ∷ b ∷ s) (cond (is_alias a b) (b ∷ s) (b ∷ with_alias a s))) o.0

-- ---- parts of sets

pub has_those : (test : Alias → Bool) → Respects test → (a : Alias) (s : Set) → is_in a (those test s) ≡ (is_in a s && test a)
unfolding is_in those
has_those test r a [] = refl
has_those test r a (b ∷ s) = kept (test b) (is_alias a b) refl refl (has_those test r a s)
  where
    nothing : (x y : Bool) → y ≡ false → (x && y) ≡ false
    nothing true y h = h
    nothing false y h = refl

    kept : (k same : Bool) → test b ≡ k → is_alias a b ≡ same → is_in a (those test s) ≡ (is_in a s && test a) → is_in a (cond k (b ∷ those test s) (those test s)) ≡ ((is_alias a b || is_in a s) && test a)
    kept true true p q i = ap (λ x. x || is_in a (those test s)) q ∙ sym (ap (λ x. (x || is_in a s) && test a) q ∙ r a b q ∙ p)
    kept true false p q i = ap (λ x. x || is_in a (those test s)) q ∙ i ∙ sym (ap (λ x. (x || is_in a s) && test a) q)
    kept false true p q i = i ∙ (nothing (is_in a s) (test a) (r a b q ∙ p) ∙ sym (ap (λ x. (x || is_in a s) && test a) q ∙ (r a b q ∙ p)))
    kept false false p q i = i ∙ sym (ap (λ x. (x || is_in a s) && test a) q)

pub those_with : (test : Alias → Bool) → Respects test → (a : Alias) (s : Set) → Ordered s → those test (with_alias a s) ≡ cond (test a) (with_alias a (those test s)) (those test s)
unfolding with_alias those
those_with test r a [] o = refl
those_with test r a (b ∷ s) o = placed (is_before a b) (is_alias a b) (test a) (test b) refl refl refl refl (those_with test r a s o.1)
  where
    placed : (before same ka kb : Bool) → is_before a b ≡ before → is_alias a b ≡ same → test a ≡ ka → test b ≡ kb
        → those test (with_alias a s) ≡ cond (test a) (with_alias a (those test s)) (those test s)
        → those test (cond before (a ∷ b ∷ s) (cond same (b ∷ s) (b ∷ with_alias a s))) ≡ cond ka (with_alias a (cond kb (b ∷ those test s) (those test s))) (cond kb (b ∷ those test s) (those test s))
    placed true same true true p q x y i = rw (x, y) (sym (with_above a (b ∷ those test s) (p, above_more a b (those test s) p (above_those test b s o.0))))
    placed true same true false p q x y i = rw (x, y) (sym (with_above a (those test s) (above_more a b (those test s) p (above_those test b s o.0))))
    placed true same false kb p q x y i = rw (x, y) refl
    placed false true true true p q x y i = rw (p, q, y) refl
    placed false true true false p q x y i = let e : test a ≡ test b = r a b q in cc
    placed false true false true p q x y i = let e : test a ≡ test b = r a b q in cc
    placed false true false false p q x y i = rw y refl
    placed false false true true p q x y i = rw (p, q, y, i, x) refl
    placed false false true false p q x y i = rw (y, i, x) refl
    placed false false false true p q x y i = rw (y, i, x) refl
    placed false false false false p q x y i = rw (y, i, x) refl

pub those_union : (test : Alias → Bool) → Respects test → (s t : Set) → Ordered t → those test (union s t) ≡ union (those test s) (those test t)
unfolding union those
those_union test r [] t o = refl
those_union test r (a ∷ s) t o = those_with test r a (union s t) (ordered_union s t o) ∙ kept (test a) (those_union test r s t o)
  where
    kept : (k : Bool) → those test (union s t) ≡ union (those test s) (those test t) → cond k (with_alias a (those test (union s t))) (those test (union s t)) ≡ union (cond k (a ∷ those test s) (those test s)) (those test t)
    kept true i = ap (with_alias a) i
    kept false i = i

-- what is left of a part is the same part of what is left, where the tests agree there
pub those_left : (left test test' : Alias → Bool) → ((a : Alias) → left a ≡ true → test' a ≡ test a) → (s : Set) → those test' (those left s) ≡ those left (those test s)
unfolding those
those_left left test test' same [] = refl
those_left left test test' same (a ∷ s) = kept (left a) (test a) refl refl (those_left left test test' same s)
  where
    kept : (l k : Bool) → left a ≡ l → test a ≡ k → those test' (those left s) ≡ those left (those test s) → those test' (cond l (a ∷ those left s) (those left s)) ≡ those left (cond k (a ∷ those test s) (those test s))
    kept true true p q i = rw (same a p, p, q) (ap (λ x. a ∷ x) i)
    kept true false p q i = rw (same a p, q) i
    kept false true p q i = rw p i
    kept false false p q i = i

pub those_same : (test test' : Alias → Bool) (s : Set) → ((a : Alias) → is_in a s ≡ true → test' a ≡ test a) → those test' s ≡ those test s
unfolding those is_in
those_same test test' [] same = refl
those_same test test' (a ∷ s) same = ap₃ (same a (or_first (is_in a s) (same_itself a))) (those_same test test' s (λ b h. same b (or_next (is_alias b a) h)))
  where
    ap₃ : {k l : Bool} {u v : Set} → k ≡ l → u ≡ v → cond k (a ∷ u) u ≡ cond l (a ∷ v) v
    ap₃ p q = cc

    or_first : {x : Bool} (y : Bool) → x ≡ true → (x || y) ≡ true
    or_first y h = ap (λ z. z || y) h

    or_next : (x : Bool) {y : Bool} → y ≡ true → (x || y) ≡ true
    or_next true h = refl
    or_next false h = h

-- what stands behind an alias in order is no such alias
above_not_in : (a c : Alias) (s : Set) → Above a s → is_alias c a ≡ true → is_in c s ≡ false
unfolding is_in
above_not_in a c [] o h = refl
above_not_in a c (b ∷ s) o h = ap (λ x. x || is_in c s) (not_one c a b o.0 h) ∙ above_not_in a c s o.1 h
  where
    not_one : (c a b : Alias) → is_before a b ≡ true → is_alias c a ≡ true → is_alias c b ≡ false
    not_one (Part k l z) (Part n i x) (Part m j y) p q = grind (arith, nat_tests)
    not_one (Part k l z) (Part n i x) (Own m) p q = refl
    not_one (Part k l z) (Own n) b p q = cc
    not_one (Own k) (Part n i x) b p q = cc
    not_one (Own k) (Own n) (Part m j y) p q = refl
    not_one (Own k) (Own n) (Own m) p q = grind (arith, nat_tests)

-- what is in a set in order stands behind its first, or is that
pub in_above : (a c : Alias) (s : Set) → Above a s → is_in c s ≡ true → is_before a c ≡ true
unfolding is_in
in_above a c [] o h = cc
in_above a c (b ∷ s) o h = which (is_alias c b) refl (λ k. in_above a c s o.1 k)
  where
    before_same : (a b c : Alias) → is_before a b ≡ true → is_alias c b ≡ true → is_before a c ≡ true
    before_same (Part n i x) (Part m j y) (Part k l z) p q = grind (arith, nat_tests)
    before_same (Part n i x) (Part m j y) (Own k) p q = refl
    before_same (Part n i x) (Own m) (Part k l z) p q = cc
    before_same (Part n i x) (Own m) (Own k) p q = refl
    before_same (Own n) (Part m j y) c p q = cc
    before_same (Own n) (Own m) (Part k l z) p q = cc
    before_same (Own n) (Own m) (Own k) p q = grind (arith, nat_tests)

    which : (same : Bool) → is_alias c b ≡ same → (is_in c s ≡ true → is_before a c ≡ true) → is_before a c ≡ true
    which true p i = before_same a b c o.0 p
    which false p i = i (sym (ap (λ x. x || is_in c s) p) ∙ h)
