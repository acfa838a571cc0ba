-- The least alias of a union, by the order of aliases.
use Rattle.std.proofs.Common.{◌≡◌, ℕ, Bool, true, false, ◌||◌, ◌&&◌, cond, [], ◌∷◌, Option, Some, None, refl, sym, ap, ◌∙◌, arith}
use Rattle.std.specs.Prelude.{nat_eq, nat_lt}
use Rattle.std.proofs.lemmas.Bool.{eqb-true}
use Rattle.std.proofs.lemmas.Bool.Decides.{nat_tests}
use Rattle.fut_aliases.specs.declared.aliases.Alias.{Alias}
use Rattle.fut_aliases.specs.declared.aliases.Alias.TheVariants.{Part, Own}
use Rattle.fut_aliases.specs.Aliases.{Set, is_alias, is_before, least, union, with_alias}
use Rattle.alias_loops.specs.Lowest.{lesser, lowest}

-- ---- numbers one after another

and_left : (s t : Bool) → (s && t) ≡ true → s ≡ true
and_left true t h = refl
and_left false t h = cc

and_right : (s t : Bool) → (s && t) ≡ true → t ≡ true
and_right true t h = h
and_right false t h = cc

abbrev pair_before : ℕ → ℕ → ℕ → ℕ → Bool
pair_before n i m j = nat_lt n m || (nat_eq n m && nat_lt i j)

pair_other : (n i m j : ℕ) → pair_before n i m j ≡ false → (nat_eq n m && nat_eq i j) ≡ false → pair_before m j n i ≡ true
pair_other n i m j h e = grind (arith, nat_tests)

pair_on : (n i m j k l : ℕ) → pair_before n i m j ≡ true → pair_before m j k l ≡ true → pair_before n i k l ≡ true
pair_on n i m j k l h e = grind (arith, nat_tests)

number_other : (n m : ℕ) → nat_lt n m ≡ false → nat_eq n m ≡ false → nat_lt m n ≡ true
number_other n m h e = grind (arith, nat_tests)

number_on : (n m k : ℕ) → nat_lt n m ≡ true → nat_lt m k ≡ true → nat_lt n k ≡ true
number_on n m k h e = grind (arith, nat_tests)

-- ---- aliases one after another

same_before : (a b c : Alias) → is_alias a b ≡ true → is_before a c ≡ is_before b c
same_before (Part n i x) (Part m j y) (Part k l z) h = ap (λ w. pair_before w i k l) (eqb-true n m (and_left (nat_eq n m) (nat_eq i j) h)) ∙ ap (λ w. pair_before m w k l) (eqb-true i j (and_right (nat_eq n m) (nat_eq i j) h))
same_before (Part n i x) (Part m j y) (Own k) h = refl
same_before (Part n i x) (Own m) c h = cc
same_before (Own n) (Part m j y) c h = cc
same_before (Own n) (Own m) (Part k l z) h = refl
same_before (Own n) (Own m) (Own k) h = ap (λ w. nat_lt w k) (eqb-true n m h)

other_before : (a b : Alias) → is_before a b ≡ false → is_alias a b ≡ false → is_before b a ≡ true
other_before (Part n i x) (Part m j y) h e = pair_other n i m j h e
other_before (Part n i x) (Own m) h e = cc
other_before (Own n) (Part m j y) h e = refl
other_before (Own n) (Own m) h e = number_other n m h e

before_on : (a b c : Alias) → is_before a b ≡ true → is_before b c ≡ true → is_before a c ≡ true
before_on (Part n i x) (Part m j y) (Part k l z) h e = pair_on n i m j k l h e
before_on (Part n i x) (Part m j y) (Own k) h e = refl
before_on (Part n i x) (Own m) (Part k l z) h e = cc
before_on (Part n i x) (Own m) (Own k) h e = refl
before_on (Own n) (Part m j y) c h e = cc
before_on (Own n) (Own m) (Part k l z) h e = cc
before_on (Own n) (Own m) (Own k) h e = number_on n m k h e

-- ---- the least of two and of others

abbrev first_of_two : Bool → Alias → Alias → Option Alias
first_of_two t a b = cond t (Some a) (Some b)

lesser_same : (a b : Alias) (o : Option Alias) → is_before a b ≡ false → is_alias a b ≡ true → lesser b o ≡ lesser a (lesser b o)
lesser_same a b None h e = sym (ap (λ t. first_of_two t a b) h)
lesser_same a b (Some c) h e = by_order (is_before b c) refl
  where
    by_order : (t : Bool) → is_before b c ≡ t → first_of_two t b c ≡ lesser a (first_of_two t b c)
    by_order true q = sym (ap (λ t. first_of_two t a b) h)
    by_order false q = sym (ap (λ t. first_of_two t a c) (same_before a b c e ∙ q))

lesser_turned : (a b : Alias) (o : Option Alias) → is_before a b ≡ false → is_before b a ≡ true → lesser b (lesser a o) ≡ lesser a (lesser b o)
lesser_turned a b None h e = ap (λ t. first_of_two t b a) e ∙ sym (ap (λ t. first_of_two t a b) h)
lesser_turned a b (Some c) h e = by_order (is_before a c) (is_before b c) refl refl
  where
    by_order : (t u : Bool) → is_before a c ≡ t → is_before b c ≡ u → lesser b (first_of_two t a c) ≡ lesser a (first_of_two u b c)
    by_order true true p q = ap (λ t. first_of_two t b a) e ∙ sym (ap (λ t. first_of_two t a b) h)
    by_order true false p q = let r : is_before b c ≡ true = before_on b a c e p in cc
    by_order false true p q = ap (λ t. first_of_two t b c) q ∙ sym (ap (λ t. first_of_two t a b) h)
    by_order false false p q = ap (λ t. first_of_two t b c) q ∙ sym (ap (λ t. first_of_two t a c) p)

-- ---- the least of a union

lowest_with : (a : Alias) (s : Set) (o : Option Alias) → lowest (with_alias a s) o ≡ lesser a (lowest s o)
unfolding with_alias
lowest_with a [] o = refl
lowest_with a (b ∷ s) o = by_order (is_before a b) (is_alias a b) refl refl (lowest_with a s o)
  where
    by_order : (before same : Bool) → is_before a b ≡ before → is_alias a b ≡ same → lowest (with_alias a s) o ≡ lesser a (lowest s o) → lowest (cond before (a ∷ b ∷ s) (cond same (b ∷ s) (b ∷ with_alias a s))) o ≡ lesser a (lesser b (lowest s o))
    by_order true same h e i = refl
    by_order false true h e i = lesser_same a b (lowest s o) h e
    by_order false false h e i = ap (lesser b) i ∙ lesser_turned a b (lowest s o) h (other_before a b h e)

pub lowest_union : (s t : Set) (o : Option Alias) → lowest (union s t) o ≡ lowest s (lowest t o)
unfolding union
lowest_union [] t o = refl
lowest_union (a ∷ s) t o = lowest_with a (union s t) o ∙ ap (lesser a) (lowest_union s t o)

least_with : (a : Alias) (s : Set) → least (with_alias a s) ≡ lesser a (least s)
unfolding with_alias
least_with a [] = refl
least_with a (b ∷ s) = by_order (is_before a b) (is_alias a b)
  where
    by_order : (before same : Bool) → least (cond before (a ∷ b ∷ s) (cond same (b ∷ s) (b ∷ with_alias a s))) ≡ first_of_two before a b
    by_order true same = refl
    by_order false true = refl
    by_order false false = refl

pub least_union : (s t : Set) → least (union s t) ≡ lowest s (least t)
unfolding union
least_union [] t = refl
least_union (a ∷ s) t = least_with a (union s t) ∙ ap (lesser a) (least_union s t)
