-- A set of the checker beside a whole one. A world says of each component of each name which one stands for it: itself where the
-- checker keeps it in sets, else an earlier one, which is in each set that it is in.
use Rattle.std.proofs.Common.{◌≡◌, ℕ, ◌<◌, Bool, true, false, ◌||◌, ◌&&◌, cond, [], ◌∷◌, Some, ◌⊎◌, inl, inr, refl, sym, ap, ap₂, subst₂, ◌∙◌, arith}
use Rattle.std.specs.Prelude.{nat_eq, nat_lt}
use Rattle.std.proofs.lemmas.Bool.{eqb-true, and_parts, or_cases, and_from}
use Rattle.std.proofs.lemmas.Bool.Decides.{nat_tests}
use Rattle.fut_aliases.specs.Aliases.{is_before, is_alias, Set, is_in, union, those, least, shared, is_outside}
use Rattle.fut_aliases.specs.declared.aliases.Alias.TheVariants.{Part, Own}
use Rattle.fut_aliases.specs.declared.aliases.Alias.{Alias}
use Rattle.fut_aliases.proofs.Sets.{has_union}
use Rattle.alias_laws.proofs.Sets.{same_itself, same_turned, Respects, in_respects, Ordered, ordered_union, ordered_those, has_those, those_union, those_left, those_same, in_above}

pub record World : Type 0 where
  pub known : ℕ → Bool
  pub first : ℕ → ℕ → ℕ × ℕ
  pub no_later : (n i : ℕ) → ((first n i).0 < n) ⊎ (first n i ≡ (n, i))
  -- what no set has
  pub avoided : Alias → Bool

abbrev pub standing : World → Alias → Alias
standing w (Part n i b) = Part (w.first n i).0 (w.first n i).1 b
standing w (Own n) = Own n

abbrev pub alone : World → Alias → Bool
alone w a = is_alias a (standing w a)

abbrev pub node : Alias → ℕ
node (Part n i b) = n
node (Own n) = n

pub node_same : (a b : Alias) → is_alias a b ≡ true → node a ≡ node b
node_same (Part n i x) (Part m j y) h = eqb-true n m (and_parts (nat_eq n m) (nat_eq i j) h).0
node_same (Part n i x) (Own m) h = cc
node_same (Own n) (Part m j y) h = cc
node_same (Own n) (Own m) h = eqb-true n m h

pub standing_same : (w : World) (a b : Alias) → is_alias a b ≡ true → is_alias (standing w a) (standing w b) ≡ true
standing_same w (Part n i x) (Part m j y) h = subst₂ (λ p q. is_alias (standing w (Part n i x)) (standing w (Part p q y)) ≡ true) (eqb-true n m (and_parts (nat_eq n m) (nat_eq i j) h).0) (eqb-true i j (and_parts (nat_eq n m) (nat_eq i j) h).1) (same_itself (Part (w.first n i).0 (w.first n i).1 x))
standing_same w (Part n i x) (Own m) h = cc
standing_same w (Own n) (Part m j y) h = cc
standing_same w (Own n) (Own m) h = h

pub alone_respects : (w : World) → Respects (alone w)
alone_respects w (Part n i x) (Part m j y) h = ap₂ (λ p q. nat_eq p (w.first p q).0 && nat_eq q (w.first p q).1) (eqb-true n m (and_parts (nat_eq n m) (nat_eq i j) h).0) (eqb-true i j (and_parts (nat_eq n m) (nat_eq i j) h).1)
alone_respects w (Part n i x) (Own m) h = cc
alone_respects w (Own n) (Part m j y) h = cc
alone_respects w (Own n) (Own m) h = same_itself (Own n) ∙ sym (same_itself (Own m))

-- what stands for a is in the set, by itself, and a is known
pub record Stood (w : World) (s : Set) (a : Alias) : Type 0 where
  pub has : is_in (standing w a) s ≡ true
  pub is_alone : alone w (standing w a) ≡ true
  pub is_known : w.known (node a) ≡ true
  pub is_not : w.avoided a ≡ false

pub record SetR (w : World) (s s' : Set) : Type 0 where
  pub ordered : Ordered s
  pub stood : (a : Alias) → is_in a s ≡ true → Stood w s a
  pub is : s' ≡ those (alone w) s

-- a test of aliases of a set, and the checker's
pub record TestR (w : World) (s : Set) (test test' : Alias → Bool) : Type 0 where
  pub respects : Respects test
  pub closed : (a : Alias) → is_in a s ≡ true → test a ≡ true → test (standing w a) ≡ true
  pub same : (a : Alias) → alone w a ≡ true → test' a ≡ test a

-- ---- sets

pub empties : (w : World) → SetR w [] []
unfolding is_in those
empties w = record { ordered = tt; stood = λ a h. cc; is = refl }

pub unions : {w : World} {s s' t t' : Set} → SetR w s s' → SetR w t t' → SetR w (union s t) (union s' t')
unions {w} {s} {s'} {t} {t'} p q = record {
  ordered = ordered_union s t q.ordered;
  stood = λ a h. in_either a (or_cases (is_in a s) (is_in a t) (sym (has_union a s t) ∙ h));
  is = ap₂ union p.is q.is ∙ sym (those_union (alone w) (alone_respects w) s t q.ordered);
}
  where
    or_true : (x : Bool) {y : Bool} → y ≡ true → (x || y) ≡ true
    or_true true h = refl
    or_true false h = h

    in_either : (a : Alias) → (is_in a s ≡ true) ⊎ (is_in a t ≡ true) → Stood w (union s t) a
    in_either a (inl h) = let k = p.stood a h in record { has = has_union (standing w a) s t ∙ ap (λ x. x || is_in (standing w a) t) k.has; is_alone = k.is_alone; is_known = k.is_known; is_not = k.is_not }
    in_either a (inr h) = let k = q.stood a h in record { has = has_union (standing w a) s t ∙ or_true (is_in (standing w a) s) k.has; is_alone = k.is_alone; is_known = k.is_known; is_not = k.is_not }

pub those_are : {w : World} {s s' : Set} {test test' : Alias → Bool} → TestR w s test test' → SetR w s s' → SetR w (those test s) (those test' s')
those_are {w} {s} {s'} {test} {test'} t p = record {
  ordered = ordered_those test s p.ordered;
  stood = λ a h. let both = and_parts (is_in a s) (test a) (sym (has_those test t.respects a s) ∙ h) in let k = p.stood a both.0 in record {
    has = has_those test t.respects (standing w a) s ∙ and_from (is_in (standing w a) s) (test (standing w a)) k.has (t.closed a both.0 both.1);
    is_alone = k.is_alone;
    is_known = k.is_known;
    is_not = k.is_not;
  };
  is = ap (those test') p.is ∙ those_left (alone w) test test' t.same s;
}

-- ---- tests

pub outside_is : (w : World) (s : Set) (from : ℕ) → TestR w s (is_outside from) (is_outside from)
outside_is w s from = record { respects = respects; closed = λ a h k. closed a k; same = λ a h. refl }
  where
    respects : Respects (is_outside from)
    respects (Part n i x) (Part m j y) h = ap (λ k. nat_lt k from) (node_same (Part n i x) (Part m j y) h)
    respects (Part n i x) (Own m) h = cc
    respects (Own n) (Part m j y) h = cc
    respects (Own n) (Own m) h = ap (λ k. nat_lt k from) (node_same (Own n) (Own m) h)

    below : (n m : ℕ) (p : ℕ × ℕ) (i : ℕ) → (p.0 < n) ⊎ (p ≡ (n, i)) → nat_lt n from ≡ true → nat_lt p.0 from ≡ true
    below n m p i (inl l) h = grind (arith, nat_tests)
    below n m p i (inr e) h = ap (λ x. nat_lt x.0 from) e ∙ h

    closed : (a : Alias) → is_outside from a ≡ true → is_outside from (standing w a) ≡ true
    closed (Part n i x) h = below n n (w.first n i) i (w.no_later n i) h
    closed (Own n) h = h

pub in_set_is : {w : World} {t t' : Set} (s : Set) → SetR w t t' → TestR w s (λ a. is_in a t) (λ a. is_in a t')
in_set_is {w} {t} {t'} s q = record { respects = in_respects t; closed = λ a h k. (q.stood a k).has; same = λ a h. ap (is_in a) q.is ∙ has_those (alone w) (alone_respects w) a t ∙ ap (λ x. is_in a t && x) h ∙ and_one (is_in a t) }
  where
    and_one : (x : Bool) → (x && true) ≡ x
    and_one true = refl
    and_one false = refl

pub either_is : {w : World} {s : Set} {t t' u u' : Alias → Bool} → TestR w s t t' → TestR w s u u' → TestR w s (λ a. t a || u a) (λ a. t' a || u' a)
either_is {w} {s} {t} {t'} {u} {u'} p q = record {
  respects = λ a b h. ap₂ (λ x y. x || y) (p.respects a b h) (q.respects a b h);
  closed = λ a i h. in_either a i (or_cases (t a) (u a) h);
  same = λ a h. ap₂ (λ x y. x || y) (p.same a h) (q.same a h);
}
  where
    or_true : (x : Bool) {y : Bool} → y ≡ true → (x || y) ≡ true
    or_true true h = refl
    or_true false h = h

    in_either : (a : Alias) → is_in a s ≡ true → (t a ≡ true) ⊎ (u a ≡ true) → (t (standing w a) || u (standing w a)) ≡ true
    in_either a i (inl h) = ap (λ x. x || u (standing w a)) (p.closed a i h)
    in_either a i (inr h) = or_true (t (standing w a)) (q.closed a i h)

pub shared_is : {w : World} {s s' t t' : Set} → SetR w s s' → SetR w t t' → SetR w (shared s t) (shared s' t')
shared_is {s = s} p q = those_are (in_set_is s q) p

-- ---- the least

later_alone : (w : World) (a : Alias) → is_before a (standing w a) ≡ true → alone w a ≡ true
later_alone w (Part n i x) h = by_first (w.first n i) (w.no_later n i) h
  where
    by_first : (p : ℕ × ℕ) → (p.0 < n) ⊎ (p ≡ (n, i)) → is_before (Part n i x) (Part p.0 p.1 x) ≡ true → is_alias (Part n i x) (Part p.0 p.1 x) ≡ true
    by_first p (inl l) h = grind (arith, nat_tests)
    by_first p (inr e) h = ap (λ q. is_alias (Part n i x) (Part q.0 q.1 x)) e ∙ same_itself (Part n i x)
later_alone w (Own n) h = same_itself (Own n)

pub first_alone : (w : World) (a : Alias) (s s' : Set) → SetR w (a ∷ s) s' → alone w a ≡ true
unfolding is_in
first_alone w a s s' p = by_place (or_cases (is_alias (standing w a) a) (is_in (standing w a) s) (p.stood a (ap (λ x. x || is_in a s) (same_itself a))).has)
  where
    by_place : (is_alias (standing w a) a ≡ true) ⊎ (is_in (standing w a) s ≡ true) → alone w a ≡ true
    by_place (inl h) = same_turned a (standing w a) ∙ h
    by_place (inr h) = later_alone w a (in_above a (standing w a) s p.ordered.0 h)

pub least_is : {w : World} {s s' : Set} → SetR w s s' → least s' ≡ least s
unfolding those
least_is {w} {s = []} {s'} p = ap least p.is
least_is {w} {s = a ∷ s} {s'} p = ap least p.is ∙ ap (λ k. least (cond k (a ∷ those (alone w) s) (those (alone w) s))) (first_alone w a s s' p)

pub least_alone : {w : World} {s s' : Set} → SetR w s s' → (a : Alias) → least s ≡ Some a → alone w a ≡ true
least_alone {w} {s = []} {s'} p a h = cc
least_alone {w} {s = b ∷ s} {s'} p a h = let e : b ≡ a = cc in ap (alone w) (sym e) ∙ first_alone w b s s' p

-- ---- worlds grow

pub record Grows (w w2 : World) : Type 0 where
  pub knows : (n : ℕ) → w.known n ≡ true → w2.known n ≡ true
  pub agrees : (n i : ℕ) → w.known n ≡ true → w2.first n i ≡ w.first n i
  pub avoids : (a : Alias) → w.avoided a ≡ false → w2.avoided a ≡ false

pub grows_not : (w : World) → Grows w w
grows_not w = record { knows = λ n h. h; agrees = λ n i h. refl; avoids = λ a h. h }

pub grows_on : {w w2 w3 : World} → Grows w w2 → Grows w2 w3 → Grows w w3
grows_on g h = record { knows = λ n k. h.knows n (g.knows n k); agrees = λ n i k. h.agrees n i (g.knows n k) ∙ g.agrees n i k; avoids = λ a k. h.avoids a (g.avoids a k) }

pub standing_on : {w w2 : World} → Grows w w2 → (a : Alias) → w.known (node a) ≡ true → standing w2 a ≡ standing w a
standing_on g (Part n i x) h = ap (λ p. Part p.0 p.1 x) (g.agrees n i h)
standing_on g (Own n) h = refl

pub alone_on : {w w2 : World} → Grows w w2 → (a : Alias) → w.known (node a) ≡ true → alone w2 a ≡ alone w a
alone_on g a h = ap (is_alias a) (standing_on g a h)

pub set_on : {w w2 : World} {s s' : Set} → Grows w w2 → SetR w s s' → SetR w2 s s'
set_on {w} {w2} {s} {s'} g p = record {
  ordered = p.ordered;
  stood = λ a h. let k = p.stood a h in let e = standing_on g a k.is_known in record {
    has = ap (λ x. is_in x s) e ∙ k.has;
    is_alone = ap (alone w2) e ∙ (alone_on g (standing w a) (p.stood (standing w a) k.has).is_known ∙ k.is_alone);
    is_known = g.knows (node a) k.is_known;
    is_not = g.avoids a k.is_not;
  };
  is = p.is ∙ sym (those_same (alone w) (alone w2) s (λ a h. alone_on g a (p.stood a h).is_known));
}
