-- A name joins the sets of what it names: where an earlier one is in the set, that stands for it.
use Rattle.std.proofs.Common.{◌≡◌, ℕ, ◌<◌, suc, ◌+◌, Bool, true, false, ◌||◌, cond, List, [], ◌∷◌, ◌++◌, ◌⊎◌, inl, inr, refl, sym, ap, subst, ◌∙◌, arith, add-zero}
use Rattle.std.specs.Prelude.{nat_eq, nat_lt}
use Rattle.std.proofs.lemmas.Bool.{cond_both, eqb-true, ltb-true, eq-eqb, or_cases}
use Rattle.std.proofs.lemmas.Bool.Decides.{nat_tests}
use Rattle.fut_scalar.specs.declared.place.BindId.{BindId}
use Rattle.fut_aliases.specs.Aliases.{is_before, is_alias, Set, is_in, with_alias, union, those, first_name_alone}
use Rattle.fut_aliases.specs.declared.aliases.Alias.TheVariants.{Part, Own}
use Rattle.fut_aliases.specs.declared.aliases.Alias.{Alias}
use Rattle.fut_aliases.specs.Values.{Value, Values, named, all_named, components, all_components, count, how_many, nth}
use Rattle.fut_aliases.proofs.Sets.{has_union}
use Rattle.alias_laws.proofs.Sets.{same_itself, same_turned, in_respects, ordered_with, those_with}
use Rattle.alias_laws.proofs.Worlds.{World, standing, alone, node, node_same, standing_same, alone_respects, Stood, SetR, Grows, alone_on, set_on, first_alone}
use Rattle.alias_laws.proofs.Values.{ValueR, scalars, arrays, functions_are, parts_are, ValuesR, no_values, more_values, components_are, count_is}

-- what stands for the i-th component of a name at n whose set is this
abbrev pub stand : World → ℕ → ℕ → Set → ℕ × ℕ
stand w n i [] = (n, i)
stand w n i (Part m j b ∷ s) = cond (nat_lt m n) (w.first m j) (n, i)
stand w n i (Own m ∷ s) = (n, i)

pub stand_no_later : (w : World) (n i : ℕ) (s : Set) → ((stand w n i s).0 < n) ⊎ (stand w n i s ≡ (n, i))
stand_no_later w n i [] = inr refl
stand_no_later w n i (Own m ∷ s) = inr refl
stand_no_later w n i (Part m j b ∷ s) = cond_both (nat_lt m n) (w.first m j) (n, i) (λ p. (p.0 < n) ⊎ (p ≡ (n, i))) (λ h. earlier (w.first m j) (w.no_later m j) (ltb-true m n h)) (λ h. inr refl)
  where
    earlier : (p : ℕ × ℕ) → (p.0 < m) ⊎ (p ≡ (m, j)) → m < n → (p.0 < n) ⊎ (p ≡ (n, i))
    earlier p (inl l) h = inl (omega arith)
    earlier p (inr e) h = let k : p.0 ≡ m = ap (λ x. x.0) e in inl (omega arith)

-- the world behind a name at n whose components have these sets
unfoldable pub with_names : World → ℕ → List Set → World
with_names w n ss = record {
  known = λ m. nat_eq m n || w.known m;
  first = λ m i. cond (nat_eq m n) (stand w n i (nth ss i)) (w.first m i);
  no_later = λ m i. cond_both (nat_eq m n) (stand w n i (nth ss i)) (w.first m i) (λ p. (p.0 < m) ⊎ (p ≡ (m, i))) (λ h. subst (λ k. ((stand w n i (nth ss i)).0 < k) ⊎ (stand w n i (nth ss i) ≡ (k, i))) (sym (eqb-true m n h)) (stand_no_later w n i (nth ss i))) (λ h. w.no_later m i);
  avoided = w.avoided;
}

-- ---- one name

pub has_with : (c a : Alias) (s : Set) → is_in c (with_alias a s) ≡ (is_alias c a || is_in c s)
unfolding union is_in
has_with c a s = has_union c (a ∷ []) s ∙ ap (λ x. x || is_in c s) (or_not (is_alias c a))
  where
    or_not : (x : Bool) → (x || false) ≡ x
    or_not true = refl
    or_not false = refl

-- what a set with one more name has, whatever stands for that
pub joined : {w w2 : World} {s s' t' : Set} (a : Alias) → Grows w w2 → SetR w s s' → w2.known (node a) ≡ true → alone w2 (standing w2 a) ≡ true → is_in (standing w2 a) (with_alias a s) ≡ true → ((c : Alias) → is_alias c a ≡ true → w2.avoided c ≡ false)
    → t' ≡ cond (alone w2 a) (with_alias a s') s' → SetR w2 (with_alias a s) t'
joined {w} {w2} {s} {s'} {t'} a g p k l h v e = let q = set_on g p in record {
  ordered = ordered_with a s p.ordered;
  stood = λ c i. either_way c (or_cases (is_alias c a) (is_in c s) (sym (has_with c a s) ∙ i));
  is = e ∙ ap (λ x. cond (alone w2 a) (with_alias a x) x) q.is ∙ sym (those_with (alone w2) (alone_respects w2) a s p.ordered);
}
  where
    or_true : (x : Bool) {y : Bool} → y ≡ true → (x || y) ≡ true
    or_true true h = refl
    or_true false h = h

    either_way : (c : Alias) → (is_alias c a ≡ true) ⊎ (is_in c s ≡ true) → Stood w2 (with_alias a s) c
    either_way c (inl i) = record {
      has = in_respects (with_alias a s) (standing w2 c) (standing w2 a) (standing_same w2 c a i) ∙ h;
      is_alone = alone_respects w2 (standing w2 c) (standing w2 a) (standing_same w2 c a i) ∙ l;
      is_known = ap w2.known (node_same c a i) ∙ k;
      is_not = v c i;
    }
    either_way c (inr i) = let q = (set_on g p).stood c i in record {
      has = has_with (standing w2 c) a s ∙ or_true (is_alias (standing w2 c) a) q.has;
      is_alone = q.is_alone;
      is_known = q.is_known;
      is_not = q.is_not;
    }

-- the first of a set is the first of the checker's
first_of_both : {w : World} {s' : Set} (h : Alias) (s : Set) → SetR w (h ∷ s) s' → s' ≡ (h ∷ those (alone w) s)
unfolding those
first_of_both {w} h s p = p.is ∙ ap (λ k. cond k (h ∷ those (alone w) s) (those (alone w) s)) (first_alone w h s _ p)

pub self_standing : (w : World) (n i : ℕ) (b : BindId) → w.first n i ≡ (n, i) → alone w (Part n i b) ≡ true
self_standing w n i b e = ap (λ p. is_alias (Part n i b) (Part p.0 p.1 b)) e ∙ same_itself (Part n i b)

-- a name that stays
kept : {w w2 : World} {s s' : Set} (n i : ℕ) (b : BindId) → Grows w w2 → SetR w s s' → w2.known n ≡ true → ((c : Alias) → w2.avoided c ≡ false) → w2.first n i ≡ (n, i) → with_alias (Part n i b) s' ≡ first_name_alone (Part n i b) s' → SetR w2 (with_alias (Part n i b) s) (first_name_alone (Part n i b) s')
kept {w} {w2} {s} {s'} n i b g p k v e t = let a = Part n i b in let self = self_standing w2 n i b e in joined a g p k
    (alone_respects w2 (standing w2 a) a (same_turned (standing w2 a) a ∙ self) ∙ self)
    (has_with (standing w2 a) a s ∙ ap (λ x. x || is_in (standing w2 a) s) (same_turned (standing w2 a) a ∙ self)) (λ c h. v c)
    (sym t ∙ sym (ap (λ x. cond x (with_alias a s') s') self))

-- a name that is left out
left_out : {w w2 : World} {s s' : Set} (n i m j : ℕ) (b c : BindId) → Grows w w2 → SetR w s s' → w2.known n ≡ true → ((c : Alias) → w2.avoided c ≡ false) → w2.first n i ≡ w.first m j → is_in (Part m j c) s ≡ true → alone w (Part m j c) ≡ true → m < n → first_name_alone (Part n i b) s' ≡ s' → SetR w2 (with_alias (Part n i b) s) (first_name_alone (Part n i b) s')
left_out {w} {w2} {s} {s'} n i m j b c g p k v e x l o t = let a = Part n i b in let d = Part m j c in let q = p.stood d x in
    let alike : is_alias (standing w2 a) (standing w d) ≡ true = ap (λ z. is_alias (Part z.0 z.1 b) (standing w d)) e ∙ same_itself (standing w d) in
    joined a g p k
    (alone_respects w2 (standing w2 a) (standing w d) alike ∙ (alone_on g (standing w d) (p.stood (standing w d) q.has).is_known ∙ q.is_alone))
    (has_with (standing w2 a) a s ∙ (ap (λ z. is_alias (standing w2 a) a || z) (in_respects s (standing w2 a) (standing w d) alike ∙ q.has) ∙ or_true (is_alias (standing w2 a) a))) (λ c h. v c)
    (t ∙ sym (ap (λ z. cond z (with_alias a s') s') (ap (λ z. is_alias a (Part z.0 z.1 b)) e ∙ not_later (w.first m j) l)))
  where
    or_true : (z : Bool) → (z || true) ≡ true
    or_true true = refl
    or_true false = refl

    not_later : (z : ℕ × ℕ) → is_alias (Part m j c) (Part z.0 z.1 c) ≡ true → is_alias (Part n i b) (Part z.0 z.1 b) ≡ false
    not_later z h = grind (arith, nat_tests)

pub name_joins : {w w2 : World} {s s' : Set} (n i : ℕ) (b : BindId) → w.known n ≡ false → Grows w w2 → SetR w s s' → w2.known n ≡ true → ((c : Alias) → w2.avoided c ≡ false) → w2.first n i ≡ stand w n i s → SetR w2 (with_alias (Part n i b) s) (first_name_alone (Part n i b) s')
unfolding with_alias is_in those
name_joins {w} {w2} {s = []} {s'} n i b u g p k v e = kept n i b g p k v e (rw p.is refl)
name_joins {w} {w2} {s = Own m ∷ s} {s'} n i b u g p k v e = kept n i b g p k v e (rw (first_of_both (Own m) s p) refl)
name_joins {w} {w2} {s = Part m j c ∷ s} {s'} n i b u g p k v e = by_order (nat_lt m n) refl
  where
    apart : nat_lt m n ≡ false → w.known m ≡ true → is_before (Part n i b) (Part m j c) ≡ true
    apart h l = let z : nat_eq m n ≡ false = unequal (nat_eq m n) refl in grind (arith, nat_tests)
      where
        unequal : (x : Bool) → nat_eq m n ≡ x → x ≡ false
        unequal true y = cc (ap w.known (eqb-true m n y))
        unequal false y = refl

    earlier : nat_lt m n ≡ true → is_before (Part n i b) (Part m j c) ≡ false
    earlier h = grind (arith, nat_tests)

    known : w.known m ≡ true
    known = (p.stood (Part m j c) (ap (λ x. x || is_in (Part m j c) s) (same_itself (Part m j c)))).is_known

    by_order : (x : Bool) → nat_lt m n ≡ x → SetR w2 (with_alias (Part n i b) (Part m j c ∷ s)) (first_name_alone (Part n i b) s')
    by_order true h = left_out n i m j b c g p k v (e ∙ ap (λ x. cond x (w.first m j) (n, i)) h) (ap (λ x. x || is_in (Part m j c) s) (same_itself (Part m j c))) (first_alone w (Part m j c) s s' p) (ltb-true m n h)
        (rw (first_of_both (Part m j c) s p) (ap (λ x. cond x (Part n i b ∷ Part m j c ∷ those (alone w) s) (Part m j c ∷ those (alone w) s)) (earlier h)))
    by_order false h = kept n i b g p k v (e ∙ ap (λ x. cond x (w.first m j) (n, i)) h)
        (rw (first_of_both (Part m j c) s p) (rw (apart h known) refl))

-- ---- the components of a name

abbrev pub Stands : World → World → ℕ → ℕ → List Set → Type 0
Stands w w2 n i [] = Unit {0}
Stands w w2 n i (s ∷ ss) = (w2.first n i ≡ stand w n i s) × Stands w w2 n (suc i) ss

stands_front : (w w2 : World) (n i : ℕ) (ss ts : List Set) → Stands w w2 n i (ss ++ ts) → Stands w w2 n i ss
stands_front w w2 n i [] ts h = tt
stands_front w w2 n i (s ∷ ss) ts h = (h.0, stands_front w w2 n (suc i) ss ts h.1)

stands_back : (w w2 : World) (n i : ℕ) (ss ts : List Set) → Stands w w2 n i (ss ++ ts) → Stands w w2 n (i + count ss) ts
stands_back w w2 n i [] ts h = subst (λ k. Stands w w2 n k ts) (omega arith) h
stands_back w w2 n i (s ∷ ss) ts h = subst (λ k. Stands w w2 n k ts) (omega arith) (stands_back w w2 n (suc i) ss ts h.1)

stands_each : (w w2 : World) (n i : ℕ) (ss : List Set) → ((j : ℕ) → w2.first n (i + j) ≡ stand w n (i + j) (nth ss j)) → Stands w w2 n i ss
stands_each w w2 n i [] h = tt
stands_each w w2 n i (s ∷ ss) h = (subst (λ k. w2.first n k ≡ stand w n k s) (add-zero i) (h 0), stands_each w w2 n (suc i) ss (λ j. subst (λ k. w2.first n k ≡ stand w n k (nth ss j)) (omega arith) (h (suc j))))

pub stands_all : (w : World) (n : ℕ) (ss : List Set) → Stands w (with_names w n ss) n 0 ss
unfolding with_names
stands_all w n ss = stands_each w (with_names w n ss) n 0 ss (λ j. all_at (0 + j) j (omega arith))
  where
    all_at : (i j : ℕ) → i ≡ j → (with_names w n ss).first n i ≡ stand w n i (nth ss j)
    all_at i j e = ap (λ x. cond x (stand w n i (nth ss i)) (w.first n i)) (eq-eqb n n refl) ∙ ap (λ k. stand w n i (nth ss k)) e

pub names_grow : (w : World) (n : ℕ) (ss : List Set) → w.known n ≡ false → Grows w (with_names w n ss)
unfolding with_names
names_grow w n ss u = record { knows = λ m h. or_true (nat_eq m n) h; agrees = λ m i h. ap (λ x. cond x (stand w n i (nth ss i)) (w.first m i)) (unequal (nat_eq m n) refl h); avoids = λ a h. h }
  where
    or_true : (x : Bool) {y : Bool} → y ≡ true → (x || y) ≡ true
    or_true true h = refl
    or_true false h = h

    unequal : {m : ℕ} (x : Bool) → nat_eq m n ≡ x → w.known m ≡ true → x ≡ false
    unequal {m} true y h = cc (ap w.known (eqb-true m n y))
    unequal false y h = refl

mutual
  unfolding named all_named components all_components

  pub named_is : {w w2 : World} (n : ℕ) (b : BindId) → w.known n ≡ false → Grows w w2 → w2.known n ≡ true → ((c : Alias) → w2.avoided c ≡ false) → (parameter : Bool) (i : ℕ) {v v' : Value} → ValueR w v v' → Stands w w2 n i (components v) → ValueR w2 (named with_alias parameter n b i v) (named first_name_alone parameter n b i v')
  named_is n b u g k o parameter i scalars h = scalars
  named_is n b u g k o parameter i (arrays p) h = arrays (name_joins n i b u g p k o h.0)
  named_is n b u g k o true i (functions_are p) h = functions_are (name_joins n i b u g p k o h.0)
  named_is n b u g k o false i (functions_are p) h = functions_are (set_on g p)
  named_is n b u g k o parameter i (parts_are ps) h = parts_are (all_named_are n b u g k o parameter i ps h)

  all_named_are : {w w2 : World} (n : ℕ) (b : BindId) → w.known n ≡ false → Grows w w2 → w2.known n ≡ true → ((c : Alias) → w2.avoided c ≡ false) → (parameter : Bool) (i : ℕ) {vs vs' : Values} → ValuesR w vs vs' → Stands w w2 n i (all_components vs) → ValuesR w2 (all_named with_alias parameter n b i vs) (all_named first_name_alone parameter n b i vs')
  all_named_are n b u g k o parameter i no_values h = no_values
  all_named_are {w} {w2} n b u g k o parameter i (more_values {v} {v'} {vs} {vs'} p ps) h = more_values (named_is n b u g k o parameter i p (stands_front w w2 n i (components v) (all_components vs) h))
      (subst (λ c. ValuesR w2 (all_named with_alias parameter n b (i + how_many v) vs) (all_named first_name_alone parameter n b (i + c) vs')) (sym (count_is (components_are p))) (all_named_are n b u g k o parameter (i + how_many v) ps (stands_back w w2 n i (components v) (all_components vs) h)))
