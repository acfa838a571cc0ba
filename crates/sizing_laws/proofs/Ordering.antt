-- Names in order: two numberings in order have the parts of records in one order, and each numbering can be put in order.
use Rattle.std.proofs.Common.{◌≡◌, ◌≢◌, ◌↔◌, ℕ, zero, suc, ◌<◌, Bool, true, false, cond, List, [], ◌∷◌, length, map, slice_index_or, refl, sym, ap, ◌∙◌, subst, arith}
use Rattle.std.specs.List.{AllPairs, Contains}
use Rattle.std.specs.declared.cmp.Ordering.{Ordering}
use Rattle.std.specs.declared.cmp.Ordering.TheVariants.{Less, Equal, Greater}
use Rattle.std.specs.Ordering.{nat_cmp, is_lt, ordering_reverse}
use Rattle.std.specs.Cmp.Lexicographic.{slice_cmp}
use Rattle.std.proofs.lemmas.Cmp.{nat_list_cmp_total}
use Rattle.std.proofs.lemmas.Map.Lookups.{exact_bytes}
use mathlib.Core.Logic.{◌⊎◌, inl, inr}
use Rattle.fut_ast.specs.Sorts.{Text}
use Rattle.fut_typing.specs.Names.{Names, AreNames, Once}
use Rattle.fut_typing.proofs.Members.{In, in_list, list_in}
use Rattle.typing_laws.proofs.Lists.{names, names_are}
use Rattle.sizing_laws.specs.Order.{is_before, Labels_rise}
use Rattle.sizing_laws.specs.Renumbering.{Same_names}
use Rattle.sizing_laws.specs.Claims.{OrderIsOne, Put_in_order, SomeOrder}

-- ---- the order of texts

abbrev order : Text → Text → Ordering
order f g = slice_cmp nat_cmp f g

less_is : (o : Ordering) → is_lt o ≡ true → o ≡ Less
less_is Less e = refl
less_is Equal e = cc
less_is Greater e = cc

pub before_more : (f g h : Text) → is_before f g ≡ true → is_before g h ≡ true → is_before f h ≡ true
before_more f g h p q = ap is_lt (nat_list_cmp_total.trans f g h (less_is (order f g) p) (less_is (order g h) q))

pub before_self : (f : Text) → is_before f f ≡ true → ⊥
before_self f p = let e : order f f ≡ Less = less_is (order f f) p in let r : order f f ≡ ordering_reverse (order f f) = nat_list_cmp_total.antisymm f f in let z : Less ≡ ordering_reverse Less = subst (λ o. o ≡ ordering_reverse o) e r in cc

before_other : (f g : Text) → f ≢ g → is_before f g ≡ false → is_before g f ≡ true
before_other f g ne p = known (order f g) refl
  where
    known : (o : Ordering) → order f g ≡ o → is_before g f ≡ true
    known Less e = let z : true ≡ false = sym (ap is_lt e) ∙ p in cc
    known Equal e = absurd (ne (exact_bytes f g e))
    known Greater e = ap is_lt (nat_list_cmp_total.antisymm g f ∙ ap ordering_reverse e)

-- ---- names that rise

abbrev Among : Text → List Text → Type 0
Among s [] = ⊥
Among s (t ∷ ts) = (s ≡ t) ⊎ Among s ts

abbrev Apart : List Text → Type 0
Apart [] = Unit {0}
Apart (t ∷ ts) = (Among t ts → ⊥) × Apart ts

abbrev Rise : List Text → Type 0
Rise [] = Unit {0}
Rise (t ∷ ts) = ((u : Text) → Among u ts → is_before t u ≡ true) × Rise ts

-- two lists of the same names are one
one_list : (ss ts : List Text) → Rise ss → Rise ts → ((u : Text) → Among u ss → Among u ts) → ((u : Text) → Among u ts → Among u ss) → ss ≡ ts
one_list [] [] a b f g = refl
one_list [] (t ∷ ts) a b f g = absurd (g t (inl refl))
one_list (s ∷ ss) [] a b f g = absurd (f s (inl refl))
one_list (s ∷ ss) (t ∷ ts) a b f g = λ i. first i ∷ one_list ss ts a.1 b.1 (λ u h. left u h (f u (inr h))) (λ u h. right u h (g u (inr h))) i
  where
    by_both : (s ≡ t) ⊎ Among s ts → (t ≡ s) ⊎ Among t ss → s ≡ t
    by_both (inl e) q = e
    by_both (inr h) (inl e) = sym e
    by_both (inr h) (inr k) = absurd (before_self s (before_more s t s (a.0 t k) (b.0 s h)))

    first : s ≡ t
    first = by_both (f s (inl refl)) (g t (inl refl))

    left : (u : Text) → Among u ss → (u ≡ t) ⊎ Among u ts → Among u ts
    left u h (inl e) = absurd (before_self s (subst (λ v. is_before s v ≡ true) (e ∙ sym first) (a.0 u h)))
    left u h (inr k) = k

    right : (u : Text) → Among u ts → (u ≡ s) ⊎ Among u ss → Among u ss
    right u h (inl e) = absurd (before_self t (subst (λ v. is_before t v ≡ true) (e ∙ first) (b.0 u h)))
    right u h (inr k) = k

-- ---- names are put in order

put : Text → List Text → List Text
put s [] = s ∷ []
put s (t ∷ ts) = cond (is_before s t) (s ∷ t ∷ ts) (t ∷ put s ts)

sorted : List Text → List Text
sorted [] = []
sorted (s ∷ ss) = put s (sorted ss)

put_among : (u s : Text) (ts : List Text) → Among u (put s ts) → (u ≡ s) ⊎ Among u ts
unfolding put
put_among u s [] h = h
put_among u s (t ∷ ts) h = by_test (put_among u s ts) (is_before s t) h
  where
    by_test : (Among u (put s ts) → (u ≡ s) ⊎ Among u ts) → (b : Bool) → Among u (cond b (s ∷ t ∷ ts) (t ∷ put s ts)) → (u ≡ s) ⊎ Among u (t ∷ ts)
    by_test again true h = h
    by_test again false (inl e) = inr (inl e)
    by_test again false (inr k) = elim (again k) as (λ d. (u ≡ s) ⊎ Among u (t ∷ ts)) [ inl e ↦ inl e | inr z ↦ inr (inr z) ]

among_put : (u s : Text) (ts : List Text) → (u ≡ s) ⊎ Among u ts → Among u (put s ts)
unfolding put
among_put u s [] h = h
among_put u s (t ∷ ts) h = by_test (among_put u s ts) (is_before s t) h
  where
    by_test : ((u ≡ s) ⊎ Among u ts → Among u (put s ts)) → (b : Bool) → (u ≡ s) ⊎ Among u (t ∷ ts) → Among u (cond b (s ∷ t ∷ ts) (t ∷ put s ts))
    by_test again true h = h
    by_test again false (inl e) = inr (again (inl e))
    by_test again false (inr (inl e)) = inl e
    by_test again false (inr (inr z)) = inr (again (inr z))

sorted_among : (u : Text) (ts : List Text) → Among u (sorted ts) → Among u ts
unfolding sorted
sorted_among u [] h = h
sorted_among u (t ∷ ts) h = elim (put_among u t (sorted ts) h) as (λ d. Among u (t ∷ ts)) [ inl e ↦ inl e | inr z ↦ inr (sorted_among u ts z) ]

among_sorted : (u : Text) (ts : List Text) → Among u ts → Among u (sorted ts)
unfolding sorted
among_sorted u [] h = h
among_sorted u (t ∷ ts) (inl e) = among_put u t (sorted ts) (inl e)
among_sorted u (t ∷ ts) (inr z) = among_put u t (sorted ts) (inr (among_sorted u ts z))

put_rises : (s : Text) (ts : List Text) → (Among s ts → ⊥) → Rise ts → Rise (put s ts)
unfolding put
put_rises s [] out r = ((λ u h. absurd h), tt)
put_rises s (t ∷ ts) out r = by_test (put_rises s ts (λ k. out (inr k)) r.1) (is_before s t) refl
  where
    by_test : Rise (put s ts) → (b : Bool) → is_before s t ≡ b → Rise (cond b (s ∷ t ∷ ts) (t ∷ put s ts))
    by_test again true e = ((λ u. elim [ inl q ↦ subst (λ v. is_before s v ≡ true) (sym q) e | inr h ↦ before_more s t u e (r.0 u h) ]), r)
    by_test again false e = ((λ u h. elim (put_among u s ts h) as (λ d. is_before t u ≡ true) [ inl q ↦ subst (λ v. is_before t v ≡ true) (sym q) (before_other s t (λ z. out (inl z)) e) | inr k ↦ r.0 u k ]), again)

sorted_rises : (ts : List Text) → Apart ts → Rise (sorted ts)
unfolding sorted
sorted_rises [] a = tt
sorted_rises (t ∷ ts) a = put_rises t (sorted ts) (λ h. a.0 (sorted_among t ts h)) (sorted_rises ts a.1)

sorted_same : (ts : List Text) → Rise ts → sorted ts ≡ ts
unfolding sorted put
sorted_same [] r = refl
sorted_same (s ∷ []) r = refl
sorted_same (s ∷ t ∷ ts) r = ap (put s) (sorted_same (t ∷ ts) r.1) ∙ ap (λ b. cond b (s ∷ t ∷ ts) (t ∷ put s ts)) (r.0 t (inl refl))

-- ---- names and labels

module _ (N : Names) (n : AreNames N) where
  label_among : (s : Text) (fs : List Text) → In (N.label s) (map N.label fs) → Among s fs
  label_among s [] h = h
  label_among s (f ∷ fs) (inl e) = inl (n.one_label s f e)
  label_among s (f ∷ fs) (inr h) = inr (label_among s fs h)

  among_label : (s : Text) (fs : List Text) → Among s fs → In (N.label s) (map N.label fs)
  among_label s [] h = h
  among_label s (f ∷ fs) (inl e) = inl (ap N.label e)
  among_label s (f ∷ fs) (inr h) = inr (among_label s fs h)

  -- the name that stands at a place
  at_place : (fs : List Text) (i d : ℕ) → i < length (map N.label fs) → (s : Text) × (N.label s ≡ slice_index_or (map N.label fs) i d) × Among s fs
  at_place [] i d lt = absurd (omega arith)
  at_place (f ∷ fs) zero d lt = (f, refl, inl refl)
  at_place (f ∷ fs) (suc i) d lt = let w = at_place fs i d (omega arith) in (w.0, w.1, inr w.2)

  place_of : (s : Text) (fs : List Text) (d : ℕ) → Among s fs → (i : ℕ) × (i < length (map N.label fs)) × (N.label s ≡ slice_index_or (map N.label fs) i d)
  place_of s [] d h = absurd h
  place_of s (f ∷ fs) d (inl e) = (0, omega arith, ap N.label e)
  place_of s (f ∷ fs) d (inr h) = let w = place_of s fs d h in let lt : w.0 < length (map N.label fs) = w.1 in (suc w.0, omega arith, w.2)

  rise_pairs : (fs : List Text) → Rise fs → AllPairs (Labels_rise N) (map N.label fs)
  rise_pairs [] r i j d lt within = absurd (omega arith)
  rise_pairs (f ∷ fs) r i zero d lt within = absurd (omega arith)
  rise_pairs (f ∷ fs) r zero (suc j) d lt within = λ s t e g.
      let w = at_place fs j d (omega arith) in
      subst (λ x. is_before x t ≡ true) (sym (n.one_label s f e)) (subst (λ x. is_before f x ≡ true) (n.one_label w.0 t (w.1 ∙ sym g)) (r.0 w.0 w.2))
  rise_pairs (f ∷ fs) r (suc i) (suc j) d lt within = rise_pairs fs r.1 i j d (omega arith) (omega arith)

  pairs_rise : (fs : List Text) → AllPairs (Labels_rise N) (map N.label fs) → Rise fs
  pairs_rise [] p = tt
  pairs_rise (f ∷ fs) p = (
    λ u h. (let w = place_of u fs 0 h in let lt : w.0 < length (map N.label fs) = w.1 in p 0 (suc w.0) 0 (omega arith) (omega arith) f u refl w.2),
    pairs_rise fs (λ i j d lt within. p (suc i) (suc j) d (omega arith) (omega arith)),
  )

  rise_apart : (fs : List Text) → Once (map N.label fs) → Apart fs
  rise_apart [] o = tt
  rise_apart (f ∷ fs) o = (
    λ h. (let w = place_of f fs 0 h in let lt : w.0 < length (map N.label fs) = w.1 in o 0 (suc w.0) 0 (omega arith) (omega arith) w.2),
    rise_apart fs (λ i j d lt within. o (suc i) (suc j) d (omega arith) (omega arith)),
  )

  rise_once : (fs : List Text) → Rise fs → Once (map N.label fs)
  rise_once fs r i j d lt within e = let w = at_place fs i d (omega arith) in before_self w.0 (rise_pairs fs r i j d lt within w.0 w.0 w.1 (w.1 ∙ e))

  record_rises : (r : ℕ) → AllPairs (Labels_rise N) (N.shapes.fields r) → Rise (names N n r)
  record_rises r p = pairs_rise (names N n r) (subst (AllPairs (Labels_rise N)) (sym (names_are N n r)) p)

  -- what a record has
  has_name : (r : ℕ) (s : Text) → Contains (N.shapes.fields r) (N.label s) → Among s (names N n r)
  has_name r s h = label_among s (names N n r) (subst (In (N.label s)) (sym (names_are N n r)) (in_list (N.shapes.fields r) (N.label s) h))

  name_has : (r : ℕ) (s : Text) → Among s (names N n r) → Contains (N.shapes.fields r) (N.label s)
  name_has r s h = list_in (N.shapes.fields r) (N.label s) (subst (In (N.label s)) (names_are N n r) (among_label s (names N n r) h))

  -- ---- put in order

  abbrev put_in_order : Names
  put_in_order = record { label = N.label; shapes = record { fields = λ r. map N.label (sorted (names N n r)); position = N.shapes.position } }

  named_among : (l : ℕ) (fs : List Text) → In l (map N.label fs) → (s : Text) × (l ≡ N.label s) × Among s fs
  named_among l [] h = absurd h
  named_among l (f ∷ fs) (inl e) = (f, e, inl refl)
  named_among l (f ∷ fs) (inr h) = let w = named_among l fs h in (w.0, w.1, inr w.2)

  same_members : (r l : ℕ) → Contains (map N.label (sorted (names N n r))) l ↔ Contains (N.shapes.fields r) l
  same_members r l = (
    λ h. (let w = named_among l (sorted (names N n r)) (in_list (map N.label (sorted (names N n r))) l h) in subst (Contains (N.shapes.fields r)) (sym w.1) (name_has r w.0 (sorted_among w.0 (names N n r) w.2))),
    λ h. (let w = named_among l (names N n r) (subst (In l) (sym (names_are N n r)) (in_list (N.shapes.fields r) l h)) in list_in (map N.label (sorted (names N n r))) l (subst (λ k. In k (map N.label (sorted (names N n r)))) (sym w.1) (among_label w.0 (sorted (names N n r)) (among_sorted w.0 (names N n r) w.2)))),
  )

  all_rise : (r : ℕ) → Rise (sorted (names N n r))
  all_rise r = sorted_rises (names N n r) (rise_apart (names N n r) (subst Once (sym (names_are N n r)) (n.once r)))

  are_names : AreNames put_in_order
  are_names = record {
    one_label = n.one_label;
    position = n.position;
    placed = n.placed;
    once = λ r. rise_once (sorted (names N n r)) (all_rise r);
    named = λ r l h. n.named r l ((same_members r l).0 h);
    one_record = λ a b e. n.one_record a b (λ l. (λ h. (same_members b l).0 ((e l).0 ((same_members a l).1 h)), λ h. (same_members a l).0 ((e l).1 ((same_members b l).1 h))));
    every = λ fs o. (let w = n.every fs o in (w.0, λ l. (λ h. (w.1 l).0 ((same_members w.0 l).0 h), λ h. (same_members w.0 l).1 ((w.1 l).1 h))));
  }

  in_order : Put_in_order N put_in_order
  in_order = record {
    names = are_names;
    order = λ r. rise_pairs (sorted (names N n r)) (all_rise r);
    label = refl;
    position = refl;
    fields = λ r p. ap (map N.label) (sorted_same (names N n r) (record_rises r p)) ∙ names_are N n r;
  }

pub some_order : SomeOrder
some_order N n = (put_in_order N n, in_order N n)

-- ---- two numberings in order

same_labels : (M N : Names) (fs : List Text) → Same_names M N (map M.label fs) (map N.label fs)
same_labels M N [] = tt
same_labels M N (f ∷ fs) = ((f, refl, refl), same_labels M N fs)

pub order_is_one : OrderIsOne
order_is_one M N m n a b r q h = subst (λ (x : List ℕ × List ℕ). Same_names M N x.0 x.1) (λ i. (names_are M m r i, (ap (map N.label) one ∙ names_are N n q) i)) (same_labels M N (names M m r))
  where
    one : names M m r ≡ names N n q
    one = one_list (names M m r) (names N n q) (record_rises M m r (a r)) (record_rises N n q (b q)) (λ u k. has_name N n q u ((h u).0 (name_has M m r u k))) (λ u k. has_name M m r u ((h u).1 (name_has N n q u k)))
