-- The components with a star, and those without one, form by form.
use Rattle.std.proofs.Common.{◌≡◌, ℕ, zero, suc, ◌+◌, ◌≤◌, List, [], ◌∷◌, ◌++◌, length, get_or, drop, Bool, true, false, not, cond, min, refl, sym, ap, ◌∙◌, arith}
use Rattle.fut_types.specs.declared.Head.{Head}
use Rattle.fut_aliases.specs.Aliases.{Set, union}
use Rattle.fut_aliases.specs.Stars.{Stars, Leaf, Arrow, Row, StarRow, star_and}
use Rattle.fut_aliases.specs.Values.{Value, Scalar, Array, Function, Parts, Values, components, Component, all_starred, starring, all_starring, those_with}
use Rattle.alias_values.specs.declared.trees.StarTree.{StarTree}
use Rattle.alias_values.specs.declared.trees.ValueTree.{ValueTree}
use Rattle.alias_values.specs.Components.{onto}
use Rattle.alias_types.specs.Picked.{is_same, those_onto}
use Rattle.alias_values.specs.Trees.{row, row_of, stars_of, values, value_of, values_of}
use Rattle.alias_values.proofs.Forms.{star_forms, value_forms}
use Rattle.alias_values.proofs.Rows.{stars_at, values_at}

pub picked_all : (b : Bool) (cs : List Component) → those_onto b cs [] ≡ those_with b cs
picked_all true [] = refl
picked_all false [] = refl
picked_all true (c ∷ cs) = by_star c.starred (picked_all true cs)
  where
    by_star : (s : Bool) → those_onto true cs [] ≡ those_with true cs → cond s (union c.set (those_onto true cs [])) (those_onto true cs []) ≡ cond s (union c.set (those_with true cs)) (those_with true cs)
    by_star s e = ap (λ z. cond s (union c.set z) z) e
picked_all false (c ∷ cs) = by_star c.starred (picked_all false cs)
  where
    by_star : (s : Bool) → those_onto false cs [] ≡ those_with false cs → cond (not s) (union c.set (those_onto false cs [])) (those_onto false cs []) ≡ cond s (those_with false cs) (union c.set (those_with false cs))
    by_star true e = e
    by_star false e = ap (union c.set) e

-- ---- all components, or none

pub whole_same : (b c : Bool) (ss : List Set) (t : Set) → true ≡ is_same b c → onto ss t ≡ those_onto b (all_starred c ss) t
whole_same b c [] t h = refl
whole_same b c (s ∷ ss) t h = ap (union s) (whole_same b c ss t h) ∙ ap (λ z. cond z (union s (those_onto b (all_starred c ss) t)) (those_onto b (all_starred c ss) t)) h

pub whole_other : (b c : Bool) (ss : List Set) (t : Set) → false ≡ is_same b c → t ≡ those_onto b (all_starred c ss) t
whole_other b c [] t h = refl
whole_other b c (s ∷ ss) t h = whole_other b c ss t h ∙ ap (λ z. cond z (union s (those_onto b (all_starred c ss) t)) (those_onto b (all_starred c ss) t)) h

pub ruleset whole_forms = (whole_same, whole_other)

-- ---- form by form

pub pick_leaf : (c : Bool) (v : Value) → starring (Leaf c) v ≡ all_starred c (components v)
unfolding starring
pick_leaf c v = refl

pub pick_arrow : (c : Bool) (p r : Stars) (v : Value) → starring (Arrow c p r) v ≡ all_starred c (components v)
unfolding starring
pick_arrow c p r v = refl

pub pick_parts : (us : StarRow) (h : Head) (vs : Values) → starring (Row us) (Parts h vs) ≡ all_starring us vs
unfolding starring all_starring
pick_parts us h vs = refl

pub pick_scalar : (us : StarRow) → starring (Row us) Scalar ≡ all_starred false (components Scalar)
unfolding starring
pick_scalar us = refl

pub pick_array : (us : StarRow) (s : Set) → starring (Row us) (Array s) ≡ all_starred false (components (Array s))
unfolding starring
pick_array us s = refl

pub pick_function : (us : StarRow) (s : Set) (w : Stars) → starring (Row us) (Function s w) ≡ all_starred false (components (Function s w))
unfolding starring
pick_function us s w = refl

pub ruleset pick_forms = (star_forms, value_forms, pick_leaf, pick_arrow, pick_parts, pick_scalar, pick_array, pick_function)

-- ---- part by part, from the last on

onto_both : (b : Bool) (cs ds : List Component) (t : Set) → those_onto b (cs ++ ds) t ≡ those_onto b cs (those_onto b ds t)
onto_both b [] ds t = refl
onto_both b (c ∷ cs) ds t = ap (λ z. cond (is_same b c.starred) (union c.set z) z) (onto_both b cs ds t)

none_picked : (us : List StarTree) (vs : List ValueTree) (n : ℕ) → n ≡ min (length us) (length vs) → all_starring (row_of (drop n us)) (values_of (drop n vs)) ≡ []
unfolding all_starring row_of row values_of values
none_picked [] vs zero e = refl
none_picked [] vs (suc n) e = absurd (omega (arith, e))
none_picked (u ∷ us) [] zero e = refl
none_picked (u ∷ us) [] (suc n) e = absurd (omega (arith, e))
none_picked (u ∷ us) (v ∷ vs) zero e = absurd (omega (arith, e))
none_picked (u ∷ us) (v ∷ vs) (suc n) e = none_picked us vs n (omega (arith, e))

module _ (b : Bool) (us : List StarTree) (vs : List ValueTree) (t : Set) where
  pub pick_start : (n : ℕ) → n ≡ min (length us) (length vs) → t ≡ those_onto b (all_starring (row_of (drop n us)) (values_of (drop n vs))) t
  pick_start n e = sym (ap (λ z. those_onto b z t) (none_picked us vs n e))

  pub pick_more : (i k : ℕ) (u : StarTree) (v : ValueTree) (all longer : Set) → k + 1 ≡ i → i ≤ length us → i ≤ length vs → all ≡ those_onto b (all_starring (row_of (drop i us)) (values_of (drop i vs))) t
      → longer ≡ those_onto b (starring (stars_of (get_or us k u)) (value_of (get_or vs k v))) all → longer ≡ those_onto b (all_starring (row_of (drop k us)) (values_of (drop k vs))) t
  unfolding starring all_starring
  pick_more i k u v all longer e l m h g =
      g ∙ ap (those_onto b (starring (stars_of (get_or us k u)) (value_of (get_or vs k v)))) (h ∙ ap (λ z. those_onto b (all_starring (row_of (drop z us)) (values_of (drop z vs))) t) (sym e))
      ∙ sym (ap (λ z. those_onto b z t) (ap (λ z. all_starring z (values_of (drop k vs))) (stars_at us k u (omega (arith, e, l))) ∙ ap (all_starring (star_and (stars_of (get_or us k u)) (row_of (drop (k + 1) us)))) (values_at vs k v (omega (arith, e, m))))
      ∙ onto_both b (starring (stars_of (get_or us k u)) (value_of (get_or vs k v))) (all_starring (row_of (drop (k + 1) us)) (values_of (drop (k + 1) vs))) t)

  pub pick_end : (i : ℕ) (all : Set) → i ≤ 0 → all ≡ those_onto b (all_starring (row_of (drop i us)) (values_of (drop i vs))) t → all ≡ those_onto b (all_starring (row_of us) (values_of vs)) t
  pick_end i all z h = let e : i ≡ 0 = omega (arith, z) in h ∙ ap (λ k. those_onto b (all_starring (row_of (drop k us)) (values_of (drop k vs))) t) e

pub ruleset all_pick_forms = (pick_start, pick_more, pick_end)
