-- The sets of components, form by form.
use Rattle.std.proofs.Common.{◌≡◌, ℕ, zero, suc, ◌+◌, ◌<◌, ◌≤◌, List, [], ◌∷◌, ◌++◌, length, get_or, drop, map, min, refl, sym, ap, ◌∙◌, arith, append_assoc}
use Rattle.std.specs.Borrow.{Bor}
use Rattle.fut_types.specs.declared.Head.{Head}
use Rattle.fut_aliases.specs.Aliases.{Set, union}
use Rattle.fut_aliases.specs.Stars.{Stars}
use Rattle.fut_aliases.specs.Values.{Scalar, Array, Function, Parts, Values, value_and, how_many, components, all_components, with_sets, all_with_sets, nth, united}
use Rattle.alias_values.specs.declared.trees.ValueTree.{ValueTree}
use Rattle.alias_values.specs.Trees.{value_of, values_of}
use Rattle.alias_values.proofs.Forms.{value_forms}
use Rattle.alias_values.proofs.Rows.{one_more, values_at, values_end, values_before, values_before_more, values_before_none}
use Rattle.alias_joins.specs.SetRows.{sets_of}

-- ---- components

nothing_behind : {A : Type 0} (xs : List A) → xs ≡ xs ++ []
nothing_behind [] = refl
nothing_behind (x ∷ xs) = ap (λ z. x ∷ z) (nothing_behind xs)

pub sets_both : (xs ys : List (Bor Set)) → sets_of (xs ++ ys) ≡ sets_of xs ++ sets_of ys
sets_both [] ys = refl
sets_both (x ∷ xs) ys = ap (λ z. x.now ∷ z) (sets_both xs ys)

module _ (xs : List (Bor Set)) where
  pub add_scalar : sets_of xs ≡ sets_of xs ++ components Scalar
  unfolding components
  add_scalar = nothing_behind (sets_of xs)

  pub add_array : (s : Bor Set) (longer : List (Bor Set)) → longer ≡ xs ++ s ∷ [] → sets_of longer ≡ sets_of xs ++ components (Array s.now)
  unfolding components
  add_array s longer e = ap sets_of e ∙ sets_both xs (s ∷ [])

  pub add_function : (s : Bor Set) (u : Stars) (longer : List (Bor Set)) → longer ≡ xs ++ s ∷ [] → sets_of longer ≡ sets_of xs ++ components (Function s.now u)
  unfolding components
  add_function s u longer e = ap sets_of e ∙ sets_both xs (s ∷ [])

  pub add_parts : (h : Head) (vs : Values) → sets_of xs ++ components (Parts h vs) ≡ sets_of xs ++ all_components vs
  unfolding components all_components
  add_parts h vs = refl

pub ruleset add_forms = (value_forms, add_scalar, add_array, add_function, add_parts)

module _ (vs : List ValueTree) (i : ℕ) (xs ys : List (Bor Set)) where
  pub add_start : sets_of xs ++ all_components (values_of vs) ≡ sets_of xs ++ all_components (values_of (drop 0 vs))
  add_start = refl

  pub add_more : (v : ValueTree) (zs : List (Bor Set)) → i < length vs → sets_of xs ++ all_components (values_of vs) ≡ sets_of ys ++ all_components (values_of (drop i vs))
      → sets_of zs ≡ sets_of ys ++ components (value_of (get_or vs i v)) → sets_of xs ++ all_components (values_of vs) ≡ sets_of zs ++ all_components (values_of (drop (i + 1) vs))
  unfolding components all_components
  add_more v zs l h e = h ∙ ap (λ z. sets_of ys ++ all_components z) (values_at vs i v l) ∙ sym (append_assoc (sets_of ys) (components (value_of (get_or vs i v))) (all_components (values_of (drop (i + 1) vs)))) ∙ ap (λ z. z ++ all_components (values_of (drop (i + 1) vs))) (sym e)

  pub add_end : length vs ≤ i → sets_of xs ++ all_components (values_of vs) ≡ sets_of ys ++ all_components (values_of (drop i vs)) → sets_of ys ≡ sets_of xs ++ all_components (values_of vs)
  unfolding all_components
  add_end l h = sym (h ∙ ap (λ z. sets_of ys ++ all_components z) (values_end vs i l) ∙ sym (nothing_behind (sets_of ys)))

pub ruleset add_all_forms = (add_more, add_end)

-- ---- two rows

nth_zip : (ss ts : List (Bor Set)) (i : ℕ) (s t : Bor Set) → i < length ss → i < length ts → united (sets_of (drop i ss)) (sets_of (drop i ts)) ≡ union (get_or ss i s).now (get_or ts i t).now ∷ united (sets_of (drop (i + 1) ss)) (sets_of (drop (i + 1) ts))
nth_zip ss ts i s t l k = ap (λ z. united (sets_of z) (sets_of (drop i ts))) (one_more ss i s l) ∙ ap (λ z. united (sets_of (get_or ss i s ∷ drop (i + 1) ss)) (sets_of z)) (one_more ts i t k)

rest_united : (ss ts : List (Bor Set)) (n : ℕ) → n ≡ min (length ss) (length ts) → united (sets_of (drop n ss)) (sets_of (drop n ts)) ≡ sets_of (drop n ss)
rest_united [] [] zero e = refl
rest_united [] (t ∷ ts) zero e = refl
rest_united [] ts (suc n) e = absurd (omega (arith, e))
rest_united (s ∷ ss) [] zero e = refl
rest_united (s ∷ ss) [] (suc n) e = absurd (omega (arith, e))
rest_united (s ∷ ss) (t ∷ ts) zero e = absurd (omega (arith, e))
rest_united (s ∷ ss) (t ∷ ts) (suc n) e = rest_united ss ts n (omega (arith, e))

module _ (ss ts : List (Bor Set)) (i : ℕ) (made : List (Bor Set)) (h : united (sets_of ss) (sets_of ts) ≡ sets_of made ++ united (sets_of (drop i ss)) (sets_of (drop i ts))) where
  pub united_more : (s t u : Bor Set) (longer : List (Bor Set)) → i < length ss → i < length ts → u.now ≡ union (get_or ss i s).now (get_or ts i t).now → longer ≡ made ++ u ∷ []
      → united (sets_of ss) (sets_of ts) ≡ sets_of longer ++ united (sets_of (drop (i + 1) ss)) (sets_of (drop (i + 1) ts))
  united_more s t u longer l k e p =
      h ∙ ap (λ z. sets_of made ++ z) (nth_zip ss ts i s t l k ∙ ap (λ z. z ∷ united (sets_of (drop (i + 1) ss)) (sets_of (drop (i + 1) ts))) (sym e))
      ∙ sym (append_assoc (sets_of made) (u.now ∷ []) (united (sets_of (drop (i + 1) ss)) (sets_of (drop (i + 1) ts)))) ∙ ap (λ z. z ++ united (sets_of (drop (i + 1) ss)) (sets_of (drop (i + 1) ts))) (sym (ap sets_of p ∙ sets_both made (u ∷ [])))

  pub united_end : (n : ℕ) (rest all : List (Bor Set)) → n ≡ min (length ss) (length ts) → i ≤ n → n ≤ i → rest ≡ drop n ss → all ≡ made ++ rest → sets_of all ≡ united (sets_of ss) (sets_of ts)
  united_end n rest all e l m r a =
      let o : n ≡ i = omega (arith, l, m) in
      sym (h ∙ ap (λ z. sets_of made ++ united (sets_of (drop z ss)) (sets_of (drop z ts))) (sym o) ∙ ap (λ z. sets_of made ++ z) (rest_united ss ts n e) ∙ sym (ap sets_of (a ∙ ap (λ z. made ++ z) r) ∙ sets_both made (drop n ss)))

pub ruleset united_forms = (united_more, united_end)

-- ---- other sets

pub nth_here : (ss : List (Bor Set)) (i : ℕ) (s : Bor Set) → i < length ss → (get_or ss i s).now ≡ nth (sets_of ss) i
nth_here [] i s l = absurd (omega (arith, l))
nth_here (x ∷ ss) zero s l = refl
nth_here (x ∷ ss) (suc i) s l = nth_here ss i s (omega (arith, l))

pub nth_past : (ss : List (Bor Set)) (i : ℕ) → length ss ≤ i → [] ≡ nth (sets_of ss) i
nth_past [] i l = refl
nth_past (x ∷ ss) zero l = absurd (omega (arith, l))
nth_past (x ∷ ss) (suc i) l = nth_past ss i (omega (arith, l))

pub ruleset nth_forms = (nth_here, nth_past)

module _ (set : ℕ → Set → Set) (i : ℕ) where
  pub with_scalar : with_sets set i Scalar ≡ Scalar
  unfolding with_sets
  with_scalar = refl

  pub with_array : (s : Set) → with_sets set i (Array s) ≡ Array (set i s)
  unfolding with_sets
  with_array s = refl

  pub with_function : (s : Set) (u : Stars) → with_sets set i (Function s u) ≡ Function (set i s) u
  unfolding with_sets
  with_function s u = refl

  pub with_parts : (h : Head) (vs : Values) → with_sets set i (Parts h vs) ≡ Parts h (all_with_sets set i vs)
  unfolding with_sets all_with_sets
  with_parts h vs = refl

pub ruleset with_forms = (value_forms, with_scalar, with_array, with_function, with_parts)

module _ (set : ℕ → Set → Set) (first : ℕ) (vs : List ValueTree) (i next : ℕ) (made : List ValueTree) (h : all_with_sets set first (values_of vs) ≡ values_before made (all_with_sets set next (values_of (drop i vs)))) where
  pub with_more : (v w : ValueTree) (after : ℕ) (longer : List ValueTree) → i < length vs → value_of w ≡ with_sets set next (value_of (get_or vs i v)) → after ≡ next + how_many (value_of (get_or vs i v)) → longer ≡ made ++ w ∷ []
      → all_with_sets set first (values_of vs) ≡ values_before longer (all_with_sets set after (values_of (drop (i + 1) vs)))
  unfolding with_sets all_with_sets
  with_more v w after longer l e q r =
      h ∙ ap (values_before made) (ap (all_with_sets set next) (values_at vs i v l) ∙ ap (λ z. value_and z (all_with_sets set (next + how_many (value_of (get_or vs i v))) (values_of (drop (i + 1) vs)))) (sym e))
      ∙ ap (λ z. values_before made (value_and (value_of w) (all_with_sets set z (values_of (drop (i + 1) vs))))) (sym q) ∙ sym (values_before_more made w (all_with_sets set after (values_of (drop (i + 1) vs))))
      ∙ ap (λ z. values_before z (all_with_sets set after (values_of (drop (i + 1) vs)))) (sym r)

  pub with_end : length vs ≤ i → values_of made ≡ all_with_sets set first (values_of vs)
  unfolding all_with_sets
  with_end l = sym (h ∙ ap (λ z. values_before made (all_with_sets set next z)) (values_end vs i l) ∙ values_before_none made)

pub ruleset all_with_forms = (with_more, with_end)
