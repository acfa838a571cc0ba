-- The components of values, form by form.
use Rattle.std.proofs.Common.{◌≡◌, ℕ, ◌+◌, ◌<◌, ◌≤◌, List, [], ◌∷◌, ◌++◌, length, get_or, drop, refl, sym, ap, ◌∙◌, arith}
use Rattle.fut_types.specs.declared.Head.{Head}
use Rattle.fut_aliases.specs.Aliases.{Set, union}
use Rattle.fut_aliases.specs.Stars.{Stars}
use Rattle.fut_aliases.specs.Values.{Scalar, Array, Function, Parts, Values, components, all_components, count, how_many}
use Rattle.alias_values.specs.declared.trees.ValueTree.{ValueTree}
use Rattle.alias_values.specs.Components.{all_how_many, onto}
use Rattle.alias_values.specs.Trees.{value_of, values_of}
use Rattle.alias_values.proofs.Forms.{value_forms}
use Rattle.alias_values.proofs.Rows.{values_at, values_end}

-- ---- how many

count_both : (ss ts : List Set) → count (ss ++ ts) ≡ count ss + count ts
count_both [] ts = omega arith
count_both (s ∷ ss) ts = let e : count (ss ++ ts) ≡ count ss + count ts = count_both ss ts in omega (arith, e)

pub count_scalar : how_many Scalar ≡ 0
unfolding components
count_scalar = refl

pub count_array : (s : Set) → how_many (Array s) ≡ 1
unfolding components
count_array s = refl

pub count_function : (s : Set) (u : Stars) → how_many (Function s u) ≡ 1
unfolding components
count_function s u = refl

pub count_parts : (h : Head) (vs : Values) → how_many (Parts h vs) ≡ all_how_many vs
unfolding components all_components
count_parts h vs = refl

pub ruleset count_forms = (value_forms, count_scalar, count_array, count_function, count_parts)

module _ (vs : List ValueTree) (i first next : ℕ) where
  pub count_more : (v : ValueTree) (more : ℕ) → i < length vs → next + all_how_many (values_of (drop i vs)) ≡ first → more ≡ next + how_many (value_of (get_or vs i v)) → more + all_how_many (values_of (drop (i + 1) vs)) ≡ first
  unfolding components all_components
  count_more v more l h e =
      let k : all_how_many (values_of (drop i vs)) ≡ how_many (value_of (get_or vs i v)) + all_how_many (values_of (drop (i + 1) vs)) = ap all_how_many (values_at vs i v l) ∙ count_both (components (value_of (get_or vs i v))) (all_components (values_of (drop (i + 1) vs)))
      in omega (arith, h, e, k)

  pub count_end : length vs ≤ i → next + all_how_many (values_of (drop i vs)) ≡ first → next ≡ first
  unfolding all_components
  count_end l h = let k : all_how_many (values_of (drop i vs)) ≡ 0 = ap all_how_many (values_end vs i l) in omega (arith, h, k)

pub ruleset all_count_forms = (count_more, count_end)

-- ---- their aliases

onto_both : (ss ts : List Set) (t : Set) → onto (ss ++ ts) t ≡ onto ss (onto ts t)
onto_both [] ts t = refl
onto_both (s ∷ ss) ts t = ap (union s) (onto_both ss ts t)

module _ (t : Set) where
  pub onto_scalar : onto (components Scalar) t ≡ t
  unfolding components
  onto_scalar = refl

  pub onto_array : (s : Set) → onto (components (Array s)) t ≡ union s t
  unfolding components
  onto_array s = refl

  pub onto_function : (s : Set) (u : Stars) → onto (components (Function s u)) t ≡ union s t
  unfolding components
  onto_function s u = refl

  pub onto_parts : (h : Head) (vs : Values) → onto (components (Parts h vs)) t ≡ onto (all_components vs) t
  unfolding components all_components
  onto_parts h vs = refl

pub ruleset onto_forms = (value_forms, onto_scalar, onto_array, onto_function, onto_parts)

module _ (vs : List ValueTree) (t : Set) where
  pub onto_start : t ≡ onto (all_components (values_of (drop (length vs) vs))) t
  unfolding all_components
  onto_start = sym (ap (λ z. onto (all_components z) t) (values_end vs (length vs) (omega arith)))

  pub onto_more : (i k : ℕ) (v : ValueTree) (all more : Set) → k + 1 ≡ i → i ≤ length vs → all ≡ onto (all_components (values_of (drop i vs))) t → more ≡ onto (components (value_of (get_or vs k v))) all → more ≡ onto (all_components (values_of (drop k vs))) t
  unfolding components all_components
  onto_more i k v all more e l h m =
      m ∙ ap (onto (components (value_of (get_or vs k v)))) (h ∙ ap (λ z. onto (all_components (values_of (drop z vs))) t) (sym e))
      ∙ sym (ap (λ z. onto (all_components z) t) (values_at vs k v (omega (arith, e, l))) ∙ onto_both (components (value_of (get_or vs k v))) (all_components (values_of (drop (k + 1) vs))) t)

  pub onto_end : (i : ℕ) (all : Set) → i ≤ 0 → all ≡ onto (all_components (values_of (drop i vs))) t → all ≡ onto (all_components (values_of vs)) t
  onto_end i all z h = let e : i ≡ 0 = omega (arith, z) in h ∙ ap (λ k. onto (all_components (values_of (drop k vs))) t) e

pub ruleset all_onto_forms = (onto_start, onto_more, onto_end)
