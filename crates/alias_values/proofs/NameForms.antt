-- What names stand for, form by form.
use Rattle.std.proofs.Common.{◌≡◌, ℕ, ◌+◌, ◌<◌, ◌≤◌, List, [], ◌∷◌, ◌++◌, length, get_or, drop, Bool, true, false, cond, refl, sym, ap, ◌∙◌, arith}
use Rattle.fut_scalar.specs.declared.place.BindId.{BindId}
use Rattle.fut_types.specs.declared.Head.{Head}
use Rattle.fut_aliases.specs.declared.aliases.Alias.{Alias}
use Rattle.fut_aliases.specs.declared.aliases.Alias.TheVariants.{Part}
use Rattle.fut_aliases.specs.Aliases.{Set, comes_first, first_name_alone, is_before}
use Rattle.fut_aliases.specs.Stars.{Stars}
use Rattle.fut_aliases.specs.Values.{Scalar, Array, Function, Parts, Values, value_and, how_many, named, all_named}
use Rattle.alias_values.specs.declared.trees.ValueTree.{ValueTree}
use Rattle.alias_values.specs.Trees.{value_of, values_of}
use Rattle.alias_values.proofs.Forms.{value_forms}
use Rattle.alias_values.proofs.Rows.{values_at, values_end, values_before, values_before_more, values_before_none}

-- ---- what comes first

pub first_of_none : (a : Alias) (s : Set) → length s ≡ 0 → true ≡ comes_first a s
first_of_none a [] l = refl
first_of_none a (b ∷ s) l = absurd (omega (arith, l))

pub first_of_some : (a : Alias) (s : Set) (d : Alias) → 0 < length s → is_before a (get_or s 0 d) ≡ comes_first a s
first_of_some a [] d l = absurd (omega (arith, l))
first_of_some a (b ∷ s) d l = refl

pub ruleset first_forms = (first_of_none, first_of_some)

pub name_left_out : (a : Alias) (s : Set) → false ≡ comes_first a s → s ≡ first_name_alone a s
name_left_out a s h = ap (λ z. cond z (a ∷ s) s) h

pub name_joined : (a : Alias) (s : Set) → true ≡ comes_first a s → a ∷ s ≡ first_name_alone a s
name_joined a s h = ap (λ z. cond z (a ∷ s) s) h

pub ruleset name_forms = (name_left_out, name_joined)

-- ---- values

module _ (p : Bool) (n : ℕ) (b : BindId) (i : ℕ) where
  pub named_scalar : named first_name_alone p n b i Scalar ≡ Scalar
  unfolding named
  named_scalar = refl

  pub named_array : (s : Set) → named first_name_alone p n b i (Array s) ≡ Array (first_name_alone (Part n i b) s)
  unfolding named
  named_array s = refl

  pub named_parts : (h : Head) (vs : Values) → named first_name_alone p n b i (Parts h vs) ≡ Parts h (all_named first_name_alone p n b i vs)
  unfolding named all_named
  named_parts h vs = refl

pub named_parameter : (n : ℕ) (b : BindId) (i : ℕ) (s : Set) (u : Stars) → named first_name_alone true n b i (Function s u) ≡ Function (first_name_alone (Part n i b) s) u
unfolding named
named_parameter n b i s u = refl

pub named_other : (n : ℕ) (b : BindId) (i : ℕ) (s : Set) (u : Stars) → named first_name_alone false n b i (Function s u) ≡ Function s u
unfolding named
named_other n b i s u = refl

pub ruleset named_forms = (value_forms, named_scalar, named_array, named_parts, named_parameter, named_other)

module _ (p : Bool) (n : ℕ) (b : BindId) (first : ℕ) (vs : List ValueTree) (i next : ℕ) (made : List ValueTree) (h : all_named first_name_alone p n b first (values_of vs) ≡ values_before made (all_named first_name_alone p n b next (values_of (drop i vs)))) where
  pub named_more : (v w : ValueTree) (after : ℕ) (longer : List ValueTree) → i < length vs → value_of w ≡ named first_name_alone p n b next (value_of (get_or vs i v)) → after ≡ next + how_many (value_of (get_or vs i v)) → longer ≡ made ++ w ∷ []
      → all_named first_name_alone p n b first (values_of vs) ≡ values_before longer (all_named first_name_alone p n b after (values_of (drop (i + 1) vs)))
  unfolding named all_named
  named_more v w after longer l e q r =
      h ∙ ap (values_before made) (ap (all_named first_name_alone p n b next) (values_at vs i v l) ∙ ap (λ z. value_and z (all_named first_name_alone p n b (next + how_many (value_of (get_or vs i v))) (values_of (drop (i + 1) vs)))) (sym e))
      ∙ ap (λ z. values_before made (value_and (value_of w) (all_named first_name_alone p n b z (values_of (drop (i + 1) vs))))) (sym q) ∙ sym (values_before_more made w (all_named first_name_alone p n b after (values_of (drop (i + 1) vs))))
      ∙ ap (λ z. values_before z (all_named first_name_alone p n b after (values_of (drop (i + 1) vs)))) (sym r)

  pub named_end : length vs ≤ i → values_of made ≡ all_named first_name_alone p n b first (values_of vs)
  unfolding all_named
  named_end l = sym (h ∙ ap (λ z. values_before made (all_named first_name_alone p n b next z)) (values_end vs i l) ∙ values_before_none made)

pub ruleset all_named_forms = (named_more, named_end)
