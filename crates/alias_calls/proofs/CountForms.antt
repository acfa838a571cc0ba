-- Components without a star, form by form.
use Rattle.std.proofs.Common.{◌≡◌, ℕ, ◌+◌, ◌<◌, ◌≤◌, List, [], ◌∷◌, ◌++◌, length, get_or, drop, Bool, true, false, cond, suc, refl, ap, ◌∙◌, arith}
use Rattle.fut_types.specs.declared.Head.{Head}
use Rattle.fut_aliases.specs.Aliases.{Set}
use Rattle.fut_aliases.specs.Calls.{unstarred}
use Rattle.fut_aliases.specs.Stars.{Stars, Leaf, Arrow, Row, StarRow, star_and}
use Rattle.fut_aliases.specs.Values.{Value, Scalar, Array, Function, Parts, Values, count, how_many, components, Component, all_starred, starring, all_starring}
use Rattle.alias_values.specs.declared.trees.StarTree.{StarTree}
use Rattle.alias_values.specs.declared.trees.StarTree.TheVariants as star
use Rattle.alias_values.specs.declared.trees.ValueTree.{ValueTree}
use Rattle.alias_values.specs.Trees.{row_of, stars_of, value_of, values_of}
use Rattle.alias_values.proofs.Forms.{star_forms, value_forms}
use Rattle.alias_values.proofs.Rows.{stars_at, stars_end, values_at, values_end}

all_have : (ss : List Set) → unstarred (all_starred true ss) ≡ 0
all_have [] = refl
all_have (s ∷ ss) = all_have ss

none_has : (ss : List Set) → unstarred (all_starred false ss) ≡ count ss
none_has [] = refl
none_has (s ∷ ss) = ap suc (none_has ss)

both : (cs ds : List Component) → unstarred (cs ++ ds) ≡ unstarred cs + unstarred ds
both [] ds = omega arith
both (c ∷ cs) ds = by_star c.starred (both cs ds)
  where
    by_star : (b : Bool) → unstarred (cs ++ ds) ≡ unstarred cs + unstarred ds → cond b (unstarred (cs ++ ds)) (suc (unstarred (cs ++ ds))) ≡ cond b (unstarred cs) (suc (unstarred cs)) + unstarred ds
    by_star true e = e
    by_star false e = omega (arith, e)

module _ (v : Value) where
  pub leaf_has : unstarred (starring (Leaf true) v) ≡ 0
  unfolding starring
  leaf_has = all_have (components v)

  pub leaf_lacks : unstarred (starring (Leaf false) v) ≡ how_many v
  unfolding starring
  leaf_lacks = none_has (components v)

  pub arrow_has : (p r : Stars) → unstarred (starring (Arrow true p r) v) ≡ 0
  unfolding starring
  arrow_has p r = all_have (components v)

  pub arrow_lacks : (p r : Stars) → unstarred (starring (Arrow false p r) v) ≡ how_many v
  unfolding starring
  arrow_lacks p r = none_has (components v)

pub row_scalar : (us : StarRow) → unstarred (starring (Row us) Scalar) ≡ how_many Scalar
unfolding starring
row_scalar us = none_has (components Scalar)

pub row_array : (us : StarRow) (s : Set) → unstarred (starring (Row us) (Array s)) ≡ how_many (Array s)
unfolding starring
row_array us s = none_has (components (Array s))

pub row_function : (us : StarRow) (s : Set) (u : Stars) → unstarred (starring (Row us) (Function s u)) ≡ how_many (Function s u)
unfolding starring
row_function us s u = none_has (components (Function s u))

pub row_parts : (us : StarRow) (h : Head) (vs : Values) → starring (Row us) (Parts h vs) ≡ all_starring us vs
unfolding starring all_starring
row_parts us h vs = refl

pub ruleset count_forms = (star_forms, value_forms, leaf_has, leaf_lacks, arrow_has, arrow_lacks, row_scalar, row_array, row_function, row_parts)

module _ (us : List StarTree) (vs : List ValueTree) (i first next : ℕ) where
  pub all_more : (u : StarTree) (v : ValueTree) (more : ℕ) → i < length us → i < length vs → next + unstarred (all_starring (row_of (drop i us)) (values_of (drop i vs))) ≡ first
      → more ≡ next + unstarred (starring (stars_of (get_or us i u)) (value_of (get_or vs i v))) → more + unstarred (all_starring (row_of (drop (i + 1) us)) (values_of (drop (i + 1) vs))) ≡ first
  unfolding starring all_starring
  all_more u v more l k h e =
      let o : unstarred (all_starring (row_of (drop i us)) (values_of (drop i vs))) ≡ unstarred (starring (stars_of (get_or us i u)) (value_of (get_or vs i v))) + unstarred (all_starring (row_of (drop (i + 1) us)) (values_of (drop (i + 1) vs)))
      = ap (λ z. unstarred (all_starring z (values_of (drop i vs)))) (stars_at us i u l) ∙ ap (λ z. unstarred (all_starring (star_and (stars_of (get_or us i u)) (row_of (drop (i + 1) us))) z)) (values_at vs i v k)
      ∙ both (starring (stars_of (get_or us i u)) (value_of (get_or vs i v))) (all_starring (row_of (drop (i + 1) us)) (values_of (drop (i + 1) vs)))
      in omega (arith, h, e, o)

  pub all_end : length us ≤ i → next + unstarred (all_starring (row_of (drop i us)) (values_of (drop i vs))) ≡ first → next ≡ first
  unfolding all_starring
  all_end l h = let o : unstarred (all_starring (row_of (drop i us)) (values_of (drop i vs))) ≡ 0 = ap (λ z. unstarred (all_starring z (values_of (drop i vs)))) (stars_end us i l) in omega (arith, h, o)

  pub all_short : i < length us → length vs ≤ i → next + unstarred (all_starring (row_of (drop i us)) (values_of (drop i vs))) ≡ first → next ≡ first
  unfolding all_starring
  all_short l k h =
      let o : unstarred (all_starring (row_of (drop i us)) (values_of (drop i vs))) ≡ 0
      = ap (λ z. unstarred (all_starring z (values_of (drop i vs)))) (stars_at us i (star.Leaf false) l) ∙ ap (λ z. unstarred (all_starring (star_and (stars_of (get_or us i (star.Leaf false))) (row_of (drop (i + 1) us))) z)) (values_end vs i k)
      in omega (arith, h, o)

pub ruleset all_count_forms = (all_end, all_short)
