-- The components of a call, one after another.
use Rattle.std.proofs.Common.{◌≡◌, ℕ, ◌+◌, ◌<◌, ◌≤◌, List, [], ◌∷◌, ◌++◌, length, get_or, drop, map, Bool, true, false, ◌||◌, refl, sym, ap, ◌∙◌, append_assoc, append-nil}
use Rattle.std.specs.Borrow.{Bor}
use Rattle.fut_aliases.specs.Aliases.{Set}
use Rattle.fut_aliases.specs.Stars.{no_stars, star_and}
use Rattle.fut_aliases.specs.Values.{Value, Component, all_starred, all_starring, components, starring}
use Rattle.fut_aliases.specs.Calls as definition
use Rattle.fut_aliases.specs.Calls.{given_sides, sides}
use Rattle.alias_values.specs.declared.trees.StarTree.{StarTree}
use Rattle.alias_values.specs.declared.trees.StarTree.TheVariants as star
use Rattle.alias_values.specs.declared.trees.ValueTree.{ValueTree}
use Rattle.alias_values.specs.Trees.{row_of, stars_of, value_of, values_of}
use Rattle.alias_values.proofs.Rows.{drop_past, one_more, stars_at, stars_end, values_at, values_end}
use Rattle.alias_types.proofs.PickForms.{pick_forms}
use Rattle.alias_calls.specs.declared.sides.Side.{Side}
use Rattle.alias_calls.specs.Sides.{side_of, sides_of}
use Rattle.alias_joins.specs.SetRows.{sets_of}
use Rattle.alias_applications.specs.declared.given.Given.{Given}
use Rattle.alias_applications.specs.Givens.{givens_of}
use Rattle.alias_applications.specs.Rules.{component_of, components_of, has_starred}

one_side : (ys : List Side) (s : Side) (r : List definition.Side) → sides_of ys ++ side_of s ∷ r ≡ sides_of (ys ++ s ∷ []) ++ r
one_side [] s r = refl
one_side (y ∷ ys) s r = ap (λ z. side_of y ∷ z) (one_side ys s r)

-- ---- all components of a value

module _ (xs ys : List Side) (n : ℕ) (b : Bool) (ss : List (Bor Set)) (i : ℕ) (h : sides_of xs ++ sides n (all_starred b (sets_of ss)) ≡ sides_of ys ++ sides n (all_starred b (sets_of (drop i ss)))) where
  pub whole_more : (d : Bor Set) (zs : List Side) → i < length ss → zs ≡ ys ++ record { node = n; starred = b; set = get_or ss i d } ∷ [] → sides_of xs ++ sides n (all_starred b (sets_of ss)) ≡ sides_of zs ++ sides n (all_starred b (sets_of (drop (i + 1) ss)))
  whole_more d zs l e =
      h ∙ ap (λ z. sides_of ys ++ sides n (all_starred b (sets_of z))) (one_more ss i d l) ∙ one_side ys (record { node = n; starred = b; set = get_or ss i d }) (sides n (all_starred b (sets_of (drop (i + 1) ss))))
      ∙ ap (λ z. sides_of z ++ sides n (all_starred b (sets_of (drop (i + 1) ss)))) (sym e)

  pub whole_end : (v : Value) → length ss ≤ i → sets_of ss ≡ components v → sides_of ys ≡ sides_of xs ++ sides n (all_starred b (components v))
  whole_end v l e = sym (ap (λ z. sides_of xs ++ sides n (all_starred b z)) (sym e) ∙ h ∙ ap (λ z. sides_of ys ++ sides n (all_starred b (sets_of z))) (drop_past ss i l) ∙ append-nil (sides_of ys))

pub ruleset whole_forms = (whole_more, whole_end)

-- ---- form by form

pub ruleset side_forms = (pick_forms)

both_sides : (n : ℕ) (cs ds : List Component) → sides n (cs ++ ds) ≡ sides n cs ++ sides n ds
both_sides n [] ds = refl
both_sides n (c ∷ cs) ds = ap (λ z. record { node = n; component = c } ∷ z) (both_sides n cs ds)

module _ (xs ys : List Side) (n : ℕ) (us : List StarTree) (vs : List ValueTree) (i : ℕ) (h : sides_of xs ++ sides n (all_starring (row_of us) (values_of vs)) ≡ sides_of ys ++ sides n (all_starring (row_of (drop i us)) (values_of (drop i vs)))) where
  pub sides_more : (u : StarTree) (v : ValueTree) (zs : List Side) → i < length us → i < length vs → sides_of zs ≡ sides_of ys ++ sides n (starring (stars_of (get_or us i u)) (value_of (get_or vs i v)))
      → sides_of xs ++ sides n (all_starring (row_of us) (values_of vs)) ≡ sides_of zs ++ sides n (all_starring (row_of (drop (i + 1) us)) (values_of (drop (i + 1) vs)))
  unfolding starring all_starring
  sides_more u v zs l k e =
      h ∙ ap (λ z. sides_of ys ++ sides n (all_starring z (values_of (drop i vs)))) (stars_at us i u l)
      ∙ ap (λ z. sides_of ys ++ sides n (all_starring (star_and (stars_of (get_or us i u)) (row_of (drop (i + 1) us))) z)) (values_at vs i v k)
      ∙ ap (λ z. sides_of ys ++ z) (both_sides n (starring (stars_of (get_or us i u)) (value_of (get_or vs i v))) (all_starring (row_of (drop (i + 1) us)) (values_of (drop (i + 1) vs))))
      ∙ sym (append_assoc (sides_of ys) (sides n (starring (stars_of (get_or us i u)) (value_of (get_or vs i v)))) (sides n (all_starring (row_of (drop (i + 1) us)) (values_of (drop (i + 1) vs)))))
      ∙ ap (λ z. z ++ sides n (all_starring (row_of (drop (i + 1) us)) (values_of (drop (i + 1) vs)))) (sym e)

  pub sides_end : length us ≤ i → sides_of ys ≡ sides_of xs ++ sides n (all_starring (row_of us) (values_of vs))
  unfolding all_starring
  sides_end l = sym (h ∙ ap (λ z. sides_of ys ++ sides n (all_starring z (values_of (drop i vs)))) (stars_end us i l) ∙ append-nil (sides_of ys))

  pub sides_short : i < length us → length vs ≤ i → sides_of ys ≡ sides_of xs ++ sides n (all_starring (row_of us) (values_of vs))
  unfolding all_starring
  sides_short l k = sym (h ∙ ap (λ z. sides_of ys ++ sides n (all_starring z (values_of (drop i vs)))) (stars_at us i (star.Leaf false) l)
      ∙ ap (λ z. sides_of ys ++ sides n (all_starring (star_and (stars_of (get_or us i (star.Leaf false))) (row_of (drop (i + 1) us))) z)) (values_end vs i k) ∙ append-nil (sides_of ys))

pub ruleset all_side_forms = (sides_end, sides_short)

-- ---- of all arguments

module _ (xs ys : List Side) (gs : List Given) (i : ℕ) (h : sides_of xs ++ given_sides (givens_of gs) ≡ sides_of ys ++ given_sides (givens_of (drop i gs))) where
  pub given_more : (d : Given) (zs : List Side) → i < length gs → sides_of zs ≡ sides_of ys ++ sides (get_or gs i d).argument.node (starring (stars_of (get_or gs i d).stars.now) (value_of (get_or gs i d).argument.value.now))
      → sides_of xs ++ given_sides (givens_of gs) ≡ sides_of zs ++ given_sides (givens_of (drop (i + 1) gs))
  given_more d zs l e =
      h ∙ ap (λ z. sides_of ys ++ given_sides (givens_of z)) (one_more gs i d l)
      ∙ sym (append_assoc (sides_of ys) (sides (get_or gs i d).argument.node (starring (stars_of (get_or gs i d).stars.now) (value_of (get_or gs i d).argument.value.now))) (given_sides (givens_of (drop (i + 1) gs))))
      ∙ ap (λ z. z ++ given_sides (givens_of (drop (i + 1) gs))) (sym e)

  pub given_end : length gs ≤ i → sides_of ys ≡ sides_of xs ++ given_sides (givens_of gs)
  given_end l = sym (h ∙ ap (λ z. sides_of ys ++ given_sides (givens_of z)) (drop_past gs i l) ∙ append-nil (sides_of ys))

pub ruleset given_forms = (given_more, given_end)

pub call_is : (xs ys zs all : List Side) (n : ℕ) (v : Value) (more_of : List definition.Side) → xs ≡ [] → sides_of ys ≡ sides_of xs ++ sides n (all_starred false (components v)) → sides_of zs ≡ sides_of ys ++ more_of → all ≡ zs → sides_of all ≡ sides n (starring no_stars v) ++ more_of
unfolding starring
call_is xs ys zs all n v more_of e f g k = ap sides_of k ∙ g ∙ ap (λ z. z ++ more_of) (f ∙ ap (λ z. sides_of z ++ sides n (all_starred false (components v))) e)

pub ruleset call_forms = (call_is)

-- ---- components alone

components_alone : (xs : List Side) → components_of xs ≡ map (λ (s : definition.Side). s.component) (sides_of xs)
components_alone [] = refl
components_alone (x ∷ xs) = ap (λ z. component_of x ∷ z) (components_alone xs)

alone_at : (n : ℕ) (cs : List Component) → map (λ (s : definition.Side). s.component) (sides n cs) ≡ cs
alone_at n [] = refl
alone_at n (c ∷ cs) = ap (λ z. c ∷ z) (alone_at n cs)

pub value_is : (xs ys all : List Side) (n : ℕ) (cs : List Component) → xs ≡ [] → sides_of ys ≡ sides_of xs ++ sides n cs → all ≡ ys → components_of all ≡ cs
value_is xs ys all n cs e f k = components_alone all ∙ ap (map (λ (s : definition.Side). s.component)) (ap sides_of k ∙ f ∙ ap (λ z. sides_of z ++ sides n cs) e) ∙ alone_at n cs

pub ruleset value_forms = (value_is)

module _ (xs : List Side) (i : ℕ) (h : has_starred (components_of xs) ≡ has_starred (components_of (drop i xs))) where
  starred_at : (d : Side) → i < length xs → has_starred (components_of xs) ≡ (get_or xs i d).starred || has_starred (components_of (drop (i + 1) xs))
  starred_at d l = h ∙ ap (λ z. has_starred (components_of z)) (one_more xs i d l)

  pub starred_more : (d : Side) → i < length xs → (get_or xs i d).starred ≡ false → has_starred (components_of xs) ≡ has_starred (components_of (drop (i + 1) xs))
  starred_more d l e = starred_at d l ∙ ap (λ z. z || has_starred (components_of (drop (i + 1) xs))) e

  pub starred_here : (d : Side) → i < length xs → (get_or xs i d).starred ≡ true → true ≡ has_starred (components_of xs)
  starred_here d l e = sym (starred_at d l ∙ ap (λ z. z || has_starred (components_of (drop (i + 1) xs))) e)

  pub starred_end : length xs ≤ i → false ≡ has_starred (components_of xs)
  starred_end l = sym (h ∙ ap (λ z. has_starred (components_of z)) (drop_past xs i l))

pub ruleset starred_forms = (starred_more, starred_here, starred_end)
