-- What stars say by themselves, form by form.
use Rattle.std.proofs.Common.{◌≡◌, ℕ, ◌+◌, ◌<◌, ◌≤◌, List, length, get_or, drop, Bool, true, false, ◌||◌, not, refl, sym, ap, ◌∙◌}
use Rattle.fut_aliases.specs.Stars.{Stars, Leaf, Arrow, Row, StarRow, has_star, some_has_star, lacks_star, some_lacks_star, consumes, some_consumes}
use Rattle.alias_values.specs.declared.trees.StarTree.{StarTree}
use Rattle.alias_values.specs.Trees.{stars_of, row_of}
use Rattle.alias_values.proofs.Forms.{star_forms}
use Rattle.alias_values.proofs.Rows.{stars_at, stars_end}

-- ---- has_star

pub has_leaf : (b : Bool) → has_star (Leaf b) ≡ b
unfolding has_star
has_leaf b = refl

pub has_arrow : (b : Bool) (p r : Stars) → has_star (Arrow b p r) ≡ b
unfolding has_star
has_arrow b p r = refl

pub has_row : (us : StarRow) → has_star (Row us) ≡ some_has_star us
unfolding has_star some_has_star
has_row us = refl

pub ruleset has_forms = (star_forms, has_leaf, has_arrow, has_row)

module _ (us : List StarTree) (i : ℕ) where
  has_at : (u : StarTree) → i < length us → some_has_star (row_of (drop i us)) ≡ (has_star (stars_of (get_or us i u)) || some_has_star (row_of (drop (i + 1) us)))
  unfolding has_star some_has_star
  has_at u l = ap some_has_star (stars_at us i u l)

  pub has_more : (u : StarTree) → i < length us → false ≡ has_star (stars_of (get_or us i u)) → some_has_star (row_of us) ≡ some_has_star (row_of (drop i us)) → some_has_star (row_of us) ≡ some_has_star (row_of (drop (i + 1) us))
  has_more u l h e = e ∙ has_at u l ∙ ap (λ z. z || some_has_star (row_of (drop (i + 1) us))) (sym h)

  pub has_here : (u : StarTree) → i < length us → true ≡ has_star (stars_of (get_or us i u)) → some_has_star (row_of us) ≡ some_has_star (row_of (drop i us)) → true ≡ some_has_star (row_of us)
  has_here u l h e = sym (e ∙ has_at u l ∙ ap (λ z. z || some_has_star (row_of (drop (i + 1) us))) (sym h))

  pub has_end : length us ≤ i → some_has_star (row_of us) ≡ some_has_star (row_of (drop i us)) → false ≡ some_has_star (row_of us)
  unfolding has_star some_has_star
  has_end l e = sym (e ∙ ap some_has_star (stars_end us i l))

pub ruleset some_has_forms = (has_more, has_here, has_end)

-- ---- lacks_star

pub lacks_leaf : (b : Bool) → lacks_star (Leaf b) ≡ not b
unfolding lacks_star
lacks_leaf b = refl

pub lacks_arrow : (b : Bool) (p r : Stars) → lacks_star (Arrow b p r) ≡ not b
unfolding lacks_star
lacks_arrow b p r = refl

pub lacks_row : (us : StarRow) → lacks_star (Row us) ≡ some_lacks_star us
unfolding lacks_star some_lacks_star
lacks_row us = refl

pub ruleset lacks_forms = (star_forms, lacks_leaf, lacks_arrow, lacks_row)

module _ (us : List StarTree) (i : ℕ) where
  lacks_at : (u : StarTree) → i < length us → some_lacks_star (row_of (drop i us)) ≡ (lacks_star (stars_of (get_or us i u)) || some_lacks_star (row_of (drop (i + 1) us)))
  unfolding lacks_star some_lacks_star
  lacks_at u l = ap some_lacks_star (stars_at us i u l)

  pub lacks_more : (u : StarTree) → i < length us → false ≡ lacks_star (stars_of (get_or us i u)) → some_lacks_star (row_of us) ≡ some_lacks_star (row_of (drop i us)) → some_lacks_star (row_of us) ≡ some_lacks_star (row_of (drop (i + 1) us))
  lacks_more u l h e = e ∙ lacks_at u l ∙ ap (λ z. z || some_lacks_star (row_of (drop (i + 1) us))) (sym h)

  pub lacks_here : (u : StarTree) → i < length us → true ≡ lacks_star (stars_of (get_or us i u)) → some_lacks_star (row_of us) ≡ some_lacks_star (row_of (drop i us)) → true ≡ some_lacks_star (row_of us)
  lacks_here u l h e = sym (e ∙ lacks_at u l ∙ ap (λ z. z || some_lacks_star (row_of (drop (i + 1) us))) (sym h))

  pub lacks_end : length us ≤ i → some_lacks_star (row_of us) ≡ some_lacks_star (row_of (drop i us)) → false ≡ some_lacks_star (row_of us)
  unfolding lacks_star some_lacks_star
  lacks_end l e = sym (e ∙ ap some_lacks_star (stars_end us i l))

pub ruleset some_lacks_forms = (lacks_more, lacks_here, lacks_end)

-- ---- consumes

pub consumes_leaf : (b : Bool) → consumes (Leaf b) ≡ false
unfolding consumes
consumes_leaf b = refl

pub consumes_arrow : (b : Bool) (p r : Stars) → consumes (Arrow b p r) ≡ (has_star p || consumes r)
unfolding consumes
consumes_arrow b p r = refl

pub consumes_row : (us : StarRow) → consumes (Row us) ≡ some_consumes us
unfolding consumes some_consumes
consumes_row us = refl

pub ruleset consumes_forms = (star_forms, consumes_leaf, consumes_arrow, consumes_row)

module _ (us : List StarTree) (i : ℕ) where
  consumes_at : (u : StarTree) → i < length us → some_consumes (row_of (drop i us)) ≡ (consumes (stars_of (get_or us i u)) || some_consumes (row_of (drop (i + 1) us)))
  unfolding consumes some_consumes
  consumes_at u l = ap some_consumes (stars_at us i u l)

  pub consumes_more : (u : StarTree) → i < length us → false ≡ consumes (stars_of (get_or us i u)) → some_consumes (row_of us) ≡ some_consumes (row_of (drop i us)) → some_consumes (row_of us) ≡ some_consumes (row_of (drop (i + 1) us))
  consumes_more u l h e = e ∙ consumes_at u l ∙ ap (λ z. z || some_consumes (row_of (drop (i + 1) us))) (sym h)

  pub consumes_here : (u : StarTree) → i < length us → true ≡ consumes (stars_of (get_or us i u)) → some_consumes (row_of us) ≡ some_consumes (row_of (drop i us)) → true ≡ some_consumes (row_of us)
  consumes_here u l h e = sym (e ∙ consumes_at u l ∙ ap (λ z. z || some_consumes (row_of (drop (i + 1) us))) (sym h))

  pub consumes_end : length us ≤ i → some_consumes (row_of us) ≡ some_consumes (row_of (drop i us)) → false ≡ some_consumes (row_of us)
  unfolding consumes some_consumes
  consumes_end l e = sym (e ∙ ap some_consumes (stars_end us i l))

pub ruleset some_consumes_forms = (consumes_more, consumes_here, consumes_end)
