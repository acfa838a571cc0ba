-- Comparing stars, form by form.
use Rattle.std.proofs.Common.{◌≡◌, ℕ, ◌+◌, ◌<◌, ◌≤◌, List, length, get_or, drop, Bool, true, false, ◌||◌, ◌&&◌, not, refl, sym, ap, ◌∙◌}
use Rattle.fut_aliases.specs.Stars.{Stars, Leaf, Arrow, Row, StarRow, star_and, has_star, lacks_star, consumes, adds_star, some_adds_star, consumes_more, consumed_more, some_consumes_more, some_consumed_more, gives_less, given_less, some_gives_less, some_given_less}
use Rattle.alias_values.specs.declared.trees.StarTree.{StarTree}
use Rattle.alias_values.specs.declared.trees.StarTree.TheVariants as star
use Rattle.alias_values.specs.Trees.{stars_of, row_of}
use Rattle.alias_values.proofs.Forms.{star_forms}
use Rattle.alias_values.proofs.Rows.{stars_at, stars_end}

pub adds_leaf : (b : Bool) (u : Stars) → adds_star (Leaf b) u ≡ (not b && has_star u)
unfolding adds_star
adds_leaf b u = refl

pub adds_arrow : (b : Bool) (p r u : Stars) → adds_star (Arrow b p r) u ≡ (not b && has_star u)
unfolding adds_star has_star lacks_star
adds_arrow b p r (Leaf c) = refl
adds_arrow b p r (Arrow c q t) = refl
adds_arrow b p r (Row us) = refl

pub adds_row_leaf : (c : Bool) (ws : StarRow) → adds_star (Row ws) (Leaf c) ≡ (lacks_star (Row ws) && c)
unfolding adds_star
adds_row_leaf c ws = refl

pub adds_row_arrow : (c : Bool) (q : Stars) (t : Stars) (ws : StarRow) → adds_star (Row ws) (Arrow c q t) ≡ (lacks_star (Row ws) && c)
unfolding adds_star lacks_star
adds_row_arrow c q t ws = refl

pub adds_row_row : (ws : StarRow) (us : StarRow) → adds_star (Row ws) (Row us) ≡ some_adds_star ws us
unfolding adds_star some_adds_star
adds_row_row ws us = refl

pub consumes_more_leaf : (b : Bool) (u : Stars) → consumes_more (Leaf b) u ≡ consumes u
unfolding consumes_more consumed_more some_consumes_more some_consumed_more
consumes_more_leaf b (Leaf c) = refl
consumes_more_leaf b (Arrow c q t) = refl
consumes_more_leaf b (Row us) = refl

pub consumes_more_arrow_leaf : (b : Bool) (c : Bool) (p : Stars) (r : Stars) → consumes_more (Arrow b p r) (Leaf c) ≡ consumes (Leaf c)
unfolding consumes_more consumed_more some_consumes_more some_consumed_more
consumes_more_arrow_leaf b c p r = refl

pub consumes_more_arrow_arrow : (b : Bool) (c : Bool) (p : Stars) (r : Stars) (q : Stars) (t : Stars) → consumes_more (Arrow b p r) (Arrow c q t) ≡ ((adds_star p q || consumed_more p q) || consumes_more r t)
unfolding consumes_more consumed_more some_consumes_more some_consumed_more
consumes_more_arrow_arrow b c p r q t = refl

pub consumes_more_arrow_row : (b : Bool) (p : Stars) (r : Stars) (us : StarRow) → consumes_more (Arrow b p r) (Row us) ≡ consumes (Row us)
unfolding consumes_more consumed_more some_consumes_more some_consumed_more
consumes_more_arrow_row b p r us = refl

pub consumes_more_row_leaf : (c : Bool) (ws : StarRow) → consumes_more (Row ws) (Leaf c) ≡ consumes (Leaf c)
unfolding consumes_more consumed_more some_consumes_more some_consumed_more
consumes_more_row_leaf c ws = refl

pub consumes_more_row_arrow : (c : Bool) (q : Stars) (t : Stars) (ws : StarRow) → consumes_more (Row ws) (Arrow c q t) ≡ consumes (Arrow c q t)
unfolding consumes_more consumed_more some_consumes_more some_consumed_more
consumes_more_row_arrow c q t ws = refl

pub consumes_more_row_row : (ws : StarRow) (us : StarRow) → consumes_more (Row ws) (Row us) ≡ some_consumes_more ws us
unfolding consumes_more consumed_more some_consumes_more some_consumed_more
consumes_more_row_row ws us = refl

pub consumed_more_leaf : (b : Bool) (u : Stars) → consumed_more (Leaf b) u ≡ consumes (Leaf b)
unfolding consumes_more consumed_more some_consumes_more some_consumed_more
consumed_more_leaf b (Leaf c) = refl
consumed_more_leaf b (Arrow c q t) = refl
consumed_more_leaf b (Row us) = refl

pub consumed_more_arrow_leaf : (b : Bool) (c : Bool) (p : Stars) (r : Stars) → consumed_more (Arrow b p r) (Leaf c) ≡ consumes (Arrow b p r)
unfolding consumes_more consumed_more some_consumes_more some_consumed_more
consumed_more_arrow_leaf b c p r = refl

pub consumed_more_arrow_arrow : (b : Bool) (c : Bool) (p : Stars) (r : Stars) (q : Stars) (t : Stars) → consumed_more (Arrow b p r) (Arrow c q t) ≡ ((adds_star q p || consumes_more p q) || consumed_more r t)
unfolding consumes_more consumed_more some_consumes_more some_consumed_more
consumed_more_arrow_arrow b c p r q t = refl

pub consumed_more_arrow_row : (b : Bool) (p : Stars) (r : Stars) (us : StarRow) → consumed_more (Arrow b p r) (Row us) ≡ consumes (Arrow b p r)
unfolding consumes_more consumed_more some_consumes_more some_consumed_more
consumed_more_arrow_row b p r us = refl

pub consumed_more_row_leaf : (c : Bool) (ws : StarRow) → consumed_more (Row ws) (Leaf c) ≡ consumes (Row ws)
unfolding consumes_more consumed_more some_consumes_more some_consumed_more
consumed_more_row_leaf c ws = refl

pub consumed_more_row_arrow : (c : Bool) (q : Stars) (t : Stars) (ws : StarRow) → consumed_more (Row ws) (Arrow c q t) ≡ consumes (Row ws)
unfolding consumes_more consumed_more some_consumes_more some_consumed_more
consumed_more_row_arrow c q t ws = refl

pub consumed_more_row_row : (ws : StarRow) (us : StarRow) → consumed_more (Row ws) (Row us) ≡ some_consumed_more ws us
unfolding consumes_more consumed_more some_consumes_more some_consumed_more
consumed_more_row_row ws us = refl

pub gives_less_leaf : (b : Bool) (u : Stars) → gives_less (Leaf b) u ≡ false
unfolding gives_less given_less some_gives_less some_given_less
gives_less_leaf b (Leaf c) = refl
gives_less_leaf b (Arrow c q t) = refl
gives_less_leaf b (Row us) = refl

pub gives_less_arrow_leaf : (b : Bool) (c : Bool) (p : Stars) (r : Stars) → gives_less (Arrow b p r) (Leaf c) ≡ false
unfolding gives_less given_less some_gives_less some_given_less
gives_less_arrow_leaf b c p r = refl

pub gives_less_arrow_arrow : (b : Bool) (c : Bool) (p : Stars) (r : Stars) (q : Stars) (t : Stars) → gives_less (Arrow b p r) (Arrow c q t) ≡ ((adds_star t r || given_less p q) || gives_less r t)
unfolding gives_less given_less some_gives_less some_given_less
gives_less_arrow_arrow b c p r q t = refl

pub gives_less_arrow_row : (b : Bool) (p : Stars) (r : Stars) (us : StarRow) → gives_less (Arrow b p r) (Row us) ≡ false
unfolding gives_less given_less some_gives_less some_given_less
gives_less_arrow_row b p r us = refl

pub gives_less_row_leaf : (c : Bool) (ws : StarRow) → gives_less (Row ws) (Leaf c) ≡ false
unfolding gives_less given_less some_gives_less some_given_less
gives_less_row_leaf c ws = refl

pub gives_less_row_arrow : (c : Bool) (q : Stars) (t : Stars) (ws : StarRow) → gives_less (Row ws) (Arrow c q t) ≡ false
unfolding gives_less given_less some_gives_less some_given_less
gives_less_row_arrow c q t ws = refl

pub gives_less_row_row : (ws : StarRow) (us : StarRow) → gives_less (Row ws) (Row us) ≡ some_gives_less ws us
unfolding gives_less given_less some_gives_less some_given_less
gives_less_row_row ws us = refl

pub given_less_leaf : (b : Bool) (u : Stars) → given_less (Leaf b) u ≡ false
unfolding gives_less given_less some_gives_less some_given_less
given_less_leaf b (Leaf c) = refl
given_less_leaf b (Arrow c q t) = refl
given_less_leaf b (Row us) = refl

pub given_less_arrow_leaf : (b : Bool) (c : Bool) (p : Stars) (r : Stars) → given_less (Arrow b p r) (Leaf c) ≡ false
unfolding gives_less given_less some_gives_less some_given_less
given_less_arrow_leaf b c p r = refl

pub given_less_arrow_arrow : (b : Bool) (c : Bool) (p : Stars) (r : Stars) (q : Stars) (t : Stars) → given_less (Arrow b p r) (Arrow c q t) ≡ ((adds_star r t || gives_less p q) || given_less r t)
unfolding gives_less given_less some_gives_less some_given_less
given_less_arrow_arrow b c p r q t = refl

pub given_less_arrow_row : (b : Bool) (p : Stars) (r : Stars) (us : StarRow) → given_less (Arrow b p r) (Row us) ≡ false
unfolding gives_less given_less some_gives_less some_given_less
given_less_arrow_row b p r us = refl

pub given_less_row_leaf : (c : Bool) (ws : StarRow) → given_less (Row ws) (Leaf c) ≡ false
unfolding gives_less given_less some_gives_less some_given_less
given_less_row_leaf c ws = refl

pub given_less_row_arrow : (c : Bool) (q : Stars) (t : Stars) (ws : StarRow) → given_less (Row ws) (Arrow c q t) ≡ false
unfolding gives_less given_less some_gives_less some_given_less
given_less_row_arrow c q t ws = refl

pub given_less_row_row : (ws : StarRow) (us : StarRow) → given_less (Row ws) (Row us) ≡ some_given_less ws us
unfolding gives_less given_less some_gives_less some_given_less
given_less_row_row ws us = refl

pub ruleset adds_forms = (star_forms, adds_leaf, adds_arrow, adds_row_leaf, adds_row_arrow, adds_row_row)

pub ruleset consumes_more_forms = (star_forms, consumes_more_leaf, consumes_more_arrow_leaf, consumes_more_arrow_arrow, consumes_more_arrow_row, consumes_more_row_leaf, consumes_more_row_arrow, consumes_more_row_row)

pub ruleset consumed_more_forms = (star_forms, consumed_more_leaf, consumed_more_arrow_leaf, consumed_more_arrow_arrow, consumed_more_arrow_row, consumed_more_row_leaf, consumed_more_row_arrow, consumed_more_row_row)

pub ruleset gives_less_forms = (star_forms, gives_less_leaf, gives_less_arrow_leaf, gives_less_arrow_arrow, gives_less_arrow_row, gives_less_row_leaf, gives_less_row_arrow, gives_less_row_row)

pub ruleset given_less_forms = (star_forms, given_less_leaf, given_less_arrow_leaf, given_less_arrow_arrow, given_less_arrow_row, given_less_row_leaf, given_less_row_arrow, given_less_row_row)

-- ---- adds_star, part by part

module _ (ws us : List StarTree) (i : ℕ) (e : some_adds_star (row_of ws) (row_of us) ≡ some_adds_star (row_of (drop i ws)) (row_of (drop i us))) where
  adds_at : (w u : StarTree) → i < length ws → i < length us → some_adds_star (row_of ws) (row_of us) ≡ (adds_star (stars_of (get_or ws i w)) (stars_of (get_or us i u)) || some_adds_star (row_of (drop (i + 1) ws)) (row_of (drop (i + 1) us)))
  unfolding adds_star some_adds_star
  adds_at w u l k = e ∙ ap (λ z. some_adds_star z (row_of (drop i us))) (stars_at ws i w l) ∙ ap (some_adds_star (star_and (stars_of (get_or ws i w)) (row_of (drop (i + 1) ws)))) (stars_at us i u k)

  pub adds_more : (w u : StarTree) → i < length ws → i < length us → false ≡ adds_star (stars_of (get_or ws i w)) (stars_of (get_or us i u)) → some_adds_star (row_of ws) (row_of us) ≡ some_adds_star (row_of (drop (i + 1) ws)) (row_of (drop (i + 1) us))
  adds_more w u l k h = adds_at w u l k ∙ ap (λ z. z || some_adds_star (row_of (drop (i + 1) ws)) (row_of (drop (i + 1) us))) (sym h)

  pub adds_here : (w u : StarTree) → i < length ws → i < length us → true ≡ adds_star (stars_of (get_or ws i w)) (stars_of (get_or us i u)) → true ≡ some_adds_star (row_of ws) (row_of us)
  adds_here w u l k h = sym (adds_at w u l k ∙ ap (λ z. z || some_adds_star (row_of (drop (i + 1) ws)) (row_of (drop (i + 1) us))) (sym h))

  pub adds_wanted : length ws ≤ i → false ≡ some_adds_star (row_of ws) (row_of us)
  unfolding adds_star some_adds_star
  adds_wanted l = sym (e ∙ ap (λ z. some_adds_star z (row_of (drop i us))) (stars_end ws i l))

  pub adds_found : i < length ws → length us ≤ i → false ≡ some_adds_star (row_of ws) (row_of us)
  unfolding adds_star some_adds_star
  adds_found l k = sym (e ∙ ap (λ z. some_adds_star z (row_of (drop i us))) (stars_at ws i (star.Leaf false) l) ∙ ap (some_adds_star (star_and (stars_of (get_or ws i (star.Leaf false))) (row_of (drop (i + 1) ws)))) (stars_end us i k))

pub ruleset some_adds_forms = (adds_more, adds_here, adds_wanted, adds_found)

-- ---- consumes_more, part by part

module _ (ws us : List StarTree) (i : ℕ) (e : some_consumes_more (row_of ws) (row_of us) ≡ some_consumes_more (row_of (drop i ws)) (row_of (drop i us))) where
  consumes_more_at : (w u : StarTree) → i < length ws → i < length us → some_consumes_more (row_of ws) (row_of us) ≡ (consumes_more (stars_of (get_or ws i w)) (stars_of (get_or us i u)) || some_consumes_more (row_of (drop (i + 1) ws)) (row_of (drop (i + 1) us)))
  unfolding consumes_more consumed_more some_consumes_more some_consumed_more
  consumes_more_at w u l k = e ∙ ap (λ z. some_consumes_more z (row_of (drop i us))) (stars_at ws i w l) ∙ ap (some_consumes_more (star_and (stars_of (get_or ws i w)) (row_of (drop (i + 1) ws)))) (stars_at us i u k)

  pub consumes_more_more : (w u : StarTree) → i < length ws → i < length us → false ≡ consumes_more (stars_of (get_or ws i w)) (stars_of (get_or us i u)) → some_consumes_more (row_of ws) (row_of us) ≡ some_consumes_more (row_of (drop (i + 1) ws)) (row_of (drop (i + 1) us))
  consumes_more_more w u l k h = consumes_more_at w u l k ∙ ap (λ z. z || some_consumes_more (row_of (drop (i + 1) ws)) (row_of (drop (i + 1) us))) (sym h)

  pub consumes_more_here : (w u : StarTree) → i < length ws → i < length us → true ≡ consumes_more (stars_of (get_or ws i w)) (stars_of (get_or us i u)) → true ≡ some_consumes_more (row_of ws) (row_of us)
  consumes_more_here w u l k h = sym (consumes_more_at w u l k ∙ ap (λ z. z || some_consumes_more (row_of (drop (i + 1) ws)) (row_of (drop (i + 1) us))) (sym h))

  pub consumes_more_wanted : length ws ≤ i → false ≡ some_consumes_more (row_of ws) (row_of us)
  unfolding consumes_more consumed_more some_consumes_more some_consumed_more
  consumes_more_wanted l = sym (e ∙ ap (λ z. some_consumes_more z (row_of (drop i us))) (stars_end ws i l))

  pub consumes_more_found : i < length ws → length us ≤ i → false ≡ some_consumes_more (row_of ws) (row_of us)
  unfolding consumes_more consumed_more some_consumes_more some_consumed_more
  consumes_more_found l k = sym (e ∙ ap (λ z. some_consumes_more z (row_of (drop i us))) (stars_at ws i (star.Leaf false) l) ∙ ap (some_consumes_more (star_and (stars_of (get_or ws i (star.Leaf false))) (row_of (drop (i + 1) ws)))) (stars_end us i k))

pub ruleset some_consumes_more_forms = (consumes_more_more, consumes_more_here, consumes_more_wanted, consumes_more_found)

-- ---- consumed_more, part by part

module _ (ws us : List StarTree) (i : ℕ) (e : some_consumed_more (row_of ws) (row_of us) ≡ some_consumed_more (row_of (drop i ws)) (row_of (drop i us))) where
  consumed_more_at : (w u : StarTree) → i < length ws → i < length us → some_consumed_more (row_of ws) (row_of us) ≡ (consumed_more (stars_of (get_or ws i w)) (stars_of (get_or us i u)) || some_consumed_more (row_of (drop (i + 1) ws)) (row_of (drop (i + 1) us)))
  unfolding consumes_more consumed_more some_consumes_more some_consumed_more
  consumed_more_at w u l k = e ∙ ap (λ z. some_consumed_more z (row_of (drop i us))) (stars_at ws i w l) ∙ ap (some_consumed_more (star_and (stars_of (get_or ws i w)) (row_of (drop (i + 1) ws)))) (stars_at us i u k)

  pub consumed_more_more : (w u : StarTree) → i < length ws → i < length us → false ≡ consumed_more (stars_of (get_or ws i w)) (stars_of (get_or us i u)) → some_consumed_more (row_of ws) (row_of us) ≡ some_consumed_more (row_of (drop (i + 1) ws)) (row_of (drop (i + 1) us))
  consumed_more_more w u l k h = consumed_more_at w u l k ∙ ap (λ z. z || some_consumed_more (row_of (drop (i + 1) ws)) (row_of (drop (i + 1) us))) (sym h)

  pub consumed_more_here : (w u : StarTree) → i < length ws → i < length us → true ≡ consumed_more (stars_of (get_or ws i w)) (stars_of (get_or us i u)) → true ≡ some_consumed_more (row_of ws) (row_of us)
  consumed_more_here w u l k h = sym (consumed_more_at w u l k ∙ ap (λ z. z || some_consumed_more (row_of (drop (i + 1) ws)) (row_of (drop (i + 1) us))) (sym h))

  pub consumed_more_wanted : length ws ≤ i → false ≡ some_consumed_more (row_of ws) (row_of us)
  unfolding consumes_more consumed_more some_consumes_more some_consumed_more
  consumed_more_wanted l = sym (e ∙ ap (λ z. some_consumed_more z (row_of (drop i us))) (stars_end ws i l))

  pub consumed_more_found : i < length ws → length us ≤ i → false ≡ some_consumed_more (row_of ws) (row_of us)
  unfolding consumes_more consumed_more some_consumes_more some_consumed_more
  consumed_more_found l k = sym (e ∙ ap (λ z. some_consumed_more z (row_of (drop i us))) (stars_at ws i (star.Leaf false) l) ∙ ap (some_consumed_more (star_and (stars_of (get_or ws i (star.Leaf false))) (row_of (drop (i + 1) ws)))) (stars_end us i k))

pub ruleset some_consumed_more_forms = (consumed_more_more, consumed_more_here, consumed_more_wanted, consumed_more_found)

-- ---- gives_less, part by part

module _ (ws us : List StarTree) (i : ℕ) (e : some_gives_less (row_of ws) (row_of us) ≡ some_gives_less (row_of (drop i ws)) (row_of (drop i us))) where
  gives_less_at : (w u : StarTree) → i < length ws → i < length us → some_gives_less (row_of ws) (row_of us) ≡ (gives_less (stars_of (get_or ws i w)) (stars_of (get_or us i u)) || some_gives_less (row_of (drop (i + 1) ws)) (row_of (drop (i + 1) us)))
  unfolding gives_less given_less some_gives_less some_given_less
  gives_less_at w u l k = e ∙ ap (λ z. some_gives_less z (row_of (drop i us))) (stars_at ws i w l) ∙ ap (some_gives_less (star_and (stars_of (get_or ws i w)) (row_of (drop (i + 1) ws)))) (stars_at us i u k)

  pub gives_less_more : (w u : StarTree) → i < length ws → i < length us → false ≡ gives_less (stars_of (get_or ws i w)) (stars_of (get_or us i u)) → some_gives_less (row_of ws) (row_of us) ≡ some_gives_less (row_of (drop (i + 1) ws)) (row_of (drop (i + 1) us))
  gives_less_more w u l k h = gives_less_at w u l k ∙ ap (λ z. z || some_gives_less (row_of (drop (i + 1) ws)) (row_of (drop (i + 1) us))) (sym h)

  pub gives_less_here : (w u : StarTree) → i < length ws → i < length us → true ≡ gives_less (stars_of (get_or ws i w)) (stars_of (get_or us i u)) → true ≡ some_gives_less (row_of ws) (row_of us)
  gives_less_here w u l k h = sym (gives_less_at w u l k ∙ ap (λ z. z || some_gives_less (row_of (drop (i + 1) ws)) (row_of (drop (i + 1) us))) (sym h))

  pub gives_less_wanted : length ws ≤ i → false ≡ some_gives_less (row_of ws) (row_of us)
  unfolding gives_less given_less some_gives_less some_given_less
  gives_less_wanted l = sym (e ∙ ap (λ z. some_gives_less z (row_of (drop i us))) (stars_end ws i l))

  pub gives_less_found : i < length ws → length us ≤ i → false ≡ some_gives_less (row_of ws) (row_of us)
  unfolding gives_less given_less some_gives_less some_given_less
  gives_less_found l k = sym (e ∙ ap (λ z. some_gives_less z (row_of (drop i us))) (stars_at ws i (star.Leaf false) l) ∙ ap (some_gives_less (star_and (stars_of (get_or ws i (star.Leaf false))) (row_of (drop (i + 1) ws)))) (stars_end us i k))

pub ruleset some_gives_less_forms = (gives_less_more, gives_less_here, gives_less_wanted, gives_less_found)

-- ---- given_less, part by part

module _ (ws us : List StarTree) (i : ℕ) (e : some_given_less (row_of ws) (row_of us) ≡ some_given_less (row_of (drop i ws)) (row_of (drop i us))) where
  given_less_at : (w u : StarTree) → i < length ws → i < length us → some_given_less (row_of ws) (row_of us) ≡ (given_less (stars_of (get_or ws i w)) (stars_of (get_or us i u)) || some_given_less (row_of (drop (i + 1) ws)) (row_of (drop (i + 1) us)))
  unfolding gives_less given_less some_gives_less some_given_less
  given_less_at w u l k = e ∙ ap (λ z. some_given_less z (row_of (drop i us))) (stars_at ws i w l) ∙ ap (some_given_less (star_and (stars_of (get_or ws i w)) (row_of (drop (i + 1) ws)))) (stars_at us i u k)

  pub given_less_more : (w u : StarTree) → i < length ws → i < length us → false ≡ given_less (stars_of (get_or ws i w)) (stars_of (get_or us i u)) → some_given_less (row_of ws) (row_of us) ≡ some_given_less (row_of (drop (i + 1) ws)) (row_of (drop (i + 1) us))
  given_less_more w u l k h = given_less_at w u l k ∙ ap (λ z. z || some_given_less (row_of (drop (i + 1) ws)) (row_of (drop (i + 1) us))) (sym h)

  pub given_less_here : (w u : StarTree) → i < length ws → i < length us → true ≡ given_less (stars_of (get_or ws i w)) (stars_of (get_or us i u)) → true ≡ some_given_less (row_of ws) (row_of us)
  given_less_here w u l k h = sym (given_less_at w u l k ∙ ap (λ z. z || some_given_less (row_of (drop (i + 1) ws)) (row_of (drop (i + 1) us))) (sym h))

  pub given_less_wanted : length ws ≤ i → false ≡ some_given_less (row_of ws) (row_of us)
  unfolding gives_less given_less some_gives_less some_given_less
  given_less_wanted l = sym (e ∙ ap (λ z. some_given_less z (row_of (drop i us))) (stars_end ws i l))

  pub given_less_found : i < length ws → length us ≤ i → false ≡ some_given_less (row_of ws) (row_of us)
  unfolding gives_less given_less some_gives_less some_given_less
  given_less_found l k = sym (e ∙ ap (λ z. some_given_less z (row_of (drop i us))) (stars_at ws i (star.Leaf false) l) ∙ ap (some_given_less (star_and (stars_of (get_or ws i (star.Leaf false))) (row_of (drop (i + 1) ws)))) (stars_end us i k))

pub ruleset some_given_less_forms = (given_less_more, given_less_here, given_less_wanted, given_less_found)
