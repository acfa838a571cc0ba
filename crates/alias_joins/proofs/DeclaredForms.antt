-- Declared stars, form by form.
use Rattle.std.proofs.Common.{◌≡◌, ℕ, zero, suc, ◌+◌, ◌<◌, ◌≤◌, List, [], ◌∷◌, ◌++◌, length, get_or, drop, Bool, true, false, ◌||◌, min, refl, sym, ap, ◌∙◌, arith}
use Rattle.fut_aliases.specs.Stars.{Stars, Leaf, Arrow, Row, StarRow, star_and, no_star, either, all_either}
use Rattle.alias_values.specs.declared.trees.StarTree.{StarTree}
use Rattle.alias_values.specs.Trees.{row, row_of, stars_of}
use Rattle.alias_values.proofs.Forms.{star_forms}
use Rattle.alias_values.proofs.Rows.{stars_at, row_before, row_before_more}

pub either_starred : (u : Stars) → either (Leaf true) u ≡ Leaf true
unfolding either
either_starred u = refl

pub either_plain : (u : Stars) → either (Leaf false) u ≡ u
unfolding either
either_plain u = refl

pub either_arrows : (b c : Bool) (p r q s : Stars) → either (Arrow b p r) (Arrow c q s) ≡ Arrow (b || c) p (either r s)
unfolding either
either_arrows b c p r q s = refl

pub either_arrow_leaf : (b c : Bool) (p r : Stars) → either (Arrow b p r) (Leaf c) ≡ Arrow b p r
unfolding either
either_arrow_leaf b c p r = refl

pub either_arrow_row : (b : Bool) (p r : Stars) (us : StarRow) → either (Arrow b p r) (Row us) ≡ Arrow b p r
unfolding either
either_arrow_row b p r us = refl

pub either_rows : (us vs : StarRow) → either (Row us) (Row vs) ≡ Row (all_either us vs)
unfolding either all_either
either_rows us vs = refl

pub either_row_leaf : (us : StarRow) (c : Bool) → either (Row us) (Leaf c) ≡ Row us
unfolding either
either_row_leaf us c = refl

pub either_row_arrow : (us : StarRow) (c : Bool) (q s : Stars) → either (Row us) (Arrow c q s) ≡ Row us
unfolding either
either_row_arrow us c q s = refl

pub ruleset either_forms = (star_forms, either_starred, either_plain, either_arrows, either_arrow_leaf, either_arrow_row, either_rows, either_row_leaf, either_row_arrow)

behind : (made us : List StarTree) → row_before made (row_of us) ≡ row_of (made ++ us)
unfolding row_of row
behind [] us = refl
behind (u ∷ made) us = ap (star_and (stars_of u)) (behind made us)

rest_either : (us vs : List StarTree) (n : ℕ) → n ≡ min (length us) (length vs) → all_either (row_of (drop n us)) (row_of (drop n vs)) ≡ row_of (drop n us)
unfolding all_either row_of row
rest_either [] [] zero e = refl
rest_either [] (v ∷ vs) zero e = refl
rest_either [] vs (suc n) e = absurd (omega (arith, e))
rest_either (u ∷ us) [] zero e = refl
rest_either (u ∷ us) [] (suc n) e = absurd (omega (arith, e))
rest_either (u ∷ us) (v ∷ vs) zero e = absurd (omega (arith, e))
rest_either (u ∷ us) (v ∷ vs) (suc n) e = rest_either us vs n (omega (arith, e))

module _ (us vs : List StarTree) (i : ℕ) (made : List StarTree) (h : all_either (row_of us) (row_of vs) ≡ row_before made (all_either (row_of (drop i us)) (row_of (drop i vs)))) where
  pub either_more : (u v w : StarTree) (longer : List StarTree) → i < length us → i < length vs → stars_of w ≡ either (stars_of (get_or us i u)) (stars_of (get_or vs i v)) → longer ≡ made ++ w ∷ []
      → all_either (row_of us) (row_of vs) ≡ row_before longer (all_either (row_of (drop (i + 1) us)) (row_of (drop (i + 1) vs)))
  unfolding either all_either
  either_more u v w longer l k e p =
      h ∙ ap (row_before made) (ap (λ z. all_either z (row_of (drop i vs))) (stars_at us i u l) ∙ ap (all_either (star_and (stars_of (get_or us i u)) (row_of (drop (i + 1) us)))) (stars_at vs i v k)
      ∙ ap (λ z. star_and z (all_either (row_of (drop (i + 1) us)) (row_of (drop (i + 1) vs)))) (sym e))
      ∙ sym (row_before_more made w (all_either (row_of (drop (i + 1) us)) (row_of (drop (i + 1) vs))))
      ∙ ap (λ z. row_before z (all_either (row_of (drop (i + 1) us)) (row_of (drop (i + 1) vs)))) (sym p)

  pub either_end : (n : ℕ) (rest all : List StarTree) → n ≡ min (length us) (length vs) → i ≤ n → n ≤ i → rest ≡ drop n us → all ≡ made ++ rest → row_of all ≡ all_either (row_of us) (row_of vs)
  either_end n rest all e l m r a =
      let o : n ≡ i = omega (arith, l, m) in
      sym (h ∙ ap (λ z. row_before made (all_either (row_of (drop z us)) (row_of (drop z vs)))) (sym o) ∙ ap (row_before made) (rest_either us vs n e) ∙ behind made (drop n us) ∙ ap (λ z. row_of (made ++ z)) (sym r) ∙ ap row_of (sym a))

pub ruleset all_either_forms = (either_more, either_end)

-- ---- rows of the table

pub two_stars : (u v : StarTree) → row_of (u ∷ v ∷ []) ≡ star_and (stars_of u) (star_and (stars_of v) no_star)
unfolding row_of row
two_stars u v = refl

pub three_stars : (u v w : StarTree) → row_of (u ∷ v ∷ w ∷ []) ≡ star_and (stars_of u) (star_and (stars_of v) (star_and (stars_of w) no_star))
unfolding row_of row
three_stars u v w = refl

pub ruleset table_forms = (star_forms, two_stars, three_stars)
