-- Lists that are read side by side, from the front on: what is left of them says what becomes of the whole.
use Rattle.std.proofs.Common.{◌≡◌, ◌≢◌, ℕ, zero, suc, ◌+◌, ◌<◌, ◌≤◌, List, [], ◌∷◌, ◌++◌, length, get_or, drop, cond, refl, sym, ap, ◌∙◌, subst, arith}
use Rattle.std.proofs.Math.Seq.{drop-cons}
use Rattle.std.proofs.lemmas.Bool.{eq-eqb, ne_eqb}
use Rattle.alias_sets.specs.Merging.{Within, nothing_left, passed, met, Merged, left_ends, right_ends, left_first, right_first, once, without}

drop_end : (n : ℕ) (xs : List ℕ) → length xs ≤ n → drop n xs ≡ []
drop_end zero [] h = refl
drop_end zero (x ∷ xs) h = absurd (omega (arith, h))
drop_end (suc n) [] h = refl
drop_end (suc n) (x ∷ xs) h = drop_end n xs (omega (arith, h))

one_more : (xs : List ℕ) (i : ℕ) → i < length xs → drop i xs ≡ get_or xs i 0 ∷ drop (i + 1) xs
one_more xs i lt = let e : suc i ≡ i + 1 = omega arith in drop-cons xs i 0 lt ∙ ap (λ z. get_or xs i 0 ∷ drop z xs) e

push_one : (xs ys : List ℕ) (x : ℕ) → (xs ++ x ∷ []) ++ ys ≡ xs ++ x ∷ ys
push_one [] ys x = refl
push_one (z ∷ xs) ys x = ap (λ w. z ∷ w) (push_one xs ys x)

append_none : (xs : List ℕ) → xs ++ [] ≡ xs
append_none [] = refl
append_none (x ∷ xs) = ap (λ z. x ∷ z) (append_none xs)

-- ---- the members of the second are found in the first, in one order

unfoldable pub Within_from : ℕ → ℕ → List ℕ → List ℕ → Type 0
Within_from i j s t = Within (drop i s) (drop j t) → Within s t

pub within_start : (s t : List ℕ) → Within_from 0 0 s t
unfolding Within_from
within_start s t h = h

pub within_end : (i j : ℕ) (s t : List ℕ) → Within_from i j s t → length t ≤ j → Within s t
unfolding Within_from
within_end i j s t h l = h (subst (λ z. Within (drop i s) z) (sym (drop_end j t l)) nothing_left)

pub within_passed : (i j : ℕ) (s t : List ℕ) → Within_from i j s t → i < length s → Within_from (i + 1) j s t
unfolding Within_from
within_passed i j s t h l w = h (subst (λ z. Within z (drop j t)) (sym (one_more s i l)) (passed w))

pub within_met : (i j : ℕ) (s t : List ℕ) → Within_from i j s t → i < length s → j < length t → get_or s i 0 ≡ get_or t j 0 → Within_from (i + 1) (j + 1) s t
unfolding Within_from
within_met i j s t h l m e w = h (subst (λ z. Within z (drop j t)) (sym (one_more s i l)) (subst (λ z. Within (get_or s i 0 ∷ drop (i + 1) s) z) (sym (one_more t j m ∙ ap (λ z. z ∷ drop (j + 1) t) (sym e))) (met w)))

pub ruleset holding = (within_start, within_end, within_passed, within_met)

-- ---- both in one list

unfoldable pub Merged_from : ℕ → ℕ → List ℕ → List ℕ → List ℕ → Type 0
Merged_from i j s t made = (u : List ℕ) → Merged (drop i s) (drop j t) u → Merged s t (made ++ u)

pub merged_start : (s t : List ℕ) → Merged_from 0 0 s t []
unfolding Merged_from
merged_start s t u h = h

module _ (i j : ℕ) (s t made : List ℕ) (before : Merged_from i j s t made) where
  pub merged_left : i < length s → j < length t → get_or s i 0 < get_or t j 0 → Merged_from (i + 1) j s t (made ++ get_or s i 0 ∷ [])
  unfolding Merged_from
  merged_left l m lt u h = subst (λ z. Merged s t z) (sym (push_one made u (get_or s i 0)))
      (before (get_or s i 0 ∷ u) (subst (λ z. Merged z (drop j t) (get_or s i 0 ∷ u)) (sym (one_more s i l)) (subst (λ z. Merged (get_or s i 0 ∷ drop (i + 1) s) z (get_or s i 0 ∷ u)) (sym (one_more t j m))
      (left_first lt (subst (λ z. Merged (drop (i + 1) s) z u) (one_more t j m) h)))))

  pub merged_right : i < length s → j < length t → get_or t j 0 < get_or s i 0 → Merged_from i (j + 1) s t (made ++ get_or t j 0 ∷ [])
  unfolding Merged_from
  merged_right l m lt u h = subst (λ z. Merged s t z) (sym (push_one made u (get_or t j 0)))
      (before (get_or t j 0 ∷ u) (subst (λ z. Merged z (drop j t) (get_or t j 0 ∷ u)) (sym (one_more s i l)) (subst (λ z. Merged (get_or s i 0 ∷ drop (i + 1) s) z (get_or t j 0 ∷ u)) (sym (one_more t j m))
      (right_first lt (subst (λ z. Merged z (drop (j + 1) t) u) (one_more s i l) h)))))

  pub merged_once : i < length s → j < length t → get_or s i 0 ≡ get_or t j 0 → Merged_from (i + 1) (j + 1) s t (made ++ get_or s i 0 ∷ [])
  unfolding Merged_from
  merged_once l m e u h = subst (λ z. Merged s t z) (sym (push_one made u (get_or s i 0)))
      (before (get_or s i 0 ∷ u) (subst (λ z. Merged z (drop j t) (get_or s i 0 ∷ u)) (sym (one_more s i l)) (subst (λ z. Merged (get_or s i 0 ∷ drop (i + 1) s) z (get_or s i 0 ∷ u)) (sym (one_more t j m ∙ ap (λ z. z ∷ drop (j + 1) t) (sym e))) (once h))))

  left_done : length s ≤ i → Merged s t ((made ++ drop i s) ++ drop j t)
  unfolding Merged_from
  left_done l = subst (λ z. Merged s t (z ++ drop j t)) (sym (ap (λ z. made ++ z) (drop_end i s l) ∙ append_none made)) (before (drop j t) (subst (λ z. Merged z (drop j t) (drop j t)) (sym (drop_end i s l)) left_ends))

  right_done : length t ≤ j → Merged s t ((made ++ drop i s) ++ drop j t)
  unfolding Merged_from
  right_done l = subst (λ z. Merged s t z) (sym (ap (λ z. (made ++ drop i s) ++ z) (drop_end j t l) ∙ append_none (made ++ drop i s))) (before (drop i s) (subst (λ z. Merged (drop i s) z (drop i s)) (sym (drop_end j t l)) right_ends))

  -- what is left of both stands behind what was made
  pub merged_left_end : (x y u : List ℕ) → length s ≤ i → x ≡ drop i s → y ≡ drop j t → u ≡ (made ++ x) ++ y → Merged s t u
  merged_left_end x y u l p q e = subst (λ z. Merged s t z) (sym (e ∙ ap (λ z. (made ++ z) ++ y) p ∙ ap (λ z. (made ++ drop i s) ++ z) q)) (left_done l)

  pub merged_right_end : (x y u : List ℕ) → length t ≤ j → x ≡ drop i s → y ≡ drop j t → u ≡ (made ++ x) ++ y → Merged s t u
  merged_right_end x y u l p q e = subst (λ z. Merged s t z) (sym (e ∙ ap (λ z. (made ++ z) ++ y) p ∙ ap (λ z. (made ++ drop i s) ++ z) q)) (right_done l)

pub ruleset merging = (merged_start, merged_left, merged_right, merged_once, merged_left_end, merged_right_end)

-- ---- all but one

unfoldable pub Left_from : ℕ → ℕ → List ℕ → List ℕ → Type 0
Left_from a i s made = without a s ≡ made ++ without a (drop i s)

pub left_start : (a : ℕ) (s : List ℕ) → Left_from a 0 s []
unfolding Left_from
left_start a s = refl

pub left_end : (a i : ℕ) (s made : List ℕ) → Left_from a i s made → length s ≤ i → made ≡ without a s
unfolding Left_from
left_end a i s made h l = sym (h ∙ ap (λ z. made ++ without a z) (drop_end i s l) ∙ append_none made)

pub left_same : (a i : ℕ) (s made : List ℕ) → Left_from a i s made → i < length s → get_or s i 0 ≡ a → Left_from a (i + 1) s made
unfolding Left_from
left_same a i s made h l e = h ∙ ap (λ z. made ++ without a z) (one_more s i l) ∙ ap (λ z. made ++ cond z (without a (drop (i + 1) s)) (get_or s i 0 ∷ without a (drop (i + 1) s))) (eq-eqb (get_or s i 0) a e)

pub left_other : (a i : ℕ) (s made : List ℕ) → Left_from a i s made → i < length s → get_or s i 0 ≢ a → Left_from a (i + 1) s (made ++ get_or s i 0 ∷ [])
unfolding Left_from
left_other a i s made h l e = h ∙ ap (λ z. made ++ without a z) (one_more s i l) ∙ ap (λ z. made ++ cond z (without a (drop (i + 1) s)) (get_or s i 0 ∷ without a (drop (i + 1) s))) (ne_eqb (get_or s i 0) a e)
    ∙ sym (push_one made (without a (drop (i + 1) s)) (get_or s i 0))

pub ruleset leaving = (left_start, left_end, left_same, left_other)
