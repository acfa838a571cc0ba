-- The results of a loop, component by component.
use Rattle.std.proofs.Common.{◌≡◌, ℕ, ◌+◌, ◌<◌, ◌≤◌, true, false, cond, List, [], ◌∷◌, ◌++◌, length, get_or, drop, min, refl, sym, ap, ◌∙◌, arith}
use Rattle.std.specs.Borrow.{Bor}
use Rattle.fut_aliases.specs.Aliases.{Set, union}
use Rattle.fut_aliases.specs.Loops.{results}
use Rattle.alias_joins.specs.SetRows.{sets_of}
use Rattle.alias_values.proofs.Rows.{one_more}
use Rattle.alias_loops.specs.declared.carried.Carried.{Carried}
use Rattle.alias_loops.specs.Carried.{carried_of, carrieds_of}
use Rattle.alias_loops.specs.Turning.{result_of}
use Rattle.alias_loops.proofs.Dropping.{made_all, one_made, some_left}

pub result_eaten : (c : Carried) (x g s : Set) → c.is_eaten ≡ true → s ≡ [] → s ≡ result_of (carried_of c) x g
result_eaten c x g s e h = h ∙ ap (λ z. cond z [] (union x g)) (sym e)

pub result_fresh : (c : Carried) (x g s : Set) → c.is_eaten ≡ false → s ≡ union x g → s ≡ result_of (carried_of c) x g
result_fresh c x g s e h = h ∙ ap (λ z. cond z [] (union x g)) (sym e)

pub ruleset result_forms = (result_eaten, result_fresh)

module _ (cs : List Carried) (xs gs : List (Bor Set)) where
  abbrev left_from : ℕ → List Set
  left_from i = results (carrieds_of (drop i cs)) (sets_of (drop i xs)) (sets_of (drop i gs))

  abbrev pub Resulting : ℕ → List (Bor Set) → Type 0
  Resulting i made = results (carrieds_of cs) (sets_of xs) (sets_of gs) ≡ sets_of made ++ results (carrieds_of (drop i cs)) (sets_of (drop i xs)) (sets_of (drop i gs))

  pub results_more : (i : ℕ) (c : Carried) (x g : Bor Set) (made longer : List (Bor Set)) (s : Bor Set) → i < length cs → i < length xs → i < length gs → Resulting i made
      → s.now ≡ result_of (carried_of (get_or cs i c)) (get_or xs i x).now (get_or gs i g).now → longer ≡ made ++ s ∷ [] → Resulting (i + 1) longer
  results_more i c x g made longer s l1 l2 l3 h e m =
      h ∙ ap (λ z. sets_of made ++ z)
      (ap (λ z. results (carrieds_of z) (sets_of (drop i xs)) (sets_of (drop i gs))) (one_more cs i c l1)
      ∙ ap (λ z. results (carrieds_of (get_or cs i c ∷ drop (i + 1) cs)) (sets_of z) (sets_of (drop i gs))) (one_more xs i x l2)
      ∙ ap (λ z. results (carrieds_of (get_or cs i c ∷ drop (i + 1) cs)) (sets_of (get_or xs i x ∷ drop (i + 1) xs)) (sets_of z)) (one_more gs i g l3))
      ∙ one_made (λ (z : Bor Set). z.now) made longer s _ (left_from (i + 1)) m e

  nothing_left : (n : ℕ) → n ≡ min (min (length cs) (length xs)) (length gs) → left_from n ≡ []
  nothing_left n e = by_lists (drop n cs) (drop n xs) (drop n gs) refl refl refl
    where
      by_lists : (a : List Carried) (b c : List (Bor Set)) → a ≡ drop n cs → b ≡ drop n xs → c ≡ drop n gs → results (carrieds_of a) (sets_of b) (sets_of c) ≡ []
      by_lists [] b c p q r = refl
      by_lists (x ∷ a) [] c p q r = refl
      by_lists (x ∷ a) (y ∷ b) [] p q r = refl
      by_lists (x ∷ a) (y ∷ b) (z ∷ c) p q r = absurd (omega (arith, e, some_left cs a n x p, some_left xs b n y q, some_left gs c n z r))

  pub results_end : (n i : ℕ) (made : List (Bor Set)) → n ≡ min (min (length cs) (length xs)) (length gs) → i ≤ n → n ≤ i → Resulting i made → sets_of made ≡ results (carrieds_of cs) (sets_of xs) (sets_of gs)
  results_end n i made e l m h = let o : i ≡ n = omega (arith, l, m) in sym (h ∙ made_all (λ (z : Bor Set). z.now) made (left_from i) (ap left_from o ∙ nothing_left n e))
