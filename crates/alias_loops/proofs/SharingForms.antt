-- The loops over components, from the last one on.
use Rattle.std.proofs.Common.{◌≡◌, ℕ, zero, suc, ◌+◌, ◌≤◌, Bool, true, false, ◌||◌, cond, List, [], ◌∷◌, ◌++◌, length, get_or, take, drop, min, Option, None, refl, sym, ap, ◌∙◌, arith}
use Rattle.std.specs.Borrow.{Bor}
use Rattle.fut_aliases.specs.declared.aliases.Alias.{Alias}
use Rattle.fut_aliases.specs.Aliases.{Set, is_in, is_outside, least, shared, those, union}
use Rattle.fut_aliases.specs.Loops as definition
use Rattle.fut_aliases.specs.Loops.{all_sets, firsts, kept_names, shared_firsts, shared_results}
use Rattle.alias_joins.specs.SetRows.{sets_of}
use Rattle.alias_values.proofs.Rows.{drop_past, one_more}
use Rattle.alias_loops.specs.declared.carried.Carried.{Carried}
use Rattle.alias_loops.specs.Carried.{carried_of, carrieds_of}
use Rattle.alias_loops.specs.Lowest.{lowest}
use Rattle.alias_loops.proofs.Least.{least_union, lowest_union}
use Rattle.alias_loops.proofs.Dropping.{taken_more}

pub lowest_none : (c : Bool) (s : Set) (o : Option Alias) → c ≡ false → o ≡ lowest (cond c s []) o
lowest_none c s o e = ap (λ z. lowest (cond z s []) o) (sym e)

pub lowest_some : (c : Bool) (s : Set) (o p : Option Alias) → c ≡ true → p ≡ lowest s o → p ≡ lowest (cond c s []) o
lowest_some c s o p e h = h ∙ ap (λ z. lowest (cond z s []) o) (sym e)

pub lowest_two : (c : Bool) (s t : Set) (o p q : Option Alias) → c ≡ true → p ≡ lowest t o → q ≡ lowest s p → q ≡ lowest (cond c (union s t) []) o
lowest_two c s t o p q e h k = lowest_some c (union s t) o q e (k ∙ ap (lowest s) h ∙ sym (lowest_union s t o))

-- ---- first values

module _ (over : Set) (cs : List Carried) where
  abbrev pub First_from : ℕ → Option Alias → Type 0
  First_from i now = now ≡ least (shared_firsts over (carrieds_of (take i cs)) (carrieds_of (drop i cs)))

  pub firsts_start : First_from (length cs) None
  firsts_start = sym (ap (λ z. least (shared_firsts over (carrieds_of (take (length cs) cs)) (carrieds_of z))) (drop_past cs (length cs) (omega arith)))

  abbrev first_part : List definition.Carried → definition.Carried → List definition.Carried → Set
  first_part before c behind = cond c.is_eaten (shared c.first (union over (firsts (before ++ behind)))) []

  pub firsts_more : (i k : ℕ) (d : Carried) (before behind : List Carried) (now later : Option Alias) → k + 1 ≡ i → i ≤ length cs → before ≡ take k cs → behind ≡ drop (k + 1) cs → First_from i now
      → later ≡ lowest (cond (get_or cs k d).is_eaten (shared (get_or cs k d).first.now (union over (firsts (carrieds_of before ++ carrieds_of behind)))) []) now → First_from k later
  firsts_more i k d before behind now later e l p q h m =
      m ∙ ap (λ z. lowest (first_part (carrieds_of z) (carried_of (get_or cs k d)) (carrieds_of behind)) now) p
      ∙ ap (λ z. lowest (first_part (carrieds_of (take k cs)) (carried_of (get_or cs k d)) (carrieds_of z)) now) q
      ∙ ap (lowest (first_part (carrieds_of (take k cs)) (carried_of (get_or cs k d)) (carrieds_of (drop (k + 1) cs)))) (h ∙ ap (λ z. least (shared_firsts over (carrieds_of (take z cs)) (carrieds_of (drop z cs)))) (sym e)
      ∙ ap (λ z. least (shared_firsts over z (carrieds_of (drop (k + 1) cs)))) (sym (taken_more carried_of cs k d (omega (arith, e, l)))))
      ∙ sym (ap (λ z. least (shared_firsts over (carrieds_of (take k cs)) (carrieds_of z))) (one_more cs k d (omega (arith, e, l)))
      ∙ least_union (first_part (carrieds_of (take k cs)) (carried_of (get_or cs k d)) (carrieds_of (drop (k + 1) cs))) (shared_firsts over (carrieds_of (take k cs) ++ carried_of (get_or cs k d) ∷ []) (carrieds_of (drop (k + 1) cs))))

  pub firsts_end : (i : ℕ) (now : Option Alias) → i ≤ 0 → First_from i now → now ≡ least (shared_firsts over [] (carrieds_of cs))
  firsts_end i now z h = let e : i ≡ 0 = omega (arith, z) in h ∙ ap (λ k. least (shared_firsts over (carrieds_of (take k cs)) (carrieds_of (drop k cs)))) e

-- ---- what the body gives

module _ (from : ℕ) (all cs : List Carried) (gs : List (Bor Set)) where
  abbrev kept_set : Set
  kept_set = kept_names (carrieds_of all)

  abbrev pub Result_from : ℕ → Option Alias → Type 0
  Result_from i now = now ≡ least (shared_results from (kept_names (carrieds_of all)) (sets_of (take i gs)) (carrieds_of (drop i cs)) (sets_of (drop i gs)))

  pub results_start : (n : ℕ) → n ≡ min (length cs) (length gs) → Result_from n None
  results_start n e = none_at cs gs (sets_of (take n gs)) n e
    where
      none_at : (xs : List Carried) (ys : List (Bor Set)) (before : List Set) (n : ℕ) → n ≡ min (length xs) (length ys) → None ≡ least (shared_results from kept_set before (carrieds_of (drop n xs)) (sets_of (drop n ys)))
      none_at [] [] before zero e = refl
      none_at [] (y ∷ ys) before zero e = refl
      none_at [] ys before (suc n) e = absurd (omega (arith, e))
      none_at (x ∷ xs) [] before zero e = refl
      none_at (x ∷ xs) [] before (suc n) e = absurd (omega (arith, e))
      none_at (x ∷ xs) (y ∷ ys) before zero e = absurd (omega (arith, e))
      none_at (x ∷ xs) (y ∷ ys) before (suc n) e = none_at xs ys before n (omega (arith, e))

  abbrev result_part : Bool → Set → List Set → List Set → Set
  result_part t g before behind = cond t (union (those (λ a. is_outside from a || is_in a kept_set) g) (shared g (all_sets (before ++ behind)))) []

  pub results_more : (i k : ℕ) (d : Carried) (g : Bor Set) (before behind : List (Bor Set)) (now later : Option Alias) → k + 1 ≡ i → i ≤ length cs → i ≤ length gs → before ≡ take k gs → behind ≡ drop (k + 1) gs → Result_from i now
      → later ≡ lowest (cond (get_or cs k d).is_eaten (union (those (λ a. is_outside from a || is_in a (kept_names (carrieds_of all))) (get_or gs k g).now) (shared (get_or gs k g).now (all_sets (sets_of before ++ sets_of behind)))) []) now → Result_from k later
  results_more i k d g before behind now later e l l' p q h m =
      m ∙ ap (λ z. lowest (result_part (get_or cs k d).is_eaten (get_or gs k g).now (sets_of z) (sets_of behind)) now) p
      ∙ ap (λ z. lowest (result_part (get_or cs k d).is_eaten (get_or gs k g).now (sets_of (take k gs)) (sets_of z)) now) q
      ∙ ap (lowest (result_part (get_or cs k d).is_eaten (get_or gs k g).now (sets_of (take k gs)) (sets_of (drop (k + 1) gs)))) (h ∙ ap (λ z. least (shared_results from kept_set (sets_of (take z gs)) (carrieds_of (drop z cs)) (sets_of (drop z gs)))) (sym e)
      ∙ ap (λ z. least (shared_results from kept_set z (carrieds_of (drop (k + 1) cs)) (sets_of (drop (k + 1) gs)))) (sym (taken_more (λ (s : Bor Set). s.now) gs k g (omega (arith, e, l')))))
      ∙ sym (ap (λ z. least (shared_results from kept_set (sets_of (take k gs)) (carrieds_of z) (sets_of (drop k gs)))) (one_more cs k d (omega (arith, e, l)))
      ∙ ap (λ z. least (shared_results from kept_set (sets_of (take k gs)) (carried_of (get_or cs k d) ∷ carrieds_of (drop (k + 1) cs)) (sets_of z))) (one_more gs k g (omega (arith, e, l')))
      ∙ least_union (result_part (get_or cs k d).is_eaten (get_or gs k g).now (sets_of (take k gs)) (sets_of (drop (k + 1) gs))) (shared_results from kept_set (sets_of (take k gs) ++ (get_or gs k g).now ∷ []) (carrieds_of (drop (k + 1) cs)) (sets_of (drop (k + 1) gs))))

  pub results_end : (i : ℕ) (now : Option Alias) → i ≤ 0 → Result_from i now → now ≡ least (shared_results from (kept_names (carrieds_of all)) [] (carrieds_of cs) (sets_of gs))
  results_end i now z h = let e : i ≡ 0 = omega (arith, z) in h ∙ ap (λ k. least (shared_results from kept_set (sets_of (take k gs)) (carrieds_of (drop k cs)) (sets_of (drop k gs)))) e
