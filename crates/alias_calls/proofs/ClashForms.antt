-- Components that clash, one after another.
use Rattle.std.proofs.Common.{◌≡◌, ℕ, zero, suc, ◌+◌, ◌<◌, ◌≤◌, List, [], ◌∷◌, ◌++◌, length, get_or, take, drop, true, false, cond, Option, Some, None, refl, sym, ap, ◌∙◌, add-one, arith}
use Rattle.fut_aliases.specs.declared.refusals.Broken.{Broken}
use Rattle.fut_aliases.specs.Steps.{or_else}
use Rattle.fut_aliases.specs.Calls as definition
use Rattle.fut_aliases.specs.Calls.{clash, clashes, clashes_of, first_broken}
use Rattle.alias_values.proofs.Rows.{drop_past, one_more}
use Rattle.alias_calls.specs.declared.sides.Side.{Side}
use Rattle.alias_calls.specs.Sides.{side_of, sides_of}

-- ---- the first

module _ (one : definition.Side) (s : List Side) (i : ℕ) (h : first_broken (clash one) (sides_of s) ≡ first_broken (clash one) (sides_of (drop i s))) where
  first_at : (d : Side) → i < length s → first_broken (clash one) (sides_of s) ≡ or_else (clash one (side_of (get_or s i d))) (first_broken (clash one) (sides_of (drop (i + 1) s)))
  first_at d l = h ∙ ap (λ z. first_broken (clash one) (sides_of z)) (one_more s i d l)

  pub first_more : (d : Side) → i < length s → None ≡ clash one (side_of (get_or s i d)) → first_broken (clash one) (sides_of s) ≡ first_broken (clash one) (sides_of (drop (i + 1) s))
  first_more d l e = first_at d l ∙ ap (λ z. or_else z (first_broken (clash one) (sides_of (drop (i + 1) s)))) (sym e)

  pub first_here : (d : Side) (b : Broken) → i < length s → Some b ≡ clash one (side_of (get_or s i d)) → Some b ≡ first_broken (clash one) (sides_of s)
  first_here d b l e = sym (first_at d l ∙ ap (λ z. or_else z (first_broken (clash one) (sides_of (drop (i + 1) s)))) (sym e))

  pub first_end : length s ≤ i → None ≡ first_broken (clash one) (sides_of s)
  first_end l = sym (h ∙ ap (λ z. first_broken (clash one) (sides_of z)) (drop_past s i l))

pub ruleset first_clashes = (first_more, first_here, first_end)

-- ---- of one component

or_further : (a b c : Option Broken) → or_else (or_else a b) c ≡ or_else a (or_else b c)
or_further None b c = refl
or_further (Some a) b c = refl

first_both : (one : definition.Side) (xs ys : List definition.Side) → first_broken (clash one) (xs ++ ys) ≡ or_else (first_broken (clash one) xs) (first_broken (clash one) ys)
first_both one [] ys = refl
first_both one (x ∷ xs) ys = ap (or_else (clash one x)) (first_both one xs ys) ∙ sym (or_further (clash one x) (first_broken (clash one) xs) (first_broken (clash one) ys))

module _ (one : definition.Side) where
  pub plain_side : (others : List definition.Side) → one.component.starred ≡ false → None ≡ clashes_of one others
  plain_side others e = sym (ap (λ z. cond z (first_broken (clash one) others) None) e)

  starred_side : (others : List definition.Side) → one.component.starred ≡ true → clashes_of one others ≡ first_broken (clash one) others
  starred_side others e = ap (λ z. cond z (first_broken (clash one) others) None) e

  pub clash_before : (xs ys : List definition.Side) (b : Broken) → one.component.starred ≡ true → Some b ≡ first_broken (clash one) xs → Some b ≡ clashes_of one (xs ++ ys)
  clash_before xs ys b e h = sym (starred_side (xs ++ ys) e ∙ first_both one xs ys ∙ ap (λ z. or_else z (first_broken (clash one) ys)) (sym h))

  pub clash_behind : (xs ys : List definition.Side) (b : Option Broken) → one.component.starred ≡ true → None ≡ first_broken (clash one) xs → b ≡ first_broken (clash one) ys → b ≡ clashes_of one (xs ++ ys)
  clash_behind xs ys b e h k = k ∙ sym (starred_side (xs ++ ys) e ∙ first_both one xs ys ∙ ap (λ z. or_else z (first_broken (clash one) ys)) (sym h))

pub ruleset clashing = (plain_side, clash_before, clash_behind)

-- ---- of all

sides_both : (xs ys : List Side) → sides_of (xs ++ ys) ≡ sides_of xs ++ sides_of ys
sides_both [] ys = refl
sides_both (x ∷ xs) ys = ap (λ z. side_of x ∷ z) (sides_both xs ys)

take_more : (s : List Side) (i : ℕ) (d : Side) → i < length s → take (suc i) s ≡ take i s ++ get_or s i d ∷ []
take_more [] i d l = absurd (omega (arith, l))
take_more (x ∷ s) zero d l = refl
take_more (x ∷ s) (suc i) d l = ap (λ z. x ∷ z) (take_more s i d (omega (arith, l)))

-- those before a place clash with nothing
unfoldable pub Clashed_at : List Side → ℕ → Type 0
Clashed_at s i = clashes [] (sides_of s) ≡ clashes (sides_of (take i s)) (sides_of (drop i s))

module _ (s : List Side) where
  pub clashed_start : Clashed_at s 0
  unfolding Clashed_at
  clashed_start = refl

  module _ (i : ℕ) (h : Clashed_at s i) (d : Side) (before behind : List Side) (p : before ≡ take i s) (q : behind ≡ drop (i + 1) s) where
    all_at : i < length s → clashes [] (sides_of s) ≡ or_else (clashes_of (side_of (get_or s i d)) (sides_of before ++ sides_of behind)) (clashes (sides_of (take (i + 1) s)) (sides_of (drop (i + 1) s)))
    unfolding Clashed_at
    all_at l =
        h ∙ ap (λ z. clashes (sides_of (take i s)) (sides_of z)) (one_more s i d l)
        ∙ ap (λ z. or_else (clashes_of (side_of (get_or s i d)) (sides_of (take i s) ++ sides_of (drop (i + 1) s))) (clashes z (sides_of (drop (i + 1) s)))) (sym (ap (λ k. sides_of (take k s)) (add-one i) ∙ ap sides_of (take_more s i d l) ∙ sides_both (take i s) (get_or s i d ∷ [])))
        ∙ ap (λ z. or_else (clashes_of (side_of (get_or s i d)) (sides_of z ++ sides_of (drop (i + 1) s))) (clashes (sides_of (take (i + 1) s)) (sides_of (drop (i + 1) s)))) (sym p)
        ∙ ap (λ z. or_else (clashes_of (side_of (get_or s i d)) (sides_of before ++ sides_of z)) (clashes (sides_of (take (i + 1) s)) (sides_of (drop (i + 1) s)))) (sym q)

    pub all_more : i < length s → None ≡ clashes_of (side_of (get_or s i d)) (sides_of before ++ sides_of behind) → Clashed_at s (i + 1)
    unfolding Clashed_at
    all_more l e = all_at l ∙ ap (λ z. or_else z (clashes (sides_of (take (i + 1) s)) (sides_of (drop (i + 1) s)))) (sym e)

    pub all_here : (b : Broken) → i < length s → Some b ≡ clashes_of (side_of (get_or s i d)) (sides_of before ++ sides_of behind) → Some b ≡ clashes [] (sides_of s)
    all_here b l e = sym (all_at l ∙ ap (λ z. or_else z (clashes (sides_of (take (i + 1) s)) (sides_of (drop (i + 1) s)))) (sym e))

  pub all_end : (i : ℕ) → Clashed_at s i → length s ≤ i → None ≡ clashes [] (sides_of s)
  unfolding Clashed_at
  all_end i h l = sym (h ∙ ap (λ z. clashes (sides_of (take i s)) (sides_of z)) (drop_past s i l))

pub ruleset all_clashes = (clashed_start, all_more, all_here, all_end)
