-- Sets, from their first alias on.
use Rattle.std.proofs.Common.{◌≡◌, ℕ, zero, suc, ◌+◌, ◌<◌, ◌≤◌, [], ◌∷◌, ◌++◌, length, get_or, take, drop, Bool, true, false, ◌||◌, cond, Some, None, refl, sym, ap, ◌∙◌, add-one, arith, append_assoc}
use Rattle.fut_aliases.specs.declared.aliases.Alias.{Alias}
use Rattle.fut_aliases.specs.Aliases.{Set, is_alias, is_before, is_in, put_at, with_alias, union, those, least}
use Rattle.alias_values.proofs.Rows.{drop_past, one_more}

-- ---- members

module _ (a : Alias) (s : Set) (i : ℕ) where
  in_at : (d : Alias) → i < length s → is_in a (drop i s) ≡ (is_alias a (get_or s i d) || is_in a (drop (i + 1) s))
  unfolding is_in
  in_at d l = ap (is_in a) (one_more s i d l)

  pub in_more : (d : Alias) → i < length s → false ≡ is_alias a (get_or s i d) → is_in a s ≡ is_in a (drop i s) → is_in a s ≡ is_in a (drop (i + 1) s)
  in_more d l h e = e ∙ in_at d l ∙ ap (λ z. z || is_in a (drop (i + 1) s)) (sym h)

  pub in_here : (d : Alias) → i < length s → true ≡ is_alias a (get_or s i d) → is_in a s ≡ is_in a (drop i s) → true ≡ is_in a s
  in_here d l h e = sym (e ∙ in_at d l ∙ ap (λ z. z || is_in a (drop (i + 1) s)) (sym h))

  pub in_end : length s ≤ i → is_in a s ≡ is_in a (drop i s) → false ≡ is_in a s
  unfolding is_in
  in_end l e = sym (e ∙ ap (is_in a) (drop_past s i l))

pub ruleset members = (in_more, in_here, in_end)

-- ---- one more

pub placed : (xs ys : Set) (a : Alias) → (xs ++ a ∷ []) ++ ys ≡ xs ++ a ∷ ys
placed [] ys a = refl
placed (x ∷ xs) ys a = ap (λ z. x ∷ z) (placed xs ys a)

pub ruleset inserting = (placed, append_assoc)

take_more : (s : Set) (i : ℕ) (d : Alias) → i < length s → take (suc i) s ≡ take i s ++ get_or s i d ∷ []
take_more [] i d l = absurd (omega arith)
take_more (x ∷ s) zero d l = refl
take_more (x ∷ s) (suc i) d l = ap (λ z. x ∷ z) (take_more s i d (omega arith))

both_parts : (s : Set) (i : ℕ) → take i s ++ drop i s ≡ s
both_parts [] zero = refl
both_parts [] (suc i) = refl
both_parts (x ∷ s) zero = refl
both_parts (x ∷ s) (suc i) = ap (λ z. x ∷ z) (both_parts s i)

-- what is before the alias stands as it is
unfoldable pub Joined_at : Alias → Set → ℕ → Type 0
Joined_at a s i = with_alias a s ≡ take i s ++ with_alias a (drop i s)

module _ (a : Alias) (s : Set) where
  pub joined_start : Joined_at a s 0
  unfolding Joined_at
  joined_start = refl

  module _ (i : ℕ) (h : Joined_at a s i) where
    placed_at : (d : Alias) → i < length s → with_alias a s ≡ take i s ++ put_at a (get_or s i d) (drop (i + 1) s) (with_alias a (drop (i + 1) s))
    unfolding with_alias Joined_at
    placed_at d l = h ∙ ap (λ z. take i s ++ with_alias a z) (one_more s i d l)

    pub joined_before : (d : Alias) → i < length s → true ≡ is_before a (get_or s i d) → take i s ++ a ∷ drop i s ≡ with_alias a s
    joined_before d l b = ap (λ z. take i s ++ a ∷ z) (one_more s i d l) ∙ sym (placed_at d l ∙ ap (λ z. take i s ++ cond z (a ∷ get_or s i d ∷ drop (i + 1) s) (cond (is_alias a (get_or s i d)) (get_or s i d ∷ drop (i + 1) s) (get_or s i d ∷ with_alias a (drop (i + 1) s)))) (sym b))

    behind_at : (d : Alias) → i < length s → false ≡ is_before a (get_or s i d) → with_alias a s ≡ take i s ++ cond (is_alias a (get_or s i d)) (get_or s i d ∷ drop (i + 1) s) (get_or s i d ∷ with_alias a (drop (i + 1) s))
    behind_at d l b = placed_at d l ∙ ap (λ z. take i s ++ cond z (a ∷ get_or s i d ∷ drop (i + 1) s) (cond (is_alias a (get_or s i d)) (get_or s i d ∷ drop (i + 1) s) (get_or s i d ∷ with_alias a (drop (i + 1) s)))) (sym b)

    pub joined_same : (d : Alias) → i < length s → false ≡ is_before a (get_or s i d) → true ≡ is_alias a (get_or s i d) → s ≡ with_alias a s
    joined_same d l b e = sym (behind_at d l b ∙ ap (λ z. take i s ++ cond z (get_or s i d ∷ drop (i + 1) s) (get_or s i d ∷ with_alias a (drop (i + 1) s))) (sym e) ∙ ap (λ z. take i s ++ z) (sym (one_more s i d l)) ∙ both_parts s i)

    pub joined_more : (d : Alias) → i < length s → false ≡ is_before a (get_or s i d) → false ≡ is_alias a (get_or s i d) → Joined_at a s (i + 1)
    unfolding Joined_at
    joined_more d l b e = behind_at d l b ∙ ap (λ z. take i s ++ cond z (get_or s i d ∷ drop (i + 1) s) (get_or s i d ∷ with_alias a (drop (i + 1) s))) (sym e)
        ∙ sym (append_assoc (take i s) (get_or s i d ∷ []) (with_alias a (drop (i + 1) s))) ∙ ap (λ z. z ++ with_alias a (drop (i + 1) s)) (sym (ap (λ k. take k s) (add-one i) ∙ take_more s i d l))

    pub joined_end : length s ≤ i → i ≤ length s → take (length s) s ++ a ∷ drop (length s) s ≡ with_alias a s
    unfolding Joined_at with_alias
    joined_end l m = let e : i ≡ length s = omega (arith, l, m) in sym (h ∙ ap (λ z. take i s ++ with_alias a z) (drop_past s i l) ∙ ap (λ z. take i s ++ a ∷ z) (sym (drop_past s i l)) ∙ ap (λ z. take z s ++ a ∷ drop z s) e)

pub ruleset joining = (joined_start, joined_before, joined_same, joined_more, joined_end)

-- ---- both

pub union_start : (s t : Set) → t ≡ union (drop (length s) s) t
unfolding union
union_start s t = sym (ap (λ z. union z t) (drop_past s (length s) (omega arith)))

module _ (s t all : Set) (i : ℕ) (h : all ≡ union (drop i s) t) where
  pub union_more : (k : ℕ) (d : Alias) (longer : Set) → k + 1 ≡ i → i ≤ length s → longer ≡ with_alias (get_or s k d) all → longer ≡ union (drop k s) t
  unfolding union
  union_more k d longer e l m = m ∙ ap (with_alias (get_or s k d)) (h ∙ ap (λ z. union (drop z s) t) (sym e)) ∙ sym (ap (λ z. union z t) (one_more s k d (omega (arith, e, l))))

  pub union_end : i ≤ 0 → all ≡ union s t
  union_end z = let e : i ≡ 0 = omega (arith, z) in h ∙ ap (λ k. union (drop k s) t) e

pub ruleset uniting = (union_start, union_more, union_end)

-- ---- the least that passes

module _ (test : Alias → Bool) (s : Set) (i : ℕ) where
  those_at : (d : Alias) → i < length s → those test (drop i s) ≡ cond (test (get_or s i d)) (get_or s i d ∷ those test (drop (i + 1) s)) (those test (drop (i + 1) s))
  unfolding those
  those_at d l = ap (those test) (one_more s i d l)

  pub least_more : (d : Alias) → i < length s → false ≡ test (get_or s i d) → least (those test s) ≡ least (those test (drop i s)) → least (those test s) ≡ least (those test (drop (i + 1) s))
  least_more d l h e = e ∙ ap least (those_at d l ∙ ap (λ z. cond z (get_or s i d ∷ those test (drop (i + 1) s)) (those test (drop (i + 1) s))) (sym h))

  pub least_here : (d : Alias) → i < length s → true ≡ test (get_or s i d) → least (those test s) ≡ least (those test (drop i s)) → Some (get_or s i d) ≡ least (those test s)
  least_here d l h e = sym (e ∙ ap least (those_at d l ∙ ap (λ z. cond z (get_or s i d ∷ those test (drop (i + 1) s)) (those test (drop (i + 1) s))) (sym h)))

  pub least_end : length s ≤ i → least (those test s) ≡ least (those test (drop i s)) → None ≡ least (those test s)
  unfolding those
  least_end l e = sym (e ∙ ap (λ z. least (those test z)) (drop_past s i l))

pub ruleset least_ones = (least_more, least_here, least_end)
