-- Rounds, and what a round takes from each component.
use Rattle.std.proofs.Common.{◌≡◌, ℕ, zero, suc, ◌+◌, ◌-◌, ◌<◌, ◌≤◌, Bool, true, false, ◌||◌, cond, List, [], ◌∷◌, ◌++◌, map, length, get_or, take, drop, min, refl, sym, ap, ◌∙◌, arith}
use Rattle.std.specs.Borrow.{Bor}
use Rattle.fut_aliases.specs.declared.aliases.Alias.{Alias}
use Rattle.fut_aliases.specs.Aliases.{Set, is_in, is_outside, those, union, with_alias}
use Rattle.fut_aliases.specs.Loops as definition
use Rattle.fut_aliases.specs.Loops.{how_many_carried, no_sets, of_given, one_round, over_all_turns, round_of, rounds}
use Rattle.alias_joins.specs.SetRows.{sets_of}
use Rattle.alias_values.proofs.Rows.{drop_past, one_more}
use Rattle.alias_loops.specs.declared.carried.Carried.{Carried}
use Rattle.alias_loops.specs.Carried.{carried_of, carrieds_of}
use Rattle.alias_loops.specs.Turning.{some_in}
use Rattle.alias_loops.proofs.Dropping.{made_all, one_made, taken_more}

-- ---- whether a set has one of these

module _ (s own : Set) (i : ℕ) where
  some_at : (d : Alias) → i < length own → some_in s (drop i own) ≡ (is_in (get_or own i d) s || some_in s (drop (i + 1) own))
  some_at d l = ap (some_in s) (one_more own i d l)

  pub some_more : (d : Alias) → i < length own → false ≡ is_in (get_or own i d) s → some_in s own ≡ some_in s (drop i own) → some_in s own ≡ some_in s (drop (i + 1) own)
  some_more d l h e = e ∙ some_at d l ∙ ap (λ z. z || some_in s (drop (i + 1) own)) (sym h)

  pub some_here : (d : Alias) → i < length own → true ≡ is_in (get_or own i d) s → some_in s own ≡ some_in s (drop i own) → true ≡ some_in s own
  some_here d l h e = sym (e ∙ some_at d l ∙ ap (λ z. z || some_in s (drop (i + 1) own)) (sym h))

  pub some_end : length own ≤ i → some_in s own ≡ some_in s (drop i own) → false ≡ some_in s own
  some_end l e = sym (e ∙ ap (some_in s) (drop_past own i l))

pub ruleset some_forms = (some_more, some_here, some_end)

-- ---- the sets of the parameters that the body gives

module _ (s : Set) (c : definition.Carried) (cs : List definition.Carried) (x : Set) (xs : List Set) where
  abbrev owning : Set → definition.Carried
  owning o = record { node = c.node; own = o; first = c.first; gives = c.gives; is_eaten = c.is_eaten }

  given_by : (o : Set) → of_given s (owning o ∷ cs) (x ∷ xs) ≡ cond (some_in s o) (union x (of_given s cs xs)) (of_given s cs xs)
  given_by [] = refl
  given_by (a ∷ o) = by_test (is_in a s) refl (given_by o)
    where
      by_test : (t : Bool) → is_in a s ≡ t → of_given s (owning o ∷ cs) (x ∷ xs) ≡ cond (some_in s o) (union x (of_given s cs xs)) (of_given s cs xs) → of_given s (owning (a ∷ o) ∷ cs) (x ∷ xs) ≡ cond (is_in a s || some_in s o) (union x (of_given s cs xs)) (of_given s cs xs)
      by_test true e h = rw e refl
      by_test false e h = rw e h

  given_at : of_given s (c ∷ cs) (x ∷ xs) ≡ cond (some_in s c.own) (union x (of_given s cs xs)) (of_given s cs xs)
  given_at = given_by c.own

module _ (s : Set) (cs : List Carried) (xs : List (Bor Set)) where
  abbrev pub Given_from : ℕ → Set → Type 0
  Given_from i now = now ≡ of_given s (carrieds_of (drop i cs)) (sets_of (drop i xs))

  pub given_start : (n : ℕ) (now : Set) → n ≡ min (length cs) (length xs) → now ≡ [] → Given_from n now
  given_start n now e h = h ∙ none_at cs xs n e
    where
      none_at : (cs : List Carried) (xs : List (Bor Set)) (n : ℕ) → n ≡ min (length cs) (length xs) → [] ≡ of_given s (carrieds_of (drop n cs)) (sets_of (drop n xs))
      none_at [] [] zero e = refl
      none_at [] (y ∷ ys) zero e = refl
      none_at [] ys (suc n) e = absurd (omega (arith, e))
      none_at (x ∷ xs) [] zero e = refl
      none_at (x ∷ xs) [] (suc n) e = absurd (omega (arith, e))
      none_at (x ∷ xs) (y ∷ ys) zero e = absurd (omega (arith, e))
      none_at (x ∷ xs) (y ∷ ys) (suc n) e = none_at xs ys n (omega (arith, e))

  pub given_more : (i k : ℕ) (d : Carried) (x : Bor Set) (counts : Bool) (now later : Set) → k + 1 ≡ i → i ≤ length cs → i ≤ length xs → Given_from i now → counts ≡ some_in s (get_or cs k d).own.now → later ≡ cond counts (union (get_or xs k x).now now) now → Given_from k later
  given_more i k d x counts now later e l l' h t m =
      m ∙ ap (λ z. cond z (union (get_or xs k x).now now) now) t
      ∙ ap (λ z. cond (some_in s (get_or cs k d).own.now) (union (get_or xs k x).now z) z) (h ∙ ap (λ z. of_given s (carrieds_of (drop z cs)) (sets_of (drop z xs))) (sym e))
      ∙ sym (ap (λ z. of_given s (carrieds_of z) (sets_of (drop k xs))) (one_more cs k d (omega (arith, e, l)))
      ∙ ap (λ z. of_given s (carried_of (get_or cs k d) ∷ carrieds_of (drop (k + 1) cs)) (sets_of z)) (one_more xs k x (omega (arith, e, l')))
      ∙ given_at s (carried_of (get_or cs k d)) (carrieds_of (drop (k + 1) cs)) (get_or xs k x).now (sets_of (drop (k + 1) xs)))

  pub given_end : (i : ℕ) (now : Set) → i ≤ 0 → Given_from i now → now ≡ of_given s (carrieds_of cs) (sets_of xs)
  given_end i now z h = let e : i ≡ 0 = omega (arith, z) in h ∙ ap (λ k. of_given s (carrieds_of (drop k cs)) (sets_of (drop k xs))) e

-- ---- those that were made before a node

module _ (from : ℕ) (s t : Set) where
  pub outside_start : t ≡ union (those (is_outside from) (drop (length s) s)) t
  unfolding those union
  outside_start = sym (ap (λ z. union (those (is_outside from) z) t) (drop_past s (length s) (omega arith)))

  outside_at : (k : ℕ) (d : Alias) → k < length s → union (those (is_outside from) (drop k s)) t ≡ cond (is_outside from (get_or s k d)) (with_alias (get_or s k d) (union (those (is_outside from) (drop (k + 1) s)) t)) (union (those (is_outside from) (drop (k + 1) s)) t)
  unfolding those union
  outside_at k d l = ap (λ z. union (those (is_outside from) z) t) (one_more s k d l) ∙ by_test (is_outside from (get_or s k d)) (get_or s k d) (those (is_outside from) (drop (k + 1) s))
    where
      by_test : (b : Bool) (a : Alias) (r : Set) → union (cond b (a ∷ r) r) t ≡ cond b (with_alias a (union r t)) (union r t)
      by_test true a r = refl
      by_test false a r = refl

  pub outside_more : (i k : ℕ) (d : Alias) (counts : Bool) (now later : Set) → k + 1 ≡ i → i ≤ length s → now ≡ union (those (is_outside from) (drop i s)) t → counts ≡ is_outside from (get_or s k d) → later ≡ cond counts (with_alias (get_or s k d) now) now → later ≡ union (those (is_outside from) (drop k s)) t
  outside_more i k d counts now later e l h c m =
      m ∙ ap (λ z. cond z (with_alias (get_or s k d) now) now) c ∙ ap (λ z. cond (is_outside from (get_or s k d)) (with_alias (get_or s k d) z) z) (h ∙ ap (λ z. union (those (is_outside from) (drop z s)) t) (sym e)) ∙ sym (outside_at k d (omega (arith, e, l)))

  pub outside_end : (i : ℕ) (now : Set) → i ≤ 0 → now ≡ union (those (is_outside from) (drop i s)) t → now ≡ union (those (is_outside from) s) t
  outside_end i now z h = let e : i ≡ 0 = omega (arith, z) in h ∙ ap (λ k. union (those (is_outside from) (drop k s)) t) e

-- ---- one round

module _ (from : ℕ) (all : List definition.Carried) (xs : List Set) where
  pub round_eaten : (c : Carried) (s : Set) → c.is_eaten ≡ true → s ≡ [] → s ≡ round_of from all xs (carried_of c)
  round_eaten c s e h = h ∙ ap (λ z. cond z [] (union c.first.now (union (those (is_outside from) c.gives.now) (of_given c.gives.now all xs)))) (sym e)

  pub round_fresh : (c : Carried) (given behind s : Set) → c.is_eaten ≡ false → given ≡ of_given c.gives.now all xs → behind ≡ union (those (is_outside from) c.gives.now) given → s ≡ union c.first.now behind → s ≡ round_of from all xs (carried_of c)
  round_fresh c given behind s e g b h = h ∙ ap (union c.first.now) (b ∙ ap (union (those (is_outside from) c.gives.now)) g) ∙ ap (λ z. cond z [] (union c.first.now (union (those (is_outside from) c.gives.now) (of_given c.gives.now all xs)))) (sym e)

  module _ (cs : List Carried) where
    abbrev pub Rounding : ℕ → List (Bor Set) → Type 0
    Rounding i made = one_round from all xs (carrieds_of cs) ≡ sets_of made ++ one_round from all xs (carrieds_of (drop i cs))

    pub round_more : (i : ℕ) (d : Carried) (made longer : List (Bor Set)) (s : Bor Set) → i < length cs → Rounding i made → s.now ≡ round_of from all xs (carried_of (get_or cs i d)) → longer ≡ made ++ s ∷ [] → Rounding (i + 1) longer
    round_more i d made longer s l h e m = h ∙ ap (λ z. sets_of made ++ one_round from all xs (carrieds_of z)) (one_more cs i d l) ∙ one_made (λ (x : Bor Set). x.now) made longer s _ (one_round from all xs (carrieds_of (drop (i + 1) cs))) m e

    pub round_end : (i : ℕ) (made : List (Bor Set)) → length cs ≤ i → Rounding i made → sets_of made ≡ one_round from all xs (carrieds_of cs)
    round_end i made l h = sym (h ∙ made_all (λ (x : Bor Set). x.now) made _ (ap (λ z. one_round from all xs (carrieds_of z)) (drop_past cs i l)))

module _ (cs : List Carried) where
  abbrev pub Emptying : ℕ → List (Bor Set) → Type 0
  Emptying i made = no_sets (carrieds_of cs) ≡ sets_of made ++ no_sets (carrieds_of (drop i cs))

  empty_at : (i : ℕ) → i < length cs → no_sets (carrieds_of (drop i cs)) ≡ [] ∷ no_sets (carrieds_of (drop (i + 1) cs))
  empty_at i l = by_list cs i l
    where
      by_list : (cs : List Carried) (i : ℕ) → i < length cs → no_sets (carrieds_of (drop i cs)) ≡ [] ∷ no_sets (carrieds_of (drop (i + 1) cs))
      by_list [] i l = absurd (omega (arith, l))
      by_list (c ∷ cs) i l = ap (λ z. no_sets (carrieds_of z)) (one_more (c ∷ cs) i c l)

  pub empty_more : (i : ℕ) (made longer : List (Bor Set)) (s : Bor Set) → i < length cs → Emptying i made → s.now ≡ [] → longer ≡ made ++ s ∷ [] → Emptying (i + 1) longer
  empty_more i made longer s l h e m = h ∙ ap (λ z. sets_of made ++ z) (empty_at i l) ∙ one_made (λ (x : Bor Set). x.now) made longer s _ (no_sets (carrieds_of (drop (i + 1) cs))) m e

  pub empty_end : (i : ℕ) (made : List (Bor Set)) → length cs ≤ i → Emptying i made → sets_of made ≡ no_sets (carrieds_of cs)
  empty_end i made l h = sym (h ∙ made_all (λ (x : Bor Set). x.now) made _ (ap (λ z. no_sets (carrieds_of z)) (drop_past cs i l)))

-- ---- a round that changes nothing

module _ {A B : Type 0} (f : A → B) (xs ys : List A) (i : ℕ) (h : map f (take i xs) ≡ map f (take i ys)) where
  pub same_more : (x y : A) → i < length xs → i < length ys → f (get_or xs i x) ≡ f (get_or ys i y) → map f (take (i + 1) xs) ≡ map f (take (i + 1) ys)
  same_more x y l m e = sym (taken_more f xs i x l) ∙ ap (λ z. z ++ f (get_or xs i x) ∷ []) h ∙ ap (λ z. map f (take i ys) ++ z ∷ []) e ∙ taken_more f ys i y m

  pub same_end : length xs ≤ i → length ys ≤ i → map f xs ≡ map f ys
  same_end l m = sym (ap (map f) (take_all xs i l)) ∙ h ∙ ap (map f) (take_all ys i m)
    where
      take_all : (zs : List A) (n : ℕ) → length zs ≤ n → take n zs ≡ zs
      take_all [] zero l = refl
      take_all [] (suc n) l = refl
      take_all (z ∷ zs) zero l = absurd (omega (arith, l))
      take_all (z ∷ zs) (suc n) l = ap (λ w. z ∷ w) (take_all zs n (omega (arith, l)))

pub same_sets : (s t : Set) (i : ℕ) → map (λ (a : Alias). a) (take i s) ≡ map (λ (a : Alias). a) (take i t) → length s ≤ i → length t ≤ i → s ≡ t
same_sets s t i h l m = sym (each_is s) ∙ same_end (λ (a : Alias). a) s t i h l m ∙ each_is t
  where
    each_is : (r : Set) → map (λ (a : Alias). a) r ≡ r
    each_is [] = refl
    each_is (a ∷ r) = ap (λ z. a ∷ z) (each_is r)

-- ---- all rounds

how_many : (cs : List Carried) → how_many_carried (carrieds_of cs) ≡ length cs
how_many [] = refl
how_many (c ∷ cs) = ap suc (how_many cs)

module _ (from : ℕ) (cs : List Carried) where
  abbrev all : List definition.Carried
  all = carrieds_of cs

  abbrev pub Turning : ℕ → List (Bor Set) → Type 0
  Turning i sets = over_all_turns from (carrieds_of cs) ≡ rounds (length cs - i) from (carrieds_of cs) (sets_of sets)

  pub turns_start : (none sets : List (Bor Set)) → sets_of none ≡ no_sets (carrieds_of cs) → sets_of sets ≡ one_round from (carrieds_of cs) (sets_of none) (carrieds_of cs) → Turning 0 sets
  turns_start none sets h e = let n : how_many_carried all ≡ length cs - 0 = how_many cs ∙ omega arith in
      ap (λ k. rounds k from all (one_round from all (no_sets all) all)) n ∙ ap (rounds (length cs - 0) from all) (ap (λ z. one_round from all z all) (sym h) ∙ sym e)

  turns_at : (i : ℕ) (sets next : List (Bor Set)) → i < length cs → Turning i sets → sets_of next ≡ one_round from all (sets_of sets) all → over_all_turns from all ≡ rounds (length cs - (i + 1)) from all (sets_of next)
  turns_at i sets next l h e = let n : length cs - i ≡ suc (length cs - (i + 1)) = omega (arith, l) in
      h ∙ ap (λ k. rounds k from all (sets_of sets)) n ∙ ap (rounds (length cs - (i + 1)) from all) (sym e)

  pub turns_more : (i : ℕ) (sets next : List (Bor Set)) → i < length cs → Turning i sets → sets_of next ≡ one_round from (carrieds_of cs) (sets_of sets) (carrieds_of cs) → Turning (i + 1) next
  turns_more i sets next l h e = turns_at i sets next l h e

  still : (k : ℕ) (xs : List Set) → one_round from all xs all ≡ xs → rounds k from all xs ≡ xs
  still zero xs e = refl
  still (suc k) xs e = ap (rounds k from all) e ∙ still k xs e

  pub turns_same : (i : ℕ) (sets next : List (Bor Set)) → Turning i sets → sets_of next ≡ one_round from (carrieds_of cs) (sets_of sets) (carrieds_of cs) → sets_of next ≡ sets_of sets → sets_of sets ≡ over_all_turns from (carrieds_of cs)
  turns_same i sets next h e s = sym (h ∙ still (length cs - i) (sets_of sets) (sym e ∙ s))

  pub turns_end : (i : ℕ) (sets : List (Bor Set)) → length cs ≤ i → Turning i sets → sets_of sets ≡ over_all_turns from (carrieds_of cs)
  turns_end i sets l h = let n : length cs - i ≡ 0 = omega (arith, l) in sym (h ∙ ap (λ k. rounds k from all (sets_of sets)) n)
