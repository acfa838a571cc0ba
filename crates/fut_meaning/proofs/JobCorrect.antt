-- What a job gives is correct where its function and what is made at the end are: each way in which a primitive applies its
-- function keeps partial and total correctness.
use Rattle.std.proofs.Common.{◌≡◌, ℕ, suc, ◌+◌, List, [], ◌∷◌, length, cond, nat_eq, Bool, true, false, refl, sym, ap, subst, arith}
use mathlib.Core.Logic.{inl, inr}
use Rattle.fut_meaning.specs.Claims.{HasOut, Some_outcome, Correct}
use Rattle.fut_value.specs.Data.{Datum}
use Rattle.fut_meaning.specs.Arrays.{Counted}
use Rattle.fut_meaning.specs.Jobs.{Reordered, order_kept, order_on, order_swapped, order_then, In_order, all_of, Is_one_of, Some_of, some_of, Shown, shown, Job, Done, Apply_each, Reduce_each, Choose_each, written_at, or_old, places, Applied, two_of, Reduces, reduces, finished, job_means}
use Rattle.fut_meaning.specs.Outcomes.{Out, Val, Fail, Wrong, Rel, the, Both, both, stops_left, stops_right, sticks_left, sticks_right, each_of, Tree, element, neutral, node, elements, neutrals, tree_gives, IsTight, Bracket, bracket}
use Rattle.fut_meaning.proofs.Correct.{correct_exact, correct_then}
use Rattle.fut_meaning.proofs.Safe.{safe_both, Every, every_left, every_right}

module _ {A B C : Type 0} (m : Rel A) (n : Rel B) (k : A → B → Rel C) (l : (a : A) (f : ℕ) → m (Val a) f → (b : B) (g : ℕ) → n (Val b) g → Some_outcome (k a b)) where
  from_both : (o : Out A) (f : ℕ) → m o f → (p : Out B) (g : ℕ) → n p g → Some_outcome (Both m n k)
  from_both (Val a) f x (Val b) g y = let r = l a f x b g y in (r.0, f + g + r.1, both x y r.2)
  from_both (Val a) f x (Fail r) g y = (Fail r, g, stops_right y)
  from_both (Val a) f x Wrong g y = (Wrong, g, sticks_right y)
  from_both (Fail r) f x p g y = (Fail r, f, stops_left x)
  from_both Wrong f x p g y = (Wrong, f, sticks_left x)

every_reordered : {A : Type 0} {xs ys : List A} (P : A → Type 0) → Reordered xs ys → Every P xs → Every P ys
every_reordered P order_kept e = e
every_reordered P (order_on r) e = (e.0, every_reordered P r e.1)
every_reordered P order_swapped e = (e.1.0, (e.0, e.1.1))
every_reordered P (order_then r s) e = every_reordered P s (every_reordered P r e)

in_order : {A : Type 0} (P : A → Type 0) (any : Bool) (xs ys : List A) → In_order any xs ys → Every P xs → Every P ys
in_order P false xs ys q e = subst (λ z. Every P z) q e
in_order P true xs ys q e = every_reordered P q e

some_order : {A : Type 0} (any : Bool) (xs : List A) → In_order any xs xs
some_order false xs = refl
some_order true xs = order_kept

one_of_every : {A : Type 0} (P : A → Type 0) (xs : List A) (a : A) → Every P xs → Is_one_of xs a → P a
one_of_every P [] a e i = absurd i
one_of_every P (x ∷ xs) a e (inl q) = subst P q e.0
one_of_every P (x ∷ xs) a e (inr i) = one_of_every P xs a e.1 i

-- a tree with one neutral leaf, which is its last one
abbrev row_tree : {A : Type 0} → List A → Tree A
row_tree [] = neutral
row_tree (x ∷ xs) = node (element x) (row_tree xs)

row_elements : {A : Type 0} (xs : List A) → elements (row_tree xs) ≡ xs
row_elements [] = refl
row_elements (x ∷ xs) = ap (λ z. x ∷ z) (row_elements xs)

row_neutrals : {A : Type 0} (xs : List A) → neutrals (row_tree xs) ≡ 1
row_neutrals [] = refl
row_neutrals (x ∷ xs) = omega (arith, row_neutrals xs)

row_tight : {A : Type 0} (tight : Bool) (xs : List A) → IsTight tight (row_tree xs)
row_tight false xs = tt
row_tight true xs = omega (arith, row_neutrals xs)

module _ (total : Bool) where
  correct_both : {A B C : Type 0} (P : A → Type 0) (Q : B → Type 0) (H : C → Type 0) (m : Rel A) (n : Rel B) (k : A → B → Rel C) → Correct total P m → Correct total Q n → ((a : A) (b : B) → P a → Q b → Correct total H (k a b)) → Correct total H (Both m n k)
  correct_both P Q H m n k h i l = record {
    safe = safe_both P Q H m n k h.safe i.safe (λ a b p q. (l a b p q).safe);
    some = λ t. let x = h.some t in let y = i.some t in from_both m n k (λ a f x b g y. (l a b (h.safe (Val a) f x) (i.safe (Val b) g y)).some t) x.0 x.1 x.2 y.0 y.1 y.2;
  }

  -- so many of Q
  abbrev pub So_many : {B : Type 0} → (B → Type 0) → ℕ → List B → Type 0
  So_many Q n ys = Every Q ys × (length ys ≡ n)

  pub correct_each_of : {A B : Type 0} (Q : B → Type 0) (g : A → Rel B) (xs : List A) → Every (λ x. Correct total Q (g x)) xs → Correct total (So_many Q (length xs)) (each_of g xs)
  correct_each_of Q g [] e = correct_exact (So_many Q 0) 0 (Val []) (tt, refl)
  correct_each_of Q g (x ∷ xs) e =
      correct_then Q (So_many Q (suc (length xs))) _ _ e.0 (λ y q. correct_then (So_many Q (length xs)) (So_many Q (suc (length xs))) _ _ (correct_each_of Q g xs e.1) (λ ys qs. correct_exact (So_many Q (suc (length xs))) 0 (Val (y ∷ ys)) ((q, qs.0), ap suc qs.1)))

  correct_all_of : {A B : Type 0} (Q : B → Type 0) (g : A → Rel B) (xs : List A) → Every (λ x. Correct total Q (g x)) xs → Correct total (So_many Q (length xs)) (all_of g xs)
  correct_all_of Q g [] e = correct_exact (So_many Q 0) 0 (Val []) (tt, refl)
  correct_all_of Q g (x ∷ xs) e =
      correct_both Q (So_many Q (length xs)) (So_many Q (suc (length xs))) _ _ _ e.0 (correct_all_of Q g xs e.1) (λ y ys q qs. correct_exact (So_many Q (suc (length xs))) 0 (Val (y ∷ ys)) ((q, qs.0), ap suc qs.1))

  correct_tree : {A : Type 0} (P : A → Type 0) (op : A → A → Rel A) (ne : A) → P ne → ((a b : A) → P a → P b → Correct total P (op a b)) → (t : Tree A) → Every P (elements t) → Correct total P (tree_gives op ne t)
  correct_tree P op ne q h (element a) e = correct_exact P 0 (Val a) e.0
  correct_tree P op ne q h neutral e = correct_exact P 0 (Val ne) q
  correct_tree P op ne q h (node s t) e =
      correct_both P P P _ _ op (correct_tree P op ne q h s (every_left P (elements s) (elements t) e)) (correct_tree P op ne q h t (every_right P (elements s) (elements t) e)) h

  module _ (tight : Bool) (P : Datum → Type 0) (f : Applied) (ne : Datum) (q : P ne) (h : (a b : Datum) → P a → P b → Correct total P (f (a ∷ b ∷ []))) where
    correct_bracket : (xs : List Datum) → Every P xs → Correct total P (Bracket tight (two_of f) ne xs)
    correct_bracket xs e = record { safe = safe; some = some }
      where
        safe : (o : Out Datum) (n : ℕ) → Bracket tight (two_of f) ne xs o n → HasOut P o
        safe o n (bracket t z i y) = (correct_tree P (two_of f) ne q h t (subst (λ x. Every P x) (sym z) e)).safe o n y

        some : total ≡ true → Some_outcome (Bracket tight (two_of f) ne xs)
        some t =
            let r = (correct_tree P (two_of f) ne q h (row_tree xs) (subst (λ x. Every P x) (sym (row_elements xs)) e)).some t in
            (r.0, r.1, bracket (row_tree xs) (row_elements xs) (row_tight tight xs) r.2)

    correct_reduces : (any : Bool) (Fits : Datum → List Datum → Type 0) (xs : List Datum) → (total ≡ true → Fits ne xs) → Every P xs → Correct total P (Reduces tight any Fits f ne xs)
    correct_reduces any Fits xs fit e = record { safe = safe; some = some }
      where
        safe : (o : Out Datum) (n : ℕ) → Reduces tight any Fits f ne xs o n → HasOut P o
        safe o n (reduces {ys = ys} i r y) = (correct_bracket ys (in_order P any xs ys r e)).safe o n y

        some : total ≡ true → Some_outcome (Reduces tight any Fits f ne xs)
        some t = let r = (correct_bracket xs e).some t in (r.0, r.1, reduces (fit t) (some_order any xs) r.2)

    all_reduce : (any : Bool) (Fits : Datum → List Datum → Type 0) (lists : List (List Datum)) → (total ≡ true → (xs : List Datum) → Fits ne xs) → Every (Every P) lists → Every (λ xs. Correct total P (Reduces tight any Fits f ne xs)) lists
    all_reduce any Fits [] fit e = tt
    all_reduce any Fits (xs ∷ lists) fit e = (correct_reduces any Fits xs (λ t. fit t xs) e.0, all_reduce any Fits lists fit e.1)

  -- ---- a scatter

  correct_choice : (P : Datum → Type 0) (v : Datum) (vs : List Datum) → P v → Every P vs → Correct total P (Some_of (or_old v vs))
  correct_choice P v vs p e = record { safe = λ o n y. safe vs e o n y; some = λ t. some vs }
    where
      safe : (vs : List Datum) → Every P vs → (o : Out Datum) (n : ℕ) → Some_of (or_old v vs) o n → HasOut P o
      safe [] e _ _ (some_of {x} i) = one_of_every P (v ∷ []) x (p, tt) i
      safe (w ∷ ws) e _ _ (some_of {x} i) = one_of_every P (w ∷ ws) x e i

      some : (vs : List Datum) → Some_outcome (Some_of (or_old v vs))
      some [] = (Val v, 0, some_of (inl refl))
      some (w ∷ ws) = (Val w, 0, some_of (inl refl))

  one_written : (P : Datum → Type 0) (b : Bool) (v : Datum) (vs : List Datum) → P v → Every P vs → Every P (cond b (v ∷ vs) vs)
  one_written P true v vs p e = (p, e)
  one_written P false v vs p e = e

  written_are : (P : Datum → Type 0) (k : ℕ) (ws : List (ℕ × Datum)) → Every (λ w. P w.1) ws → Every P (written_at k ws)
  written_are P k [] e = tt
  written_are P k (w ∷ ws) e = one_written P (nat_eq w.0 k) w.1 (written_at k ws) e.0 (written_are P k ws e.1)

  all_chosen : (P : Datum → Type 0) (k : ℕ) (old : List Datum) (ws : List (ℕ × Datum)) → Every P old → Every (λ w. P w.1) ws → Every (λ xs. Correct total P (Some_of xs)) (places or_old k old ws)
  all_chosen P k [] ws e h = tt
  all_chosen P k (v ∷ old) ws e h = (correct_choice P v (written_at k ws) e.0 (written_are P k ws h), all_chosen P (suc k) old ws e.1 h)

  correct_shown : {A : Type 0} (P : A → Type 0) (W : Type 0) (m : Rel A) → (total ≡ true → W) → Correct total P m → Correct total P (Shown W m)
  correct_shown {A} P W m w h = record { safe = safe; some = λ t. let r = h.some t in (r.0, r.1, shown (w t) r.2) }
    where
      safe : (o : Out A) (n : ℕ) → Shown W m o n → HasOut P o
      safe o n (shown i y) = h.safe o n y

  -- ---- jobs

  abbrev pub Ends : (Datum → Type 0) → (Datum → Type 0) → ℕ → (List Datum → Out Counted) → Type 0
  Ends Q P n k = (ds : List Datum) → Every Q ds → length ds ≡ n → HasOut (λ r. P r.1) (k ds)

  -- the function gives data of Q for its arguments, and what is made of them is of P
  pub data Good (Fits : Bool → Datum → List Datum → Type 0) (Writes : List (ℕ × Datum) → Type 0) (f : Applied) (Q P : Datum → Type 0) : Job → Type 0 where
    good_done : {r : Counted} → P r.1 → Good Fits Writes f Q P (Done r)
    good_apply : {rows : List (List Datum)} {k : List Datum → Out Counted} → Every (λ row. Correct total Q (f row)) rows → Ends Q P (length rows) k → Good Fits Writes f Q P (Apply_each rows k)
    good_reduce : {any : Bool} {ne : Datum} {lists : List (List Datum)} {k : List Datum → Out Counted} → Q ne → ((a b : Datum) → Q a → Q b → Correct total Q (f (a ∷ b ∷ []))) → (total ≡ true → (xs : List Datum) → Fits any ne xs) → Every (Every Q) lists → Ends Q P (length lists) k → Good Fits Writes f Q P (Reduce_each any ne lists k)
    good_choose : {ws : List (ℕ × Datum)} {old : List Datum} {k : List Datum → Out Counted} → Every (λ w. Q w.1) ws → Every Q old → (total ≡ true → Writes ws) → Ends Q P (length old) k → Good Fits Writes f Q P (Choose_each ws old k)

  correct_end : (Q P : Datum → Type 0) (n : ℕ) (k : List Datum → Out Counted) → Ends Q P n k → (ds : List Datum) → So_many Q n ds → Correct total P (finished k ds)
  correct_end Q P n k h ds e = correct_then (λ r. P r.1) P (the (k ds)) _ (correct_exact (λ r. P r.1) 0 (k ds) (h ds e.0 e.1)) (λ r p. correct_exact P r.0 (Val r.1) p)

  places_length : (k : ℕ) (old : List Datum) (ws : List (ℕ × Datum)) → length (places or_old k old ws) ≡ length old
  places_length k [] ws = refl
  places_length k (v ∷ old) ws = ap suc (places_length (suc k) old ws)

  pub correct_job : (tight : Bool) (Fits : Bool → Datum → List Datum → Type 0) (Writes : List (ℕ × Datum) → Type 0) (f : Applied) (Q P : Datum → Type 0) (j : Job) → Good Fits Writes f Q P j → Correct total P (job_means tight Fits Writes f j)
  correct_job tight Fits Writes f Q P _ (good_done {r} p) = correct_exact P r.0 (Val r.1) p
  correct_job tight Fits Writes f Q P _ (good_apply {rows} {k} e h) = correct_then (So_many Q (length rows)) P _ _ (correct_each_of Q f rows e) (correct_end Q P (length rows) k h)
  correct_job tight Fits Writes f Q P _ (good_reduce {any} {ne} {lists} {k} q g fit e h) =
      correct_then (So_many Q (length lists)) P _ _ (correct_all_of Q (Reduces tight any (Fits any) f ne) lists (all_reduce tight Q f ne q g any (Fits any) lists fit e)) (correct_end Q P (length lists) k h)
  correct_job tight Fits Writes f Q P _ (good_choose {ws} {old} {k} e i w h) =
      correct_then (So_many Q (length old)) P _ _
      (correct_shown (So_many Q (length old)) (Writes ws) _ w (subst (λ n. Correct total (So_many Q n) (all_of Some_of (places or_old 0 old ws))) (places_length 0 old ws) (correct_all_of Q Some_of (places or_old 0 old ws) (all_chosen Q 0 old ws i e))))
      (correct_end Q P (length old) k h)
