-- The same meaning where what does not fit is Wrong: it has the outcomes that it had, or goes wrong. Each way to put parts
-- together keeps this.
use Rattle.std.proofs.Common.{◌≡◌, ◌⊎◌, inl, inr, ℕ, zero, suc, ◌+◌, List, [], ◌∷◌, Bool, true, false, refl}
use Rattle.fut_scalar.specs.declared.report.Report.{Report}
use Rattle.fut_meaning.specs.Outcomes.{Out, Val, Fail, Wrong, Rel, the, Exactly, exact, Then, goes_on, stops, sticks, Both, both, stops_left, stops_right, sticks_left, sticks_right, choose, each_of, turns, while_turns, Tree, element, neutral, node, tree_gives, bracket}
use Rattle.fut_value.specs.Data.{Datum}
use Rattle.fut_meaning.proofs.Agree.{clash_wrong, failing, clash_stop}
use Rattle.fut_meaning.specs.Jobs.{all_of, Applied, two_of, Reduces, reduces}

abbrev pub Goes_wrong : {A : Type 0} → Rel A → Type 0
Goes_wrong s = (f : ℕ) × s Wrong f

-- m, and where what does not fit is Wrong
pub record Fitted {A : Type 0} (m s : Rel A) : Type 0 where
  pub kept : (o : Out A) (f : ℕ) → s o f → m o f ⊎ (o ≡ Wrong)
  pub lost : (o : Out A) (f : ℕ) → m o f → s o f ⊎ Goes_wrong s

-- an outcome that is the same, or Wrong
pub data Fitted_out {A : Type 0} : Out A → Out A → Type 0 where
  fits : {o : Out A} → Fitted_out o o
  misfits : {o : Out A} → Fitted_out o Wrong

pub fitted_same : {A : Type 0} (m : Rel A) → Fitted m m
fitted_same m = record { kept = λ o f x. inl x; lost = λ o f x. inl x }

value_kept : {A X : Type 0} {a : A} → X ⊎ (Val a ≡ Wrong) → X
value_kept (inl x) = x
value_kept (inr e) = clash_wrong e

report_kept : (A : Type 0) {X : Type 0} {r : Report} → X ⊎ (failing A r ≡ Wrong) → X
report_kept A (inl x) = x
report_kept A (inr e) = clash_stop A e

pub fitted_the : {A : Type 0} {o o' : Out A} → Fitted_out o o' → Fitted (the o) (the o')
fitted_the fits = fitted_same _
fitted_the {o = o} misfits = record { kept = λ p f x. wrong_kept p f x; lost = λ p f x. inr (0, exact) }
  where
    wrong_kept : (p : Out _) (f : ℕ) → Exactly 0 Wrong p f → the o p f ⊎ (p ≡ Wrong)
    wrong_kept _ _ exact = inr refl

module _ {A B : Type 0} (m s : Rel A) (k l : A → Rel B) (h : Fitted m s) (i : (a : A) → Fitted (k a) (l a)) where
  then_kept : (o : Out B) (f : ℕ) → Then s l o f → Then m k o f ⊎ (o ≡ Wrong)
  then_kept _ _ (goes_on {a} {o} {f} {g} x y) = behind (value_kept (h.kept (Val a) f x)) ((i a).kept o g y)
    where
      behind : m (Val a) f → k a o g ⊎ (o ≡ Wrong) → Then m k o (f + g) ⊎ (o ≡ Wrong)
      behind x (inl y) = inl (goes_on x y)
      behind x (inr e) = inr e
  then_kept _ _ (stops {r} {f} x) = inl (stops (report_kept A (h.kept (Fail r) f x)))
  then_kept _ _ (sticks {f} x) = inr refl

  first_wrong : {o : Out B} {f : ℕ} → Goes_wrong s → Then s l o f ⊎ Goes_wrong (Then s l)
  first_wrong w = inr (w.0, sticks w.1)

  then_lost : (o : Out B) (f : ℕ) → Then m k o f → Then s l o f ⊎ Goes_wrong (Then s l)
  then_lost _ _ (goes_on {a} {o} {f} {g} x y) = on (h.lost (Val a) f x) ((i a).lost o g y)
    where
      on : s (Val a) f ⊎ Goes_wrong s → l a o g ⊎ Goes_wrong (l a) → Then s l o (f + g) ⊎ Goes_wrong (Then s l)
      on (inl x) (inl y) = inl (goes_on x y)
      on (inl x) (inr w) = inr (f + w.0, goes_on x w.1)
      on (inr w) y = first_wrong w
  then_lost _ _ (stops {r} {f} x) = on (h.lost (Fail r) f x)
    where
      on : s (Fail r) f ⊎ Goes_wrong s → Then s l (Fail r) f ⊎ Goes_wrong (Then s l)
      on (inl x) = inl (stops x)
      on (inr w) = first_wrong w
  then_lost _ _ (sticks {f} x) = on (h.lost Wrong f x)
    where
      on : s Wrong f ⊎ Goes_wrong s → Then s l Wrong f ⊎ Goes_wrong (Then s l)
      on (inl x) = inl (sticks x)
      on (inr w) = first_wrong w

  pub fitted_then : Fitted (Then m k) (Then s l)
  fitted_then = record { kept = then_kept; lost = then_lost }

module _ {A B C : Type 0} (m s : Rel A) (n t : Rel B) (k l : A → B → Rel C) (h : Fitted m s) (j : Fitted n t) (i : (a : A) (b : B) → Fitted (k a b) (l a b)) where
  both_kept : (o : Out C) (f : ℕ) → Both s t l o f → Both m n k o f ⊎ (o ≡ Wrong)
  both_kept _ _ (both {a} {b} {o} {f} {g} {h = e} x y z) = behind (value_kept (h.kept (Val a) f x)) (value_kept (j.kept (Val b) g y)) ((i a b).kept o e z)
    where
      behind : m (Val a) f → n (Val b) g → k a b o e ⊎ (o ≡ Wrong) → Both m n k o (f + g + e) ⊎ (o ≡ Wrong)
      behind x y (inl z) = inl (both x y z)
      behind x y (inr w) = inr w
  both_kept _ _ (stops_left {r} {f} x) = inl (stops_left (report_kept A (h.kept (Fail r) f x)))
  both_kept _ _ (stops_right {r} {f} x) = inl (stops_right (report_kept B (j.kept (Fail r) f x)))
  both_kept _ _ (sticks_left {f} x) = inr refl
  both_kept _ _ (sticks_right {f} x) = inr refl

  left_wrong : {o : Out C} {f : ℕ} → Goes_wrong s → Both s t l o f ⊎ Goes_wrong (Both s t l)
  left_wrong w = inr (w.0, sticks_left w.1)

  right_wrong : {o : Out C} {f : ℕ} → Goes_wrong t → Both s t l o f ⊎ Goes_wrong (Both s t l)
  right_wrong w = inr (w.0, sticks_right w.1)

  both_lost : (o : Out C) (f : ℕ) → Both m n k o f → Both s t l o f ⊎ Goes_wrong (Both s t l)
  both_lost _ _ (both {a} {b} {o} {f} {g} {h = e} x y z) = on (h.lost (Val a) f x) (j.lost (Val b) g y) ((i a b).lost o e z)
    where
      on : s (Val a) f ⊎ Goes_wrong s → t (Val b) g ⊎ Goes_wrong t → l a b o e ⊎ Goes_wrong (l a b) → Both s t l o (f + g + e) ⊎ Goes_wrong (Both s t l)
      on (inl x) (inl y) (inl z) = inl (both x y z)
      on (inl x) (inl y) (inr w) = inr (f + g + w.0, both x y w.1)
      on (inl x) (inr w) z = right_wrong w
      on (inr w) y z = left_wrong w
  both_lost _ _ (stops_left {r} {f} x) = on (h.lost (Fail r) f x)
    where
      on : s (Fail r) f ⊎ Goes_wrong s → Both s t l (Fail r) f ⊎ Goes_wrong (Both s t l)
      on (inl x) = inl (stops_left x)
      on (inr w) = left_wrong w
  both_lost _ _ (stops_right {r} {f} x) = on (j.lost (Fail r) f x)
    where
      on : t (Fail r) f ⊎ Goes_wrong t → Both s t l (Fail r) f ⊎ Goes_wrong (Both s t l)
      on (inl x) = inl (stops_right x)
      on (inr w) = right_wrong w
  both_lost _ _ (sticks_left {f} x) = on (h.lost Wrong f x)
    where
      on : s Wrong f ⊎ Goes_wrong s → Both s t l Wrong f ⊎ Goes_wrong (Both s t l)
      on (inl x) = inl (sticks_left x)
      on (inr w) = left_wrong w
  both_lost _ _ (sticks_right {f} x) = on (j.lost Wrong f x)
    where
      on : t Wrong f ⊎ Goes_wrong t → Both s t l Wrong f ⊎ Goes_wrong (Both s t l)
      on (inl x) = inl (sticks_right x)
      on (inr w) = right_wrong w

  pub fitted_both : Fitted (Both m n k) (Both s t l)
  fitted_both = record { kept = both_kept; lost = both_lost }

pub fitted_first : {A B : Type 0} {o o' : Out A} → Fitted_out o o' → (k l : A → Rel B) → ((a : A) → Fitted (k a) (l a)) → Fitted (Then (the o) k) (Then (the o') l)
fitted_first h k l i = fitted_then _ _ k l (fitted_the h) i

-- what follows a value, and a report
pub fitted_value : {A B : Type 0} {a b : A} {k l : A → Rel B} → Fitted (k a) (l b) → Fitted (Then (the (Val a)) k) (Then (the (Val b)) l)
fitted_value {A} {B} {a} {b} {k} {l} h = record { kept = kept; lost = lost }
  where
    kept : (o : Out B) (f : ℕ) → Then (the (Val b)) l o f → Then (the (Val a)) k o f ⊎ (o ≡ Wrong)
    kept _ _ (goes_on {o} {g} exact y) = on (h.kept o g y)
      where
        on : k a o g ⊎ (o ≡ Wrong) → Then (the (Val a)) k o (0 + g) ⊎ (o ≡ Wrong)
        on (inl y) = inl (goes_on exact y)
        on (inr w) = inr w
    kept _ _ (stops x) = elim x [ ]
    kept _ _ (sticks x) = elim x [ ]

    lost : (o : Out B) (f : ℕ) → Then (the (Val a)) k o f → Then (the (Val b)) l o f ⊎ Goes_wrong (Then (the (Val b)) l)
    lost _ _ (goes_on {o} {g} exact y) = on (h.lost o g y)
      where
        on : l b o g ⊎ Goes_wrong (l b) → Then (the (Val b)) l o (0 + g) ⊎ Goes_wrong (Then (the (Val b)) l)
        on (inl y) = inl (goes_on exact y)
        on (inr w) = inr (0 + w.0, goes_on exact w.1)
    lost _ _ (stops x) = elim x [ ]
    lost _ _ (sticks x) = elim x [ ]

pub fitted_report : {A A' B : Type 0} {k : A → Rel B} {l : A' → Rel B} (r : Report) → Fitted (Then (the (Fail r)) k) (Then (the (Fail r)) l)
fitted_report {A} {A'} {B} {k} {l} r = record { kept = kept; lost = lost }
  where
    kept : (o : Out B) (f : ℕ) → Then (the (Fail r)) l o f → Then (the (Fail r)) k o f ⊎ (o ≡ Wrong)
    kept _ _ (stops exact) = inl (stops exact)
    kept _ _ (goes_on x y) = elim x [ ]
    kept _ _ (sticks x) = elim x [ ]

    lost : (o : Out B) (f : ℕ) → Then (the (Fail r)) k o f → Then (the (Fail r)) l o f ⊎ Goes_wrong (Then (the (Fail r)) l)
    lost _ _ (stops exact) = inl (stops exact)
    lost _ _ (goes_on x y) = elim x [ ]
    lost _ _ (sticks x) = elim x [ ]

pub fitted_choose : {A : Type 0} (b : Bool) (m s n t : Rel A) → Fitted m s → Fitted n t → Fitted (choose b m n) (choose b s t)
fitted_choose true m s n t h j = h
fitted_choose false m s n t h j = j

pub fitted_each_of : {A B : Type 0} (g l : A → Rel B) → ((a : A) → Fitted (g a) (l a)) → (xs : List A) → Fitted (each_of g xs) (each_of l xs)
fitted_each_of g l h [] = fitted_same _
fitted_each_of g l h (x ∷ xs) = fitted_then _ _ _ _ (h x) (λ y. fitted_then _ _ _ _ (fitted_each_of g l h xs) (λ ys. fitted_same _))

pub fitted_turns : {A B : Type 0} (g l : A → B → Rel B) → ((a : A) (b : B) → Fitted (g a b) (l a b)) → (xs : List A) (b : B) → Fitted (turns g xs b) (turns l xs b)
fitted_turns g l h [] b = fitted_same _
fitted_turns g l h (x ∷ xs) b = fitted_then _ _ _ _ (h x b) (λ c. fitted_turns g l h xs c)

pub fitted_while : {B : Type 0} (budget : ℕ) (r : Report) (test test' : B → Rel Bool) (body body' : B → Rel B) → ((b : B) → Fitted (test b) (test' b)) → ((b : B) → Fitted (body b) (body' b)) → (b : B) → Fitted (while_turns budget r test body b) (while_turns budget r test' body' b)
fitted_while zero r test test' body body' ht hb b = fitted_then _ _ _ _ (ht b) (λ holds. fitted_same _)
fitted_while (suc budget) r test test' body body' ht hb b =
    fitted_then _ _ _ _ (ht b) (λ holds. fitted_choose holds _ _ _ _ (fitted_then _ _ _ _ (hb b) (λ c. fitted_while budget r test test' body body' ht hb c)) (fitted_same _))

pub fitted_all_of : {A B : Type 0} (g l : A → Rel B) → ((a : A) → Fitted (g a) (l a)) → (xs : List A) → Fitted (all_of g xs) (all_of l xs)
fitted_all_of g l h [] = fitted_same _
fitted_all_of g l h (x ∷ xs) = fitted_both _ _ _ _ _ _ (h x) (fitted_all_of g l h xs) (λ y ys. fitted_same _)

pub fitted_tree : {A : Type 0} (op op' : A → A → Rel A) (ne : A) → ((a b : A) → Fitted (op a b) (op' a b)) → (t : Tree A) → Fitted (tree_gives op ne t) (tree_gives op' ne t)
fitted_tree op op' ne h (element a) = fitted_same _
fitted_tree op op' ne h neutral = fitted_same _
fitted_tree op op' ne h (node s t) = fitted_both _ _ _ _ op op' (fitted_tree op op' ne h s) (fitted_tree op op' ne h t) h

module _ (tight any : Bool) (Fits : Datum → List Datum → Type 0) (f f' : Applied) (h : (ds : List Datum) → Fitted (f ds) (f' ds)) (ne : Datum) (xs : List Datum) where
  of_tree : (t : Tree Datum) → Fitted (tree_gives (two_of f) ne t) (tree_gives (two_of f') ne t)
  of_tree t = fitted_tree (two_of f) (two_of f') ne (λ a b. h (a ∷ b ∷ [])) t

  reduces_kept : (o : Out Datum) (n : ℕ) → Reduces tight any Fits f' ne xs o n → Reduces tight any Fits f ne xs o n ⊎ (o ≡ Wrong)
  reduces_kept _ _ (reduces fit order (bracket {o} {f = n} t e c x)) = on ((of_tree t).kept o n x)
    where
      on : tree_gives (two_of f) ne t o n ⊎ (o ≡ Wrong) → Reduces tight any Fits f ne xs o n ⊎ (o ≡ Wrong)
      on (inl x) = inl (reduces fit order (bracket t e c x))
      on (inr w) = inr w

  reduces_lost : (o : Out Datum) (n : ℕ) → Reduces tight any Fits f ne xs o n → Reduces tight any Fits f' ne xs o n ⊎ Goes_wrong (Reduces tight any Fits f' ne xs)
  reduces_lost _ _ (reduces fit order (bracket {o} {f = n} t e c x)) = on ((of_tree t).lost o n x)
    where
      on : tree_gives (two_of f') ne t o n ⊎ Goes_wrong (tree_gives (two_of f') ne t) → Reduces tight any Fits f' ne xs o n ⊎ Goes_wrong (Reduces tight any Fits f' ne xs)
      on (inl x) = inl (reduces fit order (bracket t e c x))
      on (inr w) = inr (w.0, reduces fit order (bracket t e c w.1))

  pub fitted_reduces : Fitted (Reduces tight any Fits f ne xs) (Reduces tight any Fits f' ne xs)
  fitted_reduces = record { kept = reduces_kept; lost = reduces_lost }
