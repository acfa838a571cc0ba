-- Going along a chain or a row.
use Rattle.std.proofs.Common.{◌≡◌, ◌≢◌, ℕ, suc, ◌+◌, ◌-◌, ◌≤◌, ◌<◌, List, [], ◌∷◌, ◌++◌, length, refl, sym, ◌∙◌, ap, subst, arith, append_assoc}
use mathlib.Core.Logic.{◌⊎◌, inl, inr}
use Rattle.fut_types.specs.declared.Kind.{Kind}
use Rattle.fut_types.specs.Types.{Ty, Sub}
use Rattle.fut_types.specs.Shapes.{HasPart}
use Rattle.type_graph.specs.declared.Form.{Form}
use Rattle.type_graph.specs.declared.Form.TheVariants as form
use Rattle.type_graph.specs.declared.Entry.{Entry}
use Rattle.type_graph.specs.declared.Task.{Task}
use Rattle.type_graph.specs.declared.Task.TheVariants as task
use Rattle.type_graph.specs.Graph.{Tables, Listed, Names, All_named, Lacks, entry_at, numbers, children, chained, parts_of, all_have, chain_tasks, all_asked, pairs}

-- one task is pushed, and the rest is to come
pub pushed : (xs ys zs all : List Task) (t : Task) → ys ≡ xs ++ t ∷ [] → xs ++ t ∷ zs ≡ all → ys ++ zs ≡ all
pushed xs ys zs all t e h = ap (λ l. l ++ zs) e ∙ append_assoc xs (t ∷ []) zs ∙ h

some_more : (n : ℕ) → 0 < n → n ≡ suc (n - 1)
some_more n h = omega arith

none_left : (n : ℕ) → n ≤ 0 → n ≡ 0
none_left n h = omega arith

append_none : {X : Type 0} (xs : List X) → xs ++ [] ≡ xs
append_none [] = refl
append_none (x ∷ xs) = ap (λ l. x ∷ l) (append_none xs)

-- all are pushed
pub all_pushed : {X : Type 0} (xs ys zs : List X) → ys ≡ [] → xs ++ ys ≡ zs → xs ≡ zs
all_pushed xs ys zs e h = sym (append_none xs) ∙ ap (λ l. xs ++ l) (sym e) ∙ h

module _ (k : Kind) (l : ℕ) where
  row_suc : (x m : ℕ) → all_have (numbers x (suc m)) k l ≡ task.Has x k l ∷ all_have (numbers (suc x) m) k l
  unfolding all_have numbers
  row_suc x m = refl

  pub row_step : (x n : ℕ) → 0 < n → all_have (numbers x n) k l ≡ task.Has x k l ∷ all_have (numbers (x + 1) (n - 1)) k l
  row_step x n h = ap (λ m. all_have (numbers x m) k l) (some_more n h) ∙ row_suc x (n - 1) ∙ ap (λ y. task.Has x k l ∷ all_have (numbers y (n - 1)) k l) (omega arith)

  pub row_none : (x n : ℕ) → n ≤ 0 → all_have (numbers x n) k l ≡ []
  unfolding all_have numbers
  row_none x n e = ap (λ m. all_have (numbers x m) k l) (none_left n e)

pub pairs_step : (x y n : ℕ) → 0 < n → pairs x y n ≡ task.Same x y ∷ pairs (x + 1) (y + 1) (n - 1)
pairs_step x y n h = ap (pairs x y) (some_more n h) ∙ (λ i. task.Same x y ∷ pairs (one x i) (one y i) (n - 1))
  where
    one : (z : ℕ) → suc z ≡ z + 1
    one z = omega arith

pub pairs_none : (x y n : ℕ) → n ≤ 0 → pairs x y n ≡ []
pairs_none x y n e = ap (pairs x y) (none_left n e)

module _ (entries : List Entry) (T : Tables) (t : Listed entries T) (e : ℕ) (y : Entry) (lt : e < length entries) (is : y ≡ entry_at entries e) where
  is_entry : T.entry e ≡ y
  is_entry = t e lt ∙ sym is

  have_suc : (k : Kind) (l m : ℕ) → all_have (children T e (suc m)) k l ≡ task.Has y.child k l ∷ all_have (children T y.next m) k l
  unfolding all_have chained
  have_suc k l m = ap (λ (z : Entry). task.Has z.child k l ∷ all_have (children T z.next m) k l) is_entry

  pub have_step : (k : Kind) (l n : ℕ) → 0 < n → all_have (children T e n) k l ≡ task.Has y.child k l ∷ all_have (children T y.next (n - 1)) k l
  have_step k l n h = ap (λ m. all_have (children T e m) k l) (some_more n h) ∙ have_suc k l (n - 1)

  chain_suc : (i m : ℕ) → chain_tasks T i e (suc m) ≡ task.Part i y.label y.child ∷ chain_tasks T i y.next m
  unfolding all_asked
  chain_suc i m = ap (λ (z : Entry). task.Part i z.label z.child ∷ chain_tasks T i z.next m) is_entry

  pub chain_step : (i n : ℕ) → 0 < n → chain_tasks T i e n ≡ task.Part i y.label y.child ∷ chain_tasks T i y.next (n - 1)
  chain_step i n h = ap (chain_tasks T i e) (some_more n h) ∙ chain_suc i (n - 1)

  names_suc : (a : Sub) (u : Ty) (m : ℕ) → Names T a u e (suc m) → HasPart T.shapes y.label u (a y.child) × Names T a u y.next m
  unfolding All_named
  names_suc a u m p = subst (λ (z : Entry). HasPart T.shapes z.label u (a z.child) × Names T a u z.next m) is_entry p

  pub names_step : (a : Sub) (u : Ty) (n : ℕ) → 0 < n → Names T a u e n → HasPart T.shapes y.label u (a y.child) × Names T a u y.next (n - 1)
  names_step a u n h p = names_suc a u (n - 1) (subst (Names T a u e) (some_more n h) p)

  lacks_suc : (label m : ℕ) → y.label ≢ label → Lacks T.entry label y.next m → Lacks T.entry label e (suc m)
  unfolding Lacks
  lacks_suc label m ne l = subst (λ (z : Entry). (z.label ≢ label) × Lacks T.entry label z.next m) (sym is_entry) (ne, l)

  pub lacks_step : (label n : ℕ) → 0 < n → y.label ≢ label → Lacks T.entry label y.next (n - 1) → Lacks T.entry label e n
  lacks_step label n h ne l = subst (Lacks T.entry label e) (sym (some_more n h)) (lacks_suc label (n - 1) ne l)

pub lacks_none : (T : Tables) (label e n : ℕ) → n ≤ 0 → Lacks T.entry label e n
unfolding Lacks
lacks_none T label e n z = subst (Lacks T.entry label e) (sym (none_left n z)) tt

pub have_none : (T : Tables) (e n : ℕ) (k : Kind) (l : ℕ) → n ≤ 0 → all_have (children T e n) k l ≡ []
unfolding all_have chained
have_none T e n k l z = ap (λ m. all_have (children T e m) k l) (none_left n z)

pub chain_none : (T : Tables) (i e n : ℕ) → n ≤ 0 → chain_tasks T i e n ≡ []
unfolding all_asked
chain_none T i e n z = ap (chain_tasks T i e) (none_left n z)

pub none_pushed : (tasks : List Task) (f : Form) (T : Tables) (k : Kind) (l : ℕ) → (f ≡ form.Free) ⊎ ((j : ℕ) × (f ≡ form.Link j)) → tasks ≡ tasks ++ all_have (parts_of T f) k l
unfolding all_have
none_pushed tasks f T k l (inl e) = sym (append_none tasks) ∙ ap (λ g. tasks ++ all_have (parts_of T g) k l) (sym e)
none_pushed tasks f T k l (inr e) = sym (append_none tasks) ∙ ap (λ g. tasks ++ all_have (parts_of T g) k l) (sym e.1)
