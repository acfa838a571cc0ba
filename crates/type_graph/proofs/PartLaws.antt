-- What holds of the parts of a type, whether they stand in a row or are named.
use Rattle.std.proofs.Common.{◌≡◌, ℕ, zero, suc, ◌+◌, ◌*◌, ◌≤◌, ◌<◌, min, List, [], ◌∷◌, length, refl, sym, ◌∙◌, ap, subst, arith}
use Rattle.std.proofs.Math.Nat.{suc-mul, zero-mul}
use mathlib.Core.Logic.{◌⊎◌, inl, inr}
use Rattle.fut_types.specs.declared.Kind.{Kind}
use Rattle.fut_types.specs.declared.Head.{Head}
use Rattle.fut_types.specs.declared.Head.TheVariants as head
use Rattle.fut_types.specs.declared.shapes.ShapeTable.{ShapeTable}
use Rattle.fut_types.specs.Types.{Ty, Var, Made, Tys, Sub, Kinds, level, cap, rank, least, row}
use Rattle.fut_types.proofs.TyLaws.{level_most, cap_most, rank_made, least_more, same_parts, same_first, same_rest}
use Rattle.fut_types.proofs.ShapeLaws.{one_part, named_rank, named_cap}
use Rattle.type_graph.specs.declared.Form.{Form}
use Rattle.type_graph.specs.declared.Form.TheVariants as form
use Rattle.type_graph.specs.declared.Entry.{Entry}
use Rattle.type_graph.specs.Graph.{Each, Reading, Tables, read, Plain, type_made, Parts_fit, Fitting, Listed, numbers, children, chained, parts_of, Names, All_named, Shows, Holds, Within, IsEntry, AreEntries, IsTask, Starts, arity, depth, total, task_weight, all_have, chain_tasks, all_asked}
use Rattle.type_graph.specs.State.{form_cap, Agrees, Fixed, FixedTask}

-- entries that T has
pub record Reads (table : ShapeTable) (n m : ℕ) (T : Tables) : Type 0 where
  pub entry : (e : ℕ) → e < m → IsEntry table n m (T.entry e)

pub reads : (table : ShapeTable) (n : ℕ) (entries : List Entry) (T : Tables) → Listed entries T → AreEntries table n entries → Reads table n (length entries) T
reads table n entries T l a = record { entry = λ e lt. subst (IsEntry table n (length entries)) (sym (l e lt)) (a.within e lt) }

-- the same type has the same parts
same_numbers : (a b : Sub) (x n : ℕ) → row a x n ≡ row b x n → Each (λ c. a c ≡ b c) (numbers x n)
unfolding numbers
same_numbers a b x zero e = tt
same_numbers a b x (suc n) e = (same_first _ _ _ _ e, same_numbers a b (suc x) n (same_rest _ _ _ _ e))

same_named : (T : Tables) (a b : Sub) (t : Ty) (e n : ℕ) → Names T a t e n → Names T b t e n → Each (λ c. a c ≡ b c) (children T e n)
unfolding All_named chained
same_named T a b t e zero p q = tt
same_named T a b t e (suc n) p q = (one_part T.shapes _ t _ _ p.0 q.0, same_named T a b t (T.entry e).next n p.1 q.1)

-- a head without parts, or one that is read in one way only
pub read_once : (h : Head) (n : ℕ) → Parts_fit h n → (n ≡ 0) ⊎ ((r : Reading) (ts : Tys) → type_made r h ts ≡ Made h ts)
read_once (head.Rigid m k) n p = inl p
read_once (head.Scalar s) n p = inr (λ r ts. refl)
read_once head.Array n p = inr (λ r ts. refl)
read_once head.Tuple n p = inr (λ r ts. refl)
read_once (head.Record m) n p = inr (λ r ts. refl)
read_once head.Fun n p = inr (λ r ts. refl)
read_once (head.Abstract m d) n p = inr (λ r ts. refl)

no_numbers : (P : ℕ → Type 0) (x n : ℕ) → n ≡ 0 → Each P (numbers x n)
unfolding numbers
no_numbers P x n e = subst (λ m. Each P (numbers x m)) (sym e) tt

same_made : (r r' : Reading) (a b : Sub) (t : Ty) (h : Head) (x n : ℕ) → Parts_fit h n → t ≡ type_made r h (row a x n) → t ≡ type_made r' h (row b x n) → Each (λ c. a c ≡ b c) (numbers x n)
same_made r r' a b t h x n fit p q = elim (read_once h n fit) as (λ o. Each (λ c. a c ≡ b c) (numbers x n)) [
  | inl z ↦ no_numbers (λ c. a c ≡ b c) x n z
  | inr m ↦ same_numbers a b x n (same_parts h h _ _ (sym (p ∙ m r (row a x n)) ∙ q ∙ m r' (row b x n)))
]

pub same_shown : (T : Tables) (r r' : Reading) (a b : Sub) (t : Ty) (f : Form) → Fitting f → Shows (read T r) a t f → Shows (read T r') b t f → Each (λ c. a c ≡ b c) (parts_of T f)
same_shown T r r' a b t form.Free fit p q = tt
same_shown T r r' a b t (form.Link j) fit p q = tt
same_shown T r r' a b t (form.Made h x n) fit p q = same_made r r' a b t h x n fit p q
same_shown T r r' a b t (form.Open e n) fit p q = same_named T a b t e n p q

pub fixed_parts : (T : Tables) (S : Reading → Kinds → Sub → Type 0) (home born : ℕ → ℕ) (l i : ℕ) (f : Form) → Fitting f → ((r : Reading) (K : Kinds) (a : Sub) → S r K a → Shows (read T r) a (a i) f) → Fixed S home born l i → Each (Fixed S home born l) (parts_of T f)
fixed_parts T S home born l i f fit shows fixed = every (parts_of T f) (λ lt r K a r' K' a' s s' same. same_shown T r r' a a' (a i) f fit (shows r K a s) (subst (λ t. Shows (read T r') a' t f) (sym (fixed lt r K a r' K' a' s s' same)) (shows r' K' a' s')))
  where
    every : (cs : List ℕ) → (l < 4294967295 → (r : Reading) (K : Kinds) (a : Sub) (r' : Reading) (K' : Kinds) (a' : Sub) → S r K a → S r' K' a' → Agrees home born l r a r' a' → Each (λ c. a c ≡ a' c) cs) → Each (Fixed S home born l) cs
    every [] h = tt
    every (c ∷ cs) h = (λ lt r K a r' K' a' s s' same. (h lt r K a r' K' a' s s' same).0, every cs (λ lt r K a r' K' a' s s' same. (h lt r K a r' K' a' s s' same).1))

-- parts have the kinds of the whole
rank_numbers : (K : Kinds) (a : Sub) (x n k : ℕ) → k ≤ least K (row a x n) → Each (λ c. k ≤ rank K (a c)) (numbers x n)
unfolding numbers
rank_numbers K a x zero k h = tt
rank_numbers K a x (suc n) k h = let p : k ≤ min (rank K (a x)) (least K (row a (suc x) n)) = subst (λ m. k ≤ m) (least_more K (a x) (row a (suc x) n)) h in
    (omega arith, rank_numbers K a (suc x) n k (omega arith))

rank_named : (T : Tables) (K : Kinds) (a : Sub) (t : Ty) (e n k : ℕ) → k ≤ rank K t → Names T a t e n → Each (λ c. k ≤ rank K (a c)) (children T e n)
unfolding All_named chained
rank_named T K a t e zero k h p = tt
rank_named T K a t e (suc n) k h p = ((let q : rank K t ≤ rank K (a (T.entry e).child) = named_rank T.shapes _ K t _ p.0 in omega arith), rank_named T K a t (T.entry e).next n k h p.1)

rank_row : (r : Reading) (K : Kinds) (a : Sub) (t : Ty) (h : Head) (x n k : ℕ) → Parts_fit h n → k ≤ rank K t → t ≡ type_made r h (row a x n) → Each (λ c. k ≤ rank K (a c)) (numbers x n)
rank_row r K a t h x n k fit le p = elim (read_once h n fit) as (λ o. Each (λ c. k ≤ rank K (a c)) (numbers x n)) [
  | inl z ↦ no_numbers (λ c. k ≤ rank K (a c)) x n z
  | inr m ↦ rank_numbers K a x n k (let q : k ≤ min (cap h) (least K (row a x n)) = subst (λ m. k ≤ m) (ap (rank K) (p ∙ m r (row a x n)) ∙ rank_made K h (row a x n)) le in omega arith)
]

pub rank_parts : (T : Tables) (K : Kinds) (a : Sub) (t : Ty) (f : Form) (k : ℕ) → Fitting f → k ≤ rank K t → Shows T a t f → Each (λ c. k ≤ rank K (a c)) (parts_of T f)
rank_parts T K a t form.Free k fit h p = tt
rank_parts T K a t (form.Link j) k fit h p = tt
rank_parts T K a t (form.Made g x n) k fit h p = rank_row T.rigid K a t g x n k fit h p
rank_parts T K a t (form.Open e n) k fit h p = rank_named T K a t e n k h p

rank_most : (K : Kinds) (t : Ty) → rank K t ≤ 4
unfolding rank
rank_most K (Var n) = level_most (K n)
rank_most K (Made h ts) = let p : cap h ≤ 4 = cap_most h in omega arith

named_one : (T : Tables) (K : Kinds) (a : Sub) (t : Ty) (e n : ℕ) → 0 < n → Names T a t e n → rank K t ≤ 2
unfolding All_named
named_one T K a t e zero h p = absurd (omega arith)
named_one T K a t e (suc n) h p = named_cap T.shapes _ K t _ p.0

-- a made type where each type parameter stands for itself
pub plain_made : (T : Tables) (a : Sub) (h : Head) (x n : ℕ) → Plain T → Parts_fit h n → type_made T.rigid h (row a x n) ≡ Made h (row a x n)
plain_made T a (head.Rigid m k) x n p fit = p.own m k ∙ sym (ap (λ c. Made (head.Rigid m k) (row a x c)) fit)
plain_made T a (head.Scalar s) x n p fit = refl
plain_made T a head.Array x n p fit = refl
plain_made T a head.Tuple x n p fit = refl
plain_made T a (head.Record m) x n p fit = refl
plain_made T a head.Fun x n p fit = refl
plain_made T a (head.Abstract m d) x n p fit = refl

-- no type of a form is of a kind above its highest
pub rank_form : (T : Tables) (K : Kinds) (a : Sub) (t : Ty) (f : Form) (n i : ℕ) → Plain T → Fitting f → Within n i f → Shows T a t f → rank K t ≤ form_cap f
rank_form T K a t form.Free n i pl fit w p = rank_most K t
rank_form T K a t (form.Link j) n i pl fit w p = rank_most K t
rank_form T K a t (form.Made h x m) n i pl fit w p = let e : rank K t ≡ min (cap h) (least K (row a x m)) = ap (rank K) (p ∙ plain_made T a h x m pl fit) ∙ rank_made K h (row a x m) in omega arith
rank_form T K a t (form.Open e m) n i pl fit w p = named_one T K a t e m w p

-- the numbers of parts
within_numbers : (N x n : ℕ) → x + n ≤ N → Each (λ c. c < N) (numbers x n)
unfolding numbers
within_numbers N x zero h = tt
within_numbers N x (suc n) h = (omega arith, within_numbers N (suc x) n (omega arith))

module _ (table : ShapeTable) (N m : ℕ) (T : Tables) (r : Reads table N m T) where
  within_children : (e n : ℕ) → e < m → Each (λ c. c < N) (children T e n)
  unfolding chained
  within_children e zero h = tt
  within_children e (suc n) h = let p = r.entry e h in (p.0, within_children (T.entry e).next n p.2)

  pub within_parts : (f : Form) (i : ℕ) → Within N i f → Starts m f → Each (λ c. c < N) (parts_of T f)
  within_parts form.Free i w b = tt
  within_parts (form.Link j) i w b = tt
  within_parts (form.Made h x n) i w b = within_numbers N x n w
  within_parts (form.Open e n) i w b = within_children e n b

  pub chain_within : (i e n : ℕ) → i < N → e < m → Each (IsTask table N) (chain_tasks T i e n)
  unfolding all_asked IsTask
  chain_within i e zero hi he = tt
  chain_within i e (suc n) hi he = let p = r.entry e he in ((hi, p.0, p.1), chain_within i (T.entry e).next n hi p.2)

-- tasks for all parts
pub have_within : (table : ShapeTable) (N : ℕ) (k : Kind) (l : ℕ) (cs : List ℕ) → Each (λ c. c < N) cs → Each (IsTask table N) (all_have cs k l)
unfolding all_have IsTask
have_within table N k l [] h = tt
have_within table N k l (c ∷ cs) h = (h.0, have_within table N k l cs h.1)

pub have_hold : (T : Tables) (K : Kinds) (a : Sub) (k : Kind) (l : ℕ) (cs : List ℕ) → Each (λ c. level k ≤ rank K (a c)) cs → Each (Holds T K a) (all_have cs k l)
unfolding all_have Holds
have_hold T K a k l [] h = tt
have_hold T K a k l (c ∷ cs) h = (h.0, have_hold T K a k l cs h.1)

long_numbers : (x n : ℕ) → length (numbers x n) ≡ n
unfolding numbers
long_numbers x zero = refl
long_numbers x (suc n) = ap suc (long_numbers (suc x) n)

long_children : (T : Tables) (e n : ℕ) → length (children T e n) ≡ n
unfolding chained
long_children T e zero = refl
long_children T e (suc n) = ap suc (long_children T (T.entry e).next n)

pub long_parts : (T : Tables) (f : Form) → length (parts_of T f) ≡ arity f
long_parts T form.Free = refl
long_parts T (form.Link j) = refl
long_parts T (form.Made h x n) = long_numbers x n
long_parts T (form.Open e n) = long_children T e n

pub have_weight : (r : ℕ) (k : Kind) (l : ℕ) (cs : List ℕ) → total (task_weight r) (all_have cs k l) ≡ length cs
unfolding total all_have
have_weight r k l [] = refl
have_weight r k l (c ∷ cs) = let e : total (task_weight r) (all_have cs k l) ≡ length cs = have_weight r k l cs in omega arith

-- the tasks of a chain
pub chain_weight : (r : ℕ) (T : Tables) (i e n : ℕ) → total (task_weight r) (chain_tasks T i e n) ≡ n * (depth * r + 4294967302)
unfolding total all_asked
chain_weight r T i e zero = sym (zero-mul (depth * r + 4294967302))
chain_weight r T i e (suc n) = let p : total (task_weight r) (chain_tasks T i (T.entry e).next n) ≡ n * (depth * r + 4294967302) = chain_weight r T i (T.entry e).next n in rw (suc-mul n (depth * r + 4294967302)) (omega arith)

pub chain_hold : (T : Tables) (K : Kinds) (a : Sub) (i e n : ℕ) → Names T a (a i) e n → Each (Holds T K a) (chain_tasks T i e n)
unfolding all_asked Holds All_named
chain_hold T K a i e zero p = tt
chain_hold T K a i e (suc n) p = (p.0, chain_hold T K a i (T.entry e).next n p.1)

pub chain_names : (T : Tables) (K : Kinds) (a : Sub) (i e n : ℕ) → Each (Holds T K a) (chain_tasks T i e n) → Names T a (a i) e n
unfolding all_asked Holds All_named
chain_names T K a i e zero p = tt
chain_names T K a i e (suc n) p = (p.0, chain_names T K a i (T.entry e).next n p.1)

pub chain_asks : (S : Reading → Kinds → Sub → Type 0) (home born : ℕ → ℕ) (T : Tables) (i e n : ℕ) → Each (FixedTask S home born) (chain_tasks T i e n)
unfolding all_asked
chain_asks S home born T i e zero = tt
chain_asks S home born T i e (suc n) = (tt, chain_asks S home born T i (T.entry e).next n)
