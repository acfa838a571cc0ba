-- What a graph says, and what the substitution that it is says.
use Rattle.std.proofs.Common.{◌≡◌, ◌≢◌, ℕ, zero, suc, ◌+◌, ◌≤◌, ◌<◌, List, [], ◌∷◌, ◌++◌, length, map, slice_index_or, All, AllPairs, refl, sym, ◌∙◌, ap, subst, arith}
use Rattle.fut_types.specs.declared.Head.{Head}
use Rattle.fut_types.specs.declared.shapes.ShapeTable.{ShapeTable}
use Rattle.fut_types.specs.Shapes.{Shapes, HasPart}
use Rattle.fut_types.specs.Types.{Ty, Var, Made, more, Sub, applied, all_applied, row}
use Rattle.fut_types.proofs.TyLaws.{applied_var, applied_made}
use Rattle.type_graph.specs.declared.Form.{Form}
use Rattle.type_graph.specs.declared.Form.TheVariants as form
use Rattle.type_graph.specs.declared.Node.{Node}
use Rattle.type_graph.specs.declared.Entry.{Entry}
use Rattle.type_graph.specs.Graph.{node_at, entry_at, All_named}
use Rattle.unify.specs.declared.Ty.{Ty as Tree}
use Rattle.unify.specs.declared.Ty.TheVariants as tree
use Rattle.unify.specs.Substitutions.{type_of, row_of, nothing, Has_parts, Bound, Within, All_within, Each_variable, All_variables}
use Rattle.unify.specs.Reading.{variables, chain_of, known_of, bind_of, known_from, binds_from}
use Rattle.unify.proofs.Trees.{type_var, type_made}

pub type_at : (n : ℕ) → type_of (tree.Var n) ≡ Var n
type_at n = type_var (tree.Var n) n refl

pub variable_applied : (a : Sub) (n : ℕ) → applied a (type_of (tree.Var n)) ≡ a n
variable_applied a n = ap (applied a) (type_at n) ∙ applied_var a n

-- rows of variables
row_applied : (a : Sub) (x n : ℕ) → all_applied a (row_of (map type_of (variables x n))) ≡ row a x n
unfolding applied variables
row_applied a x zero = refl
row_applied a x (suc n) = λ i. more (variable_applied a x i) (row_applied a (suc x) n i)

pub made_of_row : (a : Sub) (t : Tree) (h : Head) (x n : ℕ) → t ≡ tree.Made h (variables x n) → applied a (type_of t) ≡ Made h (row a x n)
made_of_row a t h x n e = ap (applied a) (type_made t h (variables x n) e) ∙ applied_made a h (row_of (map type_of (variables x n))) ∙ ap (Made h) (row_applied a x n)

pub row_within : (table : ShapeTable) (m x n : ℕ) → x + n ≤ m → All_within table m (row_of (map type_of (variables x n)))
unfolding variables Within
row_within table m x zero le = tt
row_within table m x (suc n) le = (subst (Within table m) (sym (type_at x)) (omega arith), row_within table m (suc x) n (omega arith))

pub row_each : (P : ℕ → Type 0) (x n : ℕ) → ((p : ℕ) → p < n → P (x + p)) → All_variables P (row_of (map type_of (variables x n)))
unfolding variables Each_variable
row_each P x zero h = tt
row_each P x (suc n) h = (subst (Each_variable P) (sym (type_at x)) (subst P (omega arith) (h 0 (omega arith))), row_each P (suc x) n (λ p lt. subst P (omega arith) (h (suc p) (omega arith))))

-- parts with names
pub chain_has : (S : Shapes) (entries : List Entry) (a : Sub) (t : Ty) (e n : ℕ) → All_named S (entry_at entries) a t e n → Has_parts S a t (chain_of entries e n)
unfolding All_named chain_of
chain_has S entries a t e zero h k d lt = absurd (omega arith)
chain_has S entries a t e (suc n) h zero d lt = subst (HasPart S (entry_at entries e).label t) (sym (variable_applied a (entry_at entries e).child)) h.0
chain_has S entries a t e (suc n) h (suc k) d lt = chain_has S entries a t (entry_at entries e).next n h.1 k d (omega arith)

pub chain_named : (S : Shapes) (entries : List Entry) (a : Sub) (t : Ty) (e n : ℕ) → Has_parts S a t (chain_of entries e n) → All_named S (entry_at entries) a t e n
unfolding All_named chain_of
chain_named S entries a t e zero h = tt
chain_named S entries a t e (suc n) h = (
  subst (HasPart S (entry_at entries e).label t) (variable_applied a (entry_at entries e).child) (h 0 (0, tree.Var 0) (omega arith)),
  chain_named S entries a t (entry_at entries e).next n (λ k d lt. h (suc k) d (omega arith)),
)

-- what is known of the variable of a node
pub known_long : (entries : List Entry) (nodes : List Node) → length (known_from entries nodes) ≡ length nodes
unfolding known_from
known_long entries [] = refl
known_long entries (x ∷ xs) = ap suc (known_long entries xs)

pub known_read : (entries : List Entry) (nodes : List Node) (v : ℕ) → slice_index_or (known_from entries nodes) v nothing ≡ known_of entries (node_at nodes v)
unfolding known_from node_at
known_read entries [] v = refl
known_read entries (x ∷ xs) zero = refl
known_read entries (x ∷ xs) (suc v) = known_read entries xs v

-- all binds, node by node
all_append : {X : Type 0} (P : X → Type 0) (xs ys : List X) → All P xs → All P ys → All P (xs ++ ys)
all_append {X} P [] ys h g k d lt = g k d lt
all_append {X} P (x ∷ xs) ys h g zero d lt = h 0 d (omega arith)
all_append {X} P (x ∷ xs) ys h g (suc k) d lt = all_append P xs ys (λ k d lt. h (suc k) d (omega arith)) g k d (omega arith)

before : {X : Type 0} (P : X → Type 0) (xs ys : List X) → All P (xs ++ ys) → All P xs
before {X} P [] ys h k d lt = absurd (omega arith)
before {X} P (x ∷ xs) ys h zero d lt = h 0 d (omega arith)
before {X} P (x ∷ xs) ys h (suc k) d lt = before P xs ys (λ k d lt. h (suc k) d (omega arith)) k d (omega arith)

behind : {X : Type 0} (P : X → Type 0) (xs ys : List X) → All P (xs ++ ys) → All P ys
behind {X} P [] ys h = h
behind {X} P (x ∷ xs) ys h = behind P xs ys (λ k d lt. h (suc k) d (omega arith))

pub all_none : {X : Type 0} (P : X → Type 0) → All P []
all_none {X} P k d lt = absurd (omega arith)

pub all_one : {X : Type 0} (P : X → Type 0) (x : X) → P x → All P (x ∷ [])
all_one {X} P x p zero d lt = p
all_one {X} P x p (suc k) d lt = absurd (omega arith)

binds_from_all : (P : ℕ × Tree → Type 0) (nodes : List Node) (k : ℕ) → ((i : ℕ) → i < length nodes → All P (bind_of (k + i) (node_at nodes i).form)) → All P (binds_from k nodes)
unfolding binds_from node_at
binds_from_all P [] k h = all_none P
binds_from_all P (x ∷ xs) k h = all_append P (bind_of k x.form) (binds_from (suc k) xs)
    (subst (λ j. All P (bind_of j x.form)) (let e : k + 0 ≡ k = omega arith in e) (h 0 (omega arith)))
    (binds_from_all P xs (suc k) (λ i lt. subst (λ j. All P (bind_of j (node_at xs i).form)) (let e : k + suc i ≡ suc k + i = omega arith in e) (h (suc i) (omega arith))))

binds_from_at : (P : ℕ × Tree → Type 0) (nodes : List Node) (k : ℕ) → All P (binds_from k nodes) → (i : ℕ) → i < length nodes → All P (bind_of (k + i) (node_at nodes i).form)
unfolding binds_from node_at
binds_from_at P [] k h i lt = absurd (omega arith)
binds_from_at P (x ∷ xs) k h zero lt = subst (λ j. All P (bind_of j x.form)) (let e : k ≡ k + 0 = omega arith in e) (before P (bind_of k x.form) (binds_from (suc k) xs) h)
binds_from_at P (x ∷ xs) k h (suc i) lt = subst (λ j. All P (bind_of j (node_at xs i).form)) (let e : suc k + i ≡ k + suc i = omega arith in e) (binds_from_at P xs (suc k) (behind P (bind_of k x.form) (binds_from (suc k) xs) h) i (omega arith))

pub all_binds : (P : ℕ × Tree → Type 0) (nodes : List Node) → ((i : ℕ) → i < length nodes → All P (bind_of i (node_at nodes i).form)) → All P (binds_from 0 nodes)
all_binds P nodes h = binds_from_all P nodes 0 (λ i lt. subst (λ j. All P (bind_of j (node_at nodes i).form)) (let e : i ≡ 0 + i = omega arith in e) (h i lt))

pub binds_at : (P : ℕ × Tree → Type 0) (nodes : List Node) → All P (binds_from 0 nodes) → (i : ℕ) → i < length nodes → All P (bind_of i (node_at nodes i).form)
binds_at P nodes h i lt = subst (λ j. All P (bind_of j (node_at nodes i).form)) (let e : 0 + i ≡ i = omega arith in e) (binds_from_at P nodes 0 h i lt)

-- each node has a bind at most, and numbers rise
bind_number : (P : ℕ → Type 0) (i : ℕ) (f : Form) → P i → All (λ b. P b.0) (bind_of i f)
bind_number P i form.Free p = all_none (λ (b : ℕ × Tree). P b.0)
bind_number P i (form.Link j) p = all_one (λ (b : ℕ × Tree). P b.0) (i, tree.Var j) p
bind_number P i (form.Made h x n) p = all_one (λ (b : ℕ × Tree). P b.0) (i, tree.Made h (variables x n)) p
bind_number P i (form.Open e n) p = all_none (λ (b : ℕ × Tree). P b.0)

later_numbers : (nodes : List Node) (k m : ℕ) → m < k → All (λ b. m ≢ b.0) (binds_from k nodes)
later_numbers nodes k m lt = binds_from_all (λ b. m ≢ b.0) nodes k (λ i l. bind_number (λ j. m ≢ j) (k + i) (node_at nodes i).form (λ e. absurd (let z : m ≡ k + i = e in omega arith)))

pairs_more : {X : Type 0} (R : X → X → Type 0) (x : X) (xs : List X) → All (R x) xs → AllPairs R xs → AllPairs R (x ∷ xs)
pairs_more {X} R x xs h g i zero d p q = absurd (omega arith)
pairs_more {X} R x xs h g zero (suc j) d p q = h j d (omega arith)
pairs_more {X} R x xs h g (suc i) (suc j) d p q = g i j d (omega arith) (omega arith)

one_more : (k : ℕ) (xs : List Node) (f : Form) → AllPairs (λ b c. b.0 ≢ c.0) (binds_from (suc k) xs) → AllPairs (λ b c. b.0 ≢ c.0) (bind_of k f ++ binds_from (suc k) xs)
one_more k xs form.Free h = h
one_more k xs (form.Link j) h = pairs_more (λ (b c : ℕ × Tree). b.0 ≢ c.0) (k, tree.Var j) (binds_from (suc k) xs) (later_numbers xs (suc k) k (omega arith)) h
one_more k xs (form.Made hd x n) h = pairs_more (λ (b c : ℕ × Tree). b.0 ≢ c.0) (k, tree.Made hd (variables x n)) (binds_from (suc k) xs) (later_numbers xs (suc k) k (omega arith)) h
one_more k xs (form.Open e n) h = h

pub binds_once : (nodes : List Node) (k : ℕ) → AllPairs (λ b c. b.0 ≢ c.0) (binds_from k nodes)
unfolding binds_from
binds_once [] k = λ i j d p q. absurd (omega arith)
binds_once (x ∷ xs) k = one_more k xs x.form (binds_once xs (suc k))

-- what a bind says is what the form says
abbrev pub Says : Sub → ℕ → Form → Type 0
Says a i form.Free = Unit {0}
Says a i (form.Link j) = a i ≡ a j
Says a i (form.Made h x n) = a i ≡ Made h (row a x n)
Says a i (form.Open e n) = Unit {0}

says_bound : (a : Sub) (i : ℕ) (f : Form) → Says a i f → Bound a (bind_of i f)
says_bound a i form.Free s = all_none (λ (b : ℕ × Tree). a b.0 ≡ applied a (type_of b.1))
says_bound a i (form.Link j) s = all_one (λ (b : ℕ × Tree). a b.0 ≡ applied a (type_of b.1)) (i, tree.Var j) (s ∙ sym (variable_applied a j))
says_bound a i (form.Made h x n) s = all_one (λ (b : ℕ × Tree). a b.0 ≡ applied a (type_of b.1)) (i, tree.Made h (variables x n)) (s ∙ sym (made_of_row a _ h x n refl))
says_bound a i (form.Open e n) s = all_none (λ (b : ℕ × Tree). a b.0 ≡ applied a (type_of b.1))

bound_says : (a : Sub) (i : ℕ) (f : Form) → Bound a (bind_of i f) → Says a i f
bound_says a i form.Free h = tt
bound_says a i (form.Link j) h = h 0 (0, tree.Var 0) (omega arith) ∙ variable_applied a j
bound_says a i (form.Made hd x n) h = h 0 (0, tree.Var 0) (omega arith) ∙ made_of_row a _ hd x n refl
bound_says a i (form.Open e n) h = tt

pub all_says : (a : Sub) (nodes : List Node) → ((i : ℕ) → i < length nodes → Says a i (node_at nodes i).form) → Bound a (binds_from 0 nodes)
all_says a nodes h = all_binds (λ b. a b.0 ≡ applied a (type_of b.1)) nodes (λ i lt. says_bound a i (node_at nodes i).form (h i lt))

pub says_at : (a : Sub) (nodes : List Node) → Bound a (binds_from 0 nodes) → (i : ℕ) → i < length nodes → Says a i (node_at nodes i).form
says_at a nodes h i lt = bound_says a i (node_at nodes i).form (binds_at (λ b. a b.0 ≡ applied a (type_of b.1)) nodes h i lt)
