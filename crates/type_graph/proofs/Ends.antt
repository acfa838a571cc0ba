-- How the functions end.
use Rattle.std.proofs.Common.{◌≡◌, ◌≢◌, ℕ, zero, suc, ◌+◌, ◌-◌, ◌≤◌, ◌<◌, List, [], ◌∷◌, ◌++◌, length, refl, sym, ◌∙◌, ap, subst, arith, append_assoc, min, max, Some, None, OnOk, IfErr, Result, Ok, Err, ◌↔◌, IsTrue, Bool, true, false}
use mathlib.Core.Logic.{◌⊎◌, inl, inr}
use Rattle.fut_types.specs.declared.Kind.{Kind}
use Rattle.fut_types.specs.declared.Head.{Head}
use Rattle.fut_types.specs.declared.shapes.ShapeTable.{ShapeTable}
use Rattle.fut_types.specs.Types.{level}
use Rattle.fut_types.specs.Shapes.{place, Tells_position}
use Rattle.type_graph.specs.declared.Form.{Form}
use Rattle.type_graph.specs.declared.Form.TheVariants as form
use Rattle.type_graph.specs.declared.Node.{Node}
use Rattle.type_graph.specs.declared.Entry.{Entry}
use Rattle.type_graph.specs.declared.Task.{Task}
use Rattle.type_graph.specs.declared.Task.TheVariants as task
use Rattle.type_graph.specs.declared.UnifyErr.{UnifyErr}
use Rattle.type_graph.specs.declared.UnifyErr.TheVariants as err
use Rattle.type_graph.specs.Graph.{node_at, with_node, entry_at, Tables, read, Lacks, Told, Listed, Closed, IsGraph, IsBound, Bound, IsTask, IsEntry, AreEntries, Grows, IsRoot, Starts, Opens, IsNamed, Shows, Within, Found, Reduces, Does, Linked, Refuses, Tells, parts_of, pairs, all_have, chain_tasks}
use Rattle.type_graph.specs.State.{form_cap}
use Rattle.type_graph.proofs.PartLaws.{reads}
use Rattle.type_graph.proofs.Reducing.{Turns, unite_free, unite_made, unite_open, raised, no_kind_here, opened, has_already, same_already, part_known, made_part, lacks_name, lacks_place, turned, turns_roots}

append_none : {X : Type 0} (xs : List X) → xs ≡ xs ++ []
append_none [] = refl
append_none (x ∷ xs) = ap (λ l. x ∷ l) (append_none xs)

pub does_none : (table : ShapeTable) (m : ℕ) (T : Tables) (nodes : List Node) (tasks : List Task) (t : Task) (nodes' : List Node) → Reduces table m T nodes t nodes' [] → Does table m T nodes tasks t nodes' tasks
does_none table m T nodes tasks t nodes' r = record { added = []; is = append_none tasks; reduces = r }

-- one push after another
then_more : (t0 t1 t2 xs ys : List Task) → t1 ≡ t0 ++ xs → t2 ≡ t1 ++ ys → t2 ≡ t0 ++ (xs ++ ys)
then_more t0 t1 t2 xs ys p q = q ∙ ap (λ l. l ++ ys) p ∙ append_assoc t0 xs ys

pub on_ok : {T E P Q : Type 0} (r : Result T E) → (P → Q) → OnOk r P → OnOk r Q
on_ok (Ok v) f p = f p
on_ok (Err e) f p = tt

pub tells : {P Q : Type 0} (e : UnifyErr) → (P → Q) → Tells P e → Tells Q e
tells (err.Clash i j) f p = f p
tells (err.BadKind i k) f p = f p
tells (err.Infinite i) f p = f p
tells err.Memory f p = tt

pub if_err : {T P Q : Type 0} (r : Result T UnifyErr) → (P → Q) → IfErr r (Tells P) → IfErr r (Tells Q)
if_err (Ok v) f p = tt
if_err (Err e) f p = tells e f p

pub not_true : {P : Type 0} (b : Bool) → (IsTrue b ↔ P) → b ≡ false → P → ⊥
not_true b iff e p = let h : false ≡ true = sym e ∙ iff.1 p in cc

-- entries
pub closed : (table : ShapeTable) (n : ℕ) (entries : List Entry) → AreEntries table n entries → Closed entries
closed table n entries a e lt = (a.within e lt).2

entry_last : (entries : List Entry) (y : Entry) → entry_at (entries ++ y ∷ []) (length entries) ≡ y
unfolding entry_at
entry_last [] y = refl
entry_last (x ∷ xs) y = entry_last xs y

entry_old : (entries : List Entry) (y : Entry) (e : ℕ) → e < length entries → entry_at (entries ++ y ∷ []) e ≡ entry_at entries e
unfolding entry_at
entry_old [] y e h = absurd (omega arith)
entry_old (x ∷ xs) y zero h = refl
entry_old (x ∷ xs) y (suc e) h = entry_old xs y e (omega arith)

pub long_push : (entries : List Entry) (y : Entry) → length (entries ++ y ∷ []) ≡ length entries + 1
long_push [] y = refl
long_push (x ∷ xs) y = let e : length (xs ++ y ∷ []) ≡ length xs + 1 = long_push xs y in omega arith

entry_more : (table : ShapeTable) (n m m' : ℕ) (y : Entry) → m ≤ m' → IsEntry table n m y → IsEntry table n m' y
entry_more table n m m' y h p = (p.0, p.1, (let q : y.next < m = p.2 in omega arith))

pub grows_none : (table : ShapeTable) (n : ℕ) (entries : List Entry) → AreEntries table n entries → Grows table n entries entries
grows_none table n entries a = record { are = a; more = omega arith; stay = λ e lt. refl }

less_or : (e n : ℕ) → e < n + 1 → (e < n) ⊎ (e ≡ n)
less_or zero zero h = inr refl
less_or zero (suc n) h = inl (omega arith)
less_or (suc e) zero h = absurd (omega arith)
less_or (suc e) (suc n) h = elim (less_or e n (omega arith)) as (λ d. (suc e < suc n) ⊎ (suc e ≡ suc n)) [ inl p ↦ inl (omega arith) | inr p ↦ inr (ap suc p) ]

pub grows_push : (table : ShapeTable) (n : ℕ) (entries entries' : List Entry) (y : Entry) → AreEntries table n entries → entries' ≡ entries ++ y ∷ [] → IsEntry table n (length entries + 1) y → Grows table n entries entries'
grows_push table n entries entries' y a is p = subst (Grows table n entries) (sym is) (record {
  are = record {
    within = λ e lt. elim (less_or e (length entries) (subst (λ l. e < l) (long_push entries y) lt)) as (λ d. IsEntry table n (length (entries ++ y ∷ [])) (entry_at (entries ++ y ∷ []) e)) [
      | inl h ↦ subst (IsEntry table n (length (entries ++ y ∷ []))) (sym (entry_old entries y e h)) (entry_more table n (length entries) _ (entry_at entries e) (let l : length (entries ++ y ∷ []) ≡ length entries + 1 = long_push entries y in omega arith) (a.within e h))
      | inr h ↦ subst (λ x. IsEntry table n (length (entries ++ y ∷ [])) (entry_at (entries ++ y ∷ []) x)) (sym h) (subst (IsEntry table n (length (entries ++ y ∷ []))) (sym (entry_last entries y)) (subst (λ l. IsEntry table n l y) (sym (long_push entries y)) p))
    ];
  };
  more = let l : length (entries ++ y ∷ []) ≡ length entries + 1 = long_push entries y in omega arith;
  stay = λ e lt. entry_old entries y e lt;
})

pub grows_either : (table : ShapeTable) (n : ℕ) (entries entries' : List Entry) (y : Entry) → AreEntries table n entries → IsEntry table n (length entries + 1) y → (entries' ≡ entries) ⊎ (entries' ≡ entries ++ y ∷ []) → Grows table n entries entries'
grows_either table n entries entries' y a p (inl e) = subst (Grows table n entries) (sym e) (grows_none table n entries a)
grows_either table n entries entries' y a p (inr e) = grows_push table n entries entries' y a e p

pub told_grows : (table : ShapeTable) (n : ℕ) (entries entries' : List Entry) (T : Tables) → Grows table n entries entries' → Told table entries' T → Told table entries T
told_grows table n entries entries' T g t = record { shapes = t.shapes; listed = λ e lt. t.listed e (let m : length entries ≤ length entries' = g.more in omega arith) ∙ g.stay e lt }

-- where parts are read
pub starts : (table : ShapeTable) (m : ℕ) (nodes : List Node) (i : ℕ) → IsGraph nodes → IsBound table m nodes → i < length nodes → Starts m (node_at nodes i).form
starts table m nodes i g b lt = go (node_at nodes i).form (g.within i lt) (b.forms i lt)
  where
    go : (f : Form) → Within (length nodes) i f → Bound table m f → Starts m f
    go form.Free w d = tt
    go (form.Link j) w d = tt
    go (form.Made h x n) w d = let s : length nodes < 4294967296 = g.short in omega arith
    go (form.Open e n) w d = d.0

-- `impose`
module _ (nodes : List Node) (i : ℕ) (nd : Node) (e : nd ≡ node_at nodes i) (h : i < length nodes) (r : IsRoot (node_at nodes i).form) (g : IsGraph nodes) where
  pub end_already : (table : ShapeTable) (m : ℕ) (T : Tables) (tasks : List Task) (k : Kind) (l : ℕ) → (level k ≤ level nd.kind) × (nd.level ≤ l) → Does table m T nodes tasks (task.Has i k l) nodes tasks
  end_already table m T tasks k l p = let q : (level k ≤ level (node_at nodes i).kind) × ((node_at nodes i).level ≤ l) = subst (λ n. (level k ≤ level n.kind) × (n.level ≤ l)) e p in
      does_none table m T _ _ _ _ (has_already table m T nodes g i k l h r q.0 q.1)

  module _ (k k1 : Kind) (l low : ℕ) (is : level k1 ≡ max (level k) (level nd.kind)) (low_is : low ≡ min l nd.level) (new : 0 < (level k - level nd.kind) + (nd.level - l)) where
    is' : level k1 ≡ max (level k) (level (node_at nodes i).kind)
    is' = subst (λ n. level k1 ≡ max (level k) (level n.kind)) e is

    new' : 0 < (level k - level (node_at nodes i).kind) + ((node_at nodes i).level - l)
    new' = subst (λ n. 0 < (level k - level n.kind) + (n.level - l)) e new

    low' : low ≡ min l (node_at nodes i).level
    low' = low_is ∙ ap (λ n. min l n.level) e

    pub end_raised : (table : ShapeTable) (entries : List Entry) (T : Tables) (tasks : List Task) (nodes' : List Node) (tasks' : List Task) → Told table entries T → AreEntries table (length nodes) entries → Starts (length entries) (node_at nodes i).form → level k1 ≤ form_cap nd.form
        → nodes' ≡ with_node nodes i (record { kind = k1; level = low; form = nd.form }) → tasks' ≡ tasks ++ all_have (parts_of T nd.form) k1 low → Does table (length entries) T nodes tasks (task.Has i k l) nodes' tasks'
    end_raised table entries T tasks nodes' tasks' told are st cap pn pt =
        let pn' : nodes' ≡ with_node nodes i (record { kind = k1; level = min l (node_at nodes i).level; form = (node_at nodes i).form }) = pn ∙ ap (λ n. with_node nodes i (record { kind = k1; level = low; form = n.form })) e ∙ ap (λ v. with_node nodes i (record { kind = k1; level = v; form = (node_at nodes i).form })) low' in
        let pt' : tasks' ≡ tasks ++ all_have (parts_of T (node_at nodes i).form) k1 (min l (node_at nodes i).level) = pt ∙ ap (λ n. tasks ++ all_have (parts_of T n.form) k1 low) e ∙ ap (λ v. tasks ++ all_have (parts_of T (node_at nodes i).form) k1 v) low' in
        record {
          added = all_have (parts_of T (node_at nodes i).form) k1 (min l (node_at nodes i).level);
          is = pt';
          reduces = subst (λ n. Reduces table (length entries) T nodes (task.Has i k l) n (all_have (parts_of T (node_at nodes i).form) k1 (min l (node_at nodes i).level))) (sym pn')
              (raised table (length entries) T nodes i k k1 l h g r is' new' (reads table (length nodes) entries T told.listed are) st (subst (λ n. level k1 ≤ form_cap n.form) e cap));
        }

    pub end_never : (T : Tables) → form_cap nd.form < level k1 → Refuses T nodes (task.Has i k l)
    end_never T lt = no_kind_here T nodes i k k1 l h g is' (subst (λ n. form_cap n.form < level k1) e lt)

-- two roots
module _ (nodes : List Node) (w l : ℕ) (nodes' : List Node) (lost : Node) (hw : w < length nodes) (hl : l < length nodes) (rw' : IsRoot (node_at nodes w).form) (rl : IsRoot (node_at nodes l).form) (ne : w ≢ l) (g : IsGraph nodes) (el : lost ≡ node_at nodes l) (d : Linked nodes w l nodes') where
  has_lost : (tasks tasks' : List Task) → tasks' ≡ tasks ++ task.Has w lost.kind lost.level ∷ [] → tasks' ≡ tasks ++ task.Has w (node_at nodes l).kind (node_at nodes l).level ∷ []
  has_lost tasks tasks' p = p ∙ ap (λ n. tasks ++ task.Has w n.kind n.level ∷ []) el

  pub end_free : (table : ShapeTable) (m : ℕ) (T : Tables) (tasks tasks' : List Task) → (node_at nodes l).form ≡ form.Free → tasks' ≡ tasks ++ task.Has w lost.kind lost.level ∷ [] → Does table m T nodes tasks (task.Same w l) nodes' tasks'
  end_free table m T tasks tasks' f p = record { added = _; is = has_lost tasks tasks' p; reduces = unite_free table m T nodes w l nodes' hw hl rw' rl ne g d f }

  pub end_open : (table : ShapeTable) (entries : List Entry) (T : Tables) (tasks t1 t2 : List Task) (e n : ℕ) → (node_at nodes l).form ≡ form.Open e n → e < length entries → Told table entries T → AreEntries table (length nodes) entries → t1 ≡ tasks ++ task.Has w lost.kind lost.level ∷ [] → t2 ≡ t1 ++ chain_tasks T w e n → Does table (length entries) T nodes tasks (task.Same w l) nodes' t2
  end_open table entries T tasks t1 t2 e n f lt told are p q = record {
    added = task.Has w (node_at nodes l).kind (node_at nodes l).level ∷ chain_tasks T w e n;
    is = then_more tasks t1 t2 _ _ (has_lost tasks t1 p) q;
    reduces = unite_open table (length entries) T nodes w l nodes' hw hl rw' rl ne g d e n f (reads table (length nodes) entries T told.listed are) lt;
  }

  pub end_made : (table : ShapeTable) (m : ℕ) (T : Tables) (tasks t1 t2 : List Task) (h k : Head) (x c y n : ℕ) → (node_at nodes w).form ≡ form.Made h x c → (node_at nodes l).form ≡ form.Made k y n → h ≡ k → c ≡ n → t1 ≡ tasks ++ task.Has w lost.kind lost.level ∷ [] → t2 ≡ t1 ++ pairs x y c → Does table m T nodes tasks (task.Same w l) nodes' t2
  end_made table m T tasks t1 t2 h k x c y n p q eh ec r s = record {
    added = task.Has w (node_at nodes l).kind (node_at nodes l).level ∷ pairs x y c;
    is = then_more tasks t1 t2 _ _ (has_lost tasks t1 r) s;
    reduces = unite_made table m T nodes w l nodes' hw hl rw' rl ne g d h x y c p (q ∙ (λ v. form.Made (sym eh v) y (sym ec v)));
  }

pub does_turned : {table : ShapeTable} {m : ℕ} {T : Tables} (nodes : List Node) (tasks : List Task) (t u : Task) (nodes' : List Node) (tasks' : List Task) → Turns nodes t u → Does table m T nodes tasks u nodes' tasks' → Does table m T nodes tasks t nodes' tasks'
does_turned nodes tasks t u nodes' tasks' n d = record { added = d.added; is = d.is; reduces = turned t u n d.reduces }

-- a part that is asked
pub end_opened : (table : ShapeTable) (T : Tables) (nodes : List Node) (tasks : List Task) (entries entries' : List Entry) (r : ℕ) (nd : Node) (y : Entry) (count number : ℕ) (nodes' : List Node) (tasks' : List Task)
    → Told table entries' T → y.child < length nodes → r < length nodes → IsGraph nodes → Opens (node_at nodes r).form y.next count → count ≤ length entries → nd ≡ node_at nodes r → level nd.kind ≤ 2 → number ≡ length entries → entries' ≡ entries ++ y ∷ []
    → ((T : Tables) → Listed entries T → Lacks T.entry y.label y.next count)
    → nodes' ≡ with_node nodes r (record { kind = nd.kind; level = nd.level; form = form.Open number (count + 1) }) → tasks' ≡ tasks ++ task.Has y.child nd.kind nd.level ∷ [] → Does table (length entries') T nodes tasks (task.Part r y.label y.child) nodes' tasks'
end_opened table T nodes tasks entries entries' r nd y count number nodes' tasks' told hc h g op cm en cap num grown lacks pn pt =
    let long : length entries' ≡ length entries + 1 = ap length grown ∙ long_push entries y in
    let here : T.entry number ≡ y = told.listed number (omega arith) ∙ ap (λ es. entry_at es number) grown ∙ ap (entry_at (entries ++ y ∷ [])) num ∙ entry_last entries y in record {
      added = task.Has y.child (node_at nodes r).kind (node_at nodes r).level ∷ [];
      is = pt ∙ ap (λ n. tasks ++ task.Has y.child n.kind n.level ∷ []) en;
      reduces = subst (λ n. Reduces table (length entries') T nodes (task.Part r y.label y.child) n (task.Has y.child (node_at nodes r).kind (node_at nodes r).level ∷ [])) (sym (pn ∙ ap (λ n. with_node nodes r (record { kind = n.kind; level = n.level; form = form.Open number (count + 1) })) en))
          (opened table (length entries') T nodes r y.label y.child y.next count number h hc g (opens_root (node_at nodes r).form y.next count op) op here (omega arith) (omega arith) (subst (λ n. level n.kind ≤ 2) en cap) (lacks T (λ e lt. told.listed e (omega arith) ∙ ap (λ es. entry_at es e) grown ∙ entry_old entries y e lt)));
    }
  where
    opens_root : (f : Form) (e n : ℕ) → Opens f e n → IsRoot f
    opens_root form.Free e n o = tt
    opens_root (form.Link j) e n o = absurd o
    opens_root (form.Made h x c) e n o = absurd o
    opens_root (form.Open s c) e n o = tt

module _ (table : ShapeTable) (nodes : List Node) (r label c : ℕ) (nd : Node) (g : IsGraph nodes) (h : r < length nodes) (hc : c < length nodes) (en : nd ≡ node_at nodes r) where
  form_is : (f : Form) → nd.form ≡ f → (node_at nodes r).form ≡ f
  form_is f p = sym (ap (λ n. n.form) en) ∙ p

  pub end_known : (entries : List Entry) (T : Tables) (tasks tasks' : List Task) (e n d : ℕ) → Told table entries T → AreEntries table (length nodes) entries → nd.form ≡ form.Open e n → ((T : Tables) → Listed entries T → IsNamed T e n label d) → (x : ℕ) × (x < length entries) × (d ≡ (entry_at entries x).child) → tasks' ≡ tasks ++ task.Same d c ∷ [] → Does table (length entries) T nodes tasks (task.Part r label c) nodes tasks'
  end_known entries T tasks tasks' e n d told are f named at p = record {
    added = task.Same d c ∷ [];
    is = p;
    reduces = part_known table (length entries) T nodes g r label c d hc (subst (λ x. x < length nodes) (sym at.2) (are.within at.0 at.1).0)
        (λ v K a s. named T told.listed a (a r) (subst (Shows (read T v) a (a r)) (form_is _ f) (s.fits r h).shows));
  }

  module _ (hd : Head) (x n : ℕ) (f : nd.form ≡ form.Made hd x n) where
    pub end_part : (entries : List Entry) (T : Tables) (tasks tasks' : List Task) (p : ℕ) → place T.shapes label hd ≡ Some p → p < n → tasks' ≡ tasks ++ task.Same (x + p) c ∷ [] → Does table (length entries) T nodes tasks (task.Part r label c) nodes tasks'
    end_part entries T tasks tasks' p is lt q = record {
      added = task.Same (x + p) c ∷ [];
      is = q;
      reduces = part_known table (length entries) T nodes g r label c (x + p) hc
          (let b : x + n ≤ length nodes = subst (Within (length nodes) r) (form_is _ f) (g.within r h) in omega arith)
          (made_part T nodes r label hd x n g h (form_is _ f) p is lt);
    }

    pub end_lacks : (T : Tables) → Tells_position None (place T.shapes label hd) → Refuses T nodes (task.Part r label c)
    end_lacks T is = lacks_name T nodes r label hd x n g h (form_is _ f) c is

    pub end_past : (T : Tables) (p : ℕ) → place T.shapes label hd ≡ Some p → n ≤ p → Refuses T nodes (task.Part r label c)
    end_past T p is le = lacks_place T nodes r label hd x n g h (form_is _ f) c p is le

-- `step`
pub has_within : (table : ShapeTable) (n i : ℕ) (k : Kind) (l : ℕ) → IsTask table n (task.Has i k l) → i < n
unfolding IsTask
has_within table n i k l h = h

pub same_within : (table : ShapeTable) (n i j : ℕ) → IsTask table n (task.Same i j) → (i < n) × (j < n)
unfolding IsTask
same_within table n i j h = h

pub part_within : (table : ShapeTable) (n i label c : ℕ) → IsTask table n (task.Part i label c) → (i < n) × (c < n) × (label < length table.positions)
unfolding IsTask
part_within table n i label c h = h

pub step_same : (table : ShapeTable) (m : ℕ) (T : Tables) (nodes : List Node) (tasks : List Task) (i j w l : ℕ) → IsGraph nodes → Found nodes i w → Found nodes j l → w ≡ l → Does table m T nodes tasks (task.Same i j) nodes tasks
step_same table m T nodes tasks i j w l g f h e = does_none _ _ _ _ _ _ _ (turned (task.Same i j) (task.Same w w) (turns_roots nodes i j w w f (subst (Found nodes j) (sym e) h)) (same_already table m T nodes g w))

-- the kind of a node, by its number in the chain
pub kind_above : (nodes : List Node) (r : ℕ) (nd : Node) (n : ℕ) → nd ≡ node_at nodes r → n ≡ level nd.kind → 2 < n → 2 < level (node_at nodes r).kind
kind_above nodes r nd n e is h = subst (λ m. 2 < level m.kind) e (subst (λ m. 2 < m) is h)

pub kind_below : (nd : Node) (n : ℕ) → n ≡ level nd.kind → n ≤ 2 → level nd.kind ≤ 2
kind_below nd n is h = subst (λ m. m ≤ 2) is h

pub open_within : (table : ShapeTable) (entries : List Entry) (nodes : List Node) (r : ℕ) (nd : Node) (e n : ℕ) → IsBound table (length entries) nodes → r < length nodes → nd ≡ node_at nodes r → nd.form ≡ form.Open e n → e < length entries + 1
open_within table entries nodes r nd e n b h en f = let p : (e < length entries) × (n ≤ length entries) = subst (Bound table (length entries)) (sym (ap (λ n. n.form) en) ∙ f) (b.forms r h) in let q : e < length entries = p.0 in omega arith

pub cap_above : (f : Form) (k : Kind) (n m : ℕ) → n ≡ form_cap f → m ≡ level k → n < m → form_cap f < level k
cap_above f k n m p q h = subst (λ x. x < level k) p (subst (λ x. n < x) q h)

pub cap_below : (f : Form) (k : Kind) (n m : ℕ) → n ≡ form_cap f → m ≡ level k → m ≤ n → level k ≤ form_cap f
cap_below f k n m p q h = subst (λ x. level k ≤ x) p (subst (λ x. x ≤ n) q h)
