-- The steps: two roots made equal, a note raised, a part asked of a root; and where there is nothing to do, or no way.
use Rattle.std.proofs.Common.{◌≡◌, ◌≢◌, ℕ, suc, ◌+◌, ◌-◌, ◌*◌, ◌≤◌, ◌<◌, List, [], ◌∷◌, ◌++◌, length, min, max, Option, Some, None, refl, sym, ◌∙◌, ap, subst, arith}
use mathlib.Core.Logic.{inl, inr}
use Rattle.std.proofs.Math.Nat.{suc-mul}
use Rattle.fut_types.specs.declared.Kind.{Kind}
use Rattle.fut_types.specs.declared.Head.{Head}
use Rattle.fut_types.specs.declared.Head.TheVariants as head
use Rattle.fut_types.specs.declared.shapes.ShapeTable.{ShapeTable}
use Rattle.fut_types.specs.Types.{Ty, Made, Tys, Sub, Kinds, level, rank, row}
use Rattle.fut_types.specs.Shapes.{Shapes, HasPart, place, Tells_position, most_parts}
use Rattle.fut_types.proofs.TyLaws.{level_most, same_head, same_parts, row_long, long}
use Rattle.fut_types.proofs.ShapeLaws.{one_part, named_rank, named_cap, named_row, past_row, told_lacks}
use Rattle.type_graph.specs.declared.Form.{Form}
use Rattle.type_graph.specs.declared.Form.TheVariants as form
use Rattle.type_graph.specs.declared.Node.{Node}
use Rattle.type_graph.specs.declared.Entry.{Entry}
use Rattle.type_graph.specs.declared.Task.{Task}
use Rattle.type_graph.specs.declared.Task.TheVariants as task
use Rattle.type_graph.specs.Graph.{node_at, with_node, Reading, Tables, read, Plain, type_made, Parts_fit, Fitting, IsParameter, Once, Lacks, Distinct, Shows, Names, All_named, Solves, Holds, Each, Meeting, Within, IsGraph, IsTask, Starts, Opens, arity, depth, roots, total, node_weight, task_weight, IsRoot, Found, Reduces, Linked, Refuses, parts_of, children, chained, pairs, all_have, chain_tasks}
use Rattle.type_graph.specs.State.{Ask, Obeys, Tops, Waits, Sure, form_cap, FixedTask}
use Rattle.type_graph.proofs.StateLaws.{each_map, obeys_more, waits_right, waits_each, state_other, fixed_less, fixed_same, fixed_min, asks_append, asks_left, asks_right, asks_less, asks_pairs, asks_all}
use Rattle.type_graph.proofs.PartLaws.{Reads, read_once, plain_made, fixed_parts, rank_parts, rank_form, within_parts, chain_within, have_within, have_hold, have_weight, long_parts, chain_weight, chain_hold, chain_names, chain_asks}
use Rattle.type_graph.proofs.Cases.{each_append, each_left, each_right, total_one, total_none, pairs_hold, pairs_row, pairs_within, pairs_weight, times_more, times_two, times_mono, united, root_changed, exchanged}

-- two roots are made equal
module _ (table : ShapeTable) (m : ℕ) (T : Tables) (nodes : List Node) (w l : ℕ) (nodes' : List Node) (hw : w < length nodes) (hl : l < length nodes) (rw' : IsRoot (node_at nodes w).form) (rl : IsRoot (node_at nodes l).form) (ne : w ≢ l) (g : IsGraph nodes) (d : Linked nodes w l nodes') where
  pub unite_free : (node_at nodes l).form ≡ form.Free → Reduces table m T nodes (task.Same w l) nodes' (task.Has w (node_at nodes l).kind (node_at nodes l).level ∷ [])
  unite_free e = united table m T nodes w l nodes' [] hw hl rw' rl ne d tt (λ r. rw (total_none (task_weight r)) (omega arith)) (λ S home born. tt) (λ v K a x y. tt) (λ v K a x y. subst (Shows (read T v) a (a w)) (sym e) tt)

  pub unite_made : (h : Head) (x y n : ℕ) → (node_at nodes w).form ≡ form.Made h x n → (node_at nodes l).form ≡ form.Made h y n → Reduces table m T nodes (task.Same w l) nodes' (task.Has w (node_at nodes l).kind (node_at nodes l).level ∷ pairs x y n)
  unite_made h x y n p q = united table m T nodes w l nodes' (pairs x y n) hw hl rw' rl ne d
      (pairs_within table (length nodes) x y n (subst (Within (length nodes) w) p (g.within w hw)) (subst (Within (length nodes) l) q (g.within l hl)))
      (λ r. subst (λ f. total (task_weight r) (pairs x y n) ≤ arity f * (depth * r + depth)) (sym q) (rw (pairs_weight r x y n) (times_two n (depth * r + depth) (omega arith))))
      (λ S home born. asks_pairs S home born x y n)
      (λ v K a s o. pairs_hold (read T v) K a x y n (same_row v a h x y n (subst Fitting p (g.fitting w hw)) (subst (Shows (read T v) a (a w)) p s) (subst (Shows (read T v) a (a w)) q o)))
      (λ v K a s o. subst (Shows (read T v) a (a w)) (sym q) (subst (Shows (read T v) a (a w)) p s ∙ ap (type_made v h) (pairs_row (read T v) K a x y n o)))
    where
      same_row : (v : Reading) (a : Sub) (h : Head) (x y n : ℕ) → Parts_fit h n → a w ≡ type_made v h (row a x n) → a w ≡ type_made v h (row a y n) → row a x n ≡ row a y n
      same_row v a h x y n fit p q = elim (read_once h n fit) as (λ o. row a x n ≡ row a y n) [
        | inl z ↦ ap (row a x) z ∙ sym (ap (row a y) z)
        | inr m ↦ same_parts h h _ _ (sym (p ∙ m v (row a x n)) ∙ q ∙ m v (row a y n))
      ]

  pub unite_open : (e n : ℕ) → (node_at nodes l).form ≡ form.Open e n → Reads table (length nodes) m T → e < m → Reduces table m T nodes (task.Same w l) nodes' (task.Has w (node_at nodes l).kind (node_at nodes l).level ∷ chain_tasks T w e n)
  unite_open e n q reads he = united table m T nodes w l nodes' (chain_tasks T w e n) hw hl rw' rl ne d
      (chain_within table (length nodes) m T reads w e n hw he)
      (λ r. subst (λ f. total (task_weight r) (chain_tasks T w e n) ≤ arity f * (depth * r + depth)) (sym q) (rw (chain_weight r T w e n) (times_mono n (depth * r + depth) (depth * r + 4294967302) (omega arith))))
      (λ S home born. chain_asks S home born T w e n)
      (λ v K a s o. chain_hold (read T v) K a w e n (subst (Shows (read T v) a (a w)) q o))
      (λ v K a s o. subst (Shows (read T v) a (a w)) (sym q) (chain_names (read T v) K a w e n o))

-- a kind or a level is noted anew
module _ (table : ShapeTable) (m : ℕ) (T : Tables) (nodes : List Node) (i : ℕ) (k k1 : Kind) (l : ℕ) (h : i < length nodes) (g : IsGraph nodes) (r : IsRoot (node_at nodes i).form)
    (is : level k1 ≡ max (level k) (level (node_at nodes i).kind)) (new : 0 < (level k - level (node_at nodes i).kind) + ((node_at nodes i).level - l)) where
  abbrev low : ℕ
  low = min l (node_at nodes i).level

  pub raised : Reads table (length nodes) m T → Starts m (node_at nodes i).form → level k1 ≤ form_cap (node_at nodes i).form
      → Reduces table m T nodes (task.Has i k l) (with_node nodes i (record { kind = k1; level = min l (node_at nodes i).level; form = (node_at nodes i).form })) (all_have (parts_of T (node_at nodes i).form) k1 (min l (node_at nodes i).level))
  unfolding Holds
  raised reads st cap = root_changed table m T nodes i (record { kind = k1; level = min l (node_at nodes i).level; form = (node_at nodes i).form }) (task.Has i k l) (all_have (parts_of T (node_at nodes i).form) k1 (min l (node_at nodes i).level)) h r r g
      (omega arith) (omega arith) cap (g.within i h) (g.fitting i h) (λ b. b.forms i h)
      (have_within table (length nodes) k1 low _ (within_parts table (length nodes) m T reads (node_at nodes i).form i (g.within i h) st))
      (let k4 : level k ≤ 4 = level_most k in
      let c4 : level (node_at nodes i).kind ≤ 4 = level_most (node_at nodes i).kind in
      let t : arity (node_at nodes i).form * (depth * roots nodes + (5 - level k1 + low)) + arity (node_at nodes i).form ≤ arity (node_at nodes i).form * (depth * roots nodes + (5 - level (node_at nodes i).kind + (node_at nodes i).level))
      = times_more (arity (node_at nodes i).form) (depth * roots nodes + (5 - level (node_at nodes i).kind + (node_at nodes i).level)) (depth * roots nodes + (5 - level k1 + low)) (omega arith) in
      let u : total (task_weight (roots nodes)) (all_have (parts_of T (node_at nodes i).form) k1 low) ≡ arity (node_at nodes i).form = have_weight (roots nodes) k1 low (parts_of T (node_at nodes i).form) ∙ long_parts T (node_at nodes i).form in
      omega arith)
      (λ K a s e. let q : level (node_at nodes i).kind ≤ rank K (a i) = (s.fits i h).has in
      let e' : level k ≤ rank K (a i) = e in
      let e1 : level k1 ≤ rank K (a i) = omega arith in
      (record { shows = (s.fits i h).shows; has = e1 }, have_hold T K a k1 low _ (rank_parts T K a (a i) (node_at nodes i).form (level k1) (g.fitting i h) e1 (s.fits i h).shows)))
      (λ v K a n f. f.shows)
      (λ v K a n f. let q : level k1 ≤ rank K (a i) = f.has in omega arith)
      (λ top t s q. elim [ inl v ↦ (sym v.0 ∙ t.selves i h r, obeys_more q k k1 l low (omega arith) (omega arith) v.1) | inr v ↦ absurd v ])
      (λ rest top q o old. each_map (λ c v. inr (waits_right top (top c) q rest _ v)) _ (waits_each top q k1 low o (parts_of T (node_at nodes i).form)))
      (λ o. o) (λ n p. p)
      (λ S home born sub f ft. let both = fixed_min S home born l (node_at nodes i).level i ft f in (both, asks_all S home born k1 low _ (fixed_parts T S home born low i (node_at nodes i).form (g.fitting i h) (λ v K a s. ((sub v K a s).0.fits i h).shows) both)))

-- no type of the form has the kind
pub no_kind_here : (T : Tables) (nodes : List Node) (i : ℕ) (k k1 : Kind) (l : ℕ) → i < length nodes → IsGraph nodes → level k1 ≡ max (level k) (level (node_at nodes i).kind) → form_cap (node_at nodes i).form < level k1 → Refuses T nodes (task.Has i k l)
unfolding Holds
no_kind_here T nodes i k k1 l h g is lt pl K a s q =
    let p : rank K (a i) ≤ form_cap (node_at nodes i).form = rank_form T K a (a i) (node_at nodes i).form (length nodes) i pl (g.fitting i h) (g.within i h) (s.fits i h).shows in
    let r : level (node_at nodes i).kind ≤ rank K (a i) = (s.fits i h).has in
    let q' : level k ≤ rank K (a i) = q in absurd (omega arith)

none_some : (p : ℕ) → None ≡ Some p → ⊥
none_some p e = subst is_none e tt
  where
    is_none : Option ℕ → Type 0
    is_none (Some z) = ⊥
    is_none None = Unit {0}

-- the parts that a root has, which is open or free
opens_shows : (T : Tables) (a : Sub) (t : Ty) (f : Form) (e n : ℕ) → Opens f e n → Shows T a t f → Names T a t e n
unfolding All_named
opens_shows T a t form.Free e n o s = subst (Names T a t e) (sym o) tt
opens_shows T a t (form.Link j) e n o s = absurd o
opens_shows T a t (form.Made h x c) e n o s = absurd o
opens_shows T a t (form.Open start c) e n o s = subst (λ x. Names T a t x n) (sym o.0) (subst (Names T a t start) (sym o.1) s)

opens_names : (T : Tables) (a : Sub) (t : Ty) (f : Form) (e n : ℕ) → Opens f e n → Names T a t e n → Shows T a t f
opens_names T a t form.Free e n o s = tt
opens_names T a t (form.Link j) e n o s = absurd o
opens_names T a t (form.Made h x c) e n o s = absurd o
opens_names T a t (form.Open start c) e n o s = subst (λ x. Names T a t x c) o.0 (subst (Names T a t e) o.1 s)

opens_parts : (T : Tables) (f : Form) (e n : ℕ) → Opens f e n → parts_of T f ≡ children T e n
unfolding chained
opens_parts T form.Free e n o = ap (children T e) (sym o)
opens_parts T (form.Link j) e n o = absurd o
opens_parts T (form.Made h x c) e n o = absurd o
opens_parts T (form.Open start c) e n o = ap (λ x. children T x c) (sym o.0) ∙ ap (children T e) (sym o.1)

opens_arity : (f : Form) (e n : ℕ) → Opens f e n → arity f ≡ n
opens_arity form.Free e n o = sym o
opens_arity (form.Link j) e n o = absurd o
opens_arity (form.Made h x c) e n o = absurd o
opens_arity (form.Open start c) e n o = sym o.1

-- no label stands twice in what there is already
opens_once : (T : Tables) (f : Form) (e n : ℕ) → Opens f e n → Once T f → Distinct T.entry e n
unfolding Distinct
opens_once T form.Free e n o w = subst (Distinct T.entry e) (sym o) tt
opens_once T (form.Link j) e n o w = absurd o
opens_once T (form.Made h x c) e n o w = absurd o
opens_once T (form.Open start c) e n o w = subst (λ x. Distinct T.entry x n) (sym o.0) (subst (Distinct T.entry start) (sym o.1) w)

pub open_no_parameter : (n e c : ℕ) → IsParameter n (form.Open e c) → ⊥
open_no_parameter n e c p = subst is_open p.3 tt
  where
    is_open : Form → Type 0
    is_open form.Free = ⊥
    is_open (form.Link j) = ⊥
    is_open (form.Made h x n) = ⊥
    is_open (form.Open e n) = Unit {0}

more_times : (n p q : ℕ) → q ≤ p → (n + 1) * q ≤ n * p + q
more_times n p q h = let e : (n + 1) * q ≡ n * q + q = ap (λ x. x * q) (omega arith) ∙ suc-mul n q ∙ omega arith in let f : n * q ≤ n * p = times_mono n p q h in omega arith

-- a root gets one part more
module _ (table : ShapeTable) (m : ℕ) (T : Tables) (nodes : List Node) (r label c e n number : ℕ) (h : r < length nodes) (hc : c < length nodes) (g : IsGraph nodes) (root : IsRoot (node_at nodes r).form) (op : Opens (node_at nodes r).form e n)
    (is : T.entry number ≡ record { label = label; child = c; next = e }) (nm : number < m) (cm : n + 1 ≤ m) where
  first_is : (a : Sub) (t : Ty) → Names T a t number (suc n) → HasPart T.shapes label t (a c) × Names T a t e n
  unfolding All_named
  first_is a t p = subst (λ (y : Entry). HasPart T.shapes y.label t (a y.child) × Names T a t y.next n) is p

  is_first : (a : Sub) (t : Ty) → HasPart T.shapes label t (a c) × Names T a t e n → Names T a t number (suc n)
  unfolding All_named
  is_first a t p = subst (λ (y : Entry). HasPart T.shapes y.label t (a y.child) × Names T a t y.next n) (sym is) p

  child_first : children T number (suc n) ≡ c ∷ children T e n
  unfolding chained
  child_first = ap (λ (y : Entry). y.child ∷ children T y.next n) is

  names_first : (a : Sub) (t : Ty) → Names T a t number (n + 1) → HasPart T.shapes label t (a c) × Names T a t e n
  names_first a t p = first_is a t (subst (Names T a t number) (omega arith) p)

  names_more : (a : Sub) (t : Ty) → HasPart T.shapes label t (a c) × Names T a t e n → Names T a t number (n + 1)
  names_more a t p = subst (Names T a t number) (omega arith) (is_first a t p)

  parts_more : children T number (n + 1) ≡ c ∷ parts_of T (node_at nodes r).form
  parts_more = ap (children T number) (omega arith) ∙ child_first ∙ ap (λ cs. c ∷ cs) (sym (opens_parts T (node_at nodes r).form e n op))

  distinct_first : Lacks T.entry label e n → Distinct T.entry e n → Distinct T.entry number (suc n)
  unfolding Distinct
  distinct_first l o = subst (λ (y : Entry). Lacks T.entry y.label y.next n × Distinct T.entry y.next n) (sym is) (l, o)

  distinct_more : Lacks T.entry label e n → Distinct T.entry e n → Distinct T.entry number (n + 1)
  distinct_more l o = subst (Distinct T.entry number) (omega arith) (distinct_first l o)

  pub opened : level (node_at nodes r).kind ≤ 2 → Lacks T.entry label e n → Reduces table m T nodes (task.Part r label c) (with_node nodes r (record { kind = (node_at nodes r).kind; level = (node_at nodes r).level; form = form.Open number (n + 1) })) (task.Has c (node_at nodes r).kind (node_at nodes r).level ∷ [])
  unfolding Holds IsTask
  opened kc lacks = root_changed table m T nodes r (record { kind = (node_at nodes r).kind; level = (node_at nodes r).level; form = form.Open number (n + 1) }) (task.Part r label c) (task.Has c (node_at nodes r).kind (node_at nodes r).level ∷ []) h root tt g
      (omega arith) (omega arith) kc (omega arith) tt (λ b. (nm, cm)) (hc, tt)
      (let k4 : level (node_at nodes r).kind ≤ 4 = level_most (node_at nodes r).kind in
      let near : (node_at nodes r).level ≤ 4294967295 = g.near r h in
      let ar : arity (node_at nodes r).form ≡ n = opens_arity (node_at nodes r).form e n op in
      let t : (n + 1) * (depth * roots nodes + (5 - level (node_at nodes r).kind + (node_at nodes r).level)) ≤ n * (depth * roots nodes + (5 - level (node_at nodes r).kind + (node_at nodes r).level)) + (depth * roots nodes + (5 - level (node_at nodes r).kind + (node_at nodes r).level))
      = more_times n (depth * roots nodes + (5 - level (node_at nodes r).kind + (node_at nodes r).level)) (depth * roots nodes + (5 - level (node_at nodes r).kind + (node_at nodes r).level)) (omega arith) in
      let v : arity (node_at nodes r).form * (depth * roots nodes + (5 - level (node_at nodes r).kind + (node_at nodes r).level)) ≡ n * (depth * roots nodes + (5 - level (node_at nodes r).kind + (node_at nodes r).level)) = ap (λ x. x * (depth * roots nodes + (5 - level (node_at nodes r).kind + (node_at nodes r).level))) ar in
      let u : total (task_weight (roots nodes)) (task.Has c (node_at nodes r).kind (node_at nodes r).level ∷ []) ≡ 1 = total_one (task_weight (roots nodes)) (task.Has c (node_at nodes r).kind (node_at nodes r).level) [] ∙ ap (λ x. 1 + x) (total_none (task_weight (roots nodes))) in
      omega arith)
      (λ K a s q. (
        record { shows = names_more a (a r) (q, opens_shows T a (a r) (node_at nodes r).form e n op (s.fits r h).shows); has = (s.fits r h).has },
        ((let x : rank K (a r) ≤ rank K (a c) = named_rank T.shapes label K (a r) (a c) q in let y : level (node_at nodes r).kind ≤ rank K (a r) = (s.fits r h).has in omega arith), tt),
      ))
      (λ v K a x f. opens_names (read T v) a (a r) (node_at nodes r).form e n op (names_first a (a r) f.shows).1)
      (λ v K a x f. (names_first a (a r) f.shows).0)
      (λ top t s q v. absurd v)
      (λ rest top q o old. subst (Each (Sure (with_node nodes r (record { kind = (node_at nodes r).kind; level = (node_at nodes r).level; form = form.Open number (n + 1) })) (rest ++ task.Has c (node_at nodes r).kind (node_at nodes r).level ∷ []) top q)) (sym parts_more)
      (inr (waits_right top (top c) q rest _ (inl (refl, o))), old o))
      (λ o. distinct_more lacks (opens_once T (node_at nodes r).form e n op o)) (λ k p. absurd (open_no_parameter k number (n + 1) p))
      (λ S home born sub f ft. (f, ((λ lt v K a v' K' a' s s' same. one_part T.shapes label (a r) (a c) (a' c) (sub v K a s).1 (subst (λ t. HasPart T.shapes label t (a' c)) (sym (f lt v K a v' K' a' s s' same)) (sub v' K' a' s').1)), tt)))

-- what has named parts is at most equal
pub no_kind_named : (T : Tables) (nodes : List Node) (r label c : ℕ) → r < length nodes → 2 < level (node_at nodes r).kind → Refuses T nodes (task.Part r label c)
unfolding Holds
no_kind_named T nodes r label c h lt pl K a s q = let p : rank K (a r) ≤ 2 = named_cap T.shapes label K (a r) (a c) q in let k : level (node_at nodes r).kind ≤ rank K (a r) = (s.fits r h).has in absurd (omega arith)

module _ (table : ShapeTable) (m : ℕ) (T : Tables) (nodes : List Node) (g : IsGraph nodes) where
  -- where nothing need be done
  pub has_already : (i : ℕ) (k : Kind) (l : ℕ) → i < length nodes → IsRoot (node_at nodes i).form → level k ≤ level (node_at nodes i).kind → (node_at nodes i).level ≤ l → Reduces table m T nodes (task.Has i k l) nodes []
  unfolding Holds
  has_already i k l h r le ll = exchanged table m T nodes (task.Has i k l) [] g tt (rw (total_none (task_weight (roots nodes))) (omega arith)) (λ K a s e. tt)
      (λ v K a s e. let q : level (node_at nodes i).kind ≤ rank K (a i) = (s.fits i h).has in omega arith)
      (λ top t s q. elim [ inl v ↦ inl (subst (λ j. Obeys q (node_at nodes j).kind (node_at nodes j).level) (sym (t.selves i h r) ∙ v.0) (obeys_more q k _ l _ le ll v.1)) | inr v ↦ absurd v ])
      (λ S home born f. tt)

  pub same_already : (i : ℕ) → Reduces table m T nodes (task.Same i i) nodes []
  unfolding Holds
  same_already i = exchanged table m T nodes (task.Same i i) [] g tt (rw (total_none (task_weight (roots nodes))) (omega arith)) (λ K a s e. tt) (λ v K a s e. refl) (λ top t s q v. absurd v) (λ S home born f. tt)

  -- a part that is known
  pub part_known : (r label c d : ℕ) → c < length nodes → d < length nodes → ((v : Reading) (K : Kinds) (a : Sub) → Solves (read T v) K a nodes → HasPart T.shapes label (a r) (a d)) → Reduces table m T nodes (task.Part r label c) nodes (task.Same d c ∷ [])
  unfolding Holds IsTask
  part_known r label c d hc hd has = exchanged table m T nodes (task.Part r label c) (task.Same d c ∷ []) g ((hd, hc), tt)
      (let u : total (task_weight (roots nodes)) (task.Same d c ∷ []) ≡ 2 = total_one (task_weight (roots nodes)) (task.Same d c) [] ∙ ap (λ x. 2 + x) (total_none (task_weight (roots nodes))) in omega arith)
      (λ K a s e. (one_part T.shapes label (a r) (a d) (a c) (has T.rigid K a s) e, tt))
      (λ v K a s e. subst (HasPart T.shapes label (a r)) e.0 (has v K a s))
      (λ top t s q v. absurd v) (λ S home born f. (tt, tt))

-- a made type where each type parameter stands for itself
plain_is : (T : Tables) (nodes : List Node) (i : ℕ) (h : Head) (x n : ℕ) → IsGraph nodes → i < length nodes → (node_at nodes i).form ≡ form.Made h x n → Plain T → (K : Kinds) (a : Sub) → Solves T K a nodes → a i ≡ Made h (row a x n)
plain_is T nodes i h x n g hi e pl K a s = subst (Shows T a (a i)) e (s.fits i hi).shows ∙ plain_made T a h x n pl (subst Fitting e (g.fitting i hi))

-- no type has both forms
module _ (T : Tables) (nodes : List Node) (i j : ℕ) (g h : Head) (x m y n : ℕ) (gr : IsGraph nodes) (hi : i < length nodes) (hj : j < length nodes) (p : (node_at nodes i).form ≡ form.Made g x m) (q : (node_at nodes j).form ≡ form.Made h y n) where
  pub heads_clash : (g ≡ h → ⊥) → Refuses T nodes (task.Same i j)
  unfolding Holds
  heads_clash never pl K a s e = never (same_head g h _ _ (sym (plain_is T nodes i g x m gr hi p pl K a s) ∙ e ∙ plain_is T nodes j h y n gr hj q pl K a s))

  pub counts_clash : m ≢ n → Refuses T nodes (task.Same i j)
  unfolding Holds
  counts_clash ne pl K a s e = ne (sym (row_long a x m) ∙ ap long (same_parts g h _ _ (sym (plain_is T nodes i g x m gr hi p pl K a s) ∙ e ∙ plain_is T nodes j h y n gr hj q pl K a s)) ∙ row_long a y n)

-- a head that names a part is read in one way
place_plain : (S : Shapes) (label p : ℕ) (v : Reading) (h : Head) (ts : Tys) → place S label h ≡ Some p → type_made v h ts ≡ Made h ts
unfolding place
place_plain S label p v (head.Rigid n k) ts e = absurd (none_some p e)
place_plain S label p v (head.Scalar s) ts e = refl
place_plain S label p v head.Array ts e = refl
place_plain S label p v head.Tuple ts e = refl
place_plain S label p v (head.Record n) ts e = refl
place_plain S label p v head.Fun ts e = refl
place_plain S label p v (head.Abstract n d) ts e = refl

-- a made type has the parts that its head names, and no others
module _ (T : Tables) (nodes : List Node) (r label : ℕ) (h : Head) (x n : ℕ) (g : IsGraph nodes) (hr : r < length nodes) (e : (node_at nodes r).form ≡ form.Made h x n) where
  pub made_part : (p : ℕ) → place T.shapes label h ≡ Some p → p < n → (v : Reading) (K : Kinds) (a : Sub) → Solves (read T v) K a nodes → HasPart T.shapes label (a r) (a (x + p))
  made_part p is lt v K a s = subst (λ t. HasPart T.shapes label t (a (x + p))) (sym (subst (Shows (read T v) a (a r)) e (s.fits r hr).shows ∙ place_plain T.shapes label p v h (row a x n) is)) (named_row T.shapes label h a x n p is lt)

  pub lacks_name : (c : ℕ) → Tells_position None (place T.shapes label h) → Refuses T nodes (task.Part r label c)
  unfolding Holds
  lacks_name c absent pl K a s q = told_lacks T.shapes label h a x n (a c) absent
      (let b : x + n ≤ length nodes = subst (Within (length nodes) r) e (g.within r hr) in let short : length nodes < most_parts = g.short in omega arith) (subst (λ t. HasPart T.shapes label t (a c)) (plain_is T nodes r h x n g hr e pl K a s) q)

  pub lacks_place : (c p : ℕ) → place T.shapes label h ≡ Some p → n ≤ p → Refuses T nodes (task.Part r label c)
  unfolding Holds
  lacks_place c p is le pl K a s q = past_row T.shapes label h a x n p (a c) is le (subst (λ t. HasPart T.shapes label t (a c)) (plain_is T nodes r h x n g hr e pl K a s) q)

-- one task in place of another
pub record Turns (nodes : List Node) (t u : Task) : Type 1 where
  pub to : (T : Tables) (K : Kinds) (a : Sub) → Solves T K a nodes → Holds T K a t → Holds T K a u
  pub fro : (T : Tables) (K : Kinds) (a : Sub) → Solves T K a nodes → Holds T K a u → Holds T K a t
  pub weight : (r : ℕ) → task_weight r t ≡ task_weight r u
  pub waits : (top : ℕ → ℕ) → Tops nodes top → (r : ℕ) (q : Ask) → Waits top r q (t ∷ []) → Waits top r q (u ∷ [])
  pub asks : (T : Tables) (S : Reading → Kinds → Sub → Type 0) (home born : ℕ → ℕ) → ((v : Reading) (K : Kinds) (a : Sub) → S v K a → Solves (read T v) K a nodes) → FixedTask S home born t → FixedTask S home born u

pub turned : {table : ShapeTable} {m : ℕ} {T : Tables} {nodes nodes' : List Node} {added : List Task} (t u : Task) → Turns nodes t u → Reduces table m T nodes u nodes' added → Reduces table m T nodes t nodes' added
turned {table} {m} {T} {nodes} {nodes'} {added} t u n r = record {
  graph = r.graph;
  long = r.long;
  bound = r.bound;
  within = r.within;
  forth = λ K a s e. r.forth K a s (n.to T K a s e);
  back = r.back;
  done = λ K a m. n.fro T K a (r.back K a m) (r.done K a m);
  fewer = r.fewer;
  less = subst (λ k. total (node_weight (roots nodes')) nodes' + total (task_weight (roots nodes')) added < total (node_weight (roots nodes)) nodes + k) (sym (n.weight (roots nodes))) r.less;
  state = λ home base rest s. r.state home base rest (state_other T home base nodes rest t (u ∷ []) (λ top w r q v. inr (n.waits top w r q v)) s);
  backed = λ home born rest b. r.backed home born rest (
      let sub : (v : Reading) (K : Kinds) (a : Sub) → Meeting T nodes (rest ++ u ∷ []) v K a → Meeting T nodes (rest ++ t ∷ []) v K a = λ v K a m. record {
        solves = m.solves;
        holds = each_append (Holds (read T v) K a) rest (t ∷ []) (each_left (Holds (read T v) K a) rest (u ∷ []) m.holds) (n.fro (read T v) K a m.solves (each_right (Holds (read T v) K a) rest (u ∷ []) m.holds).0, tt);
      } in record {
        notes = λ j lt. fixed_less _ _ home born _ j sub (b.notes j lt);
        asks = asks_append _ home born rest (u ∷ []) (asks_less _ _ home born sub rest (asks_left _ home born rest _ b.asks))
            (n.asks T (Meeting T nodes (rest ++ u ∷ [])) home born (λ v K a m. m.solves) (asks_less _ _ home born sub (t ∷ []) (asks_right _ home born rest (t ∷ []) b.asks)).0, tt);
      });
}

pub refuses_turned : {T : Tables} {nodes : List Node} (t u : Task) → Turns nodes t u → Refuses T nodes u → Refuses T nodes t
refuses_turned {T} t u n r pl K a s e = r pl K a s (n.to T K a s e)

pub turns_round : (nodes : List Node) (i j : ℕ) → Turns nodes (task.Same i j) (task.Same j i)
unfolding Holds
turns_round nodes i j = record { to = λ T K a s e. sym e; fro = λ T K a s e. sym e; weight = λ r. refl; waits = λ top t r q w. w; asks = λ T S home born sub f. f }

pub turns_roots : (nodes : List Node) (i j w l : ℕ) → Found nodes i w → Found nodes j l → Turns nodes (task.Same i j) (task.Same w l)
unfolding Holds
turns_roots nodes i j w l p q = record {
  to = λ T K a s e. sym (p.same T K a s) ∙ e ∙ q.same T K a s;
  fro = λ T K a s e. p.same T K a s ∙ e ∙ sym (q.same T K a s);
  weight = λ r. refl;
  waits = λ top t r q w. w;
  asks = λ T S home born sub f. f;
}

pub turns_root : (nodes : List Node) (i w : ℕ) (k : Kind) (l : ℕ) → Found nodes i w → Turns nodes (task.Has i k l) (task.Has w k l)
unfolding Holds
turns_root nodes i w k l p = record {
  to = λ T K a s e. subst (λ t. level k ≤ rank K t) (p.same T K a s) e;
  fro = λ T K a s e. subst (λ t. level k ≤ rank K t) (sym (p.same T K a s)) e;
  weight = λ r. refl;
  waits = λ top t r q. elim [ inl v ↦ inl (t.selves w p.within p.is_root ∙ sym (p.tops top t) ∙ v.0, v.1) | inr v ↦ inr v ];
  asks = λ T S home born sub f. fixed_same S home born l i w (λ v K a s. p.same (read T v) K a (sub v K a s)) f;
}

pub turns_part : (nodes : List Node) (i w label c : ℕ) → Found nodes i w → Turns nodes (task.Part i label c) (task.Part w label c)
unfolding Holds
turns_part nodes i w label c p = record {
  to = λ T K a s e. subst (λ t. HasPart T.shapes label t (a c)) (p.same T K a s) e;
  fro = λ T K a s e. subst (λ t. HasPart T.shapes label t (a c)) (sym (p.same T K a s)) e;
  weight = λ r. refl;
  waits = λ top t r q w. w;
  asks = λ T S home born sub f. tt;
}
