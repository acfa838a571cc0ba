-- What one task turns into.
use Rattle.std.proofs.Common.{◌≡◌, ◌≢◌, ℕ, zero, suc, ◌+◌, ◌-◌, ◌*◌, ◌≤◌, ◌<◌, List, [], ◌∷◌, ◌++◌, length, refl, sym, ◌∙◌, ap, subst, arith}
use mathlib.Core.Logic.{◌⊎◌, inl, inr}
use Rattle.std.proofs.Math.Nat.{suc-mul, zero-mul}
use native.Mathlib.Decide.{ℕ_discrete}
use Rattle.fut_types.specs.declared.shapes.ShapeTable.{ShapeTable}
use Rattle.fut_types.specs.Types.{Sub, Kinds, level, rank, row}
use Rattle.fut_types.proofs.TyLaws.{level_most, row_part, row_same}
use Rattle.type_graph.specs.declared.Node.{Node}
use Rattle.type_graph.specs.declared.Task.{Task}
use Rattle.type_graph.specs.declared.Task.TheVariants as task
use Rattle.type_graph.specs.Graph.{far, node_at, with_node, Reading, Tables, read, Fitting, IsParameter, Once, Shows, Fits, Solves, Holds, Each, Meeting, Within, IsGraph, Bound, IsBound, IsTask, arity, is_root, roots, total, depth, node_weight, task_weight, IsRoot, Reduces, Linked, parts_of, pairs}
use Rattle.type_graph.specs.State.{Ask, Obeys, Tops, Waits, Sure, form_cap, Fixed, FixedTask}
use Rattle.type_graph.proofs.GraphLaws.{solves_with, solves_from, solves_here, graph_with, bound_with, length_with, weight_with, total_less, root_one, node_same, node_other}
use Rattle.type_graph.proofs.StateLaws.{joined, state_linked, state_root, state_other, fixed_less, fixed_same, asks_append, asks_left, asks_right, asks_less}

-- lists of tasks
pub each_append : {X : Type 0} (P : X → Type 0) (xs ys : List X) → Each P xs → Each P ys → Each P (xs ++ ys)
each_append P [] ys p q = q
each_append P (x ∷ xs) ys p q = (p.0, each_append P xs ys p.1 q)

pub each_left : {X : Type 0} (P : X → Type 0) (xs ys : List X) → Each P (xs ++ ys) → Each P xs
each_left P [] ys p = tt
each_left P (x ∷ xs) ys p = (p.0, each_left P xs ys p.1)

pub each_right : {X : Type 0} (P : X → Type 0) (xs ys : List X) → Each P (xs ++ ys) → Each P ys
each_right P [] ys p = p
each_right P (x ∷ xs) ys p = each_right P xs ys p.1

pub total_append : {X : Type 0} (f : X → ℕ) (xs ys : List X) → total f (xs ++ ys) ≡ total f xs + total f ys
unfolding total
total_append {X} f [] ys = omega arith
total_append {X} f (x ∷ xs) ys = let e : total f (xs ++ ys) ≡ total f xs + total f ys = total_append f xs ys in omega arith

pub total_one : {X : Type 0} (f : X → ℕ) (x : X) (xs : List X) → total f (x ∷ xs) ≡ f x + total f xs
unfolding total
total_one {X} f x xs = refl

pub total_none : {X : Type 0} (f : X → ℕ) → total f [] ≡ 0
unfolding total
total_none {X} f = refl

-- rows of nodes
pub pairs_hold : (T : Tables) (K : Kinds) (a : Sub) (x y n : ℕ) → row a x n ≡ row a y n → Each (Holds T K a) (pairs x y n)
unfolding Holds
pairs_hold T K a x y zero e = tt
pairs_hold T K a x y (suc n) e = (go (suc n) (omega arith) e, pairs_hold T K a (suc x) (suc y) n (row_same a a (suc x) (suc y) n (λ i lt. subst (λ j. a j ≡ a (suc y + i)) (omega arith) (subst (λ j. a (x + suc i) ≡ a j) (omega arith) (row_part a a x y (suc n) (suc i) e (omega arith))))))
  where
    go : (m : ℕ) → 0 < m → row a x m ≡ row a y m → a x ≡ a y
    go m lt e = subst (λ j. a j ≡ a y) (omega arith) (subst (λ j. a (x + 0) ≡ a j) (omega arith) (row_part a a x y m 0 e lt))

pub pairs_row : (T : Tables) (K : Kinds) (a : Sub) (x y n : ℕ) → Each (Holds T K a) (pairs x y n) → row a x n ≡ row a y n
unfolding Holds
pairs_row T K a x y zero h = refl
pairs_row T K a x y (suc n) h = go h.0 (pairs_row T K a (suc x) (suc y) n h.1)
  where
    go : a x ≡ a y → row a (suc x) n ≡ row a (suc y) n → row a x (suc n) ≡ row a y (suc n)
    go p q = row_same a a x y (suc n) (λ i lt. elim (ℕ_discrete i 0) as (λ d. a (x + i) ≡ a (y + i)) [
      | yes e ↦ subst (λ j. a (x + j) ≡ a (y + j)) (sym e) (subst (λ j. a j ≡ a (y + 0)) (omega arith) (subst (λ j. a x ≡ a j) (omega arith) p))
      | no ne ↦ subst (λ j. a j ≡ a (y + i)) (back x i ne) (subst (λ j. a (suc x + (i - 1)) ≡ a j) (back y i ne) (row_part a a (suc x) (suc y) n (i - 1) q (grind (arith, ne))))
    ])
      where
        back : (z i : ℕ) → i ≢ 0 → suc z + (i - 1) ≡ z + i
        back z i ne = grind (arith, ne)

pub pairs_within : (table : ShapeTable) (N x y n : ℕ) → x + n ≤ N → y + n ≤ N → Each (IsTask table N) (pairs x y n)
unfolding IsTask
pairs_within table N x y zero p q = tt
pairs_within table N x y (suc n) p q = ((omega arith, omega arith), pairs_within table N (suc x) (suc y) n (omega arith) (omega arith))

pub pairs_weight : (r x y n : ℕ) → total (task_weight r) (pairs x y n) ≡ 2 * n
unfolding total
pairs_weight r x y zero = refl
pairs_weight r x y (suc n) = let e : total (task_weight r) (pairs (suc x) (suc y) n) ≡ 2 * n = pairs_weight r (suc x) (suc y) n in omega arith

pub times_more : (m p q : ℕ) → q < p → m * q + m ≤ m * p
times_more zero p q h = rw (zero-mul p, zero-mul q) (omega arith)
times_more (suc m) p q h = let e : m * q + m ≤ m * p = times_more m p q h in rw (suc-mul m p, suc-mul m q) (omega arith)

pub times_two : (m p : ℕ) → 2 ≤ p → 2 * m ≤ m * p
times_two zero p h = rw (zero-mul p) (omega arith)
times_two (suc m) p h = let e : 2 * m ≤ m * p = times_two m p h in rw (suc-mul m p) (omega arith)

pub times_mono : (m p q : ℕ) → q ≤ p → m * q ≤ m * p
times_mono zero p q h = rw (zero-mul p, zero-mul q) (omega arith)
times_mono (suc m) p q h = let e : m * q ≤ m * p = times_mono m p q h in rw (suc-mul m p, suc-mul m q) (omega arith)

-- fewer roots, less weight
lighter : (r r' : ℕ) → r' ≤ r → (n : Node) → node_weight r' n ≤ node_weight r n
lighter r r' h n = times_mono (arity n.form) (depth * r + (5 - level n.kind + n.level)) (depth * r' + (5 - level n.kind + n.level)) (omega arith)

pub lighter_task : (r r' : ℕ) → r' ≤ r → (t : Task) → task_weight r' t ≤ task_weight r t
lighter_task r r' h (task.Same i j) = omega arith
lighter_task r r' h (task.Has i k l) = omega arith
lighter_task r r' h (task.Part i label c) = omega arith

-- the solutions after a step are some of those before
meets_back : (T : Tables) (nodes nodes' : List Node) (t : Task) (added : List Task) → ((r : Reading) (K : Kinds) (a : Sub) → Meeting T nodes' added r K a → Solves (read T r) K a nodes) → ((r : Reading) (K : Kinds) (a : Sub) → Meeting T nodes' added r K a → Holds (read T r) K a t)
    → (rest : List Task) (r : Reading) (K : Kinds) (a : Sub) → Meeting T nodes' (rest ++ added) r K a → Meeting T nodes (rest ++ t ∷ []) r K a
meets_back T nodes nodes' t added back done rest r K a m =
    let n : Meeting T nodes' added r K a = record { solves = m.solves; holds = each_right (Holds (read T r) K a) rest added m.holds } in
    record { solves = back r K a n; holds = each_append (Holds (read T r) K a) rest (t ∷ []) (each_left (Holds (read T r) K a) rest added m.holds) (done r K a n, tt) }

-- the loser is linked to the winner, and its kind and level are asked of the winner
pub united : (table : ShapeTable) (m : ℕ) (T : Tables) (nodes : List Node) (w l : ℕ) (nodes' : List Node) (more : List Task) → (hw : w < length nodes) (hl : l < length nodes) → IsRoot (node_at nodes w).form → IsRoot (node_at nodes l).form → w ≢ l → (d : Linked nodes w l nodes')
    → Each (IsTask table (length nodes)) more
    → ((r : ℕ) → total (task_weight r) more ≤ arity (node_at nodes l).form * (depth * r + depth))
    → ((S : Reading → Kinds → Sub → Type 0) (home born : ℕ → ℕ) → Each (FixedTask S home born) more)
    → ((r : Reading) (K : Kinds) (a : Sub) → Shows (read T r) a (a w) (node_at nodes w).form → Shows (read T r) a (a w) (node_at nodes l).form → Each (Holds (read T r) K a) more)
    → ((r : Reading) (K : Kinds) (a : Sub) → Shows (read T r) a (a w) (node_at nodes w).form → Each (Holds (read T r) K a) more → Shows (read T r) a (a w) (node_at nodes l).form)
    → Reduces table m T nodes (task.Same w l) nodes' (task.Has w (node_at nodes l).kind (node_at nodes l).level ∷ more)
unfolding Holds IsTask
united table m T nodes w l nodes' more hw hl rw' rl ne d fit light asks forth back =
    let back' : (r : Reading) (K : Kinds) (a : Sub) → Meeting T nodes' (task.Has w (node_at nodes l).kind (node_at nodes l).level ∷ more) r K a → Solves (read T r) K a nodes =
    λ r K a m. d.back (read T r) K a m.solves (record { shows = back r K a (d.keeps (read T r) K a m.solves).shows m.holds.1; has = m.holds.0 }) in
    let done' : (r : Reading) (K : Kinds) (a : Sub) → Meeting T nodes' (task.Has w (node_at nodes l).kind (node_at nodes l).level ∷ more) r K a → a w ≡ a l =
    λ r K a m. d.same (read T r) K a m.solves in record {
      graph = d.graph;
      long = d.long;
      bound = d.bound table m;
      within = (hw, fit);
      forth = λ K a s e. record {
        solves = d.forth T K a s e;
        holds = (
          subst (λ t. level (node_at nodes l).kind ≤ rank K t) (sym e) (s.fits l hl).has,
          forth T.rigid K a (s.fits w hw).shows (subst (λ t. Shows T a t (node_at nodes l).form) (sym e) (s.fits l hl).shows),
        );
      };
      back = back' T.rigid;
      done = done' T.rigid;
      fewer = let r : roots nodes' + 1 ≡ roots nodes = d.roots in omega arith;
      less = let r : roots nodes' + 1 ≡ roots nodes = d.roots in
          let e : total (node_weight (roots nodes)) nodes' + node_weight (roots nodes) (node_at nodes l) ≡ total (node_weight (roots nodes)) nodes = d.weight (roots nodes) in
          let f : total (node_weight (roots nodes')) nodes' ≤ total (node_weight (roots nodes)) nodes' = total_less _ _ (lighter (roots nodes) (roots nodes') (omega arith)) nodes' in
          let k : level (node_at nodes l).kind ≤ 4 = level_most (node_at nodes l).kind in
          let t : arity (node_at nodes l).form * (depth * roots nodes' + depth) ≤ node_weight (roots nodes) (node_at nodes l) = times_mono (arity (node_at nodes l).form) (depth * roots nodes + (5 - level (node_at nodes l).kind + (node_at nodes l).level)) (depth * roots nodes' + depth) (omega arith) in
          let u : total (task_weight (roots nodes')) more ≤ arity (node_at nodes l).form * (depth * roots nodes' + depth) = light (roots nodes') in
          let q : total (task_weight (roots nodes')) (task.Has w (node_at nodes l).kind (node_at nodes l).level ∷ more) ≡ 1 + total (task_weight (roots nodes')) more = total_one (task_weight (roots nodes')) (task.Has w (node_at nodes l).kind (node_at nodes l).level) more in
          omega arith;
      state = λ home base rest s. state_linked nodes w l nodes' hw hl rw' rl ne d T home base rest more s;
      backed = λ home born rest b.
          let sub = meets_back T nodes nodes' (task.Same w l) (task.Has w (node_at nodes l).kind (node_at nodes l).level ∷ more) back' done' rest in
          let same : (r : Reading) (K : Kinds) (a : Sub) → Meeting T nodes' (rest ++ task.Has w (node_at nodes l).kind (node_at nodes l).level ∷ more) r K a → a w ≡ a l = λ r K a m. d.same (read T r) K a m.solves in
          let lost : Fixed (Meeting T nodes' (rest ++ task.Has w (node_at nodes l).kind (node_at nodes l).level ∷ more)) home born (node_at nodes l).level w =
          fixed_same (Meeting T nodes' (rest ++ task.Has w (node_at nodes l).kind (node_at nodes l).level ∷ more)) home born (node_at nodes l).level l w (λ r K a m. sym (same r K a m)) (fixed_less _ _ home born _ l sub (b.notes l hl)) in record {
            notes = λ i lt. joined nodes w l nodes' hw hl rw' rl ne d (λ i n. i < length nodes → Fixed (Meeting T nodes' (rest ++ task.Has w (node_at nodes l).kind (node_at nodes l).level ∷ more)) home born n.level i)
                (λ h. fixed_same (Meeting T nodes' (rest ++ task.Has w (node_at nodes l).kind (node_at nodes l).level ∷ more)) home born (node_at nodes w).level w d.up
                (λ r K a m. elim d.which as (λ x. a w ≡ a d.up) [ inl e ↦ ap a (sym e.0) | inr e ↦ same r K a m ∙ ap a (sym e.0) ]) (fixed_less _ _ home born _ w sub (b.notes w hw)))
                (λ h lt'. absurd (omega arith))
                (λ i nw nl h. fixed_less _ _ home born _ i sub (b.notes i h))
                i (subst (λ n. i < n) d.long lt);
            asks = asks_append _ home born rest _ (asks_less _ _ home born sub rest (asks_left _ home born rest _ b.asks)) (lost, asks _ home born);
          };
    }

-- a root is put in the place of another, of as high a level at most
module _ (table : ShapeTable) (m : ℕ) (T : Tables) (nodes : List Node) (r : ℕ) (x : Node) (t : Task) (more : List Task) (h : r < length nodes) (root : IsRoot (node_at nodes r).form) (rx : IsRoot x.form) (g : IsGraph nodes)
    (up : level (node_at nodes r).kind ≤ level x.kind) (low : x.level ≤ (node_at nodes r).level) (cap : level x.kind ≤ form_cap x.form)
    (w : Within (length nodes) r x.form) (fg : Fitting x.form) (bd : IsBound table m nodes → Bound table m x.form) (fit : Each (IsTask table (length nodes)) more)
    (light : node_weight (roots nodes) x + total (task_weight (roots nodes)) more < node_weight (roots nodes) (node_at nodes r) + task_weight (roots nodes) t)
    (shows : (K : Kinds) (a : Sub) → Solves T K a nodes → Holds T K a t → Fits T K a (a r) x × Each (Holds T K a) more)
    (was : (v : Reading) (K : Kinds) (a : Sub) → Meeting T (with_node nodes r x) more v K a → Fits (read T v) K a (a r) x → Shows (read T v) a (a r) (node_at nodes r).form)
    (done : (v : Reading) (K : Kinds) (a : Sub) → Meeting T (with_node nodes r x) more v K a → Fits (read T v) K a (a r) x → Holds (read T v) K a t)
    (gone : (top : ℕ → ℕ) → Tops nodes top → (s : ℕ) (q : Ask) → Waits top s q (t ∷ []) → (s ≡ r) × Obeys q x.kind x.level)
    (own : (rest : List Task) (top : ℕ → ℕ) (q : Ask) → Obeys q x.kind x.level → (Obeys q (node_at nodes r).kind (node_at nodes r).level → Each (Sure (with_node nodes r x) (rest ++ more) top q) (parts_of T (node_at nodes r).form)) → Each (Sure (with_node nodes r x) (rest ++ more) top q) (parts_of T x.form))
    (once : Once T (node_at nodes r).form → Once T x.form) (kept : (n : ℕ) → IsParameter n x.form → IsParameter n (node_at nodes r).form)
    (fixed : (S : Reading → Kinds → Sub → Type 0) (home born : ℕ → ℕ) → ((v : Reading) (K : Kinds) (a : Sub) → S v K a → Solves (read T v) K a nodes × Holds (read T v) K a t) → Fixed S home born (node_at nodes r).level r → FixedTask S home born t → Fixed S home born x.level r × Each (FixedTask S home born) more) where
  abbrev after : List Node
  after = with_node nodes r x

  here : (v : Reading) (K : Kinds) (a : Sub) → Meeting T (with_node nodes r x) more v K a → Fits (read T v) K a (a r) x
  here v K a m = solves_here nodes r x h m.solves

  back' : (v : Reading) (K : Kinds) (a : Sub) → Meeting T (with_node nodes r x) more v K a → Solves (read T v) K a nodes
  back' v K a m = solves_from r x m.solves (record { shows = was v K a m (here v K a m); has = (let q : level x.kind ≤ rank K (a r) = (here v K a m).has in omega arith) })

  same_roots : roots (with_node nodes r x) ≡ roots nodes
  same_roots = let e : total is_root (with_node nodes r x) + is_root (node_at nodes r) ≡ total is_root nodes + is_root x = weight_with is_root nodes r x h in
      let o : is_root (node_at nodes r) ≡ 1 = root_one (node_at nodes r).form root in
      let p : is_root x ≡ 1 = root_one x.form rx in omega arith

  lighter_now : total (node_weight (roots nodes)) (with_node nodes r x) + total (task_weight (roots nodes)) more < total (node_weight (roots nodes)) nodes + task_weight (roots nodes) t
  lighter_now = let e : total (node_weight (roots nodes)) (with_node nodes r x) + node_weight (roots nodes) (node_at nodes r) ≡ total (node_weight (roots nodes)) nodes + node_weight (roots nodes) x = weight_with (node_weight (roots nodes)) nodes r x h in omega arith

  pub root_changed : Reduces table m T nodes t (with_node nodes r x) more
  root_changed = record {
    graph = graph_with r x h g w fg (let n : (node_at nodes r).level ≤ far = g.near r h in omega arith);
    long = length_with nodes r x;
    bound = λ b. bound_with r x h (bd b) b;
    within = fit;
    forth = λ K a s e. record { solves = solves_with r x h s (shows K a s e).0; holds = (shows K a s e).1 };
    back = back' T.rigid;
    done = λ K a m. done T.rigid K a m (here T.rigid K a m);
    fewer = let e : roots (with_node nodes r x) ≡ roots nodes = same_roots in omega arith;
    less = subst (λ n. total (node_weight n) (with_node nodes r x) + total (task_weight n) more < total (node_weight (roots nodes)) nodes + task_weight (roots nodes) t) (sym same_roots) lighter_now;
    state = λ home base rest s. state_root nodes r x h root rx T t more up low cap gone once kept home base rest (own rest) s;
    backed = λ home born rest b.
        let sub = meets_back T nodes (with_node nodes r x) t more back' (λ v K a m. done v K a m (here v K a m)) rest in
        let f = fixed (Meeting T nodes (rest ++ t ∷ [])) home born (λ v K a m. (m.solves, (each_right (Holds (read T v) K a) rest (t ∷ []) m.holds).0)) (b.notes r h) (asks_right _ home born rest (t ∷ []) b.asks).0 in record {
          notes = λ j lt. elim (ℕ_discrete j r) as (λ d. Fixed (Meeting T (with_node nodes r x) (rest ++ more)) home born (node_at (with_node nodes r x) j).level j) [
            | yes e ↦ subst (λ m. Fixed (Meeting T (with_node nodes r x) (rest ++ more)) home born (node_at (with_node nodes r x) m).level m) (sym e)
                (subst (λ n. Fixed (Meeting T (with_node nodes r x) (rest ++ more)) home born n.level r) (sym (node_same nodes r x h)) (fixed_less _ _ home born _ r sub f.0))
            | no ne ↦ subst (λ n. Fixed (Meeting T (with_node nodes r x) (rest ++ more)) home born n.level j) (sym (node_other nodes r j x ne)) (fixed_less _ _ home born _ j sub (b.notes j (subst (λ n. j < n) (length_with nodes r x) lt)))
          ];
          asks = asks_append _ home born rest more (asks_less _ _ home born sub rest (asks_left _ home born rest _ b.asks)) (asks_less _ _ home born sub more f.1);
        };
  }

-- the nodes stay, and a task is done or turned into others
module _ (table : ShapeTable) (m : ℕ) (T : Tables) (nodes : List Node) (t : Task) (more : List Task) (g : IsGraph nodes) (fit : Each (IsTask table (length nodes)) more)
    (light : total (task_weight (roots nodes)) more < task_weight (roots nodes) t)
    (to : (K : Kinds) (a : Sub) → Solves T K a nodes → Holds T K a t → Each (Holds T K a) more)
    (fro : (v : Reading) (K : Kinds) (a : Sub) → Solves (read T v) K a nodes → Each (Holds (read T v) K a) more → Holds (read T v) K a t)
    (waits : (top : ℕ → ℕ) → Tops nodes top → (r : ℕ) (q : Ask) → Waits top r q (t ∷ []) → Obeys q (node_at nodes r).kind (node_at nodes r).level ⊎ Waits top r q more)
    (asks : (S : Reading → Kinds → Sub → Type 0) (home born : ℕ → ℕ) → FixedTask S home born t → Each (FixedTask S home born) more) where
  pub exchanged : Reduces table m T nodes t nodes more
  exchanged = record {
    graph = g;
    long = refl;
    bound = λ b. b;
    within = fit;
    forth = λ K a s e. record { solves = s; holds = to K a s e };
    back = λ K a m. m.solves;
    done = λ K a m. fro T.rigid K a m.solves m.holds;
    fewer = omega arith;
    less = let l : total (task_weight (roots nodes)) more < task_weight (roots nodes) t = light in omega arith;
    state = λ home base rest s. state_other T home base nodes rest t more waits s;
    backed = λ home born rest b. let sub = meets_back T nodes nodes t more (λ v K a m. m.solves) (λ v K a m. fro v K a m.solves m.holds) rest in record {
      notes = λ j lt. fixed_less _ _ home born _ j sub (b.notes j lt);
      asks = asks_append _ home born rest more (asks_less _ _ home born sub rest (asks_left _ home born rest _ b.asks)) (asks_less _ _ home born sub more (asks _ home born (asks_right _ home born rest (t ∷ []) b.asks).0));
    };
  }
