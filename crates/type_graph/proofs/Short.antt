-- Links that skip links.
use Rattle.std.proofs.Common.{◌≡◌, ◌≢◌, ℕ, ◌+◌, ◌-◌, ◌*◌, ◌≤◌, ◌<◌, List, length, refl, sym, ◌∙◌, ap, subst, arith}
use mathlib.Core.Logic.{◌⊎◌, inl, inr}
use native.Mathlib.Decide.{ℕ_discrete}
use Rattle.std.proofs.Math.Nat.{zero-mul}
use Rattle.fut_types.specs.declared.Kind.{Kind}
use Rattle.fut_types.specs.declared.shapes.ShapeTable.{ShapeTable}
use Rattle.fut_types.specs.Types.{Sub, Kinds, level}
use Rattle.fut_types.proofs.TyLaws.{level_most}
use Rattle.type_graph.specs.declared.Form.{Form}
use Rattle.type_graph.specs.declared.Form.TheVariants as form
use Rattle.type_graph.specs.declared.Node.{Node}
use Rattle.type_graph.specs.declared.Task.{Task}
use Rattle.type_graph.specs.Graph.{node_at, with_node, Reading, Tables, read, IsParameter, Once, Shows, Fits, Solves, Meeting, Each, Within, IsGraph, IsTask, IsRoot, arity, one_root, is_root, roots, total, depth, node_weight, task_weight, weigh, Found, Like, Does, Refuses, parts_of}
use Rattle.type_graph.specs.State.{Ask, AtMost, Obeys, Tops, Sure, State, form_cap, Fixed, Backed}
use Rattle.type_graph.proofs.GraphLaws.{node_same, node_other, length_with, weight_with, solves_with, solves_from, solves_here, graph_with, bound_with}
use Rattle.type_graph.proofs.StateLaws.{each_map, no_parameter, fixed_less, asks_less}

pub like_none : (nodes : List Node) → IsGraph nodes → Like nodes nodes
like_none nodes g = record { graph = g; long = refl; bound = λ table m b. b; roots = refl; weight = λ r. refl; kinds = λ i. refl; levels = λ i. refl; roots_are = λ i r. refl; are_roots = λ i r. refl; links = λ i j lt e. (j, e); forth = λ T K a s. s; back = λ T K a s. s; tops = λ top t. t; tops_back = λ top t. t }

root_or : (f : Form) → IsRoot f ⊎ ((k : ℕ) × (f ≡ form.Link k))
root_or form.Free = inl tt
root_or (form.Link j) = inr (j, refl)
root_or (form.Made h x n) = inl tt
root_or (form.Open e n) = inl tt

pub like_then : (n0 n1 n2 : List Node) → Like n0 n1 → Like n1 n2 → Like n0 n2
like_then n0 n1 n2 x y = record {
  graph = y.graph;
  long = y.long ∙ x.long;
  bound = λ table m b. y.bound table m (x.bound table m b);
  roots = y.roots ∙ x.roots;
  weight = λ r. y.weight r ∙ x.weight r;
  kinds = λ i. y.kinds i ∙ x.kinds i;
  levels = λ i. y.levels i ∙ x.levels i;
  roots_are = λ i r. y.roots_are i (subst (λ (n : Node). IsRoot n.form) (sym (x.roots_are i r)) r) ∙ x.roots_are i r;
  are_roots = λ i r. let e = y.are_roots i r in e ∙ x.are_roots i (subst (λ (n : Node). IsRoot n.form) e r);
  links = λ i j lt e. let a = y.links i j (subst (λ n. i < n) (sym x.long) lt) e in x.links i a.0 lt a.1;
  forth = λ T K a s. y.forth T K a (x.forth T K a s);
  back = λ T K a s. x.back T K a (y.back T K a s);
  tops = λ top t. y.tops top (x.tops top t);
  tops_back = λ top t. x.tops_back top (y.tops_back top t);
}

is_link : Form → Type 0
is_link form.Free = ⊥
is_link (form.Link j) = Unit {0}
is_link (form.Made h x n) = ⊥
is_link (form.Open e n) = ⊥

no_root : (f : Form) (j : ℕ) → f ≡ form.Link j → IsRoot f → ⊥
no_root f j e r = subst IsRoot e r

link_same : (i j : ℕ) → form.Link i ≡ form.Link j → i ≡ j
link_same i j e = ap target e
  where
    target : Form → ℕ
    target form.Free = 0
    target (form.Link j) = j
    target (form.Made h x n) = 0
    target (form.Open e n) = 0

-- a link may skip the node that it goes to, where that is a link
module _ (nodes : List Node) (i j k : ℕ) (g : IsGraph nodes) (h : i < length nodes) (p : (node_at nodes i).form ≡ form.Link j) (q : (node_at nodes j).form ≡ form.Link k) where
  abbrev skip : Node
  skip = record { kind = (node_at nodes i).kind; level = (node_at nodes i).level; form = form.Link k }

  j_below : j < i
  j_below = subst (Within (length nodes) i) p (g.within i h)

  h_j : j < length nodes
  h_j = let a : j < i = j_below in omega arith

  pub k_below : k < i
  k_below = let a : j < i = j_below in let b : k < j = subst (Within (length nodes) j) q (g.within j h_j) in omega arith

  j_same : node_at (with_node nodes i (record { kind = (node_at nodes i).kind; level = (node_at nodes i).level; form = form.Link k })) j ≡ node_at nodes j
  j_same = node_other nodes i j skip (λ e. let a : j < i = j_below in absurd (omega arith))

  each : (P : ℕ → Node → Type 0) → P i (record { kind = (node_at nodes i).kind; level = (node_at nodes i).level; form = form.Link k }) → ((m : ℕ) → m ≢ i → P m (node_at nodes m)) → (m : ℕ) → P m (node_at (with_node nodes i (record { kind = (node_at nodes i).kind; level = (node_at nodes i).level; form = form.Link k })) m)
  each P here others m = elim (ℕ_discrete m i) as (λ d. P m (node_at (with_node nodes i skip) m)) [
    | yes e ↦ subst (λ y. P y (node_at (with_node nodes i skip) y)) (sym e) (subst (P i) (sym (node_same nodes i skip h)) here)
    | no ne ↦ subst (P m) (sym (node_other nodes i m skip ne)) (others m ne)
  ]

  other_root : (m : ℕ) → IsRoot (node_at nodes m).form → m ≢ i
  other_root m r e = no_root _ j p (subst (λ y. IsRoot (node_at nodes y).form) e r)

  pub halved : Like nodes (with_node nodes i (record { kind = (node_at nodes i).kind; level = (node_at nodes i).level; form = form.Link k }))
  halved = record {
    graph = graph_with i skip h g k_below tt (g.near i h);
    long = length_with nodes i skip;
    bound = λ table m b. bound_with i skip h tt b;
    roots = let e : total is_root (with_node nodes i skip) + is_root (node_at nodes i) ≡ total is_root nodes + is_root skip = weight_with is_root nodes i skip h in
        let z : is_root (node_at nodes i) ≡ 0 = ap one_root p in omega arith;
    weight = λ r. let e : total (node_weight r) (with_node nodes i skip) + node_weight r (node_at nodes i) ≡ total (node_weight r) nodes + node_weight r skip = weight_with (node_weight r) nodes i skip h in
        let z : node_weight r (node_at nodes i) ≡ 0 = ap (λ f. arity f * (depth * r + (5 - level (node_at nodes i).kind + (node_at nodes i).level))) p ∙ zero-mul (depth * r + (5 - level (node_at nodes i).kind + (node_at nodes i).level)) in
        let y : node_weight r skip ≡ 0 = zero-mul (depth * r + (5 - level (node_at nodes i).kind + (node_at nodes i).level)) in omega arith;
    kinds = each (λ m n. n.kind ≡ (node_at nodes m).kind) refl (λ m ne. refl);
    levels = each (λ m n. n.level ≡ (node_at nodes m).level) refl (λ m ne. refl);
    roots_are = λ m r. node_other nodes i m skip (other_root m r);
    are_roots = λ m. each (λ m n. IsRoot n.form → n ≡ node_at nodes m) (λ r. absurd r) (λ m ne r. refl) m;
    links = λ m y lt. each (λ m n. n.form ≡ form.Link y → (z : ℕ) × ((node_at nodes m).form ≡ form.Link z)) (λ e. (j, p)) (λ m ne e. (y, e)) m;
    forth = λ T K a s. solves_with i skip h s (record {
      shows = subst (Shows T a (a i)) p (s.fits i h).shows ∙ subst (Shows T a (a j)) q (s.fits j h_j).shows;
      has = (s.fits i h).has;
    });
    back = λ T K a s.
        let here = solves_here nodes i skip h s in
        let there : Fits T K a (a j) (node_at nodes j) = subst (Fits T K a (a j)) j_same (s.fits j (subst (λ n. j < n) (sym (length_with nodes i skip)) h_j)) in
        solves_from i skip s (record { shows = subst (Shows T a (a i)) (sym p) (here.shows ∙ sym (subst (Shows T a (a j)) q there.shows)); has = here.has });
    tops = λ top t. record {
      below = λ m lt. subst (λ n. top m < n) (sym (length_with nodes i skip)) (t.below m (subst (λ n. m < n) (length_with nodes i skip) lt));
      roots = λ m lt. let r = t.roots m (subst (λ n. m < n) (length_with nodes i skip) lt) in subst (λ (n : Node). IsRoot n.form) (sym (node_other nodes i (top m) skip (other_root (top m) r))) r;
      links = λ m y lt. each (λ m n. m < length nodes → n.form ≡ form.Link y → top m ≡ top y)
          (λ b e. t.links i j h p ∙ t.links j k h_j q ∙ ap top (link_same k y e)) (λ m ne b e. t.links m y b e) m (subst (λ n. m < n) (length_with nodes i skip) lt);
      selves = λ m lt. each (λ m n. m < length nodes → IsRoot n.form → top m ≡ m) (λ b r. absurd r) (λ m ne b r. t.selves m b r) m (subst (λ n. m < n) (length_with nodes i skip) lt);
    };
    tops_back = λ top t.
        let up : (m : ℕ) → m < length nodes → m < length (with_node nodes i skip) = λ m lt. subst (λ n. m < n) (sym (length_with nodes i skip)) lt in
        let skips : top i ≡ top k = t.links i k (up i h) (ap (λ (n : Node). n.form) (node_same nodes i skip h)) in
        let after : top j ≡ top k = t.links j k (up j h_j) (ap (λ (n : Node). n.form) j_same ∙ q) in record {
          below = λ m lt. subst (λ n. top m < n) (length_with nodes i skip) (t.below m (up m lt));
          roots = λ m lt. let r = t.roots m (up m lt) in
              subst (λ (n : Node). IsRoot n.form) (each (λ m n. IsRoot n.form → n ≡ node_at nodes m) (λ r. absurd r) (λ m ne r. refl) (top m) r) r;
          links = λ m y lt e. elim (ℕ_discrete m i) as (λ d. top m ≡ top y) [
            | yes z ↦ ap top z ∙ skips ∙ sym after ∙ ap top (link_same j y (sym p ∙ ap (λ x. (node_at nodes x).form) (sym z) ∙ e))
            | no ne ↦ t.links m y (up m lt) (ap (λ (n : Node). n.form) (node_other nodes i m skip ne) ∙ e)
          ];
          selves = λ m lt r. t.selves m (up m lt) (subst (λ (n : Node). IsRoot n.form) (sym (node_other nodes i m skip (other_root m r))) r);
        };
  }

-- what is kept
sure_like : (nodes nodes' : List Node) (tasks : List Task) (top : ℕ → ℕ) → Like nodes nodes' → (q : Ask) (c : ℕ) → Sure nodes tasks top q c → Sure nodes' tasks top q c
sure_like nodes nodes' tasks top x q c (inl o) = inl (subst (λ l. Obeys q (node_at nodes' (top c)).kind l) (sym (x.levels (top c))) (subst (λ (k : Kind). Obeys q k (node_at nodes (top c)).level) (sym (x.kinds (top c))) o))
sure_like nodes nodes' tasks top x q c (inr w) = inr w

-- what holds of the nodes with the links, and of all roots, holds after
root_like : (P : Node → Type 0) (nodes nodes' : List Node) (i : ℕ) → Like nodes nodes' → ((j : ℕ) → (node_at nodes' i).form ≡ form.Link j → P (node_at nodes' i)) → P (node_at nodes i) → P (node_at nodes' i)
root_like P nodes nodes' i x link root = elim (root_or (node_at nodes' i).form) as (λ y. P (node_at nodes' i)) [ inl r ↦ subst P (sym (x.are_roots i r)) root | inr e ↦ link e.0 e.1 ]

pub state_like : (T : Tables) (home : ℕ → ℕ) (base : ℕ) (nodes nodes' : List Node) (tasks : List Task) → Like nodes nodes' → State T home base nodes tasks → State T home base nodes' tasks
state_like T home base nodes nodes' tasks x s = record {
  top = s.top;
  tops = x.tops s.top s.tops;
  capped = λ i lt. root_like (λ n. level n.kind ≤ form_cap n.form) nodes nodes' i x
      (λ j e. subst (λ f. level (node_at nodes' i).kind ≤ form_cap f) (sym e) (level_most (node_at nodes' i).kind)) (s.capped i (subst (λ n. i < n) x.long lt));
  parts = λ i q lt. root_like (λ n. Obeys q n.kind n.level → Each (Sure nodes' tasks s.top q) (parts_of T n.form)) nodes nodes' i x
      (λ j e o. subst (λ f. Each (Sure nodes' tasks s.top q) (parts_of T f)) (sym e) tt)
      (λ o. each_map (sure_like nodes nodes' tasks s.top x q) _ (s.parts i q (subst (λ n. i < n) x.long lt) o));
  bare = λ i j lt e. let r = x.links i j (subst (λ n. i < n) x.long lt) e in ap level (x.kinds i) ∙ s.bare i r.0 (subst (λ n. i < n) x.long lt) r.1;
  afar = λ i j lt e. let r = x.links i j (subst (λ n. i < n) x.long lt) e in subst (λ v. 4294967295 ≤ v) (sym (x.levels i)) (s.afar i r.0 (subst (λ n. i < n) x.long lt) r.1);
  homes = λ m lt. sure_like nodes nodes' tasks s.top x (AtMost (home m)) m (s.homes m lt);
  once = λ i lt. root_like (λ n. Once T n.form) nodes nodes' i x (λ j e. subst (Once T) (sym e) tt) (s.once i (subst (λ n. i < n) x.long lt));
  seated = λ n i lt. root_like (λ y. IsParameter n y.form → (T.seat n < length nodes') × (s.top i ≡ s.top (T.seat n))) nodes nodes' i x (λ j e p. absurd (no_parameter n j (subst (IsParameter n) e p)))
      (λ p. let q = s.seated n i (subst (λ n. i < n) x.long lt) p in (subst (λ m. T.seat n < m) (sym x.long) q.0, q.1));
}

pub backed_like : (T : Tables) (home born : ℕ → ℕ) (nodes nodes' : List Node) (tasks : List Task) → Like nodes nodes' → Backed (Meeting T nodes tasks) home born nodes tasks → Backed (Meeting T nodes' tasks) home born nodes' tasks
backed_like T home born nodes nodes' tasks x b =
    let sub : (v : Reading) (K : Kinds) (a : Sub) → Meeting T nodes' tasks v K a → Meeting T nodes tasks v K a = λ v K a m. record { solves = x.back (read T v) K a m.solves; holds = m.holds } in record {
      notes = λ i lt. subst (λ l. Fixed (Meeting T nodes' tasks) home born l i) (sym (x.levels i)) (fixed_less _ _ home born _ i sub (b.notes i (subst (λ n. i < n) x.long lt)));
      asks = asks_less _ _ home born sub tasks b.asks;
    }

pub found_like : (nodes nodes' : List Node) (i w : ℕ) → Like nodes nodes' → Found nodes i w → Found nodes' i w
found_like nodes nodes' i w x f = record {
  within = subst (λ n. w < n) (sym x.long) f.within;
  is_root = subst (λ (n : Node). IsRoot n.form) (sym (x.roots_are w f.is_root)) f.is_root;
  same = λ T K a s. f.same T K a (x.back T K a s);
  tops = λ top t. f.tops top (x.tops_back top t);
}

pub does_like : (table : ShapeTable) (m : ℕ) (T : Tables) (nodes nodes1 : List Node) (tasks : List Task) (t : Task) (nodes' : List Node) (tasks' : List Task) → Like nodes nodes1 → Does table m T nodes1 tasks t nodes' tasks' → Does table m T nodes tasks t nodes' tasks'
does_like table m T nodes nodes1 tasks t nodes' tasks' x d = let r = d.reduces in record {
  added = d.added;
  is = d.is;
  reduces = record {
    graph = r.graph;
    long = r.long ∙ x.long;
    bound = λ b. r.bound (x.bound table m b);
    within = subst (λ n. Each (IsTask table n) d.added) x.long r.within;
    forth = λ K a s h. r.forth K a (x.forth T K a s) h;
    back = λ K a m. x.back T K a (r.back K a m);
    done = r.done;
    fewer = subst (λ n. total is_root nodes' ≤ n) x.roots r.fewer;
    less = let w : total (node_weight (roots nodes1)) nodes1 ≡ total (node_weight (roots nodes)) nodes = x.weight (roots nodes1) ∙ ap (λ n. total (node_weight n) nodes) x.roots in
        let k : task_weight (roots nodes1) t ≡ task_weight (roots nodes) t = ap (λ n. task_weight n t) x.roots in
        let l : weigh nodes' d.added < total (node_weight (roots nodes1)) nodes1 + task_weight (roots nodes1) t = r.less in omega arith;
    state = λ home base rest s. r.state home base rest (state_like T home base nodes nodes1 _ x s);
    backed = λ home born rest b. r.backed home born rest (backed_like T home born nodes nodes1 _ x b);
  };
}

pub refuses_like : (T : Tables) (nodes nodes1 : List Node) (t : Task) → Like nodes nodes1 → Refuses T nodes1 t → Refuses T nodes t
refuses_like T nodes nodes1 t x r pl K a s h = r pl K a (x.forth T K a s) h

-- the ends of `hop`
module _ (nodes nodes' : List Node) (i j k : ℕ) (one other : Node) (g : IsGraph nodes) (h : i < length nodes) (p : (node_at nodes i).form ≡ form.Link j) (e1 : one ≡ node_at nodes i) (e2 : other ≡ node_at nodes j) (q : other.form ≡ form.Link k)
    (is : nodes' ≡ with_node nodes i (record { kind = one.kind; level = one.level; form = form.Link k })) where
  q' : (node_at nodes j).form ≡ form.Link k
  q' = sym (ap (λ (n : Node). n.form) e2) ∙ q

  is' : nodes' ≡ with_node nodes i (record { kind = (node_at nodes i).kind; level = (node_at nodes i).level; form = form.Link k })
  is' = is ∙ ap (λ (n : Node). with_node nodes i (record { kind = n.kind; level = n.level; form = form.Link k })) e1

  pub hop_like : Like nodes nodes'
  hop_like = subst (Like nodes) (sym is') (halved nodes i j k g h p q')

  at_i : node_at nodes' i ≡ record { kind = (node_at nodes i).kind; level = (node_at nodes i).level; form = form.Link k }
  at_i = ap (λ ns. node_at ns i) is' ∙ node_same nodes i (record { kind = (node_at nodes i).kind; level = (node_at nodes i).level; form = form.Link k }) h

  i_in : i < length nodes'
  i_in = subst (λ n. i < n) (sym hop_like.long) h

  pub hop_same : (T : Tables) (K : Kinds) (a : Sub) → Solves T K a nodes' → a i ≡ a k
  hop_same T K a s = subst (Shows T a (a i)) (ap (λ (n : Node). n.form) at_i) (s.fits i i_in).shows

  pub hop_tops : (top : ℕ → ℕ) → Tops nodes' top → top i ≡ top k
  hop_tops top t = t.links i k i_in (ap (λ (n : Node). n.form) at_i)
