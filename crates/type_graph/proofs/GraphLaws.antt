-- Changing one node, linking two, and what that does to the solutions.
use Rattle.std.proofs.Common.{◌≡◌, ◌≢◌, ℕ, zero, suc, ◌+◌, ◌-◌, ◌*◌, ◌≤◌, ◌<◌, ◌^◌, List, [], ◌∷◌, length, refl, sym, ◌∙◌, subst, arith}
use mathlib.Core.Logic.{inl, inr}
use Rattle.std.proofs.Math.ListN.{length-set}
use Rattle.std.proofs.lemmas.List.{get_or-set_same, get_or-set_other}
use native.Mathlib.Decide.{ℕ_discrete}
use Rattle.fut_types.specs.declared.Kind.TheVariants as kind
use Rattle.fut_types.specs.Types.{Ty, Sub, Kinds, level, rank}
use Rattle.type_graph.specs.declared.Form.{Form}
use Rattle.type_graph.specs.declared.Form.TheVariants as form
use Rattle.type_graph.specs.declared.Node.{Node}
use Rattle.fut_types.specs.declared.shapes.ShapeTable.{ShapeTable}
use Rattle.type_graph.specs.Graph.{far, free_node, node_at, with_node, Tables, Fits, Solves, Within, Fitting, IsGraph, Bound, IsBound, depth, node_weight, total, is_root, one_root, IsRoot, Linked, link_to}
use Rattle.std.proofs.Math.Nat.{zero-mul}

pub node_same : (nodes : List Node) (i : ℕ) (x : Node) → i < length nodes → node_at (with_node nodes i x) i ≡ x
unfolding node_at with_node
node_same nodes i x h = get_or-set_same nodes i x free_node h

pub node_other : (nodes : List Node) (i j : ℕ) (x : Node) → j ≢ i → node_at (with_node nodes i x) j ≡ node_at nodes j
unfolding node_at with_node
node_other nodes i j x h = get_or-set_other nodes i j x free_node h

pub length_with : (nodes : List Node) (i : ℕ) (x : Node) → length (with_node nodes i x) ≡ length nodes
unfolding with_node
length_with nodes i x = length-set nodes i x

pub weight_with : (f : Node → ℕ) (nodes : List Node) (i : ℕ) (x : Node) → i < length nodes → total f (with_node nodes i x) + f (node_at nodes i) ≡ total f nodes + f x
unfolding total with_node node_at
weight_with f [] i x h = absurd (omega arith)
weight_with f (y ∷ ys) zero x h = omega arith
weight_with f (y ∷ ys) (suc i) x h = let e : total f (with_node ys i x) + f (node_at ys i) ≡ total f ys + f x = weight_with f ys i x (omega arith) in omega arith

pub total_less : {X : Type 0} (f g : X → ℕ) → ((x : X) → f x ≤ g x) → (xs : List X) → total f xs ≤ total g xs
unfolding total
total_less {X} f g h [] = omega arith
total_less {X} f g h (x ∷ xs) = let p : f x ≤ g x = h x in let q : total f xs ≤ total g xs = total_less f g h xs in omega arith

pub root_one : (f : Form) → IsRoot f → one_root f ≡ 1
root_one form.Free r = refl
root_one (form.Link j) r = absurd r
root_one (form.Made h x n) r = refl
root_one (form.Open e n) r = refl

-- what holds of each node, after one is changed
pub at_all : (P : ℕ → Node → Type 0) (nodes : List Node) (k : ℕ) (x : Node) → k < length nodes → P k x → ((i : ℕ) → i < length nodes → i ≢ k → P i (node_at nodes i)) → (i : ℕ) → i < length (with_node nodes k x) → P i (node_at (with_node nodes k x) i)
at_all P nodes k x h here others i lt =
    elim (ℕ_discrete i k) as (λ d. P i (node_at (with_node nodes k x) i)) [
      | yes e ↦ subst (λ j. P j (node_at (with_node nodes k x) j)) (sym e) (subst (P k) (sym (node_same nodes k x h)) here)
      | no ne ↦ subst (P i) (sym (node_other nodes k i x ne)) (others i (subst (λ n. i < n) (length_with nodes k x) lt) ne)
    ]

pub from_all : (P : ℕ → Node → Type 0) (nodes : List Node) (k : ℕ) (x : Node) → ((i : ℕ) → i < length (with_node nodes k x) → P i (node_at (with_node nodes k x) i)) → P k (node_at nodes k) → (i : ℕ) → i < length nodes → P i (node_at nodes i)
from_all P nodes k x all here i lt =
    elim (ℕ_discrete i k) as (λ d. P i (node_at nodes i)) [
      | yes e ↦ subst (λ j. P j (node_at nodes j)) (sym e) here
      | no ne ↦ subst (P i) (node_other nodes k i x ne) (all i (subst (λ n. i < n) (sym (length_with nodes k x)) lt))
    ]

pub here_all : (P : ℕ → Node → Type 0) (nodes : List Node) (k : ℕ) (x : Node) → k < length nodes → ((i : ℕ) → i < length (with_node nodes k x) → P i (node_at (with_node nodes k x) i)) → P k x
here_all P nodes k x h all = subst (P k) (node_same nodes k x h) (all k (subst (λ n. k < n) (sym (length_with nodes k x)) h))

abbrev Good : Tables → Kinds → Sub → ℕ → Node → Type 0
Good T K a i node = Fits T K a (a i) node

-- a changed node
pub solves_with : {T : Tables} {K : Kinds} {a : Sub} {nodes : List Node} (k : ℕ) (x : Node) → k < length nodes → Solves T K a nodes → Fits T K a (a k) x → Solves T K a (with_node nodes k x)
solves_with {T} {K} {a} {nodes} k x h s f = record { fits = at_all (Good T K a) nodes k x h f (λ i lt ne. s.fits i lt) }

pub solves_from : {T : Tables} {K : Kinds} {a : Sub} {nodes : List Node} (k : ℕ) (x : Node) → Solves T K a (with_node nodes k x) → Fits T K a (a k) (node_at nodes k) → Solves T K a nodes
solves_from {T} {K} {a} {nodes} k x s f = record { fits = from_all (Good T K a) nodes k x s.fits f }

pub solves_here : {T : Tables} {K : Kinds} {a : Sub} (nodes : List Node) (k : ℕ) (x : Node) → k < length nodes → Solves T K a (with_node nodes k x) → Fits T K a (a k) x
solves_here {T} {K} {a} nodes k x h s = here_all (Good T K a) nodes k x h s.fits

pub graph_with : {nodes : List Node} (k : ℕ) (x : Node) → k < length nodes → IsGraph nodes → Within (length nodes) k x.form → Fitting x.form → x.level ≤ far → IsGraph (with_node nodes k x)
graph_with {nodes} k x h g w fit near = record {
  short = subst (λ n. n < 2 ^ 32) (sym (length_with nodes k x)) g.short;
  within = subst (λ n. (i : ℕ) → i < length (with_node nodes k x) → Within n i (node_at (with_node nodes k x) i).form) (sym (length_with nodes k x))
      (at_all (λ i node. Within (length nodes) i node.form) nodes k x h w (λ i lt ne. g.within i lt));
  fitting = at_all (λ i node. Fitting node.form) nodes k x h fit (λ i lt ne. g.fitting i lt);
  near = at_all (λ i node. node.level ≤ far) nodes k x h near (λ i lt ne. g.near i lt);
}

pub bound_with : {table : ShapeTable} {m : ℕ} {nodes : List Node} (k : ℕ) (x : Node) → k < length nodes → Bound table m x.form → IsBound table m nodes → IsBound table m (with_node nodes k x)
bound_with {table} {m} {nodes} k x h w b = record { forms = at_all (λ i node. Bound table m node.form) nodes k x h w (λ i lt ne. b.forms i lt) }

link_weight : (r j : ℕ) → node_weight r (link_to j) ≡ 0
link_weight r j = zero-mul (depth * r + (5 - 0 + far))

no_kind : (K : Kinds) (t : Ty) → level kind.Any ≤ rank K t
no_kind K t = omega arith

-- a form that is no link does not care where it stands
pub root_within : (n i j : ℕ) (f : Form) → IsRoot f → Within n i f → Within n j f
root_within n i j form.Free r w = tt
root_within n i j (form.Link x) r w = absurd r
root_within n i j (form.Made h first count) r w = w
root_within n i j (form.Open e count) r w = w

pub moved_shows : {T : Tables} {K : Kinds} {a : Sub} {t u : Ty} {node : Node} → t ≡ u → Fits T K a t node → Fits T K a u node
moved_shows {T} {K} {a} {t} {u} {node} e f = subst (λ v. Fits T K a v node) e f

-- the winner stands lower
pub linked_down : (nodes : List Node) (w l : ℕ) → IsGraph nodes → IsRoot (node_at nodes l).form → w < l → l < length nodes → Linked nodes w l (with_node nodes l (link_to w))
linked_down nodes w l g rl lt h = record {
  graph = graph_with l (link_to w) h g lt tt (omega arith);
  long = length_with nodes l (link_to w);
  bound = λ table m b. bound_with l (link_to w) h tt b;
  roots = let e : total is_root (with_node nodes l (link_to w)) + is_root (node_at nodes l) ≡ total is_root nodes + 0 = weight_with is_root nodes l (link_to w) h in
      let o : is_root (node_at nodes l) ≡ 1 = root_one (node_at nodes l).form rl in omega arith;
  weight = λ r. let e : total (node_weight r) (with_node nodes l (link_to w)) + node_weight r (node_at nodes l) ≡ total (node_weight r) nodes + node_weight r (link_to w) = weight_with (node_weight r) nodes l (link_to w) h in
      let z : node_weight r (link_to w) ≡ 0 = link_weight r w in omega arith;
  forth = λ T K a s e. solves_with l (link_to w) h s (record { shows = sym e; has = no_kind K (a l) });
  back = λ T K a s f. solves_from l (link_to w) s (moved_shows (sym (solves_here _ l (link_to w) h s).shows) f);
  same = λ T K a s. sym (solves_here _ l (link_to w) h s).shows;
  keeps = λ T K a s. let q : w < length nodes = omega arith in subst (Fits T K a (a w)) (node_other nodes l w (link_to w) (λ e. absurd (omega arith))) (s.fits w (subst (λ n. w < n) (sym (length_with nodes l (link_to w))) q));
  up = w;
  down = l;
  which = inl (refl, refl);
  at_up = node_other nodes l w (link_to w) (λ e. absurd (omega arith));
  at_down = node_same nodes l (link_to w) h;
  others = λ i nw nl. node_other nodes l i (link_to w) nl;
}

-- the winner stands higher: what it is goes down
module _ (nodes : List Node) (w l : ℕ) (g : IsGraph nodes) (r : IsRoot (node_at nodes w).form) (rl : IsRoot (node_at nodes l).form) (lt : l < w) (h : w < length nodes) where
  moved : List Node
  moved = with_node nodes l (node_at nodes w)

  h_l : l < length nodes
  h_l = omega arith

  h_w : w < length moved
  unfolding moved
  h_w = subst (λ n. w < n) (sym (length_with nodes l (node_at nodes w))) h

  w_moved : node_at moved w ≡ node_at nodes w
  unfolding moved
  w_moved = node_other nodes l w (node_at nodes w) (λ e. absurd (omega arith))

  g_moved : IsGraph moved
  unfolding moved
  g_moved = graph_with l (node_at nodes w) h_l g (root_within (length nodes) w l (node_at nodes w).form r (g.within w h)) (g.fitting w h) (g.near w h)

  l_after : node_at (with_node moved w (link_to l)) l ≡ node_at nodes w
  unfolding moved
  l_after = node_other moved w l (link_to l) (λ e. absurd (omega arith)) ∙ node_same nodes l (node_at nodes w) h_l

  after : {T : Tables} {K : Kinds} {a : Sub} → Solves T K a (with_node moved w (link_to l)) → (a w ≡ a l) × Fits T K a (a w) (node_at nodes w) × Fits T K a (a l) (node_at nodes w)
  unfolding moved
  after {T} {K} {a} s =
      let e : a w ≡ a l = (solves_here _ w (link_to l) h_w s).shows in
      let q : l < length (with_node moved w (link_to l)) = subst (λ n. l < n) (sym (length_with moved w (link_to l) ∙ length_with nodes l (node_at nodes w))) h_l in
      let f : Fits T K a (a l) (node_at nodes w) = subst (Fits T K a (a l)) l_after (s.fits l q) in
      (e, moved_shows (sym e) f, f)

  counts : (f : Node → ℕ) → total f (with_node moved w (link_to l)) + f (node_at nodes l) ≡ total f nodes + f (link_to l)
  unfolding moved
  counts f =
      let e : total f (with_node moved w (link_to l)) + f (node_at moved w) ≡ total f moved + f (link_to l) = weight_with f moved w (link_to l) h_w in
      let e' : total f (with_node moved w (link_to l)) + f (node_at nodes w) ≡ total f moved + f (link_to l) = subst (λ n. total f (with_node moved w (link_to l)) + f n ≡ total f moved + f (link_to l)) w_moved e in
      let d : total f moved + f (node_at nodes l) ≡ total f nodes + f (node_at nodes w) = weight_with f nodes l (node_at nodes w) h_l in
      omega arith

  pub linked_up : Linked nodes w l (with_node (with_node nodes l (node_at nodes w)) w (link_to l))
  unfolding moved
  linked_up = record {
    graph = graph_with w (link_to l) h_w g_moved lt tt (omega arith);
    long = length_with moved w (link_to l) ∙ length_with nodes l (node_at nodes w);
    bound = λ table m b. bound_with w (link_to l) h_w tt (bound_with l (node_at nodes w) h_l (b.forms w h) b);
    roots = let c = counts is_root in let o : is_root (node_at nodes l) ≡ 1 = root_one (node_at nodes l).form rl in
        let c' : total is_root (with_node moved w (link_to l)) + is_root (node_at nodes l) ≡ total is_root nodes + 0 = c in omega arith;
    weight = λ r. let c : total (node_weight r) (with_node moved w (link_to l)) + node_weight r (node_at nodes l) ≡ total (node_weight r) nodes + node_weight r (link_to l) = counts (node_weight r) in
        let z : node_weight r (link_to l) ≡ 0 = link_weight r l in omega arith;
    forth = λ T K a s e. solves_with w (link_to l) h_w (solves_with l (node_at nodes w) h_l s (moved_shows e (s.fits w h))) (record { shows = e; has = no_kind K (a w) });
    back = λ T K a s f. let p = after s in
        solves_from l (node_at nodes w) (solves_from w (link_to l) s (subst (Fits T K a (a w)) (sym w_moved) p.1)) (moved_shows p.0 f);
    same = λ T K a s. (after s).0;
    keeps = λ T K a s. (after s).1;
    up = l;
    down = w;
    which = inr (refl, refl);
    at_up = l_after;
    at_down = node_same moved w (link_to l) h_w;
    others = λ i nw nl. node_other moved w i (link_to l) nw ∙ node_other nodes l i (node_at nodes w) nl;
  }
