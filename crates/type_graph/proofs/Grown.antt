-- Further nodes.
use Rattle.std.proofs.Common.{◌≡◌, ℕ, zero, suc, ◌+◌, ◌-◌, ◌≤◌, ◌<◌, ◌^◌, List, [], ◌∷◌, ◌++◌, length, drop, slice_index_or, refl, sym, ◌∙◌, ap, subst, arith, append_assoc}
use mathlib.Core.Logic.{◌⊎◌, inl, inr}
use native.Mathlib.Decide.{ℕ_discrete}
use Rattle.fut_types.specs.declared.Kind.{Kind}
use Rattle.fut_types.specs.declared.Kind.TheVariants as kind
use Rattle.fut_types.specs.declared.Head.{Head}
use Rattle.fut_types.specs.declared.Head.TheVariants as head
use Rattle.fut_types.specs.declared.shapes.ShapeTable.{ShapeTable}
use Rattle.fut_types.specs.Types.{Ty, none, more, Sub, Kinds, level, rank, row}
use Rattle.fut_types.specs.Shapes.{HasPart}
use Rattle.type_graph.specs.declared.Form.{Form}
use Rattle.type_graph.specs.declared.Form.TheVariants as form
use Rattle.type_graph.specs.declared.Node.{Node}
use Rattle.type_graph.specs.declared.Entry.{Entry}
use Rattle.type_graph.specs.declared.Task.{Task}
use Rattle.type_graph.specs.declared.Task.TheVariants as task
use Rattle.type_graph.specs.Graph.{far, node_at, Reading, Tables, read, type_made, Fitting, IsParameter, Once, Told, parts_of, children, chained, numbers, Names, All_named, Shows, Fits, Solves, Meeting, Each, Within, IsGraph, IsRoot}
use Rattle.type_graph.specs.State.{Ask, AtLeast, AtMost, Obeys, Tops, Sure, State, form_cap, Fixed, FixedTask, Backed}
use Rattle.type_graph.proofs.StateLaws.{each_map, fixed_less}
use Rattle.type_graph.proofs.PartLaws.{reads, within_parts}
use Rattle.type_graph.proofs.Ends.{starts}
use Rattle.type_graph.specs.Claims.{new_node, links, types_of, Common, Sound, Allowed, Inside, Grown}

pub lt_or : (m n : ℕ) → (m < n) ⊎ (n ≤ m)
lt_or zero zero = inr (omega arith)
lt_or zero (suc n) = inl (omega arith)
lt_or (suc m) zero = inr (omega arith)
lt_or (suc m) (suc n) = elim (lt_or m n) as (λ x. (suc m < suc n) ⊎ (suc n ≤ suc m)) [ inl h ↦ inl (omega arith) | inr h ↦ inr (omega arith) ]

pub node_old : (nodes : List Node) (x : Node) (i : ℕ) → i < length nodes → node_at (nodes ++ x ∷ []) i ≡ node_at nodes i
unfolding node_at
node_old [] x i h = absurd (omega arith)
node_old (y ∷ ys) x zero h = refl
node_old (y ∷ ys) x (suc i) h = node_old ys x i (omega arith)

pub node_new : (nodes : List Node) (x : Node) → node_at (nodes ++ x ∷ []) (length nodes) ≡ x
unfolding node_at
node_new [] x = refl
node_new (y ∷ ys) x = node_new ys x

pub long_new : (nodes : List Node) (x : Node) → length (nodes ++ x ∷ []) ≡ suc (length nodes)
long_new [] x = refl
long_new (y ∷ ys) x = ap suc (long_new ys x)

pub solves_old : (T : Tables) (nodes nodes' : List Node) → Grown T nodes nodes' → (K : Kinds) (a : Sub) → Solves T K a nodes' → Solves T K a nodes
solves_old T nodes nodes' g K a s = record { fits = λ i lt. subst (Fits T K a (a i)) (g.old i lt) (s.fits i (let p : length nodes ≤ length nodes' = g.longer in omega arith)) }

pub grown_none : (T : Tables) (nodes : List Node) → IsGraph nodes → Inside T nodes → Grown T nodes nodes
grown_none T nodes g n = record { graph = g; inside = n; longer = omega arith; old = λ i lt. refl; state = λ home base le s. s; backed = λ home born b. b }

pub grown_then : (T : Tables) (n0 n1 n2 : List Node) → Grown T n0 n1 → Grown T n1 n2 → Grown T n0 n2
grown_then T n0 n1 n2 p q = record {
  graph = q.graph;
  inside = q.inside;
  longer = let a : length n0 ≤ length n1 = p.longer in let b : length n1 ≤ length n2 = q.longer in omega arith;
  old = λ i lt. q.old i (let a : length n0 ≤ length n1 = p.longer in omega arith) ∙ p.old i lt;
  state = λ home base le s. q.state home base (let a : length n0 ≤ length n1 = p.longer in omega arith) (p.state home base le s);
  backed = λ home born b. q.backed home born (p.backed home born b);
}

within_more : (n m i : ℕ) (f : Form) → n ≤ m → Within n i f → Within m i f
within_more n m i form.Free le w = tt
within_more n m i (form.Link j) le w = w
within_more n m i (form.Made h x c) le w = omega arith
within_more n m i (form.Open e c) le w = w

-- the parts of a well-formed graph's nodes are nodes
pub sound_inside : (table : ShapeTable) (nodes : List Node) (entries : List Entry) (T : Tables) → Sound table nodes entries → Told table entries T → Inside T nodes
sound_inside table nodes entries T s told i lt = within_parts table (length nodes) (length entries) T (reads table (length nodes) entries T told.listed s.are) (node_at nodes i).form i (s.graph.within i lt) (starts table (length entries) nodes i s.graph s.bound lt)

-- what may be added has no parts if it is a type parameter, and is none
common_fits : (f : Form) → Common f → Fitting f
common_fits form.Free c = tt
common_fits (form.Link j) c = tt
common_fits (form.Made (head.Rigid n k) x m) c = absurd c
common_fits (form.Made (head.Scalar s) x m) c = tt
common_fits (form.Made head.Array x m) c = tt
common_fits (form.Made head.Tuple x m) c = tt
common_fits (form.Made (head.Record n) x m) c = tt
common_fits (form.Made head.Fun x m) c = tt
common_fits (form.Made (head.Abstract n d) x m) c = tt
common_fits (form.Open e m) c = absurd c

common_once : (T : Tables) (f : Form) → Common f → Once T f
common_once T form.Free c = tt
common_once T (form.Link j) c = tt
common_once T (form.Made h x m) c = tt
common_once T (form.Open e m) c = absurd c

no_seat : (n : ℕ) (f : Form) → Common f → IsParameter n f → ⊥
no_seat n f c p = subst Common p.3 c

-- what holds of each node
each_new : (nodes : List Node) (y : Node) (P : ℕ → Node → Type 0) → ((i : ℕ) → i < length nodes → P i (node_at nodes i)) → P (length nodes) y → (i : ℕ) → i < length (nodes ++ y ∷ []) → P i (node_at (nodes ++ y ∷ []) i)
each_new nodes y P old new i lt =
    elim (ℕ_discrete i (length nodes)) as (λ d. P i (node_at (nodes ++ y ∷ []) i)) [
      | yes e ↦ subst (λ j. P j (node_at (nodes ++ y ∷ []) j)) (sym e) (subst (P (length nodes)) (sym (node_new nodes y)) new)
      | no ne ↦ let lt' : i < suc (length nodes) = subst (λ n. i < n) (long_new nodes y) lt in let h : i < length nodes = grind (arith, ne) in
          subst (P i) (sym (node_old nodes y i h)) (old i h)
    ]

-- one more node keeps a graph well-formed
pub push_graph : (nodes : List Node) (y : Node) → IsGraph nodes → suc (length nodes) < 2 ^ 32 → Within (length nodes) (length nodes) y.form → Fitting y.form → y.level ≤ far → IsGraph (nodes ++ y ∷ [])
push_graph nodes y g short w fit near = record {
  short = subst (λ n. n < 2 ^ 32) (sym (long_new nodes y)) short;
  within = subst (λ n. (i : ℕ) → i < length (nodes ++ y ∷ []) → Within n i (node_at (nodes ++ y ∷ []) i).form) (sym (long_new nodes y))
      (each_new nodes y (λ i n. Within (suc (length nodes)) i n.form) (λ i h. within_more (length nodes) (suc (length nodes)) i _ (omega arith) (g.within i h)) (within_more (length nodes) (suc (length nodes)) (length nodes) y.form (omega arith) w));
  fitting = each_new nodes y (λ i n. Fitting n.form) (λ i h. g.fitting i h) fit;
  near = each_new nodes y (λ i n. n.level ≤ far) (λ i h. g.near i h) near;
}

pub graph_push : (nodes : List Node) (f : Form) → IsGraph nodes → suc (length nodes) < 2 ^ 32 → Within (length nodes) (length nodes) f → Common f → IsGraph (nodes ++ new_node f ∷ [])
graph_push nodes f g short w c = push_graph nodes (new_node f) g short w (common_fits f c) (omega arith)

pub made_no_link : (h : Head) (x n j : ℕ) → form.Made h x n ≡ form.Link j → ⊥
made_no_link h x n j e = subst is_made e tt
  where
    is_made : Form → Type 0
    is_made form.Free = ⊥
    is_made (form.Link j) = ⊥
    is_made (form.Made h x n) = Unit {0}
    is_made (form.Open e n) = ⊥

-- the type parameter that a form is made by
parameter_in : Form → ℕ
parameter_in form.Free = 0
parameter_in (form.Link j) = 0
parameter_in (form.Made (head.Rigid m k) x c) = m
parameter_in (form.Made h x c) = 0
parameter_in (form.Open e c) = 0

pub same_parameter : (n m : ℕ) (k : Kind) → IsParameter m (form.Made (head.Rigid n k) 0 0) → n ≡ m
unfolding parameter_in
same_parameter n m k p = ap parameter_in p.3

abbrev pub new_at : Form → ℕ → Node
new_at f l = record { kind = kind.Any; level = l; form = f }

-- one more node, the last
module _ (T : Tables) (nodes : List Node) (f : Form) (l : ℕ) (g : IsGraph nodes) (inn : Inside T nodes) (short : suc (length nodes) < 2 ^ 32) (w : Within (length nodes) (length nodes) f) (own : Each (λ c. c < length nodes) (parts_of T f))
    (near : l ≤ far) (fit : Fitting f) (once : Once T f) (free : (n : ℕ) → IsParameter n f → T.seat n ≡ length nodes) (flat : (far ≤ l) ⊎ (parts_of T f ≡ [])) (linked : (j : ℕ) → f ≡ form.Link j → far ≤ l) where
  -- what holds of each node
  all_new : (P : ℕ → Node → Type 0) → ((i : ℕ) → i < length nodes → P i (node_at nodes i)) → P (length nodes) (new_at f l) → (i : ℕ) → i < length (nodes ++ new_at f l ∷ []) → P i (node_at (nodes ++ new_at f l ∷ []) i)
  all_new P old new i lt = each_new nodes (new_at f l) P old new i lt

  pub inside_new : Inside T (nodes ++ new_at f l ∷ [])
  inside_new = subst (λ n. (i : ℕ) → i < length (nodes ++ new_at f l ∷ []) → Each (λ c. c < n) (parts_of T (node_at (nodes ++ new_at f l ∷ []) i).form)) (sym (long_new nodes (new_at f l)))
      (all_new (λ i node. Each (λ c. c < suc (length nodes)) (parts_of T node.form)) (λ i h. each_map (λ c lt. one_more c lt) _ (inn i h)) (each_map (λ c lt. one_more c lt) _ own))
    where
      one_more : (c : ℕ) → c < length nodes → c < suc (length nodes)
      one_more c lt = omega arith

  -- the root of the new node
  own_top : (ℕ → ℕ) → Form → ℕ
  own_top top form.Free = length nodes
  own_top top (form.Link j) = top j
  own_top top (form.Made h x n) = length nodes
  own_top top (form.Open e n) = length nodes

  new_top : (ℕ → ℕ) → ℕ → ℕ
  new_top top i = elim (ℕ_discrete i (length nodes)) as (λ d. ℕ) [ yes e ↦ own_top top f | no ne ↦ top i ]

  new_top_old : (top : ℕ → ℕ) (i : ℕ) → i < length nodes → new_top top i ≡ top i
  unfolding new_top
  new_top_old top i lt = elim (ℕ_discrete i (length nodes)) as (λ d. (elim d as (λ d. ℕ) [ yes e ↦ own_top top f | no ne ↦ top i ]) ≡ top i) [ yes e ↦ absurd (omega arith) | no ne ↦ refl ]

  new_top_new : (top : ℕ → ℕ) → new_top top (length nodes) ≡ own_top top f
  unfolding new_top
  new_top_new top = elim (ℕ_discrete (length nodes) (length nodes)) as (λ d. (elim d as (λ d. ℕ) [ yes e ↦ own_top top f | no ne ↦ top (length nodes) ]) ≡ own_top top f) [ yes e ↦ refl | no ne ↦ absurd (ne refl) ]

  more_in : (i : ℕ) → i < length nodes → i < length (nodes ++ new_at f l ∷ [])
  more_in i lt = subst (λ n. i < n) (sym (long_new nodes (new_at f l))) (omega arith)

  last_in : length nodes < length (nodes ++ new_at f l ∷ [])
  last_in = subst (λ n. length nodes < n) (sym (long_new nodes (new_at f l))) (omega arith)

  own_below : (top : ℕ → ℕ) → Tops nodes top → (u : Form) → u ≡ f → own_top top u < length (nodes ++ new_at f l ∷ [])
  unfolding own_top
  own_below top t form.Free e = last_in
  own_below top t (form.Made h x n) e = last_in
  own_below top t (form.Open y n) e = last_in
  own_below top t (form.Link j) e = more_in (top j) (t.below j (subst (Within (length nodes) (length nodes)) (sym e) w))

  own_root : (top : ℕ → ℕ) → Tops nodes top → (u : Form) → u ≡ f → IsRoot (node_at (nodes ++ new_at f l ∷ []) (own_top top u)).form
  unfolding own_top
  own_root top t form.Free e = subst (λ n. IsRoot n.form) (sym (node_new nodes (new_at f l))) (subst IsRoot e tt)
  own_root top t (form.Made h x n) e = subst (λ n. IsRoot n.form) (sym (node_new nodes (new_at f l))) (subst IsRoot e tt)
  own_root top t (form.Open y n) e = subst (λ n. IsRoot n.form) (sym (node_new nodes (new_at f l))) (subst IsRoot e tt)
  own_root top t (form.Link j) e = let lt : j < length nodes = subst (Within (length nodes) (length nodes)) (sym e) w in
      subst (λ n. IsRoot n.form) (sym (node_old nodes (new_at f l) (top j) (t.below j lt))) (t.roots j lt)

  own_self : (top : ℕ → ℕ) (u : Form) → u ≡ f → IsRoot u → own_top top u ≡ length nodes
  unfolding own_top
  own_self top form.Free e r = refl
  own_self top (form.Link j) e r = absurd r
  own_self top (form.Made h x n) e r = refl
  own_self top (form.Open y n) e r = refl

  tops_new : (top : ℕ → ℕ) → Tops nodes top → Tops (nodes ++ new_at f l ∷ []) (new_top top)
  unfolding own_top
  tops_new top t = record {
    below = λ i lt. all_new (λ i n. new_top top i < length (nodes ++ new_at f l ∷ []))
        (λ i h. subst (λ r. r < length (nodes ++ new_at f l ∷ [])) (sym (new_top_old top i h)) (more_in (top i) (t.below i h)))
        (subst (λ r. r < length (nodes ++ new_at f l ∷ [])) (sym (new_top_new top)) (own_below top t f refl)) i lt;
    roots = λ i lt. all_new (λ i n. IsRoot (node_at (nodes ++ new_at f l ∷ []) (new_top top i)).form)
        (λ i h. subst (λ r. IsRoot (node_at (nodes ++ new_at f l ∷ []) r).form) (sym (new_top_old top i h)) (subst (λ n. IsRoot n.form) (sym (node_old nodes (new_at f l) (top i) (t.below i h))) (t.roots i h)))
        (subst (λ r. IsRoot (node_at (nodes ++ new_at f l ∷ []) r).form) (sym (new_top_new top)) (own_root top t f refl)) i lt;
    links = λ i j lt. all_new (λ i n. n.form ≡ form.Link j → new_top top i ≡ new_top top j)
        (λ i h e. let lj : j < i = subst (Within (length nodes) i) e (g.within i h) in new_top_old top i h ∙ t.links i j h e ∙ sym (new_top_old top j (omega arith)))
        (λ e. let lj : j < length nodes = subst (Within (length nodes) (length nodes)) e w in new_top_new top ∙ ap (own_top top) e ∙ sym (new_top_old top j lj)) i lt;
    selves = λ i lt. all_new (λ i n. IsRoot n.form → new_top top i ≡ i)
        (λ i h r. new_top_old top i h ∙ t.selves i h r)
        (λ r. new_top_new top ∙ own_self top f refl r) i lt;
  }

  module _ (home : ℕ → ℕ) (base : ℕ) (le : base ≤ length nodes) (s : State T home base nodes []) where
    -- a note that holds at an old node's root holds still
    sure_old : (q : Ask) (c : ℕ) → c < length nodes → Sure nodes [] s.top q c → Sure (nodes ++ new_at f l ∷ []) [] (new_top s.top) q c
    sure_old q c lt (inl o) = inl (subst (λ r. Obeys q (node_at (nodes ++ new_at f l ∷ []) r).kind (node_at (nodes ++ new_at f l ∷ []) r).level) (sym (new_top_old s.top c lt))
        (subst (λ n. Obeys q n.kind n.level) (sym (node_old nodes (new_at f l) (s.top c) (s.tops.below c lt))) o))
    sure_old q c lt (inr v) = absurd v

    -- nothing much is asked by the new node
    sure_far : far ≤ l → (q : Ask) (c : ℕ) → Obeys q kind.Any l → c < length nodes → Sure (nodes ++ new_at f l ∷ []) [] (new_top s.top) q c
    sure_far le (AtLeast n) c o lt = inl (let p : n ≤ 0 = o in omega arith)
    sure_far le (AtMost n) c o lt = sure_old (AtMost n) c lt (inl (let p : (node_at nodes (s.top c)).level ≤ far = g.near (s.top c) (s.tops.below c lt) in let q : l ≤ n = o in omega arith))

    sure_any : (q : Ask) → Obeys q kind.Any l → Each (Sure (nodes ++ new_at f l ∷ []) [] (new_top s.top) q) (parts_of T f)
    sure_any q o = elim flat as (λ d. Each (Sure (nodes ++ new_at f l ∷ []) [] (new_top s.top) q) (parts_of T f)) [
      | inl le ↦ each_map (λ c lc. sure_far le q c o lc) _ own
      | inr z ↦ subst (Each (Sure (nodes ++ new_at f l ∷ []) [] (new_top s.top) q)) (sym z) tt
    ]

    each_old : (q : Ask) (cs : List ℕ) → Each (λ c. c < length nodes) cs → Each (Sure nodes [] s.top q) cs → Each (Sure (nodes ++ new_at f l ∷ []) [] (new_top s.top) q) cs
    each_old q [] l h = tt
    each_old q (c ∷ cs) l h = (sure_old q c l.0 h.0, each_old q cs l.1 h.1)

    pub state_new : State T home base (nodes ++ new_at f l ∷ []) []
    state_new = record {
      top = new_top s.top;
      tops = tops_new s.top s.tops;
      capped = λ i lt. all_new (λ i node. level node.kind ≤ form_cap node.form) (λ i b. s.capped i b) (omega arith) i lt;
      parts = λ i q lt. all_new (λ i node. Obeys q node.kind node.level → Each (Sure (nodes ++ new_at f l ∷ []) [] (new_top s.top) q) (parts_of T node.form))
          (λ i b o. each_old q _ (inn i b) (s.parts i q b o))
          (λ o. sure_any q o) i lt;
      bare = λ i j lt. all_new (λ i node. node.form ≡ form.Link j → level node.kind ≡ 0) (λ i b e. s.bare i j b e) (λ e. refl) i lt;
      afar = λ i j lt. all_new (λ i node. node.form ≡ form.Link j → far ≤ node.level) (λ i b e. s.afar i j b e) (λ e. linked j e) i lt;
      homes = λ m lt. sure_old (AtMost (home m)) m (omega arith) (s.homes m lt);
      once = λ i lt. all_new (λ i node. Once T node.form) (λ i b. s.once i b) once i lt;
      seated = λ n i lt. all_new (λ i node. IsParameter n node.form → (T.seat n < length (nodes ++ new_at f l ∷ [])) × (new_top s.top i ≡ new_top s.top (T.seat n)))
          (λ i h p. let q = s.seated n i h p in (more_in (T.seat n) q.0, new_top_old s.top i h ∙ q.1 ∙ sym (new_top_old s.top (T.seat n) q.0)))
          (λ p. (subst (λ j. j < length (nodes ++ new_at f l ∷ [])) (sym (free n p)) last_in, ap (new_top s.top) (sym (free n p)))) i lt;
    }

  meets_less : (v : Reading) (K : Kinds) (a : Sub) → Meeting T (nodes ++ new_at f l ∷ []) [] v K a → Meeting T nodes [] v K a
  meets_less v K a m = record {
    solves = record { fits = λ i lt. subst (Fits (read T v) K a (a i)) (node_old nodes (new_at f l) i lt) (m.solves.fits i (more_in i lt)) };
    holds = tt;
  }

  pub last_shows : (v : Reading) (K : Kinds) (a : Sub) → Meeting T (nodes ++ new_at f l ∷ []) [] v K a → Shows (read T v) a (a (length nodes)) f
  last_shows v K a m = (subst (Fits (read T v) K a (a (length nodes))) (node_new nodes (new_at f l)) (m.solves.fits (length nodes) last_in)).shows

  pub backed_new : (home born : ℕ → ℕ) → Fixed (Meeting T (nodes ++ new_at f l ∷ []) []) home born l (length nodes) → Backed (Meeting T nodes []) home born nodes [] → Backed (Meeting T (nodes ++ new_at f l ∷ []) []) home born (nodes ++ new_at f l ∷ []) []
  backed_new home born new b = record {
    notes = λ i lt. all_new (λ i n. Fixed (Meeting T (nodes ++ new_at f l ∷ []) []) home born n.level i) (λ i h. fixed_less _ _ home born _ i meets_less (b.notes i h)) new i lt;
    asks = tt;
  }

  pub more_nodes : length nodes ≤ length (nodes ++ new_at f l ∷ [])
  more_nodes = subst (λ n. length nodes ≤ n) (sym (long_new nodes (new_at f l))) (omega arith)

module _ (T : Tables) (nodes : List Node) (f : Form) (g : IsGraph nodes) (inn : Inside T nodes) (short : suc (length nodes) < 2 ^ 32) (w : Within (length nodes) (length nodes) f) (c : Common f) (own : Each (λ c. c < length nodes) (parts_of T f)) where
  pub grown_push : Grown T nodes (nodes ++ new_node f ∷ [])
  grown_push = record {
    graph = graph_push nodes f g short w c;
    inside = inside_new T nodes f far g inn short w own (omega arith) (common_fits f c) (common_once T f c) (λ n p. absurd (no_seat n f c p)) (inl (omega arith)) (λ j e. omega arith);
    longer = more_nodes T nodes f far g inn short w own (omega arith) (common_fits f c) (common_once T f c) (λ n p. absurd (no_seat n f c p)) (inl (omega arith)) (λ j e. omega arith);
    old = λ i lt. node_old nodes (new_node f) i lt;
    state = state_new T nodes f far g inn short w own (omega arith) (common_fits f c) (common_once T f c) (λ n p. absurd (no_seat n f c p)) (inl (omega arith)) (λ j e. omega arith);
    backed = λ home born b. backed_new T nodes f far g inn short w own (omega arith) (common_fits f c) (common_once T f c) (λ n p. absurd (no_seat n f c p)) (inl (omega arith)) (λ j e. omega arith) home born (λ h. absurd (omega arith)) b;
  }

-- more tasks
pub waits_more : (T : Tables) (home : ℕ → ℕ) (base : ℕ) (nodes : List Node) (tasks : List Task) → State T home base nodes [] → State T home base nodes tasks
waits_more T home base nodes tasks s = record {
  top = s.top;
  tops = s.tops;
  capped = s.capped;
  parts = λ i q lt o. each_map (go q) _ (s.parts i q lt o);
  bare = s.bare;
  afar = s.afar;
  homes = λ m lt. go (AtMost (home m)) m (s.homes m lt);
  once = s.once;
  seated = s.seated;
}
  where
    go : (q : Ask) (c : ℕ) → Sure nodes [] s.top q c → Sure nodes tasks s.top q c
    go q c (inl o) = inl o
    go q c (inr v) = absurd v

pub allowed_asks : (S : Reading → Kinds → Sub → Type 0) (home born : ℕ → ℕ) (t : Task) → Allowed home t → FixedTask S home born t
allowed_asks S home born (task.Same i j) p = tt
allowed_asks S home born (task.Has i k l) (inl p) = λ lt v K a v' K' a' s s' same. same.numbers i p
allowed_asks S home born (task.Has i k l) (inr p) = λ lt. absurd (let q : far ≤ l = p in omega arith)
allowed_asks S home born (task.Part i label c) p = tt

all_asks : (S : Reading → Kinds → Sub → Type 0) (home born : ℕ → ℕ) (ts : List Task) → Each (Allowed home) ts → Each (FixedTask S home born) ts
all_asks S home born [] p = tt
all_asks S home born (t ∷ ts) p = (allowed_asks S home born t p.0, all_asks S home born ts p.1)

pub backed_more : (T : Tables) (home born : ℕ → ℕ) (nodes : List Node) (tasks : List Task) → Each (Allowed home) tasks → Backed (Meeting T nodes []) home born nodes [] → Backed (Meeting T nodes tasks) home born nodes tasks
backed_more T home born nodes tasks p b = record {
  notes = λ i lt. fixed_less _ _ home born _ i (λ v K a m. record { solves = m.solves; holds = tt }) (b.notes i lt);
  asks = all_asks (Meeting T nodes tasks) home born tasks p;
}

-- only the types of the nodes matter
each_agree : (n : ℕ) (a b : Sub) → ((i : ℕ) → i < n → a i ≡ b i) → (cs : List ℕ) → Each (λ c. c < n) cs → Each (λ c. a c ≡ b c) cs
each_agree n a b e cs h = each_map (λ c lt. e c lt) cs h

row_agree : (a b : Sub) (x n : ℕ) → Each (λ c. a c ≡ b c) (numbers x n) → row a x n ≡ row b x n
unfolding numbers
row_agree a b x zero h = refl
row_agree a b x (suc n) h = λ i. more (h.0 i) (row_agree a b (suc x) n h.1 i)

pub names_agree : (T : Tables) (a b : Sub) (t u : Ty) (e n : ℕ) → t ≡ u → Each (λ c. a c ≡ b c) (children T e n) → Names T a t e n → Names T b u e n
unfolding All_named chained
names_agree T a b t u e zero p h s = tt
names_agree T a b t u e (suc n) p h s = (subst (λ v. HasPart T.shapes (T.entry e).label v (b (T.entry e).child)) p (subst (HasPart T.shapes (T.entry e).label t) h.0 s.0), names_agree T a b t u (T.entry e).next n p h.1 s.1)

pub shows_agree : (T : Tables) (n i : ℕ) (a b : Sub) (t u : Ty) (f : Form) → ((i : ℕ) → i < n → a i ≡ b i) → i ≤ n → t ≡ u → Within n i f → Each (λ c. c < n) (parts_of T f) → Shows T a t f → Shows T b u f
shows_agree T n i a b t u form.Free e h p w c s = tt
shows_agree T n i a b t u (form.Link j) e h p w c s = sym p ∙ s ∙ e j (omega arith)
shows_agree T n i a b t u (form.Made hd x m) e h p w c s = sym p ∙ s ∙ ap (type_made T.rigid hd) (row_agree a b x m (each_agree n a b e _ c))
shows_agree T n i a b t u (form.Open y m) e h p w c s = names_agree T a b t u y m p (each_agree n a b e _ c) s

pub solves_agree : (T : Tables) (K : Kinds) (a b : Sub) (nodes : List Node) → IsGraph nodes → Inside T nodes → ((i : ℕ) → i < length nodes → a i ≡ b i) → Solves T K a nodes → Solves T K b nodes
solves_agree T K a b nodes g inn e s = record {
  fits = λ i h. record {
    shows = shows_agree T (length nodes) i a b (a i) (b i) _ e (omega arith) (e i h) (g.within i h) (inn i h) (s.fits i h).shows;
    has = subst (λ t. level (node_at nodes i).kind ≤ rank K t) (e i h) (s.fits i h).has;
  };
}

-- types for the new nodes
unfoldable pub joined : ℕ → Sub → Sub → Sub
joined n a b i = elim (lt_or i n) as (λ d. Ty) [ inl lt ↦ a i | inr le ↦ b (i - n) ]

pub joined_low : (n : ℕ) (a b : Sub) (i : ℕ) → i < n → joined n a b i ≡ a i
unfolding joined
joined_low n a b i h = elim (lt_or i n) as (λ d. (elim d as (λ d. Ty) [ inl lt ↦ a i | inr le ↦ b (i - n) ]) ≡ a i) [ inl lt ↦ refl | inr le ↦ absurd (omega arith) ]

pub joined_high : (n : ℕ) (a b : Sub) (k : ℕ) → joined n a b (n + k) ≡ b k
unfolding joined
joined_high n a b k = elim (lt_or (n + k) n) as (λ d. (elim d as (λ d. Ty) [ inl lt ↦ a (n + k) | inr le ↦ b (n + k - n) ]) ≡ b k) [ inl lt ↦ absurd (omega arith) | inr le ↦ ap b (omega arith) ]

-- a type for one more node
module _ (T : Tables) (nodes : List Node) (f : Form) (g : IsGraph nodes) (inn : Inside T nodes) (K : Kinds) (a : Sub) (t : Ty) where
  abbrev other : Sub
  other = joined (length nodes) a (λ k. t)

  pub extend_low : (i : ℕ) → i < length nodes → joined (length nodes) a (λ k. t) i ≡ a i
  extend_low i lt = joined_low (length nodes) a (λ k. t) i lt

  pub extend_last : joined (length nodes) a (λ k. t) (length nodes) ≡ t
  extend_last = ap (joined (length nodes) a (λ k. t)) (let z : length nodes ≡ length nodes + 0 = omega arith in z) ∙ joined_high (length nodes) a (λ k. t) 0

  pub extend_at : (l : ℕ) → Solves T K a nodes → Shows T (joined (length nodes) a (λ k. t)) (joined (length nodes) a (λ k. t) (length nodes)) f → Solves T K (joined (length nodes) a (λ k. t)) (nodes ++ new_at f l ∷ [])
  extend_at l s shows = record {
    fits = λ i lt. elim (lt_or i (length nodes)) as (λ d. Fits T K (joined (length nodes) a (λ k. t)) (joined (length nodes) a (λ k. t) i) (node_at (nodes ++ new_at f l ∷ []) i)) [
      | inl h ↦ subst (Fits T K (joined (length nodes) a (λ k. t)) (joined (length nodes) a (λ k. t) i)) (sym (node_old nodes (new_at f l) i h)) ((solves_agree T K a (joined (length nodes) a (λ k. t)) nodes g inn (λ j l. sym (extend_low j l)) s).fits i h)
      | inr h ↦ let z : length nodes ≡ i = (let l : length (nodes ++ new_at f l ∷ []) ≡ suc (length nodes) = long_new nodes (new_at f l) in omega arith) in
          subst (λ j. Fits T K (joined (length nodes) a (λ k. t)) (joined (length nodes) a (λ k. t) j) (node_at (nodes ++ new_at f l ∷ []) j)) z
          (subst (Fits T K (joined (length nodes) a (λ k. t)) (joined (length nodes) a (λ k. t) (length nodes))) (sym (node_new nodes (new_at f l))) (record { shows = shows; has = omega arith }))
    ];
  }

  pub extend_one : Solves T K a nodes → Shows T (joined (length nodes) a (λ k. t)) (joined (length nodes) a (λ k. t) (length nodes)) f → Solves T K (joined (length nodes) a (λ k. t)) (nodes ++ new_node f ∷ [])
  extend_one s shows = extend_at far s shows

-- a row of links
pub links_more : (p : ℕ) (ps : List ℕ) (nodes : List Node) → nodes ++ links (p ∷ ps) ≡ (nodes ++ new_node (form.Link p) ∷ []) ++ links ps
unfolding links
links_more p ps nodes = sym (append_assoc nodes (new_node (form.Link p) ∷ []) (links ps))

pub links_none : (nodes : List Node) → nodes ++ links [] ≡ nodes
unfolding links
links_none [] = refl
links_none (x ∷ xs) = ap (λ l. x ∷ l) (links_none xs)

pub long_links : (ps : List ℕ) (nodes : List Node) → length (nodes ++ links ps) ≡ length nodes + length ps
long_links [] nodes = ap length (links_none nodes) ∙ omega arith
long_links (p ∷ ps) nodes = ap length (links_more p ps nodes) ∙ long_links ps (nodes ++ new_node (form.Link p) ∷ []) ∙ (let l : length (nodes ++ new_node (form.Link p) ∷ []) ≡ suc (length nodes) = long_new nodes (new_node (form.Link p)) in omega arith)

below_more : (n m : ℕ) → n ≤ m → (ps : List ℕ) → Each (λ p. p < n) ps → Each (λ p. p < m) ps
below_more n m le ps h = each_map (λ p lt. more_than p lt) ps h
  where
    more_than : (p : ℕ) → p < n → p < m
    more_than p lt = omega arith

pub grown_links : (T : Tables) (ps : List ℕ) (nodes : List Node) → IsGraph nodes → Inside T nodes → length nodes + length ps < 2 ^ 32 → Each (λ p. p < length nodes) ps → Grown T nodes (nodes ++ links ps)
grown_links T [] nodes g inn short h = subst (Grown T nodes) (sym (links_none nodes)) (grown_none T nodes g inn)
grown_links T (p ∷ ps) nodes g inn short h =
    let one = grown_push T nodes (form.Link p) g inn (omega arith) h.0 tt tt in
    let l : length (nodes ++ new_node (form.Link p) ∷ []) ≡ suc (length nodes) = long_new nodes (new_node (form.Link p)) in
    subst (Grown T nodes) (sym (links_more p ps nodes))
    (grown_then T nodes (nodes ++ new_node (form.Link p) ∷ []) _ one (grown_links T ps (nodes ++ new_node (form.Link p) ∷ []) one.graph one.inside (omega arith) (below_more (length nodes) _ (omega arith) ps h.1)))

types_agree : (n : ℕ) (a b : Sub) (ps : List ℕ) → ((i : ℕ) → i < n → a i ≡ b i) → Each (λ p. p < n) ps → types_of a ps ≡ types_of b ps
unfolding types_of
types_agree n a b [] e h = refl
types_agree n a b (p ∷ ps) e h = λ i. more (e p h.0 i) (types_agree n a b ps e h.1 i)

pub same_types : (n : ℕ) (a b : Sub) (ps : List ℕ) → ((i : ℕ) → i < n → a i ≡ b i) → Each (λ p. p < n) ps → types_of a ps ≡ types_of b ps
same_types = types_agree

types_cons : (a : Sub) (p : ℕ) (ps : List ℕ) → types_of a (p ∷ ps) ≡ more (a p) (types_of a ps)
unfolding types_of
types_cons a p ps = refl

types_nil : (a : Sub) → types_of a [] ≡ none
unfolding types_of
types_nil a = refl

-- types for a row of links
pub links_full : (T : Tables) (K : Kinds) (ps : List ℕ) (nodes : List Node) (a : Sub) → IsGraph nodes → Inside T nodes → length nodes + length ps < 2 ^ 32 → Each (λ p. p < length nodes) ps → Solves T K a nodes
    → (full : Sub) × ((i : ℕ) → i < length nodes → full i ≡ a i) × Solves T K full (nodes ++ links ps) × (row full (length nodes) (length ps) ≡ types_of a ps)
links_full T K [] nodes a g inn short h s = (a, (λ i lt. refl), subst (Solves T K a) (sym (links_none nodes)) s, sym (types_nil a))
links_full T K (p ∷ ps) nodes a g inn short h s =
    let one = grown_push T nodes (form.Link p) g inn (omega arith) h.0 tt tt in
    let l : length (nodes ++ new_node (form.Link p) ∷ []) ≡ suc (length nodes) = long_new nodes (new_node (form.Link p)) in
    let s1 = extend_one T nodes (form.Link p) g inn K a (a p) s (extend_last T nodes (form.Link p) g inn K a (a p) ∙ sym (extend_low T nodes (form.Link p) g inn K a (a p) p h.0)) in
    let rest = links_full T K ps (nodes ++ new_node (form.Link p) ∷ []) (joined (length nodes) a (λ k. a p)) one.graph one.inside (omega arith) (below_more (length nodes) _ (omega arith) ps h.1) s1 in
    let low : (i : ℕ) → i < length nodes → rest.0 i ≡ a i = λ i lt. rest.1 i (omega arith) ∙ extend_low T nodes (form.Link p) g inn K a (a p) i lt in (
      rest.0,
      low,
      subst (Solves T K rest.0) (sym (links_more p ps nodes)) rest.2,
      (λ i. more (first rest.0 (rest.1 (length nodes) (omega arith) ∙ extend_last T nodes (form.Link p) g inn K a (a p)) i) (later rest.0 (length (nodes ++ new_node (form.Link p) ∷ [])) l (rest.3 ∙ types_agree (length nodes) _ a ps (λ i lt. extend_low T nodes (form.Link p) g inn K a (a p) i lt) h.1) i))
          ∙ sym (types_cons a p ps),
    )
  where
    first : (b : Sub) → b (length nodes) ≡ a p → b (length nodes) ≡ a p
    first b e = e

    later : (b : Sub) (m : ℕ) → m ≡ suc (length nodes) → row b m (length ps) ≡ types_of a ps → row b (suc (length nodes)) (length ps) ≡ types_of a ps
    later b m e h = subst (λ n. row b n (length ps) ≡ types_of a ps) e h

pub node_before : (nodes more' : List Node) (i : ℕ) → i < length nodes → node_at (nodes ++ more') i ≡ node_at nodes i
unfolding node_at
node_before [] m i h = absurd (omega arith)
node_before (y ∷ ys) m zero h = refl
node_before (y ∷ ys) m (suc i) h = node_before ys m i (omega arith)

-- the links have the types of what they are linked to
pub links_row : (T : Tables) (K : Kinds) (a : Sub) (ps : List ℕ) (nodes : List Node) → Solves T K a (nodes ++ links ps) → row a (length nodes) (length ps) ≡ types_of a ps
links_row T K a [] nodes s = sym (types_nil a)
links_row T K a (p ∷ ps) nodes s =
    let s' = subst (Solves T K a) (links_more p ps nodes) s in
    let l : length (nodes ++ new_node (form.Link p) ∷ []) ≡ suc (length nodes) = long_new nodes (new_node (form.Link p)) in
    let all : length ((nodes ++ new_node (form.Link p) ∷ []) ++ links ps) ≡ length (nodes ++ new_node (form.Link p) ∷ []) + length ps = long_links ps (nodes ++ new_node (form.Link p) ∷ []) in
    let is : node_at ((nodes ++ new_node (form.Link p) ∷ []) ++ links ps) (length nodes) ≡ new_node (form.Link p) = node_before (nodes ++ new_node (form.Link p) ∷ []) (links ps) (length nodes) (omega arith) ∙ node_new nodes (new_node (form.Link p)) in
    (λ i. more ((subst (Fits T K a (a (length nodes))) is (s'.fits (length nodes) (omega arith))).shows i) (later l (links_row T K a ps (nodes ++ new_node (form.Link p) ∷ []) s') i)) ∙ sym (types_cons a p ps)
  where
    later : {m : ℕ} → m ≡ suc (length nodes) → row a m (length ps) ≡ types_of a ps → row a (suc (length nodes)) (length ps) ≡ types_of a ps
    later {m} e h = subst (λ n. row a n (length ps) ≡ types_of a ps) e h

drop_suc : (ps : List ℕ) (at : ℕ) → at < length ps → drop at ps ≡ slice_index_or ps at 0 ∷ drop (suc at) ps
drop_suc [] at h = absurd (omega arith)
drop_suc (p ∷ ps) zero h = refl
drop_suc (p ∷ ps) (suc at) h = drop_suc ps at (omega arith)

drop_step : (ps : List ℕ) (at : ℕ) → at < length ps → drop at ps ≡ slice_index_or ps at 0 ∷ drop (at + 1) ps
drop_step ps at h = drop_suc ps at h ∙ ap (λ n. slice_index_or ps at 0 ∷ drop n ps) (let e : suc at ≡ at + 1 = omega arith in e)

drop_all : (ps : List ℕ) (at : ℕ) → length ps ≤ at → drop at ps ≡ []
drop_all [] zero h = refl
drop_all [] (suc at) h = refl
drop_all (p ∷ ps) zero h = absurd (omega arith)
drop_all (p ∷ ps) (suc at) h = drop_all ps at (omega arith)

-- one link after another
pub links_step : (nodes nodes' all : List Node) (ps : List ℕ) (at : ℕ) → at < length ps → nodes' ≡ nodes ++ new_node (form.Link (slice_index_or ps at 0)) ∷ [] → nodes ++ links (drop at ps) ≡ all → nodes' ++ links (drop (at + 1) ps) ≡ all
links_step nodes nodes' all ps at lt is h = ap (λ l. l ++ links (drop (at + 1) ps)) is ∙ sym (links_more _ (drop (at + 1) ps) nodes) ∙ ap (λ l. nodes ++ links l) (sym (drop_step ps at lt)) ∙ h

pub links_end : (nodes all : List Node) (ps : List ℕ) (at : ℕ) → length ps ≤ at → nodes ++ links (drop at ps) ≡ all → nodes ≡ all
links_end nodes all ps at le h = sym (links_none nodes) ∙ ap (λ l. nodes ++ links l) (sym (drop_all ps at le)) ∙ h
