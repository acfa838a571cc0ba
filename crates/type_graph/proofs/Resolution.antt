-- Resolved types: every solution is an instance of them, and they are one.
use Rattle.std.proofs.Common.{◌≡◌, ℕ, zero, suc, ◌+◌, ◌≤◌, ◌<◌, List, [], ◌∷◌, length, max, min, refl, sym, ◌∙◌, ap, subst, arith}
use mathlib.Core.Logic.{◌⊎◌, inl, inr}
use native.Mathlib.Decide.{ℕ_discrete}
use Rattle.fut_types.specs.declared.Kind.{Kind}
use Rattle.fut_types.specs.declared.Head.{Head}
use Rattle.fut_types.specs.declared.Head.TheVariants as head
use Rattle.fut_types.specs.Types.{Ty, Var, Made, Tys, none, more, Sub, Kinds, level, cap, rank, least, applied, size, row}
use Rattle.fut_types.proofs.TyLaws.{applied_var, applied_made, row_applied, row_same, rank_var, rank_made, row_least, level_most, part_smaller, Occurs, occurs_row}
use Rattle.type_graph.specs.declared.Form.{Form}
use Rattle.type_graph.specs.declared.Form.TheVariants as form
use Rattle.type_graph.specs.declared.Node.{Node}
use Rattle.type_graph.proofs.PartLaws.{read_once, plain_made}
use Rattle.type_graph.specs.Graph.{free_node, node_at, Reading, Tables, Plain, Readable, type_made, Parts_fit, Fitting, Each, numbers, parts_of, Names, Shows, Solves, Within, IsGraph, IsRoot}
use Rattle.type_graph.specs.State.{AtLeast, AtMost, Tops, Sure, State, form_cap}
use Rattle.type_graph.specs.Resolving.{type_of, in_reading, all_in_reading, resolved, Loose, Settled, Stable, Respects, noted, Closed_form, NoneOpen, Laws}

-- every solution is an instance, at each depth
read_var : (v : Reading) (a : Sub) (n : ℕ) → in_reading v a (Var n) ≡ a n
unfolding in_reading
read_var v a n = refl

pub read_row : (v : Reading) (a s : Sub) (x n : ℕ) → all_in_reading v a (row s x n) ≡ row (λ i. in_reading v a (s i)) x n
unfolding in_reading
read_row v a s x zero = refl
read_row v a s x (suc n) = λ i. more (in_reading v a (s x)) (read_row v a s (suc x) n i)

pub read_made : (v : Reading) (a s : Sub) (h : Head) (x n : ℕ) → in_reading v a (Made h (row s x n)) ≡ type_made v h (row (λ i. in_reading v a (s i)) x n)
unfolding in_reading
read_made v a s h x n = ap (type_made v h) (read_row v a s x n)

one_level : (T : Tables) (a s : Sub) (n i : ℕ) (f : Form) → i < n → ((j : ℕ) → j < n → a j ≡ in_reading T.rigid a (s j)) → Within n i f → Shows T a (a i) f → a i ≡ in_reading T.rigid a (type_of s i f)
one_level T a s n i form.Free lt h w e = sym (read_var T.rigid a i)
one_level T a s n i (form.Link j) lt h w e = e ∙ h j (omega arith)
one_level T a s n i (form.Open e n') lt h w o = sym (read_var T.rigid a i)
one_level T a s n i (form.Made hd x c) lt h w e = e ∙ ap (type_made T.rigid hd) (row_same a (λ j. in_reading T.rigid a (s j)) x x c (λ j lj. h (x + j) (omega arith))) ∙ sym (read_made T.rigid a s hd x c)

pub factors : (nodes : List Node) → IsGraph nodes → (T : Tables) (K : Kinds) (a : Sub) → Solves T K a nodes → (d i : ℕ) → i < length nodes → a i ≡ in_reading T.rigid a (resolved nodes d i)
unfolding resolved
factors nodes g T K a s zero i lt = sym (read_var T.rigid a i)
factors nodes g T K a s (suc d) i lt = one_level T a (resolved nodes d) (length nodes) i _ lt (λ j h. factors nodes g T K a s d j h) (g.within i lt) (s.fits i lt).shows

-- where type parameters stand for themselves
plain_level : (T : Tables) (by s : Sub) (n i : ℕ) (f : Form) → Plain T → Fitting f → ((j : ℕ) → j < n → in_reading T.rigid by (s j) ≡ applied by (s j)) → i < n → Within n i f → in_reading T.rigid by (type_of s i f) ≡ applied by (type_of s i f)
plain_level T by s n i form.Free p fit h lt w = read_var T.rigid by i ∙ sym (applied_var by i)
plain_level T by s n i (form.Link j) p fit h lt w = h j (omega arith)
plain_level T by s n i (form.Open e n') p fit h lt w = read_var T.rigid by i ∙ sym (applied_var by i)
plain_level T by s n i (form.Made hd x c) p fit h lt w = read_made T.rigid by s hd x c ∙ plain_made T (λ j. in_reading T.rigid by (s j)) hd x c p fit
    ∙ ap (Made hd) (row_same (λ j. in_reading T.rigid by (s j)) (λ j. applied by (s j)) x x c (λ j lj. h (x + j) (omega arith)) ∙ sym (row_applied by s x c)) ∙ sym (applied_made by hd (row s x c))

pub plain_types : (nodes : List Node) → IsGraph nodes → (T : Tables) → Plain T → (by : Sub) (d i : ℕ) → i < length nodes → in_reading T.rigid by (resolved nodes d i) ≡ applied by (resolved nodes d i)
unfolding resolved
plain_types nodes g T p by zero i lt = read_var T.rigid by i ∙ sym (applied_var by i)
plain_types nodes g T p by (suc d) i lt = plain_level T by (resolved nodes d) (length nodes) i _ p (g.fitting i lt) (λ j h. plain_types nodes g T p by d j h) lt (g.within i lt)

-- a part of a made type is smaller, however type parameters are read
pub smaller : (v : Reading) (a : Sub) (t : Ty) (h : Head) (x n p : ℕ) → Parts_fit h n → t ≡ type_made v h (row a x n) → p < n → size (a (x + p)) < size t
smaller v a t h x n p fit e lt = elim (read_once h n fit) as (λ o. size (a (x + p)) < size t) [
  | inl z ↦ absurd (omega arith)
  | inr m ↦ part_smaller a t h x n p (e ∙ m v (row a x n)) lt
]

-- the kinds only rise where type parameters stand for types of theirs
made_rises : (K K' : Kinds) (v : Reading) (g : Sub) → ((n : ℕ) (k : Kind) → level k ≤ rank K' (v n k)) → (h : Head) (ts us : Tys) → least K ts ≤ least K' us → min (cap h) (least K ts) ≤ rank K' (type_made v h us)
unfolding rank
made_rises K K' v g w (head.Rigid n k) ts us le = let p : level k ≤ rank K' (v n k) = w n k in omega arith
made_rises K K' v g w (head.Scalar s) ts us le = omega arith
made_rises K K' v g w head.Array ts us le = omega arith
made_rises K K' v g w head.Tuple ts us le = omega arith
made_rises K K' v g w (head.Record n) ts us le = omega arith
made_rises K K' v g w head.Fun ts us le = omega arith
made_rises K K' v g w (head.Abstract n d) ts us le = omega arith

mutual
  unfolding rank in_reading

  pub reading_rises : (K K' : Kinds) (v : Reading) (g : Sub) → ((n : ℕ) (k : Kind) → level k ≤ rank K' (v n k)) → ((n : ℕ) → level (K n) ≤ rank K' (g n)) → (t : Ty) → rank K t ≤ rank K' (in_reading v g t)
  reading_rises K K' v g w r (Var n) = r n
  reading_rises K K' v g w r (Made h ts) = made_rises K K' v g w h ts (all_in_reading v g ts) (all_reading_rises K K' v g w r ts)

  pub all_reading_rises : (K K' : Kinds) (v : Reading) (g : Sub) → ((n : ℕ) (k : Kind) → level k ≤ rank K' (v n k)) → ((n : ℕ) → level (K n) ≤ rank K' (g n)) → (ts : Tys) → least K ts ≤ least K' (all_in_reading v g ts)
  all_reading_rises K K' v g w r none = omega arith
  all_reading_rises K K' v g w r (more t ts) = let p : rank K t ≤ rank K' (in_reading v g t) = reading_rises K K' v g w r t in let q : least K ts ≤ least K' (all_in_reading v g ts) = all_reading_rises K K' v g w r ts in omega arith

-- settling, level by level
pub settled_loose : (nodes : List Node) (i : ℕ) (f : Form) → (node_at nodes i).form ≡ f → Loose f → Settled nodes i
unfolding resolved
settled_loose nodes i f e lo = record { type = Var i; depth = 1; settled = λ d le. go d le }
  where
    is_var : (s : Sub) (f : Form) → Loose f → type_of s i f ≡ Var i
    is_var s form.Free l = refl
    is_var s (form.Link j) l = absurd l
    is_var s (form.Made h x n) l = absurd l
    is_var s (form.Open e n) l = refl

    go : (d : ℕ) → 1 ≤ d → resolved nodes d i ≡ Var i
    go zero le = absurd (omega arith)
    go (suc d) le = ap (type_of (resolved nodes d) i) e ∙ is_var (resolved nodes d) f lo

pub settled_link : (nodes : List Node) (i j : ℕ) → (node_at nodes i).form ≡ form.Link j → Settled nodes j → Settled nodes i
unfolding resolved
settled_link nodes i j e s = record { type = s.type; depth = suc s.depth; settled = λ d le. go d le }
  where
    go : (d : ℕ) → suc s.depth ≤ d → resolved nodes d i ≡ s.type
    go zero le = absurd (omega arith)
    go (suc d) le = ap (type_of (resolved nodes d) i) e ∙ s.settled d (omega arith)

row_depth : (nodes : List Node) (x n : ℕ) → Each (Settled nodes) (numbers x n) → (D : ℕ) × (ts : Tys) × ((d : ℕ) → D ≤ d → row (resolved nodes d) x n ≡ ts)
unfolding numbers
row_depth nodes x zero all = (0, none, λ d le. refl)
row_depth nodes x (suc n) all =
    let rest = row_depth nodes (suc x) n all.1 in (
      max rest.0 all.0.depth,
      more all.0.type rest.1,
      λ d le i. more (all.0.settled d (omega arith) i) (rest.2 d (omega arith) i),
    )

pub settled_made : (nodes : List Node) (i : ℕ) (hd : Head) (x n : ℕ) → (node_at nodes i).form ≡ form.Made hd x n → Each (Settled nodes) (numbers x n) → Settled nodes i
unfolding resolved
settled_made nodes i hd x n e all =
    let q = row_depth nodes x n all in
    record { type = Made hd q.1; depth = suc q.0; settled = λ d le. go q.0 q.1 q.2 d le }
  where
    go : (D : ℕ) (ts : Tys) → ((d : ℕ) → D ≤ d → row (resolved nodes d) x n ≡ ts) → (d : ℕ) → suc D ≤ d → resolved nodes d i ≡ Made hd ts
    go D ts h zero le = absurd (omega arith)
    go D ts h (suc d) le = ap (type_of (resolved nodes d) i) e ∙ ap (Made hd) (h d (omega arith))

-- a row, one by one
pub each_number : (P : ℕ → Type 0) (x n : ℕ) → ((p : ℕ) → p < n → P (x + p)) → Each P (numbers x n)
unfolding numbers
each_number P x zero h = tt
each_number P x (suc n) h = (subst P (omega arith) (h 0 (omega arith)), each_number P (suc x) n (λ p lt. subst P (omega arith) (h (suc p) (omega arith))))

pub at_number : (P : ℕ → Type 0) (x n p : ℕ) → Each P (numbers x n) → p < n → P (x + p)
unfolding numbers
at_number P x zero p h lt = absurd (omega arith)
at_number P x (suc n) zero h lt = subst P (omega arith) h.0
at_number P x (suc n) (suc p) h lt = subst P (omega arith) (at_number P (suc x) n p h.1 (omega arith))

-- from the root to the node
pub settled_up : (nodes : List Node) → IsGraph nodes → (top : ℕ → ℕ) → Tops nodes top → (m i : ℕ) → i < m → i < length nodes → Settled nodes (top i) → Settled nodes i
settled_up nodes g top t zero i lt h s = absurd (omega arith)
settled_up nodes g top t (suc m) i lt h s = by_form (λ j p q r. settled_up nodes g top t m j p q r) (node_at nodes i).form refl
  where
    by_form : ((j : ℕ) → j < m → j < length nodes → Settled nodes (top j) → Settled nodes j) → (f : Form) → (node_at nodes i).form ≡ f → Settled nodes i
    by_form ih form.Free e = subst (Settled nodes) (t.selves i h (subst IsRoot (sym e) tt)) s
    by_form ih (form.Open y n) e = subst (Settled nodes) (t.selves i h (subst IsRoot (sym e) tt)) s
    by_form ih (form.Made hd x n) e = subst (Settled nodes) (t.selves i h (subst IsRoot (sym e) tt)) s
    by_form ih (form.Link j) e = let w : j < i = subst (Within (length nodes) i) e (g.within i h) in
        settled_link nodes i j e (ih j (omega arith) (omega arith) (subst (Settled nodes) (t.links i j h e) s))

-- the type of a node is that of its root
pub at_top : (nodes : List Node) → IsGraph nodes → (top : ℕ → ℕ) → Tops nodes top → (a : Sub) → ((i j : ℕ) → i < length nodes → (node_at nodes i).form ≡ form.Link j → a i ≡ a j) → (m i : ℕ) → i < m → i < length nodes → a i ≡ a (top i)
at_top nodes g top t a s zero i lt h = absurd (omega arith)
at_top nodes g top t a s (suc m) i lt h = by_form (λ j p q. at_top nodes g top t a s m j p q) (node_at nodes i).form refl
  where
    by_form : ((j : ℕ) → j < m → j < length nodes → a j ≡ a (top j)) → (f : Form) → (node_at nodes i).form ≡ f → a i ≡ a (top i)
    by_form ih form.Free e = ap a (sym (t.selves i h (subst IsRoot (sym e) tt)))
    by_form ih (form.Open y n) e = ap a (sym (t.selves i h (subst IsRoot (sym e) tt)))
    by_form ih (form.Made hd x n) e = ap a (sym (t.selves i h (subst IsRoot (sym e) tt)))
    by_form ih (form.Link j) e = let w : j < i = subst (Within (length nodes) i) e (g.within i h) in
        s i j h e ∙ ih j (omega arith) (omega arith) ∙ ap a (sym (t.links i j h e))

-- one depth for all nodes
stable_to : (nodes : List Node) → ((i : ℕ) → i < length nodes → Settled nodes i) → (m : ℕ) → m ≤ length nodes → (D : ℕ) × ((i : ℕ) → i < m → (d : ℕ) → D ≤ d → (e : ℕ) → D ≤ e → resolved nodes d i ≡ resolved nodes e i)
stable_to nodes all zero le = (0, λ i lt. absurd (omega arith))
stable_to nodes all (suc m) le =
    let rest = stable_to nodes all m (omega arith) in
    let last = all m (omega arith) in (
      max rest.0 last.depth,
      λ i lt d p e q. elim (ℕ_discrete i m) as (λ x. resolved nodes d i ≡ resolved nodes e i) [
        | yes is ↦ subst (λ j. resolved nodes d j ≡ resolved nodes e j) (sym is) (last.settled d (omega arith) ∙ sym (last.settled e (omega arith)))
        | no ne ↦ rest.1 i (grind (arith, ne)) d (omega arith) e (omega arith)
      ],
    )

pub stable : (nodes : List Node) → ((i : ℕ) → i < length nodes → Settled nodes i) → (D : ℕ) × Stable nodes D
stable nodes all = let r = stable_to nodes all (length nodes) (omega arith) in (r.0, λ i lt d le. r.1 i lt d le r.0 (omega arith))

-- a graph with a solution has settled
with_parts : (nodes : List Node) → IsGraph nodes → (T : Tables) (K : Kinds) (a : Sub) → Solves T K a nodes → (f : ℕ) → ((i : ℕ) → i < length nodes → size (a i) ≤ f → Settled nodes i) → (m i : ℕ) → i < m → i < length nodes → size (a i) ≤ suc f → Settled nodes i
with_parts nodes g T K a s f ih zero i lt h le = absurd (omega arith)
with_parts nodes g T K a s f ih (suc m) i lt h le = by_form (λ j p q r. with_parts nodes g T K a s f ih m j p q r) (node_at nodes i).form refl
  where
    by_form : ((j : ℕ) → j < m → j < length nodes → size (a j) ≤ suc f → Settled nodes j) → (o : Form) → (node_at nodes i).form ≡ o → Settled nodes i
    by_form lower form.Free e = settled_loose nodes i form.Free e tt
    by_form lower (form.Open y n) e = settled_loose nodes i (form.Open y n) e tt
    by_form lower (form.Link j) e = let w : j < i = subst (Within (length nodes) i) e (g.within i h) in
        settled_link nodes i j e (lower j (omega arith) (omega arith) (subst (λ t. size t ≤ suc f) (subst (Shows T a (a i)) e (s.fits i h).shows) le))
    by_form lower (form.Made hd x n) e = settled_made nodes i hd x n e (each_number (Settled nodes) x n (λ p lp.
        let w : x + n ≤ length nodes = subst (Within (length nodes) i) e (g.within i h) in
        let q : size (a (x + p)) < size (a i) = smaller T.rigid a (a i) hd x n p (subst Fitting e (g.fitting i h)) (subst (Shows T a (a i)) e (s.fits i h).shows) lp in
        ih (x + p) (omega arith) (omega arith)))

size_none : (nodes : List Node) → IsGraph nodes → (T : Tables) (K : Kinds) (a : Sub) → Solves T K a nodes → (f i : ℕ) → i < length nodes → size (a i) ≤ f → Settled nodes i
unfolding size
size_none nodes g T K a s zero i lt le = zero_size (a i) le
  where
    zero_size : (t : Ty) → size t ≤ 0 → Settled nodes i
    zero_size (Var n) le = absurd (omega arith)
    zero_size (Made h ts) le = absurd (omega arith)
size_none nodes g T K a s (suc f) i lt le = with_parts nodes g T K a s f (size_none nodes g T K a s f) (suc i) i (omega arith) lt le

pub settled_solved : (nodes : List Node) → IsGraph nodes → (T : Tables) (K : Kinds) (a : Sub) → Solves T K a nodes → (i : ℕ) → i < length nodes → Settled nodes i
settled_solved nodes g T K a s i lt = size_none nodes g T K a s (size (a i)) i lt (omega arith)

-- the resolved types have the forms of the nodes, and their kinds
module _ (T : Tables) (home : ℕ → ℕ) (base : ℕ) (nodes : List Node) (g : IsGraph nodes) (st : State T home base nodes []) (D : ℕ) (sb : Stable nodes D) where
  level_is : (i : ℕ) (f : Form) → i < length nodes → (node_at nodes i).form ≡ f → resolved nodes D i ≡ type_of (resolved nodes D) i f
  unfolding resolved
  level_is i f lt e = sym (sb i lt (suc D) (omega arith)) ∙ ap (type_of (resolved nodes D) i) e

  pub link_stable : (i j : ℕ) → i < length nodes → (node_at nodes i).form ≡ form.Link j → resolved nodes D i ≡ resolved nodes D j
  link_stable i j lt e = level_is i (form.Link j) lt e

  pub made_stable : (i : ℕ) (h : Head) (x n : ℕ) → i < length nodes → (node_at nodes i).form ≡ form.Made h x n → resolved nodes D i ≡ Made h (row (resolved nodes D) x n)
  made_stable i h x n lt e = level_is i (form.Made h x n) lt e

  pub loose_stable : (i : ℕ) (f : Form) → i < length nodes → (node_at nodes i).form ≡ f → Loose f → resolved nodes D i ≡ Var i
  loose_stable i form.Free lt e l = level_is i form.Free lt e
  loose_stable i (form.Link j) lt e l = absurd l
  loose_stable i (form.Made h x n) lt e l = absurd l
  loose_stable i (form.Open y n) lt e l = level_is i (form.Open y n) lt e

  pub top_stable : (i : ℕ) → i < length nodes → resolved nodes D i ≡ resolved nodes D (st.top i)
  top_stable i lt = at_top nodes g st.top st.tops (resolved nodes D) link_stable (suc i) i (omega arith) lt

  -- a noted kind is a kind of the type
  rank_root : (f i : ℕ) → i < length nodes → IsRoot (node_at nodes i).form → size (resolved nodes D i) ≤ f → (k : ℕ) → k ≤ level (node_at nodes i).kind → k ≤ rank (noted nodes) (resolved nodes D i)
  unfolding size
  rank_root zero i lt r le k h = absurd (no_size (resolved nodes D i) le)
    where
      no_size : (t : Ty) → size t ≤ 0 → ⊥
      no_size (Var n) le = omega arith
      no_size (Made h ts) le = omega arith
  rank_root (suc f) i lt r le k h = go (λ j p q u k o. rank_root f j p q u k o) (node_at nodes i).form refl
    where
      go : ((j : ℕ) → j < length nodes → IsRoot (node_at nodes j).form → size (resolved nodes D j) ≤ f → (k : ℕ) → k ≤ level (node_at nodes j).kind → k ≤ rank (noted nodes) (resolved nodes D j)) → (o : Form) → (node_at nodes i).form ≡ o → k ≤ rank (noted nodes) (resolved nodes D i)
      go ih form.Free e = subst (λ t. k ≤ rank (noted nodes) t) (sym (loose_stable i form.Free lt e tt)) (subst (λ m. k ≤ m) (sym (rank_var (noted nodes) i)) h)
      go ih (form.Open y n) e = subst (λ t. k ≤ rank (noted nodes) t) (sym (loose_stable i (form.Open y n) lt e tt)) (subst (λ m. k ≤ m) (sym (rank_var (noted nodes) i)) h)
      go ih (form.Link j) e = absurd (subst IsRoot e r)
      go ih (form.Made hd x n) e =
          let w : x + n ≤ length nodes = subst (Within (length nodes) i) e (g.within i lt) in
          let sh : resolved nodes D i ≡ Made hd (row (resolved nodes D) x n) = made_stable i hd x n lt e in
          let c : level (node_at nodes i).kind ≤ cap hd = subst (λ f. level (node_at nodes i).kind ≤ form_cap f) e (st.capped i lt) in
          let k4 : level (node_at nodes i).kind ≤ 4 = level_most (node_at nodes i).kind in
          let sure : Each (Sure nodes [] st.top (AtLeast k)) (numbers x n) = subst (λ f. Each (Sure nodes [] st.top (AtLeast k)) (parts_of T f)) e (st.parts i (AtLeast k) lt h) in
          let all : k ≤ least (noted nodes) (row (resolved nodes D) x n) = row_least (noted nodes) (resolved nodes D) x n k (omega arith) (λ p lp.
          let inn : x + p < length nodes = omega arith in
          elim (at_number (Sure nodes [] st.top (AtLeast k)) x n p sure lp) as (λ y. k ≤ rank (noted nodes) (resolved nodes D (x + p))) [
            | inl o ↦ subst (λ t. k ≤ rank (noted nodes) t) (sym (top_stable (x + p) inn))
                (ih (st.top (x + p)) (st.tops.below (x + p) inn) (st.tops.roots (x + p) inn)
                (let q : size (resolved nodes D (x + p)) < size (resolved nodes D i) = part_smaller (resolved nodes D) (resolved nodes D i) hd x n p sh lp in
                let q' : size (resolved nodes D (x + p)) ≤ f = omega arith in subst (λ t. size t ≤ f) (top_stable (x + p) inn) q') k o)
            | inr v ↦ absurd v
          ]) in
          subst (λ t. k ≤ rank (noted nodes) t) (sym sh) (subst (λ m. k ≤ m) (sym (rank_made (noted nodes) hd (row (resolved nodes D) x n))) (omega arith))

  pub has_stable : (i : ℕ) → i < length nodes → level (node_at nodes i).kind ≤ rank (noted nodes) (resolved nodes D i)
  has_stable i lt = go (node_at nodes i).form refl
    where
      root : IsRoot (node_at nodes i).form → level (node_at nodes i).kind ≤ rank (noted nodes) (resolved nodes D i)
      root r = rank_root (size (resolved nodes D i)) i lt r (omega arith) (level (node_at nodes i).kind) (omega arith)

      go : (o : Form) → (node_at nodes i).form ≡ o → level (node_at nodes i).kind ≤ rank (noted nodes) (resolved nodes D i)
      go form.Free e = root (subst IsRoot (sym e) tt)
      go (form.Open y n) e = root (subst IsRoot (sym e) tt)
      go (form.Link j) e = let z : level (node_at nodes i).kind ≡ 0 = st.bare i j lt e in omega arith
      go (form.Made hd x n) e = root (subst IsRoot (sym e) tt)

  -- each instance of the resolved types is a solution, if what is open has its parts
  pub instance_solves : (K : Kinds) (r : Sub) → Readable K T → Respects (noted nodes) K r → ((i e n : ℕ) → i < length nodes → (node_at nodes i).form ≡ form.Open e n → Names T (λ j. in_reading T.rigid r (resolved nodes D j)) (in_reading T.rigid r (resolved nodes D i)) e n)
      → Solves T K (λ j. in_reading T.rigid r (resolved nodes D j)) nodes
  instance_solves K r rd rs open_has = record {
    fits = λ i lt. record {
      shows = go i lt (node_at nodes i).form refl;
      has = let p : level (node_at nodes i).kind ≤ rank (noted nodes) (resolved nodes D i) = has_stable i lt in let q : rank (noted nodes) (resolved nodes D i) ≤ rank K (in_reading T.rigid r (resolved nodes D i)) = reading_rises (noted nodes) K T.rigid r rd.kinds rs (resolved nodes D i) in omega arith;
    };
  }
    where
      go : (i : ℕ) → i < length nodes → (f : Form) → (node_at nodes i).form ≡ f → Shows T (λ j. in_reading T.rigid r (resolved nodes D j)) (in_reading T.rigid r (resolved nodes D i)) f
      go i lt form.Free e = tt
      go i lt (form.Link j) e = ap (in_reading T.rigid r) (link_stable i j lt e)
      go i lt (form.Made hd x n) e = ap (in_reading T.rigid r) (made_stable i hd x n lt e) ∙ read_made T.rigid r (resolved nodes D) hd x n
      go i lt (form.Open y n) e = open_has i y n lt e

  shown : Plain T → NoneOpen nodes → (i : ℕ) → i < length nodes → (f : Form) → (node_at nodes i).form ≡ f → Shows T (resolved nodes D) (resolved nodes D i) f
  shown pl closed i lt form.Free e = tt
  shown pl closed i lt (form.Link j) e = link_stable i j lt e
  shown pl closed i lt (form.Made hd x n) e = made_stable i hd x n lt e ∙ sym (plain_made T (resolved nodes D) hd x n pl (subst Fitting e (g.fitting i lt)))
  shown pl closed i lt (form.Open y n) e = absurd (subst Closed_form e (closed i lt))

  pub solves_stable : Plain T → NoneOpen nodes → Solves T (noted nodes) (resolved nodes D) nodes
  solves_stable pl closed = record { fits = λ i lt. record { shows = shown pl closed i lt (node_at nodes i).form refl; has = has_stable i lt } }

  -- what stands in a resolved type is a node of which nothing is known but named parts, of no higher level
  vars_root : (f i : ℕ) → i < length nodes → IsRoot (node_at nodes i).form → size (resolved nodes D i) ≤ f → (l : ℕ) → (node_at nodes i).level ≤ l → (v : ℕ) → Occurs v (resolved nodes D i) → (v < length nodes) × Loose (node_at nodes v).form × ((node_at nodes v).level ≤ l)
  unfolding size
  vars_root zero i lt r le l h v o = absurd (no_size (resolved nodes D i) le)
    where
      no_size : (t : Ty) → size t ≤ 0 → ⊥
      no_size (Var n) le = omega arith
      no_size (Made h ts) le = omega arith
  vars_root (suc f) i lt r le l h v o = go (λ j p q u l h v o. vars_root f j p q u l h v o) (node_at nodes i).form refl
    where
      here : (u : Form) → (node_at nodes i).form ≡ u → Loose u → (v < length nodes) × Loose (node_at nodes v).form × ((node_at nodes v).level ≤ l)
      here u e lo = let is : v ≡ i = subst (Occurs v) (loose_stable i u lt e lo) o in
          (subst (λ j. j < length nodes) (sym is) lt, subst (λ j. Loose (node_at nodes j).form) (sym is) (subst Loose (sym e) lo), subst (λ j. (node_at nodes j).level ≤ l) (sym is) h)

      go : ((j : ℕ) → j < length nodes → IsRoot (node_at nodes j).form → size (resolved nodes D j) ≤ f → (l : ℕ) → (node_at nodes j).level ≤ l → (v : ℕ) → Occurs v (resolved nodes D j) → (v < length nodes) × Loose (node_at nodes v).form × ((node_at nodes v).level ≤ l)) → (u : Form) → (node_at nodes i).form ≡ u → (v < length nodes) × Loose (node_at nodes v).form × ((node_at nodes v).level ≤ l)
      go ih form.Free e = here form.Free e tt
      go ih (form.Open y n) e = here (form.Open y n) e tt
      go ih (form.Link j) e = absurd (subst IsRoot e r)
      go ih (form.Made hd x n) e =
          let w : x + n ≤ length nodes = subst (Within (length nodes) i) e (g.within i lt) in
          let sh : resolved nodes D i ≡ Made hd (row (resolved nodes D) x n) = made_stable i hd x n lt e in
          let part = occurs_row (resolved nodes D) v x n (subst (Occurs v) sh o) in
          let inn : x + part.0 < length nodes = let q : part.0 < n = part.1 in omega arith in
          let sure : Each (Sure nodes [] st.top (AtMost l)) (numbers x n) = subst (λ f. Each (Sure nodes [] st.top (AtMost l)) (parts_of T f)) e (st.parts i (AtMost l) lt h) in
          elim (at_number (Sure nodes [] st.top (AtMost l)) x n part.0 sure part.1) as (λ y. (v < length nodes) × Loose (node_at nodes v).form × ((node_at nodes v).level ≤ l)) [
            | inl le' ↦ ih (st.top (x + part.0)) (st.tops.below (x + part.0) inn) (st.tops.roots (x + part.0) inn)
                (let q : size (resolved nodes D (x + part.0)) < size (resolved nodes D i) = part_smaller (resolved nodes D) (resolved nodes D i) hd x n part.0 sh part.1 in
                let q' : size (resolved nodes D (x + part.0)) ≤ f = omega arith in subst (λ t. size t ≤ f) (top_stable (x + part.0) inn) q')
                l le' v (subst (Occurs v) (top_stable (x + part.0) inn) part.2)
            | inr u ↦ absurd u
          ]

  pub vars_level : (i : ℕ) → i < length nodes → IsRoot (node_at nodes i).form → (v : ℕ) → Occurs v (resolved nodes D i) → (v < length nodes) × Loose (node_at nodes v).form × ((node_at nodes v).level ≤ (node_at nodes i).level)
  vars_level i lt r v o = vars_root (size (resolved nodes D i)) i lt r (omega arith) (node_at nodes i).level (omega arith) v o

  -- a node that is surely of a level has no others in its type
  pub vars_sure : (l c : ℕ) → c < length nodes → Sure nodes [] st.top (AtMost l) c → (v : ℕ) → Occurs v (resolved nodes D c) → (v < length nodes) × Loose (node_at nodes v).form × ((node_at nodes v).level ≤ l)
  vars_sure l c lt sure v o = elim sure as (λ y. (v < length nodes) × Loose (node_at nodes v).form × ((node_at nodes v).level ≤ l)) [
    | inl h ↦ let r = vars_level (st.top c) (st.tops.below c lt) (st.tops.roots c lt) v (subst (Occurs v) (top_stable c lt) o) in
        (r.0, r.1, (let p : (node_at nodes v).level ≤ (node_at nodes (st.top c)).level = r.2 in let q : (node_at nodes (st.top c)).level ≤ l = h in omega arith))
    | inr u ↦ absurd u
  ]

  pub vars_home : (m : ℕ) → m < base → m < length nodes → (v : ℕ) → Occurs v (resolved nodes D m) → (v < length nodes) × Loose (node_at nodes v).form × ((node_at nodes v).level ≤ home m)
  vars_home m lt lt' v o = vars_sure (home m) m lt' (st.homes m lt) v o

-- the kinds that are noted at the ends of the list are none
node_past : (nodes : List Node) (v : ℕ) → length nodes ≤ v → node_at nodes v ≡ free_node
unfolding node_at
node_past [] v h = refl
node_past (x ∷ xs) zero h = absurd (omega arith)
node_past (x ∷ xs) (suc v) h = node_past xs v (omega arith)

pub respects_noted : (T : Tables) (nodes : List Node) (K : Kinds) (a : Sub) → Solves T K a nodes → Respects (noted nodes) K a
respects_noted T nodes K a s v = elim (lt_or (v) (length nodes)) as (λ x. level (node_at nodes v).kind ≤ rank K (a v)) [
  | inl lt ↦ (s.fits v lt).has
  | inr le ↦ subst (λ n. level n.kind ≤ rank K (a v)) (sym (node_past nodes v le)) (omega arith)
]
  where
    lt_or : (m n : ℕ) → (m < n) ⊎ (n ≤ m)
    lt_or zero zero = inr (omega arith)
    lt_or zero (suc n) = inl (omega arith)
    lt_or (suc m) zero = inr (omega arith)
    lt_or (suc m) (suc n) = elim (lt_or m n) as (λ x. (suc m < suc n) ⊎ (suc n ≤ suc m)) [ inl h ↦ inl (omega arith) | inr h ↦ inr (omega arith) ]

pub laws : Laws
laws T home base nodes g st all =
    let d = stable nodes (λ i lt. all i lt st.top st.tops) in (
      d.0,
      record {
        solves = solves_stable T home base nodes g st d.0 d.1;
        instances = λ K by rd r met. instance_solves T home base nodes g st d.0 d.1 K by rd r met;
        factor = λ K a sol i lt. factors nodes g T K a sol d.0 i lt;
        respects = λ K a sol. respects_noted T nodes K a sol;
        plain = λ p by i lt. plain_types nodes g T p by d.0 i lt;
      },
    )
