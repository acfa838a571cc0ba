-- The state, step by step.
use Rattle.std.proofs.Common.{◌≡◌, ◌≢◌, ℕ, zero, suc, ◌≤◌, ◌<◌, min, List, [], ◌∷◌, ◌++◌, length, refl, sym, ◌∙◌, ap, subst, arith}
use mathlib.Core.Logic.{◌⊎◌, inl, inr}
use native.Mathlib.Decide.{ℕ_discrete}
use Rattle.fut_types.specs.declared.Kind.{Kind}
use Rattle.fut_types.specs.Types.{Sub, Kinds, level}
use Rattle.type_graph.specs.declared.Form.{Form}
use Rattle.type_graph.specs.declared.Form.TheVariants as form
use Rattle.type_graph.specs.declared.Node.{Node}
use Rattle.type_graph.specs.declared.Task.{Task}
use Rattle.type_graph.specs.declared.Task.TheVariants as task
use Rattle.type_graph.specs.Graph.{far, node_at, with_node, Each, IsRoot, Reading, Tables, parts_of, Once, IsParameter, Linked, link_to, pairs, all_have}
use Rattle.type_graph.specs.State.{Ask, AtLeast, AtMost, Obeys, Tops, Waits, Sure, State, form_cap, Fixed, FixedTask}
use Rattle.type_graph.proofs.GraphLaws.{node_same, node_other, length_with}

pub each_map : {X : Type 0} {P Q : X → Type 0} → ((x : X) → P x → Q x) → (xs : List X) → Each P xs → Each Q xs
each_map {X} {P} {Q} f [] h = tt
each_map {X} {P} {Q} f (x ∷ xs) h = (f x h.0, each_map f xs h.1)

pub obeys_more : (q : Ask) (k k' : Kind) (l l' : ℕ) → level k ≤ level k' → l' ≤ l → Obeys q k l → Obeys q k' l'
obeys_more (AtLeast n) k k' l l' p r h = omega arith
obeys_more (AtMost n) k k' l l' p r h = omega arith

-- waiting, in longer lists
pub waits_left : (top : ℕ → ℕ) (r : ℕ) (q : Ask) (xs ys : List Task) → Waits top r q xs → Waits top r q (xs ++ ys)
waits_left top r q [] ys w = absurd w
waits_left top r q (task.Same i j ∷ xs) ys w = waits_left top r q xs ys w
waits_left top r q (task.Part i label c ∷ xs) ys w = waits_left top r q xs ys w
waits_left top r q (task.Has i k l ∷ xs) ys (inl w) = inl w
waits_left top r q (task.Has i k l ∷ xs) ys (inr w) = inr (waits_left top r q xs ys w)

pub waits_right : (top : ℕ → ℕ) (r : ℕ) (q : Ask) (xs ys : List Task) → Waits top r q ys → Waits top r q (xs ++ ys)
waits_right top r q [] ys w = w
waits_right top r q (task.Same i j ∷ xs) ys w = waits_right top r q xs ys w
waits_right top r q (task.Part i label c ∷ xs) ys w = waits_right top r q xs ys w
waits_right top r q (task.Has i k l ∷ xs) ys w = inr (waits_right top r q xs ys w)

pub waits_split : (top : ℕ → ℕ) (r : ℕ) (q : Ask) (xs ys : List Task) → Waits top r q (xs ++ ys) → Waits top r q xs ⊎ Waits top r q ys
waits_split top r q [] ys w = inr w
waits_split top r q (task.Same i j ∷ xs) ys w = waits_split top r q xs ys w
waits_split top r q (task.Part i label c ∷ xs) ys w = waits_split top r q xs ys w
waits_split top r q (task.Has i k l ∷ xs) ys (inl w) = inl (inl w)
waits_split top r q (task.Has i k l ∷ xs) ys (inr w) = elim (waits_split top r q xs ys w) [ inl v ↦ inl (inr v) | inr v ↦ inr v ]

pub waits_each : (top : ℕ → ℕ) (q : Ask) (k : Kind) (l : ℕ) → Obeys q k l → (cs : List ℕ) → Each (λ c. Waits top (top c) q (all_have cs k l)) cs
unfolding all_have
waits_each top q k l o [] = tt
waits_each top q k l o (c ∷ cs) = (inl (refl, o), each_map (λ d w. inr w) cs (waits_each top q k l o cs))

-- the new root of the two that are linked
unfoldable pub retop : ℕ → ℕ → ℕ → ℕ → ℕ
retop z w l r = elim (ℕ_discrete r w) as (λ d. ℕ) [ yes e ↦ z | no ne ↦ elim (ℕ_discrete r l) as (λ d. ℕ) [ yes e ↦ z | no ne' ↦ r ] ]

abbrev Inner : ℕ → ℕ → ℕ → ℕ
Inner z l r = elim (ℕ_discrete r l) as (λ d. ℕ) [ yes e ↦ z | no ne' ↦ r ]

retop_w : (z w l : ℕ) → retop z w l w ≡ z
unfolding retop
retop_w z w l = elim (ℕ_discrete w w) as (λ d. (elim d as (λ d. ℕ) [ yes e ↦ z | no ne ↦ Inner z l w ]) ≡ z) [ yes e ↦ refl | no ne ↦ absurd (ne refl) ]

inner_l : (z l : ℕ) → Inner z l l ≡ z
inner_l z l = elim (ℕ_discrete l l) as (λ d. (elim d as (λ d. ℕ) [ yes e ↦ z | no ne ↦ l ]) ≡ z) [ yes e ↦ refl | no ne ↦ absurd (ne refl) ]

inner_other : (z l r : ℕ) → r ≢ l → Inner z l r ≡ r
inner_other z l r h = elim (ℕ_discrete r l) as (λ d. (elim d as (λ d. ℕ) [ yes e ↦ z | no ne ↦ r ]) ≡ r) [ yes e ↦ absurd (h e) | no ne ↦ refl ]

retop_l : (z w l : ℕ) → retop z w l l ≡ z
unfolding retop
retop_l z w l = elim (ℕ_discrete l w) as (λ d. (elim d as (λ d. ℕ) [ yes e ↦ z | no ne ↦ Inner z l l ]) ≡ z) [ yes e ↦ refl | no ne ↦ inner_l z l ]

retop_other : (z w l r : ℕ) → r ≢ w → r ≢ l → retop z w l r ≡ r
unfolding retop
retop_other z w l r hw hl = elim (ℕ_discrete r w) as (λ d. (elim d as (λ d. ℕ) [ yes e ↦ z | no ne ↦ Inner z l r ]) ≡ r) [ yes e ↦ absurd (hw e) | no ne ↦ inner_other z l r hl ]

-- each number is one of the two, or another
either_of : (P : ℕ → Type 0) (w l i : ℕ) → P w → P l → (i ≢ w → i ≢ l → P i) → P i
either_of P w l i pw pl po = elim (ℕ_discrete i w) as (λ d. P i) [ yes e ↦ subst P (sym e) pw | no nw ↦ elim (ℕ_discrete i l) as (λ d. P i) [ yes e ↦ subst P (sym e) pl | no nl ↦ po nw nl ] ]

waits_retop : (z w l : ℕ) (top : ℕ → ℕ) (r : ℕ) (q : Ask) (ts : List Task) → Waits top r q ts → Waits (λ i. retop z w l (top i)) (retop z w l r) q ts
waits_retop z w l top r q [] h = absurd h
waits_retop z w l top r q (task.Same i j ∷ ts) h = waits_retop z w l top r q ts h
waits_retop z w l top r q (task.Part i label c ∷ ts) h = waits_retop z w l top r q ts h
waits_retop z w l top r q (task.Has i k d ∷ ts) (inl h) = inl (ap (retop z w l) h.0, h.1)
waits_retop z w l top r q (task.Has i k d ∷ ts) (inr h) = inr (waits_retop z w l top r q ts h)

is_link : Form → Type 0
is_link form.Free = ⊥
is_link (form.Link j) = Unit {0}
is_link (form.Made h x n) = ⊥
is_link (form.Open e n) = ⊥

link_same : (i j : ℕ) → form.Link i ≡ form.Link j → i ≡ j
link_same i j e = ap target e
  where
    target : Form → ℕ
    target form.Free = 0
    target (form.Link j) = j
    target (form.Made h x n) = 0
    target (form.Open e n) = 0

root_no_link : (f : Form) (j : ℕ) → IsRoot f → f ≡ form.Link j → ⊥
root_no_link f j r e = subst IsRoot e r

pub no_parameter : (n j : ℕ) → IsParameter n (form.Link j) → ⊥
unfolding is_link
no_parameter n j p = subst is_link p.3 tt

-- two roots are linked
module _ (nodes : List Node) (w l : ℕ) (nodes' : List Node) (hw : w < length nodes) (hl : l < length nodes) (rw' : IsRoot (node_at nodes w).form) (rl : IsRoot (node_at nodes l).form) (ne : w ≢ l) (d : Linked nodes w l nodes') where
  -- what holds of all nodes
  pub joined : (P : ℕ → Node → Type 0) → P d.up (node_at nodes w) → P d.down (link_to d.up) → ((i : ℕ) → i ≢ w → i ≢ l → P i (node_at nodes i)) → (i : ℕ) → P i (node_at nodes' i)
  joined P pu pd po i =
      let at_u : P d.up (node_at nodes' d.up) = subst (P d.up) (sym d.at_up) pu in
      let at_d : P d.down (node_at nodes' d.down) = subst (P d.down) (sym d.at_down) pd in
      elim d.which as (λ x. P i (node_at nodes' i)) [
        | inl e ↦ either_of (λ j. P j (node_at nodes' j)) w l i (subst (λ j. P j (node_at nodes' j)) e.0 at_u) (subst (λ j. P j (node_at nodes' j)) e.1 at_d) (λ nw nl. subst (P i) (sym (d.others i nw nl)) (po i nw nl))
        | inr e ↦ either_of (λ j. P j (node_at nodes' j)) w l i (subst (λ j. P j (node_at nodes' j)) e.1 at_d) (subst (λ j. P j (node_at nodes' j)) e.0 at_u) (λ nw nl. subst (P i) (sym (d.others i nw nl)) (po i nw nl))
      ]

  up_in : d.up < length nodes
  up_in = elim d.which as (λ x. d.up < length nodes) [ inl e ↦ subst (λ j. j < length nodes) (sym e.0) hw | inr e ↦ subst (λ j. j < length nodes) (sym e.0) hl ]

  re_up : retop d.up w l d.up ≡ d.up
  re_up = elim d.which as (λ x. retop d.up w l d.up ≡ d.up) [ inl e ↦ ap (retop d.up w l) e.0 ∙ retop_w d.up w l | inr e ↦ ap (retop d.up w l) e.0 ∙ retop_l d.up w l ]

  re_down : retop d.up w l d.down ≡ d.up
  re_down = elim d.which as (λ x. retop d.up w l d.down ≡ d.up) [ inl e ↦ ap (retop d.up w l) e.1 ∙ retop_l d.up w l | inr e ↦ ap (retop d.up w l) e.1 ∙ retop_w d.up w l ]

  module _ (top : ℕ → ℕ) (t : Tops nodes top) where
    abbrev top' : ℕ → ℕ
    top' i = retop d.up w l (top i)

    top_w : top w ≡ w
    top_w = t.selves w hw rw'

    top_l : top l ≡ l
    top_l = t.selves l hl rl

    top_up : top d.up ≡ d.up
    top_up = elim d.which as (λ x. top d.up ≡ d.up) [ inl e ↦ ap top e.0 ∙ top_w ∙ sym e.0 | inr e ↦ ap top e.0 ∙ top_l ∙ sym e.0 ]

    top_down : top d.down ≡ d.down
    top_down = elim d.which as (λ x. top d.down ≡ d.down) [ inl e ↦ ap top e.1 ∙ top_l ∙ sym e.1 | inr e ↦ ap top e.1 ∙ top_w ∙ sym e.1 ]

    pub tops_linked : Tops nodes' (λ i. retop d.up w l (top i))
    tops_linked = record {
      below = λ i lt. subst (λ n. retop d.up w l (top i) < n) (sym d.long)
          (either_of (λ r. r ≡ top i → retop d.up w l r < length nodes) w l (top i) (λ e. subst (λ r. r < length nodes) (sym (retop_w d.up w l)) up_in) (λ e. subst (λ r. r < length nodes) (sym (retop_l d.up w l)) up_in)
          (λ nw nl e. subst (λ r. r < length nodes) (sym (retop_other d.up w l (top i) nw nl)) (t.below i (subst (λ n. i < n) d.long lt))) refl);
      roots = λ i lt. either_of (λ r. r ≡ top i → IsRoot (node_at nodes' (retop d.up w l r)).form) w l (top i)
          (λ e. subst (λ r. IsRoot (node_at nodes' r).form) (sym (retop_w d.up w l)) (subst (λ n. IsRoot n.form) (sym d.at_up) rw'))
          (λ e. subst (λ r. IsRoot (node_at nodes' r).form) (sym (retop_l d.up w l)) (subst (λ n. IsRoot n.form) (sym d.at_up) rw'))
          (λ nw nl e. subst (λ r. IsRoot (node_at nodes' r).form) (sym (retop_other d.up w l (top i) nw nl)) (subst (λ n. IsRoot n.form) (sym (d.others (top i) nw nl)) (t.roots i (subst (λ n. i < n) d.long lt)))) refl;
      links = λ i j lt. joined (λ i n. i < length nodes → n.form ≡ form.Link j → retop d.up w l (top i) ≡ retop d.up w l (top j))
          (λ h e. absurd (root_no_link _ j rw' e))
          (λ h e. ap (retop d.up w l) top_down ∙ re_down ∙ sym re_up ∙ ap (retop d.up w l) (sym top_up) ∙ ap (λ k. retop d.up w l (top k)) (link_same d.up j e))
          (λ i nw nl h e. ap (retop d.up w l) (t.links i j h e)) i (subst (λ n. i < n) d.long lt);
      selves = λ i lt. joined (λ i n. i < length nodes → IsRoot n.form → retop d.up w l (top i) ≡ i)
          (λ h r. ap (retop d.up w l) top_up ∙ re_up)
          (λ h r. absurd r)
          (λ i nw nl h r. ap (retop d.up w l) (t.selves i h r) ∙ retop_other d.up w l i nw nl) i (subst (λ n. i < n) d.long lt);
    }

    sure_linked : (rest more : List Task) (q : Ask) (c : ℕ) → Sure nodes (rest ++ task.Same w l ∷ []) top q c → Sure nodes' (rest ++ task.Has w (node_at nodes l).kind (node_at nodes l).level ∷ more) (λ i. retop d.up w l (top i)) q c
    sure_linked rest more q c (inl o) =
        either_of (λ r. r ≡ top c → Obeys q (node_at nodes r).kind (node_at nodes r).level → Sure nodes' (rest ++ task.Has w (node_at nodes l).kind (node_at nodes l).level ∷ more) (λ i. retop d.up w l (top i)) q c) w l (top c)
        (λ e o. inl (subst (λ r. Obeys q (node_at nodes' r).kind (node_at nodes' r).level) (sym (retop_w d.up w l) ∙ ap (retop d.up w l) e) (subst (λ n. Obeys q n.kind n.level) (sym d.at_up) o)))
        (λ e o. inr (waits_right (λ i. retop d.up w l (top i)) (retop d.up w l (top c)) q rest _
        (inl (ap (retop d.up w l) top_w ∙ retop_w d.up w l ∙ sym (retop_l d.up w l) ∙ ap (retop d.up w l) e, o))))
        (λ nw nl e o. inl (subst (λ r. Obeys q (node_at nodes' r).kind (node_at nodes' r).level) (sym (retop_other d.up w l (top c) nw nl)) (subst (λ n. Obeys q n.kind n.level) (sym (d.others (top c) nw nl)) o)))
        refl o
    sure_linked rest more q c (inr v) = elim (waits_split top (top c) q rest (task.Same w l ∷ []) v) [
      | inl u ↦ inr (waits_left (λ i. retop d.up w l (top i)) (retop d.up w l (top c)) q rest _ (waits_retop d.up w l top (top c) q rest u))
      | inr u ↦ absurd u
    ]

  seat_in : {k : ℕ} → k < length nodes → k < length nodes'
  seat_in {k} lt = subst (λ n. k < n) (sym d.long) lt

  pub state_linked : (T : Tables) (home : ℕ → ℕ) (base : ℕ) (rest more : List Task) → State T home base nodes (rest ++ task.Same w l ∷ []) → State T home base nodes' (rest ++ task.Has w (node_at nodes l).kind (node_at nodes l).level ∷ more)
  state_linked T home base rest more s = record {
    top = λ i. retop d.up w l (s.top i);
    tops = tops_linked s.top s.tops;
    capped = λ i lt. joined (λ i node. i < length nodes → level node.kind ≤ form_cap node.form)
        (λ b. s.capped w hw) (λ b. omega arith) (λ i nw nl b. s.capped i b) i (subst (λ n. i < n) d.long lt);
    parts = λ i q lt. joined (λ i node. i < length nodes → Obeys q node.kind node.level → Each (Sure nodes' (rest ++ task.Has w (node_at nodes l).kind (node_at nodes l).level ∷ more) (λ i. retop d.up w l (s.top i)) q) (parts_of T node.form))
        (λ b o. each_map (sure_linked s.top s.tops rest more q) _ (s.parts w q hw o))
        (λ b o. tt)
        (λ i nw nl b o. each_map (sure_linked s.top s.tops rest more q) _ (s.parts i q b o)) i (subst (λ n. i < n) d.long lt);
    bare = λ i j lt. joined (λ i node. i < length nodes → node.form ≡ form.Link j → level node.kind ≡ 0)
        (λ b e. absurd (root_no_link _ j rw' e)) (λ b e. refl) (λ i nw nl b e. s.bare i j b e) i (subst (λ n. i < n) d.long lt);
    afar = λ i j lt. joined (λ i node. i < length nodes → node.form ≡ form.Link j → far ≤ node.level)
        (λ b e. absurd (root_no_link _ j rw' e)) (λ b e. omega arith) (λ i nw nl b e. s.afar i j b e) i (subst (λ n. i < n) d.long lt);
    homes = λ m lt. sure_linked s.top s.tops rest more (AtMost (home m)) m (s.homes m lt);
    once = λ i lt. joined (λ i node. i < length nodes → Once T node.form) (λ b. s.once w hw) (λ b. tt) (λ i nw nl b. s.once i b) i (subst (λ n. i < n) d.long lt);
    seated = λ n i lt. joined (λ i node. i < length nodes → IsParameter n node.form → (T.seat n < length nodes') × (retop d.up w l (s.top i) ≡ retop d.up w l (s.top (T.seat n))))
        (λ b p. let q = s.seated n w hw p in (seat_in q.0, ap (retop d.up w l) (top_up s.top s.tops) ∙ re_up ∙ sym (retop_w d.up w l) ∙ ap (retop d.up w l) (sym (top_w s.top s.tops) ∙ q.1)))
        (λ b p. absurd (no_parameter n d.up p))
        (λ i nw nl b p. let q = s.seated n i b p in (seat_in q.0, ap (retop d.up w l) q.1)) i (subst (λ n. i < n) d.long lt);
  }

-- a root is put in the place of another
module _ (nodes : List Node) (r : ℕ) (x : Node) (hr : r < length nodes) (root : IsRoot (node_at nodes r).form) (rx : IsRoot x.form) where
  at_each : (P : ℕ → Node → Type 0) → P r x → ((i : ℕ) → i ≢ r → P i (node_at nodes i)) → (i : ℕ) → P i (node_at (with_node nodes r x) i)
  at_each P here others i = elim (ℕ_discrete i r) as (λ d. P i (node_at (with_node nodes r x) i)) [
    | yes e ↦ subst (λ j. P j (node_at (with_node nodes r x) j)) (sym e) (subst (P r) (sym (node_same nodes r x hr)) here)
    | no ne ↦ subst (P i) (sym (node_other nodes r i x ne)) (others i ne)
  ]

  inside : (i : ℕ) → i < length (with_node nodes r x) → i < length nodes
  inside i lt = subst (λ n. i < n) (length_with nodes r x) lt

  in_with : {k : ℕ} → k < length nodes → k < length (with_node nodes r x)
  in_with {k} lt = subst (λ n. k < n) (sym (length_with nodes r x)) lt

  tops_root : (top : ℕ → ℕ) → Tops nodes top → Tops (with_node nodes r x) top
  tops_root top t = record {
    below = λ i lt. subst (λ n. top i < n) (sym (length_with nodes r x)) (t.below i (inside i lt));
    roots = λ i lt. at_each (λ j n. j ≡ top i → IsRoot n.form) (λ e. rx) (λ j ne e. subst (λ j. IsRoot (node_at nodes j).form) (sym e) (t.roots i (inside i lt))) (top i) refl;
    links = λ i j lt. at_each (λ i n. i < length nodes → n.form ≡ form.Link j → top i ≡ top j) (λ b e. absurd (root_no_link _ j rx e)) (λ i ne b e. t.links i j b e) i (inside i lt);
    selves = λ i lt. at_each (λ i n. i < length nodes → IsRoot n.form → top i ≡ i) (λ b h. t.selves r hr root) (λ i ne b h. t.selves i b h) i (inside i lt);
  }

  module _ (T : Tables) (t : Task) (more : List Task) (up : level (node_at nodes r).kind ≤ level x.kind) (low : x.level ≤ (node_at nodes r).level) (cap : level x.kind ≤ form_cap x.form)
      (gone : (top : ℕ → ℕ) → Tops nodes top → (s : ℕ) (q : Ask) → Waits top s q (t ∷ []) → (s ≡ r) × Obeys q x.kind x.level)
      (once : Once T (node_at nodes r).form → Once T x.form) (kept : (n : ℕ) → IsParameter n x.form → IsParameter n (node_at nodes r).form) where
    sure_root : (rest : List Task) (top : ℕ → ℕ) (w : Tops nodes top) (q : Ask) (c : ℕ) → Sure nodes (rest ++ t ∷ []) top q c → Sure (with_node nodes r x) (rest ++ more) top q c
    sure_root rest top w q c (inl o) = inl (at_each (λ i n. Obeys q (node_at nodes i).kind (node_at nodes i).level → Obeys q n.kind n.level) (obeys_more q _ x.kind _ x.level up low) (λ i ne o. o) (top c) o)
    sure_root rest top w q c (inr v) = elim (waits_split top (top c) q rest (t ∷ []) v) [
      | inl u ↦ inr (waits_left top (top c) q rest more u)
      | inr u ↦ let g = gone top w (top c) q u in inl (subst (λ j. Obeys q (node_at (with_node nodes r x) j).kind (node_at (with_node nodes r x) j).level) (sym g.0) (subst (λ n. Obeys q n.kind n.level) (sym (node_same nodes r x hr)) g.1))
    ]

    pub state_root : (home : ℕ → ℕ) (base : ℕ) (rest : List Task)
        → ((top : ℕ → ℕ) (q : Ask) → Obeys q x.kind x.level → (Obeys q (node_at nodes r).kind (node_at nodes r).level → Each (Sure (with_node nodes r x) (rest ++ more) top q) (parts_of T (node_at nodes r).form)) → Each (Sure (with_node nodes r x) (rest ++ more) top q) (parts_of T x.form))
        → State T home base nodes (rest ++ t ∷ []) → State T home base (with_node nodes r x) (rest ++ more)
    state_root home base rest own s = record {
      top = s.top;
      tops = tops_root s.top s.tops;
      capped = λ i lt. at_each (λ i n. i < length nodes → level n.kind ≤ form_cap n.form) (λ b. cap) (λ i ne b. s.capped i b) i (inside i lt);
      parts = λ i q lt. at_each (λ i n. i < length nodes → Obeys q n.kind n.level → Each (Sure (with_node nodes r x) (rest ++ more) s.top q) (parts_of T n.form))
          (λ b o. own s.top q o (λ o'. each_map (sure_root rest s.top s.tops q) _ (s.parts r q hr o')))
          (λ i ne b o. each_map (sure_root rest s.top s.tops q) _ (s.parts i q b o)) i (inside i lt);
      bare = λ i j lt. at_each (λ i n. i < length nodes → n.form ≡ form.Link j → level n.kind ≡ 0) (λ b e. absurd (root_no_link _ j rx e)) (λ i ne b e. s.bare i j b e) i (inside i lt);
      afar = λ i j lt. at_each (λ i n. i < length nodes → n.form ≡ form.Link j → far ≤ n.level) (λ b e. absurd (root_no_link _ j rx e)) (λ i ne b e. s.afar i j b e) i (inside i lt);
      homes = λ m lt. sure_root rest s.top s.tops (AtMost (home m)) m (s.homes m lt);
      once = λ i lt. at_each (λ i n. i < length nodes → Once T n.form) (λ b. once (s.once r hr)) (λ i ne b. s.once i b) i (inside i lt);
      seated = λ n i lt. at_each (λ i node. i < length nodes → IsParameter n node.form → (T.seat n < length (with_node nodes r x)) × (s.top i ≡ s.top (T.seat n)))
          (λ b p. let q = s.seated n r hr (kept n p) in (in_with q.0, q.1)) (λ i ne b p. let q = s.seated n i b p in (in_with q.0, q.1)) i (inside i lt);
    }

-- a task is done, or turned into others, and the nodes stay
pub state_other : (T : Tables) (home : ℕ → ℕ) (base : ℕ) (nodes : List Node) (rest : List Task) (t : Task) (more : List Task)
    → ((top : ℕ → ℕ) → Tops nodes top → (r : ℕ) (q : Ask) → Waits top r q (t ∷ []) → Obeys q (node_at nodes r).kind (node_at nodes r).level ⊎ Waits top r q more)
    → State T home base nodes (rest ++ t ∷ []) → State T home base nodes (rest ++ more)
state_other T home base nodes rest t more f s =
    let other : (q : Ask) (c : ℕ) → Sure nodes (rest ++ t ∷ []) s.top q c → Sure nodes (rest ++ more) s.top q c = λ q c. elim [
      | inl o ↦ inl o
      | inr v ↦ elim (waits_split s.top (s.top c) q rest (t ∷ []) v) [
        | inl w ↦ inr (waits_left s.top (s.top c) q rest more w)
        | inr w ↦ elim (f s.top s.tops (s.top c) q w) [ inl o ↦ inl o | inr u ↦ inr (waits_right s.top (s.top c) q rest more u) ]
      ]
    ] in record {
      top = s.top;
      tops = s.tops;
      capped = s.capped;
      parts = λ i q lt o. each_map (other q) _ (s.parts i q lt o);
      bare = s.bare;
      afar = s.afar;
      homes = λ m lt. other (AtMost (home m)) m (s.homes m lt);
      once = s.once;
      seated = s.seated;
    }

-- reasons for levels
pub fixed_less : (S S' : Reading → Kinds → Sub → Type 0) (home born : ℕ → ℕ) (l i : ℕ) → ((r : Reading) (K : Kinds) (a : Sub) → S' r K a → S r K a) → Fixed S home born l i → Fixed S' home born l i
fixed_less S S' home born l i sub f lt r K a r' K' a' s s' same = f lt r K a r' K' a' (sub r K a s) (sub r' K' a' s') same

pub fixed_same : (S : Reading → Kinds → Sub → Type 0) (home born : ℕ → ℕ) (l i j : ℕ) → ((r : Reading) (K : Kinds) (a : Sub) → S r K a → a i ≡ a j) → Fixed S home born l i → Fixed S home born l j
fixed_same S home born l i j eq f lt r K a r' K' a' s s' same = sym (eq r K a s) ∙ f lt r K a r' K' a' s s' same ∙ eq r' K' a' s'

pub fixed_min : (S : Reading → Kinds → Sub → Type 0) (home born : ℕ → ℕ) (l l' i : ℕ) → Fixed S home born l i → Fixed S home born l' i → Fixed S home born (min l l') i
fixed_min S home born l l' i f g = either (min_of l l')
  where
    min_of : (l l' : ℕ) → (l ≡ min l l') ⊎ (l' ≡ min l l')
    min_of l l' = elim (ℕ_discrete l (min l l')) as (λ d. (l ≡ min l l') ⊎ (l' ≡ min l l')) [ yes e ↦ inl e | no ne ↦ inr (grind (arith, ne)) ]

    either : (l ≡ min l l') ⊎ (l' ≡ min l l') → Fixed S home born (min l l') i
    either (inl e) = subst (λ m. Fixed S home born m i) e f
    either (inr e) = subst (λ m. Fixed S home born m i) e g

pub asks_append : (S : Reading → Kinds → Sub → Type 0) (home born : ℕ → ℕ) (xs ys : List Task) → Each (FixedTask S home born) xs → Each (FixedTask S home born) ys → Each (FixedTask S home born) (xs ++ ys)
asks_append S home born [] ys p q = q
asks_append S home born (x ∷ xs) ys p q = (p.0, asks_append S home born xs ys p.1 q)

pub asks_left : (S : Reading → Kinds → Sub → Type 0) (home born : ℕ → ℕ) (xs ys : List Task) → Each (FixedTask S home born) (xs ++ ys) → Each (FixedTask S home born) xs
asks_left S home born [] ys p = tt
asks_left S home born (x ∷ xs) ys p = (p.0, asks_left S home born xs ys p.1)

pub asks_right : (S : Reading → Kinds → Sub → Type 0) (home born : ℕ → ℕ) (xs ys : List Task) → Each (FixedTask S home born) (xs ++ ys) → Each (FixedTask S home born) ys
asks_right S home born [] ys p = p
asks_right S home born (x ∷ xs) ys p = asks_right S home born xs ys p.1

pub asks_less : (S S' : Reading → Kinds → Sub → Type 0) (home born : ℕ → ℕ) → ((r : Reading) (K : Kinds) (a : Sub) → S' r K a → S r K a) → (ts : List Task) → Each (FixedTask S home born) ts → Each (FixedTask S' home born) ts
asks_less S S' home born sub [] p = tt
asks_less S S' home born sub (task.Same i j ∷ ts) p = (tt, asks_less S S' home born sub ts p.1)
asks_less S S' home born sub (task.Part i label c ∷ ts) p = (tt, asks_less S S' home born sub ts p.1)
asks_less S S' home born sub (task.Has i k l ∷ ts) p = (fixed_less S S' home born l i sub p.0, asks_less S S' home born sub ts p.1)

pub asks_pairs : (S : Reading → Kinds → Sub → Type 0) (home born : ℕ → ℕ) (x y n : ℕ) → Each (FixedTask S home born) (pairs x y n)
asks_pairs S home born x y zero = tt
asks_pairs S home born x y (suc n) = (tt, asks_pairs S home born (suc x) (suc y) n)

pub asks_all : (S : Reading → Kinds → Sub → Type 0) (home born : ℕ → ℕ) (k : Kind) (l : ℕ) (cs : List ℕ) → Each (Fixed S home born l) cs → Each (FixedTask S home born) (all_have cs k l)
unfolding all_have
asks_all S home born k l [] f = tt
asks_all S home born k l (c ∷ cs) f = (f.0, asks_all S home born k l cs f.1)
