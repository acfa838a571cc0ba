-- Types from the bottom up.
use Rattle.std.proofs.Common.{◌≡◌, ℕ, zero, suc, ◌≤◌, ◌<◌, List, [], ◌∷◌, length, max, refl, sym, ◌∙◌, ap, subst, arith}
use native.Mathlib.Decide.{ℕ_discrete}
use mathlib.Core.Logic.{inl, inr}
use Rattle.fut_types.specs.declared.shapes.ShapeTable.{ShapeTable}
use Rattle.fut_types.specs.Types.{Ty, Var, Sub, Kinds, level, cap, rank, row}
use Rattle.fut_types.proofs.TyLaws.{level_most}
use Rattle.type_graph.specs.declared.Form.{Form}
use Rattle.type_graph.specs.declared.Form.TheVariants as form
use Rattle.type_graph.specs.declared.Node.{Node}
use Rattle.type_graph.specs.declared.Entry.{Entry}
use Rattle.type_graph.specs.Graph.{node_at, Each, Tables, Readable, type_made, parts_of, All_named, Once, Shows, Told, Within, Bound, IsGraph, IsBound, AreEntries, IsRoot}
use Rattle.type_graph.specs.State.{AtLeast, State, form_cap}
use Rattle.type_graph.proofs.PartLaws.{reads, within_parts}
use Rattle.type_graph.proofs.Ends.{starts}
use Rattle.type_graph.specs.Resolving.{Founded, FoundedIn}
use Rattle.type_graph.specs.Filling.{Rich, Suits_free, Filled}
use Rattle.type_graph.proofs.Marks.{founded_more}
use Rattle.type_graph.proofs.Rereading.{each_three, row_each, least_each, made_rank}

-- a type of a form, from those of its parts
abbrev from_parts : {last : ℕ} (T : Tables) → Rich T last → Sub → Sub → ℕ → Form → Ty
from_parts T rich by b v form.Free = by v
from_parts T rich by b v (form.Link j) = by v
from_parts T rich by b v (form.Made h x n) = type_made T.rigid h (row b x n)
from_parts T rich by b v (form.Open e n) = rich.pick b e n

parts_agree : {last : ℕ} (T : Tables) (rich : Rich T last) (by b c : Sub) (v : ℕ) (f : Form) → Each (λ x. b x ≡ c x) (parts_of T f) → from_parts T rich by b v f ≡ from_parts T rich by c v f
parts_agree T rich by b c v form.Free h = refl
parts_agree T rich by b c v (form.Link j) h = refl
parts_agree T rich by b c v (form.Made g x n) h = ap (type_made T.rigid g) (row_each b c x n h)
parts_agree T rich by b c v (form.Open e n) h = rich.same b c e n h

unfoldable raise : {last : ℕ} (T : Tables) → Rich T last → List Node → (ℕ → ℕ) → Sub → ℕ → Sub
raise T rich nodes top by zero i = Var i
raise T rich nodes top by (suc h) i = from_parts T rich by (raise T rich nodes top by h) (top i) (node_at nodes (top i)).form

module _ (table : ShapeTable) (entries : List Entry) (T : Tables) (home : ℕ → ℕ) (base : ℕ) (nodes : List Node) (g : IsGraph nodes) (bound : IsBound table (length entries) nodes) (are : AreEntries table (length nodes) entries) (told : Told table entries T)
    (st : State T home base nodes []) (founded : (i : ℕ) → i < length nodes → FoundedIn nodes entries i) (rich : Rich T (length entries)) (K : Kinds) (by : Sub) (rd : Readable K T) (suits : Suits_free nodes K by) where
  top_in : (i : ℕ) → i < length nodes → st.top i < length nodes
  top_in i lt = st.tops.below i lt

  inside : (i : ℕ) → i < length nodes → Each (λ c. c < length nodes) (parts_of T (node_at nodes (st.top i)).form)
  inside i lt = within_parts table (length nodes) (length entries) T (reads table (length nodes) entries T told.listed are) (node_at nodes (st.top i)).form (st.top i) (g.within (st.top i) (top_in i lt)) (starts table (length entries) nodes (st.top i) g bound (top_in i lt))

  -- one height for all nodes
  tall_to : (m : ℕ) → m ≤ length nodes → (H : ℕ) × ((i : ℕ) → i < m → Founded T nodes st.top H i)
  tall_to zero le = (0, λ i lt. absurd (omega arith))
  tall_to (suc m) le =
      let rest = tall_to m (omega arith) in
      let last = founded m (omega arith) T told.listed st.top st.tops in (
        max rest.0 last.0,
        λ i lt. elim (ℕ_discrete i m) as (λ d. Founded T nodes st.top (max rest.0 last.0) i) [
          | yes e ↦ subst (Founded T nodes st.top (max rest.0 last.0)) (sym e) (founded_more T nodes st.top last.0 (max rest.0 last.0) m (omega arith) last.1)
          | no ne ↦ founded_more T nodes st.top rest.0 (max rest.0 last.0) i (omega arith) (rest.1 i (grind (arith, ne)))
        ],
      )

  tall : (H : ℕ) × ((i : ℕ) → i < length nodes → Founded T nodes st.top H i)
  tall = tall_to (length nodes) (omega arith)

  all_founded : (i : ℕ) → i < length nodes → Founded T nodes st.top tall.0 i
  all_founded i lt = tall.1 i lt

  settles : (h i : ℕ) → Founded T nodes st.top h i → raise T rich nodes st.top by h i ≡ raise T rich nodes st.top by (suc h) i
  unfolding Founded raise
  settles zero i f = absurd f
  settles (suc h) i f = parts_agree T rich by (raise T rich nodes st.top by h) (raise T rich nodes st.top by (suc h)) (st.top i) (node_at nodes (st.top i)).form (every (λ c fc. settles h c fc) _ f)
    where
      every : ((c : ℕ) → Founded T nodes st.top h c → raise T rich nodes st.top by h c ≡ raise T rich nodes st.top by (suc h) c) → (cs : List ℕ) → Each (Founded T nodes st.top h) cs → Each (λ c. raise T rich nodes st.top by h c ≡ raise T rich nodes st.top by (suc h) c) cs
      every k [] e = tt
      every k (c ∷ cs) e = (k c e.0, every k cs e.1)

  full : Sub
  full i = raise T rich nodes st.top by tall.0 i

  full_is : (i : ℕ) → i < length nodes → full i ≡ from_parts T rich by full (st.top i) (node_at nodes (st.top i)).form
  unfolding full raise
  full_is i lt = settles tall.0 i (all_founded i lt)

  -- what is open has distinct names
  chain_in : (r e n : ℕ) → r < length nodes → (node_at nodes r).form ≡ form.Open e n → (0 < n) × (e < length entries)
  chain_in r e n lt is = (subst (Within (length nodes) r) is (g.within r lt), (subst (Bound table (length entries)) is (bound.forms r lt)).0)

  -- kinds
  rank_full : (h i : ℕ) → Founded T nodes st.top h i → i < length nodes → (k : ℕ) → k ≤ level (node_at nodes (st.top i)).kind → k ≤ rank K (full i)
  unfolding Founded
  rank_full zero i f lt k le = absurd f
  rank_full (suc h) i f lt k le = subst (λ t. k ≤ rank K t) (sym (full_is i lt)) (go (node_at nodes (st.top i)).form refl
      (each_three (λ c fc ic s. elim s as (λ y. k ≤ rank K (full c)) [ inl o ↦ rank_full h c fc ic k o | inr u ↦ absurd u ]) _ f (inside i lt) (st.parts (st.top i) (AtLeast k) (top_in i lt) le)))
    where
      go : (o : Form) → (node_at nodes (st.top i)).form ≡ o → Each (λ c. k ≤ rank K (full c)) (parts_of T o) → k ≤ rank K (from_parts T rich by full (st.top i) o)
      go form.Free e each = let q : level (node_at nodes (st.top i)).kind ≤ rank K (by (st.top i)) = suits (st.top i) (top_in i lt) e in omega arith
      go (form.Link j) e each = absurd (subst IsRoot e (st.tops.roots i lt))
      go (form.Made hd x n) e each =
          let c : level (node_at nodes (st.top i)).kind ≤ cap hd = subst (λ o. level (node_at nodes (st.top i)).kind ≤ form_cap o) e (st.capped (st.top i) (top_in i lt)) in
          let m : level (node_at nodes (st.top i)).kind ≤ 4 = level_most (node_at nodes (st.top i)).kind in
          made_rank K T.rigid rd.kinds hd (row full x n) k (omega arith) (least_each K full x n k (omega arith) each)
      go (form.Open y n) e each =
          let c : level (node_at nodes (st.top i)).kind ≤ 2 = subst (λ o. level (node_at nodes (st.top i)).kind ≤ form_cap o) e (st.capped (st.top i) (top_in i lt)) in
          let b = chain_in (st.top i) y n (top_in i lt) e in
          rich.kinds full y n b.0 b.1 (subst (Once T) e (st.once (st.top i) (top_in i lt))) K k (omega arith) each

  -- forms
  root_full : (i : ℕ) → i < length nodes → (f : Form) → (node_at nodes i).form ≡ f → IsRoot f → full i ≡ from_parts T rich by full i f
  root_full i lt f e r =
      let self : st.top i ≡ i = st.tops.selves i lt (subst IsRoot (sym e) r) in
      full_is i lt ∙ ap (λ j. from_parts T rich by full j (node_at nodes j).form) self ∙ ap (from_parts T rich by full i) e

  shows_full : (i : ℕ) → i < length nodes → (f : Form) → (node_at nodes i).form ≡ f → Shows T full (full i) f
  shows_full i lt form.Free e = tt
  shows_full i lt (form.Link j) e = let lj : j < length nodes = link_in i j lt e in full_is i lt ∙ ap (λ r. from_parts T rich by full r (node_at nodes r).form) (st.tops.links i j lt e) ∙ sym (full_is j lj)
    where
      link_in : (i j : ℕ) → i < length nodes → (node_at nodes i).form ≡ form.Link j → j < length nodes
      link_in i j lt e = let w : j < i = subst (Within (length nodes) i) e (g.within i lt) in omega arith
  shows_full i lt (form.Made hd x n) e = root_full i lt (form.Made hd x n) e tt
  shows_full i lt (form.Open y n) e = let b = chain_in i y n lt e in subst (λ t. All_named T.shapes T.entry full t y n) (sym (root_full i lt (form.Open y n) e tt)) (rich.named full y n b.0 b.1 (subst (Once T) e (st.once i lt)))

  has_full : (i : ℕ) → i < length nodes → level (node_at nodes i).kind ≤ rank K (full i)
  has_full i lt = go (node_at nodes i).form refl
    where
      root : IsRoot (node_at nodes i).form → level (node_at nodes i).kind ≤ rank K (full i)
      root r = rank_full tall.0 i (all_founded i lt) lt (level (node_at nodes i).kind) (subst (λ j. level (node_at nodes i).kind ≤ level (node_at nodes j).kind) (sym (st.tops.selves i lt r)) (omega arith))

      go : (o : Form) → (node_at nodes i).form ≡ o → level (node_at nodes i).kind ≤ rank K (full i)
      go form.Free e = root (subst IsRoot (sym e) tt)
      go (form.Open y n) e = root (subst IsRoot (sym e) tt)
      go (form.Link j) e = let z : level (node_at nodes i).kind ≡ 0 = st.bare i j lt e in omega arith
      go (form.Made hd x n) e = root (subst IsRoot (sym e) tt)

  pub filled : Filled T nodes K by
  filled = record {
    full = full;
    solves = record { fits = λ i lt. record { shows = shows_full i lt (node_at nodes i).form refl; has = has_full i lt } };
    free = λ v lt e. root_full v lt form.Free e tt;
  }
