-- A solution where type parameters are read otherwise: types are made anew from the roots' forms, and parts of open types
-- replaced.
use Rattle.std.proofs.Common.{◌≡◌, ℕ, zero, suc, ◌+◌, ◌-◌, ◌≤◌, ◌<◌, List, [], ◌∷◌, length, refl, sym, ◌∙◌, ap, subst, arith}
use mathlib.Core.Logic.{inl, inr}
use Rattle.fut_types.specs.declared.Kind.{Kind}
use Rattle.fut_types.specs.declared.Head.{Head}
use Rattle.fut_types.specs.declared.Head.TheVariants as head
use Rattle.fut_types.specs.declared.shapes.ShapeTable.{ShapeTable}
use Rattle.fut_types.specs.Types.{Ty, Var, Made, Tys, more, Sub, Kinds, level, cap, least, rank, size, row}
use Rattle.fut_types.proofs.TyLaws.{level_most, row_least}
use Rattle.type_graph.specs.declared.Form.{Form}
use Rattle.type_graph.specs.declared.Form.TheVariants as form
use Rattle.type_graph.specs.declared.Node.{Node}
use Rattle.type_graph.specs.declared.Entry.{Entry}
use Rattle.type_graph.specs.Graph.{far, node_at, Found, Meeting, Each, numbers, Reading, Tables, read, Readable, type_made, parts_of, All_named, Once, Shows, Solves, Told, Within, Bound, IsGraph, IsBound, AreEntries, IsRoot}
use Rattle.type_graph.specs.State.{AtLeast, AtMost, Agrees, State, form_cap, Backed}
use Rattle.type_graph.proofs.PartLaws.{reads, within_parts}
use Rattle.type_graph.proofs.Ends.{starts}
use Rattle.type_graph.specs.Rereading.{Apart, Keeps, Deeper, Left, Bears_it, Reread}
use Rattle.type_graph.proofs.Resolution.{at_number, at_top}
use Rattle.type_graph.proofs.Marks.{small_parts}
use Rattle.type_graph.proofs.Replacing.{chain_put, chain_names, chain_rank, chain_same, chain_agree}

pub each_zip : {X : Type 0} {P Q R : X → Type 0} → ((x : X) → P x → Q x → R x) → (xs : List X) → Each P xs → Each Q xs → Each R xs
each_zip f [] p q = tt
each_zip f (x ∷ xs) p q = (f x p.0 q.0, each_zip f xs p.1 q.1)

pub each_three : {X : Type 0} {P Q R S : X → Type 0} → ((x : X) → P x → Q x → R x → S x) → (xs : List X) → Each P xs → Each Q xs → Each R xs → Each S xs
each_three f [] p q r = tt
each_three f (x ∷ xs) p q r = (f x p.0 q.0 r.0, each_three f xs p.1 q.1 r.1)

pub row_each : (a b : Sub) (x n : ℕ) → Each (λ c. a c ≡ b c) (numbers x n) → row a x n ≡ row b x n
unfolding numbers
row_each a b x zero h = refl
row_each a b x (suc n) h = λ i. more (h.0 i) (row_each a b (suc x) n h.1 i)

pub least_each : (K : Kinds) (a : Sub) (x n k : ℕ) → k ≤ 4 → Each (λ c. k ≤ rank K (a c)) (numbers x n) → k ≤ least K (row a x n)
least_each K a x n k le h = row_least K a x n k le (λ i lt. at_number (λ c. k ≤ rank K (a c)) x n i h lt)

pub made_rank : (K : Kinds) (v : Reading) → ((n : ℕ) (k : Kind) → level k ≤ rank K (v n k)) → (h : Head) (us : Tys) (k : ℕ) → k ≤ cap h → k ≤ least K us → k ≤ rank K (type_made v h us)
unfolding rank
made_rank K v w (head.Rigid n k') us k p q = let r : level k' ≤ rank K (v n k') = w n k' in omega arith
made_rank K v w (head.Scalar s) us k p q = omega arith
made_rank K v w head.Array us k p q = omega arith
made_rank K v w head.Tuple us k p q = omega arith
made_rank K v w (head.Record n) us k p q = omega arith
made_rank K v w head.Fun us k p q = omega arith
made_rank K v w (head.Abstract n d) us k p q = omega arith

no_size : (t : Ty) → size t ≤ 0 → ⊥
unfolding size
no_size (Var n) le = omega arith
no_size (Made h ts) le = omega arith

-- a type of a form, from those of its parts
abbrev by_form : Tables → Reading → Sub → Ty → Form → Ty
by_form T v b t form.Free = t
by_form T v b t (form.Link j) = t
by_form T v b t (form.Made h x n) = type_made v h (row b x n)
by_form T v b t (form.Open e n) = chain_put T.shapes T.entry b t e n

form_agree : (T : Tables) (v : Reading) (b c : Sub) (t : Ty) (f : Form) → Each (λ x. b x ≡ c x) (parts_of T f) → by_form T v b t f ≡ by_form T v c t f
form_agree T v b c t form.Free h = refl
form_agree T v b c t (form.Link j) h = refl
form_agree T v b c t (form.Made g x n) h = ap (type_made v g) (row_each b c x n h)
form_agree T v b c t (form.Open e n) h = chain_agree T.shapes T.entry b c t e n h

unfoldable grow : Tables → Reading → List Node → (ℕ → ℕ) → Sub → ℕ → Sub
grow T v nodes top a zero i = a i
grow T v nodes top a (suc f) i = by_form T v (grow T v nodes top a f) (a i) (node_at nodes (top i)).form

module _ (table : ShapeTable) (entries : List Entry) (T : Tables) (home : ℕ → ℕ) (base : ℕ) (nodes : List Node) (g : IsGraph nodes) (bound : IsBound table (length entries) nodes) (are : AreEntries table (length nodes) entries) (told : Told table entries T)
    (apart : Apart T.shapes (length table.positions)) (st : State T home base nodes []) (l : ℕ) (v : Reading) (keeps : Keeps nodes l T.rigid v) (K : Kinds) (a : Sub) (rd : Readable K (read T v)) (sol : Solves T K a nodes) where
  abbrev form_at : ℕ → Form
  form_at i = (node_at nodes (st.top i)).form

  top_in : (i : ℕ) → i < length nodes → st.top i < length nodes
  top_in i lt = st.tops.below i lt

  same_type : (i : ℕ) → i < length nodes → a i ≡ a (st.top i)
  same_type i lt = at_top nodes g st.top st.tops a (λ i j h e. subst (Shows T a (a i)) e (sol.fits i h).shows) (suc i) i (omega arith) lt

  inside : (i : ℕ) → i < length nodes → Each (λ c. c < length nodes) (parts_of T (form_at i))
  inside i lt = within_parts table (length nodes) (length entries) T (reads table (length nodes) entries T told.listed are) (form_at i) (st.top i) (g.within (st.top i) (top_in i lt)) (starts table (length entries) nodes (st.top i) g bound (top_in i lt))

  small : (i : ℕ) → i < length nodes → Each (λ c. size (a c) < size (a i)) (parts_of T (form_at i))
  small i lt = subst (λ t. Each (λ c. size (a c) < size t) (parts_of T (form_at i))) (sym (same_type i lt)) (small_parts T a (a (st.top i)) (form_at i) (g.fitting (st.top i) (top_in i lt)) (sol.fits (st.top i) (top_in i lt)).shows)

  abbrev grown : ℕ → Sub
  grown f = grow T v nodes st.top a f

  settles : (f i : ℕ) → i < length nodes → size (a i) ≤ f → grow T v nodes st.top a f i ≡ grow T v nodes st.top a (suc f) i
  unfolding grow
  settles zero i lt le = absurd (no_size (a i) le)
  settles (suc f) i lt le = form_agree T v (grow T v nodes st.top a f) (grow T v nodes st.top a (suc f)) (a i) (form_at i)
      (each_zip (λ c inn sm. settles f c inn (let q : size (a c) < size (a i) = sm in omega arith)) _ (inside i lt) (small i lt))

  settled : (k i : ℕ) → i < length nodes → grow T v nodes st.top a (size (a i)) i ≡ grow T v nodes st.top a (size (a i) + k) i
  settled zero i lt = ap (λ f. grow T v nodes st.top a f i) (let e : size (a i) ≡ size (a i) + 0 = omega arith in e)
  settled (suc k) i lt = settled k i lt ∙ settles (size (a i) + k) i lt (omega arith) ∙ ap (λ f. grow T v nodes st.top a f i) (let e : suc (size (a i) + k) ≡ size (a i) + suc k = omega arith in e)

  other : Sub
  other i = grow T v nodes st.top a (size (a i)) i

  settled_at : (f i : ℕ) → i < length nodes → size (a i) ≤ f → grow T v nodes st.top a f i ≡ other i
  unfolding other
  settled_at f i lt le = ap (λ m. grow T v nodes st.top a m i) (let e : f ≡ size (a i) + (f - size (a i)) = omega arith in e) ∙ sym (settled (f - size (a i)) i lt)

  other_is : (i : ℕ) → i < length nodes → other i ≡ by_form T v other (a i) (form_at i)
  unfolding other grow
  other_is i lt = settles (size (a i)) i lt (omega arith) ∙ form_agree T v (grow T v nodes st.top a (size (a i))) other (a i) (form_at i)
      (each_zip (λ c inn sm. settled_at (size (a i)) c inn (let q : size (a c) < size (a i) = sm in omega arith)) _ (inside i lt) (small i lt))

  labels : (e : ℕ) → e < length entries → ((T.entry e).label < length table.positions) × ((T.entry e).next < length entries)
  labels e lt = let p = (reads table (length nodes) entries T told.listed are).entry e lt in (p.1, p.2)

  -- kinds
  rank_other : (f i : ℕ) → i < length nodes → size (a i) ≤ f → (k : ℕ) → k ≤ level (node_at nodes (st.top i)).kind → k ≤ rank K (other i)
  rank_other zero i lt le k h = absurd (no_size (a i) le)
  rank_other (suc f) i lt le k h = subst (λ t. k ≤ rank K t) (sym (other_is i lt)) (go (form_at i) refl
      (each_three (λ c inn sm s. elim s as (λ y. k ≤ rank K (other c)) [ inl o ↦ rank_other f c inn (let q : size (a c) < size (a i) = sm in omega arith) k o | inr u ↦ absurd u ]) _ (inside i lt) (small i lt) (st.parts (st.top i) (AtLeast k) (top_in i lt) h)))
    where
      whole : k ≤ rank K (a i)
      whole = subst (λ t. k ≤ rank K t) (sym (same_type i lt)) (let q : level (node_at nodes (st.top i)).kind ≤ rank K (a (st.top i)) = (sol.fits (st.top i) (top_in i lt)).has in omega arith)

      go : (o : Form) → form_at i ≡ o → Each (λ c. k ≤ rank K (other c)) (parts_of T o) → k ≤ rank K (by_form T v other (a i) o)
      go form.Free e each = whole
      go (form.Link j) e each = whole
      go (form.Made hd x n) e each =
          let c : level (node_at nodes (st.top i)).kind ≤ cap hd = subst (λ o. level (node_at nodes (st.top i)).kind ≤ form_cap o) e (st.capped (st.top i) (top_in i lt)) in
          let m : level (node_at nodes (st.top i)).kind ≤ 4 = level_most (node_at nodes (st.top i)).kind in
          made_rank K v rd.kinds hd (row other x n) k (omega arith) (least_each K other x n k (omega arith) each)
      go (form.Open s n) e each = chain_rank T.shapes T.entry K other (a i) k s n whole each

  -- what is fixed at the level keeps its type
  keeps_made : (hd : Head) (x n i : ℕ) → i < length nodes → (node_at nodes i).form ≡ form.Made hd x n → (node_at nodes i).level ≤ l → (ts : Tys) → type_made v hd ts ≡ type_made T.rigid hd ts
  keeps_made (head.Rigid m k) x n i lt e le ts = keeps.keeps i m k x n lt e le
  keeps_made (head.Scalar s) x n i lt e le ts = refl
  keeps_made head.Array x n i lt e le ts = refl
  keeps_made head.Tuple x n i lt e le ts = refl
  keeps_made (head.Record m) x n i lt e le ts = refl
  keeps_made head.Fun x n i lt e le ts = refl
  keeps_made (head.Abstract m d) x n i lt e le ts = refl

  low_other : (f i : ℕ) → i < length nodes → size (a i) ≤ f → (node_at nodes (st.top i)).level ≤ l → other i ≡ a i
  low_other zero i lt le h = absurd (no_size (a i) le)
  low_other (suc f) i lt le h = other_is i lt ∙ go (form_at i) refl
      (each_three (λ c inn sm s. elim s as (λ y. other c ≡ a c) [ inl o ↦ low_other f c inn (let q : size (a c) < size (a i) = sm in omega arith) o | inr u ↦ absurd u ]) _ (inside i lt) (small i lt) (st.parts (st.top i) (AtMost l) (top_in i lt) h))
    where
      shown : (o : Form) → form_at i ≡ o → Shows T a (a i) o
      shown o e = subst (λ t. Shows T a t o) (sym (same_type i lt)) (subst (Shows T a (a (st.top i))) e (sol.fits (st.top i) (top_in i lt)).shows)

      go : (o : Form) → form_at i ≡ o → Each (λ c. other c ≡ a c) (parts_of T o) → by_form T v other (a i) o ≡ a i
      go form.Free e each = refl
      go (form.Link j) e each = refl
      go (form.Made hd x n) e each = ap (type_made v hd) (row_each other a x n each) ∙ keeps_made hd x n (st.top i) (top_in i lt) e h (row a x n) ∙ sym (shown (form.Made hd x n) e)
      go (form.Open s n) e each = chain_same T.shapes T.entry a other (a i) s n (shown (form.Open s n) e) each

  -- forms
  root_other : (i : ℕ) → i < length nodes → (f : Form) → (node_at nodes i).form ≡ f → IsRoot f → other i ≡ by_form T v other (a i) f
  root_other i lt f e r = other_is i lt ∙ ap (by_form T v other (a i)) (ap (λ j. (node_at nodes j).form) (st.tops.selves i lt (subst IsRoot (sym e) r)) ∙ e)

  shows_other : (i : ℕ) → i < length nodes → (f : Form) → (node_at nodes i).form ≡ f → Shows (read T v) other (other i) f
  shows_other i lt form.Free e = tt
  shows_other i lt (form.Link j) e = let lj : j < length nodes = link_in i j lt e in
      other_is i lt ∙ (λ z. by_form T v other (subst (Shows T a (a i)) e (sol.fits i lt).shows z) (node_at nodes (st.tops.links i j lt e z)).form) ∙ sym (other_is j lj)
    where
      link_in : (i j : ℕ) → i < length nodes → (node_at nodes i).form ≡ form.Link j → j < length nodes
      link_in i j lt e = let w : j < i = subst (Within (length nodes) i) e (g.within i lt) in omega arith
  shows_other i lt (form.Made hd x n) e = root_other i lt (form.Made hd x n) e tt
  shows_other i lt (form.Open s n) e = subst (λ t. All_named T.shapes T.entry other t s n) (sym (root_other i lt (form.Open s n) e tt))
      (chain_names T.shapes (length table.positions) apart T.entry (length entries) labels a other (a i) s n (subst (Bound table (length entries)) e (bound.forms i lt)).0 (subst (Once T) e (st.once i lt)) (subst (Shows T a (a i)) e (sol.fits i lt).shows))

  has_other : (i : ℕ) → i < length nodes → level (node_at nodes i).kind ≤ rank K (other i)
  has_other i lt = go (node_at nodes i).form refl
    where
      root : IsRoot (node_at nodes i).form → level (node_at nodes i).kind ≤ rank K (other i)
      root r = rank_other (size (a i)) i lt (omega arith) (level (node_at nodes i).kind) (subst (λ j. level (node_at nodes i).kind ≤ level (node_at nodes j).kind) (sym (st.tops.selves i lt r)) (omega arith))

      go : (o : Form) → (node_at nodes i).form ≡ o → level (node_at nodes i).kind ≤ rank K (other i)
      go form.Free e = root (subst IsRoot (sym e) tt)
      go (form.Open y n) e = root (subst IsRoot (sym e) tt)
      go (form.Link j) e = let z : level (node_at nodes i).kind ≡ 0 = st.bare i j lt e in omega arith
      go (form.Made hd x n) e = root (subst IsRoot (sym e) tt)

  low_here : (i : ℕ) → i < length nodes → (node_at nodes i).level ≤ l → other i ≡ a i
  low_here i lt le = low_other (size (a i)) i lt (omega arith) (go (node_at nodes i).form refl)
    where
      root : IsRoot (node_at nodes i).form → (node_at nodes (st.top i)).level ≤ l
      root r = subst (λ j. (node_at nodes j).level ≤ l) (sym (st.tops.selves i lt r)) le

      go : (o : Form) → (node_at nodes i).form ≡ o → (node_at nodes (st.top i)).level ≤ l
      go form.Free e = root (subst IsRoot (sym e) tt)
      go (form.Open y n) e = root (subst IsRoot (sym e) tt)
      go (form.Made hd x n) e = root (subst IsRoot (sym e) tt)
      go (form.Link j) e = let p : far ≤ (node_at nodes i).level = st.afar i j lt e in let q : (node_at nodes (st.top i)).level ≤ far = g.near (st.top i) (top_in i lt) in omega arith

  homes_here : (m : ℕ) → m < base → m < length nodes → home m ≤ l → other m ≡ a m
  homes_here m lb lt le = low_other (size (a m)) m lt (omega arith) (elim (st.homes m lb) as (λ y. (node_at nodes (st.top m)).level ≤ l) [ inl o ↦ (let p : (node_at nodes (st.top m)).level ≤ home m = o in omega arith) | inr u ↦ absurd u ])

  pub reread : Reread T home base nodes l v K a
  reread = record {
    other = other;
    solves = record { fits = λ i lt. record { shows = shows_other i lt (node_at nodes i).form refl; has = has_other i lt } };
    low = low_here;
    homes = homes_here;
  }

-- where the one node of a type parameter stands
module _ (nodes : List Node) (at root depth : ℕ) (nd : Node) (f : Found nodes at root) (e : nd ≡ node_at nodes root) where
  pub end_deeper : depth < nd.level → (T : Tables) (home : ℕ → ℕ) (base n : ℕ) → State T home base nodes [] → T.seat n ≡ at → Deeper nodes n depth
  end_deeper lt T home base n st is i li p =
      let top_i : st.top i ≡ i = st.tops.selves i li (subst IsRoot (sym p.3) tt) in
      let same : i ≡ root = sym top_i ∙ (st.seated n i li p).1 ∙ ap st.top is ∙ f.tops st.top st.tops in
      subst (λ j. depth < (node_at nodes j).level) (sym same) (subst (λ (x : Node). depth < x.level) e lt)

  pub end_left : nd.level ≤ depth → depth < far → (T : Tables) (home born : ℕ → ℕ) (n : ℕ) (k : Kind) → Backed (Meeting T nodes []) home born nodes [] → Bears_it T nodes at n k → Left T home born nodes depth n k
  end_left le lt T home born n k b bears r K a r' K' a' s s' same =
      let low : (node_at nodes root).level ≤ depth = subst (λ (x : Node). x.level ≤ depth) e le in
      let less : Agrees home born (node_at nodes root).level r a r' a' = record { numbers = λ m h. same.numbers m (omega arith); parameters = λ m j h. same.parameters m j (omega arith) } in
      sym (bears r K a s) ∙ f.same (read T r) K a s ∙ b.notes root f.within (omega arith) r K a r' K' a' (record { solves = s; holds = tt }) (record { solves = s'; holds = tt }) less ∙ sym (f.same (read T r') K' a' s') ∙ bears r' K' a' s'
