-- Another solution of a graph: some of its deep roots get types that are given, type parameters are read otherwise, and all
-- other types are made anew from the forms of the roots. An open type keeps what it is made by, with its named parts as they
-- come to be.
use Rattle.std.proofs.Common.{◌≡◌, ◌≢◌, ℕ, zero, suc, ◌+◌, ◌-◌, ◌≤◌, ◌<◌, List, [], ◌∷◌, length, refl, sym, ◌∙◌, ap, subst, arith}
use mathlib.Core.Logic.{◌⊎◌, inl, inr}
use native.Mathlib.Decide.{ℕ_discrete}
use Rattle.fut_types.specs.declared.Kind.{Kind}
use Rattle.fut_types.specs.declared.Head.{Head}
use Rattle.fut_types.specs.declared.Head.TheVariants as head
use Rattle.fut_types.specs.declared.shapes.ShapeTable.{ShapeTable}
use Rattle.fut_types.specs.Types.{Ty, Var, Made, Tys, more, Sub, Kinds, level, cap, least, rank, size, row}
use Rattle.fut_types.proofs.TyLaws.{level_most, row_least}
use Rattle.type_graph.specs.declared.Form.{Form}
use Rattle.type_graph.specs.declared.Form.TheVariants as form
use Rattle.type_graph.specs.declared.Node.{Node}
use Rattle.type_graph.specs.declared.Entry.{Entry}
use Rattle.type_graph.specs.Graph.{node_at, Each, numbers, Reading, Tables, read, type_made, parts_of, Names, Once, Shows, Solves, Listed, Within, Bound, IsGraph, IsBound, AreEntries, IsRoot}
use Rattle.type_graph.specs.State.{AtLeast, AtMost, State, form_cap}
use Rattle.type_graph.proofs.PartLaws.{reads, within_parts}
use Rattle.type_graph.proofs.Ends.{starts}
use Rattle.type_graph.specs.Rereading.{Apart}
use Rattle.type_graph.proofs.Resolution.{at_number, at_top}
use Rattle.type_graph.proofs.Marks.{small_parts}
use Rattle.type_graph.proofs.Replacing.{chain_put, chain_names, chain_rank, chain_same, chain_agree}

pub lt_or : (m n : ℕ) → (m < n) ⊎ (n ≤ m)
lt_or zero zero = inr (omega arith)
lt_or zero (suc n) = inl (omega arith)
lt_or (suc m) zero = inr (omega arith)
lt_or (suc m) (suc n) = elim (lt_or m n) as (λ x. (suc m < suc n) ⊎ (suc n ≤ suc m)) [ inl h ↦ inl (omega arith) | inr h ↦ inr (omega arith) ]

pub same_or : (m n : ℕ) → (m ≡ n) ⊎ (m ≢ n)
same_or m n = elim (ℕ_discrete m n) as (λ d. (m ≡ n) ⊎ (m ≢ n)) [ yes e ↦ inl e | no ne ↦ inr ne ]

each_zip : {X : Type 0} {P Q R : X → Type 0} → ((x : X) → P x → Q x → R x) → (xs : List X) → Each P xs → Each Q xs → Each R xs
each_zip f [] p q = tt
each_zip f (x ∷ xs) p q = (f x p.0 q.0, each_zip f xs p.1 q.1)

each_three : {X : Type 0} {P Q R S : X → Type 0} → ((x : X) → P x → Q x → R x → S x) → (xs : List X) → Each P xs → Each Q xs → Each R xs → Each S xs
each_three f [] p q r = tt
each_three f (x ∷ xs) p q r = (f x p.0 q.0 r.0, each_three f xs p.1 q.1 r.1)

row_each : (a b : Sub) (x n : ℕ) → Each (λ c. a c ≡ b c) (numbers x n) → row a x n ≡ row b x n
unfolding numbers
row_each a b x zero h = refl
row_each a b x (suc n) h = λ i. more (h.0 i) (row_each a b (suc x) n h.1 i)

made_rank : (K : Kinds) (h : Head) (us : Tys) (k : ℕ) → k ≤ cap h → k ≤ least K us → k ≤ rank K (Made h us)
unfolding rank
made_rank K h us k p q = omega arith

no_size : (t : Ty) → size t ≤ 0 → ⊥
unfolding size
no_size (Var n) le = omega arith
no_size (Made h ts) le = omega arith

-- a type of a form, from those of its parts
abbrev pub by_form : Tables → Reading → Sub → Ty → Form → Ty
by_form T v b t form.Free = t
by_form T v b t (form.Link j) = t
by_form T v b t (form.Made h x n) = type_made v h (row b x n)
by_form T v b t (form.Open e n) = chain_put T.shapes T.entry b t e n

form_agree : (T : Tables) (v : Reading) (b c : Sub) (t : Ty) (f : Form) → Each (λ x. b x ≡ c x) (parts_of T f) → by_form T v b t f ≡ by_form T v c t f
form_agree T v b c t form.Free h = refl
form_agree T v b c t (form.Link j) h = refl
form_agree T v b c t (form.Made g x n) h = ap (type_made v g) (row_each b c x n h)
form_agree T v b c t (form.Open e n) h = chain_agree T.shapes T.entry b c t e n h

-- the type that is given, or another
abbrev pub given_else : {P : Type 0} → P ⊎ (P → ⊥) → Ty → Ty → Ty
given_else (inl p) t u = t
given_else (inr p) t u = u

module _ (table : ShapeTable) (entries : List Entry) (T : Tables) (home : ℕ → ℕ) (base : ℕ) (nodes : List Node) (g : IsGraph nodes) (bound : IsBound table (length entries) nodes) (are : AreEntries table (length nodes) entries) (listed : Listed entries T)
    (apart : Apart T.shapes (length table.positions)) (st : State T home base nodes []) (K : Kinds) (a : Sub) (sol : Solves T K a nodes)
    (l : ℕ) (v : Reading) (heads : (i n : ℕ) (k : Kind) (x c : ℕ) → i < length nodes → (node_at nodes i).form ≡ form.Made (head.Rigid n k) x c → (level k ≤ rank K (v n k)) ⊎ (v n k ≡ T.rigid n k))
    (keeps : (i n : ℕ) (k : Kind) (x c : ℕ) → i < length nodes → (node_at nodes i).form ≡ form.Made (head.Rigid n k) x c → (node_at nodes i).level ≤ l → v n k ≡ T.rigid n k)
    (Given : ℕ → Type 0) (given_or : (i : ℕ) → Given i ⊎ (Given i → ⊥)) (given : Sub) (deep : (i : ℕ) → Given i → (node_at nodes i).level ≤ l → ⊥) (gives : (i : ℕ) → i < length nodes → Given i → level (node_at nodes i).kind ≤ rank K (given i)) where
  abbrev form_at : ℕ → Form
  form_at i = (node_at nodes (st.top i)).form

  grow : ℕ → Sub
  grow zero i = a i
  grow (suc f) i = given_else (given_or (st.top i)) (given (st.top i)) (by_form T v (grow f) (a i) (form_at i))

  top_in : (i : ℕ) → i < length nodes → st.top i < length nodes
  top_in i lt = st.tops.below i lt

  same_type : (i : ℕ) → i < length nodes → a i ≡ a (st.top i)
  same_type i lt = at_top nodes g st.top st.tops a (λ i j h e. subst (Shows T a (a i)) e (sol.fits i h).shows) (suc i) i (omega arith) lt

  inside : (i : ℕ) → i < length nodes → Each (λ c. c < length nodes) (parts_of T (form_at i))
  inside i lt = within_parts table (length nodes) (length entries) T (reads table (length nodes) entries T listed are) (form_at i) (st.top i) (g.within (st.top i) (top_in i lt)) (starts table (length entries) nodes (st.top i) g bound (top_in i lt))

  small : (i : ℕ) → i < length nodes → Each (λ c. size (a c) < size (a i)) (parts_of T (form_at i))
  small i lt = subst (λ t. Each (λ c. size (a c) < size t) (parts_of T (form_at i))) (sym (same_type i lt)) (small_parts T a (a (st.top i)) (form_at i) (g.fitting (st.top i) (top_in i lt)) (sol.fits (st.top i) (top_in i lt)).shows)

  else_agree : (i : ℕ) (x : Given (st.top i) ⊎ (Given (st.top i) → ⊥)) (t u w : Ty) → u ≡ w → given_else x t u ≡ given_else x t w
  else_agree i (inl p) t u w e = refl
  else_agree i (inr p) t u w e = e

  settles : (f i : ℕ) → i < length nodes → size (a i) ≤ f → grow f i ≡ grow (suc f) i
  unfolding grow
  settles zero i lt le = absurd (no_size (a i) le)
  settles (suc f) i lt le = else_agree i (given_or (st.top i)) (given (st.top i)) _ _ (form_agree T v (grow f) (grow (suc f)) (a i) (form_at i)
      (each_zip (λ c inn sm. settles f c inn (let q : size (a c) < size (a i) = sm in omega arith)) _ (inside i lt) (small i lt)))

  settled : (k i : ℕ) → i < length nodes → grow (size (a i)) i ≡ grow (size (a i) + k) i
  settled zero i lt = ap (λ f. grow f i) (let e : size (a i) ≡ size (a i) + 0 = omega arith in e)
  settled (suc k) i lt = settled k i lt ∙ settles (size (a i) + k) i lt (omega arith) ∙ ap (λ f. grow f i) (let e : suc (size (a i) + k) ≡ size (a i) + suc k = omega arith in e)

  pub other : Sub
  other i = grow (size (a i)) i

  settled_at : (f i : ℕ) → i < length nodes → size (a i) ≤ f → grow f i ≡ other i
  unfolding other
  settled_at f i lt le = ap (λ m. grow m i) (let e : f ≡ size (a i) + (f - size (a i)) = omega arith in e) ∙ sym (settled (f - size (a i)) i lt)

  other_is : (i : ℕ) → i < length nodes → other i ≡ given_else (given_or (st.top i)) (given (st.top i)) (by_form T v other (a i) (form_at i))
  unfolding other grow
  other_is i lt = settles (size (a i)) i lt (omega arith) ∙ else_agree i (given_or (st.top i)) (given (st.top i)) _ _ (form_agree T v (grow (size (a i))) other (a i) (form_at i)
      (each_zip (λ c inn sm. settled_at (size (a i)) c inn (let q : size (a c) < size (a i) = sm in omega arith)) _ (inside i lt) (small i lt)))

  else_given : (i : ℕ) (x : Given i ⊎ (Given i → ⊥)) (t u : Ty) → Given i → given_else x t u ≡ t
  else_given i (inl p) t u q = refl
  else_given i (inr p) t u q = absurd (p q)

  else_other : (i : ℕ) (x : Given i ⊎ (Given i → ⊥)) (t u : Ty) → (Given i → ⊥) → given_else x t u ≡ u
  else_other i (inl p) t u q = absurd (q p)
  else_other i (inr p) t u q = refl

  pub top_given : (i : ℕ) → i < length nodes → Given (st.top i) → other i ≡ given (st.top i)
  top_given i lt q = other_is i lt ∙ else_given (st.top i) (given_or (st.top i)) (given (st.top i)) _ q

  top_other : (i : ℕ) → i < length nodes → (Given (st.top i) → ⊥) → other i ≡ by_form T v other (a i) (form_at i)
  top_other i lt q = other_is i lt ∙ else_other (st.top i) (given_or (st.top i)) (given (st.top i)) _ q

  pub same_other : (i j : ℕ) → i < length nodes → j < length nodes → st.top i ≡ st.top j → other i ≡ other j
  same_other i j li lj e = other_is i li ∙ (λ z. given_else (given_or (e z)) (given (e z)) (by_form T v other (same z) (node_at nodes (e z)).form)) ∙ sym (other_is j lj)
    where
      same : a i ≡ a j
      same = same_type i li ∙ ap a e ∙ sym (same_type j lj)

  labels : (e : ℕ) → e < length entries → ((T.entry e).label < length table.positions) × ((T.entry e).next < length entries)
  labels e lt = let p = (reads table (length nodes) entries T listed are).entry e lt in (p.1, p.2)

  -- what stands at a root
  shown : (i : ℕ) → i < length nodes → (o : Form) → form_at i ≡ o → Shows T a (a i) o
  shown i lt o e = subst (λ t. Shows T a t o) (sym (same_type i lt)) (subst (Shows T a (a (st.top i))) e (sol.fits (st.top i) (top_in i lt)).shows)

  -- kinds
  rank_other : (f i : ℕ) → i < length nodes → size (a i) ≤ f → (k : ℕ) → k ≤ level (node_at nodes (st.top i)).kind → k ≤ rank K (other i)
  rank_other zero i lt le k h = absurd (no_size (a i) le)
  rank_other (suc f) i lt le k h = elim (given_or (st.top i)) as (λ y. k ≤ rank K (other i)) [
    | inl q ↦ subst (λ t. k ≤ rank K t) (sym (top_given i lt q)) (let w : level (node_at nodes (st.top i)).kind ≤ rank K (given (st.top i)) = gives (st.top i) (top_in i lt) q in omega arith)
    | inr q ↦ subst (λ t. k ≤ rank K t) (sym (top_other i lt q)) (go (form_at i) refl
        (each_three (λ c inn sm s. elim s as (λ y. k ≤ rank K (other c)) [ inl o ↦ rank_other f c inn (let q : size (a c) < size (a i) = sm in omega arith) k o | inr u ↦ absurd u ]) _ (inside i lt) (small i lt) (st.parts (st.top i) (AtLeast k) (top_in i lt) h)))
  ]
    where
      whole : k ≤ rank K (a i)
      whole = subst (λ t. k ≤ rank K t) (sym (same_type i lt)) (let q : level (node_at nodes (st.top i)).kind ≤ rank K (a (st.top i)) = (sol.fits (st.top i) (top_in i lt)).has in omega arith)

      capped : (hd : Head) (x n : ℕ) → form_at i ≡ form.Made hd x n → k ≤ cap hd
      capped hd x n e = let c : level (node_at nodes (st.top i)).kind ≤ cap hd = subst (λ o. level (node_at nodes (st.top i)).kind ≤ form_cap o) e (st.capped (st.top i) (top_in i lt)) in omega arith

      row_kind : (x n : ℕ) → Each (λ c. k ≤ rank K (other c)) (numbers x n) → k ≤ least K (row other x n)
      row_kind x n each = row_least K other x n k (let m : level (node_at nodes (st.top i)).kind ≤ 4 = level_most (node_at nodes (st.top i)).kind in omega arith) (λ p lp. at_number (λ c. k ≤ rank K (other c)) x n p each lp)

      made : (hd : Head) (x n : ℕ) → form_at i ≡ form.Made hd x n → Each (λ c. k ≤ rank K (other c)) (numbers x n) → k ≤ rank K (type_made v hd (row other x n))
      made (head.Rigid m r) x n e each = elim (heads (st.top i) m r x n (top_in i lt) e) as (λ y. k ≤ rank K (v m r)) [
        | inl w ↦ let c : k ≤ level r = capped (head.Rigid m r) x n e in omega arith
        | inr w ↦ subst (λ t. k ≤ rank K t) (shown i lt (form.Made (head.Rigid m r) x n) e ∙ sym w) whole
      ]
      made (head.Scalar s) x n e each = made_rank K (head.Scalar s) (row other x n) k (capped (head.Scalar s) x n e) (row_kind x n each)
      made head.Array x n e each = made_rank K head.Array (row other x n) k (capped head.Array x n e) (row_kind x n each)
      made head.Tuple x n e each = made_rank K head.Tuple (row other x n) k (capped head.Tuple x n e) (row_kind x n each)
      made (head.Record m) x n e each = made_rank K (head.Record m) (row other x n) k (capped (head.Record m) x n e) (row_kind x n each)
      made head.Fun x n e each = made_rank K head.Fun (row other x n) k (capped head.Fun x n e) (row_kind x n each)
      made (head.Abstract m b) x n e each = made_rank K (head.Abstract m b) (row other x n) k (capped (head.Abstract m b) x n e) (row_kind x n each)

      go : (o : Form) → form_at i ≡ o → Each (λ c. k ≤ rank K (other c)) (parts_of T o) → k ≤ rank K (by_form T v other (a i) o)
      go form.Free e each = whole
      go (form.Link j) e each = whole
      go (form.Made hd x n) e each = made hd x n e each
      go (form.Open s n) e each = chain_rank T.shapes T.entry K other (a i) k s n whole each

  -- what is fixed at the level keeps its type
  keeps_made : (hd : Head) (x n i : ℕ) → i < length nodes → (node_at nodes i).form ≡ form.Made hd x n → (node_at nodes i).level ≤ l → (ts : Tys) → type_made v hd ts ≡ type_made T.rigid hd ts
  keeps_made (head.Rigid m k) x n i lt e le ts = keeps i m k x n lt e le
  keeps_made (head.Scalar s) x n i lt e le ts = refl
  keeps_made head.Array x n i lt e le ts = refl
  keeps_made head.Tuple x n i lt e le ts = refl
  keeps_made (head.Record m) x n i lt e le ts = refl
  keeps_made head.Fun x n i lt e le ts = refl
  keeps_made (head.Abstract m d) x n i lt e le ts = refl

  low_at : (f i : ℕ) → i < length nodes → size (a i) ≤ f → (node_at nodes (st.top i)).level ≤ l → other i ≡ a i
  low_at zero i lt le h = absurd (no_size (a i) le)
  low_at (suc f) i lt le h = top_other i lt (λ q. deep (st.top i) q h) ∙ go (form_at i) refl
      (each_three (λ c inn sm s. elim s as (λ y. other c ≡ a c) [ inl o ↦ low_at f c inn (let q : size (a c) < size (a i) = sm in omega arith) o | inr u ↦ absurd u ]) _ (inside i lt) (small i lt) (st.parts (st.top i) (AtMost l) (top_in i lt) h))
    where
      go : (o : Form) → form_at i ≡ o → Each (λ c. other c ≡ a c) (parts_of T o) → by_form T v other (a i) o ≡ a i
      go form.Free e each = refl
      go (form.Link j) e each = refl
      go (form.Made hd x n) e each = ap (type_made v hd) (row_each other a x n each) ∙ keeps_made hd x n (st.top i) (top_in i lt) e h (row a x n) ∙ sym (shown i lt (form.Made hd x n) e)
      go (form.Open s n) e each = chain_same T.shapes T.entry a other (a i) s n (shown i lt (form.Open s n) e) each

  pub low_other : (i : ℕ) → i < length nodes → (node_at nodes (st.top i)).level ≤ l → other i ≡ a i
  low_other i lt h = low_at (size (a i)) i lt (omega arith) h

  -- forms
  pub root_given : (i : ℕ) → i < length nodes → IsRoot (node_at nodes i).form → Given i → other i ≡ given i
  root_given i lt r q = let t : st.top i ≡ i = st.tops.selves i lt r in top_given i lt (subst Given (sym t) q) ∙ ap given t

  pub root_other : (i : ℕ) → i < length nodes → (f : Form) → (node_at nodes i).form ≡ f → IsRoot f → (Given i → ⊥) → other i ≡ by_form T v other (a i) f
  root_other i lt f e r q = let t : st.top i ≡ i = st.tops.selves i lt (subst IsRoot (sym e) r) in
      top_other i lt (λ p. q (subst Given t p)) ∙ ap (by_form T v other (a i)) (ap (λ j. (node_at nodes j).form) t ∙ e)

  -- the types are a solution if those that are given have the forms of their roots
  module _ (met : (i : ℕ) → i < length nodes → Given i → Shows (read T v) other (given i) (node_at nodes i).form) where
    root_shows : (i : ℕ) → i < length nodes → (f : Form) → (node_at nodes i).form ≡ f → IsRoot f → ((Given i → ⊥) → Shows (read T v) other (other i) f) → Shows (read T v) other (other i) f
    root_shows i lt f e r anew = elim (given_or i) as (λ y. Shows (read T v) other (other i) f) [
      | inl q ↦ subst (λ t. Shows (read T v) other t f) (sym (root_given i lt (subst IsRoot (sym e) r) q)) (subst (Shows (read T v) other (given i)) e (met i lt q))
      | inr q ↦ anew q
    ]

    shows_other : (i : ℕ) → i < length nodes → (f : Form) → (node_at nodes i).form ≡ f → Shows (read T v) other (other i) f
    shows_other i lt form.Free e = tt
    shows_other i lt (form.Link j) e = same_other i j lt (let w : j < i = subst (Within (length nodes) i) e (g.within i lt) in omega arith) (st.tops.links i j lt e)
    shows_other i lt (form.Made hd x n) e = root_shows i lt (form.Made hd x n) e tt (λ q. root_other i lt (form.Made hd x n) e tt q)
    shows_other i lt (form.Open s n) e = root_shows i lt (form.Open s n) e tt (λ q. subst (λ t. Names T other t s n) (sym (root_other i lt (form.Open s n) e tt q))
        (chain_names T.shapes (length table.positions) apart T.entry (length entries) labels a other (a i) s n (subst (Bound table (length entries)) e (bound.forms i lt)).0 (subst (Once T) e (st.once i lt)) (subst (Shows T a (a i)) e (sol.fits i lt).shows)))

    has_other : (i : ℕ) → i < length nodes → level (node_at nodes i).kind ≤ rank K (other i)
    has_other i lt = go (node_at nodes i).form refl
      where
        root : IsRoot (node_at nodes i).form → level (node_at nodes i).kind ≤ rank K (other i)
        root r = rank_other (size (a i)) i lt (omega arith) (level (node_at nodes i).kind) (subst (λ j. level (node_at nodes i).kind ≤ level (node_at nodes j).kind) (sym (st.tops.selves i lt r)) (omega arith))

        go : (o : Form) → (node_at nodes i).form ≡ o → level (node_at nodes i).kind ≤ rank K (other i)
        go form.Free e = root (subst IsRoot (sym e) tt)
        go (form.Open y n) e = root (subst IsRoot (sym e) tt)
        go (form.Link j) e = let z : level (node_at nodes i).kind ≡ 0 = st.bare i j lt e in omega arith
        go (form.Made hd x n) e = root (subst IsRoot (sym e) tt)

    pub regrown_solves : Solves (read T v) K other nodes
    regrown_solves = record { fits = λ i lt. record { shows = shows_other i lt (node_at nodes i).form refl; has = has_other i lt } }
