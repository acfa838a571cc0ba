-- What the instances of a scheme are.
use Rattle.std.proofs.Common.{◌≡◌, ◌≢◌, ℕ, zero, suc, ◌+◌, ◌≤◌, ◌<◌, List, [], ◌∷◌, length, slice_index_or, refl, sym, ◌∙◌, ap, subst, arith}
use Rattle.std.specs.List.{Contains}
use mathlib.Core.Logic.{◌⊎◌, inl, inr}
use Rattle.fut_types.specs.declared.Kind.{Kind}
use Rattle.fut_types.specs.declared.Head.{Head}
use Rattle.fut_types.specs.declared.Head.TheVariants as head
use Rattle.fut_types.specs.declared.shapes.ShapeTable.{ShapeTable}
use Rattle.fut_types.specs.Types.{Ty, Made, Tys, Sub, Kinds, level, cap, rank, row}
use Rattle.fut_types.specs.Shapes.{HasPart}
use Rattle.fut_types.proofs.TyLaws.{row_same}
use Rattle.type_graph.specs.declared.Form.{Form}
use Rattle.type_graph.specs.declared.Form.TheVariants as form
use Rattle.type_graph.specs.declared.Entry.{Entry}
use Rattle.type_graph.specs.Graph.{node_at, entry_at, Each, Reading, Tables, read, type_made, Listed, children, chained, Names, All_named, Shows, Solves, Within, IsGraph, IsBound, AreEntries, IsRoot, IsMaker, IsParameter}
use Rattle.type_graph.specs.State.{State, form_cap}
use Rattle.type_graph.specs.Rereading.{Apart}
use Rattle.type_graph.proofs.Resolution.{at_top}
use Rattle.type_schemes.specs.declared.PartForm.{PartForm}
use Rattle.type_schemes.specs.declared.PartForm.TheVariants as part
use Rattle.type_schemes.specs.declared.Part.{Part}
use Rattle.type_schemes.specs.Schemes.{part_at, Definition, Solid, Copied, IsForeign, copy_kind, form_kind, head_kind, IsNew, Alike, HasRow, chain, child_at, label_at, next_to, no_label, IsLeaf, PartOk, Copies, PartShows, PartFits, Instance, ReadsElse, Of_kinds, Variant, Exact, Law}
use Rattle.type_schemes.proofs.Regrown.{same_or, lt_or, other, low_other, same_other, root_given, root_other, regrown_solves}

-- what can be told
solid_or : (f : PartForm) → Solid f ⊎ (Solid f → ⊥)
solid_or part.Free = inl tt
solid_or (part.Shared j) = inr (λ s. s)
solid_or (part.Again m) = inr (λ s. s)
solid_or (part.Made h x n) = inl tt
solid_or (part.Open x n) = inl tt

pub copied_or : (store : List Part) (first end place source : ℕ) → Copied store first end place source ⊎ (Copied store first end place source → ⊥)
copied_or store first end place source =
    elim (lt_or place first) as (λ x. Copied store first end place source ⊎ (Copied store first end place source → ⊥)) [
      | inl lt ↦ inr (λ c. let p : first ≤ place = c.from in omega arith)
      | inr from ↦ elim (lt_or place end) as (λ x. Copied store first end place source ⊎ (Copied store first end place source → ⊥)) [
        | inr le ↦ inr (λ c. let p : place < end = c.to in omega arith)
        | inl to ↦ elim (same_or (part_at store place).source source) as (λ x. Copied store first end place source ⊎ (Copied store first end place source → ⊥)) [
          | inr ne ↦ inr (λ c. ne c.is)
          | inl is ↦ elim (solid_or (part_at store place).form) as (λ x. Copied store first end place source ⊎ (Copied store first end place source → ⊥)) [
            | inl s ↦ inl (record { from = from; to = to; is = is; solid = s })
            | inr n ↦ inr (λ c. n c.solid)
          ]
        ]
      ]
    ]

pub contains_or : (xs : List ℕ) (n : ℕ) → Contains xs n ⊎ (Contains xs n → ⊥)
contains_or [] n = inr (λ c. let lt : c.0 < 0 = c.1 in omega arith)
contains_or (x ∷ xs) n = elim (same_or x n) as (λ d. Contains (x ∷ xs) n ⊎ (Contains (x ∷ xs) n → ⊥)) [
  | inl e ↦ inl (0, omega arith, e)
  | inr ne ↦ elim (contains_or xs n) as (λ d. Contains (x ∷ xs) n ⊎ (Contains (x ∷ xs) n → ⊥)) [
    | inl c ↦ inl (suc c.0, (let lt : c.0 < length xs = c.1 in omega arith), c.2)
    | inr never ↦ inr (λ c. tail c.0 ne never c.1 c.2)
  ]
]
  where
    tail : (k : ℕ) → x ≢ n → (Contains xs n → ⊥) → k < length (x ∷ xs) → slice_index_or (x ∷ xs) k n ≡ n → ⊥
    tail zero ne never lt e = ne e
    tail (suc k) ne never lt e = never (k, omega arith, e)

-- heads and forms
pub built_made : (r : Reading) (h : Head) (ts : Tys) → IsMaker h → type_made r h ts ≡ Made h ts
built_made r (head.Rigid n k) ts b = absurd b
built_made r (head.Scalar s) ts b = refl
built_made r head.Array ts b = refl
built_made r head.Tuple ts b = refl
built_made r (head.Record n) ts b = refl
built_made r head.Fun ts b = refl
built_made r (head.Abstract n d) ts b = refl

built_kind : (k : Kind) (h : Head) → IsMaker h → head_kind k h ≡ k
built_kind k (head.Rigid n r) b = absurd b
built_kind k (head.Scalar s) b = refl
built_kind k head.Array b = refl
built_kind k head.Tuple b = refl
built_kind k (head.Record n) b = refl
built_kind k head.Fun b = refl
built_kind k (head.Abstract n d) b = refl

-- a copy's kind is no lower than the one that is noted
head_more : (k : Kind) (h : Head) → level k ≤ cap h → level k ≤ level (head_kind k h)
head_more k (head.Rigid n r) c = c
head_more k (head.Scalar s) c = omega arith
head_more k head.Array c = omega arith
head_more k head.Tuple c = omega arith
head_more k (head.Record n) c = omega arith
head_more k head.Fun c = omega arith
head_more k (head.Abstract n d) c = omega arith

form_more : (k : Kind) (f : Form) → level k ≤ form_cap f → level k ≤ level (form_kind k f)
form_more k form.Free c = omega arith
form_more k (form.Link j) c = omega arith
form_more k (form.Made h x n) c = head_more k h c
form_more k (form.Open e n) c = omega arith

-- chains, from the front
chain_front : (entries : List Entry) (e i : ℕ) → chain entries (entry_at entries e).next i ≡ chain entries e (suc i)
unfolding chain
chain_front entries e zero = refl
chain_front entries e (suc i) = ap (λ j. (entry_at entries j).next) (chain_front entries e i)

chain_start : (entries : List Entry) (e : ℕ) → chain entries e 0 ≡ e
unfolding chain
chain_start entries e = refl

chain_more : (entries : List Entry) (e i : ℕ) → chain entries e (suc i) ≡ (entry_at entries (chain entries e i)).next
unfolding chain
chain_more entries e i = refl

module _ (T : Tables) (entries : List Entry) (listed : Listed entries T) (closed : (e : ℕ) → e < length entries → (entry_at entries e).next < length entries) where
  child_here : (P : ℕ → Type 0) (e n i : ℕ) → e < length entries → Each P (children T e n) → i < n → P (child_at entries e i)
  unfolding chained
  child_here P e zero i he p lt = absurd (omega arith)
  child_here P e (suc n) zero he p lt = subst (λ j. P (entry_at entries j).child) (sym (chain_start entries e)) (subst (λ (y : Entry). P y.child) (listed e he) p.0)
  child_here P e (suc n) (suc i) he p lt = subst (λ j. P (entry_at entries j).child) (chain_front entries e i)
      (child_here P (entry_at entries e).next n i (closed e he) (subst (λ (y : Entry). Each P (children T y.next n)) (listed e he) p.1) (omega arith))

  names_here : (a : Sub) (t : Ty) (e n i : ℕ) → e < length entries → Names T a t e n → i < n → HasPart T.shapes (label_at entries e i) t (a (child_at entries e i))
  unfolding All_named
  names_here a t e zero i he p lt = absurd (omega arith)
  names_here a t e (suc n) zero he p lt = subst (λ j. HasPart T.shapes (entry_at entries j).label t (a (entry_at entries j).child)) (sym (chain_start entries e)) (subst (λ (y : Entry). HasPart T.shapes y.label t (a y.child)) (listed e he) p.0)
  names_here a t e (suc n) (suc i) he p lt = subst (λ j. HasPart T.shapes (entry_at entries j).label t (a (entry_at entries j).child)) (chain_front entries e i)
      (names_here a t (entry_at entries e).next n i (closed e he) (subst (λ (y : Entry). Names T a t y.next n) (listed e he) p.1) (omega arith))

  names_all : (a : Sub) (t : Ty) (e n : ℕ) → e < length entries → ((i : ℕ) → i < n → HasPart T.shapes (label_at entries e i) t (a (child_at entries e i))) → Names T a t e n
  unfolding All_named
  names_all a t e zero he h = tt
  names_all a t e (suc n) he h = (
    subst (λ (y : Entry). HasPart T.shapes y.label t (a y.child)) (sym (listed e he)) (subst (λ j. HasPart T.shapes (entry_at entries j).label t (a (entry_at entries j).child)) (chain_start entries e) (h 0 (omega arith))),
    subst (λ (y : Entry). Names T a t y.next n) (sym (listed e he)) (names_all a t (entry_at entries e).next n (closed e he) (λ i lt. subst (λ j. HasPart T.shapes (entry_at entries j).label t (a (entry_at entries j).child)) (sym (chain_front entries e i)) (h (suc i) (omega arith)))),
  )

module _ (table : ShapeTable) (T : Tables) (home : ℕ → ℕ) (base : ℕ) (d : Definition) (store : List Part) (first count root : ℕ) (g : IsGraph d.nodes) (bd : IsBound table (length d.entries) d.nodes) (ae : AreEntries table (length d.nodes) d.entries)
    (listed : Listed d.entries T) (apart : Apart T.shapes (length table.positions)) (bl : base ≤ length d.nodes) (lr : root < length d.nodes) (st : State T home base d.nodes []) (c : Copies d store first count root) where
  closed : (e : ℕ) → e < length d.entries → (entry_at d.entries e).next < length d.entries
  closed e he = (ae.within e he).2

  -- nodes of one root have one type
  up : (T' : Tables) (K : Kinds) (a : Sub) → Solves T' K a d.nodes → (i : ℕ) → i < length d.nodes → a i ≡ a (st.top i)
  up T' K a s i li = at_top d.nodes g st.top st.tops a (λ i j lt e. subst (Shows T' a (a i)) e (s.fits i lt).shows) (suc i) i (omega arith) li

  same_by : (T' : Tables) (K : Kinds) (a : Sub) → Solves T' K a d.nodes → (i j : ℕ) → i < length d.nodes → j < length d.nodes → Alike d.nodes i j → a i ≡ a j
  same_by T' K a s i j li lj al = up T' K a s i li ∙ ap a (al st.top st.tops) ∙ sym (up T' K a s j lj)

  row_at : (i : ℕ) (h : Head) (x n y : ℕ) → i < length d.nodes → (node_at d.nodes i).form ≡ form.Made h x n → y < n → x + y < length d.nodes
  row_at i h x n y li e ly = let w : x + n ≤ length d.nodes = subst (λ f. Within (length d.nodes) i f) e (g.within i li) in omega arith

  child_in : (e i : ℕ) → e < length d.entries → child_at d.entries e i < length d.nodes
  child_in e i he = (ae.within (chain d.entries e i) (go i)).0
    where
      go : (i : ℕ) → chain d.entries e i < length d.entries
      go zero = subst (λ j. j < length d.entries) (sym (chain_start d.entries e)) he
      go (suc i) = subst (λ j. j < length d.entries) (sym (chain_more d.entries e i)) (closed (chain d.entries e i) (go i))

  -- a part that is new, and of what kind
  new_of : (k : ℕ) (p : Part) (f : PartForm) → Solid f → PartOk d store first (first + count) c.memo (first + count) k p f → IsNew d c.memo k p
  new_of k p part.Free so ok = ok.0
  new_of k p (part.Shared j) so ok = absurd so
  new_of k p (part.Again m) so ok = absurd so
  new_of k p (part.Made h x n) so ok = ok.0
  new_of k p (part.Open x n) so ok = ok.0

  copied_new : (v : ℕ) (q : Copied store first (first + count) (c.memo v) v) → IsNew d c.memo (c.memo v) (part_at store (c.memo v))
  copied_new v q = new_of (c.memo v) (part_at store (c.memo v)) (part_at store (c.memo v)).form q.solid (c.parts.each (c.memo v) q.from q.to)

  kind_as : (k : ℕ) (p : Part) → IsNew d c.memo k p → (f : Form) → (node_at d.nodes p.source).form ≡ f → p.kind ≡ form_kind (node_at d.nodes p.source).kind f
  kind_as k p new f e = new.kind ∙ ap (form_kind (node_at d.nodes p.source).kind) e

  -- an instance for a type that the graph allows
  module _ (r : Reading) (alike : ReadsElse d.own T.rigid r) (K : Kinds) (rd : Of_kinds d.own K r) (full a : Sub) (sf : Solves T K full d.nodes) (s : Solves (read T r) K a d.nodes) (same : (j : ℕ) → j < length d.nodes → IsRoot (node_at d.nodes j).form → (node_at d.nodes j).level ≤ d.depth → a j ≡ full j) where
    abbrev ps : Sub
    ps i = a (part_at store i).source

    row_types : (n : ℕ) (f : Sub) (x : ℕ) (number label : ℕ → ℕ) → HasRow d.nodes store first (first + count) x n number label → ((i : ℕ) → i < n → number i < length d.nodes) → (i : ℕ) → i < n → ps (x + i) ≡ a (number i)
    row_types n f x number label has inn i il = let fx : first ≤ x = has.from in let xt : x + n ≤ first + count = has.to in
        same_by (read T r) K a s (part_at store (x + i)).source (number i) (c.parts.within (x + i) (omega arith) (omega arith)) (inn i il) (has.alike i il)

    shared_type : (j : ℕ) → j < length d.nodes → IsRoot (node_at d.nodes j).form → ((node_at d.nodes j).level ≤ d.depth) ⊎ IsForeign d.own (node_at d.nodes j).form → a j ≡ full j
    shared_type j jl rt (inl le) = same j jl rt le
    shared_type j jl rt (inr o) = subst (Shows (read T r) a (a j)) o.is.3 (s.fits j jl).shows ∙ alike.others o.number o.is.0 o.other ∙ sym (subst (Shows T full (full j)) o.is.3 (sf.fits j jl).shows)

    fits_part : (k : ℕ) (p : Part) → p.source < length d.nodes → ((Solid p.form → ⊥) → level p.kind ≡ 0) → (f : PartForm) → p.form ≡ f → PartOk d store first (first + count) c.memo (first + count) k p f → k < first + count → PartFits T.shapes store K full ps (a p.source) p
    fits_part k p inn light f is ok kl = record { shows = subst (PartShows T.shapes store full ps (a p.source)) (sym is) (shows f ok); has = has f is ok }
      where
        shows : (f : PartForm) → PartOk d store first (first + count) c.memo (first + count) k p f → PartShows T.shapes store full ps (a p.source) f
        shows part.Free ok = tt
        shows (part.Shared j) ok = ap a ok.0 ∙ shared_type j (subst (λ i. i < length d.nodes) ok.0 inn) ok.2 ok.1
        shows (part.Again m) ok = ap a (sym ok.is)
        shows (part.Made h x n) ok = subst (Shows (read T r) a (a p.source)) ok.1.form (s.fits p.source inn).shows ∙ built_made r h (row a ok.1.row n) ok.1.built
            ∙ ap (Made h) (row_same a ps ok.1.row x n (λ i il. sym (row_types n a x (next_to ok.1.row) no_label ok.1.parts (λ y yl. row_at p.source h ok.1.row n y inn ok.1.form yl) i il)))
        shows (part.Open x n) ok = λ i il. subst (λ l. HasPart T.shapes l (a p.source) (ps (x + i))) (sym (ok.1.parts.labels i il))
            (subst (HasPart T.shapes (label_at d.entries ok.1.entry i) (a p.source)) (sym (row_types n a x (child_at d.entries ok.1.entry) (label_at d.entries ok.1.entry) ok.1.parts (λ y yl. child_in ok.1.entry y ok.1.within) i il))
            (names_here (read T r) d.entries listed closed a (a p.source) ok.1.entry n i ok.1.within (subst (Shows (read T r) a (a p.source)) ok.1.form (s.fits p.source inn).shows) il))

        noted_kind : p.kind ≡ (node_at d.nodes p.source).kind → level p.kind ≤ rank K (a p.source)
        noted_kind q = subst (λ (u : Kind). level u ≤ rank K (a p.source)) (sym q) (s.fits p.source inn).has

        leaf_kind : IsNew d c.memo k p → IsLeaf (node_at d.nodes p.source).form → level p.kind ≤ rank K (a p.source)
        leaf_kind new (inl e) = noted_kind (kind_as k p new form.Free e)
        leaf_kind new (inr q) = subst (λ (u : Kind). level u ≤ rank K (a p.source)) (sym (kind_as k p new (form.Made (head.Rigid q.0 q.1.0) q.1.1 q.1.2) q.1.3))
            (subst (λ t. level q.1.0 ≤ rank K t) (sym (subst (Shows (read T r) a (a p.source)) q.1.3 (s.fits p.source inn).shows)) (rd q.0 q.1.0 (new.ours q.0 q.1)))

        has : (f : PartForm) → p.form ≡ f → PartOk d store first (first + count) c.memo (first + count) k p f → level p.kind ≤ rank K (a p.source)
        has part.Free e ok = leaf_kind ok.0 (ok.1 kl)
        has (part.Shared j) e ok = let z : level p.kind ≡ 0 = light (λ s. subst Solid e s) in omega arith
        has (part.Again m) e ok = let z : level p.kind ≡ 0 = light (λ s. subst Solid e s) in omega arith
        has (part.Made h x n) e ok = noted_kind (kind_as k p ok.0 (form.Made h ok.1.row n) ok.1.form ∙ built_kind (node_at d.nodes p.source).kind h ok.1.built)
        has (part.Open x n) e ok = noted_kind (kind_as k p ok.0 (form.Open ok.1.entry n) ok.1.form)

    instance_of : Instance T.shapes store first count K full (a root)
    instance_of = record {
      parts = ps;
      fits = λ k p q. fits_part k (part_at store k) (c.parts.within k p q) (λ light. ap level (c.parts.light k p q light)) (part_at store k).form refl (c.parts.each k p q) q;
      is = sym (same_by (read T r) K a s (part_at store first).source root (c.parts.within first (omega arith) (let z : 0 < count = c.some in omega arith)) lr c.starts);
    }

  -- a variant for an instance
  module _ (K : Kinds) (full : Sub) (t : Ty) (rd : Of_kinds d.own K T.rigid) (s : Solves T K full d.nodes) (i : Instance T.shapes store first count K full t) where
    abbrev Given : ℕ → Type 0
    Given v = Copied store first (first + count) (c.memo v) v

    given_or : (v : ℕ) → Given v ⊎ (Given v → ⊥)
    given_or v = copied_or store first (first + count) (c.memo v) v

    -- nodes that are copied have the types of their copies
    abbrev given : Sub
    given v = i.parts (c.memo v)

    -- parameters whose node is copied stand for the types of the copies, if these are of their kinds
    abbrev seat : ℕ → ℕ
    seat n = st.top (T.seat n)

    read_as : (n : ℕ) (k : Kind) → Contains d.own n ⊎ (Contains d.own n → ⊥) → Given (seat n) ⊎ (Given (seat n) → ⊥) → (rank K (given (seat n)) < level k) ⊎ (level k ≤ rank K (given (seat n))) → Ty
    read_as n k (inr x) y z = T.rigid n k
    read_as n k (inl x) (inr y) z = T.rigid n k
    read_as n k (inl x) (inl y) (inl z) = T.rigid n k
    read_as n k (inl x) (inl y) (inr z) = given (seat n)

    r : Reading
    r n k = read_as n k (contains_or d.own n) (given_or (seat n)) (lt_or (rank K (given (seat n))) (level k))

    r_else : ReadsElse d.own T.rigid r
    unfolding r read_as
    r_else = record { others = λ n k never. go n k never (contains_or d.own n) (given_or (seat n)) (lt_or (rank K (given (seat n))) (level k)) }
      where
        go : (n : ℕ) (k : Kind) → (Contains d.own n → ⊥) → (x : Contains d.own n ⊎ (Contains d.own n → ⊥)) (y : Given (seat n) ⊎ (Given (seat n) → ⊥)) (z : (rank K (given (seat n)) < level k) ⊎ (level k ≤ rank K (given (seat n)))) → read_as n k x y z ≡ T.rigid n k
        go n k never (inr x) y z = refl
        go n k never (inl x) y z = absurd (never x)

    r_kinds : Of_kinds d.own K r
    unfolding r read_as
    r_kinds n k own = go (contains_or d.own n) (given_or (seat n)) (lt_or (rank K (given (seat n))) (level k))
      where
        go : (x : Contains d.own n ⊎ (Contains d.own n → ⊥)) (y : Given (seat n) ⊎ (Given (seat n) → ⊥)) (z : (rank K (given (seat n)) < level k) ⊎ (level k ≤ rank K (given (seat n)))) → level k ≤ rank K (read_as n k x y z)
        go (inr x) y z = rd n k own
        go (inl x) (inr y) z = rd n k own
        go (inl x) (inl y) (inl z) = rd n k own
        go (inl x) (inl y) (inr z) = z

    r_old : (n : ℕ) (k : Kind) → (Given (seat n) → ⊥) → r n k ≡ T.rigid n k
    unfolding r read_as
    r_old n k never = go (contains_or d.own n) (given_or (seat n)) (lt_or (rank K (given (seat n))) (level k))
      where
        go : (x : Contains d.own n ⊎ (Contains d.own n → ⊥)) (y : Given (seat n) ⊎ (Given (seat n) → ⊥)) (z : (rank K (given (seat n)) < level k) ⊎ (level k ≤ rank K (given (seat n)))) → read_as n k x y z ≡ T.rigid n k
        go (inr x) y z = refl
        go (inl x) (inr y) z = refl
        go (inl x) (inl y) z = absurd (never y)

    r_new : (n : ℕ) (k : Kind) → Contains d.own n → Given (seat n) → level k ≤ rank K (given (seat n)) → r n k ≡ given (seat n)
    unfolding r read_as
    r_new n k own gv le = go (contains_or d.own n) (given_or (seat n)) (lt_or (rank K (given (seat n))) (level k))
      where
        go : (x : Contains d.own n ⊎ (Contains d.own n → ⊥)) (y : Given (seat n) ⊎ (Given (seat n) → ⊥)) (z : (rank K (given (seat n)) < level k) ⊎ (level k ≤ rank K (given (seat n)))) → read_as n k x y z ≡ given (seat n)
        go (inr x) y z = absurd (x own)
        go (inl x) (inr y) z = absurd (y gv)
        go (inl x) (inl y) (inl z) = absurd (omega arith)
        go (inl x) (inl y) (inr z) = refl

    seat_is : (v n : ℕ) → v < length d.nodes → IsParameter n (node_at d.nodes v).form → v ≡ seat n
    seat_is v n lt p = sym (st.tops.selves v lt (subst IsRoot (sym p.3) tt)) ∙ (st.seated n v lt p).1

    -- what is of the depth or below is not copied
    not_low : (v : ℕ) → Given v → (node_at d.nodes v).level ≤ d.depth → ⊥
    not_low v q le = let n = copied_new v q in let dp : d.depth < (node_at d.nodes v).level = subst (λ j. d.depth < (node_at d.nodes j).level) q.is n.deep in omega arith

    keeps : (v n : ℕ) (k : Kind) (x m : ℕ) → v < length d.nodes → (node_at d.nodes v).form ≡ form.Made (head.Rigid n k) x m → (node_at d.nodes v).level ≤ d.depth → r n k ≡ T.rigid n k
    keeps v n k x m lt e le = r_old n k (subst (λ j. Given j → ⊥) (seat_is v n lt (k, x, m, e)) (λ q. not_low v q le))

    heads : (v n : ℕ) (k : Kind) (x m : ℕ) → v < length d.nodes → (node_at d.nodes v).form ≡ form.Made (head.Rigid n k) x m → (level k ≤ rank K (r n k)) ⊎ (r n k ≡ T.rigid n k)
    heads v n k x m lt e = elim (contains_or d.own n) as (λ y. (level k ≤ rank K (r n k)) ⊎ (r n k ≡ T.rigid n k)) [ inl own ↦ inl (r_kinds n k own) | inr never ↦ inr (r_else.others n k never) ]

    gives : (v : ℕ) → v < length d.nodes → Given v → level (node_at d.nodes v).kind ≤ rank K (given v)
    gives v vl q =
        let more : level (node_at d.nodes v).kind ≤ level (copy_kind (node_at d.nodes v)) = form_more (node_at d.nodes v).kind (node_at d.nodes v).form (st.capped v vl) in
        let f : level (copy_kind (node_at d.nodes v)) ≤ rank K (i.parts (c.memo v)) = subst (λ (u : Kind). level u ≤ rank K (i.parts (c.memo v))) ((copied_new v q).kind ∙ ap (λ j. copy_kind (node_at d.nodes j)) q.is) (i.fits (c.memo v) q.from q.to).has in omega arith

    abbrev new_types : Sub
    new_types = other table d.entries T home base d.nodes g bd ae listed apart st K full s d.depth r heads keeps Given given_or given not_low gives

    new_low : (v : ℕ) → v < length d.nodes → (node_at d.nodes (st.top v)).level ≤ d.depth → new_types v ≡ full v
    new_low = low_other table d.entries T home base d.nodes g bd ae listed apart st K full s d.depth r heads keeps Given given_or given not_low gives

    new_given : (v : ℕ) → v < length d.nodes → IsRoot (node_at d.nodes v).form → Given v → new_types v ≡ given v
    new_given = root_given table d.entries T home base d.nodes g bd ae listed apart st K full s d.depth r heads keeps Given given_or given not_low gives

    same_new : (v w : ℕ) → v < length d.nodes → w < length d.nodes → Alike d.nodes v w → new_types v ≡ new_types w
    same_new v w vl wl al = same_other table d.entries T home base d.nodes g bd ae listed apart st K full s d.depth r heads keeps Given given_or given not_low gives v w vl wl (al st.top st.tops)

    -- a parameter of another definition has the type that it had
    new_foreign : (j : ℕ) → j < length d.nodes → IsForeign d.own (node_at d.nodes j).form → new_types j ≡ full j
    new_foreign j jl o = root_other table d.entries T home base d.nodes g bd ae listed apart st K full s d.depth r heads keeps Given given_or given not_low gives j jl (form.Made (head.Rigid o.number o.is.0) o.is.1 o.is.2) o.is.3 tt
        (λ q. o.other ((copied_new j q).ours o.number (subst (λ y. IsParameter o.number (node_at d.nodes y).form) (sym q.is) o.is)))
        ∙ r_else.others o.number o.is.0 o.other ∙ sym (subst (Shows T full (full j)) o.is.3 (s.fits j jl).shows)

    -- each part has the type of its source
    abbrev Same_part : ℕ → Type 0
    Same_part k = i.parts k ≡ new_types (part_at store k).source

    given_source : (k : ℕ) (f : PartForm) → (part_at store k).form ≡ f → Solid f → first ≤ k → k < first + count → PartOk d store first (first + count) c.memo (first + count) k (part_at store k) f → Given (part_at store k).source
    given_source k f e so p q ok = subst (λ m. Copied store first (first + count) m (part_at store k).source) (sym (new_of k (part_at store k) f so ok).place) (record { from = p; to = q; is = refl; solid = subst Solid (sym e) so })

    solid_part : (k : ℕ) (f : PartForm) → (part_at store k).form ≡ f → Solid f → first ≤ k → k < first + count → PartOk d store first (first + count) c.memo (first + count) k (part_at store k) f → Same_part k
    solid_part k f e so p q ok = let n = new_of k (part_at store k) f so ok in sym (new_given (part_at store k).source (c.parts.within k p q) n.root (given_source k f e so p q ok) ∙ ap i.parts n.place)

    any_part : (k : ℕ) (f : PartForm) → (part_at store k).form ≡ f → first ≤ k → k < first + count → PartOk d store first (first + count) c.memo (first + count) k (part_at store k) f → Same_part k
    any_part k part.Free e p q ok = solid_part k part.Free e tt p q ok
    any_part k (part.Made h x n) e p q ok = solid_part k (part.Made h x n) e tt p q ok
    any_part k (part.Open x n) e p q ok = solid_part k (part.Open x n) e tt p q ok
    any_part k (part.Shared j) e p q ok =
        let jl : j < length d.nodes = subst (λ y. y < length d.nodes) ok.0 (c.parts.within k p q) in
        subst (PartShows T.shapes store full i.parts (i.parts k)) e (i.fits k p q).shows ∙ sym (ap new_types ok.0 ∙ elim ok.1 as (λ y. new_types j ≡ full j) [
          | inl lo ↦ new_low j jl (subst (λ y. (node_at d.nodes y).level ≤ d.depth) (sym (st.tops.selves j jl ok.2)) lo)
          | inr o ↦ new_foreign j jl o
        ])
    any_part k (part.Again m) e p q ok = subst (PartShows T.shapes store full i.parts (i.parts k)) e (i.fits k p q).shows
        ∙ solid_part m (part_at store m).form refl ok.solid ok.from (let mk : m < k = ok.to in omega arith) (c.parts.each m ok.from (let mk : m < k = ok.to in omega arith)) ∙ ap new_types ok.is

    each_part : (k : ℕ) → first ≤ k → k < first + count → Same_part k
    each_part k p q = any_part k (part_at store k).form refl p q (c.parts.each k p q)

    -- the parts in a row have the types of the nodes that they stand for
    new_row : (x n : ℕ) (number label : ℕ → ℕ) → HasRow d.nodes store first (first + count) x n number label → ((y : ℕ) → y < n → number y < length d.nodes) → (y : ℕ) → y < n → i.parts (x + y) ≡ new_types (number y)
    new_row x n number label has inn y yl = let fx : first ≤ x = has.from in let xt : x + n ≤ first + count = has.to in
        each_part (x + y) (omega arith) (omega arith) ∙ same_new (part_at store (x + y)).source (number y) (c.parts.within (x + y) (omega arith) (omega arith)) (inn y yl) (has.alike y yl)

    -- a copied node's type has the node's form
    met_part : (k : ℕ) (f : PartForm) → (part_at store k).form ≡ f → Solid f → first ≤ k → k < first + count → PartOk d store first (first + count) c.memo (first + count) k (part_at store k) f → Shows (read T r) new_types (i.parts k) (node_at d.nodes (part_at store k).source).form
    met_part k part.Free e so p q ok = elim (ok.1 q) as (λ y. Shows (read T r) new_types (i.parts k) (node_at d.nodes (part_at store k).source).form) [
      | inl z ↦ subst (Shows (read T r) new_types (i.parts k)) (sym z) tt
      | inr z ↦
          let seated : (part_at store k).source ≡ seat z.0 = seat_is (part_at store k).source z.0 (c.parts.within k p q) z.1 in
          let at : c.memo (seat z.0) ≡ k = ap c.memo (sym seated) ∙ ok.0.place in
          let ks : level z.1.0 ≤ rank K (given (seat z.0)) = subst (λ j. level z.1.0 ≤ rank K (i.parts j)) (sym at) (subst (λ (u : Kind). level u ≤ rank K (i.parts k)) (kind_as k (part_at store k) ok.0 (form.Made (head.Rigid z.0 z.1.0) z.1.1 z.1.2) z.1.3) (i.fits k p q).has) in
          subst (Shows (read T r) new_types (i.parts k)) (sym z.1.3) (sym (r_new z.0 z.1.0 (ok.0.ours z.0 z.1) (subst Given seated (given_source k part.Free e tt p q ok)) ks ∙ ap i.parts at))
    ]
    met_part k (part.Shared j) e so p q ok = absurd so
    met_part k (part.Again m) e so p q ok = absurd so
    met_part k (part.Made h x n) e so p q ok = subst (Shows (read T r) new_types (i.parts k)) (sym ok.1.form)
        (subst (PartShows T.shapes store full i.parts (i.parts k)) e (i.fits k p q).shows ∙ ap (Made h) (row_same i.parts new_types x ok.1.row n (new_row x n (next_to ok.1.row) no_label ok.1.parts (λ y yl. row_at (part_at store k).source h ok.1.row n y (c.parts.within k p q) ok.1.form yl)))
        ∙ sym (built_made r h (row new_types ok.1.row n) ok.1.built))
    met_part k (part.Open x n) e so p q ok = subst (Shows (read T r) new_types (i.parts k)) (sym ok.1.form)
        (names_all T d.entries listed closed new_types (i.parts k) ok.1.entry n ok.1.within (λ y yl.
        subst (λ l. HasPart T.shapes l (i.parts k) (new_types (child_at d.entries ok.1.entry y))) (ok.1.parts.labels y yl)
        (subst (HasPart T.shapes (part_at store (x + y)).label (i.parts k)) (new_row x n (child_at d.entries ok.1.entry) (label_at d.entries ok.1.entry) ok.1.parts (λ j jl. child_in ok.1.entry j ok.1.within) y yl)
        (subst (PartShows T.shapes store full i.parts (i.parts k)) e (i.fits k p q).shows y yl))))

    new_solves : Solves (read T r) K new_types d.nodes
    new_solves = regrown_solves table d.entries T home base d.nodes g bd ae listed apart st K full s d.depth r heads keeps Given given_or given not_low gives
        (λ v lt q. subst (λ j. Shows (read T r) new_types (given v) (node_at d.nodes j).form) q.is (met_part (c.memo v) (part_at store (c.memo v)).form refl q.solid q.from q.to (c.parts.each (c.memo v) q.from q.to)))

    variant : Variant T d root K full t
    variant = record {
      reading = r;
      alike = r_else;
      kinds = r_kinds;
      other = new_types;
      solves = new_solves;
      is = i.is ∙ each_part first (omega arith) (let z : 0 < count = c.some in omega arith) ∙ same_new (part_at store first).source root (c.parts.within first (omega arith) (let z : 0 < count = c.some in omega arith)) lr c.starts;
      low = λ j jl rt le. new_low j jl (subst (λ y. (node_at d.nodes y).level ≤ d.depth) (sym (st.tops.selves j jl rt)) le);
    }

  -- a program's node has a root of no higher level than its home
  home_kept : (K : Kinds) (full : Sub) (t : Ty) → Solves T K full d.nodes → (v : Variant T d root K full t) → (m : ℕ) → m < base → home m ≤ d.depth → v.other m ≡ full m
  home_kept K full t s v m lt le =
      let ml : m < length d.nodes = omega arith in
      up (read T v.reading) K v.other v.solves m ml ∙ v.low (st.top m) (st.tops.below m ml) (st.tops.roots m ml) (elim (st.homes m lt) as (λ x. (node_at d.nodes (st.top m)).level ≤ d.depth) [ inl h ↦ (let q : (node_at d.nodes (st.top m)).level ≤ home m = h in omega arith) | inr w ↦ absurd w ]) ∙ sym (up T K full s m ml)

  pub exact : Exact T home base d store first count root
  exact = record {
    to = λ K full t s v. subst (Instance T.shapes store first count K full) (sym v.is) (instance_of v.reading v.alike K v.kinds full v.other s v.solves v.low);
    from = variant;
    homes = home_kept;
  }

pub law : Law
law table T home base d store first count root g bd ae listed apart bl lr st c = exact table T home base d store first count root g bd ae listed apart bl lr st c
