-- The parts of a scheme, one by one.
use Rattle.std.proofs.Common.{◌≡◌, ◌≢◌, ℕ, zero, suc, ◌+◌, ◌≤◌, ◌<◌, List, [], ◌∷◌, ◌++◌, length, refl, sym, ◌∙◌, ap, subst, arith}
use mathlib.Core.Logic.{◌⊎◌, inl, inr}
use native.Mathlib.Decide.{ℕ_discrete}
use Rattle.std.proofs.Math.ListN.{length-set}
use Rattle.std.proofs.lemmas.List.{get_or-set_same, get_or-set_other}
use Rattle.fut_types.specs.declared.Kind.{Kind}
use Rattle.fut_types.specs.declared.Kind.TheVariants as kind
use Rattle.fut_types.specs.declared.Head.{Head}
use Rattle.fut_types.specs.declared.Head.TheVariants as head
use Rattle.type_graph.specs.declared.Form.{Form}
use Rattle.type_graph.specs.declared.Form.TheVariants as form
use Rattle.type_graph.specs.declared.Node.{Node}
use Rattle.type_graph.specs.declared.Entry.{Entry}
use Rattle.fut_types.specs.declared.shapes.ShapeTable.{ShapeTable}
use Rattle.type_graph.specs.Graph.{node_at, entry_at, IsRoot, IsGraph, IsBound, Within, Bound, Found}
use Rattle.type_schemes.specs.declared.PartForm.{PartForm}
use Rattle.type_schemes.specs.declared.PartForm.TheVariants as part
use Rattle.type_schemes.specs.declared.Part.{Part}
use Rattle.type_schemes.specs.Schemes.{free_part, part_at, with_part, memo_at, with_memo, Definition, FormWithin, Solid, Copied, IsForeign, IsOurs, copy_kind, IsNew, Alike, chain, HasRow, PartOk, Partial, Entered, Extends, Opened, Filled, Copies, child_at, label_at, child_count, child_number, child_label, head_count, head_copy, form_copy, next_to, no_label}

pub part_old : (store : List Part) (x : Part) (i : ℕ) → i < length store → part_at (store ++ x ∷ []) i ≡ part_at store i
unfolding part_at
part_old [] x i h = absurd (omega arith)
part_old (y ∷ ys) x zero h = refl
part_old (y ∷ ys) x (suc i) h = part_old ys x i (omega arith)

pub part_new : (store : List Part) (x : Part) → part_at (store ++ x ∷ []) (length store) ≡ x
unfolding part_at
part_new [] x = refl
part_new (y ∷ ys) x = part_new ys x

pub long_new : (store : List Part) (x : Part) → length (store ++ x ∷ []) ≡ suc (length store)
long_new [] x = refl
long_new (y ∷ ys) x = ap suc (long_new ys x)

part_same : (store : List Part) (i : ℕ) (x : Part) → i < length store → part_at (with_part store i x) i ≡ x
unfolding part_at with_part
part_same store i x h = get_or-set_same store i x free_part h

part_other : (store : List Part) (i j : ℕ) (x : Part) → j ≢ i → part_at (with_part store i x) j ≡ part_at store j
unfolding part_at with_part
part_other store i j x h = get_or-set_other store i j x free_part h

pub long_with : (store : List Part) (i : ℕ) (x : Part) → length (with_part store i x) ≡ length store
unfolding with_part
long_with store i x = length-set store i x

memo_same : (memo : List ℕ) (i x : ℕ) → i < length memo → memo_at (with_memo memo i x) i ≡ x
unfolding memo_at with_memo
memo_same memo i x h = get_or-set_same memo i x 0 h

memo_other : (memo : List ℕ) (i j x : ℕ) → j ≢ i → memo_at (with_memo memo i x) j ≡ memo_at memo j
unfolding memo_at with_memo
memo_other memo i j x h = get_or-set_other memo i j x 0 h

pub memo_long : (memo : List ℕ) (i x : ℕ) → length (with_memo memo i x) ≡ length memo
unfolding with_memo
memo_long memo i x = length-set memo i x

-- what stays of a store's parts below its end where others come or get their children
pub record Stays (store store' : List Part) (end : ℕ) : Type 0 where
  pub sources : (j : ℕ) → j < end → (part_at store' j).source ≡ (part_at store j).source
  pub labels : (j : ℕ) → j < end → (part_at store' j).label ≡ (part_at store j).label
  pub solid : (j : ℕ) → j < end → Solid (part_at store j).form → Solid (part_at store' j).form

row_more : (nodes : List Node) (store store' : List Part) (first end end' x n : ℕ) (number label : ℕ → ℕ) → Stays store store' end → end ≤ end' → HasRow nodes store first end x n number label → HasRow nodes store' first end' x n number label
row_more nodes store store' first end end' x n number label s le r = record {
  from = r.from;
  to = let q : x + n ≤ end = r.to in omega arith;
  alike = λ i il top t. ap top (s.sources (x + i) (let q : x + n ≤ end = r.to in omega arith)) ∙ r.alike i il top t;
  labels = λ i il. s.labels (x + i) (let q : x + n ≤ end = r.to in omega arith) ∙ r.labels i il;
}

-- a part stays right when others come or get their children
pub ok_more : (d : Definition) (store store' : List Part) (first end end' : ℕ) (memo memo' : ℕ → ℕ) (at at' k : ℕ) (p : Part) → Stays store store' end → end ≤ end' → k < end → (k < at' → k < at)
    → (f : PartForm) → (Solid f → IsNew d memo k p → IsNew d memo' k p) → PartOk d store first end memo at k p f → PartOk d store' first end' memo' at' k p f
ok_more d store store' first end end' memo memo' at at' k p s le lt late part.Free new ok = (new tt ok.0, λ h. ok.1 (late h))
ok_more d store store' first end end' memo memo' at at' k p s le lt late (part.Shared j) new ok = ok
ok_more d store store' first end end' memo memo' at at' k p s le lt late (part.Again m) new ok =
    let h : m < end = let q : m < k = ok.to in omega arith in
    record { from = ok.from; to = ok.to; is = s.sources m h ∙ ok.is; solid = s.solid m h ok.solid }
ok_more d store store' first end end' memo memo' at at' k p s le lt late (part.Made h x n) new ok =
    (new tt ok.0, record { built = ok.1.built; row = ok.1.row; form = ok.1.form; parts = row_more d.nodes store store' first end end' x n (next_to ok.1.row) no_label s le ok.1.parts })
ok_more d store store' first end end' memo memo' at at' k p s le lt late (part.Open x n) new ok =
    (new tt ok.0, record { entry = ok.1.entry; within = ok.1.within; form = ok.1.form; parts = row_more d.nodes store store' first end end' x n (child_at d.entries ok.1.entry) (label_at d.entries ok.1.entry) s le ok.1.parts })

-- one part more
module _ (d : Definition) (store : List Part) (first : ℕ) (memo memo' : ℕ → ℕ) (one : Part) (store' : List Part) (is : store' ≡ store ++ one ∷ []) (fl : first ≤ length store) where
  long' : length store' ≡ suc (length store)
  long' = ap length is ∙ long_new store one

  old' : (j : ℕ) → j < length store → part_at store' j ≡ part_at store j
  old' j lt = ap (λ s. part_at s j) is ∙ part_old store one j lt

  new' : part_at store' (length store) ≡ one
  new' = ap (λ s. part_at s (length store)) is ∙ part_new store one

  stays' : Stays store store' (length store)
  stays' = record {
    sources = λ j jl. ap (λ (q : Part). q.source) (old' j jl);
    labels = λ j jl. ap (λ (q : Part). q.label) (old' j jl);
    solid = λ j jl s. subst (λ (q : Part). Solid q.form) (sym (old' j jl)) s;
  }

  pub keep_one : one.source < length d.nodes → ((Solid one.form → ⊥) → one.kind ≡ kind.Any)
      → ((at : ℕ) → at ≤ length store → Partial d store first (length store) memo at → PartOk d store' first (length store') memo' at (length store) one one.form)
      → ((k : ℕ) → first ≤ k → k < length store → Solid (part_at store k).form → IsNew d memo k (part_at store k) → IsNew d memo' k (part_at store k))
      → (at : ℕ) → at ≤ length store → Partial d store first (length store) memo at → Partial d store' first (length store') memo' at
  keep_one inn light ok new at le p = record {
    within = λ k f lt. at_last (λ k q. q.source < length d.nodes) k lt inn (λ h. p.within k f h);
    light = λ k f lt. at_last (λ k q. (Solid q.form → ⊥) → q.kind ≡ kind.Any) k lt light (λ h. p.light k f h);
    each = λ k f lt. at_last (λ k q. PartOk d store' first (length store') memo' at k q q.form) k lt (ok at le p)
        (λ h. ok_more d store store' first (length store) (length store') memo memo' at at k (part_at store k) stays' (let e : length store' ≡ suc (length store) = long' in omega arith) h (λ x. x) (part_at store k).form (new k f h) (p.each k f h));
  }
    where
      at_last : (P : ℕ → Part → Type 0) (k : ℕ) → k < length store' → P (length store) one → (k < length store → P k (part_at store k)) → P k (part_at store' k)
      at_last P k lt last old = elim (ℕ_discrete k (length store)) as (λ d. P k (part_at store' k)) [
        | yes e ↦ subst (λ j. P j (part_at store' j)) (sym e) (subst (P (length store)) (sym new') last)
        | no ne ↦ let e : length store' ≡ suc (length store) = long' in let h : k < length store = grind (arith, ne) in subst (P k) (sym (old' k h)) (old h)
      ]

-- the ends of `enter`
module _ (d : Definition) (store : List Part) (memo : List ℕ) (first label number root : ℕ) (nd : Node) (fl : first ≤ length store) (inm : root < length memo) (f : Found d.nodes number root) (en : nd ≡ node_at d.nodes root) (room : length store < 4294967294) where
  same_new : (k : ℕ) → first ≤ k → k < length store → Solid (part_at store k).form → IsNew d (memo_at memo) k (part_at store k) → IsNew d (memo_at memo) k (part_at store k)
  same_new k p q s n = n

  short_of : (store' : List Part) (one : Part) → store' ≡ store ++ one ∷ [] → length store' < 4294967295
  short_of store' one is = let e : length store' ≡ suc (length store) = ap length is ∙ long_new store one in omega arith

  end_shared : (store' : List Part) → store' ≡ store ++ record { kind = kind.Any; source = root; label = label; form = part.Shared root } ∷ [] → ((node_at d.nodes root).level ≤ d.depth) ⊎ IsForeign d.own (node_at d.nodes root).form → Entered d store memo first label number store' memo
  end_shared store' is why = record {
    one = record { kind = kind.Any; source = root; label = label; form = part.Shared root };
    is = is;
    short = short_of store' _ is;
    lasts = refl;
    alike = λ top t. t.selves root f.within f.is_root ∙ sym (f.tops top t);
    named = refl;
    keeps = keep_one d store first (memo_at memo) (memo_at memo) _ store' is fl f.within (λ s. refl) (λ at l p. (refl, why, f.is_root)) same_new;
  }

  pub end_low : (store' : List Part) → store' ≡ store ++ record { kind = kind.Any; source = root; label = label; form = part.Shared root } ∷ [] → nd.level ≤ d.depth → Entered d store memo first label number store' memo
  end_low store' is le = end_shared store' is (inl (subst (λ (n : Node). n.level ≤ d.depth) en le))

  pub end_foreign : (store' : List Part) → store' ≡ store ++ record { kind = kind.Any; source = root; label = label; form = part.Shared root } ∷ [] → IsForeign d.own nd.form → Entered d store memo first label number store' memo
  end_foreign store' is o = end_shared store' is (inr (subst (λ (n : Node). IsForeign d.own n.form) en o))

  pub end_again : (store' : List Part) (place : ℕ) → store' ≡ store ++ record { kind = kind.Any; source = root; label = label; form = part.Again place } ∷ [] → Copied store first (length store) place root → Entered d store memo first label number store' memo
  end_again store' place is c = record {
    one = record { kind = kind.Any; source = root; label = label; form = part.Again place };
    is = is;
    short = short_of store' _ is;
    lasts = refl;
    alike = λ top t. t.selves root f.within f.is_root ∙ sym (f.tops top t);
    named = refl;
    keeps = keep_one d store first (memo_at memo) (memo_at memo) _ store' is fl f.within (λ s. refl)
        (λ at l p. record { from = c.from; to = c.to; is = ap (λ (q : Part). q.source) (old' d store first (memo_at memo) (memo_at memo) _ store' is fl place c.to) ∙ c.is; solid = subst (λ (q : Part). Solid q.form) (sym (old' d store first (memo_at memo) (memo_at memo) _ store' is fl place c.to)) c.solid }) same_new;
  }

  pub end_new : (store' : List Part) (memo' : List ℕ) (k : Kind) → store' ≡ store ++ record { kind = k; source = root; label = label; form = part.Free } ∷ [] → memo' ≡ with_memo memo root (length store) → k ≡ copy_kind nd → d.depth < nd.level → IsOurs d.own nd.form
      → (Copied store first (length store) (memo_at memo root) root → ⊥) → Entered d store memo first label number store' memo'
  end_new store' memo' k is im ek deep ours never = record {
    one = record { kind = k; source = root; label = label; form = part.Free };
    is = is;
    short = short_of store' _ is;
    lasts = ap length im ∙ memo_long memo root (length store);
    alike = λ top t. t.selves root f.within f.is_root ∙ sym (f.tops top t);
    named = refl;
    keeps = keep_one d store first (memo_at memo) (memo_at memo') _ store' is fl f.within (λ s. absurd (s tt))
        (λ at l p. (record { root = f.is_root; kind = ek ∙ ap copy_kind en; deep = subst (λ (n : Node). d.depth < n.level) en deep; ours = subst (λ (n : Node). IsOurs d.own n.form) en ours; place = ap (λ m. memo_at m root) im ∙ memo_same memo root (length store) inm }, λ h. absurd (omega arith)))
        (λ j p q s n. record {
          root = n.root;
          kind = n.kind;
          deep = n.deep;
          ours = n.ours;
          place = elim (ℕ_discrete (part_at store j).source root) as (λ d. memo_at memo' (part_at store j).source ≡ j) [
            | yes e ↦ absurd (never (let z : memo_at memo root ≡ j = ap (memo_at memo) (sym e) ∙ n.place in subst (λ i. Copied store first (length store) i root) (sym z) (record { from = p; to = q; is = e; solid = s })))
            | no ne ↦ ap (λ m. memo_at m (part_at store j).source) im ∙ memo_other memo root (part_at store j).source (length store) ne ∙ n.place
          ];
        });
  }

-- rows
pub opened_none : (d : Definition) (store : List Part) (memo : List ℕ) (first : ℕ) (number label : ℕ → ℕ) → Opened d store memo first number label 0 store memo
opened_none d store memo first number label = record {
  extends = (omega arith, λ k lt. refl);
  long = omega arith;
  short = λ h. h;
  lasts = refl;
  alike = λ i lt. absurd (omega arith);
  labels = λ i lt. absurd (omega arith);
  keeps = λ at le p. p;
}

pub opened_more : (d : Definition) (store : List Part) (memo : List ℕ) (first : ℕ) (number label : ℕ → ℕ) (count : ℕ) (s1 : List Part) (m1 : List ℕ) (s2 : List Part) (m2 : List ℕ) → Opened d store memo first number label count s1 m1 → Entered d s1 m1 first (label count) (number count) s2 m2 → Opened d store memo first number label (count + 1) s2 m2
opened_more d store memo first number label count s1 m1 s2 m2 o e =
    let l2 : length s2 ≡ suc (length s1) = ap length e.is ∙ long_new s1 e.one in
    let old : (j : ℕ) → j < length s1 → part_at s2 j ≡ part_at s1 j = λ j lt. ap (λ s. part_at s j) e.is ∙ part_old s1 e.one j lt in
    let new : part_at s2 (length s1) ≡ e.one = ap (λ s. part_at s (length s1)) e.is ∙ part_new s1 e.one in
    let l1 : length s1 ≡ length store + count = o.long in
    let le : length store ≤ length s1 = o.extends.0 in record {
      extends = (omega arith, λ k lt. old k (omega arith) ∙ o.extends.1 k lt);
      long = omega arith;
      short = λ h. e.short;
      lasts = e.lasts ∙ o.lasts;
      alike = λ i lt. elim (ℕ_discrete i count) as (λ y. Alike d.nodes (part_at s2 (length store + i)).source (number i)) [
        | yes is ↦ λ top t. ap top (ap (λ (p : Part). p.source) (ap (part_at s2) (let z : length store + i ≡ length s1 = omega arith in z) ∙ new)) ∙ e.alike top t ∙ ap (λ j. top (number j)) (sym is)
        | no ne ↦ λ top t. let h : i < count = grind (arith, ne) in ap top (ap (λ (p : Part). p.source) (old (length store + i) (omega arith))) ∙ o.alike i h top t
      ];
      labels = λ i lt. elim (ℕ_discrete i count) as (λ y. (part_at s2 (length store + i)).label ≡ label i) [
        | yes is ↦ ap (λ (p : Part). p.label) (ap (part_at s2) (let z : length store + i ≡ length s1 = omega arith in z) ∙ new) ∙ e.named ∙ ap label (sym is)
        | no ne ↦ let h : i < count = grind (arith, ne) in ap (λ (p : Part). p.label) (old (length store + i) (omega arith)) ∙ o.labels i h
      ];
      keeps = λ at le' p. e.keeps at (omega arith) (o.keeps at le' p);
    }

-- a part gets its children, or has none
module _ (d : Definition) (store : List Part) (first : ℕ) (memo : ℕ → ℕ) (at : ℕ) (fa : first ≤ at) (inn : at < length store) (p : Partial d store first (length store) memo at) where
  late_of : (k : ℕ) → k ≢ at → k < suc at → k < at
  late_of k ne lt = grind (arith, ne)

  -- nothing is left to do
  pub advance_other : (q : Part) → q ≡ part_at store at → (q.form ≡ part.Free → ⊥) → Partial d store first (length store) memo (at + 1)
  advance_other q eq never = subst (Partial d store first (length store) memo) (let z : suc at ≡ at + 1 = omega arith in z) (record {
    within = p.within;
    light = p.light;
    each = λ k f lt. elim (ℕ_discrete k at) as (λ y. PartOk d store first (length store) memo (suc at) k (part_at store k) (part_at store k).form) [
      | yes e ↦ here k e (part_at store k).form refl (p.each k f lt)
      | no ne ↦ ok_more d store store first (length store) (length store) memo memo at (suc at) k (part_at store k) (record { sources = λ j h. refl; labels = λ j h. refl; solid = λ j h s. s }) (omega arith) lt (late_of k ne) (part_at store k).form (λ s n. n) (p.each k f lt)
    ];
  })
    where
      here : (k : ℕ) → k ≡ at → (f : PartForm) → (part_at store k).form ≡ f → PartOk d store first (length store) memo at k (part_at store k) f → PartOk d store first (length store) memo (suc at) k (part_at store k) f
      here k e part.Free is ok = absurd (never (ap (λ (x : Part). x.form) (eq ∙ ap (part_at store) (sym e)) ∙ is))
      here k e (part.Shared j) is ok = ok
      here k e (part.Again m) is ok = ok
      here k e (part.Made h x n) is ok = ok
      here k e (part.Open x n) is ok = ok

-- the copy of a form, with its parts
module _ (d : Definition) (store : List Part) (first : ℕ) (memo : ℕ → ℕ) (at k : ℕ) (p : Part) (w : IsNew d memo k p) where
  copied_made : (h : Head) (x r n : ℕ) → (node_at d.nodes p.source).form ≡ form.Made h r n → HasRow d.nodes store first (length store) x (head_count h n) (next_to r) no_label → PartOk d store first (length store) memo at k p (head_copy h x n)
  copied_made (head.Rigid m r) x y n is has = (w, λ lt. inr (m, (r, y, n, is)))
  copied_made (head.Scalar s) x r n is has = (w, record { built = tt; row = r; form = is; parts = has })
  copied_made head.Array x r n is has = (w, record { built = tt; row = r; form = is; parts = has })
  copied_made head.Tuple x r n is has = (w, record { built = tt; row = r; form = is; parts = has })
  copied_made (head.Record m) x r n is has = (w, record { built = tt; row = r; form = is; parts = has })
  copied_made head.Fun x r n is has = (w, record { built = tt; row = r; form = is; parts = has })
  copied_made (head.Abstract m b) x r n is has = (w, record { built = tt; row = r; form = is; parts = has })

  pub copied_ok : (f : Form) (x : ℕ) → FormWithin (length d.nodes) (length d.entries) f → (node_at d.nodes p.source).form ≡ f → HasRow d.nodes store first (length store) x (child_count f) (child_number d.entries f) (child_label d.entries f) → PartOk d store first (length store) memo at k p (form_copy f x)
  copied_ok form.Free x wi is has = (w, λ lt. inl is)
  copied_ok (form.Link j) x wi is has = absurd (subst IsRoot is w.root)
  copied_ok (form.Made h r n) x wi is has = copied_made h x r n is has
  copied_ok (form.Open e n) x wi is has = (w, record { entry = e; within = wi; form = is; parts = has })

solid_head : (h : Head) (x n : ℕ) → Solid (head_copy h x n)
solid_head (head.Rigid m r) x n = tt
solid_head (head.Scalar s) x n = tt
solid_head head.Array x n = tt
solid_head head.Tuple x n = tt
solid_head (head.Record m) x n = tt
solid_head head.Fun x n = tt
solid_head (head.Abstract m b) x n = tt

solid_copy : (f : Form) (x : ℕ) → Solid (form_copy f x)
solid_copy form.Free x = tt
solid_copy (form.Link j) x = tt
solid_copy (form.Made h r n) x = solid_head h x n
solid_copy (form.Open e n) x = tt

-- the ends of `fill`
module _ (d : Definition) (store : List Part) (memo : List ℕ) (first at : ℕ) (fa : first ≤ at) (inn : at < length store) (short : length store < 4294967295) (p : Partial d store first (length store) (memo_at memo) at) where
  pub filled_other : (q : Part) → q ≡ part_at store at → (q.form ≡ part.Free → ⊥) → Filled d store memo first at store memo
  filled_other q eq never = record {
    longer = omega arith;
    low = λ k lt. refl;
    sources = λ k lt. refl;
    short = short;
    lasts = refl;
    parts = advance_other d store first (memo_at memo) at fa inn p q eq never;
  }

  module _ (s1 : List Part) (m1 : List ℕ) (f : Form) (o : Opened d store memo first (child_number d.entries f) (child_label d.entries f) (child_count f) s1 m1) (q : Part) (eq : q ≡ part_at store at) (e : q.form ≡ part.Free) (ef : (node_at d.nodes q.source).form ≡ f) (wi : FormWithin (length d.nodes) (length d.entries) f)
      (s2 : List Part) (is : s2 ≡ with_part s1 at (record { kind = q.kind; source = q.source; label = q.label; form = form_copy f (length store) })) where
    abbrev one : Part
    one = record { kind = q.kind; source = q.source; label = q.label; form = form_copy f (length store) }

    l1 : length s1 ≡ length store + child_count f
    l1 = o.long

    in1 : at < length s1
    in1 = let l : length s1 ≡ length store + child_count f = o.long in omega arith

    here1 : part_at s1 at ≡ q
    here1 = o.extends.1 at inn ∙ sym eq

    at2 : part_at s2 at ≡ one
    at2 = ap (λ s. part_at s at) is ∙ part_same s1 at one in1

    other2 : (k : ℕ) → k ≢ at → part_at s2 k ≡ part_at s1 k
    other2 k ne = ap (λ s. part_at s k) is ∙ part_other s1 at k one ne

    l2 : length s2 ≡ length s1
    l2 = ap length is ∙ long_with s1 at one

    stays2 : Stays s1 s2 (length s1)
    stays2 = record {
      sources = λ j jl. elim (ℕ_discrete j at) as (λ y. (part_at s2 j).source ≡ (part_at s1 j).source) [
        | yes z ↦ ap (λ i. (part_at s2 i).source) z ∙ ap (λ (y : Part). y.source) (at2 ∙ refl) ∙ ap (λ (y : Part). y.source) (sym here1) ∙ ap (λ i. (part_at s1 i).source) (sym z)
        | no ne ↦ ap (λ (y : Part). y.source) (other2 j ne)
      ];
      labels = λ j jl. elim (ℕ_discrete j at) as (λ y. (part_at s2 j).label ≡ (part_at s1 j).label) [
        | yes z ↦ ap (λ i. (part_at s2 i).label) z ∙ ap (λ (y : Part). y.label) (at2 ∙ refl) ∙ ap (λ (y : Part). y.label) (sym here1) ∙ ap (λ i. (part_at s1 i).label) (sym z)
        | no ne ↦ ap (λ (y : Part). y.label) (other2 j ne)
      ];
      solid = λ j jl s. elim (ℕ_discrete j at) as (λ y. Solid (part_at s2 j).form) [
        | yes z ↦ subst (λ i. Solid (part_at s2 i).form) (sym z) (subst (λ (y : Part). Solid y.form) (sym at2) (solid_copy f (length store)))
        | no ne ↦ subst (λ (y : Part). Solid y.form) (sym (other2 j ne)) s
      ];
    }

    p1 : Partial d s1 first (length s1) (memo_at m1) at
    p1 = o.keeps at (omega arith) p

    -- the part was pending
    new1 : IsNew d (memo_at m1) at one
    new1 = go (part_at s1 at).form (ap (λ (y : Part). y.form) here1 ∙ e) (p1.each at fa in1)
      where
        go : (g : PartForm) → g ≡ part.Free → PartOk d s1 first (length s1) (memo_at m1) at at (part_at s1 at) g → IsNew d (memo_at m1) at one
        go g z ok = let n : IsNew d (memo_at m1) at (part_at s1 at) = (subst (PartOk d s1 first (length s1) (memo_at m1) at at (part_at s1 at)) z ok).0 in record {
          root = subst (λ (y : Part). IsRoot (node_at d.nodes y.source).form) here1 n.root;
          kind = subst (λ (y : Part). y.kind ≡ copy_kind (node_at d.nodes y.source)) here1 n.kind;
          deep = subst (λ (y : Part). d.depth < (node_at d.nodes y.source).level) here1 n.deep;
          ours = subst (λ (y : Part). IsOurs d.own (node_at d.nodes y.source).form) here1 n.ours;
          place = subst (λ (y : Part). memo_at m1 y.source ≡ at) here1 n.place;
        }

    row2 : HasRow d.nodes s2 first (length s2) (length store) (child_count f) (child_number d.entries f) (child_label d.entries f)
    row2 = let l : length s1 ≡ length store + child_count f = o.long in record {
      from = omega arith;
      to = omega (arith, l2);
      alike = λ i il top t. ap top (stays2.sources (length store + i) (omega arith)) ∙ o.alike i il top t;
      labels = λ i il. stays2.labels (length store + i) (omega arith) ∙ o.labels i il;
    }

    pub filled : Filled d store memo first at s2 m1
    filled = let l : length s1 ≡ length store + child_count f = o.long in record {
      longer = omega (arith, l2);
      low = λ k lt. other2 k (λ z. absurd (omega arith)) ∙ o.extends.1 k (omega arith);
      sources = λ k lt. stays2.sources k (omega arith) ∙ ap (λ (y : Part). y.source) (o.extends.1 k lt);
      short = let h : length s1 < 4294967295 = o.short short in omega (arith, l2);
      lasts = o.lasts;
      parts = subst (Partial d s2 first (length s2) (memo_at m1)) (let z : suc at ≡ at + 1 = omega arith in z) (record {
        within = λ k g lt. subst (λ j. j < length d.nodes) (sym (stays2.sources k (subst (λ m. k < m) l2 lt))) (p1.within k g (subst (λ m. k < m) l2 lt));
        light = λ k g lt. elim (ℕ_discrete k at) as (λ y. (Solid (part_at s2 k).form → ⊥) → (part_at s2 k).kind ≡ kind.Any) [
          | yes z ↦ subst (λ j. (Solid (part_at s2 j).form → ⊥) → (part_at s2 j).kind ≡ kind.Any) (sym z) (subst (λ (y : Part). (Solid y.form → ⊥) → y.kind ≡ kind.Any) (sym at2) (λ s. absurd (s (solid_copy f (length store)))))
          | no ne ↦ subst (λ (y : Part). (Solid y.form → ⊥) → y.kind ≡ kind.Any) (sym (other2 k ne)) (p1.light k g (subst (λ m. k < m) l2 lt))
        ];
        each = λ k g lt. elim (ℕ_discrete k at) as (λ y. PartOk d s2 first (length s2) (memo_at m1) (suc at) k (part_at s2 k) (part_at s2 k).form) [
          | yes z ↦ subst (λ j. PartOk d s2 first (length s2) (memo_at m1) (suc at) j (part_at s2 j) (part_at s2 j).form) (sym z)
              (subst (λ (y : Part). PartOk d s2 first (length s2) (memo_at m1) (suc at) at y y.form) (sym at2) (copied_ok d s2 first (memo_at m1) (suc at) at one new1 f (length store) wi ef row2))
          | no ne ↦ subst (λ (y : Part). PartOk d s2 first (length s2) (memo_at m1) (suc at) k y y.form) (sym (other2 k ne))
              (ok_more d s1 s2 first (length s1) (length s2) (memo_at m1) (memo_at m1) at (suc at) k (part_at s1 k) stays2 (omega (arith, l2)) (subst (λ m. k < m) l2 lt) (late_of d store first (memo_at memo) at fa inn p k ne) (part_at s1 k).form (λ s n. n) (p1.each k g (subst (λ m. k < m) l2 lt)))
        ];
      });
    }

-- at the end
pub copies_all : (d : Definition) (store : List Part) (first count root : ℕ) (memo : ℕ → ℕ) (at : ℕ) → Partial d store first (length store) memo at → length store ≤ at → at ≡ first + count → at ≤ length store → first < length store → Alike d.nodes (part_at store first).source root → Copies d store first count root
copies_all d store first count root memo at p le e le' lt al = record {
  some = omega arith;
  memo = memo;
  parts = subst (λ n. Partial d store first n memo n) (let z : at ≡ first + count = e in z) (subst (λ n. Partial d store first n memo at) (let z : length store ≡ at = omega arith in z) p);
  starts = al;
}

-- the first part
module _ (d : Definition) (store : List Part) (memo : List ℕ) (first number : ℕ) (s1 : List Part) (m1 : List ℕ) (fe : length store ≡ first) (e : Entered d store memo first 0 number s1 m1) where
  first_long : length s1 ≡ suc (length store)
  first_long = ap length e.is ∙ long_new store e.one

  pub first_extends : Extends store s1
  first_extends = (let l : length s1 ≡ suc (length store) = first_long in omega arith, λ k lt. ap (λ s. part_at s k) e.is ∙ part_old store e.one k lt)

  pub first_parts : Partial d s1 first (length s1) (memo_at m1) first
  first_parts = e.keeps first (omega arith) (record { within = λ k f lt. absurd (omega arith); light = λ k f lt. absurd (omega arith); each = λ k f lt. absurd (omega arith) })

  pub first_alike : Alike d.nodes (part_at s1 first).source number
  first_alike top t = ap top (ap (λ (p : Part). p.source) (ap (part_at s1) (sym fe) ∙ ap (λ s. part_at s (length store)) e.is ∙ part_new store e.one)) ∙ e.alike top t

  pub first_some : first < length s1
  first_some = let l : length s1 ≡ suc (length store) = first_long in omega arith

pub all_done : (at count : ℕ) → at ≤ count → count ≤ at → at ≡ count
all_done at count p q = omega arith

-- one entry further in a chain
pub chain_next : (entries : List Entry) (e i at : ℕ) (entry : Entry) → at ≡ chain entries e i → entry ≡ entry_at entries at → entry.next ≡ chain entries e (i + 1)
unfolding chain
chain_next entries e i at entry h is = ap (λ (x : Entry). x.next) is ∙ ap (λ j. (entry_at entries j).next) h ∙ ap (chain entries e) (let z : suc i ≡ i + 1 = omega arith in z)

pub chain_none : (entries : List Entry) (e : ℕ) → e ≡ chain entries e 0
unfolding chain
chain_none entries e = refl

pub entry_here : (entries : List Entry) (e i at : ℕ) (entry : Entry) → at ≡ chain entries e i → entry ≡ entry_at entries at → entry ≡ entry_at entries (chain entries e i)
entry_here entries e i at entry h is = is ∙ ap (entry_at entries) h

pub entered_as : (d : Definition) (store : List Part) (memo : List ℕ) (first : ℕ) (entry other : Entry) (s1 : List Part) (m1 : List ℕ) → entry ≡ other → Entered d store memo first entry.label entry.child s1 m1 → Entered d store memo first other.label other.child s1 m1
entered_as d store memo first entry other s1 m1 is e = subst (λ (x : Entry). Entered d store memo first x.label x.child s1 m1) is e

-- the parts of a node's form can be read
pub form_within : (table : ShapeTable) (m : ℕ) (nodes : List Node) → IsGraph nodes → IsBound table m nodes → (i : ℕ) → i < length nodes → FormWithin (length nodes) m (node_at nodes i).form
form_within table m nodes g b i lt = go (node_at nodes i).form (g.within i lt) (b.forms i lt)
  where
    go : (f : Form) → Within (length nodes) i f → Bound table m f → FormWithin (length nodes) m f
    go form.Free w h = tt
    go (form.Link j) w h = tt
    go (form.Made hd x n) w h = w
    go (form.Open e n) w h = h.0

pub fewer_parts : (h : Head) (n : ℕ) → head_count h n ≤ n
fewer_parts (head.Rigid m r) n = omega arith
fewer_parts (head.Scalar s) n = omega arith
fewer_parts head.Array n = omega arith
fewer_parts head.Tuple n = omega arith
fewer_parts (head.Record m) n = omega arith
fewer_parts head.Fun n = omega arith
fewer_parts (head.Abstract m b) n = omega arith
