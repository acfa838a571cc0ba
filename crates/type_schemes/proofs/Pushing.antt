-- Nodes and tasks for a use.
use Rattle.std.proofs.Common.{◌≡◌, ℕ, zero, suc, ◌+◌, ◌-◌, ◌≤◌, ◌<◌, List, [], ◌∷◌, ◌++◌, length, refl, sym, ◌∙◌, ap, subst, arith, append_assoc}
use mathlib.Core.Logic.{inl, inr}
use native.Mathlib.Decide.{ℕ_discrete}
use Rattle.fut_types.specs.declared.Kind.{Kind}
use Rattle.fut_types.specs.declared.Head.{Head}
use Rattle.fut_types.specs.declared.shapes.ShapeTable.{ShapeTable}
use Rattle.fut_types.specs.Shapes.{Shapes, HasPart, IsKnown}
use Rattle.fut_types.specs.Types.{Made, Sub, Kinds, level, rank, row}
use Rattle.fut_types.proofs.TyLaws.{row_same}
use Rattle.type_graph.specs.declared.Form.TheVariants as form
use Rattle.type_graph.specs.declared.Node.{Node}
use Rattle.type_graph.specs.declared.Task.{Task}
use Rattle.type_graph.specs.declared.Task.TheVariants as task
use Rattle.type_graph.specs.Graph.{far, node_at, Tables, Fits, Solves, Meets, Holds, Each, IsGraph, IsBound, IsTask, IsMaker, numbers, Solved, Unmet}
use Rattle.type_graph.proofs.Cases.{each_append, each_left, each_right}
use Rattle.type_graph.specs.Claims.{new_node, Allowed, Inside, Grown, Possible, Adds, Nowhere}
use Rattle.type_graph.proofs.Grown.{grown_none, grown_push, grown_then, graph_push, solves_old, solves_agree, extend_one, extend_low, extend_last, joined, joined_low, joined_high, node_old, node_new, long_new, lt_or}
use Rattle.type_graph.proofs.Adding.{Agree, adds_solved, nowhere_solved, bound_push}
use Rattle.type_schemes.specs.declared.PartForm.{PartForm}
use Rattle.type_schemes.specs.declared.PartForm.TheVariants as part
use Rattle.type_schemes.specs.declared.Part.{Part}
use Rattle.type_schemes.specs.Schemes.{part_at, PartShows, PartFits, PartWithin, PartKnown, Region}
use Rattle.type_schemes.proofs.Laws.{built_made}
use Rattle.type_schemes.specs.Instances.{IsUse, IsLabelled, asked, Pushes, Use, Uses, Frees, Instanced}

-- tasks of a use
pub uses_all : (n m : ℕ) (ts : List Task) → n ≤ m → Each (IsUse n) ts → Each (IsUse m) ts
uses_all n m [] le w = tt
uses_all n m (task.Same i j ∷ ts) le w = (let p : i < n = w.0.0 in let q : j < n = w.0.1 in (omega arith, omega arith), uses_all n m ts le w.1)
uses_all n m (task.Has i k l ∷ ts) le w = (let p : i < n = w.0.0 in (omega arith, w.0.1), uses_all n m ts le w.1)
uses_all n m (task.Part i label c ∷ ts) le w = (let p : i < n = w.0.0 in let q : c < n = w.0.1 in (omega arith, omega arith), uses_all n m ts le w.1)

pub uses_within : (table : ShapeTable) (n : ℕ) (ts : List Task) → Each (IsUse n) ts → Each (IsLabelled table) ts → Each (IsTask table n) ts
unfolding IsTask
uses_within table n [] w l = tt
uses_within table n (task.Same i j ∷ ts) w l = (w.0, uses_within table n ts w.1 l.1)
uses_within table n (task.Has i k m ∷ ts) w l = (w.0.0, uses_within table n ts w.1 l.1)
uses_within table n (task.Part i label c ∷ ts) w l = ((w.0.0, w.0.1, l.0), uses_within table n ts w.1 l.1)

pub uses_allowed : (n : ℕ) (home : ℕ → ℕ) (ts : List Task) → Each (IsUse n) ts → Each (Allowed home) ts
uses_allowed n home [] w = tt
uses_allowed n home (task.Same i j ∷ ts) w = (tt, uses_allowed n home ts w.1)
uses_allowed n home (task.Has i k l ∷ ts) w = (inr w.0.1, uses_allowed n home ts w.1)
uses_allowed n home (task.Part i label c ∷ ts) w = (tt, uses_allowed n home ts w.1)

-- free nodes
pub frees_none : (T : Tables) (nodes : List Node) → IsGraph nodes → Inside T nodes → Frees T nodes nodes
frees_none T nodes g ins = record { grown = grown_none T nodes g ins; solves = λ K a s. s }

solves_free : (T : Tables) (K : Kinds) (a : Sub) (nodes : List Node) → Solves T K a nodes → Solves T K a (nodes ++ new_node form.Free ∷ [])
solves_free T K a nodes s = record {
  fits = λ i lt. elim (lt_or i (length nodes)) as (λ d. Fits T K a (a i) (node_at (nodes ++ new_node form.Free ∷ []) i)) [
    | inl h ↦ subst (Fits T K a (a i)) (sym (node_old nodes (new_node form.Free) i h)) (s.fits i h)
    | inr h ↦ let z : length nodes ≡ i = (let l : length (nodes ++ new_node form.Free ∷ []) ≡ suc (length nodes) = long_new nodes (new_node form.Free) in omega arith) in
        subst (λ j. Fits T K a (a j) (node_at (nodes ++ new_node form.Free ∷ []) j)) z (subst (Fits T K a (a (length nodes))) (sym (node_new nodes (new_node form.Free))) (record { shows = tt; has = omega arith }))
  ];
}

pub frees_more : (T : Tables) (nodes n1 n2 : List Node) → Frees T nodes n1 → n2 ≡ n1 ++ new_node form.Free ∷ [] → length n1 < 4294967294 → Frees T nodes n2
frees_more T nodes n1 n2 f is room = subst (Frees T nodes) (sym is) (record {
  grown = grown_then T nodes n1 (n1 ++ new_node form.Free ∷ []) f.grown (grown_push T n1 form.Free f.grown.graph f.grown.inside (omega arith) tt tt tt);
  solves = λ K a s. solves_free T K a n1 (f.solves K a s);
})

pub free_graph : (n1 n2 : List Node) → IsGraph n1 → n2 ≡ n1 ++ new_node form.Free ∷ [] → length n1 < 4294967294 → IsGraph n2
free_graph n1 n2 g is room = subst IsGraph (sym is) (graph_push n1 form.Free g (omega arith) tt tt)

pub free_bound : (table : ShapeTable) (m : ℕ) (n1 n2 : List Node) → IsBound table m n1 → n2 ≡ n1 ++ new_node form.Free ∷ [] → IsBound table m n2
free_bound table m n1 n2 b is = subst (IsBound table m) (sym is) (bound_push table m n1 (new_node form.Free) b tt)

pub free_long : (nodes n1 n2 : List Node) (at : ℕ) → length n1 ≡ length nodes + at → n2 ≡ n1 ++ new_node form.Free ∷ [] → length n2 ≡ length nodes + (at + 1)
free_long nodes n1 n2 at l is = ap length is ∙ long_new n1 (new_node form.Free) ∙ ap suc l ∙ omega arith

-- nothing, and one thing after another
pub pushes_none : (T : Tables) (nodes : List Node) (tasks : List Task) (Q : Kinds → Sub → Type 0) → IsGraph nodes → Inside T nodes → ((K : Kinds) (a : Sub) → Q K a) → Pushes T nodes tasks Q nodes tasks
pushes_none T nodes tasks Q g ins all = record {
  grown = grown_none T nodes g ins;
  forth = λ K a m q. (a, (λ i lt. refl), m);
  back = λ K a m. m;
  done = λ K a m. all K a;
}

pub pushes_then : (T : Tables) (n0 n1 n2 : List Node) (t0 t1 t2 : List Task) (P Q R : Kinds → Sub → Type 0) → Pushes T n0 t0 P n1 t1 → Pushes T n1 t1 Q n2 t2
    → ((K : Kinds) (a b : Sub) → ((i : ℕ) → i < length n0 → a i ≡ b i) → Q K a → Q K b)
    → ((K : Kinds) (a : Sub) → R K a → P K a × Q K a) → ((K : Kinds) (a : Sub) → P K a → Q K a → R K a) → Pushes T n0 t0 R n2 t2
pushes_then T n0 n1 n2 t0 t1 t2 P Q R x y local split join =
    let le : length n0 ≤ length n1 = x.grown.longer in record {
      grown = grown_then T n0 n1 n2 x.grown y.grown;
      forth = λ K a m r. let s = split K a r in
          let f = x.forth K a m s.0 in
          let g = y.forth K f.0 f.2 (local K a f.0 (λ i lt. sym (f.1 i lt)) s.1) in
          (g.0, (λ i lt. g.1 i (omega arith) ∙ f.1 i lt), g.2);
      back = λ K a m. x.back K a (y.back K a m);
      done = λ K a m. join K a (x.done K a (y.back K a m)) (y.done K a m);
    }

-- tasks alone
module _ (T : Tables) (nodes : List Node) (tasks tasks' added : List Task) (Q : Kinds → Sub → Type 0) (g : IsGraph nodes) (ins : Inside T nodes) (is : tasks' ≡ tasks ++ added)
    (to : (K : Kinds) (a : Sub) → Q K a → Each (Holds T K a) added) (fro : (K : Kinds) (a : Sub) → Solves T K a nodes → Each (Holds T K a) added → Q K a) where
  pub pushes_tasks : Pushes T nodes tasks Q nodes tasks'
  pushes_tasks = subst (Pushes T nodes tasks Q nodes) (sym is) (record {
    grown = grown_none T nodes g ins;
    forth = λ K a m q. (a, (λ i lt. refl), record { solves = m.solves; holds = each_append (Holds T K a) tasks added m.holds (to K a q) });
    back = λ K a m. record { solves = m.solves; holds = each_left (Holds T K a) tasks added m.holds };
    done = λ K a m. fro K a m.solves (each_right (Holds T K a) tasks added m.holds);
  })

-- tasks concern only the nodes there are
tasks_agree : (T : Tables) (n : ℕ) (K : Kinds) (a b : Sub) (ts : List Task) → ((j : ℕ) → j < n → a j ≡ b j) → Each (IsUse n) ts → Each (Holds T K a) ts → Each (Holds T K b) ts
unfolding Holds
tasks_agree T n K a b [] e w h = tt
tasks_agree T n K a b (task.Same p q ∷ ts) e w h = (sym (e p w.0.0) ∙ h.0 ∙ e q w.0.1, tasks_agree T n K a b ts e w.1 h.1)
tasks_agree T n K a b (task.Has p k l ∷ ts) e w h = (subst (λ t. level k ≤ rank K t) (e p w.0.0) h.0, tasks_agree T n K a b ts e w.1 h.1)
tasks_agree T n K a b (task.Part p label c ∷ ts) e w h = (subst (λ t. HasPart T.shapes label t (b c)) (e p w.0.0) (subst (HasPart T.shapes label (a p)) (e c w.0.1) h.0), tasks_agree T n K a b ts e w.1 h.1)

-- the parts that are asked of a node
asked_none : (store : List Part) (i x c : ℕ) → asked store i x c 0 ≡ []
unfolding asked
asked_none store i x c = refl

asked_suc : (store : List Part) (i x c n : ℕ) → asked store i x c (suc n) ≡ asked store i x c n ++ task.Part i (part_at store (x + n)).label (c + n) ∷ []
unfolding asked
asked_suc store i x c n = refl

pub asked_start : (tasks : List Task) (store : List Part) (i x c : ℕ) → tasks ≡ tasks ++ asked store i x c 0
asked_start tasks store i x c = sym (ap (λ l. tasks ++ l) (asked_none store i x c) ∙ append_none tasks)
  where
    append_none : (xs : List Task) → xs ++ [] ≡ xs
    append_none [] = refl
    append_none (y ∷ ys) = ap (λ l. y ∷ l) (append_none ys)

pub asked_next : (tasks t1 t2 : List Task) (store : List Part) (i x c n : ℕ) (p : Part) → t1 ≡ tasks ++ asked store i x c n → p ≡ part_at store (x + n) → t2 ≡ t1 ++ task.Part i p.label (c + n) ∷ [] → t2 ≡ tasks ++ asked store i x c (n + 1)
asked_next tasks t1 t2 store i x c n p h is e = e ∙ ap (λ l. l ++ task.Part i p.label (c + n) ∷ []) h ∙ append_assoc tasks (asked store i x c n) (task.Part i p.label (c + n) ∷ [])
    ∙ ap (λ (q : Part). tasks ++ (asked store i x c n ++ task.Part i q.label (c + n) ∷ [])) is ∙ ap (λ l. tasks ++ l) (sym (asked_suc store i x c n) ∙ ap (asked store i x c) (let z : suc n ≡ n + 1 = omega arith in z))

asked_uses : (store : List Part) (m i x c n : ℕ) → i < m → c + n ≤ m → Each (IsUse m) (asked store i x c n)
asked_uses store m i x c zero li lc = subst (Each (IsUse m)) (sym (asked_none store i x c)) tt
asked_uses store m i x c (suc n) li lc = subst (Each (IsUse m)) (sym (asked_suc store i x c n)) (each_append (IsUse m) (asked store i x c n) (task.Part i (part_at store (x + n)).label (c + n) ∷ []) (asked_uses store m i x c n li (omega arith)) ((li, omega arith), tt))

asked_labels : (table : ShapeTable) (store : List Part) (i x c n : ℕ) → ((j : ℕ) → j < n → (part_at store (x + j)).label < length table.positions) → Each (IsLabelled table) (asked store i x c n)
asked_labels table store i x c zero h = subst (Each (IsLabelled table)) (sym (asked_none store i x c)) tt
asked_labels table store i x c (suc n) h = subst (Each (IsLabelled table)) (sym (asked_suc store i x c n)) (each_append (IsLabelled table) (asked store i x c n) (task.Part i (part_at store (x + n)).label (c + n) ∷ []) (asked_labels table store i x c n (λ j jl. h j (omega arith))) (h n (omega arith), tt))

asked_hold : (T : Tables) (K : Kinds) (a : Sub) (store : List Part) (i x c n : ℕ) → ((j : ℕ) → j < n → HasPart T.shapes (part_at store (x + j)).label (a i) (a (c + j))) → Each (Holds T K a) (asked store i x c n)
unfolding Holds
asked_hold T K a store i x c zero h = subst (Each (Holds T K a)) (sym (asked_none store i x c)) tt
asked_hold T K a store i x c (suc n) h = subst (Each (Holds T K a)) (sym (asked_suc store i x c n)) (each_append (Holds T K a) (asked store i x c n) (task.Part i (part_at store (x + n)).label (c + n) ∷ []) (asked_hold T K a store i x c n (λ j jl. h j (omega arith))) (h n (omega arith), tt))

asked_done : (T : Tables) (K : Kinds) (a : Sub) (store : List Part) (i x c n : ℕ) → Each (Holds T K a) (asked store i x c n) → (j : ℕ) → j < n → HasPart T.shapes (part_at store (x + j)).label (a i) (a (c + j))
unfolding Holds
asked_done T K a store i x c zero h j jl = absurd (omega arith)
asked_done T K a store i x c (suc n) h j jl =
    let both : Each (Holds T K a) (asked store i x c n ++ task.Part i (part_at store (x + n)).label (c + n) ∷ []) = subst (Each (Holds T K a)) (asked_suc store i x c n) h in
    elim (ℕ_discrete j n) as (λ d. HasPart T.shapes (part_at store (x + j)).label (a i) (a (c + j))) [
      | yes e ↦ subst (λ y. HasPart T.shapes (part_at store (x + y)).label (a i) (a (c + y))) (sym e) (each_right (Holds T K a) (asked store i x c n) (task.Part i (part_at store (x + n)).label (c + n) ∷ []) both).0
      | no ne ↦ asked_done T K a store i x c n (each_left (Holds T K a) (asked store i x c n) (task.Part i (part_at store (x + n)).label (c + n) ∷ []) both) j (grind (arith, ne))
    ]

-- a made node, and tasks
module _ (T : Tables) (nodes nodes' : List Node) (tasks tasks' : List Task) (i : ℕ) (k : Kind) (h : Head) (x n : ℕ) (g : IsGraph nodes) (ins : Inside T nodes) (lt : i < length nodes) (xn : x + n ≤ length nodes) (mk : IsMaker h) (room : length nodes < 4294967294)
    (isn : nodes' ≡ nodes ++ new_node (form.Made h x n) ∷ []) (ist : tasks' ≡ tasks ++ (task.Has i k far ∷ task.Same i (length nodes) ∷ [])) where
  abbrev Ask : Kinds → Sub → Type 0
  Ask K a = (level k ≤ rank K (a i)) × (a i ≡ Made h (row a x n))

  row_inside : (m x n : ℕ) → x + n ≤ m → Each (λ c. c < m) (numbers x n)
  unfolding numbers
  row_inside m x zero h = tt
  row_inside m x (suc n) h = (omega arith, row_inside m (suc x) n (omega arith))

  made_grown : Grown T nodes nodes'
  made_grown = subst (Grown T nodes) (sym isn) (grown_push T nodes (form.Made h x n) g ins (omega arith) xn mk (row_inside (length nodes) x n xn))

  made_long : length nodes' ≡ suc (length nodes)
  made_long = ap length isn ∙ long_new nodes (new_node (form.Made h x n))

  made_node : node_at nodes' (length nodes) ≡ new_node (form.Made h x n)
  made_node = ap (λ ns. node_at ns (length nodes)) isn ∙ node_new nodes (new_node (form.Made h x n))

  pub pushes_made : Each (IsUse (length nodes)) tasks → Pushes T nodes tasks (λ K a. (level k ≤ rank K (a i)) × (a i ≡ Made h (row a x n))) nodes' tasks'
  unfolding Holds
  pushes_made wt = subst (Pushes T nodes tasks Ask nodes') (sym ist) (record {
    grown = made_grown;
    forth = λ K a m q.
        let full : Sub = joined (length nodes) a (λ j. a i) in
        let low : (j : ℕ) → j < length nodes → full j ≡ a j = λ j l. extend_low T nodes (form.Made h x n) g ins K a (a i) j l in
        let last : full (length nodes) ≡ a i = extend_last T nodes (form.Made h x n) g ins K a (a i) in (
          full,
          low,
          record {
            solves = subst (Solves T K full) (sym isn) (extend_one T nodes (form.Made h x n) g ins K a (a i) m.solves (last ∙ q.1 ∙ ap (Made h) (row_same a full x x n (λ p pl. sym (low (x + p) (omega arith)))) ∙ sym (built_made T.rigid h (row full x n) mk)));
            holds = each_append (Holds T K full) tasks (task.Has i k far ∷ task.Same i (length nodes) ∷ []) (tasks_agree T (length nodes) K a full tasks (λ j l. sym (low j l)) wt m.holds)
                (subst (λ t. level k ≤ rank K t) (sym (low i lt)) q.0, (low i lt ∙ sym last, tt));
          },
        );
    back = λ K a m. record { solves = solves_old T nodes nodes' made_grown K a m.solves; holds = each_left (Holds T K a) tasks (task.Has i k far ∷ task.Same i (length nodes) ∷ []) m.holds };
    done = λ K a m. let r = each_right (Holds T K a) tasks (task.Has i k far ∷ task.Same i (length nodes) ∷ []) m.holds in
        (r.0, r.1.0 ∙ (subst (Fits T K a (a (length nodes))) made_node (m.solves.fits (length nodes) (let e : length nodes' ≡ suc (length nodes) = made_long in omega arith))).shows ∙ built_made T.rigid h (row a x n) mk);
  })

pub pushes_as : (T : Tables) (nodes nodes' : List Node) (tasks tasks' : List Task) (P Q : Kinds → Sub → Type 0) → ((K : Kinds) (a : Sub) → P K a → Q K a) → ((K : Kinds) (a : Sub) → Q K a → P K a) → Pushes T nodes tasks P nodes' tasks' → Pushes T nodes tasks Q nodes' tasks'
pushes_as T nodes nodes' tasks tasks' P Q to fro x = record {
  grown = x.grown;
  forth = λ K a m q. x.forth K a m (fro K a q);
  back = x.back;
  done = λ K a m. to K a (x.done K a m);
}

-- the ends of `use_part`
module _ (nodes : List Node) (tasks t1 : List Task) (store : List Part) (p : Part) (first count start at : ℕ) (g : IsGraph nodes) (room : start + count ≤ length nodes) (al : at < count) (w : PartWithin start first (first + count) (first + at) p.form)
    (is1 : t1 ≡ tasks ++ task.Has (start + at) p.kind far ∷ []) (wt : Each (IsUse (length nodes)) tasks) where
  then_one : (t2 : List Task) (u : Task) → t2 ≡ t1 ++ u ∷ [] → t2 ≡ tasks ++ (task.Has (start + at) p.kind far ∷ u ∷ [])
  then_one t2 u q = q ∙ ap (λ l. l ++ u ∷ []) is1 ∙ append_assoc tasks (task.Has (start + at) p.kind far ∷ []) (u ∷ [])

  pub one_tasks : Each (IsUse (length nodes)) t1
  one_tasks = subst (Each (IsUse (length nodes))) (sym is1) (each_append (IsUse (length nodes)) tasks (task.Has (start + at) p.kind far ∷ []) wt ((omega arith, omega arith), tt))

  pub two_tasks : (n : ℕ) (t2 : List Task) (j : ℕ) → length nodes ≤ n → j < n → t2 ≡ t1 ++ task.Same (start + at) j ∷ [] → Each (IsUse n) t2
  two_tasks n t2 j le jl is2 = subst (Each (IsUse n)) (sym is2) (each_append (IsUse n) t1 (task.Same (start + at) j ∷ []) (uses_all (length nodes) n t1 le one_tasks) ((omega arith, jl), tt))

  pub shared_in : (j : ℕ) → p.form ≡ part.Shared j → j < length nodes
  shared_in j e = let jl : j < start = subst (PartWithin start first (first + count) (first + at)) e w in omega arith

  pub again_in : (m : ℕ) → p.form ≡ part.Again m → start + (m - first) < length nodes
  again_in m e = let v : (first ≤ m) × (m < first + count) = subst (PartWithin start first (first + count) (first + at)) e w in let v0 : first ≤ m = v.0 in let v1 : m < first + count = v.1 in omega arith

  pub row_in : (h : Head) (x n : ℕ) → p.form ≡ part.Made h x n → start + (x - first) + n ≤ length nodes
  row_in h x n e = let v : (first ≤ x) × (x + n ≤ first + count) × IsMaker h = subst (PartWithin start first (first + count) (first + at)) e w in let v0 : first ≤ x = v.0 in let v1 : x + n ≤ first + count = v.1 in omega arith

  maker_in : (h : Head) (x n : ℕ) → p.form ≡ part.Made h x n → IsMaker h
  maker_in h x n e = (subst (PartWithin start first (first + count) (first + at)) e w).2

  pub open_row : (x n : ℕ) → p.form ≡ part.Open x n → x + n ≤ first + count
  open_row x n e = (subst (PartWithin start first (first + count) (first + at)) e w).1

  pub open_in : (x n : ℕ) → p.form ≡ part.Open x n → start + (x - first) + n ≤ start + count
  open_in x n e = let v : (first ≤ x) × (x + n ≤ first + count) = subst (PartWithin start first (first + count) (first + at)) e w in let v0 : first ≤ x = v.0 in let v1 : x + n ≤ first + count = v.1 in omega arith

  pub open_tasks : (x n : ℕ) (t2 : List Task) → p.form ≡ part.Open x n → t2 ≡ t1 ++ asked store (start + at) x (start + (x - first)) n → Each (IsUse (length nodes)) t2
  open_tasks x n t2 e is2 = subst (Each (IsUse (length nodes))) (sym is2) (each_append (IsUse (length nodes)) t1 (asked store (start + at) x (start + (x - first)) n) one_tasks (asked_uses store (length nodes) (start + at) x (start + (x - first)) n (omega arith) (let q : start + (x - first) + n ≤ start + count = open_in x n e in omega arith)))

  -- labels
  module _ (table : ShapeTable) (lt : Each (IsLabelled table) tasks) where
    pub one_label : Each (IsLabelled table) t1
    one_label = subst (Each (IsLabelled table)) (sym is1) (each_append (IsLabelled table) tasks (task.Has (start + at) p.kind far ∷ []) lt (tt, tt))

    pub two_labels : (i j : ℕ) (t2 : List Task) → t2 ≡ t1 ++ task.Same i j ∷ [] → Each (IsLabelled table) t2
    two_labels i j t2 is2 = subst (Each (IsLabelled table)) (sym is2) (each_append (IsLabelled table) t1 (task.Same i j ∷ []) one_label (tt, tt))

    pub open_labels : (x n : ℕ) (t2 : List Task) → p.form ≡ part.Open x n → PartKnown table store p.form → t2 ≡ t1 ++ asked store (start + at) x (start + (x - first)) n → Each (IsLabelled table) t2
    open_labels x n t2 e kn is2 = subst (Each (IsLabelled table)) (sym is2) (each_append (IsLabelled table) t1 (asked store (start + at) x (start + (x - first)) n) one_label (asked_labels table store (start + at) x (start + (x - first)) n (subst (PartKnown table store) e kn)))

  module _ (nodes' : List Node) (h : Head) (x n : ℕ) where
    pub made_graph : p.form ≡ part.Made h x n → nodes' ≡ nodes ++ new_node (form.Made h (start + (x - first)) n) ∷ [] → length nodes < 4294967294 → IsGraph nodes'
    made_graph e isn short = subst IsGraph (sym isn) (graph_push nodes (form.Made h (start + (x - first)) n) g (omega arith) (row_in h x n e) (maker_in h x n e))

    pub made_bound : (table : ShapeTable) (m : ℕ) → IsKnown table h → IsBound table m nodes → nodes' ≡ nodes ++ new_node (form.Made h (start + (x - first)) n) ∷ [] → IsBound table m nodes'
    made_bound table m kn b isn = subst (IsBound table m) (sym isn) (bound_push table m nodes (new_node (form.Made h (start + (x - first)) n)) b kn)

    pub made_more : (made : ℕ) → nodes' ≡ nodes ++ new_node (form.Made h (start + (x - first)) n) ∷ [] → made ≡ length nodes → (length nodes ≤ length nodes') × (made < length nodes')
    made_more made isn im = let l : length nodes' ≡ suc (length nodes) = ap length isn ∙ long_new nodes (new_node (form.Made h (start + (x - first)) n)) in (omega arith, omega arith)

  module _ (T : Tables) (ins : Inside T nodes) where
    pub use_free : p.form ≡ part.Free → Pushes T nodes tasks (Use T.shapes store first start at p) nodes t1
    unfolding Holds
    use_free e = pushes_tasks T nodes tasks t1 (task.Has (start + at) p.kind far ∷ []) (Use T.shapes store first start at p) g ins is1 (λ K a q. (q.has, tt))
        (λ K a s h. record { shows = subst (PartShows T.shapes store a (λ m. a (start + (m - first))) (a (start + at))) (sym e) tt; has = h.0 })

    pub use_shared : (t2 : List Task) (j : ℕ) → p.form ≡ part.Shared j → t2 ≡ t1 ++ task.Same (start + at) j ∷ [] → Pushes T nodes tasks (Use T.shapes store first start at p) nodes t2
    unfolding Holds
    use_shared t2 j e is2 = pushes_tasks T nodes tasks t2 (task.Has (start + at) p.kind far ∷ task.Same (start + at) j ∷ []) (Use T.shapes store first start at p) g ins (then_one t2 _ is2)
        (λ K a q. (q.has, (subst (PartShows T.shapes store a (λ m. a (start + (m - first))) (a (start + at))) e q.shows, tt)))
        (λ K a s h. record { shows = subst (PartShows T.shapes store a (λ m. a (start + (m - first))) (a (start + at))) (sym e) h.1.0; has = h.0 })

    pub use_again : (t2 : List Task) (m : ℕ) → p.form ≡ part.Again m → t2 ≡ t1 ++ task.Same (start + at) (start + (m - first)) ∷ [] → Pushes T nodes tasks (Use T.shapes store first start at p) nodes t2
    unfolding Holds
    use_again t2 m e is2 = pushes_tasks T nodes tasks t2 (task.Has (start + at) p.kind far ∷ task.Same (start + at) (start + (m - first)) ∷ []) (Use T.shapes store first start at p) g ins (then_one t2 _ is2)
        (λ K a q. (q.has, (subst (PartShows T.shapes store a (λ m. a (start + (m - first))) (a (start + at))) e q.shows, tt)))
        (λ K a s h. record { shows = subst (PartShows T.shapes store a (λ m. a (start + (m - first))) (a (start + at))) (sym e) h.1.0; has = h.0 })

    place_moved : (x y : ℕ) → first ≤ x → start + (x + y - first) ≡ start + (x - first) + y
    place_moved x y fx = omega arith

    pub use_open : (t2 : List Task) (x n : ℕ) → p.form ≡ part.Open x n → t2 ≡ t1 ++ asked store (start + at) x (start + (x - first)) n → Pushes T nodes tasks (Use T.shapes store first start at p) nodes t2
    unfolding Holds
    use_open t2 x n e is2 =
        let v : (first ≤ x) × (x + n ≤ first + count) = subst (PartWithin start first (first + count) (first + at)) e w in let v0 : first ≤ x = v.0 in
        pushes_tasks T nodes tasks t2 (task.Has (start + at) p.kind far ∷ asked store (start + at) x (start + (x - first)) n) (Use T.shapes store first start at p) g ins
        (is2 ∙ ap (λ l. l ++ asked store (start + at) x (start + (x - first)) n) is1 ∙ append_assoc tasks (task.Has (start + at) p.kind far ∷ []) (asked store (start + at) x (start + (x - first)) n))
        (λ K a q. (q.has, asked_hold T K a store (start + at) x (start + (x - first)) n (λ j jl. subst (λ y. HasPart T.shapes (part_at store (x + j)).label (a (start + at)) (a y)) (place_moved x j v0) (subst (PartShows T.shapes store a (λ m. a (start + (m - first))) (a (start + at))) e q.shows j jl))))
        (λ K a s h. record {
          shows = subst (PartShows T.shapes store a (λ m. a (start + (m - first))) (a (start + at))) (sym e) (λ j jl. subst (λ y. HasPart T.shapes (part_at store (x + j)).label (a (start + at)) (a y)) (sym (place_moved x j v0)) (asked_done T K a store (start + at) x (start + (x - first)) n h.1 j jl));
          has = h.0;
        })

    row_moved : (a : Sub) (x n : ℕ) → first ≤ x → row (λ m. a (start + (m - first))) x n ≡ row a (start + (x - first)) n
    row_moved a x n fx = row_same (λ m. a (start + (m - first))) a x (start + (x - first)) n (λ i il. ap a (let z : start + (x + i - first) ≡ start + (x - first) + i = omega arith in z))

    pub use_made : (nodes' : List Node) (t2 : List Task) (made : ℕ) (h : Head) (x n : ℕ) → p.form ≡ part.Made h x n → nodes' ≡ nodes ++ new_node (form.Made h (start + (x - first)) n) ∷ [] → made ≡ length nodes → length nodes < 4294967294
        → t2 ≡ t1 ++ task.Same (start + at) made ∷ [] → Pushes T nodes tasks (Use T.shapes store first start at p) nodes' t2
    use_made nodes' t2 made h x n e isn im short is2 =
        let v : (first ≤ x) × (x + n ≤ first + count) × IsMaker h = subst (PartWithin start first (first + count) (first + at)) e w in let v0 : first ≤ x = v.0 in
        pushes_as T nodes nodes' tasks t2 (λ K a. (level p.kind ≤ rank K (a (start + at))) × (a (start + at) ≡ Made h (row a (start + (x - first)) n))) (Use T.shapes store first start at p)
        (λ K a q. record { shows = subst (PartShows T.shapes store a (λ m. a (start + (m - first))) (a (start + at))) (sym e) (q.1 ∙ ap (Made h) (sym (row_moved a x n v0))); has = q.0 })
        (λ K a q. (q.has, subst (PartShows T.shapes store a (λ m. a (start + (m - first))) (a (start + at))) e q.shows ∙ ap (Made h) (row_moved a x n v0)))
        (pushes_made T nodes nodes' tasks t2 (start + at) p.kind h (start + (x - first)) n g ins (omega arith) (row_in h x n e) (maker_in h x n e) short isn (then_one t2 _ (is2 ∙ ap (λ y. t1 ++ task.Same (start + at) y ∷ []) im)) wt)

-- a part's use concerns only the nodes there are
pub use_agree : (S : Shapes) (store : List Part) (first count start at n : ℕ) (p : Part) → start + count ≤ n → at < count → PartWithin start first (first + count) (first + at) p.form → (K : Kinds) (a b : Sub) → ((i : ℕ) → i < n → a i ≡ b i) → Use S store first start at p K a → Use S store first start at p K b
use_agree S store first count start at n p room al w K a b e u = record { shows = go p.form w u.shows; has = subst (λ t. level p.kind ≤ rank K t) (e (start + at) (omega arith)) u.has }
  where
    go : (f : PartForm) → PartWithin start first (first + count) (first + at) f → PartShows S store a (λ m. a (start + (m - first))) (a (start + at)) f → PartShows S store b (λ m. b (start + (m - first))) (b (start + at)) f
    go part.Free v s = tt
    go (part.Shared j) v s = sym (e (start + at) (omega arith)) ∙ s ∙ e j (omega arith)
    go (part.Again m) v s = let v0 : first ≤ m = v.0 in let v1 : m < first + count = v.1 in sym (e (start + at) (omega arith)) ∙ s ∙ e (start + (m - first)) (omega arith)
    go (part.Made h x n) v s = let v0 : first ≤ x = v.0 in let v1 : x + n ≤ first + count = v.1 in
        sym (e (start + at) (omega arith)) ∙ s ∙ ap (Made h) (row_same (λ m. a (start + (m - first))) (λ m. b (start + (m - first))) x x n (λ i il. e (start + (x + i - first)) (omega arith)))
    go (part.Open x n) v s = let v0 : first ≤ x = v.0 in let v1 : x + n ≤ first + count = v.1 in
        λ i il. subst (λ t. HasPart S (part_at store (x + i)).label t (b (start + (x + i - first)))) (e (start + at) (omega arith)) (subst (HasPart S (part_at store (x + i)).label (a (start + at))) (e (start + (x + i - first)) (omega arith)) (s i il))

pub uses_none : (T : Tables) (nodes : List Node) (tasks : List Task) (store : List Part) (first start : ℕ) → IsGraph nodes → Inside T nodes → Pushes T nodes tasks (Uses T.shapes store first start 0) nodes tasks
uses_none T nodes tasks store first start g ins = pushes_none T nodes tasks (Uses T.shapes store first start 0) g ins (λ K a k lt. absurd (omega arith))

pub uses_more : (T : Tables) (nodes n1 n2 : List Node) (tasks t1 t2 : List Task) (store : List Part) (first count start at : ℕ) (p : Part) → start + count ≤ length nodes → at < count → Region start store first count → p ≡ part_at store (first + at)
    → Pushes T nodes tasks (Uses T.shapes store first start at) n1 t1 → Pushes T n1 t1 (Use T.shapes store first start at p) n2 t2 → Pushes T nodes tasks (Uses T.shapes store first start (at + 1)) n2 t2
uses_more T nodes n1 n2 tasks t1 t2 store first count start at p room al rg is x y =
    pushes_then T nodes n1 n2 tasks t1 t2 (Uses T.shapes store first start at) (Use T.shapes store first start at p) (Uses T.shapes store first start (at + 1)) x y
    (use_agree T.shapes store first count start at (length nodes) p room al (subst (λ (q : Part). PartWithin start first (first + count) (first + at) q.form) (sym is) (rg.each (first + at) (omega arith) (omega arith))))
    (λ K a u. ((λ k lt. u k (omega arith)), subst (λ q. Use T.shapes store first start at q K a) (sym is) (u at (omega arith))))
    (λ K a u v. λ k lt. elim (ℕ_discrete k at) as (λ d. Use T.shapes store first start k (part_at store (first + k)) K a) [
      | yes e ↦ subst (λ j. Use T.shapes store first start j (part_at store (first + j)) K a) (sym e) (subst (λ q. Use T.shapes store first start at q K a) is v)
      | no ne ↦ u k (grind (arith, ne))
    ])

-- the whole use
module _ (T : Tables) (base : ℕ) (nodes n1 n2 nodes' : List Node) (store : List Part) (first count number : ℕ) (t1 t2 : List Task) (g : IsGraph nodes) (ins : Inside T nodes) (le : base ≤ length nodes) (nl : number < base) (rg : Region (length nodes) store first count)
    (f : Frees T nodes n1) (l1 : length n1 ≡ length nodes + count) (w2 : Each (IsUse (length n2)) t2) (u : Pushes T n1 [] (Uses T.shapes store first (length nodes) count) n2 t1) (is : t2 ≡ t1 ++ task.Same number (length nodes) ∷ []) where
  all_grown : Grown T nodes n2
  all_grown = grown_then T nodes n1 n2 f.grown u.grown

  -- the parts' types as types of the nodes
  uses_of : (K : Kinds) (full a1 parts : Sub) → ((i : ℕ) → i < length nodes → a1 i ≡ full i) → ((k : ℕ) → a1 (length nodes + k) ≡ parts (first + k)) → ((k : ℕ) → first ≤ k → k < first + count → PartFits T.shapes store K full parts (parts k) (part_at store k)) → Uses T.shapes store first (length nodes) count K a1
  uses_of K full a1 parts low high fits k lt =
      let ft = fits (first + k) (omega arith) (omega arith) in
      record { shows = go (part_at store (first + k)).form (rg.each (first + k) (omega arith) (omega arith)) ft.shows; has = subst (λ t. level (part_at store (first + k)).kind ≤ rank K t) (sym (high k)) ft.has }
    where
      back : (m : ℕ) → first ≤ m → a1 (length nodes + (m - first)) ≡ parts m
      back m fm = high (m - first) ∙ ap parts (let z : first + (m - first) ≡ m = omega arith in z)

      go : (o : PartForm) → PartWithin (length nodes) first (first + count) (first + k) o → PartShows T.shapes store full parts (parts (first + k)) o → PartShows T.shapes store a1 (λ m. a1 (length nodes + (m - first))) (a1 (length nodes + k)) o
      go part.Free w s = tt
      go (part.Shared j) w s = high k ∙ s ∙ sym (low j w)
      go (part.Again m) w s = high k ∙ s ∙ sym (back m w.0)
      go (part.Made h x c) w s = let fx : first ≤ x = w.0 in high k ∙ s ∙ ap (Made h) (row_same parts (λ m. a1 (length nodes + (m - first))) x x c (λ i il. sym (back (x + i) (omega arith))))
      go (part.Open x c) w s = let fx : first ≤ x = w.0 in λ i il. subst (λ t. HasPart T.shapes (part_at store (x + i)).label t (a1 (length nodes + (x + i - first)))) (sym (high k)) (subst (HasPart T.shapes (part_at store (x + i)).label (parts (first + k))) (sym (back (x + i) (omega arith))) (s i il))

  use_forth : (K : Kinds) (a : Sub) → Possible T base K a nodes → Instanced T base nodes store first count number K a → (full : Sub) × Agree base full a × Meets T n2 t2 K full
  unfolding Holds
  use_forth K a p h =
      let parts : Sub = h.instance.parts in
      let a1 : Sub = joined (length nodes) h.full (λ k. parts (first + k)) in
      let low : (i : ℕ) → i < length nodes → a1 i ≡ h.full i = λ i l. joined_low (length nodes) h.full (λ k. parts (first + k)) i l in
      let high : (k : ℕ) → a1 (length nodes + k) ≡ parts (first + k) = λ k. joined_high (length nodes) h.full (λ k. parts (first + k)) k in
      let s1 : Solves T K a1 n1 = f.solves K a1 (solves_agree T K h.full a1 nodes g ins (λ i l. sym (low i l)) h.solves) in
      let m1 : Meets T n1 [] K a1 = record { solves = s1; holds = tt } in
      let r = u.forth K a1 m1 (uses_of K h.full a1 parts low high h.instance.fits) in
      let c : 0 < count = rg.some in (
        r.0,
        (λ i l. r.1 i (omega arith) ∙ low i (omega arith) ∙ h.agrees i l),
        record {
          solves = r.2.solves;
          holds = subst (Each (Holds T K r.0)) (sym is) (each_append (Holds T K r.0) t1 (task.Same number (length nodes) ∷ []) r.2.holds
              (r.1 number (omega arith) ∙ low number (omega arith) ∙ h.agrees number nl ∙ h.instance.is ∙ sym (ap a1 (let z : length nodes ≡ length nodes + 0 = omega arith in z) ∙ high 0 ∙ ap parts (let z : first + 0 ≡ first = omega arith in z)) ∙ sym (r.1 (length nodes) (omega arith)), tt));
        },
      )

  use_done : (K : Kinds) (full : Sub) → Meets T n2 t2 K full → Instanced T base nodes store first count number K full
  unfolding Holds
  use_done K full m =
      let hs : Each (Holds T K full) (t1 ++ task.Same number (length nodes) ∷ []) = subst (Each (Holds T K full)) is m.holds in
      let m1 : Meets T n2 t1 K full = record { solves = m.solves; holds = each_left (Holds T K full) t1 (task.Same number (length nodes) ∷ []) hs } in
      let us : Uses T.shapes store first (length nodes) count K full = u.done K full m1 in record {
        full = full;
        agrees = λ i l. refl;
        solves = solves_old T nodes n2 all_grown K full m.solves;
        instance = record {
          parts = λ k. full (length nodes + (k - first));
          fits = λ k p q. subst (λ j. PartFits T.shapes store K full (λ y. full (length nodes + (y - first))) (full (length nodes + (k - first))) (part_at store j)) (let z : first + (k - first) ≡ k = omega arith in z) (us (k - first) (omega arith));
          is = (each_right (Holds T K full) t1 (task.Same number (length nodes) ∷ []) hs).0 ∙ ap full (let z : length nodes ≡ length nodes + (first - first) = omega arith in z);
        };
      }

  use_same : (K : Kinds) (a b : Sub) → Agree base a b → Instanced T base nodes store first count number K a → Instanced T base nodes store first count number K b
  use_same K a b e h = record {
    full = h.full;
    agrees = λ i l. h.agrees i l ∙ e i l;
    solves = h.solves;
    instance = record { parts = h.instance.parts; fits = h.instance.fits; is = sym (e number nl) ∙ h.instance.is };
  }

  pub use_adds : Solved T n2 t2 nodes' → Adds T base (Instanced T base nodes store first count number) (λ home. Unit {0}) nodes nodes'
  use_adds so = adds_solved T base (Instanced T base nodes store first count number) (λ home. Unit {0}) nodes n2 nodes' t2 le all_grown (λ home h. uses_allowed (length n2) home t2 w2) use_forth use_done use_same so

  pub use_nowhere : Unmet T n2 t2 → Nowhere T base (Instanced T base nodes store first count number) nodes
  use_nowhere un = nowhere_solved T base (Instanced T base nodes store first count number) (λ home. Unit {0}) nodes n2 nodes' t2 le all_grown (λ home h. uses_allowed (length n2) home t2 w2) use_forth use_done use_same un

pub all_done : (at count : ℕ) → at ≤ count → count ≤ at → at ≡ count
all_done at count p q = omega arith

-- the tasks of a use, and what it adds
pub use_tasks : (nodes n1 n2 : List Node) (base count number start : ℕ) (t1 t2 : List Task) → base ≤ length nodes → number < base → 0 < count → start ≡ length nodes → length n1 ≡ length nodes + count → length n1 ≤ length n2 → Each (IsUse (length n2)) t1 → t2 ≡ t1 ++ task.Same number start ∷ [] → Each (IsUse (length n2)) t2
use_tasks nodes n1 n2 base count number start t1 t2 le nl some st l1 more w is = subst (Each (IsUse (length n2))) (sym is) (each_append (IsUse (length n2)) t1 (task.Same number start ∷ []) w ((omega arith, omega arith), tt))

pub use_labels : (table : ShapeTable) (number start : ℕ) (t1 t2 : List Task) → Each (IsLabelled table) t1 → t2 ≡ t1 ++ task.Same number start ∷ [] → Each (IsLabelled table) t2
use_labels table number start t1 t2 l is = subst (Each (IsLabelled table)) (sym is) (each_append (IsLabelled table) t1 (task.Same number start ∷ []) l (tt, tt))
