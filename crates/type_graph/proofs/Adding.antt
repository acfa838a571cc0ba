-- What the claims add.
use Rattle.std.proofs.Common.{◌≡◌, ℕ, zero, suc, ◌+◌, ◌≤◌, ◌<◌, List, [], ◌∷◌, ◌++◌, length, refl, sym, ◌∙◌, ap, subst, arith}
use mathlib.Core.Logic.{◌⊎◌, inl, inr}
use Rattle.fut_types.specs.declared.Kind.{Kind}
use Rattle.fut_types.specs.declared.Head.{Head}
use Rattle.fut_types.specs.declared.Head.TheVariants as head
use Rattle.fut_types.specs.declared.shapes.ShapeTable.{ShapeTable}
use Rattle.fut_types.specs.Types.{Made, Tys, more, Sub, Kinds, level, rank, row}
use Rattle.fut_types.specs.Shapes.{HasPart, IsKnown}
use Rattle.type_graph.specs.declared.Form.TheVariants as form
use Rattle.type_graph.specs.declared.Node.{Node}
use Rattle.type_graph.specs.declared.Entry.{Entry}
use Rattle.type_graph.specs.declared.Task.{Task}
use Rattle.type_graph.specs.declared.Task.TheVariants as task
use Rattle.type_graph.specs.Graph.{far, node_at, entry_at, parts_of, Reading, Tables, read, type_made, IsGraph, IsMaker, IsParameter, Told, Each, numbers, Fits, Meets, Holds, Solves, IsBound, Bound, IsTask, AreEntries, Kept, Solved, Unmet}
use Rattle.type_graph.proofs.Ends.{told_grows}
use Rattle.type_graph.proofs.Loop.{self_tables, told_self}
use Rattle.type_graph.specs.Claims.{new_node, parameter_node, links, types_of, Sound, Extends, Allowed, Possible, Adds, Nowhere, Stands, Bears, Inside, Grown}
use Rattle.type_graph.proofs.Grown.{made_no_link, same_parameter, push_graph, last_shows, state_new, backed_new, extend_at, grown_none, grown_push, grown_then, grown_links, links_full, links_row, long_links, links_more, links_none, lt_or, long_new, node_new, node_old, solves_old, same_types, extend_one, extend_low, extend_last, joined, waits_more, backed_more, sound_inside}

abbrev pub Agree : ℕ → Sub → Sub → Type 0
Agree n a b = (i : ℕ) → i < n → a i ≡ b i

-- nodes are added, and then tasks done
module _ (T : Tables) (base : ℕ) (P : Kinds → Sub → Type 0) (H : (ℕ → ℕ) → Type 0) (nodes nodes1 nodes' : List Node) (tasks : List Task) (le : base ≤ length nodes) (gr : Grown T nodes nodes1) (allowed : (home : ℕ → ℕ) → H home → Each (Allowed home) tasks)
    (forth : (K : Kinds) (a : Sub) → Possible T base K a nodes → P K a → (full : Sub) × Agree base full a × Meets T nodes1 tasks K full)
    (done : (K : Kinds) (full : Sub) → Meets T nodes1 tasks K full → P K full)
    (same : (K : Kinds) (a b : Sub) → Agree base a b → P K a → P K b) where
  pub adds_solved : Solved T nodes1 tasks nodes' → Adds T base P H nodes nodes'
  adds_solved so = record {
    forth = λ K a p h. let f = forth K a p h in record { full = f.0; agrees = f.1; solves = so.forth K f.0 f.2 };
    back = λ K a p. record { full = p.full; agrees = p.agrees; solves = solves_old T nodes nodes1 gr K p.full (so.back K p.full p.solves).solves };
    done = λ K a p. same K p.full a p.agrees (done K p.full (so.back K p.full p.solves));
    keeps = λ K a s. solves_old T nodes nodes1 gr K a (so.back K a s).solves;
    state = λ home s. so.state home base (waits_more T home base nodes1 tasks (gr.state home base le s));
    backed = λ home born h b. so.backed home born (backed_more T home born nodes1 tasks (allowed home h) (gr.backed home born b));
  }

  pub nowhere_solved : Unmet T nodes1 tasks → Nowhere T base P nodes
  nowhere_solved un pl K a p h = let f = forth K a p h in un pl K f.0 f.2

pub task_within : (table : ShapeTable) (n m : ℕ) (t : Task) → n ≤ m → IsTask table n t → IsTask table m t
unfolding IsTask
task_within table n m (task.Same i j) le h = let p : i < n = h.0 in let q : j < n = h.1 in (omega arith, omega arith)
task_within table n m (task.Has i k l) le h = omega arith
task_within table n m (task.Part i label c) le h = let p : i < n = h.0 in let q : c < n = h.1 in (omega arith, omega arith, h.2)

holds_agree : (table : ShapeTable) (n : ℕ) (T : Tables) (K : Kinds) (a b : Sub) (t : Task) → Agree n a b → IsTask table n t → Holds T K a t → Holds T K b t
unfolding IsTask Holds
holds_agree table n T K a b (task.Same i j) e h p = sym (e i h.0) ∙ p ∙ e j h.1
holds_agree table n T K a b (task.Has i k l) e h p = subst (λ t. level k ≤ rank K t) (e i h) p
holds_agree table n T K a b (task.Part i label c) e h p = subst (λ t. HasPart T.shapes label t (b c)) (e i h.0) (subst (HasPart T.shapes label (a i)) (e c h.1) p)

-- the entries of more nodes
pub entries_more : (table : ShapeTable) (n m : ℕ) (entries : List Entry) → n ≤ m → AreEntries table n entries → AreEntries table m entries
entries_more table n m entries le a = record { within = λ e lt. let p = a.within e lt in ((let q : (entry_at entries e).child < n = p.0 in omega arith), p.1, p.2) }

pub extends_kept : (table : ShapeTable) (nodes nodes1 nodes' : List Node) (entries entries' : List Entry) → length nodes ≤ length nodes1 → Kept table nodes1 nodes' entries entries' → Extends table nodes entries nodes' entries'
extends_kept table nodes nodes1 nodes' entries entries' le k = record {
  sound = record { graph = k.graph; bound = k.bound; are = subst (λ n. AreEntries table n entries') (sym k.long) k.grows.are };
  longer = let e : length nodes' ≡ length nodes1 = k.long in omega arith;
  told = λ T t. told_grows table (length nodes1) entries entries' T k.grows t;
}

-- one task
module _ (table : ShapeTable) (T : Tables) (base : ℕ) (nodes nodes' : List Node) (entries entries' : List Entry) (t : Task) (s : Sound table nodes entries) (told : Told table entries T) (le : base ≤ length nodes) (w : IsTask table base t) where
  task_forth : (K : Kinds) (a : Sub) → Possible T base K a nodes → Holds T K a t → (full : Sub) × Agree base full a × Meets T nodes (t ∷ []) K full
  task_forth K a p h = (p.full, p.agrees, record { solves = p.solves; holds = (holds_agree table base T K a p.full t (λ i lt. sym (p.agrees i lt)) w h, tt) })

  pub task_adds : Solved T nodes (t ∷ []) nodes' → Adds T base (λ K a. Holds T K a t) (λ home. Allowed home t) nodes nodes'
  task_adds so = adds_solved T base (λ K a. Holds T K a t) (λ home. Allowed home t) nodes nodes nodes' (t ∷ []) le (grown_none T nodes s.graph (sound_inside table nodes entries T s told)) (λ home h. (h, tt)) task_forth (λ K full m. m.holds.0) (λ K a b e h. holds_agree table base T K a b t e w h) so

  pub task_nowhere : Unmet T nodes (t ∷ []) → Nowhere T base (λ K a. Holds T K a t) nodes
  task_nowhere un = nowhere_solved T base (λ K a. Holds T K a t) (λ home. Allowed home t) nodes nodes nodes' (t ∷ []) le (grown_none T nodes s.graph (sound_inside table nodes entries T s told)) (λ home h. (h, tt)) task_forth (λ K full m. m.holds.0) (λ K a b e h. holds_agree table base T K a b t e w h) un

row_low : (b c : Sub) (x n m : ℕ) → x + n ≤ m → ((i : ℕ) → i < m → b i ≡ c i) → row b x n ≡ row c x n
row_low b c x zero m le e = refl
row_low b c x (suc n) m le e = λ i. more (e x (omega arith) i) (row_low b c (suc x) n m (omega arith) e i)

-- heads and chains of more nodes
pub bound_push : (table : ShapeTable) (m : ℕ) (nodes : List Node) (x : Node) → IsBound table m nodes → Bound table m x.form → IsBound table m (nodes ++ x ∷ [])
bound_push table m nodes x b bx = record {
  forms = λ i lt. elim (lt_or i (length nodes)) as (λ d. Bound table m (node_at (nodes ++ x ∷ []) i).form) [
    | inl h ↦ subst (λ (n : Node). Bound table m n.form) (sym (node_old nodes x i h)) (b.forms i h)
    | inr h ↦ let z : length nodes ≡ i = (let l : length (nodes ++ x ∷ []) ≡ suc (length nodes) = long_new nodes x in omega arith) in
        subst (λ j. Bound table m (node_at (nodes ++ x ∷ []) j).form) z (subst (λ (n : Node). Bound table m n.form) (sym (node_new nodes x)) bx)
  ];
}

bound_links : (table : ShapeTable) (m : ℕ) (ps : List ℕ) (nodes : List Node) → IsBound table m nodes → IsBound table m (nodes ++ links ps)
bound_links table m [] nodes b = subst (IsBound table m) (sym (links_none nodes)) b
bound_links table m (p ∷ ps) nodes b = subst (IsBound table m) (sym (links_more p ps nodes)) (bound_links table m ps (nodes ++ new_node (form.Link p) ∷ []) (bound_push table m nodes (new_node (form.Link p)) b tt))

-- a head that is no type parameter's makes what it makes
pub maker_made : (v : Reading) (h : Head) (ts : Tys) → IsMaker h → type_made v h ts ≡ Made h ts
maker_made v (head.Rigid n k) ts m = absurd m
maker_made v (head.Scalar s) ts m = refl
maker_made v head.Array ts m = refl
maker_made v head.Tuple ts m = refl
maker_made v (head.Record n) ts m = refl
maker_made v head.Fun ts m = refl
maker_made v (head.Abstract n d) ts m = refl

-- a head of a row
module _ (table : ShapeTable) (base : ℕ) (nodes n1 n2 : List Node) (entries : List Entry) (number : ℕ) (h : Head) (ps : List ℕ) (s : Sound table nodes entries) (le : base ≤ length nodes) (lt : number < base) (kn : IsKnown table h) (mk : IsMaker h) (lp : Each (λ p. p < base) ps) (room : length n1 < 4294967294)
    (is1 : n1 ≡ nodes ++ links ps) (is2 : n2 ≡ n1 ++ new_node (form.Made h (length nodes) (length ps)) ∷ []) where
  long1 : length n1 ≡ length nodes + length ps
  long1 = ap length is1 ∙ long_links ps nodes

  long2 : length n2 ≡ length nodes + length ps + 1
  long2 = ap length is2 ∙ long_new n1 (new_node (form.Made h (length nodes) (length ps))) ∙ ap suc long1 ∙ omega arith

  row_in : length nodes + length ps ≤ length n1
  row_in = let e : length n1 ≡ length nodes + length ps = long1 in omega arith

  low_parts : Each (λ p. p < length nodes) ps
  low_parts = go ps lp
    where
      go : (qs : List ℕ) → Each (λ p. p < base) qs → Each (λ p. p < length nodes) qs
      go [] h = tt
      go (q ∷ qs) h = ((let p : q < base = h.0 in omega arith), go qs h.1)

  row_inside : (m x n : ℕ) → x + n ≤ m → Each (λ c. c < m) (numbers x n)
  unfolding numbers
  row_inside m x zero h = tt
  row_inside m x (suc n) h = (omega arith, row_inside m (suc x) n (omega arith))

  module _ (T : Tables) (inn : Inside T nodes) where
    grown1 : Grown T nodes n1
    grown1 = subst (Grown T nodes) (sym is1) (grown_links T ps nodes s.graph inn (let e : length n1 ≡ length nodes + length ps = long1 in omega arith) low_parts)

    grown2 : Grown T n1 n2
    grown2 = subst (Grown T n1) (sym is2) (grown_push T n1 (form.Made h (length nodes) (length ps)) grown1.graph grown1.inside (omega arith) row_in mk (row_inside (length n1) (length nodes) (length ps) row_in))

    pub made_grown : Grown T nodes n2
    made_grown = grown_then T nodes n1 n2 grown1 grown2

    made_node : node_at n2 (length n1) ≡ new_node (form.Made h (length nodes) (length ps))
    made_node = ap (λ ns. node_at ns (length n1)) is2 ∙ node_new n1 (new_node (form.Made h (length nodes) (length ps)))

    made_forth : (K : Kinds) (a : Sub) → Possible T base K a nodes → a number ≡ Made h (types_of a ps) → (full : Sub) × Agree base full a × Meets T n2 (task.Same number (length n1) ∷ []) K full
    unfolding Holds
    made_forth K a p eq =
        let q = links_full T K ps nodes p.full s.graph inn (let e : length n1 ≡ length nodes + length ps = long1 in omega arith) low_parts p.solves in
        let f1 : Sub = q.0 in
        let s1 : Solves T K f1 n1 = subst (Solves T K f1) (sym is1) q.2 in
        let full : Sub = joined (length n1) f1 (λ k. a number) in
        let low : (i : ℕ) → i < length n1 → full i ≡ f1 i = λ i l. extend_low T n1 (form.Made h (length nodes) (length ps)) grown1.graph grown1.inside K f1 (a number) i l in
        let last : full (length n1) ≡ a number = extend_last T n1 (form.Made h (length nodes) (length ps)) grown1.graph grown1.inside K f1 (a number) in
        let len : length n1 ≡ length nodes + length ps = long1 in
        let types : types_of p.full ps ≡ types_of a ps = same_types base p.full a ps p.agrees lp in
        let shows : full (length n1) ≡ Made h (row full (length nodes) (length ps)) = last ∙ eq ∙ ap (Made h) (sym types ∙ sym q.3 ∙ row_low f1 full (length nodes) (length ps) (length n1) row_in (λ i l. sym (low i l))) in (
          full,
          (λ i l. low i (omega arith) ∙ q.1 i (omega arith) ∙ p.agrees i l),
          record {
            solves = subst (Solves T K full) (sym is2) (extend_one T n1 (form.Made h (length nodes) (length ps)) grown1.graph grown1.inside K f1 (a number) s1 (shows ∙ sym (maker_made T.rigid h _ mk)));
            holds = (low number (omega arith) ∙ q.1 number (omega arith) ∙ p.agrees number lt ∙ sym last, tt);
          },
        )

    made_done : (K : Kinds) (full : Sub) → Meets T n2 (task.Same number (length n1) ∷ []) K full → full number ≡ Made h (types_of full ps)
    unfolding Holds
    made_done K full m =
        let e2 : length n2 ≡ length nodes + length ps + 1 = long2 in let e1 : length n1 ≡ length nodes + length ps = long1 in
        let s1 : Solves T K full (nodes ++ links ps) = subst (Solves T K full) is1 (solves_old T n1 n2 grown2 K full m.solves) in
        m.holds.0 ∙ (subst (Fits T K full (full (length n1))) made_node (m.solves.fits (length n1) (omega arith))).shows ∙ maker_made T.rigid h _ mk ∙ ap (Made h) (links_row T K full ps nodes s1)

    made_same : (K : Kinds) (a b : Sub) → Agree base a b → a number ≡ Made h (types_of a ps) → b number ≡ Made h (types_of b ps)
    made_same K a b e p = sym (e number lt) ∙ p ∙ ap (Made h) (same_types base a b ps e lp)

    pub made_adds : (nodes' : List Node) → Solved T n2 (task.Same number (length n1) ∷ []) nodes' → Adds T base (λ K a. a number ≡ Made h (types_of a ps)) (λ home. Unit {0}) nodes nodes'
    made_adds nodes' so = adds_solved T base (λ K a. a number ≡ Made h (types_of a ps)) (λ home. Unit {0}) nodes n2 nodes' (task.Same number (length n1) ∷ []) le made_grown (λ home h. (tt, tt)) made_forth made_done made_same so

    pub made_nowhere : Unmet T n2 (task.Same number (length n1) ∷ []) → Nowhere T base (λ K a. a number ≡ Made h (types_of a ps)) nodes
    made_nowhere un = nowhere_solved T base (λ K a. a number ≡ Made h (types_of a ps)) (λ home. Unit {0}) nodes n2 nodes (task.Same number (length n1) ∷ []) le made_grown (λ home h. (tt, tt)) made_forth made_done made_same un

  pub made_sound : Sound table n2 entries
  made_sound = let T = self_tables table entries in let inn = sound_inside table nodes entries T s (told_self table entries) in record {
    graph = (made_grown T inn).graph;
    bound = subst (IsBound table (length entries)) (sym is2) (bound_push table (length entries) n1 _ (subst (IsBound table (length entries)) (sym is1) (bound_links table (length entries) ps nodes s.bound)) kn);
    are = entries_more table (length nodes) (length n2) entries (let e2 : length n2 ≡ length nodes + length ps + 1 = long2 in omega arith) s.are;
  }

  pub made_task : IsTask table (length n2) (task.Same number (length n1))
  unfolding IsTask
  made_task = let e2 : length n2 ≡ length nodes + length ps + 1 = long2 in let e1 : length n1 ≡ length nodes + length ps = long1 in (omega arith, omega arith)

  pub made_longer : length nodes ≤ length n2
  made_longer = let e2 : length n2 ≡ length nodes + length ps + 1 = long2 in omega arith

-- a type parameter's node
module _ (table : ShapeTable) (base : ℕ) (nodes : List Node) (entries : List Entry) (n : ℕ) (k : Kind) (l : ℕ) (s : Sound table nodes entries) (le : base ≤ length nodes) (near : l ≤ far) (room : length nodes < 4294967294) where
  none_own : (T : Tables) → Each (λ c. c < length nodes) (parts_of T (form.Made (head.Rigid n k) 0 0))
  unfolding numbers
  none_own T = tt

  flat : (T : Tables) → (far ≤ l) ⊎ (parts_of T (form.Made (head.Rigid n k) 0 0) ≡ [])
  unfolding numbers
  flat T = inr refl

  bears_graph : IsGraph (nodes ++ parameter_node n k l ∷ [])
  bears_graph = push_graph nodes (parameter_node n k l) s.graph (omega arith) (omega arith) refl near

  rigid_known : IsKnown table (head.Rigid n k)
  unfolding IsKnown
  rigid_known = tt

  bears_sound : Sound table (nodes ++ parameter_node n k l ∷ []) entries
  bears_sound = record {
    graph = bears_graph;
    bound = bound_push table (length entries) nodes (parameter_node n k l) s.bound rigid_known;
    are = entries_more table (length nodes) (length (nodes ++ parameter_node n k l ∷ [])) entries (let e : length (nodes ++ parameter_node n k l ∷ []) ≡ suc (length nodes) = long_new nodes (parameter_node n k l) in omega arith) s.are;
  }

  pub bears_extends : (nodes' : List Node) → nodes' ≡ nodes ++ parameter_node n k l ∷ [] → Extends table nodes entries nodes' entries
  bears_extends nodes' is = subst (λ ns. Extends table nodes entries ns entries) (sym is) (record { sound = bears_sound; longer = (let e : length (nodes ++ parameter_node n k l ∷ []) ≡ suc (length nodes) = long_new nodes (parameter_node n k l) in omega arith); told = λ T t. t })

  module _ (T : Tables) (inn : Inside T nodes) (seat : T.seat n ≡ length nodes) where
    no_other : (m : ℕ) → IsParameter m (form.Made (head.Rigid n k) 0 0) → T.seat m ≡ length nodes
    no_other m p = subst (λ j. T.seat j ≡ length nodes) (same_parameter n m k p) seat

    shows_it : (v : Reading) (K : Kinds) (a : Sub) → Solves (read T v) K a (nodes ++ parameter_node n k l ∷ []) → a (length nodes) ≡ v n k
    shows_it v K a sol = last_shows T nodes (form.Made (head.Rigid n k) 0 0) l s.graph inn (omega arith) (omega arith) (none_own T) near refl tt no_other (flat T) (λ j e. absurd (made_no_link (head.Rigid n k) 0 0 j e)) v K a (record { solves = sol; holds = tt })

    first_solve : (K : Kinds) (a : Sub) → Solves T K a (nodes ++ parameter_node n k l ∷ []) → Solves T K a nodes
    first_solve K a sol = record { fits = λ i lt. subst (Fits T K a (a i)) (node_old nodes (parameter_node n k l) i lt) (sol.fits i (let e : length (nodes ++ parameter_node n k l ∷ []) ≡ suc (length nodes) = long_new nodes (parameter_node n k l) in omega arith)) }

    pub bears : (nodes' : List Node) → nodes' ≡ nodes ++ parameter_node n k l ∷ [] → Bears T base n k l nodes nodes'
    bears nodes' is = subst (Bears T base n k l nodes) (sym is) (record {
      forth = λ K a p. record {
        full = joined (length nodes) p.full (λ j. T.rigid n k);
        agrees = λ i lt. extend_low T nodes (form.Made (head.Rigid n k) 0 0) s.graph inn K p.full (T.rigid n k) i (omega arith) ∙ p.agrees i lt;
        solves = extend_at T nodes (form.Made (head.Rigid n k) 0 0) s.graph inn K p.full (T.rigid n k) l p.solves (extend_last T nodes (form.Made (head.Rigid n k) 0 0) s.graph inn K p.full (T.rigid n k));
      };
      back = λ K a p. record { full = p.full; agrees = p.agrees; solves = first_solve K p.full p.solves };
      keeps = first_solve;
      stands = λ K a sol. shows_it T.rigid K a sol;
      state = λ home st. state_new T nodes (form.Made (head.Rigid n k) 0 0) l s.graph inn (omega arith) (omega arith) (none_own T) near refl tt no_other (flat T) (λ j e. absurd (made_no_link (head.Rigid n k) 0 0 j e)) home base le st;
      backed = λ home born lb b. backed_new T nodes (form.Made (head.Rigid n k) 0 0) l s.graph inn (omega arith) (omega arith) (none_own T) near refl tt no_other (flat T) (λ j e. absurd (made_no_link (head.Rigid n k) 0 0 j e)) home born
          (λ lt v K a v' K' a' m m' same. shows_it v K a m.solves ∙ same.parameters n k lb ∙ sym (shows_it v' K' a' m'.solves)) b;
    })

pub parameter_within : (table : ShapeTable) (base number at : ℕ) (nodes : List Node) → base ≤ length nodes → number < base → at < length nodes → IsTask table (length nodes) (task.Same number at)
unfolding IsTask
parameter_within table base number at nodes le lt la = (omega arith, la)

-- a node has the type of a type parameter
module _ (table : ShapeTable) (T : Tables) (base number at n : ℕ) (k : Kind) (nodes nodes' : List Node) (entries : List Entry) (s : Sound table nodes entries) (told : Told table entries T) (le : base ≤ length nodes) (lt : number < base) (st : Stands T nodes at n k) where
  parameter_forth : (K : Kinds) (a : Sub) → Possible T base K a nodes → a number ≡ T.rigid n k → (full : Sub) × Agree base full a × Meets T nodes (task.Same number at ∷ []) K full
  unfolding Holds
  parameter_forth K a p h = (p.full, p.agrees, record { solves = p.solves; holds = (p.agrees number lt ∙ h ∙ sym (st K p.full p.solves), tt) })

  parameter_done : (K : Kinds) (full : Sub) → Meets T nodes (task.Same number at ∷ []) K full → full number ≡ T.rigid n k
  unfolding Holds
  parameter_done K full m = m.holds.0 ∙ st K full m.solves

  pub parameter_adds : Solved T nodes (task.Same number at ∷ []) nodes' → Adds T base (λ K a. a number ≡ T.rigid n k) (λ home. Unit {0}) nodes nodes'
  parameter_adds so = adds_solved T base (λ K a. a number ≡ T.rigid n k) (λ home. Unit {0}) nodes nodes nodes' (task.Same number at ∷ []) le (grown_none T nodes s.graph (sound_inside table nodes entries T s told)) (λ home h. (tt, tt)) parameter_forth parameter_done (λ K a b e h. sym (e number lt) ∙ h) so

  pub parameter_nowhere : Unmet T nodes (task.Same number at ∷ []) → Nowhere T base (λ K a. a number ≡ T.rigid n k) nodes
  parameter_nowhere un = nowhere_solved T base (λ K a. a number ≡ T.rigid n k) (λ home. Unit {0}) nodes nodes nodes' (task.Same number at ∷ []) le (grown_none T nodes s.graph (sound_inside table nodes entries T s told)) (λ home h. (tt, tt)) parameter_forth parameter_done (λ K a b e h. sym (e number lt) ∙ h) un
