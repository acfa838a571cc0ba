-- The loop over the tasks.
use Rattle.std.proofs.Common.{◌≡◌, ℕ, ◌+◌, ◌≤◌, ◌<◌, List, [], ◌∷◌, ◌++◌, length, refl, sym, ◌∙◌, ap, subst, arith}
use Rattle.fut_types.specs.declared.shapes.ShapeTable.{ShapeTable}
use Rattle.fut_types.specs.declared.Head.TheVariants as head
use Rattle.fut_types.specs.Types.{Made, none, Sub, Kinds}
use Rattle.fut_types.specs.Shapes.{Shapes, fields_of, position_at}
use Rattle.fut_types.proofs.ShapeLaws.{tells_same}
use Rattle.type_graph.specs.declared.Node.{Node}
use Rattle.type_graph.specs.declared.Entry.{Entry}
use Rattle.type_graph.specs.declared.Task.{Task}
use Rattle.type_graph.specs.Graph.{entry_at, Tables, Told, Holds, Each, Meets, Meeting, IsGraph, IsBound, Bound, IsTask, AreEntries, Grows, Kept, task_weight, node_weight, total, roots, weigh, node_at, Does, Refuses, Solved, Unmet}
use Rattle.type_graph.specs.State.{State, Backed}
use Rattle.type_graph.specs.declared.Form.{Form}
use Rattle.type_graph.specs.declared.Form.TheVariants as form
use Rattle.type_graph.proofs.GraphLaws.{total_less}
use Rattle.type_graph.proofs.Cases.{each_append, each_left, each_right, total_append, total_one, total_none, lighter_task}
use Rattle.type_graph.proofs.Ends.{grows_none}

-- what the tables in hand say
table_shapes : ShapeTable → Shapes
table_shapes table = record { fields = fields_of table; position = position_at table }

pub self_tables : ShapeTable → List Entry → Tables
self_tables table entries = record { shapes = table_shapes table; entry = entry_at entries; rigid = λ n k. Made (head.Rigid n k) none; seat = λ n. 0 }

pub told_self : (table : ShapeTable) (entries : List Entry) → Told table entries (self_tables table entries)
unfolding self_tables table_shapes
told_self table entries = record { shapes = record { fields = λ n lt. refl; position = λ l lt. tells_same (position_at table l) _ refl }; listed = λ e lt. refl }

pub bound_more : (table : ShapeTable) (m m' : ℕ) (nodes : List Node) → m ≤ m' → IsBound table m nodes → IsBound table m' nodes
bound_more table m m' nodes h b = record { forms = λ i lt. go (node_at nodes i).form (b.forms i lt) }
  where
    go : (f : Form) → Bound table m f → Bound table m' f
    go form.Free d = tt
    go (form.Link j) d = tt
    go (form.Made g x n) d = d
    go (form.Open e n) d = ((let p : e < m = d.0 in omega arith), (let q : n ≤ m = d.1 in omega arith))

-- where the loop stands: what is left has the solutions of what it began with
pub record SoFar (T : Tables) (nodes : List Node) (tasks : List Task) (nodes' : List Node) (tasks' : List Task) : Type 0 where
  pub forth : (K : Kinds) (a : Sub) → Meets T nodes tasks K a → Meets T nodes' tasks' K a
  pub back : (K : Kinds) (a : Sub) → Meets T nodes' tasks' K a → Meets T nodes tasks K a
  pub state : (home : ℕ → ℕ) (base : ℕ) → State T home base nodes tasks → State T home base nodes' tasks'
  pub backed : (home born : ℕ → ℕ) → Backed (Meeting T nodes tasks) home born nodes tasks → Backed (Meeting T nodes' tasks') home born nodes' tasks'

pub so_far_none : (T : Tables) (nodes : List Node) (tasks : List Task) → SoFar T nodes tasks nodes tasks
so_far_none T nodes tasks = record { forth = λ K a m. m; back = λ K a m. m; state = λ home base s. s; backed = λ home born b. b }

pub kept_none : (table : ShapeTable) (nodes : List Node) (entries : List Entry) → IsGraph nodes → IsBound table (length entries) nodes → AreEntries table (length nodes) entries → Kept table nodes nodes entries entries
kept_none table nodes entries g b a = record { graph = g; long = refl; bound = b; grows = grows_none table (length nodes) entries a }

pub grows_then : (table : ShapeTable) (n n' : ℕ) (e0 e1 e2 : List Entry) → n' ≡ n → Grows table n e0 e1 → Grows table n' e1 e2 → Grows table n e0 e2
grows_then table n n' e0 e1 e2 long x y = record {
  are = subst (λ k. AreEntries table k e2) long y.are;
  more = let p : length e1 ≤ length e2 = y.more in let q : length e0 ≤ length e1 = x.more in omega arith;
  stay = λ e lt. y.stay e (let q : length e0 ≤ length e1 = x.more in omega arith) ∙ x.stay e lt;
}

module _ (tasks' rest : List Task) (t : Task) (is : tasks' ≡ rest ++ t ∷ []) where
  pub last_within : (P : Task → Type 0) → Each P tasks' → P t
  last_within P h = (each_right P rest (t ∷ []) (subst (Each P) is h)).0

  pub last_refused : (T : Tables) (nodes : List Node) (tasks : List Task) (nodes' : List Node) → SoFar T nodes tasks nodes' tasks' → Refuses T nodes' t → Unmet T nodes tasks
  last_refused T nodes tasks nodes' so r pl K a m = let m' = so.forth K a m in r pl K a m'.solves (last_within (Holds T K a) m'.holds)

  module _ (table : ShapeTable) (m : ℕ) (T : Tables) (nodes' nodes'' : List Node) (tasks'' : List Task) (d : Does table m T nodes' rest t nodes'' tasks'') where
    pub so_far_more : (nodes : List Node) (tasks : List Task) → SoFar T nodes tasks nodes' tasks' → SoFar T nodes tasks nodes'' tasks''
    so_far_more nodes tasks so =
        let r = d.reduces in let so_is = subst (SoFar T nodes tasks nodes') is so in
        subst (SoFar T nodes tasks nodes'') (sym d.is) (record {
          forth = λ K a m. let m' = so_is.forth K a m in
              let n = r.forth K a m'.solves (each_right (Holds T K a) rest (t ∷ []) m'.holds).0 in
              record { solves = n.solves; holds = each_append (Holds T K a) rest d.added (each_left (Holds T K a) rest (t ∷ []) m'.holds) n.holds };
          back = λ K a m.
              let n : Meets T nodes'' d.added K a = record { solves = m.solves; holds = each_right (Holds T K a) rest d.added m.holds } in
              so_is.back K a (record { solves = r.back K a n; holds = each_append (Holds T K a) rest (t ∷ []) (each_left (Holds T K a) rest d.added m.holds) (r.done K a n, tt) });
          state = λ home base s. r.state home base rest (so_is.state home base s);
          backed = λ home born b. r.backed home born rest (so_is.backed home born b);
        })

    pub so_far_less : weigh nodes'' tasks'' < weigh nodes' tasks'
    so_far_less =
        let e : total (task_weight (roots nodes'')) tasks'' ≡ total (task_weight (roots nodes'')) rest + total (task_weight (roots nodes'')) d.added = ap (total (task_weight (roots nodes''))) d.is ∙ total_append (task_weight (roots nodes'')) rest d.added in
        let f : total (task_weight (roots nodes')) tasks' ≡ total (task_weight (roots nodes')) rest + total (task_weight (roots nodes')) (t ∷ []) = ap (total (task_weight (roots nodes'))) is ∙ total_append (task_weight (roots nodes')) rest (t ∷ []) in
        let g : total (task_weight (roots nodes')) (t ∷ []) ≡ task_weight (roots nodes') t + total (task_weight (roots nodes')) [] = total_one (task_weight (roots nodes')) t [] in
        let h : total (task_weight (roots nodes')) [] ≡ 0 = total_none (task_weight (roots nodes')) in
        let u : total (task_weight (roots nodes'')) rest ≤ total (task_weight (roots nodes')) rest = total_less _ _ (lighter_task (roots nodes') (roots nodes'') d.reduces.fewer) rest in
        let l : weigh nodes'' d.added < total (node_weight (roots nodes')) nodes' + task_weight (roots nodes') t = d.reduces.less in
        omega arith

    pub tasks_within : Each (IsTask table (length nodes')) tasks' → Each (IsTask table (length nodes'')) tasks''
    tasks_within h = subst (Each (IsTask table (length nodes''))) (sym d.is) (subst (λ n. Each (IsTask table n) (rest ++ d.added)) (sym d.reduces.long)
        (each_append (IsTask table (length nodes')) rest d.added (each_left (IsTask table (length nodes')) rest (t ∷ []) (subst (Each (IsTask table (length nodes'))) is h)) d.reduces.within))

    pub kept_more : (nodes : List Node) (entries entries' entries'' : List Entry) → Kept table nodes nodes' entries entries' → Grows table (length nodes') entries' entries'' → m ≡ length entries'' → Kept table nodes nodes'' entries entries''
    kept_more nodes entries entries' entries'' k g em = record {
      graph = d.reduces.graph;
      long = d.reduces.long ∙ k.long;
      bound = subst (λ n. IsBound table n nodes'') em (d.reduces.bound (bound_more table (length entries') m nodes' (let p : length entries' ≤ length entries'' = g.more in omega arith) k.bound));
      grows = grows_then table (length nodes) (length nodes') entries entries' entries'' k.long k.grows g;
    }

pub so_far_all : (T : Tables) (nodes : List Node) (tasks : List Task) (nodes' : List Node) → SoFar T nodes tasks nodes' [] → Solved T nodes tasks nodes'
so_far_all T nodes tasks nodes' so = record {
  forth = λ K a m. (so.forth K a m).solves;
  back = λ K a s. so.back K a (record { solves = s; holds = tt });
  state = so.state;
  backed = so.backed;
}
