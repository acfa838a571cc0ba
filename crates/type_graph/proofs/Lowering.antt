-- Levels that are lowered.
use Rattle.std.proofs.Common.{◌≡◌, ℕ, ◌+◌, ◌≤◌, ◌<◌, List, [], ◌∷◌, length, sym, ◌∙◌, ap, subst, arith}
use native.Mathlib.Decide.{ℕ_discrete}
use Rattle.fut_types.specs.declared.Kind.{Kind}
use Rattle.fut_types.specs.declared.Kind.TheVariants as kind
use Rattle.fut_types.specs.declared.Head.{Head}
use Rattle.fut_types.specs.declared.shapes.ShapeTable.{ShapeTable}
use Rattle.fut_types.specs.Types.{Made, Sub, Kinds, row}
use Rattle.fut_types.proofs.TyLaws.{row_same}
use Rattle.type_graph.specs.declared.Form.TheVariants as form
use Rattle.type_graph.specs.declared.Node.{Node}
use Rattle.type_graph.specs.declared.Entry.{Entry}
use Rattle.type_graph.specs.declared.Task.{Task}
use Rattle.type_graph.specs.declared.Task.TheVariants as task
use Rattle.type_graph.specs.Graph.{node_at, IsTask, Reading, Tables, read, IsGraph, IsMaker, Shows, Holds, Meeting, Found, Within, AreEntries, Kept, Solved}
use Rattle.type_graph.specs.State.{Fixed, Backed}
use Rattle.type_graph.proofs.StateLaws.{fixed_less}
use Rattle.type_graph.proofs.Loop.{grows_then}
use Rattle.type_graph.specs.Claims.{Sound}
use Rattle.type_graph.specs.Levels.{Reaches, Over, Lowered}
use Rattle.type_graph.proofs.Grown.{waits_more}
use Rattle.type_graph.proofs.Adding.{maker_made}

-- what is made of parts that are fixed at a level is fixed there
module _ (T : Tables) (home born : ℕ → ℕ) (nodes : List Node) (number root l first count : ℕ) (h : Head) (f : Found nodes number root) (is : (node_at nodes root).form ≡ form.Made h first count) (mk : IsMaker h) (o : Over nodes first count l) where
  shown : (r : Reading) (K : Kinds) (a : Sub) → Meeting T nodes [] r K a → a number ≡ Made h (row a first count)
  shown r K a m = f.same (read T r) K a m.solves ∙ subst (Shows (read T r) a (a root)) is (m.solves.fits root f.within).shows ∙ maker_made r h (row a first count) mk

  over_fixed : Backed (Meeting T nodes []) home born nodes [] → Fixed (Meeting T nodes []) home born l number
  over_fixed b lt r K a r' K' a' m m' same = shown r K a m ∙ ap (Made h) (row_same a a' first first count part) ∙ sym (shown r' K' a' m')
    where
      part : (i : ℕ) → i < count → a (first + i) ≡ a' (first + i)
      part i li = let one = o i li in let low : (node_at nodes one.root).level ≤ l = one.low in
          one.found.same (read T r) K a m.solves
          ∙ b.notes one.root one.found.within (omega arith) r K a r' K' a' m m' (record { numbers = λ n le. same.numbers n (omega arith); parameters = λ n k le. same.parameters n k (omega arith) })
          ∙ sym (one.found.same (read T r') K' a' m'.solves)

pub lowered_by : (T : Tables) (nodes nodes' : List Node) (number root l first count : ℕ) (h : Head) → Found nodes number root → (node_at nodes root).form ≡ form.Made h first count → IsMaker h → Over nodes first count l → Solved T nodes (task.Has number kind.Any l ∷ []) nodes' → Lowered T nodes nodes'
unfolding Holds
lowered_by T nodes nodes' number root l first count h f is mk o so = record {
  forth = λ K a s. so.forth K a (record { solves = s; holds = (omega arith, tt) });
  back = λ K a s. (so.back K a s).solves;
  state = λ home base st. so.state home base (waits_more T home base nodes (task.Has number kind.Any l ∷ []) st);
  backed = λ home born b. so.backed home born (record {
    notes = λ i lt. fixed_less _ _ home born _ i (λ v K a m. record { solves = m.solves; holds = tt }) (b.notes i lt);
    asks = (fixed_less _ _ home born l number (λ v K a m. record { solves = m.solves; holds = tt }) (over_fixed T home born nodes number root l first count h f is mk o b), tt);
  });
}

pub lowered_none : (T : Tables) (nodes : List Node) → Lowered T nodes nodes
lowered_none T nodes = record { forth = λ K a s. s; back = λ K a s. s; state = λ home base s. s; backed = λ home born b. b }

-- tasks, and then levels
pub solved_lowered : (T : Tables) (nodes mid nodes' : List Node) (tasks : List Task) → Solved T nodes tasks mid → Lowered T mid nodes' → Solved T nodes tasks nodes'
solved_lowered T nodes mid nodes' tasks so lo = record {
  forth = λ K a m. lo.forth K a (so.forth K a m);
  back = λ K a s. so.back K a (lo.back K a s);
  state = λ home base s. lo.state home base (so.state home base s);
  backed = λ home born b. lo.backed home born (so.backed home born b);
}

pub kept_then : (table : ShapeTable) (n0 n1 n2 : List Node) (e0 e1 e2 : List Entry) → Kept table n0 n1 e0 e1 → Kept table n1 n2 e1 e2 → Kept table n0 n2 e0 e2
kept_then table n0 n1 n2 e0 e1 e2 x y = record { graph = y.graph; long = y.long ∙ x.long; bound = y.bound; grows = grows_then table (length n0) (length n1) e0 e1 e2 x.long x.grows y.grows }

pub sound_kept : (table : ShapeTable) (nodes nodes' : List Node) (entries entries' : List Entry) → Kept table nodes nodes' entries entries' → Sound table nodes' entries'
sound_kept table nodes nodes' entries entries' k = record { graph = k.graph; bound = k.bound; are = subst (λ n. AreEntries table n entries') (sym k.long) k.grows.are }

pub row_in : (nodes : List Node) (root : ℕ) (nd : Node) (h : Head) (first count : ℕ) → IsGraph nodes → root < length nodes → nd ≡ node_at nodes root → nd.form ≡ form.Made h first count → first + count ≤ length nodes
row_in nodes root nd h first count g lt e is = subst (Within (length nodes) root) (sym (ap (λ (n : Node). n.form) e) ∙ is) (g.within root lt)

pub form_at : (nodes : List Node) (root : ℕ) (nd : Node) (h : Head) (first count : ℕ) → nd ≡ node_at nodes root → nd.form ≡ form.Made h first count → (node_at nodes root).form ≡ form.Made h first count
form_at nodes root nd h first count e is = sym (ap (λ (n : Node). n.form) e) ∙ is

one_more : (P : ℕ → Type 0) (m i : ℕ) → i < m + 1 → ((j : ℕ) → j < m → P j) → P m → P i
one_more P m i lt old new = elim (ℕ_discrete i m) as (λ d. P i) [ yes z ↦ subst P (sym z) new | no ne ↦ old i (grind (arith, ne)) ]

-- one of a row more
pub over_more : (nodes : List Node) (first at root most most' : ℕ) (nd : Node) → Over nodes first at most → most ≤ most' → Found nodes (first + at) root → nd ≡ node_at nodes root → nd.level ≤ most' → Over nodes first (at + 1) most'
over_more nodes first at root most most' nd o le f e low p lt = one_more (λ q. Reaches nodes (first + q) most') at p lt
    (λ q lq. let r = o q lq in record { root = r.root; found = r.found; low = (let s : (node_at nodes r.root).level ≤ most = r.low in omega arith) })
    (record { root = root; found = f; low = subst (λ (n : Node). n.level ≤ most') e low })

pub over_all : (nodes : List Node) (first at count most : ℕ) → count ≤ at → Over nodes first at most → Over nodes first count most
over_all nodes first at count most le o p lt = o p (omega arith)

pub has_task : (table : ShapeTable) (n i : ℕ) (k : Kind) (l : ℕ) → i < n → IsTask table n (task.Has i k l)
unfolding IsTask
has_task table n i k l lt = lt
