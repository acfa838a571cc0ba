-- Going over the nodes.
use Rattle.std.proofs.Common.{◌≡◌, ◌≢◌, ℕ, zero, suc, ◌+◌, ◌≤◌, ◌<◌, List, [], ◌∷◌, ◌++◌, length, max, None, refl, sym, ◌∙◌, ap, subst, arith}
use native.Mathlib.Decide.{ℕ_discrete}
use Rattle.std.proofs.Math.ListN.{length-set}
use Rattle.std.proofs.lemmas.List.{get_or-set_same, get_or-set_other}
use Rattle.fut_types.specs.declared.Head.TheVariants as head
use Rattle.fut_types.specs.Types.{Ty, Made, none, Sub, size}
use Rattle.fut_types.proofs.ShapeLaws.{named_smaller}
use Rattle.type_graph.specs.declared.Form.{Form}
use Rattle.type_graph.specs.declared.Form.TheVariants as form
use Rattle.type_graph.specs.declared.Node.{Node}
use Rattle.type_graph.specs.declared.Entry.{Entry}
use Rattle.type_graph.specs.Graph.{node_at, entry_at, Tables, Fitting, Listed, Each, children, chained, parts_of, Names, All_named, Shows, IsGraph, IsRoot, Found}
use Rattle.type_graph.proofs.StateLaws.{each_map}
use Rattle.type_graph.specs.declared.resolving.Mark.{Mark}
use Rattle.type_graph.specs.declared.resolving.Mark.TheVariants as mark
use Rattle.type_graph.specs.Resolving.{Settled, SettledIn, Founded, Walked, mark_at, with_mark, white, whites}
use Rattle.type_graph.proofs.Resolution.{settled_loose, settled_made, settled_up, each_number, smaller}

pub mark_same : (marks : List Mark) (i : ℕ) (x : Mark) → i < length marks → mark_at (with_mark marks i x) i ≡ x
unfolding mark_at with_mark
mark_same marks i x h = get_or-set_same marks i x mark.White h

pub mark_other : (marks : List Mark) (i j : ℕ) (x : Mark) → j ≢ i → mark_at (with_mark marks i x) j ≡ mark_at marks j
unfolding mark_at with_mark
mark_other marks i j x h = get_or-set_other marks i j x mark.White h

pub long_with : (marks : List Mark) (i : ℕ) (x : Mark) → length (with_mark marks i x) ≡ length marks
unfolding with_mark
long_with marks i x = length-set marks i x

pub whites_with : (marks : List Mark) (i : ℕ) (x : Mark) → i < length marks → whites (with_mark marks i x) + white (mark_at marks i) ≡ whites marks + white x
unfolding whites with_mark mark_at
whites_with [] i x h = absurd (omega arith)
whites_with (y ∷ ys) zero x h = omega arith
whites_with (y ∷ ys) (suc i) x h = let e : whites (with_mark ys i x) + white (mark_at ys i) ≡ whites ys + white x = whites_with ys i x (omega arith) in omega arith

pub done_not_open : mark.Done ≡ mark.Open → ⊥
done_not_open e = subst is_done e tt
  where
    is_done : Mark → Type 0
    is_done mark.White = ⊥
    is_done mark.Open = ⊥
    is_done mark.Done = Unit {0}

pub open_not_done : mark.Open ≡ mark.Done → ⊥
open_not_done e = done_not_open (sym e)

pub open_not_white : mark.Open ≡ mark.White → ⊥
open_not_white e = subst is_open e tt
  where
    is_open : Mark → Type 0
    is_open mark.White = ⊥
    is_open mark.Open = Unit {0}
    is_open mark.Done = ⊥

-- the first nodes, and one more
pub one_more : (P : ℕ → Type 0) (m n i : ℕ) → i < n → n ≡ m + 1 → ((j : ℕ) → j < m → P j) → P m → P i
one_more P m n i lt e old new = elim (ℕ_discrete i m) as (λ d. P i) [ yes z ↦ subst P (sym z) new | no ne ↦ old i (grind (arith, ne)) ]

-- a node and its root
pub settled_from : (nodes : List Node) (start root : ℕ) → IsGraph nodes → start < length nodes → Found nodes start root → SettledIn nodes root → SettledIn nodes start
settled_from nodes start root g lt f s top t = settled_up nodes g top t (suc start) start (omega arith) lt (subst (Settled nodes) (sym (f.tops top t)) (s top t))

-- parts have smaller types
small_children : (T : Tables) (a : Sub) (t : Ty) (e n : ℕ) → Names T a t e n → Each (λ c. size (a c) < size t) (children T e n)
unfolding All_named chained
small_children T a t e zero p = tt
small_children T a t e (suc n) p = (named_smaller T.shapes _ t _ p.0, small_children T a t (T.entry e).next n p.1)

pub small_parts : (T : Tables) (a : Sub) (t : Ty) (f : Form) → Fitting f → Shows T a t f → Each (λ c. size (a c) < size t) (parts_of T f)
small_parts T a t form.Free fit s = tt
small_parts T a t (form.Link j) fit s = tt
small_parts T a t (form.Made h x n) fit s = each_number (λ c. size (a c) < size t) x n (λ p lp. smaller T.rigid a t h x n p fit s lp)
small_parts T a t (form.Open e n) fit s = small_children T a t e n s

-- a root whose parts have types has one
root_settled : (T : Tables) (nodes : List Node) (root : ℕ) (f : Form) → (node_at nodes root).form ≡ f → IsRoot f → Each (SettledIn nodes) (parts_of T f) → SettledIn nodes root
root_settled T nodes root form.Free e r h top t = settled_loose nodes root form.Free e tt
root_settled T nodes root (form.Link j) e r h top t = absurd r
root_settled T nodes root (form.Made hd x n) e r h top t = settled_made nodes root hd x n e (each_map (λ c s. s top t) _ h)
root_settled T nodes root (form.Open y n) e r h top t = settled_loose nodes root (form.Open y n) e tt

-- the tables in hand
pub some_tables : List Entry → Tables
some_tables entries = record { shapes = record { fields = λ n. []; position = λ l. None }; entry = entry_at entries; rigid = λ n k. Made (head.Rigid n k) none; seat = λ n. 0 }

pub some_listed : (entries : List Entry) → Listed entries (some_tables entries)
unfolding some_tables
some_listed entries e lt = refl

-- heights
pub founded_more : (T : Tables) (nodes : List Node) (top : ℕ → ℕ) (h k i : ℕ) → h ≤ k → Founded T nodes top h i → Founded T nodes top k i
unfolding Founded
founded_more T nodes top zero k i le f = absurd f
founded_more T nodes top (suc h) zero i le f = absurd (omega arith)
founded_more T nodes top (suc h) (suc k) i le f = each_map (λ c g. founded_more T nodes top h k c (omega arith) g) _ f

highest : (T : Tables) (nodes : List Node) (top : ℕ → ℕ) (cs : List ℕ) → Each (λ c. (h : ℕ) × Founded T nodes top h c) cs → (H : ℕ) × Each (Founded T nodes top H) cs
highest T nodes top [] f = (0, tt)
highest T nodes top (c ∷ cs) f =
    let rest = highest T nodes top cs f.1 in (
      max f.0.0 rest.0,
      (founded_more T nodes top f.0.0 (max f.0.0 rest.0) c (omega arith) f.0.1, each_map (λ d g. founded_more T nodes top rest.0 (max f.0.0 rest.0) d (omega arith) g) _ rest.1),
    )

founded_at : (T : Tables) (nodes : List Node) (top : ℕ → ℕ) (h i j : ℕ) → top i ≡ top j → Founded T nodes top h i → Founded T nodes top h j
unfolding Founded
founded_at T nodes top zero i j e f = f
founded_at T nodes top (suc h) i j e f = subst (λ r. Each (Founded T nodes top h) (parts_of T (node_at nodes r).form)) e f

founded_root : (T : Tables) (nodes : List Node) (top : ℕ → ℕ) (root : ℕ) → top root ≡ root → Each (λ c. (h : ℕ) × Founded T nodes top h c) (parts_of T (node_at nodes root).form) → (h : ℕ) × Founded T nodes top h root
unfolding Founded
founded_root T nodes top root e f = let r = highest T nodes top _ f in (suc r.0, subst (λ j. Each (Founded T nodes top r.0) (parts_of T (node_at nodes j).form)) (sym e) r.1)

pub walked_from : (nodes : List Node) (entries : List Entry) (start root : ℕ) → IsGraph nodes → start < length nodes → Found nodes start root → Walked nodes entries root → Walked nodes entries start
walked_from nodes entries start root g lt f w = (
  settled_from nodes start root g lt f w.0,
  λ T l top t. let r = w.1 T l top t in (r.0, founded_at T nodes top r.0 root start (t.selves root f.within f.is_root ∙ sym (f.tops top t)) r.1),
)

pub walked_root : (nodes : List Node) (entries : List Entry) (root : ℕ) → root < length nodes → IsRoot (node_at nodes root).form → ((T : Tables) → Listed entries T → Each (Walked nodes entries) (parts_of T (node_at nodes root).form)) → Walked nodes entries root
walked_root nodes entries root lt r parts = (
  root_settled (some_tables entries) nodes root (node_at nodes root).form refl r (each_map (λ c w. w.0) _ (parts (some_tables entries) (some_listed entries))),
  λ T l top t. founded_root T nodes top root (t.selves root lt r) (each_map (λ c w. w.1 T l top t) _ (parts T l)),
)

-- all white at first
pub white_none : (i : ℕ) → mark_at [] i ≡ mark.White
unfolding mark_at
white_none i = refl

white_at : (marks : List Mark) (i : ℕ) → mark_at marks i ≡ mark.White → mark_at (marks ++ mark.White ∷ []) i ≡ mark.White
unfolding mark_at
white_at [] zero h = refl
white_at [] (suc i) h = refl
white_at (m ∷ ms) zero h = h
white_at (m ∷ ms) (suc i) h = white_at ms i h

pub white_push : (marks marks' : List Mark) → marks' ≡ marks ++ mark.White ∷ [] → ((i : ℕ) → mark_at marks i ≡ mark.White) → (i : ℕ) → mark_at marks' i ≡ mark.White
white_push marks marks' e h i = subst (λ m. mark_at m i ≡ mark.White) (sym e) (white_at marks i (h i))

pub long_push : (marks marks' : List Mark) → marks' ≡ marks ++ mark.White ∷ [] → length marks' ≡ length marks + 1
long_push marks marks' e = ap length e ∙ go marks
  where
    go : (ms : List Mark) → length (ms ++ mark.White ∷ []) ≡ length ms + 1
    go [] = refl
    go (m ∷ ms) = let p : length (ms ++ mark.White ∷ []) ≡ length ms + 1 = go ms in omega arith
