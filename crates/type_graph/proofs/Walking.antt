-- Going over the nodes with a stack, step by step.
use Rattle.std.proofs.Common.{◌≡◌, ◌≢◌, ℕ, suc, ◌+◌, ◌-◌, ◌*◌, ◌≤◌, ◌<◌, List, [], ◌∷◌, ◌++◌, length, OnOk, Result, Ok, Err, refl, sym, ◌∙◌, ap, subst, arith}
use mathlib.Core.Logic.{◌⊎◌, inl, inr}
use native.Mathlib.Decide.{ℕ_discrete}
use Rattle.fut_types.specs.declared.Head.{Head}
use Rattle.fut_types.specs.Types.{Sub, Kinds, size}
use Rattle.type_graph.specs.declared.Form.{Form}
use Rattle.type_graph.specs.declared.Form.TheVariants as form
use Rattle.type_graph.specs.declared.Node.{Node}
use Rattle.type_graph.specs.declared.Entry.{Entry}
use Rattle.type_graph.specs.Graph.{node_at, entry_at, Tables, Listed, Each, numbers, children, chained, parts_of, arity, total, Solves, Within, Bound, IsRoot, Found}
use Rattle.type_graph.proofs.StateLaws.{each_map}
use Rattle.type_graph.proofs.Cases.{each_append, each_left, each_right, total_append, total_one, total_none, times_more, times_mono}
use Rattle.type_graph.specs.declared.resolving.Mark.{Mark}
use Rattle.type_graph.specs.declared.resolving.Mark.TheVariants as mark
use Rattle.type_graph.specs.declared.resolving.Step.{Step}
use Rattle.type_graph.specs.Resolving.{Walked, mark_at, with_mark, white, whites, Placed, Unsolvable}
use Rattle.type_graph.specs.Walking.{step_of, Stands, Ahead, IsStep, Falling, Underway, left_of, Goes, Splits}
use Rattle.type_graph.proofs.Marks.{mark_same, mark_other, long_with, whites_with, done_not_open, open_not_done, open_not_white, small_parts, walked_from, walked_root}

-- the last of the steps
stands_split : (i : ℕ) (ss : List Step) (s : Step) → Stands i (ss ++ s ∷ []) → Stands i ss ⊎ (i ≡ s.root)
unfolding Stands
stands_split i [] s (inl e) = inr e
stands_split i [] s (inr h) = absurd h
stands_split i (z ∷ ss) s (inl e) = inl (inl e)
stands_split i (z ∷ ss) s (inr h) = elim (stands_split i ss s h) [ inl y ↦ inl (inr y) | inr e ↦ inr e ]

stands_left : (i : ℕ) (ss : List Step) (s : Step) → Stands i ss → Stands i (ss ++ s ∷ [])
unfolding Stands
stands_left i [] s h = absurd h
stands_left i (z ∷ ss) s (inl e) = inl e
stands_left i (z ∷ ss) s (inr h) = inr (stands_left i ss s h)

stands_last : (i : ℕ) (ss : List Step) (s : Step) → i ≡ s.root → Stands i (ss ++ s ∷ [])
unfolding Stands
stands_last i [] s e = inl e
stands_last i (z ∷ ss) s e = inr (stands_last i ss s e)

stands_none : (i : ℕ) → Stands i [] → ⊥
unfolding Stands
stands_none i h = h

-- another step with the same root in the place of the last
stands_same : (i : ℕ) (ss : List Step) (s t : Step) → s.root ≡ t.root → Stands i (ss ++ s ∷ []) → Stands i (ss ++ t ∷ [])
stands_same i ss s t e h = elim (stands_split i ss s h) as (λ y. Stands i (ss ++ t ∷ [])) [ inl y ↦ stands_left i ss t y | inr z ↦ stands_last i ss t (z ∙ e) ]

-- smaller than all roots, so than each
stands_small : (a : Sub) (m i : ℕ) (ss : List Step) → Each (λ (z : Step). m < size (a z.root)) ss → Stands i ss → m < size (a i)
unfolding Stands
stands_small a m i [] e h = absurd h
stands_small a m i (z ∷ ss) e (inl p) = subst (λ j. m < size (a j)) (sym p) e.0
stands_small a m i (z ∷ ss) e (inr h) = stands_small a m i ss e.1 h

abbrev Under : Sub → ℕ → List Step → Type 0
Under a r ss = Each (λ (z : Step). size (a r) < size (a z.root)) ss

falling_none : (a : Sub) → Falling a []
unfolding Falling
falling_none a = tt

falling_left : (a : Sub) (ss : List Step) (s : Step) → Falling a (ss ++ s ∷ []) → Falling a ss
unfolding Falling
falling_left a [] s f = tt
falling_left a (z ∷ ss) s f = (each_left _ ss (s ∷ []) f.0, falling_left a ss s f.1)

falling_last : (a : Sub) (ss : List Step) (s : Step) → Falling a (ss ++ s ∷ []) → Under a s.root ss
unfolding Falling
falling_last a [] s f = tt
falling_last a (z ∷ ss) s f = ((each_right _ ss (s ∷ []) f.0).0, falling_last a ss s f.1)

falling_push : (a : Sub) (ss : List Step) (s : Step) → Falling a ss → Under a s.root ss → Falling a (ss ++ s ∷ [])
unfolding Falling
falling_push a [] s f u = (tt, tt)
falling_push a (z ∷ ss) s f u = (each_append _ ss (s ∷ []) f.0 (u.0, tt), falling_push a ss s f.1 u.1)

under_then : (a : Sub) (r : ℕ) (ss : List Step) (s : Step) → size (a r) < size (a s.root) → Under a s.root ss → Under a r (ss ++ s ∷ [])
under_then a r ss s lt u = each_append _ ss (s ∷ []) (each_map (λ z h. let p : size (a s.root) < size (a z.root) = h in omega arith) ss u) (lt, tt)

each_last : (P : Step → Type 0) (ss : List Step) (s : Step) → Each P (ss ++ s ∷ []) → P s
each_last P ss s h = (each_right P ss (s ∷ []) h).0

todo_last : (ss : List Step) (s : Step) → total left_of (ss ++ s ∷ []) ≡ total left_of ss + left_of s
todo_last ss s = let e : total left_of (ss ++ s ∷ []) ≡ total left_of ss + total left_of (s ∷ []) = total_append left_of ss (s ∷ []) in
    let f : total left_of (s ∷ []) ≡ left_of s + total left_of [] = total_one left_of s [] in let g : total left_of [] ≡ 0 = total_none left_of in omega arith

-- what a root has is within
ahead_of : (nodes : List Node) (entries : List Entry) (i : ℕ) → Placed nodes entries → i < length nodes → Ahead (length nodes) (length entries) (node_at nodes i).form
ahead_of nodes entries i p lt = go (node_at nodes i).form (p.graph.within i lt) (p.bound.forms i lt)
  where
    go : (f : Form) → Within (length nodes) i f → Bound p.table (length entries) f → Ahead (length nodes) (length entries) f
    go form.Free w b = tt
    go (form.Link j) w b = tt
    go (form.Made h x n) w b = w
    go (form.Open e n) w b = b

ahead_few : (n m : ℕ) (f : Form) → Ahead n m f → arity f ≤ n + m
ahead_few n m form.Free h = omega arith
ahead_few n m (form.Link j) h = omega arith
ahead_few n m (form.Made g x k) h = omega arith
ahead_few n m (form.Open e k) h = let p : k ≤ m = h.1 in omega arith

-- the marks of a graph, where the mark of one node is another
module _ (marks : List Mark) (root : ℕ) (x : Mark) (lt : root < length marks) where
  at_other : (i : ℕ) (y : Mark) → i ≢ root → mark_at (with_mark marks root x) i ≡ y → mark_at marks i ≡ y
  at_other i y ne h = sym (mark_other marks root i x ne) ∙ h

  at_root : (i : ℕ) (y : Mark) → i ≡ root → mark_at (with_mark marks root x) i ≡ y → x ≡ y
  at_root i y e h = sym (mark_same marks root x lt) ∙ ap (mark_at (with_mark marks root x)) (sym e) ∙ h

done_not_white : mark.Done ≡ mark.White → ⊥
done_not_white e = subst is_done e tt
  where
    is_done : Mark → Type 0
    is_done mark.White = ⊥
    is_done mark.Open = ⊥
    is_done mark.Done = Unit {0}

-- a root that is no longer white
seen_with : (marks : List Mark) (root : ℕ) (x : Mark) → root < length marks → (x ≡ mark.White → ⊥) → (i : ℕ) → mark_at (with_mark marks root x) i ≡ mark.White → mark_at marks i ≡ mark.White
seen_with marks root x lt not_white i h = elim (ℕ_discrete i root) as (λ d. mark_at marks i ≡ mark.White) [ yes e ↦ absurd (not_white (at_root marks root x lt i mark.White e h)) | no ne ↦ at_other marks root x lt i mark.White ne h ]

module _ (nodes : List Node) (entries : List Entry) (placed : Placed nodes entries) where
  -- one root more, smaller than all
  opening : (marks : List Mark) (ss : List Step) (root : ℕ) → Underway nodes entries marks ss → root < length nodes → IsRoot (node_at nodes root).form → mark_at marks root ≡ mark.White → ((T : Tables) → Listed entries T → (K : Kinds) (a : Sub) → Solves T K a nodes → Under a root ss) → Underway nodes entries (with_mark marks root mark.Open) (ss ++ step_of nodes root ∷ [])
  opening marks ss root u lt is w small = record {
    long = long_with marks root mark.Open ∙ u.long;
    done = λ i h. elim (ℕ_discrete i root) as (λ d. Walked nodes entries i) [ yes e ↦ absurd (open_not_done (at_root marks root mark.Open inn i mark.Done e h)) | no ne ↦ u.done i (at_other marks root mark.Open inn i mark.Done ne h) ];
    opened = λ i h. elim (ℕ_discrete i root) as (λ d. Stands i (ss ++ step_of nodes root ∷ [])) [ yes e ↦ stands_last i ss (step_of nodes root) e | no ne ↦ stands_left i ss (step_of nodes root) (u.opened i (at_other marks root mark.Open inn i mark.Open ne h)) ];
    each = each_append (IsStep nodes entries) ss (step_of nodes root ∷ []) u.each (
      record {
        within = lt;
        is_root = is;
        ahead = ahead_of nodes entries root placed lt;
        parts = λ T l h. h;
        smaller = λ T l K a s. small_parts T a (a root) (node_at nodes root).form (placed.graph.fitting root lt) (s.fits root lt).shows;
      },
      tt,
    );
    falling = λ T l K a s. falling_push a ss (step_of nodes root) (u.falling T l K a s) (small T l K a s);
  }
    where
      inn : root < length marks
      inn = subst (λ n. root < n) (sym u.long) lt

  -- the first root
  pub first_root : (marks marks' : List Mark) (ss ss' : List Step) (root : ℕ) → Underway nodes entries marks [] → root < length nodes → IsRoot (node_at nodes root).form → mark_at marks root ≡ mark.White → marks' ≡ with_mark marks root mark.Open → ss ≡ [] → ss' ≡ ss ++ step_of nodes root ∷ [] → Underway nodes entries marks' ss'
  first_root marks marks' ss ss' root u lt is w em e es = subst (λ m. Underway nodes entries m ss') (sym em) (subst (Underway nodes entries (with_mark marks root mark.Open)) (sym (es ∙ ap (λ z. z ++ step_of nodes root ∷ []) e)) (opening marks [] root u lt is w (λ T l K a s. tt)))

  module _ (marks : List Mark) (ss : List Step) (step : Step) (u : Underway nodes entries marks (ss ++ step ∷ [])) where
    pub this_step : IsStep nodes entries step
    this_step = each_last (IsStep nodes entries) ss step u.each

    pub in_marks : step.root < length marks
    in_marks = subst (λ n. step.root < n) (sym u.long) this_step.within

    -- no part is left
    module _ (over : (T : Tables) → parts_of T step.left ≡ []) where
      this_walked : Walked nodes entries step.root
      this_walked = walked_root nodes entries step.root this_step.within this_step.is_root (λ T l. this_step.parts T l (subst (Each (Walked nodes entries)) (sym (over T)) tt))

      pub leaves : (marks' : List Mark) → marks' ≡ with_mark marks step.root mark.Done → Goes nodes entries marks (ss ++ step ∷ []) marks' ss
      leaves marks' em = subst (λ m. Goes nodes entries marks (ss ++ step ∷ []) m ss) (sym em) (record {
        underway = record {
          long = long_with marks step.root mark.Done ∙ u.long;
          done = λ i h. elim (ℕ_discrete i step.root) as (λ d. Walked nodes entries i) [ yes e ↦ subst (Walked nodes entries) (sym e) this_walked | no ne ↦ u.done i (at_other marks step.root mark.Done in_marks i mark.Done ne h) ];
          opened = λ i h. elim (ℕ_discrete i step.root) as (λ d. Stands i ss) [
            | yes e ↦ absurd (done_not_open (at_root marks step.root mark.Done in_marks i mark.Open e h))
            | no ne ↦ elim (stands_split i ss step (u.opened i (at_other marks step.root mark.Done in_marks i mark.Open ne h))) as (λ y. Stands i ss) [ inl y ↦ y | inr e ↦ absurd (ne e) ]
          ];
          each = each_left (IsStep nodes entries) ss (step ∷ []) u.each;
          falling = λ T l K a s. falling_left a ss step (u.falling T l K a s);
        };
        seen = seen_with marks step.root mark.Done in_marks done_not_white;
        less = let p : whites (with_mark marks step.root mark.Done) + white (mark_at marks step.root) ≡ whites marks + 0 = whites_with marks step.root mark.Done in_marks in
            let q : total left_of (ss ++ step ∷ []) ≡ total left_of ss + left_of step = todo_last ss step in
            let r : (2 + length nodes + length entries) * whites (with_mark marks step.root mark.Done) ≤ (2 + length nodes + length entries) * whites marks = times_mono (2 + length nodes + length entries) (whites marks) (whites (with_mark marks step.root mark.Done)) (omega arith) in omega arith;
      })

    -- a part is left
    module _ (child : ℕ) (after : Form) (sp : Splits nodes entries step.left child after) (root : ℕ) (f : Found nodes child root) where
      abbrev pub later : Step
      later = record { root = step.root; left = after }

      child_small : (T : Tables) → Listed entries T → (K : Kinds) (a : Sub) → Solves T K a nodes → size (a root) < size (a step.root)
      child_small T l K a s = let p : size (a child) < size (a step.root) = (subst (Each (λ c. size (a c) < size (a step.root))) (sp.parts T l) (this_step.smaller T l K a s)).0 in let q : size (a child) ≡ size (a root) = ap size (f.same T K a s) in omega arith

      -- that is open: a part of itself
      pub loops : mark_at marks root ≡ mark.Open → Unsolvable nodes entries
      loops o T l K a s =
          let p : size (a root) < size (a step.root) = child_small T l K a s in
          elim (stands_split root ss step (u.opened root o)) as (λ y. ⊥) [
            | inl y ↦ let q : size (a step.root) < size (a root) = stands_small a (size (a step.root)) root ss (falling_last a ss step (u.falling T l K a s)) y in absurd (omega arith)
            | inr e ↦ let q : size (a root) ≡ size (a step.root) = ap (λ j. size (a j)) e in absurd (omega arith)
          ]

      -- that is done
      pub goes_by : mark_at marks root ≡ mark.Done → (ss' : List Step) → ss' ≡ ss ++ later ∷ [] → Goes nodes entries marks (ss ++ step ∷ []) marks ss'
      goes_by d ss' es = subst (Goes nodes entries marks (ss ++ step ∷ []) marks) (sym es) (record {
        underway = record {
          long = u.long;
          done = u.done;
          opened = λ i h. stands_same i ss step later refl (u.opened i h);
          each = each_append (IsStep nodes entries) ss (later ∷ []) (each_left (IsStep nodes entries) ss (step ∷ []) u.each) (
            record {
              within = this_step.within;
              is_root = this_step.is_root;
              ahead = sp.ahead;
              parts = λ T l h. this_step.parts T l (subst (Each (Walked nodes entries)) (sym (sp.parts T l)) (walked_from nodes entries child root placed.graph sp.within f (u.done root d), h));
              smaller = λ T l K a s. (subst (Each (λ c. size (a c) < size (a step.root))) (sp.parts T l) (this_step.smaller T l K a s)).1;
            },
            tt,
          );
          falling = λ T l K a s. falling_push a ss later (falling_left a ss step (u.falling T l K a s)) (falling_last a ss step (u.falling T l K a s));
        };
        seen = λ i h. h;
        less = let q : total left_of (ss ++ step ∷ []) ≡ total left_of ss + left_of step = todo_last ss step in let r : total left_of (ss ++ later ∷ []) ≡ total left_of ss + left_of later = todo_last ss later in let e : arity step.left ≡ 1 + arity after = sp.fewer in omega arith;
      })

      -- that is white
      pub goes_in : mark_at marks root ≡ mark.White → (marks' : List Mark) (s1 s2 : List Step) → marks' ≡ with_mark marks root mark.Open → s1 ≡ ss ++ step ∷ [] → s2 ≡ s1 ++ step_of nodes root ∷ [] → Goes nodes entries marks (ss ++ step ∷ []) marks' s2
      goes_in w marks' s1 s2 em e1 e2 = subst (λ m. Goes nodes entries marks (ss ++ step ∷ []) m s2) (sym em) (subst (Goes nodes entries marks (ss ++ step ∷ []) (with_mark marks root mark.Open)) (sym (e2 ∙ ap (λ z. z ++ step_of nodes root ∷ []) e1)) (record {
        underway = opening marks (ss ++ step ∷ []) root u f.within f.is_root w (λ T l K a s. under_then a root ss step (child_small T l K a s) (falling_last a ss step (u.falling T l K a s)));
        seen = seen_with marks root mark.Open inn open_not_white;
        less = let p : whites (with_mark marks root mark.Open) + white (mark_at marks root) ≡ whites marks + 0 = whites_with marks root mark.Open inn in
            let v : white (mark_at marks root) ≡ 1 = ap white w in
            let q : total left_of ((ss ++ step ∷ []) ++ step_of nodes root ∷ []) ≡ total left_of (ss ++ step ∷ []) + left_of (step_of nodes root) = todo_last (ss ++ step ∷ []) (step_of nodes root) in
            let few : arity (node_at nodes root).form ≤ length nodes + length entries = ahead_few (length nodes) (length entries) (node_at nodes root).form (ahead_of nodes entries root placed f.within) in
            let r : (2 + length nodes + length entries) * whites (with_mark marks root mark.Open) + (2 + length nodes + length entries) ≤ (2 + length nodes + length entries) * whites marks = times_more (2 + length nodes + length entries) (whites marks) (whites (with_mark marks root mark.Open)) (omega arith) in omega arith;
      }))
        where
          inn : root < length marks
          inn = subst (λ n. root < n) (sym u.long) f.within

-- nothing is left of a row or a chain, or something is
pub row_over : (T : Tables) (h : Head) (x n : ℕ) → n ≡ 0 → parts_of T (form.Made h x n) ≡ []
unfolding numbers
row_over T h x n e = ap (numbers x) e

pub chain_over : (T : Tables) (x n : ℕ) → n ≡ 0 → parts_of T (form.Open x n) ≡ []
unfolding chained
chain_over T x n e = ap (children T x) e

of_left : (nodes : List Node) (entries : List Entry) (step : Step) (f : Form) → step.left ≡ f → IsStep nodes entries step → Ahead (length nodes) (length entries) f
of_left nodes entries step f e s = subst (Ahead (length nodes) (length entries)) e s.ahead

pub none_over : (f : Form) → (f ≡ form.Free) ⊎ ((j : ℕ) × (f ≡ form.Link j)) → (T : Tables) → parts_of T f ≡ []
none_over f (inl e) T = ap (parts_of T) e
none_over f (inr e) T = ap (parts_of T) e.1

pub over_of : (f g : Form) → f ≡ g → ((T : Tables) → parts_of T g ≡ []) → (T : Tables) → parts_of T f ≡ []
over_of f g e h T = ap (parts_of T) e ∙ h T

one_less : (n : ℕ) → 0 < n → n ≡ suc (n - 1)
one_less n h = omega arith

row_cons : (x m : ℕ) → numbers x (suc m) ≡ x ∷ numbers (suc x) m
unfolding numbers
row_cons x m = refl

chain_cons : (T : Tables) (x m : ℕ) → children T x (suc m) ≡ (T.entry x).child ∷ children T (T.entry x).next m
unfolding chained
chain_cons T x m = refl

pub row_splits : (nodes : List Node) (entries : List Entry) (step : Step) (h : Head) (x n : ℕ) → step.left ≡ form.Made h x n → 0 < n → IsStep nodes entries step → Splits nodes entries step.left x (form.Made h (x + 1) (n - 1))
row_splits nodes entries step h x n e lt s = record {
  within = let p : x + n ≤ length nodes = of_left nodes entries step (form.Made h x n) e s in omega arith;
  ahead = let p : x + n ≤ length nodes = of_left nodes entries step (form.Made h x n) e s in omega arith;
  fewer = let p : arity step.left ≡ n = ap arity e in omega arith;
  parts = λ T l. ap (parts_of T) e ∙ front;
}
  where
    front : numbers x n ≡ x ∷ numbers (x + 1) (n - 1)
    front = ap (numbers x) (one_less n lt) ∙ row_cons x (n - 1) ∙ ap (λ y. x ∷ numbers y (n - 1)) (omega arith)

pub chain_splits : (nodes : List Node) (entries : List Entry) (step : Step) (x n : ℕ) (y : Entry) → Placed nodes entries → step.left ≡ form.Open x n → 0 < n → y ≡ entry_at entries x → IsStep nodes entries step → Splits nodes entries step.left y.child (form.Open y.next (n - 1))
chain_splits nodes entries step x n y p e lt is s = let a : (x < length entries) × (n ≤ length entries) = of_left nodes entries step (form.Open x n) e s in record {
  within = subst (λ (z : Entry). z.child < length nodes) (sym is) (p.are.within x a.0).0;
  ahead = (subst (λ (z : Entry). z.next < length entries) (sym is) (p.are.within x a.0).2, let q : n ≤ length entries = a.1 in omega arith);
  fewer = let q : arity step.left ≡ n = ap arity e in omega arith;
  parts = λ T l. ap (parts_of T) e ∙ ap (children T x) (one_less n lt) ∙ chain_cons T x (n - 1) ∙ ap (λ (z : Entry). z.child ∷ children T z.next (n - 1)) (l x a.0 ∙ sym is);
}

pub chain_starts : (nodes : List Node) (entries : List Entry) (step : Step) (x n : ℕ) → step.left ≡ form.Open x n → IsStep nodes entries step → x < length entries
chain_starts nodes entries step x n e s = (of_left nodes entries step (form.Open x n) e s).0

-- at the end no node is open
pub walked_end : (nodes : List Node) (entries : List Entry) (marks : List Mark) (start root : ℕ) → Placed nodes entries → start < length nodes → Found nodes start root → Underway nodes entries marks [] → (mark_at marks root ≡ mark.White → ⊥) → Walked nodes entries start
walked_end nodes entries marks start root p lt f u not_white = go (mark_at marks root) refl
  where
    go : (m : Mark) → mark_at marks root ≡ m → Walked nodes entries start
    go mark.White e = absurd (not_white e)
    go mark.Open e = absurd (stands_none root (u.opened root e))
    go mark.Done e = walked_from nodes entries start root p.graph lt f (u.done root e)

pub none_open : (nodes : List Node) (entries : List Entry) (marks : List Mark) → length marks ≡ length nodes → ((i : ℕ) → mark_at marks i ≡ mark.White) → Underway nodes entries marks []
none_open nodes entries marks ls w = record {
  long = ls;
  done = λ i h. absurd (done_not_white (sym h ∙ w i));
  opened = λ i h. absurd (open_not_white (sym h ∙ w i));
  each = tt;
  falling = λ T l K a s. falling_none a;
}

pub row_short : (nodes : List Node) (entries : List Entry) → Placed nodes entries → (step : Step) (h : Head) (x n : ℕ) → step.left ≡ form.Made h x n → 0 < n → IsStep nodes entries step → x + 1 < 4294967296
row_short nodes entries placed step h x n e lt s = let p : x + n ≤ length nodes = of_left nodes entries step (form.Made h x n) e s in let q : length nodes < 4294967296 = placed.graph.short in omega arith

pub ok_of : {T E Q : Type 0} (r : Result T E) → Q → OnOk r Q
ok_of (Ok x) q = q
ok_of (Err e) q = tt

pub mark_no_longer : (marks marks' : List Mark) (root : ℕ) → root < length marks → marks' ≡ with_mark marks root mark.Open → mark_at marks' root ≡ mark.White → ⊥
mark_no_longer marks marks' root lt e h = open_not_white (sym (mark_same marks root mark.Open lt) ∙ ap (λ m. mark_at m root) (sym e) ∙ h)
