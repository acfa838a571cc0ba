-- Looking for what is left undetermined.
use Rattle.std.proofs.Common.{◌≡◌, ◌≢◌, ℕ, zero, suc, ◌+◌, ◌-◌, ◌≤◌, ◌<◌, Bool, true, false, List, [], ◌∷◌, ◌++◌, length, refl, sym, ◌∙◌, ap, subst, arith, append_assoc}
use mathlib.Core.Logic.{◌⊎◌, inl, inr}
use Rattle.std.proofs.Math.ListN.{length-set}
use Rattle.std.proofs.lemmas.List.{get_or-set_same, get_or-set_other}
use native.Mathlib.Decide.{ℕ_discrete}
use Rattle.fut_types.specs.declared.Kind.{Kind}
use Rattle.fut_types.specs.Types.{Ty, Var, Made, Sub, size, row}
use Rattle.fut_types.proofs.TyLaws.{part_smaller}
use Rattle.fut_typing.specs.Answers.{Stands, Stands_in}
use Rattle.type_graph.specs.declared.Form.{Form}
use Rattle.type_graph.specs.declared.Form.TheVariants as form
use Rattle.type_graph.specs.declared.Node.{Node}
use Rattle.type_graph.specs.Graph.{node_at, numbers, Each, Tables, Within, IsGraph, IsRoot, Found, arity}
use Rattle.type_graph.specs.State.{Tops, State}
use Rattle.type_graph.proofs.Cases.{each_append, each_left, each_right}
use Rattle.type_graph.proofs.StateLaws.{each_map}
use Rattle.type_graph.specs.Resolving.{resolved, Stable, Loose}
use Rattle.type_graph.proofs.Resolution.{loose_stable, made_stable, top_stable}
use Rattle.type_answers.specs.Left.{Undecided, IsUndecided, Stands_in_type, made_parts, seen_at, with_seen, On, Seen}

-- rows of numbers, one by one
numbers_suc : (x m : ℕ) → numbers x (suc m) ≡ x ∷ numbers (suc x) m
unfolding numbers
numbers_suc x m = refl

pub numbers_step : (x n : ℕ) → 0 < n → numbers x n ≡ x ∷ numbers (x + 1) (n - 1)
numbers_step x n h = ap (numbers x) (let e : n ≡ suc (n - 1) = omega arith in e) ∙ numbers_suc x (n - 1) ∙ ap (λ y. x ∷ numbers y (n - 1)) (let e : suc x ≡ x + 1 = omega arith in e)

pub numbers_none : (x n : ℕ) → n ≤ 0 → numbers x n ≡ []
unfolding numbers
numbers_none x n h = ap (numbers x) (let e : n ≡ 0 = omega arith in e)

append_none : {X : Type 0} (xs : List X) → xs ++ [] ≡ xs
append_none [] = refl
append_none (x ∷ xs) = ap (λ l. x ∷ l) (append_none xs)

pub pushed_more : (s s' all : List ℕ) (x n : ℕ) → 0 < n → s' ≡ s ++ x ∷ [] → s ++ numbers x n ≡ all → s' ++ numbers (x + 1) (n - 1) ≡ all
pushed_more s s' all x n h e p = ap (λ l. l ++ numbers (x + 1) (n - 1)) e ∙ append_assoc s (x ∷ []) (numbers (x + 1) (n - 1)) ∙ ap (λ l. s ++ l) (sym (numbers_step x n h)) ∙ p

pub pushed_all : (s all : List ℕ) (x n : ℕ) → n ≤ 0 → s ++ numbers x n ≡ all → s ≡ all
pushed_all s all x n h p = sym (append_none s) ∙ ap (λ l. s ++ l) (sym (numbers_none x n h)) ∙ p

pub none_more : (s : List ℕ) → s ≡ s ++ []
none_more s = sym (append_none s)

-- what is seen
seen_same : (seen : List Bool) (i : ℕ) (b : Bool) → i < length seen → seen_at (with_seen seen i b) i ≡ b
unfolding seen_at with_seen
seen_same seen i b h = get_or-set_same seen i b false h

seen_other : (seen : List Bool) (i j : ℕ) (b : Bool) → j ≢ i → seen_at (with_seen seen i b) j ≡ seen_at seen j
unfolding seen_at with_seen
seen_other seen i j b h = get_or-set_other seen i j b false h

pub seen_long : (seen : List Bool) (i : ℕ) (b : Bool) → length (with_seen seen i b) ≡ length seen
unfolding with_seen
seen_long seen i b = length-set seen i b

seen_more : (seen : List Bool) (i j : ℕ) → i < length seen → seen_at seen j ≡ true → seen_at (with_seen seen i true) j ≡ true
seen_more seen i j h e = elim (ℕ_discrete j i) as (λ d. seen_at (with_seen seen i true) j ≡ true) [
  | yes z ↦ ap (seen_at (with_seen seen i true)) z ∙ seen_same seen i true h
  | no ne ↦ seen_other seen i j true ne ∙ e
]

false_true : false ≡ true → ⊥
false_true e = subst is_false e tt
  where
    is_false : Bool → Type 0
    is_false false = Unit {0}
    is_false true = ⊥

pub unseen_none : (i : ℕ) → seen_at [] i ≡ false
unfolding seen_at
unseen_none i = refl

pub unseen_push : (seen : List Bool) (i : ℕ) → seen_at seen i ≡ false → seen_at (seen ++ false ∷ []) i ≡ false
unfolding seen_at
unseen_push [] zero h = refl
unseen_push [] (suc i) h = refl
unseen_push (b ∷ bs) zero h = h
unseen_push (b ∷ bs) (suc i) h = unseen_push bs i h

pub long_push : (seen : List Bool) → length (seen ++ false ∷ []) ≡ length seen + 1
long_push [] = refl
long_push (b ∷ bs) = let e : length (bs ++ false ∷ []) ≡ length bs + 1 = long_push bs in omega arith

-- what is to be done
unfoldable pub todo : List Node → List Bool → ℕ
todo [] bs = 0
todo (n ∷ ns) [] = 1 + arity n.form + todo ns []
todo (n ∷ ns) (true ∷ bs) = todo ns bs
todo (n ∷ ns) (false ∷ bs) = 1 + arity n.form + todo ns bs

todo_set : (ns : List Node) (bs : List Bool) (i : ℕ) → i < length ns → i < length bs → seen_at bs i ≡ false → todo ns (with_seen bs i true) + (1 + arity (node_at ns i).form) ≡ todo ns bs
unfolding todo seen_at with_seen node_at
todo_set [] bs i l m e = absurd (omega arith)
todo_set (n ∷ ns) [] i l m e = absurd (omega arith)
todo_set (n ∷ ns) (true ∷ bs) zero l m e = absurd (false_true (sym e))
todo_set (n ∷ ns) (false ∷ bs) zero l m e = omega arith
todo_set (n ∷ ns) (true ∷ bs) (suc i) l m e = todo_set ns bs i (omega arith) (omega arith) e
todo_set (n ∷ ns) (false ∷ bs) (suc i) l m e = let p : todo ns (with_seen bs i true) + (1 + arity (node_at ns i).form) ≡ todo ns bs = todo_set ns bs i (omega arith) (omega arith) e in omega arith

long_numbers : (x n : ℕ) → length (numbers x n) ≡ n
unfolding numbers
long_numbers x zero = refl
long_numbers x (suc n) = ap suc (long_numbers (suc x) n)

parts_long : (f : Form) → length (made_parts f) ≤ arity f
parts_long form.Free = omega arith
parts_long (form.Link j) = omega arith
parts_long (form.Made h x n) = let e : length (numbers x n) ≡ n = long_numbers x n in omega arith
parts_long (form.Open e n) = omega arith

long_append : {X : Type 0} (xs ys : List X) → length (xs ++ ys) ≡ length xs + length ys
long_append [] ys = omega arith
long_append (x ∷ xs) ys = let e : length (xs ++ ys) ≡ length xs + length ys = long_append xs ys in omega arith

-- a number in a list
on_left : (c : ℕ) (xs ys : List ℕ) → On c xs → On c (xs ++ ys)
on_left c [] ys o = absurd o
on_left c (x ∷ xs) ys (inl e) = inl e
on_left c (x ∷ xs) ys (inr o) = inr (on_left c xs ys o)

on_right : (c : ℕ) (xs ys : List ℕ) → On c ys → On c (xs ++ ys)
on_right c [] ys o = o
on_right c (x ∷ xs) ys o = inr (on_right c xs ys o)

on_split : (c : ℕ) (xs : List ℕ) (y : ℕ) → On c (xs ++ y ∷ []) → On c xs ⊎ (c ≡ y)
on_split c [] y (inl e) = inr e
on_split c [] y (inr o) = absurd o
on_split c (x ∷ xs) y (inl e) = inl (inl e)
on_split c (x ∷ xs) y (inr o) = elim (on_split c xs y o) [ inl p ↦ inl (inr p) | inr e ↦ inr e ]

on_number : (x n p : ℕ) → p < n → On (x + p) (numbers x n)
unfolding numbers
on_number x zero p h = absurd (omega arith)
on_number x (suc n) zero h = inl (omega arith)
on_number x (suc n) (suc p) h = inr (subst (λ j. On j (numbers (suc x) n)) (omega arith) (on_number (suc x) n p (omega arith)))

numbers_below : (m x n : ℕ) → x + n ≤ m → Each (λ c. c < m) (numbers x n)
unfolding numbers
numbers_below m x zero h = tt
numbers_below m x (suc n) h = (omega arith, numbers_below m (suc x) n (omega arith))

-- what stands in a row
stands_row : (a : Sub) (v x n : ℕ) → Each (λ c. Stands v (a c) → Stands_in v (row a x n)) (numbers x n)
unfolding numbers
stands_row a v x zero = tt
stands_row a v x (suc n) = ((λ s. inl s), each_map (λ c f s. inr (f s)) _ (stands_row a v (suc x) n))

row_stands : (a : Sub) (v x n : ℕ) → Stands_in v (row a x n) → (p : ℕ) × (p < n) × Stands v (a (x + p))
row_stands a v x zero o = absurd o
row_stands a v x (suc n) (inl o) = (0, omega arith, subst (λ j. Stands v (a j)) (omega arith) o)
row_stands a v x (suc n) (inr o) = let r = row_stands a v (suc x) n o in (suc r.0, (let q : r.0 < n = r.1 in omega arith), subst (λ j. Stands v (a j)) (omega arith) r.2)

-- what stands in the type of c stands in that of the start
abbrev pub Reaches : List Node → ℕ → ℕ → Type 0
Reaches nodes start c = (T : Tables) (home : ℕ → ℕ) (base : ℕ) → State T home base nodes [] → (D : ℕ) → Stable nodes D → (v : ℕ) → Stands v (resolved nodes D c) → Stands v (resolved nodes D start)

-- what leads there, for each of a list
all_reach : (nodes : List Node) (start : ℕ) (cs : List ℕ) → ((T : Tables) (home : ℕ → ℕ) (base : ℕ) → State T home base nodes [] → (D : ℕ) → Stable nodes D → (v : ℕ) → Each (λ c. Stands v (resolved nodes D c) → Stands v (resolved nodes D start)) cs) → Each (Reaches nodes start) cs
all_reach nodes start [] h = tt
all_reach nodes start (c ∷ cs) h = ((λ T home base st D sb v. (h T home base st D sb v).0), all_reach nodes start cs (λ T home base st D sb v. (h T home base st D sb v).1))

pub record Searching (nodes : List Node) (before seen : List Bool) (stack : List ℕ) (start : ℕ) : Type 0 where
  pub long : length seen ≡ length nodes
  pub within : Each (λ c. c < length nodes) stack
  pub reach : Each (Reaches nodes start) stack
  pub closed : (top : ℕ → ℕ) → Tops nodes top → Seen nodes seen stack top
  pub begun : (top : ℕ → ℕ) → Tops nodes top → (seen_at seen (top start) ≡ true) ⊎ On start stack
  pub more : (i : ℕ) → seen_at before i ≡ true → seen_at seen i ≡ true

pub searching_first : (nodes : List Node) (seen : List Bool) (stack : List ℕ) (start : ℕ) → length seen ≡ length nodes → start < length nodes → ((top : ℕ → ℕ) → Tops nodes top → Seen nodes seen [] top) → stack ≡ start ∷ [] → Searching nodes seen seen stack start
searching_first nodes seen stack start ls lt h is = subst (λ l. Searching nodes seen seen l start) (sym is) (record {
  long = ls;
  within = (lt, tt);
  reach = ((λ T home base st D sb v s. s), tt);
  closed = λ top t. let z = h top t in record { fine = z.fine; parts = λ i e c o. elim (z.parts i e c o) as (λ x. (seen_at seen (top c) ≡ true) ⊎ On c (start ∷ [])) [ inl p ↦ inl p | inr p ↦ absurd p ] };
  begun = λ top t. inr (inl refl);
  more = λ i e. e;
})

pub searching_last : (nodes : List Node) (before seen : List Bool) (stack : List ℕ) (start : ℕ) → stack ≡ [] → Searching nodes before seen stack start → (top : ℕ → ℕ) → Tops nodes top → Seen nodes seen [] top × (seen_at seen (top start) ≡ true)
searching_last nodes before seen stack start is s top t = (subst (λ l. Seen nodes seen l top) is (s.closed top t), (elim (s.begun top t) as (λ x. seen_at seen (top start) ≡ true) [ inl e ↦ e | inr o ↦ absurd (subst (On start) is o) ]))

-- one node is taken from the stack
module _ (nodes : List Node) (before seen : List Bool) (stack rest : List ℕ) (start at root : ℕ) (g : IsGraph nodes) (h : Searching nodes before seen stack start) (is : stack ≡ rest ++ at ∷ []) (f : Found nodes at root) where
  at_in : at < length nodes
  at_in = (each_right (λ c. c < length nodes) rest (at ∷ []) (subst (Each (λ c. c < length nodes)) is h.within)).0

  pub taken_in : at < length nodes
  taken_in = at_in

  pub root_in : root < length seen
  root_in = subst (λ n. root < n) (sym h.long) f.within

  at_reach : Reaches nodes start at
  at_reach = (each_right (Reaches nodes start) rest (at ∷ []) (subst (Each (Reaches nodes start)) is h.reach)).0

  root_reach : Reaches nodes start root
  root_reach T home base st D sb v s = at_reach T home base st D sb v (subst (Stands v) (sym (top_stable T home base nodes g st D sb at at_in ∙ ap (resolved nodes D) (f.tops st.top st.tops))) s)

  rest_within : Each (λ c. c < length nodes) rest
  rest_within = each_left (λ c. c < length nodes) rest (at ∷ []) (subst (Each (λ c. c < length nodes)) is h.within)

  rest_reach : Each (Reaches nodes start) rest
  rest_reach = each_left (Reaches nodes start) rest (at ∷ []) (subst (Each (Reaches nodes start)) is h.reach)

  -- what was on the stack is on the rest, or has this root
  still : (top : ℕ → ℕ) → Tops nodes top → (c : ℕ) → On c stack → On c rest ⊎ (top c ≡ root)
  still top t c o = elim (on_split c rest at (subst (On c) is o)) as (λ x. On c rest ⊎ (top c ≡ root)) [ inl p ↦ inl p | inr e ↦ inr (ap top e ∙ f.tops top t) ]

  pub searching_seen : seen_at seen root ≡ true → Searching nodes before seen rest start
  searching_seen e = record {
    long = h.long;
    within = rest_within;
    reach = rest_reach;
    closed = λ top t. let z = h.closed top t in record {
      fine = z.fine;
      parts = λ i s c o. elim (z.parts i s c o) as (λ x. (seen_at seen (top c) ≡ true) ⊎ On c rest) [ inl p ↦ inl p | inr q ↦ elim (still top t c q) as (λ x. (seen_at seen (top c) ≡ true) ⊎ On c rest) [ inl r ↦ inr r | inr r ↦ inl (ap (seen_at seen) r ∙ e) ] ];
    };
    begun = λ top t. elim (h.begun top t) as (λ x. (seen_at seen (top start) ≡ true) ⊎ On start rest) [ inl p ↦ inl p | inr q ↦ elim (still top t start q) as (λ x. (seen_at seen (top start) ≡ true) ⊎ On start rest) [ inl r ↦ inr r | inr r ↦ inl (ap (seen_at seen) r ∙ e) ] ];
    more = h.more;
  }

  pub seen_less : length rest + todo nodes seen < length stack + todo nodes seen
  seen_less = let l : length stack ≡ length rest + 1 = ap length is ∙ long_append rest (at ∷ []) in omega arith

  -- it is undecided
  undecided_loose : (k : Kind) (o : Form) → Undecided k o → Loose o
  undecided_loose k form.Free u = tt
  undecided_loose k (form.Link j) u = absurd u
  undecided_loose k (form.Made hd x n) u = absurd u
  undecided_loose k (form.Open e n) u = tt

  pub stands_here : IsUndecided nodes root → Stands_in_type nodes start root
  stands_here u T home base st D sb = root_reach T home base st D sb root (subst (Stands root) (sym (loose_stable T home base nodes g st D sb root (node_at nodes root).form f.within refl (undecided_loose (node_at nodes root).kind (node_at nodes root).form u))) refl)

  -- it is not, and its parts are to be seen
  parts_in : Each (λ c. c < length nodes) (made_parts (node_at nodes root).form)
  parts_in = go (node_at nodes root).form (g.within root f.within)
    where
      go : (o : Form) → Within (length nodes) root o → Each (λ c. c < length nodes) (made_parts o)
      go form.Free w = tt
      go (form.Link j) w = tt
      go (form.Made hd x n) w = numbers_below (length nodes) x n w
      go (form.Open e n) w = tt

  parts_reach : Each (Reaches nodes start) (made_parts (node_at nodes root).form)
  parts_reach = go (node_at nodes root).form refl
    where
      go : (o : Form) → (node_at nodes root).form ≡ o → Each (Reaches nodes start) (made_parts o)
      go form.Free e = tt
      go (form.Link j) e = tt
      go (form.Made hd x n) e = all_reach nodes start (numbers x n) (λ T home base st D sb v. each_map (λ c k s. root_reach T home base st D sb v (subst (Stands v) (sym (made_stable T home base nodes g st D sb root hd x n f.within e)) (k s))) _ (stands_row (resolved nodes D) v x n))
      go (form.Open e' n) e = tt

  module _ (now : List Bool) (next : List ℕ) (in_ : now ≡ with_seen seen root true) (ix : next ≡ rest ++ made_parts (node_at nodes root).form) (fine : IsUndecided nodes root → ⊥) where
    kept : (j : ℕ) → seen_at seen j ≡ true → seen_at now j ≡ true
    kept j e = ap (λ s. seen_at s j) in_ ∙ seen_more seen root j root_in e

    here : seen_at now root ≡ true
    here = ap (λ s. seen_at s root) in_ ∙ seen_same seen root true root_in

    old_or : (i : ℕ) → seen_at now i ≡ true → (i ≡ root) ⊎ (seen_at seen i ≡ true)
    old_or i e = elim (ℕ_discrete i root) as (λ d. (i ≡ root) ⊎ (seen_at seen i ≡ true)) [ yes z ↦ inl z | no ne ↦ inr (sym (seen_other seen root i true ne) ∙ ap (λ s. seen_at s i) (sym in_) ∙ e) ]

    on_rest : (top : ℕ → ℕ) → Tops nodes top → (c : ℕ) → On c stack → (seen_at now (top c) ≡ true) ⊎ On c next
    on_rest top t c o = elim (still top t c o) as (λ x. (seen_at now (top c) ≡ true) ⊎ On c next) [ inl r ↦ inr (subst (On c) (sym ix) (on_left c rest _ r)) | inr r ↦ inl (ap (seen_at now) r ∙ here) ]

    pub searching_more : Searching nodes before now next start
    searching_more = record {
      long = ap length in_ ∙ seen_long seen root true ∙ h.long;
      within = subst (Each (λ c. c < length nodes)) (sym ix) (each_append (λ c. c < length nodes) rest _ rest_within parts_in);
      reach = subst (Each (Reaches nodes start)) (sym ix) (each_append (Reaches nodes start) rest _ rest_reach parts_reach);
      closed = λ top t. let z = h.closed top t in record {
        fine = λ i e. elim (old_or i e) as (λ x. IsUndecided nodes i → ⊥) [ inl q ↦ subst (λ j. IsUndecided nodes j → ⊥) (sym q) fine | inr q ↦ z.fine i q ];
        parts = λ i e c o. elim (old_or i e) as (λ x. (seen_at now (top c) ≡ true) ⊎ On c next) [
          | inl q ↦ inr (subst (On c) (sym ix) (on_right c rest _ (subst (λ j. On c (made_parts (node_at nodes j).form)) q o)))
          | inr q ↦ elim (z.parts i q c o) as (λ x. (seen_at now (top c) ≡ true) ⊎ On c next) [ inl p ↦ inl (kept (top c) p) | inr p ↦ on_rest top t c p ]
        ];
      };
      begun = λ top t. elim (h.begun top t) as (λ x. (seen_at now (top start) ≡ true) ⊎ On start next) [ inl p ↦ inl (kept (top start) p) | inr p ↦ on_rest top t start p ];
      more = λ i e. kept i (h.more i e);
    }

    pub more_less : seen_at seen root ≡ false → length next + todo nodes now < length stack + todo nodes seen
    more_less e =
        let l : length stack ≡ length rest + 1 = ap length is ∙ long_append rest (at ∷ []) in
        let m : length next ≡ length rest + length (made_parts (node_at nodes root).form) = ap length ix ∙ long_append rest (made_parts (node_at nodes root).form) in
        let p : length (made_parts (node_at nodes root).form) ≤ arity (node_at nodes root).form = parts_long (node_at nodes root).form in
        let q : todo nodes now + (1 + arity (node_at nodes root).form) ≡ todo nodes seen = ap (λ s. todo nodes s + (1 + arity (node_at nodes root).form)) in_ ∙ todo_set nodes seen root f.within root_in e in
        omega arith

-- all that is seen is decided
module _ (nodes : List Node) (seen : List Bool) (g : IsGraph nodes) (T : Tables) (home : ℕ → ℕ) (base : ℕ) (st : State T home base nodes []) (D : ℕ) (sb : Stable nodes D) (z : Seen nodes seen [] st.top) where
  decided_to : (f i : ℕ) → i < length nodes → size (resolved nodes D i) ≤ f → seen_at seen (st.top i) ≡ true → (v : ℕ) → Stands v (resolved nodes D i) → IsUndecided nodes v → ⊥
  unfolding size
  decided_to zero i lt le e v s u = no_size (resolved nodes D i) le
    where
      no_size : (t : Ty) → size t ≤ 0 → ⊥
      no_size (Var n) le = omega arith
      no_size (Made h ts) le = omega arith
  decided_to (suc f) i lt le e v s u = go (λ j p q r w x y. decided_to f j p q r w x y) (node_at nodes (st.top i)).form refl
    where
      top_in : st.top i < length nodes
      top_in = st.tops.below i lt

      here : Stands v (resolved nodes D (st.top i))
      here = subst (Stands v) (top_stable T home base nodes g st D sb i lt) s

      loose : (o : Form) → (node_at nodes (st.top i)).form ≡ o → Loose o → ⊥
      loose o is l = let same : v ≡ st.top i = subst (Stands v) (loose_stable T home base nodes g st D sb (st.top i) o top_in is l) here in z.fine (st.top i) e (subst (IsUndecided nodes) same u)

      go : ((j : ℕ) → j < length nodes → size (resolved nodes D j) ≤ f → seen_at seen (st.top j) ≡ true → (v : ℕ) → Stands v (resolved nodes D j) → IsUndecided nodes v → ⊥) → (o : Form) → (node_at nodes (st.top i)).form ≡ o → ⊥
      go ih form.Free is = loose form.Free is tt
      go ih (form.Open y n) is = loose (form.Open y n) is tt
      go ih (form.Link j) is = subst IsRoot is (st.tops.roots i lt)
      go ih (form.Made hd x n) is =
          let w : x + n ≤ length nodes = subst (Within (length nodes) (st.top i)) is (g.within (st.top i) top_in) in
          let sh : resolved nodes D (st.top i) ≡ Made hd (row (resolved nodes D) x n) = made_stable T home base nodes g st D sb (st.top i) hd x n top_in is in
          let part = row_stands (resolved nodes D) v x n (subst (Stands v) sh here) in
          let lp : part.0 < n = part.1 in
          let small : size (resolved nodes D (x + part.0)) < size (resolved nodes D (st.top i)) = part_smaller (resolved nodes D) (resolved nodes D (st.top i)) hd x n part.0 sh part.1 in
          let same : size (resolved nodes D i) ≡ size (resolved nodes D (st.top i)) = ap size (top_stable T home base nodes g st D sb i lt) in
          elim (z.parts (st.top i) e (x + part.0) (subst (λ o. On (x + part.0) (made_parts o)) (sym is) (on_number x n part.0 part.1))) as (λ y. ⊥) [
            | inl q ↦ ih (x + part.0) (omega arith) (omega arith) q v part.2 u
            | inr o ↦ absurd o
          ]

  pub decided : (i : ℕ) → i < length nodes → seen_at seen (st.top i) ≡ true → (v : ℕ) → Stands v (resolved nodes D i) → IsUndecided nodes v → ⊥
  decided i lt e v s u = decided_to (size (resolved nodes D i)) i lt (omega arith) e v s u

pub seen_none : (nodes : List Node) (seen : List Bool) → ((i : ℕ) → seen_at seen i ≡ false) → (top : ℕ → ℕ) → Seen nodes seen [] top
seen_none nodes seen h top = record { fine = λ i e. absurd (false_true (sym (h i) ∙ e)); parts = λ i e. absurd (false_true (sym (h i) ∙ e)) }
