-- What the positions of the function types around stand for, once an application is matched.
use Rattle.std.proofs.Common.{◌≡◌, ◌⊎◌, ℕ, zero, suc, ◌+◌, ◌-◌, ◌<◌, ◌≤◌, List, [], Bool, true, false, cond, refl, sym, ap, ◌∙◌, subst, arith, inl, inr, eq-eqb, lt-ltb, le-ltb}
use Rattle.std.specs.Prelude.{nat_lt, length}
use Rattle.std.proofs.lemmas.Bool.{ne_eqb}
use Rattle.sized_types.specs.Sizes.{Free, Const, Name, Own, Unknown, Slot, Dim, At, Bound, Size, Hole, Open, Level, Built, Fun, Sizes, no_size, size_and, replaced, all_replaced, given, renaming, renamed, opened}
use Rattle.fut_sizes.specs.Functions.{sizes_in, is_slot, unknown_slot, chosen_in, behind, quantified}
use Rattle.fut_sizes.specs.Matching.{Found, found_size, found_dim, read, all_read, Opened, inside, lifted, dim_in}
use Rattle.fut_sizes.specs.Rules.{Each_hole, Each_holes}
use Rattle.fut_sizes.specs.Suiting.{Each, Each_all, Scoped, Of_positions, Data, All_data}
use Rattle.sizes_meet_rules.proofs.Meeting.{order}
use Rattle.sizes_meet_rules.proofs.Reading.{Opens}
use Rattle.sizes_meet_rules.proofs.Replacing.{each_as, not_replaced}
use Rattle.sizes_meet_rules.proofs.Settling.{Is_settled, Any_variable, no_slots, Leaves, untouched, leaves_behind, depth}

-- of each frame, the nearest first
abbrev pub Frames : Type 0
Frames = ℕ → ℕ → Free

unfoldable pub pushed : (ℕ → Free) → Frames → Frames
pushed δ ε zero = δ
pushed δ ε (suc j) = ε j

abbrev pub fill : Frames → ℕ → Dim → Dim
fill ε j (At d) = At d
fill ε j (Bound k i) = cond (nat_lt k j) (Bound k i) (At (ε (k - j) i))

abbrev pub filled : Frames → ℕ → Size → Size
filled ε j t = replaced (fill ε) j t

-- ---- one frame more

fill_low : (ε : Frames) (j k i : ℕ) → k < j → fill ε j (Bound k i) ≡ Bound k i
fill_low ε j k i l = ap (λ b. cond b (Bound k i) (At (ε (k - j) i))) (lt-ltb k j l)

fill_high : (ε : Frames) (j k i : ℕ) → j ≤ k → fill ε j (Bound k i) ≡ At (ε (k - j) i)
fill_high ε j k i l = ap (λ b. cond b (Bound k i) (At (ε (k - j) i))) (le-ltb k j l)

one_opened : (δ : ℕ → Free) (ε : Frames) (j : ℕ) (d : Dim) → given δ (suc j) (fill ε (suc j) d) ≡ fill (pushed δ ε) j d
unfolding pushed
one_opened δ ε j (At d) = refl
one_opened δ ε j (Bound k i) = by_order (order k j) (order j k)
  where
    low : k < j → given δ (suc j) (fill ε (suc j) (Bound k i)) ≡ fill (pushed δ ε) j (Bound k i)
    low l = ap (given δ (suc j)) (fill_low ε (suc j) k i (omega (arith, l))) ∙ ap (λ b. cond b (At (δ i)) (Bound k i)) (ne_eqb (suc k) (suc j) (λ z. omega (arith, z, l))) ∙ sym (fill_low (pushed δ ε) j k i l)

    same : k ≡ j → given δ (suc j) (fill ε (suc j) (Bound k i)) ≡ fill (pushed δ ε) j (Bound k i)
    same z = ap (given δ (suc j)) (fill_low ε (suc j) k i (omega (arith, z))) ∙ ap (λ b. cond b (At (δ i)) (Bound k i)) (eq-eqb (suc k) (suc j) (omega (arith, z)))
        ∙ sym (fill_high (pushed δ ε) j k i (omega (arith, z)) ∙ ap (λ m. At (pushed δ ε m i)) (let y : k - j ≡ 0 = omega (arith, z) in y))

    high : j < k → given δ (suc j) (fill ε (suc j) (Bound k i)) ≡ fill (pushed δ ε) j (Bound k i)
    high l = ap (given δ (suc j)) (fill_high ε (suc j) k i (omega (arith, l)))
        ∙ sym (fill_high (pushed δ ε) j k i (omega (arith, l)) ∙ ap (λ m. At (pushed δ ε m i)) (let y : k - j ≡ suc (k - suc j) = omega (arith, l) in y))

    by_order : (k < j) ⊎ (j ≤ k) → (j < k) ⊎ (k ≤ j) → given δ (suc j) (fill ε (suc j) (Bound k i)) ≡ fill (pushed δ ε) j (Bound k i)
    by_order (inl l) o = low l
    by_order (inr l) (inl m) = high m
    by_order (inr l) (inr m) = same (omega (arith, l, m))

module _ (δ : ℕ → Free) (ε : Frames) where
  mutual
    unfolding replaced all_replaced

    open_filled : (t : Size) (j : ℕ) → replaced (given δ) (suc j) (replaced (fill ε) (suc j) t) ≡ replaced (fill (pushed δ ε)) j t
    open_filled (Hole v) j = refl
    open_filled (Open n v u) j = refl
    open_filled (Level d t) j = ap (λ x. Level x (replaced (given δ) (suc j) (replaced (fill ε) (suc j) t))) (one_opened δ ε j d) ∙ ap (Level (fill (pushed δ ε) j d)) (open_filled t j)
    open_filled (Built h ts) j = ap (Built h) (all_open_filled ts j)
    open_filled (Fun k p r) j = ap (λ x. Fun k x (replaced (given δ) (suc (suc j)) (replaced (fill ε) (suc (suc j)) r))) (open_filled p (suc j)) ∙ ap (Fun k (replaced (fill (pushed δ ε)) (suc j) p)) (open_filled r (suc j))

    all_open_filled : (ts : Sizes) (j : ℕ) → all_replaced (given δ) (suc j) (all_replaced (fill ε) (suc j) ts) ≡ all_replaced (fill (pushed δ ε)) j ts
    all_open_filled no_size j = refl
    all_open_filled (size_and t ts) j = ap (λ x. size_and x (all_replaced (given δ) (suc j) (all_replaced (fill ε) (suc j) ts))) (open_filled t j) ∙ ap (size_and (replaced (fill (pushed δ ε)) j t)) (all_open_filled ts j)

  pub opened_filled : (t : Size) → opened δ (filled ε 1 t) ≡ filled (pushed δ ε) 0 t
  opened_filled t = open_filled t 0

-- positions of the frame itself stay
pub fill_keeps : (ε : Frames) (Q : ℕ → Type 0) (m j : ℕ) (d : Dim) → m ≤ j → Of_positions Q m d → Of_positions Q m (fill ε j d)
fill_keeps ε Q m j (At x) l h = tt
fill_keeps ε Q m j (Bound k i) l h = by_less (nat_lt k j)
  where
    by_less : (b : Bool) → Of_positions Q m (cond b (Bound k i) (At (ε (k - j) i)))
    by_less true = h
    by_less false = tt

pub fill_back : (ε : Frames) (Q : ℕ → Type 0) (m j : ℕ) (d : Dim) → m ≤ j → Of_positions Q m (fill ε j d) → Of_positions Q m d
fill_back ε Q m j (At x) l h = tt
fill_back ε Q m j (Bound k i) l h = λ e. subst (Of_positions Q m) (ap (λ b. cond b (Bound k i) (At (ε (k - j) i))) (lt-ltb k j (omega (arith, e, l)))) h e

-- what names no frame around
module _ (In : Free → Type 0) (ε : Frames) where
  unmoved : (j : ℕ) (d : Dim) → Scoped In j d → fill ε j d ≡ d
  unmoved j (At x) o = refl
  unmoved j (Bound k i) l = fill_low ε j k i l

  mutual
    unfolding Each Each_all

    all_unmoved : (t : Size) (j : ℕ) → Each (Scoped In) j t → Each (λ i d. fill ε i d ≡ d) j t
    all_unmoved (Hole v) j h = tt
    all_unmoved (Open n v u) j h = tt
    all_unmoved (Level d t) j h = (unmoved j d h.0, all_unmoved t j h.1)
    all_unmoved (Built g ts) j h = parts_unmoved ts j h
    all_unmoved (Fun k p r) j h = (all_unmoved p (suc j) h.0, all_unmoved r (suc j) h.1)

    parts_unmoved : (ts : Sizes) (j : ℕ) → Each_all (Scoped In) j ts → Each_all (λ i d. fill ε i d ≡ d) j ts
    parts_unmoved no_size j h = tt
    parts_unmoved (size_and t ts) j h = (all_unmoved t j h.0, parts_unmoved ts j h.1)

  pub not_filled : (t : Size) → Each (Scoped In) 0 t → filled ε 0 t ≡ t
  not_filled t h = not_replaced (fill ε) t 0 (all_unmoved t 0 h)

-- frames that stand for the same fill the same
module _ (ε ε' : Frames) (same : (j i : ℕ) → ε j i ≡ ε' j i) where
  fills_same : (j : ℕ) (d : Dim) → fill ε j d ≡ fill ε' j d
  fills_same j (At x) = refl
  fills_same j (Bound k i) = ap (λ x. cond (nat_lt k j) (Bound k i) (At x)) (same (k - j) i)

  mutual
    unfolding replaced all_replaced

    pub filled_same : (t : Size) (j : ℕ) → filled ε j t ≡ filled ε' j t
    filled_same (Hole v) j = refl
    filled_same (Open n v u) j = refl
    filled_same (Level d t) j = ap (λ x. Level x (filled ε j t)) (fills_same j d) ∙ ap (Level (fill ε' j d)) (filled_same t j)
    filled_same (Built h ts) j = ap (Built h) (all_filled_same ts j)
    filled_same (Fun k p r) j = ap (λ x. Fun k x (filled ε (suc j) r)) (filled_same p (suc j)) ∙ ap (Fun k (filled ε' (suc j) p)) (filled_same r (suc j))

    all_filled_same : (ts : Sizes) (j : ℕ) → all_replaced (fill ε) j ts ≡ all_replaced (fill ε') j ts
    all_filled_same no_size j = refl
    all_filled_same (size_and t ts) j = ap (λ x. size_and x (all_replaced (fill ε) j ts)) (filled_same t j) ∙ ap (size_and (filled ε' j t)) (all_filled_same ts j)

-- sizes by themselves are of these, and of the frames around only these positions are meant
abbrev pub Okay : (Free → Type 0) → (ℕ → ℕ → Type 0) → ℕ → Dim → Type 0
Okay In ok j (At d) = In d
Okay In ok j (Bound k i) = (k < j) ⊎ ((j ≤ k) × ok (k - j) i)

-- of one frame more
unfoldable pub more : (ℕ → Type 0) → (ℕ → ℕ → Type 0) → ℕ → ℕ → Type 0
more Q ok zero i = Q i
more Q ok (suc j) i = ok j i

abbrev pub none_meant : ℕ → ℕ → Type 0
none_meant j i = ⊥

pub by_itself : (In : Free → Type 0) (t : Size) → Each (Scoped In) 0 t → Each (Okay In none_meant) 0 t
by_itself In t h = each_as (Scoped In) (Okay In none_meant) here t 0 h
  where
    here : (j : ℕ) (d : Dim) → Scoped In j d → Okay In none_meant j d
    here j (At x) o = o
    here j (Bound k i) l = inl l

module _ (In : Free → Type 0) (Q : ℕ → Type 0) (ok : ℕ → ℕ → Type 0) where
  one_entered : (j : ℕ) (d : Dim) → Okay In ok (suc j) d → Of_positions Q (suc j) d → Okay In (more Q ok) j d
  unfolding more
  one_entered j (At x) h q = h
  one_entered j (Bound k i) (inl l) q = by_order (order k j)
    where
      by_order : (k < j) ⊎ (j ≤ k) → (k < j) ⊎ ((j ≤ k) × more Q ok (k - j) i)
      by_order (inl m) = inl m
      by_order (inr m) = inr (m, subst (λ n. more Q ok n i) (let z : 0 ≡ k - j = omega (arith, l, m) in z) (q (omega (arith, l, m))))
  one_entered j (Bound k i) (inr w) q = let l = w.0 in inr (omega (arith, l), subst (λ n. more Q ok n i) (let z : suc (k - suc j) ≡ k - j = omega (arith, l) in z) w.1)

  mutual
    unfolding Each Each_all

    pub entered : (t : Size) (j : ℕ) → Each (Okay In ok) (suc j) t → Each (Of_positions Q) (suc j) t → Each (Okay In (more Q ok)) j t
    entered (Hole v) j h q = tt
    entered (Open n v u) j h q = tt
    entered (Level d t) j h q = (one_entered j d h.0 q.0, entered t j h.1 q.1)
    entered (Built g ts) j h q = all_entered ts j h q
    entered (Fun k p r) j h q = (entered p (suc j) h.0 q.0, entered r (suc j) h.1 q.1)

    all_entered : (ts : Sizes) (j : ℕ) → Each_all (Okay In ok) (suc j) ts → Each_all (Of_positions Q) (suc j) ts → Each_all (Okay In (more Q ok)) j ts
    all_entered no_size j h q = tt
    all_entered (size_and t ts) j h q = (entered t j h.0 q.0, all_entered ts j h.1 q.1)

-- what the frames stand for says this
module _ (In Q : Free → Type 0) (wider : (d : Free) → In d → Q d) (ε : Frames) (ok : ℕ → ℕ → Type 0) (all_in : (j i : ℕ) → ok j i → Q (ε j i)) where
  one_says : (j : ℕ) (d : Dim) → Okay In ok j d → Scoped Q j (fill ε j d)
  one_says j (At x) h = wider x h
  one_says j (Bound k i) (inl l) = subst (Scoped Q j) (sym (fill_low ε j k i l)) l
  one_says j (Bound k i) (inr w) = subst (Scoped Q j) (sym (fill_high ε j k i w.0)) (all_in (k - j) i w.1)

  mutual
    unfolding Each Each_all replaced all_replaced

    pub filled_says : (t : Size) (j : ℕ) → Each (Okay In ok) j t → Each (Scoped Q) j (filled ε j t)
    filled_says (Hole v) j h = tt
    filled_says (Open n v u) j h = tt
    filled_says (Level d t) j h = (one_says j d h.0, filled_says t j h.1)
    filled_says (Built g ts) j h = all_filled_say ts j h
    filled_says (Fun k p r) j h = (filled_says p (suc j) h.0, filled_says r (suc j) h.1)

    all_filled_say : (ts : Sizes) (j : ℕ) → Each_all (Okay In ok) j ts → Each_all (Scoped Q) j (all_replaced (fill ε) j ts)
    all_filled_say no_size j h = tt
    all_filled_say (size_and t ts) j h = (filled_says t j h.0, all_filled_say ts j h.1)

-- what the size of each position becomes, frame by frame
pub pushed_as : (f : Free → Free) (δ : ℕ → Free) (ε : Frames) (j i : ℕ) → pushed (λ k. f (δ k)) (λ l k. f (ε l k)) j i ≡ f (pushed δ ε j i)
unfolding pushed
pushed_as f δ ε zero i = refl
pushed_as f δ ε (suc j) i = refl

-- ---- what is opened and read is filled

-- the function types around are opened as these frames say, at the positions that are meant
abbrev pub Framed : Opened → (ℕ → ℕ → Type 0) → Frames → Type 0
Framed φ ok δ = (j i : ℕ) → ok j i → φ j i ≡ At (δ j i)

pub push_framed : (φ : Opened) (ok : ℕ → ℕ → Type 0) (δ : Frames) (F : ℕ → Dim) (f : ℕ → Free) (Q : ℕ → Type 0) → ((i : ℕ) → Q i → F i ≡ At (f i)) → Framed φ ok δ → Framed (inside F φ) (more Q ok) (pushed f δ)
unfolding inside pushed more
push_framed φ ok δ F f Q e h zero i l = e i l
push_framed φ ok δ F f Q e h (suc j) i l = h j i l

module _ (In : Free → Type 0) (no_slot : (d : Free) → In d → is_slot d ≡ false) (φ : Opened) (ok : ℕ → ℕ → Type 0) (δ : Frames) (framed : Framed φ ok δ) where
  pub dim_low : (j k i : ℕ) → k < j → dim_in φ j (Bound k i) ≡ Bound k i
  dim_low j k i l = ap (λ b. cond b (Bound k i) (lifted j (φ (k - j) i))) (lt-ltb k j l)

  pub dim_high : (j k i : ℕ) → j ≤ k → ok (k - j) i → dim_in φ j (Bound k i) ≡ At (δ (k - j) i)
  dim_high j k i l o = ap (λ b. cond b (Bound k i) (lifted j (φ (k - j) i))) (le-ltb k j l) ∙ ap (lifted j) (framed (k - j) i o)

  module _ (lo at : ℕ) where
    one_opens : (d : Dim) → Okay In ok 0 d → Opens lo at φ 0 d
    one_opens (At x) h = (x, refl)
    one_opens (Bound k i) (inl l) = absurd (omega (arith, l))
    one_opens (Bound k i) (inr w) = (δ (k - 0) i, dim_high 0 k i w.0 w.1)

    mutual
      unfolding Each Each_all Data All_data

      pub opens : (x : Size) → Data x → Each (Okay In ok) 0 x → Each (Opens lo at φ) 0 x
      opens (Hole v) d h = tt
      opens (Open n v u) d h = absurd d
      opens (Level e x) d h = (one_opens e h.0, opens x d h.1)
      opens (Built g xs) d h = all_open xs d h
      opens (Fun l p r) d h = absurd d

      all_open : (xs : Sizes) → All_data xs → Each_all (Okay In ok) 0 xs → Each_all (Opens lo at φ) 0 xs
      all_open no_size d h = tt
      all_open (size_and x xs) d h = (opens x d.0 h.0, all_open xs d.1 h.1)

  module _ (τ : Found) where
    -- what each position stands for in the end
    abbrev pub in_the_end : Free → Free
    in_the_end x = unknown_slot τ.maker (found_size τ x)

    abbrev pub ended : Frames
    ended j i = in_the_end (δ j i)

    still : (x : Free) → is_slot x ≡ false → in_the_end x ≡ x
    still (Slot i) s = absurd (let z : true ≡ false = s in cc)
    still (Const c) s = refl
    still (Name c) s = refl
    still (Own n c) s = refl
    still (Unknown n c) s = refl

    one_closes : (l j : ℕ) (d : Dim) → Okay In ok j d → renaming (unknown_slot τ.maker) l (found_dim τ 0 (dim_in φ j d)) ≡ fill ended j d
    one_closes l j (At x) h = ap At (still x (no_slot x h))
    one_closes l j (Bound k i) (inl o) = ap (λ x. renaming (unknown_slot τ.maker) l (found_dim τ 0 x)) (dim_low j k i o) ∙ sym (fill_low ended j k i o)
    one_closes l j (Bound k i) (inr w) = ap (λ x. renaming (unknown_slot τ.maker) l (found_dim τ 0 x)) (dim_high j k i w.0 w.1) ∙ sym (fill_high ended j k i w.0)

    mutual
      unfolding Each Each_all Each_hole Each_holes read all_read replaced all_replaced

      pub closes : (x : Size) (l j : ℕ) → Each (Okay In ok) j x → Each_hole Any_variable x → replaced (renaming (unknown_slot τ.maker)) l (read τ (replaced (dim_in φ) j x)) ≡ filled ended j x
      closes (Hole v) l j h o = refl
      closes (Open n v u) l j h o = absurd o
      closes (Level e x) l j h o = ap (λ w. Level w (replaced (renaming (unknown_slot τ.maker)) l (read τ (replaced (dim_in φ) j x)))) (one_closes l j e h.0) ∙ ap (Level (fill ended j e)) (closes x l j h.1 o)
      closes (Built g xs) l j h o = ap (Built g) (all_close xs l j h o)
      closes (Fun k p r) l j h o = ap (λ w. Fun k w (replaced (renaming (unknown_slot τ.maker)) (suc l) (read τ (replaced (dim_in φ) (suc j) r)))) (closes p (suc l) (suc j) h.0 o.0)
          ∙ ap (Fun k (filled ended (suc j) p)) (closes r (suc l) (suc j) h.1 o.1)

      all_close : (xs : Sizes) (l j : ℕ) → Each_all (Okay In ok) j xs → Each_holes Any_variable xs → all_replaced (renaming (unknown_slot τ.maker)) l (all_read τ (all_replaced (dim_in φ) j xs)) ≡ all_replaced (fill ended) j xs
      all_close no_size l j h o = refl
      all_close (size_and x xs) l j h o = ap (λ w. size_and w (all_replaced (renaming (unknown_slot τ.maker)) l (all_read τ (all_replaced (dim_in φ) j xs)))) (closes x l j h.0 o.0) ∙ ap (size_and (filled ended j x)) (all_close xs l j h.1 o.1)

-- ---- where no slot stands in what a function takes, none is chosen again

unfoldable pub Settled_parameters : ℕ → Size → Type 0
Settled_parameters i (Fun k p r) = Each (Scoped Is_settled) (suc i) p × Settled_parameters (suc i) r
Settled_parameters i t = Unit {0}

module _ (maker : ℕ → ℕ) where
  any_level : (l m : ℕ) (d : Dim) → renaming (unknown_slot maker) l d ≡ renaming (unknown_slot maker) m d
  any_level l m (At x) = refl
  any_level l m (Bound k i) = refl

  mutual
    unfolding replaced all_replaced

    at_any_level : (t : Size) (l m : ℕ) → replaced (renaming (unknown_slot maker)) l t ≡ replaced (renaming (unknown_slot maker)) m t
    at_any_level (Hole v) l m = refl
    at_any_level (Open n v u) l m = refl
    at_any_level (Level d t) l m = ap (λ x. Level x (replaced (renaming (unknown_slot maker)) l t)) (any_level l m d) ∙ ap (Level (renaming (unknown_slot maker) m d)) (at_any_level t l m)
    at_any_level (Built h ts) l m = ap (Built h) (all_at_any_level ts l m)
    at_any_level (Fun k p r) l m = ap (λ x. Fun k x (replaced (renaming (unknown_slot maker)) (suc l) r)) (at_any_level p (suc l) (suc m)) ∙ ap (Fun k (replaced (renaming (unknown_slot maker)) (suc m) p)) (at_any_level r (suc l) (suc m))

    all_at_any_level : (ts : Sizes) (l m : ℕ) → all_replaced (renaming (unknown_slot maker)) l ts ≡ all_replaced (renaming (unknown_slot maker)) m ts
    all_at_any_level no_size l m = refl
    all_at_any_level (size_and t ts) l m = ap (λ x. size_and x (all_replaced (renaming (unknown_slot maker)) l ts)) (at_any_level t l m) ∙ ap (size_and (replaced (renaming (unknown_slot maker)) m t)) (all_at_any_level ts l m)

  plain_end : (outer : ℕ → Dim → Dim) (t : Size) (j l : ℕ) → Leaves outer → renamed (unknown_slot maker) (replaced outer j t) ≡ replaced (renaming (unknown_slot maker)) l t
  plain_end outer t j l h = ap (renamed (unknown_slot maker)) (untouched outer h t j) ∙ at_any_level t 0 l

  chosen_as : (outer : ℕ → Dim → Dim) (t : Size) (j i l : ℕ) → Leaves outer → Settled_parameters i t → chosen_in maker outer j t ≡ replaced (renaming (unknown_slot maker)) l t
  unfolding chosen_in replaced Settled_parameters
  chosen_as outer (Fun k p r) j i l h o =
      let same = untouched outer h p (suc j) in
      let none : sizes_in is_slot (replaced outer (suc j) p) ≡ [] = ap (sizes_in is_slot) same ∙ no_slots p (suc i) o.0 in
      let still = leaves_behind k j (sizes_in is_slot (replaced outer (suc j) p)) outer none h in
      ap (λ m. Fun m (replaced (behind k j (sizes_in is_slot (replaced outer (suc j) p)) outer) (suc j) p) (chosen_in maker (behind k j (sizes_in is_slot (replaced outer (suc j) p)) outer) (suc j) r)) (ap (λ (xs : List Free). length xs + k) none ∙ (let z : 0 + k ≡ k = omega arith in z))
      ∙ ap (λ x. Fun k x (chosen_in maker (behind k j (sizes_in is_slot (replaced outer (suc j) p)) outer) (suc j) r)) (untouched (behind k j (sizes_in is_slot (replaced outer (suc j) p)) outer) still p (suc j) ∙ sym (not_replaced (renaming (unknown_slot maker)) p (suc l) (depth maker p (suc i) (suc l) o.0)))
      ∙ ap (Fun k (replaced (renaming (unknown_slot maker)) (suc l) p)) (chosen_as (behind k j (sizes_in is_slot (replaced outer (suc j) p)) outer) r (suc j) (suc i) (suc l) still o.1)
  chosen_as outer (Hole v) j i l h o = plain_end outer (Hole v) j l h
  chosen_as outer (Open m v u) j i l h o = plain_end outer (Open m v u) j l h
  chosen_as outer (Level d t) j i l h o = plain_end outer (Level d t) j l h
  chosen_as outer (Built g ts) j i l h o = plain_end outer (Built g ts) j l h

  pub quantified_as : (t : Size) → Settled_parameters 0 t → quantified maker t ≡ renamed (unknown_slot maker) t
  unfolding quantified
  quantified_as t o = chosen_as (λ j d. d) t 0 0 0 (λ i d. refl) o
