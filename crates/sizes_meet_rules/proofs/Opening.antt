-- Data inside of functions whose positions are opened: what is read of it, and how it is compared with data that is found.
use Rattle.std.proofs.Common.{◌≡◌, ◌⊎◌, ℕ, zero, suc, ◌+◌, ◌-◌, ◌<◌, ◌≤◌, Bool, true, false, cond, nat_eq, Ok, refl, sym, ap, ◌∙◌, subst, arith, inl, inr, lt-ltb, le-ltb}
use Rattle.std.specs.Prelude.{nat_lt}
use Rattle.fut_types.specs.declared.Head.TheVariants as head
use Rattle.fut_types.specs.Types.{Made, more, none}
use Rattle.sized_types.specs.Sizes.{Free, Const, Name, Own, Unknown, Slot, Dim, At, Bound, Variable, Size, Hole, Open, Level, Built, Fun, Sizes, no_size, size_and, erased, all_erased, replaced, all_replaced, has, some_has}
use Rattle.fut_sizes.specs.Agreeing.{then_do}
use Rattle.fut_sizes.specs.Functions.{is_slot}
use Rattle.fut_sizes.specs.Matching.{Found, counted, found_size, found_dim, read, all_read, Opened, none_opened, inside, lifted, dim_in, Way, data_way, is_unknown, meet_size, meet_dims, found_frame, compared, all_compared, meet, all_meet}
use Rattle.fut_sizes.specs.Rules.{Each_hole, Each_holes}
use Rattle.fut_sizes.specs.Suiting.{Each, Each_all, Scoped, Of_positions, Data, All_data}
use Rattle.sizes_meet_rules.specs.Known.{Formed, All_formed}
use Rattle.sizes_meet_rules.proofs.Chains.{Alone, alone_at}
use Rattle.sizes_meet_rules.proofs.Frames.{Frames, pushed, fill}
use Rattle.sizes_meet_rules.proofs.Meeting.{then_ok, order}
use Rattle.sizes_meet_rules.proofs.Reading.{Extends, found_settled, found_still}
use Rattle.sizes_meet_rules.proofs.Replacing.{each_as}

abbrev pub Any_free : Free → Type 0
Any_free d = Unit {0}

-- ---- data that is found is compared with data that is wanted

-- as what a function takes
abbrev pub found_way : Bool → Way
found_way regular = record { left_wanted = false; in_result = false; regular = regular }

way_same : (regular : Bool) (at : ℕ) (y e : Free) (σ : Found) → meet_size (found_way regular) at y e σ ≡ meet_size data_way at y e σ
way_same regular at (Slot i) (Slot j) σ = refl
way_same regular at (Slot i) e σ = refl
way_same regular at y (Slot j) σ = refl
way_same regular at y e σ = refl

module _ (regular : Bool) (lo at : ℕ) where
  mutual
    unfolding compared all_compared meet all_meet Each Each_all Data All_data

    pub as_data : (t u : Size) (σ τ : Found) → Data t → Data u → Each (Alone Any_free) 0 t → Each (Alone Any_free) 0 u → compared (found_way regular) at t u σ ≡ Ok τ → meet lo data_way at none_opened u none_opened t σ ≡ Ok τ
    as_data (Open n v x) u σ τ dt du at1 au q = absurd dt
    as_data (Fun k p r) u σ τ dt du at1 au q = absurd dt
    as_data t (Open n v x) σ τ dt du at1 au q = absurd du
    as_data t (Fun k p r) σ τ dt du at1 au q = absurd du
    as_data (Hole v) (Hole w) σ τ dt du at1 au q = q
    as_data (Hole v) (Level e u) σ τ dt du at1 au q = q
    as_data (Hole v) (Built g us) σ τ dt du at1 au q = q
    as_data (Level d t) (Hole w) σ τ dt du at1 au q = q
    as_data (Level d t) (Built g us) σ τ dt du at1 au q = q
    as_data (Level (Bound k i) t) (Level e u) σ τ dt du at1 au q = absurd at1.0
    as_data (Level (At d) t) (Level (Bound k i) u) σ τ dt du at1 au q = absurd au.0
    as_data (Level (At d) t) (Level (At e) u) σ τ dt du at1 au q =
        let r = then_ok (meet_dims (found_way regular) at (At d) (At e) σ) q in
        ap (λ y. then_do y (λ found. meet lo data_way at none_opened u none_opened t found)) (sym (way_same regular at (found_size σ e) (found_size σ d) σ) ∙ r.done) ∙ as_data t u r.first τ dt du at1.1 au.1 r.rest
    as_data (Built h ts) (Hole w) σ τ dt du at1 au q = q
    as_data (Built h ts) (Level e u) σ τ dt du at1 au q = q
    as_data (Built h ts) (Built g us) σ τ dt du at1 au q = all_as_data ts us σ τ dt du at1 au q

    all_as_data : (ts us : Sizes) (σ τ : Found) → All_data ts → All_data us → Each_all (Alone Any_free) 0 ts → Each_all (Alone Any_free) 0 us → all_compared (found_way regular) at ts us σ ≡ Ok τ → all_meet lo data_way at none_opened us none_opened ts σ ≡ Ok τ
    all_as_data no_size no_size σ τ dt du at1 au q = q
    all_as_data no_size (size_and u us) σ τ dt du at1 au q = q
    all_as_data (size_and t ts) no_size σ τ dt du at1 au q = q
    all_as_data (size_and t ts) (size_and u us) σ τ dt du at1 au q =
        let r = then_ok (compared (found_way regular) at t u σ) q in
        ap (λ y. then_do y (λ found. all_meet lo data_way at none_opened us none_opened ts found)) (as_data t u σ r.first dt.0 du.0 at1.0 au.0 r.done) ∙ all_as_data ts us r.first τ dt.1 du.1 at1.1 au.1 r.rest

-- what is read twice
module _ (σ τ : Found) (extends : Extends σ τ) (slots : (j : ℕ) → (σ.size j ≡ Slot j) ⊎ (is_slot (σ.size j) ≡ false)) (g : ℕ → Dim → Dim) where
  found_again : (x : Free) → found_size τ (found_size σ x) ≡ found_size τ x
  found_again (Slot j) = by_slot (slots j)
    where
      by_slot : (σ.size j ≡ Slot j) ⊎ (is_slot (σ.size j) ≡ false) → found_size τ (σ.size j) ≡ τ.size j
      by_slot (inl z) = ap (found_size τ) z
      by_slot (inr s) = found_settled τ (σ.size j) s ∙ sym (extends j (σ.size j) s refl)
  found_again (Const c) = refl
  found_again (Name c) = refl
  found_again (Own n c) = refl
  found_again (Unknown n c) = refl

  dim_again : (d : Dim) → found_dim τ 0 (found_dim σ 0 d) ≡ found_dim τ 0 d
  dim_again (At x) = ap At (found_again x)
  dim_again (Bound k i) = refl

  mutual
    unfolding read all_read replaced all_replaced Data All_data

    pub read_again : (x : Size) (j : ℕ) → Data x → read τ (read σ (replaced g j x)) ≡ read τ (replaced g j x)
    read_again (Hole v) j d = refl
    read_again (Open n v u) j d = absurd d
    read_again (Level e x) j d = ap (λ w. Level w (read τ (read σ (replaced g j x)))) (dim_again (g j e)) ∙ ap (Level (found_dim τ 0 (g j e))) (read_again x j d)
    read_again (Built h xs) j d = ap (Built h) (all_read_again xs j d)
    read_again (Fun k p r) j d = absurd d

    all_read_again : (xs : Sizes) (j : ℕ) → All_data xs → all_read τ (all_read σ (all_replaced g j xs)) ≡ all_read τ (all_replaced g j xs)
    all_read_again no_size j d = refl
    all_read_again (size_and x xs) j d = ap (λ w. size_and w (all_read τ (all_read σ (all_replaced g j xs)))) (read_again x j d.0) ∙ ap (size_and (read τ (replaced g j x))) (all_read_again xs j d.1)

-- ---- the function types around are opened, so many of them

abbrev pub Framed_below : Opened → ℕ → Frames → Type 0
Framed_below χ i f = (k m : ℕ) → k < i → χ k m ≡ At (f k m)

-- the positions of the function that is found
abbrev pub frame_sizes : ℕ → ℕ → ℕ → ℕ → ℕ → Free
frame_sizes lo next argument k m = cond (nat_lt m k) (Slot (next + m)) (Unknown lo (cond (nat_eq m k) argument (next + m)))

pub next_framed : (lo next argument k : ℕ) (χ : Opened) (i : ℕ) (f : Frames) → Framed_below χ i f → Framed_below (inside (found_frame lo next argument k) χ) (suc i) (pushed (frame_sizes lo next argument k) f)
unfolding inside pushed
next_framed lo next argument k χ i f h zero m l = by_less (nat_lt m k)
  where
    by_less : (b : Bool) → cond b (At (Slot (next + m))) (At (Unknown lo (cond (nat_eq m k) argument (next + m)))) ≡ At (cond b (Slot (next + m)) (Unknown lo (cond (nat_eq m k) argument (next + m))))
    by_less true = refl
    by_less false = refl
next_framed lo next argument k χ i f h (suc j) m l = h j m (omega (arith, l))

module _ (P : Free → Type 0) (settled : (d : Free) → P d → is_slot d ≡ false) (χ : Opened) (i : ℕ) (f : Frames) (framed : Framed_below χ i f) where
  dim_opened : (k m : ℕ) → k < i → dim_in χ 0 (Bound k m) ≡ At (f k m)
  dim_opened k m l = ap (λ b. cond b (Bound k m) (lifted 0 (χ (k - 0) m))) (le-ltb k 0 (omega arith)) ∙ ap (λ c. lifted 0 (χ c m)) (let z : k - 0 ≡ k = omega arith in z) ∙ ap (lifted 0) (framed k m l)

  -- data that is opened and read
  module _ (σ : Found) where
    abbrev Opened_data : Size → Size → Type 0
    Opened_data x y = Data y × Formed y × Each (Alone Any_free) 0 y × (erased y ≡ erased x)

    one_alone : (d : Dim) → Scoped P i d → Alone Any_free 0 (found_dim σ 0 (dim_in χ 0 d))
    one_alone (At x) h = tt
    one_alone (Bound k m) l = subst (λ d. Alone Any_free 0 (found_dim σ 0 d)) (sym (dim_opened k m l)) tt

    mutual
      unfolding read all_read replaced all_replaced Data All_data Formed All_formed Each Each_all erased all_erased

      pub opened_data : (x : Size) → Data x → Formed x → Each (Scoped P) i x → Opened_data x (read σ (replaced (dim_in χ) 0 x))
      opened_data (Hole v) d o h = (tt, o, tt, refl)
      opened_data (Open n v u) d o h = absurd d
      opened_data (Level e x) d o h = let r = opened_data x d o h.1 in (r.0, r.1, (one_alone e h.0, r.2), ap (λ u. Made head.Array (more u none)) r.3)
      opened_data (Built g xs) d o h = let r = all_opened_data xs d o.1 h in (r.0, (o.0, r.1), r.2, ap (Made g) r.3)
      opened_data (Fun k p r) d o h = absurd d

      all_opened_data : (xs : Sizes) → All_data xs → All_formed xs → Each_all (Scoped P) i xs → All_data (all_read σ (all_replaced (dim_in χ) 0 xs)) × All_formed (all_read σ (all_replaced (dim_in χ) 0 xs)) × Each_all (Alone Any_free) 0 (all_read σ (all_replaced (dim_in χ) 0 xs)) × (all_erased (all_read σ (all_replaced (dim_in χ) 0 xs)) ≡ all_erased xs)
      all_opened_data no_size d o h = (tt, tt, tt, refl)
      all_opened_data (size_and x xs) d o h =
          let a = opened_data x d.0 o.0 h.0 in
          let b = all_opened_data xs d.1 o.1 h.1 in
          ((a.0, b.0), (a.1, b.1), (a.2, b.2), ap (λ u. more u (all_erased (all_read σ (all_replaced (dim_in χ) 0 xs)))) a.3 ∙ ap (more (erased x)) b.3)

  -- what the positions stand for in the end, where they are of these sizes
  abbrev pub Agreed : Found → Frames → Type 0
  Agreed τ ε = (k m : ℕ) → k < i → P (found_size τ (f k m)) → ε k m ≡ found_size τ (f k m)

  pub agreed_before : (σ τ : Found) (ε : Frames) → Extends σ τ → Agreed τ ε → Agreed σ ε
  agreed_before σ τ ε extends a k m l h =
      let e = found_still σ τ extends (f k m) (found_size σ (f k m)) (settled (found_size σ (f k m)) h) refl in
      a k m l (subst P (sym e) h) ∙ e

  module _ (τ : Found) (ε : Frames) (agreed : Agreed τ ε) where
    one_filled : (d : Dim) → Scoped P i d → Scoped P 0 (found_dim τ 0 (dim_in χ 0 d)) → fill ε 0 d ≡ found_dim τ 0 (dim_in χ 0 d)
    one_filled (At x) h p = ap At (sym (found_settled τ x (settled x h)))
    one_filled (Bound k m) l p =
        let e = dim_opened k m l in
        ap (λ b. cond b (Bound k m) (At (ε (k - 0) m))) (le-ltb k 0 (omega arith)) ∙ ap (λ c. At (ε c m)) (let z : k - 0 ≡ k = omega arith in z) ∙ ap At (agreed k m l (subst (λ d. Scoped P 0 (found_dim τ 0 d)) e p)) ∙ ap (found_dim τ 0) (sym e)

    mutual
      unfolding read all_read replaced all_replaced Data All_data Each Each_all

      pub filled_as : (x : Size) → Data x → Each (Scoped P) i x → Each (Scoped P) 0 (read τ (replaced (dim_in χ) 0 x)) → replaced (fill ε) 0 x ≡ read τ (replaced (dim_in χ) 0 x)
      filled_as (Hole v) d h p = refl
      filled_as (Open n v u) d h p = absurd d
      filled_as (Level e x) d h p = ap (λ w. Level w (replaced (fill ε) 0 x)) (one_filled e h.0 p.0) ∙ ap (Level (found_dim τ 0 (dim_in χ 0 e))) (filled_as x d h.1 p.1)
      filled_as (Built g xs) d h p = ap (Built g) (all_filled_as xs d h p)
      filled_as (Fun k p1 r) d h p = absurd d

      all_filled_as : (xs : Sizes) → All_data xs → Each_all (Scoped P) i xs → Each_all (Scoped P) 0 (all_read τ (all_replaced (dim_in χ) 0 xs)) → all_replaced (fill ε) 0 xs ≡ all_read τ (all_replaced (dim_in χ) 0 xs)
      all_filled_as no_size d h p = refl
      all_filled_as (size_and x xs) d h p = ap (λ w. size_and w (all_replaced (fill ε) 0 xs)) (filled_as x d.0 h.0 p.0) ∙ ap (size_and (read τ (replaced (dim_in χ) 0 x))) (all_filled_as xs d.1 h.1 p.1)

-- ---- what has no unknown size of a frame

neither : (a b : Bool) → cond a true b ≡ false → (a ≡ false) × (b ≡ false)
neither true b e = absurd (let z : true ≡ false = e in cc)
neither false b e = (refl, e)

-- the positions of the functions around: sizes of these, or met at a node
abbrev pub Known_frames : (Free → Type 0) → ℕ → ℕ → Frames → Found → Type 0
Known_frames P lo i f σ = (k m : ℕ) → k < i → P (found_size σ (f k m)) ⊎ ((b : ℕ) × (f k m ≡ Unknown lo b))

module _ (P : Free → Type 0) (settled : (d : Free) → P d → is_slot d ≡ false) (χ : Opened) (i : ℕ) (f : Frames) (framed : Framed_below χ i f) (σ : Found) where
  module _ (lo : ℕ) (known : Known_frames P lo i f σ) where
    one_in : (d : Dim) → Scoped P i d → is_unknown (found_dim σ 0 (dim_in χ 0 d)) ≡ false → Scoped P 0 (found_dim σ 0 (dim_in χ 0 d))
    one_in (At x) h e = subst P (sym (found_settled σ x (settled x h))) h
    one_in (Bound k m) l e = subst (λ d. Scoped P 0 (found_dim σ 0 d)) (sym opened_is) (by_known (known k m l))
      where
        opened_is : dim_in χ 0 (Bound k m) ≡ At (f k m)
        opened_is = dim_opened P settled χ i f framed k m l

        by_known : P (found_size σ (f k m)) ⊎ ((b : ℕ) × (f k m ≡ Unknown lo b)) → P (found_size σ (f k m))
        by_known (inl h) = h
        by_known (inr w) = absurd (let z : true ≡ false = sym (ap (λ y. is_unknown (At (found_size σ y))) w.1) ∙ ap (λ d. is_unknown (found_dim σ 0 d)) (sym opened_is) ∙ e in cc)

    mutual
      unfolding read all_read replaced all_replaced Data All_data Each Each_all has some_has

      pub read_in : (x : Size) → Data x → Each (Scoped P) i x → has is_unknown (read σ (replaced (dim_in χ) 0 x)) ≡ false → Each (Scoped P) 0 (read σ (replaced (dim_in χ) 0 x))
      read_in (Hole v) d h e = tt
      read_in (Open n v u) d h e = absurd d
      read_in (Level l x) d h e = let w = neither (is_unknown (found_dim σ 0 (dim_in χ 0 l))) (has is_unknown (read σ (replaced (dim_in χ) 0 x))) e in (one_in l h.0 w.0, read_in x d h.1 w.1)
      read_in (Built g xs) d h e = all_read_in xs d h e
      read_in (Fun k p r) d h e = absurd d

      all_read_in : (xs : Sizes) → All_data xs → Each_all (Scoped P) i xs → some_has is_unknown (all_read σ (all_replaced (dim_in χ) 0 xs)) ≡ false → Each_all (Scoped P) 0 (all_read σ (all_replaced (dim_in χ) 0 xs))
      all_read_in no_size d h e = tt
      all_read_in (size_and x xs) d h e = let w = neither (has is_unknown (read σ (replaced (dim_in χ) 0 x))) (some_has is_unknown (all_read σ (all_replaced (dim_in χ) 0 xs))) e in (read_in x d.0 h.0 w.0, all_read_in xs d.1 h.1 w.1)

  -- a position of the nearest frame that is none of these stands nowhere in it
  module _ (p : ℕ) (absent : (m : ℕ) → m ≡ p → P (found_size σ (f 0 m)) → ⊥) where
    one_absent : (d : Dim) → Scoped P i d → Scoped P 0 (found_dim σ 0 (dim_in χ 0 d)) → Of_positions (λ m. m ≡ p → ⊥) 1 d
    one_absent (At x) h e = tt
    one_absent (Bound k m) l e = λ z y. absent m y (subst (λ j. P (found_size σ (f j m))) (let w : k ≡ 0 = omega (arith, z) in w) (subst (λ d. Scoped P 0 (found_dim σ 0 d)) (dim_opened P settled χ i f framed k m l) e))

    mutual
      unfolding read all_read replaced all_replaced Data All_data Each Each_all

      pub not_there : (x : Size) → Data x → Each (Scoped P) i x → Each (Scoped P) 0 (read σ (replaced (dim_in χ) 0 x)) → Each (Of_positions (λ m. m ≡ p → ⊥)) 1 x
      not_there (Hole v) d h e = tt
      not_there (Open n v u) d h e = absurd d
      not_there (Level l x) d h e = (one_absent l h.0 e.0, not_there x d h.1 e.1)
      not_there (Built g xs) d h e = all_not_there xs d h e
      not_there (Fun k q r) d h e = absurd d

      all_not_there : (xs : Sizes) → All_data xs → Each_all (Scoped P) i xs → Each_all (Scoped P) 0 (all_read σ (all_replaced (dim_in χ) 0 xs)) → Each_all (Of_positions (λ m. m ≡ p → ⊥)) 1 xs
      all_not_there no_size d h e = tt
      all_not_there (size_and x xs) d h e = (not_there x d.0 h.0 e.0, all_not_there xs d.1 h.1 e.1)

module _ (ok : Variable → Type 0) (σ : Found) where
  mutual
    unfolding read all_read Each_hole Each_holes

    pub hole_read : (x : Size) → Each_hole ok x → Each_hole ok (read σ x)
    hole_read (Hole v) h = h
    hole_read (Open n v u) h = absurd h
    hole_read (Level d x) h = hole_read x h
    hole_read (Built g xs) h = all_hole_read xs h
    hole_read (Fun k p r) h = (hole_read p h.0, hole_read r h.1)

    all_hole_read : (xs : Sizes) → Each_holes ok xs → Each_holes ok (all_read σ xs)
    all_hole_read no_size h = tt
    all_hole_read (size_and x xs) h = (hole_read x h.0, all_hole_read xs h.1)

-- numbers that are taken change no size
pub counted_size : (m : ℕ) (σ : Found) (x : Free) → found_size (counted m σ) x ≡ found_size σ x
counted_size m σ (Slot i) = refl
counted_size m σ (Const c) = refl
counted_size m σ (Name c) = refl
counted_size m σ (Own k c) = refl
counted_size m σ (Unknown k c) = refl

-- ---- with one frame less filled

module _ (P : Free → Type 0) (δ : ℕ → Free) (ε : Frames) where
  one_kept : (j : ℕ) (d : Dim) → Scoped P j (fill (pushed δ ε) j d) → Scoped P (suc j) (fill ε (suc j) d)
  unfolding pushed
  one_kept j (At x) h = h
  one_kept j (Bound k m) h = by_order (order k (suc j)) (order k j)
    where
      low : k < suc j → Scoped P (suc j) (fill ε (suc j) (Bound k m))
      low l = subst (Scoped P (suc j)) (ap (λ b. cond b (Bound k m) (At (ε (k - suc j) m))) (sym (lt-ltb k (suc j) l))) l

      high : suc j ≤ k → Scoped P (suc j) (fill ε (suc j) (Bound k m))
      high l = subst (Scoped P (suc j)) (sym (ap (λ b. cond b (Bound k m) (At (ε (k - suc j) m))) (le-ltb k (suc j) l)))
          (subst (Scoped P j) (ap (λ b. cond b (Bound k m) (At (pushed δ ε (k - j) m))) (le-ltb k j (omega (arith, l))) ∙ ap (λ c. At (pushed δ ε c m)) (let z : k - j ≡ suc (k - suc j) = omega (arith, l) in z)) h)

      by_order : (k < suc j) ⊎ (suc j ≤ k) → (k < j) ⊎ (j ≤ k) → Scoped P (suc j) (fill ε (suc j) (Bound k m))
      by_order (inl l) o = low l
      by_order (inr l) o = high l

  mutual
    unfolding replaced all_replaced Each Each_all

    pub kept_in : (x : Size) (j : ℕ) → Each (Scoped P) j (replaced (fill (pushed δ ε)) j x) → Each (Scoped P) (suc j) (replaced (fill ε) (suc j) x)
    kept_in (Hole v) j h = tt
    kept_in (Open n v u) j h = tt
    kept_in (Level d x) j h = (one_kept j d h.0, kept_in x j h.1)
    kept_in (Built g xs) j h = all_kept_in xs j h
    kept_in (Fun k p r) j h = (kept_in p (suc j) h.0, kept_in r (suc j) h.1)

    all_kept_in : (xs : Sizes) (j : ℕ) → Each_all (Scoped P) j (all_replaced (fill (pushed δ ε)) j xs) → Each_all (Scoped P) (suc j) (all_replaced (fill ε) (suc j) xs)
    all_kept_in no_size j h = tt
    all_kept_in (size_and x xs) j h = (kept_in x j h.0, all_kept_in xs j h.1)

-- what has no size of a frame means no position
alone_means : (P : Free → Type 0) (Q : ℕ → Type 0) (j : ℕ) (d : Dim) → Alone P j d → Of_positions Q j d
alone_means P Q j (At x) h = tt
alone_means P Q j (Bound k m) h = absurd h

pub none_means : (P : Free → Type 0) (Q : ℕ → Type 0) (t : Size) → Each (Alone P) 0 t → Each (Of_positions Q) 1 t
none_means P Q t h = each_as (Alone P) (Of_positions Q) (alone_means P Q) t 1 (alone_at P t 0 1 h)
