-- The nodes of an application once all is matched: those of its functions and of its arguments have the sized types that are read.
use Rattle.std.proofs.Common.{◌≡◌, ◌⊎◌, ℕ, zero, suc, ◌+◌, ◌-◌, ◌<◌, ◌≤◌, List, [], ◌∷◌, ◌++◌, Bool, true, false, cond, nat_eq, Option, Some, None, Ok, refl, sym, ap, ◌∙◌, subst, arith, inl, inr, ltb-true}
use Rattle.std.specs.Prelude.{nat_lt}
use Rattle.fut_flat.specs.Numbers.{numbers}
use Rattle.fut_types.specs.Types.{Sub}
use Rattle.fut_typing.specs.Names.{Names}
use Rattle.sized_types.specs.Sizes.{Free, Unknown, Slot, Dim, At, Bound, Size, Hole, Open, Level, Built, Fun, Sizes, no_size, size_and, replaced, all_replaced, renamed}
use Rattle.fut_sizes.specs.Applications.{Later, Early, with_use, uses}
use Rattle.fut_sizes.specs.Functions.{is_slot, unknown_slot, quantified, closed}
use Rattle.fut_sizes.specs.Matching.{Found, found_size, found_dim, read, all_read, Opened, dim_in, in_opened}
use Rattle.fut_sizes.specs.Rules.{Each_hole, Each_holes}
use Rattle.fut_sizes.specs.Sizing.{all_noted, met_noted}
use Rattle.fut_sizes.specs.Steps.{State, Done, and_then, note, at_node}
use Rattle.fut_sizes.specs.Suiting.{Each, Each_all, Scoped, Of_positions, Data, All_data}
use Rattle.sizes_meet_rules.specs.Known.{is_i64_size, Formed}
use Rattle.sizes_meet_rules.proofs.Applying.{or_unknown}
use Rattle.sizes_meet_rules.proofs.Chains.{Given, Alone, alone_at, Taken_by, taken_typed, Takes_all, frame, framed_as, here, opened_by, after, wants, laters, last_opened, last_size, Plain_given, All_plain, Reads, number_value, Meant, step_in}
use Rattle.sizes_meet_rules.proofs.Frames.{Frames, pushed, Okay, more, filled, Framed, push_framed, closes, Settled_parameters, quantified_as, dim_low, dim_high}
use Rattle.sizes_meet_rules.proofs.Meeting.{Then_ok, then_ok, same_ok, at_itself, at_another, each_scoped}
use Rattle.sizes_meet_rules.proofs.Reading.{found_settled}
use Rattle.sizes_meet_rules.proofs.Replacing.{each_as, hole_replaced}
use Rattle.sizes_meet_rules.proofs.Settling.{Is_settled, Any_variable, nothing_settled, no_unknown, none_quantified}

-- ---- nodes that are noted one after another

module _ (N : Names) (types : Sub) (τ : Found) where
  abbrev pub value_of : Later → Size
  value_of l = quantified τ.maker (read τ l.size)

  abbrev pub noting : List Later → (ℕ → Size) → ℕ → Size
  noting [] f = f
  noting (l ∷ ls) f = noting ls (at_node l.node (value_of l) f)

  abbrev pub Closed_laters : List Later → Type 0
  Closed_laters [] = Unit {0}
  Closed_laters (l ∷ ls) = Each_hole Any_variable l.size × Closed_laters ls

  noted_are : (ls : List Later) (st : State) (z : Done (Unit {0})) → Closed_laters ls → all_noted N types ls τ st ≡ Ok z → z.state ≡ record { nodes = noting ls st.nodes; dropped = st.dropped }
  noted_are [] st z h q = ap (λ (d : Done (Unit {0})). d.state) (sym (same_ok q))
  noted_are (l ∷ ls) st z h q = noted_are ls (record { nodes = at_node l.node (value_of l) st.nodes; dropped = st.dropped }) z h.1
      (ap (λ (σ : Found). all_noted N types ls σ (record { nodes = at_node l.node (quantified σ.maker (read σ l.size)) st.nodes; dropped = st.dropped })) (sym (nothing_settled l.size τ h.0)) ∙ q)

  pub met_noted_is : (n : ℕ) (t : Size) (ls : List Later) (b : Bool) (st : State) (u : Done Size) → closed b τ.maker (read τ t) ≡ renamed (unknown_slot τ.maker) (read τ t) → Each_hole Any_variable t → Closed_laters ls → met_noted N types n (record { size = t; found = τ; later = ls; goes_on = b }) st ≡ Ok u
      → u ≡ record { result = renamed (unknown_slot τ.maker) (read τ t); state = record { nodes = at_node n (renamed (unknown_slot τ.maker) (read τ t)) (noting ls st.nodes); dropped = st.dropped } }
  met_noted_is n t ls b st u e h c q = sym (same_ok x.rest) ∙ ap (λ (s : State). record { result = closed b τ.maker (read τ t); state = record { nodes = at_node n (closed b τ.maker (read τ t)) s.nodes; dropped = s.dropped } }) (noted_are ls st x.first c x.done)
      ∙ ap (λ (w : Size). record { result = w; state = record { nodes = at_node n w (noting ls st.nodes); dropped = st.dropped } }) e
    where
      x : Then_ok (all_noted N types ls τ st) (λ z. Ok (record { result = closed b τ.maker (read τ t); state = record { nodes = at_node n (closed b τ.maker (read τ t)) z.state.nodes; dropped = z.state.dropped } })) u
      x = then_ok (all_noted N types ls τ st) (ap (λ (σ : Found). and_then (all_noted N types ls σ) (λ z. note n (closed b σ.maker (read σ t))) st) (sym (nothing_settled t τ h)) ∙ q)

  -- ---- none of these nodes

  abbrev pub Avoids : ℕ → List Later → Type 0
  Avoids x [] = Unit {0}
  Avoids x (l ∷ ls) = (l.node ≡ x → ⊥) × Avoids x ls

  abbrev pub Distinct : List Later → Type 0
  Distinct [] = Unit {0}
  Distinct (l ∷ ls) = Avoids l.node ls × Distinct ls

  -- they have what is noted
  abbrev pub Right : List Later → (ℕ → Size) → Type 0
  Right [] s = Unit {0}
  Right (l ∷ ls) s = (s l.node ≡ value_of l) × Right ls s

  abbrev pub Within : ℕ → ℕ → List Later → Type 0
  Within lo hi [] = Unit {0}
  Within lo hi (l ∷ ls) = ((lo ≤ l.node) × (l.node < hi)) × Within lo hi ls

  pub noting_other : (ls : List Later) (f : ℕ → Size) (x : ℕ) → Avoids x ls → noting ls f x ≡ f x
  noting_other [] f x a = refl
  noting_other (l ∷ ls) f x a = noting_other ls (at_node l.node (value_of l) f) x a.1 ∙ at_another l.node x (value_of l) f a.0

  pub noting_right : (ls : List Later) (f : ℕ → Size) → Distinct ls → Right ls (noting ls f)
  noting_right [] f d = tt
  noting_right (l ∷ ls) f d = (noting_other ls (at_node l.node (value_of l) f) l.node d.0 ∙ at_itself l.node (value_of l) f, noting_right ls (at_node l.node (value_of l) f) d.1)

  pub right_as : (lo hi : ℕ) (ls : List Later) (s f : ℕ → Size) → Within lo hi ls → ((x : ℕ) → lo ≤ x → x < hi → s x ≡ f x) → Right ls f → Right ls s
  right_as lo hi [] s f w a r = tt
  right_as lo hi (l ∷ ls) s f w a r = (a l.node w.0.0 w.0.1 ∙ r.0, right_as lo hi ls s f w.1 a r.1)

  pub right_first : (xs ys : List Later) (s : ℕ → Size) → Right (xs ++ ys) s → Right xs s
  right_first [] ys s r = tt
  right_first (l ∷ xs) ys s r = (r.0, right_first xs ys s r.1)

  pub right_later : (xs ys : List Later) (s : ℕ → Size) → Right (xs ++ ys) s → Right ys s
  right_later [] ys s r = r
  right_later (l ∷ xs) ys s r = right_later xs ys s r.1

  pub both_closed : (xs ys : List Later) → Closed_laters xs → Closed_laters ys → Closed_laters (xs ++ ys)
  both_closed [] ys a b = b
  both_closed (l ∷ xs) ys a b = (a.0, both_closed xs ys a.1 b)

  pub both_avoid : (x : ℕ) (xs ys : List Later) → Avoids x xs → Avoids x ys → Avoids x (xs ++ ys)
  both_avoid x [] ys a b = b
  both_avoid x (l ∷ xs) ys a b = (a.0, both_avoid x xs ys a.1 b)

  pub both_within : (lo hi : ℕ) (xs ys : List Later) → Within lo hi xs → Within lo hi ys → Within lo hi (xs ++ ys)
  both_within lo hi [] ys a b = b
  both_within lo hi (l ∷ xs) ys a b = (a.0, both_within lo hi xs ys a.1 b)

  pub within_avoids : (lo hi : ℕ) (ls : List Later) (x : ℕ) → (x < lo) ⊎ (hi ≤ x) → Within lo hi ls → Avoids x ls
  within_avoids lo hi [] x o w = tt
  within_avoids lo hi (l ∷ ls) x o w = (λ z. by_side o z, within_avoids lo hi ls x o w.1)
    where
      by_side : (x < lo) ⊎ (hi ≤ x) → l.node ≡ x → ⊥
      by_side (inl y) z = let a = w.0.0 in omega (arith, y, z, a)
      by_side (inr y) z = let a = w.0.1 in omega (arith, y, z, a)

  -- those that stand below a number, and those above it
  pub both_distinct : (lo edge : ℕ) (xs ys : List Later) → Distinct xs → Within lo edge xs → Distinct ys → ((x : ℕ) → x < edge → Avoids x ys) → Distinct (xs ++ ys)
  both_distinct lo edge [] ys d w e a = e
  both_distinct lo edge (l ∷ xs) ys d w e a = (both_avoid l.node xs ys d.0 (a l.node w.0.1), both_distinct lo edge xs ys d.1 w.1 e a)

settled_parameters : (t : Size) (i : ℕ) → Each (Scoped Is_settled) i t → Settled_parameters i t
unfolding Settled_parameters Each
settled_parameters (Hole v) i h = tt
settled_parameters (Open m v u) i h = tt
settled_parameters (Level d t) i h = tt
settled_parameters (Built k ts) i h = tt
settled_parameters (Fun k p r) i h = (h.0, settled_parameters r (suc i) h.1)

-- arguments stand one behind another
abbrev pub Placed : List Given → ℕ → ℕ → Type 0
Placed [] from hi = from ≡ hi
Placed (g ∷ gs) from hi = (g.node ≡ from) × Placed gs (from + numbers g.term) hi

pub placed_order : (gs : List Given) (from hi : ℕ) → Placed gs from hi → from ≤ hi
placed_order [] from hi p = omega (arith, p)
placed_order (g ∷ gs) from hi p = let l = placed_order gs (from + numbers g.term) hi p.1 in omega (arith, l)

-- each has a node
abbrev pub All_some : List Given → Type 0
All_some [] = Unit {0}
All_some (g ∷ gs) = (1 ≤ numbers g.term) × All_some gs

module _ (N : Names) (types : Sub) (τ : Found) (n : ℕ) where
  pub laters_avoid : (gs : List Given) (φ : Opened) (t : Size) (σ : Found) (x : ℕ) → here n gs < x → Avoids N types τ x (laters n gs φ t σ)
  laters_avoid [] φ t σ x l = tt
  laters_avoid (g ∷ gs) φ (Fun k p r) σ x l = ((λ z. omega (arith, z, l)), laters_avoid gs (opened_by n gs g σ k φ) r (after n gs g σ k) x (omega (arith, l)))
  laters_avoid (g ∷ gs) φ (Hole v) σ x l = tt
  laters_avoid (g ∷ gs) φ (Open m v u) σ x l = tt
  laters_avoid (g ∷ gs) φ (Level d t) σ x l = tt
  laters_avoid (g ∷ gs) φ (Built f ts) σ x l = tt

  pub laters_within : (gs : List Given) (φ : Opened) (t : Size) (σ : Found) (hi : ℕ) → here n gs < hi → Within N types τ (suc n) hi (laters n gs φ t σ)
  laters_within [] φ t σ hi l = tt
  laters_within (g ∷ gs) φ (Fun k p r) σ hi l = ((omega arith, omega (arith, l)), laters_within gs (opened_by n gs g σ k φ) r (after n gs g σ k) hi (omega (arith, l)))
  laters_within (g ∷ gs) φ (Hole v) σ hi l = tt
  laters_within (g ∷ gs) φ (Open m v u) σ hi l = tt
  laters_within (g ∷ gs) φ (Level d t) σ hi l = tt
  laters_within (g ∷ gs) φ (Built f ts) σ hi l = tt

  pub laters_distinct : (gs : List Given) (φ : Opened) (t : Size) (σ : Found) → Distinct N types τ (laters n gs φ t σ)
  laters_distinct [] φ t σ = tt
  laters_distinct (g ∷ gs) φ (Fun k p r) σ = (laters_avoid gs (opened_by n gs g σ k φ) r (after n gs g σ k) (suc (here n gs)) (omega arith), laters_distinct gs (opened_by n gs g σ k φ) r (after n gs g σ k))
  laters_distinct (g ∷ gs) φ (Hole v) σ = tt
  laters_distinct (g ∷ gs) φ (Open m v u) σ = tt
  laters_distinct (g ∷ gs) φ (Level d t) σ = tt
  laters_distinct (g ∷ gs) φ (Built f ts) σ = tt

  pub laters_closed : (gs : List Given) (φ : Opened) (t : Size) (σ : Found) → Each_hole Any_variable t → Closed_laters N types τ (laters n gs φ t σ)
  unfolding Each_hole
  laters_closed [] φ t σ h = tt
  laters_closed (g ∷ gs) φ (Fun k p r) σ h = (hole_replaced (dim_in φ) Any_variable (Fun k p r) 0 h, laters_closed gs (opened_by n gs g σ k φ) r (after n gs g σ k) h.1)
  laters_closed (g ∷ gs) φ (Hole v) σ h = tt
  laters_closed (g ∷ gs) φ (Open m v u) σ h = tt
  laters_closed (g ∷ gs) φ (Level d t) σ h = tt
  laters_closed (g ∷ gs) φ (Built f ts) σ h = tt

  -- an argument that is a name has a node of its own among these
  pub one_use : (b : Bool) (node : ℕ) (value : Option Free) (size : Size) (φ : Opened) (p : Size) (ls : List Later) (x : ℕ) → (node ≡ x → ⊥) → Avoids N types τ x ls → Avoids N types τ x (with_use (Early node value b size) φ p ls)
  one_use true node value size φ p ls x a h = (a, h)
  one_use false node value size φ p ls x a h = h

  pub uses_avoid : (gs : List Given) (φ : Opened) (t : Size) (σ : Found) (from hi x : ℕ) → Placed gs from hi → x < from → Avoids N types τ x (uses (wants n gs φ t σ))
  uses_avoid [] φ t σ from hi x p l = tt
  uses_avoid (g ∷ gs) φ (Fun k p r) σ from hi x pl l = one_use g.named g.node g.value g.size (opened_by n gs g σ k φ) p (uses (wants n gs (opened_by n gs g σ k φ) r (after n gs g σ k))) x (λ z. let y = pl.0 in omega (arith, z, y, l)) (uses_avoid gs (opened_by n gs g σ k φ) r (after n gs g σ k) (from + numbers g.term) hi x pl.1 (omega (arith, l)))
  uses_avoid (g ∷ gs) φ (Hole v) σ from hi x pl l = tt
  uses_avoid (g ∷ gs) φ (Open m v u) σ from hi x pl l = tt
  uses_avoid (g ∷ gs) φ (Level d t) σ from hi x pl l = tt
  uses_avoid (g ∷ gs) φ (Built f ts) σ from hi x pl l = tt

  one_within : (b : Bool) (node : ℕ) (value : Option Free) (size : Size) (φ : Opened) (p : Size) (ls : List Later) (lo hi : ℕ) → lo ≤ node → node < hi → Within N types τ lo hi ls → Within N types τ lo hi (with_use (Early node value b size) φ p ls)
  one_within true node value size φ p ls lo hi a c h = ((a, c), h)
  one_within false node value size φ p ls lo hi a c h = h

  pub uses_within : (gs : List Given) (φ : Opened) (t : Size) (σ : Found) (lo from hi : ℕ) → All_some gs → Placed gs from hi → lo ≤ from → Within N types τ lo hi (uses (wants n gs φ t σ))
  uses_within [] φ t σ lo from hi s p l = tt
  uses_within (g ∷ gs) φ (Fun k p r) σ lo from hi s pl l = one_within g.named g.node g.value g.size (opened_by n gs g σ k φ) p (uses (wants n gs (opened_by n gs g σ k φ) r (after n gs g σ k))) lo hi (let y = pl.0 in omega (arith, y, l)) (let y = pl.0 in let z = placed_order gs (from + numbers g.term) hi pl.1 in let w = s.0 in omega (arith, y, z, w))
      (uses_within gs (opened_by n gs g σ k φ) r (after n gs g σ k) lo (from + numbers g.term) hi s.1 pl.1 (omega (arith, l)))
  uses_within (g ∷ gs) φ (Hole v) σ lo from hi s pl l = tt
  uses_within (g ∷ gs) φ (Open m v u) σ lo from hi s pl l = tt
  uses_within (g ∷ gs) φ (Level d t) σ lo from hi s pl l = tt
  uses_within (g ∷ gs) φ (Built f ts) σ lo from hi s pl l = tt

  one_distinct : (b : Bool) (node : ℕ) (value : Option Free) (size : Size) (φ : Opened) (p : Size) (ls : List Later) → Avoids N types τ node ls → Distinct N types τ ls → Distinct N types τ (with_use (Early node value b size) φ p ls)
  one_distinct true node value size φ p ls a h = (a, h)
  one_distinct false node value size φ p ls a h = h

  pub uses_distinct : (gs : List Given) (φ : Opened) (t : Size) (σ : Found) (from hi : ℕ) → All_some gs → Placed gs from hi → Distinct N types τ (uses (wants n gs φ t σ))
  uses_distinct [] φ t σ from hi s p = tt
  uses_distinct (g ∷ gs) φ (Fun k p r) σ from hi s pl = one_distinct g.named g.node g.value g.size (opened_by n gs g σ k φ) p (uses (wants n gs (opened_by n gs g σ k φ) r (after n gs g σ k))) (uses_avoid gs (opened_by n gs g σ k φ) r (after n gs g σ k) (from + numbers g.term) hi g.node pl.1 (let y = pl.0 in let w = s.0 in omega (arith, y, w)))
      (uses_distinct gs (opened_by n gs g σ k φ) r (after n gs g σ k) (from + numbers g.term) hi s.1 pl.1)
  uses_distinct (g ∷ gs) φ (Hole v) σ from hi s pl = tt
  uses_distinct (g ∷ gs) φ (Open m v u) σ from hi s pl = tt
  uses_distinct (g ∷ gs) φ (Level d t) σ from hi s pl = tt
  uses_distinct (g ∷ gs) φ (Built f ts) σ from hi s pl = tt

  one_closed : (b : Bool) (node : ℕ) (value : Option Free) (size : Size) (φ : Opened) (p : Size) (ls : List Later) → Each_hole Any_variable p → Closed_laters N types τ ls → Closed_laters N types τ (with_use (Early node value b size) φ p ls)
  one_closed true node value size φ p ls a h = (hole_replaced (dim_in φ) Any_variable p 0 a, h)
  one_closed false node value size φ p ls a h = h

  pub uses_closed : (gs : List Given) (φ : Opened) (t : Size) (σ : Found) → Each_hole Any_variable t → Closed_laters N types τ (uses (wants n gs φ t σ))
  unfolding Each_hole
  uses_closed [] φ t σ h = tt
  uses_closed (g ∷ gs) φ (Fun k p r) σ h = one_closed g.named g.node g.value g.size (opened_by n gs g σ k φ) p (uses (wants n gs (opened_by n gs g σ k φ) r (after n gs g σ k))) h.0 (uses_closed gs (opened_by n gs g σ k φ) r (after n gs g σ k) h.1)
  uses_closed (g ∷ gs) φ (Hole v) σ h = tt
  uses_closed (g ∷ gs) φ (Open m v u) σ h = tt
  uses_closed (g ∷ gs) φ (Level d t) σ h = tt
  uses_closed (g ∷ gs) φ (Built f ts) σ h = tt

  pub use_here : (b : Bool) (node : ℕ) (value : Option Free) (size : Size) (φ : Opened) (p : Size) (ls : List Later) (s : ℕ → Size) (t : Size) → (b ≡ false → s node ≡ t) → (b ≡ true → value_of N types τ (record { node = node; size = in_opened φ p }) ≡ t) → Right N types τ (with_use (Early node value b size) φ p ls) s → (s node ≡ t) × Right N types τ ls s
  use_here true node value size φ p ls s t u v r = (r.0 ∙ v refl, r.1)
  use_here false node value size φ p ls s t u v r = (u refl, r)

  -- ---- what is read has no slot

  abbrev pub close : Free → Free
  close x = unknown_slot τ.maker (found_size τ x)

  abbrev pub ended : Frames → Frames
  ended δ j i = close (δ j i)

  module _ (In : Free → Type 0) (no_slot : (d : Free) → In d → is_slot d ≡ false) where
    -- what the positions around stand for is found
    abbrev pub All_found : (ℕ → ℕ → Type 0) → Frames → Type 0
    All_found ok δ = (j i : ℕ) → ok j i → is_slot (found_size τ (δ j i)) ≡ false

    module _ (φ : Opened) (ok : ℕ → ℕ → Type 0) (δ : Frames) (framed : Framed φ ok δ) where
      module _ (found : All_found ok δ) where
        one_settled : (j : ℕ) (d : Dim) → Okay In ok j d → Scoped Is_settled j (found_dim τ 0 (dim_in φ j d))
        one_settled j (At x) h = ap is_slot (found_settled τ x (no_slot x h)) ∙ no_slot x h
        one_settled j (Bound k i) (inl l) = subst (λ w. Scoped Is_settled j (found_dim τ 0 w)) (sym (dim_low In no_slot φ ok δ framed j k i l)) l
        one_settled j (Bound k i) (inr w) = subst (λ v. Scoped Is_settled j (found_dim τ 0 v)) (sym (dim_high In no_slot φ ok δ framed j k i w.0 w.1)) (found (k - j) i w.1)

        mutual
          unfolding Each Each_all Each_hole Each_holes read all_read replaced all_replaced

          settles : (t : Size) (j : ℕ) → Each (Okay In ok) j t → Each_hole Any_variable t → Each (Scoped Is_settled) j (read τ (replaced (dim_in φ) j t))
          settles (Hole v) j h o = tt
          settles (Open a v u) j h o = absurd o
          settles (Level e t) j h o = (one_settled j e h.0, settles t j h.1 o)
          settles (Built g ts) j h o = all_settle ts j h o
          settles (Fun k p r) j h o = (settles p (suc j) h.0 o.0, settles r (suc j) h.1 o.1)

          all_settle : (ts : Sizes) (j : ℕ) → Each_all (Okay In ok) j ts → Each_holes Any_variable ts → Each_all (Scoped Is_settled) j (all_read τ (all_replaced (dim_in φ) j ts))
          all_settle no_size j h o = tt
          all_settle (size_and t ts) j h o = (settles t j h.0 o.0, all_settle ts j h.1 o.1)

      -- a position of the nearest frame that is still open stands nowhere in what is settled
      module _ (p : ℕ) (is_open : is_slot (found_size τ (δ 0 p)) ≡ true) where
        one_absent : (d : Dim) → Okay In ok 0 d → Scoped Is_settled 0 (found_dim τ 0 (dim_in φ 0 d)) → Of_positions (λ m. m ≡ p → ⊥) 1 d
        one_absent (At x) h s = tt
        one_absent (Bound a m) h s = λ z y. by_frame h (let w : a - 0 ≡ 0 = omega (arith, z) in w) y
          where
            by_frame : (a < 0) ⊎ ((0 ≤ a) × ok (a - 0) m) → a - 0 ≡ 0 → m ≡ p → ⊥
            by_frame (inl l) z y = omega (arith, l)
            by_frame (inr w) z y = let c : false ≡ true = sym (subst (λ b. is_slot (found_size τ (δ b m)) ≡ false) z (subst (λ v. Scoped Is_settled 0 (found_dim τ 0 v)) (dim_high In no_slot φ ok δ framed 0 a m w.0 w.1) s)) ∙ ap (λ b. is_slot (found_size τ (δ 0 b))) y ∙ is_open in cc

        mutual
          unfolding Each Each_all Data All_data read all_read replaced all_replaced

          absent : (x : Size) → Data x → Each (Okay In ok) 0 x → Each (Scoped Is_settled) 0 (read τ (replaced (dim_in φ) 0 x)) → Each (Of_positions (λ m. m ≡ p → ⊥)) 1 x
          absent (Hole v) d h s = tt
          absent (Open a v u) d h s = absurd d
          absent (Level e x) d h s = (one_absent e h.0 s.0, absent x d h.1 s.1)
          absent (Built g xs) d h s = all_absent xs d h s
          absent (Fun k y r) d h s = absurd d

          all_absent : (xs : Sizes) → All_data xs → Each_all (Okay In ok) 0 xs → Each_all (Scoped Is_settled) 0 (all_read τ (all_replaced (dim_in φ) 0 xs)) → Each_all (Of_positions (λ m. m ≡ p → ⊥)) 1 xs
          all_absent no_size d h s = tt
          all_absent (size_and x xs) d h s = (absent x d.0 h.0 s.0, all_absent xs d.1 h.1 s.1)

        alone_absent : (l : ℕ) (d : Dim) → Alone Is_settled l d → Of_positions (λ m. m ≡ p → ⊥) l d
        alone_absent l (At x) h = tt
        alone_absent l (Bound a b) h = absurd h

        taken_absent : (x t : Size) → Taken_by x t → Each (Okay In ok) 0 x → Each (Scoped Is_settled) 0 (read τ (replaced (dim_in φ) 0 x)) → Each (Of_positions (λ m. m ≡ p → ⊥)) 1 x
        taken_absent x t (inl d) h s = absent x d.0.0 h s
        taken_absent x t (inr f) h s = each_as (Alone Is_settled) (Of_positions (λ m. m ≡ p → ⊥)) alone_absent x 1 (alone_at Is_settled x 0 1 f.alone)

    -- ---- the sized types of all functions and arguments

    abbrev pub Stages : List Given → Frames → Size → Found → (ℕ → Size) → Type 0
    Stages (g ∷ gs) δ (Fun k p r) σ s = (s (suc (here n gs)) ≡ filled (ended δ) 0 (Fun k p r)) × ((filled (ended (pushed (frame (here n gs) σ.next k (number_value g)) δ)) 0 p ≡ g.size) × ((s g.node ≡ g.own) × Stages gs (pushed (frame (here n gs) σ.next k (number_value g)) δ) r (after n gs g σ k) s))
    Stages gs δ t σ s = s n ≡ filled (ended δ) 0 t

    abbrev pub Unnamed : List Given → (ℕ → Size) → Type 0
    Unnamed [] s = Unit {0}
    Unnamed (g ∷ gs) s = (g.named ≡ false → s g.node ≡ g.own) × Unnamed gs s

    module _ (P : Free → Type 0) (settled : (d : Free) → P d → is_slot d ≡ false) where
      -- what one function's positions stand for: each size that is chosen stands in the parameter, and so is found
      module _ (gs : List Given) (g : Given) (φ : Opened) (k : ℕ) (p r : Size) (σ : Found) (ok : ℕ → ℕ → Type 0) (δ : Frames) (found : All_found ok δ) (framed' : Framed (opened_by n gs g σ k φ) (more (Meant k g) ok) (pushed (frame (here n gs) σ.next k (number_value g)) δ))
          (taken : Taken_by p g.size) (okay : Each (Okay In (more (Meant k g) ok)) 0 p) (formed : Formed (Fun k p r)) (a : Plain_given n In P no_slot settled g) (reads : read τ (in_opened (opened_by n gs g σ k φ) p) ≡ g.size) where
        abbrev here_frame : ℕ → Free
        here_frame i = frame (here n gs) σ.next k (number_value g) i

        value_found : (v : Option Free) → ((d : Free) → v ≡ Some d → is_slot d ≡ false) → is_slot (found_size τ (or_unknown v (Unknown (here n gs) (σ.next + k)))) ≡ false
        value_found None h = refl
        value_found (Some d) h = ap is_slot (found_settled τ d (h d refl)) ∙ h d refl

        number_settled : (c : Bool) (d : Free) → cond c g.value None ≡ Some d → is_slot d ≡ false
        number_settled true d e = a.2 d e
        number_settled false d e = absurd (let z : ◌≡◌ {A = Option Free} None (Some d) = e in cc)

        low_found : (i : ℕ) (b : Bool) → nat_lt i k ≡ b → (c : Bool) → is_slot (τ.size (σ.next + i)) ≡ c → is_slot (found_size τ (here_frame i)) ≡ false
        unfolding pushed Formed
        low_found i true e true s = absurd (formed.4 i (ltb-true i k e) (taken_absent (opened_by n gs g σ k φ) (more (Meant k g) ok) (pushed (frame (here n gs) σ.next k (number_value g)) δ) framed' i (ap (λ b. is_slot (found_size τ (cond b (Slot (σ.next + i)) (cond (nat_eq i k) (or_unknown (number_value g) (Unknown (here n gs) (σ.next + k))) (Unknown (here n gs) (σ.next + i)))))) e ∙ s)
            p g.size taken okay (subst (Each (Scoped Is_settled) 0) (sym reads) (each_scoped P Is_settled settled g.size 0 a.1))))
        low_found i true e false s = ap (λ b. is_slot (found_size τ (cond b (Slot (σ.next + i)) (cond (nat_eq i k) (or_unknown (number_value g) (Unknown (here n gs) (σ.next + k))) (Unknown (here n gs) (σ.next + i)))))) e ∙ s
        low_found i false e c s = ap (λ b. is_slot (found_size τ (cond b (Slot (σ.next + i)) (cond (nat_eq i k) (or_unknown (number_value g) (Unknown (here n gs) (σ.next + k))) (Unknown (here n gs) (σ.next + i)))))) e ∙ by_value (nat_eq i k)
          where
            by_value : (b : Bool) → is_slot (found_size τ (cond b (or_unknown (number_value g) (Unknown (here n gs) (σ.next + k))) (Unknown (here n gs) (σ.next + i)))) ≡ false
            by_value true = value_found (number_value g) (number_settled (is_i64_size g.size))
            by_value false = refl

        found_more : All_found (more (Meant k g) ok) (pushed (frame (here n gs) σ.next k (number_value g)) δ)
        unfolding more pushed
        found_more zero i w = low_found i (nat_lt i k) refl (is_slot (τ.size (σ.next + i))) refl
        found_more (suc j) i w = found j i w

      -- one argument more
      one_stage_more : (gs : List Given) (g : Given) (φ : Opened) (k : ℕ) (p r : Size) (σ : Found) (ok : ℕ → ℕ → Type 0) (δ : Frames) (framed : Framed φ ok δ) → All_found ok δ → Takes_all (g ∷ gs) (Fun k p r) → Each (Okay In ok) 0 (Fun k p r) → Each (Okay In (more (Meant k g) ok)) 0 p → Formed (Fun k p r) → Each_hole Any_variable (Fun k p r) → Each_hole Any_variable p → Plain_given n In P no_slot settled g
          → read τ (in_opened (opened_by n gs g σ k φ) p) ≡ g.size → (s : ℕ → Size) → s (suc (here n gs)) ≡ value_of N types τ (record { node = suc (here n gs); size = in_opened φ (Fun k p r) }) → Right N types τ (uses (wants n (g ∷ gs) φ (Fun k p r) σ)) s → (g.named ≡ false → s g.node ≡ g.own)
          → ((framed' : Framed (opened_by n gs g σ k φ) (more (Meant k g) ok) (pushed (frame (here n gs) σ.next k (number_value g)) δ)) → All_found (more (Meant k g) ok) (pushed (frame (here n gs) σ.next k (number_value g)) δ) → Right N types τ (uses (wants n gs (opened_by n gs g σ k φ) r (after n gs g σ k))) s → Stages gs (pushed (frame (here n gs) σ.next k (number_value g)) δ) r (after n gs g σ k) s)
          → Stages (g ∷ gs) δ (Fun k p r) σ s
      one_stage_more gs g φ k p r σ ok δ framed found h e ep fm o op a reads s noted named unnamed go =
          let framed' : Framed (opened_by n gs g σ k φ) (more (Meant k g) ok) (pushed (frame (here n gs) σ.next k (number_value g)) δ) = push_framed φ ok δ _ (frame (here n gs) σ.next k (number_value g)) (Meant k g) (framed_as (here n gs) σ.next k g) framed in
          let given_settled : Each (Scoped Is_settled) 0 g.size = each_scoped P Is_settled settled g.size 0 a.1 in
          let argument_here = use_here g.named g.node g.value g.size (opened_by n gs g σ k φ) p (uses (wants n gs (opened_by n gs g σ k φ) r (after n gs g σ k))) s g.own unnamed (λ b. ap (quantified τ.maker) reads ∙ none_quantified τ.maker g.size given_settled ∙ sym (a.3 b)) named in
          let rest = go framed' (found_more gs g φ k p r σ ok δ found framed' h.0 ep fm a reads) argument_here.1 in
          let function_here : s (suc (here n gs)) ≡ filled (ended δ) 0 (Fun k p r) = noted ∙ quantified_as τ.maker (read τ (in_opened φ (Fun k p r))) (settled_parameters (read τ (in_opened φ (Fun k p r))) 0 (settles φ ok δ framed found (Fun k p r) 0 e o))
          ∙ closes In no_slot φ ok δ framed τ (Fun k p r) 0 0 e o in
          let argument_fits : filled (ended (pushed (frame (here n gs) σ.next k (number_value g)) δ)) 0 p ≡ g.size = sym (closes In no_slot (opened_by n gs g σ k φ) (more (Meant k g) ok) (pushed (frame (here n gs) σ.next k (number_value g)) δ) framed' τ p 0 0 ep op) ∙ ap (renamed (unknown_slot τ.maker)) reads ∙ no_unknown τ.maker g.size 0 given_settled in
          (function_here, (argument_fits, (argument_here.0, rest)))

      pub stages : (gs : List Given) (φ : Opened) (t : Size) (σ : Found) (ok : ℕ → ℕ → Type 0) (δ : Frames) (framed : Framed φ ok δ) → All_found ok δ → Takes_all gs t → Each (Okay In ok) 0 t → Formed t → Each_hole Any_variable t → All_plain n In P no_slot settled gs → Reads n In P no_slot settled gs φ t σ τ
          → (s : ℕ → Size) → Right N types τ (laters n gs φ t σ) s → Right N types τ (uses (wants n gs φ t σ)) s → Unnamed gs s → s n ≡ renamed (unknown_slot τ.maker) (read τ (in_opened (last_opened n gs φ t σ) (last_size n gs t)))
          → Stages gs δ t σ s
      unfolding Each Each_hole Formed
      stages [] φ t σ ok δ framed found h e fm o a q s r1 r2 u z = z ∙ closes In no_slot φ ok δ framed τ t 0 0 e o
      stages (g ∷ gs) φ (Fun k p r) σ ok δ framed found h e fm o a q s r1 r2 u z =
          let w = step_in In ok k p r g fm a.0.0 (taken_typed p g.size h.0) e in
          one_stage_more gs g φ k p r σ ok δ framed found h e w.0 fm o o.0 a.0 q.0 s r1.0 r2 u.0
          (λ framed' found' r3. stages gs (opened_by n gs g σ k φ) r (after n gs g σ k) (more (Meant k g) ok) (pushed (frame (here n gs) σ.next k (number_value g)) δ) framed' found' h.1 w.1 fm.1 o.1 a.1 q.1 s r1.1 r3 u.1 z)
      stages (g ∷ gs) φ (Hole v) σ ok δ framed found h e fm o a q s r1 r2 u z = absurd h
      stages (g ∷ gs) φ (Open m v x) σ ok δ framed found h e fm o a q s r1 r2 u z = absurd h
      stages (g ∷ gs) φ (Level d t) σ ok δ framed found h e fm o a q s r1 r2 u z = absurd h
      stages (g ∷ gs) φ (Built b ts) σ ok δ framed found h e fm o a q s r1 r2 u z = absurd h

      -- what is given has no slot, so that nothing in it is chosen again
      pub last_settled : (gs : List Given) (φ : Opened) (t : Size) (σ : Found) (ok : ℕ → ℕ → Type 0) (δ : Frames) (framed : Framed φ ok δ) → All_found ok δ → Takes_all gs t → Each (Okay In ok) 0 t → Formed t → Each_hole Any_variable t → All_plain n In P no_slot settled gs → Reads n In P no_slot settled gs φ t σ τ
          → Settled_parameters 0 (read τ (in_opened (last_opened n gs φ t σ) (last_size n gs t)))
      unfolding Each Each_hole Formed
      last_settled [] φ t σ ok δ framed found h e fm o a q = settled_parameters (read τ (in_opened φ t)) 0 (settles φ ok δ framed found t 0 e o)
      last_settled (g ∷ gs) φ (Fun k p r) σ ok δ framed found h e fm o a q =
          let w = step_in In ok k p r g fm a.0.0 (taken_typed p g.size h.0) e in
          let framed' : Framed (opened_by n gs g σ k φ) (more (Meant k g) ok) (pushed (frame (here n gs) σ.next k (number_value g)) δ) = push_framed φ ok δ _ (frame (here n gs) σ.next k (number_value g)) (Meant k g) (framed_as (here n gs) σ.next k g) framed in
          last_settled gs (opened_by n gs g σ k φ) r (after n gs g σ k) (more (Meant k g) ok) (pushed (frame (here n gs) σ.next k (number_value g)) δ) framed' (found_more gs g φ k p r σ ok δ found framed' h.0 w.0 fm a.0 q.0) h.1 w.1 fm.1 o.1 a.1 q.1
      last_settled (g ∷ gs) φ (Hole v) σ ok δ framed found h e fm o a q = absurd h
      last_settled (g ∷ gs) φ (Open m v x) σ ok δ framed found h e fm o a q = absurd h
      last_settled (g ∷ gs) φ (Level d t) σ ok δ framed found h e fm o a q = absurd h
      last_settled (g ∷ gs) φ (Built b ts) σ ok δ framed found h e fm o a q = absurd h
