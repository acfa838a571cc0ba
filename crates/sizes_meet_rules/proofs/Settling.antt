-- A sized type in which nothing is open is what a part by itself has: to finish that part is to note it.
use Rattle.std.proofs.Common.{◌≡◌, ℕ, suc, ◌+◌, ◌-◌, List, [], ◌∷◌, ◌++◌, length, Bool, true, false, not, ◌&&◌, cond, nat_eq, Ok, refl, ap, ◌∙◌, arith, lt-ltb}
use Rattle.std.specs.Prelude.{nat_lt}
use Rattle.fut_types.specs.Types.{Sub}
use Rattle.fut_typing.specs.Names.{Names}
use Rattle.sized_types.specs.Sizes.{Free, Const, Name, Own, Unknown, Slot, Dim, At, Bound, Variable, Size, Hole, Open, Level, Built, Fun, Sizes, no_size, size_and, replaced, renaming, renamed}
use Rattle.fut_sizes.specs.Applications.{whole, all_settled, parts_settled, data_met, functions_met, all_matched, applied}
use Rattle.fut_sizes.specs.Functions.{stands_among, with_free, collected, all_collected, sizes_in, is_slot, unknown_slot, chosen_again, behind, chosen_in, quantified, closed}
use Rattle.fut_sizes.specs.Matching.{Found, nothing_found, found_size, found_dim, read, all_read, none_opened, lifted, dim_in, in_opened}
use Rattle.fut_sizes.specs.Rules.{Each_hole, Each_holes}
use Rattle.fut_sizes.specs.Sizing.{finished}
use Rattle.fut_sizes.specs.Steps.{State, Done, at_node}
use Rattle.fut_sizes.specs.Suiting.{Each, Each_all, Scoped}
use Rattle.sizes_meet_rules.proofs.Replacing.{each_as, not_replaced}

-- no slot
abbrev pub Is_settled : Free → Type 0
Is_settled d = is_slot d ≡ false

abbrev pub Any_variable : Variable → Type 0
Any_variable v = Unit {0}

-- neither a slot nor an open variable stands in it, and no frame is meant that isn't there
abbrev pub Settled : Size → Type 0
Settled t = Each (Scoped Is_settled) 0 t × Each_hole Any_variable t

-- ---- nothing is read, opened or settled

mutual
  unfolding read all_read Each_hole Each_holes

  pub nothing_read : (t : Size) → Each_hole Any_variable t → read nothing_found t ≡ t
  nothing_read (Hole v) h = refl
  nothing_read (Open n v u) h = absurd h
  nothing_read (Level d t) h = ap (λ e. Level e (read nothing_found t)) (same d) ∙ ap (Level d) (nothing_read t h)
    where
      here : (x : Free) → At (found_size nothing_found x) ≡ At x
      here (Slot i) = refl
      here x = refl

      same : (e : Dim) → found_dim nothing_found 0 e ≡ e
      same (At x) = here x
      same (Bound k i) = refl
  nothing_read (Built g ts) h = ap (Built g) (none_read ts h)
  nothing_read (Fun k p r) h = ap (λ x. Fun k x (read nothing_found r)) (nothing_read p h.0) ∙ ap (Fun k p) (nothing_read r h.1)

  none_read : (ts : Sizes) → Each_holes Any_variable ts → all_read nothing_found ts ≡ ts
  none_read no_size h = refl
  none_read (size_and t ts) h = ap (λ x. size_and x (all_read nothing_found ts)) (nothing_read t h.0) ∙ ap (size_and t) (none_read ts h.1)

mutual
  unfolding all_settled parts_settled Each_hole Each_holes

  pub nothing_settled : (t : Size) (σ : Found) → Each_hole Any_variable t → all_settled t σ ≡ σ
  nothing_settled (Hole v) σ h = refl
  nothing_settled (Open n v u) σ h = absurd h
  nothing_settled (Level d t) σ h = nothing_settled t σ h
  nothing_settled (Built g ts) σ h = none_settled ts σ h
  nothing_settled (Fun k p r) σ h = ap (all_settled r) (nothing_settled p σ h.0) ∙ nothing_settled r σ h.1

  none_settled : (ts : Sizes) (σ : Found) → Each_holes Any_variable ts → parts_settled ts σ ≡ σ
  none_settled no_size σ h = refl
  none_settled (size_and t ts) σ h = ap (parts_settled ts) (nothing_settled t σ h.0) ∙ none_settled ts σ h.1

pub nothing_opened : (t : Size) → Each (Scoped Is_settled) 0 t → in_opened none_opened t ≡ t
nothing_opened t h = not_replaced (dim_in none_opened) t 0 (each_as (Scoped Is_settled) (λ i d. dim_in none_opened i d ≡ d) here t 0 h)
  where
    here : (j : ℕ) (d : Dim) → Scoped Is_settled j d → dim_in none_opened j d ≡ d
    here j (At x) o = refl
    here j (Bound k i) l = ap (λ b. cond b (Bound k i) (lifted j (none_opened (k - j) i))) (lt-ltb k j l)

-- ---- no slot is chosen again

no_free : (d : Dim) (j : ℕ) (ds : List Free) → Scoped Is_settled j d → with_free is_slot d ds ≡ ds
no_free (At x) j ds o = ap (λ b. cond (b && not (stands_among ds x)) (ds ++ x ∷ []) ds) o
no_free (Bound k i) j ds o = refl

mutual
  unfolding collected all_collected Each Each_all

  none_collected : (t : Size) (j : ℕ) (ds : List Free) → Each (Scoped Is_settled) j t → collected is_slot t ds ≡ ds
  none_collected (Hole v) j ds h = refl
  none_collected (Open n v u) j ds h = refl
  none_collected (Level d t) j ds h = ap (collected is_slot t) (no_free d j ds h.0) ∙ none_collected t j ds h.1
  none_collected (Built g ts) j ds h = all_none_collected ts j ds h
  none_collected (Fun k p r) j ds h = ap (collected is_slot r) (none_collected p (suc j) ds h.0) ∙ none_collected r (suc j) ds h.1

  all_none_collected : (ts : Sizes) (j : ℕ) (ds : List Free) → Each_all (Scoped Is_settled) j ts → all_collected is_slot ts ds ≡ ds
  all_none_collected no_size j ds h = refl
  all_none_collected (size_and t ts) j ds h = ap (all_collected is_slot ts) (none_collected t j ds h.0) ∙ all_none_collected ts j ds h.1

pub no_slots : (t : Size) (j : ℕ) → Each (Scoped Is_settled) j t → sizes_in is_slot t ≡ []
unfolding sizes_in
no_slots t j h = none_collected t j [] h

abbrev pub Leaves : (ℕ → Dim → Dim) → Type 0
Leaves outer = (i : ℕ) (d : Dim) → outer i d ≡ d

module _ (outer : ℕ → Dim → Dim) (l : Leaves outer) where
  mutual
    unfolding Each Each_all

    every : (t : Size) (j : ℕ) → Each (λ i d. outer i d ≡ d) j t
    every (Hole v) j = tt
    every (Open n v u) j = tt
    every (Level d t) j = (l j d, every t j)
    every (Built g ts) j = all_every ts j
    every (Fun k p r) j = (every p (suc j), every r (suc j))

    all_every : (ts : Sizes) (j : ℕ) → Each_all (λ i d. outer i d ≡ d) j ts
    all_every no_size j = tt
    all_every (size_and t ts) j = (every t j, all_every ts j)

  pub untouched : (t : Size) (j : ℕ) → replaced outer j t ≡ t
  untouched t j = not_replaced outer t j (every t j)

pub leaves_behind : (k j : ℕ) (ds : List Free) (outer : ℕ → Dim → Dim) → ds ≡ [] → Leaves outer → Leaves (behind k j ds outer)
leaves_behind k j ds outer e l i d = ap (λ xs. behind k j xs outer i d) e ∙ ap (chosen_again k [] (i - suc j)) (l i d) ∙ here (i - suc j) d
  where
    by_less : (m a : ℕ) (b : Bool) → Bound m (cond b a (0 + a)) ≡ Bound m a
    by_less m a true = refl
    by_less m a false = ap (Bound m) (let z : 0 + a ≡ a = omega arith in z)

    by_frame : (m a : ℕ) (b c : Bool) → Bound m (cond b (cond c a (0 + a)) a) ≡ Bound m a
    by_frame m a true c = by_less m a c
    by_frame m a false c = refl

    here : (m : ℕ) (d : Dim) → chosen_again k [] m d ≡ d
    here m (At x) = refl
    here m (Bound a b) = by_frame a b (nat_eq a m) (nat_lt b k)

module _ (maker : ℕ → ℕ) where
  by_free : (x : Free) → is_slot x ≡ false → At (unknown_slot maker x) ≡ At x
  by_free (Slot i) o = absurd (let z : true ≡ false = o in cc)
  by_free (Const c) o = refl
  by_free (Name c) o = refl
  by_free (Own c i) o = refl
  by_free (Unknown c i) o = refl

  not_renamed : (j i : ℕ) (d : Dim) → Scoped Is_settled j d → renaming (unknown_slot maker) i d ≡ d
  not_renamed j i (At x) o = by_free x o
  not_renamed j i (Bound k b) o = refl

  mutual
    unfolding Each Each_all

    pub depth : (t : Size) (j i : ℕ) → Each (Scoped Is_settled) j t → Each (λ i d. renaming (unknown_slot maker) i d ≡ d) i t
    depth (Hole v) j i h = tt
    depth (Open m v u) j i h = tt
    depth (Level d t) j i h = (not_renamed j i d h.0, depth t j i h.1)
    depth (Built g ts) j i h = all_depth ts j i h
    depth (Fun k p r) j i h = (depth p (suc j) (suc i) h.0, depth r (suc j) (suc i) h.1)

    all_depth : (ts : Sizes) (j i : ℕ) → Each_all (Scoped Is_settled) j ts → Each_all (λ i d. renaming (unknown_slot maker) i d ≡ d) i ts
    all_depth no_size j i h = tt
    all_depth (size_and t ts) j i h = (depth t j i h.0, all_depth ts j i h.1)

  pub no_unknown : (t : Size) (j : ℕ) → Each (Scoped Is_settled) j t → replaced (renaming (unknown_slot maker)) 0 t ≡ t
  no_unknown t j h = not_replaced (renaming (unknown_slot maker)) t 0 (depth t j 0 h)

module _ (maker : ℕ → ℕ) where
  unchosen_in : (outer : ℕ → Dim → Dim) (t : Size) (j i : ℕ) → Leaves outer → Each (Scoped Is_settled) i t → chosen_in maker outer j t ≡ t
  unfolding chosen_in Each replaced
  unchosen_in outer (Fun k p r) j i l h =
      let same = untouched outer l p (suc j) in
      let none : sizes_in is_slot (replaced outer (suc j) p) ≡ [] = ap (sizes_in is_slot) same ∙ no_slots p (suc i) h.0 in
      let still = leaves_behind k j (sizes_in is_slot (replaced outer (suc j) p)) outer none l in
      ap (λ m. Fun m (replaced (behind k j (sizes_in is_slot (replaced outer (suc j) p)) outer) (suc j) p) (chosen_in maker (behind k j (sizes_in is_slot (replaced outer (suc j) p)) outer) (suc j) r)) (ap (λ (xs : List Free). length xs + k) none ∙ (let z : 0 + k ≡ k = omega arith in z))
      ∙ ap (λ x. Fun k x (chosen_in maker (behind k j (sizes_in is_slot (replaced outer (suc j) p)) outer) (suc j) r)) (untouched (behind k j (sizes_in is_slot (replaced outer (suc j) p)) outer) still p (suc j))
      ∙ ap (Fun k p) (unchosen_in (behind k j (sizes_in is_slot (replaced outer (suc j) p)) outer) r (suc j) (suc i) still h.1)
  unchosen_in outer (Hole v) j i l h = refl
  unchosen_in outer (Open m v u) j i l h = refl
  unchosen_in outer (Level d t) j i l h = ap (renamed (unknown_slot maker)) (untouched outer l (Level d t) j) ∙ no_unknown maker (Level d t) i h
  unchosen_in outer (Built g ts) j i l h = ap (renamed (unknown_slot maker)) (untouched outer l (Built g ts) j) ∙ no_unknown maker (Built g ts) i h

  pub none_quantified : (t : Size) → Each (Scoped Is_settled) 0 t → quantified maker t ≡ t
  unfolding quantified
  none_quantified t h = unchosen_in (λ j d. d) t 0 0 (λ i d. refl) h

-- ---- a part by itself

abbrev pub noted : ℕ → Size → State → Done Size
noted n t st = record { result = t; state = record { nodes = at_node n t st.nodes; dropped = st.dropped } }

module _ (N : Names) (types : Sub) where
  abbrev as_read : Size → Size
  as_read t = read nothing_found (in_opened none_opened t)

  finished_as : (lo : ℕ) (t : Size) (st : State) → finished N types lo (whole t) st ≡ Ok (noted lo (quantified (all_settled (as_read t) nothing_found).maker (read (all_settled (as_read t) nothing_found) (as_read t))) st)
  unfolding applied all_matched data_met functions_met closed
  finished_as lo t st = refl

  pub whole_finished : (lo : ℕ) (t : Size) (st : State) → Settled t → finished N types lo (whole t) st ≡ Ok (noted lo t st)
  whole_finished lo t st (c, o) = finished_as lo t st ∙ ap (λ u. Ok (noted lo u st)) now
    where
      opened_now : read nothing_found (in_opened none_opened t) ≡ t
      opened_now = ap (read nothing_found) (nothing_opened t c) ∙ nothing_read t o

      now : quantified (all_settled (as_read t) nothing_found).maker (read (all_settled (as_read t) nothing_found) (as_read t)) ≡ t
      now = ap (λ u. quantified (all_settled u nothing_found).maker (read (all_settled u nothing_found) u)) opened_now ∙ ap (λ (σ : Found). quantified σ.maker (read σ t)) (nothing_settled t nothing_found o) ∙ ap (quantified nothing_found.maker) (nothing_read t o) ∙ none_quantified nothing_found.maker t c
