-- With the sized types that its variables have taken, an application is noted as with its variables open.
use Rattle.std.proofs.Common.{◌≡◌, ◌⊎◌, ℕ, suc, ◌<◌, ◌≤◌, List, [], ◌∷◌, ◌++◌, Bool, true, false, Option, refl, sym, ap, ◌∙◌, subst, arith, inl, inr}
use Rattle.fut_types.specs.declared.Head.TheVariants as head
use Rattle.fut_types.specs.Types.{Ty, Sub}
use Rattle.fut_typing.specs.Names.{Names}
use Rattle.sized_types.specs.Sizes.{Free, Dim, At, Bound, Variable, Size, Hole, Open, Level, Built, Fun, Sizes, no_size, size_and, replaced, all_replaced}
use Rattle.fut_sizes.specs.Agreeing.{then_do}
use Rattle.fut_sizes.specs.Applications.{Later, Early, all_settled, parts_settled, still_open, is_arrow, with_use, uses, data_met}
use Rattle.fut_sizes.specs.Functions.{is_slot, quantified, closed}
use Rattle.fut_sizes.specs.Matching.{Found, nothing_found, found_dim, read, all_read, Opened, none_opened, dim_in, in_opened}
use Rattle.fut_sizes.specs.Rules.{Each_hole, Each_holes, filled as with_types, all_filled as all_with_types}
use Rattle.fut_sizes.specs.Scopes.{instance, instances}
use Rattle.fut_sizes.specs.Sizing.{all_noted, met_noted}
use Rattle.fut_sizes.specs.Steps.{State, Done, note, at_node}
use Rattle.fut_sizes.specs.Suiting.{Each, Each_all, Scoped, Data, All_data}
use Rattle.sizes_meet_rules.specs.Known.{Formed}
use Rattle.sizes_meet_rules.proofs.Applying.{no_arrow}
use Rattle.sizes_meet_rules.proofs.Chains.{Given, opened_by, after, wants, laters, last_opened, last_size, last_goes, last_found, Steps_ran, Matched_ran}
use Rattle.sizes_meet_rules.proofs.Meeting.{each_scoped}
use Rattle.sizes_meet_rules.proofs.Reading.{Extends}
use Rattle.sizes_meet_rules.proofs.Replacing.{hole_as, hole_replaced}
use Rattle.sizes_meet_rules.proofs.Settling.{Any_variable, nothing_settled}
use Rattle.sizes_meet_rules.proofs.Filling.{Same, taken_holes, Is_inferred, Nice, Taken_at, Taking, Stays, Agrees, Arrows, Given_met, Chain_as, chain_as, none_taken, nice_closed, nice_opened, nice_read, still_nice, size_same, agrees_before, not_open}

module _ (n : ℕ) (types : Variable → Ty) (P : Free → Type 0) (settled : (d : Free) → P d → is_slot d ≡ false) (Vars : Variable → Type 0) where
  -- ---- with these types

  module _ (Θ : Variable → Size) (Fine : Variable → Type 0) (nice : (v : Variable) → Fine v → Nice n types P settled Vars v (Θ v)) where
    mutual
      unfolding with_types all_with_types Each_hole Each_holes

      pub given_closed : (t : Size) → Each_hole Fine t → Each_hole Any_variable (with_types Θ t)
      given_closed (Hole v) h = nice_closed n types P settled Vars v (Θ v) (nice v h)
      given_closed (Open m v u) h = absurd h
      given_closed (Level d t) h = given_closed t h
      given_closed (Built g ts) h = all_given_closed ts h
      given_closed (Fun k p r) h = (given_closed p h.0, given_closed r h.1)

      all_given_closed : (ts : Sizes) → Each_holes Fine ts → Each_holes Any_variable (all_with_types Θ ts)
      all_given_closed no_size h = tt
      all_given_closed (size_and t ts) h = (given_closed t h.0, all_given_closed ts h.1)

    arrow_same : (t : Size) → Each_hole Fine t → is_arrow (instance n types t) ≡ is_arrow (with_types Θ t)
    unfolding instance with_types Each_hole
    arrow_same (Hole v) h = sym (no_arrow (Θ v) (nice v h).is_data)
    arrow_same (Open m v u) h = absurd h
    arrow_same (Level d t) h = refl
    arrow_same (Built g ts) h = refl
    arrow_same (Fun k p r) h = refl

    module _ (lo : ℕ) where
      found_same : (gs : List Given) (t : Size) (σ : Found) → Arrows n types P settled Vars gs t → last_found lo gs (instance n types t) σ ≡ last_found lo gs (with_types Θ t) σ
      unfolding instance with_types
      found_same [] t σ a = refl
      found_same (g ∷ gs) (Fun k p r) σ a = found_same gs r (after lo gs g σ k) a.1
      found_same (g ∷ gs) (Hole v) σ a = absurd a
      found_same (g ∷ gs) (Open m v u) σ a = absurd a
      found_same (g ∷ gs) (Level d t) σ a = absurd a
      found_same (g ∷ gs) (Built b ts) σ a = absurd a

      opened_same : (gs : List Given) (φ : Opened) (t : Size) (σ : Found) → Arrows n types P settled Vars gs t → last_opened lo gs φ (instance n types t) σ ≡ last_opened lo gs φ (with_types Θ t) σ
      unfolding instance with_types
      opened_same [] φ t σ a = refl
      opened_same (g ∷ gs) φ (Fun k p r) σ a = opened_same gs (opened_by lo gs g σ k φ) r (after lo gs g σ k) a.1
      opened_same (g ∷ gs) φ (Hole v) σ a = absurd a
      opened_same (g ∷ gs) φ (Open m v u) σ a = absurd a
      opened_same (g ∷ gs) φ (Level d t) σ a = absurd a
      opened_same (g ∷ gs) φ (Built b ts) σ a = absurd a

      goes_same : (gs : List Given) (b : Bool) (t : Size) → Arrows n types P settled Vars gs t → Each_hole Fine t → last_goes lo gs b (instance n types t) ≡ last_goes lo gs b (with_types Θ t)
      unfolding instance with_types Each_hole
      goes_same [] b t a f = refl
      goes_same (g ∷ gs) b (Fun k p r) a f = ap (λ c. last_goes lo gs c (instance n types r)) (arrow_same r f.1) ∙ goes_same gs (is_arrow (with_types Θ r)) r a.1 f.1
      goes_same (g ∷ gs) b (Hole v) a f = absurd a
      goes_same (g ∷ gs) b (Open m v u) a f = absurd a
      goes_same (g ∷ gs) b (Level d t) a f = absurd a
      goes_same (g ∷ gs) b (Built c ts) a f = absurd a

      -- what is given at last
      pub record Last (gs : List Given) (t : Size) : Type 0 where
        pub size : Size
        pub open_is : last_size lo gs (instance n types t) ≡ instance n types size
        pub given_is : last_size lo gs (with_types Θ t) ≡ with_types Θ size
        pub fine : Each_hole Fine size

      last_is : (gs : List Given) (t : Size) → Arrows n types P settled Vars gs t → Each_hole Fine t → Last gs t
      unfolding instance with_types Each_hole
      last_is [] t a f = record { size = t; open_is = refl; given_is = refl; fine = f }
      last_is (g ∷ gs) (Fun k p r) a f = let L = last_is gs r a.1 f.1 in record { size = L.size; open_is = L.open_is; given_is = L.given_is; fine = L.fine }
      last_is (g ∷ gs) (Hole v) a f = absurd a
      last_is (g ∷ gs) (Open m v u) a f = absurd a
      last_is (g ∷ gs) (Level d t) a f = absurd a
      last_is (g ∷ gs) (Built c ts) a f = absurd a

    module _ (τ υ : Found) (s : Same τ υ) (found_is : (v : Variable) → Fine v → τ.type n v (types v) ≡ Θ v) where
      dim_same : (d : Dim) → found_dim τ 0 d ≡ found_dim υ 0 d
      dim_same (At x) = ap At (sym (size_same n types P settled Vars τ υ s x))
      dim_same (Bound k i) = refl

      mutual
        unfolding read all_read Each_hole Each_holes

        -- what has no open variable
        read_closed : (t : Size) → Each_hole Any_variable t → read τ t ≡ read υ t
        read_closed (Hole v) h = refl
        read_closed (Open m v u) h = absurd h
        read_closed (Level d t) h = ap (λ x. Level x (read τ t)) (dim_same d) ∙ ap (Level (found_dim υ 0 d)) (read_closed t h)
        read_closed (Built g ts) h = ap (Built g) (all_read_closed ts h)
        read_closed (Fun k p r) h = ap (λ x. Fun k x (read τ r)) (read_closed p h.0) ∙ ap (Fun k (read υ p)) (read_closed r h.1)

        all_read_closed : (ts : Sizes) → Each_holes Any_variable ts → all_read τ ts ≡ all_read υ ts
        all_read_closed no_size h = refl
        all_read_closed (size_and t ts) h = ap (λ x. size_and x (all_read τ ts)) (read_closed t h.0) ∙ ap (size_and (read υ t)) (all_read_closed ts h.1)

      mutual
        unfolding read all_read Each_hole Each_holes

        closed_read : (t : Size) → Each_hole Any_variable t → Each_hole Any_variable (read υ t)
        closed_read (Hole v) h = tt
        closed_read (Open m v u) h = absurd h
        closed_read (Level d t) h = closed_read t h
        closed_read (Built g ts) h = all_closed_read ts h
        closed_read (Fun k p r) h = (closed_read p h.0, closed_read r h.1)

        all_closed_read : (ts : Sizes) → Each_holes Any_variable ts → Each_holes Any_variable (all_read υ ts)
        all_closed_read no_size h = tt
        all_closed_read (size_and t ts) h = (closed_read t h.0, all_closed_read ts h.1)

      module _ (φ : Opened) where
        mutual
          unfolding read all_read replaced all_replaced instance instances with_types all_with_types Each_hole Each_holes

          read_as : (t : Size) (j : ℕ) → Each_hole Fine t → read τ (replaced (dim_in φ) j (instance n types t)) ≡ read υ (replaced (dim_in φ) j (with_types Θ t))
          read_as (Hole v) j h = found_is v h ∙ sym (ap (read υ) (nice_opened n types P settled Vars v (Θ v) φ j (nice v h)) ∙ nice_read n types P settled Vars v (Θ v) υ (nice v h))
          read_as (Open m v u) j h = absurd h
          read_as (Level d t) j h = ap (λ x. Level x (read τ (replaced (dim_in φ) j (instance n types t)))) (dim_same (dim_in φ j d)) ∙ ap (Level (found_dim υ 0 (dim_in φ j d))) (read_as t j h)
          read_as (Built g ts) j h = ap (Built g) (all_read_as ts j h)
          read_as (Fun k p r) j h = ap (λ x. Fun k x (read τ (replaced (dim_in φ) (suc j) (instance n types r)))) (read_as p (suc j) h.0) ∙ ap (Fun k (read υ (replaced (dim_in φ) (suc j) (with_types Θ p)))) (read_as r (suc j) h.1)

          all_read_as : (ts : Sizes) (j : ℕ) → Each_holes Fine ts → all_read τ (all_replaced (dim_in φ) j (instances n types ts)) ≡ all_read υ (all_replaced (dim_in φ) j (all_with_types Θ ts))
          all_read_as no_size j h = refl
          all_read_as (size_and t ts) j h = ap (λ x. size_and x (all_read τ (all_replaced (dim_in φ) j (instances n types ts)))) (read_as t j h.0) ∙ ap (size_and (read υ (replaced (dim_in φ) j (with_types Θ t)))) (all_read_as ts j h.1)

        mutual
          unfolding all_settled parts_settled replaced all_replaced instance instances Each_hole Each_holes

          settled_opened : (t : Size) (j : ℕ) → Each_hole Fine t → all_settled (replaced (dim_in φ) j (instance n types t)) τ ≡ τ
          settled_opened (Hole v) j f = ap (λ x. still_open n v x τ) (found_is v f) ∙ still_nice n types P settled Vars v v (Θ v) τ (nice v f)
          settled_opened (Open m v u) j f = absurd f
          settled_opened (Level d t) j f = settled_opened t j f
          settled_opened (Built g ts) j f = all_settled_opened ts j f
          settled_opened (Fun k p r) j f = ap (all_settled (replaced (dim_in φ) (suc j) (instance n types r))) (settled_opened p (suc j) f.0) ∙ settled_opened r (suc j) f.1

          all_settled_opened : (ts : Sizes) (j : ℕ) → Each_holes Fine ts → parts_settled (all_replaced (dim_in φ) j (instances n types ts)) τ ≡ τ
          all_settled_opened no_size j f = refl
          all_settled_opened (size_and t ts) j f = ap (parts_settled (all_replaced (dim_in φ) j (instances n types ts))) (settled_opened t j f.0) ∙ all_settled_opened ts j f.1

        settled_given : (t : Size) (j : ℕ) → Each_hole Fine t → all_settled (replaced (dim_in φ) j (with_types Θ t)) υ ≡ υ
        settled_given t j f = nothing_settled (replaced (dim_in φ) j (with_types Θ t)) υ (hole_replaced (dim_in φ) Any_variable (with_types Θ t) j (given_closed t f))

      -- nodes that are noted alike
      abbrev Alike : List Later → List Later → Type 0
      Alike [] [] = Unit {0}
      Alike (l ∷ ls) (m ∷ ms) = ((l.node ≡ m.node) × (read τ l.size ≡ read υ m.size) × (all_settled l.size τ ≡ τ) × (all_settled m.size υ ≡ υ)) × Alike ls ms
      Alike ls ms = ⊥

      both_alike : (ks bs cs ds : List Later) → Alike ks bs → Alike cs ds → Alike (ks ++ cs) (bs ++ ds)
      both_alike [] [] cs ds a c = c
      both_alike (l ∷ ls) (m ∷ ms) cs ds a c = (a.0, both_alike ls ms cs ds a.1 c)
      both_alike [] (m ∷ ms) cs ds a c = absurd a
      both_alike (l ∷ ls) [] cs ds a c = absurd a

      module _ (N : Names) (sub : Sub) where
        alike_noted : (ls ms : List Later) → Alike ls ms → (st : State) → all_noted N sub ls τ st ≡ all_noted N sub ms υ st
        alike_noted [] [] a st = refl
        alike_noted (l ∷ ls) (m ∷ ms) a st =
            ap (λ (σ : Found). all_noted N sub ls σ (record { nodes = at_node l.node (quantified σ.maker (read σ l.size)) st.nodes; dropped = st.dropped })) a.0.2
            ∙ ap (λ (x : ℕ). all_noted N sub ls τ (record { nodes = at_node x (quantified τ.maker (read τ l.size)) st.nodes; dropped = st.dropped })) a.0.0
            ∙ ap (λ (f : ℕ → ℕ). all_noted N sub ls τ (record { nodes = at_node m.node (quantified f (read τ l.size)) st.nodes; dropped = st.dropped })) s.maker
            ∙ ap (λ (x : Size). all_noted N sub ls τ (record { nodes = at_node m.node (quantified υ.maker x) st.nodes; dropped = st.dropped })) a.0.1
            ∙ alike_noted ls ms a.1 (record { nodes = at_node m.node (quantified υ.maker (read υ m.size)) st.nodes; dropped = st.dropped })
            ∙ ap (λ (σ : Found). all_noted N sub ms σ (record { nodes = at_node m.node (quantified σ.maker (read σ m.size)) st.nodes; dropped = st.dropped })) (sym a.0.3)
        alike_noted [] (m ∷ ms) a st = absurd a
        alike_noted (l ∷ ls) [] a st = absurd a

        met_alike : (node : ℕ) (x y : Size) (ls ms : List Later) (b c : Bool) (st : State) → x ≡ y → Each_hole Any_variable y → b ≡ c → Alike ls ms → met_noted N sub node (record { size = x; found = τ; later = ls; goes_on = b }) st ≡ met_noted N sub node (record { size = y; found = υ; later = ms; goes_on = c }) st
        met_alike node x y ls ms b c st e h z a =
            ap (λ (w : Size). met_noted N sub node (record { size = w; found = τ; later = ls; goes_on = b }) st) e
            ∙ ap (λ (k : Bool). met_noted N sub node (record { size = y; found = τ; later = ls; goes_on = k }) st) z
            ∙ ap (λ (σ : Found). then_do (all_noted N sub ls σ st) (λ d. note node (closed c σ.maker (read σ y)) d.state)) (nothing_settled y τ h)
            ∙ ap (λ w. then_do w (λ d. note node (closed c τ.maker (read τ y)) d.state)) (alike_noted ls ms a st)
            ∙ ap (λ (f : ℕ → ℕ). then_do (all_noted N sub ms υ st) (λ d. note node (closed c f (read τ y)) d.state)) s.maker
            ∙ ap (λ (w : Size). then_do (all_noted N sub ms υ st) (λ d. note node (closed c υ.maker w) d.state)) (read_closed y h)
            ∙ ap (λ (σ : Found). then_do (all_noted N sub ms σ st) (λ d. note node (closed c σ.maker (read σ y)) d.state)) (sym (nothing_settled y υ h))

      module _ (lo : ℕ) where
        laters_alike : (gs : List Given) (φ : Opened) (t : Size) (σ : Found) → Arrows n types P settled Vars gs t → Each_hole Fine t → Alike (laters lo gs φ (instance n types t) σ) (laters lo gs φ (with_types Θ t) σ)
        unfolding instance with_types Each_hole
        laters_alike [] φ t σ a f = tt
        laters_alike (g ∷ gs) φ (Fun k p r) σ a f = (
          (refl, read_as φ (Fun k p r) 0 f, settled_opened φ (Fun k p r) 0 f, settled_given φ (Fun k p r) 0 f),
          laters_alike gs (opened_by lo gs g σ k φ) r (after lo gs g σ k) a.1 f.1,
        )
        laters_alike (g ∷ gs) φ (Hole v) σ a f = absurd a
        laters_alike (g ∷ gs) φ (Open m v u) σ a f = absurd a
        laters_alike (g ∷ gs) φ (Level d t) σ a f = absurd a
        laters_alike (g ∷ gs) φ (Built b ts) σ a f = absurd a

        use_alike : (b : Bool) (node : ℕ) (value : Option Free) (size : Size) (φ : Opened) (p : Size) (ls ms : List Later) → Each_hole Fine p → Alike ls ms → Alike (with_use (Early node value b size) φ (instance n types p) ls) (with_use (Early node value b size) φ (with_types Θ p) ms)
        use_alike true node value size φ p ls ms f a = ((refl, read_as φ p 0 f, settled_opened φ p 0 f, settled_given φ p 0 f), a)
        use_alike false node value size φ p ls ms f a = a

        uses_alike : (gs : List Given) (φ : Opened) (t : Size) (σ : Found) → Arrows n types P settled Vars gs t → Each_hole Fine t → Alike (uses (wants lo gs φ (instance n types t) σ)) (uses (wants lo gs φ (with_types Θ t) σ))
        unfolding instance with_types Each_hole
        uses_alike [] φ t σ a f = tt
        uses_alike (g ∷ gs) φ (Fun k p r) σ a f = use_alike g.named g.node g.value g.size (opened_by lo gs g σ k φ) p (uses (wants lo gs (opened_by lo gs g σ k φ) (instance n types r) (after lo gs g σ k))) (uses (wants lo gs (opened_by lo gs g σ k φ) (with_types Θ r) (after lo gs g σ k))) f.0
            (uses_alike gs (opened_by lo gs g σ k φ) r (after lo gs g σ k) a.1 f.1)
        uses_alike (g ∷ gs) φ (Hole v) σ a f = absurd a
        uses_alike (g ∷ gs) φ (Open m v u) σ a f = absurd a
        uses_alike (g ∷ gs) φ (Level d t) σ a f = absurd a
        uses_alike (g ∷ gs) φ (Built b ts) σ a f = absurd a

  -- ---- the sized types that variables have in the end

  module _ (τ : Found) (taking : Taking n types P settled Vars τ) where
    abbrev chosen : (v : Variable) → (τ.type n v (types v) ≡ Open n v (types v)) ⊎ Taken_at n types P settled Vars τ v → Size
    chosen v (inl z) = Built head.Tuple no_size
    chosen v (inr h) = τ.type n v (types v)

    abbrev last_types : Variable → Size
    last_types v = chosen v (taking v)

    last_agrees : Agrees n types P settled Vars last_types τ
    last_agrees v h = by_form (taking v)
      where
        by_form : (o : (τ.type n v (types v) ≡ Open n v (types v)) ⊎ Taken_at n types P settled Vars τ v) → τ.type n v (types v) ≡ chosen v o
        by_form (inl z) = absurd (not_open n types P settled Vars v v n (types v) (τ.type n v (types v)) h z)
        by_form (inr z) = refl

    last_fine : (v : Variable) → Data (last_types v) × Each (Scoped (λ d. Unit {0})) 0 (last_types v)
    unfolding Data All_data Each Each_all
    last_fine v = by_form (taking v)
      where
        by_form : (o : (τ.type n v (types v) ≡ Open n v (types v)) ⊎ Taken_at n types P settled Vars τ v) → Data (chosen v o) × Each (Scoped (λ d. Unit {0})) 0 (chosen v o)
        by_form (inl z) = (tt, tt)
        by_form (inr h) = (h.is_data, each_scoped P (λ d. Unit {0}) (λ d i. tt) (τ.type n v (types v)) 0 h.sizes)

  -- what functions find behind data
  pub record Behind_data (first last : Found) (t : Size) : Type 0 where
    pub taking : Taking n types P settled Vars last
    pub stays : Stays n types P settled Vars first last
    pub extends : Extends first last
    pub slots : (i : ℕ) → (last.size i ≡ first.size i) ⊎ P (last.size i)
    pub later : first.next ≤ last.next
    pub makers : (i : ℕ) → i < first.next → last.maker i ≡ first.maker i
    pub taken : Each_hole (Taken_at n types P settled Vars last) t

  -- the types of variables with which all is matched alike
  pub record Given_ran (lo : ℕ) (N : Names) (sub : Sub) (gs : List Given) (t : Size) (last : Done Found) (u : Done Size) : Type 0 where
    pub types_now : Variable → Size
    pub is_data : (v : Variable) → Data (types_now v)
    pub closed : (v : Variable) → Each (Scoped (λ d. Unit {0})) 0 (types_now v)
    pub nice : Each_hole (λ v. Nice n types P settled Vars v (types_now v)) t
    pub agrees : Agrees n types P settled Vars types_now last.result
    pub ran : Matched_ran lo N sub P gs (with_types types_now t) u
    pub after_is : ran.after ≡ last.state

  pub given_ran : (lo : ℕ) (N : Names) (sub : Sub) (regular : Bool) (gs : List Given) (t : Size) (st : State) (u : Done Size) → Arrows n types P settled Vars gs t → Formed t → Each_hole Is_inferred t → (R : Steps_ran lo N sub regular gs (instance n types t) st u)
      → (Taking n types P settled Vars R.first → ((v : Variable) → taken_holes gs t v ≡ true → Taken_at n types P settled Vars R.first v) → Behind_data R.first R.last.result t) → Given_ran lo N sub gs t R.last u
  given_ran lo N sub regular gs t st u a f h R behind = record {
    types_now = Θ;
    is_data = λ v. (last_fine R.last.result B.taking v).0;
    closed = λ v. (last_fine R.last.result B.taking v).1;
    nice = hole_as (Taken_at n types P settled Vars R.last.result) (λ v. Nice n types P settled Vars v (Θ v)) nice t B.taken;
    agrees = found_is;
    ran = record {
      first = G.found;
      met = G.answer;
      last = R.last.result;
      extends = λ j d s z. B.extends j d s (ap (λ (f : ℕ → Free). f j) G.same.size ∙ z);
      slots = λ i. as_first i (B.slots i);
      later = let l = B.later in let e = G.same.next in omega (arith, l, e);
      makers = λ i l. B.makers i (let e = G.same.next in omega (arith, l, e)) ∙ ap (λ (m : ℕ → ℕ). m i) G.same.maker;
      after = R.last.state;
      noted = sym (met_alike Θ (Taken_at n types P settled Vars R.last.result) nice R.last.result now same_now found_is N sub lo read_open read_given late_open late_given (last_goes lo gs true (instance n types t)) (last_goes lo gs true (with_types Θ t)) R.last.state reads closes (goes_same Θ (Taken_at n types P settled Vars R.last.result) nice lo gs true t a B.taken) alike) ∙ R.noted;
    };
    after_is = refl;
  }
    where
      before : Taking n types P settled Vars (last_found lo gs (instance n types t) nothing_found)
      before = none_taken n types P settled Vars lo gs (instance n types t) nothing_found (λ v. inl refl)

      C : Chain_as n types P settled Vars lo gs none_opened t nothing_found (last_found lo gs (instance n types t) nothing_found) R.first
      C = chain_as n types P settled Vars lo gs none_opened t nothing_found (last_found lo gs (instance n types t) nothing_found) R.first a f h before R.met

      B : Behind_data R.first R.last.result t
      B = behind C.taking C.data_taken

      Θ : Variable → Size
      Θ = last_types R.last.result B.taking

      found_is : (v : Variable) → Taken_at n types P settled Vars R.last.result v → R.last.result.type n v (types v) ≡ Θ v
      found_is = last_agrees R.last.result B.taking

      nice : (v : Variable) → Taken_at n types P settled Vars R.last.result v → Nice n types P settled Vars v (Θ v)
      nice v x = subst (Nice n types P settled Vars v) (found_is v x) x

      same_before : Same (last_found lo gs (instance n types t) nothing_found) (last_found lo gs (with_types Θ t) nothing_found)
      same_before = subst (λ (x : Found). Same (last_found lo gs (instance n types t) nothing_found) x) (found_same Θ (Taken_at n types P settled Vars R.last.result) nice lo gs t nothing_found a) (record { size = refl; next = refl; maker = refl })

      G : Given_met n types P settled Vars R.first (data_met (wants lo gs none_opened (with_types Θ t) nothing_found) (last_found lo gs (with_types Θ t) nothing_found))
      G = C.given Θ (last_found lo gs (with_types Θ t) nothing_found) (agrees_before n types P settled Vars Θ R.first R.last.result B.stays found_is) same_before

      as_first : (i : ℕ) → (R.last.result.size i ≡ R.first.size i) ⊎ P (R.last.result.size i) → (R.last.result.size i ≡ G.found.size i) ⊎ P (R.last.result.size i)
      as_first i (inl z) = inl (z ∙ ap (λ (f : ℕ → Free). f i) G.same.size)
      as_first i (inr h) = inr h

      now : Found
      now = R.last.result

      same_now : Same R.last.result now
      same_now = record { size = refl; next = refl; maker = refl }

      L : Last Θ (Taken_at n types P settled Vars R.last.result) nice lo gs t
      L = last_is Θ (Taken_at n types P settled Vars R.last.result) nice lo gs t a B.taken

      read_open : Size
      read_open = read R.last.result (in_opened (last_opened lo gs none_opened (instance n types t) nothing_found) (last_size lo gs (instance n types t)))

      read_given : Size
      read_given = read now (in_opened (last_opened lo gs none_opened (with_types Θ t) nothing_found) (last_size lo gs (with_types Θ t)))

      late_open : List Later
      late_open = laters lo gs none_opened (instance n types t) nothing_found ++ uses (wants lo gs none_opened (instance n types t) nothing_found)

      late_given : List Later
      late_given = laters lo gs none_opened (with_types Θ t) nothing_found ++ uses (wants lo gs none_opened (with_types Θ t) nothing_found)

      reads : read_open ≡ read_given
      reads = ap (λ x. read R.last.result (in_opened (last_opened lo gs none_opened (instance n types t) nothing_found) x)) L.open_is ∙ read_as Θ (Taken_at n types P settled Vars R.last.result) nice R.last.result now same_now found_is (last_opened lo gs none_opened (instance n types t) nothing_found) L.size 0 L.fine
          ∙ ap (λ x. read now (in_opened (last_opened lo gs none_opened (instance n types t) nothing_found) x)) (sym L.given_is) ∙ ap (λ φ. read now (in_opened φ (last_size lo gs (with_types Θ t)))) (opened_same Θ (Taken_at n types P settled Vars R.last.result) nice lo gs none_opened t nothing_found a)

      closes : Each_hole Any_variable read_given
      closes = closed_read Θ (Taken_at n types P settled Vars R.last.result) nice R.last.result now same_now found_is (in_opened (last_opened lo gs none_opened (with_types Θ t) nothing_found) (last_size lo gs (with_types Θ t))) (hole_replaced (dim_in (last_opened lo gs none_opened (with_types Θ t) nothing_found)) Any_variable (last_size lo gs (with_types Θ t)) 0 (subst (Each_hole Any_variable) (sym L.given_is) (given_closed Θ (Taken_at n types P settled Vars R.last.result) nice L.size L.fine)))

      alike : Alike Θ (Taken_at n types P settled Vars R.last.result) nice R.last.result now same_now found_is late_open late_given
      alike = both_alike Θ (Taken_at n types P settled Vars R.last.result) nice R.last.result now same_now found_is (laters lo gs none_opened (instance n types t) nothing_found) (laters lo gs none_opened (with_types Θ t) nothing_found) (uses (wants lo gs none_opened (instance n types t) nothing_found)) (uses (wants lo gs none_opened (with_types Θ t) nothing_found))
          (laters_alike Θ (Taken_at n types P settled Vars R.last.result) nice R.last.result now same_now found_is lo gs none_opened t nothing_found a B.taken) (uses_alike Θ (Taken_at n types P settled Vars R.last.result) nice R.last.result now same_now found_is lo gs none_opened t nothing_found a B.taken)
