-- A function with type variables that is applied to data: each variable takes one sized type, and matching goes as that of the function
-- with these types.
use Rattle.std.proofs.Common.{◌≡◌, ◌⊎◌, ℕ, List, [], ◌∷◌, Bool, true, false, ◌||◌, ◌&&◌, cond, Ok, Err, refl, sym, ap, ◌∙◌, subst, arith, inl, inr, eqb-true, eq-eqb}
use Rattle.std.specs.Prelude.{nat_lt}
use Rattle.fut_types.specs.declared.Head.TheVariants as head
use Rattle.fut_types.specs.Types.{Ty, Made, more, none}
use Rattle.sized_types.specs.Sizes.{Free, Const, Name, Own, Unknown, Slot, Dim, At, Bound, Variable, Inferred, Written, is_variable, Size, Hole, Open, Level, Built, Fun, Sizes, no_size, size_and, erased, all_erased, is_free, replaced, all_replaced, renamed, renaming}
use Rattle.sized_types.specs.Standing.{has_hole, some_hole}
use Rattle.fut_sizes.specs.Agreeing.{Answer, Mismatch, then_do}
use Rattle.fut_sizes.specs.Applications.{is_function, still_open, is_arrow, data_met}
use Rattle.fut_sizes.specs.Functions.{is_slot}
use Rattle.fut_sizes.specs.Matching.{Found, put, size_found, type_found, is_open, made_at, found_size, read, Opened, none_opened, dim_in, in_opened, meet_size, meet_dims, data_way, any_size, with_any_sizes, open_takes, meet_variable, filled as type_filled, all_filled as all_type_filled, compared, all_compared, meet, all_meet}
use Rattle.fut_sizes.specs.Rules.{Each_hole, Each_holes, filled as with_types, all_filled as all_with_types}
use Rattle.fut_sizes.specs.Scopes.{instance, instances}
use Rattle.fut_sizes.specs.Suiting.{Each, Each_all, Scoped, Data, All_data}
use Rattle.sizes_meet_rules.specs.Known.{Is_made, Formed, All_formed}
use Rattle.sizes_meet_rules.proofs.Applying.{Slots, stays_put, no_function, read_settled}
use Rattle.sizes_meet_rules.proofs.Chains.{Given, here, opened_by, after, wants, last_found}
use Rattle.sizes_meet_rules.proofs.Meeting.{then_ok, same_ok, refused_ok, each_scoped}
use Rattle.sizes_meet_rules.proofs.Reading.{found_settled, put_settled, settled_met, slot_met}
use Rattle.sizes_meet_rules.proofs.Replacing.{free_same, same_free, hole_as}
use Rattle.sizes_meet_rules.proofs.Settling.{Is_settled, Any_variable}
use Rattle.sizes_meet_rules.proofs.Taking.{head_same, parts_same, variable_same, not_variable, no_variable_array}

-- two states of matching that have found the same sizes
pub record Same (σ υ : Found) : Type 0 where
  pub size : σ.size ≡ υ.size
  pub next : σ.next ≡ υ.next
  pub maker : σ.maker ≡ υ.maker

-- the variables of data, and those in functions
unfoldable pub function_holes : Size → Variable → Bool
function_holes (Fun k p r) v = has_hole p v || function_holes r v
function_holes t v = has_hole t v

-- of the parameters that are data, and of those that are functions
unfoldable pub data_holes : Size → Variable → Bool
data_holes (Fun k p r) v = has_hole p v || data_holes r v
data_holes t v = false

unfoldable pub lambda_holes : Size → Variable → Bool
lambda_holes (Fun k p r) v = (is_arrow p && function_holes p v) || lambda_holes r v
lambda_holes t v = false

-- the variables of the parameters that are data, as far as there are arguments
abbrev pub taken_holes : List Given → Size → Variable → Bool
taken_holes (g ∷ gs) (Fun k p r) v = has_hole p v || taken_holes gs r v
taken_holes gs t v = false

-- behind these arguments
abbrev pub rest_of : List Given → Size → Size
rest_of (g ∷ gs) (Fun k p r) = rest_of gs r
rest_of gs t = t

-- no function is left, and all variables of data stand in what is given
pub record Rest_fine (gs : List Given) (t : Size) : Type 0 where
  pub no_lambda : (v : Variable) → lambda_holes (rest_of gs t) v ≡ false
  pub covers : (v : Variable) → data_holes t v ≡ true → taken_holes gs t v ≡ true

-- arguments of data, in which these sizes and variables stand
abbrev pub Data_fit : (Free → Type 0) → (Variable → Type 0) → Given → Type 0
Data_fit P Vars g = Data g.size × Formed g.size × Each (Scoped P) 0 g.size × Each_hole Vars g.size

-- ---- data in which no slot stands and nothing is open

-- is not replaced where sizes by themselves stay
module _ (g : ℕ → Dim → Dim) (stays : (j : ℕ) (x : Free) → is_slot x ≡ false → g j (At x) ≡ At x) where
  mutual
    unfolding replaced all_replaced Each Each_all Data All_data

    settled_stays : (t : Size) (j : ℕ) → Data t → Each (Scoped Is_settled) 0 t → replaced g j t ≡ t
    settled_stays (Hole v) j d h = refl
    settled_stays (Open n v u) j d h = absurd d
    settled_stays (Level (At x) t) j d h = ap (λ e. Level e (replaced g j t)) (stays j x h.0) ∙ ap (Level (At x)) (settled_stays t j d h.1)
    settled_stays (Level (Bound k i) t) j d h = absurd (let l = h.0 in omega (arith, l))
    settled_stays (Built k ts) j d h = ap (Built k) (all_settled_stay ts j d h)
    settled_stays (Fun k p r) j d h = absurd d

    all_settled_stay : (ts : Sizes) (j : ℕ) → All_data ts → Each_all (Scoped Is_settled) 0 ts → all_replaced g j ts ≡ ts
    all_settled_stay no_size j d h = refl
    all_settled_stay (size_and t ts) j d h = ap (λ e. size_and e (all_replaced g j ts)) (settled_stays t j d.0 h.0) ∙ ap (size_and t) (all_settled_stay ts j d.1 h.1)

mutual
  unfolding type_filled all_type_filled Data All_data

  pub nothing_filled : (n : ℕ) (v : Variable) (w t : Size) → Data t → type_filled n v w t ≡ t
  nothing_filled n v w (Hole x) d = refl
  nothing_filled n v w (Open m x u) d = absurd d
  nothing_filled n v w (Level l t) d = ap (Level l) (nothing_filled n v w t d)
  nothing_filled n v w (Built k ts) d = ap (Built k) (all_nothing_filled n v w ts d)
  nothing_filled n v w (Fun k p r) d = absurd d

  all_nothing_filled : (n : ℕ) (v : Variable) (w : Size) (ts : Sizes) → All_data ts → all_type_filled n v w ts ≡ ts
  all_nothing_filled n v w no_size d = refl
  all_nothing_filled n v w (size_and t ts) d = ap (λ e. size_and e (all_type_filled n v w ts)) (nothing_filled n v w t d.0) ∙ ap (size_and t) (all_nothing_filled n v w ts d.1)

-- agrees with itself
own_dims : (at : ℕ) (x : Free) (σ : Found) → is_slot x ≡ false → meet_size data_way at (found_size σ x) (found_size σ x) σ ≡ Ok σ
own_dims at x σ s = ap (λ (y : Free). meet_size data_way at y y σ) (found_settled σ x s) ∙ settled_met at σ x x s s ∙ ap (λ b. cond b (Ok σ) (Err (Mismatch at (At x) (At x)))) (same_free x)

module _ (lo at : ℕ) (φ : Opened) where
  mutual
    unfolding meet all_meet Each Each_all Data All_data

    self_met : (t : Size) (σ : Found) → Data t → Each (Scoped Is_settled) 0 t → meet lo data_way at φ t none_opened t σ ≡ Ok σ
    self_met (Hole v) σ d h = refl
    self_met (Open n v u) σ d h = absurd d
    self_met (Level (At x) t) σ d h = ap (λ y. then_do y (λ found. meet lo data_way at φ t none_opened t found)) (own_dims at x σ h.0) ∙ self_met t σ d h.1
    self_met (Level (Bound k i) t) σ d h = absurd (let l = h.0 in omega (arith, l))
    self_met (Built k ts) σ d h = all_self_met ts σ d h
    self_met (Fun k p r) σ d h = absurd d

    all_self_met : (ts : Sizes) (σ : Found) → All_data ts → Each_all (Scoped Is_settled) 0 ts → all_meet lo data_way at φ ts none_opened ts σ ≡ Ok σ
    all_self_met no_size σ d h = refl
    all_self_met (size_and t ts) σ d h = ap (λ y. then_do y (λ found. all_meet lo data_way at φ ts none_opened ts found)) (self_met t σ d.0 h.0) ∙ all_self_met ts σ d.1 h.1

-- and what is compared with it is the same
one_compared : (at : ℕ) (σ τ : Found) (x y : Free) → is_slot x ≡ false → is_slot y ≡ false → meet_size data_way at (found_size σ x) (found_size σ y) σ ≡ Ok τ → (x ≡ y) × (τ ≡ σ)
one_compared at σ τ x y a b q = by_same (is_free x y) refl (sym (ap (λ (e : Free). meet_size data_way at e (found_size σ y) σ) (found_settled σ x a) ∙ ap (λ (e : Free). meet_size data_way at x e σ) (found_settled σ y b) ∙ settled_met at σ x y a b) ∙ q)
  where
    by_same : (c : Bool) → is_free x y ≡ c → ◌≡◌ {A = Answer Found} (cond c (Ok σ) (Err (Mismatch at (At x) (At y)))) (Ok τ) → (x ≡ y) × (τ ≡ σ)
    by_same true f z = (free_same x y f, sym (same_ok z))
    by_same false f z = refused_ok z

module _ (at : ℕ) where
  mutual
    unfolding compared all_compared Each Each_all Data All_data Formed All_formed erased all_erased

    same_compared : (x t : Size) (σ τ : Found) → Data x → Data t → Formed x → Formed t → Each (Scoped Is_settled) 0 x → Each (Scoped Is_settled) 0 t → erased x ≡ erased t → compared data_way at x t σ ≡ Ok τ → (x ≡ t) × (τ ≡ σ)
    same_compared (Open n v u) t σ τ dx dt fx ft sx st z q = absurd dx
    same_compared (Fun k p r) t σ τ dx dt fx ft sx st z q = absurd dx
    same_compared x (Open n v u) σ τ dx dt fx ft sx st z q = absurd dt
    same_compared x (Fun k p r) σ τ dx dt fx ft sx st z q = absurd dt
    same_compared (Hole v) (Hole w) σ τ dx dt fx ft sx st z q = (ap Hole (variable_same v w z), sym (same_ok q))
    same_compared (Hole v) (Level e t) σ τ dx dt fx ft sx st z q = absurd (no_variable_array v (more (erased t) none) z)
    same_compared (Hole v) (Built g ts) σ τ dx dt fx ft sx st z q = absurd (not_variable v g (all_erased ts) ft.0 z)
    same_compared (Level d x) (Hole w) σ τ dx dt fx ft sx st z q = absurd (no_variable_array w (more (erased x) none) (sym z))
    same_compared (Level d x) (Built g ts) σ τ dx dt fx ft sx st z q = absurd (subst Is_made (sym (head_same z)) ft.0)
    same_compared (Level (Bound k i) x) (Level e t) σ τ dx dt fx ft sx st z q = absurd (let l = sx.0 in omega (arith, l))
    same_compared (Level (At d) x) (Level (Bound k i) t) σ τ dx dt fx ft sx st z q = absurd (let l = st.0 in omega (arith, l))
    same_compared (Level (At d) x) (Level (At e) t) σ τ dx dt fx ft sx st z q =
        let r = then_ok (meet_size data_way at (found_size σ d) (found_size σ e) σ) q in
        let a = one_compared at σ r.first d e sx.0 st.0 r.done in
        let b = same_compared x t r.first τ dx dt fx ft sx.1 st.1 (let y : Made head.Array (more (erased x) none) ≡ Made head.Array (more (erased t) none) = z in cc) r.rest in
        (ap (λ f. Level (At f) x) a.0 ∙ ap (Level (At e)) b.0, b.1 ∙ a.1)
    same_compared (Built h xs) (Hole w) σ τ dx dt fx ft sx st z q = absurd (not_variable w h (all_erased xs) fx.0 (sym z))
    same_compared (Built h xs) (Level e t) σ τ dx dt fx ft sx st z q = absurd (subst Is_made (head_same z) fx.0)
    same_compared (Built h xs) (Built g ts) σ τ dx dt fx ft sx st z q = let b = all_same_compared xs ts σ τ dx dt fx.1 ft.1 sx st (parts_same z) q in (ap (λ f. Built f xs) (head_same z) ∙ ap (Built g) b.0, b.1)

    all_same_compared : (xs ts : Sizes) (σ τ : Found) → All_data xs → All_data ts → All_formed xs → All_formed ts → Each_all (Scoped Is_settled) 0 xs → Each_all (Scoped Is_settled) 0 ts → all_erased xs ≡ all_erased ts → all_compared data_way at xs ts σ ≡ Ok τ → (xs ≡ ts) × (τ ≡ σ)
    all_same_compared no_size no_size σ τ dx dt fx ft sx st z q = (refl, sym (same_ok q))
    all_same_compared no_size (size_and t ts) σ τ dx dt fx ft sx st z q = absurd (let y : none ≡ more (erased t) (all_erased ts) = z in cc)
    all_same_compared (size_and x xs) no_size σ τ dx dt fx ft sx st z q = absurd (let y : more (erased x) (all_erased xs) ≡ none = z in cc)
    all_same_compared (size_and x xs) (size_and t ts) σ τ dx dt fx ft sx st z q =
        let y : more (erased x) (all_erased xs) ≡ more (erased t) (all_erased ts) = z in
        let r = then_ok (compared data_way at x t σ) q in
        let a = same_compared x t σ r.first dx.0 dt.0 fx.0 ft.0 sx.0 st.0 (let w : erased x ≡ erased t = cc in w) r.done in
        let b = all_same_compared xs ts r.first τ dx.1 dt.1 fx.1 ft.1 sx.1 st.1 (let w : all_erased xs ≡ all_erased ts = cc in w) r.rest in
        (ap (λ f. size_and f xs) a.0 ∙ ap (size_and t) b.0, b.1 ∙ a.1)

both_true : (a b : Bool) → a && b ≡ true → (a ≡ true) × (b ≡ true)
both_true true b e = (refl, e)
both_true false b e = absurd (let z : false ≡ true = e in cc)

abbrev pub Is_inferred : Variable → Type 0
Is_inferred (Inferred v) = Unit {0}
Is_inferred (Written b k) = ⊥

module _ (n : ℕ) (types : Variable → Ty) (P : Free → Type 0) (settled : (d : Free) → P d → is_slot d ≡ false) (Vars : Variable → Type 0) where
  -- each variable open
  abbrev pub opened : Size → Size
  opened t = instance n types t

  one_variable : (v w : Variable) → Is_inferred v → is_variable v w ≡ true → v ≡ w
  one_variable (Inferred v) (Inferred w) f e = ap Inferred (eqb-true v w e)
  one_variable (Inferred v) (Written b k) f e = absurd (let z : false ≡ true = e in cc)
  one_variable (Written b k) w f e = absurd f

  pub other_variable : (v w : Variable) → Is_inferred v → is_variable w v ≡ true → v ≡ w
  other_variable (Inferred v) (Inferred w) f e = ap Inferred (sym (eqb-true w v e))
  other_variable (Inferred v) (Written b k) f e = absurd (let z : false ≡ true = e in cc)
  other_variable (Written b k) w f e = absurd f

  itself : (v : Variable) → is_variable v v ≡ true
  itself (Inferred v) = eq-eqb v v refl
  itself (Written b k) = eq-eqb b b refl

  -- ---- what a variable has taken

  -- a sized type of data that stands for it
  pub record Nice (v : Variable) (t : Size) : Type 0 where
    pub is_data : Data t
    pub formed : Formed t
    pub sizes : Each (Scoped P) 0 t
    pub variables : Each_hole Vars t
    pub typed : erased t ≡ types v

  nice_settled : (v : Variable) (t : Size) → Nice v t → Each (Scoped Is_settled) 0 t
  nice_settled v t h = each_scoped P Is_settled settled t 0 h.sizes

  pub nice_closed : (v : Variable) (t : Size) → Nice v t → Each_hole Any_variable t
  nice_closed v t h = hole_as Vars Any_variable (λ v i. tt) t h.variables

  nice_put : (v : Variable) (t : Size) (i : ℕ) (e : Free) → Nice v t → renamed (put i e) t ≡ t
  nice_put v t i e h = settled_stays (renaming (put i e)) (λ j x s. ap At (put_settled i e x s)) t 0 h.is_data (nice_settled v t h)

  pub nice_opened : (v : Variable) (t : Size) (φ : Opened) (j : ℕ) → Nice v t → replaced (dim_in φ) j t ≡ t
  nice_opened v t φ j h = settled_stays (dim_in φ) (λ j x s. refl) t j h.is_data (nice_settled v t h)

  pub nice_read : (v : Variable) (t : Size) (σ : Found) → Nice v t → read σ t ≡ t
  nice_read v t σ h = read_settled σ t 0 (nice_settled v t h) (nice_closed v t h)

  pub not_open : (v w : Variable) (m : ℕ) (u : Ty) (t : Size) → Nice v t → t ≡ Open m w u → ⊥
  unfolding Data
  not_open v w m u t h e = subst Data e h.is_data

  abbrev pub Taken_at : Found → Variable → Type 0
  Taken_at σ v = Nice v (σ.type n v (types v))

  abbrev pub Taking : Found → Type 0
  Taking σ = (v : Variable) → (σ.type n v (types v) ≡ Open n v (types v)) ⊎ Taken_at σ v

  -- what is taken stays
  abbrev pub Stays : Found → Found → Type 0
  Stays σ τ = (v : Variable) → Taken_at σ v → τ.type n v (types v) ≡ σ.type n v (types v)

  pub stays_taken : (σ τ : Found) → Stays σ τ → (v : Variable) → Taken_at σ v → Taken_at τ v
  stays_taken σ τ s v h = subst (Nice v) (sym (s v h)) h

  -- these are the sized types that are taken
  abbrev pub Agrees : (Variable → Size) → Found → Type 0
  Agrees Θ τ = (v : Variable) → Taken_at τ v → τ.type n v (types v) ≡ Θ v

  pub agrees_before : (Θ : Variable → Size) (σ τ : Found) → Stays σ τ → Agrees Θ τ → Agrees Θ σ
  agrees_before Θ σ τ s a v h = sym (s v h) ∙ a v (stays_taken σ τ s v h)

  sized_taking : (i : ℕ) (e : Free) (σ : Found) → Taking σ → Taking (size_found i e σ)
  unfolding replaced
  sized_taking i e σ t v = by_form (t v)
    where
      by_form : (σ.type n v (types v) ≡ Open n v (types v)) ⊎ Taken_at σ v → (renamed (put i e) (σ.type n v (types v)) ≡ Open n v (types v)) ⊎ Nice v (renamed (put i e) (σ.type n v (types v)))
      by_form (inl z) = inl (ap (renamed (put i e)) z)
      by_form (inr z) = inr (subst (Nice v) (sym (nice_put v (σ.type n v (types v)) i e z)) z)

  pub typed_taking : (v : Variable) (t : Size) (σ : Found) → Is_inferred v → Nice v t → Taking σ → Taking (type_found n v t σ)
  unfolding type_filled
  typed_taking v t σ f h k w = by_form (k w)
    where
      by_open : (b : Bool) → is_open n v n w ≡ b → (cond b t (Open n w (types w)) ≡ Open n w (types w)) ⊎ Nice w (cond b t (Open n w (types w)))
      by_open true e = inr (subst (λ x. Nice x t) (one_variable v w f (sym (ap (λ b. b && is_variable v w) (eq-eqb n n refl)) ∙ e)) h)
      by_open false e = inl refl

      by_form : (σ.type n w (types w) ≡ Open n w (types w)) ⊎ Taken_at σ w → (type_filled n v t (σ.type n w (types w)) ≡ Open n w (types w)) ⊎ Nice w (type_filled n v t (σ.type n w (types w)))
      by_form (inl z) = subst (λ x. (type_filled n v t x ≡ Open n w (types w)) ⊎ Nice w (type_filled n v t x)) (sym z) (by_open (is_open n v n w) refl)
      by_form (inr z) = inr (subst (Nice w) (sym (nothing_filled n v t (σ.type n w (types w)) z.is_data)) z)

  -- ---- matching goes alike

  -- with these types for variables, from a state that has found the same sizes
  pub record Given_met (τ : Found) (other : Answer Found) : Type 0 where
    pub found : Found
    pub answer : other ≡ Ok found
    pub same : Same τ found

  pub record As_met (ok : Variable → Bool) (σ τ : Found) (other : (Variable → Size) → Found → Answer Found) : Type 0 where
    pub taking : Taking τ
    pub stays : Stays σ τ
    pub slots : Slots P settled σ → Slots P settled τ
    pub here : (v : Variable) → ok v ≡ true → Taken_at τ v
    pub given : (Θ : Variable → Size) (υ : Found) → Agrees Θ τ → Same σ υ → Given_met τ (other Θ υ)

  abbrev pub no_variable : Variable → Bool
  no_variable v = false

  same_as : (σ τ : Found) (other : (Variable → Size) → Found → Answer Found) → ◌≡◌ {A = Answer Found} (Ok σ) (Ok τ) → Taking σ → ((Θ : Variable → Size) (υ : Found) → Same σ υ → other Θ υ ≡ Ok υ) → As_met no_variable σ τ other
  same_as σ τ other q t f = subst (λ (x : Found). As_met no_variable σ x other) (same_ok q) (record { taking = t; stays = λ v e. refl; slots = λ k. k; here = λ v e. absurd (let z : false ≡ true = e in cc); given = λ Θ υ a s. record { found = υ; answer = f Θ υ s; same = s } })

  as_then : (okA okB : Variable → Bool) (σ τ υ : Found) (x : (Variable → Size) → Found → Answer Found) (f : (Variable → Size) → Found → Answer Found) → As_met okA σ τ x → (Taking τ → As_met okB τ υ f) → As_met (λ v. okA v || okB v) σ υ (λ Θ ξ. then_do (x Θ ξ) (f Θ))
  as_then okA okB σ τ υ x f A go = record {
    taking = B.taking;
    stays = λ v e. B.stays v (stays_taken σ τ A.stays v e) ∙ A.stays v e;
    slots = λ k. B.slots (A.slots k);
    here = λ v e. by_side v (okA v) refl e;
    given = λ Θ ξ a s. given Θ ξ a s;
  }
    where
      B : As_met okB τ υ f
      B = go A.taking

      by_side : (v : Variable) (b : Bool) → okA v ≡ b → b || okB v ≡ true → Taken_at υ v
      by_side v true z e = stays_taken τ υ B.stays v (A.here v z)
      by_side v false z e = B.here v e

      given : (Θ : Variable → Size) (ξ : Found) → Agrees Θ υ → Same σ ξ → Given_met υ (then_do (x Θ ξ) (f Θ))
      given Θ ξ a s =
          let C = A.given Θ ξ (agrees_before Θ τ υ B.stays a) s in
          let D = B.given Θ C.found a C.same in
          record { found = D.found; answer = ap (λ y. then_do y (f Θ)) C.answer ∙ D.answer; same = D.same }

  as_other : (ok ok' : Variable → Bool) (σ τ : Found) (x : (Variable → Size) → Found → Answer Found) → ((v : Variable) → ok' v ≡ true → ok v ≡ true) → As_met ok σ τ x → As_met ok' σ τ x
  as_other ok ok' σ τ x w A = record { taking = A.taking; stays = A.stays; slots = A.slots; here = λ v e. A.here v (w v e); given = A.given }

  pub size_same : (σ υ : Found) → Same σ υ → (d : Free) → found_size υ d ≡ found_size σ d
  size_same σ υ s (Slot i) = ap (λ (f : ℕ → Free). f i) (sym s.size)
  size_same σ υ s (Const c) = refl
  size_same σ υ s (Name c) = refl
  size_same σ υ s (Own m c) = refl
  size_same σ υ s (Unknown m c) = refl

  settled_as : (at : ℕ) (σ τ : Found) (y e : Free) → is_slot y ≡ false → is_slot e ≡ false → Taking σ → meet_size data_way at y e σ ≡ Ok τ → As_met no_variable σ τ (λ Θ υ. meet_size data_way at y e υ)
  settled_as at σ τ y e a b t q = by_same (is_free y e) refl (sym (settled_met at σ y e a b) ∙ q)
    where
      by_same : (c : Bool) → is_free y e ≡ c → ◌≡◌ {A = Answer Found} (cond c (Ok σ) (Err (Mismatch at (At y) (At e)))) (Ok τ) → As_met no_variable σ τ (λ Θ υ. meet_size data_way at y e υ)
      by_same true f z = same_as σ τ (λ Θ υ. meet_size data_way at y e υ) z t (λ Θ υ s. settled_met at υ y e a b ∙ ap (λ c. cond c (Ok υ) (Err (Mismatch at (At y) (At e)))) f)
      by_same false f z = refused_ok z

  free_as : (at : ℕ) (σ τ : Found) (y e : Free) → P e → Taking σ → meet_size data_way at y e σ ≡ Ok τ → As_met no_variable σ τ (λ Θ υ. meet_size data_way at y e υ)
  free_as at σ τ (Slot i) e b t q = subst (λ (x : Found). As_met no_variable σ x (λ Θ υ. meet_size data_way at (Slot i) e υ)) (same_ok (sym (slot_met at i σ e (settled e b)) ∙ q)) (record {
    taking = sized_taking i e σ t;
    stays = λ v z. nice_put v (σ.type n v (types v)) i e z;
    slots = (stays_put P settled i e σ b).0;
    here = λ v z. absurd (let w : false ≡ true = z in cc);
    given = λ Θ υ a s. record { found = size_found i e υ; answer = slot_met at i υ e (settled e b); same = record { size = ap {B = ℕ → Free} (λ (f : ℕ → Free) (j : ℕ). put i e (f j)) s.size; next = s.next; maker = s.maker } };
  })
  free_as at σ τ (Const c) e b t q = settled_as at σ τ (Const c) e refl (settled e b) t q
  free_as at σ τ (Name c) e b t q = settled_as at σ τ (Name c) e refl (settled e b) t q
  free_as at σ τ (Own m c) e b t q = settled_as at σ τ (Own m c) e refl (settled e b) t q
  free_as at σ τ (Unknown m c) e b t q = settled_as at σ τ (Unknown m c) e refl (settled e b) t q

  as_same : (ok : Variable → Bool) (σ τ : Found) (x y : (Variable → Size) → Found → Answer Found) → ((Θ : Variable → Size) (υ : Found) → Same σ υ → x Θ υ ≡ y Θ υ) → As_met ok σ τ x → As_met ok σ τ y
  as_same ok σ τ x y e A = record { taking = A.taking; stays = A.stays; slots = A.slots; here = A.here; given = λ Θ υ a s. let C = A.given Θ υ a s in record { found = C.found; answer = sym (e Θ υ s) ∙ C.answer; same = C.same } }

  pub dims_as : (at : ℕ) (σ τ : Found) (x : Dim) (e : Free) → P e → Taking σ → meet_dims data_way at x (At e) σ ≡ Ok τ → As_met no_variable σ τ (λ Θ υ. meet_dims data_way at x (At e) υ)
  dims_as at σ τ (Bound k i) e b t q = same_as σ τ (λ Θ υ. meet_dims data_way at (Bound k i) (At e) υ) q t (λ Θ υ s. refl)
  dims_as at σ τ (At d) e b t q = as_same no_variable σ τ (λ Θ υ. meet_size data_way at (found_size σ d) e υ) (λ Θ υ. meet_dims data_way at (At d) (At e) υ)
      (λ Θ υ s. sym (ap (λ (y : Free). meet_size data_way at y (found_size υ e) υ) (size_same σ υ s d) ∙ ap (λ (y : Free). meet_size data_way at (found_size σ d) y υ) (found_settled υ e (settled e b))))
      (free_as at σ τ (found_size σ d) e b t (ap (λ (y : Free). meet_size data_way at (found_size σ d) y σ) (sym (found_settled σ e (settled e b))) ∙ q))

  -- a variable takes a sized type, or has it already
  with_any : (v : Variable) (t : Size) (σ : Found) → Nice v t → with_any_sizes σ t ≡ t
  with_any v t σ h = ap (renamed (found_size σ)) (settled_stays any_size (λ j x s. refl) t 0 h.is_data (nice_settled v t h)) ∙ settled_stays (renaming (found_size σ)) (λ j x s. ap At (found_settled σ x s)) t 0 h.is_data (nice_settled v t h)

  takes_it : (at : ℕ) (v w : Variable) (t : Size) (σ : Found) → Nice w t → open_takes true data_way at n v t σ ≡ Ok (type_found n v (with_any_sizes σ t) σ)
  unfolding Data
  takes_it at v w (Hole x) σ h = refl
  takes_it at v w (Open m x u) σ h = absurd h.is_data
  takes_it at v w (Level d t) σ h = refl
  takes_it at v w (Built k ts) σ h = refl
  takes_it at v w (Fun k p r) σ h = absurd h.is_data

  has_it : (at : ℕ) (v : Variable) (x t : Size) (σ : Found) → Nice v x → meet_variable true data_way at x t σ ≡ compared data_way at x t σ
  unfolding Data
  has_it at v (Hole y) t σ h = refl
  has_it at v (Open m y u) t σ h = absurd h.is_data
  has_it at v (Level d x) t σ h = refl
  has_it at v (Built k xs) t σ h = refl
  has_it at v (Fun k p r) t σ h = absurd h.is_data

  pub now_taken : (v : Variable) (t : Size) (σ : Found) → σ.type n v (types v) ≡ Open n v (types v) → (type_found n v t σ).type n v (types v) ≡ t
  unfolding type_filled
  now_taken v t σ z = ap (type_filled n v t) z ∙ ap (λ b. cond b t (Open n v (types v))) (ap (λ b. b && is_variable v v) (eq-eqb n n refl) ∙ itself v)

  abbrev pub given_types : (Variable → Size) → Size → Size
  given_types Θ t = with_types Θ t

  module _ (lo at : ℕ) (φ : Opened) where
    variable_as : (v : Variable) (t : Size) (σ τ : Found) → Is_inferred v → Nice v t → Taking σ → meet_variable true data_way at (σ.type n v (types v)) (read σ (in_opened none_opened t)) σ ≡ Ok τ → As_met (λ w. is_variable w v) σ τ (λ Θ υ. meet lo data_way at φ (Θ v) none_opened t υ)
    variable_as v t σ τ f h k q = by_form (k v) (ap (λ x. meet_variable true data_way at (σ.type n v (types v)) x σ) (sym (ap (read σ) (nice_opened v t none_opened 0 h) ∙ nice_read v t σ h)) ∙ q)
      where
        same_variable : (x : Found) → Taken_at x v → (w : Variable) → is_variable w v ≡ true → Taken_at x w
        same_variable x z w e = subst (Taken_at x) (other_variable v w f e) z

        meets : (Θ : Variable → Size) (υ : Found) → Θ v ≡ t → meet lo data_way at φ (Θ v) none_opened t υ ≡ Ok υ
        meets Θ υ e = ap (λ x. meet lo data_way at φ x none_opened t υ) e ∙ self_met lo at φ t υ h.is_data (nice_settled v t h)

        first : Found
        first = type_found n v t σ

        taken_now : σ.type n v (types v) ≡ Open n v (types v) → Taken_at first v
        taken_now z = subst (Nice v) (sym (now_taken v t σ z)) h

        by_form : (σ.type n v (types v) ≡ Open n v (types v)) ⊎ Taken_at σ v → meet_variable true data_way at (σ.type n v (types v)) t σ ≡ Ok τ → As_met (λ w. is_variable w v) σ τ (λ Θ υ. meet lo data_way at φ (Θ v) none_opened t υ)
        by_form (inl z) e = subst (λ (x : Found). As_met (λ w. is_variable w v) σ x (λ Θ υ. meet lo data_way at φ (Θ v) none_opened t υ)) (same_ok (sym (ap (λ x. Ok (type_found n v x σ)) (with_any v t σ h)) ∙ sym (takes_it at v v t σ h) ∙ ap (λ x. meet_variable true data_way at x t σ) (sym z) ∙ e)) (record {
          taking = typed_taking v t σ f h k;
          stays = λ w y. nothing_filled n v t (σ.type n w (types w)) y.is_data;
          slots = λ k. k;
          here = λ w y. same_variable first (taken_now z) w y;
          given = λ Θ υ a s. record { found = υ; answer = meets Θ υ (sym (a v (taken_now z)) ∙ now_taken v t σ z); same = record { size = s.size; next = s.next; maker = s.maker } };
        })
        by_form (inr z) e =
            let c = same_compared at (σ.type n v (types v)) t σ τ z.is_data h.is_data z.formed h.formed (nice_settled v (σ.type n v (types v)) z) (nice_settled v t h) (z.typed ∙ sym h.typed) (sym (has_it at v (σ.type n v (types v)) t σ z) ∙ e) in
            subst (λ (x : Found). As_met (λ w. is_variable w v) σ x (λ Θ υ. meet lo data_way at φ (Θ v) none_opened t υ)) (sym c.1) (record {
              taking = k;
              stays = λ w y. refl;
              slots = λ s. s;
              here = λ w y. same_variable σ z w y;
              given = λ Θ υ a s. record { found = υ; answer = meets Θ υ (sym (a v z) ∙ c.0); same = s };
            })

    mutual
      unfolding meet all_meet instance instances with_types all_with_types Each Each_all Each_hole Each_holes Data All_data Formed All_formed erased all_erased has_hole some_hole

      -- data with variables meets data
      pub met_as : (p t : Size) (σ τ : Found) → Data p → Formed p → Each_hole Is_inferred p → Data t → Formed t → Each (Scoped P) 0 t → Each_hole Vars t → erased (opened p) ≡ erased t → Taking σ → meet lo data_way at φ (opened p) none_opened t σ ≡ Ok τ → As_met (has_hole p) σ τ (λ Θ υ. meet lo data_way at φ (given_types Θ p) none_opened t υ)
      met_as (Open m v u) t σ τ dp fp hp dt ft st vt z k q = absurd dp
      met_as (Fun l p r) t σ τ dp fp hp dt ft st vt z k q = absurd dp
      met_as p (Open m v u) σ τ dp fp hp dt ft st vt z k q = absurd dt
      met_as p (Fun l t r) σ τ dp fp hp dt ft st vt z k q = absurd dt
      met_as (Hole v) t σ τ dp fp hp dt ft st vt z k q = variable_as v t σ τ hp (record { is_data = dt; formed = ft; sizes = st; variables = vt; typed = sym z }) k q
      met_as (Level d p) (Hole w) σ τ dp fp hp dt ft st vt z k q = absurd (no_variable_array w (more (erased (opened p)) none) (sym z))
      met_as (Level d p) (Built g ts) σ τ dp fp hp dt ft st vt z k q = absurd (subst Is_made (sym (head_same z)) ft.0)
      met_as (Level d p) (Level (Bound j i) t) σ τ dp fp hp dt ft st vt z k q = absurd (let l = st.0 in omega (arith, l))
      met_as (Level d p) (Level (At e) t) σ τ dp fp hp dt ft st vt z k q =
          let r = then_ok (meet_dims data_way at (dim_in φ 0 d) (At e) σ) q in
          as_other (λ v. false || has_hole p v) (has_hole p) σ τ (λ Θ υ. meet lo data_way at φ (Level d (given_types Θ p)) none_opened (Level (At e) t) υ) (λ v y. y)
          (as_then no_variable (has_hole p) σ r.first τ (λ Θ υ. meet_dims data_way at (dim_in φ 0 d) (At e) υ) (λ Θ found. meet lo data_way at φ (given_types Θ p) none_opened t found) (dims_as at σ r.first (dim_in φ 0 d) e st.0 k r.done)
          (λ k1. met_as p t r.first τ dp fp hp dt ft st.1 vt (let y : Made head.Array (more (erased (opened p)) none) ≡ Made head.Array (more (erased t) none) = z in cc) k1 r.rest))
      met_as (Built h ps) (Hole w) σ τ dp fp hp dt ft st vt z k q = absurd (not_variable w h (all_erased (instances n types ps)) fp.0 (sym z))
      met_as (Built h ps) (Level e t) σ τ dp fp hp dt ft st vt z k q = absurd (subst Is_made (head_same z) fp.0)
      met_as (Built h ps) (Built g ts) σ τ dp fp hp dt ft st vt z k q = all_met_as ps ts σ τ dp fp.1 hp dt ft.1 st vt (parts_same z) k q

      all_met_as : (ps ts : Sizes) (σ τ : Found) → All_data ps → All_formed ps → Each_holes Is_inferred ps → All_data ts → All_formed ts → Each_all (Scoped P) 0 ts → Each_holes Vars ts → all_erased (instances n types ps) ≡ all_erased ts → Taking σ → all_meet lo data_way at φ (instances n types ps) none_opened ts σ ≡ Ok τ → As_met (some_hole ps) σ τ (λ Θ υ. all_meet lo data_way at φ (all_with_types Θ ps) none_opened ts υ)
      all_met_as no_size ts σ τ dp fp hp dt ft st vt z k q = same_as σ τ (λ Θ υ. all_meet lo data_way at φ no_size none_opened ts υ) q k (λ Θ υ s. refl)
      all_met_as (size_and p ps) no_size σ τ dp fp hp dt ft st vt z k q = absurd (let y : more (erased (opened p)) (all_erased (instances n types ps)) ≡ none = z in cc)
      all_met_as (size_and p ps) (size_and t ts) σ τ dp fp hp dt ft st vt z k q =
          let y : more (erased (opened p)) (all_erased (instances n types ps)) ≡ more (erased t) (all_erased ts) = z in
          let r = then_ok (meet lo data_way at φ (opened p) none_opened t σ) q in
          as_then (has_hole p) (some_hole ps) σ r.first τ (λ Θ υ. meet lo data_way at φ (given_types Θ p) none_opened t υ) (λ Θ found. all_meet lo data_way at φ (all_with_types Θ ps) none_opened ts found)
          (met_as p t σ r.first dp.0 fp.0 hp.0 dt.0 ft.0 st.0 vt.0 (let w : erased (opened p) ≡ erased t = cc in w) k r.done)
          (λ k1. all_met_as ps ts r.first τ dp.1 fp.1 hp.1 dt.1 ft.1 st.1 vt.1 (let w : all_erased (instances n types ps) ≡ all_erased ts = cc in w) k1 r.rest)

  -- ---- all arguments

  -- a function of that many arguments, of data of these types or functions
  abbrev pub Arrows : List Given → Size → Type 0
  Arrows [] t = Unit {0}
  Arrows (g ∷ gs) (Fun k p r) = (((Data p × (erased (opened p) ≡ erased g.size)) × Data_fit P Vars g) ⊎ ((is_function g.size ≡ true) × (is_arrow p ≡ true))) × Arrows gs r
  Arrows (g ∷ gs) t = ⊥

  no_hole : (p : Size) (v : Variable) → is_arrow p ≡ true → has_hole p v ≡ false
  unfolding has_hole
  no_hole (Fun k p r) v e = refl
  no_hole (Hole y) v e = absurd (let z : false ≡ true = e in cc)
  no_hole (Open m y u) v e = absurd (let z : false ≡ true = e in cc)
  no_hole (Level d t) v e = absurd (let z : false ≡ true = e in cc)
  no_hole (Built h ts) v e = absurd (let z : false ≡ true = e in cc)

  made_same : (m : ℕ) (σ υ : Found) → Same σ υ → Same (made_at m σ) (made_at m υ)
  made_same m σ υ s = record {
    size = s.size;
    next = s.next;
    maker = ap {B = ℕ → ℕ} (λ (x : ℕ) (i : ℕ). cond (nat_lt i x) (σ.maker i) m) s.next ∙ ap {B = ℕ → ℕ} (λ (f : ℕ → ℕ) (i : ℕ). cond (nat_lt i υ.next) (f i) m) s.maker;
  }

  module _ (lo : ℕ) where
    pub record Chain_as (gs : List Given) (φ : Opened) (t : Size) (σ before τ : Found) : Type 0 where
      pub taking : Taking τ
      pub stays : Stays before τ
      pub slots : Slots P settled before → Slots P settled τ
      pub data_taken : (v : Variable) → taken_holes gs t v ≡ true → Taken_at τ v
      pub given : (Θ : Variable → Size) (υ : Found) → Agrees Θ τ → Same before υ → Given_met τ (data_met (wants lo gs φ (given_types Θ t) σ) υ)

    -- one argument of data more
    data_more : (g : Given) (gs : List Given) (φ : Opened) (k : ℕ) (p r : Size) (σ before τ : Found) → Data p → erased (opened p) ≡ erased g.size → Data_fit P Vars g → Formed p → Each_hole Is_inferred p → Taking before → data_met (wants lo (g ∷ gs) φ (opened (Fun k p r)) σ) before ≡ Ok τ
        → ((first : Found) → Taking first → data_met (wants lo gs (opened_by lo gs g σ k φ) (opened r) (after lo gs g σ k)) first ≡ Ok τ → Chain_as gs (opened_by lo gs g σ k φ) r (after lo gs g σ k) first τ) → Chain_as (g ∷ gs) φ (Fun k p r) σ before τ
    unfolding data_met instance with_types
    data_more g gs φ k p r σ before τ dp same w fp hp c q go =
        let ψ = opened_by lo gs g σ k φ in
        let now : then_do (meet (here lo gs) data_way g.node ψ (opened p) none_opened g.size (made_at (here lo gs) before)) (λ found. data_met (wants lo gs ψ (opened r) (after lo gs g σ k)) found) ≡ Ok τ =
        ap (λ b. then_do (cond b (Ok before) (meet (here lo gs) data_way g.node ψ (opened p) none_opened g.size (made_at (here lo gs) before))) (λ found. data_met (wants lo gs ψ (opened r) (after lo gs g σ k)) found)) (sym (no_function g.size w.0)) ∙ q in
        let x = then_ok (meet (here lo gs) data_way g.node ψ (opened p) none_opened g.size (made_at (here lo gs) before)) now in
        let A = met_as (here lo gs) g.node ψ p g.size (made_at (here lo gs) before) x.first dp fp hp w.0 w.1 w.2 w.3 same c x.done in
        let R = go x.first A.taking x.rest in
        record {
          taking = R.taking;
          stays = λ v e. R.stays v (stays_taken (made_at (here lo gs) before) x.first A.stays v e) ∙ A.stays v e;
          slots = λ s. R.slots (A.slots s);
          data_taken = λ v e. by_place x.first R.stays R.data_taken A.here v (has_hole p v) refl e;
          given = λ Θ υ b s.
              let C = A.given Θ (made_at (here lo gs) υ) (agrees_before Θ x.first τ R.stays b) (made_same (here lo gs) before υ s) in
              let D = R.given Θ C.found b C.same in
              record {
                found = D.found;
                answer = ap (λ b. then_do (cond b (Ok υ) (meet (here lo gs) data_way g.node ψ (given_types Θ p) none_opened g.size (made_at (here lo gs) υ))) (λ found. data_met (wants lo gs ψ (given_types Θ r) (after lo gs g σ k)) found)) (no_function g.size w.0)
                    ∙ ap (λ y. then_do y (λ found. data_met (wants lo gs ψ (given_types Θ r) (after lo gs g σ k)) found)) C.answer ∙ D.answer;
                same = D.same;
              };
        }
      where
        by_place : (first : Found) → Stays first τ → ((v : Variable) → taken_holes gs r v ≡ true → Taken_at τ v) → ((v : Variable) → has_hole p v ≡ true → Taken_at first v) → (v : Variable) (b : Bool) → has_hole p v ≡ b → b || taken_holes gs r v ≡ true → Taken_at τ v
        by_place first stays later there v true z e = stays_taken first τ stays v (there v z)
        by_place first stays later there v false z e = later v e

    -- a function is matched later
    function_more : (g : Given) (gs : List Given) (φ : Opened) (k : ℕ) (p r : Size) (σ before τ : Found) → is_function g.size ≡ true → is_arrow p ≡ true → data_met (wants lo (g ∷ gs) φ (opened (Fun k p r)) σ) before ≡ Ok τ
        → (data_met (wants lo gs (opened_by lo gs g σ k φ) (opened r) (after lo gs g σ k)) before ≡ Ok τ → Chain_as gs (opened_by lo gs g σ k φ) r (after lo gs g σ k) before τ) → Chain_as (g ∷ gs) φ (Fun k p r) σ before τ
    unfolding data_met instance with_types
    function_more g gs φ k p r σ before τ f ar q go =
        let ψ = opened_by lo gs g σ k φ in
        let R = go (ap (λ b. then_do (cond b (Ok before) (meet (here lo gs) data_way g.node ψ (opened p) none_opened g.size (made_at (here lo gs) before))) (λ found. data_met (wants lo gs ψ (opened r) (after lo gs g σ k)) found)) (sym f) ∙ q) in
        record {
          taking = R.taking;
          stays = R.stays;
          slots = R.slots;
          data_taken = λ v e. R.data_taken v (ap (λ b. b || taken_holes gs r v) (sym (no_hole p v ar)) ∙ e);
          given = λ Θ υ b s.
              let D = R.given Θ υ b s in
              record {
                found = D.found;
                answer = ap (λ b. then_do (cond b (Ok υ) (meet (here lo gs) data_way g.node ψ (given_types Θ p) none_opened g.size (made_at (here lo gs) υ))) (λ found. data_met (wants lo gs ψ (given_types Θ r) (after lo gs g σ k)) found)) f ∙ D.answer;
                same = D.same;
              };
        }

    pub chain_as : (gs : List Given) (φ : Opened) (t : Size) (σ before τ : Found) → Arrows gs t → Formed t → Each_hole Is_inferred t → Taking before → data_met (wants lo gs φ (opened t) σ) before ≡ Ok τ → Chain_as gs φ t σ before τ
    unfolding data_met instance with_types Formed Each_hole Data
    chain_as [] φ t σ before τ a f h c q = subst (λ (x : Found). Chain_as [] φ t σ before x) (same_ok q) (record {
      taking = c;
      stays = λ v e. refl;
      slots = λ s. s;
      data_taken = λ v e. absurd (let z : false ≡ true = e in cc);
      given = λ Θ υ b s. record { found = υ; answer = refl; same = s };
    })
    chain_as (g ∷ gs) φ (Fun k p r) σ before τ (inl d, a) f h c q = data_more g gs φ k p r σ before τ d.0.0 d.0.1 d.1 f.0 h.0 c q (λ first k1 rest. chain_as gs (opened_by lo gs g σ k φ) r (after lo gs g σ k) first τ a f.1 h.1 k1 rest)
    chain_as (g ∷ gs) φ (Fun k p r) σ before τ (inr d, a) f h c q = function_more g gs φ k p r σ before τ d.0 d.1 q (λ rest. chain_as gs (opened_by lo gs g σ k φ) r (after lo gs g σ k) before τ a f.1 h.1 c rest)
    chain_as (g ∷ gs) φ (Hole v) σ before τ a f h c q = absurd a
    chain_as (g ∷ gs) φ (Open m v u) σ before τ a f h c q = absurd a
    chain_as (g ∷ gs) φ (Level d t) σ before τ a f h c q = absurd a
    chain_as (g ∷ gs) φ (Built b ts) σ before τ a f h c q = absurd a

  -- nothing has taken a type before arguments are matched
  pub none_taken : (lo : ℕ) (gs : List Given) (t : Size) (σ : Found) → Taking σ → Taking (last_found lo gs t σ)
  none_taken lo [] t σ k = k
  none_taken lo (g ∷ gs) (Fun l p r) σ k = none_taken lo gs r (after lo gs g σ l) k
  none_taken lo (g ∷ gs) (Hole v) σ k = k
  none_taken lo (g ∷ gs) (Open m v u) σ k = k
  none_taken lo (g ∷ gs) (Level d t) σ k = k
  none_taken lo (g ∷ gs) (Built c ts) σ k = k

  pub still_nice : (v w : Variable) (x : Size) (σ : Found) → Nice w x → still_open n v x σ ≡ σ
  unfolding Data
  still_nice v w (Hole y) σ h = refl
  still_nice v w (Open m y u) σ h = absurd h.is_data
  still_nice v w (Level d t) σ h = refl
  still_nice v w (Built k ts) σ h = refl
  still_nice v w (Fun k p r) σ h = absurd h.is_data
