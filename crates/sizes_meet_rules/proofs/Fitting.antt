-- A lambda that is matched with the function type that a primitive wants: of scalars and of variables, which data has taken but for
-- the one of the result. Then it has the wanted type, in which no size of a frame stands.
use Rattle.std.proofs.Common.{◌≡◌, ◌⊎◌, ℕ, zero, suc, ◌+◌, ◌-◌, ◌<◌, ◌≤◌, Bool, true, false, ◌||◌, ◌&&◌, cond, Ok, Err, refl, sym, ap, ◌∙◌, subst, arith, inl, inr, le-ltb}
use Rattle.std.specs.Prelude.{nat_eq, min}
use Rattle.fut_scalar.specs.declared.scalar.ScalarType.{ScalarType}
use Rattle.fut_types.specs.declared.Head.TheVariants as head
use Rattle.fut_types.specs.declared.Kind.{Kind}
use Rattle.fut_types.specs.Types.{Ty, Made, more, none, fun_ty, Sub, Kinds, HasKind, rank, least, level}
use Rattle.sized_types.specs.Sizes.{Free, Unknown, Slot, Dim, At, Bound, Variable, is_variable, Size, Hole, Open, Level, Built, Fun, Sizes, no_size, size_and, erased, all_erased, is_free, replaced, all_replaced, renaming, renamed, has, some_has}
use Rattle.sized_types.specs.Standing.{has_hole, some_hole}
use Rattle.fut_sizes.specs.Agreeing.{Answer, Mismatch, Irregular}
use Rattle.fut_sizes.specs.Applications.{is_arrow}
use Rattle.fut_sizes.specs.Functions.{is_slot}
use Rattle.fut_sizes.specs.Matching.{Found, type_found, counted, found_size, found_dim, read, all_read, Opened, inside, lifted, dim_in, in_opened, Way, turned, to_result, is_unknown, meet_size, meet_dim, meet_dims, any_size, with_any_sizes, open_takes, meet_variable, past_frame, found_frame, left_frame, right_frame, frame_numbers, is_irregular, compared, all_compared, meet, all_meet}
use Rattle.fut_sizes.specs.Rules.{Each_hole, filled as with_types, all_filled as all_with_types}
use Rattle.fut_sizes.specs.Scopes.{instance, instances}
use Rattle.fut_sizes.specs.Suiting.{Each, Each_all, Scoped, Of_positions, Data, All_data}
use Rattle.sizes_meet_rules.specs.Known.{Is_made, Formed, All_formed}
use Rattle.sizes_meet_rules.specs.Plain.{Flat_type, Flat_function}
use Rattle.sizes_meet_rules.proofs.Applying.{Function_size, function_is, read_settled}
use Rattle.sizes_meet_rules.proofs.Chains.{Alone, alone_scoped, alone_at, alone_replaced}
use Rattle.sizes_meet_rules.proofs.Filling.{function_holes, Is_inferred, Nice, Taken_at, Taking, Stays, stays_taken, Agrees, agrees_before, other_variable, typed_taking, now_taken, nothing_filled}
use Rattle.sizes_meet_rules.proofs.Flat_types.{flat, flats, flat_is, flat_each, flat_data}
use Rattle.sizes_meet_rules.proofs.Forming.{data_of}
use Rattle.sizes_meet_rules.proofs.Meeting.{Then_ok, then_ok, same_ok, refused_ok}
use Rattle.sizes_meet_rules.proofs.Reading.{found_settled}
use Rattle.sizes_meet_rules.proofs.Replacing.{each_as, free_same, hole_as}
use Rattle.sizes_meet_rules.proofs.Settling.{Is_settled, Any_variable}
use Rattle.sizes_meet_rules.proofs.Taking.{head_same, parts_same, variable_same, not_variable, no_variable_array}

-- ---- what is wanted, as computing tells it

-- a variable of these, or a scalar
unfoldable pub is_simple : (Variable → Bool) → Size → Bool
is_simple q (Hole v) = q v
is_simple q (Built (head.Scalar s) no_size) = true
is_simple q t = false

-- from an arrow on: parameters of these variables, and a result of those
unfoldable pub is_wanted : (Variable → Bool) → (Variable → Bool) → Size → Bool
is_wanted q e (Fun zero p r) = is_simple q p && is_wanted q e r
is_wanted q e t = is_simple e t

-- a function that chooses no sizes, and whose parameters are data of these
abbrev pub Plain_arrows : (Free → Type 0) → Size → Type 0
Plain_arrows P (Fun zero q r) = (Data q × Each (Alone P) 0 q) × Plain_arrows P r
Plain_arrows P (Fun (suc k) q r) = ⊥
Plain_arrows P t = Unit {0}

both_true : (a b : Bool) → a && b ≡ true → (a ≡ true) × (b ≡ true)
both_true true b e = (refl, e)
both_true false b e = absurd (let z : false ≡ true = e in cc)

neither : (a b : Bool) → cond a true b ≡ false → (a ≡ false) × (b ≡ false)
neither true b e = absurd (let z : true ≡ false = e in cc)
neither false b e = (refl, e)

-- a function's way, in its result or not
abbrev pub wanted_way : Bool → Bool → Way
wanted_way result regular = record { left_wanted = true; in_result = result; regular = regular }

-- ---- no size of a frame stands in what has no unknown

module _ (P : Free → Type 0) (settled : (d : Free) → P d → is_slot d ≡ false) (σ : Found) (χ : Opened) (i : ℕ) (unknown : (k m : ℕ) → k < i → (a : ℕ) × ((b : ℕ) × (χ k m ≡ At (Unknown a b)))) where
  unknown_in : (k m : ℕ) → k < i → is_unknown (found_dim σ 0 (dim_in χ 0 (Bound k m))) ≡ true
  unknown_in k m l =
      let w = unknown k m l in
      ap (λ b. is_unknown (found_dim σ 0 (cond b (Bound k m) (lifted 0 (χ (k - 0) m))))) (le-ltb k 0 (omega arith))
      ∙ ap (λ c. is_unknown (found_dim σ 0 (lifted 0 (χ c m)))) (let z : k - 0 ≡ k = omega arith in z)
      ∙ ap (λ d. is_unknown (found_dim σ 0 (lifted 0 d))) w.1.1

  mutual
    unfolding has some_has read all_read replaced all_replaced Each Each_all Data All_data

    no_frame : (t : Size) → Data t → Each (Scoped P) i t → has is_unknown (read σ (in_opened χ t)) ≡ false → Each (Alone P) 0 t
    no_frame (Hole v) d h e = tt
    no_frame (Open n v u) d h e = tt
    no_frame (Level (At x) t) d h e = let w = neither (is_unknown (At (found_size σ x))) (has is_unknown (read σ (in_opened χ t))) e in (h.0, no_frame t d h.1 w.1)
    no_frame (Level (Bound k m) t) d h e = absurd (let w = neither (is_unknown (found_dim σ 0 (dim_in χ 0 (Bound k m)))) (has is_unknown (read σ (in_opened χ t))) e in let z : true ≡ false = sym (unknown_in k m h.0) ∙ w.0 in cc)
    no_frame (Built k ts) d h e = all_no_frame ts d h e
    no_frame (Fun k p r) d h e = absurd d

    all_no_frame : (ts : Sizes) → All_data ts → Each_all (Scoped P) i ts → some_has is_unknown (all_read σ (all_replaced (dim_in χ) 0 ts)) ≡ false → Each_all (Alone P) 0 ts
    all_no_frame no_size d h e = tt
    all_no_frame (size_and t ts) d h e = let w = neither (has is_unknown (read σ (in_opened χ t))) (some_has is_unknown (all_read σ (all_replaced (dim_in χ) 0 ts))) e in (no_frame t d.0 h.0 w.0, all_no_frame ts d.1 h.1 w.1)

alone_as : (P Q : Free → Type 0) → ((d : Free) → P d → Q d) → (j : ℕ) (d : Dim) → Alone P j d → Alone Q j d
alone_as P Q w j (At x) h = w x h
alone_as P Q w j (Bound k m) h = absurd h

pub each_alone : (P Q : Free → Type 0) → ((d : Free) → P d → Q d) → (t : Size) (j : ℕ) → Each (Alone P) j t → Each (Alone Q) j t
each_alone P Q w t j h = each_as (Alone P) (Alone Q) (alone_as P Q w) t j h

-- outside of functions data has none
mutual
  unfolding Each Each_all Data All_data

  pub data_alone : (P : Free → Type 0) (t : Size) → Data t → Each (Scoped P) 0 t → Each (Alone P) 0 t
  data_alone P (Hole v) d h = tt
  data_alone P (Open m v u) d h = absurd d
  data_alone P (Level (At x) t) d h = (h.0, data_alone P t d h.1)
  data_alone P (Level (Bound k m) t) d h = absurd (let l = h.0 in omega (arith, l))
  data_alone P (Built k ts) d h = all_data_alone P ts d h
  data_alone P (Fun k p r) d h = absurd d

  all_data_alone : (P : Free → Type 0) (ts : Sizes) → All_data ts → Each_all (Scoped P) 0 ts → Each_all (Alone P) 0 ts
  all_data_alone P no_size d h = tt
  all_data_alone P (size_and t ts) d h = (data_alone P t d.0 h.0, all_data_alone P ts d.1 h.1)

-- what is settled is not renamed
module _ (σ : Found) where
  mutual
    unfolding replaced all_replaced Each Each_all

    settled_renamed : (t : Size) (i j : ℕ) → Each (Alone Is_settled) i t → replaced (renaming (found_size σ)) j t ≡ t
    settled_renamed (Hole v) i j h = refl
    settled_renamed (Open m v u) i j h = refl
    settled_renamed (Level (At x) t) i j h = ap (λ e. Level (At e) (replaced (renaming (found_size σ)) j t)) (found_settled σ x h.0) ∙ ap (Level (At x)) (settled_renamed t i j h.1)
    settled_renamed (Level (Bound k m) t) i j h = absurd h.0
    settled_renamed (Built k ts) i j h = ap (Built k) (all_settled_renamed ts i j h)
    settled_renamed (Fun k p r) i j h = ap (λ x. Fun k x (replaced (renaming (found_size σ)) (suc j) r)) (settled_renamed p (suc i) (suc j) h.0) ∙ ap (Fun k p) (settled_renamed r (suc i) (suc j) h.1)

    all_settled_renamed : (ts : Sizes) (i j : ℕ) → Each_all (Alone Is_settled) i ts → all_replaced (renaming (found_size σ)) j ts ≡ ts
    all_settled_renamed no_size i j h = refl
    all_settled_renamed (size_and t ts) i j h = ap (λ x. size_and x (all_replaced (renaming (found_size σ)) j ts)) (settled_renamed t i j h.0) ∙ ap (size_and t) (all_settled_renamed ts i j h.1)

-- ---- data without sizes of frames is matched with what is the same

settled_dims : (w : Way) (at : ℕ) (σ τ : Found) (d e : Free) → is_slot d ≡ false → is_slot e ≡ false → meet_dims w at (At d) (At e) σ ≡ Ok τ → (d ≡ e) × (τ ≡ σ)
settled_dims w at σ τ d e a b q = by_way w.left_wanted q
  where
    two : (d e : Free) → is_slot d ≡ false → is_slot e ≡ false → meet_size w at d e σ ≡ cond (is_free d e) (Ok σ) (Err (Mismatch at (At d) (At e)))
    two (Slot m) e a b = absurd (let z : true ≡ false = a in cc)
    two d (Slot m) a b = absurd (let z : true ≡ false = b in cc)
    two d e a b = refl

    by_same : (d e : Free) (c : Bool) → is_free d e ≡ c → ◌≡◌ {A = Answer Found} (cond c (Ok σ) (Err (Mismatch at (At d) (At e)))) (Ok τ) → (d ≡ e) × (τ ≡ σ)
    by_same d e true f z = (free_same d e f, sym (same_ok z))
    by_same d e false f z = refused_ok z

    one : (d e : Free) → is_slot d ≡ false → is_slot e ≡ false → meet_dim w at (At d) (At e) σ ≡ Ok τ → (d ≡ e) × (τ ≡ σ)
    one d e a b q = by_same d e (is_free d e) refl (sym (ap (λ (x : Free). meet_size w at x (found_size σ e) σ) (found_settled σ d a) ∙ ap (λ (x : Free). meet_size w at d x σ) (found_settled σ e b) ∙ two d e a b) ∙ q)

    by_way : (c : Bool) → cond c (meet_dim w at (At d) (At e) σ) (meet_dim w at (At e) (At d) σ) ≡ Ok τ → (d ≡ e) × (τ ≡ σ)
    by_way true q = one d e a b q
    by_way false q = let r = one e d b a q in (sym r.0, r.1)

module _ (lo at : ℕ) (w : Way) (φ χ : Opened) where
  mutual
    unfolding meet all_meet Each Each_all Data All_data Formed All_formed erased all_erased

    pub same_met : (x t : Size) (σ τ : Found) → Data x → Data t → Formed x → Formed t → Each (Alone Is_settled) 0 x → Each (Alone Is_settled) 0 t → erased x ≡ erased t → meet lo w at φ x χ t σ ≡ Ok τ → (x ≡ t) × (τ ≡ σ)
    same_met (Open n v u) t σ τ dx dt fx ft sx st z q = absurd dx
    same_met (Fun k p r) t σ τ dx dt fx ft sx st z q = absurd dx
    same_met x (Open n v u) σ τ dx dt fx ft sx st z q = absurd dt
    same_met x (Fun k p r) σ τ dx dt fx ft sx st z q = absurd dt
    same_met (Hole v) (Hole y) σ τ dx dt fx ft sx st z q = (ap Hole (variable_same v y z), sym (same_ok q))
    same_met (Hole v) (Level e t) σ τ dx dt fx ft sx st z q = absurd (no_variable_array v (more (erased t) none) z)
    same_met (Hole v) (Built g ts) σ τ dx dt fx ft sx st z q = absurd (not_variable v g (all_erased ts) ft.0 z)
    same_met (Level d x) (Hole y) σ τ dx dt fx ft sx st z q = absurd (no_variable_array y (more (erased x) none) (sym z))
    same_met (Level d x) (Built g ts) σ τ dx dt fx ft sx st z q = absurd (subst Is_made (sym (head_same z)) ft.0)
    same_met (Level (Bound k i) x) (Level e t) σ τ dx dt fx ft sx st z q = absurd sx.0
    same_met (Level (At d) x) (Level (Bound k i) t) σ τ dx dt fx ft sx st z q = absurd st.0
    same_met (Level (At d) x) (Level (At e) t) σ τ dx dt fx ft sx st z q =
        let r = then_ok (meet_dims w at (At d) (At e) σ) q in
        let a = settled_dims w at σ r.first d e sx.0 st.0 r.done in
        let b = same_met x t r.first τ dx dt fx ft sx.1 st.1 (let y : Made head.Array (more (erased x) none) ≡ Made head.Array (more (erased t) none) = z in cc) r.rest in
        (ap (λ f. Level (At f) x) a.0 ∙ ap (Level (At e)) b.0, b.1 ∙ a.1)
    same_met (Built h xs) (Hole y) σ τ dx dt fx ft sx st z q = absurd (not_variable y h (all_erased xs) fx.0 (sym z))
    same_met (Built h xs) (Level e t) σ τ dx dt fx ft sx st z q = absurd (subst Is_made (head_same z) fx.0)
    same_met (Built h xs) (Built g ts) σ τ dx dt fx ft sx st z q = let b = all_same_met xs ts σ τ dx dt fx.1 ft.1 sx st (parts_same z) q in (ap (λ f. Built f xs) (head_same z) ∙ ap (Built g) b.0, b.1)

    all_same_met : (xs ts : Sizes) (σ τ : Found) → All_data xs → All_data ts → All_formed xs → All_formed ts → Each_all (Alone Is_settled) 0 xs → Each_all (Alone Is_settled) 0 ts → all_erased xs ≡ all_erased ts → all_meet lo w at φ xs χ ts σ ≡ Ok τ → (xs ≡ ts) × (τ ≡ σ)
    all_same_met no_size no_size σ τ dx dt fx ft sx st z q = (refl, sym (same_ok q))
    all_same_met no_size (size_and t ts) σ τ dx dt fx ft sx st z q = absurd (let y : none ≡ more (erased t) (all_erased ts) = z in cc)
    all_same_met (size_and x xs) no_size σ τ dx dt fx ft sx st z q = absurd (let y : more (erased x) (all_erased xs) ≡ none = z in cc)
    all_same_met (size_and x xs) (size_and t ts) σ τ dx dt fx ft sx st z q =
        let y : more (erased x) (all_erased xs) ≡ more (erased t) (all_erased ts) = z in
        let r = then_ok (meet lo w at φ x χ t σ) q in
        let a = same_met x t σ r.first dx.0 dt.0 fx.0 ft.0 sx.0 st.0 (let w : erased x ≡ erased t = cc in w) r.done in
        let b = all_same_met xs ts r.first τ dx.1 dt.1 fx.1 ft.1 sx.1 st.1 (let w : all_erased xs ≡ all_erased ts = cc in w) r.rest in
        (ap (λ f. size_and f xs) a.0 ∙ ap (size_and t) b.0, b.1 ∙ a.1)

module _ (at : ℕ) (w : Way) where
  mutual
    unfolding compared all_compared Each Each_all Data All_data Formed All_formed erased all_erased

    same_compared : (x t : Size) (σ τ : Found) → Data x → Data t → Formed x → Formed t → Each (Alone Is_settled) 0 x → Each (Alone Is_settled) 0 t → erased x ≡ erased t → compared w at x t σ ≡ Ok τ → (x ≡ t) × (τ ≡ σ)
    same_compared (Open n v u) t σ τ dx dt fx ft sx st z q = absurd dx
    same_compared (Fun k p r) t σ τ dx dt fx ft sx st z q = absurd dx
    same_compared x (Open n v u) σ τ dx dt fx ft sx st z q = absurd dt
    same_compared x (Fun k p r) σ τ dx dt fx ft sx st z q = absurd dt
    same_compared (Hole v) (Hole y) σ τ dx dt fx ft sx st z q = (ap Hole (variable_same v y z), sym (same_ok q))
    same_compared (Hole v) (Level e t) σ τ dx dt fx ft sx st z q = absurd (no_variable_array v (more (erased t) none) z)
    same_compared (Hole v) (Built g ts) σ τ dx dt fx ft sx st z q = absurd (not_variable v g (all_erased ts) ft.0 z)
    same_compared (Level d x) (Hole y) σ τ dx dt fx ft sx st z q = absurd (no_variable_array y (more (erased x) none) (sym z))
    same_compared (Level d x) (Built g ts) σ τ dx dt fx ft sx st z q = absurd (subst Is_made (sym (head_same z)) ft.0)
    same_compared (Level (Bound k i) x) (Level e t) σ τ dx dt fx ft sx st z q = absurd sx.0
    same_compared (Level (At d) x) (Level (Bound k i) t) σ τ dx dt fx ft sx st z q = absurd st.0
    same_compared (Level (At d) x) (Level (At e) t) σ τ dx dt fx ft sx st z q =
        let r = then_ok (meet_dims w at (At d) (At e) σ) q in
        let a = settled_dims w at σ r.first d e sx.0 st.0 r.done in
        let b = same_compared x t r.first τ dx dt fx ft sx.1 st.1 (let y : Made head.Array (more (erased x) none) ≡ Made head.Array (more (erased t) none) = z in cc) r.rest in
        (ap (λ f. Level (At f) x) a.0 ∙ ap (Level (At e)) b.0, b.1 ∙ a.1)
    same_compared (Built h xs) (Hole y) σ τ dx dt fx ft sx st z q = absurd (not_variable y h (all_erased xs) fx.0 (sym z))
    same_compared (Built h xs) (Level e t) σ τ dx dt fx ft sx st z q = absurd (subst Is_made (head_same z) fx.0)
    same_compared (Built h xs) (Built g ts) σ τ dx dt fx ft sx st z q = let b = all_same_compared xs ts σ τ dx dt fx.1 ft.1 sx st (parts_same z) q in (ap (λ f. Built f xs) (head_same z) ∙ ap (Built g) b.0, b.1)

    all_same_compared : (xs ts : Sizes) (σ τ : Found) → All_data xs → All_data ts → All_formed xs → All_formed ts → Each_all (Alone Is_settled) 0 xs → Each_all (Alone Is_settled) 0 ts → all_erased xs ≡ all_erased ts → all_compared w at xs ts σ ≡ Ok τ → (xs ≡ ts) × (τ ≡ σ)
    all_same_compared no_size no_size σ τ dx dt fx ft sx st z q = (refl, sym (same_ok q))
    all_same_compared no_size (size_and t ts) σ τ dx dt fx ft sx st z q = absurd (let y : none ≡ more (erased t) (all_erased ts) = z in cc)
    all_same_compared (size_and x xs) no_size σ τ dx dt fx ft sx st z q = absurd (let y : more (erased x) (all_erased xs) ≡ none = z in cc)
    all_same_compared (size_and x xs) (size_and t ts) σ τ dx dt fx ft sx st z q =
        let y : more (erased x) (all_erased xs) ≡ more (erased t) (all_erased ts) = z in
        let r = then_ok (compared w at x t σ) q in
        let a = same_compared x t σ r.first dx.0 dt.0 fx.0 ft.0 sx.0 st.0 (let w : erased x ≡ erased t = cc in w) r.done in
        let b = all_same_compared xs ts r.first τ dx.1 dt.1 fx.1 ft.1 sx.1 st.1 (let w : all_erased xs ≡ all_erased ts = cc in w) r.rest in
        (ap (λ f. size_and f xs) a.0 ∙ ap (size_and t) b.0, b.1 ∙ a.1)

-- what a variable has taken is compared
pub taken_compared : (b : Bool) (w : Way) (at : ℕ) (x t : Size) (σ : Found) → Data x → meet_variable b w at x t σ ≡ compared (record { left_wanted = b; in_result = w.in_result; regular = w.regular }) at x t σ
unfolding Data
taken_compared b w at (Hole v) t σ d = refl
taken_compared b w at (Open n v u) t σ d = absurd d
taken_compared b w at (Level e x) t σ d = refl
taken_compared b w at (Built h xs) t σ d = refl
taken_compared b w at (Fun k p r) t σ d = absurd d

module _ (types : Sub) (home : ℕ → ℕ) (K : Kinds) (places : Kind) (data_places : 1 ≤ level places) where
  no_data_function : (a b : Ty) → HasKind K places (fun_ty a b) → ⊥
  unfolding rank least
  no_data_function a b h = let z : level places ≤ min 0 (min (rank K a) (min (rank K b) 4)) = h in omega (arith, z, data_places)

  pub plain_arrows : (P : Free → Type 0) (t : Size) → Formed t → HasKind K places (erased t) ⊎ Flat_function types home K places (erased t) → Plain_arrows P t
  unfolding Formed erased
  plain_arrows P (Hole v) f o = tt
  plain_arrows P (Open m v u) f o = tt
  plain_arrows P (Level d t) f o = tt
  plain_arrows P (Built h ts) f o = tt
  plain_arrows P (Fun zero p r) f (inl h) = absurd (no_data_function (erased p) (erased r) h)
  plain_arrows P (Fun zero p r) f (inr h) = let z = flat_is p f.0 h.0 in ((subst Data (sym z) (flat_data (erased p)), subst (Each (Alone P) 0) (sym z) (flat_each (Alone P) 0 (erased p))), plain_arrows P r f.1 h.1)
  plain_arrows P (Fun (suc k) p r) f (inl h) = no_data_function (erased p) (erased r) h
  plain_arrows P (Fun (suc k) p r) f (inr h) = f.4 0 (omega arith) (subst (Each (Of_positions (λ m. m ≡ 0 → ⊥)) 1) (sym (flat_is p f.0 h.0)) (flat_each (Of_positions (λ m. m ≡ 0 → ⊥)) 1 (erased p)))

-- ---- a lambda is matched

-- what is known of the lambda, inside so many functions
pub record Lambda_says (P : Free → Type 0) (Vars : Variable → Type 0) (i : ℕ) (t : Size) : Type 0 where
  pub formed : Formed t
  pub sizes : Each (Scoped P) i t
  pub variables : Each_hole Vars t
  pub arrows : Plain_arrows P t

module _ (n : ℕ) (types : Variable → Ty) (P : Free → Type 0) (settled : (d : Free) → P d → is_slot d ≡ false) (Vars : Variable → Type 0) (K : Kinds) where
  abbrev Nice_here : Variable → Size → Type 0
  Nice_here v t = Nice n types P settled Vars v t

  abbrev pub Taken_here : Found → Variable → Type 0
  Taken_here σ v = Taken_at n types P settled Vars σ v

  -- it has the type that is wanted
  pub record Function_met (σ τ : Found) (p t : Size) : Type 0 where
    pub taking : Taking n types P settled Vars τ
    pub stays : Stays n types P settled Vars σ τ
    pub size : τ.size ≡ σ.size
    pub later : σ.next ≤ τ.next
    pub maker : τ.maker ≡ σ.maker
    pub here : (v : Variable) → function_holes p v ≡ true → Taken_here τ v
    pub is : (Θ : Variable → Size) → Agrees n types P settled Vars Θ τ → with_types Θ p ≡ t
    pub alone : Each (Alone P) 0 t

  -- the result: a variable
  module _ (lo at : ℕ) (w : Way) (wanted : w.left_wanted ≡ true) (φ χ : Opened) (v : Variable) (inferred : Is_inferred v) (data_kind : 1 ≤ rank K (types v)) (t : Size) (i : ℕ) (says : Lambda_says P Vars i t) (typed : erased t ≡ types v) (σ τ : Found) (taking : Taking n types P settled Vars σ) (alone : Data t → Each (Alone P) 0 t) where
    is_data : Data t
    is_data = data_of K t says.formed (subst (λ u. 1 ≤ rank K u) (sym typed) data_kind)

    abbrev alone_here : Each (Alone P) 0 t
    alone_here = alone is_data

    it_settled : Each (Alone Is_settled) 0 t
    it_settled = each_alone P Is_settled settled t 0 alone_here

    nice : Nice_here v t
    nice = record { is_data = is_data; formed = says.formed; sizes = alone_scoped P t 0 alone_here; variables = says.variables; typed = typed }

    it_read : read σ (in_opened χ t) ≡ t
    it_read = ap (read σ) (alone_replaced P (dim_in χ) (λ j x. refl) t 0 0 alone_here) ∙ read_settled σ t 0 (alone_scoped Is_settled t 0 it_settled) (hole_as Vars Any_variable (λ x k. tt) t says.variables)

    no_such : (b c : Bool) (x y : Answer Found) → c ≡ false → cond (true && (b && c)) x y ≡ y
    no_such true c x y e = ap (λ k. cond k x y) e
    no_such false c x y e = refl

    takes_it : (x : Size) → Data x → has is_unknown x ≡ false → open_takes true w at n v x σ ≡ Ok (type_found n v (with_any_sizes σ x) σ)
    unfolding Data
    takes_it (Hole y) d e = no_such w.in_result (has is_unknown (Hole y)) _ _ e
    takes_it (Open m y u) d e = absurd d
    takes_it (Level l x) d e = no_such w.in_result (has is_unknown (Level l x)) _ _ e
    takes_it (Built k xs) d e = no_such w.in_result (has is_unknown (Built k xs)) _ _ e
    takes_it (Fun k p r) d e = absurd d

    any_sizes : with_any_sizes σ t ≡ t
    any_sizes = ap (renamed (found_size σ)) (alone_replaced P any_size (λ j x. refl) t 0 0 alone_here) ∙ settled_renamed σ t 0 0 it_settled

    of_variable : (x : Variable) → is_variable x v ≡ true → x ≡ v
    of_variable x e = sym (other_variable n types P settled Vars v x inferred e)

    result_open : σ.type n v (types v) ≡ Open n v (types v) → has is_unknown t ≡ false → meet lo w at φ (Open n v (types v)) χ t σ ≡ Ok τ → Function_met σ τ (Hole v) t
    unfolding meet has_hole function_holes with_types
    result_open z known q = subst (λ (x : Found). Function_met σ x (Hole v) t) (same_ok (sym now ∙ q)) (record {
      taking = typed_taking n types P settled Vars v t σ inferred nice taking;
      stays = λ x y. nothing_filled n v t (σ.type n x (types x)) y.is_data;
      size = refl;
      later = omega arith;
      maker = refl;
      here = λ x e. subst (Taken_here (type_found n v t σ)) (sym (of_variable x e)) taken;
      is = λ Θ a. sym (a v taken) ∙ now_taken n types P settled Vars v t σ z;
      alone = alone_here;
    })
      where
        taken : Taken_here (type_found n v t σ) v
        taken = subst (Nice_here v) (sym (now_taken n types P settled Vars v t σ z)) nice

        now : meet lo w at φ (Open n v (types v)) χ t σ ≡ Ok (type_found n v t σ)
        now = ap (λ b. meet_variable b w at (σ.type n v (types v)) (read σ (in_opened χ t)) σ) wanted
            ∙ ap (λ x. meet_variable true w at x (read σ (in_opened χ t)) σ) z
            ∙ ap (λ x. open_takes true w at n v x σ) it_read
            ∙ takes_it t is_data known ∙ ap (λ x. Ok (type_found n v x σ)) any_sizes

    result_taken : Taken_here σ v → meet lo w at φ (σ.type n v (types v)) χ t σ ≡ Ok τ → Function_met σ τ (Hole v) t
    unfolding has_hole function_holes with_types
    result_taken h q =
        let x = same_met lo at w φ χ (σ.type n v (types v)) t σ τ h.is_data is_data h.formed says.formed (each_alone P Is_settled settled (σ.type n v (types v)) 0 (data_alone P (σ.type n v (types v)) h.is_data h.sizes)) it_settled (h.typed ∙ sym typed) q in
        subst (λ (y : Found). Function_met σ y (Hole v) t) (sym x.1) (record {
          taking = taking;
          stays = λ x y. refl;
          size = refl;
          later = omega arith;
          maker = refl;
          here = λ y e. subst (Taken_here σ) (sym (of_variable y e)) h;
          is = λ Θ a. sym (a v h) ∙ x.0;
          alone = alone_here;
        })

  -- a parameter or a scalar result
  pub record Simple_value (σ : Found) (p x : Size) : Type 0 where
    pub is_data : Data x
    pub formed : Formed x
    pub alone : Each (Alone P) 0 x
    pub typed : erased x ≡ erased (instance n types p)
    pub is : (Θ : Variable → Size) → Agrees n types P settled Vars Θ σ → with_types Θ p ≡ x
    pub here : (v : Variable) → has_hole p v ≡ true → Taken_here σ v

  pub simple_value : (q : Variable → Bool) (g : ℕ → Dim → Dim) (j : ℕ) (p : Size) (before σ : Found) → is_simple q p ≡ true → Each_hole Is_inferred p → before.type ≡ σ.type → ((v : Variable) → q v ≡ true → Taken_here σ v) → Simple_value σ p (read before (replaced g j (instance n types p)))
  unfolding is_simple Each_hole Each Each_all Data All_data read all_read replaced all_replaced instance instances with_types all_with_types has_hole some_hole Formed All_formed erased all_erased
  simple_value q g j (Hole v) before σ e i same taken =
      let h = taken v e in
      subst (λ x. Simple_value σ (Hole v) x) (sym (ap (λ (f : ℕ → Variable → Ty → Size). f n v (types v)) same)) (record { is_data = h.is_data; formed = h.formed; alone = data_alone P (σ.type n v (types v)) h.is_data h.sizes; typed = h.typed; is = λ Θ a. sym (a v h); here = λ y z. subst (Taken_here σ) (other_variable n types P settled Vars v y i z) h })
  simple_value q g j (Built (head.Scalar s) no_size) before σ e i same taken = record { is_data = tt; formed = (tt, tt); alone = tt; typed = refl; is = λ Θ a. refl; here = λ y z. absurd (let w : false ≡ true = z in cc) }
  simple_value q g j (Built (head.Scalar s) (size_and t ts)) before σ e i same taken = absurd (let w : false ≡ true = e in cc)
  simple_value q g j (Built head.Array ts) before σ e i same taken = absurd (let w : false ≡ true = e in cc)
  simple_value q g j (Built head.Tuple ts) before σ e i same taken = absurd (let w : false ≡ true = e in cc)
  simple_value q g j (Built (head.Record m) ts) before σ e i same taken = absurd (let w : false ≡ true = e in cc)
  simple_value q g j (Built head.Fun ts) before σ e i same taken = absurd (let w : false ≡ true = e in cc)
  simple_value q g j (Built (head.Rigid m k) ts) before σ e i same taken = absurd (let w : false ≡ true = e in cc)
  simple_value q g j (Built (head.Abstract m k) ts) before σ e i same taken = absurd (let w : false ≡ true = e in cc)
  simple_value q g j (Open m v u) before σ e i same taken = absurd i
  simple_value q g j (Level d t) before σ e i same taken = absurd (let w : false ≡ true = e in cc)
  simple_value q g j (Fun k x r) before σ e i same taken = absurd (let w : false ≡ true = e in cc)

  -- a lambda of no data
  abbrev pub Unknown_frames : Opened → ℕ → Type 0
  Unknown_frames χ i = (k m : ℕ) → k < i → (a : ℕ) × ((b : ℕ) × (χ k m ≡ At (Unknown a b)))

  found_unknown : (lo next argument : ℕ) (χ : Opened) (i : ℕ) → Unknown_frames χ i → Unknown_frames (inside (found_frame lo next argument 0) χ) (suc i)
  unfolding inside
  found_unknown lo next argument χ i h zero m l = (lo, (cond (nat_eq m 0) argument (next + m), ap (λ b. cond b (At (Slot (next + m))) (At (Unknown lo (cond (nat_eq m 0) argument (next + m))))) (le-ltb m 0 (omega arith))))
  found_unknown lo next argument χ i h (suc k) m l = h k m (omega (arith, l))

  -- the rest of a function behind its parameters
  abbrev pub No_unknown : Bool → Found → Opened → Size → Type 0
  No_unknown regular σ χ t = regular ≡ true → has is_unknown (read σ (in_opened χ t)) ≡ false

  scalar_met : (lo at : ℕ) (w : Way) (φ χ : Opened) (s : ScalarType) (t : Size) (i : ℕ) (σ τ : Found) → Taking n types P settled Vars σ → Lambda_says P Vars i t → erased t ≡ Made (head.Scalar s) none → meet lo w at φ (Built (head.Scalar s) no_size) χ t σ ≡ Ok τ → Function_met σ τ (Built (head.Scalar s) no_size) t
  unfolding meet all_meet has_hole some_hole function_holes with_types all_with_types erased all_erased Formed Each Each_all
  scalar_met lo at w φ χ s (Built h no_size) i σ τ k says typed q = subst (λ (x : Found). Function_met σ x (Built (head.Scalar s) no_size) (Built h no_size)) (same_ok q) (record { taking = k; stays = λ v y. refl; size = refl; later = omega arith; maker = refl; here = λ v e. absurd (let z : false ≡ true = e in cc); is = λ Θ a. ap (λ g. Built g no_size) (sym (head_same typed)); alone = tt })
  scalar_met lo at w φ χ s (Built h (size_and t ts)) i σ τ k says typed q = absurd (let z : more (erased t) (all_erased ts) ≡ none = parts_same typed in cc)
  scalar_met lo at w φ χ s (Hole v) i σ τ k says typed q = absurd (not_variable v (head.Scalar s) none tt typed)
  scalar_met lo at w φ χ s (Open m v u) i σ τ k says typed q = absurd says.formed
  scalar_met lo at w φ χ s (Level d t) i σ τ k says typed q = absurd (let z : Made head.Array (more (erased t) none) ≡ Made (head.Scalar s) none = typed in cc)
  scalar_met lo at w φ χ s (Fun l a b) i σ τ k says typed q = absurd (let z : fun_ty (erased a) (erased b) ≡ Made (head.Scalar s) none = typed in cc)

  -- a test that is not met
  pub irregular_ok : (regular : Bool) (b : Bool) (at : ℕ) (x : Answer Found) (τ : Found) → cond (regular && b) (Err (Irregular at)) x ≡ Ok τ → (regular ≡ true → b ≡ false) × (x ≡ Ok τ)
  irregular_ok true true at x τ q = refused_ok q
  irregular_ok true false at x τ q = ((λ e. refl), q)
  irregular_ok false b at x τ q = ((λ e. absurd (let z : false ≡ true = e in cc)), q)

  variable_met : (regular : Bool) (lo at : ℕ) (b : Bool) (φ χ : Opened) (i : ℕ) (v : Variable) (t : Size) (σ τ : Found) → regular ≡ true → Is_inferred v → 1 ≤ rank K (types v) → Lambda_says P Vars i t → erased t ≡ types v → Taking n types P settled Vars σ → Unknown_frames χ i → No_unknown regular σ χ t
      → meet lo (wanted_way b regular) at φ (σ.type n v (types v)) χ t σ ≡ Ok τ → Function_met σ τ (Hole v) t
  variable_met regular lo at b φ χ i v t σ τ e inferred kind says typed k frames none_there q = by_form (k v)
    where
      none_here : has is_unknown (read σ (in_opened χ t)) ≡ false
      none_here = none_there e

      alone : Data t → Each (Alone P) 0 t
      alone d = no_frame P settled σ χ i frames t d says.sizes none_here

      it_is : read σ (in_opened χ t) ≡ t
      it_is = it_read lo at (wanted_way b regular) refl φ χ v inferred kind t i says typed σ τ k alone

      by_form : (σ.type n v (types v) ≡ Open n v (types v)) ⊎ Taken_here σ v → Function_met σ τ (Hole v) t
      by_form (inl z) = result_open lo at (wanted_way b regular) refl φ χ v inferred kind t i says typed σ τ k alone z (ap (has is_unknown) (sym it_is) ∙ none_here) (ap (λ x. meet lo (wanted_way b regular) at φ x χ t σ) (sym z) ∙ q)
      by_form (inr h) = result_taken lo at (wanted_way b regular) refl φ χ v inferred kind t i says typed σ τ k alone h q

  -- what a function is matched with step by step
  module _ (q : Variable → Bool) (regular : Bool) (lo at : ℕ) where
    abbrev pub result_variables : Variable → Bool
    result_variables v = regular

    abbrev pub Met_as : Size → Type 0
    Met_as p = (b : Bool) (φ χ : Opened) (g : ℕ → Dim → Dim) (j i : ℕ) (t : Size) (before σ τ : Found) → is_wanted q result_variables p ≡ true → Each_hole Is_inferred p → Each_hole (λ v. 1 ≤ rank K (types v)) p → Lambda_says P Vars i t → erased t ≡ erased (instance n types p)
        → Taking n types P settled Vars σ → before.type ≡ σ.type → ((v : Variable) → q v ≡ true → Taken_here σ v) → Unknown_frames χ i → (is_arrow p ≡ false → No_unknown regular σ χ t) → meet lo (wanted_way b regular) at φ (read before (replaced g j (instance n types p))) χ t σ ≡ Ok τ → Function_met σ τ p t

    -- a parameter has the sized type that is wanted
    record Parameter_met (σ : Found) (p y x : Size) : Type 0 where
      value : Size
      is : (Θ : Variable → Size) → Agrees n types P settled Vars Θ σ → with_types Θ p ≡ value
      here : (v : Variable) → has_hole p v ≡ true → Taken_here σ v
      met : (w : Way) (φ χ : Opened) (m : ℕ) (τ : Found) → meet lo w at φ y χ x (counted m σ) ≡ Ok τ → (value ≡ x) × (τ ≡ counted m σ)

    -- and what is given is matched behind it
    arrow_with : (p r y z x s : Size) (b : Bool) (φ χ : Opened) (i : ℕ) (σ τ : Found) → Lambda_says P Vars i (Fun zero x s) → Parameter_met σ p y x → Unknown_frames χ i
        → ((φ' χ' : Opened) (m : ℕ) → Unknown_frames χ' (suc i) → No_unknown regular (counted m σ) χ' s → meet lo (wanted_way true regular) at φ' z χ' s (counted m σ) ≡ Ok τ → Function_met (counted m σ) τ r s)
        → meet lo (wanted_way b regular) at φ (Fun zero y z) χ (Fun zero x s) σ ≡ Ok τ → Function_met σ τ (Fun zero p r) (Fun zero x s)
    unfolding meet Formed Each Each_hole function_holes with_types
    arrow_with p r y z x s b φ χ i σ τ says V frames rest e = record {
      taking = R.taking;
      stays = λ v k. R.stays v k;
      size = R.size;
      later = let l = R.later in omega (arith, l);
      maker = R.maker;
      here = λ v k. by_place v (has_hole p v) refl k;
      is = λ Θ a. ap (λ k. Fun zero k (with_types Θ r)) (V.is Θ (agrees_before n types P settled Vars Θ σ τ R.stays a) ∙ matched.0) ∙ ap (Fun zero x) (R.is Θ a);
      alone = (alone_at P x 0 1 says.arrows.0.1, alone_at P s 0 1 R.alone);
    }
      where
        way : Way
        way = wanted_way b regular

        next : Found
        next = counted (frame_numbers zero zero z s) σ

        left : ℕ → Dim
        left = left_frame way lo σ.next zero zero s

        right : ℕ → Dim
        right = right_frame way lo σ.next zero zero z

        X : Then_ok (meet lo (turned way) at (inside left φ) y (inside right χ) x next) (λ found. cond (is_irregular way (read found (in_opened (inside left φ) z)) (read found (in_opened (inside right χ) s))) (Err (Irregular at)) (meet lo (to_result way) at (inside left φ) z (inside right χ) s found)) τ
        X = then_ok (meet lo (turned way) at (inside left φ) y (inside right χ) x next) e

        matched : (V.value ≡ x) × (X.first ≡ next)
        matched = V.met (turned way) (inside left φ) (inside right χ) (frame_numbers zero zero z s) X.first X.done

        tested : (regular ≡ true → has is_unknown (read next (in_opened (inside right χ) s)) ≡ false) × (meet lo (to_result way) at (inside left φ) z (inside right χ) s next ≡ Ok τ)
        tested = irregular_ok regular (has is_unknown (read next (in_opened (inside right χ) s))) at (meet lo (to_result way) at (inside left φ) z (inside right χ) s next) τ
            (ap (λ (found : Found). cond (is_irregular way (read found (in_opened (inside left φ) z)) (read found (in_opened (inside right χ) s))) (Err (Irregular at)) (meet lo (to_result way) at (inside left φ) z (inside right χ) s found)) (sym matched.1) ∙ X.rest)

        R : Function_met next τ r s
        R = rest (inside left φ) (inside right χ) (frame_numbers zero zero z s) (found_unknown lo (past_frame σ.next zero z) (σ.next + zero) χ i frames) tested.0 tested.1

        by_place : (v : Variable) (c : Bool) → has_hole p v ≡ c → c || function_holes r v ≡ true → Taken_here τ v
        by_place v true k l = stays_taken n types P settled Vars σ τ R.stays v (V.here v k)
        by_place v false k l = R.here v l

    arrow_met : (p r : Size) → Met_as r → (b : Bool) (φ χ : Opened) (g : ℕ → Dim → Dim) (j i : ℕ) (x s : Size) (before σ τ : Found) → is_simple q p ≡ true → is_wanted q result_variables r ≡ true → Each_hole Is_inferred p → Each_hole Is_inferred r → Each_hole (λ v. 1 ≤ rank K (types v)) r → Lambda_says P Vars i (Fun zero x s) → erased x ≡ erased (instance n types p) → erased s ≡ erased (instance n types r)
        → Taking n types P settled Vars σ → before.type ≡ σ.type → ((v : Variable) → q v ≡ true → Taken_here σ v) → Unknown_frames χ i → meet lo (wanted_way b regular) at φ (Fun zero (read before (replaced g (suc j) (instance n types p))) (read before (replaced g (suc j) (instance n types r)))) χ (Fun zero x s) σ ≡ Ok τ → Function_met σ τ (Fun zero p r) (Fun zero x s)
    unfolding Formed Each Each_hole
    arrow_met p r rest b φ χ g j i x s before σ τ sp wr ip ir kr says tx ts k same taken frames e = arrow_with p r (read before (replaced g (suc j) (instance n types p))) (read before (replaced g (suc j) (instance n types r))) x s b φ χ i σ τ says parameter frames
        (λ φ' χ' m fr none_there z. rest true φ' χ' g (suc j) (suc i) s before (counted m σ) τ wr ir kr (record { formed = says.formed.1; sizes = says.sizes.1; variables = says.variables.1; arrows = says.arrows.1 }) ts k same taken fr (λ y. none_there) z) e
      where
        V : Simple_value σ p (read before (replaced g (suc j) (instance n types p)))
        V = simple_value q g (suc j) p before σ sp ip same taken

        parameter : Parameter_met σ p (read before (replaced g (suc j) (instance n types p))) x
        parameter = record {
          value = read before (replaced g (suc j) (instance n types p));
          is = V.is;
          here = V.here;
          met = λ w φ' χ' m υ y. same_met lo at w φ' χ' (read before (replaced g (suc j) (instance n types p))) x (counted m σ) υ V.is_data says.arrows.0.0 V.formed says.formed.0
              (each_alone P Is_settled settled (read before (replaced g (suc j) (instance n types p))) 0 V.alone) (each_alone P Is_settled settled x 0 says.arrows.0.1) (V.typed ∙ sym tx) y;
        }

    pub met_as : (p : Size) → Met_as p
    unfolding is_wanted is_simple Each_hole read replaced instance erased all_erased
    met_as (Hole v) b φ χ g j i t before σ τ e inferred kinds says typed k same taken frames none_there z = variable_met regular lo at b φ χ i v t σ τ e inferred kinds says typed k frames (none_there refl) (ap (λ (f : ℕ → Variable → Ty → Size). meet lo (wanted_way b regular) at φ (f n v (types v)) χ t σ) (sym same) ∙ z)
    met_as (Fun zero p r) b φ χ g j i t before σ τ e inferred kinds says typed k same taken frames none_there z = by_function (met_as r) F.chosen F.from F.to F.is_function F.from_typed F.to_typed
      where
        F : Function_size t (erased (instance n types p)) (erased (instance n types r))
        F = function_is t (erased (instance n types p)) (erased (instance n types r)) says.formed typed

        w : (is_simple q p ≡ true) × (is_wanted q result_variables r ≡ true)
        w = both_true (is_simple q p) (is_wanted q result_variables r) e

        by_function : Met_as r → (l : ℕ) (x s : Size) → t ≡ Fun l x s → erased x ≡ erased (instance n types p) → erased s ≡ erased (instance n types r) → Function_met σ τ (Fun zero p r) t
        by_function rest zero x s f tx ts = subst (Function_met σ τ (Fun zero p r)) (sym f) (arrow_met p r rest b φ χ g j i x s before σ τ w.0 w.1 inferred.0 inferred.1 kinds.1 (subst (Lambda_says P Vars i) f says) tx ts k same taken frames (ap (λ y. meet lo (wanted_way b regular) at φ (Fun zero (read before (replaced g (suc j) (instance n types p))) (read before (replaced g (suc j) (instance n types r)))) χ y σ) (sym f) ∙ z))
        by_function rest (suc l) x s f tx ts = absurd (subst (Plain_arrows P) f says.arrows)
    met_as (Fun (suc l) p r) b φ χ g j i t before σ τ e inferred kinds says typed k same taken frames none_there z = absurd (let y : false ≡ true = e in cc)
    met_as (Built (head.Scalar s) no_size) b φ χ g j i t before σ τ e inferred kinds says typed k same taken frames none_there z = scalar_met lo at (wanted_way b regular) φ χ s t i σ τ k says typed z
    met_as (Built (head.Scalar s) (size_and y ts)) b φ χ g j i t before σ τ e inferred kinds says typed k same taken frames none_there z = absurd (let w : false ≡ true = e in cc)
    met_as (Built head.Array ts) b φ χ g j i t before σ τ e inferred kinds says typed k same taken frames none_there z = absurd (let w : false ≡ true = e in cc)
    met_as (Built head.Tuple ts) b φ χ g j i t before σ τ e inferred kinds says typed k same taken frames none_there z = absurd (let w : false ≡ true = e in cc)
    met_as (Built (head.Record m) ts) b φ χ g j i t before σ τ e inferred kinds says typed k same taken frames none_there z = absurd (let w : false ≡ true = e in cc)
    met_as (Built head.Fun ts) b φ χ g j i t before σ τ e inferred kinds says typed k same taken frames none_there z = absurd (let w : false ≡ true = e in cc)
    met_as (Built (head.Rigid m c) ts) b φ χ g j i t before σ τ e inferred kinds says typed k same taken frames none_there z = absurd (let w : false ≡ true = e in cc)
    met_as (Built (head.Abstract m c) ts) b φ χ g j i t before σ τ e inferred kinds says typed k same taken frames none_there z = absurd (let w : false ≡ true = e in cc)
    met_as (Open m v u) b φ χ g j i t before σ τ e inferred kinds says typed k same taken frames none_there z = absurd inferred
    met_as (Level d x) b φ χ g j i t before σ τ e inferred kinds says typed k same taken frames none_there z = absurd (let w : false ≡ true = e in cc)

    -- ---- the same of a function that is matched as it is wanted, not as that reads

    wanted_parameter : (p x : Size) (σ : Found) → is_simple q p ≡ true → Each_hole Is_inferred p → Formed x → Data x → Each (Alone P) 0 x → Each_hole Vars x → erased x ≡ erased (instance n types p) → ((v : Variable) → q v ≡ true → Taken_here σ v) → Parameter_met σ p (instance n types p) x
    unfolding is_simple Each_hole instance instances with_types all_with_types has_hole some_hole erased all_erased meet all_meet flat flats Flat_type
    wanted_parameter (Hole v) x σ e i fx dx ax vx tx taken = record {
      value = T;
      is = λ Θ a. sym (a v h);
      here = λ y z. subst (Taken_here σ) (other_variable n types P settled Vars v y i z) h;
      met = λ w φ χ m υ z. same_compared at (record { left_wanted = w.left_wanted; in_result = w.in_result; regular = w.regular }) T x (counted m σ) υ h.is_data dx h.formed fx (each_alone P Is_settled settled T 0 (data_alone P T h.is_data h.sizes)) settled_x (h.typed ∙ sym tx)
          (sym (taken_compared w.left_wanted w at T x (counted m σ) h.is_data) ∙ ap (λ y. meet_variable w.left_wanted w at T y (counted m σ)) (sym (reads χ m)) ∙ z);
    }
      where
        h : Taken_here σ v
        h = taken v e

        T : Size
        T = σ.type n v (types v)

        settled_x : Each (Alone Is_settled) 0 x
        settled_x = each_alone P Is_settled settled x 0 ax

        reads : (χ : Opened) (m : ℕ) → read (counted m σ) (in_opened χ x) ≡ x
        reads χ m = ap (read (counted m σ)) (alone_replaced P (dim_in χ) (λ j y. refl) x 0 0 ax) ∙ read_settled (counted m σ) x 0 (alone_scoped Is_settled x 0 settled_x) (hole_as Vars Any_variable (λ y k. tt) x vx)
    wanted_parameter (Built (head.Scalar s) no_size) x σ e i fx dx ax vx tx taken = record {
      value = Built (head.Scalar s) no_size;
      is = λ Θ a. refl;
      here = λ y z. absurd (let w : false ≡ true = z in cc);
      met = λ w φ χ m υ z. (sym x_is, sym (same_ok (ap (λ y. meet lo w at φ (Built (head.Scalar s) no_size) χ y (counted m σ)) (sym x_is) ∙ z)));
    }
      where
        x_is : x ≡ Built (head.Scalar s) no_size
        x_is = flat_is x fx (subst Flat_type (sym tx) (tt, tt)) ∙ ap flat tx
    wanted_parameter (Built (head.Scalar s) (size_and t ts)) x σ e i fx dx ax vx tx taken = absurd (let w : false ≡ true = e in cc)
    wanted_parameter (Built head.Array ts) x σ e i fx dx ax vx tx taken = absurd (let w : false ≡ true = e in cc)
    wanted_parameter (Built head.Tuple ts) x σ e i fx dx ax vx tx taken = absurd (let w : false ≡ true = e in cc)
    wanted_parameter (Built (head.Record m) ts) x σ e i fx dx ax vx tx taken = absurd (let w : false ≡ true = e in cc)
    wanted_parameter (Built head.Fun ts) x σ e i fx dx ax vx tx taken = absurd (let w : false ≡ true = e in cc)
    wanted_parameter (Built (head.Rigid m c) ts) x σ e i fx dx ax vx tx taken = absurd (let w : false ≡ true = e in cc)
    wanted_parameter (Built (head.Abstract m c) ts) x σ e i fx dx ax vx tx taken = absurd (let w : false ≡ true = e in cc)
    wanted_parameter (Open m v u) x σ e i fx dx ax vx tx taken = absurd i
    wanted_parameter (Level d t) x σ e i fx dx ax vx tx taken = absurd (let w : false ≡ true = e in cc)
    wanted_parameter (Fun k y r) x σ e i fx dx ax vx tx taken = absurd (let w : false ≡ true = e in cc)

    unread_variable : (b : Bool) (φ χ : Opened) (i : ℕ) (v : Variable) (t : Size) (σ τ : Found) → regular ≡ true → Is_inferred v → 1 ≤ rank K (types v) → Lambda_says P Vars i t → erased t ≡ types v → Taking n types P settled Vars σ → Unknown_frames χ i → No_unknown regular σ χ t
        → meet lo (wanted_way b regular) at φ (Open n v (types v)) χ t σ ≡ Ok τ → Function_met σ τ (Hole v) t
    unfolding meet has_hole function_holes with_types
    unread_variable b φ χ i v t σ τ e inferred kind says typed k frames none_there z = by_form (k v)
      where
        none_here : has is_unknown (read σ (in_opened χ t)) ≡ false
        none_here = none_there e

        alone : Data t → Each (Alone P) 0 t
        alone d = no_frame P settled σ χ i frames t d says.sizes none_here

        way : Way
        way = wanted_way b regular

        t_data : Data t
        t_data = is_data lo at way refl φ χ v inferred kind t i says typed σ τ k alone

        it_is : read σ (in_opened χ t) ≡ t
        it_is = it_read lo at way refl φ χ v inferred kind t i says typed σ τ k alone

        of_taken : Taken_here σ v → Function_met σ τ (Hole v) t
        of_taken h =
            let same = same_compared at way (σ.type n v (types v)) t σ τ h.is_data t_data h.formed says.formed (each_alone P Is_settled settled (σ.type n v (types v)) 0 (data_alone P (σ.type n v (types v)) h.is_data h.sizes)) (it_settled lo at way refl φ χ v inferred kind t i says typed σ τ k alone) (h.typed ∙ sym typed)
            (sym (taken_compared true way at (σ.type n v (types v)) t σ h.is_data) ∙ ap (λ x. meet_variable true way at (σ.type n v (types v)) x σ) (sym it_is) ∙ z) in
            subst (λ (y : Found). Function_met σ y (Hole v) t) (sym same.1) (record {
              taking = k;
              stays = λ x y. refl;
              size = refl;
              later = omega arith;
              maker = refl;
              here = λ y o. subst (Taken_here σ) (sym (sym (other_variable n types P settled Vars v y inferred o))) h;
              is = λ Θ a. sym (a v h) ∙ same.0;
              alone = alone t_data;
            })

        by_form : (σ.type n v (types v) ≡ Open n v (types v)) ⊎ Taken_here σ v → Function_met σ τ (Hole v) t
        by_form (inl o) = result_open lo at way refl φ χ v inferred kind t i says typed σ τ k alone o (ap (has is_unknown) (sym it_is) ∙ none_here) z
        by_form (inr h) = of_taken h

    abbrev pub Unread : Size → Type 0
    Unread p = (b : Bool) (φ χ : Opened) (i : ℕ) (t : Size) (σ τ : Found) → is_wanted q result_variables p ≡ true → Each_hole Is_inferred p → Each_hole (λ v. 1 ≤ rank K (types v)) p → Lambda_says P Vars i t → erased t ≡ erased (instance n types p) → Taking n types P settled Vars σ
        → ((v : Variable) → q v ≡ true → Taken_here σ v) → Unknown_frames χ i → (is_arrow p ≡ false → No_unknown regular σ χ t) → meet lo (wanted_way b regular) at φ (instance n types p) χ t σ ≡ Ok τ → Function_met σ τ p t

    pub unread_met : (p : Size) → Unread p
    unfolding is_wanted is_simple Each_hole Each instance erased all_erased Formed
    unread_met (Hole v) b φ χ i t σ τ e inferred kinds says typed k taken frames none_there z = unread_variable b φ χ i v t σ τ e inferred kinds says typed k frames (none_there refl) z
    unread_met (Fun zero p r) b φ χ i t σ τ e inferred kinds says typed k taken frames none_there z = by_function (unread_met r) F.chosen F.from F.to F.is_function F.from_typed F.to_typed
      where
        F : Function_size t (erased (instance n types p)) (erased (instance n types r))
        F = function_is t (erased (instance n types p)) (erased (instance n types r)) says.formed typed

        w : (is_simple q p ≡ true) × (is_wanted q result_variables r ≡ true)
        w = both_true (is_simple q p) (is_wanted q result_variables r) e

        by_says : (x s : Size) → Lambda_says P Vars i (Fun zero x s) → Unread r → erased x ≡ erased (instance n types p) → erased s ≡ erased (instance n types r) → meet lo (wanted_way b regular) at φ (Fun zero (instance n types p) (instance n types r)) χ (Fun zero x s) σ ≡ Ok τ → Function_met σ τ (Fun zero p r) (Fun zero x s)
        by_says x s o rest tx ts y = arrow_with p r (instance n types p) (instance n types r) x s b φ χ i σ τ o (wanted_parameter p x σ w.0 inferred.0 o.formed.0 o.arrows.0.0 o.arrows.0.1 o.variables.0 tx taken) frames
            (λ φ' χ' m fr none_here u. rest true φ' χ' (suc i) s (counted m σ) τ w.1 inferred.1 kinds.1 (record { formed = o.formed.1; sizes = o.sizes.1; variables = o.variables.1; arrows = o.arrows.1 }) ts k taken fr (λ y. none_here) u) y

        by_function : Unread r → (l : ℕ) (x s : Size) → t ≡ Fun l x s → erased x ≡ erased (instance n types p) → erased s ≡ erased (instance n types r) → Function_met σ τ (Fun zero p r) t
        by_function rest zero x s f tx ts = subst (Function_met σ τ (Fun zero p r)) (sym f) (by_says x s (subst (Lambda_says P Vars i) f says) rest tx ts (ap (λ y. meet lo (wanted_way b regular) at φ (Fun zero (instance n types p) (instance n types r)) χ y σ) (sym f) ∙ z))
        by_function rest (suc l) x s f tx ts = absurd (subst (Plain_arrows P) f says.arrows)
    unread_met (Fun (suc l) p r) b φ χ i t σ τ e inferred kinds says typed k taken frames none_there z = absurd (let y : false ≡ true = e in cc)
    unread_met (Built (head.Scalar s) no_size) b φ χ i t σ τ e inferred kinds says typed k taken frames none_there z = scalar_met lo at (wanted_way b regular) φ χ s t i σ τ k says typed z
    unread_met (Built (head.Scalar s) (size_and y ts)) b φ χ i t σ τ e inferred kinds says typed k taken frames none_there z = absurd (let w : false ≡ true = e in cc)
    unread_met (Built head.Array ts) b φ χ i t σ τ e inferred kinds says typed k taken frames none_there z = absurd (let w : false ≡ true = e in cc)
    unread_met (Built head.Tuple ts) b φ χ i t σ τ e inferred kinds says typed k taken frames none_there z = absurd (let w : false ≡ true = e in cc)
    unread_met (Built (head.Record m) ts) b φ χ i t σ τ e inferred kinds says typed k taken frames none_there z = absurd (let w : false ≡ true = e in cc)
    unread_met (Built head.Fun ts) b φ χ i t σ τ e inferred kinds says typed k taken frames none_there z = absurd (let w : false ≡ true = e in cc)
    unread_met (Built (head.Rigid m c) ts) b φ χ i t σ τ e inferred kinds says typed k taken frames none_there z = absurd (let w : false ≡ true = e in cc)
    unread_met (Built (head.Abstract m c) ts) b φ χ i t σ τ e inferred kinds says typed k taken frames none_there z = absurd (let w : false ≡ true = e in cc)
    unread_met (Open m v u) b φ χ i t σ τ e inferred kinds says typed k taken frames none_there z = absurd inferred
    unread_met (Level d x) b φ χ i t σ τ e inferred kinds says typed k taken frames none_there z = absurd (let w : false ≡ true = e in cc)
