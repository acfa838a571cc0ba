-- A function that chooses sizes is matched with the function type that a primitive wants, whose parameters are data that is found already:
-- it is used at these sizes, and has the type that is wanted.
use Rattle.std.proofs.Common.{◌≡◌, ◌⊎◌, ℕ, zero, suc, ◌+◌, ◌<◌, ◌≤◌, Bool, true, false, ◌||◌, ◌&&◌, cond, nat_eq, Ok, Err, refl, sym, ap, ◌∙◌, subst, arith, inl, inr, eq-eqb, lt-ltb, le-ltb, ltb-true}
use Rattle.std.specs.Prelude.{nat_lt}
use Rattle.fut_scalar.specs.declared.scalar.ScalarType.{ScalarType}
use Rattle.fut_scalar.specs.declared.scalar.ScalarType.TheVariants as scalar
use Rattle.std.proofs.lemmas.Bool.{ne_eqb}
use Rattle.fut_types.specs.declared.Head.TheVariants as head
use Rattle.fut_types.specs.declared.Kind.{Kind}
use Rattle.fut_types.specs.Types.{Ty, Made, more, none, fun_ty, Sub, Kinds, HasKind, rank, least, level}
use Rattle.sized_types.specs.Sizes.{Free, Const, Unknown, Slot, Dim, At, Bound, Variable, Size, Hole, Open, Level, Built, Fun, Sizes, no_size, size_and, erased, all_erased, replaced, all_replaced, given, opened, has}
use Rattle.sized_types.specs.Standing.{has_hole, some_hole}
use Rattle.fut_sizes.specs.Agreeing.{Answer, Irregular}
use Rattle.fut_sizes.specs.Applications.{is_arrow}
use Rattle.fut_sizes.specs.Functions.{is_slot}
use Rattle.fut_sizes.specs.Matching.{Found, counted, found_size, read, all_read, Opened, none_opened, inside, dim_in, in_opened, Way, data_way, turned, to_result, is_unknown, meet_dims, meet_variable, past_frame, left_frame, right_frame, frame_numbers, is_irregular, meet, all_meet}
use Rattle.fut_sizes.specs.Rules.{Each_hole, filled as with_types, all_filled as all_with_types}
use Rattle.fut_sizes.specs.Scopes.{instance, instances}
use Rattle.fut_sizes.specs.Suiting.{Each, Each_all, Scoped, Of_positions, Data, All_data, Free_of, Instance, Suits, suits_same, suits_function}
use Rattle.sizes_meet_rules.specs.Known.{Formed, All_formed}
use Rattle.sizes_meet_rules.specs.Plain.{Flat_type, Data_function}
use Rattle.sizes_meet_rules.proofs.Applying.{Function_size, function_is, read_settled, Slots, met_stays}
use Rattle.sizes_meet_rules.proofs.Chains.{Alone, alone_scoped, alone_at, alone_replaced}
use Rattle.sizes_meet_rules.proofs.Filling.{function_holes, Is_inferred, Taken_at, Taking, Stays, stays_taken, Agrees, agrees_before, other_variable, dims_as}
use Rattle.sizes_meet_rules.proofs.Fitting.{is_simple, is_wanted, wanted_way, Plain_arrows, Function_met, unread_met, taken_compared, irregular_ok, each_alone, data_alone}
use Rattle.sizes_meet_rules.proofs.Flat_types.{flat, flat_is, flat_each}
use Rattle.sizes_meet_rules.proofs.Forming.{data_of, formed_replaced}
use Rattle.sizes_meet_rules.proofs.Frames.{Frames, pushed, fill, filled, fill_keeps, fill_back, opened_filled, not_filled}
use Rattle.sizes_meet_rules.proofs.Meeting.{Then_ok, then_ok, same_ok, each_scoped}
use Rattle.sizes_meet_rules.proofs.Opening.{Any_free, found_way, as_data, read_again, Framed_below, frame_sizes, next_framed, opened_data, agreed_before, filled_as, Known_frames, read_in, not_there, hole_read, counted_size, kept_in, none_means}
use Rattle.sizes_meet_rules.proofs.Reading.{Extends, found_still, Opens, met_reads}
use Rattle.sizes_meet_rules.proofs.Replacing.{each_as, hole_as, hole_replaced}
use Rattle.sizes_meet_rules.proofs.Settling.{Is_settled, Any_variable}

both_true : (a b : Bool) → a && b ≡ true → (a ≡ true) × (b ≡ true)
both_true true b e = (refl, e)
both_true false b e = absurd (let z : false ≡ true = e in cc)

-- ---- a function of data

abbrev pub Data_arrows : Size → Type 0
Data_arrows (Fun k x r) = Data x × Data_arrows r
Data_arrows t = Unit {0}

no_arrows : (t : Size) → Data t → Data_arrows t
unfolding Data
no_arrows (Hole v) d = tt
no_arrows (Open n v u) d = absurd d
no_arrows (Level e t) d = tt
no_arrows (Built g ts) d = tt
no_arrows (Fun k p r) d = absurd d

data_plain : (P : Free → Type 0) (t : Size) → Data t → Plain_arrows P t
unfolding Data
data_plain P (Hole v) d = tt
data_plain P (Open n v u) d = absurd d
data_plain P (Level e t) d = tt
data_plain P (Built g ts) d = tt
data_plain P (Fun k p r) d = absurd d

-- a scalar is data
scalar_kind : (K : Kinds) (s : ScalarType) (u : Ty) → u ≡ Made (head.Scalar s) none → 1 ≤ rank K u
unfolding rank least
scalar_kind K (scalar.Int t) u e = subst (λ w. 1 ≤ rank K w) (sym e) (omega arith)
scalar_kind K scalar.Bool u e = subst (λ w. 1 ≤ rank K w) (sym e) (omega arith)

-- what such a type tells
module _ (types : Sub) (home : ℕ → ℕ) (K : Kinds) (places : Kind) (data_places : 1 ≤ level places) where
  pub data_function_is : (u : Ty) → Data_function types home K places u → (a : Ty) × ((c : Ty) × (u ≡ fun_ty a c))
  data_function_is (Made head.Fun (more a (more c none))) h = (a, (c, refl))
  data_function_is u h = absurd h

  pub arrows_of_type : (u : Ty) (t : Size) → Formed t → erased t ≡ u → Data_function types home K places u → Data_arrows t
  unfolding Formed
  arrows_of_type (Made head.Fun (more a (more c none))) t f e h = subst Data_arrows (sym F.is_function) (data_of K F.from parts.0 (subst (λ w. 1 ≤ rank K w) (sym F.from_typed) (let k = h.0 in omega (arith, data_places, k))), by_result (λ k. arrows_of_type c F.to parts.1 F.to_typed k) h.1)
    where
      F : Function_size t a c
      F = function_is t a c f e

      parts : Formed (Fun F.chosen F.from F.to)
      parts = subst Formed F.is_function f

      by_result : (Data_function types home K places c → Data_arrows F.to) → HasKind K places c ⊎ Data_function types home K places c → Data_arrows F.to
      by_result more_of (inl k) = no_arrows F.to (data_of K F.to parts.1 (subst (λ w. 1 ≤ rank K w) (sym F.to_typed) (omega (arith, data_places, k))))
      by_result more_of (inr k) = more_of k
  arrows_of_type u t f e h = absurd h

pub record Name_says (P : Free → Type 0) (Vars : Variable → Type 0) (i : ℕ) (t : Size) : Type 0 where
  pub formed : Formed t
  pub sizes : Each (Scoped P) i t
  pub variables : Each_hole Vars t
  pub arrows : Data_arrows t

module _ (n : ℕ) (types : Variable → Ty) (P : Free → Type 0) (settled : (d : Free) → P d → is_slot d ≡ false) (Vars : Variable → Type 0) where
  abbrev Taken_here : Found → Variable → Type 0
  Taken_here σ v = Taken_at n types P settled Vars σ v

  abbrev All_taking : Found → Type 0
  All_taking σ = Taking n types P settled Vars σ

  abbrev All_stay : Found → Found → Type 0
  All_stay σ τ = Stays n types P settled Vars σ τ

  all_stay_then : (σ τ υ : Found) → All_stay σ τ → All_stay τ υ → All_stay σ υ
  all_stay_then σ τ υ a b v h = b v (stays_taken n types P settled Vars σ τ a v h) ∙ a v h

  -- matching data takes no types
  takes_none : (σ τ : Found) → ◌≡◌ {A = Answer Found} (Ok σ) (Ok τ) → All_taking σ → All_taking τ × All_stay σ τ
  takes_none σ τ q t = subst (λ (υ : Found). All_taking υ × All_stay σ υ) (same_ok q) (t, λ v h. refl)

  module _ (lo at : ℕ) (φ : Opened) where
    mutual
      unfolding meet all_meet Each Each_all Data All_data

      met_takes : (p t : Size) (σ τ : Found) → Data p → Data t → Each (Scoped P) 0 t → All_taking σ → meet lo data_way at φ p none_opened t σ ≡ Ok τ → All_taking τ × All_stay σ τ
      met_takes (Open m v u) t σ τ dp dt s k q = absurd dp
      met_takes (Fun l p r) t σ τ dp dt s k q = absurd dp
      met_takes p (Open m v u) σ τ dp dt s k q = absurd dt
      met_takes p (Fun l t r) σ τ dp dt s k q = absurd dt
      met_takes (Hole v) (Hole w) σ τ dp dt s k q = takes_none σ τ q k
      met_takes (Hole v) (Level e t) σ τ dp dt s k q = takes_none σ τ q k
      met_takes (Hole v) (Built g ts) σ τ dp dt s k q = takes_none σ τ q k
      met_takes (Level d p) (Hole w) σ τ dp dt s k q = takes_none σ τ q k
      met_takes (Level d p) (Built g ts) σ τ dp dt s k q = takes_none σ τ q k
      met_takes (Level d p) (Level (Bound j i) t) σ τ dp dt s k q = absurd (let l = s.0 in omega (arith, l))
      met_takes (Level d p) (Level (At e) t) σ τ dp dt s k q =
          let r = then_ok (meet_dims data_way at (dim_in φ 0 d) (At e) σ) q in
          let A = dims_as n types P settled Vars at σ r.first (dim_in φ 0 d) e s.0 k r.done in
          let B = met_takes p t r.first τ dp dt s.1 A.taking r.rest in
          (B.0, all_stay_then σ r.first τ A.stays B.1)
      met_takes (Built h ps) (Hole w) σ τ dp dt s k q = takes_none σ τ q k
      met_takes (Built h ps) (Level e t) σ τ dp dt s k q = takes_none σ τ q k
      met_takes (Built h ps) (Built g ts) σ τ dp dt s k q = all_met_take ps ts σ τ dp dt s k q

      all_met_take : (ps ts : Sizes) (σ τ : Found) → All_data ps → All_data ts → Each_all (Scoped P) 0 ts → All_taking σ → all_meet lo data_way at φ ps none_opened ts σ ≡ Ok τ → All_taking τ × All_stay σ τ
      all_met_take no_size no_size σ τ dp dt s k q = takes_none σ τ q k
      all_met_take no_size (size_and t ts) σ τ dp dt s k q = takes_none σ τ q k
      all_met_take (size_and p ps) no_size σ τ dp dt s k q = takes_none σ τ q k
      all_met_take (size_and p ps) (size_and t ts) σ τ dp dt s k q =
          let r = then_ok (meet lo data_way at φ p none_opened t σ) q in
          let A = met_takes p t σ r.first dp.0 dt.0 s.0 k r.done in
          let B = all_met_take ps ts r.first τ dp.1 dt.1 s.1 A.0 r.rest in
          (B.0, all_stay_then σ r.first τ A.1 B.1)

  -- ---- a parameter

  -- it is used at the sized type that is wanted
  record Taken_parameter (σ found : Found) (p x : Size) (χ : Opened) : Type 0 where
    value : Size
    is : (Θ : Variable → Size) → Agrees n types P settled Vars Θ σ → with_types Θ p ≡ value
    here : (v : Variable) → has_hole p v ≡ true → Taken_here σ v
    is_data : Data value
    formed : Formed value
    sizes : Each (Scoped P) 0 value
    variables : Each_hole Vars value
    typed : erased value ≡ erased x
    reads : read found (in_opened χ x) ≡ value
    extends : Extends σ found
    slots : Slots P settled found
    maker : found.maker ≡ σ.maker
    next : found.next ≡ σ.next
    taking : All_taking found
    stays : All_stay σ found

  module _ (q : Variable → Bool) (regular : Bool) (lo at : ℕ) (φ χ : Opened) (i : ℕ) (f : Frames) (framed : Framed_below χ i f) (σ found : Found) (taking : All_taking σ) (slots : Slots P settled σ) (taken : (v : Variable) → q v ≡ true → Taken_here σ v) where
    settled_slots : (j : ℕ) → (σ.size j ≡ Slot j) ⊎ (is_slot (σ.size j) ≡ false)
    settled_slots j = by_slot (slots j)
      where
        by_slot : (σ.size j ≡ Slot j) ⊎ P (σ.size j) → (σ.size j ≡ Slot j) ⊎ (is_slot (σ.size j) ≡ false)
        by_slot (inl z) = inl z
        by_slot (inr h) = inr (settled (σ.size j) h)

    alone_opens : (d : ℕ) (e : Dim) → Alone Any_free d e → Opens lo at none_opened d e
    alone_opens d (At x) h = (x, refl)
    alone_opens d (Bound k m) h = absurd h

    variable_parameter : (v : Variable) (x : Size) → q v ≡ true → Is_inferred v → Data x → Formed x → Each (Scoped P) i x → erased x ≡ types v → meet lo (found_way regular) at φ (Open n v (types v)) χ x σ ≡ Ok found → Taken_parameter σ found (Hole v) x χ
    unfolding meet with_types has_hole
    variable_parameter v x e inferred dx fx sx tx z = record {
      value = T;
      is = λ Θ a. sym (a v h);
      here = λ y o. subst (Taken_here σ) (other_variable n types P settled Vars v y inferred o) h;
      is_data = h.is_data;
      formed = h.formed;
      sizes = h.sizes;
      variables = h.variables;
      typed = h.typed ∙ sym tx;
      reads = sym (read_again σ found R.1 settled_slots (dim_in χ) x 0 dx) ∙ ap (read found) (sym (alone_replaced Any_free (dim_in none_opened) (λ j y. refl) U 0 0 O.2)) ∙ R.0;
      extends = R.1;
      slots = S.0 slots;
      maker = S.1;
      next = S.2;
      taking = K.0;
      stays = K.1;
    }
      where
        h : Taken_here σ v
        h = taken v e

        T : Size
        T = σ.type n v (types v)

        U : Size
        U = read σ (in_opened χ x)

        O : Data U × Formed U × Each (Alone Any_free) 0 U × (erased U ≡ erased x)
        O = opened_data P settled χ i f framed σ x dx fx sx

        T_alone : Each (Alone Any_free) 0 T
        T_alone = each_alone P Any_free (λ d o. tt) T 0 (data_alone P T h.is_data h.sizes)

        met : meet lo data_way at none_opened U none_opened T σ ≡ Ok found
        met = as_data regular lo at T U σ found h.is_data O.0 T_alone O.2 (sym (taken_compared false (found_way regular) at T U σ h.is_data) ∙ z)

        R : (read found (in_opened none_opened U) ≡ T) × Extends σ found
        R = met_reads lo at none_opened U T σ found O.0 h.is_data O.1 h.formed (each_as (Alone Any_free) (Opens lo at none_opened) alone_opens U 0 O.2) (each_scoped P Is_settled settled T 0 h.sizes) (O.3 ∙ tx ∙ sym h.typed) met

        S : (Slots P settled σ → Slots P settled found) × (found.maker ≡ σ.maker) × (found.next ≡ σ.next)
        S = met_stays P settled lo at none_opened U T σ found O.0 h.is_data h.sizes met

        K : All_taking found × All_stay σ found
        K = met_takes lo at none_opened U T σ found O.0 h.is_data h.sizes taking met

    parameter : (p x : Size) → is_simple q p ≡ true → Each_hole Is_inferred p → Data x → Formed x → Each (Scoped P) i x → erased x ≡ erased (instance n types p) → meet lo (found_way regular) at φ (instance n types p) χ x σ ≡ Ok found → Taken_parameter σ found p x χ
    unfolding is_simple Each_hole instance instances with_types all_with_types has_hole some_hole erased all_erased meet all_meet flat read all_read replaced all_replaced Data All_data Formed All_formed Each Each_all Flat_type
    parameter (Hole v) x e inferred dx fx sx tx z = variable_parameter v x e inferred dx fx sx tx z
    parameter (Built (head.Scalar s) no_size) x e inferred dx fx sx tx z = record {
      value = Built (head.Scalar s) no_size;
      is = λ Θ a. refl;
      here = λ v o. absurd (let w : false ≡ true = o in cc);
      is_data = tt;
      formed = (tt, tt);
      sizes = tt;
      variables = tt;
      typed = sym tx;
      reads = ap (λ y. read found (replaced (dim_in χ) 0 y)) x_is;
      extends = subst (Extends σ) same (λ j d s k. k);
      slots = subst (Slots P settled) same slots;
      maker = ap (λ (y : Found). y.maker) (sym same);
      next = ap (λ (y : Found). y.next) (sym same);
      taking = subst All_taking same taking;
      stays = subst (All_stay σ) same (λ v h. refl);
    }
      where
        x_is : x ≡ Built (head.Scalar s) no_size
        x_is = flat_is x fx (subst Flat_type (sym tx) (tt, tt)) ∙ ap flat tx

        same : σ ≡ found
        same = same_ok (ap (λ y. meet lo (found_way regular) at φ (Built (head.Scalar s) no_size) χ y σ) (sym x_is) ∙ z)
    parameter (Built (head.Scalar s) (size_and t ts)) x e inferred dx fx sx tx z = absurd (let w : false ≡ true = e in cc)
    parameter (Built head.Array ts) x e inferred dx fx sx tx z = absurd (let w : false ≡ true = e in cc)
    parameter (Built head.Tuple ts) x e inferred dx fx sx tx z = absurd (let w : false ≡ true = e in cc)
    parameter (Built (head.Record m) ts) x e inferred dx fx sx tx z = absurd (let w : false ≡ true = e in cc)
    parameter (Built head.Fun ts) x e inferred dx fx sx tx z = absurd (let w : false ≡ true = e in cc)
    parameter (Built (head.Rigid m c) ts) x e inferred dx fx sx tx z = absurd (let w : false ≡ true = e in cc)
    parameter (Built (head.Abstract m c) ts) x e inferred dx fx sx tx z = absurd (let w : false ≡ true = e in cc)
    parameter (Open m v u) x e inferred dx fx sx tx z = absurd inferred
    parameter (Level d t) x e inferred dx fx sx tx z = absurd (let w : false ≡ true = e in cc)
    parameter (Fun k y r) x e inferred dx fx sx tx z = absurd (let w : false ≡ true = e in cc)

  -- ---- all parameters

  module _ (K : Kinds) where
    -- inside so many functions, whose positions stand for these
    pub record Chosen (σ τ : Found) (p t : Size) (i : ℕ) (f : Frames) : Type 0 where
      pub taking : All_taking τ
      pub stays : All_stay σ τ
      pub extends : Extends σ τ
      pub slots : Slots P settled τ
      pub later : σ.next ≤ τ.next
      pub maker : τ.maker ≡ σ.maker
      pub here : (v : Variable) → function_holes p v ≡ true → Taken_here τ v
      -- the sized type that is wanted
      pub size : Size
      pub is : (Θ : Variable → Size) → Agrees n types P settled Vars Θ τ → with_types Θ p ≡ size
      pub alone : Each (Alone P) 0 size
      pub formed : Formed size
      pub variables : Each_hole Vars size
      pub typed : erased size ≡ erased t
      pub suits : (ε : Frames) → ((k m : ℕ) → k < i → P (found_size τ (f k m)) → ε k m ≡ found_size τ (f k m)) → Suits (filled ε 0 t) size × Each (Scoped P) 0 (filled ε 0 t)

    module _ (q : Variable → Bool) (regular : Bool) (lo at : ℕ) (apart : (b : ℕ) → P (Unknown lo b) → ⊥) (fn fm : ℕ) (two : fn ≡ fm → ⊥) (fresh : (d : Free) → P d → Free_of fn d × Free_of fm d) where
      abbrev Met_at : Size → Type 0
      Met_at p = (b : Bool) (φ χ : Opened) (i : ℕ) (f : Frames) (t : Size) (σ τ : Found) → is_wanted q (λ v. regular) p ≡ true → Each_hole Is_inferred p → Each_hole (λ v. 1 ≤ rank K (types v)) p → Name_says P Vars i t → erased t ≡ erased (instance n types p) → All_taking σ → Slots P settled σ
          → ((v : Variable) → q v ≡ true → Taken_here σ v) → Framed_below χ i f → Known_frames P lo i f σ → (is_arrow p ≡ false → regular ≡ true → has is_unknown (read σ (in_opened χ t)) ≡ false) → meet lo (wanted_way b regular) at φ (instance n types p) χ t σ ≡ Ok τ → Chosen σ τ p t i f

      -- what is given is data without arrays
      flat_result : (p : Size) (b : Bool) (φ χ : Opened) (i : ℕ) (f : Frames) (t : Size) (σ τ : Found) → is_wanted q (λ v. regular) p ≡ true → Each_hole Is_inferred p → Each_hole (λ v. 1 ≤ rank K (types v)) p → Name_says P Vars i t → 1 ≤ rank K (erased t) → Flat_type (erased t) → erased t ≡ erased (instance n types p) → All_taking σ → Slots P settled σ
          → ((v : Variable) → q v ≡ true → Taken_here σ v) → (is_arrow p ≡ false → regular ≡ true → has is_unknown (read σ (in_opened χ t)) ≡ false) → meet lo (wanted_way b regular) at φ (instance n types p) χ t σ ≡ Ok τ → Chosen σ τ p t i f
      flat_result p b φ χ i f t σ τ e inferred kinds says kind no_arrays typed taking slots taken known z = record {
        taking = F.taking;
        stays = F.stays;
        extends = λ j d s k. ap (λ (g : ℕ → Free). g j) F.size ∙ k;
        slots = λ j. subst (λ (g : ℕ → Free). (g j ≡ Slot j) ⊎ P (g j)) (sym F.size) (slots j);
        later = F.later;
        maker = F.maker;
        here = F.here;
        size = t;
        is = F.is;
        alone = F.alone;
        formed = says.formed;
        variables = says.variables;
        typed = refl;
        suits = λ ε a. (subst (λ x. Suits x t) (sym (not_filled P ε t in_itself)) suits_same, subst (Each (Scoped P) 0) (sym (not_filled P ε t in_itself)) in_itself);
      }
        where
          t_data : Data t
          t_data = data_of K t says.formed kind

          t_is : t ≡ flat (erased t)
          t_is = flat_is t says.formed no_arrays

          in_itself : Each (Scoped P) 0 t
          in_itself = subst (Each (Scoped P) 0) (sym t_is) (flat_each (Scoped P) 0 (erased t))

          F : Function_met n types P settled Vars K σ τ p t
          F = unread_met n types P settled Vars K q regular lo at p b φ χ 0 t σ τ e inferred kinds (record { formed = says.formed; sizes = in_itself; variables = says.variables; arrows = data_plain P t t_data }) typed taking taken (λ k m l. absurd (omega (arith, l))) known z

      -- or data in which no size is met
      variable_result : (v : Variable) (b : Bool) (φ χ : Opened) (i : ℕ) (f : Frames) (t : Size) (σ τ : Found) → regular ≡ true → Is_inferred v → 1 ≤ rank K (types v) → Name_says P Vars i t → erased t ≡ types v → All_taking σ → Slots P settled σ → ((v : Variable) → q v ≡ true → Taken_here σ v) → Framed_below χ i f → Known_frames P lo i f σ
          → (regular ≡ true → has is_unknown (read σ (in_opened χ t)) ≡ false) → meet lo (wanted_way b regular) at φ (Open n v (types v)) χ t σ ≡ Ok τ → Chosen σ τ (Hole v) t i f
      unfolding meet is_wanted is_simple Each_hole instance erased
      variable_result v b φ χ i f t σ τ e inferred kind says typed taking slots taken framed frames known z = record {
        taking = F.taking;
        stays = F.stays;
        extends = extends_here;
        slots = λ j. subst (λ (g : ℕ → Free). (g j ≡ Slot j) ⊎ P (g j)) (sym F.size) (slots j);
        later = F.later;
        maker = F.maker;
        here = F.here;
        size = R;
        is = F.is;
        alone = F.alone;
        formed = O.1;
        variables = R_holes;
        typed = O.3;
        suits = λ ε a. (subst (λ x. Suits x R) (sym (filled_here ε a)) suits_same, subst (Each (Scoped P) 0) (sym (filled_here ε a)) R_sizes);
      }
        where
          t_data : Data t
          t_data = data_of K t says.formed (subst (λ u. 1 ≤ rank K u) (sym typed) kind)

          R : Size
          R = read σ (in_opened χ t)

          O : Data R × Formed R × Each (Alone Any_free) 0 R × (erased R ≡ erased t)
          O = opened_data P settled χ i f framed σ t t_data says.formed says.sizes

          R_sizes : Each (Scoped P) 0 R
          R_sizes = read_in P settled χ i f framed σ lo frames t t_data says.sizes (known e)

          R_holes : Each_hole Vars R
          R_holes = hole_read Vars σ (in_opened χ t) (hole_replaced (dim_in χ) Vars t 0 says.variables)

          R_read : read σ (in_opened none_opened R) ≡ R
          R_read = ap (read σ) (alone_replaced Any_free (dim_in none_opened) (λ j y. refl) R 0 0 O.2) ∙ read_settled σ R 0 (each_scoped P Is_settled settled R 0 R_sizes) (hole_as Vars Any_variable (λ w k. tt) R R_holes)

          F : Function_met n types P settled Vars K σ τ (Hole v) R
          F = unread_met n types P settled Vars K q regular lo at (Hole v) b φ none_opened 0 R σ τ e inferred kind (record { formed = O.1; sizes = R_sizes; variables = R_holes; arrows = data_plain P R O.0 }) (O.3 ∙ typed) taking taken (λ k m l. absurd (omega (arith, l)))
              (λ y r. ap (has is_unknown) R_read ∙ known r) (ap (λ y. meet_variable true (wanted_way b regular) at (σ.type n v (types v)) y σ) R_read ∙ z)

          extends_here : Extends σ τ
          extends_here j d s k = ap (λ (g : ℕ → Free). g j) F.size ∙ k

          filled_here : (ε : Frames) → ((k m : ℕ) → k < i → P (found_size τ (f k m)) → ε k m ≡ found_size τ (f k m)) → filled ε 0 t ≡ R
          filled_here ε a = filled_as P settled χ i f framed σ ε (agreed_before P settled χ i f framed σ τ ε extends_here a) t t_data says.sizes R_sizes

      -- a function of one parameter more
      module _ (p r : Size) (rest : Met_at r) (b : Bool) (φ χ : Opened) (i : ℕ) (f : Frames) (k : ℕ) (x s : Size) (σ τ : Found) (simple : is_simple q p ≡ true) (wanted : is_wanted q (λ v. regular) r ≡ true) (p_inferred : Each_hole Is_inferred p) (r_inferred : Each_hole Is_inferred r) (r_kinds : Each_hole (λ v. 1 ≤ rank K (types v)) r)
          (x_data : Data x) (x_formed : Formed x) (x_sizes : Each (Scoped P) (suc i) x) (s_says : Name_says P Vars (suc i) s) (whole_formed : Formed (Fun k x s)) (x_typed : erased x ≡ erased (instance n types p)) (s_typed : erased s ≡ erased (instance n types r))
          (taking : All_taking σ) (slots : Slots P settled σ) (taken : (v : Variable) → q v ≡ true → Taken_here σ v) (framed : Framed_below χ i f) (frames_known : Known_frames P lo i f σ) (z : meet lo (wanted_way b regular) at φ (Fun zero (instance n types p) (instance n types r)) χ (Fun k x s) σ ≡ Ok τ) where
        abbrev way : Way
        way = wanted_way b regular

        abbrev next : Found
        next = counted (frame_numbers zero k (instance n types r) s) σ

        abbrev past : ℕ
        past = past_frame σ.next zero (instance n types r)

        abbrev left : Opened
        left = inside (left_frame way lo σ.next zero k s) φ

        abbrev right : Opened
        right = inside (right_frame way lo σ.next zero k (instance n types r)) χ

        abbrev positions : ℕ → Free
        positions = frame_sizes lo past (σ.next + zero) k

        abbrev frames : Frames
        frames = pushed positions f

        abbrev tested : Found → Answer Found
        tested found = cond (is_irregular way (read found (in_opened left (instance n types r))) (read found (in_opened right s))) (Err (Irregular at)) (meet lo (to_result way) at left (instance n types r) right s found)

        X : Then_ok (meet lo (turned way) at left (instance n types p) right x next) tested τ
        unfolding meet
        X = then_ok (meet lo (turned way) at left (instance n types p) right x next) z

        abbrev found : Found
        found = X.first

        framed_here : Framed_below right (suc i) frames
        framed_here = next_framed lo past (σ.next + zero) k χ i f framed

        V : Taken_parameter next found p x right
        V = parameter q regular lo at left right (suc i) frames framed_here next found taking slots taken p x simple p_inferred x_data x_formed x_sizes x_typed X.done

        regular_here : (regular ≡ true → has is_unknown (read found (in_opened right s)) ≡ false) × (meet lo (to_result way) at left (instance n types r) right s found ≡ Ok τ)
        regular_here = irregular_ok n types P settled Vars K regular (has is_unknown (read found (in_opened right s))) at (meet lo (to_result way) at left (instance n types r) right s found) τ X.rest

        -- a size that is chosen stands in the parameter, so that it is found
        known_here : Known_frames P lo (suc i) frames found
        unfolding pushed Formed
        known_here (suc j) m l = by_frame (frames_known j m (omega (arith, l)))
          where
            by_frame : P (found_size σ (f j m)) ⊎ ((b : ℕ) × (f j m ≡ Unknown lo b)) → P (found_size found (f j m)) ⊎ ((b : ℕ) × (f j m ≡ Unknown lo b))
            by_frame (inl h) = inl (subst P (sym (found_still next found V.extends (f j m) (found_size σ (f j m)) (settled (found_size σ (f j m)) h) (counted_size (frame_numbers zero k (instance n types r) s) σ (f j m)))) h)
            by_frame (inr w) = inr w
        known_here zero m l = by_less (nat_lt m k) refl
          where
            is_low : nat_lt m k ≡ true → positions m ≡ Slot (past + m)
            is_low e = ap (λ c. cond c (Slot (past + m)) (Unknown lo (cond (nat_eq m k) (σ.next + zero) (past + m)))) e

            by_slot : m < k → nat_lt m k ≡ true → (found.size (past + m) ≡ Slot (past + m)) ⊎ P (found.size (past + m)) → P (found_size found (positions m)) ⊎ ((b : ℕ) × (positions m ≡ Unknown lo b))
            by_slot l e (inr h) = inl (subst (λ d. P (found_size found d)) (sym (is_low e)) h)
            by_slot l e (inl y) = absurd (whole_formed.4 m l (not_there P settled right (suc i) frames framed_here found m absent x x_data x_sizes (subst (Each (Scoped P) 0) (sym V.reads) V.sizes)))
              where
                absent : (j : ℕ) → j ≡ m → P (found_size found (positions j)) → ⊥
                absent j w h = let c : true ≡ false = ap is_slot (sym y) ∙ settled (found.size (past + m)) (subst (λ d. P (found_size found d)) (ap positions w ∙ is_low e) h) in cc

            by_less : (c : Bool) → nat_lt m k ≡ c → P (found_size found (positions m)) ⊎ ((b : ℕ) × (positions m ≡ Unknown lo b))
            by_less true e = by_slot (ltb-true m k e) e (V.slots (past + m))
            by_less false e = inr (cond (nat_eq m k) (σ.next + zero) (past + m), ap (λ c. cond c (Slot (past + m)) (Unknown lo (cond (nat_eq m k) (σ.next + zero) (past + m)))) e)

        R : Chosen found τ r s (suc i) frames
        R = rest true left right (suc i) frames s found τ wanted r_inferred r_kinds s_says s_typed V.taking V.slots (λ v e. stays_taken n types P settled Vars next found V.stays v (taken v e)) framed_here known_here (λ e. regular_here.0) regular_here.1

        abbrev whole : Size
        whole = Fun zero V.value R.size

        value_alone : Each (Alone P) 0 V.value
        value_alone = data_alone P V.value V.is_data V.sizes

        whole_alone : Each (Alone P) 0 whole
        unfolding Each
        whole_alone = (alone_at P V.value 0 1 value_alone, alone_at P R.size 0 1 R.alone)

        whole_formed_now : Formed whole
        unfolding Formed
        whole_formed_now = (V.formed, R.formed, none_means P (λ m. m < 0) V.value value_alone, (λ e. none_means P (λ m. m ≡ 0 → ⊥) R.size R.alone), (λ m l e. absurd (omega (arith, l))))

        stays_all : All_stay σ τ
        stays_all v h = R.stays v (stays_taken n types P settled Vars next found V.stays v h) ∙ V.stays v h

        by_place : (v : Variable) (c : Bool) → has_hole p v ≡ c → c || function_holes r v ≡ true → Taken_here τ v
        by_place v true e o = stays_taken n types P settled Vars σ τ stays_all v (V.here v e)
        by_place v false e o = R.here v o

        -- ---- it is used at these sizes
        abbrev settled_or : Free → Free
        settled_or d = cond (is_slot d) (Const 0) d

        settled_is : (d : Free) → is_slot d ≡ false → settled_or d ≡ d
        settled_is d e = ap (λ c. cond c (Const 0) d) e

        abbrev δ : ℕ → Free
        δ m = cond (nat_lt m k) (settled_or (τ.size (past + m))) (cond (nat_eq m k) (Unknown fn 0) (Unknown fm m))

        abbrev ρ : ℕ → Free
        ρ m = Unknown fn 0

        δ_low : (m : ℕ) → m < k → δ m ≡ settled_or (τ.size (past + m))
        δ_low m l = ap (λ c. cond c (settled_or (τ.size (past + m))) (cond (nat_eq m k) (Unknown fn 0) (Unknown fm m))) (lt-ltb m k l)

        δ_value : δ k ≡ Unknown fn 0
        δ_value = ap (λ c. cond c (settled_or (τ.size (past + k))) (cond (nat_eq k k) (Unknown fn 0) (Unknown fm k))) (le-ltb k k (omega arith)) ∙ ap (λ c. cond c (Unknown fn 0) (Unknown fm k)) (eq-eqb k k refl)

        δ_met : (m : ℕ) → k < m → δ m ≡ Unknown fm m
        δ_met m l = ap (λ c. cond c (settled_or (τ.size (past + m))) (cond (nat_eq m k) (Unknown fn 0) (Unknown fm m))) (le-ltb m k (omega (arith, l))) ∙ ap (λ c. cond c (Unknown fn 0) (Unknown fm m)) (ne_eqb m k (λ e. omega (arith, e, l)))

        δ_free : (m : ℕ) → m < k → Free_of fm (δ m)
        δ_free m l = subst (Free_of fm) (sym (δ_low m l)) (by_slot (R.slots (past + m)))
          where
            by_slot : (τ.size (past + m) ≡ Slot (past + m)) ⊎ P (τ.size (past + m)) → Free_of fm (settled_or (τ.size (past + m)))
            by_slot (inl e) = subst (λ d. Free_of fm (settled_or d)) (sym e) tt
            by_slot (inr h) = subst (Free_of fm) (sym (settled_is (τ.size (past + m)) (settled (τ.size (past + m)) h))) (fresh (τ.size (past + m)) h).1

        module _ (ε : Frames) (agreed : (j m : ℕ) → j < i → P (found_size τ (f j m)) → ε j m ≡ found_size τ (f j m)) where
          position_agrees : (m : ℕ) (c : Bool) → nat_lt m k ≡ c → P (found_size τ (cond c (Slot (past + m)) (Unknown lo (cond (nat_eq m k) (σ.next + zero) (past + m))))) → cond c (settled_or (τ.size (past + m))) (cond (nat_eq m k) (Unknown fn 0) (Unknown fm m)) ≡ found_size τ (cond c (Slot (past + m)) (Unknown lo (cond (nat_eq m k) (σ.next + zero) (past + m))))
          position_agrees m true e h = settled_is (τ.size (past + m)) (settled (τ.size (past + m)) h)
          position_agrees m false e h = absurd (apart (cond (nat_eq m k) (σ.next + zero) (past + m)) h)

          agreed_here : (j m : ℕ) → j < suc i → P (found_size τ (frames j m)) → pushed δ ε j m ≡ found_size τ (frames j m)
          unfolding pushed
          agreed_here zero m l h = position_agrees m (nat_lt m k) refl h
          agreed_here (suc j) m l h = agreed j m (omega (arith, l)) h

          x_is : filled (pushed δ ε) 0 x ≡ V.value
          x_is = filled_as P settled right (suc i) frames framed_here found (pushed δ ε) (agreed_before P settled right (suc i) frames framed_here found τ (pushed δ ε) R.extends agreed_here) x x_data x_sizes (subst (Each (Scoped P) 0) (sym V.reads) V.sizes) ∙ V.reads

          S : Suits (filled (pushed δ ε) 0 s) R.size × Each (Scoped P) 0 (filled (pushed δ ε) 0 s)
          S = R.suits (pushed δ ε) agreed_here

          function_in : Each (Scoped P) 0 (Fun k (filled ε 1 x) (filled ε 1 s))
          unfolding Each
          function_in = (kept_in P δ ε x 0 (subst (Each (Scoped P) 0) (sym x_is) V.sizes), kept_in P δ ε s 0 S.1)

          size_in : Each (Scoped P) 0 whole
          size_in = alone_scoped P whole 0 whole_alone

          of_n : (d : Free) → P d → Free_of fn d
          of_n d h = (fresh d h).0

          of_m : (d : Free) → P d → Free_of fm d
          of_m d h = (fresh d h).1

          low_positions : Each (Of_positions (λ m. m < k)) 1 (filled ε 1 x)
          unfolding replaced Formed
          low_positions = (formed_replaced (fill ε) (fill_keeps ε) (fill_back ε) (Fun k x s) 0 whole_formed).2

          used_there : Instance k (filled ε 1 x) (filled ε 1 s) zero V.value R.size fn fm δ ρ
          used_there = record {
            two = two;
            low = low_positions;
            wanted_low = none_means P (λ m. m < 0) V.value value_alone;
            new = each_scoped P (Free_of fm) of_m (Fun k (filled ε 1 x) (filled ε 1 s)) 0 function_in;
            wanted_new = (each_scoped P (Free_of fn) of_n whole 0 size_in, each_scoped P (Free_of fm) of_m whole 0 size_in);
            chosen = λ m l. absurd (omega (arith, l));
            argument = refl;
            used = δ_free;
            value = δ_value;
            met = δ_met;
          }

          suits_here : Suits (Fun k (filled ε 1 x) (filled ε 1 s)) whole
          suits_here = suits_function fn fm δ ρ used_there (each_scoped P (Free_of fn) of_n (Fun k (filled ε 1 x) (filled ε 1 s)) 0 function_in)
              (subst (λ y. Suits (opened ρ V.value) y) (sym (opened_filled δ ε x ∙ x_is)) (subst (λ y. Suits y V.value) (sym (alone_replaced P (given ρ) (λ j y. refl) V.value 0 1 value_alone)) suits_same))
              (subst (λ y. Suits y (opened ρ R.size)) (sym (opened_filled δ ε s)) (subst (Suits (filled (pushed δ ε) 0 s)) (sym (alone_replaced P (given ρ) (λ j y. refl) R.size 0 1 R.alone)) S.0))

          function_filled : filled ε 0 (Fun k x s) ≡ Fun k (filled ε 1 x) (filled ε 1 s)
          unfolding replaced
          function_filled = refl

        chosen_arrow : Chosen σ τ (Fun zero p r) (Fun k x s) i f
        unfolding with_types function_holes erased all_erased Each_hole
        chosen_arrow = record {
          taking = R.taking;
          stays = stays_all;
          extends = λ j d e h. R.extends j d e (V.extends j d e h);
          slots = R.slots;
          later = let a = V.next in let l = R.later in omega (arith, a, l);
          maker = R.maker ∙ V.maker;
          here = λ v o. by_place v (has_hole p v) refl o;
          size = whole;
          is = λ Θ a. ap (λ w. Fun zero w (with_types Θ r)) (V.is Θ (agrees_before n types P settled Vars Θ σ τ stays_all a)) ∙ ap (Fun zero V.value) (R.is Θ a);
          alone = whole_alone;
          formed = whole_formed_now;
          variables = (V.variables, R.variables);
          typed = ap (λ u. fun_ty u (erased R.size)) V.typed ∙ ap (fun_ty (erased x)) R.typed;
          suits = λ ε a. (subst (λ y. Suits y whole) (sym (function_filled ε a)) (suits_here ε a), subst (Each (Scoped P) 0) (sym (function_filled ε a)) (function_in ε a));
        }

      pub chosen_met : (p : Size) → Met_at p
      unfolding is_wanted is_simple Each_hole Each instance instances erased all_erased Formed Flat_type
      chosen_met (Hole v) b φ χ i f t σ τ e inferred kinds says typed taking slots taken framed frames known z = variable_result v b φ χ i f t σ τ e inferred kinds says typed taking slots taken framed frames (known refl) z
      chosen_met (Fun zero p r) b φ χ i f t σ τ e inferred kinds says typed taking slots taken framed frames known z = by_function (chosen_met r) F.chosen F.from F.to F.is_function F.from_typed F.to_typed
        where
          F : Function_size t (erased (instance n types p)) (erased (instance n types r))
          F = function_is t (erased (instance n types p)) (erased (instance n types r)) says.formed typed

          w : (is_simple q p ≡ true) × (is_wanted q (λ v. regular) r ≡ true)
          w = both_true (is_simple q p) (is_wanted q (λ v. regular) r) e

          by_says : Met_at r → (l : ℕ) (x s : Size) → Name_says P Vars i (Fun l x s) → erased x ≡ erased (instance n types p) → erased s ≡ erased (instance n types r) → meet lo (wanted_way b regular) at φ (Fun zero (instance n types p) (instance n types r)) χ (Fun l x s) σ ≡ Ok τ → Chosen σ τ (Fun zero p r) (Fun l x s) i f
          by_says rest l x s o tx ts y = chosen_arrow p r rest b φ χ i f l x s σ τ w.0 w.1 inferred.0 inferred.1 kinds.1 o.arrows.0 o.formed.0 o.sizes.0 (record { formed = o.formed.1; sizes = o.sizes.1; variables = o.variables.1; arrows = o.arrows.1 }) o.formed tx ts taking slots taken framed frames y

          by_function : Met_at r → (l : ℕ) (x s : Size) → t ≡ Fun l x s → erased x ≡ erased (instance n types p) → erased s ≡ erased (instance n types r) → Chosen σ τ (Fun zero p r) t i f
          by_function rest l x s g tx ts = subst (λ y. Chosen σ τ (Fun zero p r) y i f) (sym g) (by_says rest l x s (subst (Name_says P Vars i) g says) tx ts (ap (λ y. meet lo (wanted_way b regular) at φ (Fun zero (instance n types p) (instance n types r)) χ y σ) (sym g) ∙ z))
      chosen_met (Fun (suc l) p r) b φ χ i f t σ τ e inferred kinds says typed taking slots taken framed frames known z = absurd (let y : false ≡ true = e in cc)
      chosen_met (Built (head.Scalar s) no_size) b φ χ i f t σ τ e inferred kinds says typed taking slots taken framed frames known z = flat_result (Built (head.Scalar s) no_size) b φ χ i f t σ τ e inferred kinds says (scalar_kind K s (erased t) typed) (subst Flat_type (sym typed) (tt, tt)) typed taking slots taken known z
      chosen_met (Built (head.Scalar s) (size_and y ts)) b φ χ i f t σ τ e inferred kinds says typed taking slots taken framed frames known z = absurd (let w : false ≡ true = e in cc)
      chosen_met (Built head.Array ts) b φ χ i f t σ τ e inferred kinds says typed taking slots taken framed frames known z = absurd (let w : false ≡ true = e in cc)
      chosen_met (Built head.Tuple ts) b φ χ i f t σ τ e inferred kinds says typed taking slots taken framed frames known z = absurd (let w : false ≡ true = e in cc)
      chosen_met (Built (head.Record m) ts) b φ χ i f t σ τ e inferred kinds says typed taking slots taken framed frames known z = absurd (let w : false ≡ true = e in cc)
      chosen_met (Built head.Fun ts) b φ χ i f t σ τ e inferred kinds says typed taking slots taken framed frames known z = absurd (let w : false ≡ true = e in cc)
      chosen_met (Built (head.Rigid m c) ts) b φ χ i f t σ τ e inferred kinds says typed taking slots taken framed frames known z = absurd (let w : false ≡ true = e in cc)
      chosen_met (Built (head.Abstract m c) ts) b φ χ i f t σ τ e inferred kinds says typed taking slots taken framed frames known z = absurd (let w : false ≡ true = e in cc)
      chosen_met (Open m v u) b φ χ i f t σ τ e inferred kinds says typed taking slots taken framed frames known z = absurd inferred
      chosen_met (Level d x) b φ χ i f t σ τ e inferred kinds says typed taking slots taken framed frames known z = absurd (let w : false ≡ true = e in cc)
