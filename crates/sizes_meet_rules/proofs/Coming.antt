-- A lambda whose parameters are wanted of some sized types of data: they come to them as they are wanted.
use Rattle.std.proofs.Common.{◌≡◌, ℕ, zero, suc, ◌+◌, ◌<◌, ◌≤◌, List, [], ◌∷◌, ◌++◌, Bool, true, false, ◌||◌, cond, nat_eq, Option, Some, None, Ok, refl, sym, ap, ◌∙◌, subst, arith, inr, eq-eqb, eqb-true}
use Rattle.std.proofs.lemmas.Bool.{ne_eqb}
use Rattle.fut_scalar.specs.declared.place.BindId.{BindId}
use Rattle.fut_flat.specs.declared.prim.Ref.{Ref}
use Rattle.fut_flat.specs.Numbers.{pattern_numbers, all_pattern_numbers}
use Rattle.fut_flat.specs.Terms.{Patterns, no_pattern, pattern_and}
use Rattle.fut_flat.specs.Erased.{FlatPattern}
use Rattle.fut_types.specs.declared.Head.TheVariants as head
use Rattle.fut_types.specs.declared.Kind.{Kind}
use Rattle.fut_types.specs.Types.{Sub, Kinds, HasKind, level}
use Rattle.fut_typing.specs.Names.{Names}
use Rattle.fut_typing.specs.Patterns.{Pattern_typed, Parameters_typed, with_pattern as typed_with}
use Rattle.fut_typing.specs.Scopes.{Scope as TypeScope, the_one}
use Rattle.sized_types.specs.Sizes.{Free, Const, Name, Own, Unknown, Slot, Dim, At, Bound, Inferred, Written, Size, Hole, Open, Level, Built, Fun, Sizes, no_size, size_and, erased, all_erased, is_free, replaced, all_replaced, placed, binding, bound}
use Rattle.sized_types.specs.Standing.{stands}
use Rattle.fut_sizes.specs.Agreeing.{then_do}
use Rattle.fut_sizes.specs.Functions.{Taking, is_slot, stands_among, sizes_in, position_from, or_position, value_name, value_position, is_own, is_met, chosen_by, frame_of, arrow, function_size}
use Rattle.fut_sizes.specs.Matching.{Found, none_opened, inside, dim_in, in_opened, data_way, meet}
use Rattle.fut_sizes.specs.Rules.{Each_hole, Each_holes}
use Rattle.fut_sizes.specs.Scopes.{Scope, bound_by}
use Rattle.fut_sizes.specs.Sizing.{Entered, is_open, some_open, open_frame, parameter_frame, in_pattern, own_sizes, entered, enter, enter_wanted, all_entered}
use Rattle.fut_sizes.specs.Suiting.{Each, Each_all, Scoped, Data, All_data}
use Rattle.sizes_meet_rules.specs.Known.{Formed, All_formed}
use Rattle.sizes_meet_rules.specs.Plain.{Formed_type, Formed_types, Plain_pattern, Plain_patterns}
use Rattle.sizes_meet_rules.proofs.Arrows.{standing_has}
use Rattle.sizes_meet_rules.proofs.Chains.{Alone, alone_replaced}
use Rattle.sizes_meet_rules.proofs.Entering.{joined, no_more, param, Param_says, written_says, written_no_slot, param_data, takings, all_bound, All_fit, bound_in}
use Rattle.sizes_meet_rules.proofs.Finding.{standing}
use Rattle.sizes_meet_rules.proofs.Fitting.{data_alone, each_alone, same_met}
use Rattle.sizes_meet_rules.proofs.Functions.{met_between}
use Rattle.sizes_meet_rules.proofs.Listing.{Some_at, found_at, among_nth, listed_is, listed_has}
use Rattle.sizes_meet_rules.proofs.Meeting.{then_ok, same_ok, each_scoped, Data_wanted, stands_wanted, Same_parameters, Around}
use Rattle.sizes_meet_rules.proofs.Naming.{value_home, each_stands, or_first, or_later}
use Rattle.sizes_meet_rules.proofs.Parameters.{All_come}
use Rattle.sizes_meet_rules.proofs.Replacing.{each_as, same_free}
use Rattle.sizes_meet_rules.proofs.Settling.{Is_settled}
use Rattle.sizes_meet_rules.proofs.Taking.{pattern_some, Has_parts, bound_scope}

-- ---- a type without type variables has no variables

mutual
  unfolding Each_hole Each_holes Formed All_formed Formed_type erased all_erased

  no_holes : (t : Size) → Formed t → Formed_type (erased t) → Each_hole (λ v. ⊥) t
  no_holes (Hole (Inferred v)) f h = h
  no_holes (Hole (Written b k)) f h = h
  no_holes (Open n v u) f h = f
  no_holes (Level d t) f h = no_holes t f h
  no_holes (Built (head.Scalar s) no_size) f h = tt
  no_holes (Built (head.Scalar s) (size_and t ts)) f h = absurd h
  no_holes (Built head.Array ts) f h = absurd f.0
  no_holes (Built head.Tuple ts) f h = all_no_holes ts f.1 h
  no_holes (Built (head.Record n) ts) f h = all_no_holes ts f.1 h
  no_holes (Built head.Fun ts) f h = absurd f.0
  no_holes (Built (head.Rigid b k) ts) f h = absurd f.0
  no_holes (Built (head.Abstract b k) ts) f h = all_no_holes ts f.1 h
  no_holes (Fun k p r) f h = (no_holes p f.0 h.0, no_holes r f.1 h.1)

  all_no_holes : (ts : Sizes) → All_formed ts → Formed_types (all_erased ts) → Each_holes (λ v. ⊥) ts
  all_no_holes no_size f h = tt
  all_no_holes (size_and t ts) f h = (no_holes t f.0 h.0, all_no_holes ts f.1 h.1)

-- nothing is open in settled data
mutual
  unfolding is_open some_open Each Each_all Data All_data

  closed_data : (t : Size) → Data t → Each (Alone Is_settled) 0 t → is_open t ≡ false
  closed_data (Hole v) d h = refl
  closed_data (Open n v u) d h = absurd d
  closed_data (Level (At x) t) d h = ap (λ b. b || is_open t) h.0 ∙ closed_data t d h.1
  closed_data (Level (Bound k i) t) d h = absurd h.0
  closed_data (Built k ts) d h = all_closed_data ts d h
  closed_data (Fun k p r) d h = absurd d

  all_closed_data : (ts : Sizes) → All_data ts → Each_all (Alone Is_settled) 0 ts → some_open ts ≡ false
  all_closed_data no_size d h = refl
  all_closed_data (size_and t ts) d h = ap (λ b. b || some_open ts) (closed_data t d.0 h.0) ∙ all_closed_data ts d.1 h.1

-- ---- what comes to each parameter

abbrev pub Come_as : (ℕ → Size) → Patterns Ref BindId → ℕ → Size → Type 0
Come_as come no_pattern q t = Unit {0}
Come_as come (pattern_and p ps) q (Fun k x r) = (come q ≡ x) × Come_as come ps (q + pattern_numbers p) r
Come_as come ps q t = ⊥

abbrev pub come_of : Patterns Ref BindId → ℕ → Size → ℕ → Size
come_of no_pattern q t m = t
come_of (pattern_and p ps) q (Fun k x r) m = cond (nat_eq q m) x (come_of ps (q + pattern_numbers p) r m)
come_of (pattern_and p ps) q t m = t

module _ (types : Sub) (P : Free → Type 0) where
  come_from : (come : ℕ → Size) (ps : Patterns Ref BindId) (q : ℕ) (t : Size) → Data_wanted types P ps q t → ((m : ℕ) → q ≤ m → come m ≡ come_of ps q t m) → Come_as come ps q t
  come_from come no_pattern q t d a = tt
  come_from come (pattern_and p ps) q (Fun k x r) d a = (
    a q (omega arith) ∙ ap (λ b. cond b x (come_of ps (q + pattern_numbers p) r q)) (eq-eqb q q refl),
    come_from come ps (q + pattern_numbers p) r d.1 (λ m l. let n = pattern_some p in a m (omega (arith, l)) ∙ ap (λ b. cond b x (come_of ps (q + pattern_numbers p) r m)) (ne_eqb q m (λ z. omega (arith, z, l, n)))),
  )
  come_from come (pattern_and p ps) q (Hole v) d a = absurd d
  come_from come (pattern_and p ps) q (Open m v u) d a = absurd d
  come_from come (pattern_and p ps) q (Level e t) d a = absurd d
  come_from come (pattern_and p ps) q (Built k ts) d a = absurd d

  pub come_as : (ps : Patterns Ref BindId) (q : ℕ) (t : Size) → Data_wanted types P ps q t → Come_as (come_of ps q t) ps q t
  come_as ps q t d = come_from (come_of ps q t) ps q t d (λ m l. refl)

  one_free : (j : ℕ) (d : Dim) → Scoped P j d → (z : Free) → d ≡ At z → P z
  one_free j (At y) h z e = subst P (let w : At y ≡ At z = e in let v : y ≡ z = cc in v) h
  one_free j (Bound k i) h z e = absurd (let w : Bound k i ≡ At z = e in cc)

  -- what is wanted is of these sizes
  pub wanted_in : (ps : Patterns Ref BindId) (q : ℕ) (t : Size) → Data_wanted types P ps q t → (y : Free) → stands_wanted ps t y ≡ true → P y
  wanted_in no_pattern q t d y e = absurd (let z : false ≡ true = e in cc)
  wanted_in (pattern_and p ps) q (Fun k x r) d y e = by_first (wanted_in ps (q + pattern_numbers p) r d.1 y) (stands x y) refl e
    where
      by_first : (stands_wanted ps r y ≡ true → P y) → (b : Bool) → stands x y ≡ b → b || stands_wanted ps r y ≡ true → P y
      by_first go true f z = standing_has P x 0 y (each_as (Scoped P) (λ j d. (z : Free) → d ≡ At z → P z) one_free x 0 d.0.2) f
      by_first go false f z = go z
  wanted_in (pattern_and p ps) q (Hole v) d y e = absurd d
  wanted_in (pattern_and p ps) q (Open m v u) d y e = absurd d
  wanted_in (pattern_and p ps) q (Level z t) d y e = absurd d
  wanted_in (pattern_and p ps) q (Built k ts) d y e = absurd d

  -- sizes of frames stand in none of them
  module _ (g : ℕ → Dim → Dim) (stays : (j : ℕ) (x : Free) → g j (At x) ≡ At x) where
    kept_whole : (x : Size) (j : ℕ) → Data x → Each (Scoped P) 0 x → replaced g j x ≡ x
    kept_whole x j d h = alone_replaced P g stays x 0 j (data_alone P x d h)

    wanted_replaced : (ps : Patterns Ref BindId) (q : ℕ) (t : Size) (j : ℕ) → Data_wanted types P ps q t → Data_wanted types P ps q (replaced g j t)
    unfolding replaced
    wanted_replaced no_pattern q t j d = tt
    wanted_replaced (pattern_and p ps) q (Fun k x r) j d = (subst (λ y. Data y × Formed y × Each (Scoped P) 0 y × (erased y ≡ types q)) (sym (kept_whole x (suc j) d.0.0 d.0.2)) d.0, wanted_replaced ps (q + pattern_numbers p) r (suc j) d.1)
    wanted_replaced (pattern_and p ps) q (Hole v) j d = absurd d
    wanted_replaced (pattern_and p ps) q (Open m v u) j d = absurd d
    wanted_replaced (pattern_and p ps) q (Level e t) j d = absurd d
    wanted_replaced (pattern_and p ps) q (Built k ts) j d = absurd d

    come_replaced : (come : ℕ → Size) (ps : Patterns Ref BindId) (q : ℕ) (t : Size) (j : ℕ) → Data_wanted types P ps q t → Come_as come ps q t → Come_as come ps q (replaced g j t)
    unfolding replaced
    come_replaced come no_pattern q t j d a = tt
    come_replaced come (pattern_and p ps) q (Fun k x r) j d a = (a.0 ∙ sym (kept_whole x (suc j) d.0.0 d.0.2), come_replaced come ps (q + pattern_numbers p) r (suc j) d.1 a.1)
    come_replaced come (pattern_and p ps) q (Hole v) j d a = absurd d
    come_replaced come (pattern_and p ps) q (Open m v u) j d a = absurd d
    come_replaced come (pattern_and p ps) q (Level e t) j d a = absurd d
    come_replaced come (pattern_and p ps) q (Built k ts) j d a = absurd d

module _ (N : Names) (types : Sub) (home : ℕ → ℕ) (K : Kinds) (places : Kind) (data_places : 1 ≤ level places) (P : Free → Type 0) (settled : (d : Free) → P d → is_slot d ≡ false) (come : ℕ → Size) where
  abbrev own : FlatPattern → ℕ → Size
  own p q = param N types home K places come p q

  abbrev with_wanted : Scope → List Taking → Option Size → Found → Entered
  with_wanted scope ts w σ = record { scope = scope; parameters = ts; wanted = w; found = σ }

  record One_entered (p : FlatPattern) (q : ℕ) (x r : Size) (scope : Scope) (ts : List Taking) (σ : Found) (next : Entered) : Type 0 where
    is : next ≡ with_wanted (bound_scope N p (own p q) scope) (ts ++ record { pattern = p; node = q; size = own p q } ∷ []) (Some r) σ
    fit : Has_parts N p (own p q)
    same : own p q ≡ x

  module _ (lo : ℕ) where
    one_wanted : (q : ℕ) (p : FlatPattern) (T : TypeScope) (scope : Scope) (ts : List Taking) (σ : Found) (k : ℕ) (x r : Size) → Plain_pattern types home K places p q → Formed_type (types q) → HasKind K places (types q) → Pattern_typed N places K types p q T → Data x → Formed x → Each (Scoped P) 0 x → erased x ≡ types q → come q ≡ x → (next : Entered)
        → enter N types lo p q (Some (Fun k x r)) (with_wanted scope ts (Some (Fun k x r)) σ) ≡ Ok next → One_entered p q x (in_opened (inside (parameter_frame p q k) none_opened) r) scope ts σ next
    one_wanted q p T scope ts σ k x r h f kind ty dx fx sx tx c next e =
        let E : Entered = with_wanted scope ts (Some (Fun k x r)) σ in
        let rest : Size = in_opened (inside (parameter_frame p q k) none_opened) r in
        let alone_x : Each (Alone P) 0 x = data_alone P x dx sx in
        let settled_x : Each (Alone Is_settled) 0 x = each_alone P Is_settled settled x 0 alone_x in
        let own_is : own p q ≡ in_pattern N types p x = ap (in_pattern N types p) c in
        let W = written_says N types home K places Is_settled (λ y. refl) p q h (written_no_slot N types home K places p) x (record { sizes = each_scoped P Is_settled settled x 0 sx; variables = no_holes x fx (subst Formed_type (sym tx) f); formed = fx }) in
        let in_data : Data (in_pattern N types p x) = param_data N types home K places (in_pattern N types p x) q data_places kind W.0.formed (W.1 ∙ tx) in
        let now : then_do (meet lo data_way lo none_opened (in_pattern N types p x) none_opened x σ) (λ found. entered N types p q x (Some rest) found E) ≡ Ok next =
        ap (λ y. enter_wanted N types lo p q y rest E) (sym (alone_replaced P (dim_in (inside (parameter_frame p q k) none_opened)) (λ j y. refl) x 0 0 alone_x))
        ∙ ap (λ b. cond b (entered N types p q (own_sizes N types q) (Some (in_opened (inside (open_frame p q k) none_opened) r)) σ E) (enter_wanted N types lo p q (in_opened (inside (parameter_frame p q k) none_opened) x) rest E)) (sym (closed_data x dx settled_x)) ∙ e in
        let X = then_ok (meet lo data_way lo none_opened (in_pattern N types p x) none_opened x σ) now in
        let same = same_met lo lo data_way none_opened none_opened (in_pattern N types p x) x σ X.first in_data dx W.0.formed fx (data_alone Is_settled (in_pattern N types p x) in_data W.0.sizes) settled_x W.1 X.done in
        let Y = then_ok (bound_by N [] q p (in_pattern N types p x) scope) X.rest in
        let B = bound_in N types home K places come data_places q p T scope h kind ty (subst (Param_says N types home K places Is_settled q) (sym own_is) (record { sizes = W.0.sizes; typed = W.1 ∙ tx; formed = W.0.formed; variables = W.0.variables })) Y.first (ap (λ y. bound_by N [] q p y scope) own_is ∙ Y.done) in
        record {
          is = sym (same_ok Y.rest) ∙ ap (λ w. with_wanted w (ts ++ record { pattern = p; node = q; size = in_pattern N types p x } ∷ []) (Some rest) X.first) B.0
              ∙ ap (λ y. with_wanted (bound_scope N p (own p q) scope) (ts ++ record { pattern = p; node = q; size = y } ∷ []) (Some rest) X.first) (sym own_is) ∙ ap (with_wanted (bound_scope N p (own p q) scope) (ts ++ record { pattern = p; node = q; size = own p q } ∷ []) (Some rest)) same.1;
          fit = B.1;
          same = own_is ∙ same.0;
        }

    -- the parameters are as they come
    abbrev pub All_are : Patterns Ref BindId → ℕ → Type 0
    All_are no_pattern q = Unit {0}
    All_are (pattern_and p ps) q = (own p q ≡ come q) × All_are ps (q + pattern_numbers p)

    pub record All_entered (ps : Patterns Ref BindId) (q : ℕ) (scope : Scope) (ts : List Taking) (σ : Found) (E : Entered) : Type 0 where
      pub scope_is : E.scope ≡ all_bound N types home K places come ps q scope
      pub parameters : E.parameters ≡ ts ++ takings N types home K places come ps q
      pub found : E.found ≡ σ
      pub fit : All_fit N types home K places come ps q
      pub are : All_are ps q

    pub wanted_is : (ps : Patterns Ref BindId) (q : ℕ) (t : Size) (T : TypeScope) (scope : Scope) (ts : List Taking) (σ : Found) (E : Entered) → Plain_patterns types home K places ps q → Parameters_typed N places K types ps q T → Data_wanted types P ps q t → Come_as come ps q t
        → all_entered N types lo ps q (with_wanted scope ts (Some t) σ) ≡ Ok E → All_entered ps q scope ts σ E
    wanted_is no_pattern q t T scope ts σ E h ty d c e = record { scope_is = ap (λ (x : Entered). x.scope) (sym (same_ok e)); parameters = ap (λ (x : Entered). x.parameters) (sym (same_ok e)) ∙ sym (no_more N types home K places ts); found = ap (λ (x : Entered). x.found) (sym (same_ok e)); fit = tt; are = tt }
    wanted_is (pattern_and p ps) q (Fun k x r) T scope ts σ E h ty d c e =
        let X = then_ok (enter N types lo p q (Some (Fun k x r)) (with_wanted scope ts (Some (Fun k x r)) σ)) e in
        let one = one_wanted q p T scope ts σ k x r h.0 h.1 h.2 ty.0 d.0.0 d.0.1 d.0.2 d.0.3 c.0 X.first X.done in
        let R = wanted_is ps (q + pattern_numbers p) (in_opened (inside (parameter_frame p q k) none_opened) r) (typed_with the_one p q T) (bound_scope N p (own p q) scope) (ts ++ record { pattern = p; node = q; size = own p q } ∷ []) σ E h.3 ty.1
        (wanted_replaced types P (dim_in (inside (parameter_frame p q k) none_opened)) (λ j y. refl) ps (q + pattern_numbers p) r 0 d.1) (come_replaced types P (dim_in (inside (parameter_frame p q k) none_opened)) (λ j y. refl) come ps (q + pattern_numbers p) r 0 d.1 c.1)
        (ap (all_entered N types lo ps (q + pattern_numbers p)) (sym one.is) ∙ X.rest) in
        record {
          scope_is = R.scope_is;
          parameters = R.parameters ∙ joined ts (record { pattern = p; node = q; size = own p q } ∷ []) (takings N types home K places come ps (q + pattern_numbers p));
          found = R.found;
          fit = (one.fit, R.fit);
          are = (one.same ∙ sym c.0, R.are);
        }
    wanted_is (pattern_and p ps) q (Hole v) T scope ts σ E h ty d c e = absurd d
    wanted_is (pattern_and p ps) q (Open m v u) T scope ts σ E h ty d c e = absurd d
    wanted_is (pattern_and p ps) q (Level y t) T scope ts σ E h ty d c e = absurd d
    wanted_is (pattern_and p ps) q (Built k ts') T scope ts σ E h ty d c e = absurd d

  -- their sizes stand there
  abbrev There : Patterns Ref BindId → ℕ → Free → Type 0
  There ps q d = standing N types home K places come ps q d ≡ true

  pub all_come : (lo : ℕ) (W : Free → Type 0) (ps : Patterns Ref BindId) (q : ℕ) (t : Size) → Plain_patterns types home K places ps q → Data_wanted types P ps q t → Come_as come ps q t → All_are lo ps q → ((d : Free) → There ps q d → W d) → All_come N types home K places data_places come W ps q
  all_come lo W no_pattern q t h d c a into = tt
  all_come lo W (pattern_and p ps) q (Fun k x r) h d c a into =
      let same : own p q ≡ x = a.0 ∙ c.0 in (
        inr (subst (Param_says N types home K places W q) (sym same) (record {
          sizes = each_stands P W x d.0.0 d.0.2 (λ y e. into y (or_first (stands (own p q) y) (standing N types home K places come ps (q + pattern_numbers p) y) (ap (λ z. stands z y) same ∙ e)));
          typed = d.0.3;
          formed = d.0.1;
          variables = no_holes x d.0.1 (subst Formed_type (sym d.0.3) h.1);
        })),
        all_come lo W ps (q + pattern_numbers p) r h.3 d.1 c.1 a.1 (λ y e. into y (or_later (stands (own p q) y) (standing N types home K places come ps (q + pattern_numbers p) y) e)),
      )
  all_come lo W (pattern_and p ps) q (Hole v) h d c a into = absurd d
  all_come lo W (pattern_and p ps) q (Open m v u) h d c a into = absurd d
  all_come lo W (pattern_and p ps) q (Level y t) h d c a into = absurd d
  all_come lo W (pattern_and p ps) q (Built k ts) h d c a into = absurd d

  -- what stands in a parameter is wanted there
  pub standing_wanted : (lo : ℕ) (ps : Patterns Ref BindId) (q : ℕ) (t : Size) → Data_wanted types P ps q t → Come_as come ps q t → All_are lo ps q → (y : Free) → There ps q y → stands_wanted ps t y ≡ true
  standing_wanted lo no_pattern q t d c a y e = e
  standing_wanted lo (pattern_and p ps) q (Fun k x r) d c a y e = by_first (standing_wanted lo ps (q + pattern_numbers p) r d.1 c.1 a.1 y) (stands (own p q) y) refl e
    where
      by_first : (There ps (q + pattern_numbers p) y → stands_wanted ps r y ≡ true) → (b : Bool) → stands (own p q) y ≡ b → b || standing N types home K places come ps (q + pattern_numbers p) y ≡ true → stands x y || stands_wanted ps r y ≡ true
      by_first go true f z = or_first (stands x y) (stands_wanted ps r y) (ap (λ w. stands w y) (sym (a.0 ∙ c.0)) ∙ f)
      by_first go false f z = or_later (stands x y) (stands_wanted ps r y) (go z)
  standing_wanted lo (pattern_and p ps) q (Hole v) d c a y e = absurd d
  standing_wanted lo (pattern_and p ps) q (Open m v u) d c a y e = absurd d
  standing_wanted lo (pattern_and p ps) q (Level z t) d c a y e = absurd d
  standing_wanted lo (pattern_and p ps) q (Built k ts) d c a y e = absurd d

-- ---- the arrows of such a lambda: its parameters choose nothing, and are as they come

module _ (P : Free → Type 0) (g : ℕ → Dim → Dim) (stays : (j : ℕ) (x : Free) → P x → g j (At x) ≡ At x) where
  mutual
    unfolding replaced all_replaced Each Each_all

    pub known_replaced : (t : Size) (i j : ℕ) → Each (Alone P) i t → replaced g j t ≡ t
    known_replaced (Hole v) i j h = refl
    known_replaced (Open n v u) i j h = refl
    known_replaced (Level (At x) t) i j h = ap (λ e. Level e (replaced g j t)) (stays j x h.0) ∙ ap (Level (At x)) (known_replaced t i j h.1)
    known_replaced (Level (Bound k m) t) i j h = absurd h.0
    known_replaced (Built k ts) i j h = ap (Built k) (all_known_replaced ts i j h)
    known_replaced (Fun k p r) i j h = ap (λ x. Fun k x (replaced g (suc j) r)) (known_replaced p (suc i) (suc j) h.0) ∙ ap (Fun k p) (known_replaced r (suc i) (suc j) h.1)

    all_known_replaced : (ts : Sizes) (i j : ℕ) → Each_all (Alone P) i ts → all_replaced g j ts ≡ ts
    all_known_replaced no_size i j h = refl
    all_known_replaced (size_and t ts) i j h = ap (λ x. size_and x (all_replaced g j ts)) (known_replaced t i j h.0) ∙ ap (size_and t) (all_known_replaced ts i j h.1)

  module _ (types : Sub) where
    same_replaced : (ps : Patterns Ref BindId) (q : ℕ) (t u : Size) (j : ℕ) → Data_wanted types P ps q t → Same_parameters ps t u → Same_parameters ps t (replaced g j u)
    unfolding replaced
    same_replaced no_pattern q t u j d a = tt
    same_replaced (pattern_and p ps) q (Fun k x r) (Fun zero y s) j d a = (known_replaced y 0 (suc j) (subst (Each (Alone P) 0) (sym a.0) (data_alone P x d.0.0 d.0.2)) ∙ a.0, same_replaced ps (q + pattern_numbers p) r s (suc j) d.1 a.1)
    same_replaced (pattern_and p ps) q (Fun k x r) (Fun (suc l) y s) j d a = absurd a
    same_replaced (pattern_and p ps) q (Fun k x r) (Hole v) j d a = absurd a
    same_replaced (pattern_and p ps) q (Fun k x r) (Open m v z) j d a = absurd a
    same_replaced (pattern_and p ps) q (Fun k x r) (Level e z) j d a = absurd a
    same_replaced (pattern_and p ps) q (Fun k x r) (Built h ts) j d a = absurd a
    same_replaced (pattern_and p ps) q (Hole v) u j d a = absurd d
    same_replaced (pattern_and p ps) q (Open m v z) u j d a = absurd d
    same_replaced (pattern_and p ps) q (Level e z) u j d a = absurd d
    same_replaced (pattern_and p ps) q (Built h ts) u j d a = absurd d

-- none has the property
none_of : (P : Free → Type 0) (q : Free → Bool) (t : Size) → Each (Scoped P) 0 t → ((x : Free) → P x → q x ≡ true → ⊥) → sizes_in q t ≡ []
none_of P q t h never = by_list (sizes_in q t) refl
  where
    by_list : (xs : List Free) → sizes_in q t ≡ xs → sizes_in q t ≡ []
    by_list [] e = e
    by_list (x ∷ xs) e =
        let there : stands_among (sizes_in q t) x ≡ true = ap (λ l. stands_among l x) e ∙ or_first (is_free x x) (stands_among xs x) (same_free x) in
        absurd (never x (listed_has P q t h x there) (listed_is q t x there))

module _ (N : Names) (types : Sub) (home : ℕ → ℕ) (K : Kinds) (places : Kind) (data_places : 1 ≤ level places) (lo hi : ℕ) (come : ℕ → Size) where
  abbrev Outer : Free → Type 0
  Outer d = Around N types home lo hi d

  module _ (p : FlatPattern) (q : ℕ) (plain : Plain_pattern types home K places p q) (l : lo ≤ q) (l2 : q < hi) (met : List Free) (mets : (x : Free) → stands_among met x ≡ true → is_met lo hi x ≡ true) where
    abbrev taking : Taking
    taking = record { pattern = p; node = q; size = param N types home K places come p q }

    not_own : (x : Free) → Outer x → is_own [] q x ≡ true → ⊥
    not_own (Own n i) o e = let z : n ≡ q = eqb-true n q e in o.1 (omega (arith, z, l), omega (arith, z, l2))
    not_own (Name b) o e = let z : false ≡ true = e in cc
    not_own (Const c) o e = let z : false ≡ true = e in cc
    not_own (Unknown n i) o e = let z : false ≡ true = e in cc
    not_own (Slot i) o e = let z : false ≡ true = e in cc

    not_met : (x : Free) → Outer x → is_met lo hi x ≡ true → ⊥
    not_met (Unknown n i) o e = o.1 (met_between lo hi n i e)
    not_met (Own n i) o e = let z : false ≡ true = e in cc
    not_met (Name b) o e = let z : false ≡ true = e in cc
    not_met (Const c) o e = let z : false ≡ true = e in cc
    not_met (Slot i) o e = let z : false ≡ true = e in cc

    no_value : (r : Option ℕ) → ((b : ℕ) → r ≡ Some b → home b ≡ q) → (x : Free) → Outer x → value_position 0 q r x ≡ None
    no_value (Some b) h (Name c) o = by_name (nat_eq b c) refl
      where
        by_name : (k : Bool) → nat_eq b c ≡ k → cond (nat_eq b c) (Some zero) None ≡ None
        by_name true e = let z : home c ≡ q = ap home (sym (eqb-true b c e)) ∙ h b refl in absurd (o.1 (omega (arith, z, l), omega (arith, z, l2)))
        by_name false e = ap (λ k. cond k (Some zero) None) e
    no_value None h (Own n i) o = by_node (nat_eq n q) refl
      where
        by_node : (k : Bool) → nat_eq n q ≡ k → cond (nat_eq n q) (Some zero) None ≡ None
        by_node true e = let z : n ≡ q = eqb-true n q e in absurd (o.1 (omega (arith, z, l), omega (arith, z, l2)))
        by_node false e = ap (λ k. cond k (Some zero) None) e
    no_value (Some b) h (Own n i) o = refl
    no_value (Some b) h (Const c) o = refl
    no_value (Some b) h (Unknown n i) o = refl
    no_value (Some b) h (Slot i) o = refl
    no_value None h (Name c) o = refl
    no_value None h (Const c) o = refl
    no_value None h (Unknown n i) o = refl
    no_value None h (Slot i) o = refl

    no_place : (x : Free) → Outer x → position_from 1 met x ≡ None
    no_place x o = by_place (position_from 1 met x) refl
      where
        by_place : (r : Option ℕ) → position_from 1 met x ≡ r → position_from 1 met x ≡ None
        by_place None e = e
        by_place (Some i) e = absurd (not_met x o (mets x (here (found_at met 1 x i e))))
          where
            here : Some_at met 1 x i → stands_among met x ≡ true
            here (j, a, b, c) = subst (λ y. stands_among met y ≡ true) c (among_nth met j b)

    no_frame : (x : Free) → Outer x → frame_of [] taking met x ≡ None
    no_frame x o = ap (λ r. or_position r (position_from 1 met x)) (no_value (value_name p) (value_home types home K places p q plain) x o) ∙ no_place x o

    stays : (j : ℕ) (x : Free) → Outer x → binding (frame_of [] taking met) j (At x) ≡ At x
    stays j x o = ap (placed j x) (no_frame x o)

    -- one arrow
    one_arrow : (x r : Size) → Data x → Each (Scoped Outer) 0 x → param N types home K places come p q ≡ x → (arrow (chosen_by [] taking) taking met r ≡ Fun 0 (bound (frame_of [] taking met) (param N types home K places come p q)) (bound (frame_of [] taking met) r)) × (bound (frame_of [] taking met) (param N types home K places come p q) ≡ x)
    one_arrow x r dx sx e = (
      ap (λ c. arrow c taking met r) (none_of Outer (is_own [] q) (param N types home K places come p q) (subst (Each (Scoped Outer) 0) (sym e) sx) not_own),
      known_replaced Outer (binding (frame_of [] taking met)) stays (param N types home K places come p q) 0 0 (subst (Each (Alone Outer) 0) (sym e) (data_alone Outer x dx sx)) ∙ e,
    )

  none_met : (x : Free) → stands_among [] x ≡ true → is_met lo hi x ≡ true
  none_met x e = absurd (let z : false ≡ true = e in cc)

  abbrev Are : Patterns Ref BindId → ℕ → Type 0
  Are ps q = All_are N types home K places data_places Outer (λ d o. o.0) come lo ps q

  pub function_shape : (ps : Patterns Ref BindId) (q : ℕ) (t r : Size) → Plain_patterns types home K places ps q → lo ≤ q → q + all_pattern_numbers ps ≤ hi → Data_wanted types Outer ps q t → Come_as come ps q t → Are ps q → Same_parameters ps t (function_size [] lo hi (takings N types home K places come ps q) r)
  unfolding function_size
  function_shape no_pattern q t r h l l2 d c a = tt
  function_shape (pattern_and p no_pattern) q (Fun k x s) r h l l2 d c a =
      let n = pattern_some p in
      let met : List Free = sizes_in (is_met lo hi) r in
      let A = one_arrow p q h.0 l (omega (arith, l2, n)) met (listed_is (is_met lo hi) r) x r d.0.0 d.0.2 (a.0 ∙ c.0) in
      subst (Same_parameters (pattern_and p no_pattern) (Fun k x s)) (sym A.0) (A.1, tt)
  function_shape (pattern_and p (pattern_and p2 ps)) q (Fun k x s) r h l l2 d c a =
      let n = pattern_some p in
      let inner : Size = function_size [] lo hi (takings N types home K places come (pattern_and p2 ps) (q + pattern_numbers p)) r in
      let A = one_arrow p q h.0 l (omega (arith, l2, n)) [] none_met x inner d.0.0 d.0.2 (a.0 ∙ c.0) in
      let R = function_shape (pattern_and p2 ps) (q + pattern_numbers p) s r h.3 (omega (arith, l)) (omega (arith, l2)) d.1 c.1 a.1 in
      let place : Free → Option ℕ = frame_of [] (record { pattern = p; node = q; size = param N types home K places come p q }) [] in
      subst (Same_parameters (pattern_and p (pattern_and p2 ps)) (Fun k x s)) (sym A.0) (A.1, same_replaced Outer (binding place) (stays p q h.0 l (omega (arith, l2, n)) [] none_met) types (pattern_and p2 ps) (q + pattern_numbers p) s inner 0 d.1 R)
  function_shape (pattern_and p ps) q (Hole v) r h l l2 d c a = absurd d
  function_shape (pattern_and p ps) q (Open m v u) r h l l2 d c a = absurd d
  function_shape (pattern_and p ps) q (Level y t) r h l l2 d c a = absurd d
  function_shape (pattern_and p ps) q (Built k ts) r h l l2 d c a = absurd d
