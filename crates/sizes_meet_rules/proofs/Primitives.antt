-- Primitives that take data: their sized types have a form, name no sizes by themselves, and give what their parameters have.
use Rattle.std.proofs.Common.{◌≡◌, ◌⊎◌, inl, inr, ℕ, zero, suc, ◌<◌, ◌≤◌, List, [], ◌∷◌, Bool, true, false, not, ◌||◌, ◌&&◌, cond, nat_eq, Some, None, refl, sym, ap, ◌∙◌, subst, arith, eq-eqb, eqb-true, ltb-true}
use Rattle.std.specs.Prelude.{nat_lt, min}
use Rattle.std.proofs.lemmas.Bool.{ne_eqb}
use Rattle.fut_flat.specs.declared.prim.Folding.TheVariants as folding
use Rattle.fut_flat.specs.declared.prim.Primitive.{Primitive}
use Rattle.fut_flat.specs.declared.prim.Primitive.TheVariants as prim
use Rattle.fut_types.specs.declared.Head.{Head}
use Rattle.fut_types.specs.declared.Head.TheVariants as head
use Rattle.fut_types.specs.Types.{Ty, Var, Made, none, more, Sub, Kinds, rank, least, applied, all_applied, fun_ty}
use Rattle.fut_typing.specs.Primitives.{prim_type}
use Rattle.sized_types.specs.Sizes.{Free, Dim, At, Bound, Variable, Inferred, Written, is_variable, Size, Hole, Open, Level, Built, Fun, Sizes, no_size, size_and, erased, all_erased, levels, all_levels}
use Rattle.sized_types.specs.Standing.{has_hole, some_hole}
use Rattle.fut_sizes.specs.Applications.{is_function, is_arrow}
use Rattle.fut_sizes.specs.Functions.{is_slot}
use Rattle.fut_sizes.specs.Primitives.{sized_type, prim_size, is_regular}
use Rattle.fut_sizes.specs.Rules.{Each_hole, Each_holes, filled as with_types, all_filled as all_with_types}
use Rattle.fut_sizes.specs.Scopes.{or_else, type_of, type_in, or_variable, instance, instances}
use Rattle.fut_sizes.specs.Steps.{State}
use Rattle.fut_sizes.specs.Suiting.{Each, Each_all, Scoped, Of_positions, Data, All_data}
use Rattle.sizes_meet_rules.specs.Known.{is_i64_size, Is_made, Formed, All_formed, Says}
use Rattle.sizes_meet_rules.specs.Plain.{Is_closed, Reduces}
use Rattle.sizes_meet_rules.proofs.Applying.{no_arrow}
use Rattle.sizes_meet_rules.proofs.Chains.{Given, Has_arrows, Widths, arrows_of}
use Rattle.sizes_meet_rules.proofs.Filling.{function_holes, data_holes, lambda_holes, taken_holes, rest_of, Rest_fine, Data_fit, Is_inferred, Nice, Arrows}
use Rattle.sizes_meet_rules.proofs.Fitting.{is_simple, is_wanted}
use Rattle.sizes_meet_rules.proofs.Lambdas.{Waiting_fit, Data_given, All_data_given, One_given, Lambda_there, One_lambda, Early_function, Early_there, Function_wanted, One_wide}
use Rattle.sizes_meet_rules.proofs.Meeting.{order, each_scoped}
use Rattle.fut_sizes.proofs.Erasing.{primitive_erased}
use Rattle.sizes_meet_rules.proofs.Replacing.{each_as, hole_as, holes_as}
use Rattle.sizes_meet_rules.proofs.Naming.{or_first, or_later}
use Rattle.sizes_meet_rules.proofs.Taking.{head_same}

both_true : (a b : Bool) → a && b ≡ true → (a ≡ true) × (b ≡ true)
both_true true b e = (refl, e)
both_true false b e = absurd (let z : false ≡ true = e in cc)

-- ---- what can be told by computing

unfoldable mutual
  each_is : (ℕ → Dim → Bool) → ℕ → Size → Bool
  each_is q j (Hole v) = true
  each_is q j (Open n v u) = true
  each_is q j (Level d t) = q j d && each_is q j t
  each_is q j (Built h ts) = all_are q j ts
  each_is q j (Fun k p r) = each_is q (suc j) p && each_is q (suc j) r

  all_are : (ℕ → Dim → Bool) → ℕ → Sizes → Bool
  all_are q j no_size = true
  all_are q j (size_and t ts) = each_is q j t && all_are q j ts

module _ (q : ℕ → Dim → Bool) where
  mutual
    unfolding each_is all_are Each Each_all

    each_told : (t : Size) (j : ℕ) → each_is q j t ≡ true → Each (λ i d. q i d ≡ true) j t
    each_told (Hole v) j e = tt
    each_told (Open n v u) j e = tt
    each_told (Level d t) j e = let w = both_true (q j d) (each_is q j t) e in (w.0, each_told t j w.1)
    each_told (Built h ts) j e = all_told ts j e
    each_told (Fun k p r) j e = let w = both_true (each_is q (suc j) p) (each_is q (suc j) r) e in (each_told p (suc j) w.0, each_told r (suc j) w.1)

    all_told : (ts : Sizes) (j : ℕ) → all_are q j ts ≡ true → Each_all (λ i d. q i d ≡ true) j ts
    all_told no_size j e = tt
    all_told (size_and t ts) j e = let w = both_true (each_is q j t) (all_are q j ts) e in (each_told t j w.0, all_told ts j w.1)

-- positions of the frame around: only chosen ones, not the argument's, and no size by itself
abbrev chosen_there : ℕ → ℕ → Dim → Bool
chosen_there k j (At d) = true
chosen_there k j (Bound m i) = cond (nat_eq (suc m) j) (nat_lt i k) true

abbrev no_value_there : ℕ → ℕ → Dim → Bool
no_value_there k j (At d) = true
no_value_there k j (Bound m i) = cond (nat_eq (suc m) j) (not (nat_eq i k)) true

abbrev framed : ℕ → Dim → Bool
framed j (At d) = false
framed j (Bound m i) = nat_lt m j

chosen_told : (k j : ℕ) (d : Dim) → chosen_there k j d ≡ true → Of_positions (λ i. i < k) j d
chosen_told k j (At d) e = tt
chosen_told k j (Bound m i) e = λ z. ltb-true i k (ap (λ b. cond b (nat_lt i k) true) (sym (eq-eqb (suc m) j z)) ∙ e)

no_value_told : (k j : ℕ) (d : Dim) → no_value_there k j d ≡ true → Of_positions (λ i. i ≡ k → ⊥) j d
no_value_told k j (At d) e = tt
no_value_told k j (Bound m i) e = λ z y. let w : false ≡ true = ap not (sym (eq-eqb i k y)) ∙ ap (λ b. cond b (not (nat_eq i k)) true) (sym (eq-eqb (suc m) j z)) ∙ e in cc

-- each position of the frame, up to some, stands there
unfoldable all_stand : ℕ → Size → Bool
all_stand zero p = true
all_stand (suc k) p = not (each_is (no_value_there k) 1 p) && all_stand k p

no_value_tells : (k j : ℕ) (d : Dim) → Of_positions (λ i. i ≡ k → ⊥) j d → no_value_there k j d ≡ true
no_value_tells k j (At d) h = refl
no_value_tells k j (Bound m i) h = by_frame (nat_eq (suc m) j) refl
  where
    by_frame : (b : Bool) → nat_eq (suc m) j ≡ b → cond b (not (nat_eq i k)) true ≡ true
    by_frame true e = ap not (ne_eqb i k (h (eqb-true (suc m) j e)))
    by_frame false e = refl

are_both : (a b : Bool) → a ≡ true → b ≡ true → a && b ≡ true
are_both true b e f = f
are_both false b e f = e

module _ (k : ℕ) where
  mutual
    unfolding each_is all_are Each Each_all

    each_tells : (t : Size) (j : ℕ) → Each (Of_positions (λ i. i ≡ k → ⊥)) j t → each_is (no_value_there k) j t ≡ true
    each_tells (Hole v) j h = refl
    each_tells (Open n v u) j h = refl
    each_tells (Level d t) j h = are_both (no_value_there k j d) (each_is (no_value_there k) j t) (no_value_tells k j d h.0) (each_tells t j h.1)
    each_tells (Built g ts) j h = all_tell ts j h
    each_tells (Fun l p r) j h = are_both (each_is (no_value_there k) (suc j) p) (each_is (no_value_there k) (suc j) r) (each_tells p (suc j) h.0) (each_tells r (suc j) h.1)

    all_tell : (ts : Sizes) (j : ℕ) → Each_all (Of_positions (λ i. i ≡ k → ⊥)) j ts → all_are (no_value_there k) j ts ≡ true
    all_tell no_size j h = refl
    all_tell (size_and t ts) j h = are_both (each_is (no_value_there k) j t) (all_are (no_value_there k) j ts) (each_tells t j h.0) (all_tell ts j h.1)

stand_told : (k : ℕ) (p : Size) → all_stand k p ≡ true → (i : ℕ) → i < k → Each (Of_positions (λ m. m ≡ i → ⊥)) 1 p → ⊥
unfolding all_stand
stand_told zero p e i l h = omega (arith, l)
stand_told (suc k) p e i l h = by_order (stand_told k p w.1 i) (order i k)
  where
    w : (not (each_is (no_value_there k) 1 p) ≡ true) × (all_stand k p ≡ true)
    w = both_true (not (each_is (no_value_there k) 1 p)) (all_stand k p) e

    by_order : (i < k → Each (Of_positions (λ m. m ≡ i → ⊥)) 1 p → ⊥) → (i < k) ⊎ (k ≤ i) → ⊥
    by_order go (inl m) = go m h
    by_order go (inr m) = let x : i ≡ k = omega (arith, l, m) in let y : false ≡ true = sym (ap not (each_tells k p 1 (subst (λ n. Each (Of_positions (λ c. c ≡ n → ⊥)) 1 p) x h))) ∙ w.0 in cc

framed_told : (j : ℕ) (d : Dim) → framed j d ≡ true → Scoped (λ x. ⊥) j d
framed_told j (At d) e = let z : false ≡ true = e in cc
framed_told j (Bound m i) e = ltb-true m j e

unfoldable mutual
  pub is_data : Size → Bool
  is_data (Hole v) = true
  is_data (Open n v u) = false
  is_data (Level d t) = is_data t
  is_data (Built h ts) = are_data ts
  is_data (Fun k p r) = false

  pub are_data : Sizes → Bool
  are_data no_size = true
  are_data (size_and t ts) = is_data t && are_data ts

mutual
  unfolding is_data are_data Data All_data

  data_told : (t : Size) → is_data t ≡ true → Data t
  data_told (Hole v) e = tt
  data_told (Open n v u) e = let z : false ≡ true = e in cc
  data_told (Level d t) e = data_told t e
  data_told (Built h ts) e = all_data_told ts e
  data_told (Fun k p r) e = let z : false ≡ true = e in cc

  all_data_told : (ts : Sizes) → are_data ts ≡ true → All_data ts
  all_data_told no_size e = tt
  all_data_told (size_and t ts) e = let w = both_true (is_data t) (are_data ts) e in (data_told t w.0, all_data_told ts w.1)

-- what takes data or functions, whose parameters are of these variables, and gives data
unfoldable pub takes_args : (Variable → Bool) → Bool → Size → Bool
takes_args q regular (Fun k p r) = (is_data p || (is_arrow p && is_wanted q (λ v. regular) p)) && takes_args q regular r
takes_args q regular t = is_data t

-- all variables are of these
unfoldable mutual
  each_hole_is : (Variable → Bool) → Size → Bool
  each_hole_is q (Hole v) = q v
  each_hole_is q (Open n v u) = false
  each_hole_is q (Level d t) = each_hole_is q t
  each_hole_is q (Built h ts) = all_holes_are q ts
  each_hole_is q (Fun k p r) = each_hole_is q p && each_hole_is q r

  all_holes_are : (Variable → Bool) → Sizes → Bool
  all_holes_are q no_size = true
  all_holes_are q (size_and t ts) = each_hole_is q t && all_holes_are q ts

module _ (q : Variable → Bool) where
  mutual
    unfolding each_hole_is all_holes_are Each_hole Each_holes

    holes_told : (t : Size) → each_hole_is q t ≡ true → Each_hole (λ v. q v ≡ true) t
    holes_told (Hole v) e = e
    holes_told (Open n v u) e = let z : false ≡ true = e in cc
    holes_told (Level d t) e = holes_told t e
    holes_told (Built h ts) e = all_holes_told ts e
    holes_told (Fun k p r) e = let w = both_true (each_hole_is q p) (each_hole_is q r) e in (holes_told p w.0, holes_told r w.1)

    all_holes_told : (ts : Sizes) → all_holes_are q ts ≡ true → Each_holes (λ v. q v ≡ true) ts
    all_holes_told no_size e = tt
    all_holes_told (size_and t ts) e = let w = both_true (each_hole_is q t) (all_holes_are q ts) e in (holes_told t w.0, all_holes_told ts w.1)

abbrev makes : Head → Bool
makes head.Array = false
makes head.Fun = false
makes (head.Rigid n k) = false
makes h = true

makes_told : (h : Head) → makes h ≡ true → Is_made h
makes_told (head.Scalar s) e = tt
makes_told head.Array e = let z : false ≡ true = e in cc
makes_told head.Tuple e = tt
makes_told (head.Record n) e = tt
makes_told head.Fun e = let z : false ≡ true = e in cc
makes_told (head.Rigid n k) e = let z : false ≡ true = e in cc
makes_told (head.Abstract n d) e = tt

unfoldable mutual
  has_form : Size → Bool
  has_form (Hole (Inferred v)) = true
  has_form (Hole (Written b k)) = false
  has_form (Open n v u) = false
  has_form (Level d t) = has_form t
  has_form (Built h ts) = makes h && have_form ts
  has_form (Fun k p r) = has_form p && (has_form r && (each_is (chosen_there k) 1 p && ((each_is (no_value_there k) 1 r || is_i64_size p) && all_stand k p)))

  have_form : Sizes → Bool
  have_form no_size = true
  have_form (size_and t ts) = has_form t && have_form ts

value_or_number : (k : ℕ) (p r : Size) → each_is (no_value_there k) 1 r || is_i64_size p ≡ true → is_i64_size p ≡ false → Each (Of_positions (λ i. i ≡ k → ⊥)) 1 r
value_or_number k p r e f = by_value (each_is (no_value_there k) 1 r) refl e
  where
    by_value : (b : Bool) → each_is (no_value_there k) 1 r ≡ b → b || is_i64_size p ≡ true → Each (Of_positions (λ i. i ≡ k → ⊥)) 1 r
    by_value true g z = each_as (λ i d. no_value_there k i d ≡ true) (Of_positions (λ i. i ≡ k → ⊥)) (no_value_told k) r 1 (each_told (no_value_there k) r 1 g)
    by_value false g z = absurd (let w : false ≡ true = sym f ∙ z in cc)

mutual
  unfolding has_form have_form Formed All_formed Each_hole Each_holes

  form_told : (t : Size) → has_form t ≡ true → Formed t × Each_hole Is_inferred t
  form_told (Hole (Inferred v)) e = (tt, tt)
  form_told (Hole (Written b k)) e = absurd (let z : false ≡ true = e in cc)
  form_told (Open n v u) e = absurd (let z : false ≡ true = e in cc)
  form_told (Level d t) e = form_told t e
  form_told (Built h ts) e = let w = both_true (makes h) (have_form ts) e in let r = forms_told ts w.1 in ((makes_told h w.0, r.0), r.1)
  form_told (Fun k p r) e =
      let w = both_true (has_form p) (has_form r && (each_is (chosen_there k) 1 p && ((each_is (no_value_there k) 1 r || is_i64_size p) && all_stand k p))) e in
      let x = both_true (has_form r) (each_is (chosen_there k) 1 p && ((each_is (no_value_there k) 1 r || is_i64_size p) && all_stand k p)) w.1 in
      let y = both_true (each_is (chosen_there k) 1 p) ((each_is (no_value_there k) 1 r || is_i64_size p) && all_stand k p) x.1 in
      let z = both_true (each_is (no_value_there k) 1 r || is_i64_size p) (all_stand k p) y.1 in
      let a = form_told p w.0 in
      let b = form_told r x.0 in
      ((a.0, b.0, each_as (λ i d. chosen_there k i d ≡ true) (Of_positions (λ i. i < k)) (chosen_told k) p 1 (each_told (chosen_there k) p 1 y.0), value_or_number k p r z.0, stand_told k p z.1), (a.1, b.1))

  forms_told : (ts : Sizes) → have_form ts ≡ true → All_formed ts × Each_holes Is_inferred ts
  forms_told no_size e = (tt, tt)
  forms_told (size_and t ts) e = let w = both_true (has_form t) (have_form ts) e in let a = form_told t w.0 in let b = forms_told ts w.1 in ((a.0, b.0), (a.1, b.1))

-- ---- the primitives

-- the variables of parameters, data or not
abbrev pub parameter_holes : Size → Variable → Bool
parameter_holes t v = data_holes t v || lambda_holes t v

abbrev is_fine : Bool → Size → Bool
is_fine regular t = has_form t && (each_is framed 0 t && (each_hole_is (parameter_holes t) t && takes_args (data_holes t) regular t))

fine : (p : Primitive) → is_fine (is_regular p) (prim_size p) ≡ true
unfolding prim_size sized_type levels all_levels has_form have_form all_stand each_is all_are each_hole_is all_holes_are data_holes lambda_holes function_holes has_hole some_hole takes_args is_wanted is_simple is_data are_data
fine prim.Map = refl
fine prim.Map2 = refl
fine prim.Map3 = refl
fine prim.Map4 = refl
fine prim.Map5 = refl
fine prim.Reduce = refl
fine prim.ReduceComm = refl
fine prim.Scan = refl
fine prim.Filter = refl
fine prim.Partition = refl
fine prim.ReduceByIndex = refl
fine prim.Tabulate = refl
fine prim.Scatter = refl
fine prim.Zip = refl
fine prim.Zip3 = refl
fine prim.Unzip = refl
fine prim.Unzip3 = refl
fine prim.Iota = refl
fine prim.Replicate = refl
fine prim.Indices = refl
fine prim.Length = refl
fine prim.Null = refl
fine prim.Head = refl
fine prim.Last = refl
fine prim.Init = refl
fine prim.Tail = refl
fine prim.Take = refl
fine prim.Drop = refl
fine prim.Reverse = refl
fine prim.Rotate = refl
fine prim.Concat = refl
fine prim.Flatten = refl
fine prim.Unflatten = refl
fine prim.Transpose = refl
fine prim.Copy = refl
fine (prim.Convert to from) = refl
fine (prim.Min own) = refl
fine (prim.Max own) = refl
fine (prim.Abs own) = refl
fine (prim.Popc own) = refl
fine (prim.Lowest own) = refl
fine (prim.Highest own) = refl
fine (prim.NumBits own) = refl
fine (prim.Fold folding.Sum own) = refl
fine (prim.Fold folding.Product own) = refl
fine (prim.Fold folding.Minimum own) = refl
fine (prim.Fold folding.Maximum own) = refl

pub record Prim_ok (p : Primitive) : Type 0 where
  pub formed : Formed (prim_size p)
  pub inferred : Each_hole Is_inferred (prim_size p)
  pub sizes : Each (Scoped (λ x. ⊥)) 0 (prim_size p)
  pub covers : Each_hole (λ v. parameter_holes (prim_size p) v ≡ true) (prim_size p)
  pub takes : takes_args (data_holes (prim_size p)) (is_regular p) (prim_size p) ≡ true

pub prim_ok : (p : Primitive) → Prim_ok p
prim_ok p =
    let a = both_true (has_form (prim_size p)) (each_is framed 0 (prim_size p) && (each_hole_is (parameter_holes (prim_size p)) (prim_size p) && takes_args (data_holes (prim_size p)) (is_regular p) (prim_size p))) (fine p) in
    let b = both_true (each_is framed 0 (prim_size p)) (each_hole_is (parameter_holes (prim_size p)) (prim_size p) && takes_args (data_holes (prim_size p)) (is_regular p) (prim_size p)) a.1 in
    let c = both_true (each_hole_is (parameter_holes (prim_size p)) (prim_size p)) (takes_args (data_holes (prim_size p)) (is_regular p) (prim_size p)) b.1 in
    let f = form_told (prim_size p) a.0 in
    record { formed = f.0; inferred = f.1; sizes = each_as (λ j d. framed j d ≡ true) (Scoped (λ x. ⊥)) framed_told (prim_size p) 0 (each_told framed (prim_size p) 0 b.0); covers = holes_told (parameter_holes (prim_size p)) (prim_size p) c.0; takes = c.1 }

-- ---- a use has the type that is given to the variables

unfoldable mutual
  occurs : Variable → Size → Bool
  occurs v (Hole w) = is_variable v w
  occurs v (Open n w u) = false
  occurs v (Level d t) = occurs v t
  occurs v (Built h ts) = occurs_in v ts
  occurs v (Fun k p r) = occurs v p || occurs v r

  occurs_in : Variable → Sizes → Bool
  occurs_in v no_size = false
  occurs_in v (size_and t ts) = occurs v t || occurs_in v ts

abbrev given_of : Sub → Variable → Ty
given_of g (Inferred v) = g v
given_of g (Written b k) = Var 0

either_type : (a b : Bool) (u : Ty) → or_else (cond a (Some u) None) (cond b (Some u) None) ≡ cond (a || b) (Some u) None
either_type true b u = refl
either_type false b u = refl

module _ (g : Sub) (v : Variable) where
  one_type : (w : ℕ) (x : Variable) → cond (is_variable x (Inferred w)) (Some (g w)) None ≡ cond (is_variable x (Inferred w)) (Some (given_of g x)) None
  one_type w (Inferred x) = by_number (nat_eq x w) refl
    where
      by_number : (b : Bool) → nat_eq x w ≡ b → cond b (Some (g w)) None ≡ cond b (Some (g x)) None
      by_number true e = ap (λ m. Some (g m)) (sym (eqb-true x w e))
      by_number false e = refl
  one_type w (Written b k) = refl

  mutual
    unfolding type_of type_in erased all_erased occurs occurs_in Each_hole Each_holes applied all_applied

    type_told : (t : Size) → Each_hole Is_inferred t → type_of v t (applied g (erased t)) ≡ cond (occurs v t) (Some (given_of g v)) None
    type_told (Hole (Inferred w)) h = one_type w v
    type_told (Hole (Written b k)) h = absurd h
    type_told (Open n w u) h = absurd h
    type_told (Level d t) h = type_told t h
    type_told (Built k ts) h = types_told ts h
    type_told (Fun k p r) h = ap (λ o. or_else o (type_of v r (applied g (erased r)))) (type_told p h.0) ∙ ap (or_else (cond (occurs v p) (Some (given_of g v)) None)) (type_told r h.1) ∙ either_type (occurs v p) (occurs v r) (given_of g v)

    types_told : (ts : Sizes) → Each_holes Is_inferred ts → type_in v ts (all_applied g (all_erased ts)) ≡ cond (occurs_in v ts) (Some (given_of g v)) None
    types_told no_size h = refl
    types_told (size_and t ts) h = ap (λ o. or_else o (type_in v ts (all_applied g (all_erased ts)))) (type_told t h.0) ∙ ap (or_else (cond (occurs v t) (Some (given_of g v)) None)) (types_told ts h.1) ∙ either_type (occurs v t) (occurs_in v ts) (given_of g v)

itself : (v : Variable) → is_variable v v ≡ true
itself (Inferred v) = eq-eqb v v refl
itself (Written b k) = eq-eqb b b refl

mutual
  unfolding occurs occurs_in Each_hole Each_holes

  own_occurs : (t : Size) → Each_hole Is_inferred t → Each_hole (λ v. occurs v t ≡ true) t
  own_occurs (Hole v) h = itself v
  own_occurs (Open n v u) h = absurd h
  own_occurs (Level d t) h = own_occurs t h
  own_occurs (Built k ts) h = all_own_occur ts h
  own_occurs (Fun k p r) h = (
    hole_as (λ v. occurs v p ≡ true) (λ v. occurs v p || occurs v r ≡ true) (λ v e. or_first (occurs v p) (occurs v r) e) p (own_occurs p h.0),
    hole_as (λ v. occurs v r ≡ true) (λ v. occurs v p || occurs v r ≡ true) (λ v e. or_later (occurs v p) (occurs v r) e) r (own_occurs r h.1),
  )

  all_own_occur : (ts : Sizes) → Each_holes Is_inferred ts → Each_holes (λ v. occurs_in v ts ≡ true) ts
  all_own_occur no_size h = tt
  all_own_occur (size_and t ts) h = (
    hole_as (λ v. occurs v t ≡ true) (λ v. occurs v t || occurs_in v ts ≡ true) (λ v e. or_first (occurs v t) (occurs_in v ts) e) t (own_occurs t h.0),
    holes_as (λ v. occurs_in v ts ≡ true) (λ v. occurs v t || occurs_in v ts ≡ true) (λ v e. or_later (occurs v t) (occurs_in v ts) e) ts (all_own_occur ts h.1),
  )

module _ (n : ℕ) (types : Variable → Ty) where
  module _ (g : Sub) where
    mutual
      unfolding instance instances erased all_erased Each_hole Each_holes applied all_applied

      opened_typed : (t : Size) → Each_hole Is_inferred t → Each_hole (λ v. types v ≡ given_of g v) t → erased (instance n types t) ≡ applied g (erased t)
      opened_typed (Hole (Inferred v)) i h = h
      opened_typed (Hole (Written b k)) i h = absurd i
      opened_typed (Open m v u) i h = absurd h
      opened_typed (Level d t) i h = ap (λ x. Made head.Array (more x none)) (opened_typed t i h)
      opened_typed (Built k ts) i h = ap (Made k) (all_opened_typed ts i h)
      opened_typed (Fun k p r) i h = ap (λ x. fun_ty x (erased (instance n types r))) (opened_typed p i.0 h.0) ∙ ap (fun_ty (applied g (erased p))) (opened_typed r i.1 h.1)

      all_opened_typed : (ts : Sizes) → Each_holes Is_inferred ts → Each_holes (λ v. types v ≡ given_of g v) ts → all_erased (instances n types ts) ≡ all_applied g (all_erased ts)
      all_opened_typed no_size i h = refl
      all_opened_typed (size_and t ts) i h = ap (λ x. more x (all_erased (instances n types ts))) (opened_typed t i.0 h.0) ∙ ap (more (applied g (erased t))) (all_opened_typed ts i.1 h.1)

  -- with the sized types that its variables have
  module _ (P : Free → Type 0) (settled : (d : Free) → P d → is_slot d ≡ false) (Vars : Variable → Type 0) (Θ : Variable → Size) where
    abbrev Nice_there : Variable → Type 0
    Nice_there v = Nice n types P settled Vars v (Θ v)

    mutual
      unfolding instance instances with_types all_with_types erased all_erased Each_hole Each_holes

      given_typed : (t : Size) → Each_hole Nice_there t → erased (with_types Θ t) ≡ erased (instance n types t)
      given_typed (Hole v) h = h.typed
      given_typed (Open m v u) h = refl
      given_typed (Level d t) h = ap (λ x. Made head.Array (more x none)) (given_typed t h)
      given_typed (Built k ts) h = ap (Made k) (all_given_typed ts h)
      given_typed (Fun k p r) h = ap (λ x. fun_ty x (erased (with_types Θ r))) (given_typed p h.0) ∙ ap (fun_ty (erased (instance n types p))) (given_typed r h.1)

      all_given_typed : (ts : Sizes) → Each_holes Nice_there ts → all_erased (all_with_types Θ ts) ≡ all_erased (instances n types ts)
      all_given_typed no_size h = refl
      all_given_typed (size_and t ts) h = ap (λ x. more x (all_erased (all_with_types Θ ts))) (given_typed t h.0) ∙ ap (more (erased (instance n types t))) (all_given_typed ts h.1)

    module _ (Q : ℕ → Dim → Type 0) (alone : (j : ℕ) (x : Free) → P x → Q j (At x)) where
      -- data has no size of a frame
      mutual
        unfolding Each Each_all Data All_data

        data_each : (t : Size) (j : ℕ) → Data t → Each (Scoped P) 0 t → Each Q j t
        data_each (Hole v) j d h = tt
        data_each (Open m v u) j d h = tt
        data_each (Level (At x) t) j d h = (alone j x h.0, data_each t j d h.1)
        data_each (Level (Bound k i) t) j d h = absurd (let l = h.0 in omega (arith, l))
        data_each (Built k ts) j d h = all_data_each ts j d h
        data_each (Fun k p r) j d h = absurd d

        all_data_each : (ts : Sizes) (j : ℕ) → All_data ts → Each_all (Scoped P) 0 ts → Each_all Q j ts
        all_data_each no_size j d h = tt
        all_data_each (size_and t ts) j d h = (data_each t j d.0 h.0, all_data_each ts j d.1 h.1)

      mutual
        unfolding with_types all_with_types Each Each_all Each_hole Each_holes

        given_each : (t : Size) (j : ℕ) → Each_hole Nice_there t → Each Q j t → Each Q j (with_types Θ t)
        given_each (Hole v) j h e = data_each (Θ v) j h.is_data h.sizes
        given_each (Open m v u) j h e = e
        given_each (Level d t) j h e = (e.0, given_each t j h e.1)
        given_each (Built k ts) j h e = all_given_each ts j h e
        given_each (Fun k p r) j h e = (given_each p (suc j) h.0 e.0, given_each r (suc j) h.1 e.1)

        all_given_each : (ts : Sizes) (j : ℕ) → Each_holes Nice_there ts → Each_all Q j ts → Each_all Q j (all_with_types Θ ts)
        all_given_each no_size j h e = tt
        all_given_each (size_and t ts) j h e = (given_each t j h.0 e.0, all_given_each ts j h.1 e.1)

    mutual
      unfolding with_types all_with_types Each_hole Each_holes

      given_holes : (t : Size) → Each_hole Nice_there t → Each_hole Vars (with_types Θ t)
      given_holes (Hole v) h = h.variables
      given_holes (Open m v u) h = h
      given_holes (Level d t) h = given_holes t h
      given_holes (Built k ts) h = all_given_holes ts h
      given_holes (Fun k p r) h = (given_holes p h.0, given_holes r h.1)

      all_given_holes : (ts : Sizes) → Each_holes Nice_there ts → Each_holes Vars (all_with_types Θ ts)
      all_given_holes no_size h = tt
      all_given_holes (size_and t ts) h = (given_holes t h.0, all_given_holes ts h.1)

    module _ (Q : ℕ → Dim → Type 0) where
      mutual
        unfolding with_types all_with_types Each Each_all

        less_given : (t : Size) (j : ℕ) → Each Q j (with_types Θ t) → Each Q j t
        less_given (Hole v) j h = tt
        less_given (Open m v u) j h = tt
        less_given (Level d t) j h = (h.0, less_given t j h.1)
        less_given (Built k ts) j h = all_less_given ts j h
        less_given (Fun k p r) j h = (less_given p (suc j) h.0, less_given r (suc j) h.1)

        all_less_given : (ts : Sizes) (j : ℕ) → Each_all Q j (all_with_types Θ ts) → Each_all Q j ts
        all_less_given no_size j h = tt
        all_less_given (size_and t ts) j h = (less_given t j h.0, all_less_given ts j h.1)

    no_number : (p : Size) → is_i64_size (with_types Θ p) ≡ false → is_i64_size p ≡ false
    unfolding with_types all_with_types
    no_number (Hole v) e = refl
    no_number (Open m v u) e = refl
    no_number (Level d t) e = refl
    no_number (Built k no_size) e = e
    no_number (Built k (size_and t ts)) e = refl
    no_number (Fun k p r) e = refl

    mutual
      unfolding with_types all_with_types Each_hole Each_holes Formed All_formed

      given_formed : (t : Size) → Each_hole Nice_there t → Formed t → Formed (with_types Θ t)
      given_formed (Hole v) h f = h.formed
      given_formed (Open m v u) h f = f
      given_formed (Level d t) h f = given_formed t h f
      given_formed (Built k ts) h f = (f.0, all_given_formed ts h f.1)
      given_formed (Fun k p r) h f = (given_formed p h.0 f.0, given_formed r h.1 f.1, given_each (Of_positions (λ i. i < k)) (λ j x i. tt) p 1 h.0 f.2, (λ e. given_each (Of_positions (λ i. i ≡ k → ⊥)) (λ j x i. tt) r 1 h.1 (f.3 (no_number p e))), (λ i l e. f.4 i l (less_given (Of_positions (λ m. m ≡ i → ⊥)) p 1 e)))

      all_given_formed : (ts : Sizes) → Each_holes Nice_there ts → All_formed ts → All_formed (all_with_types Θ ts)
      all_given_formed no_size h f = tt
      all_given_formed (size_and t ts) h f = (given_formed t h.0 f.0, all_given_formed ts h.1 f.1)

  -- what takes arguments takes them whatever its variables stand for
  module _ (P : Free → Type 0) (settled : (d : Free) → P d → is_slot d ≡ false) (Vars : Variable → Type 0) (K : Kinds) (g : Sub) (kinds : (m : ℕ) → 1 ≤ rank K (g m)) (sub : Sub) (q : Variable → Bool) (regular : Bool) where
    no_function : (a b : Ty) → 1 ≤ rank K (fun_ty a b) → ⊥
    unfolding rank least
    no_function a b h = let z : 1 ≤ min 0 (min (rank K a) (min (rank K b) 4)) = h in omega (arith, z)

    mutual
      unfolding Each_hole Each_holes

      kinds_there : (t : Size) → Each_hole Is_inferred t → Each_hole (λ v. types v ≡ given_of g v) t → Each_hole (λ v. 1 ≤ rank K (types v)) t
      kinds_there (Hole (Inferred v)) i o = subst (λ w. 1 ≤ rank K w) (sym o) (kinds v)
      kinds_there (Hole (Written b k)) i o = absurd i
      kinds_there (Open m v u) i o = absurd i
      kinds_there (Level d t) i o = kinds_there t i o
      kinds_there (Built h ts) i o = all_kinds_there ts i o
      kinds_there (Fun k p r) i o = (kinds_there p i.0 o.0, kinds_there r i.1 o.1)

      all_kinds_there : (ts : Sizes) → Each_holes Is_inferred ts → Each_holes (λ v. types v ≡ given_of g v) ts → Each_holes (λ v. 1 ≤ rank K (types v)) ts
      all_kinds_there no_size i o = tt
      all_kinds_there (size_and t ts) i o = (kinds_there t i.0 o.0, all_kinds_there ts i.1 o.1)

    one_of : (a b : Bool) → a || b ≡ true → (a ≡ true) ⊎ (b ≡ true)
    one_of true b e = inl refl
    one_of false b e = inr e

    -- data is of no function type
    data_typed : (p : Size) (a c : Ty) → Formed p → Each_hole Is_inferred p → is_data p ≡ true → applied g (erased p) ≡ fun_ty a c → ⊥
    unfolding is_data Formed Each_hole erased applied all_applied
    data_typed (Hole (Inferred v)) a c f i d e = no_function a c (subst (λ w. 1 ≤ rank K w) e (kinds v))
    data_typed (Hole (Written b k)) a c f i d e = i
    data_typed (Open m v u) a c f i d e = f
    data_typed (Level l t) a c f i d e = let y : Made head.Array (more (applied g (erased t)) none) ≡ fun_ty a c = e in cc
    data_typed (Built h ts) a c f i d e = subst Is_made (head_same e) f.0
    data_typed (Fun k p r) a c f i d e = let z : false ≡ true = d in cc

    -- and a function type is no data's
    arrow_typed : (p : Size) → is_arrow p ≡ true → 1 ≤ rank K (applied g (erased p)) → ⊥
    unfolding erased applied all_applied
    arrow_typed (Fun k p r) e h = no_function (applied g (erased p)) (applied g (erased r)) h
    arrow_typed (Hole v) e h = let z : false ≡ true = e in cc
    arrow_typed (Open m v u) e h = let z : false ≡ true = e in cc
    arrow_typed (Level d t) e h = let z : false ≡ true = e in cc
    arrow_typed (Built h ts) e k = let z : false ≡ true = e in cc

    -- data has no parameters
    data_none : (t : Size) (v : Variable) → Data t → (data_holes t v ≡ false) × (lambda_holes t v ≡ false)
    unfolding Data data_holes lambda_holes
    data_none (Hole w) v d = (refl, refl)
    data_none (Open m w u) v d = absurd d
    data_none (Level l t) v d = (refl, refl)
    data_none (Built h ts) v d = (refl, refl)
    data_none (Fun k p r) v d = absurd d

    all_given : (gs : List Given) (t : Size) (v : Variable) → Data (rest_of gs t) → data_holes t v ≡ true → taken_holes gs t v ≡ true
    unfolding data_holes Data
    all_given [] t v d e = absurd (let z : true ≡ false = sym e ∙ (data_none t v d).0 in cc)
    all_given (x ∷ gs) (Fun k p r) v d e = by_place (all_given gs r v d) (has_hole p v) e
      where
        by_place : (data_holes r v ≡ true → taken_holes gs r v ≡ true) → (b : Bool) → b || data_holes r v ≡ true → b || taken_holes gs r v ≡ true
        by_place go true z = refl
        by_place go false z = go z
    all_given (x ∷ gs) (Hole w) v d e = absurd (let z : false ≡ true = e in cc)
    all_given (x ∷ gs) (Open m w u) v d e = absurd d
    all_given (x ∷ gs) (Level l t) v d e = absurd (let z : false ≡ true = e in cc)
    all_given (x ∷ gs) (Built h ts) v d e = absurd (let z : false ≡ true = e in cc)

    -- where the result is data
    rest_data : (gs : List Given) (t : Size) (u : Ty) → Formed t → Each_hole Is_inferred t → takes_args q regular t ≡ true → 1 ≤ rank K u → applied g (erased t) ≡ arrows_of sub gs u → Data (rest_of gs t)
    unfolding takes_args is_data Formed Each_hole erased applied all_applied
    rest_data [] (Fun k p r) u f i d k1 e = absurd (no_function (applied g (erased p)) (applied g (erased r)) (subst (λ w. 1 ≤ rank K w) (sym e) k1))
    rest_data [] (Hole v) u f i d k1 e = data_told (Hole v) d
    rest_data [] (Open m v x) u f i d k1 e = absurd f
    rest_data [] (Level l t) u f i d k1 e = data_told (Level l t) d
    rest_data [] (Built h ts) u f i d k1 e = data_told (Built h ts) d
    rest_data (x ∷ gs) (Fun k p r) u f i d k1 e =
        let w = both_true (is_data p || (is_arrow p && is_wanted q (λ v. regular) p)) (takes_args q regular r) d in
        let y : fun_ty (applied g (erased p)) (applied g (erased r)) ≡ fun_ty (sub x.node) (arrows_of sub gs u) = e in
        rest_data gs r u f.1 i.1 w.1 k1 (let z : applied g (erased r) ≡ arrows_of sub gs u = cc in z)
    rest_data (x ∷ gs) (Hole (Inferred v)) u f i d k1 e = absurd (no_function (sub x.node) (arrows_of sub gs u) (subst (λ w. 1 ≤ rank K w) e (kinds v)))
    rest_data (x ∷ gs) (Hole (Written b k)) u f i d k1 e = absurd i
    rest_data (x ∷ gs) (Open m v y) u f i d k1 e = absurd f
    rest_data (x ∷ gs) (Level l t) u f i d k1 e = absurd (let y : Made head.Array (more (applied g (erased t)) none) ≡ fun_ty (sub x.node) (arrows_of sub gs u) = e in cc)
    rest_data (x ∷ gs) (Built h ts) u f i d k1 e = absurd (subst Is_made (head_same e) f.0)

    data_fine : (gs : List Given) (t : Size) (u : Ty) → Formed t → Each_hole Is_inferred t → takes_args q regular t ≡ true → 1 ≤ rank K u → applied g (erased t) ≡ arrows_of sub gs u → Rest_fine gs t
    data_fine gs t u f i d k1 e = let D = rest_data gs t u f i d k1 e in record { no_lambda = λ v. (data_none (rest_of gs t) v D).1; covers = λ v z. all_given gs t v D z }

    twice : (b : Bool) → false || (b || (b || false)) ≡ true → false || (b || false) ≡ true
    twice true e = refl
    twice false e = e

    arrows_fun : (gs : List Given) (a c : Ty) → (b : Ty) × ((d : Ty) × (arrows_of sub gs (fun_ty a c) ≡ fun_ty b d))
    arrows_fun [] a c = (a, (c, refl))
    arrows_fun (x ∷ gs) a c = (sub x.node, (arrows_of sub gs (fun_ty a c), refl))

    -- a function, a value, an array of such values, and data behind it
    shape_fine : (o1 o2 : Size) (v : ℕ) (e : Dim) (s : Size) → Data s → is_data s ≡ true → Formed s → Each_hole Is_inferred s → (gs : List Given) (a c : Ty) → 1 ≤ rank K c → applied g (erased (Fun 0 (Fun 0 o1 o2) (Fun 0 (Hole (Inferred v)) (Fun 1 (Level e (Hole (Inferred v))) s)))) ≡ arrows_of sub gs (fun_ty a c) → Rest_fine gs (Fun 0 (Fun 0 o1 o2) (Fun 0 (Hole (Inferred v)) (Fun 1 (Level e (Hole (Inferred v))) s)))
    unfolding data_holes lambda_holes has_hole erased all_erased applied all_applied
    shape_fine o1 o2 v e s d i f h [] a c k z = absurd (let y : fun_ty (applied g (erased (Fun 0 o1 o2))) (fun_ty (g v) (fun_ty (Made head.Array (more (g v) none)) (applied g (erased s)))) ≡ fun_ty a c = z in
        no_function (g v) (fun_ty (Made head.Array (more (g v) none)) (applied g (erased s))) (subst (λ w. 1 ≤ rank K w) (let x : c ≡ fun_ty (g v) (fun_ty (Made head.Array (more (g v) none)) (applied g (erased s))) = cc in x) k))
    shape_fine o1 o2 v e s d i f h (x ∷ []) a c k z = absurd (let y : fun_ty (applied g (erased (Fun 0 o1 o2))) (fun_ty (g v) (fun_ty (Made head.Array (more (g v) none)) (applied g (erased s)))) ≡ fun_ty (sub x.node) (fun_ty a c) = z in
        no_function (Made head.Array (more (g v) none)) (applied g (erased s)) (subst (λ w. 1 ≤ rank K w) (let x : c ≡ fun_ty (Made head.Array (more (g v) none)) (applied g (erased s)) = cc in x) k))
    shape_fine o1 o2 v e s d i f h (x ∷ y ∷ []) a c k z = record { no_lambda = λ w. (data_none s w d).1; covers = λ w r. twice (is_variable w (Inferred v)) (ap (λ b. false || (is_variable w (Inferred v) || (is_variable w (Inferred v) || b))) (sym (data_none s w d).0) ∙ r) }
    shape_fine o1 o2 v e s d i f h (x ∷ y ∷ w ∷ gs) a c k z =
        let q1 : fun_ty (applied g (erased (Fun 0 o1 o2))) (fun_ty (g v) (fun_ty (Made head.Array (more (g v) none)) (applied g (erased s)))) ≡ fun_ty (sub x.node) (fun_ty (sub y.node) (fun_ty (sub w.node) (arrows_of sub gs (fun_ty a c)))) = z in
        let A = arrows_fun gs a c in
        absurd (data_typed s A.0 A.1.0 f h i ((let q2 : applied g (erased s) ≡ arrows_of sub gs (fun_ty a c) = cc in q2) ∙ A.1.1))

    reduced_fine : (p : Primitive) → Reduces p → (gs : List Given) (a c : Ty) → 1 ≤ rank K c → applied g (erased (prim_size p)) ≡ arrows_of sub gs (fun_ty a c) → Rest_fine gs (prim_size p)
    unfolding prim_size sized_type levels all_levels Data is_data Formed Each_hole
    reduced_fine prim.Reduce r gs a c k z = shape_fine _ _ _ _ _ tt refl tt tt gs a c k z
    reduced_fine prim.ReduceComm r gs a c k z = shape_fine _ _ _ _ _ tt refl tt tt gs a c k z
    reduced_fine prim.Scan r gs a c k z = shape_fine _ _ _ _ _ tt refl tt tt gs a c k z
    reduced_fine p r gs a c k z = absurd r

    data_parameter : (p : Size) (x : Given) → is_data p || (is_arrow p && is_wanted q (λ v. regular) p) ≡ true → Each_hole Is_inferred p → Each_hole (λ v. types v ≡ given_of g v) p → applied g (erased p) ≡ sub x.node → Data_given P Vars K sub x → (Data p × (erased (instance n types p) ≡ erased x.size)) × Data_fit P Vars x
    data_parameter p x w i o e D = by_kind (one_of (is_data p) (is_arrow p && is_wanted q (λ v. regular) p) w)
      where
        by_kind : (is_data p ≡ true) ⊎ (is_arrow p && is_wanted q (λ v. regular) p ≡ true) → (Data p × (erased (instance n types p) ≡ erased x.size)) × Data_fit P Vars x
        by_kind (inl d) = ((data_told p d, opened_typed g p i o ∙ e ∙ sym D.1.0), D.0.0)
        by_kind (inr a) = absurd (arrow_typed p (both_true (is_arrow p) (is_wanted q (λ v. regular) p) a).0 (subst (λ w. 1 ≤ rank K w) (sym e) D.1.1))

    data_arrows : (gs : List Given) (t : Size) (u : Ty) → Formed t → Each_hole Is_inferred t → takes_args q regular t ≡ true → Each_hole (λ v. types v ≡ given_of g v) t → ((v : Variable) → lambda_holes (rest_of gs t) v ≡ false) → applied g (erased t) ≡ arrows_of sub gs u → All_data_given P Vars K sub gs → Arrows n types P settled Vars gs t × ((v : Variable) → lambda_holes t v ≡ false)
    unfolding takes_args Formed Each_hole erased applied all_applied lambda_holes
    data_arrows [] t u f i d o k1 e D = (tt, k1)
    data_arrows (x ∷ gs) (Fun k p r) u f i d o k1 e D =
        let w = both_true (is_data p || (is_arrow p && is_wanted q (λ v. regular) p)) (takes_args q regular r) d in
        let y : fun_ty (applied g (erased p)) (applied g (erased r)) ≡ fun_ty (sub x.node) (arrows_of sub gs u) = e in
        let A = data_parameter p x w.0 i.0 o.0 (let z : applied g (erased p) ≡ sub x.node = cc in z) D.0 in
        let R = data_arrows gs r u f.1 i.1 w.1 o.1 k1 (let z : applied g (erased r) ≡ arrows_of sub gs u = cc in z) D.1 in
        ((inl A, R.0), λ v. ap (λ b. (b && function_holes p v) || lambda_holes r v) (no_arrow p A.0.0) ∙ R.1 v)
    data_arrows (x ∷ gs) (Hole (Inferred v)) u f i d o k1 e D = absurd (no_function (sub x.node) (arrows_of sub gs u) (subst (λ w. 1 ≤ rank K w) e (kinds v)))
    data_arrows (x ∷ gs) (Hole (Written b k)) u f i d o k1 e D = absurd i
    data_arrows (x ∷ gs) (Open m v y) u f i d o k1 e D = absurd f
    data_arrows (x ∷ gs) (Level l t) u f i d o k1 e D = absurd (let y : Made head.Array (more (applied g (erased t)) none) ≡ fun_ty (sub x.node) (arrows_of sub gs u) = e in cc)
    data_arrows (x ∷ gs) (Built h ts) u f i d o k1 e D = absurd (subst Is_made (head_same e) f.0)

    module _ (Went : Type 0) (st after : State) (lo : ℕ) where
      abbrev There : Given → Size → Type 0
      There x p = Lambda_there n types P settled Vars K sub Went st after lo q regular x p

      lambda_parameter : (p : Size) (x : Given) → Formed p → is_data p || (is_arrow p && is_wanted q (λ v. regular) p) ≡ true → Each_hole Is_inferred p → Each_hole (λ v. types v ≡ given_of g v) p → applied g (erased p) ≡ sub x.node → (F : Waiting_fit P Vars K Went st after x) → F.type ≡ sub x.node → (a c : Ty) → F.type ≡ fun_ty a c → There x p
      lambda_parameter p x f w i o e F same a c is = by_kind (one_of (is_data p) (is_arrow p && is_wanted q (λ v. regular) p) w)
        where
          by_kind : (is_data p ≡ true) ⊎ (is_arrow p && is_wanted q (λ v. regular) p ≡ true) → There x p
          by_kind (inl d) = absurd (data_typed p a c f i d (e ∙ sym same ∙ is))
          by_kind (inr b) =
              let y = both_true (is_arrow p) (is_wanted q (λ v. regular) p) b in
              record { fit = F; wanted = y.1; arrow = y.0; inferred = i; kinds = kinds_there p i o; typed = opened_typed g p i o ∙ e ∙ sym same }

      early_parameter : (p : Size) (x : Given) → Formed p → is_data p || (is_arrow p && is_wanted q (λ v. regular) p) ≡ true → Each_hole Is_inferred p → Each_hole (λ v. types v ≡ given_of g v) p → applied g (erased p) ≡ sub x.node → Early_function P Vars sub x → Went → after ≡ st → Early_there n types P settled Vars K sub Went st after lo q regular x p
      early_parameter p x f w i o e F went same = by_kind (one_of (is_data p) (is_arrow p && is_wanted q (λ v. regular) p) w)
        where
          by_kind : (is_data p ≡ true) ⊎ (is_arrow p && is_wanted q (λ v. regular) p ≡ true) → Early_there n types P settled Vars K sub Went st after lo q regular x p
          by_kind (inl d) = absurd (data_typed p F.from F.to f i d (e ∙ F.function))
          by_kind (inr b) =
              let y = both_true (is_arrow p) (is_wanted q (λ v. regular) p) b in
              record { went = went; state = same; function = F; wanted = y.1; arrow = y.0; inferred = i; kinds = kinds_there p i o; typed = opened_typed g p i o ∙ e }

      lambda_arrows : (gs : List Given) (t : Size) (u : Ty) → Formed t → Each_hole Is_inferred t → takes_args q regular t ≡ true → Each_hole (λ v. types v ≡ given_of g v) t → ((v : Variable) → lambda_holes (rest_of gs t) v ≡ false) → applied g (erased t) ≡ arrows_of sub gs u → One_given P Vars K sub Went st after gs → Arrows n types P settled Vars gs t × One_lambda n types P settled Vars K sub Went st after lo q regular gs t
      unfolding takes_args Formed Each_hole erased applied all_applied
      lambda_arrows [] t u f i d o k1 e D = absurd D
      lambda_arrows (x ∷ gs) (Fun k p r) u f i d o k1 e (inl D) =
          let w = both_true (is_data p || (is_arrow p && is_wanted q (λ v. regular) p)) (takes_args q regular r) d in
          let y : fun_ty (applied g (erased p)) (applied g (erased r)) ≡ fun_ty (sub x.node) (arrows_of sub gs u) = e in
          let A = data_parameter p x w.0 i.0 o.0 (let z : applied g (erased p) ≡ sub x.node = cc in z) D.0 in
          let R = lambda_arrows gs r u f.1 i.1 w.1 o.1 k1 (let z : applied g (erased r) ≡ arrows_of sub gs u = cc in z) D.1 in
          ((inl A, R.0), inl (D.0, no_arrow p A.0.0, R.1))
      lambda_arrows (x ∷ gs) (Fun k p r) u f i d o k1 e (inr (inl D)) =
          let w = both_true (is_data p || (is_arrow p && is_wanted q (λ v. regular) p)) (takes_args q regular r) d in
          let y : fun_ty (applied g (erased p)) (applied g (erased r)) ≡ fun_ty (sub x.node) (arrows_of sub gs u) = e in
          let L = lambda_parameter p x f.0 w.0 i.0 o.0 (let z : applied g (erased p) ≡ sub x.node = cc in z) D.0.0 D.0.1 D.0.2.0 D.0.2.1.0 D.0.2.1.1 in
          let R = data_arrows gs r u f.1 i.1 w.1 o.1 k1 (let z : applied g (erased r) ≡ arrows_of sub gs u = cc in z) D.1 in
          ((inr (D.0.0.given.is_fun, L.arrow), R.0), inr (inl (L, D.1, R.1)))
      lambda_arrows (x ∷ gs) (Fun k p r) u f i d o k1 e (inr (inr D)) =
          let w = both_true (is_data p || (is_arrow p && is_wanted q (λ v. regular) p)) (takes_args q regular r) d in
          let y : fun_ty (applied g (erased p)) (applied g (erased r)) ≡ fun_ty (sub x.node) (arrows_of sub gs u) = e in
          let L = early_parameter p x f.0 w.0 i.0 o.0 (let z : applied g (erased p) ≡ sub x.node = cc in z) D.1 D.0.0 D.0.1 in
          let R = data_arrows gs r u f.1 i.1 w.1 o.1 k1 (let z : applied g (erased r) ≡ arrows_of sub gs u = cc in z) D.2 in
          ((inr (D.1.is_fun, L.arrow), R.0), inr (inr (L, D.2, R.1)))
      lambda_arrows (x ∷ gs) (Hole (Inferred v)) u f i d o k1 e D = absurd (no_function (sub x.node) (arrows_of sub gs u) (subst (λ w. 1 ≤ rank K w) e (kinds v)))
      lambda_arrows (x ∷ gs) (Hole (Written b k)) u f i d o k1 e D = absurd i
      lambda_arrows (x ∷ gs) (Open m v y) u f i d o k1 e D = absurd f
      lambda_arrows (x ∷ gs) (Level l t) u f i d o k1 e D = absurd (let y : Made head.Array (more (applied g (erased t)) none) ≡ fun_ty (sub x.node) (arrows_of sub gs u) = e in cc)
      lambda_arrows (x ∷ gs) (Built h ts) u f i d o k1 e D = absurd (subst Is_made (head_same e) f.0)

    -- with a lambda before data, which takes the parameters that are wanted of it
    module _ (Went : Type 0) (st after : State) (lo : ℕ) where
      function_parameter : (p : Size) (x : Given) (a c : Ty) → Formed p → is_data p || (is_arrow p && is_wanted q (λ v. regular) p) ≡ true → Each_hole Is_inferred p → Each_hole (λ v. types v ≡ given_of g v) p → applied g (erased p) ≡ sub x.node → sub x.node ≡ fun_ty a c → Function_wanted n types P settled Vars K sub Went st after lo q regular p (sub x.node)
      function_parameter p x a c f w i o e is = by_kind (one_of (is_data p) (is_arrow p && is_wanted q (λ v. regular) p) w)
        where
          by_kind : (is_data p ≡ true) ⊎ (is_arrow p && is_wanted q (λ v. regular) p ≡ true) → Function_wanted n types P settled Vars K sub Went st after lo q regular p (sub x.node)
          by_kind (inl d) = absurd (data_typed p a c f i d (e ∙ is))
          by_kind (inr b) =
              let y = both_true (is_arrow p) (is_wanted q (λ v. regular) p) b in
              record { wanted = y.1; arrow = y.0; inferred = i; kinds = kinds_there p i o; typed = opened_typed g p i o ∙ e }

      wide_arrows : (x : Given) (gs : List Given) (t : Size) (u : Ty) → Formed t → Each_hole Is_inferred t → takes_args q regular t ≡ true → Each_hole (λ v. types v ≡ given_of g v) t → ((v : Variable) → lambda_holes (rest_of (x ∷ gs) t) v ≡ false) → applied g (erased t) ≡ arrows_of sub (x ∷ gs) u → is_function x.size ≡ true → (a c : Ty) → sub x.node ≡ fun_ty a c → All_data_given P Vars K sub gs
          → Arrows n types P settled Vars (x ∷ gs) t × One_wide n types P settled Vars K sub Went st after lo q regular (x ∷ gs) t
      unfolding takes_args Formed Each_hole erased applied all_applied
      wide_arrows x gs (Fun k p r) u f i d o k1 e is_fun a c is D =
          let w = both_true (is_data p || (is_arrow p && is_wanted q (λ v. regular) p)) (takes_args q regular r) d in
          let y : fun_ty (applied g (erased p)) (applied g (erased r)) ≡ fun_ty (sub x.node) (arrows_of sub gs u) = e in
          let F = function_parameter p x a c f.0 w.0 i.0 o.0 (let z : applied g (erased p) ≡ sub x.node = cc in z) is in
          let R = data_arrows gs r u f.1 i.1 w.1 o.1 k1 (let z : applied g (erased r) ≡ arrows_of sub gs u = cc in z) D in
          ((inr (is_fun, F.arrow), R.0), (F, D, R.1))
      wide_arrows x gs (Hole (Inferred v)) u f i d o k1 e is_fun a c is D = absurd (no_function (sub x.node) (arrows_of sub gs u) (subst (λ w. 1 ≤ rank K w) e (kinds v)))
      wide_arrows x gs (Hole (Written b k)) u f i d o k1 e is_fun a c is D = absurd i
      wide_arrows x gs (Open m v y) u f i d o k1 e is_fun a c is D = absurd f
      wide_arrows x gs (Level l t) u f i d o k1 e is_fun a c is D = absurd (let y : Made head.Array (more (applied g (erased t)) none) ≡ fun_ty (sub x.node) (arrows_of sub gs u) = e in cc)
      wide_arrows x gs (Built h ts) u f i d o k1 e is_fun a c is D = absurd (subst Is_made (head_same e) f.0)

  arrows_opened : (P : Free → Type 0) (settled : (d : Free) → P d → is_slot d ≡ false) (Vars : Variable → Type 0) (gs : List Given) (t : Size) → Arrows n types P settled Vars gs t → Widths gs (instance n types t) → Has_arrows gs (instance n types t)
  unfolding instance
  arrows_opened P settled Vars [] t a w = tt
  arrows_opened P settled Vars (g ∷ gs) (Fun k p r) a w = (w.0, arrows_opened P settled Vars gs r a.1 w.1)
  arrows_opened P settled Vars (g ∷ gs) (Hole v) a w = absurd a
  arrows_opened P settled Vars (g ∷ gs) (Open m v u) a w = absurd a
  arrows_opened P settled Vars (g ∷ gs) (Level d t) a w = absurd a
  arrows_opened P settled Vars (g ∷ gs) (Built k ts) a w = absurd a

-- ---- a use of a primitive

module _ (n : ℕ) (p : Primitive) (u : Ty) (g : Sub) (typed : u ≡ applied g (prim_type p)) where
  abbrev pub types_there : Variable → Ty
  types_there v = or_variable v (type_of v (prim_size p) u)

  types_given : Each_hole (λ v. types_there v ≡ given_of g v) (prim_size p)
  types_given = hole_as (λ v. occurs v (prim_size p) ≡ true) (λ v. types_there v ≡ given_of g v) there (prim_size p) (own_occurs (prim_size p) (prim_ok p).inferred)
    where
      there : (v : Variable) → occurs v (prim_size p) ≡ true → types_there v ≡ given_of g v
      there v o = ap (λ w. or_variable v (type_of v (prim_size p) w)) (typed ∙ ap (applied g) (sym (primitive_erased p))) ∙ ap (or_variable v) (type_told g v (prim_size p) (prim_ok p).inferred ∙ ap (λ b. cond b (Some (given_of g v)) None) o)

  module _ (P : Free → Type 0) (settled : (d : Free) → P d → is_slot d ≡ false) (Vars : Variable → Type 0) where
    module _ (K : Kinds) (kinds : (m : ℕ) → 1 ≤ rank K (g m)) (sub : Sub) (gs : List Given) (w : Ty) (fine : Rest_fine gs (prim_size p)) (arrows : u ≡ arrows_of sub gs w) where
      pub prim_data : All_data_given P Vars K sub gs → Arrows n types_there P settled Vars gs (prim_size p) × ((v : Variable) → lambda_holes (prim_size p) v ≡ false)
      prim_data D = data_arrows n types_there P settled Vars K g kinds sub (data_holes (prim_size p)) (is_regular p) gs (prim_size p) w (prim_ok p).formed (prim_ok p).inferred (prim_ok p).takes types_given fine.no_lambda (ap (applied g) (primitive_erased p) ∙ sym typed ∙ arrows) D

      pub prim_lambda : (Went : Type 0) (st after : State) (lo : ℕ) → One_given P Vars K sub Went st after gs → Arrows n types_there P settled Vars gs (prim_size p) × One_lambda n types_there P settled Vars K sub Went st after lo (data_holes (prim_size p)) (is_regular p) gs (prim_size p)
      prim_lambda Went st after lo D = lambda_arrows n types_there P settled Vars K g kinds sub (data_holes (prim_size p)) (is_regular p) Went st after lo gs (prim_size p) w (prim_ok p).formed (prim_ok p).inferred (prim_ok p).takes types_given fine.no_lambda (ap (applied g) (primitive_erased p) ∙ sym typed ∙ arrows) D

    pub prim_wide : (K : Kinds) (kinds : (m : ℕ) → 1 ≤ rank K (g m)) (sub : Sub) (x : Given) (gs : List Given) (w : Ty) → Rest_fine (x ∷ gs) (prim_size p) → u ≡ arrows_of sub (x ∷ gs) w → (Went : Type 0) (st after : State) (lo : ℕ) → is_function x.size ≡ true → (a c : Ty) → sub x.node ≡ fun_ty a c → All_data_given P Vars K sub gs
        → Arrows n types_there P settled Vars (x ∷ gs) (prim_size p) × One_wide n types_there P settled Vars K sub Went st after lo (data_holes (prim_size p)) (is_regular p) (x ∷ gs) (prim_size p)
    prim_wide K kinds sub x gs w fine arrows Went st after lo is_fun a c is D = wide_arrows n types_there P settled Vars K g kinds sub (data_holes (prim_size p)) (is_regular p) Went st after lo x gs (prim_size p) w (prim_ok p).formed (prim_ok p).inferred (prim_ok p).takes types_given fine.no_lambda (ap (applied g) (primitive_erased p) ∙ sym typed ∙ arrows) is_fun a c is D

    -- where the result is data, and where a reduction is left with its array
    pub prim_fine : (K : Kinds) (kinds : (m : ℕ) → 1 ≤ rank K (g m)) (sub : Sub) (gs : List Given) (w : Ty) → 1 ≤ rank K w → u ≡ arrows_of sub gs w → Rest_fine gs (prim_size p)
    prim_fine K kinds sub gs w k arrows = data_fine n types_there P settled Vars K g kinds sub (data_holes (prim_size p)) (is_regular p) gs (prim_size p) w (prim_ok p).formed (prim_ok p).inferred (prim_ok p).takes k (ap (applied g) (primitive_erased p) ∙ sym typed ∙ arrows)

    pub reduction_fine : (K : Kinds) (kinds : (m : ℕ) → 1 ≤ rank K (g m)) (sub : Sub) (gs : List Given) (a c : Ty) → Reduces p → 1 ≤ rank K c → u ≡ arrows_of sub gs (fun_ty a c) → Rest_fine gs (prim_size p)
    reduction_fine K kinds sub gs a c r k arrows = reduced_fine n types_there P settled Vars K g kinds sub (data_holes (prim_size p)) (is_regular p) p r gs a c k (ap (applied g) (primitive_erased p) ∙ sym typed ∙ arrows)

    pub prim_widths : (gs : List Given) → Arrows n types_there P settled Vars gs (prim_size p) → Widths gs (instance n types_there (prim_size p)) → Has_arrows gs (instance n types_there (prim_size p))
    prim_widths gs a w = arrows_opened n types_there P settled Vars gs (prim_size p) a w

    pub prim_typed : (Θ : Variable → Size) → Each_hole (λ v. Nice n types_there P settled Vars v (Θ v)) (prim_size p) → erased (with_types Θ (prim_size p)) ≡ u
    prim_typed Θ h = given_typed n types_there P settled Vars Θ (prim_size p) h ∙ opened_typed n types_there g (prim_size p) (prim_ok p).inferred types_given ∙ ap (applied g) (primitive_erased p) ∙ sym typed

    pub prim_says : (Θ : Variable → Size) → Each_hole (λ v. Nice n types_there P settled Vars v (Θ v)) (prim_size p) → Says P Vars (with_types Θ (prim_size p))
    prim_says Θ h = record {
      sizes = given_each n types_there P settled Vars Θ (Scoped P) (λ j x i. i) (prim_size p) 0 h (each_scoped (λ x. ⊥) P (λ x z. absurd z) (prim_size p) 0 (prim_ok p).sizes);
      variables = given_holes n types_there P settled Vars Θ (prim_size p) h;
      formed = given_formed n types_there P settled Vars Θ (prim_size p) h (prim_ok p).formed;
    }

-- ---- a primitive without type variables

pub closed_is : (p : Primitive) → Is_closed p → Each_hole (λ v. ⊥) (prim_size p) × (is_regular p ≡ false)
unfolding prim_size sized_type levels all_levels Each_hole Each_holes
closed_is (prim.Lowest own) i = (tt, refl)
closed_is (prim.Highest own) i = (tt, refl)
closed_is (prim.NumBits own) i = (tt, refl)
closed_is (prim.Convert to from) i = ((tt, tt), refl)
closed_is (prim.Min own) i = ((tt, (tt, tt)), refl)
closed_is (prim.Max own) i = ((tt, (tt, tt)), refl)
closed_is (prim.Abs own) i = ((tt, tt), refl)
closed_is (prim.Popc own) i = ((tt, tt), refl)
closed_is prim.Iota i = ((tt, tt), refl)
closed_is (prim.Fold folding.Sum own) i = ((tt, tt), refl)
closed_is (prim.Fold folding.Product own) i = ((tt, tt), refl)
closed_is (prim.Fold folding.Minimum own) i = ((tt, tt), refl)
closed_is (prim.Fold folding.Maximum own) i = ((tt, tt), refl)
closed_is p i = absurd i

module _ (g : Sub) where
  mutual
    unfolding erased all_erased Each_hole Each_holes applied all_applied

    closed_applied : (t : Size) → Each_hole (λ v. ⊥) t → applied g (erased t) ≡ erased t
    closed_applied (Hole v) h = absurd h
    closed_applied (Open n v u) h = absurd h
    closed_applied (Level d t) h = ap (λ x. Made head.Array (more x none)) (closed_applied t h)
    closed_applied (Built k ts) h = ap (Made k) (all_closed_applied ts h)
    closed_applied (Fun k p r) h = ap (λ x. fun_ty x (applied g (erased r))) (closed_applied p h.0) ∙ ap (fun_ty (erased p)) (closed_applied r h.1)

    all_closed_applied : (ts : Sizes) → Each_holes (λ v. ⊥) ts → all_applied g (all_erased ts) ≡ all_erased ts
    all_closed_applied no_size h = refl
    all_closed_applied (size_and t ts) h = ap (λ x. more x (all_applied g (all_erased ts))) (closed_applied t h.0) ∙ ap (more (erased t)) (all_closed_applied ts h.1)

pub closed_typed : (p : Primitive) (g : Sub) → Is_closed p → erased (prim_size p) ≡ applied g (prim_type p)
closed_typed p g i = sym (closed_applied g (prim_size p) (closed_is p i).0) ∙ ap (applied g) (primitive_erased p)

pub closed_says : (p : Primitive) (In : Free → Type 0) (Vars : Variable → Type 0) → Is_closed p → Says In Vars (prim_size p)
closed_says p In Vars i = record { sizes = each_scoped (λ x. ⊥) In (λ x z. absurd z) (prim_size p) 0 (prim_ok p).sizes; variables = hole_as (λ v. ⊥) Vars (λ v z. absurd z) (prim_size p) (closed_is p i).0; formed = (prim_ok p).formed }
