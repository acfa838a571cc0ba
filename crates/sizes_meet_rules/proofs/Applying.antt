-- A function by its name, applied to one argument of data, meets the rules where the argument does.
use Rattle.std.proofs.Common.{◌≡◌, ◌⊎◌, ℕ, suc, ◌<◌, ◌≤◌, ◌∷◌, Bool, true, false, cond, nat_eq, Option, Some, None, Ok, Err, refl, sym, ap, ◌∙◌, subst, arith, inl, inr, ltb-true}
use Rattle.std.specs.Prelude.{nat_lt, min}
use Rattle.fut_scalar.specs.declared.place.BindId.{BindId}
use Rattle.fut_scalar.specs.declared.place.Place.{Place}
use Rattle.fut_scalar.specs.declared.scalar.ScalarType.TheVariants as scalar
use Rattle.fut_scalar.specs.declared.scalar.IntType.TheVariants as int
use Rattle.fut_flat.specs.declared.prim.Ref.TheVariants as ref
use Rattle.fut_flat.specs.Terms.{Use}
use Rattle.fut_flat.specs.Erased.{FlatTerm}
use Rattle.fut_types.specs.declared.Head.TheVariants as head
use Rattle.fut_types.specs.declared.Kind.{Kind}
use Rattle.fut_types.specs.Types.{Ty, Var, Made, none, more, fun_ty, Sub, Kinds, HasKind, rank, least, level}
use Rattle.fut_typing.specs.Names.{Names}
use Rattle.fut_typing.specs.Primitives.{i64_ty}
use Rattle.fut_typing.specs.Scopes.{Scope as TypeScope}
use Rattle.fut_typing.specs.Typing.{Typed}
use Rattle.sized_types.specs.Sizes.{Free, Const, Name, Own, Unknown, Slot, Dim, At, Bound, Variable, Inferred, Written, Size, Hole, Open, Level, Built, Fun, Sizes, no_size, size_and, erased, all_erased, is_free, replaced, all_replaced}
use Rattle.fut_sizes.specs.Agreeing.{Answer, Mismatch}
use Rattle.fut_sizes.specs.Applications.{Argument, Early, Part, Applied, named_value, is_use, is_function, is_arrow}
use Rattle.fut_sizes.specs.Functions.{is_slot}
use Rattle.fut_sizes.specs.Matching.{Found, put, size_found, found_size, found_dim, read, all_read, Opened, none_opened, dim_in, meet_size, meet_dims, data_way, meet, all_meet}
use Rattle.fut_sizes.specs.Rules.{Each_hole, Each_holes}
use Rattle.fut_sizes.specs.Scopes.{Scope, i64_size}
use Rattle.fut_sizes.specs.Sizing.{finished, as_argument}
use Rattle.fut_sizes.specs.Steps.{State, Done, give, and_then, note}
use Rattle.fut_sizes.specs.Suiting.{Each, Each_all, Scoped, Data, All_data}
use Rattle.sizes_meet_rules.specs.Known.{Is_made, Formed, All_formed, Known_name, Known_names}
use Rattle.sizes_meet_rules.proofs.Meeting.{then_ok, same_ok, refused_ok, at_itself, Inner, Part_meets, inner_of, noted_meets, Whole_meets, Is_applied}
use Rattle.sizes_meet_rules.proofs.Reading.{put_settled, found_settled, slot_met, settled_met}
use Rattle.sizes_meet_rules.proofs.Settling.{Is_settled, Any_variable, noted}

-- ---- what matching with data finds

-- each slot is still open, or has a size of these
module _ (P : Free → Type 0) (settled : (d : Free) → P d → is_slot d ≡ false) where
  abbrev pub Slots : Found → Type 0
  Slots σ = (j : ℕ) → (σ.size j ≡ Slot j) ⊎ P (σ.size j)

  -- and is made where it was
  abbrev pub Stays : Found → Found → Type 0
  Stays σ τ = (Slots σ → Slots τ) × (τ.maker ≡ σ.maker) × (τ.next ≡ σ.next)

  stays_same : (σ τ : Found) → ◌≡◌ {A = Answer Found} (Ok σ) (Ok τ) → Stays σ τ
  stays_same σ τ q = subst (λ υ. Stays σ υ) (same_ok q) ((λ k. k), refl, refl)

  stays_then : (σ τ υ : Found) → Stays σ τ → Stays τ υ → Stays σ υ
  stays_then σ τ υ a b = ((λ k. b.0 (a.0 k)), b.1 ∙ a.1, b.2 ∙ a.2)

  pub stays_put : (i : ℕ) (e : Free) (σ : Found) → P e → Stays σ (size_found i e σ)
  stays_put i e σ h = ((λ k j. one j (k j)), refl, refl)
    where
      two : (j : ℕ) (b : Bool) → (cond b e (Slot j) ≡ Slot j) ⊎ P (cond b e (Slot j))
      two j true = inr h
      two j false = inl refl

      one : (j : ℕ) → (σ.size j ≡ Slot j) ⊎ P (σ.size j) → (put i e (σ.size j) ≡ Slot j) ⊎ P (put i e (σ.size j))
      one j (inl z) = subst (λ d. (put i e d ≡ Slot j) ⊎ P (put i e d)) (sym z) (two j (nat_eq i j))
      one j (inr p) = inr (subst P (sym (put_settled i e (σ.size j) (settled (σ.size j) p))) p)

  one_stays : (at : ℕ) (σ τ : Found) (x : Dim) (e : Free) → P e → meet_dims data_way at x (At e) σ ≡ Ok τ → Stays σ τ
  one_stays at σ τ (Bound k i) e h q = stays_same σ τ q
  one_stays at σ τ (At d) e h q = by_form (found_size σ d) (ap (λ v. meet_size data_way at (found_size σ d) v σ) (sym (found_settled σ e (settled e h))) ∙ q)
    where
      by_same : (y : Free) (c : Bool) → ◌≡◌ {A = Answer Found} (cond c (Ok σ) (Err (Mismatch at (At y) (At e)))) (Ok τ) → Stays σ τ
      by_same y true q = stays_same σ τ q
      by_same y false q = refused_ok q

      plain : (y : Free) → is_slot y ≡ false → meet_size data_way at y e σ ≡ Ok τ → Stays σ τ
      plain y s q = by_same y (is_free y e) (sym (settled_met at σ y e s (settled e h)) ∙ q)

      by_form : (y : Free) → meet_size data_way at y e σ ≡ Ok τ → Stays σ τ
      by_form (Slot i) q = subst (λ υ. Stays σ υ) (same_ok (sym (slot_met at i σ e (settled e h)) ∙ q)) (stays_put i e σ h)
      by_form (Const c) q = plain (Const c) refl q
      by_form (Name c) q = plain (Name c) refl q
      by_form (Own n c) q = plain (Own n c) refl q
      by_form (Unknown n c) q = plain (Unknown n c) refl q

  module _ (lo at : ℕ) (φ : Opened) where
    mutual
      unfolding meet all_meet Each Each_all Data All_data

      pub met_stays : (p t : Size) (σ τ : Found) → Data p → Data t → Each (Scoped P) 0 t → meet lo data_way at φ p none_opened t σ ≡ Ok τ → Stays σ τ
      met_stays (Open n v u) t σ τ dp dt s q = absurd dp
      met_stays (Fun k p r) t σ τ dp dt s q = absurd dp
      met_stays p (Open n v u) σ τ dp dt s q = absurd dt
      met_stays p (Fun k t r) σ τ dp dt s q = absurd dt
      met_stays (Hole v) (Hole w) σ τ dp dt s q = stays_same σ τ q
      met_stays (Hole v) (Level e t) σ τ dp dt s q = stays_same σ τ q
      met_stays (Hole v) (Built g ts) σ τ dp dt s q = stays_same σ τ q
      met_stays (Level d p) (Hole w) σ τ dp dt s q = stays_same σ τ q
      met_stays (Level d p) (Built g ts) σ τ dp dt s q = stays_same σ τ q
      met_stays (Level d p) (Level (Bound k i) t) σ τ dp dt s q = absurd (let l = s.0 in omega (arith, l))
      met_stays (Level d p) (Level (At e) t) σ τ dp dt s q =
          let r = then_ok (meet_dims data_way at (dim_in φ 0 d) (At e) σ) q in
          stays_then σ r.first τ (one_stays at σ r.first (dim_in φ 0 d) e s.0 r.done) (met_stays p t r.first τ dp dt s.1 r.rest)
      met_stays (Built h ps) (Hole w) σ τ dp dt s q = stays_same σ τ q
      met_stays (Built h ps) (Level e t) σ τ dp dt s q = stays_same σ τ q
      met_stays (Built h ps) (Built g ts) σ τ dp dt s q = all_met_stay ps ts σ τ dp dt s q

      all_met_stay : (ps ts : Sizes) (σ τ : Found) → All_data ps → All_data ts → Each_all (Scoped P) 0 ts → all_meet lo data_way at φ ps none_opened ts σ ≡ Ok τ → Stays σ τ
      all_met_stay no_size no_size σ τ dp dt s q = stays_same σ τ q
      all_met_stay no_size (size_and t ts) σ τ dp dt s q = stays_same σ τ q
      all_met_stay (size_and p ps) no_size σ τ dp dt s q = stays_same σ τ q
      all_met_stay (size_and p ps) (size_and t ts) σ τ dp dt s q =
          let r = then_ok (meet lo data_way at φ p none_opened t σ) q in
          stays_then σ r.first τ (met_stays p t σ r.first dp.0 dt.0 s.0 r.done) (all_met_stay ps ts r.first τ dp.1 dt.1 s.1 r.rest)

-- ---- what is settled reads as it is

module _ (τ : Found) where
  mutual
    unfolding read all_read Each Each_all Each_hole Each_holes

    pub read_settled : (t : Size) (j : ℕ) → Each (Scoped Is_settled) j t → Each_hole Any_variable t → read τ t ≡ t
    read_settled (Hole v) j s h = refl
    read_settled (Open n v u) j s h = absurd h
    read_settled (Level (At d) t) j s h = ap (λ w. Level (At w) (read τ t)) (found_settled τ d s.0) ∙ ap (Level (At d)) (read_settled t j s.1 h)
    read_settled (Level (Bound k i) t) j s h = ap (Level (Bound k i)) (read_settled t j s.1 h)
    read_settled (Built g ts) j s h = ap (Built g) (all_read_settled ts j s h)
    read_settled (Fun k p r) j s h = ap (λ x. Fun k x (read τ r)) (read_settled p (suc j) s.0 h.0) ∙ ap (Fun k p) (read_settled r (suc j) s.1 h.1)

    all_read_settled : (ts : Sizes) (j : ℕ) → Each_all (Scoped Is_settled) j ts → Each_holes Any_variable ts → all_read τ ts ≡ ts
    all_read_settled no_size j s h = refl
    all_read_settled (size_and t ts) j s h = ap (λ x. size_and x (all_read τ ts)) (read_settled t j s.0 h.0) ∙ ap (size_and t) (all_read_settled ts j s.1 h.1)

  module _ (g : ℕ → Dim → Dim) (twice : (d : Free) → found_size τ (found_size τ d) ≡ found_size τ d) where
    dim_twice : (d : Dim) → found_dim τ 0 (found_dim τ 0 d) ≡ found_dim τ 0 d
    dim_twice (At x) = ap At (twice x)
    dim_twice (Bound k i) = refl

    mutual
      unfolding read all_read replaced all_replaced Data All_data Each_hole Each_holes

      pub read_twice : (x : Size) (j : ℕ) → Each_hole Any_variable x → (read τ (read τ (replaced g j x)) ≡ read τ (replaced g j x)) × Each_hole Any_variable (read τ (replaced g j x))
      read_twice (Hole v) j d = (refl, tt)
      read_twice (Open n v u) j d = absurd d
      read_twice (Level e x) j d = let a = read_twice x j d in (ap (λ w. Level w (read τ (read τ (replaced g j x)))) (dim_twice (g j e)) ∙ ap (Level (found_dim τ 0 (g j e))) a.0, a.1)
      read_twice (Built h xs) j d = let a = all_read_twice xs j d in (ap (Built h) a.0, a.1)
      read_twice (Fun k p r) j d =
          let a = read_twice p (suc j) d.0 in
          let b = read_twice r (suc j) d.1 in
          (ap (λ w. Fun k w (read τ (read τ (replaced g (suc j) r)))) a.0 ∙ ap (Fun k (read τ (replaced g (suc j) p))) b.0, (a.1, b.1))

      all_read_twice : (xs : Sizes) (j : ℕ) → Each_holes Any_variable xs → (all_read τ (all_read τ (all_replaced g j xs)) ≡ all_read τ (all_replaced g j xs)) × Each_holes Any_variable (all_read τ (all_replaced g j xs))
      all_read_twice no_size j d = (refl, tt)
      all_read_twice (size_and x xs) j d =
          let a = read_twice x j d.0 in
          let b = all_read_twice xs j d.1 in
          (ap (λ w. size_and w (all_read τ (all_read τ (all_replaced g j xs)))) a.0 ∙ ap (size_and (read τ (replaced g j x))) b.0, (a.1, b.1))

pub no_arrow : (x : Size) → Data x → is_arrow x ≡ false
unfolding Data
no_arrow (Hole v) d = refl
no_arrow (Open n v u) d = absurd d
no_arrow (Level e x) d = refl
no_arrow (Built h xs) d = refl
no_arrow (Fun k p r) d = absurd d

pub no_function : (x : Size) → Data x → is_function x ≡ false
unfolding Data
no_function (Hole v) d = refl
no_function (Open n v u) d = absurd d
no_function (Level e x) d = refl
no_function (Built h xs) d = refl
no_function (Fun k p r) d = absurd d

pub number_size : (t : Size) → Formed t → erased t ≡ i64_ty → t ≡ i64_size
unfolding Formed All_formed erased all_erased
number_size (Hole (Inferred v)) f e = absurd (let z : Var v ≡ Made (head.Scalar (scalar.Int int.I64)) none = e in cc)
number_size (Hole (Written b k)) f e = absurd (let z : Made (head.Rigid b k) none ≡ Made (head.Scalar (scalar.Int int.I64)) none = e in cc)
number_size (Open n v u) f e = absurd f
number_size (Level d t) f e = absurd (let z : Made head.Array (more (erased t) none) ≡ Made (head.Scalar (scalar.Int int.I64)) none = e in cc)
number_size (Built h no_size) f e = ap (λ g. Built g no_size) (let z : Made h none ≡ Made (head.Scalar (scalar.Int int.I64)) none = e in (let q : h ≡ head.Scalar (scalar.Int int.I64) = cc in q))
number_size (Built h (size_and t ts)) f e = absurd (let z : Made h (more (erased t) (all_erased ts)) ≡ Made (head.Scalar (scalar.Int int.I64)) none = e in cc)
number_size (Fun k p r) f e = absurd (let z : Made head.Fun (more (erased p) (more (erased r) none)) ≡ Made (head.Scalar (scalar.Int int.I64)) none = e in cc)

-- what has a function's type is a function's sized type
pub record Function_size (t : Size) (a c : Ty) : Type 0 where
  pub chosen : ℕ
  pub from : Size
  pub to : Size
  pub is_function : t ≡ Fun chosen from to
  pub from_typed : erased from ≡ a
  pub to_typed : erased to ≡ c

pub function_is : (t : Size) (a c : Ty) → Formed t → erased t ≡ fun_ty a c → Function_size t a c
unfolding Formed erased all_erased
function_is (Hole (Inferred v)) a c f e = absurd (let z : Var v ≡ Made head.Fun (more a (more c none)) = e in cc)
function_is (Hole (Written b k)) a c f e = absurd (let z : Made (head.Rigid b k) none ≡ Made head.Fun (more a (more c none)) = e in cc)
function_is (Open n v u) a c f e = absurd f
function_is (Level d t) a c f e = absurd (let z : Made head.Array (more (erased t) none) ≡ Made head.Fun (more a (more c none)) = e in cc)
function_is (Built h ts) a c f e = absurd (subst Is_made (let z : Made h (all_erased ts) ≡ Made head.Fun (more a (more c none)) = e in (let q : h ≡ head.Fun = cc in q)) f.0)
function_is (Fun k p r) a c f e = record {
  chosen = k;
  from = p;
  to = r;
  is_function = refl;
  from_typed = let z : Made head.Fun (more (erased p) (more (erased r) none)) ≡ Made head.Fun (more a (more c none)) = e in cc;
  to_typed = let z : Made head.Fun (more (erased p) (more (erased r) none)) ≡ Made head.Fun (more a (more c none)) = e in cc;
}

-- what it is in any case
abbrev pub as_function : Size → Size
as_function (Fun k p r) = Fun k p r
as_function t = Fun 0 (Built head.Tuple no_size) (Built head.Tuple no_size)

pub function_there : (t : Size) → is_function (as_function t) ≡ true
function_there (Fun k p r) = refl
function_there (Hole v) = refl
function_there (Open m v u) = refl
function_there (Level d t) = refl
function_there (Built h ts) = refl

pub same_function : (t : Size) (a c : Ty) → Formed t → erased t ≡ fun_ty a c → as_function t ≡ t
same_function t a c f e = let W = function_is t a c f e in ap as_function W.is_function ∙ sym W.is_function

-- ---- the positions of a function that is applied

abbrev pub or_unknown : Option Free → Free → Free
or_unknown (Some d) e = d
or_unknown None e = e

pub not_less : (j k : ℕ) → k ≤ j → nat_lt j k ≡ false
not_less j k b = by_less (nat_lt j k) refl
  where
    by_less : (c : Bool) → nat_lt j k ≡ c → nat_lt j k ≡ false
    by_less true e = absurd (let z : j < k = ltb-true j k e in omega (arith, z, b))
    by_less false e = e

-- ---- an application

abbrev a_name : BindId → Place → ℕ → FlatTerm
a_name b at j = Use (ref.Bound b) at j

module _ (N : Names) (types : Sub) (home : ℕ → ℕ) (K : Kinds) (places : Kind) (data_places : 1 ≤ level places) where
  no_data_function : (a c : Ty) (n : ℕ) → types n ≡ fun_ty a c → HasKind K places (types n) → ⊥
  unfolding rank least
  no_data_function a c n e h = let z : level places ≤ min 0 (min (rank K a) (min (rank K c) 4)) = subst (λ w. level places ≤ rank K w) e h in omega (arith, z, data_places)

  module _ (In : Free → Type 0) (Vars : Variable → Type 0) (scope : Scope) where
    -- an argument, whose node is noted or has the sized type that is wanted of it
    pub record Argument_meets (e : FlatTerm) (mid hi : ℕ) (st : State) (a : Argument) (after : State) : Type 0 where
      pub value : Option Free
      pub named : Bool
      pub size : Size
      pub is_early : a ≡ Early mid value named size
      pub value_is : (value ≡ None) ⊎ (value ≡ named_value e)
      pub inner : Inner N types home In Vars scope e mid hi st size after
      pub here : named ≡ false → after.nodes mid ≡ size

    -- what does not wait
    pub early_meets : (e : FlatTerm) (mid hi : ℕ) (st : State) (part : Part) (before : State) (a : Done Argument) → mid < hi → Whole_meets N types home In Vars scope e mid hi st part before ⊎ Is_applied N types home In Vars scope e mid hi st part before → as_argument N types mid e part before ≡ Ok a → Argument_meets e mid hi st a.result a.state
    early_meets e mid hi st part before a l (inl W) q = by_use (is_use e) (ap (λ x. as_argument N types mid e x before) (sym W.is_whole) ∙ q)
      where
        by_use : (b : Bool) → and_then (cond b (give W.size) (note mid W.size)) (λ u. give (Early mid (named_value e) b u)) before ≡ Ok a → Argument_meets e mid hi st a.result a.state
        by_use true z = subst (λ (d : Done Argument). Argument_meets e mid hi st d.result d.state) (same_ok now)
            (record { value = named_value e; named = true; size = W.size; is_early = refl; value_is = inr refl; inner = W.inner; here = λ x. absurd (let y : true ≡ false = x in cc) })
          where
            now : ◌≡◌ {A = Answer (Done Argument)} (Ok (record { result = Early mid (named_value e) true W.size; state = before })) (Ok a)
            now = z
        by_use false z = subst (λ (d : Done Argument). Argument_meets e mid hi st d.result d.state) (same_ok now)
            (record { value = named_value e; named = false; size = W.size; is_early = refl; value_is = inr refl; inner = inner_of N types home In Vars scope e mid hi st W.size (noted mid W.size before).state (noted_meets N types home In Vars scope e mid hi st W.size before l W.inner); here = λ x. at_itself mid W.size before.nodes })
          where
            now : ◌≡◌ {A = Answer (Done Argument)} (Ok (record { result = Early mid (named_value e) false W.size; state = (noted mid W.size before).state })) (Ok a)
            now = z
    early_meets e mid hi st part before a l (inr W) q =
        let x1 = then_ok (finished N types mid (Applied W.function W.regular (W.argument ∷ W.others)) before) (ap (λ x. as_argument N types mid e x before) (sym W.is_applied) ∙ q) in
        let M = W.by_itself x1.first (ap (λ x. finished N types mid x before) W.is_applied ∙ x1.done) in
        subst (λ (d : Done Argument). Argument_meets e mid hi st d.result d.state) (same_ok x1.rest)
        (record { value = None; named = false; size = x1.first.result; is_early = refl; value_is = inl refl; inner = inner_of N types home In Vars scope e mid hi st x1.first.result x1.first.state M; here = λ x. M.here })

    pub argument_meets : (e : FlatTerm) (mid hi : ℕ) (st : State) (part : Part) (before : State) (a : Done Argument) → mid < hi → HasKind K places (types mid) → Part_meets N types home In Vars scope e mid hi st part before → as_argument N types mid e part before ≡ Ok a → Argument_meets e mid hi st a.result a.state
    argument_meets e mid hi st part before a l h (inl W) q = early_meets e mid hi st part before a l (inl W) q
    argument_meets e mid hi st part before a l h (inr (inl W)) q = absurd (no_data_function W.of_function.0 W.of_function.1.0 mid W.of_function.1.1 h)
    argument_meets e mid hi st part before a l h (inr (inr W)) q = early_meets e mid hi st part before a l (inr W) q

    -- of an argument that is a name
    abbrev pub Value_known : FlatTerm → Ty → Type 0
    Value_known (Use (ref.Bound y) at j) t = t ≡ i64_ty → Known_name In Vars types home scope y.0 i64_ty
    Value_known e t = Unit {0}

  pub value_is_known : (e : FlatTerm) (n : ℕ) (In : Free → Type 0) (Vars : Variable → Type 0) (scope : Scope) (T : TypeScope) → Known_names In Vars home scope K types T → Typed N places e n T K types → Value_known In Vars scope e (types n)
  value_is_known (Use (ref.Bound y) at i) n In Vars scope T known t = λ z. subst (λ w. Known_name In Vars types home scope y.0 w) z (known y.0 (types n) t)
  value_is_known e n In Vars scope T known t = tt
