-- The arguments of an application one after another: what they say, what is known of the positions that stand for them, and the rules.
use Rattle.std.proofs.Common.{◌≡◌, ◌⊎◌, ℕ, zero, suc, ◌+◌, ◌<◌, ◌≤◌, List, [], ◌∷◌, ◌++◌, Bool, true, false, cond, nat_eq, Option, Some, None, refl, sym, ap, ◌∙◌, subst, arith, inl, inr, eq-eqb, lt-ltb, le-ltb, ◌^◌, ltb-true}
use Rattle.std.specs.Prelude.{length}
use Rattle.std.proofs.lemmas.Bool.{ne_eqb}
use Rattle.fut_flat.specs.declared.prim.Ref.TheVariants as ref
use Rattle.fut_flat.specs.Numbers.{numbers}
use Rattle.fut_flat.specs.Terms.{no_pattern, pattern_and, Integer, Use, Strict, Lambda, Apply, Let, If, Loop, no_term}
use Rattle.fut_flat.specs.Erased.{FlatTerm}
use Rattle.fut_types.specs.declared.Kind.{Kind}
use Rattle.fut_types.specs.Types.{Ty, fun_ty, Sub, Kinds, HasKind, level}
use Rattle.fut_typing.specs.Names.{Names}
use Rattle.sized_types.specs.Sizes.{Free, Const, Name, Own, Unknown, Slot, Variable, Size, Hole, Open, Level, Built, Fun, erased, replaced, opened}
use Rattle.fut_sizes.specs.Agreeing.{fits_i64}
use Rattle.fut_sizes.specs.Applications.{Early, Late, Part, is_function, named_value, with_use, uses}
use Rattle.fut_sizes.specs.Functions.{is_slot, unknown_slot}
use Rattle.fut_sizes.specs.Matching.{Found, Opened}
use Rattle.fut_sizes.specs.Rules.{Each_hole, Outside, Away, Is_value, Applies, Sized}
use Rattle.fut_sizes.specs.Scopes.{i64_size, Scope}
use Rattle.fut_typing.specs.Primitives.{i64_ty}
use Rattle.fut_sizes.specs.Scoping.{Context}
use Rattle.fut_sizes.specs.Steps.{State}
use Rattle.fut_sizes.specs.Suiting.{Each, Scoped, Suits, suits_same}
use Rattle.sizes_meet_rules.specs.Known.{is_i64_size, Known_name, Formed, Says, Judged, Elsewhere}
use Rattle.sizes_meet_rules.specs.Plain.{Is_lambda, Flat_function, Gives_data}
use Rattle.sizes_meet_rules.proofs.Applying.{number_size, or_unknown, Value_known}
use Rattle.sizes_meet_rules.proofs.Chains.{number_value, Meant, step_in, Given, arguments, Takes_all, frame, here, opened_by, after, wants, last_found, last_next, own_maker, arrows_of, argument_by, taken_typed, All_plain}
use Rattle.sizes_meet_rules.proofs.Choosing.{Data_arrows}
use Rattle.sizes_meet_rules.proofs.Entering.{param_data}
use Rattle.sizes_meet_rules.proofs.Forming.{is_i64_ty, i64_ty_is, number_typed, formed_replaced}
use Rattle.sizes_meet_rules.proofs.Frames.{Okay, more, Frames, pushed, pushed_as, fill, fill_keeps, fill_back, filled, filled_same, opened_filled, filled_says}
use Rattle.sizes_meet_rules.proofs.Meeting.{order, each_scoped, With_met, met_wider, met_outside, met_settled, elsewhere_narrower, Inner, Waits, Waits_wide}
use Rattle.sizes_meet_rules.proofs.Naming.{number_name}
use Rattle.sizes_meet_rules.proofs.Noting.{Placed, placed_order, All_some, Avoids, uses_avoid, one_use, close, ended, Stages, Unnamed}
use Rattle.sizes_meet_rules.proofs.Operating.{number_is}
use Rattle.sizes_meet_rules.proofs.Reading.{found_settled}
use Rattle.sizes_meet_rules.proofs.Replacing.{erased_replaced, hole_replaced}
use Rattle.sizes_meet_rules.proofs.Showing.{numbers_some}
use Rattle.sizes_meet_rules.proofs.Lambdas.{Data_given, All_data_given}

abbrev pub spine : FlatTerm → List Given → FlatTerm
spine f [] = f
spine f (g ∷ gs) = spine (Apply f g.term) gs

pub spine_snoc : (f : FlatTerm) (gs : List Given) (g : Given) → spine f (gs ++ g ∷ []) ≡ Apply (spine f gs) g.term
spine_snoc f [] g = refl
spine_snoc f (h ∷ gs) g = spine_snoc (Apply f h.term) gs g

pub arguments_snoc : (gs : List Given) (g : Given) → arguments (gs ++ g ∷ []) ≡ arguments gs ++ argument_by g.waits g ∷ []
arguments_snoc [] g = refl
arguments_snoc (h ∷ gs) g = ap (λ xs. argument_by h.waits h ∷ xs) (arguments_snoc gs g)

pub length_snoc : (gs : List Given) (g : Given) → length (arguments (gs ++ g ∷ [])) ≡ suc (length (arguments gs))
length_snoc [] g = refl
length_snoc (h ∷ gs) g = ap suc (length_snoc gs g)

pub arrows_snoc : (types : Sub) (gs : List Given) (g : Given) (u : Ty) → arrows_of types (gs ++ g ∷ []) u ≡ arrows_of types gs (fun_ty (types g.node) u)
arrows_snoc types [] g u = refl
arrows_snoc types (h ∷ gs) g u = ap (fun_ty (types h.node)) (arrows_snoc types gs g u)

pub placed_snoc : (gs : List Given) (g : Given) (from mid hi : ℕ) → Placed gs from mid → g.node ≡ mid → mid + numbers g.term ≡ hi → Placed (gs ++ g ∷ []) from hi
placed_snoc [] g from mid hi p e z = (e ∙ sym p, ap (λ m. m + numbers g.term) p ∙ z)
placed_snoc (h ∷ gs) g from mid hi p e z = (p.0, placed_snoc gs g (from + numbers h.term) mid hi p.1 e z)

pub gives_lambda : (types : Sub) (home : ℕ → ℕ) (K : Kinds) (places : Kind) (e : FlatTerm) (n : ℕ) → Gives_data types home K places e n → Is_lambda e
gives_lambda types home K places (Lambda (pattern_and p ps) e) n h = tt
gives_lambda types home K places (Lambda no_pattern e) n h = h
gives_lambda types home K places (Use r at k) n h = h
gives_lambda types home K places (Strict o mark ts) n h = h
gives_lambda types home K places (Apply f e) n h = h
gives_lambda types home K places (Let b v e) n h = h
gives_lambda types home K places (If c a b) n h = h
gives_lambda types home K places (Loop mark sizes p first turns body) n h = h

pub all_some : (gs : List Given) → All_some gs
all_some [] = tt
all_some (g ∷ gs) = (numbers_some g.term, all_some gs)

module _ (N : Names) (types : Sub) (home : ℕ → ℕ) (K : Kinds) (places : Kind) (data_places : 1 ≤ level places) where
  module _ (In : Free → Type 0) (Vars : Variable → Type 0) (scope : Scope) where
    -- what is met up to some node stands in it
    pub record Given_inner (upto : ℕ) (g : Given) (st behind : State) : Type 0 where
      pub says : Says (With_met In g.node upto) Vars g.size
      pub typed : erased g.size ≡ types g.node
      pub kept : (n : ℕ) → (n < g.node) ⊎ (g.node + numbers g.term ≤ n) → behind.nodes n ≡ st.nodes n
      pub dropped : (n : ℕ) → (n < g.node) ⊎ (g.node + numbers g.term ≤ n) → behind.dropped n ≡ st.dropped n
      pub rules : (s : ℕ → Size) (G : Context) → Judged In Vars scope G → s g.node ≡ g.own → ((n : ℕ) → g.node < n → n < g.node + numbers g.term → s n ≡ behind.nodes n) → Sized N types s home g.term g.node G

    pub given_inner : (g : Given) (st behind : State) → g.own ≡ g.size → Inner N types home In Vars scope g.term g.node (g.node + numbers g.term) st g.size behind → Given_inner (g.node + numbers g.term) g st behind
    given_inner g st behind same I = record { says = I.says; typed = I.typed; kept = I.kept; dropped = I.dropped; rules = λ s G J e a. I.rules s G J (e ∙ same) a }

    -- the value of a name or a constant is no slot
    no_slot_named : (e : FlatTerm) (d : Free) → named_value e ≡ Some d → is_slot d ≡ false
    no_slot_named (Use (ref.Bound b) at k) d z = let w : Name b.0 ≡ d = cc in ap is_slot (sym w)
    no_slot_named (Use (ref.Prim p) at k) d z = absurd (let w : ◌≡◌ {A = Option Free} None (Some d) = z in cc)
    no_slot_named (Use (ref.Scalar s) at k) d z = absurd (let w : ◌≡◌ {A = Option Free} None (Some d) = z in cc)
    no_slot_named (Strict (Integer c t) mark no_term) d z = by_fit (fits_i64 c) z
      where
        by_fit : (b : Bool) → cond b (Some (Const c)) None ≡ Some d → is_slot d ≡ false
        by_fit true q = let w : Const c ≡ d = cc in ap is_slot (sym w)
        by_fit false q = absurd (let w : ◌≡◌ {A = Option Free} None (Some d) = q in cc)
    no_slot_named e d z = absurd (let w : ◌≡◌ {A = Option Free} None (Some d) = z in cc)

    value_settled : (g : Given) → (g.value ≡ None) ⊎ (g.value ≡ named_value g.term) → (d : Free) → g.value ≡ Some d → is_slot d ≡ false
    value_settled g (inl e) d z = absurd (let w : ◌≡◌ {A = Option Free} None (Some d) = sym e ∙ z in cc)
    value_settled g (inr e) d z = no_slot_named g.term d (sym e ∙ z)

    -- an argument that is sized between two states
    pub record Given_meets (upto : ℕ) (g : Given) (st behind : State) : Type 0 where
      pub value_is : (g.value ≡ None) ⊎ (g.value ≡ named_value g.term)
      pub inner : Given_inner upto g st behind
      pub noted : g.named ≡ false → behind.nodes g.node ≡ g.own
      pub value_known : Value_known N types home K places data_places In Vars scope g.term (types g.node)
      -- its node may have another sized type than is wanted, if it is a function and no name
      pub suits : Suits g.own g.size
      pub own_sizes : Each (Scoped (With_met In g.node upto)) 0 g.own
      pub own_named : g.named ≡ true → g.own ≡ g.size
      pub own_number : is_i64_size g.size ≡ true → g.own ≡ g.size

    -- one whose node has that which is wanted
    pub given_meets_as : (upto : ℕ) (g : Given) (st behind : State) → g.own ≡ g.size → (g.value ≡ None) ⊎ (g.value ≡ named_value g.term) → Given_inner upto g st behind → (g.named ≡ false → behind.nodes g.node ≡ g.size) → Value_known N types home K places data_places In Vars scope g.term (types g.node) → Given_meets upto g st behind
    given_meets_as upto g st behind same value inner noted known = record {
      value_is = value;
      inner = inner;
      noted = λ e. noted e ∙ sym same;
      value_known = known;
      suits = subst (λ x. Suits x g.size) (sym same) suits_same;
      own_sizes = subst (Each (Scoped (With_met In g.node upto)) 0) (sym same) inner.says.sizes;
      own_named = λ e. same;
      own_number = λ e. same;
    }

    pub given_wider : (upto hi : ℕ) (g : Given) (st behind : State) → upto ≤ hi → Given_meets upto g st behind → Given_meets hi g st behind
    given_wider upto hi g st behind l M = record {
      value_is = M.value_is;
      inner = record { says = record { sizes = each_scoped (With_met In g.node upto) (With_met In g.node hi) wide g.size 0 M.inner.says.sizes; variables = M.inner.says.variables; formed = M.inner.says.formed }; typed = M.inner.typed; kept = M.inner.kept; dropped = M.inner.dropped; rules = M.inner.rules };
      noted = M.noted;
      value_known = M.value_known;
      suits = M.suits;
      own_sizes = each_scoped (With_met In g.node upto) (With_met In g.node hi) wide g.own 0 M.own_sizes;
      own_named = M.own_named;
      own_number = M.own_number;
    }
      where
        wide : (d : Free) → With_met In g.node upto d → With_met In g.node hi d
        wide d (inl i) = inl i
        wide d (inr i) = inr (met_wider g.node upto g.node hi (omega arith) l d i)

    -- of its own nodes
    abbrev pub Own_meets : Given → State → State → Type 0
    Own_meets g st behind = Given_meets (g.node + numbers g.term) g st behind

    abbrev pub Data_meets : Given → State → State → Type 0
    Data_meets g st behind = Own_meets g st behind × ((HasKind K places (types g.node)) × (g.waits ≡ None))

    -- a function that does not wait
    abbrev pub Function_meets : Given → State → State → Type 0
    Function_meets g st behind = Own_meets g st behind × (Flat_function types home K places (types g.node) × (g.waits ≡ None))

    -- a lambda that waits
    pub record Lambda_waits (g : Given) : Type 0 where
      pub st : State
      pub part : Part
      pub waits : Waits N types home In Vars scope g.term g.node (g.node + numbers g.term) st part st
      pub waits_is : g.waits ≡ Some (Late g.node waits.waiting)
      pub value : g.value ≡ None
      pub named : g.named ≡ false
      pub flat : Flat_function types home K places (types g.node)

    -- one that takes the parameters which are wanted of it
    pub record Lambda_wide (g : Given) : Type 0 where
      pub st : State
      pub part : Part
      pub waits : Waits_wide N types home In Vars scope g.term g.node (g.node + numbers g.term) st part st
      pub waits_is : g.waits ≡ Some (Late g.node waits.waiting)
      pub value : g.value ≡ None
      pub named : g.named ≡ false
      pub is_fun : is_function g.size ≡ true
      pub gives : Gives_data types home K places g.term g.node

    -- a name, or an application, which is used at the sizes that are wanted of it
    pub record Named_wide (g : Given) (st mid : State) : Type 0 where
      pub own : Size
      pub waits_is : g.waits ≡ Some (Early g.node g.value g.named own)
      pub own_fun : is_function own ≡ true
      pub value_is : (g.value ≡ None) ⊎ (g.value ≡ named_value g.term)
      pub value_known : Value_known N types home K places data_places In Vars scope g.term (types g.node)
      pub says : Says (With_met In g.node (g.node + numbers g.term)) Vars own
      pub typed : erased own ≡ types g.node
      pub arrows : Data_arrows own
      pub of_function : (a : Ty) × ((c : Ty) × (types g.node ≡ fun_ty a c))
      pub kept : (n : ℕ) → (n < g.node) ⊎ (g.node + numbers g.term ≤ n) → mid.nodes n ≡ st.nodes n
      pub dropped : (n : ℕ) → (n < g.node) ⊎ (g.node + numbers g.term ≤ n) → mid.dropped n ≡ st.dropped n
      pub noted : g.named ≡ false → mid.nodes g.node ≡ own
      -- the node of a name has the sized type that is wanted
      pub rules : (s : ℕ → Size) (G : Context) → Judged In Vars scope G → (t : Size) → Suits own t → s g.node ≡ cond g.named t own → ((n : ℕ) → g.node < n → n < g.node + numbers g.term → s n ≡ mid.nodes n) → Sized N types s home g.term g.node G

    -- arguments of data that are sized one after another
    abbrev pub All_given : List Given → State → State → Type 0
    All_given [] st A = A ≡ st
    All_given (g ∷ gs) st A = (mid : State) × (Data_meets g st mid × All_given gs mid A)

    -- one function among them: a lambda is sized later
    abbrev pub One_waits : List Given → State → State → Type 0
    One_waits [] st A = ⊥
    One_waits (g ∷ gs) st A = ((mid : State) × (Data_meets g st mid × One_waits gs mid A)) ⊎ ((Lambda_waits g × All_given gs st A) ⊎ ((mid : State) × (Function_meets g st mid × All_given gs mid A)))

    -- or such a lambda, name or application before data
    abbrev pub First_waits : List Given → State → State → Type 0
    First_waits [] st A = ⊥
    First_waits (g ∷ gs) st A = (Lambda_wide g × All_given gs st A) ⊎ ((mid : State) × (Named_wide g st mid × All_given gs mid A))

    pub given_snoc : (gs : List Given) (g : Given) (st mid A : State) → All_given gs st mid → Data_meets g mid A → All_given (gs ++ g ∷ []) st A
    given_snoc [] g st mid A h m = (A, (subst (λ x. Data_meets g x A) h m, refl))
    given_snoc (x ∷ gs) g st mid A h m = (h.0, (h.1.0, given_snoc gs g h.0 mid A h.1.1 m))

    pub waits_snoc : (gs : List Given) (g : Given) (st A : State) → All_given gs st A → Lambda_waits g → One_waits (gs ++ g ∷ []) st A
    waits_snoc [] g st A h w = inr (inl (w, h))
    waits_snoc (x ∷ gs) g st A h w = inl (h.0, (h.1.0, waits_snoc gs g h.0 A h.1.1 w))

    pub function_snoc : (gs : List Given) (g : Given) (st mid A : State) → All_given gs st mid → Function_meets g mid A → One_waits (gs ++ g ∷ []) st A
    function_snoc [] g st mid A h m = inr (inr (A, (subst (λ x. Function_meets g x A) h m, refl)))
    function_snoc (x ∷ gs) g st mid A h m = inl (h.0, (h.1.0, function_snoc gs g h.0 mid A h.1.1 m))

    pub data_snoc : (gs : List Given) (g : Given) (st mid A : State) → One_waits gs st mid → Data_meets g mid A → One_waits (gs ++ g ∷ []) st A
    data_snoc [] g st mid A h m = absurd h
    data_snoc (x ∷ gs) g st mid A (inl h) m = inl (h.0, (h.1.0, data_snoc gs g h.0 mid A h.1.1 m))
    data_snoc (x ∷ gs) g st mid A (inr (inl h)) m = inr (inl (h.0, given_snoc gs g st mid A h.1 m))
    data_snoc (x ∷ gs) g st mid A (inr (inr h)) m = inr (inr (h.0, (h.1.0, given_snoc gs g h.0 mid A h.1.1 m)))

    pub first_snoc : (gs : List Given) (g : Given) (st mid A : State) → First_waits gs st mid → Data_meets g mid A → First_waits (gs ++ g ∷ []) st A
    first_snoc [] g st mid A h m = absurd h
    first_snoc (x ∷ gs) g st mid A (inl h) m = inl (h.0, given_snoc gs g st mid A h.1 m)
    first_snoc (x ∷ gs) g st mid A (inr h) m = inr (h.0, (h.1.0, given_snoc gs g h.0 mid A h.1.1 m))

    -- ---- once all are sized: the lambda from the state behind data to the last one

    -- what does not wait
    abbrev pub Early_given : Given → Type 0
    Early_given g = (t : Size) × (g.waits ≡ Some (Early g.node g.value g.named t))

    module _ (to : ℕ) (A0 B : State) where
      abbrev pub Part_there : Given → State → State → Type 0
      Part_there g st mid = (Own_meets g st mid × (g.waits ≡ None)) ⊎ ((Given_meets to g st mid × Early_given g) ⊎ (Given_meets to g A0 B × (mid ≡ st)))

      abbrev pub All_parts : List Given → State → State → Type 0
      All_parts [] st A = A ≡ st
      All_parts (g ∷ gs) st A = (mid : State) × (Part_there g st mid × All_parts gs mid A)

      abbrev first_state : (g : Given) (st mid : State) → Part_there g st mid → State
      first_state g st mid (inl m) = st
      first_state g st mid (inr (inl m)) = st
      first_state g st mid (inr (inr m)) = A0

      abbrev last_state : (g : Given) (st mid : State) → Part_there g st mid → State
      last_state g st mid (inl m) = mid
      last_state g st mid (inr (inl m)) = mid
      last_state g st mid (inr (inr m)) = B

      pub part_meets : (g : Given) (st mid : State) (m : Part_there g st mid) → g.node + numbers g.term ≤ to → Given_meets to g (first_state g st mid m) (last_state g st mid m)
      part_meets g st mid (inl m) l = given_wider (g.node + numbers g.term) to g st mid l m.0
      part_meets g st mid (inr (inl m)) l = m.0
      part_meets g st mid (inr (inr m)) l = m.0

      part_kept : (g : Given) (st mid : State) → Part_there g st mid → (x : ℕ) → (x < g.node) ⊎ (g.node + numbers g.term ≤ x) → mid.nodes x ≡ st.nodes x
      part_kept g st mid (inl m) x o = m.0.inner.kept x o
      part_kept g st mid (inr (inl m)) x o = m.0.inner.kept x o
      part_kept g st mid (inr (inr m)) x o = ap (λ (y : State). y.nodes x) m.1

      part_dropped : (g : Given) (st mid : State) → Part_there g st mid → (x : ℕ) → (x < g.node) ⊎ (g.node + numbers g.term ≤ x) → mid.dropped x ≡ st.dropped x
      part_dropped g st mid (inl m) x o = m.0.inner.dropped x o
      part_dropped g st mid (inr (inl m)) x o = m.0.inner.dropped x o
      part_dropped g st mid (inr (inr m)) x o = ap (λ (y : State). y.dropped x) m.1

      pub below : (gs : List Given) (st A : State) (from hi : ℕ) → Placed gs from hi → All_parts gs st A → (x : ℕ) → (x < from) ⊎ (hi ≤ x) → A.nodes x ≡ st.nodes x
      below [] st A from hi p h x o = ap (λ (y : State). y.nodes x) h
      below (g ∷ gs) st A from hi p h x o = below gs h.0 A (from + numbers g.term) hi p.1 h.1.1 x (further o) ∙ part_kept g st h.0 h.1.0 x (here_kept o)
        where
          further : (x < from) ⊎ (hi ≤ x) → (x < from + numbers g.term) ⊎ (hi ≤ x)
          further (inl l) = inl (omega (arith, l))
          further (inr l) = inr l

          here_kept : (x < from) ⊎ (hi ≤ x) → (x < g.node) ⊎ (g.node + numbers g.term ≤ x)
          here_kept (inl l) = let y = p.0 in inl (omega (arith, y, l))
          here_kept (inr l) = let y = p.0 in let z = placed_order gs (from + numbers g.term) hi p.1 in inr (omega (arith, y, z, l))

      pub none_dropped : (gs : List Given) (st A : State) (from hi : ℕ) → Placed gs from hi → All_parts gs st A → (x : ℕ) → (x < from) ⊎ (hi ≤ x) → A.dropped x ≡ st.dropped x
      none_dropped [] st A from hi p h x o = ap (λ (y : State). y.dropped x) h
      none_dropped (g ∷ gs) st A from hi p h x o = none_dropped gs h.0 A (from + numbers g.term) hi p.1 h.1.1 x (further o) ∙ part_dropped g st h.0 h.1.0 x (here_kept o)
        where
          further : (x < from) ⊎ (hi ≤ x) → (x < from + numbers g.term) ⊎ (hi ≤ x)
          further (inl l) = inl (omega (arith, l))
          further (inr l) = inr l

          here_kept : (x < from) ⊎ (hi ≤ x) → (x < g.node) ⊎ (g.node + numbers g.term ≤ x)
          here_kept (inl l) = let y = p.0 in inl (omega (arith, y, l))
          here_kept (inr l) = let y = p.0 in let z = placed_order gs (from + numbers g.term) hi p.1 in inr (omega (arith, y, z, l))

    -- none of the nodes of a lambda
    abbrev pub Not_in : List Given → ℕ → Type 0
    Not_in [] x = Unit {0}
    Not_in (g ∷ gs) x = (((x < g.node) ⊎ (g.node + numbers g.term ≤ x)) ⊎ ((g.waits ≡ None) ⊎ Early_given g)) × Not_in gs x

    pub not_in_outside : (gs : List Given) (from hi : ℕ) → Placed gs from hi → (x : ℕ) → (x < from) ⊎ (hi ≤ x) → Not_in gs x
    not_in_outside [] from hi p x o = tt
    not_in_outside (g ∷ gs) from hi p x (inl l) = (inl (inl (let y = p.0 in omega (arith, l, y))), not_in_outside gs (from + numbers g.term) hi p.1 x (inl (omega (arith, l))))
    not_in_outside (g ∷ gs) from hi p x (inr l) = (inl (inr (let y = p.0 in let z = placed_order gs (from + numbers g.term) hi p.1 in omega (arith, l, y, z))), not_in_outside gs (from + numbers g.term) hi p.1 x (inr l))

    -- what the lambda leaves as it is
    pub record Later_part (A B : State) (gs : List Given) : Type 0 where
      pub nodes : (x : ℕ) → Not_in gs x → B.nodes x ≡ A.nodes x
      pub dropped : (x : ℕ) → Not_in gs x → B.dropped x ≡ A.dropped x

    module _ (lo first hi : ℕ) (E : Elsewhere N types home lo hi In) (from_lo : lo ≤ first) where
      abbrev pub P : Free → Type 0
      P d = With_met In first hi d

      pub P_settled : (d : Free) → P d → is_slot d ≡ false
      P_settled d = met_settled N types home In lo hi first hi E d

      met_later : (m : ℕ) (d : Free) → P d → m ≤ first → With_met In m hi d
      met_later m d (inl i) l = inl i
      met_later m d (inr i) l = inr (met_wider first hi m hi l (omega arith) d i)

      pub given_in : (upto : ℕ) (g : Given) (st behind : State) → Given_meets upto g st behind → first ≤ g.node → upto ≤ hi → Each (Scoped P) 0 g.size
      given_in upto g st behind m l l' = each_scoped (With_met In g.node upto) P wide g.size 0 m.inner.says.sizes
        where
          wide : (d : Free) → With_met In g.node upto d → P d
          wide d (inl i) = inl i
          wide d (inr i) = inr (met_wider g.node upto first hi l l' d i)

      module _ (A0 B : State) where
        pub all_plain : (gs : List Given) (st A : State) (from : ℕ) → first ≤ from → Placed gs from hi → All_parts hi A0 B gs st A → All_plain lo P P P_settled P_settled gs
        all_plain [] st A from l p h = tt
        all_plain (g ∷ gs) st A from l p h =
            let M = part_meets hi A0 B g st h.0 h.1.0 (let y = p.0 in let z = placed_order gs (from + numbers g.term) hi p.1 in omega (arith, y, z)) in
            ((M.inner.says.formed, given_in hi g (first_state hi A0 B g st h.0 h.1.0) (last_state hi A0 B g st h.0 h.1.0) M (let y = p.0 in omega (arith, y, l)) (omega arith), value_settled g M.value_is, M.own_named), all_plain gs h.0 A (from + numbers g.term) (omega (arith, l)) p.1 h.1.1)

      pub one_fit : (g : Given) (st mid : State) → Data_meets g st mid → first ≤ g.node → g.node + numbers g.term ≤ hi → Data_given P Vars K types g
      one_fit g st mid m l l' = (((param_data N types home K places g.size g.node data_places m.1.0 m.0.inner.says.formed m.0.inner.typed, m.0.inner.says.formed, given_in (g.node + numbers g.term) g st mid m.0 l l', m.0.inner.says.variables), m.1.1), (m.0.inner.typed, let k = m.1.0 in omega (arith, data_places, k)))

      pub all_fit : (gs : List Given) (st A : State) (from : ℕ) → first ≤ from → Placed gs from hi → All_given gs st A → All_data_given P Vars K types gs
      all_fit [] st A from l p h = tt
      all_fit (g ∷ gs) st A from l p h = (one_fit g st h.0 h.1.0 (let y = p.0 in omega (arith, y, l)) (let y = p.0 in let z = placed_order gs (from + numbers g.term) hi p.1 in omega (arith, y, z)), all_fit gs h.0 A (from + numbers g.term) (omega (arith, l)) p.1 h.1.1)

      module _ (A0 B : State) (τ : Found) (slots : (i : ℕ) → (τ.size i ≡ Slot i) ⊎ P (τ.size i)) where
        abbrev closed_to : Free → Free
        closed_to x = close N types τ lo x

        abbrev ends : Frames → Frames
        ends δ = ended N types τ lo δ

        still : (d : Free) → is_slot d ≡ false → closed_to d ≡ d
        still (Slot i) s = absurd (let z : true ≡ false = s in cc)
        still (Const c) s = refl
        still (Name c) s = refl
        still (Own n c) s = refl
        still (Unknown n c) s = refl

        -- ---- the positions of one function
        module _ (at next k : ℕ) (g : Given) (st behind : State) (M : Given_meets hi g st behind) (a1 : lo ≤ at) (a2 : at < first) (a3 : first ≤ hi) (maker : (i : ℕ) → i < k → τ.maker (next + i) ≡ at) where
          abbrev inside : ℕ → Free
          inside i = closed_to (frame at next k (number_value g) i)

          at_low : (i : ℕ) → i < k → inside i ≡ unknown_slot τ.maker (τ.size (next + i))
          at_low i l = ap (λ b. closed_to (cond b (Slot (next + i)) (cond (nat_eq i k) (or_unknown (number_value g) (Unknown at (next + k))) (Unknown at (next + i))))) (lt-ltb i k l)

          at_value : inside k ≡ closed_to (or_unknown (number_value g) (Unknown at (next + k)))
          at_value = ap (λ b. closed_to (cond b (Slot (next + k)) (cond (nat_eq k k) (or_unknown (number_value g) (Unknown at (next + k))) (Unknown at (next + k))))) (le-ltb k k (omega arith)) ∙ ap (λ b. closed_to (cond b (or_unknown (number_value g) (Unknown at (next + k))) (Unknown at (next + k)))) (eq-eqb k k refl)

          at_high : (i : ℕ) → k < i → inside i ≡ Unknown at (next + i)
          at_high i l = ap (λ b. closed_to (cond b (Slot (next + i)) (cond (nat_eq i k) (or_unknown (number_value g) (Unknown at (next + k))) (Unknown at (next + i))))) (le-ltb i k (omega (arith, l))) ∙ ap (λ b. closed_to (cond b (or_unknown (number_value g) (Unknown at (next + k))) (Unknown at (next + i)))) (ne_eqb i k (λ z. omega (arith, z, l)))

          low_is : (i : ℕ) → i < k → (inside i ≡ Unknown at (next + i)) ⊎ P (inside i)
          low_is i l = by_slot (slots (next + i))
            where
              by_slot : (τ.size (next + i) ≡ Slot (next + i)) ⊎ P (τ.size (next + i)) → (inside i ≡ Unknown at (next + i)) ⊎ P (inside i)
              by_slot (inl z) = inl (at_low i l ∙ ap (unknown_slot τ.maker) z ∙ ap (λ m. Unknown m (next + i)) (maker i l))
              by_slot (inr w) = inr (subst P (sym (at_low i l ∙ ap (unknown_slot τ.maker) (sym (found_settled τ (τ.size (next + i)) (P_settled (τ.size (next + i)) w))) ∙ still (τ.size (next + i)) (P_settled (τ.size (next + i)) w))) w)

          -- a value as a size is a number's
          number_given : (number_value g ≡ None) ⊎ ((number_value g ≡ named_value g.term) × (types g.node ≡ i64_ty))
          number_given = by_number (is_i64_size g.size) refl M.value_is
            where
              by_number : (c : Bool) → is_i64_size g.size ≡ c → (g.value ≡ None) ⊎ (g.value ≡ named_value g.term) → (number_value g ≡ None) ⊎ ((number_value g ≡ named_value g.term) × (types g.node ≡ i64_ty))
              by_number true e (inl z) = inl (ap (λ b. cond b g.value None) e ∙ z)
              by_number true e (inr z) = inr (ap (λ b. cond b g.value None) e ∙ z, i64_ty_is (types g.node) (ap is_i64_ty (sym M.inner.typed) ∙ sym (number_typed g.size M.inner.says.formed) ∙ e))
              by_number false e o = inl (ap (λ b. cond b g.value None) e)

          abbrev value_now : Option Free → Free
          value_now v = closed_to (or_unknown v (Unknown at (next + k)))

          abbrev Given_as : FlatTerm → Option Free → Type 0
          Given_as e v = (v ≡ None) ⊎ ((v ≡ named_value e) × (types g.node ≡ i64_ty))

          value_in : (e : FlatTerm) → Value_known N types home K places data_places In Vars scope e (types g.node) → (v : Option Free) → Given_as e v → With_met In at hi (value_now v)
          value_in e w v (inl z) = subst (λ o. With_met In at hi (value_now o)) (sym z) (inr (omega arith, omega (arith, a2, a3)))
          value_in (Use (ref.Bound y) p i) w v (inr z) = let n = w z.1 in subst (λ o. With_met In at hi (value_now o)) (sym z.0) (inl (n.number (number_is n.size n.says.formed (number_name In Vars types home scope y.0 n))))
          value_in (Strict (Integer c i) mark no_term) w v (inr z) = by_fit (fits_i64 c) z.0
            where
              by_fit : (b : Bool) → v ≡ cond b (Some (Const c)) None → With_met In at hi (value_now v)
              by_fit true q = subst (λ o. With_met In at hi (value_now o)) (sym q) (inr tt)
              by_fit false q = subst (λ o. With_met In at hi (value_now o)) (sym q) (inr (omega arith, omega (arith, a2, a3)))
          value_in e w v (inr z) = subst (λ o. With_met In at hi (value_now o)) (sym z.0) (inr (omega arith, omega (arith, a2, a3)))

          all_in : (i : ℕ) → With_met In at hi (inside i)
          all_in i = by_order (order i k) (order k i)
            where
              wide : (d : Free) → P d → With_met In at hi d
              wide d (inl w) = inl w
              wide d (inr w) = inr (met_wider first hi at hi (omega (arith, a2)) (omega arith) d w)

              by_low : (inside i ≡ Unknown at (next + i)) ⊎ P (inside i) → With_met In at hi (inside i)
              by_low (inl z) = subst (With_met In at hi) (sym z) (inr (omega arith, omega (arith, a2, a3)))
              by_low (inr w) = wide (inside i) w

              by_order : (i < k) ⊎ (k ≤ i) → (k < i) ⊎ (i ≤ k) → With_met In at hi (inside i)
              by_order (inl x) o = by_low (low_is i x)
              by_order (inr x) (inl y) = subst (With_met In at hi) (sym (at_high i y)) (inr (omega arith, omega (arith, a2, a3)))
              by_order (inr x) (inr y) = subst (λ m. With_met In at hi (inside m)) (let z : k ≡ i = omega (arith, x, y) in z) (subst (With_met In at hi) (sym at_value) (value_in g.term M.value_known (number_value g) number_given))

          module _ (s : ℕ → Size) (G : Context) (J : Judged In Vars scope G) (at_node : s g.node ≡ g.own) where
            value_given : (e : FlatTerm) → Value_known N types home K places data_places In Vars scope e (types g.node) → (v : Option Free) → Given_as e v → Is_value N types s home e g.node G (value_now v) ⊎ (value_now v ≡ Unknown at (next + k))
            value_given e w v (inl z) = inr (ap value_now z)
            value_given (Use (ref.Bound x) p i) w v (inr z) = let n = w z.1 in inl (ap value_now z.0, by_form n (number_size n.size n.says.formed (number_name In Vars types home scope x.0 n)) n.is_general refl)
              where
                by_form : (n : Known_name In Vars types home scope x.0 i64_ty) → n.size ≡ i64_size → (c : Bool) → n.is_general ≡ c → (G.sizes x.0 ≡ Some i64_size) ⊎ (G.schemes x.0 ≡ Some i64_size)
                by_form n e true k = inr (J.schemes x.0 n.size (n.known ∙ ap (λ b. Some (record { size = n.size; is_general = b })) k) ∙ ap Some e)
                by_form n e false k = inl (J.sizes x.0 n.size (n.known ∙ ap (λ b. Some (record { size = n.size; is_general = b })) k) ∙ ap Some e)
            value_given (Strict (Integer c i) mark no_term) w v (inr z) = by_fit z.1 (fits_i64 c) refl z.0
              where
                by_fit : types g.node ≡ i64_ty → (b : Bool) → fits_i64 c ≡ b → v ≡ cond b (Some (Const c)) None → Is_value N types s home (Strict (Integer c i) mark no_term) g.node G (value_now v) ⊎ (value_now v ≡ Unknown at (next + k))
                by_fit i64 true fits q = inl (ap value_now q, at_node ∙ M.own_number (number_typed g.size M.inner.says.formed ∙ ap is_i64_ty (M.inner.typed ∙ i64)) ∙ number_size g.size M.inner.says.formed (M.inner.typed ∙ i64), ltb-true c (2 ^ 63) fits)
                by_fit i64 false fits q = inr (ap value_now q)
            value_given e w v (inr z) = inr (ap value_now z.0)

            known_low : (i : ℕ) → i < k → Outside N types s home at (1 + at) (inside i) ⊎ (inside i ≡ Unknown at (next + i))
            known_low i x = by_low (low_is i x)
              where
                outside : (d : Free) → P d → Outside N types s home at (1 + at) d
                outside d (inl w) o = (elsewhere_narrower N types home lo hi at (1 + at) In a1 (omega (arith, a2, a3)) E).outside d w o
                outside d (inr w) o = met_outside N types home first hi at (1 + at) (inr (omega (arith, a2))) d w o

                by_low : (inside i ≡ Unknown at (next + i)) ⊎ P (inside i) → Outside N types s home at (1 + at) (inside i) ⊎ (inside i ≡ Unknown at (next + i))
                by_low (inl z) = inr z
                by_low (inr w) = inl (outside (inside i) w)

        -- ---- what is read at last

        abbrev Frames_in : ℕ → (ℕ → ℕ → Type 0) → Frames → Type 0
        Frames_in m ok δ = (j i : ℕ) → ok j i → With_met In m hi (ends δ j i)

        frames_more : (gs : List Given) (ok : ℕ → ℕ → Type 0) (Q : ℕ → Type 0) (δ : Frames) (f : ℕ → Free) → Frames_in (suc (here lo gs)) ok δ → ((i : ℕ) → With_met In (here lo gs) hi (closed_to (f i))) → Frames_in (here lo gs) (more Q ok) (pushed f δ)
        unfolding pushed more
        frames_more gs ok Q δ f h w zero i l = w i
        frames_more gs ok Q δ f h w (suc j) i l = wide (ends δ j i) (h j i l)
          where
            wide : (d : Free) → With_met In (suc (here lo gs)) hi d → With_met In (here lo gs) hi d
            wide d (inl x) = inl x
            wide d (inr x) = inr (met_wider (suc (here lo gs)) hi (here lo gs) hi (omega arith) (omega arith) d x)

        pub stage_here : (gs : List Given) (δ : Frames) (t : Size) (σ : Found) (s : ℕ → Size) → Takes_all gs t → Stages N types τ lo P P_settled gs δ t σ s → s (here lo gs) ≡ filled (ends δ) 0 t
        stage_here [] δ t σ s h g = ap s (let z : here lo [] ≡ lo = omega arith in z) ∙ g
        stage_here (g ∷ gs) δ (Fun k p r) σ s h w = ap s (let z : here lo (g ∷ gs) ≡ suc (here lo gs) = omega arith in z) ∙ w.0
        stage_here (g ∷ gs) δ (Hole v) σ s h w = absurd h
        stage_here (g ∷ gs) δ (Open m v u) σ s h w = absurd h
        stage_here (g ∷ gs) δ (Level d t) σ s h w = absurd h
        stage_here (g ∷ gs) δ (Built f ts) σ s h w = absurd h

        pub record Last_says (u : Ty) (t : Size) : Type 0 where
          pub says : Says (With_met In lo hi) Vars t
          pub typed : erased t ≡ u

        pub last_says : (gs : List Given) (δ : Frames) (ok : ℕ → ℕ → Type 0) (t : Size) (σ : Found) (st A : State) (from : ℕ) (u : Ty) → Takes_all gs t → Each (Okay P ok) 0 t → Each_hole Vars t → Formed t → erased t ≡ arrows_of types gs u → Frames_in (here lo gs) ok δ → first ≤ hi → here lo gs < first → Placed gs from hi → All_parts hi A0 B gs st A
            → ((x : ℕ) → x < (last_found lo gs t σ).next → τ.maker x ≡ (last_found lo gs t σ).maker x) → (s : ℕ → Size) → Stages N types τ lo P P_settled gs δ t σ s → Last_says u (s lo)
        unfolding Each Each_hole Formed erased
        last_says [] δ ok t σ st A from u h e o f z fs l l' p a mk s g = subst (Last_says u) (sym g) (record {
          says = record {
            sizes = filled_says P (With_met In lo hi) (λ d i. met_later lo d i from_lo) (ends δ) ok (λ j i x. subst (λ m. With_met In m hi (ends δ j i)) (let y : here lo [] ≡ lo = omega arith in y) (fs j i x)) t 0 e;
            variables = hole_replaced (fill (ends δ)) Vars t 0 o;
            formed = formed_replaced (fill (ends δ)) (fill_keeps (ends δ)) (fill_back (ends δ)) t 0 f;
          };
          typed = erased_replaced (fill (ends δ)) t 0 ∙ z;
        })
        last_says (g ∷ gs) δ ok (Fun k p r) σ st A from u h e o f z fs l l' pl a mk s w =
            let M = part_meets hi A0 B g st a.0 a.1.0 (let y = pl.0 in let q = placed_order gs (from + numbers g.term) hi pl.1 in omega (arith, y, q)) in
            let v = step_in P ok k p r g f M.inner.says.formed (taken_typed p g.size h.0) e in
            last_says gs (pushed (frame (here lo gs) σ.next k (number_value g)) δ) (more (Meant k g) ok) r (after lo gs g σ k) a.0 A (from + numbers g.term) u h.1 v.1 o.1 f.1 (let y : fun_ty (erased p) (erased r) ≡ fun_ty (types g.node) (arrows_of types gs u) = z in cc)
            (frames_more gs ok (Meant k g) δ (frame (here lo gs) σ.next k (number_value g)) (λ j i x. subst (λ m. With_met In m hi (ends δ j i)) (let y : here lo (g ∷ gs) ≡ suc (here lo gs) = omega arith in y) (fs j i x))
            (λ i. all_in (here lo gs) σ.next k g (first_state hi A0 B g st a.0 a.1.0) (last_state hi A0 B g st a.0 a.1.0) M (omega arith) (omega (arith, l')) l (λ m x. mk (σ.next + m) (let y = last_next lo gs r (after lo gs g σ k) in omega (arith, x, y)) ∙ own_maker lo gs g k r σ m x) i))
            l (omega (arith, l')) pl.1 a.1.1 mk s w.1.1.1
        last_says (g ∷ gs) δ ok (Hole v) σ st A from u h e o f z fs l l' p a mk s w = absurd h
        last_says (g ∷ gs) δ ok (Open m v x) σ st A from u h e o f z fs l l' p a mk s w = absurd h
        last_says (g ∷ gs) δ ok (Level d t) σ st A from u h e o f z fs l l' p a mk s w = absurd h
        last_says (g ∷ gs) δ ok (Built b ts) σ st A from u h e o f z fs l l' p a mk s w = absurd h

        module _ (s : ℕ → Size) (room : first ≤ hi) where
          abbrev pub Inner_nodes : (gs : List Given) (st A : State) → All_parts hi A0 B gs st A → Type 0
          Inner_nodes [] st A h = Unit {0}
          Inner_nodes (g ∷ gs) st A h = ((x : ℕ) → g.node < x → x < g.node + numbers g.term → s x ≡ (last_state hi A0 B g st h.0 h.1.0).nodes x) × Inner_nodes gs h.0 A h.1.1

          -- one node of an argument, in the last state
          part_node : (g : Given) (gs : List Given) (st mid A : State) (from : ℕ) → g.node + numbers g.term ≡ from → Placed gs from hi → (m : Part_there hi A0 B g st mid) → All_parts hi A0 B gs mid A → ((x : ℕ) → g.node ≤ x → x < hi → Not_in (g ∷ gs) x → B.nodes x ≡ A.nodes x) → (x : ℕ) → g.node ≤ x → x < from → from ≤ hi → B.nodes x ≡ (last_state hi A0 B g st mid m).nodes x
          part_node g gs st mid A from e pl (inl m) hs still x l l' r = still x l (omega (arith, l', r)) (inr (inl m.1), not_in_outside gs from hi pl x (inl l')) ∙ below hi A0 B gs mid A from hi pl hs x (inl l')
          part_node g gs st mid A from e pl (inr (inl m)) hs still x l l' r = still x l (omega (arith, l', r)) (inr (inr m.1), not_in_outside gs from hi pl x (inl l')) ∙ below hi A0 B gs mid A from hi pl hs x (inl l')
          part_node g gs st mid A from e pl (inr (inr m)) hs still x l l' r = refl

          -- ---- nodes within arguments, and of those that are no names
          pub nodes_of : (gs : List Given) (φ : Opened) (t : Size) (σ : Found) (st A : State) (from : ℕ) → Takes_all gs t → Placed gs from hi → (h : All_parts hi A0 B gs st A) → ((x : ℕ) → from ≤ x → x < hi → Not_in gs x → B.nodes x ≡ A.nodes x) → ((x : ℕ) → from ≤ x → x < hi → Avoids N types τ x (uses (wants lo gs φ t σ)) → s x ≡ B.nodes x)
              → Unnamed N types τ lo P P_settled gs s × Inner_nodes gs st A h
          nodes_of [] φ t σ st A from w p h still a = (tt, tt)
          nodes_of (g ∷ gs) φ (Fun k p r) σ st A from w pl h still a =
              let n0 = numbers_some g.term in
              let n1 = pl.0 in
              let n2 = placed_order gs (from + numbers g.term) hi pl.1 in
              let ls = uses (wants lo gs (opened_by lo gs g σ k φ) r (after lo gs g σ k)) in
              let m = h.1.0 in
              let M = part_meets hi A0 B g st h.0 m (omega (arith, n1, n2)) in
              let there = part_node g gs st h.0 A (from + numbers g.term) (omega (arith, n1)) pl.1 m h.1.1 (λ x l l' o. still x (omega (arith, n1, l)) l' o) in
              let rest = nodes_of gs (opened_by lo gs g σ k φ) r (after lo gs g σ k) h.0 A (from + numbers g.term) w.1 pl.1 h.1.1 (λ x l l' o. still x (omega (arith, l)) l' (inl (inr (omega (arith, n1, l))), o)) (λ x l l' v. a x (omega (arith, l)) l' (one_use N types τ lo g.named g.node g.value g.size (opened_by lo gs g σ k φ) p ls x (λ z. omega (arith, z, n1, l, n0)) v)) in (
                (
                  (λ z. a g.node (omega (arith, n1)) (omega (arith, n0, n1, n2)) (subst (λ b. Avoids N types τ g.node (with_use (Early g.node g.value b g.size) (opened_by lo gs g σ k φ) p ls)) (sym z) (uses_avoid N types τ lo gs (opened_by lo gs g σ k φ) r (after lo gs g σ k) (from + numbers g.term) hi g.node pl.1 (omega (arith, n0, n1))))
                      ∙ there g.node (omega arith) (omega (arith, n0, n1)) n2 ∙ M.noted z),
                  rest.0,
                ),
                (
                  (λ x l l'. a x (omega (arith, n1, l)) (omega (arith, n1, n2, l')) (one_use N types τ lo g.named g.node g.value g.size (opened_by lo gs g σ k φ) p ls x (λ z. omega (arith, z, l)) (uses_avoid N types τ lo gs (opened_by lo gs g σ k φ) r (after lo gs g σ k) (from + numbers g.term) hi x pl.1 (omega (arith, n1, l'))))
                      ∙ there x (omega (arith, l)) (omega (arith, n1, l')) n2),
                  rest.1,
                ),
              )
          nodes_of (g ∷ gs) φ (Hole v) σ st A from w p h still a = absurd w
          nodes_of (g ∷ gs) φ (Open m v u) σ st A from w p h still a = absurd w
          nodes_of (g ∷ gs) φ (Level d t) σ st A from w p h still a = absurd w
          nodes_of (g ∷ gs) φ (Built b ts) σ st A from w p h still a = absurd w

        -- ---- the rules
        module _ (s : ℕ → Size) (G : Context) (J : Judged In Vars scope G) (room : first ≤ hi) where
          opened_as : (δ : Frames) (f : ℕ → Free) (t : Size) → opened (λ i. closed_to (f i)) (filled (ends δ) 1 t) ≡ filled (ends (pushed f δ)) 0 t
          opened_as δ f t = opened_filled (λ i. closed_to (f i)) (ends δ) t ∙ filled_same (pushed (λ i. closed_to (f i)) (ends δ)) (ends (pushed f δ)) (pushed_as closed_to f δ) t 0

          one_rule : (gs : List Given) (g : Given) (δ : Frames) (ok : ℕ → ℕ → Type 0) (k : ℕ) (p r : Size) (next : ℕ) (f : FlatTerm) (st behind : State) → Given_meets hi g st behind → Formed (Fun k p r) → Each (Okay P ok) 0 (Fun k p r) → Frames_in (suc (here lo gs)) ok δ
              → here lo gs < first → first ≤ g.node → g.node + numbers g.term ≤ hi → ((i : ℕ) → i < k → τ.maker (next + i) ≡ here lo gs) → g.node ≡ 1 + here lo gs + numbers f → s (suc (here lo gs)) ≡ filled (ends δ) 0 (Fun k p r) → filled (ends (pushed (frame (here lo gs) next k (number_value g)) δ)) 0 p ≡ g.size → s g.node ≡ g.own
              → ((x : ℕ) → g.node < x → x < g.node + numbers g.term → s x ≡ behind.nodes x) → s (here lo gs) ≡ filled (ends (pushed (frame (here lo gs) next k (number_value g)) δ)) 0 r → Sized N types s home f (1 + here lo gs) G → Sized N types s home (Apply f g.term) (here lo gs) G
          unfolding replaced Formed
          one_rule gs g δ ok k p r next f st behind M fm e fs l l1 l2 maker mid function_here fits argument_here inner result_here rules = (
            rules,
            subst (λ m. Sized N types s home g.term m G) mid (M.inner.rules s G J argument_here inner),
            subst (λ m. Applies N types s home g.term (here lo gs) m (m + numbers g.term) G) mid (record {
              chosen = k;
              from = filled (ends δ) 1 p;
              to = filled (ends δ) 1 r;
              function = at_function;
              closed = subst (λ w. Away N types s home (here lo gs) (1 + here lo gs) w) (sym at_function) (each_scoped (With_met In (suc (here lo gs)) hi) (λ d. Outside N types s home (here lo gs) (1 + here lo gs) d) outside (filled (ends δ) 0 (Fun k p r)) 0
                  (filled_says P (With_met In (suc (here lo gs)) hi) (λ d i. met_later (suc (here lo gs)) d i (omega (arith, l))) (ends δ) ok fs (Fun k p r) 0 e));
              inside = λ i. closed_to (frame (here lo gs) next k (number_value g) i);
              low = (formed_replaced (fill (ends δ)) (fill_keeps (ends δ)) (fill_back (ends δ)) (Fun k p r) 0 fm).2;
              argument = subst (Suits (s g.node)) (sym fits ∙ sym (opened_as δ (frame (here lo gs) next k (number_value g)) p)) (subst (λ w. Suits w g.size) (sym argument_here) M.suits);
              base = next;
              known = λ i x. known_low (here lo gs) next k g st behind M (omega arith) l room maker s G J argument_here i x;
              value = subst (λ d. Is_value N types s home g.term g.node G d ⊎ (d ≡ Unknown (here lo gs) (next + k))) (sym (at_value (here lo gs) next k g st behind M (omega arith) l room maker)) (value_given (here lo gs) next k g st behind M (omega arith) l room maker s G J argument_here g.term M.value_known (number_value g) (number_given (here lo gs) next k g st behind M (omega arith) l room maker));
              new = λ i x. at_high (here lo gs) next k g st behind M (omega arith) l room maker i x;
              result = inl (result_here ∙ sym (opened_as δ (frame (here lo gs) next k (number_value g)) r));
              order = inl (subst (λ w. Away N types s home (1 + here lo gs) g.node w) (sym argument_here) (each_scoped (With_met In g.node hi) (λ d. Outside N types s home (1 + here lo gs) g.node d) before g.own 0 M.own_sizes));
            }),
          )
            where
              at_function : s (1 + here lo gs) ≡ filled (ends δ) 0 (Fun k p r)
              at_function = ap s (let z : 1 + here lo gs ≡ suc (here lo gs) = omega arith in z) ∙ function_here

              outside : (d : Free) → With_met In (suc (here lo gs)) hi d → Outside N types s home (here lo gs) (1 + here lo gs) d
              outside d (inl w) o = (elsewhere_narrower N types home lo hi (here lo gs) (1 + here lo gs) In (omega arith) (omega (arith, l, room)) E).outside d w o
              outside d (inr w) o = met_outside N types home (suc (here lo gs)) hi (here lo gs) (1 + here lo gs) (inr (omega arith)) d w o

              before : (d : Free) → With_met In g.node hi d → Outside N types s home (1 + here lo gs) g.node d
              before d (inl w) o = (elsewhere_narrower N types home lo hi (1 + here lo gs) g.node In (omega arith) (omega (arith, l2)) E).outside d w o
              before d (inr w) o = met_outside N types home g.node hi (1 + here lo gs) g.node (inr (omega arith)) d w o

          pub rules_all : (gs : List Given) (δ : Frames) (ok : ℕ → ℕ → Type 0) (t : Size) (σ : Found) (f : FlatTerm) (st A : State) (from : ℕ) → Takes_all gs t → Each (Okay P ok) 0 t → Formed t → Frames_in (here lo gs) ok δ → here lo gs < first → first ≤ from → from ≡ here lo gs + numbers f → Placed gs from hi → (h : All_parts hi A0 B gs st A)
              → ((x : ℕ) → x < (last_found lo gs t σ).next → τ.maker x ≡ (last_found lo gs t σ).maker x) → Stages N types τ lo P P_settled gs δ t σ s → Inner_nodes s room gs st A h → Sized N types s home f (here lo gs) G → Sized N types s home (spine f gs) lo G
          unfolding Each Formed
          rules_all [] δ ok t σ f st A from w e fm fs l l1 z p h mk g i rules = subst (λ m. Sized N types s home f m G) (let y : here lo [] ≡ lo = omega arith in y) rules
          rules_all (g ∷ gs) δ ok (Fun k p r) σ f st A from w e fm fs l l1 z pl h mk stage i rules =
              let maker : (m : ℕ) → m < k → τ.maker (σ.next + m) ≡ here lo gs = λ m x. mk (σ.next + m) (let y = last_next lo gs r (after lo gs g σ k) in omega (arith, x, y)) ∙ own_maker lo gs g k r σ m x in
              let around_here : Frames_in (suc (here lo gs)) ok δ = λ j m x. subst (λ q. With_met In q hi (ends δ j m)) (let y : here lo (g ∷ gs) ≡ suc (here lo gs) = omega arith in y) (fs j m x) in
              let n1 = pl.0 in
              let n2 = placed_order gs (from + numbers g.term) hi pl.1 in
              let M = part_meets hi A0 B g st h.0 h.1.0 (omega (arith, n1, n2)) in
              let s0 = first_state hi A0 B g st h.0 h.1.0 in
              let s1 = last_state hi A0 B g st h.0 h.1.0 in
              let v = step_in P ok k p r g fm M.inner.says.formed (taken_typed p g.size w.0) e in
              rules_all gs (pushed (frame (here lo gs) σ.next k (number_value g)) δ) (more (Meant k g) ok) r (after lo gs g σ k) (Apply f g.term) h.0 A (from + numbers g.term) w.1 v.1 fm.1
              (frames_more gs ok (Meant k g) δ (frame (here lo gs) σ.next k (number_value g)) around_here (λ m. all_in (here lo gs) σ.next k g s0 s1 M (omega arith) (omega (arith, l)) room maker m))
              (omega (arith, l)) (omega (arith, l1)) (omega (arith, z)) pl.1 h.1.1 mk stage.1.1.1 i.1
              (one_rule gs g δ ok k p r σ.next f s0 s1 M fm e around_here (omega (arith, l)) (omega (arith, n1, l1)) (omega (arith, n1, n2)) maker (omega (arith, n1, z)) stage.0 stage.1.0 stage.1.1.0 i.0 (stage_here gs (pushed (frame (here lo gs) σ.next k (number_value g)) δ) r (after lo gs g σ k) s w.1 stage.1.1.1)
              (subst (λ m. Sized N types s home f m G) (let y : here lo (g ∷ gs) ≡ 1 + here lo gs = omega arith in y) rules))
          rules_all (g ∷ gs) δ ok (Hole v) σ f st A from w e fm fs l l1 z p h mk stage i rules = absurd w
          rules_all (g ∷ gs) δ ok (Open m v u) σ f st A from w e fm fs l l1 z p h mk stage i rules = absurd w
          rules_all (g ∷ gs) δ ok (Level d t) σ f st A from w e fm fs l l1 z p h mk stage i rules = absurd w
          rules_all (g ∷ gs) δ ok (Built b ts) σ f st A from w e fm fs l l1 z p h mk stage i rules = absurd w
