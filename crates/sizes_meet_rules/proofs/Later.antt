-- The lambda among the arguments of a primitive is sized behind the others: its sized type, and what it leaves.
use Rattle.std.proofs.Common.{◌≡◌, ◌⊎◌, ℕ, ◌+◌, ◌<◌, ◌≤◌, List, [], ◌∷◌, true, Option, Some, None, Ok, Err, refl, sym, ap, ◌∙◌, subst, arith, inl, inr}
use Rattle.std.specs.Prelude.{min}
use Rattle.fut_flat.specs.declared.prim.Ref.{Ref}
use Rattle.fut_scalar.specs.declared.place.BindId.{BindId}
use Rattle.fut_flat.specs.Numbers.{pattern_numbers, all_pattern_numbers, numbers}
use Rattle.fut_flat.specs.Terms.{Patterns, no_pattern, pattern_and, Use, Strict, Lambda, Apply, Let, If, Loop}
use Rattle.fut_flat.specs.Erased.{FlatTerm}
use Rattle.fut_types.specs.declared.Head.TheVariants as head
use Rattle.fut_types.specs.declared.Kind.{Kind}
use Rattle.fut_types.specs.Types.{Ty, Made, more, none, fun_ty, Sub, Kinds, HasKind, rank, least, level}
use Rattle.fut_typing.specs.Names.{Names}
use Rattle.fut_typing.specs.Patterns.{pattern_types, arrows}
use Rattle.sized_types.specs.Sizes.{Free, Variable, Size, Hole, Open, Level, Built, Fun, no_size, erased, all_erased}
use Rattle.fut_sizes.specs.Agreeing.{Answer}
use Rattle.fut_sizes.specs.Applications.{Want, Met, Argument, Early, Late, is_function}
use Rattle.fut_sizes.specs.Matching.{Found, nothing_found, none_opened, function_way, meet}
use Rattle.fut_sizes.specs.Scopes.{Scope}
use Rattle.fut_sizes.specs.Steps.{State, Done, Step}
use Rattle.sizes_meet_rules.specs.Known.{Formed, Elsewhere}
use Rattle.sizes_meet_rules.specs.Plain.{Flat_type, Flat_function, Is_lambda}
use Rattle.sizes_meet_rules.proofs.Applying.{Function_size, function_is, Value_known}
use Rattle.sizes_meet_rules.proofs.Chains.{Given, argument_by, arguments, arrows_of, Widths}
use Rattle.sizes_meet_rules.proofs.Fitting.{plain_arrows}
use Rattle.sizes_meet_rules.proofs.Flat_types.{flat, flat_is}
use Rattle.sizes_meet_rules.proofs.Lambdas.{Early_function, One_given, Waiting_fit, Lambda_result, Wants_formed}
use Rattle.sizes_meet_rules.proofs.Meeting.{each_scoped, With_met, met_wider, Flat_wanted, Data_wanted, Lambda_wanted, Lambda_typed, As_alone, Meets, inner_of}
use Rattle.sizes_meet_rules.proofs.Noting.{Placed, placed_order}
use Rattle.sizes_meet_rules.proofs.Parts.{spine, Early_given, given_inner, given_meets_as, Given_meets, given_wider, Function_meets, given_in, Lambda_waits, All_given, One_waits, All_parts, Later_part, one_fit, all_fit}

-- ---- functions of these parameters

-- none of which has arrays
abbrev Flat_parameters : Sub → Patterns Ref BindId → ℕ → Type 0
Flat_parameters types no_pattern q = Unit {0}
Flat_parameters types (pattern_and p ps) q = Flat_type (types q) × Flat_parameters types ps (q + pattern_numbers p)

module _ (K : Kinds) where
  no_function : (a b : Ty) → 1 ≤ rank K (fun_ty a b) → ⊥
  unfolding rank least
  no_function a b h = let z : 1 ≤ min 0 (min (rank K a) (min (rank K b) 4)) = h in omega (arith, z)

  flat_wants : (P : Free → Type 0) (types : Sub) (ps : Patterns Ref BindId) (q : ℕ) (t : Size) (u : Ty) → Wants_formed P K t → erased t ≡ arrows (pattern_types types ps q) u → Flat_parameters types ps q → Flat_wanted types ps q t
  unfolding erased all_erased Formed
  flat_wants P types no_pattern q t u f e h = tt
  flat_wants P types (pattern_and p ps) q (Fun k x r) u f e h =
      let y : fun_ty (erased x) (erased r) ≡ fun_ty (types q) (arrows (pattern_types types ps (q + pattern_numbers p)) u) = e in
      let same : erased x ≡ types q = cc in
      ((h.0, flat_is x f.0.1 (subst Flat_type (sym same) h.0) ∙ ap flat same), flat_wants P types ps (q + pattern_numbers p) r u f.1 (let z : erased r ≡ arrows (pattern_types types ps (q + pattern_numbers p)) u = cc in z) h.1)
  flat_wants P types (pattern_and p ps) q (Open m v w) u f e h = absurd (no_function (types q) (arrows (pattern_types types ps (q + pattern_numbers p)) u) (subst (λ x. 1 ≤ rank K x) e f))
  flat_wants P types (pattern_and p ps) q (Hole v) u f e h = absurd (let W = function_is (Hole v) (types q) (arrows (pattern_types types ps (q + pattern_numbers p)) u) f e in let z : Hole v ≡ Fun W.chosen W.from W.to = W.is_function in cc)
  flat_wants P types (pattern_and p ps) q (Level d t) u f e h = absurd (let W = function_is (Level d t) (types q) (arrows (pattern_types types ps (q + pattern_numbers p)) u) f e in let z : Level d t ≡ Fun W.chosen W.from W.to = W.is_function in cc)
  flat_wants P types (pattern_and p ps) q (Built k ts) u f e h = absurd (let W = function_is (Built k ts) (types q) (arrows (pattern_types types ps (q + pattern_numbers p)) u) f e in let z : Built k ts ≡ Fun W.chosen W.from W.to = W.is_function in cc)

  -- or of data
  pub data_wants : (P : Free → Type 0) (types : Sub) (ps : Patterns Ref BindId) (q : ℕ) (t : Size) (u : Ty) → Wants_formed P K t → erased t ≡ arrows (pattern_types types ps q) u → Data_wanted types P ps q t
  unfolding erased all_erased Formed
  data_wants P types no_pattern q t u f e = tt
  data_wants P types (pattern_and p ps) q (Fun k x r) u f e =
      let y : fun_ty (erased x) (erased r) ≡ fun_ty (types q) (arrows (pattern_types types ps (q + pattern_numbers p)) u) = e in
      ((f.0.0, f.0.1, f.0.2, (let z : erased x ≡ types q = cc in z)), data_wants P types ps (q + pattern_numbers p) r u f.1 (let z : erased r ≡ arrows (pattern_types types ps (q + pattern_numbers p)) u = cc in z))
  data_wants P types (pattern_and p ps) q (Open m v w) u f e = absurd (no_function (types q) (arrows (pattern_types types ps (q + pattern_numbers p)) u) (subst (λ x. 1 ≤ rank K x) e f))
  data_wants P types (pattern_and p ps) q (Hole v) u f e = absurd (let W = function_is (Hole v) (types q) (arrows (pattern_types types ps (q + pattern_numbers p)) u) f e in let z : Hole v ≡ Fun W.chosen W.from W.to = W.is_function in cc)
  data_wants P types (pattern_and p ps) q (Level d t) u f e = absurd (let W = function_is (Level d t) (types q) (arrows (pattern_types types ps (q + pattern_numbers p)) u) f e in let z : Level d t ≡ Fun W.chosen W.from W.to = W.is_function in cc)
  data_wants P types (pattern_and p ps) q (Built k ts) u f e = absurd (let W = function_is (Built k ts) (types q) (arrows (pattern_types types ps (q + pattern_numbers p)) u) f e in let z : Built k ts ≡ Fun W.chosen W.from W.to = W.is_function in cc)

-- ---- what a lambda gives by itself, if it is not refused

abbrev pub own_size : Answer (Done Met) → Size
own_size (Ok m) = m.result.size
own_size (Err r) = Fun 0 (Built head.Tuple no_size) (Built head.Tuple no_size)

abbrev pub own_state : State → Answer (Done Met) → State
own_state st (Ok m) = m.state
own_state st (Err r) = st

abbrev pub with_size : Given → Size → Given
with_size g t = record { node = g.node; value = g.value; named = g.named; size = t; own = t; term = g.term; width = g.width; waits = g.waits }

with_argument : (g : Given) (t : Size) (f : Argument) → g.waits ≡ Some f → argument_by g.waits (with_size g t) ≡ argument_by g.waits g
with_argument g t f e = ap (λ o. argument_by o (with_size g t)) e ∙ ap (λ o. argument_by o g) (sym e)

module _ (N : Names) (types : Sub) (home : ℕ → ℕ) (K : Kinds) (places : Kind) (data_places : 1 ≤ level places) (In : Free → Type 0) (Vars : Variable → Type 0) (scope : Scope) where
  abbrev Waits_there : Given → Type 0
  Waits_there g = Lambda_waits N types home K places data_places In Vars scope g

  abbrev Given_there : List Given → State → State → Type 0
  Given_there gs st A = All_given N types home K places data_places In Vars scope gs st A

  abbrev pub One_there : List Given → State → State → Type 0
  One_there gs st A = One_waits N types home K places data_places In Vars scope gs st A

  -- of a lambda: what is known of its term
  flat_parameters : (ps : Patterns Ref BindId) (q : ℕ) (u : Ty) → HasKind K places (arrows (pattern_types types ps q) u) ⊎ Flat_function types home K places (arrows (pattern_types types ps q) u) → Flat_parameters types ps q
  flat_parameters no_pattern q u o = tt
  flat_parameters (pattern_and p ps) q u (inl k) = absurd (no_function K (types q) (arrows (pattern_types types ps (q + pattern_numbers p)) u) (omega (arith, data_places, k)))
  flat_parameters (pattern_and p ps) q u (inr h) = (h.0, flat_parameters ps (q + pattern_numbers p) u h.1)

  lambda_kinds : (P : Free → Type 0) (e : FlatTerm) (n : ℕ) (t : Size) → Is_lambda e → Flat_function types home K places (types n) → Lambda_typed types e n → Wants_formed P K t → erased t ≡ types n → Lambda_wanted types e n t
  lambda_kinds P (Lambda (pattern_and p ps) e) n t i fl ty f z = flat_wants K P types (pattern_and p ps) (1 + n) t (types (1 + n + all_pattern_numbers (pattern_and p ps))) f (z ∙ ty) (flat_parameters (pattern_and p ps) (1 + n) (types (1 + n + all_pattern_numbers (pattern_and p ps))) (inr (subst (Flat_function types home K places) ty fl)))
  lambda_kinds P (Lambda no_pattern e) n t i fl ty f z = absurd i
  lambda_kinds P (Use r at k) n t i fl ty f z = absurd i
  lambda_kinds P (Strict o mark ts) n t i fl ty f z = absurd i
  lambda_kinds P (Apply f e) n t i fl ty g z = absurd i
  lambda_kinds P (Let b v e) n t i fl ty f z = absurd i
  lambda_kinds P (If c a b) n t i fl ty f z = absurd i
  lambda_kinds P (Loop mark sizes p first turns body) n t i fl ty f z = absurd i

  pub lambda_argument : (e : FlatTerm) (t : Ty) → Is_lambda e → Value_known N types home K places data_places In Vars scope e t
  lambda_argument (Lambda ps e) t i = tt
  lambda_argument (Use r at k) t i = absurd i
  lambda_argument (Strict o mark ts) t i = absurd i
  lambda_argument (Apply f e) t i = absurd i
  lambda_argument (Let b v e) t i = absurd i
  lambda_argument (If c a b) t i = absurd i
  lambda_argument (Loop mark sizes p first turns body) t i = absurd i

  -- ---- one lambda

  module _ (g : Given) (L : Waits_there g) (A : State) where
    abbrev waiting : Option Want → Found → Step Met
    waiting = L.waits.waiting

    abbrev alone : Answer (Done Met)
    alone = waiting None nothing_found A

    abbrev now_sized : Given
    now_sized = with_size g (own_size alone)

    abbrev behind : State
    behind = own_state A alone

    abbrev pub Went_alone : Type 0
    Went_alone = (m : Done Met) × (alone ≡ Ok m)

    -- by itself it meets the rules
    meets_alone : (m : Done Met) → alone ≡ Ok m → Meets N types home In Vars scope g.term g.node (g.node + numbers g.term) A (own_size alone) behind
    meets_alone m e = subst (λ (y : Answer (Done Met)). Meets N types home In Vars scope g.term g.node (g.node + numbers g.term) A (own_size y) (own_state A y)) (sym e) (L.waits.by_itself A m e)

    given_meets : (hi : ℕ) → g.node + numbers g.term ≤ hi → (m : Done Met) → alone ≡ Ok m → Given_meets N types home K places data_places In Vars scope hi now_sized A behind
    given_meets hi l m e =
        let M = meets_alone m e in
        let known = lambda_argument g.term (types g.node) L.waits.is_lambda in
        given_wider N types home K places data_places In Vars scope (g.node + numbers g.term) hi now_sized A behind l
        (given_meets_as N types home K places data_places In Vars scope (g.node + numbers g.term) now_sized A behind refl (inl L.value) (given_inner N types home K places data_places In Vars scope now_sized A behind refl (inner_of N types home In Vars scope g.term g.node (g.node + numbers g.term) A (own_size alone) behind M)) (λ z. M.here) known)

    own_function : is_function (own_size alone) ≡ true
    own_function = by_answer alone refl
      where
        by_function : (t : Size) → Function_size t L.waits.of_function.0 L.waits.of_function.1.0 → is_function t ≡ true
        by_function t W = ap is_function W.is_function

        by_answer : (y : Answer (Done Met)) → alone ≡ y → is_function (own_size y) ≡ true
        by_answer (Ok m) e = let M = L.waits.by_itself A m e in by_function m.result.size (function_is m.result.size L.waits.of_function.0 L.waits.of_function.1.0 M.says.formed (M.typed ∙ L.waits.of_function.1.1))
        by_answer (Err r) e = refl

    module _ (P : Free → Type 0) (wide : (d : Free) → With_met In g.node (g.node + numbers g.term) d → P d) (W : Type 0) (into : Went_alone → W) where
      waiting_fit : (F : Waiting_fit P Vars K W A behind now_sized) × (F.type ≡ types g.node) × ((a : Ty) × ((c : Ty) × (F.type ≡ fun_ty a c)))
      waiting_fit = (
        record {
          given = record { waiting = waiting; waits = L.waits_is; value = L.value; named = L.named; is_fun = own_function };
          type = types g.node;
          run = λ w σ m f e q. result w σ m (L.waits.as_wanted w σ A m (lambda_kinds P g.term g.node w.size L.waits.is_lambda L.flat L.waits.typed_as f e) q);
        },
        refl,
        L.waits.of_function,
      )
        where
          result : (w : Want) (σ : Found) (m : Done Met) → As_alone waiting g.node w σ A m → Lambda_result P Vars W behind now_sized (types g.node) w σ m
          result w σ m S =
              let M = meets_alone S.alone S.ran in
              let size_is : own_size alone ≡ m.result.size = ap own_size S.ran ∙ S.size in
              record {
                went = into (S.alone, S.ran);
                state = sym (ap (own_state A) S.ran ∙ S.state);
                says = record {
                  formed = M.says.formed;
                  sizes = each_scoped (With_met In g.node (g.node + numbers g.term)) P wide (own_size alone) 0 M.says.sizes;
                  variables = M.says.variables;
                  arrows = plain_arrows types home K places data_places P (own_size alone) M.says.formed (inr (subst (Flat_function types home K places) (sym M.typed) L.flat));
                };
                typed = M.typed;
                met = ap (λ t. meet w.node (function_way w.is_regular) g.node none_opened w.size none_opened t σ) size_is ∙ S.met;
              }

  -- ---- all arguments, once the lambda is sized

  abbrev pub sized_by : (gs : List Given) (st A : State) → One_there gs st A → List Given
  sized_by [] st A h = []
  sized_by (g ∷ gs) st A (inl h) = g ∷ sized_by gs h.0 A h.1.1
  sized_by (g ∷ gs) st A (inr (inl h)) = now_sized g h.0 A ∷ gs
  sized_by (g ∷ gs) st A (inr (inr h)) = g ∷ gs

  abbrev pub state_by : (gs : List Given) (st A : State) → One_there gs st A → State
  state_by [] st A h = A
  state_by (g ∷ gs) st A (inl h) = state_by gs h.0 A h.1.1
  state_by (g ∷ gs) st A (inr (inl h)) = behind g h.0 A
  state_by (g ∷ gs) st A (inr (inr h)) = A

  abbrev pub Went_by : (gs : List Given) (st A : State) → One_there gs st A → Type 0
  Went_by [] st A h = Unit {0}
  Went_by (g ∷ gs) st A (inl h) = Went_by gs h.0 A h.1.1
  Went_by (g ∷ gs) st A (inr (inl h)) = Went_alone g h.0 A
  Went_by (g ∷ gs) st A (inr (inr h)) = Unit {0}

  pub sized_arguments : (gs : List Given) (st A : State) (h : One_there gs st A) → arguments (sized_by gs st A h) ≡ arguments gs
  sized_arguments [] st A h = refl
  sized_arguments (g ∷ gs) st A (inl h) = ap (λ xs. argument_by g.waits g ∷ xs) (sized_arguments gs h.0 A h.1.1)
  sized_arguments (g ∷ gs) st A (inr (inr h)) = refl
  sized_arguments (g ∷ gs) st A (inr (inl h)) = ap (λ x. x ∷ arguments gs) (with_argument g (own_size (h.0.waits.waiting None nothing_found A)) (Late g.node h.0.waits.waiting) h.0.waits_is)

  pub sized_arrows : (gs : List Given) (st A : State) (h : One_there gs st A) (u : Ty) → arrows_of types (sized_by gs st A h) u ≡ arrows_of types gs u
  sized_arrows [] st A h u = refl
  sized_arrows (g ∷ gs) st A (inl h) u = ap (fun_ty (types g.node)) (sized_arrows gs h.0 A h.1.1 u)
  sized_arrows (g ∷ gs) st A (inr (inl h)) u = refl
  sized_arrows (g ∷ gs) st A (inr (inr h)) u = refl

  pub sized_spine : (f : FlatTerm) (gs : List Given) (st A : State) (h : One_there gs st A) → spine f (sized_by gs st A h) ≡ spine f gs
  sized_spine f [] st A h = refl
  sized_spine f (g ∷ gs) st A (inl h) = sized_spine (Apply f g.term) gs h.0 A h.1.1
  sized_spine f (g ∷ gs) st A (inr (inl h)) = refl
  sized_spine f (g ∷ gs) st A (inr (inr h)) = refl

  pub sized_placed : (gs : List Given) (st A : State) (h : One_there gs st A) (from hi : ℕ) → Placed gs from hi → Placed (sized_by gs st A h) from hi
  sized_placed [] st A h from hi p = p
  sized_placed (g ∷ gs) st A (inl h) from hi p = (p.0, sized_placed gs h.0 A h.1.1 (from + numbers g.term) hi p.1)
  sized_placed (g ∷ gs) st A (inr (inl h)) from hi p = p
  sized_placed (g ∷ gs) st A (inr (inr h)) from hi p = p

  pub sized_widths : (gs : List Given) (st A : State) (h : One_there gs st A) (t : Size) → Widths gs t → Widths (sized_by gs st A h) t
  sized_widths [] st A h t w = w
  sized_widths (g ∷ gs) st A (inl h) (Fun k p r) w = (w.0, sized_widths gs h.0 A h.1.1 r w.1)
  sized_widths (g ∷ gs) st A (inl h) (Hole v) w = tt
  sized_widths (g ∷ gs) st A (inl h) (Open m v u) w = tt
  sized_widths (g ∷ gs) st A (inl h) (Level d t) w = tt
  sized_widths (g ∷ gs) st A (inl h) (Built b ts) w = tt
  sized_widths (g ∷ gs) st A (inr (inl h)) (Fun k p r) w = w
  sized_widths (g ∷ gs) st A (inr (inl h)) (Hole v) w = tt
  sized_widths (g ∷ gs) st A (inr (inl h)) (Open m v u) w = tt
  sized_widths (g ∷ gs) st A (inr (inl h)) (Level d t) w = tt
  sized_widths (g ∷ gs) st A (inr (inl h)) (Built b ts) w = tt
  sized_widths (g ∷ gs) st A (inr (inr h)) (Fun k p r) w = w
  sized_widths (g ∷ gs) st A (inr (inr h)) (Hole v) w = tt
  sized_widths (g ∷ gs) st A (inr (inr h)) (Open m v u) w = tt
  sized_widths (g ∷ gs) st A (inr (inr h)) (Level d t) w = tt
  sized_widths (g ∷ gs) st A (inr (inr h)) (Built b ts) w = tt

  -- data is sized where it stands
  pub data_parts : (hi : ℕ) (B : State) (A0 : State) (gs : List Given) (st A : State) → Given_there gs st A → All_parts N types home K places data_places In Vars scope hi A0 B gs st A
  data_parts hi B A0 [] st A h = h
  data_parts hi B A0 (g ∷ gs) st A h = (h.0, (inl (h.1.0.0, h.1.0.1.1), data_parts hi B A0 gs h.0 A h.1.1))

  pub one_parts : (from hi : ℕ) (gs : List Given) (st A : State) (h : One_there gs st A) → Placed gs from hi → Went_by gs st A h → All_parts N types home K places data_places In Vars scope hi A (state_by gs st A h) (sized_by gs st A h) st A
  one_parts from hi [] st A h p w = absurd h
  one_parts from hi (g ∷ gs) st A (inl h) p w = (h.0, (inl (h.1.0.0, h.1.0.1.1), one_parts (from + numbers g.term) hi gs h.0 A h.1.1 p.1 w))
  one_parts from hi (g ∷ gs) st A (inr (inr h)) p w = (h.0, (inl (h.1.0.0, h.1.0.1.1), data_parts hi A A gs h.0 A h.1.1))
  one_parts from hi (g ∷ gs) st A (inr (inl h)) p w = (st, (inr (inr (given_meets g h.0 A hi (let y = p.0 in let z = placed_order gs (from + numbers g.term) hi p.1 in omega (arith, y, z)) w.0 w.1, refl)), data_parts hi (behind g h.0 A) A gs st A h.1))

  -- nothing waits
  pub none_later : (A : State) (gs : List Given) → Later_part N types home K places data_places In Vars scope A A gs
  none_later A gs = record { nodes = λ x o. refl; dropped = λ x o. refl }

  pub one_later : (gs : List Given) (st A : State) (h : One_there gs st A) → Went_by gs st A h → Later_part N types home K places data_places In Vars scope A (state_by gs st A h) (sized_by gs st A h)
  one_later [] st A h w = absurd h
  one_later (g ∷ gs) st A (inl h) w = let R = one_later gs h.0 A h.1.1 w in record { nodes = λ x o. R.nodes x o.1; dropped = λ x o. R.dropped x o.1 }
  one_later (g ∷ gs) st A (inr (inr h)) w = none_later A (g ∷ gs)
  one_later (g ∷ gs) st A (inr (inl h)) w = record { nodes = λ x o. nodes x o.0; dropped = λ x o. dropped x o.0 }
    where
      M : Meets N types home In Vars scope g.term g.node (g.node + numbers g.term) A (own_size (alone g h.0 A)) (behind g h.0 A)
      M = meets_alone g h.0 A w.0 w.1

      not_none : (g.waits ≡ None) ⊎ Early_given N types home K places data_places In Vars scope g → ⊥
      not_none (inl e) = let z : ◌≡◌ {A = Option Argument} (Some (Late g.node h.0.waits.waiting)) None = sym h.0.waits_is ∙ e in cc
      not_none (inr w) = let z : ◌≡◌ {A = Option Argument} (Some (Late g.node h.0.waits.waiting)) (Some (Early g.node g.value g.named w.0)) = sym h.0.waits_is ∙ w.1 in cc

      nodes : (x : ℕ) → ((x < g.node) ⊎ (g.node + numbers g.term ≤ x)) ⊎ ((g.waits ≡ None) ⊎ Early_given N types home K places data_places In Vars scope g) → (behind g h.0 A).nodes x ≡ A.nodes x
      nodes x (inl o) = M.kept x o
      nodes x (inr e) = absurd (not_none e)

      dropped : (x : ℕ) → ((x < g.node) ⊎ (g.node + numbers g.term ≤ x)) ⊎ ((g.waits ≡ None) ⊎ Early_given N types home K places data_places In Vars scope g) → (behind g h.0 A).dropped x ≡ A.dropped x
      dropped x (inl o) = M.dropped x o
      dropped x (inr e) = absurd (not_none e)

  -- what is handed to the matching
  module _ (lo first hi : ℕ) (E : Elsewhere N types home lo hi In) (from_lo : lo ≤ first) (W : Type 0) where
    abbrev P : Free → Type 0
    P d = With_met In first hi d

    -- a function of a type without arrays in its parameters
    flat_arrow : (u : Ty) → Flat_function types home K places u → (a : Ty) × ((c : Ty) × (u ≡ fun_ty a c))
    flat_arrow (Made head.Fun (more a (more c none))) h = (a, (c, refl))
    flat_arrow u h = absurd h

    early_fit : (g : Given) (st mid : State) → Function_meets N types home K places data_places In Vars scope g st mid → first ≤ g.node → g.node + numbers g.term ≤ hi → Early_function P Vars types g
    early_fit g st mid m l l' = record {
      waits = m.1.1;
      is_fun = ap is_function S.is_function;
      says = record {
        formed = m.0.inner.says.formed;
        sizes = given_in N types home K places data_places In Vars scope lo first hi E from_lo (g.node + numbers g.term) g st mid m.0 l l';
        variables = m.0.inner.says.variables;
        arrows = plain_arrows types home K places data_places P g.size m.0.inner.says.formed (inr (subst (Flat_function types home K places) (sym m.0.inner.typed) m.1.0));
      };
      typed = m.0.inner.typed;
      from = F.0;
      to = F.1.0;
      function = F.1.1;
    }
      where
        F : (a : Ty) × ((c : Ty) × (types g.node ≡ fun_ty a c))
        F = flat_arrow (types g.node) m.1.0

        S : Function_size g.size F.0 F.1.0
        S = function_is g.size F.0 F.1.0 m.0.inner.says.formed (m.0.inner.typed ∙ F.1.1)

    pub one_given : (gs : List Given) (st A : State) (from : ℕ) → first ≤ from → Placed gs from hi → (h : One_there gs st A) → (Went_by gs st A h → W) → One_given P Vars K types W A (state_by gs st A h) (sized_by gs st A h)
    one_given [] st A from l p h into = absurd h
    one_given (g ∷ gs) st A from l p (inl h) into = inl (one_fit N types home K places data_places In Vars scope lo first hi E from_lo g st h.0 h.1.0 (let y = p.0 in omega (arith, y, l)) (let y = p.0 in let z = placed_order gs (from + numbers g.term) hi p.1 in omega (arith, y, z)), one_given gs h.0 A (from + numbers g.term) (omega (arith, l)) p.1 h.1.1 into)
    one_given (g ∷ gs) st A from l p (inr (inr h)) into = inr (inr ((into tt, refl), early_fit g st h.0 h.1.0 (let y = p.0 in omega (arith, y, l)) (let y = p.0 in let z = placed_order gs (from + numbers g.term) hi p.1 in omega (arith, y, z)), all_fit N types home K places data_places In Vars scope lo first hi E from_lo gs h.0 A (from + numbers g.term) (omega (arith, l)) p.1 h.1.1))
    one_given (g ∷ gs) st A from l p (inr (inl h)) into = inr (inl (waiting_fit g h.0 A P wide W into, all_fit N types home K places data_places In Vars scope lo first hi E from_lo gs st A (from + numbers g.term) (omega (arith, l)) p.1 h.1))
      where
        wide : (d : Free) → With_met In g.node (g.node + numbers g.term) d → P d
        wide d (inl i) = inl i
        wide d (inr i) = inr (met_wider g.node (g.node + numbers g.term) first hi (let y = p.0 in omega (arith, y, l)) (let y = p.0 in let z = placed_order gs (from + numbers g.term) hi p.1 in omega (arith, y, z)) d i)
