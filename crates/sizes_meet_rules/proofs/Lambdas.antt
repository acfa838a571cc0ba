-- The lambda among the arguments of a primitive: once data is matched it is sized as by itself, and matched with what is wanted.
use Rattle.std.proofs.Common.{◌≡◌, ◌⊎◌, ℕ, zero, suc, ◌<◌, ◌≤◌, List, [], ◌∷◌, Bool, true, false, ◌||◌, ◌&&◌, cond, Option, Some, None, Ok, refl, sym, ap, ◌∙◌, subst, arith, inl, inr}
use Rattle.fut_types.specs.declared.Head.TheVariants as head
use Rattle.fut_types.specs.Types.{Ty, fun_ty, Sub, Kinds, rank}
use Rattle.sized_types.specs.Sizes.{Free, Dim, Variable, Size, Hole, Open, Level, Built, Fun, no_size, size_and, erased, all_erased, replaced, all_replaced}
use Rattle.fut_sizes.specs.Agreeing.{Answer, then_do}
use Rattle.fut_sizes.specs.Applications.{Want, Met, is_function, is_arrow, data_met, functions_met}
use Rattle.fut_sizes.specs.Functions.{is_slot}
use Rattle.fut_sizes.specs.Matching.{Found, nothing_found, made_at, read, all_read, Opened, none_opened, dim_in, in_opened, data_way, function_way, meet}
use Rattle.fut_sizes.specs.Rules.{Each_hole, filled as with_types}
use Rattle.fut_sizes.specs.Scopes.{instance, instances}
use Rattle.fut_sizes.specs.Steps.{State, Done, Step, ask, and_then, give}
use Rattle.fut_sizes.specs.Suiting.{Each, Scoped, Of_positions, Data}
use Rattle.sizes_meet_rules.specs.Known.{is_i64_size, Formed, All_formed}
use Rattle.sizes_meet_rules.proofs.Applying.{Function_size, function_is}
use Rattle.sizes_meet_rules.proofs.Forming.{data_of}
use Rattle.sizes_meet_rules.proofs.Chains.{All_kinds, data_kinds as kinds_of_data, arrows_of, Takes_all, Taken_by, Given, Waiting_given, argument_by, here, opened_by, after as found_after, wants as early_wants, last_found, given_wants, alone_scoped, All_data, Has_arrows, one_function, function_step, data_passed, no_function_met, kept_maker, Alone, Function_taken}
use Rattle.sizes_meet_rules.proofs.Filling.{Data_fit, function_holes, lambda_holes, Is_inferred, Taken_at, Taking, Stays, Agrees}
use Rattle.sizes_meet_rules.proofs.Fitting.{is_simple, is_wanted, Lambda_says, Function_met, simple_value, met_as, unread_met, each_alone}
use Rattle.sizes_meet_rules.proofs.Meeting.{Then_ok, then_ok, Asked, asked, same_ok}
use Rattle.sizes_meet_rules.proofs.Reading.{Extends}
use Rattle.sizes_meet_rules.proofs.Replacing.{hole_as}
use Rattle.sizes_meet_rules.proofs.Settling.{Is_settled, Any_variable}

both_true : (a b : Bool) → a && b ≡ true → (a ≡ true) × (b ≡ true)
both_true true b e = (refl, e)
both_true false b e = absurd (let z : false ≡ true = e in cc)

-- where no size is found
same_extends : (σ τ : Found) → τ.size ≡ σ.size → Extends σ τ
same_extends σ τ e j d s z = ap (λ (g : ℕ → Free). g j) e ∙ z

-- what an application wants of a lambda among its arguments, once data is matched
abbrev pub want_by : ℕ → Bool → Given → List Given → Opened → ℕ → Size → Found → Found → Want
want_by lo regular g gs φ k p σ before = record { node = here lo gs; is_regular = regular; size = read before (in_opened (opened_by lo gs g σ k φ) p) }

-- where it is the first
abbrev pub wanted_of : ℕ → Bool → Given → List Given → Size → Found → Want
wanted_of lo regular g gs (Fun k p r) before = want_by lo regular g gs none_opened k p nothing_found before
wanted_of lo regular g gs t before = record { node = here lo gs; is_regular = regular; size = t }

abbrev pub found_behind : ℕ → Given → List Given → Size → Answer Found
found_behind lo g gs (Fun k p r) = data_met (early_wants lo gs (opened_by lo gs g nothing_found k none_opened) r (found_after lo gs g nothing_found k)) (last_found lo gs r (found_after lo gs g nothing_found k))
found_behind lo g gs t = Ok nothing_found

-- what is wanted of a lambda: its parameters are data of these sizes, and its result is data
abbrev pub Wants_formed : (Free → Type 0) → Kinds → Size → Type 0
Wants_formed P K (Fun k x r) = (Data x × Formed x × Each (Scoped P) 0 x) × Wants_formed P K r
Wants_formed P K (Open m v u) = 1 ≤ rank K u
Wants_formed P K t = Formed t

-- the lambda by itself was sized from a state, which leaves another
pub record Lambda_result (P : Free → Type 0) (Vars : Variable → Type 0) (Went : Type 0) (after : State) (g : Given) (type : Ty) (w : Want) (σ : Found) (m : Done Met) : Type 0 where
  pub went : Went
  pub state : m.state ≡ after
  pub says : Lambda_says P Vars 0 g.size
  pub typed : erased g.size ≡ type
  pub met : meet w.node (function_way w.is_regular) g.node none_opened w.size none_opened g.size σ ≡ Ok m.result.found

pub record Waiting_fit (P : Free → Type 0) (Vars : Variable → Type 0) (K : Kinds) (Went : Type 0) (st after : State) (g : Given) : Type 0 where
  pub given : Waiting_given g
  pub type : Ty
  pub run : (w : Want) (σ : Found) (m : Done Met) → Wants_formed P K w.size → erased w.size ≡ type → given.waiting (Some w) σ st ≡ Ok m → Lambda_result P Vars Went after g type w σ m

-- arguments of data alone
abbrev pub Data_given : (Free → Type 0) → (Variable → Type 0) → Kinds → Sub → Given → Type 0
Data_given P Vars K sub g = (Data_fit P Vars g × (g.waits ≡ None)) × ((erased g.size ≡ sub g.node) × (1 ≤ rank K (sub g.node)))

abbrev pub All_data_given : (Free → Type 0) → (Variable → Type 0) → Kinds → Sub → List Given → Type 0
All_data_given P Vars K sub [] = Unit {0}
All_data_given P Vars K sub (g ∷ gs) = Data_given P Vars K sub g × All_data_given P Vars K sub gs

pub given_data : (P : Free → Type 0) (Vars : Variable → Type 0) (K : Kinds) (sub : Sub) (lo : ℕ) (gs : List Given) → All_data_given P Vars K sub gs → All_data lo gs
given_data P Vars K sub lo [] d = tt
given_data P Vars K sub lo (g ∷ gs) d = ((d.0.0.0.0, d.0.0.1), given_data P Vars K sub lo gs d.1)

-- a function whose sized type is known
pub record Early_function (P : Free → Type 0) (Vars : Variable → Type 0) (sub : Sub) (g : Given) : Type 0 where
  pub waits : g.waits ≡ None
  pub is_fun : is_function g.size ≡ true
  pub says : Lambda_says P Vars 0 g.size
  pub typed : erased g.size ≡ sub g.node
  pub from : Ty
  pub to : Ty
  pub function : sub g.node ≡ fun_ty from to

-- or one function among them: a lambda, or one whose sized type is known
abbrev pub One_given : (Free → Type 0) → (Variable → Type 0) → Kinds → Sub → Type 0 → State → State → List Given → Type 0
One_given P Vars K sub Went st after [] = ⊥
One_given P Vars K sub Went st after (g ∷ gs) = (Data_given P Vars K sub g × One_given P Vars K sub Went st after gs) ⊎ ((((F : Waiting_fit P Vars K Went st after g) × (F.type ≡ sub g.node) × ((a : Ty) × ((c : Ty) × (F.type ≡ fun_ty a c)))) × All_data_given P Vars K sub gs) ⊎ ((Went × (after ≡ st)) × Early_function P Vars sub g × All_data_given P Vars K sub gs))

pub one_kinds : (P : Free → Type 0) (Vars : Variable → Type 0) (K : Kinds) (sub : Sub) (Went : Type 0) (st after : State) (gs : List Given) → One_given P Vars K sub Went st after gs → All_kinds gs
one_kinds P Vars K sub Went st after [] d = tt
one_kinds P Vars K sub Went st after (g ∷ gs) (inl d) = (inl d.0.0.1, one_kinds P Vars K sub Went st after gs d.1)
one_kinds P Vars K sub Went st after (g ∷ gs) (inr (inr d)) = (inl d.1.waits, kinds_of_data 0 gs (given_data P Vars K sub 0 gs d.2))
one_kinds P Vars K sub Went st after (g ∷ gs) (inr (inl d)) = (inr (inl d.0.0.given), kinds_of_data 0 gs (given_data P Vars K sub 0 gs d.1))

-- each argument is data, or has the parameter's sized type
abbrev pub Kinds_taken : (Free → Type 0) → (Variable → Type 0) → Kinds → Sub → List Given → Size → Type 0
Kinds_taken P Vars K sub (g ∷ gs) (Fun k p r) = (Data_given P Vars K sub g ⊎ Function_taken p g.size) × Kinds_taken P Vars K sub gs r
Kinds_taken P Vars K sub gs t = Unit {0}

module _ (P : Free → Type 0) (Vars : Variable → Type 0) (K : Kinds) (sub : Sub) where
  pub data_kinds : (gs : List Given) (t : Size) → All_data_given P Vars K sub gs → Kinds_taken P Vars K sub gs t
  data_kinds [] t d = tt
  data_kinds (g ∷ gs) (Fun k p r) d = (inl d.0, data_kinds gs r d.1)
  data_kinds (g ∷ gs) (Hole v) d = tt
  data_kinds (g ∷ gs) (Open m v u) d = tt
  data_kinds (g ∷ gs) (Level e t) d = tt
  data_kinds (g ∷ gs) (Built h ts) d = tt

  -- so they are taken
  pub kinds_take : (gs : List Given) (t : Size) (u : Ty) → Formed t → erased t ≡ arrows_of sub gs u → Kinds_taken P Vars K sub gs t → Takes_all gs t
  unfolding Formed
  kinds_take [] t u f e k = tt
  kinds_take (g ∷ gs) t u f e k = subst (Takes_all (g ∷ gs)) (sym W.is_function) (by_kind kinds.0, kinds_take gs W.to u parts.1 W.to_typed kinds.1)
    where
      W : Function_size t (sub g.node) (arrows_of sub gs u)
      W = function_is t (sub g.node) (arrows_of sub gs u) f e

      parts : Formed W.from × Formed W.to × Each (Of_positions (λ i. i < W.chosen)) 1 W.from × (is_i64_size W.from ≡ false → Each (Of_positions (λ i. i ≡ W.chosen → ⊥)) 1 W.to) × ((i : ℕ) → i < W.chosen → Each (Of_positions (λ m. m ≡ i → ⊥)) 1 W.from → ⊥)
      parts = subst Formed W.is_function f

      kinds : (Data_given P Vars K sub g ⊎ Function_taken W.from g.size) × Kinds_taken P Vars K sub gs W.to
      kinds = subst (Kinds_taken P Vars K sub (g ∷ gs)) W.is_function k

      by_kind : Data_given P Vars K sub g ⊎ Function_taken W.from g.size → Taken_by W.from g.size
      by_kind (inl D) = inl ((data_of K W.from parts.0 (subst (λ w. 1 ≤ rank K w) (sym W.from_typed) D.1.1), W.from_typed ∙ sym D.1.0), D.0.0.0)
      by_kind (inr F) = inr F

module _ (n : ℕ) (types : Variable → Ty) (P : Free → Type 0) (settled : (d : Free) → P d → is_slot d ≡ false) (Vars : Variable → Type 0) (K : Kinds) where
  abbrev Taken_here : Found → Variable → Type 0
  Taken_here σ v = Taken_at n types P settled Vars σ v

  abbrev Opened_type : Size → Size
  Opened_type t = instance n types t

  -- ---- what is wanted has a form

  data_wants : (t : Size) → Data t → Formed t → Wants_formed P K t
  unfolding Data
  data_wants (Hole v) d f = f
  data_wants (Open m v u) d f = absurd d
  data_wants (Level e t) d f = f
  data_wants (Built h ts) d f = f
  data_wants (Fun k p r) d f = absurd d

  variable_wants : (v : Variable) (σ : Found) → 1 ≤ rank K (types v) → Taking n types P settled Vars σ → Wants_formed P K (σ.type n v (types v)) × (erased (σ.type n v (types v)) ≡ types v)
  unfolding erased
  variable_wants v σ kind k = by_form (k v)
    where
      by_form : (σ.type n v (types v) ≡ Open n v (types v)) ⊎ Taken_here σ v → Wants_formed P K (σ.type n v (types v)) × (erased (σ.type n v (types v)) ≡ types v)
      by_form (inl z) = subst (λ x. Wants_formed P K x × (erased x ≡ types v)) (sym z) (kind, refl)
      by_form (inr h) = (data_wants (σ.type n v (types v)) h.is_data h.formed, h.typed)

  module _ (q e : Variable → Bool) (g : ℕ → Dim → Dim) (σ : Found) (taking : Taking n types P settled Vars σ) (taken : (v : Variable) → q v ≡ true → Taken_here σ v) where
    pub wants : (p : Size) (j : ℕ) → is_wanted q e p ≡ true → Each_hole Is_inferred p → Each_hole (λ v. 1 ≤ rank K (types v)) p → Wants_formed P K (read σ (replaced g j (Opened_type p))) × (erased (read σ (replaced g j (Opened_type p))) ≡ erased (Opened_type p))
    unfolding is_wanted is_simple Each_hole read all_read replaced all_replaced instance instances erased all_erased Formed All_formed
    wants (Hole v) j w i k = variable_wants v σ k taking
    wants (Fun zero p r) j w i k =
        let b = both_true (is_simple q p) (is_wanted q e r) w in
        let V = simple_value n types P settled Vars K q g (suc j) p σ σ b.0 i.0 refl taken in
        let R = wants r (suc j) b.1 i.1 k.1 in
        (((V.is_data, V.formed, alone_scoped P (read σ (replaced g (suc j) (Opened_type p))) 0 V.alone), R.0), ap (λ x. fun_ty x (erased (read σ (replaced g (suc j) (Opened_type r))))) V.typed ∙ ap (fun_ty (erased (Opened_type p))) R.1)
    wants (Fun (suc l) p r) j w i k = absurd (let z : false ≡ true = w in cc)
    wants (Built (head.Scalar s) no_size) j w i k = ((tt, tt), refl)
    wants (Built (head.Scalar s) (size_and y ts)) j w i k = absurd (let z : false ≡ true = w in cc)
    wants (Built head.Array ts) j w i k = absurd (let z : false ≡ true = w in cc)
    wants (Built head.Tuple ts) j w i k = absurd (let z : false ≡ true = w in cc)
    wants (Built (head.Record m) ts) j w i k = absurd (let z : false ≡ true = w in cc)
    wants (Built head.Fun ts) j w i k = absurd (let z : false ≡ true = w in cc)
    wants (Built (head.Rigid m c) ts) j w i k = absurd (let z : false ≡ true = w in cc)
    wants (Built (head.Abstract m c) ts) j w i k = absurd (let z : false ≡ true = w in cc)
    wants (Open m v u) j w i k = absurd i
    wants (Level d x) j w i k = absurd (let z : false ≡ true = w in cc)

  -- ---- one function among arguments of data

  module _ (sub : Sub) (Went : Type 0) (st after : State) where
    module _ (lo : ℕ) (q : Variable → Bool) (regular : Bool) where
      pub record Lambda_there (g : Given) (p : Size) : Type 0 where
        pub fit : Waiting_fit P Vars K Went st after g
        pub wanted : is_wanted q (λ v. regular) p ≡ true
        pub arrow : is_arrow p ≡ true
        pub inferred : Each_hole Is_inferred p
        pub kinds : Each_hole (λ v. 1 ≤ rank K (types v)) p
        pub typed : erased (Opened_type p) ≡ fit.type

      -- or a function whose sized type is known
      pub record Early_there (g : Given) (p : Size) : Type 0 where
        pub went : Went
        pub state : after ≡ st
        pub function : Early_function P Vars sub g
        pub wanted : is_wanted q (λ v. regular) p ≡ true
        pub arrow : is_arrow p ≡ true
        pub inferred : Each_hole Is_inferred p
        pub kinds : Each_hole (λ v. 1 ≤ rank K (types v)) p
        pub typed : erased (Opened_type p) ≡ sub g.node

      abbrev pub One_lambda : List Given → Size → Type 0
      One_lambda (g ∷ gs) (Fun k p r) = (Data_given P Vars K sub g × (is_arrow p ≡ false) × One_lambda gs r) ⊎ ((Lambda_there g p × All_data_given P Vars K sub gs × ((v : Variable) → lambda_holes r v ≡ false)) ⊎ (Early_there g p × All_data_given P Vars K sub gs × ((v : Variable) → lambda_holes r v ≡ false)))
      One_lambda gs t = ⊥

      pub record Lambda_met (gs : List Given) (t : Size) (before : Found) (d : Done Found) : Type 0 where
        pub went : Went
        pub state : d.state ≡ after
        pub taking : Taking n types P settled Vars d.result
        pub stays : Stays n types P settled Vars before d.result
        pub extends : Extends before d.result
        pub slots : (i : ℕ) → (d.result.size i ≡ before.size i) ⊎ P (d.result.size i)
        pub later : before.next ≤ d.result.next
        pub makers : (i : ℕ) → i < before.next → d.result.maker i ≡ before.maker i
        pub taken : (v : Variable) → lambda_holes t v ≡ true → Taken_here d.result v
        pub is : (Θ : Variable → Size) → Agrees n types P settled Vars Θ d.result → Kinds_taken P Vars K sub gs (with_types Θ t)

      pub of_function : (p r : Size) → is_arrow p ≡ true → ((v : Variable) → lambda_holes r v ≡ false) → (v : Variable) → (is_arrow p && function_holes p v) || lambda_holes r v ≡ true → function_holes p v ≡ true
      of_function p r arrow none_rest v y = by_place (function_holes p v) (ap (λ b. (b && function_holes p v) || lambda_holes r v) (sym arrow) ∙ y)
        where
          by_place : (b : Bool) → b || lambda_holes r v ≡ true → b ≡ true
          by_place true z = refl
          by_place false z = absurd (let w : true ≡ false = sym z ∙ none_rest v in cc)

      function_taken : (p : Size) (g : Given) (σ τ : Found) (M : Function_met n types P settled Vars K σ τ p g.size) → is_function g.size ≡ true → Lambda_says P Vars 0 g.size → (Θ : Variable → Size) → Agrees n types P settled Vars Θ τ → Function_taken (with_types Θ p) g.size
      function_taken p g σ τ M is_fun says Θ a = record {
        same = M.is Θ a;
        is_fun = is_fun;
        alone = subst (Each (Alone Is_settled) 0) (sym (M.is Θ a)) (each_alone P Is_settled settled g.size 0 M.alone);
        closed = subst (Each_hole Any_variable) (sym (M.is Θ a)) (hole_as Vars Any_variable (λ v k. tt) g.size says.variables);
      }

      -- as a parameter of this type wants it
      pub record Function_wanted (p : Size) (type : Ty) : Type 0 where
        pub wanted : is_wanted q (λ v. regular) p ≡ true
        pub arrow : is_arrow p ≡ true
        pub inferred : Each_hole Is_inferred p
        pub kinds : Each_hole (λ v. 1 ≤ rank K (types v)) p
        pub typed : erased (Opened_type p) ≡ type

      met_by : (g : Given) (gs : List Given) (φ : Opened) (k : ℕ) (p r : Size) (σ before : Found) (d : Done Found) (type : Ty) → Function_wanted p type → (V : Waiting_given g) → ((m : Done Met) → V.waiting (Some (want_by lo regular g gs φ k (Opened_type p) σ before)) (made_at (here lo gs) before) st ≡ Ok m → Lambda_result P Vars Went after g type (want_by lo regular g gs φ k (Opened_type p) σ before) (made_at (here lo gs) before) m) → All_data_given P Vars K sub gs → ((v : Variable) → lambda_holes r v ≡ false) → Has_arrows gs (Opened_type r) → Taking n types P settled Vars before → ((v : Variable) → q v ≡ true → Taken_here before v)
          → functions_met regular (given_wants lo (g ∷ gs) φ (Opened_type (Fun k p r)) σ) before st ≡ Ok d → Lambda_met (g ∷ gs) (Fun k p r) before d
      unfolding instance with_types lambda_holes
      met_by g gs φ k p r σ before d type L V run data_rest none_rest arrows taking taken e = record {
        went = result.went;
        state = ap (λ (y : Done Found). y.state) (sym last) ∙ result.state;
        taking = subst (Taking n types P settled Vars) found_is M.taking;
        stays = subst (Stays n types P settled Vars before) found_is M.stays;
        extends = same_extends before d.result (ap (λ (y : Found). y.size) (sym found_is) ∙ M.size);
        slots = λ i. inl (ap (λ (y : Found). y.size i) (sym found_is) ∙ ap (λ (g : ℕ → Free). g i) M.size);
        later = subst (λ (y : Found). before.next ≤ y.next) found_is M.later;
        makers = λ i l. ap (λ (y : Found). y.maker i) (sym found_is) ∙ ap (λ (f : ℕ → ℕ). f i) M.maker ∙ kept_maker lo (here lo gs) before i l;
        taken = λ v y. subst (λ (z : Found). Taken_here z v) found_is (M.here v (of_function p r L.arrow none_rest v y));
        is = λ Θ a. (inr (function_taken p g (made_at (here lo gs) before) x2.first.result.found M V.is_fun result.says Θ (subst (Agrees n types P settled Vars Θ) (sym found_is) a)), data_kinds P Vars K sub gs (with_types Θ r) data_rest);
      }
        where
          ψ : Opened
          ψ = opened_by lo gs g σ k φ

          want : Want
          want = want_by lo regular g gs φ k (Opened_type p) σ before

          rest : Found → Step Found
          rest found = functions_met regular (given_wants lo gs ψ (Opened_type r) (found_after lo gs g σ k)) found

          waiting : Option Want → Found → Step Met
          waiting = V.waiting

          now : and_then (and_then (waiting (Some want) (made_at (here lo gs) before)) (λ m. give m.found)) rest st ≡ Ok d
          now = sym (function_step lo regular gs ψ (Opened_type p) (argument_by g.waits g) (given_wants lo gs ψ (Opened_type r) (found_after lo gs g σ k)) before st ∙ ap (λ o. and_then (one_function lo regular gs ψ (Opened_type p) (argument_by o g) before) rest st) V.waits) ∙ e

          x1 : Then_ok (and_then (waiting (Some want) (made_at (here lo gs) before)) (λ m. give m.found) st) (λ y. rest y.result y.state) d
          x1 = then_ok (and_then (waiting (Some want) (made_at (here lo gs) before)) (λ m. give m.found) st) now

          x2 : Then_ok (waiting (Some want) (made_at (here lo gs) before) st) (λ m. Ok (record { result = m.result.found; state = m.state })) x1.first
          x2 = then_ok (waiting (Some want) (made_at (here lo gs) before) st) x1.done

          result : Lambda_result P Vars Went after g type want (made_at (here lo gs) before) x2.first
          result = run x2.first x2.done

          M : Function_met n types P settled Vars K (made_at (here lo gs) before) x2.first.result.found p g.size
          M = met_as n types P settled Vars K q regular (here lo gs) g.node p false none_opened none_opened (dim_in ψ) 0 0 g.size before (made_at (here lo gs) before) x2.first.result.found L.wanted L.inferred L.kinds result.says (result.typed ∙ sym L.typed) taking refl taken
              (λ j m l. absurd (omega (arith, l))) (λ z. absurd (let y : true ≡ false = sym L.arrow ∙ z in cc)) result.met

          first_is : x1.first ≡ record { result = x2.first.result.found; state = x2.first.state }
          first_is = sym (same_ok x2.rest)

          last : record { result = x2.first.result.found; state = x2.first.state } ≡ d
          last = same_ok (sym (no_function_met lo regular gs ψ (Opened_type r) (found_after lo gs g σ k) arrows (given_data P Vars K sub lo gs data_rest) x2.first.result.found x2.first.state) ∙ ap (λ (y : Done Found). rest y.result y.state) (sym first_is) ∙ x1.rest)

          found_is : x2.first.result.found ≡ d.result
          found_is = ap (λ (y : Done Found). y.result) last

      lambda_met : (g : Given) (gs : List Given) (φ : Opened) (k : ℕ) (p r : Size) (σ before : Found) (d : Done Found) → Lambda_there g p → All_data_given P Vars K sub gs → ((v : Variable) → lambda_holes r v ≡ false) → Has_arrows gs (Opened_type r) → Taking n types P settled Vars before → ((v : Variable) → q v ≡ true → Taken_here before v)
          → functions_met regular (given_wants lo (g ∷ gs) φ (Opened_type (Fun k p r)) σ) before st ≡ Ok d → Lambda_met (g ∷ gs) (Fun k p r) before d
      lambda_met g gs φ k p r σ before d L data_rest none_rest arrows taking taken e = met_by g gs φ k p r σ before d L.fit.type (record { wanted = L.wanted; arrow = L.arrow; inferred = L.inferred; kinds = L.kinds; typed = L.typed }) L.fit.given
          (λ m z. L.fit.run (want_by lo regular g gs φ k (Opened_type p) σ before) (made_at (here lo gs) before) m W.0 (W.1 ∙ L.typed) z) data_rest none_rest arrows taking taken e
        where
          W : Wants_formed P K (want_by lo regular g gs φ k (Opened_type p) σ before).size × (erased (want_by lo regular g gs φ k (Opened_type p) σ before).size ≡ erased (Opened_type p))
          W = wants q (λ v. regular) (dim_in (opened_by lo gs g σ k φ)) before taking taken p 0 L.wanted L.inferred L.kinds

      early_met : (g : Given) (gs : List Given) (φ : Opened) (k : ℕ) (p r : Size) (σ before : Found) (d : Done Found) → Early_there g p → All_data_given P Vars K sub gs → ((v : Variable) → lambda_holes r v ≡ false) → Has_arrows gs (Opened_type r) → Taking n types P settled Vars before → ((v : Variable) → q v ≡ true → Taken_here before v)
          → functions_met regular (given_wants lo (g ∷ gs) φ (Opened_type (Fun k p r)) σ) before st ≡ Ok d → Lambda_met (g ∷ gs) (Fun k p r) before d
      unfolding instance with_types lambda_holes
      early_met g gs φ k p r σ before d L data_rest none_rest arrows taking taken e = record {
        went = L.went;
        state = ap (λ (y : Done Found). y.state) (sym last) ∙ a1.state ∙ sym L.state;
        taking = subst (Taking n types P settled Vars) found_is M.taking;
        stays = subst (Stays n types P settled Vars before) found_is M.stays;
        extends = same_extends before d.result (ap (λ (y : Found). y.size) (sym found_is) ∙ M.size);
        slots = λ i. inl (ap (λ (y : Found). y.size i) (sym found_is) ∙ ap (λ (g : ℕ → Free). g i) M.size);
        later = subst (λ (y : Found). before.next ≤ y.next) found_is M.later;
        makers = λ i l. ap (λ (y : Found). y.maker i) (sym found_is) ∙ ap (λ (f : ℕ → ℕ). f i) M.maker ∙ kept_maker lo (here lo gs) before i l;
        taken = λ v y. subst (λ (z : Found). Taken_here z v) found_is (M.here v (of_function p r L.arrow none_rest v y));
        is = λ Θ a. (inr (function_taken p g (made_at (here lo gs) before) x1.first.result M L.function.is_fun L.function.says Θ (subst (Agrees n types P settled Vars Θ) (sym found_is) a)), data_kinds P Vars K sub gs (with_types Θ r) data_rest);
      }
        where
          ψ : Opened
          ψ = opened_by lo gs g σ k φ

          rest : Found → Step Found
          rest found = functions_met regular (given_wants lo gs ψ (Opened_type r) (found_after lo gs g σ k)) found

          matched : Answer Found
          matched = meet (here lo gs) (function_way regular) g.node ψ (Opened_type p) none_opened g.size (made_at (here lo gs) before)

          now : and_then (ask matched) rest st ≡ Ok d
          now = sym (function_step lo regular gs ψ (Opened_type p) (argument_by g.waits g) (given_wants lo gs ψ (Opened_type r) (found_after lo gs g σ k)) before st ∙ ap (λ o. and_then (one_function lo regular gs ψ (Opened_type p) (argument_by o g) before) rest st) L.function.waits
              ∙ ap (λ b. and_then (cond b (ask matched) (give before)) rest st) L.function.is_fun) ∙ e

          x1 : Then_ok (ask matched st) (λ y. rest y.result y.state) d
          x1 = then_ok (ask matched st) now

          a1 : Asked matched st x1.first
          a1 = asked matched st x1.first x1.done

          M : Function_met n types P settled Vars K (made_at (here lo gs) before) x1.first.result p g.size
          M = unread_met n types P settled Vars K q regular (here lo gs) g.node p false ψ none_opened 0 g.size (made_at (here lo gs) before) x1.first.result L.wanted L.inferred L.kinds L.function.says (L.function.typed ∙ sym L.typed) taking taken
              (λ j m l. absurd (omega (arith, l))) (λ z. absurd (let y : true ≡ false = sym L.arrow ∙ z in cc)) a1.answer

          last : record { result = x1.first.result; state = x1.first.state } ≡ d
          last = same_ok (sym (no_function_met lo regular gs ψ (Opened_type r) (found_after lo gs g σ k) arrows (given_data P Vars K sub lo gs data_rest) x1.first.result x1.first.state) ∙ x1.rest)

          found_is : x1.first.result ≡ d.result
          found_is = ap (λ (y : Done Found). y.result) last

      pub lambda_ran : (gs : List Given) (φ : Opened) (t : Size) (σ before : Found) (d : Done Found) → One_lambda gs t → Has_arrows gs (Opened_type t) → Taking n types P settled Vars before → ((v : Variable) → q v ≡ true → Taken_here before v) → functions_met regular (given_wants lo gs φ (Opened_type t) σ) before st ≡ Ok d → Lambda_met gs t before d
      unfolding instance with_types lambda_holes
      lambda_ran [] φ t σ before d o arrows taking taken e = absurd o
      lambda_ran (g ∷ gs) φ (Fun k p r) σ before d (inl o) arrows taking taken e =
          let R = lambda_ran gs (opened_by lo gs g σ k φ) r (found_after lo gs g σ k) before d o.2 arrows.1 taking taken (sym (data_passed lo regular gs g (opened_by lo gs g σ k φ) (Opened_type p) (given_wants lo gs (opened_by lo gs g σ k φ) (Opened_type r) (found_after lo gs g σ k)) before st (o.0.0.0.0, o.0.0.1)) ∙ e) in
          record {
            went = R.went;
            state = R.state;
            taking = R.taking;
            stays = R.stays;
            extends = R.extends;
            slots = R.slots;
            later = R.later;
            makers = R.makers;
            taken = λ v y. R.taken v (ap (λ b. (b && function_holes p v) || lambda_holes r v) (sym o.1) ∙ y);
            is = λ Θ a. (inl o.0, R.is Θ a);
          }
      lambda_ran (g ∷ gs) φ (Fun k p r) σ before d (inr (inl o)) arrows taking taken e = lambda_met g gs φ k p r σ before d o.0 o.1 o.2 arrows.1 taking taken e
      lambda_ran (g ∷ gs) φ (Fun k p r) σ before d (inr (inr o)) arrows taking taken e = early_met g gs φ k p r σ before d o.0 o.1 o.2 arrows.1 taking taken e
      lambda_ran (g ∷ gs) φ (Hole v) σ before d o arrows taking taken e = absurd o
      lambda_ran (g ∷ gs) φ (Open m v u) σ before d o arrows taking taken e = absurd o
      lambda_ran (g ∷ gs) φ (Level x t) σ before d o arrows taking taken e = absurd o
      lambda_ran (g ∷ gs) φ (Built h ts) σ before d o arrows taking taken e = absurd o

      -- ---- a lambda before data, which takes the parameters that are wanted of it

      abbrev pub One_wide : List Given → Size → Type 0
      One_wide (g ∷ gs) (Fun k p r) = Function_wanted p (sub g.node) × All_data_given P Vars K sub gs × ((v : Variable) → lambda_holes r v ≡ false)
      One_wide gs t = ⊥

      pub wide_behind : (g : Given) (gs : List Given) (k : ℕ) (p r : Size) (before : Found) → is_function g.size ≡ true → data_met (early_wants lo (g ∷ gs) none_opened (Opened_type (Fun k p r)) nothing_found) (last_found lo (g ∷ gs) (Opened_type (Fun k p r)) nothing_found) ≡ Ok before → found_behind lo g gs (Opened_type (Fun k p r)) ≡ Ok before
      unfolding instance data_met
      wide_behind g gs k p r before is_fun e = sym (ap (λ b. then_do (cond b (Ok start) (meet (here lo gs) data_way g.node (opened_by lo gs g nothing_found k none_opened) (Opened_type p) none_opened g.size (made_at (here lo gs) start))) (λ found. data_met (early_wants lo gs (opened_by lo gs g nothing_found k none_opened) (Opened_type r) (found_after lo gs g nothing_found k)) found)) is_fun) ∙ e
        where
          start : Found
          start = last_found lo gs (Opened_type r) (found_after lo gs g nothing_found k)

      pub wide_ran : (g : Given) (gs : List Given) (t : Size) (before : Found) (d : Done Found) (V : Waiting_given g) → ((m : Done Met) → found_behind lo g gs (Opened_type t) ≡ Ok before → V.waiting (Some (wanted_of lo regular g gs (Opened_type t) before)) (made_at (here lo gs) before) st ≡ Ok m → Lambda_result P Vars Went after g (sub g.node) (wanted_of lo regular g gs (Opened_type t) before) (made_at (here lo gs) before) m)
          → One_wide (g ∷ gs) t → Has_arrows (g ∷ gs) (Opened_type t) → Taking n types P settled Vars before → ((v : Variable) → q v ≡ true → Taken_here before v) → data_met (early_wants lo (g ∷ gs) none_opened (Opened_type t) nothing_found) (last_found lo (g ∷ gs) (Opened_type t) nothing_found) ≡ Ok before
          → functions_met regular (given_wants lo (g ∷ gs) none_opened (Opened_type t) nothing_found) before st ≡ Ok d → Lambda_met (g ∷ gs) t before d
      unfolding instance
      wide_ran g gs (Fun k p r) before d V run o arrows taking taken behind e = met_by g gs none_opened k p r nothing_found before d (sub g.node) o.0 V (λ m z. run m (wide_behind g gs k p r before V.is_fun behind) z) o.1 o.2 arrows.1 taking taken e
      wide_ran g gs (Hole v) before d V run o arrows taking taken behind e = absurd o
      wide_ran g gs (Open m v u) before d V run o arrows taking taken behind e = absurd o
      wide_ran g gs (Level x t) before d V run o arrows taking taken behind e = absurd o
      wide_ran g gs (Built h ts) before d V run o arrows taking taken behind e = absurd o

      pub wide_wants : (g : Given) (gs : List Given) (t : Size) (before : Found) → One_wide (g ∷ gs) t → Taking n types P settled Vars before → ((v : Variable) → q v ≡ true → Taken_here before v) → Wants_formed P K (wanted_of lo regular g gs (Opened_type t) before).size × (erased (wanted_of lo regular g gs (Opened_type t) before).size ≡ sub g.node)
      unfolding instance
      wide_wants g gs (Fun k p r) before o taking taken = let W = wants q (λ v. regular) (dim_in (opened_by lo gs g nothing_found k none_opened)) before taking taken p 0 o.0.wanted o.0.inferred o.0.kinds in (W.0, W.1 ∙ o.0.typed)
      wide_wants g gs (Hole v) before o taking taken = absurd o
      wide_wants g gs (Open m v u) before o taking taken = absurd o
      wide_wants g gs (Level x t) before o taking taken = absurd o
      wide_wants g gs (Built h ts) before o taking taken = absurd o
