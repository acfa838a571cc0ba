-- A lambda as the first argument of a primitive, whose parameters are data: it is sized behind the others, with the parameters that
-- are wanted of it, and has the type that is wanted.
use Rattle.std.proofs.Common.{◌≡◌, ◌⊎◌, ℕ, zero, suc, ◌+◌, ◌<◌, ◌≤◌, List, ◌∷◌, Bool, true, false, Option, Some, None, Ok, Err, refl, sym, ap, ◌∙◌, subst, arith, inl, inr}
use Rattle.fut_scalar.specs.declared.place.BindId.{BindId}
use Rattle.fut_flat.specs.declared.prim.Ref.{Ref}
use Rattle.fut_flat.specs.Numbers.{pattern_numbers, all_pattern_numbers, numbers}
use Rattle.fut_flat.specs.Terms.{Patterns, no_pattern, pattern_and, Use, Strict, Lambda, Apply, Let, If, Loop}
use Rattle.fut_flat.specs.Erased.{FlatTerm}
use Rattle.fut_types.specs.declared.Head.TheVariants as head
use Rattle.fut_types.specs.declared.Kind.{Kind}
use Rattle.fut_types.specs.Types.{Ty, fun_ty, Sub, Kinds, HasKind, level}
use Rattle.fut_typing.specs.Names.{Names}
use Rattle.fut_typing.specs.Patterns.{pattern_types, arrows}
use Rattle.sized_types.specs.Sizes.{Free, Variable, Size, Hole, Open, Level, Built, Fun, no_size, erased, all_erased}
use Rattle.fut_sizes.specs.Agreeing.{Answer, then_do}
use Rattle.fut_sizes.specs.Applications.{Want, Met, Argument, Early, Late, is_function}
use Rattle.fut_sizes.specs.Functions.{is_slot}
use Rattle.fut_sizes.specs.Matching.{Found, made_at, none_opened, function_way, meet}
use Rattle.fut_sizes.specs.Scopes.{Scope}
use Rattle.fut_sizes.specs.Steps.{State, Done}
use Rattle.fut_sizes.specs.Suiting.{Each, Scoped, Data}
use Rattle.sizes_meet_rules.specs.Known.{Formed, Elsewhere}
use Rattle.sizes_meet_rules.specs.Plain.{Gives_data}
use Rattle.fut_sizes.specs.Rules.{Each_hole}
use Rattle.sizes_meet_rules.proofs.Applying.{as_function, function_there, same_function}
use Rattle.sizes_meet_rules.proofs.Chains.{Alone, Given, here}
use Rattle.sizes_meet_rules.proofs.Coming.{wanted_in}
use Rattle.sizes_meet_rules.proofs.Fitting.{Plain_arrows, plain_arrows, data_alone}
use Rattle.sizes_meet_rules.proofs.Lambdas.{Wants_formed, wanted_of, found_behind, Lambda_result}
use Rattle.sizes_meet_rules.proofs.Later.{own_state, with_size, data_wants, lambda_argument}
use Rattle.sizes_meet_rules.proofs.Meeting.{order, each_scoped, With_met, met_wider, met_outside, met_no_slot, elsewhere_narrower, In_nodes, Around, Lambda_typed, Data_wanted, Data_lambda, Stands_lambda, Same_parameters, Same_lambda, Wide_ran}
use Rattle.sizes_meet_rules.proofs.Parts.{gives_lambda, Early_given, Given_inner, Given_meets, given_meets_as, Lambda_wide, Later_part}

-- ---- what such a lambda gives, if it is not refused

abbrev pub wide_size : Answer (Done Met) → Size
wide_size (Ok m) = as_function m.result.size
wide_size (Err r) = Fun 0 (Built head.Tuple no_size) (Built head.Tuple no_size)

pub wide_is_function : (y : Answer (Done Met)) → is_function (wide_size y) ≡ true
wide_is_function (Ok m) = function_there m.result.size
wide_is_function (Err r) = refl

-- what is wanted does not hang on the lambda's size
pub same_wanted : (lo : ℕ) (regular : Bool) (g : Given) (s : Size) (gs : List Given) (t : Size) (before : Found) → wanted_of lo regular (with_size g s) gs t before ≡ wanted_of lo regular g gs t before
same_wanted lo regular g s gs (Fun k p r) before = refl
same_wanted lo regular g s gs (Hole v) before = refl
same_wanted lo regular g s gs (Open m v u) before = refl
same_wanted lo regular g s gs (Level d t) before = refl
same_wanted lo regular g s gs (Built h ts) before = refl

pub same_behind : (lo : ℕ) (g : Given) (s : Size) (gs : List Given) (t : Size) → found_behind lo (with_size g s) gs t ≡ found_behind lo g gs t
same_behind lo g s gs (Fun k p r) = refl
same_behind lo g s gs (Hole v) = refl
same_behind lo g s gs (Open m v u) = refl
same_behind lo g s gs (Level d t) = refl
same_behind lo g s gs (Built h ts) = refl

module _ (types : Sub) (P Q : Free → Type 0) (into : (d : Free) → P d → Q d) where
  wanted_as : (ps : Patterns Ref BindId) (q : ℕ) (t : Size) → Data_wanted types P ps q t → Data_wanted types Q ps q t
  wanted_as no_pattern q t d = tt
  wanted_as (pattern_and p ps) q (Fun k x r) d = ((d.0.0, d.0.1, each_scoped P Q into x 0 d.0.2, d.0.3), wanted_as ps (q + pattern_numbers p) r d.1)
  wanted_as (pattern_and p ps) q (Hole v) d = absurd d
  wanted_as (pattern_and p ps) q (Open m v u) d = absurd d
  wanted_as (pattern_and p ps) q (Level e t) d = absurd d
  wanted_as (pattern_and p ps) q (Built h ts) d = absurd d

  lambda_as : (e : FlatTerm) (n : ℕ) (t : Size) → Data_lambda types P e n t → Data_lambda types Q e n t
  lambda_as (Lambda ps e) n t d = wanted_as ps (1 + n) t d
  lambda_as (Use r at k) n t d = absurd d
  lambda_as (Strict o mark ts) n t d = absurd d
  lambda_as (Apply f e) n t d = absurd d
  lambda_as (Let b v e) n t d = absurd d
  lambda_as (If c a b) n t d = absurd d
  lambda_as (Loop mark sizes p first turns body) n t d = absurd d

  stands_in : (e : FlatTerm) (n : ℕ) (t : Size) → Data_lambda types P e n t → (d : Free) → Stands_lambda e t d → P d
  stands_in (Lambda ps e) n t w d s = wanted_in types P ps (1 + n) t w d s
  stands_in (Use r at k) n t w d s = absurd s
  stands_in (Strict o mark ts) n t w d s = absurd s
  stands_in (Apply f e) n t w d s = absurd s
  stands_in (Let b v e) n t w d s = absurd s
  stands_in (If c a b) n t w d s = absurd s
  stands_in (Loop mark sizes p first turns body) n t w d s = absurd s

module _ (types : Sub) (home : ℕ → ℕ) (K : Kinds) (places : Kind) (data_places : 1 ≤ level places) where
  wants_lambda : (P : Free → Type 0) (e : FlatTerm) (n : ℕ) (t : Size) → Gives_data types home K places e n → Lambda_typed types e n → Wants_formed P K t → erased t ≡ types n → Data_lambda types P e n t
  wants_lambda P (Lambda (pattern_and p ps) e) n t g ty f z = data_wants K P types (pattern_and p ps) (1 + n) t (types (1 + n + all_pattern_numbers (pattern_and p ps))) f (z ∙ ty)
  wants_lambda P (Lambda no_pattern e) n t g ty f z = absurd g
  wants_lambda P (Use r at k) n t g ty f z = absurd g
  wants_lambda P (Strict o mark ts) n t g ty f z = absurd g
  wants_lambda P (Apply f e) n t g ty h z = absurd g
  wants_lambda P (Let b v e) n t g ty f z = absurd g
  wants_lambda P (If c a b) n t g ty f z = absurd g
  wants_lambda P (Loop mark sizes p first turns body) n t g ty f z = absurd g

  -- its arrows are plain
  module _ (P Q : Free → Type 0) (into : (d : Free) → P d → Q d) where
    plain_parameters : (ps : Patterns Ref BindId) (q : ℕ) (w t : Size) (u : Ty) → Data_wanted types P ps q w → Same_parameters ps w t → Formed t → erased t ≡ arrows (pattern_types types ps q) u → HasKind K places u → Plain_arrows Q t
    unfolding Formed erased all_erased
    plain_parameters no_pattern q w t u d a f e k = plain_arrows types home K places data_places Q t f (inl (subst (HasKind K places) (sym e) k))
    plain_parameters (pattern_and p ps) q (Fun l x r) (Fun zero y s) u d a f e k =
        let z : fun_ty (erased y) (erased s) ≡ fun_ty (types q) (arrows (pattern_types types ps (q + pattern_numbers p)) u) = e in
        ((subst Data (sym a.0) d.0.0, subst (Each (Alone Q) 0) (sym a.0) (data_alone Q x d.0.0 (each_scoped P Q into x 0 d.0.2))), plain_parameters ps (q + pattern_numbers p) r s u d.1 a.1 f.1 (let v : erased s ≡ arrows (pattern_types types ps (q + pattern_numbers p)) u = cc in v) k)
    plain_parameters (pattern_and p ps) q (Fun l x r) (Fun (suc m) y s) u d a f e k = absurd a
    plain_parameters (pattern_and p ps) q (Fun l x r) (Hole v) u d a f e k = absurd a
    plain_parameters (pattern_and p ps) q (Fun l x r) (Open m v z) u d a f e k = absurd a
    plain_parameters (pattern_and p ps) q (Fun l x r) (Level y z) u d a f e k = absurd a
    plain_parameters (pattern_and p ps) q (Fun l x r) (Built h ts) u d a f e k = absurd a
    plain_parameters (pattern_and p ps) q (Hole v) t u d a f e k = absurd d
    plain_parameters (pattern_and p ps) q (Open m v z) t u d a f e k = absurd d
    plain_parameters (pattern_and p ps) q (Level y z) t u d a f e k = absurd d
    plain_parameters (pattern_and p ps) q (Built h ts) t u d a f e k = absurd d

    plain_lambda : (e : FlatTerm) (n : ℕ) (w t : Size) → Gives_data types home K places e n → Lambda_typed types e n → Data_lambda types P e n w → Same_lambda e w t → Formed t → erased t ≡ types n → Plain_arrows Q t
    plain_lambda (Lambda (pattern_and p ps) e) n w t g ty d a f z = plain_parameters (pattern_and p ps) (1 + n) w t (types (1 + n + all_pattern_numbers (pattern_and p ps))) d a f (z ∙ ty) g
    plain_lambda (Lambda no_pattern e) n w t g ty d a f z = absurd g
    plain_lambda (Use r at k) n w t g ty d a f z = absurd g
    plain_lambda (Strict o mark ts) n w t g ty d a f z = absurd g
    plain_lambda (Apply h e) n w t g ty d a f z = absurd g
    plain_lambda (Let b v e) n w t g ty d a f z = absurd g
    plain_lambda (If c x b) n w t g ty d a f z = absurd g
    plain_lambda (Loop mark sizes p first turns body) n w t g ty d a f z = absurd g

module _ (N : Names) (types : Sub) (home : ℕ → ℕ) (K : Kinds) (places : Kind) (data_places : 1 ≤ level places) (In : Free → Type 0) (Vars : Variable → Type 0) (scope : Scope) (lo first hi : ℕ) (E : Elsewhere N types home lo hi In) (from_lo : lo ≤ first)
    (g : Given) (L : Lambda_wide N types home K places data_places In Vars scope g) (first_is : first ≡ g.node) (room : g.node + numbers g.term ≤ hi) (answer : Answer (Done Met)) (A : State) where
  abbrev end : ℕ
  end = g.node + numbers g.term

  abbrev pub now_wide : Given
  now_wide = with_size g (wide_size answer)

  abbrev pub wide_state : State
  wide_state = own_state A answer

  -- of the arguments behind it
  abbrev pub Behind : Free → Type 0
  Behind d = With_met In end hi d

  -- of all arguments
  abbrev All : Free → Type 0
  All d = With_met In first hi d

  pub behind_all : (d : Free) → Behind d → All d
  behind_all d (inl i) = inl i
  behind_all d (inr i) = inr (met_wider end hi first hi (let z = first_is in omega (arith, z)) (omega arith) d i)

  pub behind_settled : (d : Free) → Behind d → is_slot d ≡ false
  behind_settled d (inl i) = E.no_slot d i
  behind_settled d (inr i) = met_no_slot end hi d i

  around : (d : Free) → Behind d → Around N types home g.node end d
  around d b = (behind_settled d b, outside b)
    where
      outside : Behind d → In_nodes N types home g.node end d → ⊥
      outside (inl i) o = (elsewhere_narrower N types home lo hi g.node end In (let z = first_is in let y = from_lo in omega (arith, z, y)) room E).outside d i o
      outside (inr i) o = met_outside N types home end hi g.node end (inr (omega arith)) d i o

  -- it was sized as it is wanted
  pub record Wide_went : Type 0 where
    pub met : Done Met
    pub is : answer ≡ Ok met
    pub want : Want
    pub found : Found
    pub behind : Data_lambda types Behind g.term g.node want.size
    pub ran : Wide_ran N types home In Vars scope g.term g.node end want found A met

  pub function_now : is_function now_wide.size ≡ true
  function_now = wide_is_function answer

  module _ (W : Wide_went) where
    size_is : now_wide.size ≡ W.met.result.size
    size_is = ap wide_size W.is ∙ same_function W.met.result.size L.waits.of_function.0 L.waits.of_function.1.0 W.ran.says.formed (W.ran.typed ∙ L.waits.of_function.1.1)

    state_is : wide_state ≡ W.met.state
    state_is = ap (own_state A) W.is

    there : (d : Free) → Stands_lambda g.term W.want.size d → Behind d
    there d s = stands_in types Behind All behind_all g.term g.node W.want.size W.behind d s

    up_to : (d : Free) → With_met In g.node end d ⊎ Stands_lambda g.term W.want.size d → With_met In g.node hi d
    up_to d (inl (inl i)) = inl i
    up_to d (inl (inr i)) = inr (met_wider g.node end g.node hi (omega arith) room d i)
    up_to d (inr s) = by_place (there d s)
      where
        by_place : Behind d → With_met In g.node hi d
        by_place (inl i) = inl i
        by_place (inr i) = inr (met_wider end hi g.node hi (omega arith) (omega arith) d i)

    in_all : (d : Free) → With_met In g.node hi d → All d
    in_all d m = subst (λ n. With_met In n hi d) (sym first_is) m

    own_sizes : Each (Scoped (λ d. With_met In g.node hi d)) 0 now_wide.size
    own_sizes = subst (Each (Scoped (λ d. With_met In g.node hi d)) 0) (sym size_is) (each_scoped (λ d. With_met In g.node end d ⊎ Stands_lambda g.term W.want.size d) (λ d. With_met In g.node hi d) up_to W.met.result.size 0 W.ran.says.sizes)

    wide_inner : Given_inner N types home K places data_places In Vars scope hi now_wide A wide_state
    wide_inner = record {
      says = record { sizes = own_sizes; variables = subst (Each_hole Vars) (sym size_is) W.ran.says.variables; formed = subst Formed (sym size_is) W.ran.says.formed };
      typed = ap erased size_is ∙ W.ran.typed;
      kept = λ n o. ap (λ (y : State). y.nodes n) state_is ∙ W.ran.kept n o;
      dropped = λ n o. ap (λ (y : State). y.dropped n) state_is ∙ W.ran.dropped n o;
      rules = λ s G J e a. W.ran.rules s G J (λ n x y. by_place s n (order g.node n) e a y x);
    }
      where
        by_place : (s : ℕ → Size) (n : ℕ) → (g.node < n) ⊎ (n ≤ g.node) → s g.node ≡ now_wide.size → ((n : ℕ) → g.node < n → n < end → s n ≡ wide_state.nodes n) → n < end → g.node ≤ n → s n ≡ W.met.state.nodes n
        by_place s n (inl x) h a y z = a n x y ∙ ap (λ (v : State). v.nodes n) state_is
        by_place s n (inr x) h a y z = subst (λ k. s k ≡ W.met.state.nodes k) (let q : g.node ≡ n = omega (arith, x, z) in q) (h ∙ size_is ∙ sym W.ran.here)

    pub wide_meets : Given_meets N types home K places data_places In Vars scope hi now_wide A wide_state
    wide_meets = given_meets_as N types home K places data_places In Vars scope hi now_wide A wide_state refl (inl L.value) wide_inner (λ z. ap (λ (y : State). y.nodes g.node) state_is ∙ W.ran.here ∙ sym size_is) (lambda_argument N types home K places data_places In Vars scope g.term (types g.node) (gives_lambda types home K places g.term g.node L.gives))

    -- what it leaves as it is
    pub wide_later : (gs : List Given) → Later_part N types home K places data_places In Vars scope A wide_state (now_wide ∷ gs)
    wide_later gs = record { nodes = λ x o. nodes x o.0; dropped = λ x o. dropped x o.0 }
      where
        not_none : (g.waits ≡ None) ⊎ Early_given N types home K places data_places In Vars scope g → ⊥
        not_none (inl e) = let z : ◌≡◌ {A = Option Argument} (Some (Late g.node L.waits.waiting)) None = sym L.waits_is ∙ e in cc
        not_none (inr w) = let z : ◌≡◌ {A = Option Argument} (Some (Late g.node L.waits.waiting)) (Some (Early g.node g.value g.named w.0)) = sym L.waits_is ∙ w.1 in cc

        nodes : (x : ℕ) → ((x < g.node) ⊎ (g.node + numbers g.term ≤ x)) ⊎ ((g.waits ≡ None) ⊎ Early_given N types home K places data_places In Vars scope g) → wide_state.nodes x ≡ A.nodes x
        nodes x (inl o) = ap (λ (y : State). y.nodes x) state_is ∙ W.ran.kept x o
        nodes x (inr e) = absurd (not_none e)

        dropped : (x : ℕ) → ((x < g.node) ⊎ (g.node + numbers g.term ≤ x)) ⊎ ((g.waits ≡ None) ⊎ Early_given N types home K places data_places In Vars scope g) → wide_state.dropped x ≡ A.dropped x
        dropped x (inl o) = ap (λ (y : State). y.dropped x) state_is ∙ W.ran.dropped x o
        dropped x (inr e) = absurd (not_none e)

    -- it has the type that is wanted
    wide_result : (w : Want) (σ : Found) (m : Done Met) → W.met ≡ m → W.want ≡ w → W.found ≡ σ → Lambda_result All Vars Wide_went wide_state now_wide (types g.node) w σ m
    wide_result w σ m em ew es = record {
      went = W;
      state = ap (λ (y : Done Met). y.state) (sym em) ∙ sym state_is;
      says = record {
        formed = wide_inner.says.formed;
        sizes = each_scoped (λ d. With_met In g.node hi d) All in_all now_wide.size 0 own_sizes;
        variables = wide_inner.says.variables;
        arrows = subst (Plain_arrows All) (sym size_is) (plain_lambda types home K places data_places Behind All behind_all g.term g.node W.want.size W.met.result.size L.gives L.waits.typed_as W.behind W.ran.parameters W.ran.says.formed W.ran.typed);
      };
      typed = wide_inner.typed;
      met = ap (λ t. meet w.node (function_way w.is_regular) g.node none_opened w.size none_opened t σ) size_is ∙ ap (λ (v : Want). meet v.node (function_way v.is_regular) g.node none_opened v.size none_opened W.met.result.size σ) (sym ew) ∙ ap (meet W.want.node (function_way W.want.is_regular) g.node none_opened W.want.size none_opened W.met.result.size) (sym es)
          ∙ W.ran.met ∙ ap (λ (y : Done Met). Ok y.result.found) em;
    }

  -- from its answer
  pub wide_gives : (w : Want) (σ : Found) (m : Done Met) → answer ≡ Ok m → Wants_formed Behind K w.size → erased w.size ≡ types g.node → L.waits.waiting (Some w) σ A ≡ Ok m → Lambda_result All Vars Wide_went wide_state now_wide (types g.node) w σ m
  wide_gives w σ m e f z q =
      let d : Data_lambda types Behind g.term g.node w.size = wants_lambda types home K places data_places Behind g.term g.node w.size L.gives L.waits.typed_as f z in
      wide_result (record { met = m; is = e; want = w; found = σ; behind = d; ran = L.waits.as_wanted w σ A m (lambda_as types Behind (Around N types home g.node end) around g.term g.node w.size d) q }) w σ m refl refl refl

-- ---- its answer in an application at a node

module _ (N : Names) (types : Sub) (home : ℕ → ℕ) (K : Kinds) (places : Kind) (data_places : 1 ≤ level places) (In : Free → Type 0) (Vars : Variable → Type 0) (scope : Scope) where
  abbrev pub wide_answer : (g : Given) → Lambda_wide N types home K places data_places In Vars scope g → List Given → ℕ → Bool → Size → State → Answer (Done Met)
  wide_answer g L gs lo regular opened A = then_do (found_behind lo g gs opened) (λ before. L.waits.waiting (Some (wanted_of lo regular g gs opened before)) (made_at (here lo gs) before) A)
