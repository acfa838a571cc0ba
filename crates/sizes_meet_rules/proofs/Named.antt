-- A name or an application as the first argument of a primitive: its function is used at the sizes of data that are wanted of it.
use Rattle.std.proofs.Common.{◌≡◌, ◌⊎◌, ℕ, ◌≤◌, List, ◌∷◌, Bool, true, false, cond, Ok, Err, refl, sym, ap, ◌∙◌, subst, arith, inl, inr}
use Rattle.fut_types.specs.declared.Head.TheVariants as head
use Rattle.fut_types.specs.Types.{Ty, fun_ty, Sub, Kinds}
use Rattle.sized_types.specs.Sizes.{Free, Const, Unknown, Slot, Variable, Size, Hole, Open, Level, Built, Fun, no_size, erased}
use Rattle.fut_sizes.specs.Agreeing.{Answer, then_do}
use Rattle.fut_sizes.specs.Applications.{is_function, data_met, functions_met}
use Rattle.fut_sizes.specs.Functions.{is_slot}
use Rattle.fut_sizes.specs.Matching.{Found, nothing_found, made_at, Opened, none_opened, function_way, meet}
use Rattle.fut_sizes.specs.Rules.{Each_hole, filled as with_types}
use Rattle.fut_sizes.specs.Scopes.{instance}
use Rattle.fut_sizes.specs.Steps.{State, Done, Step, ask, and_then, give}
use Rattle.fut_sizes.specs.Suiting.{Each, Free_of, Suits}
use Rattle.sizes_meet_rules.specs.Known.{Says}
use Rattle.sizes_meet_rules.proofs.Applying.{as_function, function_there, same_function, Slots}
use Rattle.sizes_meet_rules.proofs.Chains.{Alone, alone_scoped, Given, Named_given, argument_by, here, opened_by, after as found_after, wants as early_wants, last_found, given_wants, Has_arrows, one_function, function_step, no_function_met, kept_maker, Function_taken}
use Rattle.sizes_meet_rules.proofs.Choosing.{Name_says, Chosen, chosen_met}
use Rattle.sizes_meet_rules.proofs.Filling.{lambda_holes, Taken_at, Taking, Stays, Agrees}
use Rattle.sizes_meet_rules.proofs.Fitting.{each_alone}
use Rattle.sizes_meet_rules.proofs.Frames.{Frames, not_filled}
use Rattle.sizes_meet_rules.proofs.Lambdas.{found_behind, given_data, data_kinds, Function_wanted, Lambda_met, One_wide, of_function, wide_behind}
use Rattle.sizes_meet_rules.proofs.Meeting.{Then_ok, then_ok, Asked, asked, same_ok}
use Rattle.sizes_meet_rules.proofs.Reading.{Extends}
use Rattle.sizes_meet_rules.proofs.Replacing.{hole_as}
use Rattle.sizes_meet_rules.proofs.Settling.{Is_settled, Any_variable}

-- what is found where it is matched, behind data
abbrev pub named_found : ℕ → Bool → Given → Size → List Given → Size → Answer Found
named_found lo regular g own gs (Fun k p r) = then_do (found_behind lo g gs (Fun k p r)) (λ before. meet (here lo gs) (function_way regular) g.node (opened_by lo gs g nothing_found k none_opened) p none_opened own (made_at (here lo gs) before))
named_found lo regular g own gs t = Ok nothing_found

pub same_named : (lo : ℕ) (regular : Bool) (g : Given) (s o own : Size) (gs : List Given) (t : Size) → named_found lo regular (record { node = g.node; value = g.value; named = g.named; size = s; own = o; term = g.term; width = g.width; waits = g.waits }) own gs t ≡ named_found lo regular g own gs t
same_named lo regular g s o own gs (Fun k p r) = refl
same_named lo regular g s o own gs (Hole v) = refl
same_named lo regular g s o own gs (Open m v u) = refl
same_named lo regular g s o own gs (Level d t) = refl
same_named lo regular g s o own gs (Built h ts) = refl

-- the sized type that is wanted of it, with what variables have taken by then
abbrev first_of : Size → Size
first_of (Fun k p r) = p
first_of t = t

abbrev pub named_size : ℕ → (Variable → Ty) → Size → Answer Found → Size
named_size n types t (Ok σ) = as_function (with_types (λ v. σ.type n v (types v)) (first_of t))
named_size n types t (Err r) = Fun 0 (Built head.Tuple no_size) (Built head.Tuple no_size)

pub named_is_function : (n : ℕ) (types : Variable → Ty) (t : Size) (y : Answer Found) → is_function (named_size n types t y) ≡ true
named_is_function n types t (Ok σ) = function_there (with_types (λ v. σ.type n v (types v)) (first_of t))
named_is_function n types t (Err r) = refl

-- it may be used as that
pub record Used_as (P : Free → Type 0) (Vars : Variable → Type 0) (own size : Size) : Type 0 where
  pub suits : Suits own size
  pub says : Says P Vars size
  pub typed : erased size ≡ erased own

no_frames : Frames
no_frames j i = Const 0

module _ (n : ℕ) (types : Variable → Ty) (P : Free → Type 0) (settled : (d : Free) → P d → is_slot d ≡ false) (Vars : Variable → Type 0) (K : Kinds) (sub : Sub) (Went : Type 0) (st : State) (lo : ℕ) (q : Variable → Bool) (regular : Bool) where
  module _ (g : Given) (gs : List Given) (V : Named_given g) (into : Used_as P Vars V.own g.size → Went) (says : Name_says P Vars 0 V.own) (typed : erased V.own ≡ sub g.node) (a c : Ty) (of_type : sub g.node ≡ fun_ty a c) (apart : (b : ℕ) → P (Unknown (here lo gs) b) → ⊥) (fn fm : ℕ) (two : fn ≡ fm → ⊥) (fresh : (d : Free) → P d → Free_of fn d × Free_of fm d) where
    module _ (k : ℕ) (p r : Size) (size_is : g.size ≡ named_size n types (Fun k p r) (named_found lo regular g V.own gs (Fun k (instance n types p) (instance n types r)))) (before : Found) (d : Done Found) (o : One_wide n types P settled Vars K sub Went st st lo q regular (g ∷ gs) (Fun k p r)) (arrows : Has_arrows gs (instance n types r)) (taking : Taking n types P settled Vars before) (slots : Slots P settled before)
        (taken : (v : Variable) → q v ≡ true → Taken_at n types P settled Vars before v) (behind : found_behind lo g gs (Fun k (instance n types p) (instance n types r)) ≡ Ok before) (e : functions_met regular (given_wants lo (g ∷ gs) none_opened (Fun k (instance n types p) (instance n types r)) nothing_found) before st ≡ Ok d) where
      abbrev L : Function_wanted n types P settled Vars K sub Went st st lo q regular p (sub g.node)
      L = o.0

      abbrev ψ : Opened
      ψ = opened_by lo gs g nothing_found k none_opened

      abbrev rest : Found → Step Found
      rest found = functions_met regular (given_wants lo gs ψ (instance n types r) (found_after lo gs g nothing_found k)) found

      abbrev matched : Answer Found
      matched = meet (here lo gs) (function_way regular) g.node ψ (instance n types p) none_opened V.own (made_at (here lo gs) before)

      now : and_then (ask matched) rest st ≡ Ok d
      now = sym (function_step lo regular gs ψ (instance n types p) (argument_by g.waits g) (given_wants lo gs ψ (instance n types r) (found_after lo gs g nothing_found k)) before st ∙ ap (λ x. and_then (one_function lo regular gs ψ (instance n types p) (argument_by x g) before) rest st) V.waits
          ∙ ap (λ b. and_then (cond b (ask matched) (give before)) rest st) V.own_fun) ∙ e

      x1 : Then_ok (ask matched st) (λ y. rest y.result y.state) d
      x1 = then_ok (ask matched st) now

      a1 : Asked matched st x1.first
      a1 = asked matched st x1.first x1.done

      C : Chosen n types P settled Vars K (made_at (here lo gs) before) x1.first.result p V.own 0 no_frames
      C = chosen_met n types P settled Vars K q regular (here lo gs) g.node apart fn fm two fresh p false ψ none_opened 0 no_frames V.own (made_at (here lo gs) before) x1.first.result L.wanted L.inferred L.kinds says (typed ∙ sym L.typed) taking slots taken
          (λ j m l. absurd (omega (arith, l))) (λ j m l. absurd (omega (arith, l))) (λ z. absurd (let y : true ≡ false = sym L.arrow ∙ z in cc)) a1.answer

      last : record { result = x1.first.result; state = x1.first.state } ≡ d
      last = same_ok (sym (no_function_met lo regular gs ψ (instance n types r) (found_after lo gs g nothing_found k) arrows (given_data P Vars K sub lo gs o.1) x1.first.result x1.first.state) ∙ x1.rest)

      found_is : x1.first.result ≡ d.result
      found_is = ap (λ (y : Done Found). y.result) last

      is_chosen : g.size ≡ C.size
      is_chosen = size_is ∙ ap (named_size n types (Fun k p r)) (ap (λ y. then_do y (λ found. meet (here lo gs) (function_way regular) g.node ψ (instance n types p) none_opened V.own (made_at (here lo gs) found))) behind ∙ a1.answer)
          ∙ ap as_function (C.is (λ v. x1.first.result.type n v (types v)) (λ v h. refl)) ∙ same_function C.size a c C.formed (C.typed ∙ typed ∙ of_type)

      used : Used_as P Vars V.own g.size
      used = subst (Used_as P Vars V.own) (sym is_chosen) (record {
        suits = subst (λ y. Suits y C.size) (not_filled P no_frames V.own says.sizes) (C.suits no_frames (λ j m l. absurd (omega (arith, l)))).0;
        says = record { sizes = alone_scoped P C.size 0 C.alone; variables = C.variables; formed = C.formed };
        typed = C.typed;
      })

      by_slot : (i : ℕ) → (x1.first.result.size i ≡ Slot i) ⊎ P (x1.first.result.size i) → (before.size i ≡ Slot i) ⊎ P (before.size i) → (x1.first.result.size i ≡ before.size i) ⊎ P (x1.first.result.size i)
      by_slot i (inr h) w = inr h
      by_slot i (inl z) (inl w) = inl (z ∙ sym w)
      by_slot i (inl z) (inr h) = inl (C.extends i (before.size i) (settled (before.size i) h) refl)

      function_taken : (Θ : Variable → Size) → Agrees n types P settled Vars Θ d.result → Function_taken (with_types Θ p) g.size
      function_taken Θ agrees =
          let is : with_types Θ p ≡ C.size = C.is Θ (subst (Agrees n types P settled Vars Θ) (sym found_is) agrees) in
          record {
            same = is ∙ sym is_chosen;
            is_fun = V.is_fun;
            alone = subst (Each (Alone Is_settled) 0) (sym is) (each_alone P Is_settled settled C.size 0 C.alone);
            closed = subst (Each_hole Any_variable) (sym is) (hole_as Vars Any_variable (λ v y. tt) C.size C.variables);
          }

      named_met : Lambda_met n types P settled Vars K sub Went st st lo q regular (g ∷ gs) (Fun k p r) before d
      unfolding with_types lambda_holes
      named_met = record {
        went = into used;
        state = ap (λ (y : Done Found). y.state) (sym last) ∙ a1.state;
        taking = subst (Taking n types P settled Vars) found_is C.taking;
        stays = subst (Stays n types P settled Vars before) found_is C.stays;
        extends = subst (Extends before) found_is C.extends;
        slots = λ i. subst (λ (y : Found). (y.size i ≡ before.size i) ⊎ P (y.size i)) found_is (by_slot i (C.slots i) (slots i));
        later = subst (λ (y : Found). before.next ≤ y.next) found_is C.later;
        makers = λ i l. ap (λ (y : Found). y.maker i) (sym found_is) ∙ ap (λ (f : ℕ → ℕ). f i) C.maker ∙ kept_maker lo (here lo gs) before i l;
        taken = λ v y. subst (λ (z : Found). Taken_at n types P settled Vars z v) found_is (C.here v (of_function n types P settled Vars K sub Went st st lo q regular p r L.arrow o.2 v y));
        is = λ Θ agrees. (inr (function_taken Θ agrees), data_kinds P Vars K sub gs (with_types Θ r) o.1);
      }

    pub named_ran : (t : Size) (before : Found) (d : Done Found) → g.size ≡ named_size n types t (named_found lo regular g V.own gs (instance n types t)) → One_wide n types P settled Vars K sub Went st st lo q regular (g ∷ gs) t → Has_arrows (g ∷ gs) (instance n types t) → Taking n types P settled Vars before → Slots P settled before
        → ((v : Variable) → q v ≡ true → Taken_at n types P settled Vars before v) → data_met (early_wants lo (g ∷ gs) none_opened (instance n types t) nothing_found) (last_found lo (g ∷ gs) (instance n types t) nothing_found) ≡ Ok before
        → functions_met regular (given_wants lo (g ∷ gs) none_opened (instance n types t) nothing_found) before st ≡ Ok d → Lambda_met n types P settled Vars K sub Went st st lo q regular (g ∷ gs) t before d
    unfolding instance
    named_ran (Fun k p r) before d size_is o arrows taking slots taken met e = named_met k p r size_is before d o arrows.1 taking slots taken (wide_behind n types P settled Vars K sub Went st st lo q regular g gs k p r before V.is_fun met) e
    named_ran (Hole v) before d size_is o arrows taking slots taken met e = absurd o
    named_ran (Open m v u) before d size_is o arrows taking slots taken met e = absurd o
    named_ran (Level x t) before d size_is o arrows taking slots taken met e = absurd o
    named_ran (Built h ts) before d size_is o arrows taking slots taken met e = absurd o
