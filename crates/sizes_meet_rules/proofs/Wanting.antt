-- A lambda that is wanted of a type whose parameters have no arrays is sized as by itself, and then matched.
use Rattle.std.proofs.Common.{◌≡◌, ℕ, ◌+◌, List, [], ◌∷◌, ◌++◌, true, cond, Option, Some, None, Ok, refl, sym, ap, ◌∙◌, subst}
use Rattle.fut_scalar.specs.declared.place.BindId.{BindId}
use Rattle.fut_flat.specs.declared.prim.Ref.{Ref}
use Rattle.fut_flat.specs.Numbers.{pattern_numbers, all_pattern_numbers, numbers}
use Rattle.fut_flat.specs.Terms.{Patterns, no_pattern, pattern_and}
use Rattle.fut_flat.specs.Erased.{FlatTerm, FlatPattern}
use Rattle.fut_types.specs.declared.Kind.{Kind}
use Rattle.fut_types.specs.Types.{Sub, Kinds}
use Rattle.fut_typing.specs.Names.{Names}
use Rattle.sized_types.specs.Sizes.{Dim, Size, Hole, Open, Level, Built, Fun, replaced}
use Rattle.fut_sizes.specs.Agreeing.{Answer, then_do}
use Rattle.fut_sizes.specs.Applications.{Want, Met}
use Rattle.fut_sizes.specs.Functions.{Taking, function_size, unchosen}
use Rattle.fut_sizes.specs.Matching.{Found, nothing_found, none_opened, inside, dim_in, in_opened, data_way, function_way, meet}
use Rattle.fut_sizes.specs.Scopes.{Scope, bound_by}
use Rattle.fut_sizes.specs.Sizing.{Entered, wanted_size, open_frame, parameter_frame, all_part_names, leaving_function, in_pattern, own_sizes, entered, enter, enter_wanted, all_entered, none_left, matched, parameters_noted, finished, sized}
use Rattle.fut_sizes.specs.Steps.{State, Done, Step, ask, and_then, note}
use Rattle.sizes_meet_rules.specs.Plain.{Flat_type, Formed_type, Plain_pattern, Plain_patterns}
use Rattle.sizes_meet_rules.proofs.Entering.{param_says, written_no_slot}
use Rattle.sizes_meet_rules.proofs.Flat_types.{flat, flat_replaced, flat_is, flat_met, flat_of_type, flat_closed}
use Rattle.sizes_meet_rules.proofs.Meeting.{then_ok, asked, same_ok, As_alone, Flat_wanted}
use Rattle.sizes_meet_rules.proofs.Settling.{Is_settled, noted}

pub then_is : {A B : Type 0} (x : Answer A) (f : A → Answer B) {a : A} {b : B} → x ≡ Ok a → f a ≡ Ok b → then_do x f ≡ Ok b
then_is x f e z = ap (λ y. then_do y f) e ∙ z

module _ (N : Names) (types : Sub) (home : ℕ → ℕ) (K : Kinds) (places : Kind) where
  wanted_replaced : (g : ℕ → Dim → Dim) (ps : Patterns Ref BindId) (q : ℕ) (t : Size) (j : ℕ) → Flat_wanted types ps q t → Flat_wanted types ps q (replaced g j t)
  unfolding replaced
  wanted_replaced g no_pattern q t j h = tt
  wanted_replaced g (pattern_and p ps) q (Fun k t r) j h = ((h.0.0, ap (replaced g _) h.0.1 ∙ flat_replaced g _ (types q)), wanted_replaced g ps (q + pattern_numbers p) r _ h.1)
  wanted_replaced g (pattern_and p ps) q (Hole v) j h = absurd h
  wanted_replaced g (pattern_and p ps) q (Open m v u) j h = absurd h
  wanted_replaced g (pattern_and p ps) q (Level d t) j h = absurd h
  wanted_replaced g (pattern_and p ps) q (Built k ts) j h = absurd h

  flat_own : (q : ℕ) → Flat_type (types q) → own_sizes N types q ≡ flat (types q)
  flat_own q f = flat_of_type (λ i. _) 0 (types q) f

  -- what is written in a type without arrays changes nothing
  flat_parameter : (p : FlatPattern) (q : ℕ) → Plain_pattern types home K places p q → Formed_type (types q) → Flat_type (types q) → in_pattern N types p (flat (types q)) ≡ flat (types q)
  flat_parameter p q h k f =
      let o = param_says N types home K places Is_settled (λ c. refl) p q h k (λ i. refl) (written_no_slot N types home K places p) in
      ap (in_pattern N types p) (sym (flat_own q f)) ∙ flat_is (in_pattern N types p (own_sizes N types q)) o.formed (subst Flat_type (sym o.typed) f) ∙ ap flat o.typed

  abbrev with_wanted : Option Size → Found → Entered → Entered
  with_wanted w σ E = record { scope = E.scope; parameters = E.parameters; wanted = w; found = σ }

  module _ (lo : ℕ) where
    enter_is : (p : FlatPattern) (q k : ℕ) (t r : Size) (E : Entered) → Plain_pattern types home K places p q → Formed_type (types q) → Flat_type (types q) → t ≡ flat (types q) → enter N types lo p q (Some (Fun k t r)) E ≡ entered N types p q (flat (types q)) (Some (in_opened (inside (parameter_frame p q k) none_opened) r)) E.found E
    enter_is p q k t r E h f g e =
        ap (λ x. enter N types lo p q (Some (Fun k x r)) E) e
        ∙ ap (λ b. cond b (entered N types p q (own_sizes N types q) (Some (in_opened (inside (open_frame p q k) none_opened) r)) E.found E) (enter_wanted N types lo p q (in_opened (inside (parameter_frame p q k) none_opened) (flat (types q))) (in_opened (inside (parameter_frame p q k) none_opened) r) E)) (flat_closed (types q))
        ∙ ap (λ x. enter_wanted N types lo p q x (in_opened (inside (parameter_frame p q k) none_opened) r) E) (flat_replaced (dim_in (inside (parameter_frame p q k) none_opened)) 0 (types q))
        ∙ ap (λ y. then_do y (λ found. entered N types p q (flat (types q)) (Some (in_opened (inside (parameter_frame p q k) none_opened) r)) found E)) (ap (λ x. meet lo data_way lo none_opened x none_opened (flat (types q)) E.found) (flat_parameter p q h f g) ∙ flat_met lo lo data_way none_opened none_opened (types q) E.found)

    pub all_wanted : (ps : Patterns Ref BindId) (q : ℕ) (ws : Size) (scope : Scope) (ts : List Taking) (σ υ : Found) (E : Entered) → Plain_patterns types home K places ps q → Flat_wanted types ps q ws → all_entered N types lo ps q (record { scope = scope; parameters = ts; wanted = Some ws; found = σ }) ≡ Ok E
        → (all_entered N types lo ps q (record { scope = scope; parameters = ts; wanted = None; found = υ }) ≡ Ok (with_wanted None υ E)) × (E.found ≡ σ)
    all_wanted no_pattern q ws scope ts σ υ E h w e = (ap (λ (x : Entered). Ok (with_wanted None υ x)) (same_ok e), ap (λ (x : Entered). x.found) (sym (same_ok e)))
    all_wanted (pattern_and p ps) q (Fun k t r) scope ts σ υ E h w e =
        let before : Entered = record { scope = scope; parameters = ts; wanted = Some (Fun k t r); found = σ } in
        let x = then_ok (enter N types lo p q (Some (Fun k t r)) before) e in
        let y = then_ok (bound_by N [] q p (in_pattern N types p (flat (types q))) scope) (sym (enter_is p q k t r before h.0 h.1 w.0.0 w.0.1) ∙ x.done) in
        let next : List Taking = ts ++ record { pattern = p; node = q; size = in_pattern N types p (flat (types q)) } ∷ [] in
        let wanted : Size = in_opened (inside (parameter_frame p q k) none_opened) r in
        let R = all_wanted ps (q + pattern_numbers p) wanted y.first.scope next σ υ E h.3 (wanted_replaced (dim_in (inside (parameter_frame p q k) none_opened)) ps (q + pattern_numbers p) r 0 w.1) (ap (all_entered N types lo ps (q + pattern_numbers p)) (same_ok y.rest) ∙ x.rest) in
        let own : enter N types lo p q None (record { scope = scope; parameters = ts; wanted = None; found = υ }) ≡ Ok (record { scope = y.first.scope; parameters = next; wanted = None; found = υ }) =
        ap (λ z. entered N types p q z None υ (record { scope = scope; parameters = ts; wanted = None; found = υ })) (flat_own q w.0.0) ∙ then_is (bound_by N [] q p (in_pattern N types p (flat (types q))) scope) _ y.done refl in
        (then_is (enter N types lo p q None (record { scope = scope; parameters = ts; wanted = None; found = υ })) _ own R.0, R.1)
    all_wanted (pattern_and p ps) q (Hole v) scope ts σ υ E h w e = absurd w
    all_wanted (pattern_and p ps) q (Open m v u) scope ts σ υ E h w e = absurd w
    all_wanted (pattern_and p ps) q (Level d t) scope ts σ υ E h w e = absurd w
    all_wanted (pattern_and p ps) q (Built k us) scope ts σ υ E h w e = absurd w

  -- ---- the steps of a lambda

  abbrev pub lambda_goes : List ℕ → Patterns Ref BindId → FlatTerm → ℕ → Option Want → Entered → Step Met
  lambda_goes bs ps e lo w E = and_then (ask (none_left N types (1 + lo + all_pattern_numbers ps) (unchosen bs E.parameters))) (λ z. and_then (parameters_noted N types E.parameters) (λ y.
      and_then (sized N types e [] (1 + lo + all_pattern_numbers ps) E.scope) (λ part. and_then (finished N types (1 + lo + all_pattern_numbers ps) part) (λ body. and_then (ask (leaving_function lo (all_part_names ps) E.parameters body)) (λ r.
      and_then (note lo (function_size bs lo (1 + lo + all_pattern_numbers ps + numbers e) E.parameters r)) (λ own. ask (matched N types lo w own E.found)))))))

  abbrev pub lambda_waits : List ℕ → Patterns Ref BindId → FlatTerm → ℕ → Scope → Option Want → Found → Step Met
  lambda_waits bs ps e lo scope w σ = and_then (ask (all_entered N types lo ps (1 + lo) (record { scope = scope; parameters = []; wanted = wanted_size w; found = σ }))) (λ E. lambda_goes bs ps e lo w E)

  module _ (bs : List ℕ) (ps : Patterns Ref BindId) (e : FlatTerm) (lo : ℕ) where
    pub record Went (w : Want) (E : Entered) (st : State) (m : Done Met) : Type 0 where
      pub alone : Done Met
      pub ran : lambda_goes bs ps e lo None (with_wanted None nothing_found E) st ≡ Ok alone
      pub size : alone.result.size ≡ m.result.size
      pub state : alone.state ≡ m.state
      pub met : meet w.node (function_way w.is_regular) lo none_opened w.size none_opened m.result.size E.found ≡ Ok m.result.found

    -- what stands at the end, once the body is sized
    abbrev leaves_with : Option Want → Entered → Size → Step Met
    leaves_with w E body = and_then (ask (leaving_function lo (all_part_names ps) E.parameters body)) (λ r. and_then (note lo (function_size bs lo (1 + lo + all_pattern_numbers ps + numbers e) E.parameters r)) (λ own. ask (matched N types lo w own E.found)))

    record Left (w : Want) (E : Entered) (body : Size) (st : State) (m : Done Met) : Type 0 where
      alone : Done Met
      ran : leaves_with None (with_wanted None nothing_found E) body st ≡ Ok alone
      size : alone.result.size ≡ m.result.size
      state : alone.state ≡ m.state
      met : meet w.node (function_way w.is_regular) lo none_opened w.size none_opened m.result.size E.found ≡ Ok m.result.found

    left_with : (w : Want) (E : Entered) (body : Size) (st : State) (m : Done Met) → leaves_with (Some w) E body st ≡ Ok m → Left w E body st m
    unfolding matched
    left_with w E body st m q =
        let x6 = then_ok (ask (leaving_function lo (all_part_names ps) E.parameters body) st) q in
        let own : Size = function_size bs lo (1 + lo + all_pattern_numbers ps + numbers e) E.parameters x6.first.result in
        let x8 = asked (matched N types lo (Some w) own E.found) (noted lo own x6.first.state).state m x6.rest in
        let x9 = then_ok (meet w.node (function_way w.is_regular) lo none_opened w.size none_opened own E.found) x8.answer in
        let same : own ≡ m.result.size = ap (λ (y : Met). y.size) (same_ok x9.rest) in
        record {
          alone = record { result = record { size = own; found = nothing_found; later = []; goes_on = true }; state = (noted lo own x6.first.state).state };
          ran = then_is (ask (leaving_function lo (all_part_names ps) E.parameters body) st) _ x6.done refl;
          size = same;
          state = sym x8.state;
          met = ap (λ y. meet w.node (function_way w.is_regular) lo none_opened w.size none_opened y E.found) (sym same) ∙ x9.done ∙ ap (λ (y : Met). Ok y.found) (same_ok x9.rest);
        }

    pub went : (w : Want) (E : Entered) (st : State) (m : Done Met) → lambda_goes bs ps e lo (Some w) E st ≡ Ok m → Went w E st m
    went w E st m q =
        let x2 = then_ok (ask (none_left N types (1 + lo + all_pattern_numbers ps) (unchosen bs E.parameters)) st) q in
        let x3 = then_ok (parameters_noted N types E.parameters x2.first.state) x2.rest in
        let x4 = then_ok (sized N types e [] (1 + lo + all_pattern_numbers ps) E.scope x3.first.state) x3.rest in
        let x5 = then_ok (finished N types (1 + lo + all_pattern_numbers ps) x4.first.result x4.first.state) x4.rest in
        let L = left_with w E x5.first.result x5.first.state m x5.rest in
        record {
          alone = L.alone;
          ran = then_is (ask (none_left N types (1 + lo + all_pattern_numbers ps) (unchosen bs E.parameters)) st) _ x2.done
              (then_is (parameters_noted N types E.parameters x2.first.state) _ x3.done
              (then_is (sized N types e [] (1 + lo + all_pattern_numbers ps) E.scope x3.first.state) _ x4.done
              (then_is (finished N types (1 + lo + all_pattern_numbers ps) x4.first.result x4.first.state) _ x5.done L.ran)));
          size = L.size;
          state = L.state;
          met = L.met;
        }

    pub as_alone : (scope : Scope) (w : Want) (σ : Found) (before : State) (m : Done Met) → Plain_patterns types home K places ps (1 + lo) → Flat_wanted types ps (1 + lo) w.size → lambda_waits bs ps e lo scope (Some w) σ before ≡ Ok m → As_alone (lambda_waits bs ps e lo scope) lo w σ before m
    as_alone scope w σ before m h f q =
        let first : Entered = record { scope = scope; parameters = []; wanted = Some w.size; found = σ } in
        let alone : Entered = record { scope = scope; parameters = []; wanted = None; found = nothing_found } in
        let x1 = then_ok (ask (all_entered N types lo ps (1 + lo) first) before) q in
        let a1 = asked (all_entered N types lo ps (1 + lo) first) before x1.first x1.done in
        let R = all_wanted lo ps (1 + lo) w.size scope [] σ nothing_found x1.first.result h f a1.answer in
        let W = went w x1.first.result before m (ap (lambda_goes bs ps e lo (Some w) x1.first.result) (sym a1.state) ∙ x1.rest) in
        record {
          alone = W.alone;
          ran = then_is (ask (all_entered N types lo ps (1 + lo) alone) before) _ (ap (λ y. ask y before) R.0) W.ran;
          size = W.size;
          state = W.state;
          met = ap (λ (υ : Found). meet w.node (function_way w.is_regular) lo none_opened w.size none_opened m.result.size υ) (sym R.1) ∙ W.met;
        }
