-- Loops: what is counted or gone over is sized once, the body once a turn; the last turn's sizing meets the rules.
use Rattle.std.proofs.Common.{◌≡◌, ◌⊎◌, ℕ, suc, ◌+◌, ◌<◌, ◌≤◌, List, [], ◌∷◌, ◌++◌, Bool, true, false, cond, Some, Ok, refl, sym, ap, ◌∙◌, subst, arith, inl, inr}
use Rattle.fut_scalar.specs.declared.place.BindId.{BindId}
use Rattle.fut_flat.specs.Numbers.{pattern_numbers, numbers, turn_numbers}
use Rattle.fut_flat.specs.Terms.{Bound_pattern, Counted, Over, While}
use Rattle.fut_flat.specs.Erased.{FlatTerm, FlatTurns, FlatPattern}
use Rattle.fut_scalar.specs.declared.scalar.ScalarType.{ScalarType}
use Rattle.fut_types.specs.declared.Head.TheVariants as head
use Rattle.fut_types.specs.declared.Kind.{Kind}
use Rattle.fut_types.specs.Types.{Var, Made, none, more, Sub, Kinds, HasKind, rank, level, scalar_ty}
use Rattle.fut_typing.specs.Names.{Names}
use Rattle.fut_typing.specs.Patterns.{Pattern_typed, with_pattern as typed_with}
use Rattle.fut_typing.specs.Primitives.{array_ty}
use Rattle.fut_typing.specs.Scopes.{Scope as TypeScope, the_one, with_sizes as typed_with_sizes}
use Rattle.fut_typing.specs.Typing.{with_turns, Typed, Turns_typed}
use Rattle.sized_types.specs.Sizes.{Free, Name, Variable, Inferred, Written, Size, Hole, Open, Level, Built, Fun, no_size, size_and, erased, all_erased, levels, renamed}
use Rattle.sized_types.specs.Standing.{stands}
use Rattle.fut_sizes.specs.Agreeing.{Answer, is_among, then_do}
use Rattle.fut_sizes.specs.Applications.{Part, whole}
use Rattle.fut_sizes.specs.Functions.{is_slot}
use Rattle.fut_sizes.specs.Matching.{Found, nothing_found, counted}
use Rattle.fut_sizes.specs.Rules.{Each_hole, Each_holes, Away, taken_by, Pattern_takes, Loops, counter, Sized, Turns_sized}
use Rattle.fut_sizes.specs.Scopes.{Scope, with_name, names, Taken, as_taken, bound_at, bound_by}
use Rattle.fut_sizes.specs.Scoping.{Context, with_name as with_known_name, with_pattern, with_size_names}
use Rattle.fut_sizes.specs.Sizing.{finished, bind_ids, row_of, lacking, differing, turns_from, pattern_noted, sized, turns_sized, condition_sized}
use Rattle.fut_sizes.specs.Steps.{State, Done, Step, give, ask, and_then, at_node}
use Rattle.fut_sizes.specs.Suiting.{Each, Each_all, Scoped, Data}
use Rattle.sizes_meet_rules.specs.Known.{Formed, All_formed, Says, Is_const, Known_names, Judged, Elsewhere}
use Rattle.sizes_meet_rules.specs.Plain.{Is_scalar, Plain_pattern, Plain_sizes, Plain_term, Plain_turns}
use Rattle.sizes_meet_rules.proofs.Binding.{Behind, value_behind, behind_elsewhere, behind_judged}
use Rattle.sizes_meet_rules.proofs.Bound.{width, Bound_in, scope_behind, Binds, pattern_plain, sizes_home, bound_elsewhere, bound_here, binds}
use Rattle.sizes_meet_rules.proofs.Taking_sizes.{what}
use Rattle.sizes_meet_rules.proofs.Forming.{data_of}
use Rattle.sizes_meet_rules.proofs.Showing.{numbers_some, Law_of, alone, bound_ran}
use Rattle.sizes_meet_rules.proofs.Meeting.{then_ok, asked, same_ok, at_itself, at_another, With_met, met_wider, met_settled, met_outside, says_more, says_settled, In_nodes, elsewhere_narrower, inside_wider, away_of, Meets}
use Rattle.sizes_meet_rules.proofs.Naming.{Named_by, named_no_slot, No_name_of, no_name_by_home, known_with, judged_all, judged_name}
use Rattle.sizes_meet_rules.proofs.Operating.{Level_of, level_of}
use Rattle.sizes_meet_rules.proofs.Replacing.{hole_as, renamed_as}
use Rattle.sizes_meet_rules.proofs.Settling.{Is_settled, Any_variable, noted}
use Rattle.sizes_meet_rules.proofs.Taking.{pattern_some, head_same, parts_same, bound_scope, Nodes, nodes_as, Pattern_ran, taken_is, Noted_pattern, noted_is, takes_it}
use Rattle.sizes_meet_rules.proofs.Turning.{missing_most, erased_lacking, formed_lacking, data_lacking, variables_lacking, sizes_lacking, Turned, turned}

-- a sized type of a scalar
pub scalar_is : (t : Size) (c : ScalarType) → Formed t → erased t ≡ scalar_ty c → t ≡ Built (head.Scalar c) no_size
unfolding Formed erased all_erased
scalar_is (Hole (Inferred v)) c f e = absurd (let z : Var v ≡ Made (head.Scalar c) none = e in cc)
scalar_is (Hole (Written b k)) c f e = absurd (let z : head.Rigid b k ≡ head.Scalar c = head_same e in cc)
scalar_is (Open n v u) c f e = absurd f
scalar_is (Level d t) c f e = absurd (let z : head.Array ≡ head.Scalar c = head_same e in cc)
scalar_is (Built h no_size) c f e = ap (λ g. Built g no_size) (head_same e)
scalar_is (Built h (size_and t ts)) c f e = absurd (let z : more (erased t) (all_erased ts) ≡ none = parts_same e in cc)
scalar_is (Fun k p r) c f e = absurd (let z : head.Fun ≡ head.Scalar c = head_same e in cc)

pub scalar_says : (In : Free → Type 0) (Vars : Variable → Type 0) (c : ScalarType) → Says In Vars (Built (head.Scalar c) no_size)
unfolding Each Each_all Each_hole Each_holes Formed All_formed
scalar_says In Vars c = record { sizes = tt; variables = tt; formed = (tt, tt) }

-- from which node on turns may differ, where a condition is sized in each
abbrev pub changing : FlatTurns → ℕ → ℕ → ℕ
changing (While c) from at = from
changing turns from at = at

changing_between : (turns : FlatTurns) (from at : ℕ) → from ≤ at → (from ≤ changing turns from at) × (changing turns from at ≤ at)
changing_between (While c) from at l = (omega arith, l)
changing_between (Counted i m) from at l = (l, omega arith)
changing_between (Over p e) from at l = (l, omega arith)

module _ (N : Names) (types : Sub) (home : ℕ → ℕ) (K : Kinds) (places : Kind) (data_places : 1 ≤ level places) where
  abbrev pub Law_turns : FlatTurns → Type 1
  Law_turns (Counted i m) = Law_of N types home K places m
  Law_turns (Over p e) = Law_of N types home K places e
  Law_turns (While c) = Law_of N types home K places c

  -- a term by itself
  record Alone_ran (e : FlatTerm) (lo : ℕ) (scope : Scope) (st : State) : Type 0 where
    part : Done Part
    last : Done Size
    part_is : sized N types e [] lo scope st ≡ Ok part
    last_is : finished N types lo part.result part.state ≡ Ok last

  -- an array and the pattern of its elements
  record Array_ran (p : FlatPattern) (e : FlatTerm) (from : ℕ) (scope : Scope) (st : State) (each : Done (Scope → Answer Scope)) : Type 0 where
    array : Alone_ran e (from + pattern_numbers p) scope st
    pattern : Done (Unit {0})
    pattern_is : pattern_noted N types p from (row_of N types array.last.result) array.last.state ≡ Ok pattern
    each_is : record { result = λ inner. then_do (bound_by N [] (from + pattern_numbers p) p (row_of N types array.last.result) inner) (λ k. Ok k.scope); state = pattern.state } ≡ each

  -- ---- one turn behind its pattern

  module _ (turns : FlatTurns) (body : FlatTerm) (from at : ℕ) where
    pub record Inner_ran (each : Scope → Answer Scope) (outer : Scope) (st : State) (u : Done Size) : Type 0 where
      pub inner : Scope
      pub condition : Done (Unit {0})
      pub part : Done Part
      pub inner_is : each outer ≡ Ok inner
      pub condition_is : condition_sized N types turns from inner st ≡ Ok condition
      pub part_is : sized N types body [] at inner condition.state ≡ Ok part
      pub body_is : finished N types at part.result part.state ≡ Ok u

    abbrev inner_rest : List BindId → Found → Scope → Step Size
    inner_rest sizes σ inner = and_then (condition_sized N types turns from inner) (λ z. and_then (sized N types body [] at inner) (λ given. and_then (finished N types at given) (λ u. give (renamed (as_taken sizes σ) u))))

    abbrev inner_turn : List BindId → (Scope → Answer Scope) → Scope → Found → Step Size
    inner_turn sizes each outer σ = and_then (ask (each outer)) (λ inner. inner_rest sizes σ inner)

    pub record Inner_gives (sizes : List BindId) (each : Scope → Answer Scope) (outer : Scope) (σ : Found) (st : State) (r : Done Size) : Type 0 where
      pub last : Done Size
      pub ran : Inner_ran each outer st last
      pub gives : r ≡ record { result = renamed (as_taken sizes σ) last.result; state = last.state }

    inner_gives : (sizes : List BindId) (each : Scope → Answer Scope) (outer : Scope) (σ : Found) (st : State) (r : Done Size) → inner_turn sizes each outer σ st ≡ Ok r → Inner_gives sizes each outer σ st r
    inner_gives sizes each outer σ st r q =
        let x1 = then_ok (ask (each outer) st) q in
        let a1 = asked (each outer) st x1.first x1.done in
        let x2 = then_ok (condition_sized N types turns from x1.first.result x1.first.state) x1.rest in
        let x3 = then_ok (sized N types body [] at x1.first.result x2.first.state) x2.rest in
        let x4 = then_ok (finished N types at x3.first.result x3.first.state) x3.rest in
        record {
          last = x4.first;
          ran = record { inner = x1.first.result; condition = x2.first; part = x3.first; inner_is = a1.answer; condition_is = ap (condition_sized N types turns from x1.first.result) (sym a1.state) ∙ x2.done; part_is = x3.done; body_is = x4.done };
          gives = sym (same_ok x4.rest);
        }

  -- ---- what is counted or gone over, and a turn behind its pattern, meet the rules

  module _ (In In1 : Free → Type 0) (Vars : Variable → Type 0) (scope scope1 : Scope) (wider : (d : Free) → In d → In1 d) (T T1 : TypeScope) (known : Known_names In Vars home scope K types T) (known1 : Known_names In1 Vars home scope1 K types T1)
      (body : FlatTerm) (lb : Law_of N types home K places body) (from at hi : ℕ) (m4 : at + numbers body ≡ hi) (E : Elsewhere N types home from hi In) (E1 : Elsewhere N types home from hi In1) (before : State) where
    body_there : at < hi
    body_there = let n = numbers_some body in omega (arith, n, m4)

    pub record Turn_meets (turns : FlatTurns) (each st : State) (u : Done Size) : Type 0 where
      pub first_kept : (n : ℕ) → (n < from) ⊎ (at ≤ n) → each.nodes n ≡ before.nodes n
      pub first_dropped : (n : ℕ) → (n < from) ⊎ (at ≤ n) → each.dropped n ≡ before.dropped n
      pub typed : erased u.result ≡ types at
      pub settled : Each (Scoped Is_settled) 0 u.result
      pub here : u.state.nodes at ≡ u.result
      pub kept : (n : ℕ) → (n < changing turns from at) ⊎ (hi ≤ n) → u.state.nodes n ≡ st.nodes n
      pub dropped : (n : ℕ) → (n < changing turns from at) ⊎ (hi ≤ n) → u.state.dropped n ≡ st.dropped n
      pub rules : (s : ℕ → Size) (G G1 : Context) → Judged In Vars scope G → Judged In1 Vars scope1 G1 → ((n : ℕ) → from ≤ n → n < changing turns from at → st.nodes n ≡ each.nodes n) → ((n : ℕ) → from ≤ n → n < hi → s n ≡ u.state.nodes n)
          → Turns_sized N types s home turns from G G1 × Sized N types s home body at (counter N types s home turns from G1)

    of_body : (In2 : Free → Type 0) (inner : Scope) (T2 : TypeScope) → Known_names In2 Vars home inner K types T2 → Elsewhere N types home at hi In2 → Plain_term types home K places N body at → Typed N places body at T2 K types → (st : State) (part : Done Part) (u : Done Size) → sized N types body [] at inner st ≡ Ok part → finished N types at part.result part.state ≡ Ok u → Meets N types home In2 Vars inner body at hi st u.result u.state
    of_body In2 inner T2 k E2 pl ty st part u a b = subst (λ n. Meets N types home In2 Vars inner body at n st u.result u.state) m4 (alone N types home K places body lb In2 Vars inner T2 at st part u pl ty k (subst (λ n. Elsewhere N types home at n In2) (sym m4) E2) a b)

    -- while
    while_meets : (c : FlatTerm) → from + numbers c ≡ at → Law_of N types home K places c → Plain_term types home K places N c from → Typed N places c from T1 K types → Plain_term types home K places N body at → Typed N places body at T1 K types
        → (each : Done (Scope → Answer Scope)) (st : State) (u : Done Size) → turns_sized N types (While c) from scope before ≡ Ok each → Inner_ran (While c) body from at each.result scope1 st u → Turn_meets (While c) each.state st u
    unfolding turns_sized condition_sized
    while_meets c m lc pc tc pb tb each st u q R = record {
      first_kept = λ n o. ap (λ (x : Done (Scope → Answer Scope)). x.state.nodes n) (sym (same_ok q));
      first_dropped = λ n o. ap (λ (x : Done (Scope → Answer Scope)). x.state.dropped n) (sym (same_ok q));
      typed = B.typed;
      settled = (says_settled (With_met In1 at hi) Vars u.result (met_settled N types home In1 at hi at hi (elsewhere_narrower N types home from hi at hi In1 between (omega arith) E1)) B.says).0;
      here = B.here;
      kept = λ n o. B.kept n (by_body n o) ∙ ap (λ (x : State). x.nodes n) after ∙ C.kept n (by_condition n o);
      dropped = λ n o. B.dropped n (by_body n o) ∙ ap (λ (x : State). x.dropped n) after ∙ C.dropped n (by_condition n o);
      rules = λ s G G1 J J1 same a. (
        C.rules s G1 J1 (λ n x y. let l = body_there in a n x (omega (arith, y, l)) ∙ B.kept n (inl y) ∙ ap (λ (x : State). x.nodes n) after),
        B.rules s G1 J1 (λ n x y. a n (omega (arith, x, between)) y),
      );
    }
      where
        between : from ≤ at
        between = omega (arith, m)

        inner : scope1 ≡ R.inner
        inner = same_ok (ap (λ (x : Done (Scope → Answer Scope)). x.result scope1) (same_ok q) ∙ R.inner_is)

        ran : (r : Alone_ran c from scope1 st) × (R.condition.state ≡ r.last.state)
        ran =
            let x1 = then_ok (sized N types c [] from scope1 st) (ap (λ w. condition_sized N types (While c) from w st) inner ∙ R.condition_is) in
            let x2 = then_ok (finished N types from x1.first.result x1.first.state) x1.rest in
            (record { part = x1.first; last = x2.first; part_is = x1.done; last_is = x2.done }, ap (λ (x : Done (Unit {0})). x.state) (sym (same_ok x2.rest)))

        after : R.condition.state ≡ ran.0.last.state
        after = ran.1

        C : Meets N types home In1 Vars scope1 c from at st ran.0.last.result ran.0.last.state
        C = subst (λ n. Meets N types home In1 Vars scope1 c from n st ran.0.last.result ran.0.last.state) m (alone N types home K places c lc In1 Vars scope1 T1 from st ran.0.part ran.0.last pc tc known1 (elsewhere_narrower N types home from hi from (from + numbers c) In1 (omega arith) (let l = body_there in omega (arith, m, l)) E1) ran.0.part_is ran.0.last_is)

        B : Meets N types home In1 Vars scope1 body at hi R.condition.state u.result u.state
        B = of_body In1 scope1 T1 known1 (elsewhere_narrower N types home from hi at hi In1 between (omega arith) E1) pb tb R.condition.state R.part u (ap (λ w. sized N types body [] at w R.condition.state) inner ∙ R.part_is) R.body_is

        by_body : (n : ℕ) → (n < from) ⊎ (hi ≤ n) → (n < at) ⊎ (hi ≤ n)
        by_body n (inl x) = inl (omega (arith, x, between))
        by_body n (inr x) = inr x

        by_condition : (n : ℕ) → (n < from) ⊎ (hi ≤ n) → (n < from) ⊎ (at ≤ n)
        by_condition n (inl x) = inl x
        by_condition n (inr x) = let l = body_there in inr (omega (arith, x, l))

    -- what is known in the body
    abbrev Counted_in : BindId → Size → Free → Type 0
    Counted_in i t d = In1 d ⊎ Named_by N (Bound_pattern i) t d

    abbrev Over_in : FlatPattern → Size → Free → Type 0
    Over_in p t d = Behind N types home K places In1 Vars scope1 p t from from (from + pattern_numbers p) at hi d

    -- a count
    counted_meets : (i : BindId) (m : FlatTerm) → from + (1 + numbers m) ≡ at → Law_of N types home K places m → home i.0 ≡ from → Is_scalar (types from) → Plain_term types home K places N m (1 + from) → Typed N places m (1 + from) T K types → types from ≡ types (1 + from) → Plain_term types home K places N body at → Typed N places body at (typed_with the_one (Bound_pattern i) from T1) K types
        → (each : Done (Scope → Answer Scope)) (st : State) (u : Done Size) → turns_sized N types (Counted i m) from scope before ≡ Ok each → Inner_ran (Counted i m) body from at each.result scope1 st u → Turn_meets (Counted i m) each.state st u
    unfolding turns_sized condition_sized
    counted_meets i m m3 lm at_home scalar pm tm t1 pb tb each st u q R = record {
      first_kept = λ n o. ap (λ (x : Done (Scope → Answer Scope)). x.state.nodes n) (sym ran.1) ∙ at_another from n ran.0.last.result ran.0.last.state.nodes (λ z. apart n o z) ∙ C.kept n (by_count n o);
      first_dropped = λ n o. ap (λ (x : Done (Scope → Answer Scope)). x.state.dropped n) (sym ran.1) ∙ C.dropped n (by_count n o);
      typed = B.typed;
      settled = (says_settled (With_met (Counted_in i ran.0.last.result) at hi) Vars u.result (met_settled N types home (Counted_in i ran.0.last.result) at hi at hi E2) B.says).0;
      here = B.here;
      kept = λ n o. B.kept n o ∙ ap (λ (x : State). x.nodes n) after;
      dropped = λ n o. B.dropped n o ∙ ap (λ (x : State). x.dropped n) after;
      rules = rules;
    }
      where
        ran : (r : Alone_ran m (1 + from) scope before) × (record { result = λ inner. Ok (with_name i.0 r.last.result inner); state = (noted from r.last.result r.last.state).state } ≡ each)
        ran =
            let x1 = then_ok (sized N types m [] (1 + from) scope before) q in
            let x2 = then_ok (finished N types (1 + from) x1.first.result x1.first.state) x1.rest in
            (record { part = x1.first; last = x2.first; part_is = x1.done; last_is = x2.done }, same_ok x2.rest)

        l : from < at
        l = omega (arith, m3)

        C : Meets N types home In Vars scope m (1 + from) at before ran.0.last.result ran.0.last.state
        C = subst (λ n. Meets N types home In Vars scope m (1 + from) n before ran.0.last.result ran.0.last.state) (let z : 1 + from + numbers m ≡ at = omega (arith, m3) in z)
            (alone N types home K places m lm In Vars scope T (1 + from) before ran.0.part ran.0.last pm tm known (elsewhere_narrower N types home from hi (1 + from) (1 + from + numbers m) In (omega arith) (let k = body_there in omega (arith, m3, k)) E) ran.0.part_is ran.0.last_is)

        apart : (n : ℕ) → (n < from) ⊎ (at ≤ n) → from ≡ n → ⊥
        apart n (inl x) z = omega (arith, x, z)
        apart n (inr x) z = omega (arith, x, z, m3)

        by_count : (n : ℕ) → (n < from) ⊎ (at ≤ n) → (n < 1 + from) ⊎ (at ≤ n)
        by_count n (inl x) = inl (omega (arith, x))
        by_count n (inr x) = inr x

        after : R.condition.state ≡ st
        after = ap (λ (x : Done (Unit {0})). x.state) (sym (same_ok R.condition_is))

        inner : bound_scope N (Bound_pattern i) ran.0.last.result scope1 ≡ R.inner
        inner = same_ok (ap (λ (x : Done (Scope → Answer Scope)). x.result scope1) ran.1 ∙ R.inner_is)

        says : Says (Counted_in i ran.0.last.result) Vars ran.0.last.result
        says = subst (λ w. Says (Counted_in i ran.0.last.result) Vars w) (sym (scalar_is ran.0.last.result scalar.0 C.says.formed (C.typed ∙ sym t1 ∙ scalar.1))) (scalar_says (Counted_in i ran.0.last.result) Vars scalar.0)

        known2 : Known_names (Counted_in i ran.0.last.result) Vars home (bound_scope N (Bound_pattern i) ran.0.last.result scope1) K types (typed_with the_one (Bound_pattern i) from T1)
        known2 = known_with N types K places (Counted_in i ran.0.last.result) Vars home In1 Vars (λ d x. inl x) (λ v x. x) (Bound_pattern i) from T1 at_home tt ran.0.last.result tt scope1 T1 known1 says (C.typed ∙ sym t1) (λ d n. inr n)

        E2 : Elsewhere N types home at hi (Counted_in i ran.0.last.result)
        E2 = record { no_slot = no_slot; outside = outside }
          where
            no_slot : (d : Free) → Counted_in i ran.0.last.result d → is_slot d ≡ false
            no_slot d (inl x) = E1.no_slot d x
            no_slot d (inr x) = named_no_slot types home K places N (Bound_pattern i) from at_home ran.0.last.result d x

            outside : (d : Free) → Counted_in i ran.0.last.result d → In_nodes N types home at hi d → ⊥
            outside d (inl x) o = E1.outside d x (inside_wider N types home at hi from hi (omega (arith, m3)) (omega arith) d o)
            outside d (inr x) o = let w = subst (λ z. In_nodes N types home at hi z) x.0 o in let v = w.0 in omega (arith, v, at_home, m3)

        B : Meets N types home (Counted_in i ran.0.last.result) Vars (bound_scope N (Bound_pattern i) ran.0.last.result scope1) body at hi R.condition.state u.result u.state
        B = of_body (Counted_in i ran.0.last.result) (bound_scope N (Bound_pattern i) ran.0.last.result scope1) (typed_with the_one (Bound_pattern i) from T1) known2 E2 pb tb R.condition.state R.part u (ap (λ w. sized N types body [] at w R.condition.state) inner ∙ R.part_is) R.body_is

        judged2 : (s : ℕ → Size) (G1 : Context) → Judged In1 Vars scope1 G1 → s from ≡ ran.0.last.result → Judged (Counted_in i ran.0.last.result) Vars (bound_scope N (Bound_pattern i) ran.0.last.result scope1) (with_known_name i.0 (s from) G1)
        judged2 s G1 J1 e = judged_all (Counted_in i ran.0.last.result) Vars (bound_scope N (Bound_pattern i) ran.0.last.result scope1) (with_known_name i.0 (s from) G1) (judged_name N types K places (Counted_in i ran.0.last.result) Vars home s [] i from ran.0.last.result e scope1 G1 named_before J1.none_open (hole_as Vars Any_variable (λ v i. tt) ran.0.last.result C.says.variables) split J1.finds_types)
          where
            named_before : (b : ℕ) (g : Bool) (u : Size) → false ≡ false → is_among (names (Bound_pattern i)) b ≡ false → scope1 b ≡ Some (record { size = u; is_general = g }) → cond g (G1.schemes b) (G1.sizes b) ≡ Some u
            named_before b true u k n z = J1.schemes b u z
            named_before b false u k n z = J1.sizes b u z

            by_finds : (d : Free) → In1 d → (G1.finds d ≡ true) ⊎ Is_const d → ((G1.finds d ≡ true) × No_name_of (i.0 ∷ []) d) ⊎ Is_const d
            by_finds d x (inl y) = inl (y, no_name_by_home types home K places N (Bound_pattern i) from at_home d (λ b z w. E1.outside (Name b) (subst In1 z x) (let v = w.0 in let r = w.1 in let k = body_there in (v, omega (arith, r, m3, k)))))
            by_finds d x (inr y) = inr y

            split : (d : Free) → Counted_in i ran.0.last.result d → Named_by N (Bound_pattern i) ran.0.last.result d ⊎ (((G1.finds d ≡ true) × No_name_of (i.0 ∷ []) d) ⊎ Is_const d)
            split d (inl x) = inr (by_finds d x (J1.finds d x))
            split d (inr x) = inl x

        rules : (s : ℕ → Size) (G G1 : Context) → Judged In Vars scope G → Judged In1 Vars scope1 G1 → ((n : ℕ) → from ≤ n → n < at → st.nodes n ≡ each.state.nodes n) → ((n : ℕ) → from ≤ n → n < hi → s n ≡ u.state.nodes n)
            → Turns_sized N types s home (Counted i m) from G G1 × Sized N types s home body at (counter N types s home (Counted i m) from G1)
        rules s G G1 J J1 same a =
            let k = body_there in let j = l in
            let first : (n : ℕ) → from ≤ n → n < at → s n ≡ (noted from ran.0.last.result ran.0.last.state).state.nodes n = λ n x y. a n x (omega (arith, y, k)) ∙ B.kept n (inl y) ∙ ap (λ (x : State). x.nodes n) after ∙ same n x y ∙ ap (λ (x : Done (Scope → Answer Scope)). x.state.nodes n) (sym ran.1) in
            let here : s from ≡ ran.0.last.result = first from (omega arith) j ∙ at_itself from ran.0.last.result ran.0.last.state.nodes in
            let count : (n : ℕ) → 1 + from ≤ n → n < at → s n ≡ ran.0.last.state.nodes n = λ n x y. first n (omega (arith, x)) y ∙ at_another from n ran.0.last.result ran.0.last.state.nodes (λ z. omega (arith, z, x)) in
            let some = numbers_some m in (
              (C.rules s G J count, here ∙ sym (count (1 + from) (omega arith) (omega (arith, m3, some)) ∙ C.here)),
              B.rules s (with_known_name i.0 (s from) G1) (judged2 s G1 J1 here) (λ n x y. a n (omega (arith, x, j)) y),
            )

    -- the elements of an array
    over_meets : (p : FlatPattern) (e : FlatTerm) → from + (pattern_numbers p + numbers e) ≡ at → Law_of N types home K places e → Plain_pattern types home K places p from → Plain_term types home K places N e (from + pattern_numbers p) → Pattern_typed N places K types p from T1 → Typed N places e (from + pattern_numbers p) T K types → types (from + pattern_numbers p) ≡ array_ty (types from) → HasKind K places (types from)
        → Plain_term types home K places N body at → Typed N places body at (typed_with the_one p from T1) K types
        → (each : Done (Scope → Answer Scope)) (st : State) (u : Done Size) → turns_sized N types (Over p e) from scope before ≡ Ok each → Inner_ran (Over p e) body from at each.result scope1 st u → Turn_meets (Over p e) each.state st u
    unfolding turns_sized condition_sized
    over_meets p e m3 lm plain pm fits tm array kind pb tb each st u q R = record {
      first_kept = λ n o. ap (λ (x : Done (Scope → Answer Scope)). x.state.nodes n) (sym ran.each_is) ∙ P.kept n (by_pattern n o) ∙ C.kept n (by_array n o);
      first_dropped = λ n o. ap (λ (x : Done (Scope → Answer Scope)). x.state.dropped n) (sym ran.each_is) ∙ ap (λ (f : ℕ → List ℕ). f n) P.dropped ∙ C.dropped n (by_array n o);
      typed = B.typed;
      settled = (says_settled (With_met (Over_in p L.row) at hi) Vars u.result (met_settled N types home (Over_in p L.row) at hi at hi E2) B.says).0;
      here = B.here;
      kept = λ n o. B.kept n o ∙ ap (λ (x : State). x.nodes n) after;
      dropped = λ n o. B.dropped n o ∙ ap (λ (x : State). x.dropped n) after;
      rules = rules;
    }
      where
        ran : Array_ran p e from scope before each
        ran =
            let x1 = then_ok (sized N types e [] (from + pattern_numbers p) scope before) q in
            let x2 = then_ok (finished N types (from + pattern_numbers p) x1.first.result x1.first.state) x1.rest in
            let x3 = then_ok (pattern_noted N types p from (row_of N types x2.first.result) x2.first.state) x2.rest in
            record { array = record { part = x1.first; last = x2.first; part_is = x1.done; last_is = x2.done }; pattern = x3.first; pattern_is = x3.done; each_is = same_ok x3.rest }

        l : (from + pattern_numbers p) < at
        l = let n = numbers_some e in omega (arith, m3, n)

        C : Meets N types home In Vars scope e (from + pattern_numbers p) at before ran.array.last.result ran.array.last.state
        C = subst (λ n. Meets N types home In Vars scope e (from + pattern_numbers p) n before ran.array.last.result ran.array.last.state) (let z : (from + pattern_numbers p) + numbers e ≡ at = omega (arith, m3) in z)
            (alone N types home K places e lm In Vars scope T (from + pattern_numbers p) before ran.array.part ran.array.last pm tm known (elsewhere_narrower N types home from hi (from + pattern_numbers p) ((from + pattern_numbers p) + numbers e) In (omega arith) (let k = body_there in omega (arith, m3, k)) E) ran.array.part_is ran.array.last_is)

        -- ---- the row
        L : Level_of N types K places (With_met In (from + pattern_numbers p) at) Vars (λ c. inr tt) (from + pattern_numbers p) (λ i. inr (omega arith, l)) ran.array.last.result (types from)
        L = level_of N types K places (With_met In (from + pattern_numbers p) at) Vars (λ c. inr tt) (from + pattern_numbers p) (λ i. inr (omega arith, l)) ran.array.last.result (types (from + pattern_numbers p)) (types from) C.says C.typed array

        row_is : row_of N types ran.array.last.result ≡ L.row
        row_is = ap (row_of N types) L.is

        is_data : Data L.row
        is_data = data_of K L.row L.says.formed (let r : level places ≤ rank K (erased L.row) = subst (λ w. level places ≤ rank K w) (sym L.typed) kind in omega (arith, r, data_places))

        row_known : Says (With_met In1 (from + pattern_numbers p) at) Vars L.row
        row_known = says_more (With_met In (from + pattern_numbers p) at) (With_met In1 (from + pattern_numbers p) at) Vars L.row more_known L.says
          where
            more_known : (d : Free) → With_met In (from + pattern_numbers p) at d → With_met In1 (from + pattern_numbers p) at d
            more_known d (inl x) = inl (wider d x)
            more_known d (inr x) = inr x

        after : R.condition.state ≡ st
        after = ap (λ (x : Done (Unit {0})). x.state) (sym (same_ok R.condition_is))

        bound : (k : Taken) × (bound_by N [] (from + pattern_numbers p) p L.row scope1 ≡ Ok k) × (k.scope ≡ R.inner)
        bound =
            let x = then_ok (bound_by N [] (from + pattern_numbers p) p (row_of N types ran.array.last.result) scope1) (ap (λ (x : Done (Scope → Answer Scope)). x.result scope1) ran.each_is ∙ R.inner_is) in
            (x.first, ap (λ w. bound_by N [] (from + pattern_numbers p) p w scope1) (sym row_is) ∙ x.done, same_ok x.rest)

        taken_row : Pattern_ran types home K places N p L.row (record { scope = scope1; found = counted 0 nothing_found }) bound.0
        taken_row = let settled = says_settled (With_met In (from + pattern_numbers p) at) Vars L.row (met_settled N types home In from hi (from + pattern_numbers p) at E) L.says in
            taken_is types home K places N (from + pattern_numbers p) p from T1 plain fits L.row is_data L.says.formed settled.0 settled.1 L.typed (record { scope = scope1; found = counted 0 nothing_found }) bound.0 (bound_ran N (from + pattern_numbers p) p L.row scope1 bound.0 bound.1)

        P : Noted_pattern types home K places N p from L.row ran.array.last.state ran.pattern.state
        P = noted_is types home K places N p from plain L.row taken_row.parts ran.array.last.state ran.pattern (ap (λ w. pattern_noted N types p from w ran.array.last.state) (sym row_is) ∙ ran.pattern_is)

        by_pattern : (n : ℕ) → (n < from) ⊎ (at ≤ n) → (n < from) ⊎ (from + pattern_numbers p ≤ n)
        by_pattern n (inl x) = inl x
        by_pattern n (inr x) = let j = l in inr (omega (arith, x, j))

        by_array : (n : ℕ) → (n < from) ⊎ (at ≤ n) → (n < (from + pattern_numbers p)) ⊎ (at ≤ n)
        by_array n (inl x) = inl (omega (arith, x))
        by_array n (inr x) = inr x

        -- ---- the body
        known2 : Known_names (Over_in p L.row) Vars home (bound_scope N p L.row scope1) K types (typed_with the_one p from T1)
        known2 = known_with N types K places (Over_in p L.row) Vars home In1 Vars (λ d x. inl x) (λ v x. x) p from T1 plain fits L.row taken_row.parts scope1 T1 known1 (value_behind N types home K places In1 Vars scope1 p L.row from from (from + pattern_numbers p) at hi row_known is_data) L.typed (λ d n. inr (inr n))

        E2 : Elsewhere N types home at hi (Over_in p L.row)
        E2 = let j = l in let k = body_there in behind_elsewhere N types home K places In1 Vars scope1 p L.row from from (from + pattern_numbers p) at hi plain (omega arith) (omega (arith, j)) (omega (arith, k)) E1

        B : Meets N types home (Over_in p L.row) Vars (bound_scope N p L.row scope1) body at hi R.condition.state u.result u.state
        B = of_body (Over_in p L.row) (bound_scope N p L.row scope1) (typed_with the_one p from T1) known2 E2 pb tb R.condition.state R.part u (ap (λ w. sized N types body [] at w R.condition.state) (sym taken_row.scope ∙ bound.2) ∙ R.part_is) R.body_is

        rules : (s : ℕ → Size) (G G1 : Context) → Judged In Vars scope G → Judged In1 Vars scope1 G1 → ((n : ℕ) → from ≤ n → n < at → st.nodes n ≡ each.state.nodes n) → ((n : ℕ) → from ≤ n → n < hi → s n ≡ u.state.nodes n)
            → Turns_sized N types s home (Over p e) from G G1 × Sized N types s home body at (counter N types s home (Over p e) from G1)
        rules s G G1 J J1 same a =
            let k = body_there in let j = l in
            let first : (n : ℕ) → from ≤ n → n < at → s n ≡ ran.pattern.state.nodes n = λ n x y. a n x (omega (arith, y, k)) ∙ B.kept n (inl y) ∙ ap (λ (x : State). x.nodes n) after ∙ same n x y ∙ ap (λ (x : Done (Scope → Answer Scope)). x.state.nodes n) (sym ran.each_is) in
            let nodes : Nodes N p from L.row s = nodes_as N p from L.row ran.pattern.state.nodes s (λ n x y. first n x (omega (arith, y, j))) P.nodes in
            let array_there : (n : ℕ) → (from + pattern_numbers p) ≤ n → n < at → s n ≡ ran.array.last.state.nodes n = λ n x y. first n (omega (arith, x)) y ∙ P.kept n (inr x) in
            let row_there : row_of N types (s (from + pattern_numbers p)) ≡ L.row = ap (row_of N types) (array_there (from + pattern_numbers p) (omega arith) j ∙ C.here) ∙ row_is in (
              (C.rules s G J array_there, subst (λ w. Pattern_takes N types s home (λ d. d) p from w) (sym row_there) (takes_it types home K places N s (λ d. d) (λ d. refl) p from plain L.row taken_row.parts nodes)),
              B.rules s (with_pattern s p from G1) (behind_judged N types home K places In1 Vars scope1 p L.row from from (from + pattern_numbers p) at hi plain (omega arith) (omega (arith, j)) (omega (arith, k)) E1 s G1 taken_row.parts (hole_as Vars Any_variable (λ v i. tt) L.row L.says.variables) J1 nodes) (λ n x y. a n (omega (arith, x, j)) y),
            )

    pub turn_meets : (turns : FlatTurns) → from + turn_numbers turns ≡ at → Law_turns turns → Plain_turns types home K places N turns from → Turns_typed N places turns from T T1 K types → Plain_term types home K places N body at → Typed N places body at (with_turns turns from T1) K types
        → (each : Done (Scope → Answer Scope)) (st : State) (u : Done Size) → turns_sized N types turns from scope before ≡ Ok each → Inner_ran turns body from at each.result scope1 st u → Turn_meets turns each.state st u
    turn_meets (While c) m lt pt tt' pb tb each st u q R = while_meets c m lt pt tt'.0 pb tb each st u q R
    turn_meets (Counted i c) m lt pt tt' pb tb each st u q R = counted_meets i c m lt pt.0 pt.1 pt.2 tt'.0 tt'.1 pb tb each st u q R
    turn_meets (Over p e) m lt pt tt' pb tb each st u q R = over_meets p e m lt pt.0 pt.1 tt'.0.0 tt'.0.1 tt'.1.0 tt'.1.1 pb tb each st u q R

  -- ---- the loop
  module _ (sizes : List BindId) (p : FlatPattern) (first : FlatTerm) (turns : FlatTurns) (body : FlatTerm) (lo mid from at hi : ℕ) (m1 : 1 + lo + pattern_numbers p ≡ mid) (m2 : mid + numbers first ≡ from) (m3 : from + turn_numbers turns ≡ at) (m4 : at + numbers body ≡ hi) where
    abbrev loop_turn : Scope → (Scope → Answer Scope) → Size → Step Size
    loop_turn scope each carried = and_then (ask (bound_at N sizes at mid p carried scope)) (λ k. and_then (pattern_noted N types p (1 + lo) carried) (λ y. inner_turn turns body from at sizes each k.scope k.found))

    record Turn_ran (scope : Scope) (each : Scope → Answer Scope) (carried : Size) (st : State) (r : Done Size) : Type 0 where
      taken : Taken
      pattern : Done (Unit {0})
      taken_ok : bound_at N sizes at mid p carried scope ≡ Ok taken
      pattern_ok : pattern_noted N types p (1 + lo) carried st ≡ Ok pattern
      rest : Inner_gives turns body from at sizes each taken.scope taken.found pattern.state r

    turn_ran : (scope : Scope) (each : Scope → Answer Scope) (carried : Size) (st : State) (r : Done Size) → loop_turn scope each carried st ≡ Ok r → Turn_ran scope each carried st r
    turn_ran scope each carried st r q =
        let x1 = then_ok (ask (bound_at N sizes at mid p carried scope) st) q in
        let a1 = asked (bound_at N sizes at mid p carried scope) st x1.first x1.done in
        let x2 = then_ok (pattern_noted N types p (1 + lo) carried x1.first.state) x1.rest in
        record { taken = x1.first.result; pattern = x2.first; taken_ok = a1.answer; pattern_ok = ap (pattern_noted N types p (1 + lo) carried) (sym a1.state) ∙ x2.done; rest = inner_gives turns body from at sizes each x1.first.result.scope x1.first.result.found x2.first.state r x2.rest }

    pub record Loop_ran (scope : Scope) (st : State) (d : Done Part) : Type 0 where
      pub part : Done Part
      pub value : Done Size
      pub each : Done (Scope → Answer Scope)
      pub last : Done Size
      pub part_is : sized N types first [] mid scope st ≡ Ok part
      pub value_is : finished N types mid part.result part.state ≡ Ok value
      pub each_is : turns_sized N types turns from scope value.state ≡ Ok each
      pub last_is : turns_from N types (suc (levels value.result)) lo value.result (loop_turn scope each.result) each.state ≡ Ok last
      pub gives : d ≡ record { result = whole last.result; state = last.state }

    abbrev pub Loop_sized : (ℕ → Size) → Context → Type 0
    Loop_sized s G = Sized N types s home first mid G × Turns_sized N types s home turns from G (with_pattern s p (1 + lo) (with_size_names (bind_ids sizes) G)) × Sized N types s home body at (counter N types s home turns from (with_pattern s p (1 + lo) (with_size_names (bind_ids sizes) G))) × Loops N types s home sizes p lo mid from at hi

    pub record Loop_meets (In : Free → Type 0) (Vars : Variable → Type 0) (scope : Scope) (st : State) (t : Size) (after : State) : Type 0 where
      pub says : Says (With_met In lo hi) Vars t
      pub typed : erased t ≡ types lo
      pub kept : (n : ℕ) → (n < lo) ⊎ (hi ≤ n) → after.nodes n ≡ st.nodes n
      pub dropped : (n : ℕ) → (n < lo) ⊎ (hi ≤ n) → after.dropped n ≡ st.dropped n
      pub rules : (s : ℕ → Size) (G : Context) → Judged In Vars scope G → s lo ≡ t → ((n : ℕ) → lo < n → n < hi → s n ≡ after.nodes n) → Loop_sized s G

    module _ (lf : Law_of N types home K places first) (lt : Law_turns turns) (lb : Law_of N types home K places body) (In : Free → Type 0) (Vars : Variable → Type 0) (scope : Scope) (T : TypeScope) (known : Known_names In Vars home scope K types T) (E : Elsewhere N types home lo hi In)
        (plain : Plain_sizes types home K places sizes p (1 + lo)) (fits : Pattern_typed N places K types p (1 + lo) (typed_with_sizes sizes T))
        (pf : Plain_term types home K places N first mid) (tf : Typed N places first mid T K types)
        (pt : Plain_turns types home K places N turns from) (tt' : Turns_typed N places turns from T (typed_with the_one p (1 + lo) (typed_with_sizes sizes T)) K types)
        (pb : Plain_term types home K places N body at) (tb : Typed N places body at (with_turns turns from (typed_with the_one p (1 + lo) (typed_with_sizes sizes T))) K types)
        (t1 : types lo ≡ types (1 + lo)) (t2 : types (1 + lo) ≡ types mid) (t3 : types lo ≡ types at) (kind : HasKind K places (types lo)) (st : State) (d : Done Part) (R : Loop_ran scope st d) where
      l1 : 1 + lo < mid
      l1 = let n = pattern_some p in omega (arith, n, m1)

      l2 : mid < from
      l2 = let n = numbers_some first in omega (arith, n, m2)

      l3 : from ≤ at
      l3 = omega (arith, m3)

      l4 : at < hi
      l4 = let n = numbers_some body in omega (arith, n, m4)

      abbrev t : Size
      t = R.value.result

      F : Meets N types home In Vars scope first mid from st t R.value.state
      F = subst (λ n. Meets N types home In Vars scope first mid n st t R.value.state) m2
          (alone N types home K places first lf In Vars scope T mid st R.part R.value pf tf known (elsewhere_narrower N types home lo hi mid (mid + numbers first) In (let a = l1 in omega (arith, a)) (let a = l3 in let b = l4 in omega (arith, m2, a, b)) E) R.part_is R.value_is)

      is_data : Data t
      is_data = data_of K t F.says.formed (let r : level places ≤ rank K (erased t) = subst (λ w. level places ≤ rank K w) (t1 ∙ t2 ∙ sym F.typed) kind in omega (arith, r, data_places))

      -- ---- with some levels dropped
      abbrev c : List ℕ → Size
      c ds = lacking N types lo ds 0 t

      met_here : (d : Free) → With_met In mid from d → With_met In lo from d
      met_here d (inl i) = inl i
      met_here d (inr i) = let a = l1 in inr (met_wider mid from lo from (omega (arith, a)) (omega arith) d i)

      carried_says : (ds : List ℕ) → Says (With_met In lo from) Vars (c ds)
      carried_says ds = let h = says_more (With_met In mid from) (With_met In lo from) Vars t met_here F.says in record {
        sizes = sizes_lacking N types lo (With_met In lo from) (λ i. let a = l1 in let b = l2 in inr (omega arith, omega (arith, a, b))) ds t 0 0 h.sizes;
        variables = variables_lacking N types lo Vars ds t 0 h.variables;
        formed = formed_lacking N types lo ds t 0 h.formed;
      }

      carried_data : (ds : List ℕ) → Data (c ds)
      carried_data ds = data_lacking N types lo ds t 0 is_data

      carried_typed : (ds : List ℕ) → erased (c ds) ≡ types (1 + lo)
      carried_typed ds = erased_lacking N types lo ds t 0 ∙ F.typed ∙ sym t2

      abbrev In1 : List ℕ → Free → Type 0
      In1 ds d = Bound_in N types home K places In Vars scope T sizes p (c ds) lo (1 + lo) lo from hi d

      abbrev scope1 : List ℕ → Scope
      scope1 ds = scope_behind N types home K places In Vars scope T sizes p (c ds) lo (1 + lo) lo from hi

      -- what the pattern takes, with the sizes that it names
      abbrev wide : List ℕ → Size
      wide ds = width N types home K places In Vars scope T sizes p (c ds) lo (1 + lo) lo from hi

      names_there : (b : ℕ) → is_among (names p ++ bind_ids sizes) b ≡ true → (1 + lo ≤ home b) × (home b < 1 + lo + pattern_numbers p)
      names_there b e = sizes_home N types home K places sizes p (1 + lo) plain b e

      E1 : (ds : List ℕ) → Elsewhere N types home from hi (In1 ds)
      E1 ds = let a = l2 in let b = l3 in let k = l4 in bound_elsewhere N types home K places In Vars scope T sizes p (c ds) lo (1 + lo) lo from hi (pattern_plain N types home K places sizes p (1 + lo) plain) names_there (omega arith) (omega (arith, m1, a)) (omega (arith, b, k)) E

      module _ (ds : List ℕ) (s : State) (r : Done Size) (ran : loop_turn scope R.each.result (c ds) s ≡ Ok r) where
        abbrev Q : Turn_ran scope R.each.result (c ds) s r
        Q = turn_ran scope R.each.result (c ds) s r ran

        pattern_binds : Binds N types home K places In Vars scope T sizes p (c ds) lo (1 + lo) lo from hi Q.taken
        pattern_binds = let settled = says_settled (With_met In lo from) Vars (c ds) (met_settled N types home In lo hi lo from E) (carried_says ds) in
            let a = l2 in let b = l3 in let k = l4 in
            binds N types home K places In Vars scope T (c ds) lo mid (1 + lo) lo from hi (omega arith) E (carried_says ds) (carried_data ds) settled.0 settled.1 (carried_typed ds) known sizes p (omega (arith, m1, a, b, k)) plain fits Q.taken (bound_here N sizes at mid p (c ds) scope Q.taken Q.taken_ok)

        P : Noted_pattern types home K places N p (1 + lo) (wide ds) s Q.pattern.state
        P = pattern_binds.noted s Q.pattern Q.pattern_ok

        known1 : Known_names (In1 ds) Vars home (scope1 ds) K types (typed_with the_one p (1 + lo) (typed_with_sizes sizes T))
        known1 = pattern_binds.known known

        abbrev u : Done Size
        u = Q.rest.last

        M : Turn_meets In (In1 ds) Vars scope (scope1 ds) (λ d x. inl (inl x)) T (typed_with the_one p (1 + lo) (typed_with_sizes sizes T)) known known1 body lb from at hi m4 (elsewhere_narrower N types home lo hi from hi In (let a = l1 in let b = l2 in omega (arith, a, b)) (omega arith) E) (E1 ds) R.value.state turns R.each.state Q.pattern.state u
        M = turn_meets In (In1 ds) Vars scope (scope1 ds) (λ d x. inl (inl x)) T (typed_with the_one p (1 + lo) (typed_with_sizes sizes T)) known known1 body lb from at hi m4 (elsewhere_narrower N types home lo hi from hi In (let a = l1 in let b = l2 in omega (arith, a, b)) (omega arith) E) (E1 ds) R.value.state
            turns m3 lt pt tt' pb tb R.each Q.pattern.state u R.each_is (subst (λ w. Inner_ran turns body from at R.each.result w Q.pattern.state u) pattern_binds.scope_is Q.rest.ran)

      -- ---- what turns leave as it is
      abbrev edge : ℕ
      edge = changing turns from at

      abbrev Stays : ℕ → Type 0
      Stays n = (n < 1 + lo) ⊎ (((mid ≤ n) × (n < edge)) ⊎ (hi ≤ n))

      record Inv (s : State) : Type 0 where
        nodes : (n : ℕ) → Stays n → s.nodes n ≡ R.each.state.nodes n
        dropped : (n : ℕ) → (n < lo) ⊎ (hi ≤ n) → s.dropped n ≡ R.each.state.dropped n

      edges : (from ≤ edge) × (edge ≤ at)
      edges = changing_between turns from at l3

      turn_kept : (ds : List ℕ) (s : State) (r : Done Size) (ran : loop_turn scope R.each.result (c ds) s ≡ Ok r) (n : ℕ) → Stays n → r.state.nodes n ≡ s.nodes n
      turn_kept ds s r ran n o = ap (λ (x : Done Size). x.state.nodes n) (Q ds s r ran).rest.gives ∙ (M ds s r ran).kept n (by_body o) ∙ (P ds s r ran).kept n (by_pattern o)
        where
          by_body : Stays n → (n < edge) ⊎ (hi ≤ n)
          by_body (inl x) = let a = l1 in let b = l2 in let e = edges.0 in inl (omega (arith, x, a, b, e))
          by_body (inr (inl x)) = inl x.1
          by_body (inr (inr x)) = inr x

          by_pattern : Stays n → (n < 1 + lo) ⊎ (1 + lo + pattern_numbers p ≤ n)
          by_pattern (inl x) = inl x
          by_pattern (inr (inl x)) = let y = x.0 in inr (omega (arith, y, m1))
          by_pattern (inr (inr x)) = let a = l2 in let b = l3 in let k = l4 in inr (omega (arith, x, m1, a, b, k))

      turn_dropped : (ds : List ℕ) (s : State) (r : Done Size) (ran : loop_turn scope R.each.result (c ds) s ≡ Ok r) (n : ℕ) → (n < 1 + lo) ⊎ (hi ≤ n) → r.state.dropped n ≡ s.dropped n
      turn_dropped ds s r ran n o = ap (λ (x : Done Size). x.state.dropped n) (Q ds s r ran).rest.gives ∙ (M ds s r ran).dropped n (by_body o) ∙ ap (λ (f : ℕ → List ℕ). f n) (P ds s r ran).dropped
        where
          by_body : (n < 1 + lo) ⊎ (hi ≤ n) → (n < edge) ⊎ (hi ≤ n)
          by_body (inl x) = let a = l1 in let b = l2 in let e = edges.0 in inl (omega (arith, x, a, b, e))
          by_body (inr x) = inr x

      goes_on : (ds : List ℕ) (s : State) (r : Done Size) → Inv s → loop_turn scope R.each.result (c ds) s ≡ Ok r → Inv r.state × (r.state.dropped lo ≡ s.dropped lo)
      goes_on ds s r i ran = (
        record { nodes = λ n o. turn_kept ds s r ran n o ∙ i.nodes n o; dropped = λ n o. turn_dropped ds s r ran n (by_side n o) ∙ i.dropped n o },
        turn_dropped ds s r ran lo (inl (omega arith)),
      )
        where
          by_side : (n : ℕ) → (n < lo) ⊎ (hi ≤ n) → (n < 1 + lo) ⊎ (hi ≤ n)
          by_side n (inl x) = inl (omega (arith, x))
          by_side n (inr x) = inr x

      drops : (s : State) (ls : List ℕ) → Inv s → Inv (record { nodes = s.nodes; dropped = at_node lo ls s.dropped })
      drops s ls i = record { nodes = i.nodes; dropped = λ n o. at_another lo n ls s.dropped (λ z. apart n o z) ∙ i.dropped n o }
        where
          apart : (n : ℕ) → (n < lo) ⊎ (hi ≤ n) → lo ≡ n → ⊥
          apart n (inl x) z = omega (arith, x, z)
          apart n (inr x) z = let a = l1 in let b = l2 in let e = l3 in let k = l4 in omega (arith, x, z, a, b, e, k)

      W : Turned N types lo t (loop_turn scope R.each.result) Inv goes_on drops R.last
      W = turned N types lo t (loop_turn scope R.each.result) Inv goes_on drops (levels t) R.each.state R.last (missing_most (R.each.state.dropped lo) 0 (levels t)) (record { nodes = λ n o. refl; dropped = λ n o. refl }) R.last_is

      -- ---- the last turn
      abbrev last_turn : Turn_ran scope R.each.result (c W.ds) W.before W.last
      last_turn = Q W.ds W.before W.last W.ran

      abbrev last_meets : Turn_meets In (In1 W.ds) Vars scope (scope1 W.ds) (λ d x. inl (inl x)) T (typed_with the_one p (1 + lo) (typed_with_sizes sizes T)) known (known1 W.ds W.before W.last W.ran) body lb from at hi m4 (elsewhere_narrower N types home lo hi from hi In (let a = l1 in let b = l2 in omega (arith, a, b)) (omega arith) E) (E1 W.ds) R.value.state turns R.each.state last_turn.pattern.state last_turn.rest.last
      last_meets = M W.ds W.before W.last W.ran

      abbrev last_pattern : Noted_pattern types home K places N p (1 + lo) (wide W.ds) W.before last_turn.pattern.state
      last_pattern = P W.ds W.before W.last W.ran

      result_is : R.last.result ≡ c W.ds
      result_is = ap (λ (x : Done Size). x.result) W.gives

      -- the nodes in the end
      end_nodes : (n : ℕ) → R.last.state.nodes n ≡ last_turn.rest.last.state.nodes n
      end_nodes n = ap (λ (x : Done Size). x.state.nodes n) W.gives ∙ ap (λ (x : Done Size). x.state.nodes n) last_turn.rest.gives

      end_stays : (n : ℕ) → Stays n → R.last.state.nodes n ≡ R.each.state.nodes n
      end_stays n o = ap (λ (x : Done Size). x.state.nodes n) W.gives ∙ turn_kept W.ds W.before W.last W.ran n o ∙ W.inv.nodes n o

      last_binds : Binds N types home K places In Vars scope T sizes p (c W.ds) lo (1 + lo) lo from hi last_turn.taken
      last_binds = pattern_binds W.ds W.before W.last W.ran

      -- what the size names take, in what a turn gives
      same_taken : renamed (taken_by (what sizes last_turn.taken.found) (bind_ids sizes)) last_turn.rest.last.result ≡ W.last.result
      same_taken = sym (renamed_as (as_taken sizes last_turn.taken.found) (taken_by (what sizes last_turn.taken.found) (bind_ids sizes)) Is_settled last_binds.taken_same last_turn.rest.last.result last_meets.settled) ∙ ap (λ (x : Done Size). x.result) (sym last_turn.rest.gives)

      to_all : (d : Free) → With_met In lo from d → With_met In lo hi d
      to_all d (inl i) = inl i
      to_all d (inr i) = let a = l3 in let b = l4 in inr (met_wider lo from lo hi (omega arith) (omega (arith, a, b)) d i)

      first_outside : (lo' hi' : ℕ) → lo ≤ lo' → hi' ≤ hi → (from ≤ lo') ⊎ (hi' ≤ mid) → (x : Free) → With_met In mid from x → In_nodes N types home lo' hi' x → ⊥
      first_outside lo' hi' a b k x (inl i) o = (elsewhere_narrower N types home lo hi lo' hi' In a b E).outside x i o
      first_outside lo' hi' a b k x (inr i) o = met_outside N types home mid from lo' hi' k x i o

      rules : (s : ℕ → Size) (G : Context) → Judged In Vars scope G → s lo ≡ R.last.result → ((n : ℕ) → lo < n → n < hi → s n ≡ R.last.state.nodes n) → Loop_sized s G
      rules s G J e f =
          let a1 = l1 in let a2 = l2 in let a3 = l3 in let a4 = l4 in let a5 = edges.0 in
          let value_there : (n : ℕ) → mid ≤ n → n < from → s n ≡ R.value.state.nodes n = λ n x y. f n (omega (arith, x, a1)) (omega (arith, y, a3, a4)) ∙ end_stays n (inr (inl (x, omega (arith, y, a5)))) ∙ last_meets.first_kept n (inl y) in
          let at_value : s mid ≡ t = value_there mid (omega arith) a2 ∙ F.here in
          let nodes : Nodes N p (1 + lo) (wide W.ds) s = nodes_as N p (1 + lo) (wide W.ds) last_turn.pattern.state.nodes s (λ n x y. f n (omega (arith, x)) (omega (arith, y, m1, a2, a3, a4)) ∙ end_nodes n ∙ last_meets.kept n (inl (omega (arith, y, m1, a2, a5)))) last_pattern.nodes in
          let J1 = last_binds.judged s G J nodes in
          let same : (n : ℕ) → from ≤ n → n < edge → last_turn.pattern.state.nodes n ≡ R.each.state.nodes n = λ n x y. last_pattern.kept n (inr (omega (arith, x, m1, a2))) ∙ W.inv.nodes n (inr (inl (omega (arith, x, a2), y))) in
          let inside = last_meets.rules s G (with_pattern s p (1 + lo) (with_size_names (bind_ids sizes) G)) J J1 same (λ n x y. f n (omega (arith, x, a1, a2)) y ∙ end_nodes n) in
          let at_body : s at ≡ last_turn.rest.last.result = f at (omega (arith, a1, a2, a3)) a4 ∙ end_nodes at ∙ last_meets.here in
          let at_loop : s lo ≡ c W.ds = e ∙ result_is in
          let taken_all : Pattern_takes N types s home (taken_by (what sizes last_turn.taken.found) (bind_ids sizes)) p (1 + lo) (c W.ds) = last_binds.takes s nodes in
          let loop : Loops N types s home sizes p lo mid from at hi = record {
            dropped = W.ds;
            carried = at_loop ∙ ap (lacking N types lo W.ds 0) (sym at_value);
            no_function = subst Data (sym at_value) is_data;
            what = what sizes last_turn.taken.found;
            taken = subst (λ w. Pattern_takes N types s home (taken_by (what sizes last_turn.taken.found) (bind_ids sizes)) p (1 + lo) w) (sym at_loop) taken_all;
            sizes_met = λ b y. ap (λ w. stands w (what sizes last_turn.taken.found b)) at_loop ∙ last_binds.sizes_met b y;
            bound = λ b y. at_home b y;
            kept = ap (λ w. differing N types W.ds 0 w (renamed (taken_by (what sizes last_turn.taken.found) (bind_ids sizes)) (s at))) at_loop ∙ ap (λ w. differing N types W.ds 0 (c W.ds) (renamed (taken_by (what sizes last_turn.taken.found) (bind_ids sizes)) w)) at_body ∙ ap (differing N types W.ds 0 (c W.ds)) same_taken ∙ W.kept;
            one_type = ap erased at_value ∙ F.typed ∙ sym t2 ∙ sym t1 ∙ t3 ∙ sym last_meets.typed ∙ ap erased (sym at_body);
            value_away = subst (λ w. Away N types s home lo mid w) (sym at_value) (away_of N types home (With_met In mid from) Vars s lo mid t (first_outside lo mid (omega arith) (omega (arith, a2, a3, a4)) (inr (omega arith))) F.says);
            turns_away = subst (λ w. Away N types s home from hi w) (sym at_value) (away_of N types home (With_met In mid from) Vars s from hi t (first_outside from hi (omega (arith, a1, a2)) (omega arith) (inl (omega arith))) F.says);
          } in
          (F.rules s G J value_there, inside.0, inside.1, loop)
        where
          at_home : (b : ℕ) → is_among (names p ++ bind_ids sizes) b ≡ true → (1 + lo ≤ home b) × (home b < mid)
          at_home b y = let h = names_there b y in let z = h.1 in (h.0, omega (arith, z, m1))

      pub loop_meets : Loop_meets In Vars scope st R.last.result R.last.state
      loop_meets = record {
        says = subst (λ w. Says (With_met In lo hi) Vars w) (sym result_is) (says_more (With_met In lo from) (With_met In lo hi) Vars (c W.ds) to_all (carried_says W.ds));
        typed = ap erased result_is ∙ carried_typed W.ds ∙ sym t1;
        kept = λ n o. end_stays n (far n o) ∙ last_meets.first_kept n (by_turns n o) ∙ F.kept n (by_value n o);
        dropped = λ n o. ap (λ (x : Done Size). x.state.dropped n) W.gives ∙ turn_dropped W.ds W.before W.last W.ran n (near n o) ∙ W.inv.dropped n o ∙ last_meets.first_dropped n (by_turns n o) ∙ F.dropped n (by_value n o);
        rules = rules;
      }
        where
          far : (n : ℕ) → (n < lo) ⊎ (hi ≤ n) → Stays n
          far n (inl x) = inl (omega (arith, x))
          far n (inr x) = inr (inr x)

          near : (n : ℕ) → (n < lo) ⊎ (hi ≤ n) → (n < 1 + lo) ⊎ (hi ≤ n)
          near n (inl x) = inl (omega (arith, x))
          near n (inr x) = inr x

          by_turns : (n : ℕ) → (n < lo) ⊎ (hi ≤ n) → (n < from) ⊎ (at ≤ n)
          by_turns n (inl x) = let a = l1 in let b = l2 in inl (omega (arith, x, a, b))
          by_turns n (inr x) = let a = l4 in inr (omega (arith, x, a))

          by_value : (n : ℕ) → (n < lo) ⊎ (hi ≤ n) → (n < mid) ⊎ (from ≤ n)
          by_value n (inl x) = let a = l1 in inl (omega (arith, x, a))
          by_value n (inr x) = let a = l3 in let b = l4 in inr (omega (arith, x, a, b))
