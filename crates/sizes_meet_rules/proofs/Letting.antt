-- Lets: a pattern takes a value, or a name a function, and what they stand for leaves with them.
use Rattle.std.proofs.Common.{◌≡◌, ◌⊎◌, ℕ, ◌+◌, ◌<◌, ◌≤◌, List, [], ◌∷◌, ◌++◌, Bool, true, false, cond, Option, Some, None, Ok, refl, sym, ap, ◌∙◌, subst, arith, inl, inr, eq-eqb}
use Rattle.fut_scalar.specs.declared.place.BindId.{BindId}
use Rattle.fut_flat.specs.declared.prim.Ref.{Ref}
use Rattle.fut_flat.specs.Numbers.{pattern_numbers, numbers}
use Rattle.fut_flat.specs.Terms.{Bound_pattern, Wild_pattern, Tuple_pattern, Record_pattern, Typed_pattern, Parameter, Binding, Let}
use Rattle.fut_flat.specs.Erased.{FlatTerm, FlatPattern}
use Rattle.fut_types.specs.declared.Kind.{Kind}
use Rattle.fut_types.specs.Types.{Ty, Sub, Kinds, HasKind, rank, level, fun_ty}
use Rattle.fut_typing.specs.Generalised.{own_types, Reused}
use Rattle.fut_typing.specs.Names.{Names}
use Rattle.fut_typing.specs.Patterns.{Pattern_typed, with_pattern as typed_with, with_parameters}
use Rattle.fut_typing.specs.Scopes.{Uses, Scope as TypeScope, the_one, with_uses, with_sizes as typed_with_sizes}
use Rattle.fut_typing.specs.Typing.{let_scheme, Typed}
use Rattle.sized_types.specs.Sizes.{Free, Const, Name, Own, Unknown, Slot, Dim, At, Bound, Variable, Size, Fun, erased, renaming, renamed, takes}
use Rattle.sized_types.specs.Standing.{stands}
use Rattle.fut_sizes.specs.Agreeing.{Answer, left, leave, names_one, is_among, leaving}
use Rattle.fut_sizes.specs.Applications.{Part, whole}
use Rattle.fut_sizes.specs.Compositions.{composition}
use Rattle.fut_sizes.specs.Functions.{is_slot, size_names}
use Rattle.fut_sizes.specs.Matching.{nothing_found, counted}
use Rattle.fut_sizes.specs.Rules.{Away, taken_by, Pattern_takes, Let_sized, Generalised, with_general as with_generalised, Sized, Each_hole}
use Rattle.fut_sizes.specs.Scopes.{Scope, names, Taken, bound_by}
use Rattle.fut_sizes.specs.Scoping.{Context, with_scheme, with_entered, with_pattern, with_size_names as context_with_sizes}
use Rattle.fut_sizes.specs.Sizing.{finished, bind_ids, has_parameters, with_head, with_general, let_scope, pattern_noted, composed_or, sized}
use Rattle.fut_sizes.specs.Steps.{State, Done, Step, give, ask, and_then}
use Rattle.fut_sizes.specs.Suiting.{Each, Scoped, Data}
use Rattle.sizes_meet_rules.specs.Known.{Says, Is_const, Known_names, Judged, Elsewhere}
use Rattle.sizes_meet_rules.specs.Plain.{Formed_type, Is_lambda, Is_bound, Are_sizes, Plain_headed, Plain_pattern, Plain_sizes, Plain_term}
use Rattle.sizes_meet_rules.proofs.Applying.{Function_size, function_is}
use Rattle.sizes_meet_rules.proofs.Binding.{Leaves, leaves, left_name, not_taken, function_behind, behind_elsewhere}
use Rattle.sizes_meet_rules.proofs.Bound.{width, Bound_in, scope_behind, In_parts, Binds, split, pattern_plain, plain_binds, binds}
use Rattle.sizes_meet_rules.proofs.Forming.{data_of, renaming_keeps, renaming_back, formed_replaced}
use Rattle.sizes_meet_rules.proofs.Generalising.{closed_of, with_function, known_general, lambda_arrow, generalised, Behind_function, function_judged}
use Rattle.sizes_meet_rules.proofs.Heading.{headed_none, known_headed, known_headless}
use Rattle.sizes_meet_rules.proofs.Meeting.{then_ok, asked, same_ok, each_scoped, Met_in, With_met, met_wider, met_no_slot, met_outside, met_settled, says_more, says_settled, elsewhere_narrower, away_of, In_nodes, Inner, Meets, Waits, finished_meets, function_knows}
use Rattle.sizes_meet_rules.proofs.Naming.{known_wider, With_head}
use Rattle.sizes_meet_rules.proofs.Replacing.{hole_as, each_replaced, erased_replaced, hole_replaced}
use Rattle.sizes_meet_rules.proofs.Settling.{Any_variable}
use Rattle.sizes_meet_rules.proofs.Showing.{numbers_some, Law_of, alone, bound_ran}
use Rattle.sizes_meet_rules.proofs.Taking.{pattern_some, Nodes, first_node, nodes_as, names_home, Noted_pattern, noted_is, takes_it, name_taken}
use Rattle.sizes_meet_rules.proofs.Taking_sizes.{what}
use Rattle.sizes_meet_rules.proofs.Using.{None_there}

module _ (N : Names) (types : Sub) (home : ℕ → ℕ) (K : Kinds) (places : Kind) where
  -- ---- any let: what is known behind its pattern is known before, met in the value, or a name that it binds

  module _ (In In2 : Free → Type 0) (Vars : Variable → Type 0) (scope : Scope) (sizes : List BindId) (p : FlatPattern) (t w : Size) (lo mid at hi : ℕ) (m1 : 1 + lo + pattern_numbers p ≡ mid) (l2 : mid < at) (l3 : at < hi) (E : Elsewhere N types home lo hi In)
      (parts : (d : Free) → In2 d → In d ⊎ (Met_in mid at d ⊎ ((b : ℕ) × (d ≡ Name b) × (is_among (names p ++ bind_ids sizes) b ≡ true)))) (at_home : (c : ℕ) → is_among (names p ++ bind_ids sizes) c ≡ true → (1 + lo ≤ home c) × (home c < mid)) where
    abbrev all_names : List ℕ
    all_names = names p ++ bind_ids sizes

    first : 1 + lo < mid
    first = let n = pattern_some p in omega (arith, n, m1)

    -- ---- what leaves

    name_known : (b : ℕ) → With_met In2 at hi (Name b) → is_among all_names b ≡ false → With_met In lo hi (Name b)
    name_known b (inl i) f = by_part (parts (Name b) i)
      where
        by_part : In (Name b) ⊎ (Met_in mid at (Name b) ⊎ ((c : ℕ) × (Name b ≡ Name c) × (is_among all_names c ≡ true))) → With_met In lo hi (Name b)
        by_part (inl j) = inl j
        by_part (inr (inl m)) = absurd m
        by_part (inr (inr (c, e, g))) = absurd (let z : true ≡ false = sym g ∙ ap (is_among all_names) (let y : c ≡ b = (let u : Name b ≡ Name c = e in cc) in y) ∙ f in cc)
    name_known b (inr i) f = absurd i

    still : (d : Free) → ((b : ℕ) → d ≡ Name b → ⊥) → With_met In2 at hi d → With_met In lo hi d
    still d n (inl i) = by_part (parts d i)
      where
        by_part : In d ⊎ (Met_in mid at d ⊎ ((c : ℕ) × (d ≡ Name c) × (is_among all_names c ≡ true))) → With_met In lo hi d
        by_part (inl j) = inl j
        by_part (inr (inl m)) = let l = first in inr (met_wider mid at lo hi (omega (arith, l)) (omega (arith, l3)) d m)
        by_part (inr (inr (c, e, g))) = absurd (n c e)
    still d n (inr i) = let l = first in inr (met_wider at hi lo hi (omega (arith, l, l2)) (omega arith) d i)

    left_dim : (d : Free) → With_met In2 at hi d → With_met In lo hi (leave lo all_names d)
    left_dim (Name b) o = by_name (left_name lo all_names 0 b)
      where
        by_name : ((j : ℕ) × (left lo 0 all_names b ≡ Unknown lo j)) ⊎ ((left lo 0 all_names b ≡ Name b) × (is_among all_names b ≡ false)) → With_met In lo hi (left lo 0 all_names b)
        by_name (inl (j, e)) = let l = first in subst (λ d. With_met In lo hi d) (sym e) (inr (omega arith, omega (arith, l, l2, l3)))
        by_name (inr (e, f)) = subst (λ d. With_met In lo hi d) (sym e) (name_known b o f)
    left_dim (Const c) o = still (Const c) (λ b z. (let y : Const c ≡ Name b = z in cc)) o
    left_dim (Own n i) o = still (Own n i) (λ b z. (let y : Own n i ≡ Name b = z in cc)) o
    left_dim (Unknown n i) o = still (Unknown n i) (λ b z. (let y : Unknown n i ≡ Name b = z in cc)) o
    left_dim (Slot i) o = still (Slot i) (λ b z. (let y : Slot i ≡ Name b = z in cc)) o

    left_says : (u r : Size) → Leaves lo all_names u r → Says (With_met In2 at hi) Vars u → Says (With_met In lo hi) Vars r
    left_says u r L h = subst (λ w. Says (With_met In lo hi) Vars w) (sym L.result) (record {
      sizes = each_replaced (renaming (leave lo all_names)) (Scoped (With_met In2 at hi)) (Scoped (With_met In lo hi)) (λ j. j) (λ j. refl) turned u 0 h.sizes;
      variables = hole_replaced (renaming (leave lo all_names)) Vars u 0 h.variables;
      formed = formed_replaced (renaming (leave lo all_names)) (renaming_keeps (leave lo all_names)) (renaming_back (leave lo all_names)) u 0 h.formed;
    })
      where
        turned : (j : ℕ) (d : Dim) → Scoped (With_met In2 at hi) j d → Scoped (With_met In lo hi) j (renaming (leave lo all_names) j d)
        turned j (At d) o = left_dim d o
        turned j (Bound k i) o = o

    -- what is known behind the pattern is made neither in the body nor at the let
    pub parts_outside : (lo' hi' : ℕ) → lo ≤ lo' → hi' ≤ hi → (at ≤ lo') ⊎ (hi' ≤ 1 + lo) → (d : Free) → In2 d → In_nodes N types home lo' hi' d → ⊥
    parts_outside lo' hi' a b c d i o = by_part (parts d i)
      where
        by_side : (at ≤ lo') ⊎ (hi' ≤ 1 + lo) → (at ≤ lo') ⊎ (hi' ≤ mid)
        by_side (inl x) = inl x
        by_side (inr x) = let l = first in inr (omega (arith, x, l))

        named : (n : ℕ) → d ≡ Name n → (1 + lo ≤ home n) × (home n < mid) → (at ≤ lo') ⊎ (hi' ≤ 1 + lo) → ⊥
        named n e h (inl x) = let w = subst (λ y. In_nodes N types home lo' hi' y) e o in let u = w.0 in let v = h.1 in omega (arith, x, u, v, l2)
        named n e h (inr x) = let w = subst (λ y. In_nodes N types home lo' hi' y) e o in let u = w.1 in let v = h.0 in omega (arith, x, u, v)

        by_part : In d ⊎ (Met_in mid at d ⊎ ((n : ℕ) × (d ≡ Name n) × (is_among all_names n ≡ true))) → ⊥
        by_part (inl j) = (elsewhere_narrower N types home lo hi lo' hi' In a b E).outside d j o
        by_part (inr (inl m)) = met_outside N types home mid at lo' hi' (by_side c) d m o
        by_part (inr (inr (n, e, g))) = named n e (at_home n g) c

    pub parts_elsewhere : Elsewhere N types home at hi In2
    parts_elsewhere = record { no_slot = no_slot; outside = λ d i o. let l = first in parts_outside at hi (omega (arith, l, l2)) (omega arith) (inl (omega arith)) d i o }
      where
        by_part : (d : Free) → In d ⊎ (Met_in mid at d ⊎ ((n : ℕ) × (d ≡ Name n) × (is_among all_names n ≡ true))) → is_slot d ≡ false
        by_part d (inl j) = E.no_slot d j
        by_part d (inr (inl m)) = met_no_slot mid at d m
        by_part d (inr (inr (n, e, g))) = ap is_slot e

        no_slot : (d : Free) → In2 d → is_slot d ≡ false
        no_slot d i = by_part d (parts d i)

    -- ---- the let

    abbrev pub a_binding : List (Parameter BindId) → Bool → Binding Ref BindId
    a_binding parameters is_function = record { sizes = sizes; parameters = parameters; is_function = is_function; pattern = p }

    -- what is bound behind the value, in a scope and a context
    abbrev pub Bound_here : FlatTerm → FlatTerm → List (Parameter BindId) → Bool → ℕ → ℕ → ℕ → (ℕ → Size) → Context → Type 0
    Bound_here v e parameters is_function mid at hi s G = (Let_sized N types s home (a_binding parameters is_function) lo mid at hi × Sized N types s home e at (with_pattern s p (1 + lo) (context_with_sizes (bind_ids sizes) G)))
        ⊎ ((A : Generalised N types s home p v lo mid at hi G) × Sized N types s home e at (with_generalised N types s home p (1 + lo) A.new G))

    pub any_let_meets : (v e : FlatTerm) (parameters : List (Parameter BindId)) (is_function : Bool) (st s1 s2 s3 : State) (u r : Size) → mid + numbers v ≡ at → at + numbers e ≡ hi → types lo ≡ types at
        → Noted_pattern types home K places N p (1 + lo) w s1 s2 → Says In2 Vars w → Leaves lo all_names u r → (what : ℕ → Free) → ((s : ℕ → Size) → Nodes N p (1 + lo) w s → Pattern_takes N types s home (taken_by what (bind_ids sizes)) p (1 + lo) t) → ((c : ℕ) → is_among (bind_ids sizes) c ≡ true → stands t (what c) ≡ true)
        → (inner : Scope) → Meets N types home In Vars scope v mid at st t s1 → Meets N types home In2 Vars inner e at hi s2 u s3
        → ((s : ℕ → Size) (G : Context) → Judged In Vars scope G → Nodes N p (1 + lo) w s → s mid ≡ t → Let_sized N types s home (a_binding parameters is_function) lo mid at hi → ((G1 : Context) → Judged In2 Vars inner G1 → Sized N types s home e at G1) → Bound_here v e parameters is_function mid at hi s G)
        → Inner N types home In Vars scope (Let (a_binding parameters is_function) v e) lo hi st r s3
    any_let_meets v e parameters is_function st s1 s2 s3 u r m2 m3 t1 P says2 L what takes_value sizes_met inner X Y alternative = record {
      says = left_says u r L Y.says;
      typed = ap erased L.result ∙ erased_replaced (renaming (leave lo all_names)) u 0 ∙ Y.typed ∙ sym t1;
      kept = λ n o. Y.kept n (by_body n o) ∙ P.kept n (by_pattern n o) ∙ X.kept n (by_value n o);
      dropped = λ n o. Y.dropped n (by_body n o) ∙ ap (λ (f : ℕ → List ℕ). f n) P.dropped ∙ X.dropped n (by_value n o);
      rules = rules;
    }
      where
        by_body : (n : ℕ) → (n < lo) ⊎ (hi ≤ n) → (n < at) ⊎ (hi ≤ n)
        by_body n (inl x) = let l = first in inl (omega (arith, x, l, l2))
        by_body n (inr x) = inr x

        by_value : (n : ℕ) → (n < lo) ⊎ (hi ≤ n) → (n < mid) ⊎ (at ≤ n)
        by_value n (inl x) = let l = first in inl (omega (arith, x, l))
        by_value n (inr x) = inr (omega (arith, x, l3))

        by_pattern : (n : ℕ) → (n < lo) ⊎ (hi ≤ n) → (n < 1 + lo) ⊎ (1 + lo + pattern_numbers p ≤ n)
        by_pattern n (inl x) = inl (omega (arith, x))
        by_pattern n (inr x) = inr (omega (arith, x, m1, l2, l3))

        value_outside : (lo' hi' : ℕ) → lo ≤ lo' → hi' ≤ hi → (at ≤ lo') ⊎ (hi' ≤ mid) → (d : Free) → With_met In mid at d → In_nodes N types home lo' hi' d → ⊥
        value_outside lo' hi' a b c d (inl i) o = (elsewhere_narrower N types home lo hi lo' hi' In a b E).outside d i o
        value_outside lo' hi' a b c d (inr i) o = met_outside N types home mid at lo' hi' c d i o

        body_outside : (d : Free) → With_met In2 at hi d → In_nodes N types home lo (1 + lo) d → ⊥
        body_outside d (inl i) o = let l = first in parts_outside lo (1 + lo) (omega arith) (omega (arith, l, l2, l3)) (inr (omega arith)) d i o
        body_outside d (inr i) o = let l = first in met_outside N types home at hi lo (1 + lo) (inr (omega (arith, l, l2))) d i o

        rules : (s : ℕ → Size) (G : Context) → Judged In Vars scope G → s lo ≡ r → ((n : ℕ) → lo < n → n < hi → s n ≡ s3.nodes n) → Sized N types s home (Let (a_binding parameters is_function) v e) lo G
        rules s G J z f =
            let l = first in
            let body : (n : ℕ) → at ≤ n → n < hi → s n ≡ s3.nodes n = λ n x y. f n (omega (arith, x, l, l2)) y in
            let noted_there : (n : ℕ) → lo < n → n < at → s n ≡ s2.nodes n = λ n x y. f n x (omega (arith, y, l3)) ∙ Y.kept n (inl y) in
            let value : (n : ℕ) → mid ≤ n → n < at → s n ≡ s1.nodes n = λ n x y. noted_there n (omega (arith, x, l)) y ∙ P.kept n (inr (omega (arith, x, m1))) in
            let nodes : Nodes N p (1 + lo) w s = nodes_as N p (1 + lo) w s2.nodes s (λ n x y. noted_there n (omega (arith, x)) (omega (arith, y, m1, l2))) P.nodes in
            let at_pattern : s (1 + lo) ≡ w = first_node N p (1 + lo) w s nodes in
            let at_value : s mid ≡ t = value mid (omega arith) l2 ∙ X.here in
            let at_body : s at ≡ u = body at (omega arith) l3 ∙ Y.here in
            let sized_let : Let_sized N types s home (a_binding parameters is_function) lo mid at hi = record {
              what = what;
              taken = subst (λ w. Pattern_takes N types s home (taken_by what (bind_ids sizes)) p (1 + lo) w) (sym at_value) (takes_value s nodes);
              sizes_met = λ c y. ap (λ w. stands w (what c)) at_value ∙ sizes_met c y;
              bound = λ c y. at_home c y;
              value_away = subst (λ w. Away N types s home (1 + lo) mid w) (sym at_value) (away_of N types home (With_met In mid at) Vars s (1 + lo) mid t (value_outside (1 + lo) mid (omega arith) (omega (arith, l2, l3)) (inr (omega arith))) X.says);
              body_away = subst (λ w. Away N types s home at hi w) (sym at_pattern) (away_of N types home In2 Vars s at hi w (parts_outside at hi (omega (arith, l, l2)) (omega arith) (inl (omega arith))) says2);
              own_away = subst (λ w. Away N types s home lo (1 + lo) w) (sym at_body) (away_of N types home (With_met In2 at hi) Vars s lo (1 + lo) u body_outside Y.says);
              no_parameter = subst (λ w. takes (names_one all_names) w ≡ false) (sym at_body) L.no_parameter;
              result = z ∙ L.result ∙ ap (renamed (leave lo all_names)) (sym at_body);
            } in
            let of_body : (G1 : Context) → Judged In2 Vars inner G1 → Sized N types s home e at G1 = λ G1 J1. Y.rules s G1 J1 body in
            let of_value : Sized N types s home v mid G = X.rules s G J value in (
              subst (λ n. Sized N types s home v n G) (sym m1) of_value,
              subst (λ n. Bound_here v e parameters is_function n (n + numbers v) (n + numbers v + numbers e) s G) (sym m1)
                  (subst (λ n. Bound_here v e parameters is_function mid n (n + numbers e) s G) (sym m2)
                  (subst (λ n. Bound_here v e parameters is_function mid at n s G) (sym m3) (alternative s G J nodes at_value sized_let of_body))),
            )

  -- ---- the steps of a let

  abbrev a_let : Bool → List BindId → List (Parameter BindId) → FlatPattern → Binding Ref BindId
  a_let f sizes hd p = record { sizes = sizes; parameters = hd; is_function = f; pattern = p }

  not_composed : (o : Option Bool) (F : Bool → Step Part) (g : Step Part) (st : State) (d : Done Part) → o ≡ None → composed_or N types o F g st ≡ Ok d → g st ≡ Ok d
  not_composed None F g st d e q = q
  not_composed (Some b) F g st d e q = absurd (let z : Some b ≡ None = e in cc)

  module _ (f : Bool) (sizes : List BindId) (hd : List (Parameter BindId)) (p : FlatPattern) where
    record Let_ran (v e : FlatTerm) (lo : ℕ) (scope : Scope) (st : State) (d : Done Part) : Type 0 where
      value_part : Done Part
      value : Done Size
      inner : Scope
      pattern : Done (Unit {0})
      body_part : Done Part
      body : Done Size
      left : Size
      value_sized : sized N types v (size_names hd) (1 + lo + pattern_numbers p) (with_head N types (size_names hd) scope) st ≡ Ok value_part
      value_done : finished N types (1 + lo + pattern_numbers p) value_part.result value_part.state ≡ Ok value
      scope_is : let_scope N types (a_let f sizes hd p) (1 + lo + pattern_numbers p) value.result scope ≡ Ok inner
      pattern_is : pattern_noted N types p (1 + lo) value.result value.state ≡ Ok pattern
      body_sized : sized N types e [] (1 + lo + pattern_numbers p + numbers v) inner pattern.state ≡ Ok body_part
      body_done : finished N types (1 + lo + pattern_numbers p + numbers v) body_part.result body_part.state ≡ Ok body
      leaving_is : leaving lo (names p ++ bind_ids sizes) body.result ≡ Ok left
      gives : ◌≡◌ {A = Answer (Done Part)} (Ok (record { result = whole left; state = body.state })) (Ok d)

    -- behind the value
    abbrev let_rest : FlatTerm → ℕ → ℕ → Size → Scope → Step Part
    let_rest e lo at t inner = and_then (pattern_noted N types p (1 + lo) t) (λ y. and_then (sized N types e [] at inner) (λ part. and_then (finished N types at part) (λ u. and_then (ask (leaving lo (names p ++ bind_ids sizes) u)) (λ r. give (whole r)))))

    abbrev let_inner : FlatTerm → ℕ → ℕ → ℕ → Scope → Size → Step Part
    let_inner e lo mid at scope t = and_then (ask (let_scope N types (a_let f sizes hd p) mid t scope)) (λ inner. let_rest e lo at t inner)

    record Value_ran (v e : FlatTerm) (lo mid at : ℕ) (scope : Scope) (st : State) (d : Done Part) : Type 0 where
      value_part : Done Part
      value : Done Size
      value_sized : sized N types v (size_names hd) mid (with_head N types (size_names hd) scope) st ≡ Ok value_part
      value_done : finished N types mid value_part.result value_part.state ≡ Ok value
      rest : let_inner e lo mid at scope value.result value.state ≡ Ok d

    value_ran : (v e : FlatTerm) (lo : ℕ) (scope : Scope) (st : State) (d : Done Part) → composition (a_let f sizes hd p) e ≡ None → sized N types (Let (a_let f sizes hd p) v e) [] lo scope st ≡ Ok d → Value_ran v e lo (1 + lo + pattern_numbers p) (1 + lo + pattern_numbers p + numbers v) scope st d
    unfolding sized
    value_ran v e lo scope st d c q0 =
        let q = not_composed (composition (a_let f sizes hd p) e) _ _ st d c q0 in
        let x1 = then_ok (ask (has_parameters N types (size_names hd) v (1 + lo + pattern_numbers p)) st) q in
        let x2 = then_ok (sized N types v (size_names hd) (1 + lo + pattern_numbers p) (with_head N types (size_names hd) scope) x1.first.state) x1.rest in
        let x3 = then_ok (finished N types (1 + lo + pattern_numbers p) x2.first.result x2.first.state) x2.rest in
        record {
          value_part = x2.first;
          value = x3.first;
          value_sized = ap (sized N types v (size_names hd) (1 + lo + pattern_numbers p) (with_head N types (size_names hd) scope)) (sym (asked (has_parameters N types (size_names hd) v (1 + lo + pattern_numbers p)) st x1.first x1.done).state) ∙ x2.done;
          value_done = x3.done;
          rest = x3.rest;
        }

    record Inner_ran (e : FlatTerm) (lo mid at : ℕ) (scope : Scope) (t : Size) (st : State) (d : Done Part) : Type 0 where
      inner : Scope
      scope_is : let_scope N types (a_let f sizes hd p) mid t scope ≡ Ok inner
      rest : let_rest e lo at t inner st ≡ Ok d

    inner_ran : (e : FlatTerm) (lo mid at : ℕ) (scope : Scope) (t : Size) (st : State) (d : Done Part) → let_inner e lo mid at scope t st ≡ Ok d → Inner_ran e lo mid at scope t st d
    inner_ran e lo mid at scope t st d q =
        let x1 = then_ok (ask (let_scope N types (a_let f sizes hd p) mid t scope) st) q in
        let a1 = asked (let_scope N types (a_let f sizes hd p) mid t scope) st x1.first x1.done in
        record { inner = x1.first.result; scope_is = a1.answer; rest = ap (let_rest e lo at t x1.first.result) (sym a1.state) ∙ x1.rest }

    record Body_ran (e : FlatTerm) (lo at : ℕ) (inner : Scope) (t : Size) (st : State) (d : Done Part) : Type 0 where
      pattern : Done (Unit {0})
      body_part : Done Part
      body : Done Size
      pattern_is : pattern_noted N types p (1 + lo) t st ≡ Ok pattern
      body_sized : sized N types e [] at inner pattern.state ≡ Ok body_part
      body_done : finished N types at body_part.result body_part.state ≡ Ok body
      rest : and_then (ask (leaving lo (names p ++ bind_ids sizes) body.result)) (λ r. give (whole r)) body.state ≡ Ok d

    body_ran : (e : FlatTerm) (lo at : ℕ) (inner : Scope) (t : Size) (st : State) (d : Done Part) → let_rest e lo at t inner st ≡ Ok d → Body_ran e lo at inner t st d
    body_ran e lo at inner t st d q =
        let x1 = then_ok (pattern_noted N types p (1 + lo) t st) q in
        let x2 = then_ok (sized N types e [] at inner x1.first.state) x1.rest in
        let x3 = then_ok (finished N types at x2.first.result x2.first.state) x2.rest in
        record { pattern = x1.first; body_part = x2.first; body = x3.first; pattern_is = x1.done; body_sized = x2.done; body_done = x3.done; rest = x3.rest }

    left_ran : (lo : ℕ) (xs : List ℕ) (u : Size) (st : State) (d : Done Part) → and_then (ask (leaving lo xs u)) (λ r. give (whole r)) st ≡ Ok d → (r : Size) × (leaving lo xs u ≡ Ok r) × (◌≡◌ {A = Answer (Done Part)} (Ok (record { result = whole r; state = st })) (Ok d))
    left_ran lo xs u st d q =
        let x1 = then_ok (ask (leaving lo xs u) st) q in
        let a1 = asked (leaving lo xs u) st x1.first x1.done in
        (x1.first.result, a1.answer, ap (λ w. Ok (record { result = whole x1.first.result; state = w })) (sym a1.state) ∙ x1.rest)

    let_ran : (v e : FlatTerm) (lo : ℕ) (scope : Scope) (st : State) (d : Done Part) → composition (a_let f sizes hd p) e ≡ None → sized N types (Let (a_let f sizes hd p) v e) [] lo scope st ≡ Ok d → Let_ran v e lo scope st d
    let_ran v e lo scope st d c q = record {
      value_part = V.value_part;
      value = V.value;
      inner = I.inner;
      pattern = B.pattern;
      body_part = B.body_part;
      body = B.body;
      left = L.0;
      value_sized = V.value_sized;
      value_done = V.value_done;
      scope_is = I.scope_is;
      pattern_is = B.pattern_is;
      body_sized = B.body_sized;
      body_done = B.body_done;
      leaving_is = L.1;
      gives = L.2;
    }
      where
        V : Value_ran v e lo (1 + lo + pattern_numbers p) (1 + lo + pattern_numbers p + numbers v) scope st d
        V = value_ran v e lo scope st d c q

        I : Inner_ran e lo (1 + lo + pattern_numbers p) (1 + lo + pattern_numbers p + numbers v) scope V.value.result V.value.state d
        I = inner_ran e lo (1 + lo + pattern_numbers p) (1 + lo + pattern_numbers p + numbers v) scope V.value.result V.value.state d V.rest

        B : Body_ran e lo (1 + lo + pattern_numbers p + numbers v) I.inner V.value.result V.value.state d
        B = body_ran e lo (1 + lo + pattern_numbers p + numbers v) I.inner V.value.result V.value.state d I.rest

        L : (r : Size) × (leaving lo (names p ++ bind_ids sizes) B.body.result ≡ Ok r) × (◌≡◌ {A = Answer (Done Part)} (Ok (record { result = whole r; state = B.body.state })) (Ok d))
        L = left_ran lo (names p ++ bind_ids sizes) B.body.result B.body.state d B.rest

  let_bound : (sizes : List BindId) (p : FlatPattern) (at : ℕ) (t : Size) (scope inner : Scope) → let_scope N types (a_let false sizes [] p) at t scope ≡ Ok inner → (k : Taken) × (bound_by N sizes at p t scope ≡ Ok k) × (inner ≡ k.scope)
  let_bound sizes p at t scope inner e = let x1 = then_ok (bound_by N sizes at p t scope) e in (x1.first, x1.done, sym (same_ok x1.rest))

  module _ (data_places : 1 ≤ level places) where
    narrower : (In : Free → Type 0) (lo hi lo' hi' : ℕ) → lo ≤ lo' → hi' ≤ hi → Elsewhere N types home lo hi In → Elsewhere N types home lo' hi' In
    narrower In lo hi lo' hi' a b E = elsewhere_narrower N types home lo hi lo' hi' In a b E

    abbrev Law : FlatTerm → Type 1
    Law e = Law_of N types home K places e

    -- a function under the size names of a head
    abbrev pub Law_headed : FlatTerm → Type 1
    Law_headed v = (bs : List ℕ) (In : Free → Type 0) (Vars : Variable → Type 0) (scope : Scope) (T : TypeScope) (lo : ℕ) (st : State) (d : Done Part) → Is_lambda v → Plain_headed types home K places N bs v lo → Plain_term types home K places N v lo → Typed N places v lo T K types
        → Known_names (With_head bs In) Vars home (with_head N types bs scope) K types T → Elsewhere N types home lo (lo + numbers v) In → sized N types v bs lo (with_head N types bs scope) st ≡ Ok d → Waits N types home In Vars scope v lo (lo + numbers v) st d.result d.state

    -- ---- a let of a value

    module _ (sizes : List BindId) (p : FlatPattern) (v e : FlatTerm) (lv : Law v) (hv : Law_headed v) (le : Law e) (In : Free → Type 0) (Vars : Variable → Type 0) (scope : Scope) (T : TypeScope) (lo mid at hi : ℕ) (m1 : 1 + lo + pattern_numbers p ≡ mid) (m2 : mid + numbers v ≡ at) (m3 : at + numbers e ≡ hi) (st : State) (d : Done Part) (R : Let_ran false sizes [] p v e lo scope st d)
        (plain : Plain_sizes types home K places sizes p (1 + lo)) (fits : Pattern_typed N places K types p (1 + lo) (typed_with_sizes sizes T)) (l2 : mid < at) (l3 : at < hi) (E : Elsewhere N types home lo hi In) (known : Known_names In Vars home scope K types T) (pv : Plain_term types home K places N v mid) (tv : Typed N places v mid T K types) (t1 : types (1 + lo) ≡ types mid) where
      X : Meets N types home In Vars scope v mid at st R.value.result R.value.state
      X = subst (λ n. Meets N types home In Vars scope v mid n st R.value.result R.value.state) m2 (alone N types home K places v lv In Vars scope T mid st R.value_part R.value pv tv known (narrower In lo hi mid (mid + numbers v) (omega (arith, m1)) (omega (arith, m2, m3)) E)
          (ap (λ n. sized N types v [] n scope st) (sym m1) ∙ R.value_sized) (ap (λ n. finished N types n R.value_part.result R.value_part.state) (sym m1) ∙ R.value_done))

      lambda_knows : Is_lambda v → Each (Scoped (λ x. In x ⊎ Is_const x)) 0 R.value.result
      lambda_knows i = function_knows N types home In Vars scope v mid (mid + numbers v) st R.value_part.result R.value_part.state R.value
          (hv [] In Vars scope T mid st R.value_part i (headed_none types home K places N v i mid) pv tv (known_headless N types home K places In Vars scope T known) (narrower In lo hi mid (mid + numbers v) (omega (arith, m1)) (omega (arith, m2, m3)) E) (ap (λ n. sized N types v [] n scope st) (sym m1) ∙ R.value_sized))
          (ap (λ n. finished N types n R.value_part.result R.value_part.state) (sym m1) ∙ R.value_done)

      value_data : HasKind K places (types mid) → Data R.value.result
      value_data k = data_of K R.value.result X.says.formed (let r : level places ≤ rank K (erased R.value.result) = subst (λ w. level places ≤ rank K w) (sym X.typed) k in omega (arith, r, data_places))

      abbrev ran : (k : Taken) × (bound_by N sizes (1 + lo + pattern_numbers p) p R.value.result scope ≡ Ok k) × (R.inner ≡ k.scope)
      ran = let_bound sizes p (1 + lo + pattern_numbers p) R.value.result scope R.inner R.scope_is

      abbrev In2 : Free → Type 0
      In2 d = Bound_in N types home K places In Vars scope T sizes p R.value.result lo (1 + lo) mid at hi d

      abbrev inner2 : Scope
      inner2 = scope_behind N types home K places In Vars scope T sizes p R.value.result lo (1 + lo) mid at hi

      data_binds : HasKind K places (types mid) → Binds N types home K places In Vars scope T sizes p R.value.result lo (1 + lo) mid at hi ran.0
      data_binds k = let settled = says_settled (With_met In mid at) Vars R.value.result (met_settled N types home In lo hi mid at E) X.says in
          binds N types home K places In Vars scope T R.value.result lo (1 + lo + pattern_numbers p) (1 + lo) mid at hi (omega arith) E X.says (value_data k) settled.0 settled.1 (X.typed ∙ sym t1) known sizes p (omega (arith, m1, l2, l3)) plain fits ran.0 ran.1

      -- a name of a function
      function_binds : (r : FlatPattern) → Is_bound r → Is_lambda v → Plain_pattern types home K places r (1 + lo) → 1 + lo + pattern_numbers r ≤ hi → Pattern_typed N places K types r (1 + lo) T → (k : Taken) → bound_by N [] (1 + lo + pattern_numbers p) r R.value.result scope ≡ Ok k → Binds N types home K places In Vars scope T [] r R.value.result lo (1 + lo) mid at hi k
      function_binds r b i pr l fr k q = plain_binds N types home K places In Vars scope T r R.value.result lo (1 + lo) mid at hi pr fr (omega arith) l E k
          (name_taken types home K places N (1 + lo + pattern_numbers p) r b R.value.result (record { scope = scope; found = counted 0 nothing_found }) k (bound_ran N (1 + lo + pattern_numbers p) r R.value.result scope k q))
          (function_behind N types home K places (With_head [] In) Vars scope r R.value.result lo (1 + lo) mid at hi (says_more (With_met In mid at) (With_met (With_head [] In) mid at) Vars R.value.result more X.says) (each_scoped (λ x. In x ⊎ Is_const x) (λ x. With_head [] In x ⊎ Is_const x) known_more R.value.result 0 (lambda_knows i))) (X.typed ∙ sym t1)
        where
          more : (d : Free) → With_met In mid at d → With_met (With_head [] In) mid at d
          more d (inl j) = inl (inl j)
          more d (inr m) = inr m

          known_more : (d : Free) → In d ⊎ Is_const d → With_head [] In d ⊎ Is_const d
          known_more d (inl j) = inl (inl j)
          known_more d (inr c) = inr c

      module _ (B : Binds N types home K places In Vars scope T sizes p R.value.result lo (1 + lo) mid at hi ran.0) (pe : Plain_term types home K places N e at) (te : Typed N places e at (typed_with the_one p (1 + lo) (typed_with_sizes sizes T)) K types) where
        parts : (d : Free) → In2 d → In_parts N types home K places In Vars scope T sizes p R.value.result lo (1 + lo) mid at hi d
        parts d i = split N types home K places In Vars scope T sizes p R.value.result lo (1 + lo) mid at hi (pattern_plain N types home K places sizes p (1 + lo) plain) d i

        at_home : (c : ℕ) → is_among (names p ++ bind_ids sizes) c ≡ true → (1 + lo ≤ home c) × (home c < mid)
        at_home c z = let h = B.at_home c z in let y = h.1 in (h.0, omega (arith, y, m1))

        now : at ≡ 1 + lo + pattern_numbers p + numbers v
        now = sym m2 ∙ ap (λ n. n + numbers v) (sym m1)

        Y : Meets N types home In2 Vars inner2 e at hi R.pattern.state R.body.result R.body.state
        Y = subst (λ n. Meets N types home In2 Vars inner2 e at n R.pattern.state R.body.result R.body.state) m3
            (alone N types home K places e le In2 Vars inner2 (typed_with the_one p (1 + lo) (typed_with_sizes sizes T)) at R.pattern.state R.body_part R.body pe te (B.known known)
            (subst (λ n. Elsewhere N types home at n In2) (sym m3) (parts_elsewhere In In2 Vars scope sizes p R.value.result (width N types home K places In Vars scope T sizes p R.value.result lo (1 + lo) mid at hi) lo mid at hi m1 l2 l3 E parts at_home))
            (ap (λ w. sized N types e [] at w R.pattern.state) (sym (ran.2 ∙ B.scope_is)) ∙ ap (λ n. sized N types e [] n R.inner R.pattern.state) now ∙ R.body_sized) (ap (λ n. finished N types n R.body_part.result R.body_part.state) now ∙ R.body_done))

        let_meets : types lo ≡ types at → Inner N types home In Vars scope (Let (a_let false sizes [] p) v e) lo hi st R.left R.body.state
        let_meets t2 = any_let_meets In In2 Vars scope sizes p R.value.result (width N types home K places In Vars scope T sizes p R.value.result lo (1 + lo) mid at hi) lo mid at hi m1 l2 l3 E parts at_home v e [] false st R.value.state R.pattern.state R.body.state R.body.result R.left m2 m3 t2
            (B.noted R.value.state R.pattern R.pattern_is) B.says (leaves lo (names p ++ bind_ids sizes) R.body.result R.left R.leaving_is) (what sizes ran.0.found) B.takes B.sizes_met inner2 X Y
            (λ s G J nodes at_value sized_let of_body. inl (sized_let, of_body (with_pattern s p (1 + lo) (context_with_sizes (bind_ids sizes) G)) (B.judged s G J nodes)))

    any_binds : (sizes : List BindId) (p : FlatPattern) (v e : FlatTerm) (lv : Law v) (hv : Law_headed v) (le : Law e) (In : Free → Type 0) (Vars : Variable → Type 0) (scope : Scope) (T : TypeScope) (lo mid at hi : ℕ) (m1 : 1 + lo + pattern_numbers p ≡ mid) (m2 : mid + numbers v ≡ at) (m3 : at + numbers e ≡ hi) (st : State) (d : Done Part) (R : Let_ran false sizes [] p v e lo scope st d)
        (plain : Plain_sizes types home K places sizes p (1 + lo)) (fits : Pattern_typed N places K types p (1 + lo) (typed_with_sizes sizes T)) (l2 : mid < at) (l3 : at < hi) (E : Elsewhere N types home lo hi In) (known : Known_names In Vars home scope K types T) (pv : Plain_term types home K places N v mid) (tv : Typed N places v mid T K types) (t1 : types (1 + lo) ≡ types mid)
        → HasKind K places (types mid) ⊎ (Is_lambda v × Is_bound p) → Binds N types home K places In Vars scope T sizes p R.value.result lo (1 + lo) mid at hi (ran sizes p v e lv hv le In Vars scope T lo mid at hi m1 m2 m3 st d R plain fits l2 l3 E known pv tv t1).0
    any_binds sizes p v e lv hv le In Vars scope T lo mid at hi m1 m2 m3 st d R plain fits l2 l3 E known pv tv t1 (inl k) = data_binds sizes p v e lv hv le In Vars scope T lo mid at hi m1 m2 m3 st d R plain fits l2 l3 E known pv tv t1 k
    any_binds [] p v e lv hv le In Vars scope T lo mid at hi m1 m2 m3 st d R plain fits l2 l3 E known pv tv t1 (inr w) = let q = ran [] p v e lv hv le In Vars scope T lo mid at hi m1 m2 m3 st d R plain fits l2 l3 E known pv tv t1 in
        function_binds [] p v e lv hv le In Vars scope T lo mid at hi m1 m2 m3 st d R plain fits l2 l3 E known pv tv t1 p w.1 w.0 plain (omega (arith, m1, l2, l3)) fits q.0 q.1
    any_binds (x ∷ xs) (Bound_pattern b) v e lv hv le In Vars scope T lo mid at hi m1 m2 m3 st d R plain fits l2 l3 E known pv tv t1 (inr w) = absurd plain
    any_binds (x ∷ xs) Wild_pattern v e lv hv le In Vars scope T lo mid at hi m1 m2 m3 st d R plain fits l2 l3 E known pv tv t1 (inr w) = absurd plain
    any_binds (x ∷ xs) (Tuple_pattern ps) v e lv hv le In Vars scope T lo mid at hi m1 m2 m3 st d R plain fits l2 l3 E known pv tv t1 (inr w) = absurd plain
    any_binds (x ∷ xs) (Record_pattern fs ps) v e lv hv le In Vars scope T lo mid at hi m1 m2 m3 st d R plain fits l2 l3 E known pv tv t1 (inr w) = absurd plain
    any_binds (x ∷ xs) (Typed_pattern r u) v e lv hv le In Vars scope T lo mid at hi m1 m2 m3 st d R plain fits l2 l3 E known pv tv t1 (inr w) = absurd w.1

    let_part : (sizes : List BindId) (p : FlatPattern) (v e : FlatTerm) → Law v → Law_headed v → Law e → Law (Let (a_let false sizes [] p) v e)
    let_part sizes p v e lv hv le In Vars scope T lo st d pl t k E q = inl (record {
      size = R.left;
      is_whole = ap (λ (x : Done Part). x.result) (sym (same_ok R.gives));
      inner = subst (λ (x : Done Part). Inner N types home In Vars scope (Let (a_let false sizes [] p) v e) lo (lo + numbers (Let (a_let false sizes [] p) v e)) st R.left x.state) (same_ok R.gives)
          (subst (λ n. Inner N types home In Vars scope (Let (a_let false sizes [] p) v e) lo n st R.left R.body.state) (sym last) I);
    })
      where
        R : Let_ran false sizes [] p v e lo scope st d
        R = let_ran false sizes [] p v e lo scope st d pl.1 q

        last : lo + numbers (Let (a_let false sizes [] p) v e) ≡ 1 + lo + pattern_numbers p + numbers v + numbers e
        last = omega arith

        l2 : 1 + lo + pattern_numbers p < 1 + lo + pattern_numbers p + numbers v
        l2 = let n = numbers_some v in omega (arith, n)

        l3 : 1 + lo + pattern_numbers p + numbers v < 1 + lo + pattern_numbers p + numbers v + numbers e
        l3 = let n = numbers_some e in omega (arith, n)

        I : Inner N types home In Vars scope (Let (a_let false sizes [] p) v e) lo (1 + lo + pattern_numbers p + numbers v + numbers e) st R.left R.body.state
        I = let_meets sizes p v e lv hv le In Vars scope T lo (1 + lo + pattern_numbers p) (1 + lo + pattern_numbers p + numbers v) (1 + lo + pattern_numbers p + numbers v + numbers e) refl refl refl st d R pl.0 t.0.0.0.0 l2 l3 (subst (λ n. Elsewhere N types home lo n In) last E) k pl.3 t.0.0.0.1 t.0.0.1
            (any_binds sizes p v e lv hv le In Vars scope T lo (1 + lo + pattern_numbers p) (1 + lo + pattern_numbers p + numbers v) (1 + lo + pattern_numbers p + numbers v + numbers e) refl refl refl st d R pl.0 t.0.0.0.0 l2 l3 (subst (λ n. Elsewhere N types home lo n In) last E) k pl.3 t.0.0.0.1 t.0.0.1 pl.2) pl.4 t.0.1 t.1

    -- ---- a function under a name

    module _ (hd : List (Parameter BindId)) (x : BindId) (v e : FlatTerm) (hv : Law_headed v) (le : Law e) (In : Free → Type 0) (Vars : Variable → Type 0) (scope : Scope) (T : TypeScope) (lo mid at hi : ℕ) (m1 : 1 + lo + 1 ≡ mid) (m2 : mid + numbers v ≡ at) (m3 : at + numbers e ≡ hi) (st : State) (d : Done Part) (R : Let_ran true [] hd (Bound_pattern x) v e lo scope st d) (plain : home x.0 ≡ 1 + lo) (lambda : Is_lambda v) (formed : Formed_type (types (1 + lo))) (are : Are_sizes hd) (ph : Plain_headed types home K places N (size_names hd) v mid)
        (pv : Plain_term types home K places N v mid) (chosen : Sub) (tv : Typed N places v mid (with_parameters hd chosen T) K types) (t1 : types (1 + lo) ≡ types mid) (known : Known_names In Vars home scope K types T) (E : Elsewhere N types home lo hi In) (l2 : mid < at) (l3 : at < hi) (uses : Uses) (arrow : (u : Ty) → uses K types u → (a : Ty) × (c : Ty) × (u ≡ fun_ty a c)) (pe : Plain_term types home K places N e at) (te : Typed N places e at (with_uses x.0 uses T) K types) where
      waits : Waits N types home In Vars scope v mid (mid + numbers v) st R.value_part.result R.value_part.state
      waits = hv (size_names hd) In Vars scope (with_parameters hd chosen T) mid st R.value_part lambda ph pv tv (known_headed N types home K places In Vars hd chosen scope T are known) (narrower In lo hi mid (mid + numbers v) (omega (arith, m1)) (omega (arith, m2, m3)) E)
          (ap (λ n. sized N types v (size_names hd) n (with_head N types (size_names hd) scope) st) (sym m1) ∙ R.value_sized)

      value_done : finished N types mid R.value_part.result R.value_part.state ≡ Ok R.value
      value_done = ap (λ n. finished N types n R.value_part.result R.value_part.state) (sym m1) ∙ R.value_done

      function_value : Meets N types home In Vars scope v mid at st R.value.result R.value.state
      function_value = subst (λ n. Meets N types home In Vars scope v mid n st R.value.result R.value.state) m2
          (finished_meets N types home In Vars scope v mid (mid + numbers v) st R.value_part.result R.value_part.state R.value (let n = numbers_some v in omega (arith, n)) (narrower In lo hi mid (mid + numbers v) (omega (arith, m1)) (omega (arith, m2, m3)) E) (inr (inl waits)) value_done)

      value_arrow : (a : Ty) × (c : Ty) × (types mid ≡ fun_ty a c)
      value_arrow = lambda_arrow N types home K places types v mid (with_parameters hd chosen T) lambda tv

      F : Function_size R.value.result value_arrow.0 value_arrow.1
      F = function_is R.value.result value_arrow.0 value_arrow.1 function_value.says.formed (function_value.typed ∙ value_arrow.2)

      abbrev size : Size
      size = Fun F.chosen F.from F.to

      abbrev Function_in : Free → Type 0
      Function_in d = Behind_function N types home K places In Vars scope x F.chosen F.from F.to lo (1 + lo) mid at hi d

      abbrev inner : Scope
      inner = with_function N types K places Function_in Vars home x (Fun F.chosen F.from F.to) scope

      inner_is : R.inner ≡ inner
      inner_is = sym (same_ok R.scope_is) ∙ ap (λ w. with_general N types (Bound_pattern x) w scope) F.is_function

      sized_function : Meets N types home In Vars scope v mid at st size R.value.state
      sized_function = subst (λ w. Meets N types home In Vars scope v mid at st w R.value.state) F.is_function function_value

      closed : Each_hole None_there size
      closed = closed_of size sized_function.says.formed (subst Formed_type (t1 ∙ sym sized_function.typed) formed)

      says : Says Function_in Vars size
      says = function_behind N types home K places In Vars scope (Bound_pattern x) size lo (1 + lo) mid at hi sized_function.says (subst (λ w. Each (Scoped (λ y. In y ⊎ Is_const y)) 0 w) F.is_function (function_knows N types home In Vars scope v mid (mid + numbers v) st R.value_part.result R.value_part.state R.value waits value_done))

      wider_known : Known_names Function_in Vars home scope K types T
      wider_known b u a = known_wider N types K places Function_in Vars home In Vars (λ y i. inl i) (λ y i. i) scope b u (known b u a)

      body_known : Known_names Function_in Vars home inner K types (with_uses x.0 uses T)
      body_known = known_general N types K places Function_in Vars home x (Fun F.chosen F.from F.to) scope T uses says closed (sized_function.typed ∙ sym t1 ∙ ap types (sym plain)) (λ w a. inl (arrow w a)) (λ z. absurd (let y : false ≡ true = z in cc)) wider_known

      body_at : at ≡ 1 + lo + 1 + numbers v
      body_at = sym m2 ∙ ap (λ n. n + numbers v) (sym m1)

      function_body : Meets N types home Function_in Vars inner e at hi R.pattern.state R.body.result R.body.state
      function_body = subst (λ n. Meets N types home Function_in Vars inner e at n R.pattern.state R.body.result R.body.state) m3
          (alone N types home K places e le Function_in Vars inner (with_uses x.0 uses T) at R.pattern.state R.body_part R.body pe te body_known
          (subst (λ n. Elsewhere N types home at n Function_in) (sym m3) (behind_elsewhere N types home K places In Vars scope (Bound_pattern x) size lo (1 + lo) mid at hi plain (omega arith) (omega (arith, m1, l2)) (omega (arith, l3)) E))
          (ap (λ w. sized N types e [] at w R.pattern.state) (sym inner_is) ∙ ap (λ n. sized N types e [] n R.inner R.pattern.state) body_at ∙ R.body_sized) (ap (λ n. finished N types n R.body_part.result R.body_part.state) body_at ∙ R.body_done))

      fresh : In (Name x.0) → ⊥
      fresh i = E.outside (Name x.0) i (omega (arith, plain), omega (arith, plain, m1, l2, l3))

      function_parts : (d : Free) → Function_in d → In d ⊎ (Met_in mid at d ⊎ ((b : ℕ) × (d ≡ Name b) × (is_among (x.0 ∷ []) b ≡ true)))
      function_parts d (inl i) = inl i
      function_parts d (inr (inl m)) = inr (inl m.0)
      function_parts d (inr (inr n)) = inr (inr (x.0, n.0, ap (λ c. cond c true false) (eq-eqb x.0 x.0 refl)))

      name_home : (c : ℕ) → is_among (x.0 ∷ []) c ≡ true → (1 + lo ≤ home c) × (home c < mid)
      name_home c e = let w = names_home types home K places (Bound_pattern x) (1 + lo) plain c e in let y = w.1 in (w.0, omega (arith, y, m1))

      function_whole : types lo ≡ types at → Inner N types home In Vars scope (Let (a_let true [] hd (Bound_pattern x)) v e) lo hi st R.left R.body.state
      function_whole t2 = any_let_meets In Function_in Vars scope [] (Bound_pattern x) size size lo mid at hi m1 l2 l3 E function_parts name_home v e hd true st R.value.state R.pattern.state R.body.state R.body.result R.left m2 m3 t2
          (noted_is types home K places N (Bound_pattern x) (1 + lo) plain size tt R.value.state R.pattern (ap (λ w. pattern_noted N types (Bound_pattern x) (1 + lo) w R.value.state) (sym F.is_function) ∙ R.pattern_is)) says (leaves lo (x.0 ∷ []) R.body.result R.left R.leaving_is)
          (λ c. Const 0) (λ s n. takes_it types home K places N s (taken_by (λ c. Const 0) []) (not_taken (λ c. Const 0)) (Bound_pattern x) (1 + lo) plain size tt n) (λ c y. absurd (let z : false ≡ true = y in cc)) inner sized_function function_body
          (λ s G J nodes at_value sized_let of_body.
          let at_pattern : s (1 + lo) ≡ size = nodes in
          let A = generalised N types home hd x v lo mid at hi s G lambda J.none_open (at_pattern ∙ sym at_value) sized_let in
          inr (A, of_body (with_scheme x.0 (s (1 + lo)) A.new (with_entered (s (1 + lo)) G)) (function_judged N types home K places In Vars scope x F.chosen F.from F.to lo (1 + lo) mid at hi s G at_pattern (hole_as None_there Any_variable (λ y i. tt) size closed) A.new fresh J)))

    function_part : (hd : List (Parameter BindId)) (x : BindId) (v e : FlatTerm) → Law_headed v → Law e → Law (Let (a_let true [] hd (Bound_pattern x)) v e)
    function_part hd x v e hv le In Vars scope T lo st d pl t k E q = inl (record {
      size = R.left;
      is_whole = ap (λ (y : Done Part). y.result) (sym (same_ok R.gives));
      inner = subst (λ (y : Done Part). Inner N types home In Vars scope (Let (a_let true [] hd (Bound_pattern x)) v e) lo (lo + numbers (Let (a_let true [] hd (Bound_pattern x)) v e)) st R.left y.state) (same_ok R.gives)
          (subst (λ n. Inner N types home In Vars scope (Let (a_let true [] hd (Bound_pattern x)) v e) lo n st R.left R.body.state) (sym last) I);
    })
      where
        R : Let_ran true [] hd (Bound_pattern x) v e lo scope st d
        R = let_ran true [] hd (Bound_pattern x) v e lo scope st d pl.1 q

        last : lo + numbers (Let (a_let true [] hd (Bound_pattern x)) v e) ≡ 1 + lo + 1 + numbers v + numbers e
        last = omega arith

        uses : Uses
        uses = Reused places (let_scheme N places (a_let true [] hd (Bound_pattern x)) v lo T (Typed N places v (1 + lo + 1))) (1 + lo)

        arrow : (u : Ty) → uses K types u → (a : Ty) × (c : Ty) × (u ≡ fun_ty a c)
        arrow u w = let y = lambda_arrow N types home K places w.2.0.other v (1 + lo + 1) (with_parameters hd w.0 T) pl.0.2 w.2.0.typed.0.1 in (y.0, y.1, w.2.1 ∙ w.2.0.typed.1 ∙ y.2)

        I : Inner N types home In Vars scope (Let (a_let true [] hd (Bound_pattern x)) v e) lo (1 + lo + 1 + numbers v + numbers e) st R.left R.body.state
        I = function_whole hd x v e hv le In Vars scope T lo (1 + lo + 1) (1 + lo + 1 + numbers v) (1 + lo + 1 + numbers v + numbers e) refl refl refl st d R pl.0.0 pl.0.2 pl.0.3 pl.0.4 pl.0.5 pl.3 (own_types places hd) t.0.0.1.0.0.1 t.0.0.1.0.1 k
            (subst (λ n. Elsewhere N types home lo n In) last E) (let n = numbers_some v in omega (arith, n)) (let n = numbers_some e in omega (arith, n)) uses arrow pl.4 t.0.1 t.1

    -- of what is bound, in whatever form it is written
    pub any_let : (sizes : List BindId) (parameters : List (Parameter BindId)) (is_function : Bool) (p : FlatPattern) (v e : FlatTerm) → Law v → Law_headed v → Law e → Law (Let (record { sizes = sizes; parameters = parameters; is_function = is_function; pattern = p }) v e)
    any_let sizes [] false p v e lv hv le = let_part sizes p v e lv hv le
    any_let sizes (x ∷ xs) false p v e lv hv le = λ In Vars scope T lo st d pl t known E q. absurd pl.0
    any_let (x ∷ xs) ps true p v e lv hv le = λ In Vars scope T lo st d pl t known E q. absurd pl.0
    any_let [] ps true (Bound_pattern x) v e lv hv le = function_part ps x v e hv le
    any_let [] ps true Wild_pattern v e lv hv le = λ In Vars scope T lo st d pl t known E q. absurd pl.0.1
    any_let [] ps true (Tuple_pattern qs) v e lv hv le = λ In Vars scope T lo st d pl t known E q. absurd pl.0.1
    any_let [] ps true (Record_pattern fs qs) v e lv hv le = λ In Vars scope T lo st d pl t known E q. absurd pl.0.1
    any_let [] ps true (Typed_pattern p u) v e lv hv le = λ In Vars scope T lo st d pl t known E q. absurd pl.0.1
