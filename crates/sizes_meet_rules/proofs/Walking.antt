-- Each term of these forms meets the rules where it is sized.
use Rattle.std.proofs.Common.{◌≡◌, ◌⊎◌, ℕ, suc, ◌+◌, ◌<◌, ◌≤◌, List, [], Bool, true, false, ◌||◌, Some, None, Ok, refl, sym, ap, ◌∙◌, subst, arith, inl, inr}
use Rattle.fut_scalar.specs.declared.place.BindId.{BindId}
use Rattle.fut_scalar.specs.declared.place.Place.{Place}
use Rattle.fut_flat.specs.declared.prim.Primitive.{Primitive}
use Rattle.fut_flat.specs.declared.prim.Ref.{Ref}
use Rattle.fut_flat.specs.declared.prim.Ref.TheVariants as ref
use Rattle.fut_flat.specs.Numbers.{pattern_numbers, all_pattern_numbers, own_numbers, numbers, all_numbers, turn_numbers}
use Rattle.fut_flat.specs.Terms.{Size_term, Size_use, Array_type, Unique_type, Tuple_type, Record_type, Type_terms, no_type, type_and, Coerce, Declared, Patterns, no_pattern, pattern_and, Operation, Binary, Project, Use, Strict, Lambda, Apply, Let, If, Loop, Terms, no_term, term_and, Counted, Over, While}
use Rattle.fut_flat.specs.Erased.{FlatTerm, FlatType, FlatTurns, FlatPattern}
use Rattle.fut_types.specs.declared.Kind.{Kind}
use Rattle.fut_types.specs.Types.{Ty, fun_ty, more, Sub, Kinds, HasKind, rank, level}
use Rattle.fut_typing.specs.Names.{Names}
use Rattle.fut_typing.specs.Patterns.{pattern_types, arrows, with_patterns as all_typed_with}
use Rattle.fut_typing.specs.Scopes.{Scope as TypeScope, the_one}
use Rattle.fut_typing.specs.Primitives.{i64_ty}
use Rattle.fut_typing.specs.Rules.{Rule, Written}
use Rattle.fut_typing.specs.Typing.{operand, term_types, Typed, All_typed}
use Rattle.sized_types.specs.Sizes.{Free, Const, Name, Own, Unknown, Slot, Variable, Size, Sizes, no_size, size_and, erased, all_erased, levels}
use Rattle.fut_sizes.specs.Agreeing.{is_among, Answer, kept}
use Rattle.fut_sizes.specs.Applications.{Want, Met, Part, Applied, whole}
use Rattle.fut_sizes.specs.Operations.{operation}
use Rattle.fut_sizes.specs.Primitives.{prim_size}
use Rattle.fut_sizes.specs.Rules.{Filled_use, Size_found, Sizes_found, All_sizes_found, Compared_found, Outside, Takes, Away, part_sizes, Branches, Sized, All_sized}
use Rattle.fut_sizes.specs.Scopes.{Scope, used, all_names}
use Rattle.fut_sizes.specs.Scoping.{Context}
use Rattle.fut_sizes.specs.Sizing.{Entered, all_entered, own_sizes, finished, second_noted, with_head, all_part_names, sized, all_sized, turns_sized, turns_from}
use Rattle.fut_sizes.specs.Steps.{State, Done, ask}
use Rattle.fut_sizes.specs.Suiting.{Each, Scoped, Data}
use Rattle.sizes_meet_rules.specs.Known.{Says, Is_const, Known_name, Known_names, Judged, Elsewhere}
use Rattle.sizes_meet_rules.specs.Plain.{Is_lambda, Plain_parts, Plain_patterns, Plain_operation, Plain_term, Plain_terms}
use Rattle.sizes_meet_rules.proofs.Replacing.{all_each_as}
use Rattle.sizes_meet_rules.proofs.Forming.{data_of, erased_kept, formed_kept, variables_kept, sizes_kept}
use Rattle.sizes_meet_rules.proofs.Meeting.{Then_ok, then_ok, Asked, asked, same_ok, at_itself, at_another, Met_in, With_met, each_scoped, met_wider, met_outside, says_more, scoped_as, elsewhere_narrower, away_of, Inner, Meets, In_nodes, Around, Data_wanted, stands_wanted, Same_parameters, Wide_ran, Part_meets}
use Rattle.sizes_meet_rules.proofs.Showing.{own_some, numbers_some, Law_of, Wide_law, alone, sizes_written}
use Rattle.sizes_meet_rules.proofs.Letting.{Law_headed, any_let}
use Rattle.sizes_meet_rules.proofs.Looping.{Law_turns, Loop_ran, Loop_meets, loop_meets}
use Rattle.sizes_meet_rules.proofs.Binding.{leaves}
use Rattle.sizes_meet_rules.proofs.Coming.{Come_as, come_of, come_as, wanted_in, All_entered, wanted_is, all_come, standing_wanted, function_shape}
use Rattle.sizes_meet_rules.proofs.Entering.{takings, all_bound, Own_nodes, own_nodes_as, Lambda_ran, lambda_ran, after_rest}
use Rattle.sizes_meet_rules.proofs.Finding.{standing, Unnamed_by, takes_less, with_standing, with_standing_same}
use Rattle.sizes_meet_rules.proofs.Primitives.{closed_is, closed_typed, closed_says}
use Rattle.sizes_meet_rules.proofs.Applied.{apply_part}
use Rattle.sizes_meet_rules.proofs.Spines.{Spine_law, use_spine, primitive_spine, apply_spine}
use Rattle.sizes_meet_rules.proofs.Parameters.{All_come, Come_head, none_headed, Rest, all_rest, own_head, own_come}
use Rattle.sizes_meet_rules.proofs.Wanting.{lambda_goes, lambda_waits, Went, went, as_alone}
use Rattle.sizes_meet_rules.proofs.Heading.{headless, heads_there, judged_headed, known_headless}
use Rattle.sizes_meet_rules.proofs.Functions.{Unmet, met_between}
use Rattle.fut_sizes.specs.Functions.{Taking, is_slot, function_size}
use Rattle.fut_sizes.specs.Matching.{Found, nothing_found, none_opened, function_way, meet}
use Rattle.sizes_meet_rules.proofs.Taking.{all_names_home}
use Rattle.sizes_meet_rules.proofs.Naming.{With_head, known_wider, or_first, or_later, no_function, number_name}
use Rattle.sizes_meet_rules.proofs.Using.{use_is, use_rules, used_itself, used_closed}
use Rattle.sizes_meet_rules.proofs.Settling.{noted}
use Rattle.sizes_meet_rules.proofs.Operating.{Size_written, Sizes_written, All_sizes_written, All_say, none_say, more_say, Gives, Written_named, Size_named, Sizes_named, number_is, operation_gives}

second_apart : (lo n : ℕ) → (n < lo) ⊎ (lo + 2 ≤ n) → 1 + lo ≡ n → ⊥
second_apart lo n (inl x) q = omega (arith, x, q)
second_apart lo n (inr x) q = omega (arith, x, q)

module _ (N : Names) (types : Sub) where
  tt_state : (w : Done (Unit {0})) (s : State) → ◌≡◌ {A = Answer (Done (Unit {0}))} (Ok (record { result = tt; state = s })) (Ok w) → (n : ℕ) → w.state.nodes n ≡ s.nodes n
  tt_state w s z n = ap (λ (x : Done (Unit {0})). x.state.nodes n) (sym (same_ok z))

  tt_dropped : (w : Done (Unit {0})) (s : State) → ◌≡◌ {A = Answer (Done (Unit {0}))} (Ok (record { result = tt; state = s })) (Ok w) → (n : ℕ) → w.state.dropped n ≡ s.dropped n
  tt_dropped w s z n = ap (λ (x : Done (Unit {0})). x.state.dropped n) (sym (same_ok z))

  -- what an operation notes beside its result
  second_kept : (o : Operation Ref BindId) (lo : ℕ) (us : Sizes) (s : State) (w : Done (Unit {0})) → second_noted N types o lo us s ≡ Ok w → (n : ℕ) → (n < lo) ⊎ (lo + own_numbers o ≤ n) → w.state.nodes n ≡ s.nodes n
  second_kept (Binary op) lo (size_and t ts) s w z n o = tt_state w (noted (1 + lo) t s).state z n ∙ at_another (1 + lo) n t s.nodes (λ q. second_apart lo n o q)
  second_kept (Project f) lo (size_and t ts) s w z n o = tt_state w (noted (1 + lo) t s).state z n ∙ at_another (1 + lo) n t s.nodes (λ q. second_apart lo n o q)
  second_kept (Binary op) lo no_size s w z n o = tt_state w s z n
  second_kept (Project f) lo no_size s w z n o = tt_state w s z n
  second_kept o lo us s w z n y = tt_state w s z n

  second_dropped : (o : Operation Ref BindId) (lo : ℕ) (us : Sizes) (s : State) (w : Done (Unit {0})) → second_noted N types o lo us s ≡ Ok w → (n : ℕ) → w.state.dropped n ≡ s.dropped n
  second_dropped (Binary op) lo (size_and t ts) s w z n = tt_dropped w (noted (1 + lo) t s).state z n
  second_dropped (Project f) lo (size_and t ts) s w z n = tt_dropped w (noted (1 + lo) t s).state z n
  second_dropped (Binary op) lo no_size s w z n = tt_dropped w s z n
  second_dropped (Project f) lo no_size s w z n = tt_dropped w s z n
  second_dropped o lo us s w z n = tt_dropped w s z n

-- the sizes that `:>` compares are known, so they are found
module _ (In : Free → Type 0) (Vars : Variable → Type 0) (scope : Scope) (G : Context) (J : Judged In Vars scope G) (lo hi : ℕ) where
  size_found : (x : Size_term Ref BindId) → Size_written (With_met In lo hi) x → Size_found x G
  size_found (Size_use (ref.Bound b)) (inl i) = by_form (J.finds (Name b.0) i)
    where
      by_form : (G.finds (Name b.0) ≡ true) ⊎ Is_const (Name b.0) → G.finds (Name b.0) ≡ true
      by_form (inl f) = f
      by_form (inr c) = absurd c
  size_found (Size_use (ref.Bound b)) (inr m) = absurd m
  size_found x w = tt

  mutual
    sizes_found : (x : FlatType) → Sizes_written (With_met In lo hi) x → Sizes_found x G
    sizes_found (Array_type d x) w = (size_found d w.0, sizes_found x w.1)
    sizes_found (Unique_type x) w = sizes_found x w
    sizes_found (Tuple_type xs) w = all_sizes_found xs w
    sizes_found (Record_type fs xs) w = all_sizes_found xs w
    sizes_found x w = tt

    all_sizes_found : (xs : Type_terms Ref BindId) → All_sizes_written (With_met In lo hi) xs → All_sizes_found xs G
    all_sizes_found no_type w = tt
    all_sizes_found (type_and x xs) w = (sizes_found x w.0, all_sizes_found xs w.1)

module _ (N : Names) (types : Sub) (home : ℕ → ℕ) (K : Kinds) (places : Kind) (data_places : 1 ≤ level places) where
  module _ (In : Free → Type 0) (Vars : Variable → Type 0) (scope : Scope) where
    compared_found : (G : Context) → Judged In Vars scope G → (lo hi : ℕ) (o : Operation Ref BindId) → Written_named N types K places (With_met In lo hi) Vars (λ c. inr tt) o → Compared_found o G
    compared_found G J lo hi (Coerce x) w = sizes_found In Vars scope G J lo hi x w
    compared_found G J lo hi o w = tt

    abbrev M : FlatTerm → ℕ → ℕ → State → Size → State → Type 0
    M e lo hi st t after = Meets N types home In Vars scope e lo hi st t after

    -- terms in a row
    record Parts_meet (ts : Terms Ref BindId) (lo hi : ℕ) (st : State) (us : Sizes) (after : State) : Type 0 where
      say : All_say (With_met In lo hi) Vars us
      typed : all_erased us ≡ term_types types ts lo
      kept : (n : ℕ) → (n < lo) ⊎ (hi ≤ n) → after.nodes n ≡ st.nodes n
      dropped : (n : ℕ) → (n < lo) ⊎ (hi ≤ n) → after.dropped n ≡ st.dropped n
      rules : (s : ℕ → Size) (G : Context) → Judged In Vars scope G → ((n : ℕ) → lo ≤ n → n < hi → s n ≡ after.nodes n) → All_sized N types s home ts lo hi G × (part_sizes N types s home ts lo ≡ us)

    abbrev Part_of : FlatTerm → ℕ → State → Done Part → Type 0
    Part_of e lo st d = Part_meets N types home In Vars scope e lo (lo + numbers e) st d.result d.state

    -- what a term in scope and those of its parts say is away from the nodes before and behind it
    apart : (lo hi lo' hi' from to : ℕ) (s : ℕ → Size) (t : Size) → Elsewhere N types home from to In → from ≤ lo' → hi' ≤ to → (hi ≤ lo') ⊎ (hi' ≤ lo) → Says (With_met In lo hi) Vars t → Away N types s home lo' hi' t
    apart lo hi lo' hi' from to s t E l l' a h = away_of N types home (With_met In lo hi) Vars s lo' hi' t outside h
      where
        outside : (d : Free) → With_met In lo hi d → Outside N types s home lo' hi' d
        outside d (inl i) o = (elsewhere_narrower N types home from to lo' hi' In l l' E).outside d i o
        outside d (inr i) o = met_outside N types home lo hi lo' hi' a d i o

    no_parts : (lo : ℕ) (st : State) → Parts_meet no_term lo (lo + 0) st no_size st
    unfolding all_erased
    no_parts lo st = record { say = none_say (With_met In lo (lo + 0)) Vars; typed = refl; kept = λ n o. refl; dropped = λ n o. refl; rules = λ s G J a. (tt, refl) }

    more_parts : (t : FlatTerm) (ts : Terms Ref BindId) (lo mid hi from to : ℕ) (st s1 s2 : State) (u : Size) (us : Sizes) → lo + numbers t ≡ mid → lo < mid → mid ≤ hi → from ≤ lo → hi ≤ to → Elsewhere N types home from to In
        → M t lo mid st u s1 → Parts_meet ts mid hi s1 us s2 → Parts_meet (term_and t ts) lo hi st (size_and u us) s2
    unfolding all_erased
    more_parts t ts lo mid hi from to st s1 s2 u us m l l' b b' E X Y = record {
      say = more_say (With_met In lo hi) Vars u us (says_more (With_met In lo mid) (With_met In lo hi) Vars u (λ d. wide lo mid d (omega arith) l') X.says) (all_wider us Y.say);
      typed = ap (λ x. more x (all_erased us)) X.typed ∙ ap (more (types lo)) (Y.typed ∙ ap (term_types types ts) (sym m));
      kept = λ n o. Y.kept n (later n o) ∙ X.kept n (sooner n o);
      dropped = λ n o. Y.dropped n (later n o) ∙ X.dropped n (sooner n o);
      rules = rules;
    }
      where
        wide : (x y : ℕ) (d : Free) → lo ≤ x → y ≤ hi → With_met In x y d → With_met In lo hi d
        wide x y d p q (inl i) = inl i
        wide x y d p q (inr i) = inr (met_wider x y lo hi p q d i)

        all_wider : (ws : Sizes) → All_say (With_met In mid hi) Vars ws → All_say (With_met In lo hi) Vars ws
        all_wider ws h = record { sizes = all_each_as (Scoped (With_met In mid hi)) (Scoped (With_met In lo hi)) (scoped_as (With_met In mid hi) (With_met In lo hi) (λ d. wide mid hi d (omega (arith, l)) (omega arith))) ws 0 h.sizes; variables = h.variables; formed = h.formed }

        later : (n : ℕ) → (n < lo) ⊎ (hi ≤ n) → (n < mid) ⊎ (hi ≤ n)
        later n (inl x) = inl (omega (arith, x, l))
        later n (inr x) = inr x

        sooner : (n : ℕ) → (n < lo) ⊎ (hi ≤ n) → (n < lo) ⊎ (mid ≤ n)
        sooner n (inl x) = inl x
        sooner n (inr x) = inr (omega (arith, x, l'))

        rules : (s : ℕ → Size) (G : Context) → Judged In Vars scope G → ((n : ℕ) → lo ≤ n → n < hi → s n ≡ s2.nodes n) → All_sized N types s home (term_and t ts) lo hi G × (part_sizes N types s home (term_and t ts) lo ≡ size_and u us)
        rules s G J a =
            let first : (n : ℕ) → lo ≤ n → n < mid → s n ≡ s1.nodes n = λ n x y. a n x (omega (arith, y, l')) ∙ Y.kept n (inl y) in
            let here : s lo ≡ u = first lo (omega arith) l ∙ X.here in
            let rest = Y.rules s G J (λ n x y. a n (omega (arith, x, l)) y) in
            let away : Away N types s home (lo + numbers t) hi (s lo) = subst (λ w. Away N types s home (lo + numbers t) hi w) (sym here) (apart lo mid (lo + numbers t) hi from to s u E (omega (arith, b)) b' (inl (omega (arith, m))) X.says) in
            let behind : All_sized N types s home ts (lo + numbers t) hi G = subst (λ k. All_sized N types s home ts k hi G) (sym m) rest.0 in
            ((X.rules s G J first, away, behind), ap (λ w. size_and w (part_sizes N types s home ts (lo + numbers t))) here ∙ ap (size_and u) (ap (part_sizes N types s home ts) m ∙ rest.1))

    -- ---- branches
    if_meets : (c a b : FlatTerm) (lo mid1 mid2 hi : ℕ) (st s1 s2 s3 : State) (z u x : Size) → 1 + lo + numbers c ≡ mid1 → mid1 + numbers a ≡ mid2 → lo + numbers (If c a b) ≡ hi → lo < mid1 → mid1 < mid2 → mid2 < hi → Elsewhere N types home lo hi In
        → types lo ≡ types mid1 → types lo ≡ types mid2 → HasKind K places (types lo)
        → M c (1 + lo) mid1 st z s1 → M a mid1 mid2 s1 u s2 → M b mid2 hi s2 x s3
        → Inner N types home In Vars scope (If c a b) lo hi st (kept lo 0 u x) s3
    if_meets c a b lo mid1 mid2 hi st s1 s2 s3 z u x m1 m2 m3 l1 l2 l3 E t1 t2 k X Y Z = record {
      says = says;
      typed = erased_kept lo u x 0 ∙ Y.typed ∙ sym t1;
      kept = λ n o. Z.kept n (by_third n o) ∙ Y.kept n (by_second n o) ∙ X.kept n (by_first n o);
      dropped = λ n o. Z.dropped n (by_third n o) ∙ Y.dropped n (by_second n o) ∙ X.dropped n (by_first n o);
      rules = rules;
    }
      where
        wide : (d : Free) → With_met In mid1 mid2 d → With_met In lo hi d
        wide d (inl i) = inl i
        wide d (inr i) = inr (met_wider mid1 mid2 lo hi (omega (arith, l1)) (omega (arith, l3)) d i)

        says : Says (With_met In lo hi) Vars (kept lo 0 u x)
        says = record {
          sizes = sizes_kept lo (With_met In lo hi) (λ i. inr (omega arith, omega (arith, l1, l2, l3))) u x 0 0 (says_more (With_met In mid1 mid2) (With_met In lo hi) Vars u wide Y.says).sizes;
          variables = variables_kept lo Vars u x 0 Y.says.variables;
          formed = formed_kept lo u x 0 Y.says.formed;
        }

        by_third : (n : ℕ) → (n < lo) ⊎ (hi ≤ n) → (n < mid2) ⊎ (hi ≤ n)
        by_third n (inl y) = inl (omega (arith, y, l1, l2))
        by_third n (inr y) = inr y

        by_second : (n : ℕ) → (n < lo) ⊎ (hi ≤ n) → (n < mid1) ⊎ (mid2 ≤ n)
        by_second n (inl y) = inl (omega (arith, y, l1))
        by_second n (inr y) = inr (omega (arith, y, l3))

        by_first : (n : ℕ) → (n < lo) ⊎ (hi ≤ n) → (n < 1 + lo) ⊎ (mid1 ≤ n)
        by_first n (inl y) = inl (omega (arith, y))
        by_first n (inr y) = inr (omega (arith, y, l2, l3))

        of_data : (w : Size) → Says (With_met In lo hi) Vars w → erased w ≡ types lo → Data w
        of_data w h e = data_of K w h.formed (let r : level places ≤ rank K (erased w) = subst (λ v. level places ≤ rank K v) (sym e) k in omega (arith, r, data_places))

        wide_third : (d : Free) → With_met In mid2 hi d → With_met In lo hi d
        wide_third d (inl i) = inl i
        wide_third d (inr i) = inr (met_wider mid2 hi lo hi (omega (arith, l1, l2)) (omega arith) d i)

        rules : (s : ℕ → Size) (G : Context) → Judged In Vars scope G → s lo ≡ kept lo 0 u x → ((n : ℕ) → lo < n → n < hi → s n ≡ s3.nodes n) → Sized N types s home (If c a b) lo G
        rules s G J e f =
            let third : (n : ℕ) → mid2 ≤ n → n < hi → s n ≡ s3.nodes n = λ n y w. f n (omega (arith, y, l1, l2)) w in
            let second : (n : ℕ) → mid1 ≤ n → n < mid2 → s n ≡ s2.nodes n = λ n y w. f n (omega (arith, y, l1)) (omega (arith, w, l3)) ∙ Z.kept n (inl w) in
            let first : (n : ℕ) → 1 + lo ≤ n → n < mid1 → s n ≡ s1.nodes n = λ n y w. f n (omega (arith, y)) (omega (arith, w, l2, l3)) ∙ Z.kept n (inl (omega (arith, w, l2))) ∙ Y.kept n (inl w) in
            let at_then : s mid1 ≡ u = second mid1 (omega arith) l2 ∙ Y.here in
            let at_else : s mid2 ≡ x = third mid2 (omega arith) l3 ∙ Z.here in
            let branches : Branches N types s home lo mid1 mid2 = record {
              kept_sizes = e ∙ ap (λ w. kept lo 0 w x) (sym at_then) ∙ ap (kept lo 0 (s mid1)) (sym at_else);
              no_function = (subst Data (sym at_then) (of_data u (says_more (With_met In mid1 mid2) (With_met In lo hi) Vars u wide Y.says) (Y.typed ∙ sym t1)), subst Data (sym at_else) (of_data x (says_more (With_met In mid2 hi) (With_met In lo hi) Vars x wide_third Z.says) (Z.typed ∙ sym t2)));
              one_type = ap erased at_then ∙ Y.typed ∙ sym t1 ∙ t2 ∙ sym Z.typed ∙ ap erased (sym at_else);
              away = (
                subst (λ w. Away N types s home lo (1 + lo) w) (sym at_then) (apart mid1 mid2 lo (1 + lo) lo hi s u E (omega arith) (omega (arith, l1, l2, l3)) (inr (omega (arith, l1))) Y.says),
                subst (λ w. Away N types s home lo (1 + lo) w) (sym at_else) (apart mid2 hi lo (1 + lo) lo hi s x E (omega arith) (omega (arith, l1, l2, l3)) (inr (omega (arith, l1, l2))) Z.says),
              );
            } in (
              X.rules s G J first,
              subst (λ n. Sized N types s home a n G) (sym m1) (Y.rules s G J second),
              subst (λ n. Sized N types s home b n G) (sym (ap (λ n. n + numbers a) m1 ∙ m2)) (Z.rules s G J third),
              subst (λ n. Branches N types s home lo (1 + lo + numbers c) n) (sym (ap (λ n. n + numbers a) m1 ∙ m2)) (subst (λ n. Branches N types s home lo n mid2) (sym m1) branches),
            )

    -- ---- operations
    strict_meets : (o : Operation Ref BindId) (mark : Place) (ts : Terms Ref BindId) (lo at hi : ℕ) (st s1 s2 : State) (us : Sizes) (t : Size) (w : Done (Unit {0})) → lo + own_numbers o ≡ at → lo < at → at + all_numbers ts ≡ hi → Elsewhere N types home lo hi In
        → Plain_operation N o (types lo) ts → Rule N places K o (types lo) (types (operand o lo)) (term_types types ts at)
        → Parts_meet ts at hi st us s1 → Written_named N types K places (With_met In lo hi) Vars (λ c. inr tt) o → Sizes_named N types K places (With_met In lo hi) Vars (λ c. inr tt) ts at → operation N types o lo at ts us ≡ Ok t → second_noted N types o lo us s1 ≡ Ok w → Inner N types home In Vars scope (Strict o mark ts) lo hi st t w.state
    strict_meets o mark ts lo at hi st s1 s2 us t w m l m2 E p r X written named q z = record {
      says = gives.says;
      typed = gives.typed;
      kept = λ n y. second_kept N types o lo us s1 w z n (outside n y) ∙ X.kept n (before n y);
      dropped = λ n y. second_dropped N types o lo us s1 w z n ∙ X.dropped n (before n y);
      rules = rules;
    }
      where
        wide : (d : Free) → With_met In at hi d → With_met In lo hi d
        wide d (inl i) = inl i
        wide d (inr i) = inr (met_wider at hi lo hi (omega (arith, l)) (omega arith) d i)

        say : All_say (With_met In lo hi) Vars us
        say = record { sizes = all_each_as (Scoped (With_met In at hi)) (Scoped (With_met In lo hi)) (scoped_as (With_met In at hi) (With_met In lo hi) wide) us 0 X.say.sizes; variables = X.say.variables; formed = X.say.formed }

        gives : Gives N types K places (With_met In lo hi) Vars (λ c. inr tt) lo t
        gives = operation_gives N types K places (With_met In lo hi) Vars (λ c. inr tt) o lo (λ i. inr (omega arith, omega (arith, l, m2))) at ts us t p r say X.typed written named q

        before : (n : ℕ) → (n < lo) ⊎ (hi ≤ n) → (n < at) ⊎ (hi ≤ n)
        before n (inl y) = inl (omega (arith, y, l))
        before n (inr y) = inr y

        outside : (n : ℕ) → (n < lo) ⊎ (hi ≤ n) → (n < lo) ⊎ (lo + own_numbers o ≤ n)
        outside n (inl y) = inl y
        outside n (inr y) = inr (omega (arith, y, m, m2))

        rules : (s : ℕ → Size) (G : Context) → Judged In Vars scope G → s lo ≡ t → ((n : ℕ) → lo < n → n < hi → s n ≡ w.state.nodes n) → Sized N types s home (Strict o mark ts) lo G
        rules s G J e f =
            let k = X.rules s G J (λ n x y. f n (omega (arith, x, l)) y ∙ second_kept N types o lo us s1 w z n (inr (omega (arith, m, x)))) in
            subst (λ n. All_sized N types s home ts n (n + all_numbers ts) G × (operation N types o lo n ts (part_sizes N types s home ts n) ≡ Ok (s lo)) × Compared_found o G) (sym m)
            (subst (λ n. All_sized N types s home ts at n G) (sym m2) k.0, ap (operation N types o lo at ts) k.1 ∙ q ∙ ap Ok (sym e), compared_found G J lo hi o written)

  -- ---- the walk

  narrower : (In : Free → Type 0) (lo hi lo' hi' : ℕ) → lo ≤ lo' → hi' ≤ hi → Elsewhere N types home lo hi In → Elsewhere N types home lo' hi' In
  narrower In lo hi lo' hi' a b E = elsewhere_narrower N types home lo hi lo' hi' In a b E

  abbrev Law : FlatTerm → Type 1
  Law e = Law_of N types home K places e

  use_part : (b : BindId) (at : Place) (k : ℕ) → Law (Use (ref.Bound b) at k)
  unfolding sized
  use_part b at k In Vars scope T lo st d p t known E q = inl (record {
    size = n.size;
    is_whole = ap (λ (x : Done Part). x.result) (sym (same_ok now));
    inner = subst (λ (x : Done Part). Inner N types home In Vars scope e lo (lo + numbers e) st n.size x.state) (same_ok now) (record {
      says = says_more In (With_met In lo (lo + numbers e)) Vars n.size (λ x i. inl i) n.says;
      typed = n.typed (λ g. by_form g p);
      kept = λ m o. refl;
      dropped = λ m o. refl;
      rules = λ s G J e a. use_rules N types home In Vars scope b (types lo) n at k lo s G J e;
    });
  })
    where
      e : FlatTerm
      e = Use (ref.Bound b) at k

      n : Known_name In Vars types home scope b.0 (types lo)
      n = known b.0 (types lo) t

      -- a number is not general
      by_form : n.is_general ≡ true → (types lo ≡ types (home b.0)) ⊎ (types lo ≡ i64_ty) → types lo ≡ types (home b.0)
      by_form g (inl e) = e
      by_form g (inr e) = by_kind (n.function g)
        where
          by_kind : ((p : Ty) × (r : Ty) × (types lo ≡ fun_ty p r)) ⊎ ((types (home b.0) ≡ i64_ty) ⊎ (types lo ≡ types (home b.0))) → types lo ≡ types (home b.0)
          by_kind (inl w) = absurd (no_function w.0 w.1 (sym e ∙ w.2))
          by_kind (inr (inl h)) = e ∙ sym h
          by_kind (inr (inr h)) = h

      now : ◌≡◌ {A = Answer (Done Part)} (Ok (record { result = whole n.size; state = st })) (Ok d)
      now = ap (λ (o : Size). Ok (record { result = whole o; state = st })) (sym (use_is N types home In Vars scope b (types lo) n lo)) ∙ q

  primitive_part : (p : Primitive) (at : Place) (k : ℕ) → Law (Use (ref.Prim p) at k)
  unfolding sized
  primitive_part p at k In Vars scope T lo st d pl t known E q = inl (record {
    size = prim_size p;
    is_whole = ap (λ (x : Done Part). x.result) (sym (same_ok now));
    inner = subst (λ (x : Done Part). Inner N types home In Vars scope e lo (lo + numbers e) st (prim_size p) x.state) (same_ok now) (record {
      says = closed_says p (With_met In lo (lo + numbers e)) Vars pl;
      typed = closed_typed p t.0 pl ∙ sym t.2;
      kept = λ m o. refl;
      dropped = λ m o. refl;
      rules = λ s G J z a. subst (Filled_use (λ v. true) (prim_size p)) (sym z) (used_itself (λ v. true) (prim_size p));
    });
  })
    where
      e : FlatTerm
      e = Use (ref.Prim p) at k

      now : ◌≡◌ {A = Answer (Done Part)} (Ok (record { result = whole (prim_size p); state = st })) (Ok d)
      now = ap (λ (x : Size). Ok (record { result = whole x; state = st })) (sym (used_closed lo (types lo) (prim_size p) (closed_is p pl).0)) ∙ ap (λ (b : Bool). Ok (record { result = Applied (used lo (types lo) (prim_size p)) b []; state = st })) (sym (closed_is p pl).1) ∙ q

  if_part : (c a b : FlatTerm) → Law c → Law a → Law b → Law (If c a b)
  unfolding sized
  if_part c a b lc la lb In Vars scope T lo st d p t k E q =
      let x1 = then_ok (sized N types c [] (1 + lo) scope st) q in
      let x2 = then_ok (finished N types (1 + lo) x1.first.result x1.first.state) x1.rest in
      let x3 = then_ok (sized N types a [] (1 + lo + numbers c) scope x2.first.state) x2.rest in
      let x4 = then_ok (finished N types (1 + lo + numbers c) x3.first.result x3.first.state) x3.rest in
      let x5 = then_ok (sized N types b [] (1 + lo + numbers c + numbers a) scope x4.first.state) x4.rest in
      let x6 = then_ok (finished N types (1 + lo + numbers c + numbers a) x5.first.result x5.first.state) x5.rest in
      let n1 = numbers_some c in let n2 = numbers_some a in let n3 = numbers_some b in
      let hi : ℕ = lo + numbers (If c a b) in
      let X = alone N types home K places c lc In Vars scope T (1 + lo) st x1.first x2.first p.0 t.0.0.0 k (narrower In lo hi (1 + lo) (1 + lo + numbers c) (omega arith) (omega arith) E) x1.done x2.done in
      let Y = alone N types home K places a la In Vars scope T (1 + lo + numbers c) x2.first.state x3.first x4.first p.1 t.0.0.1 k (narrower In lo hi (1 + lo + numbers c) (1 + lo + numbers c + numbers a) (omega arith) (omega arith) E) x3.done x4.done in
      let Z = alone N types home K places b lb In Vars scope T (1 + lo + numbers c + numbers a) x4.first.state x5.first x6.first p.2 t.0.1 k (narrower In lo hi (1 + lo + numbers c + numbers a) (1 + lo + numbers c + numbers a + numbers b) (omega arith) (omega arith) E) x5.done x6.done in
      let last : lo + numbers (If c a b) ≡ 1 + lo + numbers c + numbers a + numbers b = omega arith in
      let whole_if = if_meets In Vars scope c a b lo (1 + lo + numbers c) (1 + lo + numbers c + numbers a) (1 + lo + numbers c + numbers a + numbers b) st x2.first.state x4.first.state x6.first.state x2.first.result x4.first.result x6.first.result refl refl last
      (omega arith) (omega (arith, n2)) (omega (arith, n3)) (subst (λ n. Elsewhere N types home lo n In) last E) t.2 t.3 t.4 X Y Z in
      inl (record {
        size = kept lo 0 x4.first.result x6.first.result;
        is_whole = ap (λ (x : Done Part). x.result) (sym (same_ok x6.rest));
        inner = subst (λ (x : Done Part). Inner N types home In Vars scope (If c a b) lo hi st (kept lo 0 x4.first.result x6.first.result) x.state) (same_ok x6.rest) (subst (λ n. Inner N types home In Vars scope (If c a b) lo n st (kept lo 0 x4.first.result x6.first.result) x6.first.state) (sym last) whole_if);
      })

  -- ---- operations

  abbrev Law_all : Terms Ref BindId → Type 1
  Law_all ts = (In : Free → Type 0) (Vars : Variable → Type 0) (scope : Scope) (T : TypeScope) (lo : ℕ) (st : State) (d : Done Sizes) → Plain_terms types home K places N ts lo → All_typed N places ts lo T K types → Known_names In Vars home scope K types T
      → Elsewhere N types home lo (lo + all_numbers ts) In → all_sized N types ts lo scope st ≡ Ok d → Parts_meet In Vars scope ts lo (lo + all_numbers ts) st d.result d.state

  no_part : Law_all no_term
  unfolding all_sized
  no_part In Vars scope T lo st d p t k E q = subst (λ (x : Done Sizes). Parts_meet In Vars scope no_term lo (lo + 0) st x.result x.state) (same_ok q) (no_parts In Vars scope lo st)

  more_part : (e : FlatTerm) (es : Terms Ref BindId) → Law e → Law_all es → Law_all (term_and e es)
  unfolding all_sized
  more_part e es le les In Vars scope T lo st d p t k E q =
      let x1 = then_ok (sized N types e [] lo scope st) q in
      let x2 = then_ok (finished N types lo x1.first.result x1.first.state) x1.rest in
      let x3 = then_ok (all_sized N types es (lo + numbers e) scope x2.first.state) x2.rest in
      let hi : ℕ = lo + all_numbers (term_and e es) in
      let n1 = numbers_some e in
      let X = alone N types home K places e le In Vars scope T lo st x1.first x2.first p.0 t.0 k (narrower In lo hi lo (lo + numbers e) (omega arith) (omega arith) E) x1.done x2.done in
      let Y = les In Vars scope T (lo + numbers e) x2.first.state x3.first p.1 t.1 k (narrower In lo hi (lo + numbers e) (lo + numbers e + all_numbers es) (omega arith) (omega arith) E) x3.done in
      let both = more_parts In Vars scope e es lo (lo + numbers e) (lo + numbers e + all_numbers es) lo hi st x2.first.state x3.first.state x2.first.result x3.first.result refl (omega (arith, n1)) (omega arith) (omega arith) (omega arith) E X Y in
      let last : lo + numbers e + all_numbers es ≡ hi = omega arith in
      subst (λ (x : Done Sizes). Parts_meet In Vars scope (term_and e es) lo hi st x.result x.state) (same_ok x3.rest) (subst (λ n. Parts_meet In Vars scope (term_and e es) lo n st (size_and x2.first.result x3.first.result) x3.first.state) last both)

  -- a part that is the name of a number may be a size
  part_named : (e : FlatTerm) (n : ℕ) (In : Free → Type 0) (Vars : Variable → Type 0) (scope : Scope) (T : TypeScope) (lo hi : ℕ) → Known_names In Vars home scope K types T → Typed N places e n T K types → Size_named N types K places (With_met In lo hi) Vars (λ c. inr tt) e n
  part_named (Use (ref.Bound b) at k) n In Vars scope T lo hi known t = λ z. let w = subst (λ u. Known_name In Vars types home scope b.0 u) z (known b.0 (types n) t) in inl (w.number (number_is w.size w.says.formed (number_name In Vars types home scope b.0 w)))
  part_named e n In Vars scope T lo hi known t = tt

  parts_named : (ts : Terms Ref BindId) (n : ℕ) (In : Free → Type 0) (Vars : Variable → Type 0) (scope : Scope) (T : TypeScope) (lo hi : ℕ) → Known_names In Vars home scope K types T → All_typed N places ts n T K types → Sizes_named N types K places (With_met In lo hi) Vars (λ c. inr tt) ts n
  parts_named no_term n In Vars scope T lo hi known t = tt
  parts_named (term_and e es) n In Vars scope T lo hi known t = (part_named e n In Vars scope T lo hi known t.0, parts_named es (n + numbers e) In Vars scope T lo hi known t.1)

  written_named : (o : Operation Ref BindId) (n : ℕ) (In : Free → Type 0) (Vars : Variable → Type 0) (scope : Scope) (T : TypeScope) (lo hi : ℕ) → Known_names In Vars home scope K types T → Written N places K o T types (types n) → Written_named N types K places (With_met In lo hi) Vars (λ c. inr tt) o
  written_named (Coerce x) n In Vars scope T lo hi known d = sizes_written N types home K places In (With_met In lo hi) Vars (λ d i. inl i) x scope T (types n) known d
  written_named (Declared x) n In Vars scope T lo hi known d = sizes_written N types home K places In (With_met In lo hi) Vars (λ d i. inl i) x scope T (types n) known d
  written_named o n In Vars scope T lo hi known d = tt

  strict_part : (o : Operation Ref BindId) (mark : Place) (ts : Terms Ref BindId) → Law_all ts → Law (Strict o mark ts)
  unfolding sized
  strict_part o mark ts lts In Vars scope T lo st d p t k E q =
      let at : ℕ = lo + own_numbers o in
      let hi : ℕ = lo + numbers (Strict o mark ts) in
      let n1 = own_some o in
      let x1 = then_ok (all_sized N types ts (lo + own_numbers o) scope st) q in
      let x2 = then_ok (ask (operation N types o lo (lo + own_numbers o) ts x1.first.result) x1.first.state) x1.rest in
      let x3 = then_ok (second_noted N types o lo x1.first.result x2.first.state) x2.rest in
      let a2 = asked (operation N types o lo (lo + own_numbers o) ts x1.first.result) x1.first.state x2.first x2.done in
      let X = lts In Vars scope T (lo + own_numbers o) st x1.first p.1 t.0 k (narrower In lo hi (lo + own_numbers o) (lo + own_numbers o + all_numbers ts) (omega arith) (omega arith) E) x1.done in
      let last : lo + own_numbers o + all_numbers ts ≡ hi = omega arith in
      let I = strict_meets In Vars scope o mark ts lo (lo + own_numbers o) (lo + own_numbers o + all_numbers ts) st x1.first.state x2.first.state x1.first.result x2.first.result x3.first refl (omega (arith, n1)) refl (subst (λ n. Elsewhere N types home lo n In) (sym last) E) p.0 t.1 X (written_named o lo In Vars scope T lo (lo + own_numbers o + all_numbers ts) k t.2) (parts_named ts (lo + own_numbers o) In Vars scope T lo (lo + own_numbers o + all_numbers ts) k t.0) a2.answer
      (ap (second_noted N types o lo x1.first.result) (sym a2.state) ∙ x3.done) in
      inl (record {
        size = x2.first.result;
        is_whole = ap (λ (x : Done Part). x.result) (sym (same_ok x3.rest));
        inner = subst (λ (x : Done Part). Inner N types home In Vars scope (Strict o mark ts) lo hi st x2.first.result x.state) (same_ok x3.rest) (subst (λ n. Inner N types home In Vars scope (Strict o mark ts) lo n st x2.first.result x3.first.state) last I);
      })

  -- ---- functions

  module _ (bs : List ℕ) (p : FlatPattern) (ps : Patterns Ref BindId) (e : FlatTerm) (le : Law e) (In : Free → Type 0) (Vars : Variable → Type 0) (scope : Scope) (T : TypeScope) (lo : ℕ) (come : ℕ → Size) (W : Free → Type 0) (hd : Come_head N types home K places data_places come W bs (pattern_and p ps) (1 + lo)) (come_there : All_come N types home K places data_places come W (pattern_and p ps) (1 + lo)) (wide : (d : Free) → W d → In d) (pl : Plain_term types home K places N (Lambda (pattern_and p ps) e) lo) (t : Typed N places (Lambda (pattern_and p ps) e) lo T K types)
      (known : Known_names (With_head bs In) Vars home (with_head N types bs scope) K types T) (at hi : ℕ) (m1 : 1 + lo + all_pattern_numbers (pattern_and p ps) ≡ at) (m2 : at + numbers e ≡ hi) (E : Elsewhere N types home lo hi In) (before : State) (m : Done Met) (R : Lambda_ran N types home K places come bs (pattern_and p ps) e lo at hi (with_head N types bs scope) before m) where
    abbrev all : Patterns Ref BindId
    all = pattern_and p ps

    at_hi : at < hi
    at_hi = let n = numbers_some e in omega (arith, m2, n)

    abbrev lambda_size : Size
    lambda_size = function_size bs lo hi (takings N types home K places come all (1 + lo)) R.left

    body_meets : (In' : Free → Type 0) (scope' : Scope) (T' : TypeScope) → Typed N places e at T' K types → Known_names In' Vars home scope' K types T' → Elsewhere N types home at hi In' → scope' ≡ all_bound N types home K places come all (1 + lo) (with_head N types bs scope) → Meets N types home In' Vars scope' e at hi R.parameters R.body.result R.body.state
    body_meets In' scope' T' t' k E' z = subst (λ n. Meets N types home In' Vars scope' e at n R.parameters R.body.result R.body.state) m2
        (alone N types home K places e le In' Vars scope' T' at R.parameters R.part R.body (subst (λ n. Plain_term types home K places N e n) m1 pl.1) t' k (subst (λ n. Elsewhere N types home at n In') (sym m2) E') (ap (λ w. sized N types e [] at w R.parameters) z ∙ R.part_is) R.body_is)

    -- what is known outside is not met within
    met_inside : Unmet lo hi In
    met_inside n i x y = E.outside (Unknown n i) x (met_between lo hi n i y)

    rest : Rest N types home K places data_places come W e lo at hi at_hi (all_part_names all) R.body.result R.left (leaves lo (all_part_names all) R.body.result R.left R.leaves.1) R.parameters R.body.state Vars (all_bound N types home K places come all (1 + lo) (with_head N types bs scope)) body_meets bs all (1 + lo) In (with_head N types bs scope)
    rest = all_rest N types home K places data_places come W e lo at hi at_hi (all_part_names all) R.body.result R.left (leaves lo (all_part_names all) R.body.result R.left R.leaves.1) R.parameters R.body.state Vars (all_bound N types home K places come all (1 + lo) (with_head N types bs scope)) body_meets
        all bs (1 + lo) In (with_head N types bs scope) T m1 (omega arith) pl.0 hd come_there wide R.none_left_there (heads_there N types bs scope) t.0.0 R.fit (λ n i x y. met_inside n i x y) R.leaves.0 (λ b e. e) (subst (λ n. Typed N places e n (all_typed_with the_one all (1 + lo) T) K types) m1 t.0.1) known (narrower In lo hi (1 + lo) hi (omega arith) (omega arith) E) (narrower In lo hi lo (1 + lo) (omega arith) (omega (arith, m1, at_hi)) E) refl

    node_lo : m.state.nodes lo ≡ lambda_size
    node_lo = ap (λ (x : State). x.nodes lo) R.state ∙ at_itself lo lambda_size R.body.state.nodes

    node_else : (n : ℕ) → (lo ≡ n → ⊥) → m.state.nodes n ≡ R.body.state.nodes n
    node_else n h = ap (λ (x : State). x.nodes n) R.state ∙ at_another lo n lambda_size R.body.state.nodes h

    pub own_there : (s : ℕ → Size) → ((n : ℕ) → lo ≤ n → n < hi → s n ≡ m.state.nodes n) → Own_nodes N types home K places come all (1 + lo) s
    own_there s a = own_nodes_as N types home K places come all (1 + lo) R.parameters.nodes s (λ n x y. let l = at_hi in a n (omega (arith, x)) (omega (arith, y, m1, l)) ∙ node_else n (λ z. omega (arith, x, z)) ∙ rest.kept n (inl (omega (arith, y, m1)))) R.noted_is.own

    const_met : (x : Free) → (In x ⊎ Is_const x) × ((b : ℕ) → x ≡ Name b → is_among (all_part_names all) b ≡ false) → With_met In lo hi x
    const_met x (inl i, bare) = inl i
    const_met x (inr c, bare) = inr (constant x c)
      where
        constant : (x : Free) → Is_const x → Met_in lo hi x
        constant (Const c) h = tt
        constant (Name c) h = absurd h
        constant (Own n i) h = absurd h
        constant (Unknown n i) h = absurd h
        constant (Slot i) h = absurd h

    lambda_knows : Each (Scoped (λ x. In x ⊎ Is_const x)) 0 m.result.size
    lambda_knows = subst (λ w. Each (Scoped (λ x. In x ⊎ Is_const x)) 0 w) (sym R.size) (each_scoped (λ x. (In x ⊎ Is_const x) × ((b : ℕ) → x ≡ Name b → is_among (all_part_names all) b ≡ false)) (λ x. In x ⊎ Is_const x) (λ x w. w.0) lambda_size 0 rest.sizes)

    lambda_meets : Meets N types home In Vars scope (Lambda all e) lo hi before m.result.size m.state
    lambda_meets = record {
      says = subst (λ w. Says (With_met In lo hi) Vars w) (sym R.size) (record { sizes = each_scoped (λ x. (In x ⊎ Is_const x) × ((b : ℕ) → x ≡ Name b → is_among (all_part_names all) b ≡ false)) (With_met In lo hi) const_met lambda_size 0 rest.sizes; variables = rest.variables; formed = rest.formed });
      typed = ap erased R.size ∙ rest.typed ∙ ap (λ n. arrows (pattern_types types all (1 + lo)) (types n)) (sym m1) ∙ sym t.1;
      here = node_lo ∙ sym R.size;
      kept = λ n o. node_else n (λ z. not_here n o z) ∙ rest.kept n (by_body n o) ∙ R.noted_is.kept n (by_parameters n o);
      dropped = λ n o. ap (λ (x : State). x.dropped n) R.state ∙ rest.dropped n (by_body n o) ∙ ap (λ (f : ℕ → List ℕ). f n) R.noted_is.dropped;
      rules = rules;
    }
      where
        not_here : (n : ℕ) → (n < lo) ⊎ (hi ≤ n) → lo ≡ n → ⊥
        not_here n (inl x) z = omega (arith, x, z)
        not_here n (inr x) z = let y = at_hi in omega (arith, x, z, m1, y)

        by_body : (n : ℕ) → (n < lo) ⊎ (hi ≤ n) → (n < at) ⊎ (hi ≤ n)
        by_body n (inl x) = inl (omega (arith, x, m1))
        by_body n (inr x) = inr x

        by_parameters : (n : ℕ) → (n < lo) ⊎ (hi ≤ n) → (n < 1 + lo) ⊎ (1 + lo + all_pattern_numbers all ≤ n)
        by_parameters n (inl x) = inl (omega (arith, x))
        by_parameters n (inr x) = let y = at_hi in inr (omega (arith, x, m1, y))

        rules : (s : ℕ → Size) (G : Context) → Judged In Vars scope G → ((n : ℕ) → lo ≤ n → n < hi → s n ≡ m.state.nodes n) → Sized N types s home (Lambda all e) lo G
        rules s G judged a =
            let l = at_hi in
            let in_body : (n : ℕ) → at ≤ n → n < hi → s n ≡ R.body.state.nodes n = λ n x y. a n (omega (arith, x, m1)) y ∙ node_else n (λ z. omega (arith, x, m1, z)) in
            let own = own_there s a in
            let here : lambda_size ≡ s lo = sym (a lo (omega arith) (omega (arith, m1, l)) ∙ node_lo) in
            subst (λ w. Takes N types s home (Sized N types s home e (1 + lo + all_pattern_numbers all)) (all_part_names all) all lo (1 + lo) (1 + lo + all_pattern_numbers all) (1 + lo + all_pattern_numbers all + numbers e) w G) here
            (subst (λ n. Takes N types s home (Sized N types s home e n) (all_part_names all) all lo (1 + lo) n (n + numbers e) lambda_size G) (sym m1)
            (subst (λ n. Takes N types s home (Sized N types s home e at) (all_part_names all) all lo (1 + lo) at n lambda_size G) (sym m2) (rest.rules s G (judged_headed N types bs In Vars scope G judged) own in_body)))

  lambda_headed : (p : FlatPattern) (ps : Patterns Ref BindId) (e : FlatTerm) → Law e → Law_headed N types home K places data_places (Lambda (pattern_and p ps) e)
  unfolding sized
  lambda_headed p ps e le bs In Vars scope T lo st d i hd pl t known E q = record {
    waiting = lambda_waits N types home K places bs (pattern_and p ps) e lo (with_head N types bs scope);
    is_waiting = ap (λ (x : Done Part). x.result) (sym (same_ok q));
    unchanged = ap (λ (x : Done Part). x.state) (sym (same_ok q));
    known_sizes = λ before m z. lambda_knows bs p ps e le In Vars scope T lo (own_sizes N types) (λ d. ⊥) (own_head N types home K places data_places (λ d. ⊥) (pattern_and p ps) bs (1 + lo) hd) (own_come N types home K places data_places (λ d. ⊥) (pattern_and p ps) (1 + lo)) (λ d i. absurd i) pl t known (1 + lo + all_pattern_numbers (pattern_and p ps)) (1 + lo + all_pattern_numbers (pattern_and p ps) + numbers e) refl refl (subst (λ n. Elsewhere N types home lo n In) last E) before m
        (lambda_ran N types home K places bs (pattern_and p ps) e lo (1 + lo + all_pattern_numbers (pattern_and p ps)) (1 + lo + all_pattern_numbers (pattern_and p ps) + numbers e) data_places T pl.0 t.0.0 (with_head N types bs scope) before m z);
    of_function = (types (1 + lo), (arrows (pattern_types types ps (1 + lo + pattern_numbers p)) (types (1 + lo + all_pattern_numbers (pattern_and p ps))), t.1));
    is_lambda = tt;
    typed_as = t.1;
    by_itself = λ before m z. subst (λ n. Meets N types home In Vars scope (Lambda (pattern_and p ps) e) lo n before m.result.size m.state) (sym last)
        (lambda_meets bs p ps e le In Vars scope T lo (own_sizes N types) (λ d. ⊥) (own_head N types home K places data_places (λ d. ⊥) (pattern_and p ps) bs (1 + lo) hd) (own_come N types home K places data_places (λ d. ⊥) (pattern_and p ps) (1 + lo)) (λ d i. absurd i) pl t known (1 + lo + all_pattern_numbers (pattern_and p ps)) (1 + lo + all_pattern_numbers (pattern_and p ps) + numbers e) refl refl (subst (λ n. Elsewhere N types home lo n In) last E) before m
        (lambda_ran N types home K places bs (pattern_and p ps) e lo (1 + lo + all_pattern_numbers (pattern_and p ps)) (1 + lo + all_pattern_numbers (pattern_and p ps) + numbers e) data_places T pl.0 t.0.0 (with_head N types bs scope) before m z));
    as_wanted = λ w σ before m f z. as_alone N types home K places bs (pattern_and p ps) e lo (with_head N types bs scope) w σ before m pl.0 f z;
  }
    where
      last : lo + numbers (Lambda (pattern_and p ps) e) ≡ 1 + lo + all_pattern_numbers (pattern_and p ps) + numbers e
      last = omega arith

  lambda_part : (p : FlatPattern) (ps : Patterns Ref BindId) (e : FlatTerm) → Law e → Law (Lambda (pattern_and p ps) e)
  lambda_part p ps e le In Vars scope T lo st d pl t known E q = inr (inl (lambda_headed p ps e le [] In Vars scope T lo st d tt (headless types home K places N (pattern_and p ps) (1 + lo)) pl t (known_headless N types home K places In Vars scope T known) E q))

  -- ---- a lambda that takes the data which is wanted of its parameters

  plain_parts : (ps : Patterns Ref BindId) (q : ℕ) → Plain_patterns types home K places ps q → Plain_parts types home K places ps q
  plain_parts no_pattern q h = tt
  plain_parts (pattern_and p ps) q h = (h.0, plain_parts ps (q + pattern_numbers p) h.3)

  module _ (p : FlatPattern) (ps : Patterns Ref BindId) (e : FlatTerm) (le : Law e) (In : Free → Type 0) (Vars : Variable → Type 0) (scope : Scope) (T : TypeScope) (lo at hi : ℕ) (m1 : 1 + lo + all_pattern_numbers (pattern_and p ps) ≡ at) (m2 : at + numbers e ≡ hi) (pl : Plain_term types home K places N (Lambda (pattern_and p ps) e) lo) (t : Typed N places (Lambda (pattern_and p ps) e) lo T K types)
      (known : Known_names In Vars home scope K types T) (E : Elsewhere N types home lo hi In) (w : Want) (σ : Found) (before : State) (m : Done Met) (f : Data_wanted types (Around N types home lo hi) (pattern_and p ps) (1 + lo) w.size) where
    abbrev both : Patterns Ref BindId
    both = pattern_and p ps

    abbrev come : ℕ → Size
    come = come_of both (1 + lo) w.size

    abbrev Outer : Free → Type 0
    Outer d = Around N types home lo hi d

    abbrev Stands : Free → Type 0
    Stands d = standing N types home K places come both (1 + lo) d ≡ true

    abbrev Wider : Free → Type 0
    Wider d = In d ⊎ Stands d

    as_come : Come_as come both (1 + lo) w.size
    as_come = come_as types Outer both (1 + lo) w.size f

    module _ (X : Entered) (entered : All_entered N types home K places data_places Outer (λ d o. o.0) come lo both (1 + lo) scope [] σ X) (W : Went N types home K places [] both e lo w X before m) (R : Lambda_ran N types home K places come [] both e lo at hi scope before W.alone) where
      wanted_there : (d : Free) → Stands d → stands_wanted both w.size d ≡ true
      wanted_there d s = standing_wanted N types home K places data_places Outer (λ d o. o.0) come lo both (1 + lo) w.size f as_come entered.are d s

      outer : (d : Free) → Stands d → Outer d
      outer d s = wanted_in types Outer both (1 + lo) w.size f d (wanted_there d s)

      wider_elsewhere : Elsewhere N types home lo hi Wider
      wider_elsewhere = record { no_slot = no_slot; outside = outside }
        where
          no_slot : (d : Free) → Wider d → is_slot d ≡ false
          no_slot d (inl i) = E.no_slot d i
          no_slot d (inr s) = (outer d s).0

          outside : (d : Free) → Wider d → In_nodes N types home lo hi d → ⊥
          outside d (inl i) o = E.outside d i o
          outside d (inr s) o = (outer d s).1 o

      wider_known : Known_names (With_head [] Wider) Vars home scope K types T
      wider_known = known_headless N types home K places Wider Vars scope T (λ b u a. known_wider N types K places Wider Vars home In Vars (λ d i. inl i) (λ v i. i) scope b u (known b u a))

      come_there : All_come N types home K places data_places come Stands both (1 + lo)
      come_there = all_come N types home K places data_places Outer (λ d o. o.0) come lo Stands both (1 + lo) w.size pl.0 f as_come entered.are (λ d s. s)

      as_wide : Meets N types home Wider Vars scope (Lambda both e) lo hi before W.alone.result.size W.alone.state
      as_wide = lambda_meets [] p ps e le Wider Vars scope T lo come Stands (none_headed N types home K places data_places come Stands both (1 + lo)) come_there (λ d i. inr i) pl t wider_known at hi m1 m2 wider_elsewhere before W.alone R

      own_nodes : (s : ℕ → Size) → ((n : ℕ) → lo ≤ n → n < hi → s n ≡ W.alone.state.nodes n) → Own_nodes N types home K places come both (1 + lo) s
      own_nodes s a = own_there [] p ps e le Wider Vars scope T lo come Stands (none_headed N types home K places data_places come Stands both (1 + lo)) come_there (λ d i. inr i) pl t wider_known at hi m1 m2 wider_elsewhere before W.alone R s a

      -- no name of a parameter is wanted
      unnamed : Unnamed_by (standing N types home K places come both (1 + lo)) (all_names both)
      unnamed b k = by_standing (standing N types home K places come both (1 + lo) (Name b)) refl
        where
          by_standing : (c : Bool) → standing N types home K places come both (1 + lo) (Name b) ≡ c → standing N types home K places come both (1 + lo) (Name b) ≡ false
          by_standing false z = z
          by_standing true z = absurd (let h = all_names_home types home K places both (1 + lo) (plain_parts both (1 + lo) pl.0) b k in let x = h.0 in let y = h.1 in (outer (Name b) z).1 (omega (arith, x), omega (arith, y, m1, m2)))

      at_in : at < hi
      at_in = let n = numbers_some e in omega (arith, m2, n)

      wide_judged : (G : Context) → Judged In Vars scope G → Judged Wider Vars scope (with_standing N types home K places come both (1 + lo) G)
      wide_judged G J = record { sizes = J.sizes; schemes = J.schemes; none_open = J.none_open; finds = finds; finds_types = J.finds_types }
        where
          by_known : (d : Free) → (G.finds d ≡ true) ⊎ Is_const d → (G.finds d || standing N types home K places come both (1 + lo) d ≡ true) ⊎ Is_const d
          by_known d (inl z) = inl (or_first (G.finds d) (standing N types home K places come both (1 + lo) d) z)
          by_known d (inr c) = inr c

          finds : (d : Free) → Wider d → (G.finds d || standing N types home K places come both (1 + lo) d ≡ true) ⊎ Is_const d
          finds d (inl i) = by_known d (J.finds d i)
          finds d (inr s) = inl (or_later (G.finds d) (standing N types home K places come both (1 + lo) d) s)

      wide_rules : (s : ℕ → Size) (G : Context) → Judged In Vars scope G → ((n : ℕ) → lo ≤ n → n < hi → s n ≡ W.alone.state.nodes n) → Sized N types s home (Lambda both e) lo G
      wide_rules s G J a = takes_less N types home K places come s lo (1 + lo + all_pattern_numbers both) (1 + lo + all_pattern_numbers both + numbers e) (all_part_names both) (Sized N types s home e (1 + lo + all_pattern_numbers both)) both (1 + lo) (s lo) (with_standing N types home K places come both (1 + lo) G) G
          (with_standing_same N types home K places come both (1 + lo) G) unnamed (own_nodes s a) (as_wide.rules s (with_standing N types home K places come both (1 + lo) G) (wide_judged G J) a)

      says_there : (d : Free) → With_met Wider lo hi d → With_met In lo hi d ⊎ (stands_wanted both w.size d ≡ true)
      says_there d (inl (inl i)) = inl (inl i)
      says_there d (inl (inr s)) = inr (wanted_there d s)
      says_there d (inr i) = inl (inr i)

      wide_ran : Wide_ran N types home In Vars scope (Lambda both e) lo hi w σ before m
      wide_ran = record {
        says = subst (Says (λ d. With_met In lo hi d ⊎ (stands_wanted both w.size d ≡ true)) Vars) W.size (says_more (With_met Wider lo hi) (λ d. With_met In lo hi d ⊎ (stands_wanted both w.size d ≡ true)) Vars W.alone.result.size says_there as_wide.says);
        typed = ap erased (sym W.size) ∙ as_wide.typed;
        here = ap (λ (x : State). x.nodes lo) (sym W.state) ∙ as_wide.here ∙ W.size;
        kept = λ n o. ap (λ (x : State). x.nodes n) (sym W.state) ∙ as_wide.kept n o;
        dropped = λ n o. ap (λ (x : State). x.dropped n) (sym W.state) ∙ as_wide.dropped n o;
        rules = λ s G J a. wide_rules s G J (λ n x y. a n x y ∙ ap (λ (z : State). z.nodes n) (sym W.state));
        parameters = subst (Same_parameters both w.size) (sym R.size ∙ W.size) (function_shape N types home K places data_places lo hi come both (1 + lo) w.size R.left pl.0 (omega arith) (let n = at_in in omega (arith, m1, n)) f as_come entered.are);
        met = ap (meet w.node (function_way w.is_regular) lo none_opened w.size none_opened m.result.size) (sym entered.found) ∙ W.met;
      }

    -- from its steps
    lambda_takes : at ≡ 1 + lo + all_pattern_numbers both → hi ≡ 1 + lo + all_pattern_numbers both + numbers e → lambda_waits N types home K places [] both e lo scope (Some w) σ before ≡ Ok m → Wide_ran N types home In Vars scope (Lambda both e) lo hi w σ before m
    lambda_takes n1 n2 z = wide_ran X entered W R
      where
        first : Entered
        first = record { scope = scope; parameters = []; wanted = Some w.size; found = σ }

        x1 : Then_ok (ask (all_entered N types lo both (1 + lo) first) before) (λ y. lambda_goes N types home K places [] both e lo (Some w) y.result y.state) m
        x1 = then_ok (ask (all_entered N types lo both (1 + lo) first) before) z

        X : Entered
        X = x1.first.result

        a1 : Asked (all_entered N types lo both (1 + lo) first) before x1.first
        a1 = asked (all_entered N types lo both (1 + lo) first) before x1.first x1.done

        entered : All_entered N types home K places data_places Outer (λ d o. o.0) come lo both (1 + lo) scope [] σ X
        entered = wanted_is N types home K places data_places Outer (λ d o. o.0) come lo both (1 + lo) w.size T scope [] σ X pl.0 t.0.0 f as_come a1.answer

        W : Went N types home K places [] both e lo w X before m
        W = went N types home K places [] both e lo w X before m (ap (lambda_goes N types home K places [] both e lo (Some w) X) (sym a1.state) ∙ x1.rest)

        goes : Scope → List Taking → Answer (Done Met)
        goes inner ts = lambda_goes N types home K places [] both e lo None (record { scope = inner; parameters = ts; wanted = None; found = nothing_found }) before

        ran : goes (all_bound N types home K places come both (1 + lo) scope) (takings N types home K places come both (1 + lo)) ≡ Ok W.alone
        ran = ap (λ y. goes y (takings N types home K places come both (1 + lo))) (sym entered.scope_is) ∙ ap (goes X.scope) (sym entered.parameters) ∙ W.ran

        R : Lambda_ran N types home K places come [] both e lo at hi scope before W.alone
        R = subst (λ n. Lambda_ran N types home K places come [] both e lo at n scope before W.alone) (sym n2) (subst (λ n. Lambda_ran N types home K places come [] both e lo n (1 + lo + all_pattern_numbers both + numbers e) scope before W.alone) (sym n1)
            (after_rest N types home K places come [] both e lo (1 + lo + all_pattern_numbers both) (1 + lo + all_pattern_numbers both + numbers e) pl.0 entered.fit scope before W.alone ran))

  lambda_wide : (p : FlatPattern) (ps : Patterns Ref BindId) (e : FlatTerm) → Law e → Wide_law N types home K places (Lambda (pattern_and p ps) e)
  unfolding sized
  lambda_wide p ps e le In Vars scope T lo st d pl t known E q = record {
    waiting = lambda_waits N types home K places [] (pattern_and p ps) e lo scope;
    is_waiting = ap (λ (x : Done Part). x.result) (sym (same_ok q));
    unchanged = ap (λ (x : Done Part). x.state) (sym (same_ok q));
    of_function = (types (1 + lo), (arrows (pattern_types types ps (1 + lo + pattern_numbers p)) (types (1 + lo + all_pattern_numbers (pattern_and p ps))), t.1));
    typed_as = t.1;
    as_wanted = λ w σ before m f z. subst (λ n. Wide_ran N types home In Vars scope (Lambda (pattern_and p ps) e) lo n w σ before m) (sym last)
        (lambda_takes p ps e le In Vars scope T lo (1 + lo + all_pattern_numbers (pattern_and p ps)) (1 + lo + all_pattern_numbers (pattern_and p ps) + numbers e) refl refl pl t known (subst (λ n. Elsewhere N types home lo n In) last E) w σ before m
        (subst (λ n. Data_wanted types (Around N types home lo n) (pattern_and p ps) (1 + lo) w.size) last f) refl refl z);
  }
    where
      last : lo + numbers (Lambda (pattern_and p ps) e) ≡ 1 + lo + all_pattern_numbers (pattern_and p ps) + numbers e
      last = omega arith

  -- ---- loops

  abbrev a_loop : List BindId → Place → FlatPattern → FlatTerm → FlatTurns → FlatTerm → FlatTerm
  a_loop sizes mark p first turns body = Loop mark sizes p first turns body

  loop_ran : (sizes : List BindId) (mark : Place) (p : FlatPattern) (first : FlatTerm) (turns : FlatTurns) (body : FlatTerm) (lo : ℕ) (scope : Scope) (st : State) (d : Done Part) → sized N types (a_loop sizes mark p first turns body) [] lo scope st ≡ Ok d
      → Loop_ran N types home K places data_places sizes p first turns body lo (1 + lo + pattern_numbers p) (1 + lo + pattern_numbers p + numbers first) (1 + lo + pattern_numbers p + numbers first + turn_numbers turns) (1 + lo + pattern_numbers p + numbers first + turn_numbers turns + numbers body) refl refl refl refl scope st d
  unfolding sized
  loop_ran sizes mark p first turns body lo scope st d q =
      let x1 = then_ok (sized N types first [] (1 + lo + pattern_numbers p) scope st) q in
      let x2 = then_ok (finished N types (1 + lo + pattern_numbers p) x1.first.result x1.first.state) x1.rest in
      let x3 = then_ok (turns_sized N types turns (1 + lo + pattern_numbers p + numbers first) scope x2.first.state) x2.rest in
      let x4 = then_ok (turns_from N types (suc (levels x2.first.result)) lo x2.first.result _ x3.first.state) x3.rest in
      record { part = x1.first; value = x2.first; each = x3.first; last = x4.first; part_is = x1.done; value_is = x2.done; each_is = x3.done; last_is = x4.done; gives = sym (same_ok x4.rest) }

  loop_part : (sizes : List BindId) (mark : Place) (p : FlatPattern) (first : FlatTerm) (turns : FlatTurns) (body : FlatTerm) → Law first → Law_turns N types home K places data_places turns → Law body → Law (a_loop sizes mark p first turns body)
  loop_part sizes mark p first turns body lf lt lb In Vars scope T lo st d pl t k E q = inl (record {
    size = R.last.result;
    is_whole = ap (λ (x : Done Part). x.result) R.gives;
    inner = subst (λ (x : Done Part). Inner N types home In Vars scope (a_loop sizes mark p first turns body) lo (lo + numbers (a_loop sizes mark p first turns body)) st R.last.result x.state) (sym R.gives)
        (subst (λ n. Inner N types home In Vars scope (a_loop sizes mark p first turns body) lo n st R.last.result R.last.state) (sym last) (record { says = M.says; typed = M.typed; kept = M.kept; dropped = M.dropped; rules = M.rules }));
  })
    where
      R : Loop_ran N types home K places data_places sizes p first turns body lo (1 + lo + pattern_numbers p) (1 + lo + pattern_numbers p + numbers first) (1 + lo + pattern_numbers p + numbers first + turn_numbers turns) (1 + lo + pattern_numbers p + numbers first + turn_numbers turns + numbers body) refl refl refl refl scope st d
      R = loop_ran sizes mark p first turns body lo scope st d q

      last : lo + numbers (a_loop sizes mark p first turns body) ≡ 1 + lo + pattern_numbers p + numbers first + turn_numbers turns + numbers body
      last = omega arith

      M : Loop_meets N types home K places data_places sizes p first turns body lo (1 + lo + pattern_numbers p) (1 + lo + pattern_numbers p + numbers first) (1 + lo + pattern_numbers p + numbers first + turn_numbers turns) (1 + lo + pattern_numbers p + numbers first + turn_numbers turns + numbers body) refl refl refl refl In Vars scope st R.last.result R.last.state
      M = loop_meets N types home K places data_places sizes p first turns body lo (1 + lo + pattern_numbers p) (1 + lo + pattern_numbers p + numbers first) (1 + lo + pattern_numbers p + numbers first + turn_numbers turns) (1 + lo + pattern_numbers p + numbers first + turn_numbers turns + numbers body) refl refl refl refl
          lf lt lb In Vars scope T k (subst (λ n. Elsewhere N types home lo n In) last E) pl.0 t.0.0.0.0.0 pl.1 t.0.0.0.0.1 pl.2 t.0.0.1 pl.3 t.0.1 t.1 t.0.0.0.1 t.2 t.3 st d R

  mutual
    pub term_part : (e : FlatTerm) → Law e
    term_part (Use (ref.Bound b) at k) = use_part b at k
    term_part (Use (ref.Prim x) at k) = primitive_part x at k
    term_part (Use (ref.Scalar x) at k) = λ In Vars scope T lo st d p t known E q. absurd p
    term_part (Strict o mark ts) = strict_part o mark ts (term_parts ts)
    term_part (Lambda no_pattern e) = λ In Vars scope T lo st d p t known E q. absurd p
    term_part (Lambda (pattern_and x ps) e) = lambda_part x ps e (term_part e)
    term_part (Apply f e) = apply_part N types home K places data_places f e (apply_spine N types home K places data_places f e (spine_part f) (term_part e) (wide_part e))
    term_part (Let b v e) = any_let N types home K places data_places b.sizes b.parameters b.is_function b.pattern v e (term_part v) (headed_part v) (term_part e)
    term_part (If c a b) = if_part c a b (term_part c) (term_part a) (term_part b)
    term_part (Loop mark sizes x first turns body) = loop_part sizes mark x first turns body (term_part first) (turns_part turns) (term_part body)

    wide_part : (v : FlatTerm) → Is_lambda v → Wide_law N types home K places v
    wide_part (Lambda (pattern_and x ps) e) i = lambda_wide x ps e (term_part e)
    wide_part (Lambda no_pattern e) i = absurd i
    wide_part (Use r at k) i = absurd i
    wide_part (Strict o mark ts) i = absurd i
    wide_part (Apply f e) i = absurd i
    wide_part (Let b v e) i = absurd i
    wide_part (If c a b) i = absurd i
    wide_part (Loop mark sizes x first turns body) i = absurd i

    pub headed_part : (v : FlatTerm) → Law_headed N types home K places data_places v
    headed_part (Lambda (pattern_and x ps) e) = lambda_headed x ps e (term_part e)
    headed_part (Lambda no_pattern e) = λ bs In Vars scope T lo st d i hd pl t known E q. absurd i
    headed_part (Use r at k) = λ bs In Vars scope T lo st d i hd pl t known E q. absurd i
    headed_part (Strict o mark ts) = λ bs In Vars scope T lo st d i hd pl t known E q. absurd i
    headed_part (Apply f e) = λ bs In Vars scope T lo st d i hd pl t known E q. absurd i
    headed_part (Let b v e) = λ bs In Vars scope T lo st d i hd pl t known E q. absurd i
    headed_part (If c a b) = λ bs In Vars scope T lo st d i hd pl t known E q. absurd i
    headed_part (Loop mark sizes x first turns body) = λ bs In Vars scope T lo st d i hd pl t known E q. absurd i

    spine_part : (f : FlatTerm) → Spine_law N types home K places data_places f
    spine_part (Use (ref.Bound b) at k) = use_spine N types home K places data_places b at k
    spine_part (Apply f e) = apply_spine N types home K places data_places f e (spine_part f) (term_part e) (wide_part e)
    spine_part (Use (ref.Prim x) at k) = primitive_spine N types home K places data_places x at k
    spine_part (Use (ref.Scalar x) at k) = λ lambda In Vars scope T lo st d p t known E q. absurd p
    spine_part (Strict o mark ts) = λ lambda In Vars scope T lo st d p t known E q. absurd p
    spine_part (Lambda ps e) = λ lambda In Vars scope T lo st d p t known E q. absurd p
    spine_part (Let b v e) = λ lambda In Vars scope T lo st d p t known E q. absurd p
    spine_part (If c a b) = λ lambda In Vars scope T lo st d p t known E q. absurd p
    spine_part (Loop mark sizes x first turns body) = λ lambda In Vars scope T lo st d p t known E q. absurd p

    term_parts : (ts : Terms Ref BindId) → Law_all ts
    term_parts no_term = no_part
    term_parts (term_and t ts) = more_part t ts (term_part t) (term_parts ts)

    turns_part : (turns : FlatTurns) → Law_turns N types home K places data_places turns
    turns_part (Counted i m) = term_part m
    turns_part (Over p e) = term_part e
    turns_part (While c) = term_part c
