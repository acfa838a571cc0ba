-- What may be applied to arguments: a name, to data, or a primitive, to data and one lambda.
use Rattle.std.proofs.Common.{◌≡◌, ◌⊎◌, ℕ, ◌≤◌, List, ◌∷◌, Bool, true, false, ◌||◌, Some, Ok, refl, arith, sym, ap, ◌∙◌, subst, inl, inr}
use Rattle.fut_scalar.specs.declared.place.BindId.{BindId}
use Rattle.fut_scalar.specs.declared.place.Place.{Place}
use Rattle.fut_flat.specs.declared.prim.Primitive.{Primitive}
use Rattle.fut_flat.specs.declared.prim.Ref.TheVariants as ref
use Rattle.fut_flat.specs.Terms.{Use}
use Rattle.fut_flat.specs.Erased.{FlatTerm}
use Rattle.fut_types.specs.Types.{Ty, fun_ty, Sub, Kinds, rank, applied}
use Rattle.fut_typing.specs.Names.{Names}
use Rattle.fut_typing.specs.Primitives.{prim_type}
use Rattle.sized_types.specs.Sizes.{Free, Unknown, Variable, Size, erased}
use Rattle.fut_sizes.specs.Applications.{Want, Met, Applied}
use Rattle.fut_sizes.specs.Functions.{is_slot}
use Rattle.fut_sizes.specs.Matching.{Found, nothing_found, made_at, none_opened}
use Rattle.fut_sizes.specs.Primitives.{prim_size, is_regular}
use Rattle.fut_sizes.specs.Rules.{Filled_use, filled as with_types, Sized}
use Rattle.fut_sizes.specs.Scopes.{Scope, instance, used}
use Rattle.fut_sizes.specs.Scoping.{Context}
use Rattle.fut_sizes.specs.Sizing.{finished}
use Rattle.fut_sizes.specs.Steps.{State, Done}
use Rattle.fut_sizes.specs.Suiting.{Free_of, suits_same}
use Rattle.sizes_meet_rules.specs.Known.{Says, Known_name, Judged}
use Rattle.sizes_meet_rules.proofs.Chains.{Given, Waiting_given, Named_given, last_slots, here, arguments, arrows_of, Takes_all, Has_arrows, Widths, takes_arrows, All_kinds, data_kinds as kinds_of_data, last_found, no_function_met, Steps_ran, Matched_ran, steps_ran, data_ran}
use Rattle.sizes_meet_rules.proofs.Filling.{data_holes, lambda_holes, Rest_fine, Taken_at, Agrees, stays_taken, Arrows, none_taken, Chain_as, chain_as}
use Rattle.sizes_meet_rules.proofs.Alike.{Behind_data, Given_ran, given_ran}
use Rattle.sizes_meet_rules.proofs.Lambdas.{wanted_of, found_behind, Wants_formed, Lambda_result, All_data_given, One_given, given_data, one_kinds, Kinds_taken, data_kinds, kinds_take, One_lambda, Lambda_met, lambda_ran, One_wide, wide_wants, wide_ran}
use Rattle.sizes_meet_rules.proofs.Choosing.{Name_says}
use Rattle.sizes_meet_rules.proofs.Meeting.{same_ok, says_more}
use Rattle.sizes_meet_rules.proofs.Named.{named_found, named_size, Used_as, named_ran}
use Rattle.sizes_meet_rules.proofs.Primitives.{parameter_holes, Prim_ok, prim_ok, types_there, prim_data, prim_lambda, prim_wide, prim_widths, prim_typed, prim_says}
use Rattle.sizes_meet_rules.proofs.Replacing.{hole_as}
use Rattle.sizes_meet_rules.proofs.Using.{use_rules}

abbrev pub a_name : BindId → Place → ℕ → FlatTerm
a_name b at j = Use (ref.Bound b) at j

abbrev pub a_primitive : Primitive → Place → ℕ → FlatTerm
a_primitive p at j = Use (ref.Prim p) at j

module _ (N : Names) (types : Sub) (home : ℕ → ℕ) (K : Kinds) where
  module _ (In : Free → Type 0) (Vars : Variable → Type 0) (scope : Scope) (term : FlatTerm) (whole : Size) (regular : Bool) (type : Ty) where
    pub record Named_head : Type 0 where
      pub bind : BindId
      pub place : Place
      pub number : ℕ
      pub name : Known_name In Vars types home scope bind.0 type
      pub used : type ≡ types (home bind.0)
      pub term_is : term ≡ a_name bind place number
      pub whole_is : whole ≡ name.size

    pub record Primitive_head : Type 0 where
      pub primitive : Primitive
      pub place : Place
      pub number : ℕ
      pub node : ℕ
      pub given : Sub
      pub kinds : (m : ℕ) → 1 ≤ rank K (given m)
      pub typed : type ≡ applied given (prim_type primitive)
      pub term_is : term ≡ a_primitive primitive place number
      pub whole_is : whole ≡ used node type (prim_size primitive)
      pub regular_is : regular ≡ is_regular primitive

    abbrev pub Head : Type 0
    Head = Named_head ⊎ Primitive_head

    -- applied to these arguments, in which these sizes stand
    module _ (P : Free → Type 0) (wide : (d : Free) → In d → P d) (settled : (d : Free) → P d → is_slot d ≡ false) (n : ℕ) (gs : List Given) (st : State) (u : Done Size) where
      -- the sized type that it has in the end, which is matched as the one that it is applied with; then this holds of the state
      pub record Resolved (Ends : State → Type 0) : Type 0 where
        pub size : Size
        pub says : Says P Vars size
        pub typed : erased size ≡ type
        pub takes : Takes_all gs size
        pub ran : Matched_ran n N types P gs size u
        pub ends : Ends ran.after
        pub rule : (m : ℕ) (s : ℕ → Size) (G : Context) → Judged In Vars scope G → s m ≡ size → Sized N types s home term m G

      module _ (result : Ty) (arrows : type ≡ arrows_of types gs result) (widths : Widths gs whole) (ran : finished N types n (Applied whole regular (arguments gs)) st ≡ Ok u) where
        abbrev Stays_there : State → Type 0
        Stays_there s = s ≡ st

        named_resolved : All_data_given P Vars K types gs → Named_head → Resolved Stays_there
        named_resolved D H = record {
          size = H.name.size;
          says = says_more In P Vars H.name.size wide H.name.says;
          typed = typed;
          takes = takes;
          ran = M.0;
          ends = M.1;
          rule = λ m s G J e. subst (λ t. Sized N types s home t m G) (sym H.term_is) (use_rules N types home In Vars scope H.bind type H.name H.place H.number m s G J e);
        }
          where
            typed : erased H.name.size ≡ type
            typed = H.name.typed (λ g. H.used)

            takes : Takes_all gs H.name.size
            takes = kinds_take P Vars K types gs H.name.size result H.name.says.formed (typed ∙ arrows) (data_kinds P Vars K types gs H.name.size D)

            has : Has_arrows gs H.name.size
            has = takes_arrows gs H.name.size takes (subst (Widths gs) H.whole_is widths)

            M : (M : Matched_ran n N types P gs H.name.size u) × (M.after ≡ st)
            M = data_ran n N types P regular gs H.name.size st u has (given_data P Vars K types n gs D)
                (steps_ran n N types regular gs H.name.size st u has (kinds_of_data n gs (given_data P Vars K types n gs D)) (ap (λ t. finished N types n (Applied t regular (arguments gs)) st) (sym H.whole_is) ∙ ran))

        module _ (H : Primitive_head) (fine : Rest_fine gs (prim_size H.primitive)) where
          abbrev there : Variable → Ty
          there = types_there H.node H.primitive type H.given H.typed

          abbrev prim_there : Size
          prim_there = prim_size H.primitive

          abbrev opened_size : Size
          opened_size = instance H.node there prim_there

          abbrev Ran : Type 0
          Ran = Steps_ran n N types (is_regular H.primitive) gs opened_size st u

          ok : Prim_ok H.primitive
          ok = prim_ok H.primitive

          module _ (a : Arrows H.node there P settled Vars gs prim_there) where
            has : Has_arrows gs opened_size
            unfolding used
            has = prim_widths H.node H.primitive type H.given H.typed P settled Vars gs a (subst (Widths gs) H.whole_is widths)

            steps : All_kinds gs → Ran
            unfolding used
            steps kinds = steps_ran n N types (is_regular H.primitive) gs opened_size st u has kinds (ap (λ t. finished N types n (Applied t (is_regular H.primitive) (arguments gs)) st) (sym H.whole_is) ∙ ap (λ r. finished N types n (Applied whole r (arguments gs)) st) (sym H.regular_is) ∙ ran)

            module _ (R : Ran) where
              C : Chain_as H.node there P settled Vars n gs none_opened prim_there nothing_found (last_found n gs opened_size nothing_found) R.first
              C = chain_as H.node there P settled Vars n gs none_opened prim_there nothing_found (last_found n gs opened_size nothing_found) R.first a ok.formed ok.inferred (none_taken H.node there P settled Vars n gs opened_size nothing_found (λ v. inl refl)) R.met

              as_given : (Ends : State → Type 0) → Behind_data H.node there P settled Vars R.first R.last.result prim_there → ((Θ : Variable → Size) → Agrees H.node there P settled Vars Θ R.last.result → Kinds_taken P Vars K types gs (with_types Θ prim_there)) → Ends R.last.state → Resolved Ends
              as_given Ends behind kinds ends = record {
                size = with_types G.types_now prim_there;
                says = says;
                typed = typed;
                takes = kinds_take P Vars K types gs (with_types G.types_now prim_there) result says.formed (typed ∙ arrows) (kinds G.types_now G.agrees);
                ran = G.ran;
                ends = subst Ends (sym G.after_is) ends;
                rule = λ m s G' J e. subst (λ t. Sized N types s home t m G') (sym H.term_is) (subst (Filled_use (λ v. true) prim_there) (sym e) (record { types = G.types_now; data_types = G.is_data; closed = G.closed; others = λ v z. absurd (let y : true ≡ false = z in cc); used = inl suits_same }));
              }
                where
                  G : Given_ran H.node there P settled Vars n N types gs prim_there R.last u
                  G = given_ran H.node there P settled Vars n N types (is_regular H.primitive) gs prim_there st u a ok.formed ok.inferred R (λ k t. behind)

                  says : Says P Vars (with_types G.types_now prim_there)
                  says = prim_says H.node H.primitive type H.given H.typed P settled Vars G.types_now G.nice

                  typed : erased (with_types G.types_now prim_there) ≡ type
                  typed = prim_typed H.node H.primitive type H.given H.typed P settled Vars G.types_now G.nice

              -- with data alone
              data_behind : ((v : Variable) → lambda_holes prim_there v ≡ false) → Behind_data H.node there P settled Vars R.first R.first prim_there
              data_behind none = record {
                taking = C.taking;
                stays = λ v e. refl;
                extends = λ j d s z. z;
                slots = λ i. inl refl;
                later = omega arith;
                makers = λ i l. refl;
                taken = hole_as (λ v. parameter_holes prim_there v ≡ true) (λ v. Taken_at H.node there P settled Vars R.first v) (λ v e. C.data_taken v (fine.covers v (of_data (data_holes prim_there v) (ap (λ b. data_holes prim_there v || b) (sym (none v)) ∙ e)))) prim_there ok.covers;
              }
                where
                  of_data : (b : Bool) → b || false ≡ true → b ≡ true
                  of_data true e = refl
                  of_data false e = e

              data_given : All_data_given P Vars K types gs → ((v : Variable) → lambda_holes prim_there v ≡ false) → Resolved Stays_there
              data_given D none = as_given Stays_there (subst (λ (y : Done Found). Behind_data H.node there P settled Vars R.first y.result prim_there) same (data_behind none)) (λ Θ b. data_kinds P Vars K types gs (with_types Θ prim_there) D) (ap (λ (y : Done Found). y.state) (sym same))
                where
                  same : record { result = R.first; state = st } ≡ R.last
                  same = same_ok (sym (no_function_met n (is_regular H.primitive) gs none_opened opened_size nothing_found has (given_data P Vars K types n gs D) R.first st) ∙ R.functions)

              -- with a lambda
              module _ (Went : Type 0) (after : State) where
                abbrev Ends_there : State → Type 0
                Ends_there s = Went × (s ≡ after)

                lambda_behind : Lambda_met H.node there P settled Vars K types Went st after n (data_holes prim_there) (is_regular H.primitive) gs prim_there R.first R.last → Behind_data H.node there P settled Vars R.first R.last.result prim_there
                lambda_behind L = record {
                  taking = L.taking;
                  stays = L.stays;
                  extends = L.extends;
                  slots = L.slots;
                  later = L.later;
                  makers = L.makers;
                  taken = hole_as (λ v. parameter_holes prim_there v ≡ true) (λ v. Taken_at H.node there P settled Vars R.last.result v) (λ v e. by_place v (data_holes prim_there v) refl e) prim_there ok.covers;
                }
                  where
                    by_place : (v : Variable) (b : Bool) → data_holes prim_there v ≡ b → b || lambda_holes prim_there v ≡ true → Taken_at H.node there P settled Vars R.last.result v
                    by_place v true z e = stays_taken H.node there P settled Vars R.first R.last.result L.stays v (C.data_taken v (fine.covers v z))
                    by_place v false z e = L.taken v e

                lambda_given : One_lambda H.node there P settled Vars K types Went st after n (data_holes prim_there) (is_regular H.primitive) gs prim_there → Resolved Ends_there
                lambda_given o = as_given Ends_there (lambda_behind L) L.is (L.went, L.state)
                  where
                    L : Lambda_met H.node there P settled Vars K types Went st after n (data_holes prim_there) (is_regular H.primitive) gs prim_there R.first R.last
                    L = lambda_ran H.node there P settled Vars K types Went st after n (data_holes prim_there) (is_regular H.primitive) gs none_opened prim_there nothing_found R.first R.last o has C.taking (λ v z. C.data_taken v (fine.covers v z)) R.functions

          primitive_data : All_data_given P Vars K types gs → Resolved Stays_there
          primitive_data D =
              let A = prim_data H.node H.primitive type H.given H.typed P settled Vars K H.kinds types gs result fine arrows D in
              data_given A.0 (steps A.0 (kinds_of_data n gs (given_data P Vars K types n gs D))) D A.1

          pub primitive_lambda : (Went : Type 0) (after : State) → One_given P Vars K types Went st after gs → Resolved (λ s. Went × (s ≡ after))
          primitive_lambda Went after D =
              let A = prim_lambda H.node H.primitive type H.given H.typed P settled Vars K H.kinds types gs result fine arrows Went st after n D in
              lambda_given A.0 (steps A.0 (one_kinds P Vars K types Went st after gs D)) Went after A.1

        pub resolved : ((H : Primitive_head) → Rest_fine gs (prim_size H.primitive)) → All_data_given P Vars K types gs → Head → Resolved Stays_there
        resolved is_data D (inl H) = named_resolved D H
        resolved is_data D (inr H) = primitive_data H (is_data H) D

    -- a primitive applied to a name, which is used at the sizes that are wanted of it, and to data
    module _ (P : Free → Type 0) (wide : (d : Free) → In d → P d) (settled : (d : Free) → P d → is_slot d ≡ false) (n : ℕ) (x : Given) (gs : List Given) (st : State) (u : Done Size)
        (result : Ty) (arrows : type ≡ arrows_of types (x ∷ gs) result) (widths : Widths (x ∷ gs) whole) (ran : finished N types n (Applied whole regular (arguments (x ∷ gs))) st ≡ Ok u) (H : Primitive_head) (fine : Rest_fine (x ∷ gs) (prim_size H.primitive)) where
      abbrev there_types : Variable → Ty
      there_types = types_there H.node H.primitive type H.given H.typed

      abbrev there_size : Size
      there_size = instance H.node there_types (prim_size H.primitive)

      pub primitive_named : (V : Named_given x) → (a c : Ty) → types x.node ≡ fun_ty a c → All_data_given P Vars K types gs → Name_says P Vars 0 V.own → erased V.own ≡ types x.node → x.size ≡ named_size H.node there_types (prim_size H.primitive) (named_found n (is_regular H.primitive) x V.own gs there_size)
          → ((b : ℕ) → P (Unknown (here n gs) b) → ⊥) → (fn fm : ℕ) → (fn ≡ fm → ⊥) → ((d : Free) → P d → Free_of fn d × Free_of fm d) → Resolved P wide settled n (x ∷ gs) st u (λ s. Used_as P Vars V.own x.size × (s ≡ st))
      primitive_named V a c is D says own_typed size_is apart fn fm two fresh = as_given P wide settled n (x ∷ gs) st u result arrows widths ran H fine A.0 R (λ s. Used_as P Vars V.own x.size × (s ≡ st)) (lambda_behind P wide settled n (x ∷ gs) st u result arrows widths ran H fine A.0 R (Used_as P Vars V.own x.size) st L) L.is (L.went, L.state)
        where
          A : Arrows H.node there_types P settled Vars (x ∷ gs) (prim_size H.primitive) × One_wide H.node there_types P settled Vars K types (Used_as P Vars V.own x.size) st st n (data_holes (prim_size H.primitive)) (is_regular H.primitive) (x ∷ gs) (prim_size H.primitive)
          A = prim_wide H.node H.primitive type H.given H.typed P settled Vars K H.kinds types x gs result fine arrows (Used_as P Vars V.own x.size) st st n V.is_fun a c is D

          kinds : All_kinds (x ∷ gs)
          kinds = (inr (inr V), kinds_of_data n gs (given_data P Vars K types n gs D))

          R : Steps_ran n N types (is_regular H.primitive) (x ∷ gs) there_size st u
          R = steps P wide settled n (x ∷ gs) st u result arrows widths ran H fine A.0 kinds

          C : Chain_as H.node there_types P settled Vars n (x ∷ gs) none_opened (prim_size H.primitive) nothing_found (last_found n (x ∷ gs) there_size nothing_found) R.first
          C = chain_as H.node there_types P settled Vars n (x ∷ gs) none_opened (prim_size H.primitive) nothing_found (last_found n (x ∷ gs) there_size nothing_found) R.first A.0 (prim_ok H.primitive).formed (prim_ok H.primitive).inferred (none_taken H.node there_types P settled Vars n (x ∷ gs) there_size nothing_found (λ v. inl refl)) R.met

          L : Lambda_met H.node there_types P settled Vars K types (Used_as P Vars V.own x.size) st st n (data_holes (prim_size H.primitive)) (is_regular H.primitive) (x ∷ gs) (prim_size H.primitive) R.first R.last
          L = named_ran H.node there_types P settled Vars K types (Used_as P Vars V.own x.size) st n (data_holes (prim_size H.primitive)) (is_regular H.primitive) x gs V (λ h. h) says own_typed a c is apart fn fm two fresh (prim_size H.primitive) R.first R.last size_is A.1
              (has P wide settled n (x ∷ gs) st u result arrows widths ran H fine A.0) C.taking (C.slots (last_slots n P P settled settled (x ∷ gs) there_size nothing_found (λ i. inl refl))) (λ v z. C.data_taken v (fine.covers v z)) R.met R.functions

    -- a primitive applied to a lambda, which takes the parameters that are wanted of it, and to data, in which fewer sizes may stand
    module _ (P : Free → Type 0) (wide : (d : Free) → In d → P d) (settled : (d : Free) → P d → is_slot d ≡ false) (P' : Free → Type 0) (settled' : (d : Free) → P' d → is_slot d ≡ false) (n : ℕ) (x : Given) (gs : List Given) (st : State) (u : Done Size)
        (result : Ty) (arrows : type ≡ arrows_of types (x ∷ gs) result) (widths : Widths (x ∷ gs) whole) (ran : finished N types n (Applied whole regular (arguments (x ∷ gs))) st ≡ Ok u) (H : Primitive_head) (fine : Rest_fine (x ∷ gs) (prim_size H.primitive)) where
      abbrev types_of : Variable → Ty
      types_of = types_there H.node H.primitive type H.given H.typed

      abbrev pub opened_there : Size
      opened_there = instance H.node types_of (prim_size H.primitive)

      abbrev pub want_there : Found → Want
      want_there before = wanted_of n (is_regular H.primitive) x gs opened_there before

      pub primitive_wide : (Went : Type 0) (after : State) → (V : Waiting_given x) → (a c : Ty) → types x.node ≡ fun_ty a c → All_data_given P Vars K types gs → All_data_given P' Vars K types gs
          → ((before : Found) (m : Done Met) → found_behind n x gs opened_there ≡ Ok before → Wants_formed P' K (want_there before).size × (erased (want_there before).size ≡ types x.node) → V.waiting (Some (want_there before)) (made_at (here n gs) before) st ≡ Ok m → Lambda_result P Vars Went after x (types x.node) (want_there before) (made_at (here n gs) before) m)
          → Resolved P wide settled n (x ∷ gs) st u (λ s. Went × (s ≡ after))
      primitive_wide Went after V a c is D D' run = as_given P wide settled n (x ∷ gs) st u result arrows widths ran H fine A.0 R (λ s. Went × (s ≡ after)) (lambda_behind P wide settled n (x ∷ gs) st u result arrows widths ran H fine A.0 R Went after L) L.is (L.went, L.state)
        where
          A : Arrows H.node types_of P settled Vars (x ∷ gs) (prim_size H.primitive) × One_wide H.node types_of P settled Vars K types Went st after n (data_holes (prim_size H.primitive)) (is_regular H.primitive) (x ∷ gs) (prim_size H.primitive)
          A = prim_wide H.node H.primitive type H.given H.typed P settled Vars K H.kinds types x gs result fine arrows Went st after n V.is_fun a c is D

          A' : Arrows H.node types_of P' settled' Vars (x ∷ gs) (prim_size H.primitive) × One_wide H.node types_of P' settled' Vars K types Went st after n (data_holes (prim_size H.primitive)) (is_regular H.primitive) (x ∷ gs) (prim_size H.primitive)
          A' = prim_wide H.node H.primitive type H.given H.typed P' settled' Vars K H.kinds types x gs result fine arrows Went st after n V.is_fun a c is D'

          kinds : All_kinds (x ∷ gs)
          kinds = (inr (inl V), kinds_of_data n gs (given_data P Vars K types n gs D))

          R : Steps_ran n N types (is_regular H.primitive) (x ∷ gs) opened_there st u
          R = steps P wide settled n (x ∷ gs) st u result arrows widths ran H fine A.0 kinds

          C : Chain_as H.node types_of P settled Vars n (x ∷ gs) none_opened (prim_size H.primitive) nothing_found (last_found n (x ∷ gs) opened_there nothing_found) R.first
          C = chain_as H.node types_of P settled Vars n (x ∷ gs) none_opened (prim_size H.primitive) nothing_found (last_found n (x ∷ gs) opened_there nothing_found) R.first A.0 (prim_ok H.primitive).formed (prim_ok H.primitive).inferred (none_taken H.node types_of P settled Vars n (x ∷ gs) opened_there nothing_found (λ v. inl refl)) R.met

          C' : Chain_as H.node types_of P' settled' Vars n (x ∷ gs) none_opened (prim_size H.primitive) nothing_found (last_found n (x ∷ gs) opened_there nothing_found) R.first
          C' = chain_as H.node types_of P' settled' Vars n (x ∷ gs) none_opened (prim_size H.primitive) nothing_found (last_found n (x ∷ gs) opened_there nothing_found) R.first A'.0 (prim_ok H.primitive).formed (prim_ok H.primitive).inferred (none_taken H.node types_of P' settled' Vars n (x ∷ gs) opened_there nothing_found (λ v. inl refl)) R.met

          W : Wants_formed P' K (want_there R.first).size × (erased (want_there R.first).size ≡ types x.node)
          W = wide_wants H.node types_of P' settled' Vars K types Went st after n (data_holes (prim_size H.primitive)) (is_regular H.primitive) x gs (prim_size H.primitive) R.first A'.1 C'.taking (λ v z. C'.data_taken v (fine.covers v z))

          L : Lambda_met H.node types_of P settled Vars K types Went st after n (data_holes (prim_size H.primitive)) (is_regular H.primitive) (x ∷ gs) (prim_size H.primitive) R.first R.last
          L = wide_ran H.node types_of P settled Vars K types Went st after n (data_holes (prim_size H.primitive)) (is_regular H.primitive) x gs (prim_size H.primitive) R.first R.last V (λ m b z. run R.first m b W z) A.1 (has P wide settled n (x ∷ gs) st u result arrows widths ran H fine A.0) C.taking (λ v z. C.data_taken v (fine.covers v z)) R.met R.functions
