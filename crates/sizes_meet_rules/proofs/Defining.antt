-- Definitions in a row meet the rules: each is a function that says no sizes but constants and numbers that are defined before it, or
-- such a number, or other data whose sizes are told.
use Rattle.std.proofs.Common.{◌≡◌, ◌⊎◌, ℕ, ◌+◌, ◌<◌, ◌≤◌, List, [], ◌∷◌, Bool, true, false, ◌||◌, ◌&&◌, cond, nat_eq, Ok, refl, sym, ap, ◌∙◌, subst, arith, inl, inr, eqb-true}
use Rattle.std.specs.Prelude.{nat_le}
use Rattle.std.proofs.lemmas.Bool.{leb-true}
use Rattle.fut_scalar.specs.declared.place.BindId.{BindId}
use Rattle.fut_flat.specs.declared.prim.Ref.{Ref}
use Rattle.fut_scalar.specs.declared.place.Place.{Place}
use Rattle.fut_flat.specs.Numbers.{numbers}
use Rattle.fut_flat.specs.Terms.{Bound_pattern, Wild_pattern, Tuple_pattern, Record_pattern, Typed_pattern, Parameter, Declared, Strict, Terms}
use Rattle.fut_flat.specs.Erased.{FlatTerm, FlatPattern, FlatType}
use Rattle.fut_types.specs.declared.Kind.{Kind}
use Rattle.fut_types.specs.Types.{Ty, Sub, Kinds, level, fun_ty}
use Rattle.fut_typing.specs.Free.{is_within, is_free}
use Rattle.fut_typing.specs.Generalised.{own_types, Reused}
use Rattle.fut_typing.specs.Names.{Names}
use Rattle.fut_typing.specs.Primitives.{i64_ty}
use Rattle.fut_typing.specs.Patterns.{with_parameters}
use Rattle.fut_typing.specs.Program.{Defined, definition_scheme, Definitions_typed}
use Rattle.fut_typing.specs.Scopes.{Uses, Scope as TypeScope, with_uses}
use Rattle.fut_typing.specs.Typing.{Typed}
use Rattle.sized_types.specs.Sizes.{Free, Const, Name, Own, Unknown, Slot, Size, Fun, erased}
use Rattle.fut_sizes.specs.Agreeing.{Answer, is_among}
use Rattle.fut_sizes.specs.Applications.{Part}
use Rattle.fut_sizes.specs.Functions.{is_slot, size_names}
use Rattle.fut_sizes.specs.ProgramRules.{with_definition, Definition_sized, Definitions_sized}
use Rattle.fut_sizes.specs.Programs.{definition_sized, definitions_sized}
use Rattle.fut_sizes.specs.Rules.{Each_hole, Each_holes, Away, Sized}
use Rattle.fut_sizes.specs.Scopes.{Scope, i64_size}
use Rattle.fut_sizes.specs.Scoping.{Context}
use Rattle.fut_sizes.specs.Sizing.{finished, has_parameters, with_head, with_general, sized}
use Rattle.fut_sizes.specs.Steps.{State, Done, ask}
use Rattle.fut_sizes.specs.Suiting.{Each, Each_all, Scoped}
use Rattle.sizes_meet_rules.specs.Claims.{Definitions_have_types}
use Rattle.sizes_meet_rules.specs.Known.{is_i64_size, Formed, All_formed, Says, Known_names, Is_const, Judged, Elsewhere}
use Rattle.sizes_meet_rules.specs.Plain.{Flat_type, Written_whole, Sizes_told, Data_definition, Formed_type, Is_lambda, Are_sizes, Plain_headed, Plain_term, Function_definition, Number_definition, Plain_definitions}
use Rattle.sizes_meet_rules.proofs.Applying.{Function_size, function_is, number_size}
use Rattle.sizes_meet_rules.proofs.Flat_types.{flat_is, flat_each}
use Rattle.sizes_meet_rules.proofs.Declaring.{one_typed, whole_written, one_term, declared_is}
use Rattle.sizes_meet_rules.proofs.Forming.{is_i64_ty, i64_ty_is, number_typed}
use Rattle.sizes_meet_rules.proofs.Naming.{known_wider}
use Rattle.sizes_meet_rules.proofs.Generalising.{with_function, known_general, judged_general, lambda_arrow}
use Rattle.sizes_meet_rules.proofs.Meeting.{Then_ok, then_ok, asked, same_ok, at_itself, at_another, each_scoped, In_nodes, away_of, Meets, Waits, finished_meets, function_knows}
use Rattle.sizes_meet_rules.proofs.Replacing.{hole_as}
use Rattle.sizes_meet_rules.proofs.Settling.{Any_variable, noted}
use Rattle.sizes_meet_rules.proofs.Showing.{numbers_some, alone, sizes_written}
use Rattle.sizes_meet_rules.proofs.Heading.{known_headed}
use Rattle.sizes_meet_rules.proofs.Using.{None_there}
use Rattle.sizes_meet_rules.proofs.Walking.{headed_part, term_part}

-- what is known at a definition: constants, and numbers that are defined before it
abbrev pub Known_before : (Free → Type 0) → Free → Type 0
Known_before Numbers d = Is_const d ⊎ Numbers d

-- these are made and bound at no node from here on
pub record Before (N : Names) (types : Sub) (home : ℕ → ℕ) (lo : ℕ) (Numbers : Free → Type 0) : Type 0 where
  pub no_slot : (d : Free) → Numbers d → is_slot d ≡ false
  pub outside : (d : Free) → Numbers d → (from hi : ℕ) → lo ≤ from → In_nodes N types home from hi d → ⊥

known_elsewhere : (N : Names) (types : Sub) (home : ℕ → ℕ) (lo : ℕ) (Numbers : Free → Type 0) → Before N types home lo Numbers → (from hi : ℕ) → lo ≤ from → Elsewhere N types home from hi (Known_before Numbers)
known_elsewhere N types home lo Numbers B from hi l = record { no_slot = λ d i. by_kind d i; outside = λ d i o. outside d i o }
  where
    no_slot : (d : Free) → Is_const d → is_slot d ≡ false
    no_slot (Const c) i = refl
    no_slot (Name b) i = absurd i
    no_slot (Own n k) i = absurd i
    no_slot (Unknown n k) i = absurd i
    no_slot (Slot k) i = absurd i

    nowhere : (d : Free) → Is_const d → In_nodes N types home from hi d → ⊥
    nowhere (Const c) i o = o
    nowhere (Name b) i o = i
    nowhere (Own n k) i o = i
    nowhere (Unknown n k) i o = i
    nowhere (Slot k) i o = i

    by_kind : (d : Free) → Known_before Numbers d → is_slot d ≡ false
    by_kind d (inl i) = no_slot d i
    by_kind d (inr i) = B.no_slot d i

    outside : (d : Free) → Known_before Numbers d → In_nodes N types home from hi d → ⊥
    outside d (inl i) o = nowhere d i o
    outside d (inr i) o = B.outside d i from hi l o

among_one : (c b : ℕ) → is_among (b ∷ []) c ≡ true → c ≡ b
among_one c b e = by_name (nat_eq c b) refl e
  where
    by_name : (k : Bool) → nat_eq c b ≡ k → cond k true false ≡ true → c ≡ b
    by_name true f e = eqb-true c b f
    by_name false f e = absurd (let z : false ≡ true = e in cc)

-- the value's node is none of the name's
behind_name : (lo : ℕ) → is_within lo 1 (lo + 1) ≡ false
behind_name lo = by_later (nat_le (1 + (lo + 1)) (lo + 1)) refl (nat_le lo (lo + 1))
  where
    by_later : (c : Bool) → nat_le (1 + (lo + 1)) (lo + 1) ≡ c → (d : Bool) → d && c ≡ false
    by_later true e d = absurd (let z = leb-true (1 + (lo + 1)) (lo + 1) e in omega (arith, z))
    by_later false e true = refl
    by_later false e false = refl

module _ (N : Names) (types : Sub) (home : ℕ → ℕ) (K : Kinds) (places : Kind) (data_places : 1 ≤ level places) where
  abbrev pub Known_here : (Free → Type 0) → Scope → TypeScope → Type 0
  Known_here Numbers scope T = Known_names (Known_before Numbers) None_there home scope K types T

  abbrev pub Judged_here : (Free → Type 0) → Scope → Context → Type 0
  Judged_here Numbers scope G = Judged (Known_before Numbers) None_there scope G

  -- ---- the steps of a definition

  abbrev a_definition : List (Parameter BindId) → BindId → FlatTerm → Defined
  a_definition hd x v = record { name = Bound_pattern x; parameters = hd; value = v }

  record Definition_ran (hd : List (Parameter BindId)) (x : BindId) (v : FlatTerm) (lo : ℕ) (scope : Scope) (st : State) (w : Done Scope) : Type 0 where
    part : Done Part
    value : Done Size
    part_is : sized N types v (size_names hd) (lo + 1) (with_head N types (size_names hd) scope) st ≡ Ok part
    value_is : finished N types (lo + 1) part.result part.state ≡ Ok value
    gives : ◌≡◌ {A = Answer (Done Scope)} (Ok (record { result = with_general N types (Bound_pattern x) value.result scope; state = (noted lo value.result value.state).state })) (Ok w)

  definition_ran : (hd : List (Parameter BindId)) (x : BindId) (v : FlatTerm) (lo : ℕ) (scope : Scope) (st : State) (w : Done Scope) → definition_sized N types (a_definition hd x v) lo scope st ≡ Ok w → Definition_ran hd x v lo scope st w
  definition_ran hd x v lo scope st w q =
      let x1 = then_ok (ask (has_parameters N types (size_names hd) v (lo + 1)) st) q in
      let x2 = then_ok (sized N types v (size_names hd) (lo + 1) (with_head N types (size_names hd) scope) x1.first.state) x1.rest in
      let x3 = then_ok (finished N types (lo + 1) x2.first.result x2.first.state) x2.rest in
      record {
        part = x2.first;
        value = x3.first;
        part_is = ap (sized N types v (size_names hd) (lo + 1) (with_head N types (size_names hd) scope)) (sym (asked (has_parameters N types (size_names hd) v (lo + 1)) st x1.first x1.done).state) ∙ x2.done;
        value_is = x3.done;
        gives = x3.rest;
      }

  -- definitions in a row, where these numbers are known
  pub record Row_meets (Numbers : Free → Type 0) (ds : List Defined) (lo : ℕ) (scope : Scope) (st after : State) : Type 0 where
    pub kept : (n : ℕ) → n < lo → after.nodes n ≡ st.nodes n
    pub rules : (s : ℕ → Size) (G : Context) (hi : ℕ) → Judged_here Numbers scope G → ((n : ℕ) → lo ≤ n → s n ≡ after.nodes n) → Definitions_sized N types s home ds lo hi G × Definitions_have_types types s ds lo

  abbrev pub Row_law : List Defined → Type 1
  Row_law ds = (Numbers : Free → Type 0) (lo : ℕ) (scope : Scope) (T : TypeScope) (st : State) (w : Done Scope) → Before N types home lo Numbers → Plain_definitions types home K places N ds lo → Definitions_typed N places ds lo T K types → Known_here Numbers scope T → definitions_sized N types ds lo scope st ≡ Ok w → Row_meets Numbers ds lo scope st w.state

  -- ---- one definition, of a closed type

  module _ (Numbers : Free → Type 0) (hd : List (Parameter BindId)) (x : BindId) (v : FlatTerm) (lo : ℕ) (scope : Scope) (T : TypeScope) (st : State) (w : Done Scope) (R : Definition_ran hd x v lo scope st w) (before : Before N types home lo Numbers) (plain : home x.0 ≡ lo) (t1 : types lo ≡ types (lo + 1)) where
    abbrev In : Free → Type 0
    In = Known_before Numbers

    in_value : Elsewhere N types home (lo + 1) (lo + 1 + numbers v) In
    in_value = known_elsewhere N types home lo Numbers before (lo + 1) (lo + 1 + numbers v) (omega arith)

    module _ (size : Size) (M : Meets N types home In None_there scope v (lo + 1) (lo + 1 + numbers v) st size R.value.state) (size_is : R.value.result ≡ size) (says : Says In None_there size) where
      abbrev scope_behind : Scope
      scope_behind = with_function N types K places In None_there home x size scope

      after_is : w ≡ record { result = scope_behind; state = (noted lo size R.value.state).state }
      after_is = sym (same_ok R.gives) ∙ ap (λ t. record { result = with_general N types (Bound_pattern x) t scope; state = (noted lo t R.value.state).state }) size_is

      node_here : w.state.nodes lo ≡ size
      node_here = ap (λ (y : Done Scope). y.state.nodes lo) after_is ∙ at_itself lo size R.value.state.nodes

      node_else : (n : ℕ) → (lo ≡ n → ⊥) → w.state.nodes n ≡ R.value.state.nodes n
      node_else n h = ap (λ (y : Done Scope). y.state.nodes n) after_is ∙ at_another lo n size R.value.state.nodes h

      definition_rules : (s : ℕ → Size) (G : Context) (hi : ℕ) → Judged_here Numbers scope G → s lo ≡ size → ((n : ℕ) → lo + 1 ≤ n → n < lo + 1 + numbers v → s n ≡ R.value.state.nodes n) → Sized N types s home v (lo + 1) G × Definition_sized N types s home (Bound_pattern x) lo (lo + 1) (lo + (1 + numbers v)) hi
      definition_rules s G hi J here a =
          let n = numbers_some v in
          let at_value : s (lo + 1) ≡ size = a (lo + 1) (omega arith) (omega (arith, n)) ∙ M.here in (
            M.rules s G J a,
            record {
              type = here ∙ sym at_value;
              bound = λ c e. at_home c e;
              away = subst (λ t. Away N types s home (lo + (1 + numbers v)) hi t) (sym at_value) (away_of N types home In None_there s (lo + (1 + numbers v)) hi size (λ d i o. (known_elsewhere N types home lo Numbers before (lo + (1 + numbers v)) hi (omega arith)).outside d i o) says);
            },
          )
        where
          at_home : (c : ℕ) → is_among (x.0 ∷ []) c ≡ true → (lo ≤ home c) × (home c < lo + 1)
          at_home c e = by_name (among_one c x.0 e)
            where
              by_name : c ≡ x.0 → (lo ≤ home c) × (home c < lo + 1)
              by_name z = let y : home c ≡ lo = ap home z ∙ plain in (omega (arith, y), omega (arith, y))

      -- what is known behind it
      record Behind (Later : Free → Type 0) (uses : Uses) : Type 0 where
        before_next : Before N types home (lo + (1 + numbers v)) Later
        known : Known_here Later scope_behind (with_uses x.0 uses T)
        judged : (s : ℕ → Size) (G : Context) → s lo ≡ size → Judged_here Numbers scope G → Judged_here Later scope_behind (with_definition N types s home (Bound_pattern x) lo G)

      -- those behind it meet the rules too
      row_meets : (Later : Free → Type 0) (uses : Uses) → Behind Later uses → (ds : List Defined) → Row_law ds → Definitions_typed N places ds (lo + (1 + numbers v)) (with_uses x.0 uses T) K types → Plain_definitions types home K places N ds (lo + (1 + numbers v)) → (z : Done Scope) → definitions_sized N types ds (lo + (1 + numbers v)) w.result w.state ≡ Ok z → Row_meets Numbers (a_definition hd x v ∷ ds) lo scope st z.state
      row_meets Later uses B ds rest td pd z q = record {
        kept = λ n l. Y.kept n (omega (arith, l)) ∙ node_else n (λ e. omega (arith, e, l)) ∙ M.kept n (inl (omega (arith, l)));
        rules = rules;
      }
        where
          Y : Row_meets Later ds (lo + (1 + numbers v)) scope_behind w.state z.state
          Y = rest Later (lo + (1 + numbers v)) scope_behind (with_uses x.0 uses T) w.state z B.before_next pd td B.known (ap (λ (y : Done Scope). definitions_sized N types ds (lo + (1 + numbers v)) y.result w.state) (sym after_is) ∙ q)

          rules : (s : ℕ → Size) (G : Context) (hi : ℕ) → Judged_here Numbers scope G → ((n : ℕ) → lo ≤ n → s n ≡ z.state.nodes n) → Definitions_sized N types s home (a_definition hd x v ∷ ds) lo hi G × Definitions_have_types types s (a_definition hd x v ∷ ds) lo
          rules s G hi J a =
              let there : (n : ℕ) → lo ≤ n → n < lo + (1 + numbers v) → s n ≡ w.state.nodes n = λ n l m. a n l ∙ Y.kept n m in
              let here : s lo ≡ size = there lo (omega arith) (omega arith) ∙ node_here in
              let first = definition_rules s G hi J here (λ n l m. there n (omega (arith, l)) (omega (arith, m)) ∙ node_else n (λ e. omega (arith, l, e))) in
              let others = Y.rules s (with_definition N types s home (Bound_pattern x) lo G) hi (B.judged s G here J) (λ n l. a n (omega (arith, l))) in
              ((first.0, first.1, others.0), (ap erased here ∙ M.typed ∙ sym t1, others.1))

    -- ---- of a function

    module _ (lambda : Is_lambda v) (formed : Formed_type (types lo)) (are : Are_sizes hd) (ph : Plain_headed types home K places N (size_names hd) v (lo + 1)) (pv : Plain_term types home K places N v (lo + 1)) (chosen : Sub) (tv : Typed N places v (lo + 1) (with_parameters hd chosen T) K types) (known : Known_here Numbers scope T) where
      value_waits : Waits N types home In None_there scope v (lo + 1) (lo + 1 + numbers v) st R.part.result R.part.state
      value_waits = headed_part N types home K places data_places v (size_names hd) In None_there scope (with_parameters hd chosen T) (lo + 1) st R.part lambda ph pv tv (known_headed N types home K places In None_there hd chosen scope T are known) in_value R.part_is

      value_meets : Meets N types home In None_there scope v (lo + 1) (lo + 1 + numbers v) st R.value.result R.value.state
      value_meets = finished_meets N types home In None_there scope v (lo + 1) (lo + 1 + numbers v) st R.part.result R.part.state R.value (let n = numbers_some v in omega (arith, n)) in_value (inr (inl value_waits)) R.value_is

      value_knows : Each (Scoped (λ d. In d ⊎ Is_const d)) 0 R.value.result
      value_knows = function_knows N types home In None_there scope v (lo + 1) (lo + 1 + numbers v) st R.part.result R.part.state R.value value_waits R.value_is

      value_arrow : (a : Ty) × (c : Ty) × (types (lo + 1) ≡ fun_ty a c)
      value_arrow = lambda_arrow N types home K places types v (lo + 1) (with_parameters hd chosen T) lambda tv

      F : Function_size R.value.result value_arrow.0 value_arrow.1
      F = function_is R.value.result value_arrow.0 value_arrow.1 value_meets.says.formed (value_meets.typed ∙ value_arrow.2)

      abbrev function_there : Size
      function_there = Fun F.chosen F.from F.to

      M : Meets N types home In None_there scope v (lo + 1) (lo + 1 + numbers v) st function_there R.value.state
      M = subst (λ t. Meets N types home In None_there scope v (lo + 1) (lo + 1 + numbers v) st t R.value.state) F.is_function value_meets

      says : Says In None_there function_there
      says = record { sizes = subst (λ t. Each (Scoped In) 0 t) F.is_function (each_scoped (λ d. In d ⊎ Is_const d) In either R.value.result 0 value_knows); variables = M.says.variables; formed = M.says.formed }
        where
          either : (d : Free) → In d ⊎ Is_const d → In d
          either d (inl i) = i
          either d (inr i) = inl i

      not_itself : (d : Free) → Numbers d → d ≡ Name x.0 → ⊥
      not_itself d i e = before.outside d i lo (lo + 1) (omega arith) (subst (In_nodes N types home lo (lo + 1)) (sym e) (omega (arith, plain), omega (arith, plain)))

      function_behind : (uses : Uses) → ((u : Ty) → uses K types u → (a : Ty) × (c : Ty) × (u ≡ fun_ty a c)) → Behind function_there M F.is_function says Numbers uses
      function_behind uses arrow = record {
        before_next = record { no_slot = before.no_slot; outside = λ d i from hi l o. before.outside d i from hi (omega (arith, l)) o };
        known = known_general N types K places In None_there home x function_there scope T uses says says.variables (M.typed ∙ sym t1 ∙ ap types (sym plain)) (λ u a. inl (arrow u a)) (λ z. absurd (let y : false ≡ true = z in cc)) known;
        judged = λ s G here J. judged_general N types K places In None_there home x function_there scope s lo here (hole_as None_there Any_variable (λ a i. tt) function_there says.variables) (λ a. true) G J.sizes J.schemes J.none_open (λ d i. finds G J d i) J.finds_types;
      }
        where
          finds : (G : Context) → Judged_here Numbers scope G → (d : Free) → In d → ((d ≡ Name x.0 → ⊥) × (G.finds d ≡ true)) ⊎ (((d ≡ Name x.0) × (is_i64_size function_there ≡ true)) ⊎ Is_const d)
          finds G J d (inl i) = inr (inr i)
          finds G J d (inr i) = by_form (J.finds d (inr i))
            where
              by_form : (G.finds d ≡ true) ⊎ Is_const d → ((d ≡ Name x.0 → ⊥) × (G.finds d ≡ true)) ⊎ (((d ≡ Name x.0) × (is_i64_size function_there ≡ true)) ⊎ Is_const d)
              by_form (inl f) = inl (not_itself d i, f)
              by_form (inr c) = inr (inr c)

  -- ---- of a number

  module _ (Numbers : Free → Type 0) (x : BindId) (v : FlatTerm) (lo : ℕ) (scope : Scope) (T : TypeScope) (st : State) (w : Done Scope) (R : Definition_ran [] x v lo scope st w) (before : Before N types home lo Numbers) (plain : home x.0 ≡ lo) (t1 : types lo ≡ types (lo + 1)) (i64 : types lo ≡ i64_ty) (pv : Plain_term types home K places N v (lo + 1)) (tv : Typed N places v (lo + 1) T K types) (known : Known_here Numbers scope T) where
    abbrev Later : Free → Type 0
    Later d = Numbers d ⊎ (d ≡ Name x.0)

    value_there : Meets N types home (Known_before Numbers) None_there scope v (lo + 1) (lo + 1 + numbers v) st R.value.result R.value.state
    value_there = alone N types home K places v (term_part N types home K places data_places v) (Known_before Numbers) None_there scope T (lo + 1) st R.part R.value pv tv known (known_elsewhere N types home lo Numbers before (lo + 1) (lo + 1 + numbers v) (omega arith)) R.part_is R.value_is

    number_there_is : R.value.result ≡ i64_size
    number_there_is = number_size R.value.result value_there.says.formed (value_there.typed ∙ sym t1 ∙ i64)

    number_there : Meets N types home (Known_before Numbers) None_there scope v (lo + 1) (lo + 1 + numbers v) st i64_size R.value.state
    number_there = subst (λ t. Meets N types home (Known_before Numbers) None_there scope v (lo + 1) (lo + 1 + numbers v) st t R.value.state) number_there_is value_there

    i64_says : (In : Free → Type 0) → Says In None_there i64_size
    unfolding Each Each_all Each_hole Each_holes Formed All_formed
    i64_says In = record { sizes = tt; variables = tt; formed = (tt, tt) }

    number_behind : (uses : Uses) → Behind Numbers [] x v lo scope T st w R before plain t1 i64_size number_there number_there_is (i64_says (Known_before Numbers)) Later uses
    number_behind uses = record {
      before_next = record { no_slot = no_slot; outside = outside };
      known = known_general N types K places (Known_before Later) None_there home x i64_size scope T uses (i64_says (Known_before Later)) (i64_says (Known_before Later)).variables (number_there.typed ∙ sym t1 ∙ ap types (sym plain)) (λ u a. inr (inl (ap types plain ∙ i64))) (λ z. inr (inr refl)) known_later;
      judged = λ s G here J. judged_general N types K places (Known_before Later) None_there home x i64_size scope s lo here (hole_as None_there Any_variable (λ a i. tt) i64_size (i64_says (Known_before Later)).variables) (λ a. true) G J.sizes J.schemes J.none_open (λ d i. finds G J d i) J.finds_types;
    }
      where
        no_slot : (d : Free) → Later d → is_slot d ≡ false
        no_slot d (inl i) = before.no_slot d i
        no_slot d (inr e) = ap is_slot e

        outside : (d : Free) → Later d → (from hi : ℕ) → lo + (1 + numbers v) ≤ from → In_nodes N types home from hi d → ⊥
        outside d (inl i) from hi l o = before.outside d i from hi (omega (arith, l)) o
        outside d (inr e) from hi l o = let y = subst (In_nodes N types home from hi) e o in let z = y.0 in omega (arith, l, z, plain)

        wider : (d : Free) → Known_before Numbers d → Known_before Later d
        wider d (inl i) = inl i
        wider d (inr i) = inr (inl i)

        known_later : Known_names (Known_before Later) None_there home scope K types T
        known_later b u a = known_wider N types K places (Known_before Later) None_there home (Known_before Numbers) None_there wider (λ a i. i) scope b u (known b u a)

        finds : (G : Context) → Judged_here Numbers scope G → (d : Free) → Known_before Later d → ((d ≡ Name x.0 → ⊥) × (G.finds d ≡ true)) ⊎ (((d ≡ Name x.0) × (is_i64_size i64_size ≡ true)) ⊎ Is_const d)
        finds G J d (inl i) = inr (inr i)
        finds G J d (inr (inr e)) = inr (inl (e, refl))
        finds G J d (inr (inl i)) = by_form (J.finds d (inr i))
          where
            fresh : d ≡ Name x.0 → ⊥
            fresh e = before.outside d i lo (lo + 1) (omega arith) (subst (In_nodes N types home lo (lo + 1)) (sym e) (omega (arith, plain), omega (arith, plain)))

            by_form : (G.finds d ≡ true) ⊎ Is_const d → ((d ≡ Name x.0 → ⊥) × (G.finds d ≡ true)) ⊎ (((d ≡ Name x.0) × (is_i64_size i64_size ≡ true)) ⊎ Is_const d)
            by_form (inl f) = inl (fresh, f)
            by_form (inr c) = inr (inr c)

  -- ---- of other data

  -- what a value says, whose sizes are told
  module _ (Numbers : Free → Type 0) (lo : ℕ) (scope : Scope) (T : TypeScope) (st : State) (before : Before N types home lo Numbers) (known : Known_here Numbers scope T) (part : Done Part) (u : Done Size) where
    abbrev Value_here : FlatTerm → Size → Type 0
    Value_here v t = Meets N types home (Known_before Numbers) None_there scope v (lo + 1) (lo + 1 + numbers v) st t u.state

    flat_sizes : (v : FlatTerm) → Value_here v u.result → Flat_type (types (lo + 1)) → Each (Scoped (Known_before Numbers)) 0 u.result
    flat_sizes v M f = subst (Each (Scoped (Known_before Numbers)) 0) (sym (flat_is u.result M.says.formed (subst Flat_type (sym M.typed) f))) (flat_each (Scoped (Known_before Numbers)) 0 (erased u.result))

    declared_sizes : (e : FlatType) (mark : Place) (ts : Terms Ref BindId) → Value_here (Strict (Declared e) mark ts) u.result → Written_whole e → Plain_term types home K places N (Strict (Declared e) mark ts) (lo + 1) → Typed N places (Strict (Declared e) mark ts) (lo + 1) T K types → sized N types (Strict (Declared e) mark ts) [] (lo + 1) scope st ≡ Ok part → finished N types (lo + 1) part.result part.state ≡ Ok u → Each (Scoped (Known_before Numbers)) 0 u.result
    declared_sizes e mark ts M w pv tv q f =
        let E = known_elsewhere N types home lo Numbers before (lo + 1) (lo + 1 + numbers (Strict (Declared e) mark ts)) (omega arith) in
        let D = declared_is N types home (Known_before Numbers) e mark (lo + 1) scope ts None_there (lo + 1 + numbers (Strict (Declared e) mark ts)) st part u (one_term N types home (Known_before Numbers) e mark (lo + 1) scope K places T ts tv) E
        (term_part N types home K places data_places (Strict (Declared e) mark ts) (Known_before Numbers) None_there scope T (lo + 1) st part pv tv known E q) q f in
        subst (Each (Scoped (Known_before Numbers)) 0) (sym D.is) (whole_written N places K types T (Known_before Numbers) (λ c. inl tt) D.results D.blank e w (sizes_written N types home K places (Known_before Numbers) (Known_before Numbers) None_there (λ d i. i) e scope T (types (lo + 1)) known tv.2) D.found 0 (types (lo + 1)) tv.2 (subst Formed D.is M.says.formed) (ap erased (sym D.is) ∙ M.typed))

    told_sizes : (v : FlatTerm) → Value_here v u.result → Sizes_told v (types (lo + 1)) → Plain_term types home K places N v (lo + 1) → Typed N places v (lo + 1) T K types → sized N types v [] (lo + 1) scope st ≡ Ok part → finished N types (lo + 1) part.result part.state ≡ Ok u → Each (Scoped (Known_before Numbers)) 0 u.result
    told_sizes (Strict (Declared e) mark ts) M o pv tv q f = declared_sizes e mark ts M o pv tv q f
    told_sizes v M o pv tv q f = flat_sizes v M o

  module _ (Numbers : Free → Type 0) (x : BindId) (v : FlatTerm) (lo : ℕ) (scope : Scope) (T : TypeScope) (st : State) (w : Done Scope) (R : Definition_ran [] x v lo scope st w) (before : Before N types home lo Numbers) (plain : home x.0 ≡ lo) (t1 : types lo ≡ types (lo + 1)) (other : types lo ≡ i64_ty → ⊥) (told : Sizes_told v (types lo)) (pv : Plain_term types home K places N v (lo + 1)) (tv : Typed N places v (lo + 1) T K types) (known : Known_here Numbers scope T) where
    data_value : Meets N types home (Known_before Numbers) None_there scope v (lo + 1) (lo + 1 + numbers v) st R.value.result R.value.state
    data_value = alone N types home K places v (term_part N types home K places data_places v) (Known_before Numbers) None_there scope T (lo + 1) st R.part R.value pv tv known (known_elsewhere N types home lo Numbers before (lo + 1) (lo + 1 + numbers v) (omega arith)) R.part_is R.value_is

    data_says : Says (Known_before Numbers) None_there R.value.result
    data_says = record { sizes = told_sizes Numbers lo scope T st before known R.part R.value v data_value (subst (Sizes_told v) t1 told) pv tv R.part_is R.value_is; variables = data_value.says.variables; formed = data_value.says.formed }

    data_no_number : is_i64_size R.value.result ≡ true → ⊥
    data_no_number e = other (t1 ∙ i64_ty_is (types (lo + 1)) (ap is_i64_ty (sym data_value.typed) ∙ sym (number_typed R.value.result data_value.says.formed) ∙ e))

    data_not_itself : (d : Free) → Numbers d → d ≡ Name x.0 → ⊥
    data_not_itself d i e = before.outside d i lo (lo + 1) (omega arith) (subst (In_nodes N types home lo (lo + 1)) (sym e) (omega (arith, plain), omega (arith, plain)))

    data_behind : (uses : Uses) → ((u : Ty) → uses K types u → u ≡ types lo) → Behind Numbers [] x v lo scope T st w R before plain t1 R.value.result data_value refl data_says Numbers uses
    data_behind uses same = record {
      before_next = record { no_slot = before.no_slot; outside = λ d i from hi l o. before.outside d i from hi (omega (arith, l)) o };
      known = known_general N types K places (Known_before Numbers) None_there home x R.value.result scope T uses data_says data_says.variables (data_value.typed ∙ sym t1 ∙ ap types (sym plain)) (λ u a. inr (inr (same u a ∙ ap types (sym plain)))) (λ z. absurd (data_no_number z)) known;
      judged = λ s G here J. judged_general N types K places (Known_before Numbers) None_there home x R.value.result scope s lo here (hole_as None_there Any_variable (λ a i. tt) R.value.result data_says.variables) (λ a. true) G J.sizes J.schemes J.none_open (λ d i. finds G J d i) J.finds_types;
    }
      where
        finds : (G : Context) → Judged_here Numbers scope G → (d : Free) → Known_before Numbers d → ((d ≡ Name x.0 → ⊥) × (G.finds d ≡ true)) ⊎ (((d ≡ Name x.0) × (is_i64_size R.value.result ≡ true)) ⊎ Is_const d)
        finds G J d (inl i) = inr (inr i)
        finds G J d (inr i) = by_form (J.finds d (inr i))
          where
            by_form : (G.finds d ≡ true) ⊎ Is_const d → ((d ≡ Name x.0 → ⊥) × (G.finds d ≡ true)) ⊎ (((d ≡ Name x.0) × (is_i64_size R.value.result ≡ true)) ⊎ Is_const d)
            by_form (inl f) = inl (data_not_itself d i, f)
            by_form (inr c) = inr (inr c)

  -- ---- definitions in a row

  no_definition : Row_law []
  no_definition Numbers lo scope T st w before p t known q = record { kept = λ n l. ap (λ (y : Done Scope). y.state.nodes n) (sym (same_ok q)); rules = λ s G hi J a. (tt, tt) }

  of_number : (hd : List (Parameter BindId)) (x : BindId) (v : FlatTerm) (ds : List Defined) → Row_law ds → (Numbers : Free → Type 0) (lo : ℕ) (scope : Scope) (T : TypeScope) (st : State) (z : Done Scope) → Before N types home lo Numbers → home x.0 ≡ lo → Number_definition types home K places N hd v lo → Plain_definitions types home K places N ds (lo + (1 + numbers v))
      → Definitions_typed N places (a_definition hd x v ∷ ds) lo T K types → Known_here Numbers scope T → definitions_sized N types (a_definition hd x v ∷ ds) lo scope st ≡ Ok z → Row_meets Numbers (a_definition hd x v ∷ ds) lo scope st z.state
  of_number [] x v ds rest Numbers lo scope T st z before plain f pd t known q =
      let x1 = then_ok (definition_sized N types (a_definition [] x v) lo scope st) q in
      let R = definition_ran [] x v lo scope st x1.first x1.done in
      let tv : Typed N places v (lo + 1) T K types = t.0.0.0.1 in
      let t1 : types lo ≡ types (lo + 1) = t.0.0.1 in
      let uses : Uses = Reused places (definition_scheme N places (a_definition [] x v) lo T) lo in
      row_meets Numbers [] x v lo scope T st x1.first R before plain t1 i64_size (number_there Numbers x v lo scope T st x1.first R before plain t1 f.0 f.1 tv known) (number_there_is Numbers x v lo scope T st x1.first R before plain t1 f.0 f.1 tv known) (i64_says Numbers x v lo scope T st x1.first R before plain t1 f.0 f.1 tv known (Known_before Numbers))
      (Later Numbers x v lo scope T st x1.first R before plain t1 f.0 f.1 tv known) uses (number_behind Numbers x v lo scope T st x1.first R before plain t1 f.0 f.1 tv known uses) ds rest t.1 pd z x1.rest
  of_number (p ∷ hd) x v ds rest Numbers lo scope T st z before plain f pd t known q = absurd f

  of_data : (hd : List (Parameter BindId)) (x : BindId) (v : FlatTerm) (ds : List Defined) → Row_law ds → (Numbers : Free → Type 0) (lo : ℕ) (scope : Scope) (T : TypeScope) (st : State) (z : Done Scope) → Before N types home lo Numbers → home x.0 ≡ lo → Data_definition types home K places N hd v lo → Plain_definitions types home K places N ds (lo + (1 + numbers v))
      → Definitions_typed N places (a_definition hd x v ∷ ds) lo T K types → Known_here Numbers scope T → definitions_sized N types (a_definition hd x v ∷ ds) lo scope st ≡ Ok z → Row_meets Numbers (a_definition hd x v ∷ ds) lo scope st z.state
  of_data [] x v ds rest Numbers lo scope T st z before plain f pd t known q =
      let x1 = then_ok (definition_sized N types (a_definition [] x v) lo scope st) q in
      let R = definition_ran [] x v lo scope st x1.first x1.done in
      row_meets Numbers [] x v lo scope T st x1.first R before plain t1 R.value.result (data_value Numbers x v lo scope T st x1.first R before plain t1 f.0 f.2 f.3 tv known) refl (data_says Numbers x v lo scope T st x1.first R before plain t1 f.0 f.2 f.3 tv known)
      Numbers uses (data_behind Numbers x v lo scope T st x1.first R before plain t1 f.0 f.2 f.3 tv known uses same) ds rest t.1 pd z x1.rest
    where
      tv : Typed N places v (lo + 1) T K types
      tv = t.0.0.0.1

      t1 : types lo ≡ types (lo + 1)
      t1 = t.0.0.1

      uses : Uses
      uses = Reused places (definition_scheme N places (a_definition [] x v) lo T) lo

      same : (u : Ty) → uses K types u → u ≡ types lo
      same u a = a.2.1 ∙ a.2.0.typed.1 ∙ one_typed N places K types a.2.0.other v (lo + 1) T f.1 tv a.2.0.typed.0.1 (λ k. a.2.0.kept (lo + 1) (omega arith) (let n = numbers_some v in omega (arith, n)) (ap (λ c. c || is_free false v (lo + 1) (lo + 1)) (behind_name lo) ∙ k)) ∙ sym t1
  of_data (p ∷ hd) x v ds rest Numbers lo scope T st z before plain f pd t known q = absurd f

  one_definition : (hd : List (Parameter BindId)) (x : BindId) (v : FlatTerm) (ds : List Defined) → Row_law ds → Row_law (a_definition hd x v ∷ ds)
  one_definition hd x v ds rest Numbers lo scope T st z before p t known q = by_kind p.0.1
    where
      x1 : Then_ok (definition_sized N types (a_definition hd x v) lo scope st) (λ d. definitions_sized N types ds (lo + (1 + numbers v)) d.result d.state) z
      x1 = then_ok (definition_sized N types (a_definition hd x v) lo scope st) q

      R : Definition_ran hd x v lo scope st x1.first
      R = definition_ran hd x v lo scope st x1.first x1.done

      tv : Typed N places v (lo + 1) (with_parameters hd (own_types places hd) T) K types
      tv = t.0.0.0.1

      t1 : types lo ≡ types (lo + 1)
      t1 = t.0.0.1

      uses : Uses
      uses = Reused places (definition_scheme N places (a_definition hd x v) lo T) lo

      of_function : Function_definition types home K places N hd v lo → Row_meets Numbers (a_definition hd x v ∷ ds) lo scope st z.state
      of_function f = row_meets Numbers hd x v lo scope T st x1.first R before p.0.0 t1 (function_there Numbers hd x v lo scope T st x1.first R before p.0.0 t1 f.0 f.1 f.2 f.3 f.4 (own_types places hd) tv known) (M Numbers hd x v lo scope T st x1.first R before p.0.0 t1 f.0 f.1 f.2 f.3 f.4 (own_types places hd) tv known)
          (F Numbers hd x v lo scope T st x1.first R before p.0.0 t1 f.0 f.1 f.2 f.3 f.4 (own_types places hd) tv known).is_function (says Numbers hd x v lo scope T st x1.first R before p.0.0 t1 f.0 f.1 f.2 f.3 f.4 (own_types places hd) tv known) Numbers uses
          (function_behind Numbers hd x v lo scope T st x1.first R before p.0.0 t1 f.0 f.1 f.2 f.3 f.4 (own_types places hd) tv known uses arrow) ds rest t.1 p.1 z x1.rest
        where
          arrow : (u : Ty) → uses K types u → (a : Ty) × (c : Ty) × (u ≡ fun_ty a c)
          arrow u a = let y = lambda_arrow N types home K places a.2.0.other v (lo + 1) (with_parameters hd a.0 T) f.0 a.2.0.typed.0.1 in (y.0, y.1, a.2.1 ∙ a.2.0.typed.1 ∙ y.2)

      by_kind : Function_definition types home K places N hd v lo ⊎ (Number_definition types home K places N hd v lo ⊎ Data_definition types home K places N hd v lo) → Row_meets Numbers (a_definition hd x v ∷ ds) lo scope st z.state
      by_kind (inl f) = of_function f
      by_kind (inr (inl f)) = of_number hd x v ds rest Numbers lo scope T st z before p.0.0 f p.1 t known q
      by_kind (inr (inr f)) = of_data hd x v ds rest Numbers lo scope T st z before p.0.0 f p.1 t known q

  any_definition : (p : FlatPattern) (ps : List (Parameter BindId)) (v : FlatTerm) (ds : List Defined) → Row_law ds → Row_law (record { name = p; parameters = ps; value = v } ∷ ds)
  any_definition (Bound_pattern x) ps v ds rest = one_definition ps x v ds rest
  any_definition Wild_pattern ps v ds rest = λ Numbers lo scope T st w before p t known q. absurd p.0
  any_definition (Tuple_pattern qs) ps v ds rest = λ Numbers lo scope T st w before p t known q. absurd p.0
  any_definition (Record_pattern fs qs) ps v ds rest = λ Numbers lo scope T st w before p t known q. absurd p.0
  any_definition (Typed_pattern r u) ps v ds rest = λ Numbers lo scope T st w before p t known q. absurd p.0

  pub definitions_meet : (ds : List Defined) → Row_law ds
  definitions_meet [] = no_definition
  definitions_meet (d ∷ ds) = any_definition d.name d.parameters d.value ds (definitions_meet ds)
