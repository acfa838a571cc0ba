-- A lambda by itself: its parameters have sized types of their own, and what is noted of them.
use Rattle.std.proofs.Common.{◌≡◌, ◌⊎◌, ℕ, ◌+◌, ◌<◌, ◌≤◌, List, [], ◌∷◌, ◌++◌, Bool, true, false, cond, Some, None, Ok, Err, refl, sym, ap, ◌∙◌, subst, arith, inl, inr}
use Rattle.fut_scalar.specs.declared.place.BindId.{BindId}
use Rattle.fut_flat.specs.declared.prim.Ref.{Ref}
use Rattle.fut_flat.specs.Numbers.{pattern_numbers, all_pattern_numbers}
use Rattle.fut_flat.specs.Terms.{Bound_pattern, Wild_pattern, Tuple_pattern, Record_pattern, Typed_pattern, Patterns, no_pattern, pattern_and}
use Rattle.fut_flat.specs.Erased.{FlatTerm, FlatPattern}
use Rattle.fut_types.specs.declared.Kind.{Kind}
use Rattle.fut_types.specs.Types.{Made, more, Sub, Kinds, HasKind, rank, level}
use Rattle.fut_typing.specs.Names.{Names}
use Rattle.fut_typing.specs.Patterns.{Pattern_typed, Parameters_typed, with_pattern as typed_with}
use Rattle.fut_typing.specs.Scopes.{Scope as TypeScope, the_one}
use Rattle.sized_types.specs.Sizes.{Free, Const, Own, At, Size, Hole, Open, Level, Built, Fun, Sizes, no_size, size_and, erased, all_erased, has}
use Rattle.fut_sizes.specs.Agreeing.{Answer, Escapes, names_one, leaving}
use Rattle.fut_sizes.specs.Applications.{Met, Part}
use Rattle.fut_sizes.specs.Functions.{Taking, function_size, unchosen}
use Rattle.fut_sizes.specs.Matching.{Found, nothing_found, counted}
use Rattle.fut_sizes.specs.Rules.{Each_hole, Each_holes}
use Rattle.fut_sizes.specs.Scopes.{Scope, Taken, bound_by}
use Rattle.fut_sizes.specs.Sizing.{Entered, all_part_names, leaving_function, in_pattern, in_patterns, own_sizes, enter, all_entered, none_left, matched, pattern_noted, parameters_noted, finished, sized}
use Rattle.fut_sizes.specs.Steps.{State, Done, Step, ask, and_then, note}
use Rattle.fut_sizes.specs.Suiting.{Each, Each_all, Scoped, Data}
use Rattle.fut_sizes.specs.WrittenSizes.{same_dim, parameter_size}
use Rattle.sizes_meet_rules.specs.Known.{Formed, All_formed, Says}
use Rattle.sizes_meet_rules.specs.Plain.{Formed_type, Plain_pattern, Plain_parts, Plain_patterns}
use Rattle.sizes_meet_rules.proofs.Forming.{data_of}
use Rattle.sizes_meet_rules.proofs.Meeting.{then_ok, asked, same_ok, refused_ok}
use Rattle.sizes_meet_rules.proofs.Operating.{Sizes_written, All_say, first_says, rest_say, more_say, with_says}
use Rattle.sizes_meet_rules.proofs.Owning.{of_type_owned}
use Rattle.sizes_meet_rules.proofs.Replacing.{hole_as}
use Rattle.sizes_meet_rules.proofs.Settling.{Is_settled, noted}
use Rattle.sizes_meet_rules.proofs.Showing.{bound_ran}
use Rattle.sizes_meet_rules.proofs.Taking.{pattern_some, written_settled, Has_parts, bound_scope, Nodes, nodes_as, taken_is, noted_is}

pub joined : {A : Type 0} (xs ys zs : List A) → (xs ++ ys) ++ zs ≡ xs ++ (ys ++ zs)
joined [] ys zs = refl
joined (x ∷ xs) ys zs = ap (λ l. x ∷ l) (joined xs ys zs)

-- no parameter has a part of an argument in its sized type, and the result leaves the function
abbrev pub Lacks : List ℕ → List Taking → Type 0
Lacks parts [] = Unit {0}
Lacks parts (p ∷ ts) = (has (names_one parts) p.size ≡ false) × Lacks parts ts

function_left : (lo : ℕ) (parts : List ℕ) (ts : List Taking) (body r : Size) → leaving_function lo parts ts body ≡ Ok r → Lacks parts ts × (leaving lo parts body ≡ Ok r)
function_left lo parts [] body r e = (tt, e)
function_left lo parts (p ∷ ts) body r e = by_names (has (names_one parts) p.size) refl (function_left lo parts ts body r) e
  where
    by_names : (b : Bool) → has (names_one parts) p.size ≡ b → (leaving_function lo parts ts body ≡ Ok r → Lacks parts ts × (leaving lo parts body ≡ Ok r)) → ◌≡◌ {A = Answer Size} (cond b (Err (Escapes lo)) (leaving_function lo parts ts body)) (Ok r) → Lacks parts (p ∷ ts) × (leaving lo parts body ≡ Ok r)
    by_names true f go e = refused_ok e
    by_names false f go e = let w = go e in ((f, w.0), w.1)

-- ---- the sized type of a parameter by itself: its own sizes, and those that are written

module _ (N : Names) (types : Sub) (home : ℕ → ℕ) (K : Kinds) (places : Kind) where
  -- as it comes to the parameters' nodes
  abbrev pub param : (ℕ → Size) → FlatPattern → ℕ → Size
  param come p q = in_pattern N types p (come q)

  module _ (P : Free → Type 0) where
    pub record Param_says (q : ℕ) (t : Size) : Type 0 where
      pub sizes : Each (Scoped P) 0 t
      pub typed : erased t ≡ types q
      pub formed : Formed t
      pub variables : Each_hole (λ v. ⊥) t

    -- the written sizes are these
    abbrev mutual
      pub Written_in : FlatPattern → Type 0
      Written_in (Tuple_pattern ps) = All_written_in ps
      Written_in (Typed_pattern p e) = Sizes_written P e × Written_in p
      Written_in p = Unit {0}

      pub All_written_in : Patterns Ref BindId → Type 0
      All_written_in no_pattern = Unit {0}
      All_written_in (pattern_and p ps) = Written_in p × All_written_in ps

    module _ (constants : (c : ℕ) → P (Const c)) where
      mutual
        unfolding parameter_size Each Each_all Each_hole Each_holes Formed All_formed erased all_erased

        pub written_says : (p : FlatPattern) (q : ℕ) → Plain_pattern types home K places p q → Written_in p → (t : Size) → Says P (λ v. ⊥) t → Says P (λ v. ⊥) (in_pattern N types p t) × (erased (in_pattern N types p t) ≡ erased t)
        written_says (Bound_pattern x) q h w t o = (o, refl)
        written_says Wild_pattern q h w t o = (o, refl)
        written_says (Tuple_pattern ps) q h w (Built k ts) o =
            let r = all_written_say ps (1 + q) h w ts (record { sizes = o.sizes; variables = o.variables; formed = o.formed.1 }) in
            (record { sizes = r.0.sizes; variables = r.0.variables; formed = (o.formed.0, r.0.formed) }, ap (Made k) r.1)
        written_says (Tuple_pattern ps) q h w (Hole v) o = (o, refl)
        written_says (Tuple_pattern ps) q h w (Open m v u) o = (o, refl)
        written_says (Tuple_pattern ps) q h w (Level d t) o = (o, refl)
        written_says (Tuple_pattern ps) q h w (Fun k x y) o = (o, refl)
        written_says (Record_pattern fs ps) q h w t o = (o, refl)
        written_says (Typed_pattern p e) q h w t o =
            let k = with_says N types K places P (λ v. ⊥) constants (Some (λ k i d. d)) same_dim (λ i d z. z) e h.0 w.0 t 0 o in
            let r = written_says p q h.1 w.1 (parameter_size N same_dim e t) k.0 in (r.0, r.1 ∙ k.1)

        all_written_say : (ps : Patterns Ref BindId) (q : ℕ) → Plain_parts types home K places ps q → All_written_in ps → (ts : Sizes) → All_say P (λ v. ⊥) ts → All_say P (λ v. ⊥) (in_patterns N types ps ts) × (all_erased (in_patterns N types ps ts) ≡ all_erased ts)
        all_written_say no_pattern q h w ts o = (o, refl)
        all_written_say (pattern_and p ps) q h w no_size o = (o, refl)
        all_written_say (pattern_and p ps) q h w (size_and t ts) o =
            let a = written_says p q h.0 w.0 t (first_says P (λ v. ⊥) t ts o) in
            let b = all_written_say ps (q + pattern_numbers p) h.1 w.1 ts (rest_say P (λ v. ⊥) t ts o) in
            (more_say P (λ v. ⊥) (in_pattern N types p t) (in_patterns N types ps ts) a.0 b.0, ap (λ x. more x (all_erased (in_patterns N types ps ts))) a.1 ∙ ap (more (erased t)) b.1)

      pub param_says : (p : FlatPattern) (q : ℕ) → Plain_pattern types home K places p q → Formed_type (types q) → ((i : ℕ) → P (Own q i)) → Written_in p → Param_says q (param (own_sizes N types) p q)
      param_says p q h f own w =
          let o = of_type_owned P (λ i. At (Own q i)) (types q) 0 0 f own in
          let r = written_says p q h w (own_sizes N types q) (record { sizes = o.sizes; variables = o.variables; formed = o.formed }) in
          record { sizes = r.0.sizes; typed = r.1 ∙ o.typed; formed = r.0.formed; variables = r.0.variables }

  mutual
    pub written_no_slot : (p : FlatPattern) → Written_in Is_settled p
    written_no_slot (Bound_pattern x) = tt
    written_no_slot Wild_pattern = tt
    written_no_slot (Tuple_pattern ps) = all_written_no_slot ps
    written_no_slot (Record_pattern fs ps) = tt
    written_no_slot (Typed_pattern p e) = (written_settled e, written_no_slot p)

    all_written_no_slot : (ps : Patterns Ref BindId) → All_written_in Is_settled ps
    all_written_no_slot no_pattern = tt
    all_written_no_slot (pattern_and p ps) = (written_no_slot p, all_written_no_slot ps)

  pub param_data : (t : Size) (q : ℕ) → 1 ≤ level places → HasKind K places (types q) → Formed t → erased t ≡ types q → Data t
  param_data t q d k f e = data_of K t f (let r : level places ≤ rank K (erased t) = subst (λ w. level places ≤ rank K w) (sym e) k in omega (arith, r, d))

  abbrev pub nothing_in : Scope → List Taking → Found → Entered
  nothing_in scope ts σ = record { scope = scope; parameters = ts; wanted = None; found = σ }

  pub no_more : {A : Type 0} (xs : List A) → xs ++ [] ≡ xs
  no_more [] = refl
  no_more (x ∷ xs) = ap (λ l. x ∷ l) (no_more xs)

  module _ (come : ℕ → Size) where
    abbrev pub takings : Patterns Ref BindId → ℕ → List Taking
    takings no_pattern q = []
    takings (pattern_and p ps) q = record { pattern = p; node = q; size = param come p q } ∷ takings ps (q + pattern_numbers p)

    abbrev pub all_bound : Patterns Ref BindId → ℕ → Scope → Scope
    all_bound no_pattern q scope = scope
    all_bound (pattern_and p ps) q scope = all_bound ps (q + pattern_numbers p) (bound_scope N p (param come p q) scope)

    -- each pattern fits its parameter
    abbrev pub All_fit : Patterns Ref BindId → ℕ → Type 0
    All_fit no_pattern q = Unit {0}
    All_fit (pattern_and p ps) q = Has_parts N p (param come p q) × All_fit ps (q + pattern_numbers p)

    -- ---- the scope of the body
    abbrev pub all_in : Patterns Ref BindId → ℕ → Scope → List Taking → Found → Entered
    all_in ps q scope ts σ = record { scope = all_bound ps q scope; parameters = ts ++ takings ps q; wanted = None; found = σ }

    module _ (data_places : 1 ≤ level places) where
      pub bound_in : (q : ℕ) (p : FlatPattern) (T : TypeScope) (scope : Scope) → Plain_pattern types home K places p q → HasKind K places (types q) → Pattern_typed N places K types p q T → Param_says Is_settled q (param come p q) → (k : Taken) → bound_by N [] q p (param come p q) scope ≡ Ok k
          → (k.scope ≡ bound_scope N p (param come p q) scope) × Has_parts N p (param come p q)
      bound_in q p T scope h k ty o x e =
          let R = taken_is types home K places N q p q T h ty (param come p q) (param_data (param come p q) q data_places k o.formed o.typed) o.formed o.sizes (hole_as (λ v. ⊥) (λ v. Unit {0}) (λ v z. tt) (param come p q) o.variables) o.typed (record { scope = scope; found = counted 0 nothing_found }) x (bound_ran N q p (param come p q) scope x e) in
          (R.scope, R.parts)

    -- ---- what is noted of the parameters
    abbrev pub Own_nodes : Patterns Ref BindId → ℕ → (ℕ → Size) → Type 0
    Own_nodes no_pattern q f = Unit {0}
    Own_nodes (pattern_and p ps) q f = Nodes N p q (param come p q) f × Own_nodes ps (q + pattern_numbers p) f

    pub own_nodes_as : (ps : Patterns Ref BindId) (q : ℕ) (f g : ℕ → Size) → ((n : ℕ) → q ≤ n → n < q + all_pattern_numbers ps → g n ≡ f n) → Own_nodes ps q f → Own_nodes ps q g
    own_nodes_as no_pattern q f g a h = tt
    own_nodes_as (pattern_and p ps) q f g a h = (nodes_as N p q (param come p q) f g (λ n x y. a n x (omega (arith, y))) h.0, own_nodes_as ps (q + pattern_numbers p) f g (λ n x y. a n (omega (arith, x)) (omega (arith, y))) h.1)

    pub record Noted_all (ps : Patterns Ref BindId) (q : ℕ) (st after : State) : Type 0 where
      pub kept : (n : ℕ) → (n < q) ⊎ (q + all_pattern_numbers ps ≤ n) → after.nodes n ≡ st.nodes n
      pub own : Own_nodes ps q after.nodes
      pub dropped : after.dropped ≡ st.dropped

    pub all_noted : (ps : Patterns Ref BindId) (q : ℕ) → Plain_patterns types home K places ps q → All_fit ps q → (st : State) (w : Done (Unit {0})) → parameters_noted N types (takings ps q) st ≡ Ok w → Noted_all ps q st w.state
    all_noted no_pattern q h c st w e = record { kept = λ n o. ap (λ (d : Done (Unit {0})). d.state.nodes n) (sym (same_ok e)); own = tt; dropped = ap (λ (d : Done (Unit {0})). d.state.dropped) (sym (same_ok e)) }
    all_noted (pattern_and p ps) q h c st w e =
        let x1 = then_ok (pattern_noted N types p q (param come p q) st) e in
        let one = noted_is types home K places N p q h.0 (param come p q) c.0 st x1.first x1.done in
        let R = all_noted ps (q + pattern_numbers p) h.3 c.1 x1.first.state w x1.rest in
        let l = pattern_some p in record {
          kept = λ n o. R.kept n (later n o) ∙ one.kept n (sooner n o);
          own = (nodes_as N p q (param come p q) x1.first.state.nodes w.state.nodes (λ n x y. R.kept n (inl y)) one.nodes, R.own);
          dropped = R.dropped ∙ one.dropped;
        }
      where
        later : (n : ℕ) → (n < q) ⊎ (q + all_pattern_numbers (pattern_and p ps) ≤ n) → (n < q + pattern_numbers p) ⊎ (q + pattern_numbers p + all_pattern_numbers ps ≤ n)
        later n (inl x) = inl (omega (arith, x))
        later n (inr x) = inr (omega (arith, x))

        sooner : (n : ℕ) → (n < q) ⊎ (q + all_pattern_numbers (pattern_and p ps) ≤ n) → (n < q) ⊎ (q + pattern_numbers p ≤ n)
        sooner n (inl x) = inl x
        sooner n (inr x) = inr (omega (arith, x))

    -- ---- the steps of a lambda by itself
    module _ (bs : List ℕ) (ps : Patterns Ref BindId) (e : FlatTerm) (lo at hi : ℕ) where
      abbrev lambda_last : List Taking → Size → Step Met
      lambda_last ts body = and_then (ask (leaving_function lo (all_part_names ps) ts body)) (λ r. and_then (note lo (function_size bs lo hi ts r)) (λ own. ask (matched N types lo None own nothing_found)))

      abbrev lambda_body : List Taking → Scope → Step Met
      lambda_body ts inner = and_then (sized N types e [] at inner) (λ part. and_then (finished N types at part) (λ body. lambda_last ts body))

      abbrev lambda_rest : List Taking → Scope → Step Met
      lambda_rest ts inner = and_then (ask (none_left N types at (unchosen bs ts))) (λ z. and_then (parameters_noted N types ts) (λ y. lambda_body ts inner))

      record Last_ran (ts : List Taking) (body : Size) (st : State) (m : Done Met) : Type 0 where
        left : Size
        leaves : Lacks (all_part_names ps) ts × (leaving lo (all_part_names ps) body ≡ Ok left)
        size : m.result.size ≡ function_size bs lo hi ts left
        state : m.state ≡ (noted lo (function_size bs lo hi ts left) st).state

      last_ran : (ts : List Taking) (body : Size) (st : State) (m : Done Met) → lambda_last ts body st ≡ Ok m → Last_ran ts body st m
      unfolding matched
      last_ran ts body st m q =
          let x1 = then_ok (ask (leaving_function lo (all_part_names ps) ts body) st) q in
          let a1 = asked (leaving_function lo (all_part_names ps) ts body) st x1.first x1.done in
          let last = same_ok x1.rest in
          record {
            left = x1.first.result;
            leaves = function_left lo (all_part_names ps) ts body x1.first.result a1.answer;
            size = ap (λ (d : Done Met). d.result.size) (sym last);
            state = ap (λ (d : Done Met). d.state) (sym last) ∙ ap (λ z. (noted lo (function_size bs lo hi ts x1.first.result) z).state) a1.state;
          }

      record Body_ran (ts : List Taking) (inner : Scope) (st : State) (m : Done Met) : Type 0 where
        part : Done Part
        body : Done Size
        part_is : sized N types e [] at inner st ≡ Ok part
        body_is : finished N types at part.result part.state ≡ Ok body
        rest : lambda_last ts body.result body.state ≡ Ok m

      body_ran : (ts : List Taking) (inner : Scope) (st : State) (m : Done Met) → lambda_body ts inner st ≡ Ok m → Body_ran ts inner st m
      body_ran ts inner st m q =
          let x1 = then_ok (sized N types e [] at inner st) q in
          let x2 = then_ok (finished N types at x1.first.result x1.first.state) x1.rest in
          record { part = x1.first; body = x2.first; part_is = x1.done; body_is = x2.done; rest = x2.rest }

      all_chosen : (xs : List ℕ) (z : Unit {0}) → none_left N types at xs ≡ Ok z → xs ≡ []
      all_chosen [] z e = refl
      all_chosen (x ∷ xs) z e = refused_ok e

      record Rest_ran (ts : List Taking) (inner : Scope) (st : State) (m : Done Met) : Type 0 where
        parameters : Done (Unit {0})
        none_left_there : unchosen bs ts ≡ []
        noted_is : parameters_noted N types ts st ≡ Ok parameters
        rest : lambda_body ts inner parameters.state ≡ Ok m

      rest_ran : (ts : List Taking) (inner : Scope) (st : State) (m : Done Met) → lambda_rest ts inner st ≡ Ok m → Rest_ran ts inner st m
      rest_ran ts inner st m q =
          let x1 = then_ok (ask (none_left N types at (unchosen bs ts)) st) q in
          let a1 = asked (none_left N types at (unchosen bs ts)) st x1.first x1.done in
          let x2 = then_ok (parameters_noted N types ts x1.first.state) x1.rest in
          record { parameters = x2.first; none_left_there = all_chosen (unchosen bs ts) x1.first.result a1.answer; noted_is = ap (parameters_noted N types ts) (sym a1.state) ∙ x2.done; rest = x2.rest }

      pub record Lambda_ran (scope : Scope) (st : State) (m : Done Met) : Type 0 where
        pub fit : All_fit ps (1 + lo)
        pub parameters : State
        pub part : Done Part
        pub body : Done Size
        pub left : Size
        pub none_left_there : unchosen bs (takings ps (1 + lo)) ≡ []
        pub noted_is : Noted_all ps (1 + lo) st parameters
        pub part_is : sized N types e [] at (all_bound ps (1 + lo) scope) parameters ≡ Ok part
        pub body_is : finished N types at part.result part.state ≡ Ok body
        pub leaves : Lacks (all_part_names ps) (takings ps (1 + lo)) × (leaving lo (all_part_names ps) body.result ≡ Ok left)
        pub size : m.result.size ≡ function_size bs lo hi (takings ps (1 + lo)) left
        pub state : m.state ≡ (noted lo (function_size bs lo hi (takings ps (1 + lo)) left) body.state).state

      pub after_rest : Plain_patterns types home K places ps (1 + lo) → All_fit ps (1 + lo) → (scope : Scope) (st : State) (m : Done Met) → lambda_rest (takings ps (1 + lo)) (all_bound ps (1 + lo) scope) st ≡ Ok m → Lambda_ran scope st m
      after_rest h c scope st m q = record {
        fit = c;
        parameters = R.parameters.state;
        part = B.part;
        body = B.body;
        left = L.left;
        none_left_there = R.none_left_there;
        noted_is = all_noted ps (1 + lo) h c st R.parameters R.noted_is;
        part_is = B.part_is;
        body_is = B.body_is;
        leaves = L.leaves;
        size = L.size;
        state = L.state;
      }
        where
          R : Rest_ran (takings ps (1 + lo)) (all_bound ps (1 + lo) scope) st m
          R = rest_ran (takings ps (1 + lo)) (all_bound ps (1 + lo) scope) st m q

          B : Body_ran (takings ps (1 + lo)) (all_bound ps (1 + lo) scope) R.parameters.state m
          B = body_ran (takings ps (1 + lo)) (all_bound ps (1 + lo) scope) R.parameters.state m R.rest

          L : Last_ran (takings ps (1 + lo)) B.body.result B.body.state m
          L = last_ran (takings ps (1 + lo)) B.body.result B.body.state m B.rest

  -- ---- a lambda by itself
  abbrev own : ℕ → Size
  own q = own_sizes N types q

  module _ (data_places : 1 ≤ level places) where
    one_in : (lo q : ℕ) (p : FlatPattern) (T : TypeScope) (scope : Scope) (ts : List Taking) (σ : Found) → Plain_pattern types home K places p q → Formed_type (types q) → HasKind K places (types q) → Pattern_typed N places K types p q T → (next : Entered)
        → enter N types lo p q None (nothing_in scope ts σ) ≡ Ok next → (next ≡ nothing_in (bound_scope N p (param own p q) scope) (ts ++ record { pattern = p; node = q; size = param own p q } ∷ []) σ) × Has_parts N p (param own p q)
    one_in lo q p T scope ts σ h f k ty next e =
        let x = then_ok (bound_by N [] q p (param own p q) scope) e in
        let R = bound_in own data_places q p T scope h k ty (param_says Is_settled (λ c. refl) p q h f (λ i. refl) (written_no_slot p)) x.first x.done in
        (sym (same_ok x.rest) ∙ ap (λ w. nothing_in w (ts ++ record { pattern = p; node = q; size = param own p q } ∷ []) σ) R.0, R.1)

    pub entered_is : (lo : ℕ) (ps : Patterns Ref BindId) (q : ℕ) (T : TypeScope) → Plain_patterns types home K places ps q → Parameters_typed N places K types ps q T → (scope : Scope) (ts : List Taking) (σ : Found) (E : Entered) → all_entered N types lo ps q (nothing_in scope ts σ) ≡ Ok E → (E ≡ all_in own ps q scope ts σ) × All_fit own ps q
    entered_is lo no_pattern q T h ty scope ts σ E e = (sym (same_ok e) ∙ ap (λ l. nothing_in scope l σ) (sym (no_more ts)), tt)
    entered_is lo (pattern_and p ps) q T h ty scope ts σ E e =
        let x = then_ok (enter N types lo p q None (nothing_in scope ts σ)) e in
        let one = one_in lo q p T scope ts σ h.0 h.1 h.2 ty.0 x.first x.done in
        let R = entered_is lo ps (q + pattern_numbers p) (typed_with the_one p q T) h.3 ty.1 (bound_scope N p (param own p q) scope) (ts ++ record { pattern = p; node = q; size = param own p q } ∷ []) σ E (ap (all_entered N types lo ps (q + pattern_numbers p)) (sym one.0) ∙ x.rest) in (
          R.0 ∙ ap (λ l. record { scope = all_bound own (pattern_and p ps) q scope; parameters = l; wanted = None; found = σ }) (joined ts (record { pattern = p; node = q; size = param own p q } ∷ []) (takings own ps (q + pattern_numbers p))),
          (one.1, R.1),
        )

  module _ (bs : List ℕ) (ps : Patterns Ref BindId) (e : FlatTerm) (lo at hi : ℕ) where
    abbrev entering : Entered → Step Met
    entering E = and_then (ask (none_left N types at (unchosen bs E.parameters))) (λ z. and_then (parameters_noted N types E.parameters) (λ y. and_then (sized N types e [] at E.scope) (λ part. and_then (finished N types at part) (λ body.
        and_then (ask (leaving_function lo (all_part_names ps) E.parameters body)) (λ r. and_then (note lo (function_size bs lo hi E.parameters r)) (λ own. ask (matched N types lo None own E.found)))))))

    pub lambda_ran : 1 ≤ level places → (T : TypeScope) → Plain_patterns types home K places ps (1 + lo) → Parameters_typed N places K types ps (1 + lo) T → (scope : Scope) (st : State) (m : Done Met) → and_then (ask (all_entered N types lo ps (1 + lo) (nothing_in scope [] nothing_found))) entering st ≡ Ok m → Lambda_ran own bs ps e lo at hi scope st m
    lambda_ran data_places T h ty scope st m q =
        let x1 = then_ok (ask (all_entered N types lo ps (1 + lo) (nothing_in scope [] nothing_found)) st) q in
        let a1 = asked (all_entered N types lo ps (1 + lo) (nothing_in scope [] nothing_found)) st x1.first x1.done in
        let R = entered_is data_places lo ps (1 + lo) T h ty scope [] nothing_found x1.first.result a1.answer in
        after_rest own bs ps e lo at hi h R.1 scope st m (ap (λ E. entering E st) (sym R.0) ∙ ap (entering x1.first.result) (sym a1.state) ∙ x1.rest)
