-- A name or a primitive and its arguments, as they are sized one after another.
use Rattle.std.proofs.Common.{◌≡◌, ◌⊎◌, ℕ, suc, ◌+◌, ◌≤◌, List, [], ◌∷◌, ◌++◌, Bool, true, false, Option, Some, None, Ok, refl, sym, ap, ◌∙◌, subst, arith, inl, inr}
use Rattle.std.specs.Prelude.{length}
use Rattle.fut_scalar.specs.declared.place.BindId.{BindId}
use Rattle.fut_scalar.specs.declared.place.Place.{Place}
use Rattle.fut_flat.specs.declared.prim.Primitive.{Primitive}
use Rattle.fut_flat.specs.declared.prim.Ref.{Ref}
use Rattle.fut_flat.specs.declared.prim.Ref.TheVariants as ref
use Rattle.fut_flat.specs.Numbers.{numbers}
use Rattle.fut_flat.specs.Terms.{Use, Strict, Lambda, Apply, Let, If, Loop}
use Rattle.fut_flat.specs.Erased.{FlatTerm}
use Rattle.fut_types.specs.declared.Head.TheVariants as head
use Rattle.fut_types.specs.declared.Kind.{Kind}
use Rattle.fut_types.specs.Types.{Ty, fun_ty, Sub, Kinds, HasKind, level}
use Rattle.fut_typing.specs.Names.{Names}
use Rattle.fut_typing.specs.Primitives.{i64_ty}
use Rattle.fut_typing.specs.Scopes.{Scope as TypeScope}
use Rattle.fut_typing.specs.Typing.{Typed}
use Rattle.sized_types.specs.Sizes.{Free, Name, Variable, Size, Built, Fun, no_size, erased}
use Rattle.fut_sizes.specs.Agreeing.{Answer}
use Rattle.fut_sizes.specs.Applications.{Argument, Early, Late, Part, Applied, Waiting, whole, named_value, is_function}
use Rattle.fut_sizes.specs.Primitives.{prim_size, is_regular}
use Rattle.fut_sizes.specs.Rules.{Sized}
use Rattle.fut_sizes.specs.Scopes.{Scope, used}
use Rattle.fut_sizes.specs.Scoping.{Context}
use Rattle.fut_sizes.specs.Sizing.{finished, as_argument, with_argument, sized}
use Rattle.fut_sizes.specs.Steps.{State, Done}
use Rattle.fut_sizes.specs.Suiting.{Suits}
use Rattle.sizes_meet_rules.specs.Known.{Says, Known_name, Known_names, Judged, Elsewhere}
use Rattle.sizes_meet_rules.specs.Plain.{Is_lambda, Is_primitive, Flat_function, Gives_data, Data_function, Used_function, Plain_term, Plain_spine}
use Rattle.sizes_meet_rules.proofs.Applying.{Function_size, function_is, Argument_meets, argument_meets, early_meets, value_is_known}
use Rattle.sizes_meet_rules.proofs.Chains.{Given, argument_by, arguments, arrows_of}
use Rattle.sizes_meet_rules.proofs.Choosing.{data_function_is, arrows_of_type}
use Rattle.sizes_meet_rules.proofs.Heads.{a_name, a_primitive, Head, Primitive_head}
use Rattle.sizes_meet_rules.proofs.Meeting.{Then_ok, then_ok, same_ok, says_more, With_met, elsewhere_narrower, Part_meets, Whole_meets, Is_applied, Waits, Waits_wide}
use Rattle.sizes_meet_rules.proofs.Naming.{no_function}
use Rattle.sizes_meet_rules.proofs.Noting.{Placed}
use Rattle.sizes_meet_rules.proofs.Parts.{gives_lambda, spine, spine_snoc, arguments_snoc, length_snoc, arrows_snoc, placed_snoc, Data_meets, given_inner, given_meets_as, Function_meets, Lambda_waits, Lambda_wide, Named_wide, All_given, One_waits, First_waits, given_snoc, waits_snoc, function_snoc, data_snoc, first_snoc}
use Rattle.sizes_meet_rules.proofs.Primitives.{closed_is, closed_typed, closed_says}
use Rattle.sizes_meet_rules.proofs.Settling.{noted}
use Rattle.sizes_meet_rules.proofs.Showing.{numbers_some, Law_of, Wide_law}
use Rattle.sizes_meet_rules.proofs.Using.{used_as, used_closed, use_is, suits_rules}

module _ (N : Names) (types : Sub) (home : ℕ → ℕ) (K : Kinds) (places : Kind) (data_places : 1 ≤ level places) where
  -- ---- a name and its arguments

  abbrev pub Spine_meets : Bool → (Free → Type 0) → (Variable → Type 0) → Scope → List Given → State → State → Type 0 → Type 0
  Spine_meets lambda In Vars scope given st A H = All_given N types home K places data_places In Vars scope given st A
      ⊎ (((lambda ≡ false) × One_waits N types home K places data_places In Vars scope given st A × H) ⊎ ((lambda ≡ false) × First_waits N types home K places data_places In Vars scope given st A × H))

  pub record Spine (lambda : Bool) (In : Free → Type 0) (Vars : Variable → Type 0) (scope : Scope) (f : FlatTerm) (lo : ℕ) (st : State) (d : Done Part) : Type 0 where
    pub term : FlatTerm
    pub some : 1 ≤ numbers term
    pub size : Size
    pub regular : Bool
    pub type : Ty
    pub given : List Given
    pub typed : type ≡ arrows_of types given (types lo)
    pub is : f ≡ spine term given
    pub head : Head N types home K In Vars scope term size regular type
    pub part : d.result ≡ Applied size regular (arguments given)
    pub placed : Placed given (lo + length (arguments given) + numbers term) (lo + numbers f)
    -- data alone, or one function among it, which a primitive takes
    pub meet : Spine_meets lambda In Vars scope given st d.state (Primitive_head N types home K In Vars scope term size regular type)
    pub of_lambda : lambda ≡ true → Primitive_head N types home K In Vars scope term size regular type

  abbrev pub Spine_law : FlatTerm → Type 1
  Spine_law f = (lambda : Bool) (In : Free → Type 0) (Vars : Variable → Type 0) (scope : Scope) (T : TypeScope) (lo : ℕ) (st : State) (d : Done Part) → Plain_spine types home K places N lambda f lo → Typed N places f lo T K types → Known_names In Vars home scope K types T → Elsewhere N types home lo (lo + numbers f) In → sized N types f [] lo scope st ≡ Ok d → Spine lambda In Vars scope f lo st d

  pub use_spine : (b : BindId) (at : Place) (j : ℕ) → Spine_law (Use (ref.Bound b) at j)
  unfolding sized
  use_spine b at j lambda In Vars scope T lo st d pl t known E q = record {
    term = a_name b at j;
    some = omega arith;
    size = n.size;
    regular = false;
    type = types lo;
    given = [];
    typed = refl;
    is = refl;
    head = inl (record { bind = b; place = at; number = j; name = n; used = pl.1; term_is = refl; whole_is = refl });
    part = ap (λ (x : Done Part). x.result) (sym (same_ok now));
    placed = omega arith;
    meet = inl (ap (λ (x : Done Part). x.state) (sym (same_ok now)));
    of_lambda = λ e. absurd (let z : true ≡ false = sym e ∙ pl.0 in cc);
  }
    where
      n : Known_name In Vars types home scope b.0 (types lo)
      n = known b.0 (types lo) t

      now : ◌≡◌ {A = Answer (Done Part)} (Ok (record { result = whole n.size; state = st })) (Ok d)
      now = ap (λ (o : Size). Ok (record { result = whole o; state = st })) (sym (use_is N types home In Vars scope b (types lo) n lo)) ∙ q

  pub primitive_spine : (p : Primitive) (at : Place) (j : ℕ) → Spine_law (Use (ref.Prim p) at j)
  unfolding sized
  primitive_spine p at j lambda In Vars scope T lo st d pl t known E q = record {
    term = a_primitive p at j;
    some = omega arith;
    size = used lo (types lo) (prim_size p);
    regular = is_regular p;
    type = types lo;
    given = [];
    typed = refl;
    is = refl;
    head = inr H;
    part = ap (λ (x : Done Part). x.result) (sym (same_ok now));
    placed = omega arith;
    meet = inl (ap (λ (x : Done Part). x.state) (sym (same_ok now)));
    of_lambda = λ e. H;
  }
    where
      H : Primitive_head N types home K In Vars scope (a_primitive p at j) (used lo (types lo) (prim_size p)) (is_regular p) (types lo)
      H = record { primitive = p; place = at; number = j; node = lo; given = t.0; kinds = λ m. let k = t.1 m in omega (arith, data_places, k); typed = t.2; term_is = refl; whole_is = refl; regular_is = refl }

      now : ◌≡◌ {A = Answer (Done Part)} (Ok (record { result = Applied (used lo (types lo) (prim_size p)) (is_regular p) []; state = st })) (Ok d)
      now = q

  record Apply_ran (f e : FlatTerm) (lo mid : ℕ) (scope : Scope) (st : State) (d : Done Part) : Type 0 where
    function : Done Part
    part : Done Part
    argument : Done Argument
    function_is : sized N types f [] (1 + lo) scope st ≡ Ok function
    part_is : sized N types e [] mid scope function.state ≡ Ok part
    argument_is : as_argument N types mid e part.result part.state ≡ Ok argument
    gives : with_argument N types function.result argument.result argument.state ≡ Ok d

  apply_ran : (f e : FlatTerm) (lo : ℕ) (scope : Scope) (st : State) (d : Done Part) → sized N types (Apply f e) [] lo scope st ≡ Ok d → Apply_ran f e lo (1 + lo + numbers f) scope st d
  unfolding sized
  apply_ran f e lo scope st d q =
      let x1 = then_ok (sized N types f [] (1 + lo) scope st) q in
      let x2 = then_ok (sized N types e [] (1 + lo + numbers f) scope x1.first.state) x1.rest in
      let x3 = then_ok (as_argument N types (1 + lo + numbers f) e x2.first.result x2.first.state) x2.rest in
      record { function = x1.first; part = x2.first; argument = x3.first; function_is = x1.done; part_is = x2.done; argument_is = x3.done; gives = x3.rest }

  -- a lambda that is an argument waits
  record Lambda_argument (e : FlatTerm) (n : ℕ) (In : Free → Type 0) (Vars : Variable → Type 0) (scope : Scope) (before : State) (part : Done Part) (argument : Done Argument) : Type 0 where
    waits : Waits N types home In Vars scope e n (n + numbers e) part.state part.result part.state
    is_late : argument.result ≡ Late n waits.waiting
    state : argument.state ≡ before

  lambda_argument : (e : FlatTerm) (n : ℕ) (In : Free → Type 0) (Vars : Variable → Type 0) (scope : Scope) (before : State) (part : Done Part) (argument : Done Argument) → Waits N types home In Vars scope e n (n + numbers e) before part.result part.state → as_argument N types n e part.result part.state ≡ Ok argument → Lambda_argument e n In Vars scope before part argument
  lambda_argument e n In Vars scope before part argument W q = record {
    waits = record { waiting = W.waiting; is_waiting = W.is_waiting; unchanged = refl; of_function = W.of_function; is_lambda = W.is_lambda; typed_as = W.typed_as; known_sizes = W.known_sizes; by_itself = W.by_itself; as_wanted = W.as_wanted };
    is_late = ap (λ (a : Done Argument). a.result) (sym now);
    state = ap (λ (a : Done Argument). a.state) (sym now) ∙ W.unchanged;
  }
    where
      now : record { result = Late n W.waiting; state = part.state } ≡ argument
      now = same_ok (ap (λ p. as_argument N types n e p part.state) (sym W.is_waiting) ∙ q)

  -- and one that takes the parameters which are wanted of it
  record Wide_argument (e : FlatTerm) (n : ℕ) (In : Free → Type 0) (Vars : Variable → Type 0) (scope : Scope) (before : State) (part : Done Part) (argument : Done Argument) : Type 0 where
    waits : Waits_wide N types home In Vars scope e n (n + numbers e) part.state part.result part.state
    is_late : argument.result ≡ Late n waits.waiting
    state : argument.state ≡ before

  wide_argument : (e : FlatTerm) (n : ℕ) (In : Free → Type 0) (Vars : Variable → Type 0) (scope : Scope) (before : State) (part : Done Part) (argument : Done Argument) → Waits_wide N types home In Vars scope e n (n + numbers e) before part.result part.state → as_argument N types n e part.result part.state ≡ Ok argument → Wide_argument e n In Vars scope before part argument
  wide_argument e n In Vars scope before part argument W q = record {
    waits = record { waiting = W.waiting; is_waiting = W.is_waiting; unchanged = refl; of_function = W.of_function; typed_as = W.typed_as; as_wanted = W.as_wanted };
    is_late = ap (λ (a : Done Argument). a.result) (sym now);
    state = ap (λ (a : Done Argument). a.state) (sym now) ∙ W.unchanged;
  }
    where
      now : record { result = Late n W.waiting; state = part.state } ≡ argument
      now = same_ok (ap (λ p. as_argument N types n e p part.state) (sym W.is_waiting) ∙ q)

  -- a name or a primitive that is an argument
  record Used_argument (e : FlatTerm) (n : ℕ) (In : Free → Type 0) (Vars : Variable → Type 0) (scope : Scope) (before : State) (argument : Done Argument) : Type 0 where
    value : Option Free
    size : Size
    is_early : argument.result ≡ Early n value true size
    value_is : (value ≡ None) ⊎ (value ≡ named_value e)
    state : argument.state ≡ before
    says : Says In Vars size
    typed : erased size ≡ types n
    rules : (s : ℕ → Size) (G : Context) → Judged In Vars scope G → Suits size (s n) → Sized N types s home e n G

  used_argument : (r : Ref) (at : Place) (j n : ℕ) (In : Free → Type 0) (Vars : Variable → Type 0) (scope : Scope) (T : TypeScope) (before : State) (part : Done Part) (argument : Done Argument) → Plain_term types home K places N (Use r at j) n → Typed N places (Use r at j) n T K types → Known_names In Vars home scope K types T
      → sized N types (Use r at j) [] n scope before ≡ Ok part → as_argument N types n (Use r at j) part.result part.state ≡ Ok argument → Used_argument (Use r at j) n In Vars scope before argument
  unfolding sized
  used_argument (ref.Scalar s) at j n In Vars scope T before part argument pl t known q z = absurd pl
  used_argument (ref.Prim p) at j n In Vars scope T before part argument pl t known q z = record {
    value = None;
    size = prim_size p;
    is_early = ap (λ (a : Done Argument). a.result) (sym (same_ok there));
    value_is = inl refl;
    state = ap (λ (a : Done Argument). a.state) (sym (same_ok there));
    says = closed_says p In Vars pl;
    typed = closed_typed p t.0 pl ∙ sym t.2;
    rules = λ s G J h. used_as (λ v. true) (prim_size p) (s n) h;
  }
    where
      now : ◌≡◌ {A = Answer (Done Part)} (Ok (record { result = whole (prim_size p); state = before })) (Ok part)
      now = ap (λ (x : Size). Ok (record { result = whole x; state = before })) (sym (used_closed n (types n) (prim_size p) (closed_is p pl).0)) ∙ ap (λ (b : Bool). Ok (record { result = Applied (used n (types n) (prim_size p)) b []; state = before })) (sym (closed_is p pl).1) ∙ q

      there : ◌≡◌ {A = Answer (Done Argument)} (Ok (record { result = Early n None true (prim_size p); state = before })) (Ok argument)
      there = ap (λ (x : Done Part). as_argument N types n (Use (ref.Prim p) at j) x.result x.state) (same_ok now) ∙ z
  used_argument (ref.Bound b) at j n In Vars scope T before part argument pl t known q z = record {
    value = Some (Name b.0);
    size = k.size;
    is_early = ap (λ (a : Done Argument). a.result) (sym (same_ok there));
    value_is = inr refl;
    state = ap (λ (a : Done Argument). a.state) (sym (same_ok there));
    says = k.says;
    typed = k.typed (λ g. by_form g pl);
    rules = λ s G J h. suits_rules N types home In Vars scope b (types n) k at j n s G J h;
  }
    where
      k : Known_name In Vars types home scope b.0 (types n)
      k = known b.0 (types n) t

      -- a number is not general
      by_form : k.is_general ≡ true → (types n ≡ types (home b.0)) ⊎ (types n ≡ i64_ty) → types n ≡ types (home b.0)
      by_form g (inl e) = e
      by_form g (inr e) = by_kind (k.function g)
        where
          by_kind : ((p : Ty) × (r : Ty) × (types n ≡ fun_ty p r)) ⊎ ((types (home b.0) ≡ i64_ty) ⊎ (types n ≡ types (home b.0))) → types n ≡ types (home b.0)
          by_kind (inl w) = absurd (no_function w.0 w.1 (sym e ∙ w.2))
          by_kind (inr (inl h)) = e ∙ sym h
          by_kind (inr (inr h)) = h

      now : ◌≡◌ {A = Answer (Done Part)} (Ok (record { result = whole k.size; state = before })) (Ok part)
      now = ap (λ (o : Size). Ok (record { result = whole o; state = before })) (sym (use_is N types home In Vars scope b (types n) k n)) ∙ q

      there : ◌≡◌ {A = Answer (Done Argument)} (Ok (record { result = Early n (Some (Name b.0)) true k.size; state = before })) (Ok argument)
      there = ap (λ (x : Done Part). as_argument N types n (Use (ref.Bound b) at j) x.result x.state) (same_ok now) ∙ z

  -- an application that is an argument is no name
  no_name_there : (h b : FlatTerm) (n : ℕ) (part : Part) (st : State) (a : Done Argument) (v : Option Free) (c : Bool) (t : Size) → as_argument N types n (Apply h b) part st ≡ Ok a → a.result ≡ Early n v c t → c ≡ false
  no_name_there h b n (Applied u r []) st a v c t q e = by_early u (ap (λ (x : Done Argument). x.result) (same_ok (now q)) ∙ e)
    where
      now : as_argument N types n (Apply h b) (Applied u r []) st ≡ Ok a → ◌≡◌ {A = Answer (Done Argument)} (Ok (record { result = Early n None false u; state = (noted n u st).state })) (Ok a)
      now z = z

      by_early : (u : Size) → Early n None false u ≡ Early n v c t → c ≡ false
      by_early u z = let y : false ≡ c = cc in sym y
  no_name_there h b n (Applied u r (x ∷ rest)) st a v c t q e = by_early x1.first.result (ap (λ (x : Done Argument). x.result) (same_ok x1.rest) ∙ e)
    where
      x1 : Then_ok (finished N types n (Applied u r (x ∷ rest)) st) (λ y. Ok (record { result = Early n None false y.result; state = y.state })) a
      x1 = then_ok (finished N types n (Applied u r (x ∷ rest)) st) q

      by_early : (u : Size) → Early n None false u ≡ Early n v c t → c ≡ false
      by_early u z = let y : false ≡ c = cc in sym y
  no_name_there h b n (Waiting f) st a v c t q e = absurd (let z : Late n f ≡ Early n v c t = ap (λ (x : Done Argument). x.result) (same_ok q) ∙ e in cc)

  -- a primitive by itself
  primitive_plain : (f : FlatTerm) (n : ℕ) → Is_primitive f → Plain_spine types home K places N true f n
  primitive_plain (Use (ref.Prim p) at k) n i = tt
  primitive_plain (Use (ref.Bound b) at k) n i = absurd i
  primitive_plain (Use (ref.Scalar s) at k) n i = absurd i
  primitive_plain (Strict o mark ts) n i = absurd i
  primitive_plain (Lambda ps e) n i = absurd i
  primitive_plain (Apply f e) n i = absurd i
  primitive_plain (Let b v e) n i = absurd i
  primitive_plain (If c a b) n i = absurd i
  primitive_plain (Loop mark sizes p first turns body) n i = absurd i

  spine_applied : (h e : FlatTerm) (gs : List Given) → Is_primitive (spine (Apply h e) gs) → ⊥
  spine_applied h e [] i = i
  spine_applied h e (g ∷ gs) i = spine_applied (Apply h e) g.term gs i

  none_given : (f h : FlatTerm) (gs : List Given) → Is_primitive f → f ≡ spine h gs → gs ≡ []
  none_given f h [] i z = refl
  none_given f h (g ∷ gs) i z = absurd (spine_applied h g.term gs (subst Is_primitive z i))

  -- one argument more
  module _ (lambda : Bool) (f e : FlatTerm) (lf : Spine_law f) (le : Law_of N types home K places e) (In : Free → Type 0) (Vars : Variable → Type 0) (scope : Scope) (T : TypeScope) (lo : ℕ) (st : State) (d : Done Part) (pe : Plain_term types home K places N e (1 + lo + numbers f)) (t : Typed N places (Apply f e) lo T K types) (known : Known_names In Vars home scope K types T) (E : Elsewhere N types home lo (lo + numbers (Apply f e)) In) (R : Apply_ran f e lo (1 + lo + numbers f) scope st d) where
    some : 1 ≤ numbers e
    some = numbers_some e

    in_function : Elsewhere N types home (1 + lo) (1 + lo + numbers f) In
    in_function = elsewhere_narrower N types home lo (lo + numbers (Apply f e)) (1 + lo) (1 + lo + numbers f) In (omega arith) (omega arith) E

    in_argument : Elsewhere N types home (1 + lo + numbers f) (1 + lo + numbers f + numbers e) In
    in_argument = elsewhere_narrower N types home lo (lo + numbers (Apply f e)) (1 + lo + numbers f) (1 + lo + numbers f + numbers e) In (omega arith) (omega arith) E

    X : Part_meets N types home In Vars scope e (1 + lo + numbers f) (1 + lo + numbers f + numbers e) R.function.state R.part.result R.part.state
    X = le In Vars scope T (1 + lo + numbers f) R.function.state R.part pe t.0.1 known in_argument R.part_is

    module _ (inner : Bool) (S : Spine inner In Vars scope f (1 + lo) st R.function) (g : Given) (node_is : g.node ≡ 1 + lo + numbers f) (term_is : g.term ≡ e) (argument_is : R.argument.result ≡ argument_by g.waits g) where
      after_is : d ≡ record { result = Applied S.size S.regular (arguments S.given ++ R.argument.result ∷ []); state = R.argument.state }
      after_is = sym (same_ok (ap (λ p. with_argument N types p R.argument.result R.argument.state) (sym S.part) ∙ R.gives))

      abbrev more_given : List Given
      more_given = S.given ++ g ∷ []

      more : Spine_meets lambda In Vars scope more_given st R.argument.state (Primitive_head N types home K In Vars scope S.term S.size S.regular S.type) → (lambda ≡ true → Primitive_head N types home K In Vars scope S.term S.size S.regular S.type) → Spine lambda In Vars scope (Apply f e) lo st d
      more m l = record {
        term = S.term;
        some = S.some;
        size = S.size;
        regular = S.regular;
        type = S.type;
        given = more_given;
        head = S.head;
        typed = S.typed ∙ ap (arrows_of types S.given) (t.1 ∙ ap (λ n. fun_ty (types n) (types lo)) (sym node_is)) ∙ sym (arrows_snoc types S.given g (types lo));
        is = ap (λ h. Apply h e) S.is ∙ ap (Apply (spine S.term S.given)) (sym term_is) ∙ sym (spine_snoc S.term S.given g);
        part = ap (λ (x : Done Part). x.result) after_is ∙ ap (Applied S.size S.regular) (ap (λ a. arguments S.given ++ a ∷ []) argument_is ∙ sym (arguments_snoc S.given g));
        placed = subst (λ m. Placed more_given (lo + m + numbers S.term) (lo + numbers (Apply f e))) (sym (length_snoc S.given g))
            (placed_snoc S.given g (lo + suc (length (arguments S.given)) + numbers S.term) (1 + lo + numbers f) (lo + numbers (Apply f e)) (subst (λ m. Placed S.given m (1 + lo + numbers f)) (omega arith) S.placed) node_is (ap (λ x. 1 + lo + numbers f + numbers x) term_is ∙ (let z : 1 + lo + numbers f + numbers e ≡ lo + numbers (Apply f e) = omega arith in z)));
        meet = subst (λ x. Spine_meets lambda In Vars scope more_given st x (Primitive_head N types home K In Vars scope S.term S.size S.regular S.type)) (ap (λ (x : Done Part). x.state) (sym after_is)) m;
        of_lambda = l;
      }

    -- of data
    data_more : HasKind K places (types (1 + lo + numbers f)) → Plain_spine types home K places N lambda f (1 + lo) → Spine lambda In Vars scope (Apply f e) lo st d
    data_more pd pf = more lambda S g refl refl A.is_early (by_meet S.meet) S.of_lambda
      where
        S : Spine lambda In Vars scope f (1 + lo) st R.function
        S = lf lambda In Vars scope T (1 + lo) st R.function pf t.0.0 known in_function R.function_is

        A : Argument_meets N types home K places data_places In Vars scope e (1 + lo + numbers f) (1 + lo + numbers f + numbers e) R.function.state R.argument.result R.argument.state
        A = argument_meets N types home K places data_places In Vars scope e (1 + lo + numbers f) (1 + lo + numbers f + numbers e) R.function.state R.part.result R.part.state R.argument (let n = some in omega (arith, n)) pd X R.argument_is

        g : Given
        g = record { node = 1 + lo + numbers f; value = A.value; named = A.named; size = A.size; own = A.size; term = e; width = 0; waits = None }

        M : Data_meets N types home K places data_places In Vars scope g R.function.state R.argument.state
        M = (given_meets_as N types home K places data_places In Vars scope (g.node + numbers g.term) g R.function.state R.argument.state refl A.value_is (given_inner N types home K places data_places In Vars scope g R.function.state R.argument.state refl A.inner) A.here (value_is_known N types home K places data_places e (1 + lo + numbers f) In Vars scope T known t.0.1), (pd, refl))

        by_meet : Spine_meets lambda In Vars scope S.given st R.function.state (Primitive_head N types home K In Vars scope S.term S.size S.regular S.type) → Spine_meets lambda In Vars scope (S.given ++ g ∷ []) st R.argument.state (Primitive_head N types home K In Vars scope S.term S.size S.regular S.type)
        by_meet (inl h) = inl (given_snoc N types home K places data_places In Vars scope S.given g st R.function.state R.argument.state h M)
        by_meet (inr (inl h)) = inr (inl (h.0, data_snoc N types home K places data_places In Vars scope S.given g st R.function.state R.argument.state h.1 M, h.2))
        by_meet (inr (inr h)) = inr (inr (h.0, first_snoc N types home K places data_places In Vars scope S.given g st R.function.state R.argument.state h.1 M, h.2))

    -- and a function
    function_more : lambda ≡ false → Flat_function types home K places (types (1 + lo + numbers f)) → Plain_spine types home K places N true f (1 + lo) → Spine lambda In Vars scope (Apply f e) lo st d
    function_more none flat pf = by_part X
      where
        S : Spine true In Vars scope f (1 + lo) st R.function
        S = lf true In Vars scope T (1 + lo) st R.function pf t.0.0 known in_function R.function_is

        -- no function stands before it
        before_it : Spine_meets true In Vars scope S.given st R.function.state (Primitive_head N types home K In Vars scope S.term S.size S.regular S.type) → All_given N types home K places data_places In Vars scope S.given st R.function.state
        before_it (inl h) = h
        before_it (inr (inl h)) = absurd (let z : true ≡ false = h.0 in cc)
        before_it (inr (inr h)) = absurd (let z : true ≡ false = h.0 in cc)

        no_other : lambda ≡ true → Primitive_head N types home K In Vars scope S.term S.size S.regular S.type
        no_other z = absurd (let y : true ≡ false = sym z ∙ none in cc)

        -- a lambda
        late : Waits N types home In Vars scope e (1 + lo + numbers f) (1 + lo + numbers f + numbers e) R.function.state R.part.result R.part.state → Spine lambda In Vars scope (Apply f e) lo st d
        late W = more true S g refl refl A.is_late (inr (inl (none, waits_snoc N types home K places data_places In Vars scope S.given g st R.argument.state (subst (λ x. All_given N types home K places data_places In Vars scope S.given st x) (sym A.state) (before_it S.meet)) L, S.of_lambda refl))) no_other
          where
            A : Lambda_argument e (1 + lo + numbers f) In Vars scope R.function.state R.part R.argument
            A = lambda_argument e (1 + lo + numbers f) In Vars scope R.function.state R.part R.argument W R.argument_is

            g : Given
            g = record { node = 1 + lo + numbers f; value = None; named = false; size = Built head.Tuple no_size; own = Built head.Tuple no_size; term = e; width = 0; waits = Some (Late (1 + lo + numbers f) A.waits.waiting) }

            L : Lambda_waits N types home K places data_places In Vars scope g
            L = record { st = R.part.state; part = R.part.result; waits = A.waits; waits_is = refl; value = refl; named = refl; flat = flat }

        -- one whose sized type is known
        early : Whole_meets N types home In Vars scope e (1 + lo + numbers f) (1 + lo + numbers f + numbers e) R.function.state R.part.result R.part.state ⊎ Is_applied N types home In Vars scope e (1 + lo + numbers f) (1 + lo + numbers f + numbers e) R.function.state R.part.result R.part.state → Spine lambda In Vars scope (Apply f e) lo st d
        early W = more true S g refl refl A.is_early (inr (inl (none, function_snoc N types home K places data_places In Vars scope S.given g st R.function.state R.argument.state (before_it S.meet) M, S.of_lambda refl))) no_other
          where
            A : Argument_meets N types home K places data_places In Vars scope e (1 + lo + numbers f) (1 + lo + numbers f + numbers e) R.function.state R.argument.result R.argument.state
            A = early_meets N types home K places data_places In Vars scope e (1 + lo + numbers f) (1 + lo + numbers f + numbers e) R.function.state R.part.result R.part.state R.argument (let n = some in omega (arith, n)) W R.argument_is

            g : Given
            g = record { node = 1 + lo + numbers f; value = A.value; named = A.named; size = A.size; own = A.size; term = e; width = 0; waits = None }

            M : Function_meets N types home K places data_places In Vars scope g R.function.state R.argument.state
            M = (given_meets_as N types home K places data_places In Vars scope (g.node + numbers g.term) g R.function.state R.argument.state refl A.value_is (given_inner N types home K places data_places In Vars scope g R.function.state R.argument.state refl A.inner) A.here (value_is_known N types home K places data_places e (1 + lo + numbers f) In Vars scope T known t.0.1), (flat, refl))

        by_part : Part_meets N types home In Vars scope e (1 + lo + numbers f) (1 + lo + numbers f + numbers e) R.function.state R.part.result R.part.state → Spine lambda In Vars scope (Apply f e) lo st d
        by_part (inl W) = early (inl W)
        by_part (inr (inl W)) = late W
        by_part (inr (inr W)) = early (inr W)

    -- and a lambda that takes the parameters which are wanted of it, by a primitive
    wide_more : Wide_law N types home K places e → lambda ≡ false → Gives_data types home K places e (1 + lo + numbers f) → Is_primitive f → Spine lambda In Vars scope (Apply f e) lo st d
    wide_more we none gives prim = more true S g refl refl A.is_late (inr (inr (none, subst (λ xs. First_waits N types home K places data_places In Vars scope (xs ++ g ∷ []) st R.argument.state) (sym no_given) (inl (L, state_is)), S.of_lambda refl))) no_other
      where
        S : Spine true In Vars scope f (1 + lo) st R.function
        S = lf true In Vars scope T (1 + lo) st R.function (primitive_plain f (1 + lo) prim) t.0.0 known in_function R.function_is

        W : Waits_wide N types home In Vars scope e (1 + lo + numbers f) (1 + lo + numbers f + numbers e) R.function.state R.part.result R.part.state
        W = we In Vars scope T (1 + lo + numbers f) R.function.state R.part pe t.0.1 known in_argument R.part_is

        A : Wide_argument e (1 + lo + numbers f) In Vars scope R.function.state R.part R.argument
        A = wide_argument e (1 + lo + numbers f) In Vars scope R.function.state R.part R.argument W R.argument_is

        g : Given
        g = record { node = 1 + lo + numbers f; value = None; named = false; size = Fun 0 (Built head.Tuple no_size) (Built head.Tuple no_size); own = Fun 0 (Built head.Tuple no_size) (Built head.Tuple no_size); term = e; width = 0; waits = Some (Late (1 + lo + numbers f) A.waits.waiting) }

        L : Lambda_wide N types home K places data_places In Vars scope g
        L = record { st = R.part.state; part = R.part.result; waits = A.waits; waits_is = refl; value = refl; named = refl; is_fun = refl; gives = gives }

        no_given : S.given ≡ []
        no_given = none_given f S.term S.given prim S.is

        by_meet : Spine_meets true In Vars scope S.given st R.function.state (Primitive_head N types home K In Vars scope S.term S.size S.regular S.type) → R.function.state ≡ st
        by_meet (inl h) = subst (λ xs. All_given N types home K places data_places In Vars scope xs st R.function.state) no_given h
        by_meet (inr (inl h)) = absurd (let z : true ≡ false = h.0 in cc)
        by_meet (inr (inr h)) = absurd (let z : true ≡ false = h.0 in cc)

        state_is : R.argument.state ≡ st
        state_is = A.state ∙ by_meet S.meet

        no_other : lambda ≡ true → Primitive_head N types home K In Vars scope S.term S.size S.regular S.type
        no_other z = absurd (let y : true ≡ false = sym z ∙ none in cc)

    -- or a name, which is used at the sizes that are wanted of it
    named_more : (r : Ref) (at : Place) (j : ℕ) → e ≡ Use r at j → lambda ≡ false → Data_function types home K places (types (1 + lo + numbers f)) → Is_primitive f → Spine lambda In Vars scope (Apply f e) lo st d
    named_more r at j is none of_data prim = more true S g refl refl A.is_early (inr (inr (none, subst (λ xs. First_waits N types home K places data_places In Vars scope (xs ++ g ∷ []) st R.argument.state) (sym no_given) (inr (R.argument.state, (subst (λ x. Named_wide N types home K places data_places In Vars scope g x R.argument.state) (by_meet S.meet) L, refl))), S.of_lambda refl))) no_other
      where
        S : Spine true In Vars scope f (1 + lo) st R.function
        S = lf true In Vars scope T (1 + lo) st R.function (primitive_plain f (1 + lo) prim) t.0.0 known in_function R.function_is

        A : Used_argument e (1 + lo + numbers f) In Vars scope R.function.state R.argument
        A = subst (λ x. Used_argument x (1 + lo + numbers f) In Vars scope R.function.state R.argument) (sym is) (used_argument r at j (1 + lo + numbers f) In Vars scope T R.function.state R.part R.argument (subst (λ x. Plain_term types home K places N x (1 + lo + numbers f)) is pe) (subst (λ x. Typed N places x (1 + lo + numbers f) T K types) is t.0.1) known
            (ap (λ x. sized N types x [] (1 + lo + numbers f) scope R.function.state) (sym is) ∙ R.part_is) (ap (λ x. as_argument N types (1 + lo + numbers f) x R.part.result R.part.state) (sym is) ∙ R.argument_is))

        F : (a : Ty) × ((c : Ty) × (types (1 + lo + numbers f) ≡ fun_ty a c))
        F = data_function_is types home K places data_places (types (1 + lo + numbers f)) of_data

        W : Function_size A.size F.0 F.1.0
        W = function_is A.size F.0 F.1.0 A.says.formed (A.typed ∙ F.1.1)

        g : Given
        g = record { node = 1 + lo + numbers f; value = A.value; named = true; size = Fun 0 (Built head.Tuple no_size) (Built head.Tuple no_size); own = Fun 0 (Built head.Tuple no_size) (Built head.Tuple no_size); term = e; width = 0; waits = Some (Early (1 + lo + numbers f) A.value true A.size) }

        L : Named_wide N types home K places data_places In Vars scope g R.function.state R.argument.state
        L = record {
          own = A.size;
          waits_is = refl;
          own_fun = ap is_function W.is_function;
          value_is = A.value_is;
          value_known = value_is_known N types home K places data_places e (1 + lo + numbers f) In Vars scope T known t.0.1;
          says = says_more In (With_met In (1 + lo + numbers f) (1 + lo + numbers f + numbers e)) Vars A.size (λ x i. inl i) A.says;
          typed = A.typed;
          arrows = arrows_of_type types home K places data_places (types (1 + lo + numbers f)) A.size A.says.formed A.typed of_data;
          of_function = F;
          kept = λ n o. ap (λ (x : State). x.nodes n) A.state;
          dropped = λ n o. ap (λ (x : State). x.dropped n) A.state;
          noted = λ z. absurd (let y : true ≡ false = z in cc);
          rules = λ s G J u h z a. A.rules s G J (subst (Suits A.size) (sym z) h);
        }

        no_given : S.given ≡ []
        no_given = none_given f S.term S.given prim S.is

        by_meet : Spine_meets true In Vars scope S.given st R.function.state (Primitive_head N types home K In Vars scope S.term S.size S.regular S.type) → R.function.state ≡ st
        by_meet (inl h) = subst (λ xs. All_given N types home K places data_places In Vars scope xs st R.function.state) no_given h
        by_meet (inr (inl h)) = absurd (let z : true ≡ false = h.0 in cc)
        by_meet (inr (inr h)) = absurd (let z : true ≡ false = h.0 in cc)

        no_other : lambda ≡ true → Primitive_head N types home K In Vars scope S.term S.size S.regular S.type
        no_other z = absurd (let y : true ≡ false = sym z ∙ none in cc)

    -- or an application that gives a function, which is used at the sizes that are wanted of it
    section_more : (h b : FlatTerm) → e ≡ Apply h b → lambda ≡ false → Data_function types home K places (types (1 + lo + numbers f)) → Is_primitive f → Spine lambda In Vars scope (Apply f e) lo st d
    section_more h b is none of_data prim = more true S g refl refl (A.is_early ∙ ap (λ c. Early (1 + lo + numbers f) A.value c A.size) unnamed) (inr (inr (none, subst (λ xs. First_waits N types home K places data_places In Vars scope (xs ++ g ∷ []) st R.argument.state) (sym no_given) (inr (R.argument.state, (subst (λ x. Named_wide N types home K places data_places In Vars scope g x R.argument.state) (by_meet S.meet) L, refl))), S.of_lambda refl))) no_other
      where
        S : Spine true In Vars scope f (1 + lo) st R.function
        S = lf true In Vars scope T (1 + lo) st R.function (primitive_plain f (1 + lo) prim) t.0.0 known in_function R.function_is

        by_part : Part_meets N types home In Vars scope e (1 + lo + numbers f) (1 + lo + numbers f + numbers e) R.function.state R.part.result R.part.state → Whole_meets N types home In Vars scope e (1 + lo + numbers f) (1 + lo + numbers f + numbers e) R.function.state R.part.result R.part.state ⊎ Is_applied N types home In Vars scope e (1 + lo + numbers f) (1 + lo + numbers f + numbers e) R.function.state R.part.result R.part.state
        by_part (inl W) = inl W
        by_part (inr (inl W)) = absurd (subst Is_lambda is W.is_lambda)
        by_part (inr (inr W)) = inr W

        A : Argument_meets N types home K places data_places In Vars scope e (1 + lo + numbers f) (1 + lo + numbers f + numbers e) R.function.state R.argument.result R.argument.state
        A = early_meets N types home K places data_places In Vars scope e (1 + lo + numbers f) (1 + lo + numbers f + numbers e) R.function.state R.part.result R.part.state R.argument (let n = some in omega (arith, n)) (by_part X) R.argument_is

        unnamed : A.named ≡ false
        unnamed = no_name_there h b (1 + lo + numbers f) R.part.result R.part.state R.argument A.value A.named A.size (ap (λ x. as_argument N types (1 + lo + numbers f) x R.part.result R.part.state) (sym is) ∙ R.argument_is) A.is_early

        F : (a : Ty) × ((c : Ty) × (types (1 + lo + numbers f) ≡ fun_ty a c))
        F = data_function_is types home K places data_places (types (1 + lo + numbers f)) of_data

        W : Function_size A.size F.0 F.1.0
        W = function_is A.size F.0 F.1.0 A.inner.says.formed (A.inner.typed ∙ F.1.1)

        g : Given
        g = record { node = 1 + lo + numbers f; value = A.value; named = false; size = Fun 0 (Built head.Tuple no_size) (Built head.Tuple no_size); own = Fun 0 (Built head.Tuple no_size) (Built head.Tuple no_size); term = e; width = 0; waits = Some (Early (1 + lo + numbers f) A.value false A.size) }

        L : Named_wide N types home K places data_places In Vars scope g R.function.state R.argument.state
        L = record {
          own = A.size;
          waits_is = refl;
          own_fun = ap is_function W.is_function;
          value_is = A.value_is;
          value_known = value_is_known N types home K places data_places e (1 + lo + numbers f) In Vars scope T known t.0.1;
          says = A.inner.says;
          typed = A.inner.typed;
          arrows = arrows_of_type types home K places data_places (types (1 + lo + numbers f)) A.size A.inner.says.formed A.inner.typed of_data;
          of_function = F;
          kept = A.inner.kept;
          dropped = A.inner.dropped;
          noted = λ z. A.here unnamed;
          rules = λ s G J u k z a. A.inner.rules s G J z a;
        }

        no_given : S.given ≡ []
        no_given = none_given f S.term S.given prim S.is

        by_meet : Spine_meets true In Vars scope S.given st R.function.state (Primitive_head N types home K In Vars scope S.term S.size S.regular S.type) → R.function.state ≡ st
        by_meet (inl h) = subst (λ xs. All_given N types home K places data_places In Vars scope xs st R.function.state) no_given h
        by_meet (inr (inl h)) = absurd (let z : true ≡ false = h.0 in cc)
        by_meet (inr (inr h)) = absurd (let z : true ≡ false = h.0 in cc)

        no_other : lambda ≡ true → Primitive_head N types home K In Vars scope S.term S.size S.regular S.type
        no_other z = absurd (let y : true ≡ false = sym z ∙ none in cc)

    -- such a lambda, such a name or such an application
    first_more : (Is_lambda e → Wide_law N types home K places e) → lambda ≡ false → Gives_data types home K places e (1 + lo + numbers f) ⊎ Used_function types home K places e (1 + lo + numbers f) → Is_primitive f → Spine lambda In Vars scope (Apply f e) lo st d
    first_more we none (inl gives) prim = wide_more (we (gives_lambda types home K places e (1 + lo + numbers f) gives)) none gives prim
    first_more we none (inr used) prim = by_term e refl used
      where
        by_term : (x : FlatTerm) → e ≡ x → Used_function types home K places x (1 + lo + numbers f) → Spine lambda In Vars scope (Apply f e) lo st d
        by_term (Use r at j) is h = named_more r at j is none h prim
        by_term (Strict o mark ts) is h = absurd h
        by_term (Lambda ps b) is h = absurd h
        by_term (Apply g b) is h = section_more g b is none h prim
        by_term (Let b v y) is h = absurd h
        by_term (If c a b) is h = absurd h
        by_term (Loop mark sizes p first turns body) is h = absurd h

  pub apply_spine : (f e : FlatTerm) → Spine_law f → Law_of N types home K places e → (Is_lambda e → Wide_law N types home K places e) → Spine_law (Apply f e)
  apply_spine f e lf le we lambda In Vars scope T lo st d pl t known E q = by_kind pl.0
    where
      R : Apply_ran f e lo (1 + lo + numbers f) scope st d
      R = apply_ran f e lo scope st d q

      by_kind : (HasKind K places (types (1 + lo + numbers f)) × Plain_spine types home K places N lambda f (1 + lo)) ⊎ (((lambda ≡ false) × Flat_function types home K places (types (1 + lo + numbers f)) × Plain_spine types home K places N true f (1 + lo)) ⊎ ((lambda ≡ false) × (Gives_data types home K places e (1 + lo + numbers f) ⊎ Used_function types home K places e (1 + lo + numbers f)) × Is_primitive f)) → Spine lambda In Vars scope (Apply f e) lo st d
      by_kind (inl h) = data_more lambda f e lf le In Vars scope T lo st d pl.1 t known E R h.0 h.1
      by_kind (inr (inl h)) = function_more lambda f e lf le In Vars scope T lo st d pl.1 t known E R h.0 h.1 h.2
      by_kind (inr (inr h)) = first_more lambda f e lf le In Vars scope T lo st d pl.1 t known E R we h.0 h.1 h.2
