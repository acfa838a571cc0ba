-- Each outcome of a typed term is a value of its type, or a report.
use Rattle.std.proofs.Common.{◌≡◌, Bool, true, false, ◌||◌, ℕ, ◌+◌, ◌≤◌, ◌<◌, refl, sym, ◌∙◌, subst, arith, List, [], ◌∷◌, None}
use mathlib.Core.Logic.{◌⊎◌, inl, inr}
use Rattle.fut_scalar.specs.declared.place.BindId.{BindId}
use Rattle.fut_scalar.specs.declared.place.Place.{Place}
use Rattle.fut_scalar.specs.declared.scalar.IntType.{IntType}
use Rattle.fut_scalar.specs.declared.scalar.Scalar.TheVariants as scalar
use Rattle.fut_scalar.specs.declared.scalar.ScalarType.TheVariants as types
use Rattle.fut_flat.specs.declared.prim.Ref.{Ref}
use Rattle.fut_flat.specs.Terms.{Bound_pattern, Wild_pattern, Tuple_pattern, Record_pattern, Typed_pattern, Patterns, no_pattern, pattern_and, Operation, Integer, Use, Strict, Lambda, Apply, Let, If, Loop, Terms, no_term, term_and, Counted, Over, While}
use Rattle.fut_flat.specs.Numbers.{pattern_numbers, all_pattern_numbers, own_numbers, numbers, all_numbers, turn_numbers}
use Rattle.fut_flat.specs.Erased.{FlatTerm, FlatPattern, FlatTurns}
use Rattle.fut_types.specs.declared.Kind.{Kind}
use Rattle.fut_types.specs.declared.Kind.TheVariants as kind
use Rattle.fut_types.specs.declared.Head.TheVariants as head
use Rattle.fut_types.specs.Types.{Ty, Made, Tys, none, more, Sub, Kinds, HasKind, level}
use Rattle.fut_typing.specs.Names.{Names, AreNames, count}
use Rattle.fut_typing.specs.Primitives.{bool_ty}
use Rattle.fut_typing.specs.Scopes.{Scope, with_uses, with_sizes, the_one}
use Rattle.fut_typing.specs.Patterns.{pattern_types, arrows, with_pattern, with_patterns, with_parameters, Pattern_typed, Parameters_typed}
use Rattle.fut_typing.specs.Free.{is_within, has_types, is_free}
use Rattle.fut_typing.specs.Generalised.{own_types, Scheme, Reused, Generalised}
use Rattle.fut_typing.specs.Typing.{term_types, operand, FlatBinding, Function_name, with_turns, let_scheme, Let_typed, let_uses, with_let, Typed, All_typed, Turns_typed}
use Rattle.fut_typing.proofs.Ranges.{numbers_some}
use Rattle.fut_typing.proofs.Local.{AllLocal, all_local_more, local_sizes, local_parameters, local_ones, local_all_ones, local_turns}
use Rattle.fut_typing.proofs.Cong.{within_no}
use Rattle.fut_typing.proofs.Locals.{body_local}
use Rattle.fut_meaning.specs.Found.{Told}
use Rattle.fut_meaning.specs.Outcomes.{Val, Fail, Wrong, and_then, Rel, gives, the, Then, each_of, turns}
use Rattle.fut_meaning.specs.Values.{Scalar_value, Closure, bind, entered, Evaluate, Call}
use Rattle.fut_meaning.specs.Accessors.{truth_of, turns_of, bound}
use Rattle.fut_meaning.specs.Datums.{as_value, datum_of}
use Rattle.fut_meaning.specs.Arrays.{rows_of}
use Rattle.fut_meaning.specs.Meaning.{first_node, row_told, fits_type, Of_literal, placed, counts, under, looped, step, Ever}
use Rattle.fut_meaning.specs.Claims.{HasOut, Safe, Correct}
use Rattle.fut_meaning.specs.Flats.{FlatValue, FlatTops, FlatEnv, FlatMode, flat_names}
use Rattle.fut_meaning.proofs.Correct.{correct_exact, correct_then, correct_as, correct_choose, correct_turns, correct_while}
use Rattle.fut_meaning.proofs.Safe.{Any_truth, Every}
use Rattle.fut_meaning.specs.Uses.{is_size_in}
use Rattle.type_soundness.specs.Fits.{Grows, lang, widest, Fits}
use Rattle.type_soundness.specs.Formed.{Pattern_apart, Patterns_apart, Turns_apart, Let_apart}
use Rattle.type_soundness.specs.Meant.{how_many, Has_parameter, Literal_here, Literal, A_literal, Turn_literal, Literals_told}
use Rattle.type_soundness.specs.Environments.{Env_fits}
use Rattle.type_soundness.proofs.Sized.{Sized, All_sized, Turns_sized}
use Rattle.type_soundness.proofs.Growing.{grows_self, grows_more}
use Rattle.type_soundness.proofs.Binding.{Each_fits, env_bind, bound_fits}
use Rattle.type_soundness.proofs.Scalars.{integer_fits, bool_value, scalar_inside, fits_scalar}
use Rattle.type_soundness.proofs.Operating.{Literal_told}
use Rattle.type_soundness.proofs.Operated.{operation_fits}
use Rattle.type_soundness.proofs.Making.{Rows_fit, rows_fit, row_data}
use Rattle.type_soundness.proofs.Makings.{array_has}
use Rattle.type_soundness.proofs.Applying.{Is_free}
use Rattle.type_soundness.proofs.DataFits.{fits_data}
use Rattle.type_soundness.proofs.Uses.{use_fits}
use Rattle.type_soundness.proofs.Environments.{env_entered, env_grows, env_moves, env_sizes, env_types}
use Rattle.type_soundness.proofs.Using.{opened, fits_function, function_fits}
use Rattle.type_soundness.proofs.Literals.{literal_kept}
use Rattle.type_soundness.proofs.Walking.{as_many}

told : (i : IntType) (o : Operation Ref BindId) (a : Sub) (lo : ℕ) (integer_at : ℕ → IntType) → ((m : ℕ) → Literal_here o lo m → a m ≡ Made (head.Scalar (types.Int (integer_at m))) none) → Literal_told (integer_at lo) o (a lo)
told i (Integer n None) a lo integer_at h = h lo refl
told i o a lo integer_at h = tt

pub count_terms : (a : Sub) (ts : Terms Ref BindId) (lo : ℕ) → count (term_types a ts lo) ≤ all_numbers ts
count_terms a no_term lo = omega arith
count_terms a (term_and t ts) lo = let r = count_terms a ts (lo + numbers t) in let s = numbers_some t in omega (arith, r, s)

any_number : (xs : List ℕ) → Every (λ j. Unit {0}) xs
any_number [] = tt
any_number (x ∷ xs) = (tt, any_number xs)

module _ (N : Names) (are : AreNames N) (T : Told) (M : FlatMode) (budget : ℕ) (total : Bool) (P : ℕ → Type 0) (places : Kind) (K : Kinds) (free : Is_free M budget total) (wide : level kind.Data ≤ level places) where
  abbrev At : FlatTops → Ty → FlatValue → Type 0
  At tops t v = Fits N T M budget total t tops v

  -- the numbers of sizes
  abbrev S : ℕ → Bool
  S = is_size_in T.sizes

  abbrev In_scope : FlatTops → Scope → Sub → FlatEnv → Type 0
  In_scope tops scope a env = Env_fits N T M budget total tops P scope K a env

  -- the meaning where these definitions have been evaluated
  abbrev Gives : FlatTops → FlatEnv → ℕ → FlatTerm → Rel FlatValue
  Gives tops env lo t = Ever (lang T tops) M budget (Evaluate env lo t)

  fits_as : (tops : FlatTops) (t u : Ty) (v : FlatValue) → t ≡ u → At tops t v → At tops u v
  fits_as tops t u v e h = subst (λ x. At tops x v) e h

  evaluates : (tops : FlatTops) (Q : FlatValue → Type 0) (env : FlatEnv) (lo : ℕ) (t : FlatTerm) → Correct total Q (step (lang T tops) M budget (Ever (lang T tops) M budget) (Evaluate env lo t)) → Correct total Q (Gives tops env lo t)
  evaluates tops Q env lo t = opened N T M budget total K tops Q (Evaluate env lo t)

  truth_fits : (tops : FlatTops) (t : Ty) (v : FlatValue) → t ≡ bool_ty → At tops t v → HasOut Any_truth (truth_of v)
  truth_fits tops t v e h = let b = bool_value N T M budget total tops K v (scalar_inside N T M budget total tops K types.Bool none v (fits_as tops t bool_ty v e h)) in
      subst (λ x. HasOut Any_truth (truth_of x)) (sym b.1) tt

  -- so many turns as an integer says
  abbrev Of_type : Ty → (IntType × ℕ) → Type 0
  Of_type t c = (ts : Tys) × (t ≡ Made (head.Scalar (types.Int c.0)) ts)

  turns_fit : (tops : FlatTops) (t : Ty) (v : FlatValue) → HasKind K kind.Integer t → At tops t v → HasOut (Of_type t) (turns_of v)
  turns_fit tops t v k h = let r = integer_fits N T M budget total tops K t v k h in subst (λ x. HasOut (Of_type t) (turns_of x)) (sym r.4) (r.1, r.3)

  -- ---- functions
  closure_fits : (ps : Patterns Ref BindId) → Has_parameter ps → Patterns_apart S ps → (lo at : ℕ) (e : FlatTerm) (inside scope : Scope) (a : Sub) (tops : FlatTops) (env : FlatEnv) → Parameters_typed N places K a ps lo inside
      → ((tops' : FlatTops) → Grows tops tops' → (env' : FlatEnv) → In_scope tops' (with_patterns the_one ps lo scope) a env' → Correct total (At tops' (a at)) (Gives tops' env' at e)) → In_scope tops scope a env
      → At tops (arrows (pattern_types a ps lo) (a at)) (Closure ps e at env)
  closure_fits no_pattern has apart lo at e inside scope a tops env typed body h = absurd has
  closure_fits (pattern_and p no_pattern) has apart lo at e inside scope a tops env typed body h =
      fits_function N T M budget total K tops (a lo) (a at) (Closure (pattern_and p no_pattern) e at env) (λ tops' g v k.
      opened N T M budget total K tops' (At tops' (a at)) (Call (Closure (pattern_and p no_pattern) e at env) v)
      (correct_then (In_scope tops' (with_pattern the_one p lo scope) a) (At tops' (a at)) (the (bound (first_node (pattern_and p no_pattern) at) p v env)) (λ x. Gives tops' x at e)
      (correct_exact (In_scope tops' (with_pattern the_one p lo scope) a) 0 (bound (first_node (pattern_and p no_pattern) at) p v env) (bound_fits N T M budget total tops' P K a are places _ p lo inside scope v env typed.0 apart.0 k (env_grows N T M budget total P K tops tops' g scope a env h)))
      (λ x w. body tops' g x w)))
  closure_fits (pattern_and p (pattern_and q ps)) has apart lo at e inside scope a tops env typed body h =
      fits_function N T M budget total K tops (a lo) (arrows (pattern_types a (pattern_and q ps) (lo + pattern_numbers p)) (a at)) (Closure (pattern_and p (pattern_and q ps)) e at env) (λ tops' g v k.
      opened N T M budget total K tops' (At tops' (arrows (pattern_types a (pattern_and q ps) (lo + pattern_numbers p)) (a at))) (Call (Closure (pattern_and p (pattern_and q ps)) e at env) v)
      (correct_then (In_scope tops' (with_pattern the_one p lo scope) a) (At tops' (arrows (pattern_types a (pattern_and q ps) (lo + pattern_numbers p)) (a at))) (the (bound (first_node (pattern_and p (pattern_and q ps)) at) p v env)) (λ x. gives 0 (Closure (pattern_and q ps) e at x))
      (correct_exact (In_scope tops' (with_pattern the_one p lo scope) a) 0 (bound (first_node (pattern_and p (pattern_and q ps)) at) p v env) (bound_fits N T M budget total tops' P K a are places _ p lo inside scope v env typed.0 apart.0 k (env_grows N T M budget total P K tops tops' g scope a env h)))
      (λ x w. correct_exact (At tops' (arrows (pattern_types a (pattern_and q ps) (lo + pattern_numbers p)) (a at))) 0 (Val (Closure (pattern_and q ps) e at x))
      (closure_fits (pattern_and q ps) tt apart.1 (lo + pattern_numbers p) at e (with_pattern the_one p lo inside) (with_pattern the_one p lo scope) a tops' x typed.1 (λ tops'' g' env' k'. body tops'' (grows_more tops tops' tops'' g g') env' k') w))))

  -- ---- lets
  -- the name of a function is bound to a value that is of each type of its uses
  function_bound : (sizes : List BindId) (p : FlatPattern) (s : Scheme) (lo : ℕ) (w : FlatValue) (scope : Scope) (a : Sub) (tops : FlatTops) (env : FlatEnv) → Function_name sizes p → Pattern_apart S p → ((t : Ty) → Reused places s lo K a t → At tops t w) → In_scope tops scope a env
      → HasOut (In_scope tops (with_pattern (Reused places s) p lo (with_sizes sizes scope)) a) (bound lo p w env)
  unfolding bound
  function_bound [] (Bound_pattern b) s lo w scope a tops env named apart each h = env_bind N T M budget total tops P K a b w (Reused places s lo) scope (entered lo w env) apart each (env_entered N T M budget total P K tops lo w scope a env h)
  function_bound [] Wild_pattern s lo w scope a tops env named apart each h = absurd named
  function_bound [] (Tuple_pattern ps) s lo w scope a tops env named apart each h = absurd named
  function_bound [] (Record_pattern fs ps) s lo w scope a tops env named apart each h = absurd named
  function_bound [] (Typed_pattern p t) s lo w scope a tops env named apart each h = absurd named
  function_bound (b ∷ bs) p s lo w scope a tops env named apart each h = absurd named

  abbrev Runs : FlatTerm → Type 1
  Runs t = (lo : ℕ) (scope : Scope) (a : Sub) (tops : FlatTops) (env : FlatEnv) → AllLocal (λ n. n < lo) scope → Typed N places t lo scope K a → Sized S P t → Literals_told T.integer_at a t lo → lo + numbers t < widest → In_scope tops scope a env
      → Correct total (At tops (a lo)) (Gives tops env lo t)

  -- a value that is bound by a let, where it is of the types of its name
  abbrev Let_binds : FlatBinding → FlatTerm → ℕ → Scope → Sub → FlatTops → FlatEnv → FlatValue → Type 0
  Let_binds b v lo scope a tops env w = HasOut (In_scope tops (with_let N places b lo scope (let_scheme N places b v lo scope (Typed N places v (1 + lo + pattern_numbers b.pattern)))) a) (bound (1 + lo) b.pattern w env)

  module _ (b : FlatBinding) (v : FlatTerm) (runs : Runs v) (lo : ℕ) (scope : Scope) (a : Sub) (tops : FlatTops) (env : FlatEnv) where
    abbrev begins : ℕ
    begins = 1 + lo + pattern_numbers b.pattern

    abbrev whole : Scheme
    whole = let_scheme N places b v lo scope (Typed N places v (1 + lo + pattern_numbers b.pattern))

    -- the value, where these types are chosen for the parameters, in a typing that is as a is outside and where nothing is free
    value_runs : (c other : Sub) → ((n : ℕ) → n < 1 + lo → other n ≡ a n) → ((m : ℕ) → Literal v begins m → other m ≡ a m) → AllLocal (λ n. n < lo) scope → whole.typed c K other → Let_apart S b → Sized S P v → Literals_told T.integer_at a v begins
        → begins + numbers v < widest → In_scope tops scope a env → Correct total (At tops (other (1 + lo))) (Gives tops env begins v)
    value_runs c other outside literals all typed sizes meant told small h =
        correct_as (At tops (other begins)) (At tops (other (1 + lo))) (Gives tops env begins v)
        (runs begins (with_parameters b.parameters c scope) other tops env (local_parameters (λ n. n < begins) b.parameters c scope (all_local_more (λ n. n < lo) (λ n. n < begins) scope (λ n p. omega (arith, p)) all)) typed.0.1 meant (λ m l. literals m l ∙ told m l) small
        (env_types N T M budget total P K tops b.parameters c scope other env sizes.1 (env_moves N T M budget total P K tops scope lo a other env all (λ n p. outside n (omega (arith, p))) h)))
        (λ w k. fits_as tops (other begins) (other (1 + lo)) w (sym typed.1) k)

    -- in a variant of a definition, outside and literals are as they were
    variant_outside : (c other : Sub) → ((n : ℕ) → (n < 1 + lo) ⊎ (1 + lo + (pattern_numbers b.pattern + numbers v) ≤ n) → other n ≡ a n) → (n : ℕ) → n < 1 + lo → other n ≡ a n
    variant_outside c other out n p = out n (inl p)

    literal_stays : (other : Sub) → ((n : ℕ) → 1 + lo ≤ n → n < 1 + lo + (pattern_numbers b.pattern + numbers v) → whole.free n ≡ false → other n ≡ a n) → (m : ℕ) → Literal v begins m → other m ≡ a m
    literal_stays other kept m l = let r = literal_kept v begins m l in let r0 : begins ≤ m = r.0.0 in let r1 : m < begins + numbers v = r.0.1 in
        kept m (omega arith) (omega arith) (neither_free (is_within (1 + lo) (pattern_numbers b.pattern) m) (is_free (has_types b.parameters) v begins m) (not_within m r0) (r.1 (has_types b.parameters)))
      where
        neither_free : (x y : Bool) → x ≡ false → y ≡ false → (x || y) ≡ false
        neither_free true y e d = absurd (let z : true ≡ false = e in cc)
        neither_free false y e d = d

        not_within : (m : ℕ) → begins ≤ m → is_within (1 + lo) (pattern_numbers b.pattern) m ≡ false
        not_within m le = within_no (1 + lo) (pattern_numbers b.pattern) m (inr (omega (arith, le)))

    let_true : (named : Type 0) → AllLocal (λ n. n < lo) scope → Function_name b.sizes b.pattern → Generalised places whole K a → Let_apart S b → Sized S P v → Literals_told T.integer_at a v begins → begins + numbers v < widest → In_scope tops scope a env
        → Correct total (λ w. (t : Ty) → Reused places whole (1 + lo) K a t → At tops t w) (Gives tops env begins v)
    let_true named all name g sizes meant lits small h = record { safe = each; some = own.some }
      where
        own : Correct total (At tops (a (1 + lo))) (Gives tops env begins v)
        own = value_runs (own_types places b.parameters) a (λ n p. refl) (λ m l. refl) all g.0 sizes meant lits small h

        each : Safe (λ w. (t : Ty) → Reused places whole (1 + lo) K a t → At tops t w) (Gives tops env begins v)
        each (Val w) f y = λ t u.
            let x = u.2.0 in
            let is = value_runs u.0 x.other (λ n p. x.outside n (inl p)) (literal_stays x.other x.kept) all x.typed sizes meant lits small h in
            fits_as tops (x.other (1 + lo)) t w (sym u.2.1) (is.safe (Val w) f y)
        each (Fail r) f y = tt
        each Wrong f y = own.safe Wrong f y

    let_binds : AllLocal (λ n. n < lo) scope → (f : Bool) → b.is_function ≡ f → Let_typed N places b.is_function (Function_name b.sizes b.pattern) whole K a → Let_apart S b → Sized S P v → Literals_told T.integer_at a v begins → begins + numbers v < widest → In_scope tops scope a env
        → Correct total (Let_binds b v lo scope a tops env) (Gives tops env begins v)
    let_binds all true e typed sizes meant lits small h =
        let g : Let_typed N places true (Function_name b.sizes b.pattern) whole K a = subst (λ f. Let_typed N places f (Function_name b.sizes b.pattern) whole K a) e typed in
        correct_as (λ w. (t : Ty) → Reused places whole (1 + lo) K a t → At tops t w) (Let_binds b v lo scope a tops env) (Gives tops env begins v) (let_true (Function_name b.sizes b.pattern) all g.0 g.1 sizes meant lits small h)
        (λ w each. subst (λ f. HasOut (In_scope tops (with_pattern (let_uses N places f whole) b.pattern (1 + lo) (with_sizes b.sizes scope)) a) (bound (1 + lo) b.pattern w env)) (sym e) (function_bound b.sizes b.pattern whole (1 + lo) w scope a tops env g.0 sizes.2 each h))
    let_binds all false e typed sizes meant lits small h =
        let g : whole.typed (own_types places b.parameters) K a = subst (λ f. Let_typed N places f (Function_name b.sizes b.pattern) whole K a) e typed in
        correct_as (At tops (a (1 + lo))) (Let_binds b v lo scope a tops env) (Gives tops env begins v) (value_runs (own_types places b.parameters) a (λ n p. refl) (λ m l. refl) all g sizes meant lits small h)
        (λ w k. subst (λ f. HasOut (In_scope tops (with_pattern (let_uses N places f whole) b.pattern (1 + lo) (with_sizes b.sizes scope)) a) (bound (1 + lo) b.pattern w env)) (sym e)
        (bound_fits N T M budget total tops P K a are places (1 + lo) b.pattern (1 + lo) (with_sizes b.sizes scope) (with_sizes b.sizes scope) w env g.0.0 sizes.2 k (env_sizes N T M budget total P K tops b.sizes scope a env sizes.0 h)))

  -- ---- loops
  module _ (p : FlatPattern) (inside scope : Scope) (lo : ℕ) (a : Sub) (tops : FlatTops) (env : FlatEnv) (typed : Pattern_typed N places K a p lo inside) (apart : Pattern_apart S p) (h : In_scope tops scope a env) where
    -- a task under the names of what a loop carries
    under_runs : (t : Ty) (at : ℕ) (e : FlatTerm) (v : FlatValue) (inner : Scope) (go : FlatEnv → FlatEnv) → At tops (a lo) v → ((x : FlatEnv) → In_scope tops (with_pattern the_one p lo scope) a x → Correct total (At tops t) (Gives tops (go x) at e))
        → Correct total (At tops t) (Then (the (bound lo p v env)) (λ x. Gives tops (go x) at e))
    under_runs t at e v inner go k runs =
        correct_then (In_scope tops (with_pattern the_one p lo scope) a) (At tops t) (the (bound lo p v env)) (λ x. Gives tops (go x) at e)
        (correct_exact (In_scope tops (with_pattern the_one p lo scope) a) 0 (bound lo p v env) (bound_fits N T M budget total tops P K a are places lo p lo inside scope v env typed apart k h)) runs

  -- the turns of a loop that counts them
  counted_turns : (p : FlatPattern) (inside scope : Scope) (lo at mid : ℕ) (i : BindId) (c : IntType × ℕ) (body : FlatTerm) (a : Sub) (tops : FlatTops) (env : FlatEnv) (v : FlatValue) → Pattern_typed N places K a p lo inside → Pattern_apart S p → S i.0 ≡ false → In_scope tops scope a env
      → Of_type (a at) c → ((x : FlatEnv) → In_scope tops (with_uses i.0 (the_one at) (with_pattern the_one p lo scope)) a x → Correct total (At tops (a lo)) (Gives tops x mid body)) → At tops (a lo) v
      → Correct total (At tops (a lo)) (turns (λ j w. under (Ever (lang T tops) M budget) lo p w env (λ e. Evaluate (bind i (Scalar_value (scalar.Int c.0 j)) (entered at (Scalar_value (scalar.Int c.0 j)) e)) mid body)) (counts c.1 0) v)
  counted_turns p inside scope lo at mid i c body a tops env v typed apart other h of runs k =
      correct_turns (λ j. Unit {0}) (At tops (a lo)) (λ j w. Then (the (bound lo p w env)) (λ x. Gives tops (bind i (Scalar_value (scalar.Int c.0 j)) (entered at (Scalar_value (scalar.Int c.0 j)) x)) mid body))
      (λ j w any q. under_runs p inside scope lo a tops env typed apart h (a lo) mid body w scope (λ x. bind i (Scalar_value (scalar.Int c.0 j)) (entered at (Scalar_value (scalar.Int c.0 j)) x)) q
      (λ x r. runs (bind i (Scalar_value (scalar.Int c.0 j)) (entered at (Scalar_value (scalar.Int c.0 j)) x)) (env_bind N T M budget total tops P K a i (Scalar_value (scalar.Int c.0 j)) (the_one at) (with_pattern the_one p lo scope) (entered at (Scalar_value (scalar.Int c.0 j)) x) other
      (λ t e. fits_as tops _ t (Scalar_value (scalar.Int c.0 j)) (sym of.1 ∙ sym e) (fits_scalar N T M budget total tops K (types.Int c.0) of.0 (scalar.Int c.0 j) refl)) (env_entered N T M budget total P K tops at (Scalar_value (scalar.Int c.0 j)) (with_pattern the_one p lo scope) a x r))))
      (counts c.1 0) v (any_number (counts c.1 0)) k

  -- what says how many turns there are; the condition of a while sees what the loop carries
  abbrev Turns_run : FlatTops → FlatTurns → ℕ → Scope → Scope → Sub → FlatEnv → Type 0
  Turns_run tops (Counted i n) at scope inside a env = Correct total (At tops (a (1 + at))) (Gives tops env (1 + at) n)
  Turns_run tops (Over q e) at scope inside a env = Correct total (At tops (a (at + pattern_numbers q))) (Gives tops env (at + pattern_numbers q) e)
  Turns_run tops (While c) at scope inside a env = (x : FlatEnv) → In_scope tops inside a x → Correct total (At tops (a at)) (Gives tops x at c)

  loop_runs : (p : FlatPattern) (mark : Place) (turns : FlatTurns) (body : FlatTerm) (outer inside scope : Scope) (lo at : ℕ) (a : Sub) (tops : FlatTops) (env : FlatEnv) (v : FlatValue) → Pattern_typed N places K a p lo inside → Pattern_apart S p → In_scope tops scope a env
      → Turns_apart S turns → Turns_typed N places turns at outer (with_pattern the_one p lo scope) K a → At tops (a lo) v
      → Turns_run tops turns at outer (with_pattern the_one p lo scope) a env
      → ((x : FlatEnv) → In_scope tops (with_turns turns at (with_pattern the_one p lo scope)) a x → Correct total (At tops (a lo)) (Gives tops x (at + turn_numbers turns) body))
      → Correct total (At tops (a lo)) (looped budget (Ever (lang T tops) M budget) env lo p mark turns body at (at + turn_numbers turns) v)
  loop_runs p mark (Counted i n) body outer inside scope lo at a tops env v typed apart h others t k runs rest =
      correct_then (At tops (a (1 + at))) (At tops (a lo)) (Gives tops env (1 + at) n) _ runs
      (λ c r. correct_then (Of_type (a at)) (At tops (a lo)) (the (turns_of c)) _ (correct_exact (Of_type (a at)) 0 (turns_of c) (turns_fit tops (a at) c t.2 (fits_as tops (a (1 + at)) (a at) c (sym t.1) r)))
      (λ d s. counted_turns p inside scope lo at (at + (1 + numbers n)) i d body a tops env v typed apart others h s rest k))
  loop_runs p mark (Over q e) body outer inside scope lo at a tops env v typed apart h others t k runs rest =
      let x : Ty = a (at + pattern_numbers q) in
      let kx : HasKind K kind.Data x = array_has N are T M budget total tops K places wide x (a at) t.1 in
      correct_then (At tops x) (At tops (a lo)) (Gives tops env (at + pattern_numbers q) e) _ runs
      (λ w r. let d = fits_data N are T M budget total tops K x w kx r in
      correct_then (Rows_fit N are T M budget total tops K (a at)) (At tops (a lo)) (the (and_then (datum_of w) rows_of)) _
      (correct_exact (Rows_fit N are T M budget total tops K (a at)) 0 (and_then (datum_of w) rows_of) (subst (λ o. HasOut (Rows_fit N are T M budget total tops K (a at)) (and_then o rows_of)) (sym d.1)
      (rows_fit N are T M budget total tops K (a at) d.0 (subst (λ y. Fits N T M budget total y tops (as_value d.0)) t.1.0 (subst (λ y. At tops x y) d.2 r)))))
      (λ rs s. correct_turns (λ y. At tops (a at) (as_value y)) (At tops (a lo)) _
      (λ y w b c. correct_then (In_scope tops (with_pattern the_one p lo scope) a) (At tops (a lo)) (the (bound lo p w env)) _
      (correct_exact (In_scope tops (with_pattern the_one p lo scope) a) 0 (bound lo p w env) (bound_fits N T M budget total tops P K a are places lo p lo inside scope w env typed apart c h))
      (λ z i. correct_then (In_scope tops (with_pattern the_one q at (with_pattern the_one p lo scope)) a) (At tops (a lo)) (the (bound at q (as_value y) z)) _
      (correct_exact (In_scope tops (with_pattern the_one q at (with_pattern the_one p lo scope)) a) 0 (bound at q (as_value y) z) (bound_fits N T M budget total tops P K a are places at q at (with_pattern the_one p lo scope) (with_pattern the_one p lo scope) (as_value y) z t.0.0 others b i))
      rest))
      rs.1 v (row_data N are T M budget total tops K (a at) rs.0 rs.1 s) k))
  loop_runs p mark (While c) body outer inside scope lo at a tops env v typed apart h others t k runs rest =
      correct_while (At tops (a lo)) budget _ _ _
      (λ w q. correct_then (At tops (a at)) Any_truth (Then (the (bound lo p w env)) (λ x. Gives tops x at c)) (λ b. the (truth_of b)) (under_runs p inside scope lo a tops env typed apart h (a at) at c w scope (λ x. x) q (λ x r. runs x r))
      (λ b r. correct_exact Any_truth 0 (truth_of b) (truth_fits tops (a at) b t.1 r)))
      (λ w q. under_runs p inside scope lo a tops env typed apart h (a lo) (at + numbers c) body w scope (λ x. x) q rest)
      v k

  abbrev All_run : Terms Ref BindId → Type 1
  All_run ts = (lo : ℕ) (scope : Scope) (a : Sub) (tops : FlatTops) (env : FlatEnv) → AllLocal (λ n. n < lo) scope → All_typed N places ts lo scope K a → All_sized S P ts → ((m : ℕ) → A_literal ts lo m → a m ≡ Made (head.Scalar (types.Int (T.integer_at m))) none) → lo + all_numbers ts < widest → In_scope tops scope a env
      → Correct total (Each_fits N T M budget total (term_types a ts lo) tops) (each_of (λ t. Gives tops env t.0 t.1) (placed lo ts))

  further : (lo lo' : ℕ) (scope : Scope) → lo ≤ lo' → AllLocal (λ n. n < lo) scope → AllLocal (λ n. n < lo') scope
  further lo lo' scope le all = all_local_more (λ n. n < lo) (λ n. n < lo') scope (λ n p. omega (arith, le, p)) all

  mutual
    unfolding flat_names

    pub running : (t : FlatTerm) → Runs t
    running (Use r at k) = λ lo scope a tops env all typed meant lits small h.
        evaluates tops (At tops (a lo)) env lo (Use r at k) (correct_exact (At tops (a lo)) 0 _ (use_fits N are T M budget total free places wide K tops P scope a r (a lo) at env meant typed h))
    running (Strict o mark ts) = λ lo scope a tops env all typed meant lits small h.
        evaluates tops (At tops (a lo)) env lo (Strict o mark ts) (correct_then (Each_fits N T M budget total (term_types a ts (lo + own_numbers o)) tops) (At tops (a lo)) (each_of (λ t. Gives tops env t.0 t.1) (placed (lo + own_numbers o) ts)) _
        (all_running ts (lo + own_numbers o) scope a tops env (further lo (lo + own_numbers o) scope (omega arith) all) typed.0 meant.1 (λ m l. lits m (inr l)) (omega (arith, small)) h)
        (λ vs w. operation_fits N are T M budget total tops K places wide M.misfit free.reports (row_told (lang T tops) (Of_literal env lo)) (fits_type (lang T tops) env lo) o (how_many ts) (T.integer_at lo) mark (a lo) (a (operand o lo)) (term_types a ts (lo + own_numbers o)) vs meant.0 (as_many a ts (lo + own_numbers o)) typed.1 (told (T.integer_at lo) o a lo T.integer_at (λ m l. lits m (inl l)))
        (let c = count_terms a ts (lo + own_numbers o) in omega (arith, c, small)) w))
    running (Lambda ps e) = λ lo scope a tops env all typed meant lits small h.
        let at : ℕ = 1 + lo + all_pattern_numbers ps in
        evaluates tops (At tops (a lo)) env lo (Lambda ps e) (correct_exact (At tops (a lo)) 0 (Val (Closure ps e at env)) (fits_as tops _ (a lo) (Closure ps e at env) (sym typed.1)
        (closure_fits ps meant.0.0 meant.0.1 (1 + lo) at e scope scope a tops env typed.0.0 (λ tops' g env' k.
        running e at (with_patterns the_one ps (1 + lo) scope) a tops' env' (local_all_ones (λ n. n < at) ps (1 + lo) scope (λ n p q. omega (arith, p, q)) (further lo at scope (omega arith) all)) typed.0.1 meant.1 lits (omega (arith, small)) k) h)))
    running (Apply f e) = λ lo scope a tops env all typed meant lits small h.
        evaluates tops (At tops (a lo)) env lo (Apply f e) (correct_then (At tops (a (1 + lo))) (At tops (a lo)) (Gives tops env (1 + lo) f) _
        (running f (1 + lo) scope a tops env (further lo (1 + lo) scope (omega arith) all) typed.0.0 meant.0 (λ m l. lits m (inl l)) (omega (arith, small)) h)
        (λ g k. correct_then (At tops (a (1 + lo + numbers f))) (At tops (a lo)) (Gives tops env (1 + lo + numbers f) e) _
        (running e (1 + lo + numbers f) scope a tops env (further lo (1 + lo + numbers f) scope (omega arith) all) typed.0.1 meant.1 (λ m l. lits m (inr l)) (omega (arith, small)) h)
        (λ v r. function_fits N T M budget total K tops (a (1 + lo + numbers f)) (a lo) g (fits_as tops (a (1 + lo)) _ g typed.1 k) tops (grows_self tops) v r)))
    running (Let b v e) = λ lo scope a tops env all typed meant lits small h.
        let p : ℕ = pattern_numbers b.pattern in
        let at_v : ℕ = 1 + lo + pattern_numbers b.pattern in
        let at_e : ℕ = 1 + lo + pattern_numbers b.pattern + numbers v in
        let s : Scheme = let_scheme N places b v lo scope (Typed N places v (1 + lo + pattern_numbers b.pattern)) in
        evaluates tops (At tops (a lo)) env lo (Let b v e) (correct_then (Let_binds b v lo scope a tops env) (At tops (a lo)) (Gives tops env at_v v) _
        (let_binds b v (running v) lo scope a tops env all b.is_function refl typed.0.0 meant.0 meant.1 (λ m l. lits m (inl l)) (omega (arith, small)) h)
        (λ w k. correct_then (In_scope tops (with_let N places b lo scope s) a) (At tops (a lo)) (the (bound (1 + lo) b.pattern w env)) _ (correct_exact (In_scope tops (with_let N places b lo scope s) a) 0 (bound (1 + lo) b.pattern w env) k)
        (λ x r. correct_as (At tops (a at_e)) (At tops (a lo)) (Gives tops x at_e e)
        (running e at_e (with_let N places b lo scope s) a tops x
        (body_local N places (λ n. n < at_e) b v lo scope (further lo at_e scope (omega arith) all) (λ n f i. let z : n < 1 + lo + (pattern_numbers b.pattern + numbers v) = i.0.1 in omega (arith, z)) (λ n f q z. omega (arith, q, z)))
        typed.0.1 meant.2 (λ m l. lits m (inr l)) (omega (arith, small)) r)
        (λ y q. fits_as tops (a at_e) (a lo) y (sym typed.1) q))))
    running (If c t e) = λ lo scope a tops env all typed meant lits small h.
        evaluates tops (At tops (a lo)) env lo (If c t e) (correct_then (At tops (a (1 + lo))) (At tops (a lo)) (Gives tops env (1 + lo) c) _
        (running c (1 + lo) scope a tops env (further lo (1 + lo) scope (omega arith) all) typed.0.0.0 meant.0 (λ m l. lits m (inl l)) (omega (arith, small)) h)
        (λ v k. correct_then Any_truth (At tops (a lo)) (the (truth_of v)) _ (correct_exact Any_truth 0 (truth_of v) (truth_fits tops (a (1 + lo)) v typed.1 k))
        (λ b any. correct_choose (At tops (a lo)) b _ _
        (correct_as (At tops (a (1 + lo + numbers c))) (At tops (a lo)) (Gives tops env (1 + lo + numbers c) t)
        (running t (1 + lo + numbers c) scope a tops env (further lo (1 + lo + numbers c) scope (omega arith) all) typed.0.0.1 meant.1 (λ m l. lits m (inr (inl l))) (omega (arith, small)) h)
        (λ y q. fits_as tops (a (1 + lo + numbers c)) (a lo) y (sym typed.2) q))
        (correct_as (At tops (a (1 + lo + numbers c + numbers t))) (At tops (a lo)) (Gives tops env (1 + lo + numbers c + numbers t) e)
        (running e (1 + lo + numbers c + numbers t) scope a tops env (further lo (1 + lo + numbers c + numbers t) scope (omega arith) all) typed.0.1 meant.2 (λ m l. lits m (inr (inr l))) (omega (arith, small)) h)
        (λ y q. fits_as tops (a (1 + lo + numbers c + numbers t)) (a lo) y (sym typed.3) q)))))
    running (Loop mark sizes p first turns body) = λ lo scope a tops env all typed meant lits small h.
        let at_f : ℕ = 1 + lo + pattern_numbers p in
        let at_t : ℕ = 1 + lo + pattern_numbers p + numbers first in
        let at_b : ℕ = 1 + lo + pattern_numbers p + numbers first + turn_numbers turns in
        let inside : Scope = with_sizes sizes scope in
        let carried : Scope = with_pattern the_one p (1 + lo) (with_sizes sizes scope) in
        evaluates tops (At tops (a lo)) env lo (Loop mark sizes p first turns body) (correct_then (At tops (a at_f)) (At tops (a lo)) (Gives tops env at_f first) _
        (running first at_f scope a tops env (further lo at_f scope (omega arith) all) typed.0.0.0.0.1 meant.1 (λ m l. lits m (inl l)) (omega (arith, small)) h)
        (λ v k. correct_as (At tops (a (1 + lo))) (At tops (a lo)) _
        (loop_runs p mark turns body scope (with_sizes sizes scope) (with_sizes sizes scope) (1 + lo) at_t a tops env v typed.0.0.0.0.0 meant.0.1 (env_sizes N T M budget total P K tops sizes scope a env meant.0.0 h) meant.0.2 typed.0.0.1
        (fits_as tops (a at_f) (a (1 + lo)) v (sym typed.0.0.0.1) k)
        (turns_running turns scope carried at_t a tops env (further lo at_t scope (omega arith) all) (local_ones (λ n. n < at_t) p (1 + lo) inside (λ n y z. omega (arith, y, z)) (local_sizes (λ n. n < at_t) sizes scope (further lo at_t scope (omega arith) all))) typed.0.0.1 meant.2 (λ m l. lits m (inr (inl l))) (omega (arith, small)) h)
        (λ x r. correct_as (At tops (a at_b)) (At tops (a (1 + lo))) (Gives tops x at_b body)
        (running body at_b (with_turns turns at_t carried) a tops x (local_turns (λ n. n < at_b) turns at_t carried (λ n y z. omega (arith, y, z)) (local_ones (λ n. n < at_b) p (1 + lo) inside (λ n y z. omega (arith, y, z)) (local_sizes (λ n. n < at_b) sizes scope (further lo at_b scope (omega arith) all))))
        typed.0.1 meant.3 (λ m l. lits m (inr (inr l))) (omega (arith, small)) r)
        (λ y q. fits_as tops (a at_b) (a (1 + lo)) y (sym typed.2 ∙ typed.1) q)))
        (λ y q. fits_as tops (a (1 + lo)) (a lo) y (sym typed.1) q)))

    turns_running : (turns : FlatTurns) (outer inside : Scope) (at : ℕ) (a : Sub) (tops : FlatTops) (env : FlatEnv) → AllLocal (λ n. n < at) outer → AllLocal (λ n. n < at) inside → Turns_typed N places turns at outer inside K a → Turns_sized S P turns
        → ((m : ℕ) → Turn_literal turns at m → a m ≡ Made (head.Scalar (types.Int (T.integer_at m))) none) → at + turn_numbers turns < widest → In_scope tops outer a env → Turns_run tops turns at outer inside a env
    turns_running (Counted i n) outer inside at a tops env all alli typed meant lits small h = running n (1 + at) outer a tops env (further at (1 + at) outer (omega arith) all) typed.0 meant lits (omega (arith, small)) h
    turns_running (Over q e) outer inside at a tops env all alli typed meant lits small h = running e (at + pattern_numbers q) outer a tops env (further at (at + pattern_numbers q) outer (omega arith) all) typed.0.1 meant lits (omega (arith, small)) h
    turns_running (While c) outer inside at a tops env all alli typed meant lits small h = λ x r. running c at inside a tops x alli typed.0 meant lits small r

    all_running : (ts : Terms Ref BindId) → All_run ts
    all_running no_term = λ lo scope a tops env all typed meant lits small h. correct_exact (Each_fits N T M budget total none tops) 0 (Val []) tt
    all_running (term_and t ts) = λ lo scope a tops env all typed meant lits small h.
        correct_then (At tops (a lo)) (Each_fits N T M budget total (more (a lo) (term_types a ts (lo + numbers t))) tops) (Gives tops env lo t) _
        (running t lo scope a tops env all typed.0 meant.0 (λ m l. lits m (inl l)) (omega (arith, small)) h)
        (λ v k. correct_then (Each_fits N T M budget total (term_types a ts (lo + numbers t)) tops) (Each_fits N T M budget total (more (a lo) (term_types a ts (lo + numbers t))) tops) (each_of (λ t. Gives tops env t.0 t.1) (placed (lo + numbers t) ts)) _
        (all_running ts (lo + numbers t) scope a tops env (further lo (lo + numbers t) scope (omega arith) all) typed.1 meant.1 (λ m l. lits m (inr l)) (omega (arith, small)) h)
        (λ vs w. correct_exact (Each_fits N T M budget total (more (a lo) (term_types a ts (lo + numbers t))) tops) 0 (Val (v ∷ vs)) (k, w)))
