-- The walk of each typed term is never lost: by recursion on terms, over all their typings.
use Rattle.std.proofs.Common.{◌≡◌, Bool, true, false, ℕ, ◌+◌, ◌≤◌, ◌<◌, refl, sym, ◌∙◌, subst, arith, List, [], ◌∷◌, Some}
use mathlib.Core.Logic.{inl}
use Rattle.fut_scalar.specs.declared.place.BindId.{BindId}
use Rattle.fut_scalar.specs.declared.scalar.ScalarType.TheVariants as types
use Rattle.fut_flat.specs.declared.prim.Ref.{Ref}
use Rattle.fut_flat.specs.Terms.{Bound_pattern, Wild_pattern, Tuple_pattern, Record_pattern, Typed_pattern, Patterns, no_pattern, pattern_and, Use, Strict, Lambda, Apply, Let, If, Loop, Terms, no_term, term_and, Counted, Over, While}
use Rattle.fut_flat.specs.Numbers.{pattern_numbers, all_pattern_numbers, own_numbers, numbers, all_numbers, turn_numbers}
use Rattle.fut_flat.specs.Erased.{FlatTerm, FlatPattern, FlatTurns}
use Rattle.fut_types.specs.declared.Kind.TheVariants as kind
use Rattle.fut_types.specs.Types.{Ty, Tys, Sub, Kinds, HasKind, fun_ty}
use Rattle.fut_typing.specs.Names.{Names, AreNames, count}
use Rattle.fut_typing.specs.Primitives.{bool_ty, array_ty}
use Rattle.fut_typing.specs.Scopes.{Scope, with_sizes, the_one}
use Rattle.fut_typing.specs.Patterns.{pattern_types, arrows, with_pattern, with_patterns, with_parameters, Parameters_typed}
use Rattle.fut_typing.specs.Generalised.{own_types, Scheme, Reused}
use Rattle.fut_typing.specs.Typing.{term_types, operand, FlatBinding, Function_name, with_turns, let_scheme, Let_typed, let_uses, with_let, Typed, All_typed, Turns_typed}
use Rattle.fut_typing.proofs.Local.{AllLocal, all_local_more, local_sizes, local_parameters, local_ones, local_all_ones, local_turns}
use Rattle.fut_typing.proofs.Locals.{body_local}
use Rattle.fut_meaning.specs.Knowns.{Known, Data, Known_function, Scope as Seen, known_as, known_bound, data_bound}
use Rattle.fut_meaning.specs.Walk.{Runs, r_body, r_waits}
use Rattle.fut_meaning.specs.Comes.{Inside_run, in_run_body, Stuck_run, no_function, no_parameter}
use Rattle.fut_meaning.proofs.Walk.{some_same, none_some}
use Rattle.type_soundness.specs.Fits.{widest}
use Rattle.type_soundness.specs.Meant.{Has_parameter, Operation_meant}
use Rattle.type_soundness.specs.Formed.{Pattern_apart, Patterns_apart, Turns_apart, Let_apart}
use Rattle.type_soundness.specs.Knows.{Learns, Never_lost, Runs_well, Knows, Names_known}
use Rattle.type_soundness.proofs.Sized.{Sized, All_sized, Turns_sized}
use Rattle.type_soundness.proofs.Running.{count_terms}
use Rattle.type_soundness.proofs.Knowing.{learns_more, kind_data}
use Rattle.type_soundness.proofs.Seeing.{names_learn, names_move, is_size_ins, names_types, name_known, Binds, data_known, pattern_known}
use Rattle.type_soundness.proofs.Resulting.{scalar_data, array_data, integer_data, same_data, operation_gives}
use Rattle.type_soundness.proofs.Giving.{function_known}
use Rattle.type_soundness.proofs.Walking.{as_many, Walks, walks_as, use_knows, use_walks, All_walk, none_walk, more_walk, strict_lost, strict_known, apply_walks, lambda_walks, if_walks, Row_walks, body_walks, Let_binds, lets_walk, Turns_walk, turn_names, loop_walks}

module _ (N : Names) (S : ℕ → Bool) (are : AreNames N) (P : ℕ → Type 0) (K : Kinds) where
  abbrev In_scope : Seen → Scope → Sub → Seen → Type 0
  In_scope tops scope a sc = Names_known N S tops P scope K a sc

  abbrev At : Seen → Seen → FlatTerm → Ty → Type 0
  At tops sc e t = Walks N S are P K tops sc e t

  further : (lo lo' : ℕ) (scope : Scope) → lo ≤ lo' → AllLocal (λ n. n < lo) scope → AllLocal (λ n. n < lo') scope
  further lo lo' scope le all = all_local_more (λ n. n < lo) (λ n. n < lo') scope (λ n p. omega (arith, le, p)) all

  -- ---- functions
  abbrev Body : ℕ → ℕ → FlatTerm → Patterns Ref BindId → Scope → Sub → Seen → Type 0
  Body lo at e ps scope a tops = (tops' : Seen) → Learns S tops tops' → (inner : Seen) → In_scope tops' (with_patterns the_one ps lo scope) a inner → At tops' inner e (a at)

  last_runs : (p : FlatPattern) (lo at : ℕ) (e : FlatTerm) (scope : Scope) (a : Sub) (tops sc : Seen) (s : Known) → Binds N S P K tops a (known_bound p s sc) (with_pattern the_one p lo scope) → ((inner : Seen) → In_scope tops (with_pattern the_one p lo scope) a inner → At tops inner e (a at))
      → Runs_well tops (Known_function (pattern_and p no_pattern) e sc) s (Knows N S (a at) tops)
  last_runs p lo at e scope a tops sc s bound body = ((λ w. stuck w), (λ n sc' t i. inside n sc' t i), (λ s' m d r. result s' m d r))
    where
      in_body : (inner : Seen) → known_bound p s sc ≡ Some inner → At tops inner e (a at)
      in_body inner f = body inner (subst (λ y. In_scope tops (with_pattern the_one p lo scope) a y) (some_same (sym bound.1 ∙ f)) bound.2)

      stuck : Stuck_run tops (Known_function (pattern_and p no_pattern) e sc) s → ⊥
      stuck (no_function f) = let z : true ≡ false = f in cc
      stuck (no_parameter f) = none_some bound.1 f

      inside : (n : ℕ) (sc' : Seen) (t : FlatTerm) → Inside_run tops (Known_function (pattern_and p no_pattern) e sc) s n sc' t → Never_lost tops sc' t
      inside _ inner _ (in_run_body f) = (in_body inner f).0

      result : (s' : Known) (m d : ℕ) → Runs tops (Known_function (pattern_and p no_pattern) e sc) s s' m d → Knows N S (a at) tops s'
      result s' m d (r_body {inner = inner} f v) = (in_body inner f).1 s' m d v

  more_runs : (p q : FlatPattern) (ps : Patterns Ref BindId) (lo : ℕ) (e : FlatTerm) (scope : Scope) (a : Sub) (u : Ty) (tops sc : Seen) (s : Known) → Binds N S P K tops a (known_bound p s sc) (with_pattern the_one p lo scope)
      → ((inner : Seen) → In_scope tops (with_pattern the_one p lo scope) a inner → Knows N S u tops (Known_function (pattern_and q ps) e inner)) → Runs_well tops (Known_function (pattern_and p (pattern_and q ps)) e sc) s (Knows N S u tops)
  more_runs p q ps lo e scope a u tops sc s bound rest = ((λ w. stuck w), (λ n sc' t i. inside n sc' t i), (λ s' m d r. result s' m d r))
    where
      stuck : Stuck_run tops (Known_function (pattern_and p (pattern_and q ps)) e sc) s → ⊥
      stuck (no_function f) = let z : true ≡ false = f in cc
      stuck (no_parameter f) = none_some bound.1 f

      inside : (n : ℕ) (sc' : Seen) (t : FlatTerm) → Inside_run tops (Known_function (pattern_and p (pattern_and q ps)) e sc) s n sc' t → Never_lost tops sc' t
      inside n sc' t i = elim i [ ]

      result : (s' : Known) (m d : ℕ) → Runs tops (Known_function (pattern_and p (pattern_and q ps)) e sc) s s' m d → Knows N S u tops s'
      result _ _ _ (r_waits {inner = inner} f) = rest inner (subst (λ y. In_scope tops (with_pattern the_one p lo scope) a y) (some_same (sym bound.1 ∙ f)) bound.2)

  lambda_known : (ps : Patterns Ref BindId) → Has_parameter ps → Patterns_apart S ps → (lo at : ℕ) (e : FlatTerm) (inside scope : Scope) (a : Sub) (tops sc : Seen) → Parameters_typed N kind.Data K a ps lo inside → Body lo at e ps scope a tops → In_scope tops scope a sc
      → Knows N S (arrows (pattern_types a ps lo) (a at)) tops (Known_function ps e sc)
  lambda_known no_pattern has apart lo at e inside scope a tops sc typed body h = absurd has
  lambda_known (pattern_and p no_pattern) has apart lo at e inside scope a tops sc typed body h =
      function_known N S K (a lo) (a at) tops (Known_function (pattern_and p no_pattern) e sc) refl (λ tops' g s k.
      last_runs p lo at e scope a tops' sc s (pattern_known N S P K tops' a are kind.Data p lo inside scope s sc typed.0 apart.0 k (names_learn N S P K tops tops' g scope a sc h)) (λ inner w. body tops' g inner w))
  lambda_known (pattern_and p (pattern_and q ps)) has apart lo at e inside scope a tops sc typed body h =
      function_known N S K (a lo) (arrows (pattern_types a (pattern_and q ps) (lo + pattern_numbers p)) (a at)) tops (Known_function (pattern_and p (pattern_and q ps)) e sc) refl (λ tops' g s k.
      more_runs p q ps lo e scope a (arrows (pattern_types a (pattern_and q ps) (lo + pattern_numbers p)) (a at)) tops' sc s (pattern_known N S P K tops' a are kind.Data p lo inside scope s sc typed.0 apart.0 k (names_learn N S P K tops tops' g scope a sc h)) (λ inner w.
      lambda_known (pattern_and q ps) tt apart.1 (lo + pattern_numbers p) at e (with_pattern the_one p lo inside) (with_pattern the_one p lo scope) a tops' inner typed.1 (λ tops'' g' inner' k'. body tops'' (learns_more S tops tops' tops'' g g') inner' k') w))

  -- ---- lets
  -- the name of a function is known at each type of its uses
  function_bound : (sizes : List BindId) (p : FlatPattern) (s : Scheme) (lo : ℕ) (w : Known) (scope : Scope) (a : Sub) (tops sc : Seen) → Function_name sizes p → Pattern_apart S p → ((t : Ty) → Reused kind.Data s lo K a t → Knows N S t tops w) → In_scope tops scope a sc
      → Binds N S P K tops a (known_bound p w sc) (with_pattern (Reused kind.Data s) p lo (with_sizes sizes scope))
  unfolding known_bound
  function_bound [] (Bound_pattern b) s lo w scope a tops sc named apart each h = (known_as b w sc, refl, name_known N S P K tops a b w (Reused kind.Data s lo) scope sc apart each h)
  function_bound [] Wild_pattern s lo w scope a tops sc named apart each h = absurd named
  function_bound [] (Tuple_pattern ps) s lo w scope a tops sc named apart each h = absurd named
  function_bound [] (Record_pattern fs ps) s lo w scope a tops sc named apart each h = absurd named
  function_bound [] (Typed_pattern p t) s lo w scope a tops sc named apart each h = absurd named
  function_bound (b ∷ bs) p s lo w scope a tops sc named apart each h = absurd named

  abbrev Sure : FlatTerm → Type 1
  Sure t = (lo : ℕ) (scope : Scope) (a : Sub) (tops sc : Seen) → AllLocal (λ n. n < lo) scope → Typed N kind.Data t lo scope K a → Sized S P t → lo + numbers t < widest → In_scope tops scope a sc → At tops sc t (a lo)

  abbrev Sure_row : FlatTerm → Type 1
  Sure_row t = (lo : ℕ) (scope : Scope) (a : Sub) (tops sc : Seen) → AllLocal (λ n. n < lo) scope → Typed N kind.Data t lo scope K a → Sized S P t → lo + numbers t < widest → In_scope tops scope a sc → Row_walks N S are P K tops sc t (a lo)

  module _ (b : FlatBinding) (v : FlatTerm) (sure : Sure v) (lo : ℕ) (scope : Scope) (a : Sub) (tops sc : Seen) where
    abbrev begins : ℕ
    begins = 1 + lo + pattern_numbers b.pattern

    abbrev whole : Scheme
    whole = let_scheme N kind.Data b v lo scope (Typed N kind.Data v (1 + lo + pattern_numbers b.pattern))

    -- the value, where these types are chosen for the parameters, in a typing that is as a is outside
    value_sure : (c other : Sub) → ((n : ℕ) → n < 1 + lo → other n ≡ a n) → AllLocal (λ n. n < lo) scope → whole.typed c K other → Let_apart S b → Sized S P v → begins + numbers v < widest → In_scope tops scope a sc → At tops sc v (other (1 + lo))
    value_sure c other outside all typed sizes walkable small h =
        walks_as N S are P K tops sc v (other begins) (other (1 + lo)) (sym typed.1)
        (sure begins (with_parameters b.parameters c scope) other tops sc (local_parameters (λ n. n < begins) b.parameters c scope (all_local_more (λ n. n < lo) (λ n. n < begins) scope (λ n p. omega (arith, p)) all)) typed.0.1 walkable small
        (names_types N S P K tops b.parameters c scope other sc sizes.1 (names_move N S P K tops scope lo a other sc all (λ n p. outside n (omega (arith, p))) h)))

    let_sure : AllLocal (λ n. n < lo) scope → (f : Bool) → b.is_function ≡ f → Let_typed N kind.Data b.is_function (Function_name b.sizes b.pattern) whole K a → Let_apart S b → Sized S P v → begins + numbers v < widest → In_scope tops scope a sc
        → Let_binds N S are P K tops sc a b v (with_let N kind.Data b lo scope whole)
    let_sure all true e typed sizes walkable small h =
        let g : Let_typed N kind.Data true (Function_name b.sizes b.pattern) whole K a = subst (λ f. Let_typed N kind.Data f (Function_name b.sizes b.pattern) whole K a) e typed in (
          (value_sure (own_types kind.Data b.parameters) a (λ n p. refl) all g.1.0 sizes walkable small h).0,
          (λ s m d y. subst (λ f. Binds N S P K tops a (known_bound b.pattern s sc) (with_pattern (let_uses N kind.Data f whole) b.pattern (1 + lo) (with_sizes b.sizes scope))) (sym e)
              (function_bound b.sizes b.pattern whole (1 + lo) s scope a tops sc g.0 sizes.2 (λ t u. let x = u.2.0 in
              subst (λ z. Knows N S z tops s) (sym u.2.1) ((value_sure u.0 x.other (λ n p. x.outside n (inl p)) all x.typed sizes walkable small h).1 s m d y)) h)),
        )
    let_sure all false e typed sizes walkable small h =
        let g : whole.typed (own_types kind.Data b.parameters) K a = subst (λ f. Let_typed N kind.Data f (Function_name b.sizes b.pattern) whole K a) e typed in
        let w = value_sure (own_types kind.Data b.parameters) a (λ n p. refl) all g sizes walkable small h in (
          w.0,
          (λ s m d y. subst (λ f. Binds N S P K tops a (known_bound b.pattern s sc) (with_pattern (let_uses N kind.Data f whole) b.pattern (1 + lo) (with_sizes b.sizes scope))) (sym e)
              (pattern_known N S P K tops a are kind.Data b.pattern (1 + lo) (with_sizes b.sizes scope) (with_sizes b.sizes scope) s sc g.0.0 sizes.2 (w.1 s m d y) (is_size_ins N S P K tops b.sizes scope a sc sizes.0 h))),
        )

  -- a let, as a term and in a row, from what is behind it
  let_both : (b : FlatBinding) (v e : FlatTerm) → Sure v → Sure e → Sure_row e → (lo : ℕ) (scope : Scope) (a : Sub) (tops sc : Seen) → AllLocal (λ n. n < lo) scope → Typed N kind.Data (Let b v e) lo scope K a → Sized S P (Let b v e) → lo + numbers (Let b v e) < widest
      → In_scope tops scope a sc → At tops sc (Let b v e) (a lo) × Row_walks N S are P K tops sc (Let b v e) (a lo)
  let_both b v e sure body rest lo scope a tops sc all typed walkable small h =
      let at_e : ℕ = 1 + lo + pattern_numbers b.pattern + numbers v in
      let s : Scheme = let_scheme N kind.Data b v lo scope (Typed N kind.Data v (1 + lo + pattern_numbers b.pattern)) in
      let local = body_local N kind.Data (λ n. n < at_e) b v lo scope (further lo at_e scope (omega arith) all) (λ n f i. let z : n < 1 + lo + (pattern_numbers b.pattern + numbers v) = i.0.1 in omega (arith, z)) (λ n f q z. omega (arith, q, z)) in
      lets_walk N S are P K tops sc a b e (with_let N kind.Data b lo scope s) (a lo)
      (λ inner r. walks_as N S are P K tops inner e (a at_e) (a lo) (sym typed.1) (body at_e (with_let N kind.Data b lo scope s) a tops inner local typed.0.1 walkable.2 (omega (arith, small)) r)) v
      (let_sure b v sure lo scope a tops sc all b.is_function refl typed.0.0 walkable.0 walkable.1 (omega (arith, small)) h)
      (λ inner r. subst (Row_walks N S are P K tops inner e) (sym typed.1) (rest at_e (with_let N kind.Data b lo scope s) a tops inner local typed.0.1 walkable.2 (omega (arith, small)) r))

  abbrev Sure_all : Terms Ref BindId → Type 1
  Sure_all ts = (lo : ℕ) (scope : Scope) (a : Sub) (tops sc : Seen) → AllLocal (λ n. n < lo) scope → All_typed N kind.Data ts lo scope K a → All_sized S P ts → lo + all_numbers ts < widest → In_scope tops scope a sc → All_walk N S are P K tops sc ts (term_types a ts lo)

  abbrev Sure_turns : FlatTurns → Type 1
  Sure_turns turns = (at : ℕ) (outer inside : Scope) (a : Sub) (tops sc carried : Seen) → AllLocal (λ n. n < at) outer → AllLocal (λ n. n < at) inside → Turns_typed N kind.Data turns at outer inside K a → Turns_apart S turns → Turns_sized S P turns → at + turn_numbers turns < widest
      → In_scope tops outer a sc → In_scope tops inside a carried → Turns_walk N S are P K tops sc carried turns × In_scope tops (with_turns turns at inside) a (turn_names N S are P K carried turns)

  abbrev Both : FlatTerm → Type 1
  Both t = Sure t × Sure_row t

  mutual
    pub surely : (t : FlatTerm) → Both t
    surely (Use r at k) =
        let f : Sure (Use r at k) = λ lo scope a tops sc all typed walkable small h. use_walks N S are P K tops sc r at k (a lo) (use_knows N S are P K tops sc scope a r (a lo) walkable typed h) in
        (f, λ lo scope a tops sc all typed walkable small h. body_walks N S are P K tops sc (Use r at k) (a lo) refl (f lo scope a tops sc all typed walkable small h))
    surely (Strict o mark ts) =
        let f : Sure (Strict o mark ts) = λ lo scope a tops sc all typed walkable small h.
        let us : Tys = term_types a ts (lo + own_numbers o) in
        let w = all_surely ts (lo + own_numbers o) scope a tops sc (further lo (lo + own_numbers o) scope (omega arith) all) typed.0 walkable.1 (omega (arith, small)) h in
        let c = count_terms a ts (lo + own_numbers o) in
        let g = operation_gives N S are tops K o (a lo) (a (operand o lo)) (term_types a ts (lo + own_numbers o)) in
        let fit : Operation_meant o (count (term_types a ts (lo + own_numbers o))) = subst (Operation_meant o) (sym (as_many a ts (lo + own_numbers o))) walkable.0 in
        (strict_lost N S are P K tops sc o mark ts us (a lo) w (λ ss k. g ss fit typed.1 (omega (arith, c, small)) k), strict_known N S are P K tops sc o mark ts us (a lo) w (λ ss k. g ss fit typed.1 (omega (arith, c, small)) k)) in
        (f, λ lo scope a tops sc all typed walkable small h. body_walks N S are P K tops sc (Strict o mark ts) (a lo) refl (f lo scope a tops sc all typed walkable small h))
    surely (Lambda ps e) =
        let f : Sure (Lambda ps e) = λ lo scope a tops sc all typed walkable small h.
        let at : ℕ = 1 + lo + all_pattern_numbers ps in
        lambda_walks N S are P K tops sc ps e (a lo) (subst (λ x. Knows N S x tops (Known_function ps e sc)) (sym typed.1)
        (lambda_known ps walkable.0.0 walkable.0.1 (1 + lo) at e scope scope a tops sc typed.0.0 (λ tops' g inner k.
        (surely e).0 at (with_patterns the_one ps (1 + lo) scope) a tops' inner (local_all_ones (λ n. n < at) ps (1 + lo) scope (λ n p q. omega (arith, p, q)) (further lo at scope (omega arith) all)) typed.0.1 walkable.1 (omega (arith, small)) k) h)) in
        (f, λ lo scope a tops sc all typed walkable small h. body_walks N S are P K tops sc (Lambda ps e) (a lo) refl (f lo scope a tops sc all typed walkable small h))
    surely (Apply g e) =
        let f : Sure (Apply g e) = λ lo scope a tops sc all typed walkable small h.
        apply_walks N S are P K tops sc g e (a (1 + lo + numbers g)) (a lo) h.definitions_clear
        (walks_as N S are P K tops sc g (a (1 + lo)) (fun_ty (a (1 + lo + numbers g)) (a lo)) typed.1 ((surely g).0 (1 + lo) scope a tops sc (further lo (1 + lo) scope (omega arith) all) typed.0.0 walkable.0 (omega (arith, small)) h))
        ((surely e).0 (1 + lo + numbers g) scope a tops sc (further lo (1 + lo + numbers g) scope (omega arith) all) typed.0.1 walkable.1 (omega (arith, small)) h) in
        (f, λ lo scope a tops sc all typed walkable small h. body_walks N S are P K tops sc (Apply g e) (a lo) refl (f lo scope a tops sc all typed walkable small h))
    surely (Let b v e) =
        let r = let_both b v e (surely v).0 (surely e).0 (surely e).1 in
        ((λ lo scope a tops sc all typed walkable small h. (r lo scope a tops sc all typed walkable small h).0), (λ lo scope a tops sc all typed walkable small h. (r lo scope a tops sc all typed walkable small h).1))
    surely (If c t e) =
        let f : Sure (If c t e) = λ lo scope a tops sc all typed walkable small h.
        if_walks N S are P K tops sc c t e (a lo) typed.4
        (walks_as N S are P K tops sc c (a (1 + lo)) bool_ty typed.1 ((surely c).0 (1 + lo) scope a tops sc (further lo (1 + lo) scope (omega arith) all) typed.0.0.0 walkable.0 (omega (arith, small)) h))
        (walks_as N S are P K tops sc t (a (1 + lo + numbers c)) (a lo) (sym typed.2) ((surely t).0 (1 + lo + numbers c) scope a tops sc (further lo (1 + lo + numbers c) scope (omega arith) all) typed.0.0.1 walkable.1 (omega (arith, small)) h))
        (walks_as N S are P K tops sc e (a (1 + lo + numbers c + numbers t)) (a lo) (sym typed.3) ((surely e).0 (1 + lo + numbers c + numbers t) scope a tops sc (further lo (1 + lo + numbers c + numbers t) scope (omega arith) all) typed.0.1 walkable.2 (omega (arith, small)) h)) in
        (f, λ lo scope a tops sc all typed walkable small h. body_walks N S are P K tops sc (If c t e) (a lo) refl (f lo scope a tops sc all typed walkable small h))
    surely (Loop mark sizes p first turns body) =
        let f : Sure (Loop mark sizes p first turns body) = λ lo scope a tops sc all typed walkable small h.
        let at_f : ℕ = 1 + lo + pattern_numbers p in
        let at_t : ℕ = 1 + lo + pattern_numbers p + numbers first in
        let at_b : ℕ = 1 + lo + pattern_numbers p + numbers first + turn_numbers turns in
        let inside : Scope = with_sizes sizes scope in
        let carried : Scope = with_pattern the_one p (1 + lo) (with_sizes sizes scope) in
        let d : Knows N S (a (1 + lo)) tops Data = kind_data N S K (a (1 + lo)) tops (subst (HasKind K kind.Data) typed.1 typed.3) in
        let w = turns_surely turns at_t scope carried a tops sc (data_bound p sc) (further lo at_t scope (omega arith) all) (local_ones (λ n. n < at_t) p (1 + lo) inside (λ n y z. omega (arith, y, z)) (local_sizes (λ n. n < at_t) sizes scope (further lo at_t scope (omega arith) all))) typed.0.0.1 walkable.0.2 walkable.2 (omega (arith, small)) h
        (data_known N S P K tops a are kind.Data p (1 + lo) inside inside sc typed.0.0.0.0.0 walkable.0.1 d (is_size_ins N S P K tops sizes scope a sc walkable.0.0 h)) in
        loop_walks N S are P K tops sc mark sizes p first body turns (a lo) typed.3
        (walks_as N S are P K tops sc first (a at_f) (a lo) (sym (typed.1 ∙ typed.0.0.0.1)) ((surely first).0 at_f scope a tops sc (further lo at_f scope (omega arith) all) typed.0.0.0.0.1 walkable.1 (omega (arith, small)) h))
        w.0
        (walks_as N S are P K tops (turn_names N S are P K (data_bound p sc) turns) body (a at_b) (a lo) (sym typed.2)
        ((surely body).0 at_b (with_turns turns at_t carried) a tops (turn_names N S are P K (data_bound p sc) turns) (local_turns (λ n. n < at_b) turns at_t carried (λ n y z. omega (arith, y, z)) (local_ones (λ n. n < at_b) p (1 + lo) inside (λ n y z. omega (arith, y, z)) (local_sizes (λ n. n < at_b) sizes scope (further lo at_b scope (omega arith) all))))
        typed.0.1 walkable.3 (omega (arith, small)) w.1)) in
        (f, λ lo scope a tops sc all typed walkable small h. body_walks N S are P K tops sc (Loop mark sizes p first turns body) (a lo) refl (f lo scope a tops sc all typed walkable small h))

    turns_surely : (turns : FlatTurns) → Sure_turns turns
    turns_surely (Counted i n) = λ at outer inside a tops sc carried all alli typed apart walkable small h k. (
      (a (1 + at), integer_data K (a (1 + at)) (subst (HasKind K kind.Integer) typed.1 typed.2), (surely n).0 (1 + at) outer a tops sc (further at (1 + at) outer (omega arith) all) typed.0 walkable (omega (arith, small)) h),
      name_known N S P K tops a i Data (the_one at) inside carried apart (λ t e. subst (λ x. Knows N S x tops Data) (sym e) (kind_data N S K (a at) tops (integer_data K (a at) typed.2))) k,
    )
    turns_surely (Over q e) = λ at outer inside a tops sc carried all alli typed apart walkable small h k. (
      (
        a (at + pattern_numbers q),
        same_data K (a (at + pattern_numbers q)) (array_ty (a at)) typed.1.0 (array_data K (a at) typed.1.1),
        (surely e).0 (at + pattern_numbers q) outer a tops sc (further at (at + pattern_numbers q) outer (omega arith) all) typed.0.1 walkable (omega (arith, small)) h,
      ),
      data_known N S P K tops a are kind.Data q at inside inside carried typed.0.0 apart (kind_data N S K (a at) tops typed.1.1) k,
    )
    turns_surely (While c) = λ at outer inside a tops sc carried all alli typed apart walkable small h k. (
      (a at, same_data K (a at) bool_ty typed.1 (scalar_data K types.Bool), (surely c).0 at inside a tops carried alli typed.0 walkable small k),
      k,
    )

    all_surely : (ts : Terms Ref BindId) → Sure_all ts
    all_surely no_term = λ lo scope a tops sc all typed walkable small h. none_walk N S are P K tops sc
    all_surely (term_and t ts) = λ lo scope a tops sc all typed walkable small h.
        more_walk N S are P K tops sc t ts (a lo) (term_types a ts (lo + numbers t))
        ((surely t).0 lo scope a tops sc all typed.0 walkable.0 (omega (arith, small)) h)
        (all_surely ts (lo + numbers t) scope a tops sc (further lo (lo + numbers t) scope (omega arith) all) typed.1 walkable.1 (omega (arith, small)) h)
