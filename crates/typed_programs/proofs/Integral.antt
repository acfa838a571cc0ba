-- A literal without suffix has a type of integers in each typing.
use Rattle.std.proofs.Common.{Bool, true, false, ℕ, ◌+◌, sym, subst, None}
use mathlib.Core.Logic.{inl, inr}
use Rattle.fut_scalar.specs.declared.place.BindId.{BindId}
use Rattle.fut_flat.specs.declared.prim.Ref.{Ref}
use Rattle.fut_flat.specs.Terms.{Operation, Integer, Use, Strict, Lambda, Apply, Let, If, Loop, Terms, no_term, term_and, Counted, Over, While}
use Rattle.fut_flat.specs.Numbers.{pattern_numbers, all_pattern_numbers, own_numbers, numbers, turn_numbers}
use Rattle.fut_flat.specs.Erased.{FlatTerm, FlatTurns}
use Rattle.fut_types.specs.declared.Kind.{Kind}
use Rattle.fut_types.specs.declared.Kind.TheVariants as kind
use Rattle.fut_types.specs.Types.{Sub, Kinds, HasKind}
use Rattle.fut_typing.specs.Names.{Names}
use Rattle.fut_typing.specs.Scopes.{Scope, with_sizes, the_one}
use Rattle.fut_typing.specs.Rules.{Rule}
use Rattle.fut_typing.specs.Patterns.{with_pattern, with_patterns, with_parameters}
use Rattle.fut_typing.specs.Generalised.{own_types, Scheme}
use Rattle.fut_typing.specs.Typing.{with_turns, let_scheme, with_let, term_types, operand, Function_name, Let_typed, Typed, All_typed, Turns_typed}
use Rattle.type_soundness.specs.Meant.{Literal_here, Literal, A_literal, Turn_literal}

-- what is known of the value where a let is typed
let_value : (N : Names) (places : Kind) (is_function : Bool) (named : Type 0) (s : Scheme) (K : Kinds) (a : Sub) → Let_typed N places is_function named s K a → s.typed (own_types places s.parameters) K a
let_value N places true named s K a h = h.1.0
let_value N places false named s K a h = h

module _ (N : Names) (places : Kind) (K : Kinds) (a : Sub) where
  here : (o : Operation Ref BindId) (ts : Terms Ref BindId) (lo m : ℕ) → Rule N places K o (a lo) (a (operand o lo)) (term_types a ts (lo + own_numbers o)) → Literal_here o lo m → HasKind K kind.Integer (a m)
  here (Integer n None) no_term lo m r h = subst (λ k. HasKind K kind.Integer (a k)) (sym h) r
  here (Integer n None) (term_and t ts) lo m r h = absurd r
  here o ts lo m r h = absurd h

  mutual
    pub integral : (t : FlatTerm) (lo : ℕ) (scope : Scope) → Typed N places t lo scope K a → (m : ℕ) → Literal t lo m → HasKind K kind.Integer (a m)
    integral (Use r at k) lo scope h m l = absurd l
    integral (Strict o mark ts) lo scope h m (inl l) = here o ts lo m h.1 l
    integral (Strict o mark ts) lo scope h m (inr l) = all_integral ts (lo + own_numbers o) scope h.0 m l
    integral (Lambda ps e) lo scope h m l = integral e (1 + lo + all_pattern_numbers ps) (with_patterns the_one ps (1 + lo) scope) h.0.1 m l
    integral (Apply f e) lo scope h m (inl l) = integral f (1 + lo) scope h.0.0 m l
    integral (Apply f e) lo scope h m (inr l) = integral e (1 + lo + numbers f) scope h.0.1 m l
    integral (Let b v e) lo scope h m (inl l) =
        let value = let_value N places b.is_function (Function_name b.sizes b.pattern) (let_scheme N places b v lo scope (Typed N places v (1 + lo + pattern_numbers b.pattern))) K a h.0.0 in
        integral v (1 + lo + pattern_numbers b.pattern) (with_parameters b.parameters (own_types places b.parameters) scope) value.0.1 m l
    integral (Let b v e) lo scope h m (inr l) =
        integral e (1 + lo + pattern_numbers b.pattern + numbers v) (with_let N places b lo scope (let_scheme N places b v lo scope (Typed N places v (1 + lo + pattern_numbers b.pattern)))) h.0.1 m l
    integral (If c t e) lo scope h m (inl l) = integral c (1 + lo) scope h.0.0.0 m l
    integral (If c t e) lo scope h m (inr (inl l)) = integral t (1 + lo + numbers c) scope h.0.0.1 m l
    integral (If c t e) lo scope h m (inr (inr l)) = integral e (1 + lo + numbers c + numbers t) scope h.0.1 m l
    integral (Loop mark sizes p first turns body) lo scope h m (inl l) = integral first (1 + lo + pattern_numbers p) scope h.0.0.0.0.1 m l
    integral (Loop mark sizes p first turns body) lo scope h m (inr (inl l)) = turns_integral turns (1 + lo + pattern_numbers p + numbers first) scope (with_pattern the_one p (1 + lo) (with_sizes sizes scope)) h.0.0.1 m l
    integral (Loop mark sizes p first turns body) lo scope h m (inr (inr l)) = integral body (1 + lo + pattern_numbers p + numbers first + turn_numbers turns)
        (with_turns turns (1 + lo + pattern_numbers p + numbers first) (with_pattern the_one p (1 + lo) (with_sizes sizes scope))) h.0.1 m l

    all_integral : (ts : Terms Ref BindId) (lo : ℕ) (scope : Scope) → All_typed N places ts lo scope K a → (m : ℕ) → A_literal ts lo m → HasKind K kind.Integer (a m)
    all_integral no_term lo scope h m l = absurd l
    all_integral (term_and t ts) lo scope h m (inl l) = integral t lo scope h.0 m l
    all_integral (term_and t ts) lo scope h m (inr l) = all_integral ts (lo + numbers t) scope h.1 m l

    turns_integral : (t : FlatTurns) (lo : ℕ) (scope inside : Scope) → Turns_typed N places t lo scope inside K a → (m : ℕ) → Turn_literal t lo m → HasKind K kind.Integer (a m)
    turns_integral (Counted i n) lo scope inside h m l = integral n (1 + lo) scope h.0 m l
    turns_integral (Over p e) lo scope inside h m l = integral e (lo + pattern_numbers p) scope h.0.1 m l
    turns_integral (While c) lo scope inside h m l = integral c lo inside h.0 m l
