-- Where a way ends: the scope there has what is carried on from a scope to those within it.
use Rattle.std.proofs.Common.{◌≡◌, ℕ, zero, suc, ◌+◌, ◌≤◌, ◌<◌, refl, arith, List}
use mathlib.Core.Logic.{inl, inr}
use Rattle.fut_scalar.specs.declared.place.BindId.{BindId}
use Rattle.fut_flat.specs.declared.prim.Ref.{Ref}
use Rattle.fut_flat.specs.Terms.{Patterns, Use, Strict, Lambda, Apply, Let, If, Loop, Terms, no_term, term_and, Counted, Over, While}
use Rattle.fut_flat.specs.Numbers.{pattern_numbers, all_pattern_numbers, own_numbers, numbers, turn_numbers}
use Rattle.fut_flat.specs.Erased.{FlatTerm, FlatTurns, FlatPattern}
use Rattle.fut_types.specs.declared.Kind.{Kind}
use Rattle.fut_typing.specs.Names.{Names}
use Rattle.fut_typing.specs.Scopes.{Scope, with_sizes, the_one}
use Rattle.fut_typing.specs.Patterns.{with_pattern, with_patterns, with_parameters}
use Rattle.fut_typing.specs.Generalised.{own_types, Scheme}
use Rattle.fut_typing.specs.Typing.{FlatBinding, with_turns, let_scheme, with_let, Typed}
use Rattle.fut_typing.specs.Exact.{Way, found, part, scheme_along, scheme_in, scheme_turns}
use Rattle.fut_typing.specs.Declared.{Is_parameter, Declares}
use Rattle.fut_typing.proofs.Local.{AllLocal, local_sizes, local_parameters, local_ones, local_all_ones, local_turns}
use Rattle.fut_typing.proofs.Locals.{up_to, body_local}
use Rattle.typing_laws.specs.Ways.{Ends_at, Ends_in, Ends_in_turns, and_body, Declares_beside, Some_beside, Turns_beside}

module _ (N : Names) (places : Kind) where
  abbrev pub let_at : FlatBinding → FlatTerm → ℕ → Scope → Scheme
  let_at b v lo scope = let_scheme N places b v lo scope (Typed N places v (1 + lo + pattern_numbers b.pattern))

  -- what is so of the names behind a number is so of those within, if D holds of the parameters that are declared on the way
  pub record Carries (D : ℕ → Type 0) (Q : ℕ → Scope → Type 0) : Type 1 where
    pub further : (lo m : ℕ) (scope : Scope) → lo ≤ m → Q lo scope → Q m scope
    pub functions : (qs : Patterns Ref BindId) (lo : ℕ) (scope : Scope) → Q lo scope → Q (1 + lo + all_pattern_numbers qs) (with_patterns the_one qs (1 + lo) scope)
    pub parameters : (b : FlatBinding) (lo : ℕ) (scope : Scope) → ((n : ℕ) → Is_parameter b.parameters n → D n) → Q lo scope → Q (1 + lo + pattern_numbers b.pattern) (with_parameters b.parameters (own_types places b.parameters) scope)
    pub names : (b : FlatBinding) (v : FlatTerm) (lo : ℕ) (scope : Scope) → ((n : ℕ) → Declares v n → D n) → Q lo scope → Q (1 + lo + pattern_numbers b.pattern + numbers v) (with_let N places b lo scope (let_at b v lo scope))
    pub loops : (sizes : List BindId) (p : FlatPattern) (lo : ℕ) (scope : Scope) → Q lo scope → Q (1 + lo + pattern_numbers p) (with_pattern the_one p (1 + lo) (with_sizes sizes scope))
    pub turns : (t : FlatTurns) (lo : ℕ) (scope : Scope) → Q lo scope → Q (lo + turn_numbers t) (with_turns t lo scope)

  pub locals : Carries (λ n. Unit {0}) (λ lo scope. AllLocal (λ n. n < lo) scope)
  locals = record {
    further = λ lo m scope le all. up_to N places lo m scope le all;
    functions = λ qs lo scope all. let at : ℕ = 1 + lo + all_pattern_numbers qs in local_all_ones (λ n. n < at) qs (1 + lo) scope (λ n p q. q) (up_to N places lo at scope (omega arith) all);
    parameters = λ b lo scope few all. let at : ℕ = 1 + lo + pattern_numbers b.pattern in local_parameters (λ n. n < at) b.parameters (own_types places b.parameters) scope (up_to N places lo at scope (omega arith) all);
    names = λ b v lo scope few all. let at : ℕ = 1 + lo + pattern_numbers b.pattern + numbers v in
        body_local N places (λ n. n < at) b v lo scope (up_to N places lo at scope (omega arith) all) (λ n f k. let k1 : n < 1 + lo + (pattern_numbers b.pattern + numbers v) = k.0.1 in omega arith) (λ n f p q. omega arith);
    loops = λ sizes p lo scope all. let at : ℕ = 1 + lo + pattern_numbers p in local_ones (λ n. n < at) p (1 + lo) (with_sizes sizes scope) (λ n x y. y) (local_sizes (λ n. n < at) sizes scope (up_to N places lo at scope (omega arith) all));
    turns = λ t lo scope all. let at : ℕ = lo + turn_numbers t in local_turns (λ n. n < at) t lo scope (λ n x y. y) (up_to N places lo at scope (omega arith) all);
  }

  -- a term of P at the end of the way: s is said of it, and s' of what stands in its body
  pub record Spot (P : FlatTerm → Type 0) (D : ℕ → Type 0) (Q : ℕ → Scope → Type 0) (s s' : Scheme) : Type 1 where
    pub term : FlatTerm
    pub first : ℕ
    pub scope : Scope
    pub ends : P term
    pub few : (n : ℕ) → Declares_beside term found n → D n
    pub holds : Q first scope
    pub is : scheme_along N places term first scope found ≡ s
    pub body : scheme_along N places term first scope (part (suc zero) found) ≡ s'

  module _ (P : FlatTerm → Type 0) (D : ℕ → Type 0) (Q : ℕ → Scope → Type 0) (q : Carries D Q) where
    mutual
      pub spot : (t : FlatTerm) (lo : ℕ) (scope : Scope) (w : Way) → Ends_at P t w → ((n : ℕ) → Declares_beside t w n → D n) → Q lo scope → Spot P D Q (scheme_along N places t lo scope w) (scheme_along N places t lo scope (and_body w))
      spot t lo scope found ends few all = record { term = t; first = lo; scope = scope; ends = ends; few = few; holds = all; is = refl; body = refl }
      spot (Use r at k) lo scope (part i w) ends few all = absurd ends
      spot (Strict o mark ts) lo scope (part i w) ends few all = spot_in ts (lo + own_numbers o) scope i w ends few (q.further lo (lo + own_numbers o) scope (omega arith) all)
      spot (Lambda qs e) lo scope (part i w) ends few all = spot e (1 + lo + all_pattern_numbers qs) (with_patterns the_one qs (1 + lo) scope) w ends few (q.functions qs lo scope all)
      spot (Apply f e) lo scope (part zero w) ends few all = spot f (1 + lo) scope w ends (λ n i. few n (inl i)) (q.further lo (1 + lo) scope (omega arith) all)
      spot (Apply f e) lo scope (part (suc i) w) ends few all = spot e (1 + lo + numbers f) scope w ends (λ n i. few n (inr i)) (q.further lo (1 + lo + numbers f) scope (omega arith) all)
      spot (Let b v e) lo scope (part zero w) ends few all = spot v (1 + lo + pattern_numbers b.pattern) (with_parameters b.parameters (own_types places b.parameters) scope) w ends (λ n i. few n (inr (inl i))) (q.parameters b lo scope (λ n i. few n (inl i)) all)
      spot (Let b v e) lo scope (part (suc i) w) ends few all = spot e (1 + lo + pattern_numbers b.pattern + numbers v) (with_let N places b lo scope (let_at b v lo scope)) w ends (λ n i. few n (inr (inr i))) (q.names b v lo scope (λ n i. few n (inr (inl i))) all)
      spot (If c t e) lo scope (part zero w) ends few all = spot c (1 + lo) scope w ends (λ n i. few n (inl i)) (q.further lo (1 + lo) scope (omega arith) all)
      spot (If c t e) lo scope (part (suc zero) w) ends few all = spot t (1 + lo + numbers c) scope w ends (λ n i. few n (inr (inl i))) (q.further lo (1 + lo + numbers c) scope (omega arith) all)
      spot (If c t e) lo scope (part (suc (suc i)) w) ends few all = spot e (1 + lo + numbers c + numbers t) scope w ends (λ n i. few n (inr (inr i))) (q.further lo (1 + lo + numbers c + numbers t) scope (omega arith) all)
      spot (Loop mark sizes p first turns body) lo scope (part zero w) ends few all = spot first (1 + lo + pattern_numbers p) scope w ends (λ n i. few n (inl i)) (q.further lo (1 + lo + pattern_numbers p) scope (omega arith) all)
      spot (Loop mark sizes p first turns body) lo scope (part (suc zero) w) ends few all = let at : ℕ = 1 + lo + pattern_numbers p in let inner : Scope = with_pattern the_one p (1 + lo) (with_sizes sizes scope) in
          spot_turns turns (at + numbers first) scope inner w ends (λ n i. few n (inr (inl i))) (q.further lo (at + numbers first) scope (omega arith) all) (q.further at (at + numbers first) inner (omega arith) (q.loops sizes p lo scope all))
      spot (Loop mark sizes p first turns body) lo scope (part (suc (suc i)) w) ends few all = let at : ℕ = 1 + lo + pattern_numbers p + numbers first in let inner : Scope = with_pattern the_one p (1 + lo) (with_sizes sizes scope) in
          spot body (at + turn_numbers turns) (with_turns turns (1 + lo + pattern_numbers p + numbers first) inner) w ends (λ n i. few n (inr (inr i))) (q.turns turns at inner (q.further (1 + lo + pattern_numbers p) at inner (omega arith) (q.loops sizes p lo scope all)))

      spot_in : (ts : Terms Ref BindId) (lo : ℕ) (scope : Scope) (i : ℕ) (w : Way) → Ends_in P ts i w → ((n : ℕ) → Some_beside ts i w n → D n) → Q lo scope → Spot P D Q (scheme_in N places ts lo scope i w) (scheme_in N places ts lo scope i (and_body w))
      spot_in no_term lo scope i w ends few all = absurd ends
      spot_in (term_and t ts) lo scope zero w ends few all = spot t lo scope w ends (λ n i. few n (inl i)) all
      spot_in (term_and t ts) lo scope (suc i) w ends few all = spot_in ts (lo + numbers t) scope i w ends (λ n i. few n (inr i)) (q.further lo (lo + numbers t) scope (omega arith) all)

      spot_turns : (t : FlatTurns) (lo : ℕ) (scope inner : Scope) (w : Way) → Ends_in_turns P t w → ((n : ℕ) → Turns_beside t w n → D n) → Q lo scope → Q lo inner → Spot P D Q (scheme_turns N places t lo scope inner w) (scheme_turns N places t lo scope inner (and_body w))
      spot_turns (Counted b m) lo scope inner w ends few all alli = spot m (1 + lo) scope w ends few (q.further lo (1 + lo) scope (omega arith) all)
      spot_turns (Over p e) lo scope inner w ends few all alli = spot e (lo + pattern_numbers p) scope w ends few (q.further lo (lo + pattern_numbers p) scope (omega arith) all)
      spot_turns (While c) lo scope inner w ends few all alli = spot c lo inner w ends few alli
