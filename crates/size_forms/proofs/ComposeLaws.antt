-- The equation of compositions.
use Rattle.std.proofs.Common.{◌≡◌, ℕ, ◌+◌, Bool, List, [], Ok, Err, Some, refl, sym, ap, ◌∙◌, arith}
use Rattle.fut_flat.specs.Terms.{Let}
use Rattle.fut_flat.specs.Numbers.{numbers}
use Rattle.fut_flat.specs.Erased.{FlatTerm, Row}
use Rattle.fut_types.specs.Types.{Sub}
use Rattle.fut_typing.specs.Names.{Names}
use Rattle.sized_types.specs.Sizes.{Size}
use Rattle.fut_sizes.specs.Agreeing.{Answer, then_do}
use Rattle.fut_sizes.specs.Applications.{Argument, Part, whole}
use Rattle.fut_sizes.specs.Compositions.{composition}
use Rattle.fut_sizes.specs.Scopes.{Scope}
use Rattle.fut_sizes.specs.Sizing.{sized, as_argument, right_sized, inner_sized, composition_met, wanted_as, pattern_noted, with_pattern_name}
use Rattle.fut_sizes.specs.Steps.{State, Done, Step, give, and_then, note, node_size}
use Rattle.size_program.proofs.StepLaws.{regrouped}
use Rattle.size_forms.specs.Walked.{argument_sized}
use Rattle.size_forms.specs.Compositions.{second_at, lambda_at, function_entered, composition_entered}
use Rattle.size_forms.proofs.StepForms.{then_same}

module _ (N : Names) (types : Sub) (l m : Row) (e : FlatTerm) (left_first : Bool) (n : ℕ) where
  -- the lambda is wanted at the type of the composition
  abbrev pub wanted_next : Size → Part → Step Part
  wanted_next t part = and_then (wanted_as N types (lambda_at l m n) t part) (λ u. and_then (note (second_at l n) u) (λ v. give (whole v)))

  abbrev pub lambda_next : Size → Scope → Step Part
  lambda_next t inner = and_then (sized N types e [] (lambda_at l m n) inner) (wanted_next t)

  abbrev pub met_next : Scope → Argument → Argument → Step Part
  met_next scope f g = and_then (composition_met N types n left_first f g (lambda_at l m n)) (λ t. and_then (composition_entered types l m n N scope) (lambda_next t))

  abbrev pub second_next : Scope → Argument → Step Part
  second_next scope f = and_then (argument_sized types m.1 (2 + second_at l n) N scope) (met_next scope f)

  -- ---- the second function is entered, then the lambda

  abbrev inner_noted : Size → Part → Step Size
  inner_noted t part = and_then (wanted_as N types (lambda_at l m n) t part) (λ u. note (second_at l n) u)

  abbrev inner_lambda : Size → Scope → Step Size
  inner_lambda t inner = and_then (sized N types e [] (lambda_at l m n) inner) (inner_noted t)

  by_lambda : (t : Size) (inner : Scope) (s : State) → and_then (inner_lambda t inner) (λ u. give (whole u)) s ≡ lambda_next t inner s
  by_lambda t inner s = regrouped (sized N types e [] (lambda_at l m n) inner) (inner_noted t) (λ u. give (whole u)) s
      ∙ then_same (sized N types e [] (lambda_at l m n) inner) (λ part. and_then (inner_noted t part) (λ u. give (whole u))) (wanted_next t) (λ part z. regrouped (wanted_as N types (lambda_at l m n) t part) (λ u. note (second_at l n) u) (λ u. give (whole u)) z) s

  abbrev inner_at : Size → Scope → Size → Step Size
  inner_at t inner right = and_then (pattern_noted N types m.0.pattern (1 + second_at l n) right) (λ z. inner_lambda t (with_pattern_name N types m.0.pattern right inner))

  by_second : (t : Size) (inner : Scope) (right : Size) (a : Answer (Done (Unit {0})))
      → then_do (then_do a (λ d. inner_lambda t (with_pattern_name N types m.0.pattern right inner) d.state)) (λ d. give (whole d.result) d.state)
      ≡ then_do (then_do a (λ d. give (with_pattern_name N types m.0.pattern right inner) d.state)) (λ d. lambda_next t d.result d.state)
  by_second t inner right (Ok d) = by_lambda t (with_pattern_name N types m.0.pattern right inner) d.state
  by_second t inner right (Err x) = refl

  by_inner : (t : Size) (inner : Scope) (s : State) → and_then (and_then (node_size (2 + second_at l n)) (inner_at t inner)) (λ u. give (whole u)) s ≡ and_then (function_entered types m.0.pattern (second_at l n) N inner) (lambda_next t) s
  by_inner t inner s = by_second t inner (s.nodes (2 + second_at l n)) (pattern_noted N types m.0.pattern (1 + second_at l n) (s.nodes (2 + second_at l n)) s)

  -- ---- the first

  abbrev inner_next : Size → Scope → Step Part
  inner_next t inner = and_then (and_then (node_size (2 + second_at l n)) (inner_at t inner)) (λ u. give (whole u))

  by_first : (t : Size) (scope : Scope) (left : Size) (a : Answer (Done (Unit {0})))
      → then_do a (λ d. inner_next t (with_pattern_name N types l.0.pattern left scope) d.state)
      ≡ then_do (then_do (then_do a (λ d. give (with_pattern_name N types l.0.pattern left scope) d.state)) (λ d. function_entered types m.0.pattern (second_at l n) N d.result d.state)) (λ d. lambda_next t d.result d.state)
  by_first t scope left (Ok d) = by_inner t (with_pattern_name N types l.0.pattern left scope) d.state
  by_first t scope left (Err x) = refl

  abbrev tail : Scope → Size → Step Part
  tail scope t = and_then (node_size (2 + n)) (λ left. and_then (pattern_noted N types l.0.pattern (1 + n) left) (λ z. inner_next t (with_pattern_name N types l.0.pattern left scope)))

  by_tail : (scope : Scope) (t : Size) (s : State) → tail scope t s ≡ and_then (composition_entered types l m n N scope) (lambda_next t) s
  by_tail scope t s = by_first t scope (s.nodes (2 + n)) (pattern_noted N types l.0.pattern (1 + n) (s.nodes (2 + n)) s)

  pub compose_is : (bs : List ℕ) (scope : Scope) (s : State) → composition l.0 (Let m.0 m.1 e) ≡ Some left_first → sized N types (Let l.0 l.1 (Let m.0 m.1 e)) bs n scope s ≡ and_then (argument_sized types l.1 (2 + n) N scope) (second_next scope) s
  unfolding sized right_sized inner_sized
  compose_is bs scope s is = rw is (
      sym (regrouped (sized N types l.1 [] (2 + n) scope) (λ part. as_argument N types (2 + n) l.1 part) before_second s)
      ∙ then_same (argument_sized types l.1 (2 + n) N scope) before_second (second_next scope) (λ f z. then_same (argument_sized types m.1 (2 + second_at l n) N scope) (before_met f) (met_next scope f) (λ g y. ap (λ z. and_then (composition_met N types n left_first f g z) (tail scope) y) place ∙ then_same (composition_met N types n left_first f g (lambda_at l m n)) (tail scope) (λ t. and_then (composition_entered types l m n N scope) (lambda_next t)) (λ t x. by_tail scope t x) y) z) s)
    where
      place : 4 + n + numbers l.1 + numbers m.1 ≡ lambda_at l m n
      place = omega arith

      before_met : Argument → Argument → Step Part
      before_met f g = and_then (composition_met N types n left_first f g (4 + n + numbers l.1 + numbers m.1)) (tail scope)

      before_second : Argument → Step Part
      before_second f = and_then (argument_sized types m.1 (2 + second_at l n) N scope) (before_met f)
