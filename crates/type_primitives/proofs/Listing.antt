-- The demands of the variables, one after another.
use Rattle.std.proofs.Common.{◌≡◌, ℕ, suc, ◌+◌, ◌-◌, ◌≤◌, ◌<◌, List, [], ◌∷◌, ◌++◌, ap, subst, arith}
use Rattle.fut_types.specs.declared.Kind.{Kind}
use Rattle.type_rules.specs.declared.demand.Demand.{Demand}
use Rattle.type_rules.specs.declared.demand.Demand.TheVariants as demand
use Rattle.type_rules.proofs.Filling.{step_more, end_of}
use Rattle.type_primitives.specs.Uses.{variable_demands}

variables_cons : (places : Kind) (first n m : ℕ) → n ≡ suc m → variable_demands places first n ≡ demand.Has first places ∷ variable_demands places (first + 1) m
unfolding variable_demands
variables_cons places first n m e = ap (variable_demands places first) e

variables_none : (places : Kind) (first n : ℕ) → n ≡ 0 → variable_demands places first n ≡ []
unfolding variable_demands
variables_none places first n e = ap (variable_demands places first) e

module _ (xs : List Demand) where
  pub variable_step : (ys all : List Demand) (places : Kind) (first count at : ℕ) → at < count → ys ≡ xs ++ demand.Has (first + at) places ∷ [] → xs ++ variable_demands places (first + at) (count - at) ≡ all
      → ys ++ variable_demands places (first + (at + 1)) (count - (at + 1)) ≡ all
  variable_step ys all places first count at lt is h = subst (λ n. ys ++ variable_demands places n (count - (at + 1)) ≡ all) (let e : first + at + 1 ≡ first + (at + 1) = omega arith in e)
      (step_more xs ys (variable_demands places (first + at) (count - at)) (variable_demands places (first + at + 1) (count - (at + 1))) all (demand.Has (first + at) places ∷ []) is (variables_cons places (first + at) (count - at) (count - (at + 1)) (omega arith)) h)

  pub variable_end : (all : List Demand) (places : Kind) (first count at : ℕ) → count ≤ at → xs ++ variable_demands places (first + at) (count - at) ≡ all → xs ≡ all
  variable_end all places first count at le h = end_of xs (variable_demands places (first + at) (count - at)) all (variables_none places (first + at) (count - at) (omega arith)) h
