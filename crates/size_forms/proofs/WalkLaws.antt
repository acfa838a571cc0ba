-- The equations of the walk, with each of a term's parts by itself.
use Rattle.std.proofs.Common.{◌≡◌, ℕ, ◌+◌, List, [], refl, sym, ◌∙◌}
use Rattle.fut_scalar.specs.declared.place.BindId.{BindId}
use Rattle.fut_scalar.specs.declared.place.Place.{Place}
use Rattle.fut_flat.specs.declared.prim.Ref.{Ref}
use Rattle.fut_flat.specs.Terms.{Operation, If, Strict, Terms, Use, no_term, term_and}
use Rattle.fut_flat.specs.Numbers.{own_numbers, numbers}
use Rattle.fut_flat.specs.Erased.{FlatTerm}
use Rattle.fut_types.specs.Types.{Sub}
use Rattle.fut_typing.specs.Names.{Names}
use Rattle.sized_types.specs.Sizes.{Size, Sizes, no_size, size_and}
use Rattle.fut_sizes.specs.Agreeing.{kept}
use Rattle.fut_sizes.specs.Applications.{Part, whole}
use Rattle.fut_sizes.specs.Operations.{operation}
use Rattle.fut_sizes.specs.Scopes.{Scope}
use Rattle.fut_sizes.specs.Sizing.{sized, all_sized, finished, second_noted, use_of}
use Rattle.fut_sizes.specs.Steps.{State, Step, give, ask, and_then}
use Rattle.size_program.proofs.StepLaws.{regrouped}
use Rattle.size_forms.specs.Walked.{whole_sized, row_sized}
use Rattle.size_forms.proofs.StepForms.{then_same}

module _ (N : Names) (types : Sub) (scope : Scope) where
  -- a term by itself, then what follows
  pub whole_first : {A : Type 0} (e : FlatTerm) (bs : List ℕ) (n : ℕ) (next : Size → Step A) (s : State) → and_then (sized N types e bs n scope) (λ part. and_then (finished N types n part) next) s ≡ and_then (whole_sized types e bs n N scope) next s
  whole_first e bs n next s = sym (regrouped (sized N types e bs n scope) (λ part. finished N types n part) next s)

  -- ---- uses

  pub use_is : (r : Ref) (at : Place) (k : ℕ) (bs : List ℕ) (n : ℕ) (s : State) → sized N types (Use r at k) bs n scope s ≡ give (use_of N types n scope r) s
  unfolding sized
  use_is r at k bs n s = refl

  -- ---- choices

  module _ (c a b : FlatTerm) (n i j : ℕ) where
    abbrev pub no_next : Size → Step Part
    no_next u = and_then (whole_sized types b [] j N scope) (λ x. give (whole (kept n 0 u x)))

    abbrev pub yes_next : Step Part
    yes_next = and_then (whole_sized types a [] i N scope) no_next

  pub if_is : (c a b : FlatTerm) (bs : List ℕ) (n m i j : ℕ) (s : State) → m ≡ 1 + n → i ≡ m + numbers c → j ≡ i + numbers a → sized N types (If c a b) bs n scope s ≡ and_then (whole_sized types c [] m N scope) (λ z. yes_next c a b n i j) s
  unfolding sized
  if_is c a b bs n m i j s p q r = rw (r, q, p) (
      whole_first c [] (1 + n) (λ z. second) s
      ∙ then_same (whole_sized types c [] (1 + n) N scope) (λ z. second) (λ z. yes_next c a b n (1 + n + numbers c) (1 + n + numbers c + numbers a)) (λ z t. by_yes t) s)
    where
      third : Size → Step Part
      third u = and_then (sized N types b [] (1 + n + numbers c + numbers a) scope) (λ part. and_then (finished N types (1 + n + numbers c + numbers a) part) (λ x. give (whole (kept n 0 u x))))

      second : Step Part
      second = and_then (sized N types a [] (1 + n + numbers c) scope) (λ part. and_then (finished N types (1 + n + numbers c) part) third)

      by_yes : (t : State) → second t ≡ yes_next c a b n (1 + n + numbers c) (1 + n + numbers c + numbers a) t
      by_yes t = whole_first a [] (1 + n + numbers c) third t
          ∙ then_same (whole_sized types a [] (1 + n + numbers c) N scope) third (no_next c a b n (1 + n + numbers c) (1 + n + numbers c + numbers a)) (λ u v. whole_first b [] (1 + n + numbers c + numbers a) (λ x. give (whole (kept n 0 u x))) v) t

  -- ---- operations

  abbrev pub operated : Operation Ref BindId → Terms Ref BindId → ℕ → ℕ → Sizes → Step Part
  operated o ts n m us = and_then (ask (operation N types o n m ts us)) (λ t. and_then (second_noted N types o n us) (λ z. give (whole t)))

  pub strict_is : (o : Operation Ref BindId) (mark : Place) (ts : Terms Ref BindId) (bs : List ℕ) (n m : ℕ) (s : State) → m ≡ n + own_numbers o → sized N types (Strict o mark ts) bs n scope s ≡ and_then (row_sized types ts m N scope) (operated o ts n m) s
  unfolding sized
  strict_is o mark ts bs n m s at = rw at refl

  pub row_is : (t : FlatTerm) (ts : Terms Ref BindId) (n m : ℕ) (s : State) → m ≡ n + numbers t → row_sized types (term_and t ts) n N scope s ≡ and_then (whole_sized types t [] n N scope) (λ u. and_then (row_sized types ts m N scope) (λ us. give (size_and u us))) s
  unfolding all_sized
  row_is t ts n m s at = rw at (whole_first t [] n (λ u. and_then (all_sized N types ts (n + numbers t) scope) (λ us. give (size_and u us))) s)

  pub no_row : (n : ℕ) (s : State) → row_sized types no_term n N scope s ≡ give no_size s
  unfolding all_sized
  no_row n s = refl
