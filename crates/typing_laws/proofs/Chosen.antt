-- What is put for the own types of parameters, and where a definition stands in a program.
use Rattle.std.proofs.Common.{◌≡◌, ℕ, ◌+◌, ◌≤◌, ◌<◌, refl, sym, subst, arith, List, [], ◌∷◌, ◌++◌}
use mathlib.Core.Logic.{◌⊎◌, inl, inr}
use native.Mathlib.Decide.{ℕ_discrete}
use Rattle.fut_scalar.specs.declared.place.BindId.{BindId}
use Rattle.fut_flat.specs.Terms.{Parameter, Size_parameter, Type_parameter}
use Rattle.fut_flat.specs.Numbers.{pattern_numbers, numbers}
use Rattle.fut_types.specs.declared.Kind.{Kind}
use Rattle.fut_types.specs.declared.Head.TheVariants as head
use Rattle.fut_types.specs.Types.{Ty, Made, none, Sub, Kinds, HasKind, level, rank}
use Rattle.fut_typing.specs.Names.{Names}
use Rattle.fut_typing.specs.Scopes.{Scope}
use Rattle.fut_typing.specs.Patterns.{with_pattern}
use Rattle.fut_typing.specs.Generalised.{parameter_kind, Suits, own_types, Reused, Generalised}
use Rattle.fut_typing.specs.Program.{Defined, program_numbers, definition_scheme, Definitions_typed}
use Rattle.fut_typing.specs.Exact.{behind, scope_behind}
use Rattle.fut_typing.specs.Declared.{Is_parameter}
use Rattle.fut_typing.proofs.Local.{AllLocal}
use Rattle.fut_typing.proofs.Exact.{behind_local}
use Rattle.fut_typing.proofs.Readings.{rigid_kind}
unfoldable use Rattle.fut_typing.proofs.Readings.{read, read_all}
use Rattle.typing_laws.specs.Parameters.{chosen}

-- ---- what is put for own types
module _ (places : Kind) (c : Sub) where
  pub chosen_kind : (K : Kinds) (ps : List (Parameter BindId)) → Suits places K c ps → (n : ℕ) (k : Kind) → HasKind K k (chosen places ps c n k)
  chosen_kind K [] s n k = rigid_kind K n k
  chosen_kind K (Size_parameter b ∷ ps) s n k = chosen_kind K ps s n k
  chosen_kind K (Type_parameter b lifted ∷ ps) s n k = elim (ℕ_discrete n b.0) as (λ d. HasKind K k (elim d as (λ d. Ty) [
    | yes e ↦ elim (ℕ_discrete (level k) (level (parameter_kind places lifted))) as (λ d. Ty) [ yes e ↦ c n | no ne ↦ Made (head.Rigid n k) none ]
    | no ne ↦ chosen places ps c n k
  ])) [
    | yes e ↦ elim (ℕ_discrete (level k) (level (parameter_kind places lifted))) as (λ d. HasKind K k (elim d as (λ d. Ty) [ yes e ↦ c n | no ne ↦ Made (head.Rigid n k) none ])) [
      | yes same ↦ (let z : level (parameter_kind places lifted) ≤ rank K (c n) = subst (λ m. HasKind K (parameter_kind places lifted) (c m)) (sym e) s.0 in omega arith)
      | no ne ↦ rigid_kind K n k
    ]
    | no ne ↦ chosen_kind K ps s.1 n k
  ]

  -- of a parameter, and of others
  pub chosen_for : (ps : List (Parameter BindId)) (n : ℕ) → Is_parameter ps n → (k : Kind) × (own_types places ps n ≡ Made (head.Rigid n k) none) × (chosen places ps c n k ≡ c n)
  chosen_for [] n i = absurd i
  chosen_for (Size_parameter b ∷ ps) n i = chosen_for ps n i
  chosen_for (Type_parameter b lifted ∷ ps) n i = elim (ℕ_discrete n b.0) as (λ d. (k : Kind) × ((elim d as (λ d. Ty) [ yes e ↦ Made (head.Rigid n (parameter_kind places lifted)) none | no ne ↦ own_types places ps n ]) ≡ Made (head.Rigid n k) none)
      × ((elim d as (λ d. Ty) [ yes e ↦ elim (ℕ_discrete (level k) (level (parameter_kind places lifted))) as (λ d. Ty) [ yes e ↦ c n | no ne ↦ Made (head.Rigid n k) none ] | no ne ↦ chosen places ps c n k ]) ≡ c n)) [
        | yes e ↦ (parameter_kind places lifted, refl, here (parameter_kind places lifted))
        | no ne ↦ chosen_for ps n (rest ne i)
      ]
    where
      here : (k : Kind) → (elim (ℕ_discrete (level k) (level k)) as (λ d. Ty) [ yes e ↦ c n | no ne ↦ Made (head.Rigid n k) none ]) ≡ c n
      here k = elim (ℕ_discrete (level k) (level k)) as (λ d. (elim d as (λ d. Ty) [ yes e ↦ c n | no ne ↦ Made (head.Rigid n k) none ]) ≡ c n) [ yes e ↦ refl | no ne ↦ absurd (ne refl) ]

      rest : (n ≡ b.0 → ⊥) → ((n ≡ b.0) ⊎ Is_parameter ps n) → Is_parameter ps n
      rest ne (inl e) = absurd (ne e)
      rest ne (inr i) = i

  pub chosen_other : (ps : List (Parameter BindId)) (n : ℕ) (k : Kind) → (Is_parameter ps n → ⊥) → chosen places ps c n k ≡ Made (head.Rigid n k) none
  chosen_other [] n k out = refl
  chosen_other (Size_parameter b ∷ ps) n k out = chosen_other ps n k out
  chosen_other (Type_parameter b lifted ∷ ps) n k out = elim (ℕ_discrete n b.0) as (λ d. (elim d as (λ d. Ty) [
    | yes e ↦ elim (ℕ_discrete (level k) (level (parameter_kind places lifted))) as (λ d. Ty) [ yes e ↦ c n | no ne ↦ Made (head.Rigid n k) none ]
    | no ne ↦ chosen places ps c n k
  ]) ≡ Made (head.Rigid n k) none) [ yes e ↦ absurd (out (inl e)) | no ne ↦ chosen_other ps n k (λ i. out (inr i)) ]

module _ (N : Names) (places : Kind) where
  -- ---- where a definition stands
  pub scope_local : (ds : List Defined) (lo : ℕ) (scope : Scope) → AllLocal (λ n. n < lo) scope → AllLocal (λ n. n < behind ds lo) (scope_behind N places ds lo scope)
  scope_local [] lo scope all = all
  scope_local (d ∷ ds) lo scope all = scope_local ds (lo + (pattern_numbers d.name + numbers d.value)) (with_pattern (Reused places (definition_scheme N places d lo scope)) d.name lo scope) (behind_local N places d lo scope all)

  module _ (d : Defined) (after : List Defined) where
    pub definition_in : (before : List Defined) (lo : ℕ) (scope : Scope) (K : Kinds) (a : Sub) → Definitions_typed N places (before ++ d ∷ after) lo scope K a → Generalised places (definition_scheme N places d (behind before lo) (scope_behind N places before lo scope)) K a
    definition_in [] lo scope K a h = h.0
    definition_in (e ∷ before) lo scope K a h = definition_in before (lo + (pattern_numbers e.name + numbers e.value)) (with_pattern (Reused places (definition_scheme N places e lo scope)) e.name lo scope) K a h.1

    pub whole_within : (before : List Defined) (lo : ℕ) → behind before lo + (pattern_numbers d.name + numbers d.value) ≤ lo + program_numbers (before ++ d ∷ after)
    whole_within [] lo = omega arith
    whole_within (e ∷ before) lo = let at : ℕ = lo + (pattern_numbers e.name + numbers e.value) in
        let z : behind before at + (pattern_numbers d.name + numbers d.value) ≤ at + program_numbers (before ++ d ∷ after) = whole_within before at in omega arith
