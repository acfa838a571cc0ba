-- What is asked of a program, and what it promises: a typed program has an outcome, none is what goes wrong, and each value
-- that it gives is of the type of its entry's result.
use Rattle.std.specs.Prelude.{◌≡◌, ℕ, ◌+◌, ◌<◌, ◌≤◌, List, [], ◌∷◌, Bool, true, false}
use Rattle.fut_scalar.specs.declared.place.BindId.{BindId}
use Rattle.fut_scalar.specs.declared.scalar.IntType.{IntType}
use Rattle.fut_flat.specs.declared.program.Definition.{Definition}
use Rattle.fut_flat.specs.declared.program.Flat.{Flat}
use Rattle.fut_flat.specs.Numbers.{pattern_numbers, numbers}
use Rattle.fut_types.specs.declared.Kind.{Kind}
use Rattle.fut_types.specs.declared.Kind.TheVariants as kind
use Rattle.fut_types.specs.Types.{Ty, Tys, none, more, Sub, Kinds, level}
use Rattle.fut_typing.specs.Names.{Names, AreNames}
use Rattle.fut_typing.specs.Scopes.{nothing}
use Rattle.fut_typing.specs.Patterns.{arrows}
use Rattle.fut_typing.specs.Program.{Defined, program_of, program_numbers, Program_typed}
use Rattle.fut_typing.specs.Exact.{scope_behind}
use Rattle.fut_meaning.specs.Found.{Told}
use Rattle.fut_meaning.specs.Flats.{FlatValue, FlatTops, FlatMode, named_terms, Flat_means}
use Rattle.fut_meaning.specs.Meaning.{plain}
use Rattle.fut_meaning.specs.Claims.{Safe, Some_outcome}
use Rattle.fut_meaning.specs.Uses.{is_size_in}
use Rattle.type_soundness.specs.Fits.{widest, Fits}
use Rattle.type_soundness.specs.Meant.{No_sizes, Meant, Literals_told}
use Rattle.type_soundness.specs.Formed.{Definitions_formed, Definitions_apart}

-- the meaning knows all forms of a program
abbrev pub Definitions_meant : List Defined → Type 0
Definitions_meant [] = Unit {0}
Definitions_meant (d ∷ ds) = No_sizes [] d.parameters × Meant (λ k. Unit {0}) d.value × Definitions_meant ds

-- the literals without suffix of a program have the types that are told
abbrev pub Definitions_told : (ℕ → IntType) → Sub → List Defined → ℕ → Type 0
Definitions_told integer_at a [] lo = Unit {0}
Definitions_told integer_at a (d ∷ ds) lo = Literals_told integer_at a d.value (lo + pattern_numbers d.name) × Definitions_told integer_at a ds (lo + (pattern_numbers d.name + numbers d.value))

-- no definition has this number; each has one of its own
abbrev pub None_has : ℕ → List Definition → Type 0
None_has k [] = Unit {0}
None_has k (d ∷ ds) = (d.bind.0 ≡ k → ⊥) × None_has k ds

abbrev pub One_each : List Definition → Type 0
One_each [] = Unit {0}
One_each (d ∷ ds) = None_has d.bind.0 ds × One_each ds

-- a typed program in which no size is bound, of which the meaning knows all forms, and whose literals without suffix are told
pub record Is_typed (N : Names) (places : Kind) (K : Kinds) (a : Sub) (integer_at : ℕ → IntType) (flat : Flat) : Type 0 where
  -- arrays hold data
  pub holds_data : level kind.Data ≤ level places
  pub typed : Program_typed N places (program_of flat) K a
  pub meant : Definitions_meant (program_of flat)
  pub told : Definitions_told integer_at a (program_of flat) 0
  pub once : One_each flat.definitions.now
  pub small : program_numbers (program_of flat) < widest

-- and one in which sizes may be bound, where a sizing is told, which names them
pub record Is_sized (N : Names) (places : Kind) (K : Kinds) (a : Sub) (T : Told) (flat : Flat) : Type 0 where
  pub holds_data : level kind.Data ≤ level places
  pub typed : Program_typed N places (program_of flat) K a
  pub formed : Definitions_formed (program_of flat)
  pub apart : Definitions_apart (is_size_in T.sizes) (program_of flat)
  pub told : Definitions_told T.integer_at a (program_of flat) 0
  pub once : One_each flat.definitions.now
  pub small : program_numbers (program_of flat) < widest

module _ (N : Names) (T : Told) (M : FlatMode) (budget : ℕ) (total : Bool) where
  -- values of these types, whatever has been evaluated
  abbrev pub Arguments_fit : Tys → List FlatValue → Type 0
  Arguments_fit none [] = Unit {0}
  Arguments_fit none (v ∷ vs) = ⊥
  Arguments_fit (more t ts) [] = ⊥
  Arguments_fit (more t ts) (v ∷ vs) = ((tops : FlatTops) → Fits N T M budget total t tops v) × Arguments_fit ts vs

  abbrev pub Result_fits : Ty → FlatValue → Type 0
  Result_fits u v = (tops : FlatTops) × Fits N T M budget total u tops v

-- from each entry, at each type at which it may be used, and for all arguments of that type
abbrev pub Never_wrong : Type 0
Never_wrong =
    (N : Names) → AreNames N → (places : Kind) (K : Kinds) (a : Sub) (T : Told) (tight : Bool) (budget : ℕ) (flat : Flat) → Is_sized N places K a T flat
    → (entry : BindId) (ts : Tys) (u : Ty) (vs : List FlatValue) → (scope_behind N places (program_of flat) 0 nothing).uses entry.0 K a (arrows ts u) → Arguments_fit N T (plain tight) budget false ts vs
    → Safe (Result_fits N T (plain tight) budget false u) (Flat_means T (plain tight) budget (named_terms flat) entry vs)

-- and there is some outcome, for arguments that are total where they are functions
abbrev pub Has_outcome : Type 0
Has_outcome =
    (N : Names) → AreNames N → (places : Kind) (K : Kinds) (a : Sub) (T : Told) (tight : Bool) (budget : ℕ) (flat : Flat) → Is_sized N places K a T flat
    → (entry : BindId) (ts : Tys) (u : Ty) (vs : List FlatValue) → (scope_behind N places (program_of flat) 0 nothing).uses entry.0 K a (arrows ts u) → Arguments_fit N T (plain tight) budget true ts vs
    → Some_outcome (Flat_means T (plain tight) budget (named_terms flat) entry vs)
