-- What is asked of a program so that its walk is never lost, and the law.
use Rattle.std.specs.Prelude.{ℕ, ◌<◌, Bool, Option}
use Rattle.fut_scalar.specs.declared.place.BindId.{BindId}
use Rattle.fut_flat.specs.declared.program.Flat.{Flat}
use Rattle.fut_types.specs.declared.Kind.TheVariants as kind
use Rattle.fut_types.specs.Types.{Ty, Tys, none, more, Sub, Kinds, HasKind}
use Rattle.fut_typing.specs.Names.{Names, AreNames, count}
use Rattle.fut_typing.specs.Scopes.{nothing}
use Rattle.fut_typing.specs.Patterns.{arrows}
use Rattle.fut_typing.specs.Program.{program_of, program_numbers, Program_typed}
use Rattle.fut_typing.specs.Exact.{scope_behind}
use Rattle.fut_meaning.specs.Flats.{flat_tops, named_terms}
use Rattle.fut_meaning.specs.Found.{Sizing}
use Rattle.fut_meaning.specs.Comes.{Program_lost}
use Rattle.type_soundness.specs.Fits.{widest}
use Rattle.type_soundness.specs.Formed.{Definitions_formed, Definitions_apart}
use Rattle.type_soundness.specs.Programs.{Definitions_meant, One_each}

abbrev pub All_hold_data : Kinds → Tys → Type 0
All_hold_data K none = Unit {0}
All_hold_data K (more t ts) = HasKind K kind.Data t × All_hold_data K ts

-- a program that is typed with functions nowhere where data is asked for and in which no size is bound, of which the walk knows
-- all forms
pub record Is_walkable (N : Names) (K : Kinds) (a : Sub) (flat : Flat) : Type 0 where
  pub typed : Program_typed N kind.Data (program_of flat) K a
  pub walkable : Definitions_meant (program_of flat)
  pub once : One_each flat.definitions.now
  pub small : program_numbers (program_of flat) < widest

-- and one in which sizes may be bound, whose names have these numbers
pub record Is_sized_walkable (N : Names) (K : Kinds) (a : Sub) (is_size : ℕ → Bool) (flat : Flat) : Type 0 where
  pub typed : Program_typed N kind.Data (program_of flat) K a
  pub formed : Definitions_formed (program_of flat)
  pub apart : Definitions_apart is_size (program_of flat)
  pub once : One_each flat.definitions.now
  pub small : program_numbers (program_of flat) < widest

-- from each entry that takes data and gives data
abbrev pub Walks_never_lost : Type 0
Walks_never_lost =
    (N : Names) → AreNames N → (K : Kinds) (a : Sub) (is_size : ℕ → Bool) (sizes : Option Sizing) (flat : Flat) → Is_sized_walkable N K a is_size flat
    → (entry : BindId) (ts : Tys) (u : Ty) → (scope_behind N kind.Data (program_of flat) 0 nothing).uses entry.0 K a (arrows ts u) → All_hold_data K ts → HasKind K kind.Data u
    → Program_lost sizes entry.0 (count ts) (flat_tops 0 (named_terms flat)) → ⊥
