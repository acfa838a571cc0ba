-- From which definitions a run may begin, and how that is read off the graph.
use Rattle.std.specs.Prelude.{◌≡◌, ℕ, ◌<◌, Bool, true, false, List, [], ◌∷◌, ◌++◌, length, slice_index_or}
use mathlib.Core.Logic.{◌⊎◌}
use Rattle.fut_scalar.specs.declared.sizes.DataType.{DataType}
use Rattle.fut_flat.specs.declared.program.Definition.{Definition}
use Rattle.fut_flat.specs.declared.program.Flat.{Flat}
use Rattle.fut_flat.specs.Erased.{parameters}
use Rattle.fut_types.specs.declared.Kind.TheVariants as kind
use Rattle.fut_types.specs.Types.{Ty, Tys, Sub, Kinds, HasKind, fun_ty}
use Rattle.fut_typing.specs.Names.{Names}
use Rattle.fut_typing.specs.Free.{has_types}
use Rattle.fut_typing.specs.Scopes.{nothing}
use Rattle.fut_typing.specs.Patterns.{arrows}
use Rattle.fut_typing.specs.Program.{program_of, program_numbers, Program_typed}
use Rattle.fut_typing.specs.Exact.{scope_behind}
use Rattle.type_scopes.specs.declared.Inference.{Inference}
use Rattle.type_infer.specs.Inferring.{Numbers}
use Rattle.type_infer.specs.Reading.{Shown, Row_comes, Comes_to}
use Rattle.type_soundness.specs.Walks.{All_hold_data}
use Rattle.typed_programs.specs.EntryTypes.{array_ty, data_ty, data_tys, Results_are, Has_entry_type}
use Rattle.typed_programs.specs.declared.entries.EntryTypeErr.{EntryTypeErr}
use Rattle.typed_programs.specs.declared.entries.EntryTypeErr.TheVariants as err

-- P holds in each typing that the graph shows
abbrev pub In_typings : Flat → Inference → (Names → Kinds → Sub → Type 0) → Type 0
In_typings flat inference P = (N : Names) → Numbers inference N → (K : Kinds) (a : Sub) → Program_typed N kind.Data (program_of flat) K a → ((n : ℕ) → n < program_numbers (program_of flat) → Comes_to inference.nodes n (a n)) → P N K a

-- the definition behind so many others has this type and no other, takes data and gives data
pub record May_be_used (flat : Flat) (inference : Inference) (at : ℕ) (params : List DataType) (tuple : Bool) (results : List DataType) : Type 0 where
  pub entry : (other : Definition) → In_typings flat inference (λ N K a. Has_entry_type ((scope_behind N kind.Data (program_of flat) 0 nothing).uses (slice_index_or flat.definitions.now at other).bind.0) K a params tuple results)
  pub takes_data : (K : Kinds) → All_hold_data K (data_tys params)
  pub gives_data : (K : Kinds) (u : Ty) → Results_are tuple results u → HasKind K kind.Data u

-- it has no written type parameters
abbrev pub Is_unwritten : Flat → ℕ → Type 0
Is_unwritten flat at = (other : Definition) → has_types (parameters (slice_index_or flat.definitions.now at other).heads.now) ≡ false

-- it has written type parameters, or no such type
abbrev pub Is_outside : Flat → Inference → ℕ → Type 0
Is_outside flat inference at = ((other : Definition) → has_types (parameters (slice_index_or flat.definitions.now at other).heads.now) ≡ true)
    ⊎ ((other : Definition) → In_typings flat inference (λ N K a. (params : List DataType) (tuple : Bool) (results : List DataType) → Has_entry_type ((scope_behind N kind.Data (program_of flat) 0 nothing).uses (slice_index_or flat.definitions.now at other).bind.0) K a params tuple results → ⊥))

-- want of memory aside, P is the reason
abbrev pub Because : Type 0 → EntryTypeErr → Type 0
Because P err.Outside = P
Because P err.Memory = Unit {0}

-- ---- what is read on the way

-- a function of such parameters, or a value if there are none
abbrev pub Is_entry_type : List DataType → Bool → List DataType → Ty → Type 0
Is_entry_type params tuple results t = (u : Ty) × Results_are tuple results u × (t ≡ arrows (data_tys params) u)

-- the type of a node is this one
abbrev pub Type_is : Shown → ℕ → List DataType → Bool → List DataType → Type 0
Type_is R n params tuple results = (t : Ty) → R n t → Is_entry_type params tuple results t

-- the type of a node is none from which a run may begin
abbrev pub No_entry_type : Shown → ℕ → Type 0
No_entry_type R n = (t : Ty) → R n t → (params : List DataType) (tuple : Bool) (results : List DataType) → Is_entry_type params tuple results t → ⊥

abbrev pub No_data : Shown → ℕ → Type 0
No_data R n = (t : Ty) → R n t → (s : DataType) → t ≡ data_ty s → ⊥

-- the type of a node is an array of so many dimensions of what has the type of another node, which is no array
abbrev pub Levels_are : Shown → ℕ → ℕ → ℕ → Type 0
Levels_are R n rank m = (t : Ty) → R n t → (u : Ty) × R m u × (t ≡ array_ty rank u)

abbrev pub No_array : Shown → ℕ → Type 0
No_array R n = (t : Ty) → R n t → (u : Ty) → t ≡ array_ty 1 u → ⊥

abbrev pub No_function : Shown → ℕ → Type 0
No_function R n = (t : Ty) → R n t → (x y : Ty) → t ≡ fun_ty x y → ⊥

-- the type of a node, which is data of an entry, was put behind others
pub record Pushed (R : Shown) (n : ℕ) (old new : List DataType) : Type 0 where
  pub pushed : DataType
  pub is : new ≡ old ++ pushed ∷ []
  pub read : (t : Ty) → R n t → t ≡ data_ty pushed

-- the type of node n is that of a function of these parameters, whose result has the type of node m
abbrev pub Parameters_are : Shown → ℕ → List DataType → ℕ → Type 0
Parameters_are R n params m = (t : Ty) → R n t → (u : Ty) × R m u × (t ≡ arrows (data_tys params) u)

-- the types of so many nodes in a row are these, or are not all data of an entry
abbrev pub Row_is : Shown → ℕ → ℕ → List DataType → Type 0
Row_is R x n ss = (length ss ≡ n) × ((ts : Tys) → Row_comes R x n ts → ts ≡ data_tys ss)

abbrev pub No_row_of_data : Shown → ℕ → ℕ → Type 0
No_row_of_data R x n = (ts : Tys) → Row_comes R x n ts → (ss : List DataType) → ts ≡ data_tys ss → ⊥

abbrev pub Results_at : Shown → ℕ → Bool → List DataType → Type 0
Results_at R n tuple results = (u : Ty) → R n u → Results_are tuple results u

abbrev pub No_results : Shown → ℕ → Type 0
No_results R n = (u : Ty) → R n u → (tuple : Bool) (results : List DataType) → Results_are tuple results u → ⊥
