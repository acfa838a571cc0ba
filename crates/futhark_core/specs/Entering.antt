-- Why a run has no entry.
use Rattle.std.specs.Prelude.{◌≡◌, ◌⊎◌, ℕ, None}
use Rattle.fut_ast.specs.Sorts.{Text}
use Rattle.fut_flat.specs.declared.program.Definition.{Definition}
use Rattle.typed_programs.specs.EntryTypes.{number_of}
use Rattle.entry_sizes.specs.Wanted.{wanted_of}
use Rattle.front.specs.EntryNameEntries.{Begins_at, Begins_nowhere}
use Rattle.futhark_status.specs.declared.status.EntryErr.{EntryErr}
use Rattle.futhark_status.specs.declared.status.EntryErr.TheVariants.{NoEntry, OutsideProfile}
use Rattle.futhark_core.specs.Acceptance.{Source}
use Rattle.futhark_core.specs.Meaning.{Entered, IsEntered, IsTypedAs}

-- In some typing this definition, behind so many others, takes and gives data, and a size of a parameter is no number, and that of
-- no size parameter and no earlier parameter.
pub record Wants_others (source : Source) (at : ℕ) (definition : Definition) : Type 0 where
  pub entered : Entered
  pub number : definition.bind.0 ≡ entered.number
  pub typed : IsTypedAs source entered
  pub none : wanted_of entered.params (typed.sizes (number_of source.flat at)) ≡ None

-- there is a definition of this name, from which no run begins: it has written type parameters, or is not of one type that
-- takes scalars and arrays of them and gives one of these or a tuple of them, or it wants other sizes
pub record IsOutside (source : Source) (name : Text) : Type 0 where
  pub at : ℕ
  pub begins : Begins_at source.flat name at
  pub none : ((e : Entered) → IsEntered source name e → ⊥) ⊎ Wants_others source at begins.definition

abbrev pub NotEntered : Source → Text → EntryErr → Type 0
NotEntered source name NoEntry = Begins_nowhere source.flat name
NotEntered source name OutsideProfile = IsOutside source name
