-- From which definition of an accepted source a run begins, and what the source means from there.
use Rattle.std.specs.Prelude.{◌≡◌, ℕ, List, Bool, true, false, Some, Ok}
use Rattle.fut_scalar.specs.declared.scalar.IntType.{IntType}
use Rattle.fut_scalar.specs.declared.sizes.ArgType.{ArgType}
use Rattle.fut_scalar.specs.declared.sizes.DataType.{DataType}
use Rattle.fut_ast.specs.Sorts.{Text}
use Rattle.fut_flat.specs.Erased.{parameters}
use Rattle.fut_types.specs.declared.Kind.TheVariants as kind
use Rattle.fut_types.specs.Types.{Sub, Kinds}
use Rattle.fut_typing.specs.Names.{Names, AreNames}
use Rattle.fut_typing.specs.Scopes.{nothing}
use Rattle.fut_typing.specs.Free.{has_types}
use Rattle.fut_typing.specs.Program.{program_of, Program_typed}
use Rattle.fut_typing.specs.Answers.{Typing_is}
use Rattle.fut_typing.specs.Exact.{scope_behind}
use Rattle.fut_meaning.specs.Found.{Sizing, Told}
use Rattle.fut_meaning.specs.Flats.{FlatTop, flat_tops, named_terms}
use Rattle.fut_value.specs.Data.{Datum}
use Rattle.fut_meaning.specs.Answers.{Answer}
use Rattle.elab_laws.specs.Answers.{Files_allow, Files_lawfully_allow}
use Rattle.type_soundness.specs.Programs.{Definitions_told}
use Rattle.sized_types.specs.Sizes.{Size}
use Rattle.sized_programs.specs.Sizings.{Is_sized}
use Rattle.sizing_tables.specs.Told.{Is_sizing_of}
use Rattle.entry_sizes.specs.Wanted.{wanted_of}
use Rattle.typed_programs.specs.EntryTypes.{Has_entry_type, number_of}
use Rattle.front.specs.EntryNameEntries.{Begins_at}
use Rattle.unfolded_runs.specs.Claims.{Answer_is_of}
use Rattle.unfolded_runs.specs.Results.{Are_arguments}
use Rattle.futhark_core.specs.Acceptance.{Source}

-- the definition that a run begins from: its number, the types of the data that it takes and gives, what it wants of its
-- arguments; and of the source the types of all integers that are written without one, and the sizes
pub record Entered : Type 0 where
  pub number : ℕ
  pub params : List DataType
  pub tuple : Bool
  pub results : List DataType
  pub wanted : List ArgType
  pub integer_at : ℕ → IntType
  pub sizing : Sizing

-- In the principal typing of the source with its defaults, where names are numbered in some way, it is used at the type that
-- it takes and gives, and at no other: nothing of its type is generalised. The typing tells the types of the integers, and the
-- source has these sizes.
pub record IsTypedAs (source : Source) (e : Entered) : Type 0 where
  pub names : Names
  pub are_names : AreNames names
  pub kinds : Kinds
  pub types : Sub
  pub typing : Typing_is names (program_of source.flat) types
  pub typed : Program_typed names kind.Data (program_of source.flat) kinds types
  pub told : Definitions_told e.integer_at types (program_of source.flat) 0
  pub entry : Has_entry_type ((scope_behind names kind.Data (program_of source.flat) 0 nothing).uses e.number) kinds types e.params e.tuple e.results
  pub sizes : ℕ → Size
  pub sized : Is_sized (program_of source.flat) (Ok sizes) names
  pub sizing : Is_sizing_of source.flat names sizes e.sizing

-- a run begins from it under this name: it has no written type parameters, and one type; and each size of its parameters is a
-- number, or that of a size parameter or of an earlier parameter
pub record IsEntered (source : Source) (name : Text) (e : Entered) : Type 0 where
  pub at : ℕ
  pub begins : Begins_at source.flat name at
  pub number : begins.definition.bind.0 ≡ e.number
  pub unwritten : has_types (parameters begins.definition.heads.now) ≡ false
  pub typed : IsTypedAs source e
  pub wants : wanted_of e.params (typed.sizes (number_of source.flat at)) ≡ Some e.wanted

-- ---- what it means

-- what the typing and the sizing tell of the source
abbrev pub told_of : Entered → Told
told_of e = record { integer_at = e.integer_at; sizes = Some e.sizing }

-- for these arguments, with this budget of turns for each `while`, making so many words; tight where the trees of its reductions
-- have few neutral leaves
abbrev pub Allows : Source → Entered → ℕ → List Datum → (tight : Bool) → Answer → (words : ℕ) → Type 0
Allows source e turns arguments tight answer words = Files_allow source.files (told_of e) turns e.number arguments tight answer words × Answer_is_of e.tuple e.results answer

-- with lawful operators alone, and no place that a scatter names twice
abbrev pub Lawfully_allows : Source → Entered → ℕ → List Datum → Answer → Type 0
Lawfully_allows source e turns arguments answer = (words : ℕ) × Files_lawfully_allow source.files (told_of e) turns e.number arguments answer words

-- where the files lawfully allow an answer, it is this one
abbrev pub Alone : Source → Entered → ℕ → List Datum → Answer → Type 0
Alone source e turns arguments answer = (other : Answer) → Lawfully_allows source e turns arguments other → other ≡ answer

-- for all arguments of the types of its parameters they allow some answer
abbrev pub Answers : Source → Entered → ℕ → Type 0
Answers source e turns = (arguments : List Datum) → Are_arguments e.params arguments → (answer : Answer) × (words : ℕ) × Allows source e turns arguments true answer words

abbrev pub tops_of : Source → List FlatTop
tops_of source = flat_tops 0 (named_terms source.flat)
