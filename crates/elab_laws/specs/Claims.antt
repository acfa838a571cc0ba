-- What is proved of elaboration: the flat program means what the files mean by their names, where a sizing is right about the
-- sizes of the flat program; and files come to one answer, however deep modules are looked at.
use Rattle.std.specs.Prelude.{◌≡◌, ◌↔◌, ℕ, zero, suc, List, Bool, Result, Ok, Err}
use mathlib.Core.Logic.{◌⊎◌}
use Rattle.fut_scalar.specs.declared.report.Report.{Report}
use Rattle.fut_scalar.specs.declared.scalar.ScalarType.{ScalarType}
use Rattle.fut_ast.specs.Sorts.{Text}
use Rattle.fut_meaning.specs.Answers.{Gives, Fails}
use Rattle.fut_meaning.specs.Found.{Told}
use Rattle.fut_meaning.specs.Datums.{Datum, as_value, all_values}
use Rattle.fut_meaning.specs.Outcomes.{Out, Val, Fail}
use Rattle.fut_meaning.specs.Meaning.{plain}
use Rattle.fut_meaning.specs.Programs.{Program_means}
use Rattle.fut_meaning.specs.Flats.{FlatValue, flat_names}
use Rattle.fut_meaning.specs.Sources.{SourceValue, Source_means}
use Rattle.fut_meaning.specs.Sames.{Same, All_same, Left, Right}
use Rattle.elab_scopes.specs.Names.{Refusal, TooFar}
use Rattle.elab_scopes.specs.Scopes.{scalar_module, Contents, value_among, value_in_module}
use Rattle.elab_scopes.specs.Programs.{FlatProgram}
use Rattle.elab_scopes.specs.Elaboration.{Declare, Elaborates, flats, flat_program}
use Rattle.elab_scopes.specs.Imports.{Source_file}
use Rattle.elab_scopes.specs.Declarations.{State, scalar_members, declared_by}
use Rattle.elab_laws.specs.Answers.{Files_allow}
use Rattle.elab_laws.specs.Sized.{Sizes_are_told}
use Rattle.elab_laws.specs.Sourced.{source_of, flat_of}

-- what the flat definitions allow, the files allow for the same arguments, with the same count
abbrev pub DeclaredAddsNothing : Type 0
DeclaredAddsNothing =
    (files : List Source_file) (s : State) → Declare files s → (told : Told) → Sizes_are_told told.sizes 0 (flats s.instances)
    → (tight : Bool) (budget entry : ℕ) (vs : List SourceValue) (ws : List FlatValue) → All_same (Same told.sizes) vs ws
    → (o : Out FlatValue) (f : ℕ) → Program_means (flat_names told) (plain tight) budget (flat_of (flat_program s)) entry ws o f → Left (Same told.sizes) (Source_means told (plain tight) budget (source_of s) entry vs) o f

-- and what the files allow, the flat definitions do
abbrev pub DeclaredLosesNothing : Type 0
DeclaredLosesNothing =
    (files : List Source_file) (s : State) → Declare files s → (told : Told) → Sizes_are_told told.sizes 0 (flats s.instances)
    → (tight : Bool) (budget entry : ℕ) (vs : List SourceValue) (ws : List FlatValue) → All_same (Same told.sizes) vs ws
    → (o : Out SourceValue) (f : ℕ) → Source_means told (plain tight) budget (source_of s) entry vs o f → Right (Same told.sizes) (Program_means (flat_names told) (plain tight) budget (flat_of (flat_program s)) entry ws) o f

-- a result that is data is allowed of the flat program where the files allow it, for arguments that are data, with the same
-- count of words
abbrev pub SameResults : Type 0
SameResults =
    (files : List Source_file) (flat : FlatProgram) → Elaborates files (Ok flat) → (told : Told) → Sizes_are_told told.sizes 0 flat.definitions
    → (tight : Bool) (budget entry : ℕ) (arguments : List Datum) (result : Datum) (words : ℕ)
    → Program_means (flat_names told) (plain tight) budget (flat_of flat) entry (all_values arguments) (Val (as_value result)) words
    ↔ Files_allow files told budget entry arguments tight (Gives result) words

-- and so is the report of a failure
abbrev pub SameReports : Type 0
SameReports =
    (files : List Source_file) (flat : FlatProgram) → Elaborates files (Ok flat) → (told : Told) → Sizes_are_told told.sizes 0 flat.definitions
    → (tight : Bool) (budget entry : ℕ) (arguments : List Datum) (report : Report) (words : ℕ)
    → Program_means (flat_names told) (plain tight) budget (flat_of flat) entry (all_values arguments) (Fail report) words
    ↔ Files_allow files told budget entry arguments tight (Fails report) words

-- more by a number
unfoldable pub more_than : ℕ → ℕ → ℕ
more_than zero more = more
more_than (suc depth) more = suc (more_than depth more)

-- modules that are looked at more deeply declare the same, but where the first look ended too soon
abbrev pub DeeperIsSame : Type 0
DeeperIsSame = (depth more : ℕ) (files : List Source_file) → (declared_by depth files ≡ declared_by (more_than depth more) files) ⊎ (declared_by depth files ≡ Err TooFar)

-- So files come to one answer, and what they declare has the flat program to which they come.
abbrev pub FilesComeToOne : Type 0
FilesComeToOne = (files : List Source_file) (answer other : Result FlatProgram Refusal) → Elaborates files answer → Elaborates files other → answer ≡ other

abbrev pub DeclaredIsElaborated : Type 0
DeclaredIsElaborated = (files : List Source_file) (s : State) → Declare files s → Elaborates files (Ok (flat_program s))

-- what a scalar type's module brings where it is opened is what paths through it name
abbrev pub OpenedScalarsAreTheSame : Type 0
OpenedScalarsAreTheSame = (modules : List Contents) (t : ScalarType) (x : Text) → value_among (scalar_members t) x ≡ value_in_module modules (scalar_module t) x
