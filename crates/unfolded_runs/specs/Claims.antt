-- What is proved of the blocks to which an accepted program unfolds from an entry on, where a sizing of it is told: they never go
-- wrong, what they allow, the files allow by their names, and the other way round. And that files allow an outcome, whether their
-- program unfolds or not.
use Rattle.std.specs.Prelude.{◌≡◌, ℕ, List, [], Bool, Ok, slice_index_or}
use Rattle.fut_scalar.specs.declared.place.BindId.{BindId}
use Rattle.fut_scalar.specs.declared.report.Report.{Report}
use Rattle.fut_scalar.specs.declared.scalar.IntType.{IntType}
use Rattle.fut_scalar.specs.declared.sizes.DataType.{DataType}
use Rattle.fut_flat.specs.declared.program.Definition.{Definition}
use Rattle.fut_flat.specs.declared.program.Flat.{Flat}
use Rattle.fut_meaning.specs.Found.{Sizing, Told}
use Rattle.fut_meaning.specs.Flats.{named_terms, flat_tops}
use Rattle.fut_meaning.specs.Answers.{Answer, Gives, Fails}
use Rattle.fut_meaning.specs.Outcomes.{Val, Fail}
use Rattle.fut_value.specs.Data.{Datum, datums}
use Rattle.fut_meaning.specs.Datums.{as_values}
use Rattle.fut_blocks.specs.declared.block.Program.{Program}
use Rattle.fut_blocks.specs.Programs.{Program_means, NeverWrong, AreOf}
use Rattle.elab_laws.specs.Answers.{Files_allow}
use Rattle.elab_scopes.specs.Elaboration.{Elaborates}
use Rattle.elab_scopes.specs.Imports.{Source_file}
use Rattle.module_elab.specs.Elaborated.{program_of}
use Rattle.type_infer.specs.Inferring.{Told_by}
use Rattle.type_scopes.specs.declared.Inference.{Inference}
use Rattle.typed_programs.specs.Entries.{May_be_used}
use Rattle.typed_programs.specs.Typed.{Typed_by, integer_at}
use Rattle.fut_typing.specs.Names.{Names}
use Rattle.sized_types.specs.Sizes.{Size}
use Rattle.sizing_tables.specs.Claims.{Is_resolved}
use Rattle.sizing_tables.specs.Told.{Is_sizing_of, told_with}
use Rattle.unfold.specs.Programs.{Program_unfolds}
use Rattle.unfold.specs.Shapes.{Shape, Shapes, All_split}
use Rattle.unfolded_runs.specs.Results.{Are_arguments, components_of, opened}

-- the entry is one of the definitions, which takes and gives data of these types
pub record Is_usable (flat : Flat) (inference : Inference) (entry : BindId) (params : List DataType) (tuple : Bool) (results : List DataType) : Type 0 where
  pub at : ℕ
  pub definition : Definition
  pub is : (slice_index_or flat.definitions.now at definition).bind.0 ≡ entry.0
  pub usable : May_be_used flat inference at params tuple results

-- a sizing of the program, however names are numbered and whatever sized types its nodes have
pub record Is_told (flat : Flat) (Z : Sizing) : Type 0 where
  pub names : Names
  pub sizes : ℕ → Size
  pub is : Is_sizing_of flat names sizes Z

-- What is known of a run's program: its typing with the types of its integers, that files come to it, a sizing, the number of an
-- entry with its type, and the blocks to which it unfolds from there.
pub record Is_run (flat : Flat) (inference : Inference) (integers : List IntType) (Z : Sizing) (entry : BindId) (params : List DataType) (tuple : Bool) (results : List DataType) (hs : Shapes) (h : Shape) (p : Program) : Type 0 where
  pub typed : Told_by (Typed_by flat inference integers) inference
  pub resolved : Is_resolved flat
  pub told : Is_told flat Z
  pub usable : Is_usable flat inference entry params tuple results
  pub unfolds : Program_unfolds (told_with (integer_at integers) Z) (flat_tops 0 (named_terms flat)) entry.0 hs h p

-- for arguments of the types of the parameters, tight or not, and the files that come to the flat program
pub record Runs_as (flat : Flat) (T : Told) (entry : BindId) (tuple : Bool) (results : List DataType) (p : Program) (tight : Bool) (budget : ℕ) (arguments : List Datum) : Type 0 where
  pub never_wrong : NeverWrong tight budget p arguments
  pub gives : (files : List Source_file) → Elaborates files (Ok (program_of flat)) → (vs : List Datum) (f : ℕ) → Program_means tight budget p arguments (Val vs) f → (result : Datum) × (opened tuple vs ≡ components_of tuple result) × AreOf results (components_of tuple result) × Files_allow files T budget entry.0 arguments tight (Gives result) f
  pub fails : (files : List Source_file) → Elaborates files (Ok (program_of flat)) → (r : Report) (f : ℕ) → Program_means tight budget p arguments (Fail r) f → Files_allow files T budget entry.0 arguments tight (Fails r) f
  pub results_come : (files : List Source_file) → Elaborates files (Ok (program_of flat)) → (result : Datum) (f : ℕ) → Files_allow files T budget entry.0 arguments tight (Gives result) f → (vs : List Datum) × (opened tuple vs ≡ components_of tuple result) × Program_means tight budget p arguments (Val vs) f
  pub reports_come : (files : List Source_file) → Elaborates files (Ok (program_of flat)) → (r : Report) (f : ℕ) → Files_allow files T budget entry.0 arguments tight (Fails r) f → Program_means tight budget p arguments (Fail r) f

-- an answer of an entry whose result has these types
abbrev pub Answer_is_of : (tuple : Bool) → List DataType → Answer → Type 0
Answer_is_of tuple results (Gives result) = AreOf results (components_of tuple result)
Answer_is_of tuple results (Fails r) = Unit {0}

abbrev pub BlocksMeanTheSource : Type 0
BlocksMeanTheSource =
    (flat : Flat) (inference : Inference) (integers : List IntType) (Z : Sizing) (entry : BindId) (params : List DataType) (tuple : Bool) (results : List DataType) (hs : Shapes) (h : Shape) (p : Program) → Is_run flat inference integers Z entry params tuple results hs h p
    → (tight : Bool) (budget : ℕ) (arguments : List Datum) → Are_arguments params arguments → All_split hs (as_values (datums arguments)) arguments [] → Runs_as flat (told_with (integer_at integers) Z) entry tuple results p tight budget arguments

-- The files that come to a typed program allow some answer, by each sizing of it, from each entry that takes and gives data, for
-- arguments of the types of its parameters and any budget of turns.
abbrev pub FilesAllowSome : Type 0
FilesAllowSome =
    (flat : Flat) (inference : Inference) (integers : List IntType) (Z : Sizing) (entry : BindId) (params : List DataType) (tuple : Bool) (results : List DataType) → Told_by (Typed_by flat inference integers) inference → Is_told flat Z → Is_usable flat inference entry params tuple results
    → (files : List Source_file) → Elaborates files (Ok (program_of flat)) → (tight : Bool) (budget : ℕ) (arguments : List Datum) → Are_arguments params arguments → (answer : Answer) × (words : ℕ) × Answer_is_of tuple results answer × Files_allow files (told_with (integer_at integers) Z) budget entry.0 arguments tight answer words
