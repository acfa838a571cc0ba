-- What each stage of a run answers.
use Rattle.std.specs.Prelude.{◌≡◌, ◌⊎◌, ℕ, List, true}
use Rattle.fut_scalar.specs.declared.report.FailKind.{FailKind}
use Rattle.fut_scalar.specs.declared.report.FailKind.TheVariants as fail
use Rattle.fut_scalar.specs.declared.report.Report.{Report}
use Rattle.fut_scalar.specs.declared.sizes.DataType.{DataType}
use Rattle.fut_io.specs.Outside.{LoaderSeen}
use Rattle.elab_scopes.specs.Imports.{Source_file, item, path_of}
use Rattle.source_files.specs.declared.reading.Unread.{Unread}
use Rattle.source_files.specs.declared.reading.Unread.TheVariants as unread
use Rattle.fut_value.specs.Data.{Datum}
use Rattle.fut_meaning.specs.Answers.{Gives, Fails}
use Rattle.fut_meaning.specs.Outcomes.{Val, Fail}
use Rattle.fut_blocks.specs.declared.block.Program.{Program}
use Rattle.fut_blocks.specs.Programs.{Program_means, NeverWrong}
use Rattle.unfolded_runs.specs.Results.{Are_arguments, components_of, opened}
use Rattle.fut_eval.specs.declared.program.EvalErr.{EvalErr}
use Rattle.fut_eval.specs.declared.program.EvalErr.TheVariants as eval
use Rattle.front.specs.declared.refusals.Refused.{Refused}
use Rattle.front.specs.declared.refusals.Refused.TheVariants as refused
use Rattle.value_text.specs.declared.reading.TextErr.{TextErr}
use Rattle.value_text.specs.declared.reading.TextErr.TheVariants as text
use Rattle.command_words.specs.CommandLine.{Command}
use Rattle.futhark_status.specs.declared.status.EntryErr.{EntryErr}
use Rattle.futhark_status.specs.declared.status.LimitKind.TheVariants as limit
use Rattle.unfolded_runs.specs.declared.preparing.PrepareErr.{PrepareErr}
use Rattle.unfolded_runs.specs.declared.preparing.PrepareErr.TheVariants as prepare
use Rattle.futhark_status.specs.declared.status.Why.{Why}
use Rattle.futhark_status.specs.declared.status.Why.TheVariants as why
use Rattle.futhark_status.specs.declared.status.Status.{Status}
use Rattle.futhark_status.specs.declared.status.Status.TheVariants.{Entry, Limit, Input, Failure, Turns, Memory}
use Rattle.futhark_core.specs.Acceptance.{Source, AcceptedFile, UnacceptedFile}
use Rattle.futhark_core.specs.Meaning.{Entered, Allows}
use Rattle.futhark_core.specs.Row.{ActionRow, Outside, status_for}

-- ---- statuses

abbrev pub unread_why : Unread → Why
unread_why unread.Load = why.Load
unread_why unread.TooLong = why.FileBytes
unread_why (unread.Lex err) = why.Lex err
unread_why (unread.Parse err) = why.Parse err
unread_why (unread.NotBuilt at) = why.NotBuilt at
unread_why unread.TooMany = why.Files
unread_why unread.Memory = why.Memory

abbrev pub why_of : Refused → Why
why_of (refused.Unread err) = unread_why err
why_of refused.ImportCycle = why.ImportCycle
why_of (refused.Names err) = why.Names err
why_of (refused.Types err) = why.Types err
why_of (refused.Misfit err) = why.Sizes err
why_of (refused.Misused err) = why.Unique err
why_of refused.Memory = why.Memory

-- a `while` that has spent its turns has a status of its own
abbrev pub kind_status : FailKind → Report → List ℕ → Status
kind_status fail.Turns report path = Turns report path
kind_status kind report path = Failure report path

abbrev pub report_status : Report → List ℕ → Status
report_status report path = kind_status report.kind report path

-- the status of a program of these files that has no result, or memory ran out
abbrev pub Is_failed_status : List Source_file → EvalErr → Status → Type 0
Is_failed_status files (eval.Failed report) status = (status ≡ report_status report (path_of (item files report.place.file))) ⊎ (status ≡ Memory)
Is_failed_status files eval.Memory status = status ≡ Memory

-- the status of an input that gives no arguments
abbrev pub input_status : TextErr → Status
input_status text.Memory = Memory
input_status err = Input err

-- the status of a program that is not ready
abbrev pub unprepared : PrepareErr → Status
unprepared prepare.Nodes = Limit limit.Nodes
unprepared prepare.Depth = Limit limit.Depth
unprepared prepare.Memory = Memory

-- the status of a source without an entry, or memory ran out
abbrev pub IsUnentered : EntryErr → List ℕ → Status → Type 0
IsUnentered err name status = (status ≡ Entry err name) ⊎ (status ≡ Memory)

-- ---- a program that is ready

-- what its blocks allow, the source allows: the components of a result may be a tuple
pub record Runs_for (source : Source) (e : Entered) (turns : ℕ) (p : Program) : Type 0 where
  pub gives : (arguments : List Datum) → Are_arguments e.params arguments → (vs : List Datum) (f : ℕ) → Program_means true turns p arguments (Val vs) f → (result : Datum) × (opened e.tuple vs ≡ components_of e.tuple result) × Allows source e turns arguments true (Gives result) f
  pub fails : (arguments : List Datum) → Are_arguments e.params arguments → (r : Report) (f : ℕ) → Program_means true turns p arguments (Fail r) f → Allows source e turns arguments true (Fails r) f

abbrev pub Never_wrong_for : List DataType → ℕ → Program → Type 0
Never_wrong_for params turns p = (arguments : List Datum) → Are_arguments params arguments → NeverWrong true turns p arguments

-- ---- from files to a status

-- why files gave no source: memory ran out, or they are not accepted
abbrev pub ExplainsSource : List ℕ → LoaderSeen → LoaderSeen → List ℕ → Why → Type 0
ExplainsSource file old new path why.Memory = new ≡ old
ExplainsSource file old new path reason = UnacceptedFile file old new path reason

-- the program that begins with the file of the command is accepted, and then this was the end
pub record SourceActed (asked : Command) (status : Status) (old new : Outside) : Type 0 where
  pub source : Source
  pub accepted : AcceptedFile asked.file old.loader new.loader source
  pub ended : ActionRow asked.action status asked source (record { input = old.input; out = old.out }) (record { input = new.input; out = new.out })

-- it is not, and nothing but the loader was touched
pub record SourceRefused (file : List ℕ) (status : Status) (old new : Outside) : Type 0 where
  pub reason : Why
  pub path : List ℕ
  pub explains : ExplainsSource file old.loader new.loader path reason
  pub is : status ≡ status_for reason path
  pub input : new.input ≡ old.input
  pub out : new.out ≡ old.out

abbrev pub SourceRow : Command → Status → Outside → Outside → Type 0
SourceRow asked status old new = SourceActed asked status old new ⊎ SourceRefused asked.file status old new
