-- What each status of a run says of its words and of the outside before and after it.
use Rattle.std.specs.Prelude.{◌≡◌, ◌≤◌, ◌⊎◌, ℕ, List, length, map, codes, true, Some, Ok, Err}
use Rattle.fut_io.specs.Counts.{Rose}
use Rattle.fut_io.specs.Outside.{LoaderSeen, SourceSeen, SinkSeen, AllRead, ReadPart, ReadPast, Took, TookPart}
use Rattle.fut_scalar.specs.declared.place.Place.{Place}
use Rattle.fut_scalar.specs.declared.report.FailKind.TheVariants as fail
use Rattle.fut_scalar.specs.declared.report.Report.{Report}
use Rattle.fut_parser.specs.declared.programs.ParseErr.TheVariants as parse
use Rattle.fut_value.specs.Data.{Datum}
use Rattle.fut_value.specs.Values.{datum_of}
use Rattle.fut_value.specs.declared.value.Value.{Value}
use Rattle.fut_meaning.specs.Answers.{Answer, Gives, Fails}
use Rattle.fut_meaning.specs.declared.measured.Measured.{Measured}
use Rattle.fut_meaning.specs.declared.measured.MeasureErr.{MeasureErr}
use Rattle.fut_meaning.specs.declared.measured.MeasureErr.TheVariants as measure
use Rattle.fut_meaning.specs.Measures.{Measures}
use Rattle.data_values.specs.Met.{each_met}
use Rattle.value_text.specs.Printing.{data_output}
use Rattle.value_text.specs.Arguments.{Reads, Refuses}
use Rattle.value_text.specs.declared.reading.TextErr.{TextErr}
use Rattle.value_text.specs.declared.reading.TextErr.TheVariants as text
use Rattle.unfolded_runs.specs.Results.{components_of}
use Rattle.command_words.specs.CommandLine.{Command, command_of}
use Rattle.command_words.specs.declared.words.Action.{Action}
use Rattle.command_words.specs.declared.words.Action.TheVariants.{Run, Check}
use Rattle.front.specs.declared.refusals.NameErr.TheVariants as names
use Rattle.futhark_status.specs.declared.status.EntryErr.{EntryErr}
use Rattle.futhark_status.specs.declared.status.LimitKind.TheVariants as limit
use Rattle.futhark_status.specs.declared.status.Why.{Why}
use Rattle.futhark_status.specs.declared.status.Why.TheVariants as why
use Rattle.futhark_status.specs.declared.status.Status.{Status}
use Rattle.futhark_status.specs.declared.status.Status.TheVariants.{Done, Usage, LoadFault, Text, Names, Types, Sizes, Unique, Entry, Limit, ReadFault, Input, Failure, Turns, WriteFault, Memory}
use Rattle.elab_scopes.specs.Imports.{item, path_of}
use Rattle.futhark_core.specs.Acceptance.{Source, AcceptedFile, UnacceptedFile}
use Rattle.futhark_core.specs.Entering.{NotEntered}
use Rattle.futhark_core.specs.Meaning.{Entered, IsEntered, Allows, Alone, Answers, tops_of}

-- what a run meets outside
pub record Outside : Type 0 where
  pub loader : LoaderSeen
  pub input : SourceSeen
  pub out : SinkSeen

-- the most bytes of the input
abbrev pub most_input : ℕ
most_input = 67108864

-- ---- the words and the source

-- the words are no command, and nothing was touched
pub record UsageRow (words : List (List ℕ)) (old new : Outside) (word : ℕ) : Type 0 where
  pub command : command_of words ≡ Err word
  pub quiet : new ≡ old

-- the source was not accepted, because of what stands in the file at this path, before anything else was touched
pub record FrontRow (reason : Why) (words : List (List ℕ)) (old new : Outside) (path : List ℕ) : Type 0 where
  pub asked : Command
  pub command : command_of words ≡ Ok asked
  pub unaccepted : UnacceptedFile asked.file old.loader new.loader path reason
  pub input : new.input ≡ old.input
  pub out : new.out ≡ old.out

-- a file has too many bytes, before anything else was touched
pub record FileBytesRow (words : List (List ℕ)) (old new : Outside) : Type 0 where
  pub path : List ℕ
  pub row : FrontRow why.FileBytes words old new path

-- there are too many files, before anything else was touched
pub record FilesRow (words : List (List ℕ)) (old new : Outside) : Type 0 where
  pub path : List ℕ
  pub row : FrontRow why.Files words old new path

-- the source's nodes are nested too deep
pub record NestingRow (words : List (List ℕ)) (old new : Outside) : Type 0 where
  pub path : List ℕ
  pub place : Place
  pub row : FrontRow (why.Parse (parse.TooDeep place)) words old new path

-- parametric modules are applied too often
pub record ApplicationsRow (words : List (List ℕ)) (old new : Outside) : Type 0 where
  pub path : List ℕ
  pub place : Place
  pub row : FrontRow (why.Names (names.TooManyApplications place)) words old new path

abbrev pub LoadRow : Why → List (List ℕ) → Outside → Outside → List ℕ → Type 0
LoadRow why.Load words old new path = FrontRow why.Load words old new path
LoadRow reason words old new path = ⊥

abbrev pub TextRow : Why → List (List ℕ) → Outside → Outside → List ℕ → Type 0
TextRow (why.Lex err) words old new path = FrontRow (why.Lex err) words old new path
TextRow (why.Parse (parse.TooDeep place)) words old new path = ⊥
TextRow (why.Parse err) words old new path = FrontRow (why.Parse err) words old new path
TextRow (why.NotBuilt place) words old new path = FrontRow (why.NotBuilt place) words old new path
TextRow reason words old new path = ⊥

abbrev pub NamesRow : Why → List (List ℕ) → Outside → Outside → List ℕ → Type 0
NamesRow (why.Names (names.TooManyApplications place)) words old new path = ⊥
NamesRow why.ImportCycle words old new path = FrontRow why.ImportCycle words old new path
NamesRow (why.Names err) words old new path = FrontRow (why.Names err) words old new path
NamesRow reason words old new path = ⊥

abbrev pub TypesRow : Why → List (List ℕ) → Outside → Outside → List ℕ → Type 0
TypesRow (why.Types err) words old new path = FrontRow (why.Types err) words old new path
TypesRow reason words old new path = ⊥

abbrev pub SizesRow : Why → List (List ℕ) → Outside → Outside → List ℕ → Type 0
SizesRow (why.Sizes err) words old new path = FrontRow (why.Sizes err) words old new path
SizesRow reason words old new path = ⊥

abbrev pub UniqueRow : Why → List (List ℕ) → Outside → Outside → List ℕ → Type 0
UniqueRow (why.Unique err) words old new path = FrontRow (why.Unique err) words old new path
UniqueRow reason words old new path = ⊥

-- the words ask for something to be done with a file, whose source is accepted
pub record Started (words : List (List ℕ)) (old new : Outside) (asked : Command) (source : Source) : Type 0 where
  pub command : command_of words ≡ Ok asked
  pub accepted : AcceptedFile asked.file old.loader new.loader source

-- ---- a run

-- what a program meets outside: its input and out
pub record Streams : Type 0 where
  pub input : SourceSeen
  pub out : SinkSeen

-- no entry, before anything else was touched
pub record EntryRow (asked : Command) (source : Source) (old new : Streams) (err : EntryErr) (name : List ℕ) : Type 0 where
  pub name_is : name ≡ asked.entry
  pub not_entered : NotEntered source asked.entry err
  pub quiet : new ≡ old

-- with its functions unfolded the program, with its sizing, passes a limit, before anything else was touched
pub record MeasureRow (asked : Command) (source : Source) (old new : Streams) (err : MeasureErr) : Type 0 where
  pub entered : Entered
  pub is_entered : IsEntered source asked.entry entered
  pub answers : Answers source entered asked.turns
  pub past : Measures (Some entered.sizing) (tops_of source) entered.number (length entered.params) (Err err)
  pub quiet : new ≡ old

-- the entry is found, and the program unfolded from it is within the limits
pub record IsReady (asked : Command) (source : Source) (e : Entered) : Type 0 where
  pub entered : IsEntered source asked.entry e
  pub answers : Answers source e asked.turns
  pub measured : Measured
  pub measures : Measures (Some e.sizing) (tops_of source) e.number (length e.params) (Ok measured)

pub record InputBytesRow (asked : Command) (source : Source) (old new : Streams) : Type 0 where
  pub entered : Entered
  pub ready : IsReady asked source entered
  pub past : ReadPast old.input new.input most_input
  pub out : new.out ≡ old.out

-- the input has failed, behind some of what was left
pub record ReadFaultRow (asked : Command) (source : Source) (old new : Streams) : Type 0 where
  pub entered : Entered
  pub ready : IsReady asked source entered
  pub faults : Rose old.input.faults new.input.faults
  pub read : ReadPart old.input new.input
  pub out : new.out ≡ old.out

-- the whole input was read, and is refused as arguments
pub record UnreadInput (asked : Command) (source : Source) (old new : Streams) (err : TextErr) : Type 0 where
  pub entered : Entered
  pub ready : IsReady asked source entered
  pub bytes : List ℕ
  pub read : AllRead old.input new.input bytes
  pub short : length bytes ≤ most_input
  pub refuses : Refuses entered.wanted bytes err
  pub out : new.out ≡ old.out

abbrev pub InputRow : Command → Source → Streams → Streams → TextErr → Type 0
InputRow asked source old new text.Memory = ⊥
InputRow asked source old new err = UnreadInput asked source old new err

-- The whole input was read, it reads as arguments, and the files allow this answer for them, making so many words; where they
-- lawfully allow one, it is this.
pub record ComesTo (asked : Command) (source : Source) (old new : SourceSeen) (answer : Answer) : Type 0 where
  pub entered : Entered
  pub ready : IsReady asked source entered
  pub bytes : List ℕ
  pub read : AllRead old new bytes
  pub short : length bytes ≤ most_input
  pub arguments : List Value
  pub reads : Reads entered.wanted bytes arguments
  pub words : ℕ
  pub allows : Allows source entered asked.turns (map datum_of arguments) true answer words
  pub alone : Alone source entered asked.turns (map datum_of arguments) answer

-- out grew by exactly the lines of a result that the files allow
pub record DoneRow (asked : Command) (source : Source) (old new : Streams) : Type 0 where
  pub result : Datum
  pub comes : ComesTo asked source old.input new.input (Gives result)
  pub out : Took old.out new.out (data_output (each_met comes.entered.results (components_of comes.entered.tuple result)))

-- out has failed, and grew by a prefix of them
pub record WriteFaultRow (asked : Command) (source : Source) (old new : Streams) : Type 0 where
  pub result : Datum
  pub comes : ComesTo asked source old.input new.input (Gives result)
  pub out : TookPart old.out new.out (data_output (each_met comes.entered.results (components_of comes.entered.tuple result)))

-- the files allow this failure, in the file at this path
pub record FailureRow (asked : Command) (source : Source) (old new : Streams) (report : Report) (path : List ℕ) : Type 0 where
  pub path_is : path ≡ path_of (item source.files report.place.file)
  pub comes : ComesTo asked source old.input new.input (Fails report)
  pub out : new.out ≡ old.out

-- turns that are spent have a status of their own
abbrev pub FailedRow : Command → Source → Streams → Streams → Report → List ℕ → Type 0
FailedRow asked source old new report path = (report.kind ≡ fail.Turns → ⊥) × FailureRow asked source old new report path

abbrev pub TurnsRow : Command → Source → Streams → Streams → Report → List ℕ → Type 0
TurnsRow asked source old new report path = (report.kind ≡ fail.Turns) × FailureRow asked source old new report path

-- what each status of a run says once the source is accepted
abbrev pub ProgramRow : Status → Command → Source → Streams → Streams → Type 0
ProgramRow Done asked source old new = DoneRow asked source old new
ProgramRow (Entry err name) asked source old new = EntryRow asked source old new err name
ProgramRow (Limit limit.Nodes) asked source old new = MeasureRow asked source old new measure.Nodes
ProgramRow (Limit limit.Depth) asked source old new = MeasureRow asked source old new measure.Depth
ProgramRow (Limit limit.InputBytes) asked source old new = InputBytesRow asked source old new
ProgramRow ReadFault asked source old new = ReadFaultRow asked source old new
ProgramRow (Input err) asked source old new = InputRow asked source old new err
ProgramRow (Failure report path) asked source old new = FailedRow asked source old new report path
ProgramRow (Turns report path) asked source old new = TurnsRow asked source old new report path
ProgramRow WriteFault asked source old new = WriteFaultRow asked source old new
ProgramRow Memory asked source old new = (new.out ≡ old.out) × ((new.input ≡ old.input) ⊎ ((e : Entered) × IsReady asked source e))
ProgramRow status asked source old new = ⊥

-- ---- a check

-- what is written where a source is accepted
abbrev pub accepted_text : List ℕ
accepted_text = codes "accepted\n"

pub record CheckedRow (old new : Streams) : Type 0 where
  pub input : new.input ≡ old.input
  pub out : Took old.out new.out accepted_text

pub record CheckFaultRow (old new : Streams) : Type 0 where
  pub input : new.input ≡ old.input
  pub out : TookPart old.out new.out accepted_text

-- what each status of a check says once the source is accepted: nothing is read, and nothing else can come
abbrev pub CheckRow : Status → Streams → Streams → Type 0
CheckRow Done old new = CheckedRow old new
CheckRow WriteFault old new = CheckFaultRow old new
CheckRow status old new = ⊥

-- ---- all

abbrev pub ActionRow : Action → Status → Command → Source → Streams → Streams → Type 0
ActionRow Run status asked source old new = ProgramRow status asked source old new
ActionRow Check status asked source old new = CheckRow status old new

-- the words name a file whose source is accepted, and then this was its end
pub record ProgramEnded (status : Status) (words : List (List ℕ)) (old new : Outside) : Type 0 where
  pub asked : Command
  pub source : Source
  pub started : Started words old new asked source
  pub ended : ActionRow asked.action status asked source (record { input = old.input; out = old.out }) (record { input = new.input; out = new.out })

-- the words ask for a run of an accepted source from an entry within the limits
pub record HasStarted (words : List (List ℕ)) (old new : Outside) : Type 0 where
  pub asked : Command
  pub source : Source
  pub started : Started words old new asked source
  pub action : asked.action ≡ Run
  pub entered : Entered
  pub ready : IsReady asked source entered

-- memory may run out at any time before anything is written; input was read only where a run had started
pub record MemoryRow (words : List (List ℕ)) (old new : Outside) : Type 0 where
  pub loader : new.loader ≡ old.loader
  pub input : (new.input ≡ old.input) ⊎ HasStarted words old new
  pub out : new.out ≡ old.out

-- the status that a refusal of the source is answered with
abbrev pub status_for : Why → List ℕ → Status
status_for why.Load path = LoadFault (record { why = why.Load; path = path })
status_for why.FileBytes path = Limit limit.FileBytes
status_for why.Files path = Limit limit.Files
status_for why.ImportCycle path = Names (record { why = why.ImportCycle; path = path })
status_for (why.Lex err) path = Text (record { why = why.Lex err; path = path })
status_for (why.Parse (parse.TooDeep place)) path = Limit limit.Nesting
status_for (why.Parse err) path = Text (record { why = why.Parse err; path = path })
status_for (why.NotBuilt place) path = Text (record { why = why.NotBuilt place; path = path })
status_for (why.Names (names.TooManyApplications place)) path = Limit limit.Applications
status_for (why.Names err) path = Names (record { why = why.Names err; path = path })
status_for (why.Types err) path = Types (record { why = why.Types err; path = path })
status_for (why.Sizes err) path = Sizes (record { why = why.Sizes err; path = path })
status_for (why.Unique err) path = Unique (record { why = why.Unique err; path = path })
status_for why.Memory path = Memory

-- each status comes only where its row holds
abbrev pub RunRow : Status → List (List ℕ) → Outside → Outside → Type 0
RunRow (Usage word) words old new = UsageRow words old new word
RunRow (LoadFault refused) words old new = LoadRow refused.why words old new refused.path
RunRow (Text refused) words old new = TextRow refused.why words old new refused.path
RunRow (Names refused) words old new = NamesRow refused.why words old new refused.path
RunRow (Types refused) words old new = TypesRow refused.why words old new refused.path
RunRow (Sizes refused) words old new = SizesRow refused.why words old new refused.path
RunRow (Unique refused) words old new = UniqueRow refused.why words old new refused.path
RunRow (Limit limit.FileBytes) words old new = FileBytesRow words old new
RunRow (Limit limit.Files) words old new = FilesRow words old new
RunRow (Limit limit.Nesting) words old new = NestingRow words old new
RunRow (Limit limit.Applications) words old new = ApplicationsRow words old new
RunRow Memory words old new = MemoryRow words old new
RunRow status words old new = ProgramEnded status words old new
