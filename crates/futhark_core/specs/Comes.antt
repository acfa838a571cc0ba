-- What a run comes to, from its words, its files and its input alone: where nothing outside fails and memory is there.
--
-- A run goes by stages, one after another. Each gives something to the next, or ends the run with a status. What is said of
-- types holds for some way to number names and records, and so for each; an entry has one type, whatever typing shows it.
use Rattle.std.specs.Prelude.{◌≡◌, ◌≤◌, ◌<◌, ◌⊎◌, ℕ, suc, List, ◌∷◌, length, map, true, Option, Some, None, Result, Ok, Err}
use Rattle.fut_scalar.specs.declared.place.Place.{Place}
use Rattle.fut_value.specs.Values.{datum_of}
use Rattle.fut_value.specs.declared.value.Value.{Value}
use Rattle.fut_meaning.specs.Answers.{Answer, Gives, Fails}
use Rattle.fut_token.specs.declared.token.Token.{Token}
use Rattle.fut_io.specs.Counts.{Rose}
use Rattle.fut_io.specs.Outside.{LoaderSeen, file_at}
use Rattle.fut_lexer.specs.Lexing.{HasTokens, RefusesText}
use Rattle.fut_lexer.specs.declared.lexer.LexErr.{LexErr}
use Rattle.fut_ast.specs.Grammar.{Derives}
use Rattle.fut_ast.specs.Sorts.{Text as Name}
use Rattle.fut_ast.specs.declared.module.Program.{Program}
use Rattle.fut_parser.specs.declared.programs.ParseErr.{ParseErr}
use Rattle.fut_typing.specs.Names.{Names as Numbering, AreNames}
use Rattle.fut_typing.specs.Program.{Defined}
use Rattle.fut_typing.specs.Answers.{NoType, FunctionPlace, Ambiguous}
use Rattle.elab_scopes.specs.Names as refusal
use Rattle.elab_scopes.specs.Programs.{FlatProgram}
use Rattle.elab_scopes.specs.Elaboration.{Elaborates}
use Rattle.module_elab.specs.Elaborated.{program_of as flat_of}
use Rattle.unbuilt_tokens.specs.Unbuilt.{first_unbuilt}
use Rattle.std.specs.List.{range_with_len}
use Rattle.elab_scopes.specs.Imports.{Source_file}
use Rattle.file_order.specs.Order.{First_cycle}
use Rattle.source_files.specs.Files.{Are_files, Are_read}
use Rattle.source_files.specs.Reading.{Is_next}
use Rattle.front.specs.Acceptance.{Acyclic, IsPrelude, Resolves, Typable, definitions_of, misfit_place, misuse_place, names_place, path_of_file, prelude_of, types_place}
use Rattle.front.specs.Entries.{HasEntry, HasNoEntry}
use Rattle.front.specs.declared.refusals.NameErr.{NameErr}
use Rattle.front.specs.declared.refusals.NameErr.TheVariants as names
use Rattle.typed_programs.specs.Mistyped.{Some_numbering}
use Rattle.typed_programs.specs.Ordered.{Some_order}
use Rattle.sizing_laws.specs.Order.{In_order}
use Rattle.typed_programs.specs.declared.typed.TypeErr.{TypeErr}
use Rattle.typed_programs.specs.declared.typed.TypeErr.TheVariants as types
use Rattle.sized_types.specs.Sizes.{Size}
use Rattle.fut_sizes.specs.Agreeing.{Answer as Sizing_answer, Refusal as Size_refusal}
use Rattle.sized_programs.specs.Sizings.{Is_sized}
use Rattle.sized_programs.specs.declared.misfit.Misfit.{Misfit}
use Rattle.fut_aliases.specs.declared.refusals.Broken.{Broken}
use Rattle.unique_programs.specs.Rules.{Breaks_none, First_broken}
use Rattle.unique_programs.specs.declared.misuse.Misuse.{Misuse}
use Rattle.command_words.specs.CommandLine.{Command, command_of}
use Rattle.command_words.specs.declared.words.Action.{Action}
use Rattle.command_words.specs.declared.words.Action.TheVariants.{Run, Check}
use Rattle.value_text.specs.Arguments.{Reads, Refuses}
use Rattle.value_text.specs.declared.reading.TextErr.{TextErr}
use Rattle.futhark_status.specs.declared.status.EntryErr.TheVariants.{NoEntry, OutsideProfile}
use Rattle.futhark_status.specs.declared.status.LimitKind.TheVariants as limit
use Rattle.futhark_status.specs.declared.status.Why.TheVariants as why
use Rattle.futhark_status.specs.declared.status.Status.{Status}
use Rattle.futhark_status.specs.declared.status.Status.TheVariants.{Done, Usage, Entry, Limit, Input, Failure, Turns, Memory}
use Rattle.futhark_core.specs.Acceptance.{Source}
use Rattle.futhark_core.specs.Entering.{IsOutside}
use Rattle.futhark_core.specs.Meaning.{Entered, IsEntered, Allows, Lawfully_allows}
use Rattle.futhark_core.specs.Row.{Outside, most_input, status_for}

-- what a stage comes to: something for the next one, or the status that ends the run
abbrev pub Stage : Type 0 → Type 1
Stage A = Result A Status → Type 0

-- behind a stage that gives something the next one goes on with it; else the run has ended
abbrev pub Onward : {A B : Type 0} → Result A Status → (A → Stage B) → Stage B
Onward (Ok a) next end = next a end
Onward (Err status) next end = end ≡ Err status

-- one stage after another
abbrev pub Then : {A B : Type 0} → Stage A → (A → Stage B) → Stage B
Then {A} first next end = (middle : Result A Status) × first middle × Onward middle next end

-- ---- the source

-- the words ask for something to be done with a file, or break a rule
abbrev pub Commanded : List Name → Stage Command
Commanded words (Ok command) = command_of words ≡ Ok command
Commanded words (Err status) = (word : ℕ) × (command_of words ≡ Err word) × (status ≡ Usage word)

-- of told files a loader tells this, before it is asked
abbrev pub told_by : List (List ℕ × List ℕ) → LoaderSeen
told_by files = record { files = Some files; faults = 0; overs = 0; lost = None }

-- the status is the parser's refusal of the file at this path; which one, and at which token, its row says
abbrev pub ParserRefusal : Name → Status → Type 0
ParserRefusal path status = (err : ParseErr) × (status ≡ status_for (why.Parse err) path)

-- these tokens are of a program nested at most 200 deep
abbrev pub Is_program : List Token → Type 0
Is_program tokens = (program : Program) × (h : ℕ) × (h ≤ 201) × Derives tokens program h

-- A text, which would be that of the file of this number at this path, is refused with this status: it has no tokens, or these spell no
-- program that is nested at most 200 deep, or one in which a form stands that is not built.
pub data Tokens_refused (number : ℕ) (path text : List ℕ) (status : Status) : Type 0 where
  no_tokens : (err : LexErr) → RefusesText number text err → status ≡ status_for (why.Lex err) path → Tokens_refused number path text status
  no_program : (tokens : List Token) → HasTokens number text tokens → (Is_program tokens → ⊥) → ParserRefusal path status → Tokens_refused number path text status
  unbuilt : (tokens : List Token) (place : Place) → HasTokens number text tokens → Is_program tokens → first_unbuilt tokens ≡ Some place → status ≡ status_for (why.NotBuilt place) path → Tokens_refused number path text status

-- it is refused so, or too long
abbrev pub Text_refused : ℕ → Name → List ℕ → Status → Type 0
Text_refused number path text status = ((4194304 < length text) × (status ≡ Limit limit.FileBytes)) ⊎ ((length text ≤ 4194304) × Tokens_refused number path text status)

-- reading ends at the file at this path, behind so many files, with this status: there are 256 before it, or its text is refused
abbrev pub Reading_refused : List (List ℕ × List ℕ) → ℕ → Name → Status → Type 0
Reading_refused files number path status = ((number ≡ 257) × (status ≡ Limit limit.Files))
    ⊎ ((number ≤ 256) × (text : List ℕ) × (file_at files path ≡ Some text) × Text_refused number path text status)

-- the files of the program that begins with this one are told files with such texts, or reading ends at one
abbrev pub FilesRead : Option (List (List ℕ × List ℕ)) → Name → Stage (List Source_file)
FilesRead None file end = ⊥
FilesRead (Some files) file (Ok sources) = Are_read (told_by files) file sources
FilesRead (Some files) file (Err status) = (before : List Source_file) × (path : Name) × Are_files (told_by files) 1 before × (length before ≤ 256) × Is_next file before path × Reading_refused files (suc (length before)) path status

-- none of these files imports itself, or one is the first that does
abbrev pub Uncycled : List Source_file → Stage (List Source_file)
Uncycled sources (Ok same) = (prelude : Program) × IsPrelude prelude × Acyclic (prelude_of prelude ∷ sources) × (same ≡ sources)
Uncycled sources (Err status) = (prelude : Program) × IsPrelude prelude × (number : ℕ) × First_cycle (prelude_of prelude ∷ sources) number (range_with_len 1 (length sources)) × (status ≡ status_for why.ImportCycle (path_of_file sources number))

-- this refusal of names, as it is answered
abbrev pub refusal_of : NameErr → refusal.Refusal
refusal_of (names.Unbound name at) = refusal.Unbound name at
refusal_of (names.Twice name at) = refusal.Twice name at
refusal_of (names.NoMember name at) = refusal.NoMember name at
refusal_of (names.SealMissing name at) = refusal.SealMissing name at
refusal_of (names.TooManyApplications at) = refusal.TooManyApplications at

-- the statuses of refusals behind reading, each with the path of the file in which it stands
abbrev pub names_status : List Source_file → NameErr → Status
names_status sources err = status_for (why.Names err) (path_of_file sources (names_place err).file)

abbrev pub types_status : List Source_file → TypeErr → Status
types_status sources err = status_for (why.Types err) (path_of_file sources (types_place err).file)

abbrev pub sizes_status : List Source_file → Misfit → Status
sizes_status sources err = status_for (why.Sizes err) (path_of_file sources (misfit_place err).file)

abbrev pub unique_status : List Source_file → Misuse → Status
unique_status sources err = status_for (why.Unique err) (path_of_file sources (misuse_place err).file)

-- behind the prelude the files come to a flat program, or to a refusal of names
abbrev pub Named : List Source_file → Stage FlatProgram
Named sources (Ok flat) = Resolves sources (Ok flat)
Named sources (Err status) = (err : NameErr) × Resolves sources (Err (refusal_of err)) × (status ≡ names_status sources err)

-- this is what the definitions lack
abbrev pub Lacks : TypeErr → Numbering → List Defined → Type 0
Lacks (types.NoType at) N ds = NoType N ds
Lacks (types.FunctionPlace at) N ds = FunctionPlace N ds
Lacks (types.Ambiguous at) N ds = Ambiguous N ds
Lacks types.Memory N ds = ⊥

-- the flat program has a typing, or lacks one
abbrev pub Typed : List Source_file → FlatProgram → Stage FlatProgram
Typed sources flat (Ok same) = Some_numbering (λ N. Typable N (definitions_of flat)) × (same ≡ flat)
Typed sources flat (Err status) = (err : TypeErr) × Some_numbering (λ N. Lacks err N (definitions_of flat)) × (status ≡ types_status sources err)

-- this holds of the sizing of the definitions, or of its first refusal, by each typing of theirs in the order of names
abbrev pub By_each_sizing : List Defined → (Sizing_answer (ℕ → Size) → Type 0) → Type 0
By_each_sizing ds P = (N : Numbering) → AreNames N → In_order N → (answer : Sizing_answer (ℕ → Size)) → Is_sized ds answer N → P answer

-- by each typing the flat program has a sizing, or by none
abbrev pub Sized : List Source_file → FlatProgram → Stage FlatProgram
Sized sources flat (Ok same) = By_each_sizing (definitions_of flat) (λ answer. (sizes : ℕ → Size) × (answer ≡ Ok sizes)) × (same ≡ flat)
Sized sources flat (Err status) = (err : Misfit) × By_each_sizing (definitions_of flat) (λ answer. (refusal : Size_refusal) × (answer ≡ Err refusal)) × (status ≡ sizes_status sources err)

-- by some typing in the order of names the definitions break a rule of aliases and consumption, and this one first
abbrev pub Breaks_one : List Defined → Numbering → Type 0
Breaks_one ds N = (rule : Broken) × First_broken ds (Some rule) N

-- by its typings the flat program breaks no rule of aliases and consumption, or one
abbrev pub Unbroken : List Source_file → FlatProgram → Stage FlatProgram
Unbroken sources flat (Ok same) = Some_order (Breaks_none (definitions_of flat)) × (same ≡ flat)
Unbroken sources flat (Err status) = (err : Misuse) × Some_order (Breaks_one (definitions_of flat)) × (status ≡ unique_status sources err)

-- the program that begins with the file is accepted
abbrev pub Accepted : Option (List (List ℕ × List ℕ)) → Name → Stage FlatProgram
Accepted files file =
    Then (FilesRead files file) (λ read.
    Then (Uncycled read) (λ sources.
    Then (Named sources) (λ flat.
    Then (Typed sources flat) (λ typed.
    Then (Sized sources typed) (λ sized. Unbroken sources sized)))))

-- ---- what is done with it

-- what is run: an accepted program from the entry of a name, with a budget of turns, on the bytes of an input
pub record AskedRun : Type 0 where
  pub flat : FlatProgram
  pub name : Name
  pub turns : ℕ
  pub input : List ℕ

-- how a run ends whose source is accepted and has its entry: it tells so, this was run, it comes to the answer that is lawfully
-- allowed, or its input is refused with a status
pub data Ending : Type 0 where
  Told : Ending
  Ran : AskedRun → Ending
  Came : Answer → Ending
  Unread : Status → Ending

-- this holds of the entry of this name, which is one definition, of one type
abbrev pub Of_entries : FlatProgram → Name → (Entered → Type 0) → Type 0
Of_entries flat name P = (source : Source) → flat_of source.flat ≡ flat → (e : Entered) → IsEntered source name e → P e

-- and this of the files too that come to the flat program
abbrev pub Of_sources : FlatProgram → Name → (Source → Entered → Type 0) → Type 0
Of_sources flat name P = (source : Source) → flat_of source.flat ≡ flat → Elaborates source.files (Ok flat) → (e : Entered) → IsEntered source name e → P source e

-- a run begins at a definition of this name, or at none
abbrev pub Entering : FlatProgram → Name → Stage FlatProgram
Entering flat name (Ok same) = ((at : ℕ) × HasEntry flat name at) × ((source : Source) → flat_of source.flat ≡ flat → IsOutside source name → ⊥) × (same ≡ flat)
Entering flat name (Err status) = (HasNoEntry flat name × (status ≡ Entry NoEntry name))
    ⊎ (((at : ℕ) × HasEntry flat name at) × Of_entries flat name (λ e. ⊥) × (status ≡ Entry OutsideProfile name))

-- the told input reads as arguments, for which the files lawfully allow this answer, or is too long or refused
abbrev pub Argued : FlatProgram → Name → ℕ → Option (List ℕ) → Stage Ending
Argued flat name turns None end = ⊥
Argued flat name turns (Some bytes) (Ok Told) = ⊥
Argued flat name turns (Some bytes) (Ok (Ran asked)) = (asked ≡ record { flat = flat; name = name; turns = turns; input = bytes }) × (length bytes ≤ most_input) × Of_entries flat name (λ e. (values : List Value) × Reads e.wanted bytes values)
Argued flat name turns (Some bytes) (Ok (Came answer)) = (length bytes ≤ most_input) × Of_sources flat name (λ source e. (values : List Value) × Reads e.wanted bytes values × Lawfully_allows source e turns (map datum_of values) answer)
Argued flat name turns (Some bytes) (Ok (Unread status)) = ((most_input < length bytes) × (status ≡ Limit limit.InputBytes))
    ⊎ ((err : TextErr) × (length bytes ≤ most_input) × Of_entries flat name (λ e. Refuses e.wanted bytes err) × (status ≡ Input err))
Argued flat name turns (Some bytes) (Err status) = ⊥

-- an accepted program is run on the input, or is told to be accepted
abbrev pub Done_with : Action → Command → Option (List ℕ) → FlatProgram → Stage Ending
Done_with Run asked left flat = Then (Entering flat asked.entry) (λ entered. Argued entered asked.entry asked.turns left)
Done_with Check asked left flat = λ end. end ≡ Ok Told

abbrev pub Acted : Command → Option (List ℕ) → FlatProgram → Stage Ending
Acted asked left flat = Done_with asked.action asked left flat

-- The run of these words over these files and this input comes to an end, or to a status.
-- Where a stage would ask what is not told, it comes to nothing.
abbrev pub Comes : List Name → Option (List (List ℕ × List ℕ)) → Option (List ℕ) → Stage Ending
Comes words files left =
    Then (Commanded words) (λ command.
    Then (Accepted files command.file) (λ flat. Acted command left flat))

-- ---- which status stands for it

-- no count of faults rose
pub record NoFault (old new : Outside) : Type 0 where
  pub loader : Rose old.loader.faults new.loader.faults → ⊥
  pub input : Rose old.input.faults new.input.faults → ⊥
  pub out : Rose old.out.faults new.out.faults → ⊥

-- with its functions unfolded the program passes a limit; that is asked before the input is read
abbrev pub IsLimit : Status → Type 0
IsLimit status = (status ≡ Limit limit.Nodes) ⊎ (status ≡ Limit limit.Depth)

-- the status tells of this answer
abbrev pub Tells : Answer → Status → Type 0
Tells (Gives result) status = status ≡ Done
Tells (Fails report) status = (path : Name) × ((status ≡ Failure report path) ⊎ (status ≡ Turns report path))

-- the files allow this answer for the arguments that the input reads as
pub record AllowedFor (asked : AskedRun) (answer : Answer) : Type 0 where
  pub source : Source
  pub flat : flat_of source.flat ≡ asked.flat
  pub files : Elaborates source.files (Ok asked.flat)
  pub entered : Entered
  pub is_entered : IsEntered source asked.name entered
  pub arguments : List Value
  pub reads : Reads entered.wanted asked.input arguments
  pub words : ℕ
  pub allows : Allows source entered asked.turns (map datum_of arguments) true answer words

-- both say the same of types, perhaps at other places
abbrev pub AlikeTypes : TypeErr → TypeErr → Type 0
AlikeTypes (types.NoType at) (types.NoType place) = Unit {0}
AlikeTypes (types.FunctionPlace at) (types.FunctionPlace place) = Unit {0}
AlikeTypes (types.Ambiguous at) (types.Ambiguous place) = Unit {0}
AlikeTypes err other = ⊥

-- both are refusals of one file by the parser, or of one program because of its types, because of its sizes, or because of a rule of
-- aliases and consumption, perhaps at other places
abbrev pub Alike : Status → Status → Type 0
Alike status end = ((path : Name) × ParserRefusal path status × ParserRefusal path end)
    ⊎ (((sources : List Source_file) × (err : TypeErr) × (other : TypeErr) × AlikeTypes err other × (status ≡ types_status sources err) × (end ≡ types_status sources other))
    ⊎ (((sources : List Source_file) × (err : Misfit) × (other : Misfit) × (status ≡ sizes_status sources err) × (end ≡ sizes_status sources other))
    ⊎ ((sources : List Source_file) × (err : Misuse) × (other : Misuse) × (status ≡ unique_status sources err) × (end ≡ unique_status sources other))))

abbrev pub Agrees : Status → Result Ending Status → Type 0
Agrees status (Ok Told) = status ≡ Done
Agrees status (Ok (Ran asked)) = (answer : Answer) × AllowedFor asked answer × (Tells answer status ⊎ IsLimit status)
Agrees status (Ok (Came answer)) = Tells answer status ⊎ IsLimit status
Agrees status (Ok (Unread end)) = (status ≡ end) ⊎ IsLimit status
Agrees status (Err end) = (status ≡ end) ⊎ Alike status end

-- Where the run comes to an end by what is told, and no fault rose, its status agrees with that, or memory ran out.
abbrev pub Complete : Status → List Name → Outside → Outside → Type 0
Complete status words old new = (end : Result Ending Status) → Comes words old.loader.files old.input.left end → NoFault old new → Agrees status end ⊎ (status ≡ Memory)
