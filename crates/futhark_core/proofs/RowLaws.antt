-- From the rows of the parts of a run to those of the run.
use Rattle.std.proofs.Common.{◌≡◌, ℕ, List, refl, sym, ap, subst, inl, inr}
use Rattle.std.specs.Prelude.{Ok}
use Rattle.fut_io.specs.Outside.{LoaderSeen}
use Rattle.fut_parser.specs.declared.programs.ParseErr.TheVariants as parse
use Rattle.command_words.specs.CommandLine.{Command, command_of}
use Rattle.command_words.specs.declared.words.Action.{Action}
use Rattle.command_words.specs.declared.words.Action.TheVariants.{Run, Check}
use Rattle.source_files.specs.declared.reading.Unread.TheVariants as unread
use Rattle.front.specs.Stages.{Explains}
use Rattle.front.specs.declared.refusals.NameErr.TheVariants as names
use Rattle.front.specs.declared.refusals.Refused.{Refused}
use Rattle.front.specs.declared.refusals.Refused.TheVariants as refused
use Rattle.futhark_status.specs.declared.status.LimitKind.TheVariants as limit
use Rattle.futhark_status.specs.declared.status.Why.{Why}
use Rattle.futhark_status.specs.declared.status.Why.TheVariants as why
use Rattle.futhark_status.specs.declared.status.Status.{Status}
use Rattle.futhark_status.specs.declared.status.Status.TheVariants.{Done, Usage, LoadFault, Text, Names, Types, Sizes, Unique, Entry, Limit, ReadFault, Input, Failure, Turns, WriteFault, Memory}
use Rattle.futhark_core.specs.Acceptance.{Source, AcceptedFile, UnacceptedFile}
use Rattle.futhark_core.specs.Private.Stages.{ExplainsSource, SourceRow, why_of}
use Rattle.futhark_core.specs.Row.{Outside, Streams, ActionRow, ProgramEnded, RunRow, FrontRow, status_for}

-- why the front refused files, as a status tells it
pub told_why : (file : List ℕ) (old new : LoaderSeen) (path : List ℕ) (reason : Refused) → Explains file old new path reason → ExplainsSource file old new path (why_of reason)
told_why file old new path (refused.Unread unread.Load) h = h
told_why file old new path (refused.Unread unread.TooLong) h = h
told_why file old new path (refused.Unread (unread.Lex err)) h = h
told_why file old new path (refused.Unread (unread.Parse err)) h = h
told_why file old new path (refused.Unread (unread.NotBuilt at)) h = h
told_why file old new path (refused.Unread unread.TooMany) h = h
told_why file old new path (refused.Unread unread.Memory) h = absurd h
told_why file old new path refused.ImportCycle h = h
told_why file old new path (refused.Names err) h = h
told_why file old new path (refused.Types err) h = h
told_why file old new path (refused.Misfit err) h = h
told_why file old new path (refused.Misused err) h = h
told_why file old new path refused.Memory h = h

-- ---- the rows of an accepted source

module _ (words : List (List ℕ)) (asked : Command) (source : Source) (old new : Outside) (command : command_of words ≡ Ok asked) (accepted : AcceptedFile asked.file old.loader new.loader source) where
  abbrev before : Streams
  before = record { input = old.input; out = old.out }

  abbrev behind : Streams
  behind = record { input = new.input; out = new.out }

  ended : (status : Status) → ActionRow asked.action status asked source before behind → ProgramEnded status words old new
  ended status row = record { asked = asked; source = source; started = record { command = command; accepted = accepted }; ended = row }

  of_action : (action : Action) → asked.action ≡ action → (status : Status) → ActionRow action status asked source before behind → RunRow status words old new
  of_action Run is Done row = ended Done (subst (λ (a : Action). ActionRow a Done asked source before behind) (sym is) row)
  of_action Run is (Usage word) row = absurd row
  of_action Run is (LoadFault r) row = absurd row
  of_action Run is (Text r) row = absurd row
  of_action Run is (Names r) row = absurd row
  of_action Run is (Types r) row = absurd row
  of_action Run is (Sizes r) row = absurd row
  of_action Run is (Unique r) row = absurd row
  of_action Run is (Entry err name) row = ended (Entry err name) (subst (λ (a : Action). ActionRow a (Entry err name) asked source before behind) (sym is) row)
  of_action Run is (Limit limit.FileBytes) row = absurd row
  of_action Run is (Limit limit.Files) row = absurd row
  of_action Run is (Limit limit.Nesting) row = absurd row
  of_action Run is (Limit limit.Applications) row = absurd row
  of_action Run is (Limit limit.Nodes) row = ended (Limit limit.Nodes) (subst (λ (a : Action). ActionRow a (Limit limit.Nodes) asked source before behind) (sym is) row)
  of_action Run is (Limit limit.Depth) row = ended (Limit limit.Depth) (subst (λ (a : Action). ActionRow a (Limit limit.Depth) asked source before behind) (sym is) row)
  of_action Run is (Limit limit.InputBytes) row = ended (Limit limit.InputBytes) (subst (λ (a : Action). ActionRow a (Limit limit.InputBytes) asked source before behind) (sym is) row)
  of_action Run is ReadFault row = ended ReadFault (subst (λ (a : Action). ActionRow a ReadFault asked source before behind) (sym is) row)
  of_action Run is (Input err) row = ended (Input err) (subst (λ (a : Action). ActionRow a (Input err) asked source before behind) (sym is) row)
  of_action Run is (Failure report path) row = ended (Failure report path) (subst (λ (a : Action). ActionRow a (Failure report path) asked source before behind) (sym is) row)
  of_action Run is (Turns report path) row = ended (Turns report path) (subst (λ (a : Action). ActionRow a (Turns report path) asked source before behind) (sym is) row)
  of_action Run is WriteFault row = ended WriteFault (subst (λ (a : Action). ActionRow a WriteFault asked source before behind) (sym is) row)
  of_action Run is Memory (out, inl input) = record { loader = accepted.same; input = inl input; out = out }
  of_action Run is Memory (out, inr (e, ready)) = record { loader = accepted.same; input = inr (record { asked = asked; source = source; started = record { command = command; accepted = accepted }; action = is; entered = e; ready = ready }); out = out }
  of_action Check is Done row = ended Done (subst (λ (a : Action). ActionRow a Done asked source before behind) (sym is) row)
  of_action Check is WriteFault row = ended WriteFault (subst (λ (a : Action). ActionRow a WriteFault asked source before behind) (sym is) row)
  of_action Check is status row = absurd row

-- ---- the rows of a source that is not accepted

module _ (words : List (List ℕ)) (asked : Command) (old new : Outside) (command : command_of words ≡ Ok asked) (input : new.input ≡ old.input) (out : new.out ≡ old.out) where
  module _ (path : List ℕ) where
    front : (reason : Why) → UnacceptedFile asked.file old.loader new.loader path reason → FrontRow reason words old new path
    front reason unaccepted = record { asked = asked; command = command; unaccepted = unaccepted; input = input; out = out }

    pub after_files : (reason : Why) → ExplainsSource asked.file old.loader new.loader path reason → RunRow (status_for reason path) words old new
    after_files why.Load why_not = front why.Load why_not
    after_files why.FileBytes why_not = record { path = path; row = front why.FileBytes why_not }
    after_files why.Files why_not = record { path = path; row = front why.Files why_not }
    after_files (why.Lex err) why_not = front (why.Lex err) why_not
    after_files (why.Parse (parse.TooDeep place)) why_not = record { path = path; place = place; row = front (why.Parse (parse.TooDeep place)) why_not }
    after_files (why.Parse (parse.Syntax place)) why_not = front (why.Parse (parse.Syntax place)) why_not
    after_files (why.Parse (parse.LeftOut place what)) why_not = front (why.Parse (parse.LeftOut place what)) why_not
    after_files (why.Parse parse.Memory) why_not = front (why.Parse parse.Memory) why_not
    after_files (why.NotBuilt place) why_not = front (why.NotBuilt place) why_not
    after_files why.ImportCycle why_not = front why.ImportCycle why_not
    after_files (why.Names (names.TooManyApplications place)) why_not = record { path = path; place = place; row = front (why.Names (names.TooManyApplications place)) why_not }
    after_files (why.Names (names.Unbound name place)) why_not = front (why.Names (names.Unbound name place)) why_not
    after_files (why.Names (names.Twice name place)) why_not = front (why.Names (names.Twice name place)) why_not
    after_files (why.Names (names.NoMember name place)) why_not = front (why.Names (names.NoMember name place)) why_not
    after_files (why.Names (names.SealMissing name place)) why_not = front (why.Names (names.SealMissing name place)) why_not
    after_files (why.Types err) why_not = front (why.Types err) why_not
    after_files (why.Sizes err) why_not = front (why.Sizes err) why_not
    after_files (why.Unique err) why_not = front (why.Unique err) why_not
    after_files why.Memory why_not = record { loader = why_not; input = inl input; out = out }

-- ---- from what was done with the source to the row

pub after_source : (words : List (List ℕ)) (asked : Command) (old new : Outside) → command_of words ≡ Ok asked → (status : Status) → SourceRow asked status old new → RunRow status words old new
after_source words asked old new command status (inl acted) = of_action words asked acted.source old new command acted.accepted asked.action refl status acted.ended
after_source words asked old new command status (inr r) = subst (λ (s : Status). RunRow s words old new) (sym r.is) (after_files words asked old new command r.input r.out r.path r.reason r.explains)
