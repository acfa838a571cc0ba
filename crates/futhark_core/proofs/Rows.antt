-- The rows of a run that is ready, from what its stages answered.
use Rattle.std.proofs.Common.{◌≡◌, ◌≤◌, inl, inr, ℕ, List, Bool, map, length, true, refl, sym, ap, subst, ◌∙◌}
use Rattle.std.specs.Prelude.{Ok, Err}
use Rattle.fut_io.specs.Outside.{AllRead, Took, TookPart}
use Rattle.fut_scalar.specs.declared.report.FailKind.{FailKind}
use Rattle.fut_scalar.specs.declared.report.FailKind.TheVariants as fail
use Rattle.fut_scalar.specs.declared.report.Report.{Report}
use Rattle.fut_scalar.specs.declared.sizes.ArgType.{ArgType}
use Rattle.fut_scalar.specs.declared.sizes.DataType.{DataType}
use Rattle.fut_value.specs.Data.{Datum}
use Rattle.fut_value.specs.Values.{datum_of}
use Rattle.fut_value.specs.declared.value.Value.{Value}
use Rattle.fut_blocks.specs.declared.block.Program.{Program}
use Rattle.fut_meaning.specs.Answers.{Answer, Gives, Fails}
use Rattle.elab_laws.proofs.Answers.{lawful_files_have_one_answer}
use Rattle.array_data.specs.Held.{held_all}
use Rattle.array_data.specs.declared.data.Data.{Data}
use Rattle.data_values.specs.Met.{each_met}
use Rattle.fut_eval.specs.Evaluates.{Evaluates, came_to, failed}
use Rattle.fut_eval.specs.declared.program.EvalErr.{EvalErr}
use Rattle.fut_eval.specs.declared.program.EvalErr.TheVariants as eval
use Rattle.value_text.specs.Arguments.{Reads, Explains}
use Rattle.value_text.specs.Printing.{data_output}
use Rattle.value_text.specs.declared.reading.TextErr.{TextErr}
use Rattle.value_text.specs.declared.reading.TextErr.TheVariants as text
use Rattle.command_words.specs.CommandLine.{Command}
use Rattle.futhark_core.specs.Acceptance.{Source}
use Rattle.unfolded_runs.specs.Results.{Are_arguments, components_of, opened}
use Rattle.elab_scopes.specs.Imports.{Source_file, item, path_of}
use Rattle.futhark_status.specs.declared.status.Status.{Status}
use Rattle.futhark_status.specs.declared.status.Status.TheVariants.{Done, Memory, WriteFault}
use Rattle.futhark_core.specs.Meaning.{Entered, Allows, Alone, told_of}
use Rattle.futhark_core.specs.Private.Stages.{Is_failed_status, Runs_for, input_status, kind_status, report_status}
use Rattle.futhark_core.specs.Row.{Streams, IsReady, ProgramRow, ComesTo, most_input}

module _ (asked : Command) (source : Source) (e : Entered) (ready : IsReady asked source e) (old new : Streams) (params : List DataType) (same : e.params ≡ params) (wants : List ArgType) (wanted_same : e.wanted ≡ wants) where
  pub unread : (err : TextErr) (bytes : List ℕ) → AllRead old.input new.input bytes → length bytes ≤ most_input → Explains wants bytes err → new.out ≡ old.out → ProgramRow (input_status err) asked source old new
  unread text.Memory bytes read short x out = (out, inr (e, ready))
  unread (text.BadText at) bytes read short x out = record { entered = e; ready = ready; bytes = bytes; read = read; short = short; refuses = rw wanted_same x; out = out }
  unread (text.WrongType at) bytes read short x out = record { entered = e; ready = ready; bytes = bytes; read = read; short = short; refuses = rw wanted_same x; out = out }
  unread (text.OutOfRange at) bytes read short x out = record { entered = e; ready = ready; bytes = bytes; read = read; short = short; refuses = rw wanted_same x; out = out }
  unread (text.Irregular at) bytes read short x out = record { entered = e; ready = ready; bytes = bytes; read = read; short = short; refuses = rw wanted_same x; out = out }
  unread (text.TooLarge at) bytes read short x out = record { entered = e; ready = ready; bytes = bytes; read = read; short = short; refuses = rw wanted_same x; out = out }
  unread (text.SizeClash param have want) bytes read short x out = record { entered = e; ready = ready; bytes = bytes; read = read; short = short; refuses = rw wanted_same x; out = out }
  unread (text.Missing param) bytes read short x out = record { entered = e; ready = ready; bytes = bytes; read = read; short = short; refuses = rw wanted_same x; out = out }
  unread (text.Extra at) bytes read short x out = record { entered = e; ready = ready; bytes = bytes; read = read; short = short; refuses = rw wanted_same x; out = out }

  module _ (p : Program) (runs : Runs_for source e asked.turns p) (bytes : List ℕ) (read : AllRead old.input new.input bytes) (short : length bytes ≤ most_input) (arguments : List Value) (reads : Reads wants bytes arguments) (typed : Are_arguments params (map datum_of arguments)) where
    abbrev pub given : List Datum
    given = map datum_of arguments

    of : Are_arguments e.params given
    of = rw same typed

    -- where files lawfully allow an answer, it is the one that is allowed
    alone : (answer : Answer) (words : ℕ) → Allows source e asked.turns given true answer words → Alone source e asked.turns given answer
    alone answer words allows other lawful =
        sym (lawful_files_have_one_answer source.files (told_of e) asked.turns e.number given other answer lawful.0 words true lawful.1 allows.0)

    by_kind : (kind : FailKind) (report : Report) (path : List ℕ) → report.kind ≡ kind → ComesTo asked source old.input new.input (Fails report) → path ≡ path_of (item source.files report.place.file) → new.out ≡ old.out → ProgramRow (kind_status kind report path) asked source old new
    by_kind fail.Division report path k c is out = ((λ t. absurd (let z : fail.Division ≡ fail.Turns = sym k ∙ t in cc)), record { path_is = is; comes = c; out = out })
    by_kind fail.Power report path k c is out = ((λ t. absurd (let z : fail.Power ≡ fail.Turns = sym k ∙ t in cc)), record { path_is = is; comes = c; out = out })
    by_kind fail.Bounds report path k c is out = ((λ t. absurd (let z : fail.Bounds ≡ fail.Turns = sym k ∙ t in cc)), record { path_is = is; comes = c; out = out })
    by_kind fail.Assert report path k c is out = ((λ t. absurd (let z : fail.Assert ≡ fail.Turns = sym k ∙ t in cc)), record { path_is = is; comes = c; out = out })
    by_kind fail.Size report path k c is out = ((λ t. absurd (let z : fail.Size ≡ fail.Turns = sym k ∙ t in cc)), record { path_is = is; comes = c; out = out })
    by_kind fail.Range report path k c is out = ((λ t. absurd (let z : fail.Range ≡ fail.Turns = sym k ∙ t in cc)), record { path_is = is; comes = c; out = out })
    by_kind fail.TooLarge report path k c is out = ((λ t. absurd (let z : fail.TooLarge ≡ fail.Turns = sym k ∙ t in cc)), record { path_is = is; comes = c; out = out })
    by_kind fail.Turns report path k c is out = (k, record { path_is = is; comes = c; out = out })

    failing : (report : Report) → Evaluates asked.turns p given (Err (eval.Failed report)) → new.out ≡ old.out → ProgramRow (report_status report (path_of (item source.files report.place.file))) asked source old new
    failing report (failed f m) out =
        by_kind report.kind report (path_of (item source.files report.place.file)) refl (record { entered = e; ready = ready; bytes = bytes; read = read; short = short; arguments = arguments; reads = rw wanted_same reads; words = f; allows = runs.fails given of report f m; alone = alone (Fails report) f (runs.fails given of report f m) }) refl out

    without_memory : (status : Status) → status ≡ Memory → new.out ≡ old.out → ProgramRow status asked source old new
    without_memory status is out = subst (λ (s : Status). ProgramRow s asked source old new) (sym is) (out, inr (e, ready))

    pub unevaluated : (err : EvalErr) (files : List Source_file) → source.files ≡ files → (status : Status) → Evaluates asked.turns p given (Err err) → Is_failed_status files err status → new.out ≡ old.out → ProgramRow status asked source old new
    unevaluated (eval.Failed report) files these status gave (inl is) out =
        subst (λ (s : Status). ProgramRow s asked source old new) (sym (is ∙ ap (λ fs. report_status report (path_of (item fs report.place.file))) (sym these))) (failing report gave out)
    unevaluated (eval.Failed report) files these status gave (inr is) out = without_memory status is out
    unevaluated eval.Memory files these status gave is out = without_memory status is out

    -- the components that are given, opened, are those of a result that the files allow
    allowed : (vs : List Data) → Evaluates asked.turns p given (Ok vs) → (result : Datum) × (opened e.tuple (held_all vs) ≡ components_of e.tuple result) × (words : ℕ) × Allows source e asked.turns given true (Gives result) words
    allowed vs (came_to f m) = let r = runs.gives given of (held_all vs) f m in (r.0, r.1, f, r.2)

    -- the text of components that are given is the text of a result that the files allow
    module _ (tuple : Bool) (types : List DataType) (same_tuple : e.tuple ≡ tuple) (same_types : e.results ≡ types) (vs : List Data) (gave : Evaluates asked.turns p given (Ok vs)) (items : List ℕ) (text : items ≡ data_output (each_met types (opened tuple (held_all vs)))) where
      abbrev result : Datum
      result = (allowed vs gave).0

      abbrev came : ComesTo asked source old.input new.input (Gives result)
      came = record { entered = e; ready = ready; bytes = bytes; read = read; short = short; arguments = arguments; reads = rw wanted_same reads; words = (allowed vs gave).2; allows = (allowed vs gave).3; alone = alone (Gives result) (allowed vs gave).2 (allowed vs gave).3 }

      text_is : items ≡ data_output (each_met e.results (components_of e.tuple result))
      text_is =
          text ∙ ap (λ z. data_output (each_met z (opened tuple (held_all vs)))) (sym same_types)
          ∙ ap (λ z. data_output (each_met e.results (opened z (held_all vs)))) (sym same_tuple)
          ∙ ap (λ z. data_output (each_met e.results z)) (allowed vs gave).1

      pub done : Took old.out new.out items → ProgramRow Done asked source old new
      done out = record { result = result; comes = came; out = subst (Took old.out new.out) text_is out }

      pub unwritten : TookPart old.out new.out items → ProgramRow WriteFault asked source old new
      unwritten out = record { result = result; comes = came; out = subst (TookPart old.out new.out) text_is out }
