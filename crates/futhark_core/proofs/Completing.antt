-- A row of a run in which no fault rose agrees with all that the run comes to.
use Rattle.std.proofs.Common.{◌≡◌, ◌≤◌, ◌<◌, ℕ, List, ◌∷◌, length, map, true, refl, sym, ap, subst, ◌∙◌, arith, inl, inr, ◌⊎◌}
use Rattle.std.specs.Prelude.{Option, None, Some, IfSome, Result, Ok, Err}
use Rattle.fut_value.specs.Values.{datum_of}
use Rattle.fut_value.specs.declared.value.Value.{Value}
use Rattle.fut_meaning.specs.Answers.{Answer, Gives, Fails}
use Rattle.std.specs.List.{range_with_len}
use Rattle.fut_scalar.specs.declared.place.Place.{Place}
use Rattle.fut_lexer.specs.declared.lexer.LexErr.{LexErr}
use Rattle.fut_ast.specs.declared.module.Program.{Program}
use Rattle.fut_parser.specs.declared.programs.ParseErr.{ParseErr}
use Rattle.fut_parser.specs.declared.programs.ParseErr.TheVariants as parse
use Rattle.elab_scopes.specs.Names.{Refusal}
use Rattle.elab_scopes.specs.Programs.{FlatProgram}
use Rattle.elab_scopes.specs.Elaboration.{Elaborates}
use Rattle.elab_scopes.specs.Imports.{Source_file}
use Rattle.file_order.specs.Order.{First_cycle}
use Rattle.source_files.specs.Claims.{Is_outside}
use Rattle.source_files.specs.Files.{Are_read, Stops}
use Rattle.source_files.specs.declared.reading.Unread.{Unread}
use Rattle.source_files.specs.declared.reading.Unread.TheVariants as unread
use Rattle.module_elab.specs.Elaborated.{program_of as flat_of}
use Rattle.typed_programs.specs.declared.typed.TypeErr.{TypeErr}
use Rattle.typed_programs.specs.declared.typed.TypeErr.TheVariants as types
use Rattle.sized_programs.specs.declared.misfit.Misfit.{Misfit}
use Rattle.unique_programs.specs.declared.misuse.Misuse.{Misuse}
use Rattle.front.specs.Acceptance.{IsPrelude, IsUntyped, Resolves, Unacceptable, path_of_file, prelude_of}
use Rattle.front.specs.Entries.{HasEntry, HasNoEntry}
use Rattle.front.specs.declared.refusals.NameErr.{NameErr}
use Rattle.front.specs.declared.refusals.NameErr.TheVariants as names
use Rattle.front.specs.declared.refusals.Refused.TheVariants as refused
use Rattle.front.proofs.Entering.{has_entry, has_no_entry}
use Rattle.command_words.specs.CommandLine.{Command, command_of}
use Rattle.command_words.specs.declared.words.Action.{Action}
use Rattle.command_words.specs.declared.words.Action.TheVariants.{Run, Check}
use Rattle.value_text.specs.Arguments.{Reads, Refuses}
use Rattle.value_text.specs.declared.reading.TextErr.{TextErr}
use Rattle.value_text.specs.declared.reading.TextErr.TheVariants as text
use Rattle.futhark_status.specs.declared.status.EntryErr.{EntryErr}
use Rattle.futhark_status.specs.declared.status.EntryErr.TheVariants.{NoEntry, OutsideProfile}
use Rattle.futhark_status.specs.declared.status.LimitKind.TheVariants as limit
use Rattle.futhark_status.specs.declared.status.Why.{Why}
use Rattle.futhark_status.specs.declared.status.Why.TheVariants as why
use Rattle.futhark_status.specs.declared.status.Status.{Status}
use Rattle.futhark_status.specs.declared.status.Status.TheVariants.{Done, Usage, LoadFault, Text, Names, Types, Sizes, Unique, Entry, Limit, ReadFault, Input, Failure, Turns, WriteFault, Memory}
use Rattle.futhark_core.specs.Acceptance.{Source, AcceptedFile}
use Rattle.futhark_core.specs.Entering.{NotEntered}
use Rattle.entry_sizes.proofs.Wanting.{are_wanted}
use Rattle.typed_programs.specs.EntryTypes.{number_of}
use Rattle.futhark_core.specs.Meaning.{Entered, IsEntered, Allows, Lawfully_allows, Alone, Answers}
use Rattle.futhark_core.specs.Row.{Outside, Streams, RunRow, TextRow, NamesRow, TypesRow, SizesRow, UniqueRow, LoadRow, FrontRow, Started, InputRow, ActionRow, ProgramRow, CheckRow, status_for}
use Rattle.futhark_core.specs.Comes.{Accepted, Acted, Agrees, AskedRun, Done_with, Argued, Comes, Commanded, Complete, Came, Ending, Entering, FilesRead, IsLimit, Lacks, Named, NoFault, Onward, ParserRefusal, Ran, Sized, Stage, Tells, Then, Told, Typed, Unbroken, Uncycled, Unread as Unread_input, names_status, refusal_of, sizes_status, types_status, unique_status}
use Rattle.futhark_core.proofs.Misfitting.{misfits, typable as misfit_typable}
use Rattle.futhark_core.proofs.Misusing.{breaks, typable}
use Rattle.futhark_core.proofs.Reading.{types_of_reading}
use Rattle.futhark_core.proofs.Settling.{EndsAs, Holds, Settles, SizesRefusal, TypesRefusal, UniqueRefusal, commanded_err, commanded_ok, named_err, named_ok, sized_err, sized_ok, then_ends, then_err, then_ok, typed_err, typed_ok, unbroken_err, unbroken_ok}
use Rattle.futhark_core.proofs.Filing.{Ends_so, moved, read_ok, read_stops, uncycled_err, uncycled_ok}

-- ---- entries

module _ (source : Source) (name : List ℕ) (turns : ℕ) (resolved : Elaborates source.files (Ok (flat_of source.flat))) where
  abbrev flat : FlatProgram
  flat = flat_of source.flat

  -- where there is none, there is none
  none_or_one : (at : ℕ) → HasNoEntry flat name → HasEntry flat name at → ⊥
  none_or_one at none one = let fails = none at one.definition one.is in let holds = one.entry in absurd cc

  module _ (e : Entered) (is : IsEntered source name e) where
    here : HasEntry flat name is.at
    here = has_entry source.flat name is.at is.begins

    -- it goes on to what the arguments come to
    behind_entry : (left : Option (List ℕ)) (end : Result Ending Status) (P : Type 0) → Then (Entering flat name) (λ entered. Argued entered name turns left) end → (Argued flat name turns left end → P) → P
    behind_entry left end P run next = go run.0 run.1 run.2
      where
        go : (middle : Result FlatProgram Status) → Entering flat name middle → Onward middle (λ entered. Argued entered name turns left) end → P
        go (Ok same) p on = next (subst (λ f. Argued f name turns left end) p.2 on)
        go (Err status) (inl p) on = absurd (none_or_one is.at p.0 here)
        go (Err status) (inr p) on = absurd (p.1 source refl e is)

    -- the files allow this outcome for what the input reads as
    ran_as : (left : List ℕ) (asked : AskedRun) → asked ≡ record { flat = flat; name = name; turns = turns; input = left } → (status : Status) (outcome : Answer) (values : List Value) → Reads e.wanted left values → (words : ℕ) → Allows source e turns (map datum_of values) true outcome words → Tells outcome status ⊎ IsLimit status → Agrees status (Ok (Ran asked))
    ran_as left asked same status outcome values reads words allows tells = subst (λ z. Agrees status (Ok (Ran z))) (sym same)
        (outcome, record { source = source; flat = refl; files = resolved; entered = e; is_entered = is; arguments = values; reads = reads; words = words; allows = allows }, tells)

    -- a limit of the program agrees with each end behind the entry
    past_limit : (status : Status) → IsLimit status → Answers source e turns → (left : Option (List ℕ)) (end : Result Ending Status) → Argued flat name turns left end → Agrees status end
    past_limit status past answers None end p = absurd p
    past_limit status past answers (Some left) (Ok Told) p = absurd p
    past_limit status past answers (Some left) (Ok (Ran asked)) p =
        let read = p.2 source refl e is in
        let some = answers (map datum_of read.0) (types_of_reading e.params e.wanted (are_wanted e.params (is.typed.sizes (number_of source.flat is.at)) e.wanted is.wants) left read.0 read.1) in
        ran_as left asked p.0 status some.0 read.0 read.1 some.1 some.2 (inr past)
    past_limit status past answers (Some left) (Ok (Came outcome)) p = inr past
    past_limit status past answers (Some left) (Ok (Unread_input st)) p = inr past
    past_limit status past answers (Some left) (Err st) p = absurd p

    -- the input is too long
    too_long : (left : Option (List ℕ)) → IfSome left (λ left. 67108864 < length left) → (end : Result Ending Status) → Argued flat name turns left end → Agrees (Limit limit.InputBytes) end
    too_long None long end p = absurd p
    too_long (Some left) long (Ok Told) p = absurd p
    too_long (Some left) long (Ok (Ran asked)) p = let few = p.1 in absurd (omega arith)
    too_long (Some left) long (Ok (Came outcome)) p = let few = p.0 in absurd (omega arith)
    too_long (Some left) long (Ok (Unread_input st)) (inl p) = inl (sym p.1)
    too_long (Some left) long (Ok (Unread_input st)) (inr p) = let few = p.1 in absurd (omega arith)
    too_long (Some left) long (Err st) p = absurd p

    -- the input is refused
    refused_input : (err : TextErr) (bytes : List ℕ) (left : Option (List ℕ)) → IfSome left (λ left. bytes ≡ left) → length bytes ≤ 67108864 → Refuses e.wanted bytes err → (end : Result Ending Status) → Argued flat name turns left end → Agrees (Input err) end
    refused_input err bytes None all short refuses end p = absurd p
    refused_input err bytes (Some left) all short refuses (Ok Told) p = absurd p
    refused_input err bytes (Some left) all short refuses (Ok (Ran asked)) p =
        let own = rw all at refuses in let reads = p.2 source refl e is in let other = reads.1 in absurd cc
    refused_input err bytes (Some left) all short refuses (Ok (Came outcome)) p =
        let own = rw all at refuses in let reads = p.1 source refl resolved e is in let other = reads.1 in absurd cc
    refused_input err bytes (Some left) all short refuses (Ok (Unread_input st)) (inl p) = let l = ap length all in let many = p.0 in absurd (omega arith)
    refused_input err bytes (Some left) all short refuses (Ok (Unread_input st)) (inr p) =
        let own = rw all at refuses in let other = p.2 source refl e is in let same : p.0 ≡ err = cc in inl (ap Input (sym same) ∙ sym p.3)
    refused_input err bytes (Some left) all short refuses (Err st) p = absurd p

    -- the program came to this answer, and the files lawfully allow no other
    ran_to : (status : Status) (outcome : Answer) → Tells outcome status → (bytes : List ℕ) (values : List Value) (words : ℕ) → Allows source e turns (map datum_of values) true outcome words → Alone source e turns (map datum_of values) outcome → (left : Option (List ℕ)) → IfSome left (λ left. bytes ≡ left) → length bytes ≤ 67108864 → Reads e.wanted bytes values → (end : Result Ending Status) → Argued flat name turns left end → Agrees status end
    ran_to status outcome tells bytes values words allows alone None all short reads end p = absurd p
    ran_to status outcome tells bytes values words allows alone (Some left) all short reads (Ok Told) p = absurd p
    ran_to status outcome tells bytes values words allows alone (Some left) all short reads (Ok (Ran asked)) p =
        let own = rw all at reads in ran_as left asked p.0 status outcome values own words allows (inl tells)
    ran_to status outcome tells bytes values words allows alone (Some left) all short reads (Ok (Came other)) p =
        let own = rw all at reads in
        let read = p.1 source refl resolved e is in
        let same_reading = read.1 in
        let same : read.0 ≡ values = cc in
        inl (subst (λ z. Tells z status) (sym (alone other (subst (λ z. Lawfully_allows source e turns (map datum_of z) other) same read.2))) tells)
    ran_to status outcome tells bytes values words allows alone (Some left) all short reads (Ok (Unread_input st)) (inl p) = let l = ap length all in let many = p.0 in absurd (omega arith)
    ran_to status outcome tells bytes values words allows alone (Some left) all short reads (Ok (Unread_input st)) (inr p) =
        let own = rw all at reads in let other = p.2 source refl e is in absurd cc
    ran_to status outcome tells bytes values words allows alone (Some left) all short reads (Err st) p = absurd p

  -- no entry
  unentered : (err : EntryErr) → NotEntered source name err → (left : Option (List ℕ)) (end : Result Ending Status) → Then (Entering flat name) (λ entered. Argued entered name turns left) end → Agrees (Entry err name) end
  unentered NoEntry none left end run = go run.0 run.1 run.2
    where
      go : (middle : Result FlatProgram Status) → Entering flat name middle → Onward middle (λ entered. Argued entered name turns left) end → Agrees (Entry NoEntry name) end
      go (Ok same) p on = absurd (none_or_one p.0.0 (has_no_entry source.flat name none) p.0.1)
      go (Err st) (inl p) on = subst (Agrees (Entry NoEntry name)) (sym on) (inl (sym p.1))
      go (Err st) (inr p) on = absurd (none_or_one p.0.0 (has_no_entry source.flat name none) p.0.1)
  unentered OutsideProfile outside left end run = go run.0 run.1 run.2
    where
      go : (middle : Result FlatProgram Status) → Entering flat name middle → Onward middle (λ entered. Argued entered name turns left) end → Agrees (Entry OutsideProfile name) end
      go (Ok same) p on = absurd (p.1 source refl outside)
      go (Err st) (inl p) on = absurd (none_or_one outside.at p.0 (has_entry source.flat name outside.at outside.begins))
      go (Err st) (inr p) on = subst (Agrees (Entry OutsideProfile name)) (sym on) (inl (sym p.2))

-- ---- why files are not accepted

unnamed : (sources : List Source_file) (err : NameErr) → Unacceptable sources (refused.Names err) → Resolves sources (Err (refusal_of err))
unnamed sources (names.Unbound name at) u = u
unnamed sources (names.Twice name at) u = u
unnamed sources (names.NoMember name at) u = u
unnamed sources (names.SealMissing name at) u = u
unnamed sources (names.TooManyApplications at) u = u

untyped_so : (sources : List Source_file) (err : TypeErr) → Unacceptable sources (refused.Types err) → IsUntyped sources (Lacks err)
untyped_so sources (types.NoType at) u = u
untyped_so sources (types.FunctionPlace at) u = u
untyped_so sources (types.Ambiguous at) u = u
untyped_so sources types.Memory u = absurd u

module _ (words : List (List ℕ)) (old new : Outside) (quiet : NoFault old new) where
  abbrev files : Option (List (List ℕ × List ℕ))
  files = old.loader.files

  -- the status agrees with all that the run comes to
  abbrev Ends : Status → Type 0
  Ends status = Holds (Comes words files old.input.left) (Agrees status)

  usage : (word : ℕ) → command_of words ≡ Err word → Ends (Usage word)
  usage word e a comes = subst (Agrees (Usage word)) (sym (then_err (Commanded words) _ (Usage word) (commanded_err words word e) a comes)) (inl refl)

  module _ (asked : Command) (command : command_of words ≡ Ok asked) where
    -- of the accepted file this holds, so of the whole
    onward : (P : Result Ending Status → Type 0) → Holds (Then (Accepted files asked.file) (λ flat. Acted asked old.input.left flat)) P → Holds (Comes words files old.input.left) P
    onward P h = then_ok (Commanded words) _ P asked (commanded_ok words asked command) h

    -- the source is refused with this status
    refused_with : (status : Status) → Settles (Accepted files asked.file) (Err status) → Ends status
    refused_with status settles a comes = subst (Agrees status)
        (sym (onward (λ end. end ≡ Err status) (then_err (Accepted files asked.file) _ status settles) a comes)) (inl refl)

    -- a file is refused by the parser
    unspelled : (err : ParseErr) (path : List ℕ) → Holds (Accepted files asked.file) (EndsAs (ParserRefusal path)) → Ends (status_for (why.Parse err) path)
    unspelled err path ends a comes = go a (onward (EndsAs (ParserRefusal path)) (then_ends (Accepted files asked.file) _ (ParserRefusal path) ends) a comes)
      where
        go : (a : Result Ending Status) → EndsAs (ParserRefusal path) a → Agrees (status_for (why.Parse err) path) a
        go (Ok end) p = absurd p
        go (Err status) p = inr (inl (path, (err, refl), p))

    module _ (sources : List Source_file) where
      -- its types are refused
      untyped : (err : TypeErr) → Holds (Accepted files asked.file) (EndsAs (TypesRefusal sources err)) → Ends (types_status sources err)
      untyped err ends a comes = go a (onward (EndsAs (TypesRefusal sources err)) (then_ends (Accepted files asked.file) _ (TypesRefusal sources err) ends) a comes)
        where
          go : (a : Result Ending Status) → EndsAs (TypesRefusal sources err) a → Agrees (types_status sources err) a
          go (Ok end) p = absurd p
          go (Err status) p = inr (inr (inl (sources, err, p.0, p.1, refl, p.2)))

      -- it has no sizing
      misfitting : (err : Misfit) → Holds (Accepted files asked.file) (EndsAs (SizesRefusal sources)) → Ends (sizes_status sources err)
      misfitting err ends a comes = go a (onward (EndsAs (SizesRefusal sources)) (then_ends (Accepted files asked.file) _ (SizesRefusal sources) ends) a comes)
        where
          go : (a : Result Ending Status) → EndsAs (SizesRefusal sources) a → Agrees (sizes_status sources err) a
          go (Ok end) p = absurd p
          go (Err status) p = inr (inr (inr (inl (sources, err, p.0, refl, p.1))))

      -- a rule of aliases and consumption is broken
      overwrites : (err : Misuse) → Holds (Accepted files asked.file) (EndsAs (UniqueRefusal sources)) → Ends (unique_status sources err)
      overwrites err ends a comes = go a (onward (EndsAs (UniqueRefusal sources)) (then_ends (Accepted files asked.file) _ (UniqueRefusal sources) ends) a comes)
        where
          go : (a : Result Ending Status) → EndsAs (UniqueRefusal sources) a → Agrees (unique_status sources err) a
          go (Ok end) p = absurd p
          go (Err status) p = inr (inr (inr (inr (sources, err, p.0, refl, p.1))))

    -- ---- the files, where they are told

    -- untold files come to nothing
    untold : (o : Option (List (List ℕ × List ℕ))) → files ≡ o → (P : Result FlatProgram Status → Type 0) → ((told : List (List ℕ × List ℕ)) → o ≡ Some told → Holds (Accepted (Some told) asked.file) P) → Holds (Accepted files asked.file) P
    untold o is P h = subst (λ fs. Holds (Accepted fs asked.file) P) (sym is) (by o h)
      where
        by : (o : Option (List (List ℕ × List ℕ))) → ((told : List (List ℕ × List ℕ)) → o ≡ Some told → Holds (Accepted (Some told) asked.file) P) → Holds (Accepted o asked.file) P
        by None h a run = absurd run.1
        by (Some told) h a run = h told refl a run

    -- reading ends, as the row says
    reading : (Q : Status → Type 0) (path : List ℕ) (reason : Unread) → Stops asked.file old.loader new.loader path reason → (Is_outside reason → ⊥) → ((status : Status) → Ends_so reason path status → Q status) → Holds (Accepted files asked.file) (EndsAs Q)
    reading Q path reason s inside to = untold files refl (EndsAs Q) (λ told is. then_ends (FilesRead (Some told) asked.file) _ Q (weaker (read_stops told old.loader new.loader is asked.file path reason s inside)))
      where
        weaker : {A : Type 0} {stage : Stage A} → Holds stage (EndsAs (Ends_so reason path)) → Holds stage (EndsAs Q)
        weaker h (Ok a) p = h (Ok a) p
        weaker h (Err status) p = to status (h (Err status) p)

    -- it ends with this status alone
    reading_with : (status : Status) (path : List ℕ) (reason : Unread) → Stops asked.file old.loader new.loader path reason → (Is_outside reason → ⊥) → ((other : Status) → Ends_so reason path other → other ≡ status) → Ends status
    reading_with status path reason s inside to a comes = by a (onward (EndsAs (λ other. other ≡ status)) (then_ends (Accepted files asked.file) _ (λ other. other ≡ status) (reading (λ other. other ≡ status) path reason s inside to)) a comes)
      where
        by : (a : Result Ending Status) → EndsAs (λ other. other ≡ status) a → Agrees status a
        by (Ok end) p = absurd p
        by (Err other) p = inl (sym p)

    -- ---- behind the files

    module _ (sources : List Source_file) (read : Are_read old.loader asked.file sources) where
      -- what comes behind the names
      abbrev Typed_apart : FlatProgram → Stage FlatProgram
      Typed_apart flat = Then (Typed sources flat) (λ typed. Then (Sized sources typed) (λ sized. Unbroken sources sized))

      -- of what the files come to this holds, so of the program
      from_files : (P : Result FlatProgram Status → Type 0) → Holds (Then (Uncycled sources) (λ same. Then (Named same) (λ flat. Then (Typed same flat) (λ typed. Then (Sized same typed) (λ sized. Unbroken same sized))))) P → Holds (Accepted files asked.file) P
      from_files P h = untold files refl P (λ told is. then_ok (FilesRead (Some told) asked.file) _ P sources (read_ok told asked.file sources (moved told old.loader is asked.file sources read)) h)

      -- of what their names come to
      from_names : (answer : Result FlatProgram Refusal) → Resolves sources answer → (P : Result FlatProgram Status → Type 0) → Holds (Then (Named sources) Typed_apart) P → Holds (Accepted files asked.file) P
      from_names answer r P h = from_files P (then_ok (Uncycled sources) _ P sources (uncycled_ok sources r.prelude r.is_prelude r.acyclic) h)

      named_so : (err : NameErr) → Unacceptable sources (refused.Names err) → Ends (names_status sources err)
      named_so err u =
          let r = unnamed sources err u in
          let status = names_status sources err in
          refused_with status (from_names (Err (refusal_of err)) r (λ end. end ≡ Err status) (then_err (Named sources) _ status (named_err sources err r)))

      typed_so : (err : TypeErr) → Unacceptable sources (refused.Types err) → Ends (types_status sources err)
      typed_so err u =
          let t = untyped_so sources err u in
          untyped sources err (from_names (Ok t.flat) t.resolves (EndsAs (TypesRefusal sources err))
          (then_ok (Named sources) _ (EndsAs (TypesRefusal sources err)) t.flat (named_ok sources t.flat t.resolves)
          (then_ends (Typed sources t.flat) _ (TypesRefusal sources err) (typed_err sources t.flat err t.lacks))))

      sizes_so : (err : Misfit) → Unacceptable sources (refused.Misfit err) → Ends (sizes_status sources err)
      sizes_so err u =
          let m = misfits sources err u in
          misfitting sources err (from_names (Ok m.flat) m.resolves (EndsAs (SizesRefusal sources))
          (then_ok (Named sources) _ (EndsAs (SizesRefusal sources)) m.flat (named_ok sources m.flat m.resolves)
          (then_ok (Typed sources m.flat) _ (EndsAs (SizesRefusal sources)) m.flat (typed_ok sources m.flat (misfit_typable m.flat m.N m.are m.refusal m.first))
          (then_ends (Sized sources m.flat) _ (SizesRefusal sources) (sized_err sources m.flat m.N m.are m.order m.refusal m.first)))))

      unique_so : (err : Misuse) → Unacceptable sources (refused.Misused err) → Ends (unique_status sources err)
      unique_so err u =
          let b = breaks sources err u in
          overwrites sources err (from_names (Ok b.flat) b.resolves (EndsAs (UniqueRefusal sources))
          (then_ok (Named sources) _ (EndsAs (UniqueRefusal sources)) b.flat (named_ok sources b.flat b.resolves)
          (then_ok (Typed sources b.flat) _ (EndsAs (UniqueRefusal sources)) b.flat (typed_ok sources b.flat (typable b.flat b.N b.are b.rule b.first))
          (then_ok (Sized sources b.flat) _ (EndsAs (UniqueRefusal sources)) b.flat (sized_ok sources b.flat b.sized)
          (unbroken_err sources b.flat b.N b.are b.order b.rule b.first)))))

      cycled : (prelude : Program) → IsPrelude prelude → (number : ℕ) → First_cycle (prelude_of prelude ∷ sources) number (range_with_len 1 (length sources)) → Ends (status_for why.ImportCycle (path_of_file sources number))
      cycled prelude is number cycle =
          let status = status_for why.ImportCycle (path_of_file sources number) in
          refused_with status (from_files (λ end. end ≡ Err status) (then_err (Uncycled sources) _ status (uncycled_err sources prelude is number cycle)))

  -- ---- rows of the front

  front_lex : (err : LexErr) (path : List ℕ) → FrontRow (why.Lex err) words old new path → Ends (status_for (why.Lex err) path)
  front_lex err path row = reading_with row.asked row.command (status_for (why.Lex err) path) path (unread.Lex err) row.unaccepted outside (λ other e. e)
    where
      outside : Is_outside (unread.Lex err) → ⊥
      outside (inl e) = absurd (let z : unread.Lex err ≡ unread.Load = e in cc)
      outside (inr e) = absurd (let z : unread.Lex err ≡ unread.Memory = e in cc)

  front_parse : (err : ParseErr) (path : List ℕ) → FrontRow (why.Parse err) words old new path → Ends (status_for (why.Parse err) path)
  front_parse err path row = unspelled row.asked row.command err path (reading row.asked row.command (ParserRefusal path) path (unread.Parse err) row.unaccepted outside (λ other e. e))
    where
      outside : Is_outside (unread.Parse err) → ⊥
      outside (inl e) = absurd (let z : unread.Parse err ≡ unread.Load = e in cc)
      outside (inr e) = absurd (let z : unread.Parse err ≡ unread.Memory = e in cc)

  front_built : (place : Place) (path : List ℕ) → FrontRow (why.NotBuilt place) words old new path → Ends (status_for (why.NotBuilt place) path)
  front_built place path row = reading_with row.asked row.command (status_for (why.NotBuilt place) path) path (unread.NotBuilt place) row.unaccepted outside (λ other e. e)
    where
      outside : Is_outside (unread.NotBuilt place) → ⊥
      outside (inl e) = absurd (let z : unread.NotBuilt place ≡ unread.Load = e in cc)
      outside (inr e) = absurd (let z : unread.NotBuilt place ≡ unread.Memory = e in cc)

  front_long : (path : List ℕ) → FrontRow why.FileBytes words old new path → Ends (Limit limit.FileBytes)
  front_long path row = reading_with row.asked row.command (Limit limit.FileBytes) path unread.TooLong row.unaccepted outside (λ other e. e)
    where
      outside : Is_outside unread.TooLong → ⊥
      outside (inl e) = absurd (let z : unread.TooLong ≡ unread.Load = e in cc)
      outside (inr e) = absurd (let z : unread.TooLong ≡ unread.Memory = e in cc)

  front_many : (path : List ℕ) → FrontRow why.Files words old new path → Ends (Limit limit.Files)
  front_many path row = reading_with row.asked row.command (Limit limit.Files) path unread.TooMany row.unaccepted outside (λ other e. e)
    where
      outside : Is_outside unread.TooMany → ⊥
      outside (inl e) = absurd (let z : unread.TooMany ≡ unread.Load = e in cc)
      outside (inr e) = absurd (let z : unread.TooMany ≡ unread.Memory = e in cc)

  front_cycle : (path : List ℕ) → FrontRow why.ImportCycle words old new path → Ends (status_for why.ImportCycle path)
  front_cycle path row = let c = row.unaccepted in
      subst (λ p. Ends (status_for why.ImportCycle p)) (sym c.path_is) (cycled row.asked row.command c.files c.read c.prelude c.is_prelude c.number c.cycle)

  -- ---- an accepted source

  module _ (asked : Command) (source : Source) (command : command_of words ≡ Ok asked) (a : AcceptedFile asked.file old.loader new.loader source) where
    accepted : Settles (Accepted files asked.file) (Ok (flat_of source.flat))
    accepted =
        let p = a.acceptable in let fs = p.resolved.files in
        from_names asked command fs p.resolved.read (Ok (flat_of source.flat)) p.resolved.resolves (λ end. end ≡ Ok (flat_of source.flat))
        (then_ok (Named fs) _ (λ end. end ≡ Ok (flat_of source.flat)) (flat_of source.flat) (named_ok fs (flat_of source.flat) p.resolved.resolves)
        (then_ok (Typed fs (flat_of source.flat)) _ (λ end. end ≡ Ok (flat_of source.flat)) (flat_of source.flat) (typed_ok fs (flat_of source.flat) p.typed)
        (then_ok (Sized fs (flat_of source.flat)) _ (λ end. end ≡ Ok (flat_of source.flat)) (flat_of source.flat) (sized_ok fs (flat_of source.flat) p.sized)
        (unbroken_ok fs (flat_of source.flat) p.unbroken))))

  refused_text : (reason : Why) (path : List ℕ) → TextRow reason words old new path → Ends (Text (record { why = reason; path = path }))
  refused_text (why.Lex err) path row = front_lex err path row
  refused_text (why.Parse (parse.Syntax place)) path row = front_parse (parse.Syntax place) path row
  refused_text (why.Parse (parse.LeftOut place what)) path row = front_parse (parse.LeftOut place what) path row
  refused_text (why.Parse (parse.TooDeep place)) path row = absurd row
  refused_text (why.Parse parse.Memory) path row = front_parse parse.Memory path row
  refused_text (why.NotBuilt place) path row = front_built place path row
  refused_text (why.Names err) path row = absurd row
  refused_text (why.Types err) path row = absurd row
  refused_text (why.Sizes err) path row = absurd row
  refused_text (why.Unique err) path row = absurd row
  refused_text why.Load path row = absurd row
  refused_text why.FileBytes path row = absurd row
  refused_text why.Files path row = absurd row
  refused_text why.ImportCycle path row = absurd row
  refused_text why.Memory path row = absurd row

  front_names : (err : NameErr) (path : List ℕ) → FrontRow (why.Names err) words old new path → Ends (status_for (why.Names err) path)
  front_names err path row = let u = row.unaccepted in
      subst (λ p. Ends (status_for (why.Names err) p)) (sym u.path_is) (named_so row.asked row.command u.files u.read err u.because)

  refused_names : (reason : Why) (path : List ℕ) → NamesRow reason words old new path → Ends (Names (record { why = reason; path = path }))
  refused_names (why.Names (names.Unbound name place)) path row = front_names (names.Unbound name place) path row
  refused_names (why.Names (names.Twice name place)) path row = front_names (names.Twice name place) path row
  refused_names (why.Names (names.NoMember name place)) path row = front_names (names.NoMember name place) path row
  refused_names (why.Names (names.SealMissing name place)) path row = front_names (names.SealMissing name place) path row
  refused_names (why.Names (names.TooManyApplications place)) path row = absurd row
  refused_names (why.Lex err) path row = absurd row
  refused_names (why.Parse err) path row = absurd row
  refused_names (why.NotBuilt place) path row = absurd row
  refused_names (why.Types err) path row = absurd row
  refused_names (why.Sizes err) path row = absurd row
  refused_names (why.Unique err) path row = absurd row
  refused_names why.Load path row = absurd row
  refused_names why.FileBytes path row = absurd row
  refused_names why.Files path row = absurd row
  refused_names why.ImportCycle path row = front_cycle path row
  refused_names why.Memory path row = absurd row

  refused_types : (reason : Why) (path : List ℕ) → TypesRow reason words old new path → Ends (Types (record { why = reason; path = path }))
  refused_types (why.Types err) path row = let u = row.unaccepted in
      subst (λ p. Ends (status_for (why.Types err) p)) (sym u.path_is) (typed_so row.asked row.command u.files u.read err u.because)
  refused_types (why.Lex err) path row = absurd row
  refused_types (why.Parse err) path row = absurd row
  refused_types (why.NotBuilt place) path row = absurd row
  refused_types (why.Names err) path row = absurd row
  refused_types (why.Sizes err) path row = absurd row
  refused_types (why.Unique err) path row = absurd row
  refused_types why.Load path row = absurd row
  refused_types why.FileBytes path row = absurd row
  refused_types why.Files path row = absurd row
  refused_types why.ImportCycle path row = absurd row
  refused_types why.Memory path row = absurd row

  refused_sizes : (reason : Why) (path : List ℕ) → SizesRow reason words old new path → Ends (Sizes (record { why = reason; path = path }))
  refused_sizes (why.Sizes err) path row = let u = row.unaccepted in
      subst (λ p. Ends (status_for (why.Sizes err) p)) (sym u.path_is) (sizes_so row.asked row.command u.files u.read err u.because)
  refused_sizes (why.Lex err) path row = absurd row
  refused_sizes (why.Parse err) path row = absurd row
  refused_sizes (why.NotBuilt place) path row = absurd row
  refused_sizes (why.Names err) path row = absurd row
  refused_sizes (why.Types err) path row = absurd row
  refused_sizes (why.Unique err) path row = absurd row
  refused_sizes why.Load path row = absurd row
  refused_sizes why.FileBytes path row = absurd row
  refused_sizes why.Files path row = absurd row
  refused_sizes why.ImportCycle path row = absurd row
  refused_sizes why.Memory path row = absurd row

  refused_unique : (reason : Why) (path : List ℕ) → UniqueRow reason words old new path → Ends (Unique (record { why = reason; path = path }))
  refused_unique (why.Unique err) path row = let u = row.unaccepted in
      subst (λ p. Ends (status_for (why.Unique err) p)) (sym u.path_is) (unique_so row.asked row.command u.files u.read err u.because)
  refused_unique (why.Lex err) path row = absurd row
  refused_unique (why.Parse err) path row = absurd row
  refused_unique (why.NotBuilt place) path row = absurd row
  refused_unique (why.Names err) path row = absurd row
  refused_unique (why.Types err) path row = absurd row
  refused_unique (why.Sizes err) path row = absurd row
  refused_unique why.Load path row = absurd row
  refused_unique why.FileBytes path row = absurd row
  refused_unique why.Files path row = absurd row
  refused_unique why.ImportCycle path row = absurd row
  refused_unique why.Memory path row = absurd row

  no_load : (reason : Why) (path : List ℕ) (status : Status) → LoadRow reason words old new path → Ends status
  no_load why.Load path status row = absurd (quiet.loader row.unaccepted.unread.faults)
  no_load (why.Lex err) path status row = absurd row
  no_load (why.Parse err) path status row = absurd row
  no_load (why.NotBuilt place) path status row = absurd row
  no_load (why.Names err) path status row = absurd row
  no_load (why.Types err) path status row = absurd row
  no_load (why.Sizes err) path status row = absurd row
  no_load (why.Unique err) path status row = absurd row
  no_load why.FileBytes path status row = absurd row
  no_load why.Files path status row = absurd row
  no_load why.ImportCycle path status row = absurd row
  no_load why.Memory path status row = absurd row

  -- ---- what is done with an accepted source

  abbrev before : Streams
  before = record { input = old.input; out = old.out }

  abbrev behind : Streams
  behind = record { input = new.input; out = new.out }

  module _ (asked : Command) (source : Source) (s : Started words old new asked source) where
    acted : (status : Status) → Holds (Acted asked old.input.left (flat_of source.flat)) (Agrees status) → Ends status
    acted status h = onward asked s.command (Agrees status) (then_ok (Accepted files asked.file) _ (Agrees status) (flat_of source.flat) (accepted asked source s.command s.accepted) h)

  module _ (asked : Command) (source : Source) (s : Started words old new asked source) where
    abbrev entry : List ℕ
    entry = asked.entry

    resolved : Elaborates source.files (Ok (flat_of source.flat))
    resolved = let t = s.accepted in subst (λ files. Elaborates files (Ok (flat_of source.flat))) (sym t.files) t.acceptable.resolved.resolves.resolved

    -- what is done is this
    done : (action : Action) → asked.action ≡ action → (status : Status) → Holds (Done_with action asked old.input.left (flat_of source.flat)) (Agrees status) → Ends status
    done action is status h = acted asked source s status (subst (λ x. Holds (Done_with x asked old.input.left (flat_of source.flat)) (Agrees status)) (sym is) h)

    module _ (is_run : asked.action ≡ Run) where
      -- the entry was found, and behind it this holds
      entered : (status : Status) (e : Entered) → IsEntered source entry e → ((end : Result Ending Status) → Argued (flat_of source.flat) entry asked.turns old.input.left end → Agrees status end) → Ends status
      entered status e is h = done Run is_run status (λ end run. behind_entry source entry asked.turns resolved e is old.input.left end (Agrees status end) run (h end))

      unread_so : (err : TextErr) → InputRow asked source before behind err → Ends (Input err)
      unread_so text.Memory row = absurd row
      unread_so err row = entered (Input err) row.entered row.ready.entered
          (refused_input source entry asked.turns resolved row.entered row.ready.entered err row.bytes old.input.left row.read.all row.short row.refuses)

      ran : (status : Status) → ProgramRow status asked source before behind → Ends status ⊎ (status ≡ Memory)
      ran Done row =
          let c = row.comes in
          inl (entered Done c.entered c.ready.entered (ran_to source entry asked.turns resolved c.entered c.ready.entered Done (Gives row.result) refl c.bytes c.arguments c.words c.allows c.alone old.input.left c.read.all c.short c.reads))
      ran (Entry err name) row =
          inl (done Run is_run (Entry err name) (λ end run. subst (λ n. Agrees (Entry err n) end) (sym row.name_is) (unentered source entry asked.turns resolved err row.not_entered old.input.left end run)))
      ran (Limit limit.Nodes) row = inl (entered (Limit limit.Nodes) row.entered row.is_entered (past_limit source entry asked.turns resolved row.entered row.is_entered (Limit limit.Nodes) (inl refl) row.answers old.input.left))
      ran (Limit limit.Depth) row = inl (entered (Limit limit.Depth) row.entered row.is_entered (past_limit source entry asked.turns resolved row.entered row.is_entered (Limit limit.Depth) (inr refl) row.answers old.input.left))
      ran (Limit limit.InputBytes) row = inl (entered (Limit limit.InputBytes) row.entered row.ready.entered (too_long source entry asked.turns resolved row.entered row.ready.entered old.input.left row.past.long))
      ran ReadFault row = absurd (quiet.input row.faults)
      ran (Input err) row = inl (unread_so err row)
      ran (Failure report path) row =
          let c = row.1.comes in
          inl (entered (Failure report path) c.entered c.ready.entered (ran_to source entry asked.turns resolved c.entered c.ready.entered (Failure report path) (Fails report) (path, inl refl) c.bytes c.arguments c.words c.allows c.alone old.input.left c.read.all c.short c.reads))
      ran (Turns report path) row =
          let c = row.1.comes in
          inl (entered (Turns report path) c.entered c.ready.entered (ran_to source entry asked.turns resolved c.entered c.ready.entered (Turns report path) (Fails report) (path, inr refl) c.bytes c.arguments c.words c.allows c.alone old.input.left c.read.all c.short c.reads))
      ran WriteFault row = absurd (quiet.out row.out.faults)
      ran Memory row = inr refl
      ran (Usage word) row = absurd row
      ran (LoadFault refused) row = absurd row
      ran (Text refused) row = absurd row
      ran (Names refused) row = absurd row
      ran (Types refused) row = absurd row
      ran (Sizes refused) row = absurd row
      ran (Unique refused) row = absurd row
      ran (Limit limit.FileBytes) row = absurd row
      ran (Limit limit.Files) row = absurd row
      ran (Limit limit.Nesting) row = absurd row
      ran (Limit limit.Applications) row = absurd row

    module _ (is_check : asked.action ≡ Check) where
      checked : (status : Status) → CheckRow status before behind → Ends status ⊎ (status ≡ Memory)
      checked Done row = inl (done Check is_check Done (λ end told. subst (Agrees Done) (sym told) refl))
      checked WriteFault row = absurd (quiet.out row.out.faults)
      checked status row = absurd row

    acts : (action : Action) → asked.action ≡ action → (status : Status) → ActionRow action status asked source before behind → Ends status ⊎ (status ≡ Memory)
    acts Run is status row = ran is status row
    acts Check is status row = checked is status row

  ends : (status : Status) → RunRow status words old new → Ends status ⊎ (status ≡ Memory)
  ends (Usage word) row = inl (usage word row.command)
  ends (LoadFault refused) row = inl (no_load refused.why refused.path (LoadFault refused) row)
  ends (Text refused) row = inl (refused_text refused.why refused.path row)
  ends (Names refused) row = inl (refused_names refused.why refused.path row)
  ends (Types refused) row = inl (refused_types refused.why refused.path row)
  ends (Sizes refused) row = inl (refused_sizes refused.why refused.path row)
  ends (Unique refused) row = inl (refused_unique refused.why refused.path row)
  ends (Limit limit.FileBytes) row = inl (front_long row.path row.row)
  ends (Limit limit.Files) row = inl (front_many row.path row.row)
  ends (Limit limit.Nesting) row = inl (front_parse (parse.TooDeep row.place) row.path row.row)
  ends (Limit limit.Applications) row = inl (front_names (names.TooManyApplications row.place) row.path row.row)
  ends (Limit limit.Nodes) row = acts row.asked row.source row.started row.asked.action refl (Limit limit.Nodes) row.ended
  ends (Limit limit.Depth) row = acts row.asked row.source row.started row.asked.action refl (Limit limit.Depth) row.ended
  ends (Limit limit.InputBytes) row = acts row.asked row.source row.started row.asked.action refl (Limit limit.InputBytes) row.ended
  ends (Entry err name) row = acts row.asked row.source row.started row.asked.action refl (Entry err name) row.ended
  ends ReadFault row = acts row.asked row.source row.started row.asked.action refl ReadFault row.ended
  ends (Input err) row = acts row.asked row.source row.started row.asked.action refl (Input err) row.ended
  ends (Failure report path) row = acts row.asked row.source row.started row.asked.action refl (Failure report path) row.ended
  ends (Turns report path) row = acts row.asked row.source row.started row.asked.action refl (Turns report path) row.ended
  ends WriteFault row = acts row.asked row.source row.started row.asked.action refl WriteFault row.ended
  ends Done row = acts row.asked row.source row.started row.asked.action refl Done row.ended
  ends Memory row = inr refl

pub complete : (status : Status) (words : List (List ℕ)) (old new : Outside) → RunRow status words old new → Complete status words old new
complete status words old new row end comes quiet = conclude (ends words old new quiet status row)
  where
    conclude : Ends words old new quiet status ⊎ (status ≡ Memory) → Agrees status end ⊎ (status ≡ Memory)
    conclude (inl agrees) = inl (agrees end comes)
    conclude (inr m) = inr m
