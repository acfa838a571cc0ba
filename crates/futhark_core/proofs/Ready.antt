-- A prepared program is one that the row speaks of: its entry is typed, and what its blocks allow, the source allows.
use Rattle.std.proofs.Common.{◌≡◌, ◌⊎◌, inl, inr, ℕ, List, [], ◌∷◌, Bool, true, false, Option, Some, None, length, refl, sym, ap, ◌∙◌, subst, arith}
use Rattle.std.proofs.lemmas.Option.{get_or_from_slice_get, slice_get_within}
use Rattle.std.specs.Prelude.{Ok, Err, slice_get, slice_index_or}
use Rattle.fut_scalar.specs.declared.place.BindId.{BindId}
use Rattle.fut_scalar.specs.declared.sizes.ArgType.{ArgType}
use Rattle.fut_scalar.specs.declared.sizes.DataType.{DataType}
use Rattle.fut_value.specs.Data.{Datum, datums}
use Rattle.fut_flat.specs.declared.program.Flat.{Flat}
use Rattle.fut_flat.specs.declared.prim.Ref.{Ref}
use Rattle.fut_meaning.specs.Found.{Sizing as TheSizing}
use Rattle.fut_meaning.specs.Datums.{as_values}
use Rattle.fut_blocks.specs.declared.block.Program.{Program}
use Rattle.fut_blocks.specs.Programs.{Rising}
use Rattle.elab_scopes.specs.Elaboration.{Elaborates}
use Rattle.elab_scopes.specs.Imports.{Source_file}
use Rattle.module_elab.specs.Elaborated.{program_of as flat_of}
use Rattle.type_infer.specs.Inferring.{Numbers, Told_by}
use Rattle.typed_programs.specs.Typed.{Typed_by, integer_at}
use Rattle.fut_types.specs.declared.Kind.TheVariants as kind
use Rattle.fut_typing.specs.Names.{Names}
use Rattle.fut_typing.specs.Scopes.{nothing}
use Rattle.fut_typing.specs.Program.{program_of}
use Rattle.fut_typing.specs.Exact.{scope_behind}
use Rattle.typed_programs.specs.EntryTypes.{Has_entry_type, number_of}
use Rattle.typed_programs.specs.Known.{Is_known}
use Rattle.typed_programs.specs.declared.typed.Accepted.{Accepted}
use Rattle.size_program.specs.Tables.{node_at}
use Rattle.sized_programs.specs.Sizings.{Has_sizing}
use Rattle.sized_programs.specs.declared.checking.Sizing.{Sizing}
use Rattle.sizing_tables.specs.Claims.{Is_resolved}
use Rattle.sizing_tables.specs.Told.{Is_sizing_of, sizing_of, told_with}
use Rattle.sizing_tables.proofs.Sizings.{sizing_is_there}
use Rattle.entry_sizes.specs.Wanted.{Are_wanted, wanted_of}
use Rattle.entry_sizes.proofs.Wanting.{are_wanted}
use Rattle.typed_programs.specs.Entries.{Is_outside, May_be_used}
use Rattle.front.proofs.Searching.{one_place}
use Rattle.futhark_core.proofs.OneEntry.{entry_type_is_one}
use Rattle.unfold.specs.Shapes.{All_split, split_none, split_more, split_scalar}
use Rattle.unfold.proofs.Rising.{names_rise}
use Rattle.unfold_program.specs.Whole.{scalars}
use Rattle.unfolded_runs.specs.Claims.{Is_run, Is_told, Is_usable, Runs_as}
use Rattle.unfolded_runs.specs.Prepared.{Is_prepared, Is_past}
use Rattle.unfolded_runs.specs.declared.preparing.PrepareErr.{PrepareErr}
use Rattle.unfolded_runs.specs.declared.preparing.PrepareErr.TheVariants as prepare
use Rattle.command_words.specs.CommandLine.{Command}
use Rattle.front.specs.EntryNameEntries.{Begins_at, Begins_nowhere}
use Rattle.futhark_status.specs.declared.status.EntryErr.{EntryErr}
use Rattle.futhark_status.specs.declared.status.EntryErr.TheVariants.{NoEntry, OutsideProfile}
use Rattle.futhark_status.specs.declared.status.Status.{Status}
use Rattle.fut_meaning.specs.declared.measured.MeasureErr.TheVariants as measure
use Rattle.fut_meaning.specs.Flats.{named_terms, flat_tops}
use Rattle.fut_meaning.specs.Measures.{Measures}
use Rattle.fut_flat.specs.Erased.{parameters}
use Rattle.fut_flat.specs.declared.program.Definition.{Definition}
use Rattle.fut_typing.specs.Free.{has_types}
use Rattle.unfolded_runs.specs.Results.{Are_arguments}
use Rattle.unfolded_runs.proofs.Runs.{blocks_mean_the_source, files_allow_some}
use Rattle.futhark_core.specs.Acceptance.{Source}
use Rattle.futhark_core.specs.Entering.{IsOutside, NotEntered, Wants_others}
use Rattle.futhark_core.specs.Meaning.{Entered, IsTypedAs, IsEntered, Answers}
use Rattle.futhark_core.specs.Row.{Streams, IsReady, ProgramRow}
use Rattle.futhark_core.specs.declared.entries.Entry.{Entry}
use Rattle.futhark_core.specs.declared.entries.FindErr.TheVariants as find
use Rattle.futhark_core.specs.Private.Finding.{Is_found, Is_found_outside, Is_wanting, Not_found}
use Rattle.futhark_core.specs.Private.Stages.{Never_wrong_for, Runs_for, IsUnentered, unprepared}

data_split : (ds : List Datum) → All_split (scalars (length ds)) (as_values {P = Ref} {B = BindId} {S = Unit {0}} (datums ds)) ds []
data_split [] = split_none
data_split (d ∷ ds) = split_more (split_scalar refl) (data_split ds)

lengths : (ds : List Datum) (ts : List DataType) → Are_arguments ts ds → length ds ≡ length ts
lengths [] [] a = refl
lengths [] (t ∷ ts) a = absurd a
lengths (d ∷ ds) [] a = absurd a
lengths (d ∷ ds) (t ∷ ts) a = let h = lengths ds ts a.1 in omega (arith, h)

-- ---- what is known of the definition at which a run begins

module _ {accepted : Accepted} {sizing : Sizing} (known : Is_known accepted) (sized : Told_by (Has_sizing (program_of accepted.flat) sizing) accepted.inference) (resolved : Is_resolved accepted.flat) where
  abbrev flat : Flat
  flat = accepted.flat

  abbrev pub N : Names
  N = known.typed.some.0

  abbrev own : Typed_by flat accepted.inference accepted.integers N
  own = known.typed.holds N known.typed.some.1

  abbrev has : Has_sizing (program_of flat) sizing N
  has = sized.holds N known.typed.some.1

  pub numbered : Numbers accepted.inference N
  numbered = known.typed.some.1

  -- its sizing, as the meaning takes it
  abbrev pub Z : TheSizing
  Z = sizing_of flat N known.typed.some.1.names (node_at sizing.nodes)

  pub is_sizing : Is_sizing_of flat N (node_at sizing.nodes) Z
  is_sizing = sizing_is_there flat resolved N known.typed.some.1.names (node_at sizing.nodes)

  is_told : Is_told flat Z
  is_told = record { names = N; sizes = node_at sizing.nodes; is = is_sizing }

  sizing_here : Is_sizing_of flat N has.sizes Z
  sizing_here = record { nodes = λ n. is_sizing.nodes n ∙ sym (has.nodes n); homes = is_sizing.homes; fields = is_sizing.fields; are_sizes = is_sizing.are_sizes; used = is_sizing.used }

  abbrev entered_as : ℕ → List DataType → Bool → List DataType → List ArgType → Entered
  entered_as number params tuple results wanted = record { number = number; params = params; tuple = tuple; results = results; wanted = wanted; integer_at = integer_at accepted.integers; sizing = Z }

  -- it is typed so in the typing that the graph shows, by which the source has its sizes
  typed_as : (files : List Source_file) (at number : ℕ) (definition : Definition) → (slice_index_or flat.definitions.now at definition).bind.0 ≡ number → (params : List DataType) (tuple : Bool) (results : List DataType) (wanted : List ArgType)
      → May_be_used flat accepted.inference at params tuple results → IsTypedAs (record { files = files; flat = flat }) (entered_as number params tuple results wanted)
  typed_as files at number definition is params tuple results wanted usable = record {
    names = N;
    are_names = known.typed.some.1.names;
    kinds = own.kinds;
    types = own.types;
    typing = own.typing;
    typed = own.typed.typed;
    told = own.typed.told;
    entry = subst (λ z. Has_entry_type ((scope_behind N kind.Data (program_of flat) 0 nothing).uses z) own.kinds own.types params tuple results) is
        (usable.entry definition N known.typed.some.1 own.kinds own.types own.typed.typed own.comes);
    sizes = has.sizes;
    sized = has.sized;
    sizing = sizing_here;
  }

  -- the sizes that it wants are those that the code read
  wants_as : (at : ℕ) (params : List DataType) (r : Option (List ArgType)) → wanted_of params (node_at sizing.nodes (number_of flat at)) ≡ r → wanted_of params (has.sizes (number_of flat at)) ≡ r
  wants_as at params r is = ap (wanted_of params) (has.nodes (number_of flat at)) ∙ is

  -- a definition of the row, where there is one
  here : (at : ℕ) (definition : Definition) → slice_get flat.definitions.now at ≡ Some definition → (other : Definition) → slice_index_or flat.definitions.now at other ≡ definition
  here at definition is other = get_or_from_slice_get flat.definitions.now at definition other is

  -- ---- it was found

  module _ {name : List ℕ} {entry : Entry} (found : Is_found accepted sizing name entry) where
    abbrev pub entered : Entered
    entered = entered_as entry.number.0 entry.ty.params entry.ty.tuple entry.ty.results entry.wanted

    abbrev pub usable : Is_usable flat accepted.inference entry.number entry.ty.params entry.ty.tuple entry.ty.results
    usable = record { at = entry.at; definition = found.begins.definition; is = found.number found.begins.definition; usable = found.usable }

    entered_here : (files : List Source_file) → IsEntered (record { files = files; flat = flat }) name entered
    unfolding typed_as
    entered_here files = record {
      at = entry.at;
      begins = found.begins;
      number = ap (λ (d : Definition). d.bind.0) (sym (here entry.at found.begins.definition found.begins.is found.begins.definition)) ∙ found.number found.begins.definition;
      unwritten = subst (λ (d : Definition). has_types (parameters d.heads.now) ≡ false) (here entry.at found.begins.definition found.begins.is found.begins.definition) (found.unwritten found.begins.definition);
      typed = typed_as files entry.at entry.number.0 found.begins.definition (found.number found.begins.definition) entry.ty.params entry.ty.tuple entry.ty.results entry.wanted found.usable;
      wants = wants_as entry.at entry.ty.params (Some entry.wanted) found.wants;
    }

    is_entered : (source : Source) → source.flat ≡ flat → IsEntered source name entered
    is_entered source same = subst (λ (f : Flat). IsEntered (record { files = source.files; flat = f }) name entered) (sym same) (entered_here source.files)

    pub wanted : Are_wanted entry.ty.params entry.wanted
    wanted = are_wanted entry.ty.params (node_at sizing.nodes (number_of flat entry.at)) entry.wanted found.wants

    -- the files allow some answer for all arguments of its types
    some_answer : (files : List Source_file) (turns : ℕ) → Elaborates files (Ok (flat_of flat)) → Answers (record { files = files; flat = flat }) entered turns
    some_answer files turns is arguments of = let a = files_allow_some flat accepted.inference accepted.integers Z entry.number entry.ty.params entry.ty.tuple entry.ty.results known.typed is_told usable files is true turns arguments of in (a.0, a.1, (a.3, a.2))

    answers : (source : Source) → source.flat ≡ flat → Elaborates source.files (Ok (flat_of source.flat)) → (turns : ℕ) → Answers source entered turns
    answers source e is turns = subst (λ (f : Flat). Answers (record { files = source.files; flat = f }) entered turns) (sym e) (some_answer source.files turns (subst (λ f. Elaborates source.files (Ok (flat_of f))) e is))

    -- a limit is passed, or memory ran out
    pub unready : (asked : Command) (source : Source) (old : Streams) → asked.entry ≡ name → source.flat ≡ flat → Elaborates source.files (Ok (flat_of source.flat)) → (err : PrepareErr) → Is_past flat Z entry.number entry.ty.params err → ProgramRow (unprepared err) asked source old old
    unready asked source old named same is prepare.Nodes past =
        record { entered = entered; is_entered = rw named (is_entered source same); answers = answers source same is asked.turns; past = subst (λ (f : Flat). Measures (Some Z) (flat_tops 0 (named_terms f)) entry.number.0 (length entry.ty.params) (Err measure.Nodes)) (sym same) past; quiet = refl }
    unready asked source old named same is prepare.Depth past =
        record { entered = entered; is_entered = rw named (is_entered source same); answers = answers source same is asked.turns; past = subst (λ (f : Flat). Measures (Some Z) (flat_tops 0 (named_terms f)) entry.number.0 (length entry.ty.params) (Err measure.Depth)) (sym same) past; quiet = refl }
    unready asked source old named same is prepare.Memory past = (refl, inl refl)

    module _ {p : Program} (pr : Is_prepared flat (told_with (integer_at accepted.integers) Z) entry.number entry.ty.params p) where
      abbrev is_run : Is_run flat accepted.inference accepted.integers Z entry.number entry.ty.params entry.ty.tuple entry.ty.results (scalars (length entry.ty.params)) pr.blocks.shape p
      is_run = record { typed = known.typed; resolved = resolved; told = is_told; usable = usable; unfolds = pr.blocks.unfolds }

      runs : (turns : ℕ) (arguments : List Datum) → Are_arguments entry.ty.params arguments → Runs_as flat (told_with (integer_at accepted.integers) Z) entry.number entry.ty.tuple entry.ty.results p true turns arguments
      runs turns arguments of = blocks_mean_the_source flat accepted.inference accepted.integers Z entry.number entry.ty.params entry.ty.tuple entry.ty.results (scalars (length entry.ty.params)) pr.blocks.shape p is_run true turns arguments of (subst (λ n. All_split (scalars n) (as_values (datums arguments)) arguments []) (lengths arguments entry.ty.params of) (data_split arguments))

      pub rising : Rising p
      rising = names_rise (told_with (integer_at accepted.integers) Z) _ entry.number (scalars (length entry.ty.params)) pr.blocks.shape p pr.blocks.unfolds

      pub never_wrong_for : (turns : ℕ) → Never_wrong_for entry.ty.params turns p
      never_wrong_for turns arguments of = (runs turns arguments of).never_wrong

      pub runs_for : (source : Source) → source.flat ≡ flat → Elaborates source.files (Ok (flat_of source.flat)) → (turns : ℕ) → Runs_for source entered turns p
      runs_for source e is turns = subst (λ (f : Flat). Runs_for (record { files = source.files; flat = f }) entered turns p) (sym e) (record {
        gives = λ arguments of vs f x. let g = (runs turns arguments of).gives source.files (subst (λ f. Elaborates source.files (Ok (flat_of f))) e is) vs f x in (g.0, g.1, (g.3, g.2));
        fails = λ arguments of r f x. ((runs turns arguments of).fails source.files (subst (λ f. Elaborates source.files (Ok (flat_of f))) e is) r f x, tt);
      })

      pub is_ready : (asked : Command) (source : Source) → asked.entry ≡ name → source.flat ≡ flat → Elaborates source.files (Ok (flat_of source.flat)) → IsReady asked source entered
      is_ready asked source named same is = record {
        entered = rw named (is_entered source same);
        answers = answers source same is asked.turns;
        measured = pr.measured;
        measures = subst (λ (f : Flat). Measures (Some Z) (flat_tops 0 (named_terms f)) entry.number.0 (length entry.ty.params) (Ok pr.measured)) (sym same) pr.measures;
      }

  -- ---- the definition at this place of the row has not one type from which a run may begin

  module _ (name : List ℕ) (at : ℕ) (begins : Begins_at flat name at) where
    -- so nothing is entered under its name
    module _ (files : List Source_file) (e : Entered) (is : IsEntered (record { files = files; flat = flat }) name e) where
      here_too : (other : Definition) → slice_index_or flat.definitions.now at other ≡ is.begins.definition
      here_too other = ap (λ i. slice_index_or flat.definitions.now i other) (sym (one_place flat name is.at at is.begins begins)) ∙ here is.at is.begins.definition is.begins.is other

      plain : has_types (parameters (slice_index_or flat.definitions.now at begins.definition).heads.now) ≡ false
      plain = subst (λ (d : Definition). has_types (parameters d.heads.now) ≡ false) (sym (here_too begins.definition)) is.unwritten

      -- it would have that type in the typing that the graph shows
      also_here : Has_entry_type ((scope_behind N kind.Data (program_of flat) 0 nothing).uses (slice_index_or flat.definitions.now at begins.definition).bind.0) own.kinds own.types e.params e.tuple e.results
      also_here = entry_type_is_one flat at begins.definition (slice_get_within flat.definitions.now at begins.definition begins.is) own.typed.once plain
          is.typed.names N is.typed.are_names known.typed.some.1.names is.typed.types own.types is.typed.typing own.typing is.typed.kinds own.kinds is.typed.typed own.typed.typed e.params e.tuple e.results
          (subst (λ z. Has_entry_type ((scope_behind is.typed.names kind.Data (program_of flat) 0 nothing).uses z) is.typed.kinds is.typed.types e.params e.tuple e.results)
          (sym is.number ∙ ap (λ (d : Definition). d.bind.0) (sym (here_too begins.definition))) is.typed.entry)

      none_entered : Is_outside flat accepted.inference at → ⊥
      none_entered (inl written) = let z : true ≡ false = sym (written begins.definition) ∙ plain in cc
      none_entered (inr other) = other begins.definition N known.typed.some.1 own.kinds own.types own.typed.typed own.comes e.params e.tuple e.results also_here

    -- or it wants other sizes
    wants_others : (files : List Source_file) → Is_wanting accepted sizing at → Wants_others (record { files = files; flat = flat }) at begins.definition
    unfolding typed_as
    wants_others files w = record {
      entered = entered_as begins.definition.bind.0 w.params w.tuple w.results [];
      number = refl;
      typed = typed_as files at begins.definition.bind.0 begins.definition (ap (λ (d : Definition). d.bind.0) (here at begins.definition begins.is begins.definition)) w.params w.tuple w.results [] w.usable;
      none = wants_as at w.params None w.none;
    }

    not_here : (files : List Source_file) → Is_outside flat accepted.inference at ⊎ Is_wanting accepted sizing at → ((e : Entered) → IsEntered (record { files = files; flat = flat }) name e → ⊥) ⊎ Wants_others (record { files = files; flat = flat }) at begins.definition
    not_here files (inl x) = inl (λ e is. none_entered files e is x)
    not_here files (inr w) = inr (wants_others files w)

  pub outside : (name : List ℕ) → Is_found_outside accepted sizing name → (source : Source) → source.flat ≡ flat → IsOutside source name
  outside name o source same = subst (λ (f : Flat). IsOutside (record { files = source.files; flat = f }) name) (sym same) (record { at = o.at; begins = o.begins; none = not_here name o.at o.begins source.files o.none })

  -- so there is no entry of this name
  pub not_entered : (name : List ℕ) (err : EntryErr) → Not_found accepted sizing name (find.Entry err) → (source : Source) → source.flat ≡ flat → NotEntered source name err
  not_entered name NoEntry none source same = subst (λ (f : Flat). Begins_nowhere f name) (sym same) none
  not_entered name OutsideProfile o source same = outside name o source same

pub unentered_row : (asked : Command) (source : Source) (old : Streams) (err : EntryErr) (status : Status) → IsUnentered err asked.entry status → NotEntered source asked.entry err → ProgramRow status asked source old old
unentered_row asked source old err status (inl is) none = subst (λ (s : Status). ProgramRow s asked source old old) (sym is) (record { name_is = refl; not_entered = none; quiet = refl })
unentered_row asked source old err status (inr is) none = subst (λ (s : Status). ProgramRow s asked source old old) (sym is) (refl, inl refl)
