-- What the blocks of a typed program allow, its files allow, and the other way round; and the files allow some outcome.
use Rattle.std.proofs.Common.{◌≡◌, ℕ, List, [], ◌∷◌, Bool, true, false, Some, map, refl, sym, ap, subst}
use Rattle.fut_scalar.specs.declared.place.BindId.{BindId}
use Rattle.fut_scalar.specs.declared.report.Report.{Report}
use Rattle.fut_scalar.specs.declared.scalar.IntType.{IntType}
use Rattle.fut_scalar.specs.declared.sizes.DataType.{DataType}
use Rattle.fut_flat.specs.declared.program.Definition.{Definition}
use Rattle.fut_flat.specs.declared.program.Flat.{Flat}
use Rattle.fut_flat.specs.Erased.{term_of}
use Rattle.fut_typing.specs.Program.{program_of as typing_of}
use Rattle.fut_meaning.specs.Claims.{HasOut, Safe, Some_outcome}
use Rattle.fut_value.specs.Data.{Datum, datums}
use Rattle.fut_meaning.specs.Datums.{as_value, as_values, all_values}
use Rattle.fut_meaning.specs.Flats.{FlatValue, named_terms, flat_tops, Flat_means, flat_names}
use Rattle.fut_meaning.specs.Found.{Sizing}
use Rattle.fut_meaning.specs.Meaning.{plain}
use Rattle.fut_meaning.specs.Answers.{Answer, Gives, Fails}
use Rattle.fut_meaning.specs.Outcomes.{Out, Val, Fail, Wrong}
use Rattle.fut_meaning.specs.Sames.{Same_out, same_value, same_report, same_wrong, Left, left, Right, right}
use Rattle.fut_meaning.specs.Values.{listed}
use Rattle.fut_blocks.specs.declared.block.Program.{Program}
use Rattle.fut_blocks.specs.Meaning.{Component}
use Rattle.fut_blocks.specs.Programs.{Program_means, AreOf}
use Rattle.module_elab.specs.Elaborated.{definition_of, program_of}
use Rattle.std.specs.Prelude.{Ok}
use Rattle.elab_scopes.specs.Elaboration.{Elaborates}
use Rattle.elab_scopes.specs.Imports.{Source_file}
use Rattle.elab_laws.specs.Answers.{Files_allow}
use Rattle.elab_laws.specs.Sourced.{named_values}
use Rattle.elab_laws.specs.Sized.{Sizes_are_told}
use Rattle.elab_laws.proofs.Programs.{same_results, same_reports}
use Rattle.type_soundness.specs.Programs.{Result_fits, Is_sized}
use Rattle.type_soundness.proofs.Programs.{sized_never_wrong, sized_has_outcome}
use Rattle.std.specs.Prelude.{slice_index_or}
use Rattle.fut_types.specs.declared.Kind.TheVariants as kind
use Rattle.fut_typing.specs.Names.{Names}
use Rattle.fut_typing.specs.Scopes.{nothing}
use Rattle.fut_typing.specs.Patterns.{arrows}
use Rattle.fut_typing.specs.Exact.{scope_behind}
use Rattle.typed_programs.specs.EntryTypes.{data_tys, Has_entry_type}
use Rattle.type_infer.specs.Inferring.{Told_by}
use Rattle.type_scopes.specs.declared.Inference.{Inference}
use Rattle.sizing_tables.specs.Claims.{Is_resolved}
use Rattle.sizing_tables.specs.Told.{told_with}
use Rattle.sizing_tables.proofs.Sizings.{sizing_is_told}
use Rattle.typed_programs.specs.Typed.{Typed_by, integer_at}
use Rattle.typed_programs.proofs.TypedLaws.{sized_so}
use Rattle.unfold.specs.Shapes.{Shape, Shapes, All_split, Is_value}
use Rattle.unfold.proofs.Programs.{adds_no_outcome, loses_no_outcome}
use Rattle.unfolded_runs.specs.Claims.{Answer_is_of, Is_told, Is_usable, Is_run, Runs_as, BlocksMeanTheSource, FilesAllowSome}
use Rattle.unfolded_runs.specs.Results.{Are_arguments, components_of, opened}
use Rattle.unfolded_runs.proofs.Data.{arguments_fit, listed_values, Is_data, data_of, result_opened, same_datum}

-- ---- typed programs

named_are : (ds : List Definition) → named_values (map definition_of ds) ≡ map (λ (d : Definition). (d.bind, term_of d.value.now)) ds
named_are [] = refl
named_are (d ∷ ds) = ap (λ z. (d.bind, term_of d.value.now) ∷ z) (named_are ds)

module _ {flat : Flat} {inference : Inference} {integers : List IntType} {Z : Sizing} {entry : BindId} {params : List DataType} {tuple : Bool} {results : List DataType} (typed : Told_by (Typed_by flat inference integers) inference) (made : Is_resolved flat) (told : Is_told flat Z) (usable : Is_usable flat inference entry params tuple results) (tight : Bool) (budget : ℕ) (arguments : List Datum) (of : Are_arguments params arguments) where
  abbrev N : Names
  N = typed.some.0

  abbrev known : Typed_by flat inference integers N
  known = typed.holds N typed.some.1

  abbrev used : Has_entry_type ((scope_behind N kind.Data (typing_of flat) 0 nothing).uses (slice_index_or flat.definitions.now usable.at usable.definition).bind.0) known.kinds known.types params tuple results
  used = usable.usable.entry usable.definition N typed.some.1 known.kinds known.types known.typed.typed known.comes

  sized : Is_sized N kind.Data known.kinds known.types (told_with (integer_at integers) Z) flat
  sized = sized_so (told_with (integer_at integers) Z) known.typed (sizing_is_told flat made told.names told.sizes Z told.is).1

  entry_used : (scope_behind N kind.Data (typing_of flat) 0 nothing).uses entry.0 known.kinds known.types (arrows (data_tys params) used.result)
  entry_used = subst (λ z. (scope_behind N kind.Data (typing_of flat) 0 nothing).uses z known.kinds known.types (arrows (data_tys params) used.result)) usable.is used.used

  abbrev values : List FlatValue
  values = listed (as_values (datums arguments))

  abbrev Flat_allows : Out FlatValue → ℕ → Type 0
  Flat_allows = Flat_means (told_with (integer_at integers) Z) (plain tight) budget (named_terms flat) entry values

  safe : Safe (Result_fits N (told_with (integer_at integers) Z) (plain tight) budget false used.result) Flat_allows
  safe = sized_never_wrong N typed.some.1.names _ known.kinds known.types (told_with (integer_at integers) Z) tight budget flat sized entry _ used.result values entry_used (arguments_fit N (told_with (integer_at integers) Z) (plain tight) budget false params arguments of)

  some : Some_outcome Flat_allows
  some = sized_has_outcome N typed.some.1.names _ known.kinds known.types (told_with (integer_at integers) Z) tight budget flat sized entry _ used.result values entry_used (arguments_fit N (told_with (integer_at integers) Z) (plain tight) budget true params arguments of)

  sizes_told : Sizes_are_told (Some Z) 0 (program_of flat).definitions
  sizes_told = (sizing_is_told flat made told.names told.sizes Z told.is).0

  abbrev Named_means : Out FlatValue → ℕ → Type 0
  Named_means = Rattle.fut_meaning.specs.Programs.Program_means (flat_names (told_with (integer_at integers) Z)) (plain tight) budget (flat_tops 0 (named_values (program_of flat).definitions)) entry.0 (all_values arguments)

  -- the same program, as its files come to it
  to_named : (o : Out FlatValue) (f : ℕ) → Flat_allows o f → Named_means o f
  to_named o f x =
      subst (λ z. Rattle.fut_meaning.specs.Programs.Program_means (flat_names (told_with (integer_at integers) Z)) (plain tight) budget (flat_tops 0 z) entry.0 (all_values arguments) o f) (sym (named_are flat.definitions.now))
      (subst (λ z. Flat_means (told_with (integer_at integers) Z) (plain tight) budget (named_terms flat) entry z o f) (listed_values arguments) x)

  from_named : (o : Out FlatValue) (f : ℕ) → Named_means o f → Flat_allows o f
  from_named o f m =
      subst (λ z. Flat_means (told_with (integer_at integers) Z) (plain tight) budget (named_terms flat) entry z o f) (sym (listed_values arguments))
      (subst (λ z. Rattle.fut_meaning.specs.Programs.Program_means (flat_names (told_with (integer_at integers) Z)) (plain tight) budget (flat_tops 0 z) entry.0 (all_values arguments) o f) (named_are flat.definitions.now) m)

  module _ (files : List Source_file) (resolved : Elaborates files (Ok (program_of flat))) where
    result_of : (d : Datum) (f : ℕ) → Flat_allows (Val (as_value d)) f → Files_allow files (told_with (integer_at integers) Z) budget entry.0 arguments tight (Gives d) f
    result_of d f x = (same_results files (program_of flat) resolved (told_with (integer_at integers) Z) sizes_told tight budget entry.0 arguments d f).0 (to_named (Val (as_value d)) f x)

    report_of : (k : Report) (f : ℕ) → Flat_allows (Fail k) f → Files_allow files (told_with (integer_at integers) Z) budget entry.0 arguments tight (Fails k) f
    report_of k f x = (same_reports files (program_of flat) resolved (told_with (integer_at integers) Z) sizes_told tight budget entry.0 arguments k f).0 (to_named (Fail k) f x)

    answer_of : (o : Out FlatValue) (f : ℕ) → Flat_allows o f → (answer : Answer) × (words : ℕ) × Answer_is_of tuple results answer × Files_allow files (told_with (integer_at integers) Z) budget entry.0 arguments tight answer words
    answer_of (Val v) f x =
        let fit = safe (Val v) f x in
        let d = data_of N (told_with (integer_at integers) Z) (plain tight) budget false fit.0 v tuple results used.result used.results_are fit.1 in
        (Gives d.result, f, d.are_of, result_of d.result f (subst (λ z. Flat_allows (Val z) f) d.value x))
    answer_of (Fail k) f x = (Fails k, f, tt, report_of k f x)
    answer_of Wrong f x = absurd (safe Wrong f x)

    pub some_allowed : (answer : Answer) × (words : ℕ) × Answer_is_of tuple results answer × Files_allow files (told_with (integer_at integers) Z) budget entry.0 arguments tight answer words
    some_allowed = answer_of some.0 some.1 some.2

-- ---- runs

module _ {flat : Flat} {inference : Inference} {integers : List IntType} {Z : Sizing} {entry : BindId} {params : List DataType} {tuple : Bool} {results : List DataType} {hs : Shapes} {h : Shape} {p : Program} (r : Is_run flat inference integers Z entry params tuple results hs h p) (tight : Bool) (budget : ℕ) (arguments : List Datum) (of : Are_arguments params arguments) (split : All_split hs (as_values (datums arguments)) arguments []) where
  abbrev Allows : Out FlatValue → ℕ → Type 0
  Allows = Flat_allows r.typed r.resolved r.told r.usable tight budget arguments of

  flat_allows : (o : Out (List Component)) (f : ℕ) → Program_means tight budget p arguments o f → Right (Is_value h) Allows o f
  flat_allows o f x = adds_no_outcome tight (told_with (integer_at integers) Z) budget (named_terms flat) entry hs h p r.unfolds (as_values (datums arguments)) arguments split o f x

  wrong_never : (f : ℕ) → Right (Is_value h) Allows Wrong f → ⊥
  wrong_never f (right o x s) = same s (safe r.typed r.resolved r.told r.usable tight budget arguments of o f x)
    where
      same : {o : Out FlatValue} → Same_out (Is_value h) Wrong o → HasOut (Result_fits (N r.typed r.resolved r.told r.usable tight budget arguments of) (told_with (integer_at integers) Z) (plain tight) budget false (used r.typed r.resolved r.told r.usable tight budget arguments of).result) o → ⊥
      same same_wrong k = k

  module _ (files : List Source_file) (resolved : Elaborates files (Ok (program_of flat))) where
    -- a value is data, whose components are those that it is laid in, opened
    laid_data : (v : FlatValue) (f : ℕ) → Allows (Val v) f → Is_data (N r.typed r.resolved r.told r.usable tight budget arguments of) (told_with (integer_at integers) Z) (plain tight) budget false tuple results v
    laid_data v f x =
        let fit = safe r.typed r.resolved r.told r.usable tight budget arguments of (Val v) f x in
        let u = used r.typed r.resolved r.told r.usable tight budget arguments of in
        data_of (N r.typed r.resolved r.told r.usable tight budget arguments of) (told_with (integer_at integers) Z) (plain tight) budget false fit.0 v tuple results u.result u.results_are fit.1

    gives_so : (vs : List Component) (f : ℕ) → Right (Is_value h) Allows (Val vs) f → (result : Datum) × (opened tuple vs ≡ components_of tuple result) × AreOf results (components_of tuple result) × Files_allow files (told_with (integer_at integers) Z) budget entry.0 arguments tight (Gives result) f
    gives_so vs f (right o x s) = same s x
      where
        same : {o : Out FlatValue} → Same_out (Is_value h) (Val vs) o → Allows o f → (result : Datum) × (opened tuple vs ≡ components_of tuple result) × AreOf results (components_of tuple result) × Files_allow files (told_with (integer_at integers) Z) budget entry.0 arguments tight (Gives result) f
        same (same_value {a' = v} s) x =
            let d = laid_data v f x in
            (d.result, result_opened tuple results d.result d.are_of d.value s, d.are_of, result_of r.typed r.resolved r.told r.usable tight budget arguments of files resolved d.result f (subst (λ z. Allows (Val z) f) d.value x))

    fails_so : (k : Report) (f : ℕ) → Right (Is_value h) Allows (Fail k) f → Files_allow files (told_with (integer_at integers) Z) budget entry.0 arguments tight (Fails k) f
    fails_so k f (right o x s) = same s x
      where
        same : {o : Out FlatValue} → Same_out (Is_value h) (Fail k) o → Allows o f → Files_allow files (told_with (integer_at integers) Z) budget entry.0 arguments tight (Fails k) f
        same same_report x = report_of r.typed r.resolved r.told r.usable tight budget arguments of files resolved k f x

    -- ---- what the files allow, the blocks allow

    came : (d : Datum) (f : ℕ) → Allows (Val (as_value d)) f → Left (Is_value h) (Program_means tight budget p arguments) (Val (as_value d)) f → (vs : List Datum) × (opened tuple vs ≡ components_of tuple d) × Program_means tight budget p arguments (Val vs) f
    came d f allows (left o x s) = same s x
      where
        same : {o : Out (List Component)} → Same_out (Is_value h) o (Val (as_value d)) → Program_means tight budget p arguments o f → (vs : List Datum) × (opened tuple vs ≡ components_of tuple d) × Program_means tight budget p arguments (Val vs) f
        same (same_value {a = vs} s) x =
            let l = laid_data (as_value d) f allows in
            (vs, result_opened tuple results d (subst (λ z. AreOf results (components_of tuple z)) (sym (same_datum d l.result l.value)) l.are_of) refl s, x)

    failed : (k : Report) (f : ℕ) → Left (Is_value h) (Program_means tight budget p arguments) (Fail k) f → Program_means tight budget p arguments (Fail k) f
    failed k f (left o x s) = same s x
      where
        same : {o : Out (List Component)} → Same_out (Is_value h) o (Fail k) → Program_means tight budget p arguments o f → Program_means tight budget p arguments (Fail k) f
        same same_report x = x

    allowed : (o : Out FlatValue) (f : ℕ) → Named_means r.typed r.resolved r.told r.usable tight budget arguments of o f → Left (Is_value h) (Program_means tight budget p arguments) o f
    allowed o f m = loses_no_outcome tight (told_with (integer_at integers) Z) budget (named_terms flat) entry hs h p r.unfolds (as_values (datums arguments)) arguments split o f (from_named r.typed r.resolved r.told r.usable tight budget arguments of o f m)

    result_comes : (d : Datum) (f : ℕ) → Files_allow files (told_with (integer_at integers) Z) budget entry.0 arguments tight (Gives d) f → (vs : List Datum) × (opened tuple vs ≡ components_of tuple d) × Program_means tight budget p arguments (Val vs) f
    result_comes d f a =
        let m = (same_results files (program_of flat) resolved (told_with (integer_at integers) Z) (sizes_told r.typed r.resolved r.told r.usable tight budget arguments of) tight budget entry.0 arguments d f).1 a in
        came d f (from_named r.typed r.resolved r.told r.usable tight budget arguments of (Val (as_value d)) f m) (allowed (Val (as_value d)) f m)

    report_comes : (k : Report) (f : ℕ) → Files_allow files (told_with (integer_at integers) Z) budget entry.0 arguments tight (Fails k) f → Program_means tight budget p arguments (Fail k) f
    report_comes k f a = failed k f (allowed (Fail k) f ((same_reports files (program_of flat) resolved (told_with (integer_at integers) Z) (sizes_told r.typed r.resolved r.told r.usable tight budget arguments of) tight budget entry.0 arguments k f).1 a))

  pub run_is : Runs_as flat (told_with (integer_at integers) Z) entry tuple results p tight budget arguments
  run_is = record {
    never_wrong = λ f x. wrong_never f (flat_allows Wrong f x);
    gives = λ files resolved vs f x. gives_so files resolved vs f (flat_allows (Val vs) f x);
    fails = λ files resolved k f x. fails_so files resolved k f (flat_allows (Fail k) f x);
    results_come = result_comes;
    reports_come = report_comes;
  }

pub blocks_mean_the_source : BlocksMeanTheSource
blocks_mean_the_source flat inference integers Z entry params tuple results hs h p r tight budget arguments of split = run_is r tight budget arguments of split

pub files_allow_some : FilesAllowSome
files_allow_some flat inference integers Z entry params tuple results typed told usable files resolved tight budget arguments of = some_allowed typed (files, resolved) told usable tight budget arguments of files resolved
