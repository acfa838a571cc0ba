-- What the stages of the front answer.
use Rattle.std.specs.Prelude.{◌≡◌, ℕ, List, ◌∷◌, Result, Ok, Err}
use Rattle.fut_io.specs.Outside.{LoaderSeen}
use Rattle.flat_numbers.specs.Places.{program_places}
use Rattle.fut_ast.specs.Sorts.{Text}
use Rattle.fut_ast.specs.declared.module.Program.{Program}
use Rattle.fut_flat.specs.Erased.{texts}
use Rattle.fut_flat.specs.declared.program.Flat.{Flat}
use Rattle.fut_typing.specs.Program.{Defined, program_of as typing_of}
use Rattle.elab_scopes.specs.Names.{Refusal}
use Rattle.elab_scopes.specs.Names as refusal
use Rattle.elab_scopes.specs.Programs.{FlatProgram}
use Rattle.elab_scopes.specs.Elaboration.{Elaborates}
use Rattle.elab_scopes.specs.Imports.{Source_file, item, path_of}
use Rattle.module_elab.specs.Elaborated.{program_of as flat_of}
use Rattle.type_infer.specs.Inferring.{Told_by}
use Rattle.sized_programs.specs.Misfits.{Misfits}
use Rattle.sized_programs.specs.Sizings.{Has_sizing}
use Rattle.sized_programs.specs.declared.checking.Sizing.{Sizing}
use Rattle.sized_programs.specs.declared.misfit.Misfit.TheVariants as misfit
use Rattle.typed_programs.specs.Known.{Is_known}
use Rattle.typed_programs.specs.Mistyped.{Mistyped}
use Rattle.typed_programs.specs.Ordered.{Some_order}
use Rattle.typed_programs.specs.declared.typed.Accepted.{Accepted}
use Rattle.typed_programs.specs.declared.typed.TypeErr.TheVariants as types
use Rattle.unique_programs.specs.Misuses.{Misused}
use Rattle.unique_programs.specs.Rules.{Breaks_none}
use Rattle.unique_programs.specs.declared.misuse.Misuse.TheVariants as misuse
use Rattle.source_files.specs.Files.{Are_read}
use Rattle.source_files.specs.declared.reading.Unread.{Unread}
use Rattle.source_files.specs.declared.reading.Unread.TheVariants as unread
use Rattle.front.specs.Acceptance.{IsAcceptable, IsPrelude, Unaccepted, prelude_of}
use Rattle.front.specs.declared.refusals.NameErr.TheVariants as names
use Rattle.front.specs.declared.refusals.Refused.{Refused}
use Rattle.front.specs.declared.refusals.Refused.TheVariants as why

-- the refusal stands in the file of this number, or memory ran out
abbrev pub Is_refused_in : List Source_file → ℕ → Refused → Text → Refused → Type 0
Is_refused_in all number reason path why.Memory = Unit {0}
Is_refused_in all number reason path told = (told ≡ reason) × (path ≡ path_of (item all number))

-- this is the prelude, as a file
pub record Is_prelude_file (file : Source_file) : Type 0 where
  pub program : Program
  pub is_prelude : IsPrelude program
  pub is : file ≡ prelude_of program

-- these are files behind the prelude
pub record Stand_behind (files all : List Source_file) : Type 0 where
  pub prelude : Program
  pub is_prelude : IsPrelude prelude
  pub are : all ≡ prelude_of prelude ∷ files

-- these are the files of the program that begins with this one, the prelude first
pub record Are_sources (seen : LoaderSeen) (file : Text) (all : List Source_file) : Type 0 where
  pub prelude : Program
  pub is_prelude : IsPrelude prelude
  pub files : List Source_file
  pub read : Are_read seen file files
  pub are : all ≡ prelude_of prelude ∷ files

-- the program is accepted, and what is known of it and its files
pub record Is_accepted (seen : LoaderSeen) (file : Text) (accepted : Accepted) (sizing : Sizing) (all : List Source_file) : Type 0 where
  pub acceptable : IsAcceptable seen file (flat_of accepted.flat)
  pub known : Is_known accepted
  pub sized : Told_by (Has_sizing (typing_of accepted.flat) sizing) accepted.inference
  pub files : all ≡ prelude_of acceptable.resolved.resolves.prelude ∷ acceptable.resolved.files

-- why files are not read, as a refusal
abbrev pub unread_as : Unread → Refused
unread_as unread.Memory = why.Memory
unread_as err = why.Unread err

-- memory ran out, or what comes to an answer comes to this refusal of names
abbrev pub Misnames : (Result FlatProgram Refusal → Type 0) → Refused → Type 0
Misnames Come_to (why.Unread err) = ⊥
Misnames Come_to why.ImportCycle = ⊥
Misnames Come_to (why.Names (names.Unbound name at)) = Come_to (Err (refusal.Unbound name at))
Misnames Come_to (why.Names (names.Twice name at)) = Come_to (Err (refusal.Twice name at))
Misnames Come_to (why.Names (names.NoMember name at)) = Come_to (Err (refusal.NoMember name at))
Misnames Come_to (why.Names (names.SealMissing name at)) = Come_to (Err (refusal.SealMissing name at))
Misnames Come_to (why.Names (names.TooManyApplications at)) = Come_to (Err (refusal.TooManyApplications at))
Misnames Come_to (why.Types err) = ⊥
Misnames Come_to (why.Misfit err) = ⊥
Misnames Come_to (why.Misused err) = ⊥
Misnames Come_to why.Memory = Unit {0}

-- memory ran out, or these definitions have no typing to go on with
abbrev pub Untyped : List Defined → Refused → Type 0
Untyped ds (why.Unread err) = ⊥
Untyped ds why.ImportCycle = ⊥
Untyped ds (why.Names err) = ⊥
Untyped ds (why.Types types.Memory) = ⊥
Untyped ds (why.Types err) = Mistyped ds err
Untyped ds (why.Misfit err) = ⊥
Untyped ds (why.Misused err) = ⊥
Untyped ds why.Memory = Unit {0}

-- memory ran out, or the program has no sizing
abbrev pub Unsized : Flat → Refused → Type 0
Unsized flat (why.Unread err) = ⊥
Unsized flat why.ImportCycle = ⊥
Unsized flat (why.Names err) = ⊥
Unsized flat (why.Types err) = ⊥
Unsized flat (why.Misfit misfit.Memory) = ⊥
Unsized flat (why.Misfit err) = Misfits (typing_of flat) (texts flat.names.now) (program_places flat.definitions.now) err
Unsized flat (why.Misused err) = ⊥
Unsized flat why.Memory = Unit {0}

-- memory ran out, or the program breaks a rule of aliases and consumption
abbrev pub Overwrites : Flat → Refused → Type 0
Overwrites flat (why.Unread err) = ⊥
Overwrites flat why.ImportCycle = ⊥
Overwrites flat (why.Names err) = ⊥
Overwrites flat (why.Types err) = ⊥
Overwrites flat (why.Misfit err) = ⊥
Overwrites flat (why.Misused misuse.Memory) = ⊥
Overwrites flat (why.Misused err) = Misused (typing_of flat) (texts flat.names.now) (program_places flat.definitions.now) err
Overwrites flat why.Memory = Unit {0}

-- the files, the prelude first, are accepted
pub record Takes (all : List Source_file) (accepted : Accepted) (sizing : Sizing) : Type 0 where
  pub resolved : Elaborates all (Ok (flat_of accepted.flat))
  pub known : Is_known accepted
  pub told : Told_by (Has_sizing (typing_of accepted.flat) sizing) accepted.inference
  pub sized : Some_order (Has_sizing (typing_of accepted.flat) sizing)
  pub unbroken : Some_order (Breaks_none (typing_of accepted.flat))

-- they come to a flat program that is refused so
pub record Fails_behind (all : List Source_file) (Refuses : Flat → Type 0) : Type 0 where
  pub flat : Flat
  pub resolved : Elaborates all (Ok (flat_of flat))
  pub refuses : Refuses flat

-- they come to a flat program that has a sizing, and is refused so
pub record Fails_last (all : List Source_file) (Refuses : Flat → Type 0) : Type 0 where
  pub flat : Flat
  pub resolved : Elaborates all (Ok (flat_of flat))
  pub sizing : Sizing
  pub sized : Some_order (Has_sizing (typing_of flat) sizing)
  pub refuses : Refuses flat

-- memory ran out, or the files, the prelude first, are not accepted for this reason
abbrev pub Faults : List Source_file → Refused → Type 0
Faults all (why.Unread err) = ⊥
Faults all why.ImportCycle = ⊥
Faults all (why.Names err) = Misnames (Elaborates all) (why.Names err)
Faults all (why.Types err) = Fails_behind all (λ flat. Untyped (typing_of flat) (why.Types err))
Faults all (why.Misfit err) = Fails_behind all (λ flat. Unsized flat (why.Misfit err))
Faults all (why.Misused err) = Fails_last all (λ flat. Overwrites flat (why.Misused err))
Faults all why.Memory = Unit {0}

-- memory ran out, or the program is not accepted for this reason, which stands in the file at this path
abbrev pub Explains : Text → LoaderSeen → LoaderSeen → Text → Refused → Type 0
Explains file old new path why.Memory = new ≡ old
Explains file old new path reason = Unaccepted file old new path reason
