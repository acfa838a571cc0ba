-- When the files of a program are accepted, and why others are not. The prelude is file 0, the named file is file 1, and the others
-- stand behind it in load order.
use Rattle.std.specs.Prelude.{◌≡◌, ◌≤◌, ◌<◌, ℕ, zero, suc, List, ◌∷◌, length, map, Result, Ok, Err}
use Rattle.std.specs.List.{range_with_len}
use Rattle.fut_scalar.specs.declared.place.Place.{Place}
use Rattle.fut_token.specs.declared.token.Token.{Token}
use Rattle.fut_lexer.specs.Lexing.{HasTokens}
use Rattle.fut_io.specs.Outside.{LoaderSeen}
use Rattle.fut_ast.specs.Sorts.{Text}
use Rattle.fut_ast.specs.declared.module.Program.{Program}
use Rattle.fut_flat.specs.Erased.{texts}
use Rattle.fut_flat.specs.Terms.{Bound_pattern}
use Rattle.fut_flat.specs.declared.program.Flat.{Flat}
use Rattle.flat_numbers.specs.Places.{program_places}
use Rattle.fut_types.specs.Types.{Sub}
use Rattle.fut_typing.specs.Names.{Names}
use Rattle.fut_typing.specs.Program.{Defined, program_of as typing_of}
use Rattle.fut_typing.specs.Answers.{Typing_is, NoType, FunctionPlace, Ambiguous}
use Rattle.elab_scopes.specs.Names.{Refusal}
use Rattle.elab_scopes.specs.Names as refusal
use Rattle.elab_scopes.specs.Programs.{FlatDefinition, FlatProgram}
use Rattle.elab_scopes.specs.Elaboration.{Elaborates}
use Rattle.elab_scopes.specs.Imports.{Source_file, item, path_of}
use Rattle.file_order.specs.Order.{First_cycle, Leads}
use Rattle.source_files.specs.Files.{Are_read, Spells, Stops}
use Rattle.source_files.specs.declared.reading.Unread.TheVariants as unread
use Rattle.module_elab.specs.Elaborated.{program_of as flat_of}
use Rattle.module_elab.specs.declared.prelude.TheConstants.{PRELUDE, PRELUDE_PATH}
use Rattle.typed_programs.specs.Mistyped.{Some_numbering}
use Rattle.typed_programs.specs.Ordered.{Some_order}
use Rattle.sized_types.specs.Sizes.{Size}
use Rattle.sized_programs.specs.Sizings.{Is_sized}
use Rattle.sized_programs.specs.Misfits.{Misfits}
use Rattle.sized_programs.specs.declared.misfit.Misfit.{Misfit}
use Rattle.sized_programs.specs.declared.misfit.Misfit.TheVariants as misfit
use Rattle.unique_programs.specs.Rules.{Breaks_none}
use Rattle.unique_programs.specs.Misuses.{Misused}
use Rattle.unique_programs.specs.declared.misuse.Misuse.{Misuse}
use Rattle.unique_programs.specs.declared.misuse.Misuse.TheVariants as misuse
use Rattle.front.specs.declared.refusals.NameErr.{NameErr}
use Rattle.front.specs.declared.refusals.NameErr.TheVariants as names
use Rattle.typed_programs.specs.declared.typed.TypeErr.{TypeErr}
use Rattle.typed_programs.specs.declared.typed.TypeErr.TheVariants as types
use Rattle.front.specs.declared.refusals.Refused.{Refused}
use Rattle.front.specs.declared.refusals.Refused.TheVariants as why

abbrev pub prelude_file : ℕ
prelude_file = 0

abbrev pub named_file : ℕ
named_file = 1

-- ---- names

abbrev pub IsPreludeText : List Token → Type 0
IsPreludeText tokens = HasTokens prelude_file PRELUDE.now tokens

-- what the text of the prelude spells
pub record IsPrelude (prelude : Program) : Type 0 where
  pub tokens : List Token
  pub lexed : IsPreludeText tokens
  pub parsed : Spells tokens prelude

abbrev pub prelude_of : Program → Source_file
prelude_of p = record { path = PRELUDE_PATH.now; program = p }

-- the path of the file of a number, behind the prelude
unfoldable pub path_of_file : List Source_file → ℕ → Text
path_of_file files zero = PRELUDE_PATH.now
path_of_file files (suc k) = path_of (item files k)

-- no file behind the prelude imports itself, perhaps through others
abbrev pub Acyclic : List Source_file → Type 0
Acyclic all = (k : ℕ) → 1 ≤ k → k < length all → Leads all k k → ⊥

-- Behind the prelude these files, of which none imports itself, come to this: the flat program of what they declare, or the first
-- refusal of names.
pub record Resolves (files : List Source_file) (answer : Result FlatProgram Refusal) : Type 0 where
  pub prelude : Program
  pub is_prelude : IsPrelude prelude
  pub acyclic : Acyclic (prelude_of prelude ∷ files)
  pub resolved : Elaborates (prelude_of prelude ∷ files) answer

-- ---- types

abbrev pub defined_of : FlatDefinition → Defined
defined_of d = record { name = Bound_pattern d.bind; parameters = d.parameters; value = d.value }

-- the definitions of a flat program, as typing speaks of them
abbrev pub definitions_of : FlatProgram → List Defined
definitions_of flat = map defined_of flat.definitions

abbrev pub Typable : Names → List Defined → Type 0
Typable N ds = (types : Sub) × Typing_is N ds types

-- ---- sizes

abbrev pub Sizable : Names → List Defined → Type 0
Sizable N ds = (sizes : ℕ → Size) × Is_sized ds (Ok sizes) N

-- ---- what is accepted

-- the files of the program that begins with this one come to this
pub record IsResolved (seen : LoaderSeen) (file : Text) (answer : Result FlatProgram Refusal) : Type 0 where
  pub files : List Source_file
  pub read : Are_read seen file files
  pub resolves : Resolves files answer

-- The program that begins with the file at this path is accepted: behind the prelude its files are this flat program, and names and
-- records can be numbered so that it has a typing, and in the order of names so that by one it has a sizing and by one it breaks no
-- rule of aliases and consumption.
pub record IsAcceptable (seen : LoaderSeen) (file : Text) (flat : FlatProgram) : Type 0 where
  pub resolved : IsResolved seen file (Ok flat)
  pub typed : Some_numbering (λ N. Typable N (definitions_of flat))
  pub sized : Some_order (λ N. Sizable N (definitions_of flat))
  pub unbroken : Some_order (Breaks_none (definitions_of flat))

-- ---- where a refusal stands

abbrev pub nowhere : Place
nowhere = record { file = 0; line = 1; column = 1 }

abbrev pub names_place : NameErr → Place
names_place (names.Unbound name at) = at
names_place (names.Twice name at) = at
names_place (names.NoMember name at) = at
names_place (names.SealMissing name at) = at
names_place (names.TooManyApplications at) = at

abbrev pub types_place : TypeErr → Place
types_place (types.NoType at) = at
types_place (types.FunctionPlace at) = at
types_place (types.Ambiguous at) = at
types_place types.Memory = nowhere

abbrev pub misfit_place : Misfit → Place
misfit_place (misfit.SizesDiffer left right at) = at
misfit_place (misfit.Escapes at) = at
misfit_place (misfit.Irregular at) = at
misfit_place misfit.Memory = nowhere

abbrev pub misuse_place : Misuse → Place
misuse_place (misuse.Consumed name at used) = used
misuse_place (misuse.NotConsumable name at) = at
misuse_place (misuse.Captured name at) = at
misuse_place (misuse.ResultAliases name at) = at
misuse_place misuse.Memory = nowhere

-- the number of the file in which a refusal behind reading stands
abbrev pub refused_at : Refused → ℕ
refused_at (why.Names err) = (names_place err).file
refused_at (why.Types err) = (types_place err).file
refused_at (why.Misfit err) = (misfit_place err).file
refused_at (why.Misused err) = (misuse_place err).file
refused_at (why.Unread err) = 0
refused_at why.ImportCycle = 0
refused_at why.Memory = 0

-- ---- what is not accepted, and why

-- their flat program has no typing to go on with
pub record IsUntyped (files : List Source_file) (Lacks : Names → List Defined → Type 0) : Type 0 where
  pub flat : FlatProgram
  pub resolves : Resolves files (Ok flat)
  pub lacks : Some_numbering (λ N. Lacks N (definitions_of flat))

-- Their flat program has a typing by which it has no sizing, for the first reason as the refusal tells it: with the sizes and the
-- places of its nodes as they stand in a tree of the program.
pub record IsMisfit (files : List Source_file) (refusal : Misfit) : Type 0 where
  pub flat : Flat
  pub resolves : Resolves files (Ok (flat_of flat))
  pub misfits : Misfits (typing_of flat) (texts flat.names.now) (program_places flat.definitions.now) refusal

-- Their flat program has a sizing, and a typing by which it breaks a rule of aliases and consumption, the first of them as the
-- refusal tells it: with its names, and the places of its nodes as they stand in a tree of the program.
pub record IsMisused (files : List Source_file) (refusal : Misuse) : Type 0 where
  pub flat : Flat
  pub resolves : Resolves files (Ok (flat_of flat))
  pub sized : Some_order (λ N. Sizable N (typing_of flat))
  pub breaks : Misused (typing_of flat) (texts flat.names.now) (program_places flat.definitions.now) refusal

-- why these files are not accepted. Want of memory says nothing of them.
abbrev pub Unacceptable : List Source_file → Refused → Type 0
Unacceptable files (why.Unread err) = ⊥
Unacceptable files why.ImportCycle = ⊥
Unacceptable files (why.Names (names.Unbound name at)) = Resolves files (Err (refusal.Unbound name at))
Unacceptable files (why.Names (names.Twice name at)) = Resolves files (Err (refusal.Twice name at))
Unacceptable files (why.Names (names.NoMember name at)) = Resolves files (Err (refusal.NoMember name at))
Unacceptable files (why.Names (names.SealMissing name at)) = Resolves files (Err (refusal.SealMissing name at))
Unacceptable files (why.Names (names.TooManyApplications at)) = Resolves files (Err (refusal.TooManyApplications at))
Unacceptable files (why.Types (types.NoType at)) = IsUntyped files NoType
Unacceptable files (why.Types (types.FunctionPlace at)) = IsUntyped files FunctionPlace
Unacceptable files (why.Types (types.Ambiguous at)) = IsUntyped files Ambiguous
Unacceptable files (why.Types types.Memory) = ⊥
Unacceptable files (why.Misfit misfit.Memory) = ⊥
Unacceptable files (why.Misfit err) = IsMisfit files err
Unacceptable files (why.Misused misuse.Memory) = ⊥
Unacceptable files (why.Misused err) = IsMisused files err
Unacceptable files why.Memory = ⊥

-- all files are read, which are not accepted; the path is that of the file in which the refusal stands
pub record IsRefused (file : Text) (old new : LoaderSeen) (path : Text) (reason : Refused) : Type 0 where
  pub files : List Source_file
  pub read : Are_read old file files
  pub same : new ≡ old
  pub path_is : path ≡ path_of_file files (refused_at reason)
  pub because : Unacceptable files reason

-- all files are read, and the one at this path is the first in load order that imports itself
pub record IsCyclic (file : Text) (old new : LoaderSeen) (path : Text) : Type 0 where
  pub files : List Source_file
  pub read : Are_read old file files
  pub same : new ≡ old
  pub prelude : Program
  pub is_prelude : IsPrelude prelude
  pub number : ℕ
  pub cycle : First_cycle (prelude_of prelude ∷ files) number (range_with_len 1 (length files))
  pub path_is : path ≡ path_of_file files number

-- why the program that begins with this file is not accepted, and the path of the file in which that stands
abbrev pub Unaccepted : Text → LoaderSeen → LoaderSeen → Text → Refused → Type 0
Unaccepted file old new path (why.Unread unread.Memory) = ⊥
Unaccepted file old new path (why.Unread err) = Stops file old new path err
Unaccepted file old new path why.ImportCycle = IsCyclic file old new path
Unaccepted file old new path why.Memory = ⊥
Unaccepted file old new path reason = IsRefused file old new path reason

-- The refusal is one of sizes, or of aliases and consumption, or a load failed: what is accepted may have none of another kind.
abbrev pub IsBehindTypes : Refused → Type 0
IsBehindTypes (why.Misfit err) = Unit {0}
IsBehindTypes (why.Misused err) = Unit {0}
IsBehindTypes (why.Unread unread.Load) = Unit {0}
IsBehindTypes refused = ⊥
