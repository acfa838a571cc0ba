-- What is proved of the files that are read.
use Rattle.std.specs.Prelude.{◌≡◌, ◌⊎◌, ℕ, suc, List, ◌∷◌, flat_map, Some, is_some, true}
use Rattle.fut_ast.specs.Sorts.{Text}
use Rattle.fut_io.specs.Outside.{LoaderSeen}
use Rattle.elab_scopes.specs.Imports.{Source_file, file_number, imported_file, item}
use Rattle.file_order.specs.Order.{imported_texts}
use Rattle.source_files.specs.Files.{Are_read, Stops}
use Rattle.source_files.specs.Reading.{All_read}
use Rattle.source_files.specs.declared.reading.Unread.{Unread}
use Rattle.source_files.specs.declared.reading.Unread.TheVariants as unread

-- the named file is the first
abbrev pub NamedIsFirst : Type 0
NamedIsFirst = (file : Text) (fs : List Source_file) → All_read file fs → file_number fs file ≡ Some 0

-- each path stands once
abbrev pub PathsStandOnce : Type 0
PathsStandOnce = (file : Text) (fs : List Source_file) (k : ℕ) (f : Source_file) → All_read file fs → item fs k ≡ Some f → file_number fs f.path ≡ Some k

-- what a file imports is one of the files, behind a prelude too
abbrev pub ImportsAreFiles : Type 0
ImportsAreFiles = (prelude : Source_file) (file : Text) (fs : List Source_file) (k j : ℕ) (f : Source_file) (x : Text) → All_read file fs → item fs k ≡ Some f → item (flat_map imported_texts f.program.decs) j ≡ Some x
    → is_some (imported_file (prelude ∷ fs) (suc k) x) ≡ true

-- ---- what the told files of a loader determine

-- which files are read
abbrev pub ReadOnce : Type 0
ReadOnce = (seen : LoaderSeen) (told : List (Text × Text)) → seen.files ≡ Some told → (file : Text) (fs others : List Source_file) → Are_read seen file fs → Are_read seen file others → fs ≡ others

-- the load failed, or memory ran out: told files have no part in that
abbrev pub Is_outside : Unread → Type 0
Is_outside why = (why ≡ unread.Load) ⊎ (why ≡ unread.Memory)

-- where all files are read, reading ends nowhere but where a load fails or memory runs out
abbrev pub ReadOrStopped : Type 0
ReadOrStopped = (seen : LoaderSeen) (told : List (Text × Text)) → seen.files ≡ Some told → (file : Text) (fs : List Source_file) → Are_read seen file fs → (new : LoaderSeen) (path : Text) (why : Unread) → Stops file seen new path why → Is_outside why
