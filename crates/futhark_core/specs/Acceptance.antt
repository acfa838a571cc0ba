-- When a source is accepted, and why another one is not.
use Rattle.std.specs.Prelude.{◌≡◌, ℕ, List, ◌∷◌}
use Rattle.fut_io.specs.Outside.{LoaderSeen}
use Rattle.fut_flat.specs.declared.program.Flat.{Flat}
use Rattle.elab_scopes.specs.Imports.{Source_file}
use Rattle.module_elab.specs.Elaborated.{program_of}
use Rattle.source_files.specs.declared.reading.Unread.TheVariants as unread
use Rattle.front.specs.Acceptance.{prelude_of, IsAcceptable, Unaccepted}
use Rattle.front.specs.declared.refusals.Refused.TheVariants as refused
use Rattle.futhark_status.specs.declared.status.Why.{Why}
use Rattle.futhark_status.specs.declared.status.Why.TheVariants as why

-- what is accepted: the files in load order, the prelude first, and the flat program to which they come
pub record Source : Type 0 where
  pub files : List Source_file
  pub flat : Flat

-- The program that begins with this file is this source, which has a typing, by which it has a sizing and breaks no rule of aliases
-- and consumption; and the loader has changed nothing.
pub record AcceptedFile (file : List ℕ) (old new : LoaderSeen) (source : Source) : Type 0 where
  pub same : new ≡ old
  pub acceptable : IsAcceptable old file (program_of source.flat)
  pub files : source.files ≡ prelude_of acceptable.resolved.resolves.prelude ∷ acceptable.resolved.files

-- the program that begins with this file is not accepted for this reason, which stands in the file at this path
abbrev pub UnacceptedFile : (file : List ℕ) → LoaderSeen → LoaderSeen → (path : List ℕ) → Why → Type 0
UnacceptedFile file old new path why.Load = Unaccepted file old new path (refused.Unread unread.Load)
UnacceptedFile file old new path why.FileBytes = Unaccepted file old new path (refused.Unread unread.TooLong)
UnacceptedFile file old new path why.Files = Unaccepted file old new path (refused.Unread unread.TooMany)
UnacceptedFile file old new path (why.Lex err) = Unaccepted file old new path (refused.Unread (unread.Lex err))
UnacceptedFile file old new path (why.Parse err) = Unaccepted file old new path (refused.Unread (unread.Parse err))
UnacceptedFile file old new path (why.NotBuilt place) = Unaccepted file old new path (refused.Unread (unread.NotBuilt place))
UnacceptedFile file old new path why.ImportCycle = Unaccepted file old new path refused.ImportCycle
UnacceptedFile file old new path (why.Names err) = Unaccepted file old new path (refused.Names err)
UnacceptedFile file old new path (why.Types err) = Unaccepted file old new path (refused.Types err)
UnacceptedFile file old new path (why.Sizes err) = Unaccepted file old new path (refused.Misfit err)
UnacceptedFile file old new path (why.Unique err) = Unaccepted file old new path (refused.Misused err)
UnacceptedFile file old new path why.Memory = ⊥
