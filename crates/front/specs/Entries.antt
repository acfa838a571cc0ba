-- The definition of a flat program at which a run may begin under a name.
use Rattle.std.specs.Prelude.{◌≡◌, ℕ, ◌==◌, ◌&&◌, Bool, true, false, Option, Some, None, slice_get}
use Rattle.std.specs.Str.{bytes_eq}
use Rattle.fut_ast.specs.Sorts.{Text}
use Rattle.elab_scopes.specs.Programs.{FlatDefinition, FlatProgram}
use Rattle.front.specs.Acceptance.{named_file}

abbrev pub is_text : Option Text → Text → Bool
is_text (Some x) name = bytes_eq x name
is_text None name = false

-- It stands directly in the named file, and is written `entry` or is named `main`; and its name has this text.
abbrev pub is_entry : FlatProgram → Text → FlatDefinition → Bool
is_entry flat name d = d.is_entry && (d.file == named_file && is_text (slice_get flat.names d.bind.0) name)

-- a run may begin at the definition behind so many others
pub record HasEntry (flat : FlatProgram) (name : Text) (at : ℕ) : Type 0 where
  pub definition : FlatDefinition
  pub is : slice_get flat.definitions at ≡ Some definition
  pub entry : is_entry flat name definition ≡ true

-- it may begin at none
abbrev pub HasNoEntry : FlatProgram → Text → Type 0
HasNoEntry flat name = (at : ℕ) (d : FlatDefinition) → slice_get flat.definitions at ≡ Some d → is_entry flat name d ≡ false
