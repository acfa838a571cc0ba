-- The definition at which a run may begin under a name.
use Rattle.std.specs.Prelude.{◌≡◌, ℕ, ◌<◌, ◌==◌, ◌&&◌, Bool, true, false, Option, Some, None, slice_get}
use Rattle.std.specs.Str.{bytes_eq}
use Rattle.std.specs.Borrow.{Bor}
use Rattle.fut_ast.specs.Sorts.{Text}
use Rattle.fut_flat.specs.declared.program.Definition.{Definition}
use Rattle.fut_flat.specs.declared.program.Flat.{Flat}

abbrev pub named_file : ℕ
named_file = 1

abbrev pub is_text : Option (Bor Text) → Text → Bool
is_text (Some x) name = bytes_eq x.now name
is_text None name = false

-- It stands directly in the named file, and is written `entry` or is named `main`; and its name has this text.
abbrev pub begins : Flat → Text → Definition → Bool
begins flat name d = d.is_entry && (d.file == named_file && is_text (slice_get flat.names.now d.bind.0) name)

-- a run may begin at this definition of the row. A file defines a name once, so there is no other; it is the first of the row.
pub record Begins_at (flat : Flat) (name : Text) (at : ℕ) : Type 0 where
  pub definition : Definition
  pub is : slice_get flat.definitions.now at ≡ Some definition
  pub first : (before : ℕ) (d : Definition) → before < at → slice_get flat.definitions.now before ≡ Some d → begins flat name d ≡ false
  pub begins : begins flat name definition ≡ true

-- it may begin at none
abbrev pub Begins_nowhere : Flat → Text → Type 0
Begins_nowhere flat name = (at : ℕ) (d : Definition) → slice_get flat.definitions.now at ≡ Some d → begins flat name d ≡ false
