-- The definition at which a run begins, as the code finds it, and why it finds none.
use Rattle.std.specs.Prelude.{◌≡◌, ◌⊎◌, ℕ, List, Bool, Some, None, slice_index_or}
use Rattle.fut_ast.specs.Sorts.{Text}
use Rattle.fut_scalar.specs.declared.sizes.DataType.{DataType}
use Rattle.fut_flat.specs.declared.program.Definition.{Definition}
use Rattle.size_program.specs.Tables.{node_at}
use Rattle.sized_programs.specs.declared.checking.Sizing.{Sizing}
use Rattle.typed_programs.specs.declared.typed.Accepted.{Accepted}
use Rattle.typed_programs.specs.Entries.{Is_outside, Is_unwritten, May_be_used}
use Rattle.typed_programs.specs.EntryTypes.{number_of}
use Rattle.entry_sizes.specs.Wanted.{wanted_of}
use Rattle.front.specs.EntryNameEntries.{Begins_at, Begins_nowhere}
use Rattle.futhark_status.specs.declared.status.EntryErr.TheVariants.{NoEntry, OutsideProfile}
use Rattle.futhark_core.specs.declared.entries.Entry.{Entry}
use Rattle.futhark_core.specs.declared.entries.FindErr.{FindErr}
use Rattle.futhark_core.specs.declared.entries.FindErr.TheVariants as find

-- a run begins at this definition under this name
pub record Is_found (accepted : Accepted) (sizing : Sizing) (name : Text) (entry : Entry) : Type 0 where
  pub begins : Begins_at accepted.flat name entry.at
  pub number : (other : Definition) → (slice_index_or accepted.flat.definitions.now entry.at other).bind.0 ≡ entry.number.0
  pub unwritten : Is_unwritten accepted.flat entry.at
  pub usable : May_be_used accepted.flat accepted.inference entry.at entry.ty.params entry.ty.tuple entry.ty.results
  pub wants : wanted_of entry.ty.params (node_at sizing.nodes (number_of accepted.flat entry.at)) ≡ Some entry.wanted

-- the definition behind so many others takes and gives data, and wants other sizes of its arguments
pub record Is_wanting (accepted : Accepted) (sizing : Sizing) (at : ℕ) : Type 0 where
  pub params : List DataType
  pub tuple : Bool
  pub results : List DataType
  pub usable : May_be_used accepted.flat accepted.inference at params tuple results
  pub none : wanted_of params (node_at sizing.nodes (number_of accepted.flat at)) ≡ None

-- there is a definition of this name, at which no run begins
pub record Is_found_outside (accepted : Accepted) (sizing : Sizing) (name : Text) : Type 0 where
  pub at : ℕ
  pub begins : Begins_at accepted.flat name at
  pub none : Is_outside accepted.flat accepted.inference at ⊎ Is_wanting accepted sizing at

-- want of memory says nothing
abbrev pub Not_found : Accepted → Sizing → Text → FindErr → Type 0
Not_found accepted sizing name (find.Entry NoEntry) = Begins_nowhere accepted.flat name
Not_found accepted sizing name (find.Entry OutsideProfile) = Is_found_outside accepted sizing name
Not_found accepted sizing name find.Memory = Unit {0}
