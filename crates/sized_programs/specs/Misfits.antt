-- Why a program has no sizing, in words: sizes as they stand in the source, and places.
use Rattle.std.specs.Prelude.{◌≡◌, Bool, false, not, nat_eq, cond, List, [], ◌∷◌, Option, Some, None, Err, slice_get}
use Rattle.fut_ast.specs.Sorts.{Text}
use Rattle.fut_scalar.specs.declared.place.Place.{Place}
use Rattle.fut_typing.specs.Names.{Names}
use Rattle.fut_typing.specs.Program.{Defined}
use Rattle.sized_types.specs.Sizes.{Const, Name, Own, Unknown, Slot, Dim, At, Bound}
use Rattle.fut_sizes.specs.Agreeing.{Refusal, Mismatch, Escapes, Irregular}
use Rattle.typed_programs.specs.Ordered.{Some_order}
use Rattle.sized_programs.specs.Sizings.{Is_sized}
use Rattle.sized_programs.specs.declared.misfit.Misfit.{Misfit}
use Rattle.sized_programs.specs.declared.misfit.Misfit.TheVariants as misfit
use Rattle.sized_programs.specs.declared.misfit.Shown.{Shown}
use Rattle.sized_programs.specs.declared.misfit.Shown.TheVariants as shown

-- ---- sizes

-- the names that the parser makes for what is written without one are of blanks, which no name of a source is
abbrev pub is_written : Text → Bool
is_written [] = false
is_written (c ∷ cs) = not (nat_eq c 32)

-- a name is shown if it stands in the source
abbrev pub name_shown : Option Text → Option Shown
name_shown None = None
name_shown (Some name) = Some (cond (is_written name) (shown.Named name) shown.Unknown)

-- How a size is shown, where the texts of the bound names are these: its number, its name, or `unknown`.
abbrev pub size_shown : List Text → Dim → Option Shown
size_shown names (At (Const c)) = Some (shown.Number c)
size_shown names (At (Name b)) = name_shown (slice_get names b)
size_shown names (At (Own n i)) = Some shown.Unknown
size_shown names (At (Unknown n i)) = Some shown.Unknown
size_shown names (At (Slot i)) = Some shown.Unknown
size_shown names (Bound j i) = Some shown.Unknown

-- ---- refusals

-- What is said of a refusal, where the nodes stand at these places: each at the first token of the node at which it is met. An
-- array without elements has its `[` for that.
abbrev pub Tells : List Text → List Place → Refusal → Misfit → Type 0
Tells names places (Mismatch n d e) (misfit.SizesDiffer left right at) = (size_shown names d ≡ Some left) × (size_shown names e ≡ Some right) × (slice_get places n ≡ Some at)
Tells names places (Escapes n) (misfit.Escapes at) = slice_get places n ≡ Some at
Tells names places (Irregular n) (misfit.Irregular at) = slice_get places n ≡ Some at
Tells names places r m = ⊥

-- or memory ran out
abbrev pub Told : List Text → List Place → Refusal → Misfit → Type 0
Told names places r misfit.Memory = Unit {0}
Told names places r m = Tells names places r m

-- by a typing of the program it is the first refusal
pub record Is_refused (ds : List Defined) (names : List Text) (places : List Place) (m : Misfit) (N : Names) : Type 0 where
  pub refusal : Refusal
  pub first : Is_sized ds (Err refusal) N
  pub told : Tells names places refusal m

-- Why a program of these definitions, whose names have these texts and whose nodes stand at these places, has no sizing. The
-- parts of a record are matched in the order of its names. Want of memory says nothing of the program.
abbrev pub Misfits : List Defined → List Text → List Place → Misfit → Type 0
Misfits ds names places misfit.Memory = Unit {0}
Misfits ds names places m = Some_order (Is_refused ds names places m)
