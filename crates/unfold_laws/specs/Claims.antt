-- What typing promises of unfolding: there is always a way on, and the blocks to which a program unfolds give for the
-- components of arguments of its types the components of a value of its result's type, or a report, and never go wrong.
use Rattle.std.specs.Prelude.{ℕ, List, [], Bool, false}
use Rattle.fut_scalar.specs.declared.place.BindId.{BindId}
use Rattle.fut_scalar.specs.declared.sizes.DataType.{DataType}
use Rattle.fut_flat.specs.declared.prim.Ref.{Ref}
use Rattle.fut_flat.specs.declared.program.Flat.{Flat}
use Rattle.fut_types.specs.declared.Kind.{Kind}
use Rattle.fut_types.specs.declared.Kind.TheVariants as kind
use Rattle.fut_types.specs.Types.{Ty, Tys, none, Sub, Kinds, HasKind}
use Rattle.fut_typing.specs.Exact.{scope_behind}
use Rattle.fut_typing.specs.Names.{Names, AreNames}
use Rattle.fut_typing.specs.Patterns.{arrows}
use Rattle.fut_typing.specs.Program.{program_of}
use Rattle.fut_typing.specs.Scopes.{nothing}
use Rattle.fut_meaning.specs.Claims.{Safe}
use Rattle.fut_meaning.specs.Flats.{FlatValue, FlatMode, named_terms, flat_tops}
use Rattle.fut_meaning.specs.Found.{Told}
use Rattle.fut_meaning.specs.Meaning.{plain}
use Rattle.fut_meaning.specs.Values.{Values, listed}
use Rattle.fut_blocks.specs.declared.block.Program.{Program}
use Rattle.fut_blocks.specs.Meaning.{Component}
use Rattle.fut_blocks.specs.Plain.{body_of}
use Rattle.fut_blocks.specs.Programs.{Program_means, AreOf}
use Rattle.type_soundness.specs.Programs.{Is_sized, Arguments_fit, Result_fits}
use Rattle.unfold_laws.specs.Closed.{Is_closed, All_closed}
use Rattle.unfold_laws.specs.Components.{components, all_components}
use Rattle.unfold_laws.specs.Shaped.{All_of_shapes}
use Rattle.unfold_laws.specs.Sorts.{Sorts, parts}
use Rattle.unfold_laws.specs.Typed.{of_constants, with_names, Body_typed, any_types}
use Rattle.unfold.specs.Programs.{Program_unfolds}
use Rattle.unfold.specs.Shapes.{Shape, Shapes, All_split, Is_value}
use Rattle.unfold.specs.Stuck.{Program_stuck}

-- the components of a value of this type
pub record Components_fit (N : Names) (T : Told) (M : FlatMode) (budget : ℕ) (h : Shape) (u : Ty) (components : List Component) : Type 0 where
  pub value : FlatValue
  pub split : Is_value h components value
  pub fits : Result_fits N T M budget false u value

abbrev pub BlocksNeverWrong : Type 0
BlocksNeverWrong =
    (N : Names) → AreNames N → (places : Kind) (K : Kinds) (a : Sub) (T : Told) (tight : Bool) (budget : ℕ) (flat : Flat) → Is_sized N places K a T flat
    → (entry : BindId) (ts : Tys) (u : Ty) → (scope_behind N places (program_of flat) 0 nothing).uses entry.0 K a (arrows ts u)
    → (hs : Shapes) (h : Shape) (p : Program) → Program_unfolds T (flat_tops 0 (named_terms flat)) entry.0 hs h p
    → (arguments : Values Ref BindId (Unit {0})) (components : List Component) → All_split hs arguments components [] → Arguments_fit N T (plain tight) budget false ts (listed arguments)
    → Safe (Components_fit N T (plain tight) budget h u) (Program_means tight budget p components)

-- and so the results, with tuples that are one component taken apart, are of the types of the components of the result's type
abbrev pub ResultsAreOf : Type 0
ResultsAreOf = (N : Names) (T : Told) (tight : Bool) (budget : ℕ) (h : Shape) (u : Ty) (ss : List DataType) (components : List Component) → Sorts u ss [] → Components_fit N T (plain tight) budget h u components → AreOf ss (parts components)

-- Unfolding a typed program is never stuck, from each entry that takes data of these shapes and gives data. Its places, as the
-- branches of an `if` and what a loop carries, hold data alone.
abbrev pub UnfoldingNeverStuck : Type 0
UnfoldingNeverStuck =
    (N : Names) → AreNames N → (K : Kinds) (a : Sub) (T : Told) (flat : Flat) → Is_sized N kind.Data K a T flat
    → (entry : BindId) (ts : Tys) (u : Ty) → (scope_behind N kind.Data (program_of flat) 0 nothing).uses entry.0 K a (arrows ts u) → HasKind K kind.Data u
    → (hs : Shapes) → All_of_shapes ts hs → Program_stuck T (flat_tops 0 (named_terms flat)) entry.0 hs → ⊥

-- The blocks to which a typed program unfolds are well typed, arrays included, where the parameters have the types of the
-- components of its arguments; and their results have those of the components of its result.
abbrev pub UnfoldedWellTyped : Type 0
UnfoldedWellTyped =
    (N : Names) → AreNames N → (K : Kinds) (a : Sub) (T : Told) (flat : Flat) → Is_sized N kind.Data K a T flat
    → (entry : BindId) (ts : Tys) (u : Ty) → (scope_behind N kind.Data (program_of flat) 0 nothing).uses entry.0 K a (arrows ts u) → HasKind K kind.Data u
    → (hs : Shapes) → All_of_shapes ts hs → (h : Shape) (p : Program) → Program_unfolds T (flat_tops 0 (named_terms flat)) entry.0 hs h p
    → Body_typed N K any_types (body_of p.body) (with_names p.params.now (all_components N hs ts none) of_constants) (components N h u none)

-- And where the types of its parameters and of its result have no variables, so it is where names have no other types: a name has
-- each that its step may have, and each use takes one.
abbrev pub UnfoldedClosed : Type 0
UnfoldedClosed =
    (N : Names) → AreNames N → (K : Kinds) (a : Sub) (T : Told) (flat : Flat) → Is_sized N kind.Data K a T flat
    → (entry : BindId) (ts : Tys) (u : Ty) → (scope_behind N kind.Data (program_of flat) 0 nothing).uses entry.0 K a (arrows ts u) → HasKind K kind.Data u → All_closed ts → Is_closed u
    → (hs : Shapes) → All_of_shapes ts hs → (h : Shape) (p : Program) → Program_unfolds T (flat_tops 0 (named_terms flat)) entry.0 hs h p
    → Body_typed N K All_closed (body_of p.body) (with_names p.params.now (all_components N hs ts none) of_constants) (components N h u none)
