-- What is said of a rule that is broken: names as texts, and places.
use Rattle.std.specs.Prelude.{◌≡◌, codes, List, Option, Some, slice_get}
use Rattle.fut_ast.specs.Sorts.{Text}
use Rattle.fut_scalar.specs.declared.place.Place.{Place}
use Rattle.fut_primitives.specs.Table.{name}
use Rattle.fut_typing.specs.Names.{Names}
use Rattle.fut_typing.specs.Program.{Defined}
use Rattle.fut_aliases.specs.declared.aliases.Alias.TheVariants.{Part, Own}
use Rattle.fut_aliases.specs.declared.refusals.Broken.{Broken}
use Rattle.fut_aliases.specs.declared.refusals.Broken.TheVariants as broken
use Rattle.fut_aliases.specs.declared.refusals.Named.{Named}
use Rattle.fut_aliases.specs.declared.refusals.Named.TheVariants.{ByAlias, ByName, ByPrimitive, AFunction}
use Rattle.fut_aliases.specs.declared.refusals.Spot.{Spot}
use Rattle.fut_aliases.specs.declared.refusals.Spot.TheVariants.{First, Mark}
use Rattle.typed_programs.specs.Ordered.{Some_order}
use Rattle.unique_programs.specs.Rules.{First_broken}
use Rattle.unique_programs.specs.declared.misuse.Misuse.{Misuse}
use Rattle.unique_programs.specs.declared.misuse.Misuse.TheVariants as misuse

-- How a name stands in the source, where the texts of the bound names are these. What the components of a call's result share
-- is called `result`, and a function without a name `function`.
abbrev pub text_of : List Text → Named → Option Text
text_of names (ByAlias (Part n i b)) = slice_get names b.0
text_of names (ByAlias (Own n)) = Some (codes "result")
text_of names (ByName b) = slice_get names b.0
text_of names (ByPrimitive p) = Some (name p)
text_of names AFunction = Some (codes "function")

-- where something happens, where the nodes stand at these places
abbrev pub place_of : List Place → Spot → Option Place
place_of places (First n) = slice_get places n
place_of places (Mark at) = Some at

-- a refusal tells the rule that is broken, with its names and places
abbrev pub Tells : List Text → List Place → Broken → Misuse → Type 0
Tells names places (broken.Consumed n p q) (misuse.Consumed name at used) = (text_of names n ≡ Some name) × (place_of places p ≡ Some at) × (place_of places q ≡ Some used)
Tells names places (broken.NotConsumable n p) (misuse.NotConsumable name at) = (text_of names n ≡ Some name) × (place_of places p ≡ Some at)
Tells names places (broken.Captured n p) (misuse.Captured name at) = (text_of names n ≡ Some name) × (place_of places p ≡ Some at)
Tells names places (broken.ResultAliases n p) (misuse.ResultAliases name at) = (text_of names n ≡ Some name) × (place_of places p ≡ Some at)
Tells names places b m = ⊥

-- or memory ran out
abbrev pub Told : List Text → List Place → Broken → Misuse → Type 0
Told names places b misuse.Memory = Unit {0}
Told names places b m = Tells names places b m

-- by a typing of the program it is the first rule that is broken
pub record Is_broken (ds : List Defined) (names : List Text) (places : List Place) (refusal : Misuse) (N : Names) : Type 0 where
  pub rule : Broken
  pub first : First_broken ds (Some rule) N
  pub told : Tells names places rule refusal

-- Why a program of these definitions, whose names have these texts and whose nodes stand at these places, is refused. Of two
-- fields of a record the one whose name comes first is looked at first. Want of memory says nothing of the program.
abbrev pub Misused : List Defined → List Text → List Place → Misuse → Type 0
Misused ds names places misuse.Memory = Unit {0}
Misused ds names places refusal = Some_order (Is_broken ds names places refusal)
