-- What is answered of a program's aliases, and of its sizes where its typing leaves no variable open, hangs neither on how its names
-- and records are numbered, where that is in order, nor on which typing it is given.
use Rattle.std.specs.Prelude.{◌≡◌, ℕ, ◌<◌, List}
use Rattle.fut_types.specs.declared.Kind.{Kind}
use Rattle.fut_types.specs.Types.{Sub}
use Rattle.fut_typing.specs.Names.{Names, AreNames}
use Rattle.fut_typing.specs.Program.{Defined, program_numbers}
use Rattle.fut_typing.specs.Answers.{Stands, Typing_is}
use Rattle.fut_sizes.specs.Programs.{sizing}
use Rattle.fut_aliases.specs.Aliases.{Naming}
use Rattle.fut_aliases.specs.Programs.{first_broken}
use Rattle.sizing_laws.specs.Order.{In_order}
use Rattle.sizing_laws.specs.Renumbering.{Renumbers, renumbered_answer}

-- the first rule that a program breaks is one, where all variables are of one kind
abbrev pub FirstBrokenIsOne : Type 0
FirstBrokenIsOne = (naming : Naming) (k : Kind) (M N : Names) → AreNames M → AreNames N → In_order M → In_order N → (ds : List Defined) (types others : Sub) → Typing_is M ds types → Typing_is N ds others
    → first_broken naming N (λ v. k) others ds ≡ first_broken naming M (λ v. k) types ds

-- no variable stands in the types of its numbers
abbrev pub Nothing_open : List Defined → Sub → Type 0
Nothing_open ds types = (n v : ℕ) → n < program_numbers ds → Stands v (types n) → ⊥

-- one typing leaves nothing open where another leaves nothing open
abbrev pub NothingOpenIsOne : Type 0
NothingOpenIsOne = (M N : Names) → AreNames M → AreNames N → In_order M → In_order N → (ds : List Defined) (types others : Sub) → Typing_is M ds types → Typing_is N ds others → Nothing_open ds types → Nothing_open ds others

-- the sizes are refused in the same way, or the nodes have the same sized types, but for the numbers of records
pub record Sized_again (M N : Names) (ds : List Defined) (types others : Sub) : Type 0 where
  pub number : ℕ → ℕ
  pub renumbers : Renumbers M N number
  pub sizing : sizing N others ds ≡ renumbered_answer number (sizing M types ds)

-- and so the sizing is one
abbrev pub SizingsAreOne : Type 0
SizingsAreOne = (M N : Names) → AreNames M → AreNames N → In_order M → In_order N → (ds : List Defined) (types others : Sub) → Typing_is M ds types → Typing_is N ds others → Nothing_open ds types
    → Sized_again M N ds types others
