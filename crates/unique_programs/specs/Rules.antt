-- The rules of aliases and consumption over a program that has a typing.
use Rattle.std.specs.Prelude.{◌≡◌, List, Option, None}
use Rattle.fut_types.specs.declared.Kind.TheVariants as kind
use Rattle.fut_types.specs.Types.{Sub, Kinds}
use Rattle.fut_typing.specs.Names.{Names}
use Rattle.fut_typing.specs.Program.{Defined}
use Rattle.fut_typing.specs.Answers.{Typing_is}
use Rattle.fut_aliases.specs.Programs.{first_broken_rule}
use Rattle.fut_aliases.specs.declared.refusals.Broken.{Broken}

-- What a typing leaves undetermined is of a kind that has arrays (`Variables.antt`): a type variable may stand for an array.
abbrev pub any_kinds : Kinds
any_kinds v = kind.Any

-- by the types of the program this is the first rule that it breaks, if it breaks one
pub record First_broken (ds : List Defined) (answer : Option Broken) (N : Names) : Type 0 where
  pub types : Sub
  pub typing : Typing_is N ds types
  pub is : first_broken_rule N any_kinds types ds ≡ answer

-- it has a typing, and breaks none
abbrev pub Breaks_none : List Defined → Names → Type 0
Breaks_none ds N = First_broken ds None N
