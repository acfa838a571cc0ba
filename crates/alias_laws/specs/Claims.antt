-- The law: a name may be left out of a set where an earlier one stands in it.
use Rattle.std.specs.Prelude.{◌≡◌, List}
use Rattle.fut_types.specs.Types.{Sub, Kinds}
use Rattle.fut_typing.specs.Names.{Names}
use Rattle.fut_typing.specs.Program.{Defined}
use Rattle.fut_aliases.specs.Aliases.{with_alias, first_name_alone}
use Rattle.fut_aliases.specs.Programs.{first_broken}

abbrev pub KeptNamesAnswerTheSame : Type 0
KeptNamesAnswerTheSame = (N : Names) (K : Kinds) (types : Sub) (ds : List Defined) → first_broken first_name_alone N K types ds ≡ first_broken with_alias N K types ds
