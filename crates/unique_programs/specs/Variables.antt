-- Which kinds are left in a typing.
use Rattle.std.specs.Prelude.{ℕ, ◌≤◌, ◌<◌, List}
use Rattle.fut_types.specs.Types.{Sub, level}
use Rattle.fut_typing.specs.Names.{Names}
use Rattle.fut_typing.specs.Program.{Defined, program_numbers}
use Rattle.fut_typing.specs.Answers.{Stands, Typing_is}

-- a variable that stands in a typing of a program is of a kind that has arrays
abbrev pub Variables_may_be_arrays : Type 0
Variables_may_be_arrays = (N : Names) (ds : List Defined) (types : Sub) (typing : Typing_is N ds types) (n v : ℕ) → n < program_numbers ds → Stands v (types n) → level (typing.principal.kinds v) ≤ 1
