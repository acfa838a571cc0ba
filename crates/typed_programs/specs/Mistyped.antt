-- Why a program has no typing to go on with. That does not hang on how names and records are numbered, so it is said of some
-- numbering.
use Rattle.std.specs.Prelude.{List}
use Rattle.fut_typing.specs.Names.{Names, AreNames}
use Rattle.fut_typing.specs.Program.{Defined}
use Rattle.fut_typing.specs.Answers.{NoType, FunctionPlace, Ambiguous}
use Rattle.typed_programs.specs.declared.typed.TypeErr.{TypeErr}
use Rattle.typed_programs.specs.declared.typed.TypeErr.TheVariants as err

-- names and records can be numbered so that this holds
abbrev pub Some_numbering : (Names → Type 0) → Type 0
Some_numbering P = (N : Names) × AreNames N × P N

-- why there is none. Want of memory says nothing of the program.
abbrev pub Mistyped : List Defined → TypeErr → Type 0
Mistyped ds (err.NoType at) = Some_numbering (λ N. NoType N ds)
Mistyped ds (err.FunctionPlace at) = Some_numbering (λ N. FunctionPlace N ds)
Mistyped ds (err.Ambiguous at) = Some_numbering (λ N. Ambiguous N ds)
Mistyped ds err.Memory = Unit {0}
