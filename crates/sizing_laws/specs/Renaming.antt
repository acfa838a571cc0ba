-- Two typings of a program: the one is the other with other names for its variables.
use Rattle.std.specs.Prelude.{◌≡◌, ℕ, ◌<◌, List}
use Rattle.fut_types.specs.Types.{Var, Sub, applied}
use Rattle.fut_typing.specs.Names.{Names}
use Rattle.fut_typing.specs.Program.{Defined, program_numbers}
use Rattle.fut_typing.specs.Answers.{Stands, Typing_is}

-- each variable has one other name, and each name is one variable's
pub record Renaming : Type 0 where
  pub to : ℕ → ℕ
  pub back : ℕ → ℕ
  pub there : (v : ℕ) → back (to v) ≡ v
  pub again : (v : ℕ) → to (back v) ≡ v

-- each number of the program has the renamed type, and each variable that stands in the principal typing the kind of its name
pub record Renamed_typing (N : Names) (ds : List Defined) (types others : Sub) (t : Typing_is N ds types) (o : Typing_is N ds others) : Type 0 where
  pub renaming : Renaming
  pub kinds : (n v : ℕ) → n < program_numbers ds → Stands v (t.principal.types n) → o.principal.kinds (renaming.to v) ≡ t.principal.kinds v
  pub is : (n : ℕ) → n < program_numbers ds → others n ≡ applied (λ v. Var (renaming.to v)) (types n)

-- any two typings of a program are such
abbrev pub TypingsAreOne : Type 0
TypingsAreOne = (N : Names) (ds : List Defined) (types others : Sub) (t : Typing_is N ds types) (o : Typing_is N ds others) → Renamed_typing N ds types others t o
