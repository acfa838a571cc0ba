-- What the code knows of names, which is what the definition knows.
use Rattle.std.specs.Prelude.{◌≡◌, ℕ, ℤ, Option, Result, Ok}
use Rattle.value_text.specs.Gives.{Refused_so}
use Rattle.value_text.specs.Sizes.{Known, found}
use Rattle.value_text.specs.declared.reading.TextErr.{TextErr}

-- what a name stands for
abbrev pub Names : Type 0
Names = ℕ → Option ℤ

abbrev pub Stands : Names → Known → Type 0
Stands names list = (name : ℕ) → found name list ≡ names name

-- the definition goes on with what the code knows
pub record Goes_on (names : Names) (result : Result Known TextErr) : Type 0 where
  pub list : Known
  pub is : result ≡ Ok list
  pub stands : Stands names list

abbrev pub Agrees : (old new : Names) → (Known → Result Known TextErr) → Type 0
Agrees old new sized = (list : Known) → Stands old list → Goes_on new (sized list)

-- or refuses so, or memory ran out
abbrev pub Clashes : Names → (Known → Result Known TextErr) → TextErr → Type 0
Clashes old sized err = (list : Known) → Stands old list → Refused_so (sized list) err
