-- Programs of blocks: what they mean for arguments, when their names rise, and which data is of the types of arguments.
use Rattle.std.specs.Prelude.{◌≡◌, ℕ, zero, suc, List, [], ◌∷◌, Bool}
use Rattle.fut_scalar.specs.declared.scalar.ScalarType.{ScalarType}
use Rattle.fut_scalar.specs.declared.sizes.DataType.{DataType}
use Rattle.fut_arithmetic.specs.Types.{type_of}
use Rattle.fut_value.specs.Data.{Datum, Scalar_datum, Array_datum, Datums, no_datum, datum_and}
use Rattle.fut_meaning.specs.Outcomes.{Wrong}
use Rattle.fut_blocks.specs.declared.block.Program.{Program}
use Rattle.fut_blocks.specs.Plain.{body_of}
use Rattle.fut_blocks.specs.Meaning.{Component, Results, under, body_means}
use Rattle.fut_blocks.specs.Numbered.{Upward, Body_numbered}

-- what a program may give for these arguments
unfoldable pub Program_means : Bool → ℕ → Program → List Component → Results
Program_means tight budget p vs = under p.params.now vs [] (body_means tight budget (body_of p.body))

-- it gives results or a report, and never goes wrong
abbrev pub NeverWrong : Bool → ℕ → Program → List Component → Type 0
NeverWrong tight budget p vs = (f : ℕ) → Program_means tight budget p vs Wrong f → ⊥

-- all names rise from those of the parameters on, and lie below the number of names
pub record Rising (p : Program) : Type 0 where
  pub first : ℕ
  pub parameters : Upward 0 p.params.now first
  pub numbered : Body_numbered first (body_of p.body) p.names

-- a scalar of this type, or an array of so many dimensions of such scalars
abbrev mutual
  pub Is_of : ScalarType → ℕ → Datum → Type 0
  Is_of t zero (Scalar_datum s) = type_of s ≡ t
  Is_of t (suc r) (Array_datum row ds) = All_of t r ds
  Is_of t r d = ⊥

  pub All_of : ScalarType → ℕ → Datums → Type 0
  All_of t r no_datum = Unit {0}
  All_of t r (datum_and d ds) = Is_of t r d × All_of t r ds

-- components of these types, as many of both
abbrev pub AreOf : List DataType → List Component → Type 0
AreOf [] [] = Unit {0}
AreOf [] (d ∷ ds) = ⊥
AreOf (t ∷ ts) [] = ⊥
AreOf (t ∷ ts) (d ∷ ds) = Is_of t.elem t.rank d × AreOf ts ds
