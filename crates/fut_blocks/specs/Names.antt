-- What names and atoms of blocks stand for.
use Rattle.std.specs.Prelude.{ℕ, ◌%◌, ◌^◌, List, [], ◌∷◌, cond, nat_eq, Option, Some, None}
use Rattle.fut_scalar.specs.Integers.{width_of}
use Rattle.fut_scalar.specs.declared.scalar.Scalar.{Scalar}
use Rattle.fut_scalar.specs.declared.scalar.Scalar.TheVariants as scalar
use Rattle.fut_meaning.specs.Accessors.{or_wrong}
use Rattle.fut_meaning.specs.Outcomes.{Out, Val, and_then}
use Rattle.fut_value.specs.Data.{Datum, Scalar_datum}
use Rattle.fut_blocks.specs.declared.block.Atom.{Atom}
use Rattle.fut_blocks.specs.declared.block.Atom.TheVariants as atom

-- what a name stands for
abbrev pub Component : Type 0
Component = Datum

-- numbers with what they stand for, the newest first
abbrev pub Names : Type 0 → Type 0
Names A = List (ℕ × A)

abbrev pub look : {A : Type 0} → Names A → ℕ → Option A
look [] x = None
look (d ∷ ds) x = cond (nat_eq d.0 x) (Some d.1) (look ds x)

-- each name for its own component; None where there are not as many of both
abbrev pub bound : {A : Type 0} → List ℕ → List A → Names A → Option (Names A)
bound [] [] env = Some env
bound [] (v ∷ vs) env = None
bound (x ∷ xs) [] env = None
bound (x ∷ xs) (v ∷ vs) env = bound xs vs ((x, v) ∷ env)

-- a scalar of the lowest bits, as many as the type has
abbrev pub fitted : Scalar → Scalar
fitted (scalar.Int t n) = scalar.Int t (n % 2 ^ width_of t)
fitted (scalar.Bool b) = scalar.Bool b

abbrev pub value_of : Names Component → Atom → Out Component
value_of env (atom.Name x) = or_wrong (look env x)
value_of env (atom.Constant s) = Val (Scalar_datum (fitted s))

abbrev pub values_of : Names Component → List Atom → Out (List Component)
values_of env [] = Val []
values_of env (u ∷ us) = and_then (value_of env u) (λ v. and_then (values_of env us) (λ vs. Val (v ∷ vs)))
