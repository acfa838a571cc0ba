-- Where all else that does not fit goes wrong, sizes are reported by `:>` and `unflatten` alone. So where nothing goes wrong
-- then, no other report of sizes is allowed where what does not fit is reported.
use Rattle.std.specs.Prelude.{◌≡◌, ◌⊎◌, ℕ, Bool, true, false, List, [], ◌∷◌}
use Rattle.fut_scalar.specs.declared.place.BindId.{BindId}
use Rattle.fut_scalar.specs.declared.place.Place.{Place}
use Rattle.fut_scalar.specs.declared.report.FailKind.TheVariants as kind
use Rattle.fut_scalar.specs.declared.report.Report.{Report}
use Rattle.fut_flat.specs.declared.prim.Primitive.{Primitive}
use Rattle.fut_primitives.specs.declared.written.Letter.{Letter}
use Rattle.fut_primitives.specs.declared.written.Size.{Size as Length}
use Rattle.fut_primitives.specs.Table.{written, own_of, from_of}
use Rattle.fut_value.specs.Data.{Shape, Datum}
use Rattle.fut_meaning.specs.Arrays.{Making, made}
use Rattle.fut_meaning.specs.Flats.{FlatValue, FlatEnv, Named_term, Flat_means}
use Rattle.fut_meaning.specs.Found.{Told}
use Rattle.fut_meaning.specs.Meaning.{plain, unrestricted}
use Rattle.fut_meaning.specs.Outcomes.{Fail, Wrong}
use Rattle.fut_meaning.specs.Values.{Scalar_value, Tuple_value, Record_value, Array_value, Closure, Primitive_value, no_value, value_and, no_field, field_and, base, bind, entered}
use Rattle.sized_meaning.specs.There.{Primitive_there, Term_there}
use Rattle.sized_meaning.specs.Fits.{FlatValues, FlatFields}
use Rattle.sized_meaning.specs.Law.{World}
use Rattle.sized_meaning.specs.Misfits.{Of_shapes, data_taken, Function_fits, applies, primitive_gives, Made_of_shapes}

-- in the functions that values are and hold each `:>` and each `unflatten` stands at one of these places
module _ (is_there : Place → Bool) where
  unfoldable mutual
    pub Value_there : FlatValue → Type 0
    Value_there (Scalar_value s) = Unit {0}
    Value_there (Tuple_value vs) = Values_there vs
    Value_there (Record_value fs) = Fields_there fs
    Value_there (Array_value row ds) = Unit {0}
    Value_there (Closure ps e lo env) = Term_there is_there e × Env_there env
    Value_there (Primitive_value p at vs) = Primitive_there is_there p at × Values_there vs

    pub Values_there : FlatValues → Type 0
    Values_there no_value = Unit {0}
    Values_there (value_and v vs) = Value_there v × Values_there vs

    pub Fields_there : FlatFields → Type 0
    Fields_there no_field = Unit {0}
    Fields_there (field_and f v fs) = Value_there v × Fields_there fs

    pub Env_there : FlatEnv → Type 0
    Env_there (base u) = Unit {0}
    Env_there (bind b v env) = Value_there v × Env_there env
    Env_there (entered q v env) = Value_there v × Env_there env

  abbrev pub Definitions_there : List Named_term → Type 0
  Definitions_there [] = Unit {0}
  Definitions_there (d ∷ ds) = Term_there is_there d.1 × Definitions_there ds

  abbrev pub Arguments_there : List FlatValue → Type 0
  Arguments_there [] = Unit {0}
  Arguments_there (v ∷ vs) = Value_there v × Arguments_there vs

-- what reports a size where what does not fit goes wrong
abbrev pub SizesAreReportedThere : Type 0
SizesAreReportedThere = (told : Told) (tight : Bool) (budget : ℕ) (ds : List Named_term) (entry : BindId) (arguments : List FlatValue) (is_there : Place → Bool) → Definitions_there is_there ds → Arguments_there is_there arguments
    → (r : Report) (words : ℕ) → Flat_means told (unrestricted tight true) budget ds entry arguments (Fail r) words → r.kind ≡ kind.Size → is_there r.place ≡ true

-- a report of a size from elsewhere tells that something does not fit
abbrev pub OtherSizesMisfit : Type 0
OtherSizesMisfit = (told : Told) (tight : Bool) (budget : ℕ) (ds : List Named_term) (entry : BindId) (arguments : List FlatValue) (is_there : Place → Bool) → Definitions_there is_there ds → Arguments_there is_there arguments
    → (r : Report) (words : ℕ) → Flat_means told (plain tight) budget ds entry arguments (Fail r) words → r.kind ≡ kind.Size
    → (is_there r.place ≡ true) ⊎ ((made : ℕ) × Flat_means told (unrestricted tight true) budget ds entry arguments Wrong made)

-- ---- where what does not fit is reported

-- On data of the shapes that it takes a primitive other than `unflatten` reports no size by itself: what it reports comes from its
-- function.
abbrev pub PrimitivesReportNoSizes : Type 0
PrimitivesReportNoSizes = (size : Length → ℕ) (shape : Letter → Shape) (W : World) (row : Shape) (p : Primitive) (at : Place) (ds : List Datum) (f : FlatValue) (is_there : Place → Bool)
    → Primitive_there is_there p at → Of_shapes (data_taken size shape (own_of p) (from_of p) (written p)) ds → Function_fits size shape (own_of p) (from_of p) (applies W p f) (written p)
    → ((es : List Datum) (r : Report) (words : ℕ) → applies W p f es (Fail r) words → r.kind ≡ kind.Size → is_there r.place ≡ true)
    → (r : Report) (words : ℕ) → primitive_gives W false row p at ds f (Fail r) words → r.kind ≡ kind.Size → is_there r.place ≡ true

-- nor does an operation on arrays
abbrev pub OperationsReportNoSizes : Type 0
OperationsReportNoSizes = (row : Shape) (m : Making) (at : Place) (ds : List Datum) (r : Report) → Made_of_shapes m ds → made false row m at ds ≡ Fail r → r.kind ≡ kind.Size → ⊥
