-- Where a sized type suits another, each value of the one is of the other, whatever sizes are worth.
use Rattle.std.specs.Prelude.{ℕ, Bool}
use Rattle.fut_scalar.specs.declared.place.BindId.{BindId}
use Rattle.fut_scalar.specs.declared.place.Place.{Place}
use Rattle.fut_flat.specs.declared.prim.Ref.{Ref}
use Rattle.fut_typing.specs.Names.{Names}
use Rattle.fut_value.specs.Data.{Shape}
use Rattle.fut_meaning.specs.Flats.{FlatValue}
use Rattle.fut_meaning.specs.Found.{Sizing}
use Rattle.fut_meaning.specs.Meaning.{Lang, plain, Ever}
use Rattle.fut_meaning.specs.Outcomes.{Rel}
use Rattle.fut_meaning.specs.Values.{Call}
use Rattle.sized_types.specs.Sizes.{Variable, Size}
use Rattle.fut_sizes.specs.Suiting.{Suits}
use Rattle.sized_meaning.specs.Worth.{Worth, no_frames}
use Rattle.sized_meaning.specs.Shapes.{exactly}
use Rattle.sized_meaning.specs.Fits.{Fits}

abbrev pub FlatLang : Type 0
FlatLang = Lang Ref BindId (Unit {0})

-- what a function gives for a value
abbrev pub calls_of : FlatLang → Bool → ℕ → FlatValue → FlatValue → Rel FlatValue
calls_of L tight budget f v = Ever L (plain tight) budget (Call f v)

abbrev pub SuitingValuesFit : Type 0
SuitingValuesFit = (N : Names) (τ : Variable → Shape) (Z : Sizing) (L : FlatLang) (is_there : Place → Bool) (tight : Bool) (budget : ℕ) (t u : Size) (m : Worth) (v : FlatValue)
    → Suits t u → Fits N (exactly τ) Z is_there (calls_of L tight budget) m no_frames t v → Fits N (exactly τ) Z is_there (calls_of L tight budget) m no_frames u v
