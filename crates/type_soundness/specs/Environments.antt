-- Which environments have values for the names in scope.
use Rattle.std.specs.Prelude.{◌≡◌, ℕ, Bool, true, false}
use Rattle.fut_types.specs.Types.{Ty, Sub, Kinds}
use Rattle.fut_typing.specs.Names.{Names}
use Rattle.fut_typing.specs.Primitives.{i64_ty}
use Rattle.fut_typing.specs.Scopes.{Scope}
use Rattle.fut_meaning.specs.Found.{Told}
use Rattle.fut_meaning.specs.Outcomes.{Out, Val}
use Rattle.fut_meaning.specs.Flats.{FlatValue, FlatTops, FlatEnv, FlatMode, flat_look}
use Rattle.fut_meaning.specs.Uses.{is_size_in}
use Rattle.type_soundness.specs.Fits.{Fits}

-- a size is used at the type i64; another name is found, and its value is of this type
abbrev pub Name_fits : Names → Told → FlatMode → ℕ → Bool → FlatTops → Ty → Out FlatValue → Bool → Type 0
Name_fits N T M budget total tops t o true = t ≡ i64_ty
Name_fits N T M budget total tops t o false = (v : FlatValue) × (o ≡ Val v) × Fits N T M budget total t tops v

-- so it is for each name of P, at each type at which it may be used
abbrev pub Env_fits : Names → Told → FlatMode → ℕ → Bool → FlatTops → (ℕ → Type 0) → Scope → Kinds → Sub → FlatEnv → Type 0
Env_fits N T M budget total tops P scope K a env = (b : ℕ) → P b → (t : Ty) → scope.uses b K a t → Name_fits N T M budget total tops t (flat_look tops env b) (is_size_in T.sizes b)
