-- Core as a whole: what it means for arguments, when it is well formed, and when all sizes fit.
use Rattle.std.specs.Prelude.{◌≡◌, ℕ, suc, List, [], ◌∷◌, map, length, Bool, true, false}
use Rattle.fut_scalar.specs.declared.scalar.Scalar.{Scalar}
use Rattle.fut_scalar.specs.declared.scalar.ScalarType.{ScalarType}
use Rattle.fut_arithmetic.specs.Types.{type_of}
use Rattle.fut_value.specs.Leaves.{extent}
use Rattle.fut_meaning.specs.Outcomes.{Wrong}
use Rattle.fut_meaning.specs.Sames.{All_same}
use Rattle.core_ir.specs.declared.block.Core.{Core}
use Rattle.core_ir.specs.Bundles.{Component, One, Many, Row}
use Rattle.core_ir.specs.Plain.{body_of}
use Rattle.core_ir.specs.Meaning.{Results, under, body_means}
use Rattle.core_ir.specs.Numbered.{Rise, Body_numbered}
use Rattle.core_ir.specs.Typed.{Sort, sort_of, with_vars, Body_gives}

-- what a Core may give for these arguments
unfoldable pub Core_means : (tight misfit : Bool) → ℕ → Core → Row → Results
Core_means tight misfit budget core cs = under core.params.now cs [] (body_means tight misfit budget (body_of core.body))

-- ---- well formed

-- all names rise from those of the parameters on, and lie below the number of names
pub record Rising (core : Core) : Type 0 where
  pub first : ℕ
  pub parameters : Rise 0 core.params.now first
  pub numbered : Body_numbered first (body_of core.body) core.names

-- each variable is made once and named only behind that, and operands and results have the sorts that their steps need and give
pub record WellFormed (core : Core) : Type 0 where
  pub rising : Rising core
  pub results : List Sort
  pub typed : Body_gives (with_vars core.params.now []) (body_of core.body) results

-- ---- components of a sort

pub data All_of_type (t : ScalarType) : List Scalar → Type 0 where
  no_cell : All_of_type t []
  cell_and : {s : Scalar} {ws : List Scalar} → type_of s ≡ t → All_of_type t ws → All_of_type t (s ∷ ws)

-- a scalar of the type; or an array of the rank, with as many cells as its sizes say, all of the type
pub data Is_of : Component → Sort → Type 0 where
  one_is : {s : Scalar} {t : ScalarType} → type_of s ≡ t → Is_of (One s) (t, 0)
  many_is : {n r : ℕ} {ds : List ℕ} {ws : List Scalar} {t : ScalarType} → length ds ≡ r → length ws ≡ extent (n ∷ ds) → All_of_type t ws → Is_of (Many (n ∷ ds) ws) (t, suc r)

abbrev pub AreOf : Row → List Sort → Type 0
AreOf = All_same Is_of

abbrev pub Arguments_fit : Core → Row → Type 0
Arguments_fit core cs = AreOf cs (map sort_of core.params.now)

-- no derivation has a report that sizes do not fit one another; a size that a step is to test is none of these
abbrev pub Fits : ℕ → Core → Row → Type 0
Fits budget core cs = (f : ℕ) → Core_means false true budget core cs Wrong f → ⊥
