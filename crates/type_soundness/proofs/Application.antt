-- How a primitive's function is applied, whether it is a value of a program or a block: what the laws of primitives ask of it, and
-- of the data that stands beside it.
use Rattle.std.proofs.Common.{◌≡◌, Bool, true, false, ℕ, zero, suc, List, [], ◌∷◌}
use Rattle.fut_scalar.specs.declared.place.Place.{Place}
use Rattle.fut_flat.specs.declared.prim.Primitive.{Primitive}
use Rattle.fut_types.specs.declared.Kind.TheVariants as kind
use Rattle.fut_types.specs.Types.{Ty, Tys, none, more, Kinds, HasKind}
use Rattle.fut_typing.specs.Names.{Names, AreNames, count}
use Rattle.fut_typing.specs.Patterns.{arrows}
use Rattle.fut_value.specs.Data.{Datum, Shape}
use Rattle.fut_meaning.specs.Found.{Told}
use Rattle.fut_meaning.specs.Datums.{as_value}
use Rattle.fut_meaning.specs.Jobs.{Job, Applied, job, job_means}
use Rattle.fut_meaning.specs.Operations.{parameters_of}
use Rattle.fut_meaning.specs.Claims.{HasOut, Correct}
use Rattle.fut_meaning.specs.Flats.{FlatTops, FlatMode}
use Rattle.type_soundness.specs.Fits.{Fits}

-- what a function gives for arguments, which trees a reduction by it may take, and what is asked of its reductions and of writes:
-- nothing where an outcome is to be shown
pub record Application (total : Bool) : Type 1 where
  pub applied : Applied
  pub tight : Bool
  pub operators : Bool → Datum → List Datum → Type 0
  pub writes : List (ℕ × Datum) → Type 0
  pub operators_free : total ≡ true → (any : Bool) (ne : Datum) (xs : List Datum) → operators any ne xs
  pub writes_free : total ≡ true → (ws : List (ℕ × Datum)) → writes ws

-- what is taken as data is data
abbrev pub Takes_data : Kinds → List ℕ → Tys → Type 0
Takes_data K [] none = Unit {0}
Takes_data K [] (more t ts) = ⊥
Takes_data K (k ∷ ks) none = ⊥
Takes_data K (zero ∷ ks) (more t ts) = HasKind K kind.Data t × Takes_data K ks ts
Takes_data K (suc k ∷ ks) (more t ts) = Takes_data K ks ts

module _ (N : Names) (are : AreNames N) (T : Told) (M : FlatMode) (budget : ℕ) (total : Bool) (K : Kinds) where
  abbrev D : FlatTops → Ty → Datum → Type 0
  D tops t d = Fits N T M budget total t tops (as_value d)

  -- data of these types
  abbrev pub Each_data : FlatTops → Tys → List Datum → Type 0
  Each_data tops none [] = Unit {0}
  Each_data tops none (d ∷ ds) = ⊥
  Each_data tops (more t ts) [] = ⊥
  Each_data tops (more t ts) (d ∷ ds) = D tops t d × Each_data tops ts ds

  -- it takes data of these types to data of that one
  abbrev pub Applies : FlatTops → Tys → Ty → Application total → Type 0
  Applies tops ts u f = (ds : List Datum) → Each_data tops ts ds → Correct total (D tops u) (f.applied ds)

  -- ---- what stands at the parameters of a primitive: data, each of its type, and a function of the type of its own

  abbrev pub Data_args : FlatTops → List ℕ → Tys → Type 0
  Data_args tops [] ts = Unit {0}
  Data_args tops (k ∷ ks) none = Unit {0}
  Data_args tops (zero ∷ ks) (more t ts) = (d : Datum) × D tops t d × Data_args tops ks ts
  Data_args tops (suc k ∷ ks) (more t ts) = Data_args tops ks ts

  abbrev pub data_list : (tops : FlatTops) (ks : List ℕ) (ts : Tys) → Data_args tops ks ts → List Datum
  data_list tops [] ts h = []
  data_list tops (k ∷ ks) none h = []
  data_list tops (zero ∷ ks) (more t ts) h = h.0 ∷ data_list tops ks ts h.2
  data_list tops (suc k ∷ ks) (more t ts) h = data_list tops ks ts h

  abbrev pub Function_fits : FlatTops → List ℕ → Tys → Application total → Type 0
  Function_fits tops [] ts f = Unit {0}
  Function_fits tops (k ∷ ks) none f = Unit {0}
  Function_fits tops (zero ∷ ks) (more t ts) f = Function_fits tops ks ts f
  Function_fits tops (suc k ∷ ks) (more t ts) f = (fs : Tys) (r : Ty) → t ≡ arrows fs r → count fs ≡ suc k → HasKind K kind.Data r → Applies tops fs r f

  -- ---- what the primitive does

  -- the job gives data of P
  abbrev pub Job_fits : FlatTops → Application total → (Datum → Type 0) → Job → Type 0
  Job_fits tops f P j = Correct total P (job_means f.tight f.operators f.writes f.applied j)

  -- with arguments of these types the primitive gives data of that one
  abbrev pub Jobs_fit : FlatTops → Primitive → Place → Tys → Ty → Type 1
  Jobs_fit tops p at ts u = (told : Shape) (f : Application total) → Function_fits tops (parameters_of p) ts f → (h : Data_args tops (parameters_of p) ts) → HasOut (Job_fits tops f (D tops u)) (job false told p at (data_list tops (parameters_of p) ts h))
