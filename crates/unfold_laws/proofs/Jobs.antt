-- A primitive of typed blocks on data of its parameters' types: what it gives is of its type where its function, a block, gives data
-- of its own result's type. It is the law of primitives in programs, which holds however a function is applied.
use Rattle.std.proofs.Common.{◌≡◌, ℕ, zero, suc, refl, sym, ap, ◌∙◌, subst, List, [], ◌∷◌, Bool, true, false}
use Rattle.fut_scalar.specs.declared.place.Place.{Place}
use Rattle.fut_flat.specs.declared.prim.Primitive.{Primitive}
use Rattle.fut_types.specs.Types.{Ty, Tys, none, more, Kinds}
use Rattle.fut_typing.specs.Names.{Names, AreNames, count}
use Rattle.fut_typing.specs.Patterns.{arrows}
use Rattle.fut_value.specs.Data.{Shape}
use Rattle.fut_meaning.specs.Found.{Told}
use Rattle.fut_meaning.specs.Claims.{HasOut, Safe}
use Rattle.fut_meaning.specs.Datums.{takes}
use Rattle.fut_meaning.specs.Jobs.{Job, Applied, job_means, job}
use Rattle.fut_meaning.specs.Meaning.{plain}
use Rattle.fut_meaning.specs.Operations.{parameters_of}
use Rattle.fut_blocks.specs.Meaning.{Component}
use Rattle.type_soundness.proofs.Application.{Application, Each_data, Applies, Data_args, data_list, Function_fits, Job_fits}
use Rattle.type_soundness.proofs.ArrayPrimitives.{arrows_same, array_jobs}
use Rattle.type_soundness.proofs.Making.{has_as}
use Rattle.unfold_laws.specs.Safety.{Is_of, Are_of}
use Rattle.unfold_laws.specs.Typed.{data_types, function_type, Primitive_typed}
use Rattle.unfold_laws.proofs.Safety.{as_each}

module _ (N : Names) (are : AreNames N) (T : Told) (K : Kinds) (tight : Bool) (budget : ℕ) where
  abbrev Of : Ty → Component → Type 0
  Of t d = Is_of N T tight budget t d

  abbrev All_of : Tys → List Component → Type 0
  All_of ts ds = Are_of N T tight budget ts ds

  abbrev Each : Tys → List Component → Type 0
  Each ts ds = Each_data N are T (plain tight) budget false K [] ts ds

  abbrev Takes_to : Tys → Ty → Application false → Type 0
  Takes_to ts u f = Applies N are T (plain tight) budget false K [] ts u f

  abbrev Args : List ℕ → Tys → Type 0
  Args ks ts = Data_args N are T (plain tight) budget false K [] ks ts

  -- ---- arguments
  of_each : (ts : Tys) (ds : List Component) → Each ts ds → All_of ts ds
  of_each none [] h = tt
  of_each none (d ∷ ds) h = absurd h
  of_each (more t ts) [] h = absurd h
  of_each (more t ts) (d ∷ ds) h = (h.0, of_each ts ds h.1)

  -- the data stands at the parameters that take it
  args_of : (ks : List ℕ) (ts : Tys) (ds : List Component) → Each (data_types ks ts) ds → (h : Args ks ts) × (data_list N are T (plain tight) budget false K [] ks ts h ≡ ds)
  args_of [] ts [] e = (tt, refl)
  args_of [] ts (d ∷ ds) e = absurd e
  args_of (k ∷ ks) none [] e = (tt, refl)
  args_of (k ∷ ks) none (d ∷ ds) e = absurd e
  args_of (zero ∷ ks) (more t ts) [] e = absurd e
  args_of (zero ∷ ks) (more t ts) (d ∷ ds) e = let r = args_of ks ts ds e.1 in ((d, e.0, r.0), ap (λ z. d ∷ z) r.1)
  args_of (suc k ∷ ks) (more t ts) ds e = args_of ks ts ds e

  -- and the function at its own
  function_at : (ks : List ℕ) (ts fs : Tys) (r : Ty) (f : Application false) → function_type ks ts ≡ arrows fs r → count fs ≡ takes ks → Takes_to fs r f → Function_fits N are T (plain tight) budget false K [] ks ts f
  function_at [] ts fs r f e c h = tt
  function_at (k ∷ ks) none fs r f e c h = tt
  function_at (zero ∷ ks) (more t ts) fs r f e c h = function_at ks ts fs r f e c h
  function_at (suc k ∷ ks) (more t ts) fs r f e c h = λ gs u is many small.
      let same = arrows_same gs fs u r (many ∙ sym c) (sym is ∙ e) in
      subst (λ z. Takes_to z u f) (sym same.0) (subst (λ z. Takes_to fs z f) (sym same.1) h)

  -- ---- what it gives

  -- a function of blocks, of whose reductions and writes nothing is asked
  abbrev block_applied : Applied → Application false
  block_applied g = record { applied = g; tight = tight; operators = λ any ne ds. Unit {0}; writes = λ ws. Unit {0}; operators_free = λ z any ne xs. tt; writes_free = λ z ws. tt }

  abbrev pub Job_is : Applied → Ty → Job → Type 0
  Job_is g t j = Safe (Of t) (job_means tight (λ any ne ds. Unit {0}) (λ ws. Unit {0}) g j)

  pub job_is : (told : Shape) (p : Primitive) (at : Place) (taken fs : Tys) (r t : Ty) (g : Applied) (ds : List Component) → Primitive_typed K p taken fs r t → ((es : List Component) → All_of fs es → Safe (Of r) (g es)) → All_of taken ds → HasOut (Job_is g t) (job false told p at ds)
  job_is told p at taken fs r t g ds typed gives h =
      let f : Application false = block_applied g in
      let a = args_of (parameters_of p) typed.parameters ds (subst (λ z. Each z ds) typed.taken (as_each N are T K tight budget taken ds h)) in
      let applies : Takes_to fs r f = λ es x. record { safe = gives es (of_each fs es x); some = λ z. absurd (let y : false ≡ true = z in cc) } in
      subst (λ z. HasOut (Job_is g t) (job false told p at z)) a.1
      (has_as (Job_fits N are T (plain tight) budget false K [] f (Of t)) (Job_is g t) _ (λ j w. w.safe)
      (array_jobs N are T (plain tight) budget false K typed.given typed.kinds p at typed.on_arrays typed.some typed.parameters t typed.is typed.all [] told f (function_at (parameters_of p) typed.parameters fs r f typed.function typed.of_function applies) a.0))
