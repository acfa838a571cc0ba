-- What each operation comes to for values of the types of its parts has the type of its result.
use Rattle.std.proofs.Common.{◌≡◌, Bool, true, false, cond, ℕ, ◌≤◌, ◌<◌, refl, sym, subst, arith, List, [], ◌∷◌, Some}
use Rattle.fut_scalar.specs.declared.place.BindId.{BindId}
use Rattle.fut_scalar.specs.declared.place.Place.{Place}
use Rattle.fut_scalar.specs.declared.report.FailKind.TheVariants as kinds
use Rattle.fut_scalar.specs.declared.scalar.IntType.{IntType}
use Rattle.fut_flat.specs.declared.prim.Ref.{Ref}
use Rattle.fut_flat.specs.Terms.{Operation, Array_of, Index, Update, Replace, Coerce, Range}
use Rattle.fut_types.specs.declared.Kind.{Kind}
use Rattle.fut_types.specs.declared.Kind.TheVariants as kind
use Rattle.fut_types.specs.Types.{Ty, Tys, none, more, Kinds, HasKind, level, rank, least}
use Rattle.fut_typing.specs.Names.{Names, AreNames, count}
use Rattle.fut_typing.specs.Primitives.{i64_ty}
use Rattle.fut_typing.specs.Rules.{Updated, Rule}
use Rattle.fut_meaning.specs.Found.{Told}
use Rattle.fut_meaning.specs.Outcomes.{Out, Val, Fail, the}
use Rattle.fut_value.specs.Data.{Datum, Shape}
use Rattle.fut_meaning.specs.Datums.{as_value, all_data}
use Rattle.fut_meaning.specs.Arrays.{Making, Make_array, Make_index, Make_update, Make_range, made}
use Rattle.fut_meaning.specs.Operations.{report, operate, coerced, operated, operated_by}
use Rattle.fut_meaning.specs.Claims.{HasOut, Correct}
use Rattle.fut_meaning.specs.Flats.{FlatValue, FlatTops, FlatMode}
use Rattle.fut_meaning.proofs.Correct.{correct_exact, correct_then}
use Rattle.type_soundness.specs.Fits.{widest, Fits}
use Rattle.type_soundness.specs.Meant.{Operation_meant}
use Rattle.type_soundness.proofs.Binding.{Each_fits}
use Rattle.type_soundness.proofs.Operating.{Literal_told, operate_fits}
use Rattle.type_soundness.proofs.Making.{Of_counted}
use Rattle.type_soundness.proofs.Application.{Each_data}
use Rattle.type_soundness.proofs.Applying.{correct_known}
use Rattle.type_soundness.proofs.Makings.{data_kind, array_is, array_has, index_is, update_is, range_is, All_kinds, kinds_are, all_data_are}

-- `:>` gives the value, or reports
coerced_fits : (P : FlatValue → Type 0) (test : FlatValue → Bool) (o : Operation Ref BindId) (at : Place) (vs : List FlatValue) (w : Out FlatValue) → HasOut P w → HasOut P (coerced test o at vs w)
unfolding coerced
coerced_fits P test (Coerce u) at (v ∷ []) w h = tested (test v)
  where
    tested : (b : Bool) → HasOut P (cond b w (Fail (report kinds.Size at)))
    tested true = h
    tested false = tt
coerced_fits P test o at vs w h = h

module _ (N : Names) (are : AreNames N) (T : Told) (M : FlatMode) (budget : ℕ) (total : Bool) (tops : FlatTops) (K : Kinds) (places : Kind) (wide : level kind.Data ≤ level places) (misfit : Bool) (reports : misfit ≡ false) (told : Shape) (test : FlatValue → Bool) where
  abbrev Of : Ty → FlatValue → Type 0
  Of t v = Fits N T M budget total t tops v

  abbrev D : Ty → Datum → Type 0
  D t d = Fits N T M budget total t tops (as_value d)

  abbrev Each : Tys → List FlatValue → Type 0
  Each ts vs = Each_fits N T M budget total ts tops vs

  abbrev Data : Tys → List Datum → Type 0
  Data ts ds = Each_data N are T M budget total K tops ts ds

  abbrev Kinds_are : Tys → Type 0
  Kinds_are ts = All_kinds N are T M budget total tops K places wide ts

  -- what is made of data
  made_fits : (m : Making) (o : Out FlatValue) (at : Place) (t : Ty) (ts : Tys) (vs : List FlatValue) → Kinds_are ts → Each ts vs → ((ds : List Datum) → Data ts ds → HasOut (Of_counted (D t)) (made false told m at ds)) → Correct total (Of t) (operated_by misfit told (Some m) o at vs)
  made_fits m o at t ts vs k h go =
      let a = all_data_are N are T M budget total tops K places wide ts vs k h in
      correct_known (Of t) (all_data vs) a.0 _ a.1 (correct_then (Of_counted (D t)) (Of t) (the (made misfit told m at a.0)) _ (correct_exact (Of_counted (D t)) 0 (made misfit told m at a.0) (subst (λ b. HasOut (Of_counted (D t)) (made b told m at a.0)) (sym reports) (go a.0 a.2))) (λ r p. correct_exact (Of t) r.0 (Val (as_value r.1)) p))

  number_kind : HasKind K kind.Data i64_ty
  unfolding rank least
  number_kind = omega arith

  update_kinds : (vs : Tys) (x : Ty) → HasKind K kind.Data x → Updated N places K x vs → Kinds_are vs
  update_kinds none x k u = absurd u
  update_kinds (more v none) x k u = (subst (λ y. HasKind K kind.Data y) (sym u) k, tt)
  update_kinds (more i (more v vs)) x k u = (subst (λ y. HasKind K kind.Data y) (sym u.0) number_kind, update_kinds (more v vs) u.1.0 (data_kind N are T M budget total tops K places wide u.1.0 u.1.1.1) u.1.2)

  abbrev Comes : Operation Ref BindId → Type 0
  Comes o = (n : ℕ) (i : IntType) (at : Place) (t u : Ty) (ts : Tys) (vs : List FlatValue) → Operation_meant o n → count ts ≡ n → Rule N places K o t u ts → Literal_told i o t → count ts < widest → Each ts vs → Correct total (Of t) (operated misfit told test i o at vs)

  index_comes : (ps : List _) → Comes (Index ps)
  index_comes [] n i at t u ts vs m c r l lt h = absurd m
  index_comes (p ∷ ps) n i at t u none vs m c r l lt h = absurd r
  index_comes (p ∷ ps) n i at t u (more x is) vs m c r l lt h =
      let kx : HasKind K kind.Data x = array_has N are T M budget total tops K places wide x r.2.0 r.2.2 in
      made_fits (Make_index (p ∷ ps)) (operate i (Index (p ∷ ps)) at vs) at t (more x is) vs (kx, kinds_are N are T M budget total tops K places wide i64_ty is number_kind r.0) h (λ ds e. index_is N are T M budget total tops K places wide told at (p ∷ ps) t x is ds kx r.0 r.1 r.2 e)

  update_comes : Comes Update
  update_comes n i at t u none vs m c r l lt h = absurd r
  update_comes n i at t u (more x none) vs m c r l lt h = absurd r.1
  update_comes n i at t u (more x (more v none)) vs m c r l lt h = absurd (omega (arith, m, c))
  update_comes n i at t u (more x (more j (more v ws))) vs m c r l lt h =
      let kx : HasKind K kind.Data x = array_has N are T M budget total tops K places wide x r.1.1.0 r.1.1.1 in
      made_fits Make_update (operate i Update at vs) at t (more x (more j (more v ws))) vs (kx, update_kinds (more j (more v ws)) x kx r.1) h (λ ds e. update_is N are T M budget total tops K places wide told at t x (more j (more v ws)) ds kx r.0 r.1 e)

  range_comes : (stepped : Bool) (end : _) → Comes (Range stepped end)
  range_comes true end n i at t u none vs m c r l lt h = absurd r
  range_comes true end n i at t u (more x none) vs m c r l lt h = absurd r
  range_comes true end n i at t u (more x (more y none)) vs m c r l lt h = absurd r
  range_comes true end n i at t u (more x (more y (more z (more w ts)))) vs m c r l lt h = absurd r
  range_comes true end n i at t u (more x (more y (more z none))) vs m c r l lt h =
      let ts : Tys = more x (more y (more z none)) in
      made_fits (Make_range true end) (operate i (Range true end) at vs) at t ts vs (kinds_are N are T M budget total tops K places wide r.0 ts (data_kind N are T M budget total tops K places wide r.0 r.1.1) r.3) h (λ ds e. range_is N are T M budget total tops K places wide told at true end t r.0 ts ds r.1 r.2 r.3 refl e)
  range_comes false end n i at t u none vs m c r l lt h = absurd r
  range_comes false end n i at t u (more x none) vs m c r l lt h = absurd r
  range_comes false end n i at t u (more x (more y (more z ts))) vs m c r l lt h = absurd r
  range_comes false end n i at t u (more x (more y none)) vs m c r l lt h =
      let ts : Tys = more x (more y none) in
      made_fits (Make_range false end) (operate i (Range false end) at vs) at t ts vs (kinds_are N are T M budget total tops K places wide r.0 ts (data_kind N are T M budget total tops K places wide r.0 r.1.1) r.3) h (λ ds e. range_is N are T M budget total tops K places wide told at false end t r.0 ts ds r.1 r.2 r.3 refl e)

  pub operation_fits : (o : Operation Ref BindId) → Comes o
  operation_fits Array_of n i at t u ts vs m c r l lt h = made_fits Make_array (operate i Array_of at vs) at t ts vs (kinds_are N are T M budget total tops K places wide r.0 ts (data_kind N are T M budget total tops K places wide r.0 r.1.1) r.2) h (λ ds e. array_is N are T M budget total tops K places wide told at t r.0 ts ds r.1 r.2 e)
  operation_fits (Index ps) n i at t u ts vs m c r l lt h = index_comes ps n i at t u ts vs m c r l lt h
  operation_fits Update n i at t u ts vs m c r l lt h = update_comes n i at t u ts vs m c r l lt h
  operation_fits (Range stepped end) n i at t u ts vs m c r l lt h = range_comes stepped end n i at t u ts vs m c r l lt h
  operation_fits (Replace f) n i at t u ts vs m c r l lt h = correct_exact (Of t) 0 _ (coerced_fits (Of t) test (Replace f) at vs _ (operate_fits N are T M budget total tops places K (Replace f) i at t u ts vs m r l lt h))
  operation_fits o n i at t u ts vs m c r l lt h = correct_exact (Of t) 0 _ (coerced_fits (Of t) test o at vs _ (operate_fits N are T M budget total tops places K o i at t u ts vs tt r l lt h))
