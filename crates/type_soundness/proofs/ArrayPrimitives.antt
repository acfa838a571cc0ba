-- The table of primitives on arrays, by what they do with data: at each use the types of the parameters and of the result that the
-- table of their types tells, and the law.
use Rattle.std.proofs.Common.{◌≡◌, Bool, true, false, ℕ, ◌+◌, ◌≤◌, [], refl, sym, ap, ◌∙◌, subst, arith}
use Rattle.fut_scalar.specs.declared.place.Place.{Place}
use Rattle.fut_scalar.specs.declared.scalar.IntType.{IntType}
use Rattle.fut_scalar.specs.declared.scalar.ScalarType.TheVariants as types
use Rattle.fut_flat.specs.declared.prim.Primitive.{Primitive}
use Rattle.fut_flat.specs.declared.prim.Folding.TheVariants as folding
use Rattle.fut_flat.specs.declared.prim.Primitive.TheVariants as prim
use Rattle.fut_types.specs.declared.Kind.TheVariants as kind
use Rattle.fut_types.specs.Types.{Ty, Tys, none, more, Sub, Kinds, HasKind, rank, least, scalar_ty, fun_ty, applied, all_applied}
use Rattle.fut_typing.specs.Names.{Names, AreNames, count}
use Rattle.fut_typing.specs.Patterns.{arrows}
use Rattle.fut_typing.specs.Primitives.{array_ty, bool_ty, i64_ty, pair_ty, triple_ty, prim_type}
use Rattle.fut_meaning.specs.Found.{Told}
use Rattle.fut_meaning.specs.Operations.{parameters_of, arity, is_of_scalars}
use Rattle.fut_meaning.specs.Flats.{FlatTops, FlatMode}
use Rattle.type_soundness.proofs.Making.{array_kind}
use Rattle.type_soundness.proofs.Application.{Takes_data, Jobs_fit}
use Rattle.type_soundness.proofs.DataPrimitives.{iota_fits, indices_fits, length_fits, null_fits, replicate_fits, head_fits, last_fits, init_fits, tail_fits, take_fits, drop_fits, reverse_fits, rotate_fits, concat_fits, copy_fits, flatten_fits, unflatten_fits, transpose_fits, zip_fits, zip3_fits, unzip_fits, unzip3_fits, sum_fits, product_fits, minimum_fits, maximum_fits}
use Rattle.type_soundness.proofs.FunctionPrimitives.{map_fits, map2_fits, map3_fits, map4_fits, map5_fits, tabulate_fits, filter_fits, partition_fits, reduce_used, reduce_comm_used, scan_used, scatter_used, histogram_used}

-- the parameters and the result of a function
pub arrows_same : (ts us : Tys) (t u : Ty) → count ts ≡ count us → arrows ts t ≡ arrows us u → (ts ≡ us) × (t ≡ u)
arrows_same none none t u c e = (refl, e)
arrows_same none (more x us) t u c e = absurd (omega (arith, c))
arrows_same (more x ts) none t u c e = absurd (omega (arith, c))
arrows_same (more x ts) (more y us) t u c e =
    let z : fun_ty x (arrows ts t) ≡ fun_ty y (arrows us u) = e in
    let first : x ≡ y = cc in
    let rest : arrows ts t ≡ arrows us u = cc in
    let r = arrows_same ts us t u (omega (arith, c)) rest in (ap (λ w. more w ts) first ∙ ap (more y) r.0, r.1)

module _ (N : Names) (are : AreNames N) (T : Told) (M : FlatMode) (budget : ℕ) (total : Bool) (K : Kinds) (given : Sub) (kinds : (n : ℕ) → HasKind K kind.Data (given n)) where
  abbrev Jobs : FlatTops → Primitive → Place → Tys → Ty → Type 1
  Jobs tops p at ts u = Jobs_fit N are T M budget total K tops p at ts u

  -- a primitive on arrays where its type variables stand for these types
  pub record On_arrays (p : Primitive) (at : Place) : Type 1 where
    pub first : Ty
    pub rest : Tys
    pub result : Ty
    pub is : applied given (prim_type p) ≡ arrows (more first rest) result
    pub all : 1 + count rest ≡ arity p
    pub taken : Takes_data K (parameters_of p) (more first rest)
    pub jobs : (tops : FlatTops) → Jobs tops p at (more first rest) result

  rows_kind : (t : Ty) → HasKind K kind.Data t → HasKind K kind.Data (array_ty t)
  rows_kind t k = array_kind N are T M budget total [] K t k

  array_at : (n : ℕ) → HasKind K kind.Data (array_ty (given n))
  array_at n = rows_kind (given n) (kinds n)

  number_kind : HasKind K kind.Data i64_ty
  unfolding rank least
  number_kind = omega arith

  int_kind : (i : IntType) → HasKind K kind.Data (scalar_ty (types.Int i))
  unfolding rank least
  int_kind i = omega arith

  truth_kind : HasKind K kind.Data bool_ty
  unfolding rank least
  truth_kind = omega arith

  numbers_kind : HasKind K kind.Data (array_ty i64_ty)
  numbers_kind = rows_kind i64_ty number_kind

  pair_kind : (t u : Ty) → HasKind K kind.Data t → HasKind K kind.Data u → HasKind K kind.Data (pair_ty t u)
  unfolding rank least
  pair_kind t u k l = omega (arith, k, l)

  triple_kind : (t u v : Ty) → HasKind K kind.Data t → HasKind K kind.Data u → HasKind K kind.Data v → HasKind K kind.Data (triple_ty t u v)
  unfolding rank least
  triple_kind t u v k l m = omega (arith, k, l, m)

  abbrev a : Ty
  a = given 0

  abbrev b : Ty
  b = given 1

  abbrev c : Ty
  c = given 2

  abbrev d : Ty
  d = given 3

  abbrev e : Ty
  e = given 4

  abbrev f : Ty
  f = given 5

  stands : (p : Primitive) (at : Place) (t : Ty) (ts : Tys) (u : Ty) → applied given (prim_type p) ≡ arrows (more t ts) u → 1 + count ts ≡ arity p → Takes_data K (parameters_of p) (more t ts) → ((tops : FlatTops) → Jobs tops p at (more t ts) u) → On_arrays p at
  stands p at t ts u is all taken jobs = record { first = t; rest = ts; result = u; is = is; all = all; taken = taken; jobs = jobs }

  pub array_primitive : (p : Primitive) (at : Place) → is_of_scalars p ≡ false → 1 ≤ arity p → On_arrays p at
  unfolding applied all_applied
  array_primitive prim.Map at s l = stands prim.Map at (fun_ty a b) (more (array_ty a) none) (array_ty b) refl refl (array_at 0, tt) (λ tops. map_fits N are T M budget total K tops a b (kinds 1) at)
  array_primitive prim.Map2 at s l = stands prim.Map2 at (fun_ty a (fun_ty b c)) (more (array_ty a) (more (array_ty b) none)) (array_ty c) refl refl (array_at 0, (array_at 1, tt)) (λ tops. map2_fits N are T M budget total K tops a b c (kinds 2) at)
  array_primitive prim.Map3 at s l = stands prim.Map3 at (fun_ty a (fun_ty b (fun_ty c d))) (more (array_ty a) (more (array_ty b) (more (array_ty c) none))) (array_ty d) refl refl (array_at 0, (array_at 1, (array_at 2, tt))) (λ tops. map3_fits N are T M budget total K tops a b c d (kinds 3) at)
  array_primitive prim.Map4 at s l = stands prim.Map4 at (fun_ty a (fun_ty b (fun_ty c (fun_ty d e)))) (more (array_ty a) (more (array_ty b) (more (array_ty c) (more (array_ty d) none)))) (array_ty e) refl refl (array_at 0, (array_at 1, (array_at 2, (array_at 3, tt)))) (λ tops. map4_fits N are T M budget total K tops a b c d e (kinds 4) at)
  array_primitive prim.Map5 at s l = stands prim.Map5 at (fun_ty a (fun_ty b (fun_ty c (fun_ty d (fun_ty e f))))) (more (array_ty a) (more (array_ty b) (more (array_ty c) (more (array_ty d) (more (array_ty e) none))))) (array_ty f) refl refl (array_at 0, (array_at 1, (array_at 2, (array_at 3, (array_at 4, tt))))) (λ tops. map5_fits N are T M budget total K tops a b c d e f (kinds 5) at)
  array_primitive prim.Reduce at s l = stands prim.Reduce at (fun_ty a (fun_ty a a)) (more a (more (array_ty a) none)) a refl refl (kinds 0, (array_at 0, tt)) (λ tops. reduce_used N are T M budget total K tops a (kinds 0) at)
  array_primitive prim.ReduceComm at s l = stands prim.ReduceComm at (fun_ty a (fun_ty a a)) (more a (more (array_ty a) none)) a refl refl (kinds 0, (array_at 0, tt)) (λ tops. reduce_comm_used N are T M budget total K tops a (kinds 0) at)
  array_primitive prim.Scan at s l = stands prim.Scan at (fun_ty a (fun_ty a a)) (more a (more (array_ty a) none)) (array_ty a) refl refl (kinds 0, (array_at 0, tt)) (λ tops. scan_used N are T M budget total K tops a (kinds 0) at)
  array_primitive prim.Filter at s l = stands prim.Filter at (fun_ty a bool_ty) (more (array_ty a) none) (array_ty a) refl refl (array_at 0, tt) (λ tops. filter_fits N are T M budget total K tops a truth_kind at)
  array_primitive prim.Partition at s l = stands prim.Partition at (fun_ty a bool_ty) (more (array_ty a) none) (pair_ty (array_ty a) (array_ty a)) refl refl (array_at 0, tt) (λ tops. partition_fits N are T M budget total K tops a truth_kind at)
  array_primitive prim.Scatter at s l = stands prim.Scatter at (array_ty a) (more (array_ty i64_ty) (more (array_ty a) none)) (array_ty a) refl refl (array_at 0, (numbers_kind, (array_at 0, tt))) (λ tops. scatter_used N are T M budget total K tops a (kinds 0) at)
  array_primitive prim.ReduceByIndex at s l = stands prim.ReduceByIndex at (array_ty a) (more (fun_ty a (fun_ty a a)) (more a (more (array_ty i64_ty) (more (array_ty a) none)))) (array_ty a) refl refl (array_at 0, (kinds 0, (numbers_kind, (array_at 0, tt)))) (λ tops. histogram_used N are T M budget total K tops a (kinds 0) at)
  array_primitive prim.Zip at s l = stands prim.Zip at (array_ty a) (more (array_ty b) none) (array_ty (pair_ty a b)) refl refl (array_at 0, (array_at 1, tt)) (λ tops. zip_fits N are T M budget total K tops a b at)
  array_primitive prim.Zip3 at s l = stands prim.Zip3 at (array_ty a) (more (array_ty b) (more (array_ty c) none)) (array_ty (triple_ty a b c)) refl refl (array_at 0, (array_at 1, (array_at 2, tt))) (λ tops. zip3_fits N are T M budget total K tops a b c at)
  array_primitive prim.Unzip at s l = stands prim.Unzip at (array_ty (pair_ty a b)) none (pair_ty (array_ty a) (array_ty b)) refl refl (rows_kind (pair_ty a b) (pair_kind a b (kinds 0) (kinds 1)), tt) (λ tops. unzip_fits N are T M budget total K tops a b at)
  array_primitive prim.Unzip3 at s l = stands prim.Unzip3 at (array_ty (triple_ty a b c)) none (triple_ty (array_ty a) (array_ty b) (array_ty c)) refl refl (rows_kind (triple_ty a b c) (triple_kind a b c (kinds 0) (kinds 1) (kinds 2)), tt) (λ tops. unzip3_fits N are T M budget total K tops a b c at)
  array_primitive prim.Iota at s l = stands prim.Iota at i64_ty none (array_ty i64_ty) refl refl (number_kind, tt) (λ tops. iota_fits N are T M budget total K tops at)
  array_primitive prim.Replicate at s l = stands prim.Replicate at i64_ty (more a none) (array_ty a) refl refl (number_kind, (kinds 0, tt)) (λ tops. replicate_fits N are T M budget total K tops a (kinds 0) at)
  array_primitive prim.Tabulate at s l = stands prim.Tabulate at i64_ty (more (fun_ty i64_ty a) none) (array_ty a) refl refl (number_kind, tt) (λ tops. tabulate_fits N are T M budget total K tops a (kinds 0) at)
  array_primitive prim.Indices at s l = stands prim.Indices at (array_ty a) none (array_ty i64_ty) refl refl (array_at 0, tt) (λ tops. indices_fits N are T M budget total K tops a at)
  array_primitive prim.Length at s l = stands prim.Length at (array_ty a) none i64_ty refl refl (array_at 0, tt) (λ tops. length_fits N are T M budget total K tops a at)
  array_primitive prim.Null at s l = stands prim.Null at (array_ty a) none bool_ty refl refl (array_at 0, tt) (λ tops. null_fits N are T M budget total K tops a at)
  array_primitive prim.Head at s l = stands prim.Head at (array_ty a) none a refl refl (array_at 0, tt) (λ tops. head_fits N are T M budget total K tops a at)
  array_primitive prim.Last at s l = stands prim.Last at (array_ty a) none a refl refl (array_at 0, tt) (λ tops. last_fits N are T M budget total K tops a at)
  array_primitive prim.Init at s l = stands prim.Init at (array_ty a) none (array_ty a) refl refl (array_at 0, tt) (λ tops. init_fits N are T M budget total K tops a at)
  array_primitive prim.Tail at s l = stands prim.Tail at (array_ty a) none (array_ty a) refl refl (array_at 0, tt) (λ tops. tail_fits N are T M budget total K tops a at)
  array_primitive prim.Take at s l = stands prim.Take at i64_ty (more (array_ty a) none) (array_ty a) refl refl (number_kind, (array_at 0, tt)) (λ tops. take_fits N are T M budget total K tops a at)
  array_primitive prim.Drop at s l = stands prim.Drop at i64_ty (more (array_ty a) none) (array_ty a) refl refl (number_kind, (array_at 0, tt)) (λ tops. drop_fits N are T M budget total K tops a at)
  array_primitive prim.Reverse at s l = stands prim.Reverse at (array_ty a) none (array_ty a) refl refl (array_at 0, tt) (λ tops. reverse_fits N are T M budget total K tops a at)
  array_primitive prim.Rotate at s l = stands prim.Rotate at i64_ty (more (array_ty a) none) (array_ty a) refl refl (number_kind, (array_at 0, tt)) (λ tops. rotate_fits N are T M budget total K tops a at)
  array_primitive prim.Concat at s l = stands prim.Concat at (array_ty a) (more (array_ty a) none) (array_ty a) refl refl (array_at 0, (array_at 0, tt)) (λ tops. concat_fits N are T M budget total K tops a (kinds 0) at)
  array_primitive prim.Flatten at s l = stands prim.Flatten at (array_ty (array_ty a)) none (array_ty a) refl refl (rows_kind (array_ty a) (array_at 0), tt) (λ tops. flatten_fits N are T M budget total K tops a at)
  array_primitive prim.Unflatten at s l = stands prim.Unflatten at i64_ty (more i64_ty (more (array_ty a) none)) (array_ty (array_ty a)) refl refl (number_kind, (number_kind, (array_at 0, tt))) (λ tops. unflatten_fits N are T M budget total K tops a at)
  array_primitive prim.Transpose at s l = stands prim.Transpose at (array_ty (array_ty a)) none (array_ty (array_ty a)) refl refl (rows_kind (array_ty a) (array_at 0), tt) (λ tops. transpose_fits N are T M budget total K tops a at)
  array_primitive prim.Copy at s l = stands prim.Copy at a none a refl refl (kinds 0, tt) (λ tops. copy_fits N are T M budget total K tops a at)
  array_primitive (prim.Fold folding.Sum i) at s l = stands (prim.Fold folding.Sum i) at (array_ty (scalar_ty (types.Int i))) none (scalar_ty (types.Int i)) refl refl (rows_kind (scalar_ty (types.Int i)) (int_kind i), tt) (λ tops. sum_fits N are T M budget total K tops i at)
  array_primitive (prim.Fold folding.Product i) at s l = stands (prim.Fold folding.Product i) at (array_ty (scalar_ty (types.Int i))) none (scalar_ty (types.Int i)) refl refl (rows_kind (scalar_ty (types.Int i)) (int_kind i), tt) (λ tops. product_fits N are T M budget total K tops i at)
  array_primitive (prim.Fold folding.Minimum i) at s l = stands (prim.Fold folding.Minimum i) at (array_ty (scalar_ty (types.Int i))) none (scalar_ty (types.Int i)) refl refl (rows_kind (scalar_ty (types.Int i)) (int_kind i), tt) (λ tops. minimum_fits N are T M budget total K tops i at)
  array_primitive (prim.Fold folding.Maximum i) at s l = stands (prim.Fold folding.Maximum i) at (array_ty (scalar_ty (types.Int i))) none (scalar_ty (types.Int i)) refl refl (rows_kind (scalar_ty (types.Int i)) (int_kind i), tt) (λ tops. maximum_fits N are T M budget total K tops i at)
  array_primitive (prim.Convert to from) at s l = absurd (let z : true ≡ false = s in cc)
  array_primitive (prim.Min i) at s l = absurd (let z : true ≡ false = s in cc)
  array_primitive (prim.Max i) at s l = absurd (let z : true ≡ false = s in cc)
  array_primitive (prim.Abs i) at s l = absurd (let z : true ≡ false = s in cc)
  array_primitive (prim.Popc i) at s l = absurd (let z : true ≡ false = s in cc)
  array_primitive (prim.Lowest i) at s l = absurd (omega (arith, l))
  array_primitive (prim.Highest i) at s l = absurd (omega (arith, l))
  array_primitive (prim.NumBits i) at s l = absurd (omega (arith, l))

  -- with the parameters and the result that its type has
  pub array_jobs : (p : Primitive) (at : Place) → is_of_scalars p ≡ false → 1 ≤ arity p → (ts : Tys) (u : Ty) → applied given (prim_type p) ≡ arrows ts u → count ts ≡ arity p → (tops : FlatTops) → Jobs tops p at ts u
  array_jobs p at s l ts u is all tops =
      let r = array_primitive p at s l in
      let many : 1 + count r.rest ≡ arity p = r.all in
      let same = arrows_same ts (more r.first r.rest) u r.result (omega (arith, all, many)) (sym is ∙ r.is) in
      subst (λ z. Jobs tops p at z u) (sym same.0) (subst (λ z. Jobs tops p at (more r.first r.rest) z) (sym same.1) (r.jobs tops))
