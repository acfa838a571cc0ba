-- What the acts of typed blocks give for data of their operands' types is of the types of their results, or a report.
use Rattle.std.proofs.Common.{◌≡◌, Bool, true, false, ℕ, ◌<◌, refl, sym, ◌∙◌, subst, List, [], ◌∷◌}
use Rattle.std.specs.Prelude.{not}
use Rattle.fut_scalar.specs.declared.operator.BinOp.{BinOp}
use Rattle.fut_scalar.specs.declared.operator.BinOp.TheVariants as op
use Rattle.fut_scalar.specs.declared.operator.UnOp.{UnOp}
use Rattle.fut_scalar.specs.declared.operator.UnOp.TheVariants as unary
use Rattle.fut_scalar.specs.declared.place.Place.{Place}
use Rattle.fut_scalar.specs.declared.scalar.IntType.{IntType}
use Rattle.fut_scalar.specs.declared.scalar.Scalar.{Scalar}
use Rattle.fut_scalar.specs.declared.scalar.Scalar.TheVariants as scalar
use Rattle.fut_scalar.specs.declared.scalar.ScalarType.{ScalarType}
use Rattle.fut_scalar.specs.declared.scalar.ScalarType.TheVariants as types
use Rattle.fut_arithmetic.specs.Conversions.{converted}
use Rattle.fut_types.specs.declared.Kind.TheVariants as kind
use Rattle.fut_types.specs.declared.Head.TheVariants as head
use Rattle.fut_types.specs.Types.{Ty, Made, Tys, none, more, Kinds, HasKind, scalar_ty}
use Rattle.fut_typing.specs.Names.{Names, AreNames, count}
use Rattle.fut_typing.specs.Primitives.{bool_ty}
use Rattle.fut_typing.specs.Rules.{Operator}
use Rattle.fut_value.specs.Data.{Datum, Scalar_datum, Tuple_datum, Record_datum, Array_datum, Datums, no_datum, datum_and, listed, datums}
use Rattle.fut_meaning.specs.Found.{Told}
use Rattle.fut_meaning.specs.Accessors.{or_wrong}
use Rattle.fut_meaning.specs.Arrays.{scalar_of_datum, truth_of_datum}
use Rattle.fut_meaning.specs.Claims.{HasOut}
use Rattle.fut_meaning.specs.Datums.{as_values}
use Rattle.fut_meaning.specs.Flats.{FlatValue, FlatMode}
use Rattle.fut_meaning.specs.Meaning.{plain}
use Rattle.fut_meaning.specs.Operations.{equal, reported, on_scalars, on_scalar}
use Rattle.fut_meaning.specs.Operators.{binary_result, unary_result}
use Rattle.fut_meaning.specs.Outcomes.{Out, Val, Fail, Wrong, and_then}
use Rattle.fut_meaning.specs.Values.{Scalar_value}
use Rattle.fut_meaning.proofs.Safe.{Any_truth}
use Rattle.fut_blocks.specs.Meaning.{Component, as_flat, one, binary_scalar, asserted, parts_of}
use Rattle.type_soundness.specs.Fits.{Fits, All_fit, widest}
use Rattle.type_soundness.proofs.Application.{Each_data}
use Rattle.type_soundness.proofs.Equal.{equal_fits}
use Rattle.type_soundness.proofs.LikeLaws.{tuple_view}
use Rattle.type_soundness.proofs.Scalars.{integer_fits, scalar_fits, scalar_inside, bool_value, integers_fit, integer_fit, complements}
use Rattle.unfold_laws.specs.Safety.{Is_of, Are_of}
use Rattle.unfold_laws.specs.Typed.{One}

-- the datum of a scalar value
scalar_back : (d : Datum) (s : Scalar) → as_flat d ≡ Scalar_value s → d ≡ Scalar_datum s
scalar_back (Scalar_datum c) s e = let z : as_flat (Scalar_datum c) ≡ as_flat (Scalar_datum s) = e in cc
scalar_back (Tuple_datum ds) s e = absurd (let z : as_flat (Tuple_datum ds) ≡ as_flat (Scalar_datum s) = e in cc)
scalar_back (Record_datum ds) s e = absurd (let z : as_flat (Record_datum ds) ≡ as_flat (Scalar_datum s) = e in cc)
scalar_back (Array_datum row ds) s e = absurd (let z : as_flat (Array_datum row ds) ≡ as_flat (Scalar_datum s) = e in cc)

module _ (N : Names) (are : AreNames N) (T : Told) (K : Kinds) (tight : Bool) (budget : ℕ) where
  abbrev M : FlatMode
  M = plain tight

  abbrev Of : Ty → Component → Type 0
  Of t d = Is_of N T tight budget t d

  abbrev All_of : Tys → List Component → Type 0
  All_of ts ds = Are_of N T tight budget ts ds

  abbrev Value_of : Ty → FlatValue → Type 0
  Value_of t v = Fits N T (plain tight) budget false t [] v

  pub as_each : (ts : Tys) (ds : List Component) → All_of ts ds → Each_data N are T (plain tight) budget false K [] ts ds
  as_each none [] h = tt
  as_each none (d ∷ ds) h = absurd h
  as_each (more t ts) [] h = absurd h
  as_each (more t ts) (d ∷ ds) h = (h.0, as_each ts ds h.1)

  -- ---- scalars
  -- one scalar, as a value and as a component
  scalar_given : (t : Ty) (o : Out Scalar) → HasOut (Value_of t) (and_then o (λ s. Val (Scalar_value s))) → HasOut (All_of (more t none)) (one o)
  scalar_given t (Val s) h = (h, tt)
  scalar_given t (Fail r) h = tt
  scalar_given t Wrong h = h

  abbrev Integer_datum : Ty → Datum → Type 0
  Integer_datum t d = (i : IntType) × (ts : Tys) × (n : ℕ) × (t ≡ Made (head.Scalar (types.Int i)) ts) × (d ≡ Scalar_datum (scalar.Int i n))

  pub integer_datum : (t : Ty) (d : Datum) → HasKind K kind.Integer t → Of t d → Integer_datum t d
  integer_datum t d k h = let r = integer_fits N T (plain tight) budget false [] K t (as_flat d) k h in (r.0, r.1, r.2, r.3, scalar_back d (scalar.Int r.0 r.2) r.4)

  pub truth_datum : (d : Datum) → Of bool_ty d → (b : Bool) × (d ≡ Scalar_datum (scalar.Bool b))
  truth_datum d h = let r = bool_value N T (plain tight) budget false [] K (as_flat d) (scalar_inside N T (plain tight) budget false [] K types.Bool none (as_flat d) h) in (r.0, scalar_back d (scalar.Bool r.0) r.1)

  pub on_truth : {B : Type 0} (Q : B → Type 0) (d : Datum) (k : Bool → Out B) → Of bool_ty d → ((b : Bool) → HasOut Q (k b)) → HasOut Q (and_then (truth_of_datum d) k)
  on_truth Q d k h go = let r = truth_datum d h in subst (λ z. HasOut Q (and_then (truth_of_datum z) k)) (sym r.1) (go r.0)

  truth_of_type : (t : Ty) (b : Bool) → t ≡ bool_ty → Of t (Scalar_datum (scalar.Bool b))
  unfolding Fits
  truth_of_type t b e = subst (λ y. Of y (Scalar_datum (scalar.Bool b))) (sym e) tt

  -- ---- operators
  abbrev Two : Place → BinOp → Component → Component → Out Scalar
  Two at o v w = and_then (scalar_of_datum v) (λ a. and_then (scalar_of_datum w) (λ b. reported at (binary_result o a b)))

  two_is : (o : BinOp) (at : Place) (t u : Ty) (v w : Component) → Operator o K t u → HasKind K kind.Integer u → Of u v → Of u w → HasOut (All_of (more t none)) (one (Two at o v w))
  two_is o at t u v w rule k h g =
      let a = integer_datum u v k h in
      let b = integer_datum u w k g in
      let x : Scalar = scalar.Int a.0 a.2 in
      let y : Scalar = scalar.Int b.0 b.2 in
      let fit : HasOut (Value_of t) (on_scalars o at (as_flat (Scalar_datum x)) (as_flat (Scalar_datum y))) =
      integers_fit N T (plain tight) budget false [] K o at t u (as_flat (Scalar_datum x)) (as_flat (Scalar_datum y)) rule k (subst (Of u) a.4 h) (subst (Of u) b.4 g) in
      subst (λ z. HasOut (All_of (more t none)) (one (Two at o z w))) (sym a.4) (subst (λ z. HasOut (All_of (more t none)) (one (Two at o (Scalar_datum x) z))) (sym b.4) (scalar_given t (reported at (binary_result o x y)) fit))

  truth_given : (t : Ty) (o : Out Bool) (k : Bool → Bool) → t ≡ bool_ty → HasOut Any_truth o → HasOut (All_of (more t none)) (one (and_then o (λ b. Val (scalar.Bool (k b)))))
  truth_given t (Val b) k e h = (truth_of_type t (k b) e, tt)
  truth_given t (Fail r) k e h = tt
  truth_given t Wrong k e h = h

  equality : (u : Ty) (v w : Component) → HasKind K kind.Equal u → Of u v → Of u w → HasOut Any_truth (equal (as_flat v) (as_flat w))
  equality u v w k h g = equal_fits N are T (plain tight) budget false [] K u (as_flat v) (as_flat w) k h g

  pub binary_is : (o : BinOp) (at : Place) (t u : Ty) (v w : Component) → Operator o K t u → Of u v → Of u w → HasOut (All_of (more t none)) (one (binary_scalar o at v w))
  binary_is op.Eq at t u v w r h g = truth_given t (equal (as_flat v) (as_flat w)) (λ b. b) r.0 (equality u v w r.1 h g)
  binary_is op.Ne at t u v w r h g = truth_given t (equal (as_flat v) (as_flat w)) not r.0 (equality u v w r.1 h g)
  binary_is op.Lt at t u v w r h g = two_is op.Lt at t u v w r r.1 h g
  binary_is op.Le at t u v w r h g = two_is op.Le at t u v w r r.1 h g
  binary_is op.Gt at t u v w r h g = two_is op.Gt at t u v w r r.1 h g
  binary_is op.Ge at t u v w r h g = two_is op.Ge at t u v w r r.1 h g
  binary_is op.Add at t u v w r h g = two_is op.Add at t u v w r r.1 h g
  binary_is op.Sub at t u v w r h g = two_is op.Sub at t u v w r r.1 h g
  binary_is op.Mul at t u v w r h g = two_is op.Mul at t u v w r r.1 h g
  binary_is op.Div at t u v w r h g = two_is op.Div at t u v w r r.1 h g
  binary_is op.Mod at t u v w r h g = two_is op.Mod at t u v w r r.1 h g
  binary_is op.Quot at t u v w r h g = two_is op.Quot at t u v w r r.1 h g
  binary_is op.Rem at t u v w r h g = two_is op.Rem at t u v w r r.1 h g
  binary_is op.Pow at t u v w r h g = two_is op.Pow at t u v w r r.1 h g
  binary_is op.And at t u v w r h g = two_is op.And at t u v w r r.1 h g
  binary_is op.Or at t u v w r h g = two_is op.Or at t u v w r r.1 h g
  binary_is op.Xor at t u v w r h g = two_is op.Xor at t u v w r r.1 h g
  binary_is op.Shl at t u v w r h g = two_is op.Shl at t u v w r r.1 h g
  binary_is op.Shr at t u v w r h g = two_is op.Shr at t u v w r r.1 h g
  binary_is op.Min at t u v w r h g = two_is op.Min at t u v w r r.1 h g
  binary_is op.Max at t u v w r h g = two_is op.Max at t u v w r r.1 h g

  abbrev One_of : UnOp → Component → Out Scalar
  One_of o v = and_then (scalar_of_datum v) (λ s. or_wrong (unary_result o s))

  -- what an operator gives for a scalar, where it does so for it as a value
  one_given : (o : UnOp) (t u : Ty) (v : Component) (c : Scalar) → v ≡ Scalar_datum c → HasOut (Value_of t) (on_scalar o (as_flat (Scalar_datum c))) → HasOut (All_of (more t none)) (one (One_of o v))
  one_given o t u v c e fit = subst (λ z. HasOut (All_of (more t none)) (one (One_of o z))) (sym e) (scalar_given t (or_wrong (unary_result o c)) fit)

  pub unary_is : (o : UnOp) (t u : Ty) (v : Component) → One K o u t → Of u v → HasOut (All_of (more t none)) (one (One_of o v))
  unary_is unary.Neg t u v r h = let a = integer_datum u v r.1 h in one_given unary.Neg t u v (scalar.Int a.0 a.2) a.4 (integer_fit N T (plain tight) budget false [] K unary.Neg a.0 t a.1 (as_flat (Scalar_datum (scalar.Int a.0 a.2))) refl (r.0 ∙ a.3))
  unary_is unary.Abs t u v r h = let a = integer_datum u v r.1 h in one_given unary.Abs t u v (scalar.Int a.0 a.2) a.4 (integer_fit N T (plain tight) budget false [] K unary.Abs a.0 t a.1 (as_flat (Scalar_datum (scalar.Int a.0 a.2))) refl (r.0 ∙ a.3))
  unary_is unary.Popc t u v r h = let a = integer_datum u v r.1 h in one_given unary.Popc t u v (scalar.Int a.0 a.2) a.4 (integer_fit N T (plain tight) budget false [] K unary.Popc a.0 t none (as_flat (Scalar_datum (scalar.Int a.0 a.2))) refl r.0)
  unary_is unary.Not t u v r h =
      let k : HasKind K kind.Scalar t = subst (HasKind K kind.Scalar) (sym r.0) r.1 in
      let a = scalar_fits N T (plain tight) budget false [] K u (as_flat v) r.1 h in
      let e : v ≡ Scalar_datum a.2 = scalar_back v a.2 a.4 in
      one_given unary.Not t u v a.2 e (complements N T (plain tight) budget false [] K t u (as_flat (Scalar_datum a.2)) r.0 k (subst (Of u) e h))

  converted_is : (to : ScalarType) (c : Scalar) → Of (scalar_ty to) (Scalar_datum (converted to c))
  unfolding Fits
  converted_is (types.Int i) (scalar.Int j n) = refl
  converted_is (types.Int i) (scalar.Bool b) = refl
  converted_is types.Bool (scalar.Int j n) = tt
  converted_is types.Bool (scalar.Bool b) = tt

  pub convert_is : (to : ScalarType) (u : Ty) (v : Component) → HasKind K kind.Scalar u → Of u v → HasOut (All_of (more (scalar_ty to) none)) (one (and_then (scalar_of_datum v) (λ s. Val (converted to s))))
  convert_is to u v k h =
      let a = scalar_fits N T (plain tight) budget false [] K u (as_flat v) k h in
      subst (λ z. HasOut (All_of (more (scalar_ty to) none)) (one (and_then (scalar_of_datum z) (λ s. Val (converted to s))))) (sym (scalar_back v a.2 a.4)) (converted_is to a.2, tt)

  pub assert_is : (at : Place) (v : Component) → Of bool_ty v → HasOut (All_of none) (and_then (truth_of_datum v) (asserted at))
  assert_is at v h = on_truth (All_of none) v (asserted at) h (λ b. by b)
    where
      by : (b : Bool) → HasOut (All_of none) (asserted at b)
      by true = tt
      by false = tt

  -- ---- tuples
  all_listed : (ts : Tys) (ds : Datums) → All_fit N T (plain tight) budget false ts [] (as_values ds) → All_of ts (listed ds)
  unfolding All_fit
  all_listed none no_datum h = tt
  all_listed none (datum_and d ds) h = absurd h
  all_listed (more t ts) no_datum h = absurd h
  all_listed (more t ts) (datum_and d ds) h = (h.0, all_listed ts ds h.1)

  pub parts_are : (ts : Tys) (v : Component) → Of (Made head.Tuple ts) v → HasOut (All_of ts) (parts_of v)
  parts_are ts v h = let r = tuple_view N are T (plain tight) budget false [] K ts v h in subst (λ z. HasOut (All_of ts) (parts_of z)) (sym r.1) (all_listed ts r.0 r.2)

  all_put : (ts : Tys) (ds : List Component) → All_of ts ds → All_fit N T (plain tight) budget false ts [] (as_values (datums ds))
  unfolding All_fit
  all_put none [] h = tt
  all_put none (d ∷ ds) h = absurd h
  all_put (more t ts) [] h = absurd h
  all_put (more t ts) (d ∷ ds) h = (h.0, all_put ts ds h.1)

  pub tuple_is : (ts : Tys) (ds : List Component) → count ts < widest → All_of ts ds → Of (Made head.Tuple ts) (Tuple_datum (datums ds))
  unfolding Fits
  tuple_is ts ds lt h = (lt, all_put ts ds h)
