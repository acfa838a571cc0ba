-- Uses of the primitives on scalars.
use Rattle.std.proofs.Common.{ℕ, arith, refl, [], ◌∷◌, Bool}
use Rattle.fut_scalar.specs.declared.operator.BinOp.TheVariants as op
use Rattle.fut_scalar.specs.declared.operator.UnOp.TheVariants as one
use Rattle.fut_scalar.specs.declared.place.BindId.{BindId}
use Rattle.fut_scalar.specs.declared.place.Place.{Place}
use Rattle.fut_scalar.specs.declared.scalar.IntType.{IntType}
use Rattle.fut_scalar.specs.declared.scalar.IntType.TheVariants as int
use Rattle.fut_scalar.specs.declared.scalar.Scalar.{Scalar}
use Rattle.fut_scalar.specs.declared.scalar.Scalar.TheVariants as scalar
use Rattle.fut_scalar.specs.declared.scalar.ScalarType.{ScalarType}
use Rattle.fut_scalar.specs.declared.scalar.ScalarType.TheVariants as types
use Rattle.fut_arithmetic.specs.Conversions.{converted}
use Rattle.fut_flat.specs.declared.prim.Primitive.TheVariants as prim
use Rattle.fut_flat.specs.declared.prim.Ref.{Ref}
use Rattle.fut_types.specs.declared.Kind.TheVariants as kind
use Rattle.fut_types.specs.Types.{Ty, none, Kinds, HasKind, rank, least, scalar_ty, fun_ty}
use Rattle.fut_typing.specs.Names.{Names}
use Rattle.fut_meaning.specs.Found.{Told}
use Rattle.fut_meaning.specs.Outcomes.{Val}
use Rattle.fut_meaning.specs.Values.{Array_value, Scalar_value, Tuple_value, Record_value, Closure, Primitive_value, no_value, value_and, Call, Task}
use Rattle.fut_meaning.specs.Operations.{primitive}
use Rattle.fut_meaning.specs.Meaning.{Ever, step}
use Rattle.fut_meaning.specs.Claims.{HasOut, Correct}
use Rattle.fut_meaning.specs.Flats.{FlatValue, FlatTops, FlatMode}
use Rattle.fut_meaning.proofs.Ever.{open_up, close}
use Rattle.fut_meaning.proofs.Correct.{correct_exact}
use Rattle.type_soundness.specs.Fits.{Is_scalar, On_scalar, Grows, lang, Fits}
use Rattle.type_soundness.proofs.Growing.{fits_grow}
use Rattle.type_soundness.proofs.Scalars.{integers_fit, integer_fit, fits_scalar, scalar_inside}

module _ (N : Names) (T : Told) (M : FlatMode) (budget : ℕ) (total : Bool) (K : Kinds) where
  -- what a task comes to over the meanings of its parts, it comes to
  pub opened : (tops : FlatTops) (P : FlatValue → Type 0) (task : Task Ref BindId (Unit {0})) → Correct total P (step (lang T tops) M budget (Ever (lang T tops) M budget) task) → Correct total P (Ever (lang T tops) M budget task)
  opened tops P task h = record {
    safe = λ o n e. h.safe o n (open_up (lang T tops) M budget task o n e);
    some = λ t. let r = h.some t in (r.0, r.1, close (lang T tops) M budget task r.0 r.1 r.2);
  }

  -- a function is of its type
  pub fits_function : (tops : FlatTops) (t u : Ty) (f : FlatValue) → ((tops' : FlatTops) → Grows tops tops' → (v : FlatValue) → Fits N T M budget total t tops' v → Correct total (Fits N T M budget total u tops') (Ever (lang T tops') M budget (Call f v)))
      → Fits N T M budget total (fun_ty t u) tops f
  unfolding Fits
  fits_function tops t u f h = h

  pub function_fits : (tops : FlatTops) (t u : Ty) (f : FlatValue) → Fits N T M budget total (fun_ty t u) tops f → (tops' : FlatTops) → Grows tops tops' → (v : FlatValue) → Fits N T M budget total t tops' v → Correct total (Fits N T M budget total u tops') (Ever (lang T tops') M budget (Call f v))
  unfolding Fits
  function_fits tops t u f h = h

  converts : (tops : FlatTops) (to from : ScalarType) (c : Scalar) → Is_scalar from c → Is_scalar to (converted to c)
  converts tops (types.Int i) (types.Int j) (scalar.Int u n) h = refl
  converts tops (types.Int i) types.Bool (scalar.Bool b) h = refl
  converts tops types.Bool (types.Int j) (scalar.Int u n) h = tt
  converts tops types.Bool types.Bool (scalar.Bool b) h = tt
  converts tops to (types.Int j) (scalar.Bool b) h = absurd h
  converts tops to types.Bool (scalar.Int u n) h = absurd h

  converted_fits : (tops : FlatTops) (to from : ScalarType) (at : Place) (v : FlatValue) → On_scalar (Is_scalar from) v → HasOut (Fits N T M budget total (scalar_ty to) tops) (primitive (prim.Convert to from) at (v ∷ []))
  unfolding primitive
  converted_fits tops to from at (Scalar_value c) h = fits_scalar N T M budget total tops K to none (converted to c) (converts tops to from c h)
  converted_fits tops to from at (Tuple_value vs) h = absurd h
  converted_fits tops to from at (Record_value fs) h = absurd h
  converted_fits tops to from at (Closure ps e lo env) h = absurd h
  converted_fits tops to from at (Primitive_value p place vs) h = absurd h
  converted_fits tops to from at (Array_value row ds) h = absurd h

  abbrev At : FlatTops → Ty → FlatValue → Type 0
  At tops t v = Fits N T M budget total t tops v

  int_ty : IntType → Ty
  int_ty i = scalar_ty (types.Int i)

  pub convert_used : (tops : FlatTops) (to from : ScalarType) (at : Place) → At tops (fun_ty (scalar_ty from) (scalar_ty to)) (Primitive_value (prim.Convert to from) at no_value)
  convert_used tops to from at = fits_function tops (scalar_ty from) (scalar_ty to) _ (λ tops' g v h.
      opened tops' (At tops' (scalar_ty to)) (Call _ v) (correct_exact (At tops' (scalar_ty to)) 0 (primitive (prim.Convert to from) at (v ∷ [])) (converted_fits tops' to from at v (scalar_inside N T M budget total tops' K from none v h))))

  pub abs_used : (tops : FlatTops) (i : IntType) (at : Place) → At tops (fun_ty (scalar_ty (types.Int i)) (scalar_ty (types.Int i))) (Primitive_value (prim.Abs i) at no_value)
  unfolding primitive
  abs_used tops i at = fits_function tops (scalar_ty (types.Int i)) (scalar_ty (types.Int i)) _ (λ tops' g v h.
      opened tops' (At tops' (scalar_ty (types.Int i))) (Call _ v) (correct_exact (At tops' (scalar_ty (types.Int i))) 0 (primitive (prim.Abs i) at (v ∷ []))
      (integer_fit N T M budget total tops' K one.Abs i (scalar_ty (types.Int i)) none v (scalar_inside N T M budget total tops' K (types.Int i) none v h) refl)))

  pub popc_used : (tops : FlatTops) (i : IntType) (at : Place) → At tops (fun_ty (scalar_ty (types.Int i)) (scalar_ty (types.Int int.I32))) (Primitive_value (prim.Popc i) at no_value)
  unfolding primitive
  popc_used tops i at = fits_function tops (scalar_ty (types.Int i)) (scalar_ty (types.Int int.I32)) _ (λ tops' g v h.
      opened tops' (At tops' (scalar_ty (types.Int int.I32))) (Call _ v) (correct_exact (At tops' (scalar_ty (types.Int int.I32))) 0 (primitive (prim.Popc i) at (v ∷ []))
      (integer_fit N T M budget total tops' K one.Popc i (scalar_ty (types.Int int.I32)) none v (scalar_inside N T M budget total tops' K (types.Int i) none v h) refl)))

  integer_kind : (i : IntType) → HasKind K kind.Integer (scalar_ty (types.Int i))
  unfolding rank least
  integer_kind i = omega arith

  pub min_used : (tops : FlatTops) (i : IntType) (at : Place) → At tops (fun_ty (scalar_ty (types.Int i)) (fun_ty (scalar_ty (types.Int i)) (scalar_ty (types.Int i)))) (Primitive_value (prim.Min i) at no_value)
  unfolding primitive
  min_used tops i at = fits_function tops (scalar_ty (types.Int i)) (fun_ty (scalar_ty (types.Int i)) (scalar_ty (types.Int i))) _ (λ tops' g v h.
      opened tops' (At tops' (fun_ty (scalar_ty (types.Int i)) (scalar_ty (types.Int i)))) (Call _ v) (correct_exact (At tops' (fun_ty (scalar_ty (types.Int i)) (scalar_ty (types.Int i)))) 0 (Val (Primitive_value (prim.Min i) at (value_and v no_value)))
      (fits_function tops' (scalar_ty (types.Int i)) (scalar_ty (types.Int i)) _ (λ tops'' g' w k.
      opened tops'' (At tops'' (scalar_ty (types.Int i))) (Call _ w) (correct_exact (At tops'' (scalar_ty (types.Int i))) 0 (primitive (prim.Min i) at (v ∷ w ∷ []))
      (integers_fit N T M budget total tops'' K op.Min at (scalar_ty (types.Int i)) (scalar_ty (types.Int i)) v w (refl, integer_kind i) (integer_kind i) (fits_grow N T M budget total (scalar_ty (types.Int i)) tops' tops'' g' v h) k))))))

  pub max_used : (tops : FlatTops) (i : IntType) (at : Place) → At tops (fun_ty (scalar_ty (types.Int i)) (fun_ty (scalar_ty (types.Int i)) (scalar_ty (types.Int i)))) (Primitive_value (prim.Max i) at no_value)
  unfolding primitive
  max_used tops i at = fits_function tops (scalar_ty (types.Int i)) (fun_ty (scalar_ty (types.Int i)) (scalar_ty (types.Int i))) _ (λ tops' g v h.
      opened tops' (At tops' (fun_ty (scalar_ty (types.Int i)) (scalar_ty (types.Int i)))) (Call _ v) (correct_exact (At tops' (fun_ty (scalar_ty (types.Int i)) (scalar_ty (types.Int i)))) 0 (Val (Primitive_value (prim.Max i) at (value_and v no_value)))
      (fits_function tops' (scalar_ty (types.Int i)) (scalar_ty (types.Int i)) _ (λ tops'' g' w k.
      opened tops'' (At tops'' (scalar_ty (types.Int i))) (Call _ w) (correct_exact (At tops'' (scalar_ty (types.Int i))) 0 (primitive (prim.Max i) at (v ∷ w ∷ []))
      (integers_fit N T M budget total tops'' K op.Max at (scalar_ty (types.Int i)) (scalar_ty (types.Int i)) v w (refl, integer_kind i) (integer_kind i) (fits_grow N T M budget total (scalar_ty (types.Int i)) tops' tops'' g' v h) k))))))

  pub number_used : (tops : FlatTops) (i : IntType) (n : ℕ) → At tops (scalar_ty (types.Int i)) (Scalar_value (scalar.Int i n))
  number_used tops i n = fits_scalar N T M budget total tops K (types.Int i) none (scalar.Int i n) refl
