-- The types of primitives have no parameters of their own: reading them as types of another program changes what stands for
-- their variables alone.
use Rattle.std.proofs.Common.{◌≡◌, refl, ap}
use Rattle.fut_scalar.specs.declared.scalar.ScalarType.{ScalarType}
use Rattle.fut_flat.specs.declared.prim.Primitive.{Primitive}
use Rattle.fut_primitives.specs.Written.{Written, Variable, Scalar, Own, From, Array, Unique, Pair, Triple, Named, Function}
use Rattle.fut_primitives.specs.Table.{written, own_of, from_of}
use Rattle.fut_types.specs.Types.{Sub, fun_ty, applied}
use Rattle.fut_typing.specs.Primitives.{array_ty, pair_ty, triple_ty, plain_type, prim_type}
use Rattle.fut_typing.proofs.Readings.{Reading, image}
unfoldable use Rattle.fut_typing.proofs.Readings.{read, read_all}

module _ (I : Reading) where
  read_written : (own from : ScalarType) (given : Sub) (w : Written) → read I (applied given (plain_type own from w)) ≡ applied (image I given) (plain_type own from w)
  unfolding read applied
  read_written own from given (Variable x) = refl
  read_written own from given (Scalar s) = refl
  read_written own from given Own = refl
  read_written own from given From = refl
  read_written own from given (Array n t) = ap array_ty (read_written own from given t)
  read_written own from given (Unique t) = read_written own from given t
  read_written own from given (Pair t u) = λ i. pair_ty (read_written own from given t i) (read_written own from given u i)
  read_written own from given (Triple t u v) = λ i. triple_ty (read_written own from given t i) (read_written own from given u i) (read_written own from given v i)
  read_written own from given (Named n t) = read_written own from given t
  read_written own from given (Function t u) = λ i. fun_ty (read_written own from given t i) (read_written own from given u i)

  pub read_prim : (given : Sub) (p : Primitive) → read I (applied given (prim_type p)) ≡ applied (image I given) (prim_type p)
  read_prim given p = read_written (own_of p) (from_of p) given (written p)
