-- Operations on scalars give scalars of their types.
use Rattle.sized_meaning.proofs.Quiet.{divided, raised, asserted}
use Rattle.sized_meaning.specs.There.{There}
use Rattle.std.proofs.Common.{◌≡◌, Bool, true, false, cond, not, Option, Some, None, refl, ap, ◌∙◌, ℤ, ℕ}
use Rattle.fut_scalar.specs.Integers.{integer_of}
use Rattle.fut_scalar.specs.declared.operator.BinOp.{BinOp}
use Rattle.fut_scalar.specs.declared.operator.BinOp.TheVariants as op
use Rattle.fut_scalar.specs.declared.operator.UnOp.TheVariants as unary
use Rattle.fut_scalar.specs.declared.operator.ScalarFault.{ScalarFault}
use Rattle.fut_scalar.specs.declared.place.Place.{Place}
use Rattle.fut_scalar.specs.declared.scalar.IntType.{IntType}
use Rattle.fut_scalar.specs.declared.scalar.Scalar.{Scalar}
use Rattle.fut_scalar.specs.declared.scalar.Scalar.TheVariants as scalar
use Rattle.fut_scalar.specs.declared.scalar.ScalarType.{ScalarType}
use Rattle.fut_scalar.specs.declared.scalar.ScalarType.TheVariants as sort
use Rattle.fut_arithmetic.specs.Operations.{exact, of_type, fault_of, or_else, result_of, result_of_one}
use Rattle.fut_arithmetic.specs.Types.{type_of, result_type}
use Rattle.fut_types.specs.Types.{Ty, scalar_ty}
use Rattle.fut_meaning.specs.Flats.{FlatValue}
use Rattle.fut_meaning.specs.Operators.{by_kind, is_same_type, binary_result, unary_result}
use Rattle.fut_scalar.specs.declared.report.FailKind.TheVariants as kind
use Rattle.fut_meaning.specs.Accessors.{truth_of}
use Rattle.fut_meaning.specs.Operations.{report, reported, on_scalars, on_scalar, binary_value, equal, truth}
use Rattle.fut_meaning.specs.Outcomes.{Out, Val, Fail, Wrong, and_then}
use Rattle.fut_meaning.specs.Values.{Scalar_value}
use Rattle.sized_meaning.specs.Fits.{Out_fits, Is_scalar}
use Rattle.sized_meaning.specs.Typed.{Operand}
use Rattle.sized_meaning.proofs.Size_reports.{equal_fine}
use Rattle.fut_scalar.specs.declared.report.Report.{Report}
use Rattle.fut_scalar.specs.declared.operator.ScalarFault.TheVariants as fault

pub out_then : (quiet : Report → Type 0) {A B : Type 0} (P : A → Type 0) (Q : B → Type 0) (o : Out A) (k : A → Out B) → Out_fits quiet P o → ((a : A) → P a → Out_fits quiet Q (k a)) → Out_fits quiet Q (and_then o k)
out_then quiet P Q (Val a) k h go = go a h
out_then quiet P Q (Fail r) k h go = h
out_then quiet P Q Wrong k h go = tt

module _ (ty : IntType) (a b : ℤ) (m n : ℕ) where
  type_is : (o : BinOp) → type_of (of_type ty (exact o a b m n)) ≡ result_type o (sort.Int ty)
  type_is op.Eq = refl
  type_is op.Ne = refl
  type_is op.Lt = refl
  type_is op.Le = refl
  type_is op.Gt = refl
  type_is op.Ge = refl
  type_is o = refl

faulty : (is_there : Place → Bool) (at : Place) (o : Option ScalarFault) (s : Scalar) (P : Scalar → Type 0) → P s → Out_fits (There is_there) P (reported at (Some (by_kind (or_else o s))))
faulty is_there at None s P h = h
faulty is_there at (Some fault.Division) s P h = divided is_there at
faulty is_there at (Some fault.Power) s P h = raised is_there at

-- the result of an operator on two scalars, the first of which is of this type
pub scalars_give : (is_there : Place → Bool) (o : BinOp) (at : Place) (a b : Scalar) → Out_fits (There is_there) (λ s. type_of s ≡ result_type o (type_of a)) (reported at (binary_result o a b))
unfolding binary_result result_of
scalars_give is_there o at (scalar.Int i m) (scalar.Int j n) = tested (is_same_type i j)
  where
    tested : (b : Bool) → Out_fits (There is_there) (λ s. type_of s ≡ result_type o (sort.Int i)) (reported at (cond b (Some (by_kind (result_of o (scalar.Int i m) (scalar.Int j n)))) None))
    tested true = faulty is_there at (fault_of o (integer_of i n)) _ (λ s. type_of s ≡ result_type o (sort.Int i)) (type_is i (integer_of i m) (integer_of i n) m n o)
    tested false = tt
scalars_give is_there op.Eq at (scalar.Bool x) (scalar.Bool y) = refl
scalars_give is_there op.Ne at (scalar.Bool x) (scalar.Bool y) = refl
scalars_give is_there o at (scalar.Bool x) (scalar.Bool y) = tt
scalars_give is_there o at (scalar.Int i m) (scalar.Bool y) = tt
scalars_give is_there op.Eq at (scalar.Bool x) (scalar.Int j n) = tt
scalars_give is_there op.Ne at (scalar.Bool x) (scalar.Int j n) = tt
scalars_give is_there o at (scalar.Bool x) (scalar.Int j n) = tt

pub on_scalars_give : (is_there : Place → Bool) (o : BinOp) (at : Place) (c : ScalarType) (v w : FlatValue) → Is_scalar c v → Out_fits (There is_there) (Is_scalar (result_type o c)) (on_scalars o at v w)
on_scalars_give is_there o at c (Scalar_value a) (Scalar_value b) h =
    out_then _ (λ s. type_of s ≡ result_type o (type_of a)) (Is_scalar (result_type o c)) (reported at (binary_result o a b)) (λ s. Val (Scalar_value s)) (scalars_give is_there o at a b) (λ s e. e ∙ ap (result_type o) h)
on_scalars_give is_there o at c (Scalar_value a) w h = tt
on_scalars_give is_there o at c v w h = absurd h

compared : (quiet : Report → Type 0) (o : Out Bool) (turn : Bool → Bool) → Out_fits quiet (λ b. Unit {0}) o → Out_fits quiet (Is_scalar sort.Bool) (and_then o (λ b. Val (truth (turn b))))
compared quiet (Val b) turn q = refl
compared quiet (Fail r) turn q = q
compared quiet Wrong turn q = tt

pub binary_gives : (is_there : Place → Bool) (o : BinOp) (at : Place) (c : ScalarType) (v w : FlatValue) (t : Ty) → (t ≡ scalar_ty c → Is_scalar c v) → Operand o c t → Out_fits (There is_there) (Is_scalar (result_type o c)) (binary_value o at v w)
binary_gives is_there op.Eq at c v w t is h = compared (There is_there) (equal v w) (λ b. b) (equal_fine is_there v w)
binary_gives is_there op.Ne at c v w t is h = compared (There is_there) (equal v w) not (equal_fine is_there v w)
binary_gives is_there o at c v w t is h = on_scalars_give is_there o at c v w (is h)

pub negated_gives : (is_there : Place → Bool) (c : ScalarType) (v : FlatValue) → Is_scalar c v → Out_fits (There is_there) (Is_scalar c) (on_scalar unary.Neg v)
unfolding unary_result result_of_one
negated_gives is_there c (Scalar_value (scalar.Int i n)) h = h
negated_gives is_there c (Scalar_value (scalar.Bool b)) h = tt
negated_gives is_there c v h = absurd h

pub turned_gives : (is_there : Place → Bool) (c : ScalarType) (v : FlatValue) → Is_scalar c v → Out_fits (There is_there) (Is_scalar c) (on_scalar unary.Not v)
unfolding unary_result result_of_one
turned_gives is_there c (Scalar_value (scalar.Int i n)) h = h
turned_gives is_there c (Scalar_value (scalar.Bool b)) h = h
turned_gives is_there c v h = absurd h

-- a truth value that is asserted
pub asserted_gives : (is_there : Place → Bool) (at : Place) (v : FlatValue) → Is_scalar sort.Bool v → Out_fits (There is_there) (Is_scalar sort.Bool) (and_then (truth_of v) (λ b. cond b (Val v) (Fail (report kind.Assert at))))
asserted_gives is_there at (Scalar_value (scalar.Bool true)) h = refl
asserted_gives is_there at (Scalar_value (scalar.Bool false)) h = asserted is_there at
asserted_gives is_there at (Scalar_value (scalar.Int i n)) h = tt
asserted_gives is_there at v h = absurd h
