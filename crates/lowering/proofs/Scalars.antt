-- Operations on scalars, and what data of a scalar's type is.
use Rattle.std.proofs.Common.{◌≡◌, ℕ, suc, List, [], ◌∷◌, Bool, true, false, cond, not, Some, None, refl, sym, ap, subst}
use Rattle.std.specs.Prelude.{flat_map}
use Rattle.fut_scalar.specs.declared.operator.BinOp.{BinOp}
use Rattle.fut_scalar.specs.declared.operator.BinOp.TheVariants as binary
use Rattle.fut_scalar.specs.declared.place.Place.{Place}
use Rattle.fut_scalar.specs.declared.report.FailKind.TheVariants as kind
use Rattle.fut_scalar.specs.declared.scalar.IntType.{IntType}
use Rattle.fut_scalar.specs.declared.scalar.Scalar.{Scalar}
use Rattle.fut_scalar.specs.declared.scalar.Scalar.TheVariants as scalar
use Rattle.fut_scalar.specs.declared.scalar.ScalarType.{ScalarType}
use Rattle.fut_scalar.specs.declared.scalar.ScalarType.TheVariants as sort
use Rattle.fut_scalar.specs.Integers.{integer_of}
use Rattle.fut_arithmetic.specs.Operations.{integer_result, result_of}
use Rattle.fut_arithmetic.specs.Types.{type_of}
use Rattle.fut_value.specs.Data.{Scalar_shape, Datum, Scalar_datum, Tuple_datum, Record_datum, Array_datum, shape_of}
use Rattle.fut_meaning.specs.Accessors.{or_wrong, count_of, turns_of_scalar}
use Rattle.fut_meaning.specs.Arrays.{truth_of_scalar, truth_of_datum, checked}
use Rattle.fut_meaning.specs.Claims.{HasOut}
use Rattle.fut_meaning.specs.Operations.{reported, equal, truth_result}
use Rattle.fut_meaning.specs.Operators.{binary_result, by_kind, is_same_type}
use Rattle.fut_meaning.specs.Outcomes.{Out, Val, Fail, Wrong, and_then}
use Rattle.fut_meaning.specs.Sames.{all_none, all_more, Same_out, same_value, same_report, same_wrong}
use Rattle.fut_meaning.proofs.Sims.{out_same}
use Rattle.fut_blocks.specs.Meaning.{binary_scalar, asserted, turns_of_datum}
use Rattle.fut_blocks.specs.Meaning as source
use Rattle.core_ir.specs.declared.block.Atom.{Atom}
use Rattle.core_ir.specs.declared.block.Atom.TheVariants as atom
use Rattle.core_ir.specs.declared.block.Var.{Var}
use Rattle.core_ir.specs.Arrays.{scalar_in}
use Rattle.core_ir.specs.Bundles.{One, Row}
use Rattle.core_ir.specs.Meaning.{Env, value_of, scalar_at, one, holds}
use Rattle.core_values.specs.Components.{components, One_type, scalars, a_scalar}
use Rattle.lowering.specs.Lowering.{truth_shape}
use Rattle.lowering.specs.Programs.{Are_data, Are_components}
use Rattle.lowering.specs.Knowns.{known}
use Rattle.lowering.proofs.Stands.{Has, Have, Found, Stands, has_new}

-- ---- operands

-- data of a scalar's type, which one atom stands for
pub record Scalar_found (e : Env) (n : ℕ) (u : Atom) (t : ScalarType) (o : Out Datum) : Type 0 where
  pub scalar : Scalar
  pub is : o ≡ Val (Scalar_datum scalar)
  pub value : value_of e u ≡ Val (One scalar)
  pub has : Has e n u (One scalar)
  pub typed : type_of scalar ≡ t

scalar_case : {e : Env} {n : ℕ} {u : Atom} {t : ScalarType} {o : Out Datum} (d : Datum) → One_type (Scalar_shape t) (shape_of d) → Have e n (u ∷ []) (components d) → o ≡ Val d → Scalar_found e n u t o
unfolding components shape_of
scalar_case (Scalar_datum s) scalars (all_more k all_none) q = record { scalar = s; is = q; value = k.value; has = k; typed = refl }
scalar_case (Tuple_datum ds) x k q = elim x [ ]
scalar_case (Record_datum fs) x k q = elim x [ ]
scalar_case (Array_datum row ds) x k q = elim x [ ]

pub scalar_found : {e : Env} {n : ℕ} {u : Atom} {t : ScalarType} {o : Out Datum} → Found e n (Scalar_shape t) (u ∷ []) o → Scalar_found e n u t o
scalar_found f = scalar_case f.datum f.is_data.typed f.have f.is

pub scalar_is : {e : Env} {n : ℕ} {u : Atom} {t : ScalarType} {o : Out Datum} (f : Scalar_found e n u t o) → scalar_at e u ≡ Val f.scalar
scalar_is f = ap (λ z. and_then z scalar_in) f.value

-- ---- results

pub one_data : {t : ScalarType} (s : Scalar) → type_of s ≡ t → Are_components (Scalar_shape t ∷ []) (One s ∷ []) (Scalar_datum s ∷ [])
unfolding components shape_of
one_data {t} s e = record { are = refl; data_are = all_more (record { regular = a_scalar; typed = subst (λ z. One_type (Scalar_shape z) (Scalar_shape (type_of s))) e scalars }) all_none }

pub one_same : (t : ScalarType) (o : Out Scalar) → HasOut (λ s. type_of s ≡ t) o → Same_out (Are_components (Scalar_shape t ∷ [])) (one o) (source.one o)
one_same t (Val s) h = same_value (one_data s h)
one_same t (Fail r) h = same_report
one_same t Wrong h = same_wrong

-- a scalar under a new variable
pub index_stands : {t : IntType} (j : Var) (e : Env) (s : Scalar) → type_of s ≡ sort.Int t → Stands ((j.number, One s) ∷ e) (suc j.number) (known (Scalar_shape (sort.Int t)) (atom.Var j ∷ [])) (Scalar_datum s)
unfolding components shape_of
index_stands j e s q = record { have = all_more (has_new j (One s) e) all_none; is_data = record { regular = a_scalar; typed = subst (λ z. One_type (Scalar_shape z) (Scalar_shape (type_of s))) q scalars } }

-- ---- operations

equal_same : (b : Bool) (t : IntType) (m n : ℕ) (at : Place) → and_then (and_then (or_wrong (cond b (Some (by_kind (integer_result binary.Eq t m n))) None)) truth_result) (λ b. Val (scalar.Bool b)) ≡ reported at (cond b (Some (by_kind (integer_result binary.Eq t m n))) None)
equal_same true t m n at = refl
equal_same false t m n at = refl

unequal_same : (b : Bool) (t : IntType) (m n : ℕ) (at : Place) → and_then (and_then (or_wrong (cond b (Some (by_kind (integer_result binary.Eq t m n))) None)) truth_result) (λ b. Val (scalar.Bool (not b))) ≡ reported at (cond b (Some (by_kind (integer_result binary.Ne t m n))) None)
unequal_same true t m n at = refl
unequal_same false t m n at = refl

pub binary_same : (op : BinOp) (at : Place) (s t : Scalar) → reported at (binary_result op s t) ≡ binary_scalar op at (Scalar_datum s) (Scalar_datum t)
unfolding equal binary_result result_of
binary_same binary.Eq at (scalar.Int t m) (scalar.Int u n) = sym (equal_same (is_same_type t u) t m n at)
binary_same binary.Eq at (scalar.Int t m) (scalar.Bool b) = refl
binary_same binary.Eq at (scalar.Bool a) (scalar.Int u n) = refl
binary_same binary.Eq at (scalar.Bool a) (scalar.Bool b) = refl
binary_same binary.Ne at (scalar.Int t m) (scalar.Int u n) = sym (unequal_same (is_same_type t u) t m n at)
binary_same binary.Ne at (scalar.Int t m) (scalar.Bool b) = refl
binary_same binary.Ne at (scalar.Bool a) (scalar.Int u n) = refl
binary_same binary.Ne at (scalar.Bool a) (scalar.Bool b) = refl
binary_same op at s t = refl

nothing : Are_components [] [] []
nothing = record { are = refl; data_are = all_none }

pub asserted_same : (at : Place) (s : Scalar) → Same_out (Are_components []) (and_then (truth_of_scalar s) (λ b. checked b kind.Assert at (Val []))) (and_then (truth_of_scalar s) (asserted at))
asserted_same at (scalar.Bool true) = same_value nothing
asserted_same at (scalar.Bool false) = same_report
asserted_same at (scalar.Int t n) = same_wrong

holds_datum : {t : ScalarType} (d : Datum) → One_type (Scalar_shape t) (shape_of d) → Same_out ◌≡◌ (holds (flat_map components (d ∷ []))) (truth_of_datum d)
unfolding components shape_of
holds_datum (Scalar_datum s) scalars = out_same (truth_of_scalar s)
holds_datum (Tuple_datum ds) x = elim x [ ]
holds_datum (Record_datum fs) x = elim x [ ]
holds_datum (Array_datum row ds) x = elim x [ ]

holds_all : {cs : Row} {vs : List Datum} → cs ≡ flat_map components vs → Are_data (truth_shape ∷ []) vs → Same_out ◌≡◌ (holds cs) (source.holds vs)
holds_all e (all_more {x' = d} i all_none) = subst (λ z. Same_out ◌≡◌ (holds z) (truth_of_datum d)) (sym e) (holds_datum d i.typed)

-- whether a test's one result holds
pub holds_same : {cs : Row} {vs : List Datum} → Are_components (truth_shape ∷ []) cs vs → Same_out ◌≡◌ (holds cs) (source.holds vs)
holds_same p = holds_all p.are p.data_are

-- ---- turns

-- how many turns an integer of a type says
pub record Turns (t : IntType) (s : Scalar) : Type 0 where
  pub count : ℕ
  pub are : turns_of_scalar s ≡ Val (t, count)

pub turns_found : (t : IntType) (s : Scalar) → type_of s ≡ sort.Int t → Turns t s
turns_found t (scalar.Int u n) e = record { count = count_of (integer_of u n); are = ap (λ z. Val (z, count_of (integer_of u n))) (let z : sort.Int u ≡ sort.Int t = e in int_is z) }
  where
    int_is : {u t : IntType} → sort.Int u ≡ sort.Int t → u ≡ t
    int_is e = cc
turns_found t (scalar.Bool b) e = absurd (let z : sort.Bool ≡ sort.Int t = e in cc)
