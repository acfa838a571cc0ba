-- Arrays that are made of rows of one type, and rows of arrays.
use Rattle.std.proofs.Common.{◌≡◌, Bool, true, false, ◌++◌, ℕ, zero, suc, refl, sym, subst, arith, List, [], ◌∷◌, take, drop, reverse, replicate, slice_get, slice_set, Option, Some, None, nat_le, length, ap}
use mathlib.Core.List.{reverse_aux}
use Rattle.fut_scalar.specs.declared.place.Place.{Place}
use Rattle.fut_scalar.specs.declared.report.FailKind.{FailKind}
use Rattle.fut_scalar.specs.declared.report.FailKind.TheVariants as fail
use Rattle.fut_scalar.specs.declared.scalar.IntType.{IntType}
use Rattle.fut_scalar.specs.declared.scalar.Scalar.TheVariants as scalar
use Rattle.fut_scalar.specs.declared.scalar.ScalarType.TheVariants as types
use Rattle.fut_types.specs.declared.Kind.TheVariants as kind
use Rattle.fut_types.specs.Types.{Ty, Kinds, HasKind, rank, least, scalar_ty}
use Rattle.fut_typing.specs.Names.{Names, AreNames}
use Rattle.fut_typing.specs.Primitives.{array_ty, bool_ty}
use Rattle.fut_meaning.specs.Found.{Told}
use Rattle.fut_meaning.specs.Outcomes.{Val, Fail, Wrong, Out}
use Rattle.fut_value.specs.Data.{Shape, Datum, Scalar_datum, Tuple_datum, Record_datum, Array_datum, Datums, no_datum, datum_and, listed, datums, shape_of, same_sizes, weight}
use Rattle.fut_meaning.specs.Datums.{as_value}
use Rattle.fut_meaning.specs.Arrays.{checked, most_words, Rows, rows_of, exact_of, truth_of_datum, each_out, fitting, all_like, row_shape, array, array_of, Counted, fresh, shared, all_fresh, all_shared, or_bounds}
use Rattle.fut_meaning.specs.Claims.{HasOut}
use Rattle.fut_meaning.specs.Flats.{FlatTops, FlatMode}
use Rattle.fut_meaning.proofs.Safe.{Every}
use Rattle.type_soundness.specs.Likeness.{All_datums, Like}
use Rattle.type_soundness.specs.Fits.{Fits}
use Rattle.type_soundness.proofs.Binding.{has_then}
use Rattle.type_soundness.proofs.LikeLaws.{both_are, array_view, self_like, same_like}

-- ---- lists

pub every_as : {A : Type 0} (P Q : A → Type 0) (xs : List A) → ((x : A) → P x → Q x) → Every P xs → Every Q xs
every_as P Q [] go e = tt
every_as P Q (x ∷ xs) go e = (go x e.0, every_as P Q xs go e.1)

pub every_more : {A : Type 0} (P : A → Type 0) (xs ys : List A) → Every P xs → Every P ys → Every P (xs ++ ys)
every_more P [] ys e f = f
every_more P (x ∷ xs) ys e f = (e.0, every_more P xs ys e.1 f)

pub every_taken : {A : Type 0} (P : A → Type 0) (n : ℕ) (xs : List A) → Every P xs → Every P (take n xs)
every_taken P zero xs e = tt
every_taken P (suc n) [] e = tt
every_taken P (suc n) (x ∷ xs) e = (e.0, every_taken P n xs e.1)

pub every_dropped : {A : Type 0} (P : A → Type 0) (n : ℕ) (xs : List A) → Every P xs → Every P (drop n xs)
every_dropped P zero xs e = e
every_dropped P (suc n) [] e = tt
every_dropped P (suc n) (x ∷ xs) e = every_dropped P n xs e.1

every_turned : {A : Type 0} (P : A → Type 0) (xs ys : List A) → Every P xs → Every P ys → Every P (reverse_aux xs ys)
every_turned P [] ys e f = f
every_turned P (x ∷ xs) ys e f = every_turned P xs (x ∷ ys) e.1 (e.0, f)

pub every_reversed : {A : Type 0} (P : A → Type 0) (xs : List A) → Every P xs → Every P (reverse xs)
every_reversed P xs e = every_turned P xs [] e tt

pub every_copy : {A : Type 0} (P : A → Type 0) (n : ℕ) (x : A) → P x → Every P (replicate n x)
every_copy P zero x p = tt
every_copy P (suc n) x p = (p, every_copy P n x p)

pub every_set : {A : Type 0} (P : A → Type 0) (n : ℕ) (xs : List A) (y : A) → Every P xs → P y → Every P (slice_set xs n y)
every_set P n [] y e p = tt
every_set P zero (x ∷ xs) y e p = (p, e.1)
every_set P (suc n) (x ∷ xs) y e p = (e.0, every_set P n xs y e.1 p)

-- what is found
abbrev pub If_some : {A : Type 0} → (A → Type 0) → Option A → Type 0
If_some P None = Unit {0}
If_some P (Some a) = P a

pub every_found : {A : Type 0} (P : A → Type 0) (n : ℕ) (xs : List A) → Every P xs → If_some P (slice_get xs n)
every_found P n [] e = tt
every_found P zero (x ∷ xs) e = e.0
every_found P (suc n) (x ∷ xs) e = every_found P n xs e.1

pub every_datums : (P : Datum → Type 0) (ds : List Datum) → Every P ds → All_datums P (datums ds)
every_datums P [] e = tt
every_datums P (d ∷ ds) e = (e.0, every_datums P ds e.1)

pub every_listed : (P : Datum → Type 0) (ds : Datums) → All_datums P ds → Every P (listed ds)
every_listed P no_datum e = tt
every_listed P (datum_and d ds) e = (e.0, every_listed P ds e.1)

-- ---- outcomes

pub has_fitting : {A : Type 0} (P : A → Type 0) (b : Bool) (at : Place) (o : Out A) → (b ≡ true → HasOut P o) → HasOut P (fitting false b at o)
has_fitting P true at o h = h refl
has_fitting P false at o h = tt

pub has_checked : {A : Type 0} (P : A → Type 0) (b : Bool) (k : FailKind) (at : Place) (o : Out A) → (b ≡ true → HasOut P o) → HasOut P (checked b k at o)
has_checked P true k at o h = h refl
has_checked P false k at o h = tt

pub has_each : {A B : Type 0} (P : A → Type 0) (Q : B → Type 0) (g : A → Out B) → ((a : A) → P a → HasOut Q (g a)) → (xs : List A) → Every P xs → HasOut (Every Q) (each_out g xs)
has_each P Q g h [] e = tt
has_each P Q g h (x ∷ xs) e = has_then Q (Every Q) (g x) _ (h x e.0) (λ y q. has_then (Every Q) (Every Q) (each_out g xs) _ (has_each P Q g h xs e.1) (λ ys qs. (q, qs)))

pub has_bounds : {A : Type 0} (P : A → Type 0) (at : Place) (o : Option A) → If_some P o → HasOut P (or_bounds at o)
has_bounds P at None h = tt
has_bounds P at (Some a) h = h

-- of a result that counts its words
abbrev pub Of_counted : (Datum → Type 0) → Counted → Type 0
Of_counted P r = P r.1

pub has_fresh : (P : Datum → Type 0) (o : Out Datum) → HasOut P o → HasOut (Of_counted P) (all_fresh o)
has_fresh P o h = has_then P (Of_counted P) o fresh h (λ d p. p)

pub has_shared : (P : Datum → Type 0) (o : Out Datum) → HasOut P o → HasOut (Of_counted P) (all_shared o)
has_shared P o h = has_then P (Of_counted P) o shared h (λ d p. p)

pub some_is : {A : Type 0} {x y : A} → Some x ≡ Some y → x ≡ y
some_is e = cc

pub has_as : {A : Type 0} (P Q : A → Type 0) (o : Out A) → ((a : A) → P a → Q a) → HasOut P o → HasOut Q o
has_as P Q (Val a) go h = go a h
has_as P Q (Fail r) go h = tt
has_as P Q Wrong go h = h

-- as many results as there are elements
pub has_so_many : {A B : Type 0} (P : A → Type 0) (Q : B → Type 0) (g : A → Out B) → ((a : A) → P a → HasOut Q (g a)) → (xs : List A) → Every P xs → HasOut (λ ys. Every Q ys × (length ys ≡ length xs)) (each_out g xs)
has_so_many P Q g h [] e = (tt, refl)
has_so_many P Q g h (x ∷ xs) e = has_then Q (λ ys. Every Q ys × (length ys ≡ length (x ∷ xs))) (g x) _ (h x e.0) (λ y q. has_then (λ ys. Every Q ys × (length ys ≡ length xs)) (λ ys. Every Q ys × (length ys ≡ length (x ∷ xs))) (each_out g xs) _ (has_so_many P Q g h xs e.1) (λ ys qs. ((q, qs.0), ap suc qs.1)))

pub listed_datums : (ds : List Datum) → listed (datums ds) ≡ ds
listed_datums [] = refl
listed_datums (d ∷ ds) = ap (λ z. d ∷ z) (listed_datums ds)

-- ---- arrays

module _ (N : Names) (are : AreNames N) (T : Told) (M : FlatMode) (budget : ℕ) (total : Bool) (tops : FlatTops) (K : Kinds) where
  abbrev D : Ty → Datum → Type 0
  D t d = Fits N T M budget total t tops (as_value d)

  -- a row of an array whose rows look like that
  abbrev pub Row : Ty → Shape → Datum → Type 0
  Row t row d = D t d × Like row d

  abbrev pub Rows_fit : Ty → Rows → Type 0
  Rows_fit t r = Every (Row t r.0) r.1

  pub of_rows : (t : Ty) (row : Shape) (ds : List Datum) → Every (Row t row) ds → D (array_ty t) (Array_datum row (datums ds))
  unfolding Fits
  of_rows t row ds e = every_datums (Row t row) ds e

  pub rows_fit : (t : Ty) (d : Datum) → D (array_ty t) d → HasOut (Rows_fit t) (rows_of d)
  rows_fit t d h = let v = array_view N are T M budget total tops K t d h in subst (λ z. HasOut (Rows_fit t) (rows_of z)) (sym v.2) (every_listed (Row t v.0) v.1 v.3)

  pub row_data : (t : Ty) (row : Shape) (ds : List Datum) → Every (Row t row) ds → Every (D t) ds
  row_data t row ds e = every_as (Row t row) (D t) ds (λ d p. p.0) e

  -- rows that look like the first
  all_look : (t : Ty) → HasKind K kind.Data t → (d : Datum) → D t d → (ds : List Datum) → Every (D t) ds → all_like (shape_of d) ds ≡ true → Every (Row t (shape_of d)) ds
  all_look t k d h [] e l = tt
  all_look t k d h (x ∷ xs) e l =
      let q = both_are (same_sizes (shape_of d) (shape_of x)) (all_like (shape_of d) xs) l in
      ((e.0, same_like N are T M budget total tops K t k (shape_of d) (shape_of x) d x h e.0 (self_like N are T M budget total tops K t d k h) (self_like N are T M budget total tops K t x k e.0) q.0), all_look t k d h xs e.1 q.1)

  rows_look : (t : Ty) → HasKind K kind.Data t → (otherwise : Shape) (ds : List Datum) → Every (D t) ds → all_like (row_shape otherwise ds) ds ≡ true → Every (Row t (row_shape otherwise ds)) ds
  rows_look t k otherwise [] e l = tt
  rows_look t k otherwise (d ∷ ds) e l = all_look t k d e.0 (d ∷ ds) e l

  -- an array of rows that look alike
  pub rows_made : (t : Ty) (at : Place) (row : Shape) (ds : List Datum) → Every (Row t row) ds → HasOut (D (array_ty t)) (array_of at row ds)
  rows_made t at row ds e = has_checked (D (array_ty t)) (nat_le (weight (shape_of (Array_datum row (datums ds)))) most_words) fail.TooLarge at _ (λ w. of_rows t row ds e)

  -- an array of data of a type
  pub array_made : (t : Ty) → HasKind K kind.Data t → (at : Place) (told : Shape) (ds : List Datum) → Every (D t) ds → HasOut (D (array_ty t)) (array false at told ds)
  unfolding array
  array_made t k at told ds e = has_fitting (D (array_ty t)) (all_like (row_shape told ds) ds) at _ (λ l. rows_made t at (row_shape told ds) ds (rows_look t k told ds e l))

  -- ---- scalars

  abbrev pub Any : {A : Type 0} → A → Type 0
  Any a = Unit {0}

  pub integer_exact : (i : IntType) (d : Datum) → D (scalar_ty (types.Int i)) d → HasOut Any (exact_of d)
  unfolding Fits
  integer_exact i (Scalar_datum (scalar.Int u n)) h = tt
  integer_exact i (Scalar_datum (scalar.Bool b)) h = absurd h
  integer_exact i (Tuple_datum ds) h = absurd h
  integer_exact i (Record_datum fs) h = absurd h
  integer_exact i (Array_datum row ds) h = absurd h

  pub truth_exact : (d : Datum) → D bool_ty d → HasOut Any (truth_of_datum d)
  unfolding Fits
  truth_exact (Scalar_datum (scalar.Bool b)) h = tt
  truth_exact (Scalar_datum (scalar.Int u n)) h = absurd h
  truth_exact (Tuple_datum ds) h = absurd h
  truth_exact (Record_datum fs) h = absurd h
  truth_exact (Array_datum row ds) h = absurd h

  pub number_fits : (i : IntType) (n : ℕ) → D (scalar_ty (types.Int i)) (Scalar_datum (scalar.Int i n))
  unfolding Fits
  number_fits i n = refl

  pub truth_fits : (b : Bool) → D bool_ty (Scalar_datum (scalar.Bool b))
  unfolding Fits
  truth_fits b = tt

  pub array_kind : (t : Ty) → HasKind K kind.Data t → HasKind K kind.Data (array_ty t)
  unfolding rank least
  array_kind t k = omega (arith, k)
